use Rattle.std.proofs.Common.{◌≡◌, ◌∙◌, ap}
use Rattle.gm_model.specs.declared.outcomes.Outcome.{Outcome}
use Rattle.gm_ast.specs.declared.tree.Tree.{Tree}
use Rattle.gm_ast.specs.Tree.{program_of}
use Rattle.gm_semantics.specs.Outcomes.{mean}
use Rattle.gm_meaning.proofs.Going.{if-ok}
use Rattle.gm_meaning.proofs.evaluations.evaluate.Goals as goal

pub returns : goal.returns
returns c =
    let g = c.args.graph.now in
    let args = c.args.args.now in
    if-ok c.evaluate_tree.result (λ (o : Outcome). o ≡ mean (program_of c.tree-tree.result.now) g args c.args.turns) (λ (o : Outcome). o ≡ mean (program_of c.args.program.now) g args c.args.turns)
    (λ o h. h ∙ ap (λ (t : Tree). mean (program_of t) g args c.args.turns) c.tree-tree.ensures)
    c.evaluate_tree.ensures
