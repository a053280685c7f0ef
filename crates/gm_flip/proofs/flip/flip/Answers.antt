use Rattle.std.proofs.Common.{◌≡◌, sym, subst}
use Rattle.std.specs.Prelude.{IfOk, OnOk}
use Rattle.gm_ast.specs.Tree.{program_of}
use Rattle.gm_forms.specs.Passes.{Passes}
use Rattle.gm_forms.specs.Ready.{Ready4}
use Rattle.gm_flip.specs.Flipped.{without_pulls}
use Rattle.gm_flip.proofs.Phases.{same-without_pulls, ready-without_pulls}
use Rattle.gm_flip.proofs.Trees.{finished, ok-then}
use Rattle.gm_flip.proofs.flip.flip.Goals as goal

pub returns-clause-made : goal.returns-clause-made
returns-clause-made c =
    let p = program_of c.args.program in
    let tree = c.flip_tree-outcome.new.tree in
    let changed : OnOk c.flip_tree-outcome.result (program_of tree ≡ without_pulls p) = subst (λ t. OnOk c.flip_tree-outcome.result (program_of tree ≡ without_pulls (program_of t))) c.into_tree-tree.ensures c.flip_tree-outcome.ensures in
    finished c.finish.result c.flip_tree-outcome.result tree (λ t. program_of t ≡ without_pulls p) c.finish.ensures.tree c.finish.ensures.changed changed

pub returns-clause-passes : goal.returns-clause-passes
returns-clause-passes c =
    let p = program_of c.args.program in
    let made : IfOk c.finish.result (λ r. program_of r ≡ without_pulls p) = returns-clause-made c in
    ok-then c.finish.result made (λ r same ready. subst (Passes Ready4 p) (sym same) (record { ready = ready-without_pulls p ready; same = same-without_pulls p ready }))
