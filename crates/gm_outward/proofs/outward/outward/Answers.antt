use Rattle.std.proofs.Common.{◌≡◌, sym, subst}
use Rattle.std.specs.Prelude.{IfOk, OnOk}
use Rattle.gm_ast.specs.Tree.{program_of}
use Rattle.gm_forms.specs.Passes.{Passes}
use Rattle.gm_forms.specs.Ready.{Ready4}
use Rattle.gm_outward.specs.Outward.{outward}
use Rattle.gm_outward.proofs.Phases.{same-outward, ready-outward}
use Rattle.gm_flip.proofs.Trees.{finished, ok-then}
use Rattle.gm_outward.proofs.outward.outward.Goals as goal

pub returns-clause-made : goal.returns-clause-made
returns-clause-made c =
    let p = program_of c.args.program in
    let tree = c.ask_tree-outcome.new.tree in
    let changed : OnOk c.ask_tree-outcome.result (program_of tree ≡ outward p) = subst (λ t. OnOk c.ask_tree-outcome.result (program_of tree ≡ outward (program_of t))) c.into_tree-tree.ensures c.ask_tree-outcome.ensures in
    finished c.finish.result c.ask_tree-outcome.result tree (λ t. program_of t ≡ outward p) c.finish.ensures.tree c.finish.ensures.changed changed

pub returns-clause-passes : goal.returns-clause-passes
returns-clause-passes c =
    let p = program_of c.args.program in
    let made : IfOk c.finish.result (λ r. program_of r ≡ outward p) = returns-clause-made c in
    ok-then c.finish.result made (λ r same ready. subst (Passes Ready4 p) (sym same) (record { ready = ready-outward p ready; same = same-outward p ready }))
