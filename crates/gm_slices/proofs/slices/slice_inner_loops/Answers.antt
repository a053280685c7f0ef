use Rattle.std.proofs.Common.{◌≡◌, sym, subst, ap, ◌∙◌}
use Rattle.std.specs.Prelude.{IfOk, OnOk}
use Rattle.gm_ast.specs.Tree.{program_of}
use Rattle.gm_dissect.proofs.Trees.{finished, ok-then}
use Rattle.gm_forms.specs.Meanings.{SameMeaning}
use Rattle.gm_forms.specs.Ready.{Ready3}
use Rattle.gm_cut.specs.Lean.{in_lean_slices}
use Rattle.gm_cut.proofs.LeanLaws.{ready-lean, same-lean}
use Rattle.gm_slices.specs.OneWay.{has_loops_of_one_way}
use Rattle.gm_slices.proofs.OneWay.{slices-seen}
use Rattle.gm_slices.proofs.slices.slice_inner_loops.Goals as goal

pub returns-clause-made : goal.returns-clause-made
returns-clause-made c =
    let p = program_of c.args.program in
    let tree = c.slice_tree-outcome.new.tree in
    let changed : OnOk c.slice_tree-outcome.result (program_of tree ≡ in_lean_slices p) = subst (λ t. OnOk c.slice_tree-outcome.result (program_of tree ≡ in_lean_slices (program_of t))) c.into_tree-tree.ensures c.slice_tree-outcome.ensures in
    finished c.finish.result c.slice_tree-outcome.result tree (λ t. program_of t ≡ in_lean_slices p) c.finish.ensures.tree c.finish.ensures.changed changed

pub returns-clause-same : goal.returns-clause-same
returns-clause-same c =
    let p = program_of c.args.program in
    let made : IfOk c.finish.result (λ r. program_of r ≡ in_lean_slices p) = returns-clause-made c in
    ok-then c.finish.result made (λ r same cut asks. subst (SameMeaning p) (sym same) (same-lean p cut asks))

pub returns-clause-ready : goal.returns-clause-ready
returns-clause-ready c =
    let p = program_of c.args.program in
    let made : IfOk c.finish.result (λ r. program_of r ≡ in_lean_slices p) = returns-clause-made c in
    ok-then c.finish.result made (λ r same cut asks. subst Ready3 (sym same) (ready-lean p cut asks))

pub returns-clause-ways : goal.returns-clause-ways
returns-clause-ways c =
    let p = program_of c.args.program in
    let made : IfOk c.finish.result (λ r. program_of r ≡ in_lean_slices p) = returns-clause-made c in
    ok-then c.finish.result made (λ r same. ap has_loops_of_one_way same ∙ slices-seen p)
