use Rattle.std.proofs.Common.{◌≡◌, sym, subst}
use Rattle.std.specs.Prelude.{IfOk, OnOk}
use Rattle.gm_ast.specs.Tree.{program_of}
use Rattle.gm_forms.specs.Meanings.{SameMeaning}
use Rattle.gm_desugar.proofs.Trees.{finished, ok-then}
use Rattle.gm_hoisting.specs.Hoisting.{without_inner_folds}
use Rattle.gm_hoisting.specs.Stages.{WithoutInnerFolds}
use Rattle.gm_hoisting.proofs.Kept.{kept}
use Rattle.gm_hoisting.proofs.Same.{same-without_inner_folds}
use Rattle.gm_hoisting.proofs.hoisting.inner_folds_out.Goals as goal

pub returns-clause-made : goal.returns-clause-made
returns-clause-made c =
    let p = program_of c.args.program in
    let tree = c.hoist_tree-outcome.new.tree in
    let changed : OnOk c.hoist_tree-outcome.result (program_of tree ≡ without_inner_folds p) =
    subst (λ t. OnOk c.hoist_tree-outcome.result (program_of tree ≡ without_inner_folds (program_of t))) c.into_tree-tree.ensures c.hoist_tree-outcome.ensures in
    finished c.finish.result c.hoist_tree-outcome.result tree (λ t. program_of t ≡ without_inner_folds p) c.finish.ensures.tree c.finish.ensures.changed changed

pub returns-clause-same : goal.returns-clause-same
returns-clause-same c =
    let p = program_of c.args.program in
    let made : IfOk c.finish.result (λ r. program_of r ≡ without_inner_folds p) = returns-clause-made c in
    ok-then c.finish.result made (λ r same named form order. subst (SameMeaning p) (sym same) (same-without_inner_folds p named form order))

pub returns-clause-ready : goal.returns-clause-ready
returns-clause-ready c =
    let p = program_of c.args.program in
    let made : IfOk c.finish.result (λ r. program_of r ≡ without_inner_folds p) = returns-clause-made c in
    ok-then c.finish.result made (λ r same ready. subst WithoutInnerFolds (sym same) (kept p ready))
