use Rattle.std.proofs.Common.{◌≡◌, sym, subst}
use Rattle.std.specs.Prelude.{IfOk, OnOk}
use Rattle.gm_ast.specs.Tree.{program_of}
use Rattle.gm_forms.specs.Meanings.{SameMeaning}
use Rattle.gm_forms.specs.Ready.{Ready2}
use Rattle.gm_dissect.proofs.Trees.{finished, ok-then}
use Rattle.gm_locals.specs.AllGroups.{with_groups_kept}
use Rattle.gm_locals.proofs.AllGroupsLaws.{groups-ready, groups-same}
use Rattle.gm_locals.proofs.locals.locals_out.Goals as goal

pub returns-clause-made : goal.returns-clause-made
returns-clause-made c =
    let p = program_of c.args.program in
    let tree = c.keep_all-outcome.new.tree in
    let changed : OnOk c.keep_all-outcome.result (program_of tree ≡ with_groups_kept p) = subst (λ t. OnOk c.keep_all-outcome.result (program_of tree ≡ with_groups_kept (program_of t))) c.into_tree-tree.ensures c.keep_all-outcome.ensures in
    finished c.finish.result c.keep_all-outcome.result tree (λ t. program_of t ≡ with_groups_kept p) c.finish.ensures.tree c.finish.ensures.changed changed

pub returns-clause-same : goal.returns-clause-same
returns-clause-same c =
    let p = program_of c.args.program in
    let made : IfOk c.finish.result (λ r. program_of r ≡ with_groups_kept p) = returns-clause-made c in
    ok-then c.finish.result made (λ r same ready. subst (SameMeaning p) (sym same) (groups-same p ready))

pub returns-clause-ready : goal.returns-clause-ready
returns-clause-ready c =
    let p = program_of c.args.program in
    let made : IfOk c.finish.result (λ r. program_of r ≡ with_groups_kept p) = returns-clause-made c in
    ok-then c.finish.result made (λ r same ready. subst Ready2 (sym same) (groups-ready p ready))
