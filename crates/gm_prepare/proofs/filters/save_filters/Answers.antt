use Rattle.std.proofs.Common.{◌≡◌, true, sym, subst}
use Rattle.std.specs.Prelude.{IfOk, OnOk}
use Rattle.gm_ast.specs.Tree.{program_of}
use Rattle.gm_forms.specs.Meanings.{SameMeaning}
use Rattle.gm_forms.specs.Ready.{Ready2}
use Rattle.gm_dissect.specs.AllDeferred.{has_no_deferred}
use Rattle.gm_dissect.proofs.Trees.{finished, ok-then}
use Rattle.gm_parting.specs.Filters.{with_saved_filters}
use Rattle.gm_parting.specs.Lasting.{has_lasting_filters}
use Rattle.gm_parting.proofs.FilterLaws.{same-saved, ready-saved, filters-saved, none-saved}
use Rattle.gm_prepare.proofs.filters.save_filters.Goals as goal

pub returns-clause-made : goal.returns-clause-made
returns-clause-made c =
    let p = program_of c.args.program in
    let tree = c.save_all-outcome.new.tree in
    let changed : OnOk c.save_all-outcome.result (program_of tree ≡ with_saved_filters p) = subst (λ t. OnOk c.save_all-outcome.result (program_of tree ≡ with_saved_filters (program_of t))) c.into_tree-tree.ensures c.save_all-outcome.ensures in
    finished c.finish.result c.save_all-outcome.result tree (λ t. program_of t ≡ with_saved_filters p) c.finish.ensures.tree c.finish.ensures.changed changed

pub returns-clause-same : goal.returns-clause-same
returns-clause-same c =
    let p = program_of c.args.program in
    let made : IfOk c.finish.result (λ r. program_of r ≡ with_saved_filters p) = returns-clause-made c in
    ok-then c.finish.result made (λ r same ready none. subst (SameMeaning p) (sym same) (same-saved p ready none))

pub returns-clause-ready : goal.returns-clause-ready
returns-clause-ready c =
    let p = program_of c.args.program in
    let made : IfOk c.finish.result (λ r. program_of r ≡ with_saved_filters p) = returns-clause-made c in
    ok-then c.finish.result made (λ r same ready. subst Ready2 (sym same) (ready-saved p ready))

pub returns-clause-saved : goal.returns-clause-saved
returns-clause-saved c =
    let p = program_of c.args.program in
    let made : IfOk c.finish.result (λ r. program_of r ≡ with_saved_filters p) = returns-clause-made c in
    ok-then c.finish.result made (λ r same ready. subst (λ q. has_lasting_filters q ≡ true) (sym same) (filters-saved p ready))

pub returns-clause-none : goal.returns-clause-none
returns-clause-none c =
    let p = program_of c.args.program in
    let made : IfOk c.finish.result (λ r. program_of r ≡ with_saved_filters p) = returns-clause-made c in
    ok-then c.finish.result made (λ r same ready none. subst (λ q. has_no_deferred q ≡ true) (sym same) (none-saved p ready none))
