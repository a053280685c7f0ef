use Rattle.std.proofs.Common.{◌≡◌, true, sym, subst}
use Rattle.std.specs.Prelude.{IfOk, OnOk}
use Rattle.gm_ast.specs.Tree.{program_of}
use Rattle.gm_forms.specs.Meanings.{SameMeaning}
use Rattle.gm_forms.specs.Ready.{Ready2}
use Rattle.gm_dissect.specs.AllDeferred.{has_no_deferred, without_deferred}
use Rattle.gm_dissect.proofs.AllDeferred.{none-deferred, ready-all, same-all}
use Rattle.gm_dissect.proofs.Trees.{finished, ok-then}
use Rattle.gm_dissect.proofs.all_deferred.deferred_out.Goals as goal

pub returns-clause-made : goal.returns-clause-made
returns-clause-made c =
    let p = program_of c.args.program in
    let tree = c.move_all_out-outcome.new.tree in
    let changed : OnOk c.move_all_out-outcome.result (program_of tree ≡ without_deferred p) = subst (λ t. OnOk c.move_all_out-outcome.result (program_of tree ≡ without_deferred (program_of t))) c.into_tree-tree.ensures c.move_all_out-outcome.ensures in
    finished c.finish.result c.move_all_out-outcome.result tree (λ t. program_of t ≡ without_deferred p) c.finish.ensures.tree c.finish.ensures.changed changed

pub returns-clause-same : goal.returns-clause-same
returns-clause-same c =
    let p = program_of c.args.program in
    let made : IfOk c.finish.result (λ r. program_of r ≡ without_deferred p) = returns-clause-made c in
    ok-then c.finish.result made (λ r same ready. subst (SameMeaning p) (sym same) (same-all p ready))

pub returns-clause-ready : goal.returns-clause-ready
returns-clause-ready c =
    let p = program_of c.args.program in
    let made : IfOk c.finish.result (λ r. program_of r ≡ without_deferred p) = returns-clause-made c in
    ok-then c.finish.result made (λ r same ready. subst Ready2 (sym same) (ready-all p ready))

pub returns-clause-none : goal.returns-clause-none
returns-clause-none c =
    let p = program_of c.args.program in
    let made : IfOk c.finish.result (λ r. program_of r ≡ without_deferred p) = returns-clause-made c in
    ok-then c.finish.result made (λ r same. subst (λ q. has_no_deferred q ≡ true) (sym same) (none-deferred p))
