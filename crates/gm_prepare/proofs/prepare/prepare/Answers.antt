use Rattle.std.proofs.Common.{◌≡◌, ◌∙◌, ap, sym, subst}
use Rattle.std.specs.Prelude.{IfOk}
use Rattle.gm_ast.specs.Tree.{program_of}
use Rattle.gm_forms.specs.Meanings.{SameMeaning}
use Rattle.gm_forms.specs.Ready.{Ready2}
use Rattle.gm_dissect.specs.AllDeferred.{without_deferred}
use Rattle.gm_dissect.proofs.Trees.{ok-then}
use Rattle.gm_locals.specs.AllGroups.{with_groups_kept}
use Rattle.gm_parting.specs.Declared.{with_locals_declared}
use Rattle.gm_parting.specs.Filters.{with_saved_filters}
use Rattle.gm_parting.specs.Nodes.{with_nodes_read}
use Rattle.gm_parting.specs.Numbers.{with_conditions_apart}
use Rattle.gm_parting.specs.Passes.{prepared}
use Rattle.gm_parting.specs.Prepared.{IsPrepared}
use Rattle.gm_parting.proofs.Prepared.{prepared-same, prepared-ready, is-prepared}
use Rattle.gm_prepare.proofs.prepare.prepare.Goals as goal

pub returns-clause-made : goal.returns-clause-made
returns-clause-made c =
    ok-then c.locals_out.result c.locals_out.ensures.made
    (λ r e. e ∙ ap with_groups_kept (c.in_ok-read.ensures.made ∙ ap with_nodes_read (c.in_ok-asked.ensures.made ∙ ap with_conditions_apart (c.in_ok-filtered.ensures.made ∙ ap with_saved_filters (c.in_ok-at_once.ensures.made ∙ ap without_deferred (c.in_ok-named.ensures.made ∙ ap with_locals_declared c.in_ok-placed.ensures.made))))))

pub returns-clause-same : goal.returns-clause-same
returns-clause-same c =
    let p = program_of c.args.program in
    let made : IfOk c.locals_out.result (λ r. program_of r ≡ prepared p) = returns-clause-made c in
    ok-then c.locals_out.result made (λ r same ready. subst (SameMeaning p) (sym same) (prepared-same p ready))

pub returns-clause-ready : goal.returns-clause-ready
returns-clause-ready c =
    let p = program_of c.args.program in
    let made : IfOk c.locals_out.result (λ r. program_of r ≡ prepared p) = returns-clause-made c in
    ok-then c.locals_out.result made (λ r same ready. subst Ready2 (sym same) (prepared-ready p ready))

pub returns-clause-prepared : goal.returns-clause-prepared
returns-clause-prepared c =
    let p = program_of c.args.program in
    let made : IfOk c.locals_out.result (λ r. program_of r ≡ prepared p) = returns-clause-made c in
    ok-then c.locals_out.result made (λ r same ready may. subst IsPrepared (sym same) (is-prepared p ready may))
