use Rattle.std.specs.Prelude.{Some}
use Rattle.gm_base.specs.declared.rules.Rule.TheVariants.{T14}
use Rattle.gm_ast.specs.Program as Program
use Rattle.gm_ast.specs.Tree.{expr_of}
use Rattle.gm_ast.specs.Statements.{fits_goal}
use Rattle.gm_types.specs.Parts.{part_of}
use Rattle.gm_types.proofs.Assigned.{stmt_of-Return, returned-fits}
use Rattle.gm_types.proofs.Answered.{ok_then}
use Rattle.std.proofs.lemmas.Result.{IfOk-from_err}
use Rattle.gm_types.proofs.Pairs.{none_then}
use Rattle.gm_types.proofs.assignments.give_back.Goals as goal

pub returns-in-Some-2-clause-part : goal.returns-in-Some-2-clause-part
returns-in-Some-2-clause-part c =
    rw (c.in-Some.is, stmt_of-Return, returned-fits)
    (ok_then (fits_goal c.args.wanted T14 c.args.place (part_of c.in-Some.part)) (λ e. Program.Return c.args.key c.args.place (Some e)) (expr_of c.in-Some-2.value)
    (rw c.in-Some-2.is at c.in_ok-fits_goal-in-Some.ensures.part))

pub returns-in_err-fits_goal-in-Some-clause-part : goal.returns-in_err-fits_goal-in-Some-clause-part
returns-in_err-fits_goal-in-Some-clause-part c = IfOk-from_err _ _ c.from_residual.ensures.0

pub returns-in_err-fits_goal-in-Some-clause-least : goal.returns-in_err-fits_goal-in-Some-clause-least
returns-in_err-fits_goal-in-Some-clause-least c = IfOk-from_err _ _ c.from_residual.ensures.0

pub returns-in-None-clause-part : goal.returns-in-None-clause-part
returns-in-None-clause-part c = rw c.in-None.is

pub returns-in-None-clause-least : goal.returns-in-None-clause-least
returns-in-None-clause-least c = rw c.in-None.is

pub returns-in-None-2-clause-part : goal.returns-in-None-2-clause-part
returns-in-None-2-clause-part c =
    rw (c.in-Some.is, returned-fits)
    (none_then (fits_goal c.args.wanted T14 c.args.place (part_of c.in-Some.part)) _ (rw c.in-None-2.is at c.in_ok-fits_goal-in-Some.ensures.part))
