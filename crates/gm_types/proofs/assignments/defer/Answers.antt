use Rattle.gm_base.specs.declared.rules.Rule.TheVariants.{T9}
use Rattle.gm_ast.specs.Program as Program
use Rattle.gm_ast.specs.Tree.{expr_of}
use Rattle.gm_ast.specs.Statements.{fits_goal}
use Rattle.gm_types.specs.Parts.{part_of}
use Rattle.gm_types.proofs.Assigned.{stmt_of-Defer}
use Rattle.gm_types.proofs.Answered.{ok_then, errs_then}
use Rattle.std.proofs.lemmas.Result.{IfOk-from_err}
use Rattle.std.proofs.Common.{ap, sym, ◌∙◌}
use Rattle.gm_base.specs.Rules.{least_from}
use Rattle.gm_types.proofs.Pairs.{none_then}
use Rattle.gm_types.proofs.assignments.defer.Goals as goal

pub returns-in-Some-2-clause-part : goal.returns-in-Some-2-clause-part
returns-in-Some-2-clause-part c =
    rw (c.in-Some.is, c.in-Some-part.is, stmt_of-Defer)
    (ok_then (fits_goal c.in-Some.goal.wanted T9 c.args.place (part_of c.in-Some-part.part)) (Program.Defer c.args.key c.in-Some.goal.target) (expr_of c.in-Some-2.value)
    (rw c.in-Some-2.is at c.in_ok-fits_goal-in-Some-part.ensures.part))

pub returns-in_err-fits_goal-in-Some-part-clause-part : goal.returns-in_err-fits_goal-in-Some-part-clause-part
returns-in_err-fits_goal-in-Some-part-clause-part c = IfOk-from_err _ _ c.from_residual.ensures.0

pub returns-in_err-fits_goal-in-Some-part-clause-least : goal.returns-in_err-fits_goal-in-Some-part-clause-least
returns-in_err-fits_goal-in-Some-part-clause-least c = IfOk-from_err _ _ c.from_residual.ensures.0

pub returns-in-None-clause-part : goal.returns-in-None-clause-part
returns-in-None-clause-part c = rw c.in-None.is

pub returns-in-None-clause-least : goal.returns-in-None-clause-least
returns-in-None-clause-least c = rw c.in-None.is

pub returns-in-None-part-clause-part : goal.returns-in-None-part-clause-part
returns-in-None-part-clause-part c = rw (c.in-Some.is, c.in-None-part.is)

pub returns-in-None-part-clause-least : goal.returns-in-None-part-clause-least
returns-in-None-part-clause-least c = rw (c.in-Some.is, c.in-None-part.is)

pub returns-in-None-2-clause-part : goal.returns-in-None-2-clause-part
returns-in-None-2-clause-part c =
    rw (c.in-Some.is, c.in-Some-part.is)
    (none_then (fits_goal c.in-Some.goal.wanted T9 c.args.place (part_of c.in-Some-part.part)) (Program.Defer c.args.key c.in-Some.goal.target) (rw c.in-None-2.is at c.in_ok-fits_goal-in-Some-part.ensures.part))

pub returns-in-None-2-clause-least : goal.returns-in-None-2-clause-least
returns-in-None-2-clause-least c =
    rw (c.in-Some.is, c.in-Some-part.is)
    (c.in_ok-fits_goal-in-Some-part.ensures.least ∙ ap (least_from c.args.least.now) (sym (errs_then (fits_goal c.in-Some.goal.wanted T9 c.args.place (part_of c.in-Some-part.part)) (Program.Defer c.args.key c.in-Some.goal.target))))

pub returns-in-Some-2-clause-least : goal.returns-in-Some-2-clause-least
returns-in-Some-2-clause-least c =
    rw (c.in-Some.is, c.in-Some-part.is)
    (c.in_ok-fits_goal-in-Some-part.ensures.least ∙ ap (least_from c.args.least.now) (sym (errs_then (fits_goal c.in-Some.goal.wanted T9 c.args.place (part_of c.in-Some-part.part)) (Program.Defer c.args.key c.in-Some.goal.target))))
