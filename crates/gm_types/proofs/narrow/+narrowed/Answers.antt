use Rattle.std.proofs.lemmas.Result.{IfOk-from_err}
use Rattle.gm_types.proofs.narrow.+narrowed.Goals as goal

pub returns-in_err-changed-in-Unary : goal.returns-in_err-changed-in-Unary
returns-in_err-changed-in-Unary t c = IfOk-from_err _ _ c.from_residual.ensures.0

pub returns-in_err-inner-in-Unary : goal.returns-in_err-inner-in-Unary
returns-in_err-inner-in-Unary t c = IfOk-from_err _ _ c.from_residual-in_err-inner-in-Unary.ensures.0

pub returns-in_err-first-in-Binary : goal.returns-in_err-first-in-Binary
returns-in_err-first-in-Binary t c = IfOk-from_err _ _ c.from_residual-in_err-first-in-Binary.ensures.0

pub returns-in_err-second-in-Binary : goal.returns-in_err-second-in-Binary
returns-in_err-second-in-Binary t c = IfOk-from_err _ _ c.from_residual-in_err-second-in-Binary.ensures.0

pub returns-in_err-left-in-Binary : goal.returns-in_err-left-in-Binary
returns-in_err-left-in-Binary t c = IfOk-from_err _ _ c.from_residual-in_err-left-in-Binary.ensures.0

pub returns-in_err-right-in-Binary : goal.returns-in_err-right-in-Binary
returns-in_err-right-in-Binary t c = IfOk-from_err _ _ c.from_residual-in_err-right-in-Binary.ensures.0

pub returns-in_err-first-in-Choose : goal.returns-in_err-first-in-Choose
returns-in_err-first-in-Choose t c = IfOk-from_err _ _ c.from_residual-in_err-first-in-Choose.ensures.0

pub returns-in_err-second-in-Choose : goal.returns-in_err-second-in-Choose
returns-in_err-second-in-Choose t c = IfOk-from_err _ _ c.from_residual-in_err-second-in-Choose.ensures.0

pub returns-in_err-yes-in-Choose : goal.returns-in_err-yes-in-Choose
returns-in_err-yes-in-Choose t c = IfOk-from_err _ _ c.from_residual-in_err-yes-in-Choose.ensures.0

pub returns-in_err-no-in-Choose : goal.returns-in_err-no-in-Choose
returns-in_err-no-in-Choose t c = IfOk-from_err _ _ c.from_residual-in_err-no-in-Choose.ensures.0
