use Rattle.std.proofs.lemmas.Result.{IfOk-from_err}
use Rattle.gm_types.proofs.parts.connected.Goals as goal

pub returns-in_err-left : goal.returns-in_err-left
returns-in_err-left c = IfOk-from_err _ _ c.from_residual.ensures.0

pub returns-in_err-right : goal.returns-in_err-right
returns-in_err-right c = IfOk-from_err _ _ c.from_residual-in_err-right.ensures.0
