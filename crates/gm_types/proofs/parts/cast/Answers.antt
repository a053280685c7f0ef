use Rattle.std.proofs.lemmas.Result.{IfOk-from_err}
use Rattle.gm_types.proofs.parts.cast.Goals as goal

pub returns-in_err-inner-in-I32 : goal.returns-in_err-inner-in-I32
returns-in_err-inner-in-I32 c = IfOk-from_err _ _ c.from_residual.ensures.0

pub returns-in_err-inner-in-I64 : goal.returns-in_err-inner-in-I64
returns-in_err-inner-in-I64 c = IfOk-from_err _ _ c.from_residual-in_err-inner-in-I64.ensures.0
