use Rattle.std.proofs.lemmas.Result.{IfOk-from_err}
use Rattle.gm_types.proofs.parts.taken.Goals as goal

pub returns-in_err-inner-in-Of-I64-Of-I32-clause-part : goal.returns-in_err-inner-in-Of-I64-Of-I32-clause-part
returns-in_err-inner-in-Of-I64-Of-I32-clause-part c = IfOk-from_err _ _ c.from_residual.ensures.0

pub returns-in_err-inner-in-Of-I64-Of-I32-clause-least : goal.returns-in_err-inner-in-Of-I64-Of-I32-clause-least
returns-in_err-inner-in-Of-I64-Of-I32-clause-least c = IfOk-from_err _ _ c.from_residual.ensures.0
