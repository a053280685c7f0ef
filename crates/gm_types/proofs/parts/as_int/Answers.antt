use Rattle.std.proofs.lemmas.Result.{IfOk-from_err}
use Rattle.gm_types.proofs.parts.as_int.Goals as goal

pub returns-in_err-core-clause-part : goal.returns-in_err-core-clause-part
returns-in_err-core-clause-part c = IfOk-from_err _ _ c.from_residual.ensures.0

pub returns-in_err-core-clause-least : goal.returns-in_err-core-clause-least
returns-in_err-core-clause-least c = IfOk-from_err _ _ c.from_residual.ensures.0
