use Rattle.std.proofs.lemmas.Result.{IfOk-from_err}
use Rattle.gm_types.proofs.reductions.of_conditions.Goals as goal

pub returns-in_err-part-clause-part : goal.returns-in_err-part-clause-part
returns-in_err-part-clause-part c = IfOk-from_err _ _ c.from_residual.ensures.0

pub returns-in_err-part-clause-least : goal.returns-in_err-part-clause-least
returns-in_err-part-clause-least c = IfOk-from_err _ _ c.from_residual.ensures.0
