use Rattle.std.proofs.lemmas.Result.{IfOk-from_err}
use Rattle.gm_types.proofs.names.Checker.grouped_value.Goals as goal

pub returns-in_err-part : goal.returns-in_err-part
returns-in_err-part c = IfOk-from_err _ _ c.from_residual.ensures.0
