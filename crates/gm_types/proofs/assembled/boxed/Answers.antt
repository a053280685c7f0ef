use Rattle.std.proofs.lemmas.Result.{IfOk-from_err}
use Rattle.gm_types.proofs.assembled.boxed.Goals as goal

pub returns-in_err-stmt-in-Some : goal.returns-in_err-stmt-in-Some
returns-in_err-stmt-in-Some c = IfOk-from_err _ _ c.from_residual.ensures.0
