use Rattle.std.proofs.lemmas.Result.{IfOk-from_err}
use Rattle.gm_types.proofs.names.Checker.filter.Goals as goal

pub returns-in_err-test-in-Some : goal.returns-in_err-test-in-Some
returns-in_err-test-in-Some c = IfOk-from_err _ _ c.from_residual.ensures.0
