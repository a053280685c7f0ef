use Rattle.std.proofs.lemmas.Result.{IfOk-from_err}
use Rattle.gm_types.proofs.names.Checker.enter.Goals as goal

pub returns-in_err-index-clause-index : goal.returns-in_err-index-clause-index
returns-in_err-index-clause-index c = IfOk-from_err _ _ c.from_residual.ensures.0

pub returns-in_err-index-clause-enters : goal.returns-in_err-index-clause-enters
returns-in_err-index-clause-enters c = IfOk-from_err _ _ c.from_residual.ensures.0

pub returns-in_err-push-clause-index : goal.returns-in_err-push-clause-index
returns-in_err-push-clause-index c = IfOk-from_err _ _ c.from_residual-in_err-push.ensures.0

pub returns-in_err-push-clause-enters : goal.returns-in_err-push-clause-enters
returns-in_err-push-clause-enters c = IfOk-from_err _ _ c.from_residual-in_err-push.ensures.0
