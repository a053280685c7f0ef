use Rattle.std.proofs.lemmas.Result.{IfOk-from_err}
use Rattle.gm_types.proofs.names.Checker.add.Goals as goal

pub returns-in_err-extend_from_slice-clause-index : goal.returns-in_err-extend_from_slice-clause-index
returns-in_err-extend_from_slice-clause-index c = IfOk-from_err _ _ c.from_residual.ensures.0

pub returns-in_err-extend_from_slice-clause-row : goal.returns-in_err-extend_from_slice-clause-row
returns-in_err-extend_from_slice-clause-row c = IfOk-from_err _ _ c.from_residual.ensures.0

pub returns-in_err-extend_from_slice-clause-rest : goal.returns-in_err-extend_from_slice-clause-rest
returns-in_err-extend_from_slice-clause-rest c = IfOk-from_err _ _ c.from_residual.ensures.0

pub returns-in_err-push-clause-index : goal.returns-in_err-push-clause-index
returns-in_err-push-clause-index c = IfOk-from_err _ _ c.from_residual-in_err-push.ensures.0

pub returns-in_err-push-clause-row : goal.returns-in_err-push-clause-row
returns-in_err-push-clause-row c = IfOk-from_err _ _ c.from_residual-in_err-push.ensures.0

pub returns-in_err-push-clause-rest : goal.returns-in_err-push-clause-rest
returns-in_err-push-clause-rest c = IfOk-from_err _ _ c.from_residual-in_err-push.ensures.0
