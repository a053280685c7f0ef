use Rattle.std.proofs.lemmas.Result.{IfOk-from_err}
use Rattle.gm_types.proofs.names.Checker.declare_with.Goals as goal

pub returns-in_err-declared-in-Some : goal.returns-in_err-declared-in-Some
returns-in_err-declared-in-Some c = IfOk-from_err _ _ c.from_residual.ensures.0

pub returns-in_err-declared-in-None : goal.returns-in_err-declared-in-None
returns-in_err-declared-in-None c = IfOk-from_err _ _ c.from_residual-in_err-declared-in-None.ensures.0
