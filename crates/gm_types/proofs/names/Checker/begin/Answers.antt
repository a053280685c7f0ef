use Rattle.std.proofs.lemmas.Result.{IfOk-from_err}
use Rattle.gm_types.proofs.names.Checker.begin.Goals as goal

pub returns-in_err-take_numbers-clause-around : goal.returns-in_err-take_numbers-clause-around
returns-in_err-take_numbers-clause-around c = IfOk-from_err _ _ c.from_residual.ensures.0

pub returns-in_err-take_numbers-clause-begun : goal.returns-in_err-take_numbers-clause-begun
returns-in_err-take_numbers-clause-begun c = IfOk-from_err _ _ c.from_residual.ensures.0
