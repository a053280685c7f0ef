use Rattle.std.proofs.lemmas.Result.{IfOk-from_err}
use Rattle.gm_types.proofs.names.Checker.declare.Goals as goal

pub returns-in_err-index-clause-index : goal.returns-in_err-index-clause-index
returns-in_err-index-clause-index c = IfOk-from_err _ _ c.from_residual.ensures.0

pub returns-in_err-index-clause-declares : goal.returns-in_err-index-clause-declares
returns-in_err-index-clause-declares c = IfOk-from_err _ _ c.from_residual.ensures.0

pub returns-in_err-add-clause-index : goal.returns-in_err-add-clause-index
returns-in_err-add-clause-index c = IfOk-from_err _ _ c.from_residual-in_err-add.ensures.0

pub returns-in_err-add-clause-declares : goal.returns-in_err-add-clause-declares
returns-in_err-add-clause-declares c = IfOk-from_err _ _ c.from_residual-in_err-add.ensures.0
