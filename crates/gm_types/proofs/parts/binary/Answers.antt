use Rattle.std.proofs.lemmas.Result.{IfOk-from_err}
use Rattle.gm_types.proofs.parts.binary.Goals as goal

pub returns-in_err-paired-clause-part : goal.returns-in_err-paired-clause-part
returns-in_err-paired-clause-part c = IfOk-from_err _ _ c.from_residual.ensures.0

pub returns-in_err-paired-clause-least : goal.returns-in_err-paired-clause-least
returns-in_err-paired-clause-least c = IfOk-from_err _ _ c.from_residual.ensures.0

pub returns-in_err-left-in-Some-clause-part : goal.returns-in_err-left-in-Some-clause-part
returns-in_err-left-in-Some-clause-part c = IfOk-from_err _ _ c.from_residual-in_err-left-in-Some.ensures.0

pub returns-in_err-left-in-Some-clause-least : goal.returns-in_err-left-in-Some-clause-least
returns-in_err-left-in-Some-clause-least c = IfOk-from_err _ _ c.from_residual-in_err-left-in-Some.ensures.0

pub returns-in_err-right-in-Some-clause-part : goal.returns-in_err-right-in-Some-clause-part
returns-in_err-right-in-Some-clause-part c = IfOk-from_err _ _ c.from_residual-in_err-right-in-Some.ensures.0

pub returns-in_err-right-in-Some-clause-least : goal.returns-in_err-right-in-Some-clause-least
returns-in_err-right-in-Some-clause-least c = IfOk-from_err _ _ c.from_residual-in_err-right-in-Some.ensures.0
