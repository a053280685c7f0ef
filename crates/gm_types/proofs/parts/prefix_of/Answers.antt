use Rattle.std.proofs.lemmas.Result.{IfOk-from_err}
use Rattle.gm_types.proofs.parts.prefix_of.Goals as goal

pub returns-in_err-inner-in-Minus-clause-part : goal.returns-in_err-inner-in-Minus-clause-part
returns-in_err-inner-in-Minus-clause-part c = IfOk-from_err _ _ c.from_residual.ensures.0

pub returns-in_err-inner-in-Minus-clause-least : goal.returns-in_err-inner-in-Minus-clause-least
returns-in_err-inner-in-Minus-clause-least c = IfOk-from_err _ _ c.from_residual.ensures.0

pub returns-in_err-inner-in-Not-clause-part : goal.returns-in_err-inner-in-Not-clause-part
returns-in_err-inner-in-Not-clause-part c = IfOk-from_err _ _ c.from_residual-in_err-inner-in-Not.ensures.0

pub returns-in_err-inner-in-Not-clause-least : goal.returns-in_err-inner-in-Not-clause-least
returns-in_err-inner-in-Not-clause-least c = IfOk-from_err _ _ c.from_residual-in_err-inner-in-Not.ensures.0

pub returns-in_err-number-in-Cast-clause-part : goal.returns-in_err-number-in-Cast-clause-part
returns-in_err-number-in-Cast-clause-part c = IfOk-from_err _ _ c.from_residual-in_err-number-in-Cast.ensures.0

pub returns-in_err-number-in-Cast-clause-least : goal.returns-in_err-number-in-Cast-clause-least
returns-in_err-number-in-Cast-clause-least c = IfOk-from_err _ _ c.from_residual-in_err-number-in-Cast.ensures.0

pub returns-in_err-changed-in-Cast-clause-part : goal.returns-in_err-changed-in-Cast-clause-part
returns-in_err-changed-in-Cast-clause-part c = IfOk-from_err _ _ c.from_residual-in_err-changed-in-Cast.ensures.0

pub returns-in_err-changed-in-Cast-clause-least : goal.returns-in_err-changed-in-Cast-clause-least
returns-in_err-changed-in-Cast-clause-least c = IfOk-from_err _ _ c.from_residual-in_err-changed-in-Cast.ensures.0
