use Rattle.std.proofs.lemmas.Result.{IfOk-from_err}
use Rattle.gm_types.proofs.lists.combined_of.Goals as goal

pub returns-in_err-targets-clause-part : goal.returns-in_err-targets-clause-part
returns-in_err-targets-clause-part c = IfOk-from_err _ _ c.from_residual.ensures.0

pub returns-in_err-targets-clause-least : goal.returns-in_err-targets-clause-least
returns-in_err-targets-clause-least c = IfOk-from_err _ _ c.from_residual.ensures.0

pub returns-in_err-fits_each-clause-part : goal.returns-in_err-fits_each-clause-part
returns-in_err-fits_each-clause-part c = IfOk-from_err _ _ c.from_residual-in_err-fits_each.ensures.0

pub returns-in_err-fits_each-clause-least : goal.returns-in_err-fits_each-clause-least
returns-in_err-fits_each-clause-least c = IfOk-from_err _ _ c.from_residual-in_err-fits_each.ensures.0
