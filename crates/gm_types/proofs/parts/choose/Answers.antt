use Rattle.std.proofs.lemmas.Result.{IfOk-from_err}
use Rattle.gm_types.proofs.parts.choose.Goals as goal

pub returns-in_err-test : goal.returns-in_err-test
returns-in_err-test c = IfOk-from_err _ _ c.from_residual.ensures.0

pub returns-in_err-yes : goal.returns-in_err-yes
returns-in_err-yes c = IfOk-from_err _ _ c.from_residual-in_err-yes.ensures.0

pub returns-in_err-no : goal.returns-in_err-no
returns-in_err-no c = IfOk-from_err _ _ c.from_residual-in_err-no.ensures.0
