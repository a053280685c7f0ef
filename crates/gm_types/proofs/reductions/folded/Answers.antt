use Rattle.std.proofs.lemmas.Result.{IfOk-from_err}
use Rattle.gm_types.proofs.reductions.folded.Goals as goal

pub returns-in_err-filter : goal.returns-in_err-filter
returns-in_err-filter c = IfOk-from_err _ _ c.from_residual.ensures.0

pub returns-in_err-body : goal.returns-in_err-body
returns-in_err-body c = IfOk-from_err _ _ c.from_residual-in_err-body.ensures.0
