use Rattle.std.proofs.lemmas.Result.{IfOk-from_err}
use Rattle.gm_types.proofs.procedures.finished.Goals as goal

pub returns-in-Some-clause-accepted : goal.returns-in-Some-clause-accepted
returns-in-Some-clause-accepted c = tt

pub returns-in_default-body-clause-refused : goal.returns-in_default-body-clause-refused
returns-in_default-body-clause-refused c = tt

pub returns-in_default-body-clause-accepted : goal.returns-in_default-body-clause-accepted
returns-in_default-body-clause-accepted c = tt

pub returns-in_default-count_names-clause-refused : goal.returns-in_default-count_names-clause-refused
returns-in_default-count_names-clause-refused c = tt

pub returns-in_default-count_names-clause-accepted : goal.returns-in_default-count_names-clause-accepted
returns-in_default-count_names-clause-accepted c = tt

pub returns-in_default-count_names-2-clause-refused : goal.returns-in_default-count_names-2-clause-refused
returns-in_default-count_names-2-clause-refused c = tt

pub returns-in_default-count_names-2-clause-accepted : goal.returns-in_default-count_names-2-clause-accepted
returns-in_default-count_names-2-clause-accepted c = tt

pub returns-clause-refused : goal.returns-clause-refused
returns-clause-refused c = tt

pub returns-in_err-extend_from_slice-clause-accepted : goal.returns-in_err-extend_from_slice-clause-accepted
returns-in_err-extend_from_slice-clause-accepted c = IfOk-from_err _ _ c.from_residual.ensures.0
