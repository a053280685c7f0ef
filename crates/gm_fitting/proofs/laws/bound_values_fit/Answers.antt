-- What is bound fits.
use Rattle.gm_fitting.proofs.Runs.{values-typed, runs-fit}
use Rattle.gm_fitting.proofs.laws.bound_values_fit.Goals as goal

pub returns-clause-values : goal.returns-clause-values
returns-clause-values c = values-typed

pub returns-clause-runs : goal.returns-clause-runs
returns-clause-runs c = runs-fit
