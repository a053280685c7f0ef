-- Laws of parted programs.
use Rattle.gm_compilable.proofs.Arguments.{parted-fits, parted-columns, below-fits}
use Rattle.gm_compilable.proofs.laws.fitting_arguments_fit_parted.Goals as goal

pub returns-clause-fits : goal.returns-clause-fits
returns-clause-fits c = parted-fits

pub returns-clause-columns : goal.returns-clause-columns
returns-clause-columns c = parted-columns

pub returns-clause-below : goal.returns-clause-below
returns-clause-below c = below-fits
