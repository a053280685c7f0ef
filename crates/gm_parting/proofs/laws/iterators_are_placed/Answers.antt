use Rattle.gm_parting.proofs.PlacedLaws.{placed-same, placed-ready}
use Rattle.gm_parting.proofs.PlacedNames.{no-strangers, iterators-placed}
use Rattle.gm_parting.proofs.laws.iterators_are_placed.Goals as goal

pub returns-clause-same : goal.returns-clause-same
returns-clause-same c = placed-same

pub returns-clause-ready : goal.returns-clause-ready
returns-clause-ready c = placed-ready

pub returns-clause-strangers : goal.returns-clause-strangers
returns-clause-strangers c = no-strangers

pub returns-clause-placed : goal.returns-clause-placed
returns-clause-placed c = iterators-placed
