use Rattle.gm_locals.proofs.AllGroupsLaws.{groups-ready, groups-same}
use Rattle.gm_locals.proofs.laws.all_locals_go_together.Goals as goal

pub returns-clause-same : goal.returns-clause-same
returns-clause-same c = groups-same

pub returns-clause-ready : goal.returns-clause-ready
returns-clause-ready c = groups-ready
