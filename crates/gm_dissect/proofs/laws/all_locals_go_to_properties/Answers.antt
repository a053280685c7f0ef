-- All locals go to properties.
use Rattle.gm_dissect.proofs.LocalLaws.{all-ready, all-same}
use Rattle.gm_dissect.proofs.laws.all_locals_go_to_properties.Goals as goal

pub returns-clause-same : goal.returns-clause-same
returns-clause-same c = all-same

pub returns-clause-ready : goal.returns-clause-ready
returns-clause-ready c = all-ready
