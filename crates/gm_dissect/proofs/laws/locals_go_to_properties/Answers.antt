-- Locals go to properties.
use Rattle.gm_dissect.proofs.LocalLaws.{ready-kept, same-kept}
use Rattle.gm_dissect.proofs.laws.locals_go_to_properties.Goals as goal

pub returns-clause-same : goal.returns-clause-same
returns-clause-same c = same-kept

pub returns-clause-ready : goal.returns-clause-ready
returns-clause-ready c = ready-kept
