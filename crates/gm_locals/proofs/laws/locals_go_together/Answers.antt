use Rattle.gm_locals.proofs.GroupLaws.{ready-kept, same-kept}
use Rattle.gm_locals.proofs.laws.locals_go_together.Goals as goal

pub returns-clause-same : goal.returns-clause-same
returns-clause-same c = same-kept

pub returns-clause-ready : goal.returns-clause-ready
returns-clause-ready c = ready-kept
