-- Deferred writes to a property go to a copy.
use Rattle.gm_dissect.proofs.DeferredKept.{ready-without_deferred}
use Rattle.gm_dissect.proofs.DeferredLaws.{same-without_deferred}
use Rattle.gm_dissect.proofs.laws.deferred_writes_go_to_copies.Goals as goal

pub returns-clause-same : goal.returns-clause-same
returns-clause-same c = same-without_deferred

pub returns-clause-ready : goal.returns-clause-ready
returns-clause-ready c = ready-without_deferred
