-- All deferred writes go to copies.
use Rattle.gm_dissect.proofs.AllDeferred.{none-deferred, ready-all, same-all}
use Rattle.gm_dissect.proofs.laws.all_deferred_writes_go_to_copies.Goals as goal

pub returns-clause-same : goal.returns-clause-same
returns-clause-same c = same-all

pub returns-clause-ready : goal.returns-clause-ready
returns-clause-ready c = ready-all

pub returns-clause-none : goal.returns-clause-none
returns-clause-none c = none-deferred
