-- Events go by supersteps, and end in time.
use Rattle.gm_core.proofs.RunLemmas.{reached, release-reached, ends-in-time}
use Rattle.gm_core.proofs.laws.events_go_by_supersteps.Goals as goal

pub returns-clause-events : goal.returns-clause-events
returns-clause-events c = λ p g args turns owners workers es sound dealt legal. reached p g owners workers sound dealt args turns es legal

pub returns-clause-releases : goal.returns-clause-releases
returns-clause-releases c = λ p g args turns owners workers es sound dealt legal. release-reached p g owners workers sound dealt args turns es legal

pub returns-clause-ends : goal.returns-clause-ends
returns-clause-ends c = λ p g args turns owners workers es sound dealt legal. ends-in-time p g owners workers sound dealt args turns es legal
