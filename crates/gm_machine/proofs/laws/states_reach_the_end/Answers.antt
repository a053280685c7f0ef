-- The states come to the run's end, and in time.
use Rattle.gm_machine.proofs.StateBounds.{ends-in-time, supersteps-bounded}
use Rattle.gm_machine.proofs.StateLemmas.{ends-as}
use Rattle.gm_machine.proofs.laws.states_reach_the_end.Goals as goal

pub returns-clause-same : goal.returns-clause-same
returns-clause-same c = λ p g args turns k end is. ends-as p g args turns k end is

pub returns-clause-in_time : goal.returns-clause-in_time
returns-clause-in_time c = λ p g args turns k. ends-in-time p g args turns k

pub returns-clause-bounded : goal.returns-clause-bounded
returns-clause-bounded c = λ p g args turns. supersteps-bounded p g args turns
