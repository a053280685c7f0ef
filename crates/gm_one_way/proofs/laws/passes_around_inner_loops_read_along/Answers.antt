use Rattle.gm_one_way.proofs.Outer.{declared-keep, deferred-keep, filters-keep, conditions-keep}
use Rattle.gm_one_way.proofs.Placed.{placed-keep}
use Rattle.gm_one_way.proofs.laws.passes_around_inner_loops_read_along.Goals as goal

pub returns-clause-placed : goal.returns-clause-placed
returns-clause-placed c = placed-keep

pub returns-clause-declared : goal.returns-clause-declared
returns-clause-declared c = declared-keep

pub returns-clause-deferred : goal.returns-clause-deferred
returns-clause-deferred c = deferred-keep

pub returns-clause-filters : goal.returns-clause-filters
returns-clause-filters c = filters-keep

pub returns-clause-conditions : goal.returns-clause-conditions
returns-clause-conditions c = conditions-keep
