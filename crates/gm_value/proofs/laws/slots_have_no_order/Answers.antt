-- The slots of one target.
use Rattle.gm_value.proofs.TupleLaws.{slots-permuted, one-slot, slots-typed, tuples-fit}
use Rattle.gm_value.proofs.laws.slots_have_no_order.Goals as goal

pub returns-clause-bags : goal.returns-clause-bags
returns-clause-bags c = slots-permuted

pub returns-clause-one : goal.returns-clause-one
returns-clause-one c = one-slot

pub returns-clause-types : goal.returns-clause-types
returns-clause-types c = slots-typed

pub returns-clause-fits : goal.returns-clause-fits
returns-clause-fits c = tuples-fit
