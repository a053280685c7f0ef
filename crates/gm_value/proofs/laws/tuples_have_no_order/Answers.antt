-- The order of tuples, and tuples of one entry.
use Rattle.gm_value.proofs.TupleLaws.{best-permuted, kept-min, kept-max, kept-parts}
use Rattle.gm_value.proofs.laws.tuples_have_no_order.Goals as goal

pub returns-clause-bags : goal.returns-clause-bags
returns-clause-bags c = λ r held tuples other same. best-permuted r held same

pub returns-clause-min : goal.returns-clause-min
returns-clause-min c = kept-min

pub returns-clause-max : goal.returns-clause-max
returns-clause-max c = kept-max

pub returns-clause-parts : goal.returns-clause-parts
returns-clause-parts c = kept-parts
