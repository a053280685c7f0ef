-- Room in a total, and the order of its bag.
use Rattle.gm_value.proofs.TotalLaws.{has_room, IsTotal-same, one_total}
use Rattle.gm_value.proofs.laws.totals_have_room.Goals as goal

pub returns-clause-room : goal.returns-clause-room
returns-clause-room c = has_room

pub returns-clause-order : goal.returns-clause-order
returns-clause-order c = λ r t a bag other same is. IsTotal-same r t a same is

pub returns-clause-one : goal.returns-clause-one
returns-clause-one c = one_total
