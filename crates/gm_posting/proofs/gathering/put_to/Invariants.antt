-- The items at the first places have gathered or were sent.
use Rattle.std.proofs.Common.{◌-◌, length, take}
use Rattle.gm_posting.specs.Gathering.{GoesTo, at_places}
use Rattle.gm_posting.proofs.gathering.put_to.Given as goal

abbrev pub invariant-loop-next : goal.invariant-loop-next
invariant-loop-next g l = (d : g.B.Bundle.Item) → GoesTo g.B.Bundle.items l.to (at_places (g.B.Bundle.items l.from) (take l.next l.rows) d) l.initial.posts l.posts l.initial.gathered l.gathered

abbrev pub decreases-loop-next : goal.decreases-loop-next
decreases-loop-next g l = length l.rows - l.next
