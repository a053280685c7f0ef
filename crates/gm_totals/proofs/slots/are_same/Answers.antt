-- Lists of other lengths are others.
use Rattle.std.proofs.Common.{sym}
use Rattle.gm_totals.proofs.Keys.{eq-lengths}
use Rattle.gm_totals.proofs.slots.are_same.Goals as goal

pub returns-then-some-other : goal.returns-then-some-other
returns-then-some-other c = sym (eq-lengths c.args.some.now c.args.other.now c.if-some-other.true)
