-- The messages so far.
use Rattle.std.proofs.Common.{◌≡◌, ◌++◌, ◌-◌, take, drop}
use Rattle.gm_core.proofs.messages.copy_range.Given as goal

abbrev pub invariant-loop-i : goal.invariant-loop-i
invariant-loop-i l = l.to ≡ l.fn.to ++ take (l.i - l.start) (drop l.start l.from)
