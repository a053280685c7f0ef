-- The messages so far.
use Rattle.std.proofs.Common.{◌≡◌, ◌++◌, take}
use Rattle.gm_machine.proofs.batches.Batch.append.Given as goal

abbrev pub invariant-loop-i : goal.invariant-loop-i
invariant-loop-i l = l.self ≡ l.fn.self ++ take l.i l.more
