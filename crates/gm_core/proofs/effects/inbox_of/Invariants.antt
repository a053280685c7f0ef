-- The messages so far.
use Rattle.std.proofs.Common.{◌≡◌, take}
use Rattle.gm_machine.specs.Machine.{inbox}
use Rattle.gm_core.proofs.effects.inbox_of.Given as goal

abbrev pub invariant-loop-i : goal.invariant-loop-i
invariant-loop-i l = l.own ≡ inbox (take l.i l.waiting) l.node
