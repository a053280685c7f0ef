-- The slot is none of those so far.
use Rattle.std.proofs.Common.{◌≡◌, drop}
use Rattle.gm_machine.specs.Taking.{entry_of}
use Rattle.gm_machine.specs.Settling.{slots_in}
use Rattle.gm_machine.proofs.settling.entry_of.Given as goal

abbrev pub invariant-loop-i : goal.invariant-loop-i
invariant-loop-i l = entry_of l.slot (slots_in (drop l.i l.target)) (drop l.i l.values) l.other ≡ entry_of l.slot (slots_in l.target) l.values l.other
