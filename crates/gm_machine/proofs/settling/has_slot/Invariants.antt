-- The slot is none of those so far.
use Rattle.std.proofs.Common.{◌≡◌, drop}
use Rattle.gm_image.specs.Parts.{is_among}
use Rattle.gm_machine.specs.Settling.{slots_in}
use Rattle.gm_machine.proofs.settling.has_slot.Given as goal

abbrev pub invariant-loop-p : goal.invariant-loop-p
invariant-loop-p l = is_among l.slot (slots_in (drop l.p-index l.parts)) ≡ is_among l.slot (slots_in l.parts)
