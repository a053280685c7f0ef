use Rattle.std.proofs.Common.{◌≡◌, drop, map}
use Rattle.std.specs.List.{list_all}
use Rattle.gm_image.specs.Views.{target}
use Rattle.gm_image.specs.Parts.{all_leaves, terms_of}
use Rattle.gm_machine.specs.Asking.{counts_outward}
use Rattle.gm_machine.proofs.asking.slots_outward.Given as goal

-- what is left gives the answer
abbrev pub invariant-loop-slot : goal.invariant-loop-slot
invariant-loop-slot l = list_all (all_leaves counts_outward) (terms_of (map target (drop l.slot-index l.slots))) ≡ list_all (all_leaves counts_outward) (terms_of (map target l.slots))
