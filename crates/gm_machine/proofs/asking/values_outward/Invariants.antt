use Rattle.std.proofs.Common.{◌≡◌, drop, map}
use Rattle.std.specs.List.{list_all}
use Rattle.gm_image.specs.Views.{term}
use Rattle.gm_image.specs.Parts.{all_leaves}
use Rattle.gm_machine.specs.Asking.{counts_outward}
use Rattle.gm_machine.proofs.asking.values_outward.Given as goal

-- what is left gives the answer
abbrev pub invariant-loop-value : goal.invariant-loop-value
invariant-loop-value l = list_all (all_leaves counts_outward) (map term (drop l.value-index l.values)) ≡ list_all (all_leaves counts_outward) (map term l.values)
