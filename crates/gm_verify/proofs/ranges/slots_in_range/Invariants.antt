use Rattle.std.proofs.Common.{◌≡◌, drop, map}
use Rattle.gm_image.specs.Views.{target}
use Rattle.gm_image.specs.Indices.{slots_in_range}
use Rattle.gm_verify.proofs.ranges.slots_in_range.Given as goal

-- the slots that are left give the answer
abbrev pub invariant-loop-target : goal.invariant-loop-target
invariant-loop-target l = slots_in_range l.types (map target (drop l.target-index l.targets)) ≡ slots_in_range l.types (map target l.targets)
