use Rattle.std.proofs.Common.{◌≡◌, take, map}
use Rattle.gm_image.specs.Views.{target}
use Rattle.gm_merge.proofs.copies.copy_targets.Given as goal

-- copies of those so far
abbrev pub invariant-loop-each : goal.invariant-loop-each
invariant-loop-each l = map target l.copies.items ≡ map target (take l.each-index l.targets)
