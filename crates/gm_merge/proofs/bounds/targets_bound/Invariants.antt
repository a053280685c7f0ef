use Rattle.std.proofs.Common.{◌≡◌, drop, map}
use Rattle.gm_image.specs.Views.{target}
use Rattle.gm_image.specs.Parts.{terms_of}
use Rattle.gm_merge.specs.Bounds.{terms_bound}
use Rattle.gm_merge.proofs.bounds.targets_bound.Given as goal

-- the values that are left end at the same bound
abbrev pub invariant-loop-target : goal.invariant-loop-target
invariant-loop-target l = terms_bound l.bound (terms_of (map target (drop l.target-index l.targets))) ≡ terms_bound l.start (terms_of (map target l.targets))
