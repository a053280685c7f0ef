use Rattle.std.proofs.Common.{◌≡◌, drop, map}
use Rattle.gm_image.specs.Views.{program, target}
use Rattle.gm_image.specs.Fits.{targets_fit}
use Rattle.gm_verify.proofs.fits.targets_fit.Given as goal

-- the values that are left give the answer
abbrev pub invariant-loop-target : goal.invariant-loop-target
invariant-loop-target l = targets_fit (program l.image) l.fn.kind l.types (map target (drop l.target-index l.targets)) ≡ targets_fit (program l.image) l.fn.kind l.types (map target l.targets)
