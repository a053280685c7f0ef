use Rattle.std.proofs.Common.{◌≡◌, drop, map}
use Rattle.gm_image.specs.Views.{program, term}
use Rattle.gm_image.specs.Fits.{values_fit}
use Rattle.gm_verify.proofs.fits.values_fit.Given as goal

-- the values that are left give the answer
abbrev pub invariant-loop-i : goal.invariant-loop-i
invariant-loop-i l = values_fit (program l.image) l.fn.kind (drop l.i l.types) (map term (drop l.i l.values)) ≡ values_fit (program l.image) l.fn.kind l.types (map term l.values)
