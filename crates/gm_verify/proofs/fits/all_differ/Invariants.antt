use Rattle.std.proofs.Common.{drop, map}
use Rattle.gm_image.specs.Views.{target}
use Rattle.gm_image.specs.Parts.{slots_of}
use Rattle.gm_verify.proofs.Differing.{Differs}
use Rattle.gm_verify.proofs.fits.all_differ.Given as goal

-- the slots that are left give the answer, with the set of those before
abbrev pub invariant-loop-target : goal.invariant-loop-target
invariant-loop-target l = Differs l.seen (slots_of (map target l.targets)) (slots_of (map target (drop l.target-index l.targets)))
