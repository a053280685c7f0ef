use Rattle.std.proofs.Common.{◌≡◌, drop, map}
use Rattle.gm_image.specs.Views.{target}
use Rattle.gm_image.specs.Parts.{slots_of}
use Rattle.gm_image.specs.Folds.{same_numbers}
use Rattle.gm_verify.proofs.firsts.same_slots.Given as goal

-- the slots that are left give the answer
abbrev pub invariant-loop-i : goal.invariant-loop-i
invariant-loop-i l = same_numbers (slots_of (map target (drop l.i l.some))) (slots_of (map target (drop l.i l.other))) ≡ same_numbers (slots_of (map target l.some)) (slots_of (map target l.other))
