use Rattle.std.proofs.Common.{drop, map}
use Rattle.gm_image.specs.Views.{target}
use Rattle.gm_image.specs.Parts.{slots_of}
use Rattle.gm_verify.specs.Firsts.{reduction_of}
use Rattle.gm_verify.proofs.Ones.{Ones}
use Rattle.gm_verify.proofs.firsts.Firsts.is_the_one.Given as goal

-- the slots that are left give the answer
abbrev pub invariant-loop-target : goal.invariant-loop-target
invariant-loop-target l = Ones l.self (reduction_of l.fn.reduction) (slots_of (map target l.targets)) (slots_of (map target (drop l.target-index l.targets))) l.same
