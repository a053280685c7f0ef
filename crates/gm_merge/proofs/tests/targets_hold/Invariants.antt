use Rattle.std.proofs.Common.{◌≡◌, drop, map}
use Rattle.std.specs.List.{list_all}
use Rattle.gm_image.specs.Views.{target}
use Rattle.gm_image.specs.Parts.{terms_of}
use Rattle.gm_merge.specs.Tests.{term_holds}
use Rattle.gm_merge.proofs.tests.targets_hold.Given as goal

-- the values that are left give the answer
abbrev pub invariant-loop-target : goal.invariant-loop-target
invariant-loop-target l = list_all (term_holds l.fn.test) (terms_of (map target (drop l.target-index l.targets))) ≡ list_all (term_holds l.fn.test) (terms_of (map target l.targets))
