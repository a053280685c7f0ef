use Rattle.std.proofs.Common.{◌≡◌, nat_eq, not, drop, map}
use Rattle.std.specs.List.{list_all}
use Rattle.std.specs.HashSet.{contains}
use Rattle.gm_image.specs.Views.{target}
use Rattle.gm_image.specs.Parts.{slots_of}
use Rattle.gm_merge.proofs.tests.slots_apart.Given as goal

-- the slots that are left give the answer
abbrev pub invariant-loop-target : goal.invariant-loop-target
invariant-loop-target l = list_all (λ s. not (contains nat_eq l.globals s)) (slots_of (map target (drop l.target-index l.targets))) ≡ list_all (λ s. not (contains nat_eq l.globals s)) (slots_of (map target l.targets))
