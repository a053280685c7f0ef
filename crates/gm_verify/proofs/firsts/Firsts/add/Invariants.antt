use Rattle.std.proofs.Common.{◌≡◌, ℕ, take, map}
use Rattle.std.specs.Prelude.{nat_eq}
use Rattle.std.specs.HashMap.{get}
use Rattle.gm_image.specs.Views.{target}
use Rattle.gm_image.specs.Parts.{slots_of, is_among}
use Rattle.gm_verify.proofs.Adding.{index_with}
use Rattle.gm_verify.proofs.firsts.Firsts.add.Given as goal

-- the slots so far have an index, the other ones what they had
abbrev pub invariant-loop-target : goal.invariant-loop-target
invariant-loop-target l =
    ((i : ℕ) → get nat_eq l.self.indices i ≡ index_with (get nat_eq l.initial.self.indices i) (is_among i (slots_of (map target (take l.target-index l.targets)))) l.index)
    × (l.self.reductions ≡ l.initial.self.reductions)
