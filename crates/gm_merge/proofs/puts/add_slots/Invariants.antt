use Rattle.std.proofs.Common.{◌≡◌, ℕ, take, map}
use Rattle.std.specs.Prelude.{nat_eq, ◌||◌}
use Rattle.std.specs.HashSet.{contains}
use Rattle.gm_image.specs.Views.{target}
use Rattle.gm_image.specs.Parts.{slots_of, is_among}
use Rattle.gm_merge.proofs.puts.add_slots.Given as goal

-- the set has what it had, and the slots so far
abbrev pub invariant-loop-target : goal.invariant-loop-target
invariant-loop-target l = (n : ℕ) → contains nat_eq l.set n ≡ (is_among n (slots_of (map target (take l.target-index l.targets))) || contains nat_eq l.initial.set n)
