use Rattle.std.proofs.Common.{◌≡◌, ◌||◌, ℕ, take, map}
use Rattle.std.specs.Prelude.{nat_eq}
use Rattle.std.specs.HashSet.{contains}
use Rattle.gm_image.specs.Views.{line}
use Rattle.gm_merge.specs.Registers.{sets_some}
use Rattle.gm_merge.proofs.registers.add_set.Given as goal

-- the set has what it had, and the registers so far
abbrev pub invariant-loop-vertex_line : goal.invariant-loop-vertex_line
invariant-loop-vertex_line l = (r : ℕ) → contains nat_eq l.set r ≡ (contains nat_eq l.initial.set r || sets_some (map line (take l.vertex_line-index l.lines)) r)
