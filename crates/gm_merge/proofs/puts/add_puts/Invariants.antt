use Rattle.std.proofs.Common.{◌≡◌, ◌||◌, ℕ, take, map}
use Rattle.std.specs.Prelude.{nat_eq}
use Rattle.std.specs.HashSet.{contains}
use Rattle.gm_image.specs.Views.{line}
use Rattle.gm_image.specs.Parts.{is_among}
use Rattle.gm_merge_laws.specs.Joins.{put_globals}
use Rattle.gm_merge.proofs.puts.add_puts.Given as goal

-- the set has what it had, and the globals so far
abbrev pub invariant-loop-vertex_line : goal.invariant-loop-vertex_line
invariant-loop-vertex_line l = (n : ℕ) → contains nat_eq l.set n ≡ (contains nat_eq l.initial.set n || is_among n (put_globals (map line (take l.vertex_line-index l.lines))))
