use Rattle.std.proofs.Common.{◌≡◌, ◌||◌, ℕ, take, map}
use Rattle.std.specs.Prelude.{nat_eq}
use Rattle.std.specs.HashSet.{contains}
use Rattle.gm_image.specs.Views.{handler}
use Rattle.gm_image.specs.Parts.{is_among}
use Rattle.gm_merge_laws.specs.Joins.{put_globals}
use Rattle.gm_merge.specs.Tests.{lines_of}
use Rattle.gm_merge.proofs.puts.add_handlers.Given as goal

-- the set has what it had, and the globals so far
abbrev pub invariant-loop-handled : goal.invariant-loop-handled
invariant-loop-handled l = (n : ℕ) → contains nat_eq l.set n ≡ (contains nat_eq l.initial.set n || is_among n (put_globals (lines_of (map handler (take l.handled-index l.handlers)))))
