use Rattle.std.proofs.Common.{◌≡◌, ◌<◌, ◌&&◌, ℕ, length, map, take}
use Rattle.gm_value.specs.declared.reductions.Reduce.{Reduce}
use Rattle.gm_image.specs.Views.{handler}
use Rattle.gm_combiners.specs.Combiners.{all_let}
use Rattle.gm_combiners.specs.Candidates.{leaves, left_for}
use Rattle.gm_combiners.proofs.candidates.narrow_kinds.Given as goal

-- what the handlers so far leave
abbrev pub invariant-loop-handled : goal.invariant-loop-handled
invariant-loop-handled l = record {
  long : length l.candidates.items ≡ length l.initial.candidates.items;
  left : (k : ℕ) (r : Reduce) → k < length l.initial.candidates.items → leaves (left_for l.candidates.items k) r ≡ leaves (left_for l.initial.candidates.items k) r && all_let (map handler (take l.handled-index l.handlers)) k r;
}
