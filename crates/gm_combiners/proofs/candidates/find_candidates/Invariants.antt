use Rattle.std.proofs.Common.{◌≡◌, ◌<◌, ℕ, length, map, take}
use Rattle.gm_value.specs.declared.reductions.Reduce.{Reduce}
use Rattle.gm_image.specs.Views.{block}
use Rattle.gm_combiners.specs.Combiners.{all_let, handlers_of}
use Rattle.gm_combiners.specs.Candidates.{leaves, left_for}
use Rattle.gm_combiners.proofs.candidates.find_candidates.Given as goal

-- what the handlers of the blocks so far leave
abbrev pub invariant-loop-one : goal.invariant-loop-one
invariant-loop-one l = record {
  long : length l.candidates.items ≡ length l.initial.candidates.items;
  left : (k : ℕ) (r : Reduce) → k < length l.initial.candidates.items → leaves (left_for l.candidates.items k) r ≡ all_let (handlers_of (map block (take l.one-index l.blocks))) k r;
}
