use Rattle.std.proofs.Common.{◌≡◌, ◌++◌, map, length}
use Rattle.std.specs.Vec.Iter.{into_iter_items, into_iter_len}
use Rattle.gm_image.specs.Views.{block}
use Rattle.gm_merge.specs.Trimmed.{kept_blocks}
use Rattle.gm_merge.specs.Numbers.{flag_at}
use Rattle.gm_merge.proofs.trimming.keep_blocks.Given as goal

-- the blocks so far that are kept
abbrev pub invariant-loop-one : goal.invariant-loop-one
invariant-loop-one l = record {
  rest : l.yielded ++ into_iter_items l.one-iterator ≡ into_iter_items l.initial.one-iterator;
  kept : map block l.kept.items ≡ kept_blocks (flag_at l.flags) 0 (map block l.yielded);
  number : l.number ≡ length l.yielded;
  long : into_iter_len l.one-iterator ≡ length (into_iter_items l.one-iterator);
}
