use Rattle.std.proofs.Common.{◌≡◌, ◌++◌, map, length}
use Rattle.std.specs.Vec.Iter.{into_iter_items, into_iter_len}
use Rattle.gm_image.specs.Views.{command}
use Rattle.gm_merge.specs.Numbers.{numbered, count_at}
use Rattle.gm_merge.proofs.trimming.renumber.Given as goal

-- the lines so far
abbrev pub invariant-loop-line : goal.invariant-loop-line
invariant-loop-line l = record {
  rest : l.yielded ++ into_iter_items l.line-iterator ≡ into_iter_items l.initial.line-iterator;
  lines : map command l.lines.items ≡ map (numbered (count_at l.numbers)) (map command l.yielded);
  long : into_iter_len l.line-iterator ≡ length (into_iter_items l.line-iterator);
}
