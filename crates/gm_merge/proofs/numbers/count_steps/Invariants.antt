use Rattle.std.proofs.Common.{◌≡◌, ◌<◌, ℕ, take, map, length}
use Rattle.std.specs.Prelude.{min}
use Rattle.gm_image.specs.Views.{command}
use Rattle.gm_merge.specs.Numbers.{step_count, count_at}
use Rattle.gm_merge.proofs.numbers.count_steps.Given as goal

-- the counts of the lines so far
abbrev pub invariant-loop-line : goal.invariant-loop-line
invariant-loop-line l = record {
  long : length l.counts.items ≡ length l.initial.counts.items;
  counts : (q : ℕ) → q < length l.counts.items → count_at l.counts.items q ≡ min (step_count q (map command (take l.line-index l.master))) 255;
}
