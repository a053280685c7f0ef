use Rattle.std.proofs.Common.{◌≡◌, ◌<◌, ℕ, take, map, length}
use Rattle.gm_image.specs.Views.{command}
use Rattle.gm_merge.specs.Numbers.{is_target}
use Rattle.gm_merge.specs.Numbers.{flag_at}
use Rattle.gm_merge.proofs.numbers.find_targets.Given as goal

-- the flags of the lines so far
abbrev pub invariant-loop-line : goal.invariant-loop-line
invariant-loop-line l = record {
  long : length l.flags.items ≡ length l.initial.flags.items;
  flags : (q : ℕ) → q < length l.flags.items → flag_at l.flags.items q ≡ is_target (map command (take l.line-index l.master)) q;
}
