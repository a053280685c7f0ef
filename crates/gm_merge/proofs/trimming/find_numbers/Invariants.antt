use Rattle.std.proofs.Common.{◌≡◌, ◌<◌, ◌≤◌, ℕ, length}
use Rattle.gm_merge.specs.Trimmed.{kept_count}
use Rattle.gm_merge.specs.Numbers.{flag_at, count_at}
use Rattle.gm_merge.proofs.trimming.find_numbers.Given as goal

-- the numbers so far, and the next one
abbrev pub invariant-loop-flag : goal.invariant-loop-flag
invariant-loop-flag l = record {
  long : length l.numbers.items ≡ l.flag-index;
  small : l.next ≤ l.flag-index;
  next : l.next ≡ kept_count (flag_at l.flags) 0 l.flag-index;
  numbers : (q : ℕ) → q < l.flag-index → count_at l.numbers.items q ≡ kept_count (flag_at l.flags) 0 q;
}
