-- The limits on a program text and on the numbers in it.
use Rattle.std.specs.Prelude.{ℕ}

-- the most bytes that a text may have: 2 ^ 20
abbrev pub longest_text : ℕ
longest_text = 1048576

-- the greatest number that a text may hold: 2 ^ 63 - 1
abbrev pub greatest_number : ℕ
greatest_number = 9223372036854775807
