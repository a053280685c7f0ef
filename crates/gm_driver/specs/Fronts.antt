-- How far a program text is read.
use Rattle.std.specs.Prelude.{ℕ}

-- the greatest number of bytes of a program text that are read: one more than a text may have, so that the place is
-- known at which a longer one is refused
abbrev pub most_program : ℕ
most_program = 1048577
