-- Places in a text, reached byte by byte.
use Rattle.std.specs.Prelude.{ℕ, ◌+◌, ◌==◌, if◌then◌else◌, List, [], ◌∷◌}
use Rattle.gm_base.specs.declared.places.Place.{Place}

-- where a text begins
abbrev pub start : Place
start = record { line = 1; col = 1 }

-- the place after one byte: an LF ends its line, and any other byte is one column
abbrev pub past_byte : Place → ℕ → Place
past_byte at b = if b == 10 then record { line = at.line + 1; col = 1 } else record { line = at.line; col = at.col + 1 }

-- the place after some bytes
abbrev pub past : Place → List ℕ → Place
past at [] = at
past at (b ∷ bs) = past (past_byte at b) bs
