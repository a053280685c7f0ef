-- The first of some places.
use Rattle.std.specs.Prelude.{ℕ, ◌+◌, ◌*◌, Bool, false, not, if◌then◌else◌, List, [], ◌∷◌, Option, Some, None}
use Rattle.gm_base.specs.declared.places.Place.{Place}
use Rattle.gm_base.specs.Places.{place_lt}

-- the earlier of two places, where there are any
abbrev pub earlier : Option Place → Option Place → Option Place
earlier None b = b
earlier (Some p) None = Some p
earlier (Some p) (Some q) = if place_lt q p then Some q else Some p

-- the first of a place and of more
abbrev pub first_from : Option Place → List Place → Option Place
first_from best [] = best
first_from best (p ∷ ps) = first_from (earlier best (Some p)) ps

-- whether a place stands at another or before
abbrev pub is_by : Place → Place → Bool
is_by q p = not (place_lt q p)

-- whether a place is there, and stands at another or before
abbrev pub there_by : Place → Option Place → Bool
there_by q None = false
there_by q (Some p) = is_by q p

-- a number that is smaller where a place is earlier; it is largest where there is none
abbrev pub place_rank : Option Place → ℕ
place_rank None = 18446744073709551616
place_rank (Some p) = p.line * 4294967296 + p.col
