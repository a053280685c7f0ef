-- Places in a text: their order, and how they are written.
use Rattle.std.specs.Prelude.{ℕ, Bool, ◌&&◌, ◌||◌, nat_eq, nat_lt, if◌then◌else◌, List, ◌++◌, codes, decimal}
use Rattle.gm_base.specs.declared.places.Place.{Place}

-- whether two places are the same
abbrev pub place_eq : Place → Place → Bool
place_eq a b = nat_eq a.line b.line && nat_eq a.col b.col

-- whether a place stands before another: by line, then by column
abbrev pub place_lt : Place → Place → Bool
place_lt a b = nat_lt a.line b.line || (nat_eq a.line b.line && nat_lt a.col b.col)

-- the later of two places
abbrev pub later_of : Place → Place → Place
later_of a b = if place_lt a b then b else a

-- a place as it is written: LINE:COL
abbrev pub place_text : Place → List ℕ
place_text at = decimal at.line ++ codes ":" ++ decimal at.col
