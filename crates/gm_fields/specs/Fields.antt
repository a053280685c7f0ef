-- The fields of a line, and the numbers that fields spell.
use Rattle.std.specs.Prelude.{◌≡◌, ◌<◌, ℕ, ◌+◌, ◌*◌, ◌-◌, nat_le, Bool, true, false, ◌&&◌, ◌||◌, ◌==◌, if◌then◌else◌, List, [], ◌∷◌, filter, fold, length, slice_index, Option, Some, None}
use Rattle.std.specs.List.{slice_split, list_all}

-- a space or a tab
abbrev pub is_blank : ℕ → Bool
is_blank b = b == 32 || b == 9

-- a part of one or more bytes
abbrev pub is_some_part : List ℕ → Bool
is_some_part [] = false
is_some_part (b ∷ bs) = true

-- the fields of a line: the parts between blanks that are not empty
abbrev pub fields : List ℕ → List (List ℕ)
fields line = filter is_some_part (slice_split is_blank line)

-- a text that begins with a field
pub record StartsField (text : List ℕ) : Type 0 where
  pub nonempty : 0 < length text
  pub no_blank : is_blank (slice_index text 0) ≡ false

-- a decimal digit
abbrev pub is_digit : ℕ → Bool
is_digit b = nat_le 48 b && nat_le b 57

-- one or more decimal digits
abbrev pub is_number : List ℕ → Bool
is_number field = is_some_part field && list_all is_digit field

-- the number with one digit more
abbrev pub with_digit : ℕ → ℕ → ℕ
with_digit n b = 10 * n + (b - 48)

-- the number that digits spell
abbrev pub decimal_value : List ℕ → ℕ
decimal_value digits = fold with_digit 0 digits

-- the number that a field spells, if it is one or more digits
abbrev pub number_in : List ℕ → Option ℕ
number_in field = if is_number field then Some (decimal_value field) else None
