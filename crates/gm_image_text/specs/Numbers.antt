-- The numbers and constants that words spell, digit by digit.
use Rattle.std.specs.Prelude.{ℕ, zero, suc, nat_lt, min, Bool, false, ◌==◌, if◌then◌else◌, ℤ, pos, negsuc, [], ◌∷◌, drop, slice_index, Option, Some, None, option_map, codes, bytes_eq, ⊤}
use Rattle.gm_fields.specs.Fields.{number_in}
use Rattle.gm_value.specs.declared.values.VType.{VType}
use Rattle.gm_value.specs.declared.values.VType.TheVariants.{I32, I64, Flag, Node}
use Rattle.gm_value.specs.declared.values.Value.{Value}
use Rattle.gm_value.specs.declared.values.Value.TheVariants as values
use Rattle.gm_value.specs.Numbers.{fits, value_at}
use Rattle.gm_image_text.specs.Lines.{Word}
use Rattle.gm_image_text.specs.Tables.{row_in, flags}

-- a zero in front of something
abbrev pub has_leading_zero : Word → Bool
has_leading_zero [] = false
has_leading_zero (b ∷ []) = false
has_leading_zero (b ∷ c ∷ bs) = b == 48

-- the number that a word spells in decimal, without a leading zero
abbrev pub whole_in : Word → Option ℕ
whole_in word = if has_leading_zero word then None else number_in word

-- a number below 2 ^ 32
abbrev pub index_from : Option ℕ → Option ℕ
index_from None = None
index_from (Some n) = if nat_lt n 4294967296 then Some n else None

-- the index or count that a word spells
abbrev pub index_in : Word → Option ℕ
index_in word = index_from (whole_in word)

-- the negative of a number that is not 0
abbrev pub negative : Option ℕ → Option ℤ
negative None = None
negative (Some zero) = None
negative (Some (suc n)) = Some (negsuc n)

-- the number with its sign that a word spells
abbrev pub signed_in : Word → Option ℤ
signed_in word = if slice_index word 0 == 45 then negative (whole_in (drop 1 word)) else option_map pos (whole_in word)

-- a number with its sign, with those of more than 64 bits brought near
abbrev pub clipped : ℤ → ℤ
clipped (pos n) = pos (min 18446744073709551615 n)
clipped (negsuc n) = negsuc (min 18446744073709551614 n)

-- the types of whole numbers
abbrev pub IsWholeType : VType → Type 0
IsWholeType I32 = ⊤
IsWholeType I64 = ⊤
IsWholeType Flag = ⊥
IsWholeType Node = ⊥

-- the value of a type that a number is, where it is in the type's range
abbrev pub value_from : VType → Option ℤ → Option Value
value_from t None = None
value_from t (Some z) = if fits t z then Some (value_at t z) else None

abbrev pub number_value : VType → Word → Option Value
number_value t word = value_from t (signed_in word)

-- the constant of a type that a word spells
abbrev pub value_in : VType → Word → Option Value
value_in I32 word = number_value I32 word
value_in I64 word = number_value I64 word
value_in Flag word = option_map (λ b. values.Flag b) (row_in flags word)
value_in Node word = if bytes_eq word (codes "NIL") then Some (values.At None) else None
