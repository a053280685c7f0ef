-- The words, numbers and values that a field of a Matrix Market text may spell.
use Rattle.std.specs.Prelude.{ℕ, nat_le, Bool, ◌&&◌, if◌then◌else◌, ℤ, List, [], ◌∷◌, Option, Some, None, Result, Ok, Err}
use Rattle.gm_fields.specs.Fields.{number_in}
use Rattle.gm_value.specs.declared.values.VType.{VType}
use Rattle.gm_value.specs.declared.values.VType.TheVariants.{I32, I64, Flag, Node}
use Rattle.gm_value.specs.declared.values.Value.{Value}
use Rattle.gm_value.specs.declared.values.Value.TheVariants.{Flag}
use Rattle.gm_value.specs.Numbers.{fits, value_at}
use Rattle.gm_loader.specs.Fields.{whole_in, flag_in, top_number}
use Rattle.gm_mtx.specs.declared.faults.LineFault.{LineFault}
use Rattle.gm_mtx.specs.declared.faults.LineFault.TheVariants.{BadLine, OutOfRange}

-- a number of the size line, unless there are no digits or it is too large
abbrev pub size_number : Option ℕ → Result ℕ LineFault
size_number None = Err BadLine
size_number (Some n) = if nat_le n top_number then Ok n else Err OutOfRange

-- a row or a column, of so many: they count from 1
abbrev pub index_number : ℕ → Option ℕ → Result ℕ LineFault
index_number most None = Err BadLine
index_number most (Some n) = if nat_le 1 n && nat_le n most then Ok n else Err OutOfRange

-- the number in the first of some fields; where there is no field, there are no digits
abbrev pub first_number : List (List ℕ) → Option ℕ
first_number [] = None
first_number (field ∷ more) = number_in field

-- the value of a type that a whole number is, unless the field spells none or it is out of the type's range
abbrev pub whole_value : VType → Option ℤ → Result Value LineFault
whole_value t None = Err BadLine
whole_value t (Some z) = if fits t z then Ok (value_at t z) else Err OutOfRange

-- the truth value, unless the field spells none
abbrev pub flag_value : Option Bool → Result Value LineFault
flag_value None = Err BadLine
flag_value (Some b) = Ok (Flag b)

-- the value of a type that a field spells, as in edge lists; no column has the type of nodes
abbrev pub value_in : VType → List ℕ → Result Value LineFault
value_in I32 field = whole_value I32 (whole_in field)
value_in I64 field = whole_value I64 (whole_in field)
value_in Flag field = flag_value (flag_in field)
value_in Node field = Err BadLine
