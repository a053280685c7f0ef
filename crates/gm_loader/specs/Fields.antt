-- The node numbers and values that a field may spell.
use Rattle.std.specs.Prelude.{ℕ, nat_le, Bool, true, false, ◌||◌, ◌==◌, if◌then◌else◌, ℤ, pos, neg_ℤ, List, Option, Some, None, option_map, Result, Ok, Err, codes, drop, slice_index}
use Rattle.std.specs.Str.{bytes_eq}
use Rattle.gm_fields.specs.Fields.{number_in}
use Rattle.gm_value.specs.declared.values.VType.{VType}
use Rattle.gm_value.specs.declared.values.VType.TheVariants.{I32, I64, Flag, Node}
use Rattle.gm_value.specs.declared.values.Value.{Value}
use Rattle.gm_value.specs.declared.values.Value.TheVariants.{Flag}
use Rattle.gm_value.specs.Numbers.{fits, value_at}
use Rattle.gm_loader.specs.declared.faults.LineFault.{LineFault}
use Rattle.gm_loader.specs.declared.faults.LineFault.TheVariants.{BadLine, OutOfRange}

-- the whole number that a field spells, if it is digits with or without a minus before them
abbrev pub whole_in : List ℕ → Option ℤ
whole_in field =
    if slice_index field 0 == 45 then option_map (λ n. neg_ℤ (pos n)) (number_in (drop 1 field)) else option_map pos (number_in field)

-- the truth value that a field spells
abbrev pub flag_in : List ℕ → Option Bool
flag_in field =
    if bytes_eq field (codes "0") || bytes_eq field (codes "false") || bytes_eq field (codes "False") then Some false else
    (if bytes_eq field (codes "1") || bytes_eq field (codes "true") || bytes_eq field (codes "True") then Some true else None)

-- the value of a type that a whole number is, unless the field spells none or it is out of the type's range
abbrev pub whole_value : VType → Option ℤ → Result Value LineFault
whole_value t None = Err BadLine
whole_value t (Some z) = if fits t z then Ok (value_at t z) else Err OutOfRange

-- the truth value, unless the field spells none
abbrev pub flag_value : Option Bool → Result Value LineFault
flag_value None = Err BadLine
flag_value (Some b) = Ok (Flag b)

-- the value of a type that a field spells; no column has the type of nodes
abbrev pub value_in : VType → List ℕ → Result Value LineFault
value_in I32 field = whole_value I32 (whole_in field)
value_in I64 field = whole_value I64 (whole_in field)
value_in Flag field = flag_value (flag_in field)
value_in Node field = Err BadLine

-- the greatest node number
abbrev pub top_number : ℕ
top_number = 9223372036854775807

-- a node number, unless there are no digits or it is too large
abbrev pub node_number : Option ℕ → Result ℕ LineFault
node_number None = Err BadLine
node_number (Some n) = if nat_le n top_number then Ok n else Err OutOfRange
