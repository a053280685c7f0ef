-- Values as whole numbers, and the range of each type.
use Rattle.std.specs.Prelude.{◌≡◌, Bool, true, false, IsTrue, ◌&&◌, ℤ, pos, negsuc, Some, None, Result, Ok, Err, if◌then◌else◌}
use Rattle.std.specs.Prelude.{int_lt, int_le}
use Rattle.gm_value.specs.declared.values.VType.{VType}
use Rattle.gm_value.specs.declared.values.VType.TheVariants.{I32, I64, Flag, Node}
use Rattle.gm_value.specs.declared.values.Value.{Value}
use Rattle.gm_value.specs.declared.values.Value.TheVariants.{I32, I64, Flag, At}
use Rattle.gm_value.specs.declared.faults.FaultKind.{FaultKind}
use Rattle.gm_value.specs.declared.faults.FaultKind.TheVariants.{Overflow}

-- the type of a value
abbrev pub type_of : Value → VType
type_of (I32 z) = I32
type_of (I64 z) = I64
type_of (Flag b) = Flag
type_of (At n) = Node

-- the whole number that stands for a value: False and True are 0 and 1, NIL is -1, and a node its index
abbrev pub number_of : Value → ℤ
number_of (I32 z) = z
number_of (I64 z) = z
number_of (Flag false) = pos 0
number_of (Flag true) = pos 1
number_of (At None) = negsuc 0
number_of (At (Some k)) = pos k

-- the node for which a number stands
abbrev pub node_at : ℤ → Value
node_at (pos k) = At (Some k)
node_at (negsuc k) = At None

-- the value of a type for which a number of its range stands
abbrev pub value_at : VType → ℤ → Value
value_at I32 z = I32 z
value_at I64 z = I64 z
value_at Flag z = Flag (int_lt (pos 0) z)
value_at Node z = node_at z

-- the least number of a type
abbrev pub least_of : VType → ℤ
least_of I32 = negsuc 2147483647
least_of I64 = negsuc 9223372036854775807
least_of Flag = pos 0
least_of Node = negsuc 0

-- the greatest number of a type
abbrev pub greatest_of : VType → ℤ
greatest_of I32 = pos 2147483647
greatest_of I64 = pos 9223372036854775807
greatest_of Flag = pos 1
greatest_of Node = pos 4294967295

-- whether a number is in a type's range
abbrev pub fits : VType → ℤ → Bool
fits t z = int_le (least_of t) z && int_le z (greatest_of t)

-- the exact result as a value of the type, or Overflow out of its range
abbrev pub checked : VType → ℤ → Result Value FaultKind
checked t z = if fits t z then Ok (value_at t z) else Err Overflow

-- the value that a variable of the type has at first
abbrev pub zero_of : VType → Value
zero_of I32 = I32 (pos 0)
zero_of I64 = I64 (pos 0)
zero_of Flag = Flag false
zero_of Node = At None

-- a value of a type, whose number is in the type's range
abbrev pub IsOf : VType → Value → Type 0
IsOf t v = (type_of v ≡ t) × IsTrue (fits t (number_of v))
