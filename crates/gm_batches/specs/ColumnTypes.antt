-- The type of the column of an expression, where it can be evaluated by columns.
use Rattle.std.specs.Prelude.{Option, Some, None, slice_get, if◌then◌else◌}
use Rattle.std.specs.Option.{option_map, option_and_then}
use Rattle.gm_value.specs.declared.values.VType.{VType}
use Rattle.gm_value.specs.declared.values.VType.TheVariants.{I32, Flag, Node}
use Rattle.gm_value.specs.declared.values.Value.{Value}
use Rattle.gm_value.specs.declared.operations.Op1.{Op1}
use Rattle.gm_value.specs.declared.operations.Op2.{Op2}
use Rattle.gm_value.specs.Numbers.{type_of}
use Rattle.gm_value.specs.Operations.{fits1, fits2, type1, type2, same_type, is_flag}
use Rattle.gm_columns.specs.Columns.{TypedRow}
use Rattle.gm_image.specs.Term.{Term, Const, Global, NodeCount, EdgeCount, Field, Self, OutDegree, InDegree, Register, Message, Neighbour, Column, NodeAt, Live, Unary, Binary, And, Or, Choose}
use Rattle.gm_kernels.specs.Typed.{column_type, is_storable}
use Rattle.gm_machine.specs.Expressions.{value_at}
use Rattle.gm_batches.specs.declared.node_batches.NodeBatch.{NodeBatch}

-- the type of a column of one value, where the value has a place in memory
abbrev pub constant_type : Value → Option VType
constant_type v = if is_storable v then Some (type_of v) else None

-- the type of what an operation gives, where it fits its operands
abbrev pub unary_type : Op1 → Option VType → Option VType
unary_type op (Some t) = if fits1 op t then Some (type1 op t) else None
unary_type op None = None

abbrev pub binary_type : Op2 → Option VType → Option VType → Option VType
binary_type op (Some t) (Some u) = if fits2 op t u then Some (type2 op t) else None
binary_type op _ _ = None

-- the type of a choice by truth values between values of one type
abbrev pub choice_type : Option VType → Option VType → Option VType → Option VType
choice_type (Some c) (Some t) (Some u) = if is_flag c then (if same_type u t then Some t else None) else None
choice_type _ _ _ = None

-- the type of an expression's column in a batch. What is seen of an edge, in-degrees, and nodes by their numbers are not
-- evaluated by columns, nor fields that hold values of several types.
abbrev pub type_in : NodeBatch → Term → Option VType
type_in b (Const v) = constant_type v
type_in b (Global g) = constant_type (value_at b.globals.now g)
type_in b NodeCount = Some I32
type_in b EdgeCount = Some I32
type_in b (Field f) = option_and_then column_type (slice_get b.fields.now f)
type_in b Self = Some Node
type_in b OutDegree = Some I32
type_in b InDegree = None
type_in b (Register r) = option_map (λ (column : TypedRow). column.vtype) (slice_get b.registers.now r)
type_in b (Message i) = option_map (λ (column : TypedRow). column.vtype) (slice_get b.message.now i)
type_in b Neighbour = None
type_in b (Column c) = None
type_in b (NodeAt a) = None
type_in b (Live place a) = None
type_in b (Unary op place a) = unary_type op (type_in b a)
type_in b (Binary op place a c) = binary_type op (type_in b a) (type_in b c)
type_in b (And a c) = choice_type (type_in b a) (type_in b c) (Some Flag)
type_in b (Or a c) = choice_type (type_in b a) (Some Flag) (type_in b c)
type_in b (Choose c a d) = choice_type (type_in b c) (type_in b a) (type_in b d)
