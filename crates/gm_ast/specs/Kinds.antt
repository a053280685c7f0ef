-- The kinds of values that expressions have, and how a value fits where it is wanted.
use Rattle.std.specs.Prelude.{Bool, true, false, if◌then◌else◌, List, [], ◌∷◌, map, Option, Some, None, Ok, Err}
use Rattle.std.specs.Int.{int_min, int_max}
use Rattle.gm_base.specs.declared.places.Place.{Place}
use Rattle.gm_base.specs.declared.rules.Rule.{Rule}
use Rattle.gm_base.specs.declared.rules.Rule.TheVariants.{T8}
use Rattle.gm_value.specs.declared.values.VType.{VType}
use Rattle.gm_value.specs.declared.values.VType.TheVariants.{I32, I64, Flag, Node}
use Rattle.gm_value.specs.declared.values.Value.{Value}
use Rattle.gm_value.specs.declared.operations.Op1.TheVariants.{ToI64}
use Rattle.gm_value.specs.Numbers.{least_of, greatest_of}
use Rattle.gm_ast.specs.declared.kinds.Kind.{Kind}
use Rattle.gm_ast.specs.declared.kinds.Kind.TheVariants.{Flexible, Of, Edge}
use Rattle.gm_ast.specs.Program.{Expr, Const, Unary, Binary, Choose}
use Rattle.gm_ast.specs.Judged.{Answer, refused}
use Rattle.gm_base.specs.Rules.{broken_at}

-- an expression that has a type: what it stands for, a flexible one with its numbers as Long, and the places of those of its flexible numbers that Int does not hold
pub record Part : Type 0 where
  pub kind : Kind
  pub core : Expr
  pub large : List Place

-- a part that is not flexible
abbrev pub part_of : Kind → Expr → Part
part_of k e = record { kind = k; core = e; large = [] }

-- the Int of a flexible number
abbrev pub narrow : Value → Value
narrow (Value.I64 z) = Value.I32 (int_max (least_of I32) (int_min (greatest_of I32) z))
narrow (Value.I32 z) = Value.I32 z
narrow (Value.Flag b) = Value.Flag b
narrow (Value.At n) = Value.At n

-- a flexible expression with its numbers as Int
abbrev pub narrowed : Expr → Expr
narrowed (Const v) = Const (narrow v)
narrowed (Unary op at e) = Unary op at (narrowed e)
narrowed (Binary op at a b) = Binary op at (narrowed a) (narrowed b)
narrowed (Choose c a b) = Choose c (narrowed a) (narrowed b)
narrowed e = e

-- whether a list has no member
abbrev pub is_empty : {A : Type 0} → List A → Bool
is_empty [] = true
is_empty (x ∷ xs) = false

-- a flexible part as an Int
abbrev pub as_int : Part → Answer Expr
as_int p = if is_empty p.large then Ok (narrowed p.core) else Err (map (broken_at T8) p.large)

-- a number as a Long
abbrev pub as_long : Place → Kind → Expr → Expr
as_long at (Of I32) e = Unary ToI64 at e
as_long at _ e = e

-- the type that two types have in common
abbrev pub joint_type : VType → VType → Option Kind
joint_type I32 I32 = Some (Of I32)
joint_type I32 I64 = Some (Of I64)
joint_type I64 I32 = Some (Of I64)
joint_type I64 I64 = Some (Of I64)
joint_type Flag Flag = Some (Of Flag)
joint_type Node Node = Some (Of Node)
joint_type _ _ = None

-- whether a type is one of numbers
abbrev pub is_number_type : VType → Bool
is_number_type I32 = true
is_number_type I64 = true
is_number_type Flag = false
is_number_type Node = false

-- whether a type is Bool
abbrev pub is_flag_type : VType → Bool
is_flag_type I32 = false
is_flag_type I64 = false
is_flag_type Flag = true
is_flag_type Node = false

-- whether a kind is one of numbers
abbrev pub is_number : Kind → Bool
is_number Flexible = true
is_number (Of t) = is_number_type t
is_number Edge = false

-- what a flexible number and another kind have in common
abbrev pub flexible_beside : Kind → Option Kind
flexible_beside k = if is_number k then Some k else None

-- the kind that two kinds have in common
abbrev pub joint : Kind → Kind → Option Kind
joint Flexible k = flexible_beside k
joint (Of t) Flexible = flexible_beside (Of t)
joint (Of t) (Of u) = joint_type t u
joint (Of t) Edge = None
joint Edge Flexible = None
joint Edge (Of u) = None
joint Edge Edge = Some Edge

-- an Int, or a flexible part that is to be one
abbrev pub int_of : Kind → Part → Answer Expr
int_of Flexible p = as_int p
int_of (Of t) p = Ok p.core
int_of Edge p = Ok p.core

-- a part as one of a kind that it shares with another
abbrev pub taken : Kind → Place → Part → Answer Expr
taken (Of I32) at p = int_of p.kind p
taken (Of I64) at p = Ok (as_long at p.kind p.core)
taken (Of Flag) at p = Ok p.core
taken (Of Node) at p = Ok p.core
taken Flexible at p = Ok p.core
taken Edge at p = Ok p.core

-- whether a kind is Bool
abbrev pub is_flag : Kind → Bool
is_flag Flexible = false
is_flag (Of t) = is_flag_type t
is_flag Edge = false

-- whether a value of the kind goes to a target of the type
abbrev pub accepts : VType → Kind → Bool
accepts I32 Flexible = true
accepts I64 Flexible = true
accepts I32 (Of I32) = true
accepts I64 (Of I32) = true
accepts I64 (Of I64) = true
accepts Flag (Of Flag) = true
accepts Node (Of Node) = true
accepts _ _ = false

-- a part as a value of the type that is wanted
abbrev pub fitted : VType → Rule → Place → Part → Answer Expr
fitted t rule at p = if accepts t p.kind then taken (Of t) at p else refused rule at

-- the type that flexible parts take where nothing else gives one
abbrev pub default_of : List Place → VType
default_of large = if is_empty large then I32 else I64

-- the kind and the expression of a part beside which nothing gives a type
abbrev pub settled_as : Kind → Part → Part
settled_as Flexible p = if is_empty p.large then part_of (Of I32) (narrowed p.core) else part_of (Of I64) p.core
settled_as (Of t) p = p
settled_as Edge p = p

-- a part beside which nothing gives a type
abbrev pub settled : Part → Part
settled p = settled_as p.kind p
