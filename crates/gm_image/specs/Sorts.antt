-- The types of expressions.
use Rattle.std.specs.Prelude.{ℕ, Bool, true, false, ◌&&◌, Option, Some, None, List, slice_get}
use Rattle.gm_value.specs.declared.values.VType.{VType}
use Rattle.gm_value.specs.declared.values.VType.TheVariants as types
use Rattle.gm_value.specs.declared.values.Value.{Value}
use Rattle.gm_value.specs.declared.values.Value.TheVariants as values
use Rattle.gm_value.specs.declared.operations.Op1.{Op1}
use Rattle.gm_value.specs.declared.operations.Op1.TheVariants as one
use Rattle.gm_value.specs.declared.operations.Op2.{Op2}
use Rattle.gm_value.specs.Numbers.{type_of}
use Rattle.gm_value.specs.Operations.{same_type, is_flag, fits1, fits2, type1, type2}
use Rattle.gm_image.specs.declared.images.Kind.{Kind}
use Rattle.gm_image.specs.declared.sorts.Sort.{Sort}
use Rattle.gm_image.specs.declared.sorts.Sort.TheVariants.{Known, Unknown, Clash}
use Rattle.gm_image.specs.Term.{Term, Const, Global, NodeCount, EdgeCount, Field, Self, OutDegree, InDegree, Register, Message, Neighbour, Column, NodeAt, Live, Unary, Binary, And, Or, Choose}
use Rattle.gm_image.specs.Program.{Program}

-- whether an expression of a sort may stand where a type is wanted
abbrev pub expects : VType → Sort → Bool
expects t (Known u) = same_type t u
expects t Unknown = true
expects t Clash = false

-- the sort of a slot of some types
abbrev pub sort_by : Option VType → Sort
sort_by None = Unknown
sort_by (Some t) = Known t

abbrev pub sort_at : List VType → ℕ → Sort
sort_at ts i = sort_by (slice_get ts i)

-- a type where a test holds of its parts
abbrev pub sort_if : Bool → VType → Sort
sort_if true t = Known t
sort_if false t = Clash

-- whether an operation on one value takes a type: `int` takes one of 64 bits, and `long` one of 32
abbrev pub takes : Op1 → VType → Bool
takes one.ToI32 t = same_type t types.I64
takes one.ToI64 t = same_type t types.I32
takes op t = fits1 op t

-- what an operation gives whose part has a sort: an operation is judged where its parts have types
abbrev pub one_sort : (VType → Sort) → Sort → Sort
one_sort f (Known t) = f t
one_sort f Unknown = Unknown
one_sort f Clash = Clash

-- of two parts
abbrev pub two_sort : (VType → VType → Sort) → Sort → Sort → Sort
two_sort f (Known t) s = one_sort (f t) s
two_sort f Unknown s = one_sort (λ _. Unknown) s
two_sort f Clash s = Clash

-- of three parts
abbrev pub three_sort : (VType → VType → VType → Sort) → Sort → Sort → Sort → Sort
three_sort f (Known t) s r = two_sort (f t) s r
three_sort f Unknown s r = two_sort (λ _ _. Unknown) s r
three_sort f Clash s r = Clash

-- a node by its index takes a number of 64 bits
abbrev pub node_at_sort : VType → Sort
node_at_sort t = sort_if (same_type t types.I64) types.Node

-- a node that is not NIL takes a node
abbrev pub live_sort : VType → Sort
live_sort t = sort_if (same_type t types.Node) types.Node

-- an operation on one value
abbrev pub unary_sort : Op1 → VType → Sort
unary_sort op t = sort_if (takes op t) (type1 op t)

-- an operation on two values
abbrev pub binary_sort : Op2 → VType → VType → Sort
binary_sort op t u = sort_if (fits2 op t u) (type2 op t)

-- `&&` and `||` take two truth values
abbrev pub logic_sort : VType → VType → Sort
logic_sort t u = sort_if (is_flag t && is_flag u) types.Flag

-- a choice takes a truth value and two values of one type
abbrev pub choice_sort : VType → VType → VType → Sort
choice_sort c t u = sort_if (is_flag c && same_type t u) t

-- the sort of a constant: one of a node is NIL
abbrev pub constant_sort : Value → Sort
constant_sort (values.At (Some n)) = Clash
constant_sort v = Known (type_of v)

-- the sort of a message's value
abbrev pub value_sort : Option Kind → ℕ → Sort
value_sort None i = Unknown
value_sort (Some k) i = sort_at k.values i

-- the kind of a handler's messages, none outside handlers
abbrev pub kind_at : Program → Option ℕ → Option Kind
kind_at p None = None
kind_at p (Some k) = slice_get p.kinds k

-- the sort of an expression in a handler of a kind, or in none
abbrev pub sort_of : Program → Option ℕ → Term → Sort
sort_of p k (Const v) = constant_sort v
sort_of p k (Global g) = sort_at p.globals g
sort_of p k NodeCount = Known types.I32
sort_of p k EdgeCount = Known types.I32
sort_of p k (Field f) = sort_at p.fields f
sort_of p k Self = Known types.Node
sort_of p k OutDegree = Known types.I32
sort_of p k InDegree = Known types.I32
sort_of p k (Register r) = sort_at p.registers r
sort_of p k (Message i) = value_sort (kind_at p k) i
sort_of p k Neighbour = Known types.Node
sort_of p k (Column c) = sort_at p.columns c
sort_of p k (NodeAt a) = one_sort node_at_sort (sort_of p k a)
sort_of p k (Live place a) = one_sort live_sort (sort_of p k a)
sort_of p k (Unary op place a) = one_sort (unary_sort op) (sort_of p k a)
sort_of p k (Binary op place a b) = two_sort (binary_sort op) (sort_of p k a) (sort_of p k b)
sort_of p k (And a b) = two_sort logic_sort (sort_of p k a) (sort_of p k b)
sort_of p k (Or a b) = two_sort logic_sort (sort_of p k a) (sort_of p k b)
sort_of p k (Choose c a b) = three_sort choice_sort (sort_of p k c) (sort_of p k a) (sort_of p k b)
