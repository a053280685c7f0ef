-- The value of an expression.
use Rattle.std.specs.Prelude.{ℕ, ℤ, pos, negsuc, nat_lt, if◌then◌else◌, unwrap_or, Option, Some, None, Result, Ok, Err, List, [], ◌∷◌, length, slice_index_or}
use Rattle.gm_value.specs.declared.values.Value.{Value}
use Rattle.gm_value.specs.declared.values.Value.TheVariants.{I32, I64, Flag, At}
use Rattle.gm_value.specs.declared.faults.FaultKind.TheVariants.{NilNode}
use Rattle.gm_value.specs.declared.operations.Op1.{Op1}
use Rattle.gm_value.specs.declared.operations.Op2.{Op2}
use Rattle.gm_value.specs.Numbers.{number_of}
use Rattle.gm_value.specs.Operations.{is_true, result1, result2}
use Rattle.gm_columns.specs.Columns.{cell_at}
use Rattle.gm_model.specs.Graphs.{NumberedGraph, Step, node_count, edge_count, out_steps, in_steps}
use Rattle.gm_image.specs.Term.{Term, Const, Global, NodeCount, EdgeCount, Field, Self, OutDegree, InDegree, Register, Message, Neighbour, Column, NodeAt, Live, Unary, Binary, And, Or, Choose}
use Rattle.gm_machine.specs.declared.faults.Fault.{Fault}
use Rattle.gm_machine.specs.Faults.{then_go, at_place}

-- what an expression is evaluated in: the graph, the globals, a node with its fields and registers, the values of a message, and the neighbour and the edge of an each
pub record View : Type 0 where
  pub graph : NumberedGraph
  pub globals : List Value
  pub node : ℕ
  pub fields : List Value
  pub registers : List Value
  pub message : List Value
  pub near : Step

-- the value of an index, NIL where there is none
abbrev pub value_at : List Value → ℕ → Value
value_at values i = slice_index_or values i (At None)

-- the value of an edge in a column, NIL where there is none
abbrev pub edge_value_at : NumberedGraph → ℕ → ℕ → Value
edge_value_at g column edge = unwrap_or (cell_at g.edge_columns column edge) (At None)

-- a number of nodes or edges
abbrev pub count : ℕ → Value
count n = I32 (pos n)

-- the node with an index, NIL where there is none
abbrev pub node_with : NumberedGraph → ℤ → Value
node_with g (pos k) = if nat_lt k (node_count g) then At (Some k) else At None
node_with g (negsuc k) = At None

-- a node itself, or the fault at a place where it is none
abbrev pub live : ℕ → Value → Result Value Fault
live place (At (Some k)) = Ok (At (Some k))
live place (At None) = Err (record { place = place; kind = NilNode })
live place (I32 z) = Err (record { place = place; kind = NilNode })
live place (I64 z) = Err (record { place = place; kind = NilNode })
live place (Flag b) = Err (record { place = place; kind = NilNode })

-- the place of an operation. One without a place never faults.
abbrev pub place_of : Option ℕ → ℕ
place_of (Some place) = place
place_of None = 0

-- an operation on one value at a place, and one on two
abbrev pub unary_value : Op1 → ℕ → Result Value Fault → Result Value Fault
unary_value op place a = then_go a (λ x. at_place place (result1 op x))

abbrev pub binary_value : Op2 → ℕ → Result Value Fault → Result Value Fault → Result Value Fault
binary_value op place a b = then_go a (λ x. then_go b (λ y. at_place place (result2 op x y)))

-- the value of an expression, or its first fault
abbrev pub value : View → Term → Result Value Fault
value w (Const v) = Ok v
value w (Global g) = Ok (value_at w.globals g)
value w NodeCount = Ok (count (node_count w.graph))
value w EdgeCount = Ok (count (edge_count w.graph))
value w (Field f) = Ok (value_at w.fields f)
value w Self = Ok (At (Some w.node))
value w OutDegree = Ok (count (length (out_steps w.graph w.node)))
value w InDegree = Ok (count (length (in_steps w.graph w.node)))
value w (Register r) = Ok (value_at w.registers r)
value w (Message i) = Ok (value_at w.message i)
value w Neighbour = Ok (At (Some w.near.node))
value w (Column c) = Ok (edge_value_at w.graph c w.near.edge)
value w (NodeAt a) = then_go (value w a) (λ x. Ok (node_with w.graph (number_of x)))
value w (Live place a) = then_go (value w a) (live place)
value w (Unary op place a) = unary_value op (place_of place) (value w a)
value w (Binary op place a b) = binary_value op (place_of place) (value w a) (value w b)
value w (And a b) = then_go (value w a) (λ x. if is_true x then value w b else Ok x)
value w (Or a b) = then_go (value w a) (λ x. if is_true x then Ok x else value w b)
value w (Choose c a b) = then_go (value w c) (λ x. if is_true x then value w a else value w b)

-- the values of expressions, left to right, or the first fault
abbrev pub values : View → List Term → Result (List Value) Fault
values w [] = Ok []
values w (a ∷ more) = then_go (value w a) (λ x. then_go (values w more) (λ xs. Ok (x ∷ xs)))
