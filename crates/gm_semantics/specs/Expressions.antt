-- The value of an expression, or its fault.
use Rattle.std.specs.Prelude.{ℕ, Bool, true, if◌then◌else◌, pos, List, [], ◌∷◌, map, filter, length, Option, Some, None, Result, Ok, Err}
use Rattle.gm_base.specs.declared.places.Place.{Place}
use Rattle.gm_value.specs.declared.values.Value.{Value}
use Rattle.gm_value.specs.declared.values.Value.TheVariants.{I32, At}
use Rattle.gm_value.specs.declared.faults.FaultKind.{FaultKind}
use Rattle.gm_value.specs.declared.faults.FaultKind.TheVariants.{NilNode}
use Rattle.gm_value.specs.declared.reductions.Reduce.{Reduce}
use Rattle.gm_value.specs.declared.reductions.Reduce.TheVariants as R
use Rattle.gm_value.specs.Numbers.{value_at}
use Rattle.gm_value.specs.Operations.{is_true, result1, result2}
use Rattle.gm_value.specs.Reductions.{unit_of, close}
use Rattle.gm_model.specs.Graphs.{NumberedGraph, Step, node_count, edge_count, out_steps, in_steps}
use Rattle.gm_ast.specs.declared.surface.ReductionWord.{ReductionWord}
use Rattle.gm_ast.specs.declared.surface.ReductionWord.TheVariants.{Sum, Product, Min, Max, Count, Exist, All}
use Rattle.gm_ast.specs.declared.tree.Key.{Key}
use Rattle.gm_ast.specs.declared.tree.Head.{Head}
use Rattle.gm_ast.specs.declared.tree.Fold.{Fold}
use Rattle.gm_ast.specs.declared.tree.Domain.{Domain}
use Rattle.gm_ast.specs.declared.tree.Domain.TheVariants.{Nodes, OutNbrs, InNbrs, UpNbrs, DownNbrs}
use Rattle.gm_ast.specs.declared.tree.Direction.{Direction}
use Rattle.gm_ast.specs.declared.tree.Direction.TheVariants.{Out, In}
use Rattle.gm_ast.specs.Program.{Expr, Const, Var, Property, EdgeProperty, Degree, NodeCount, EdgeCount, Live, Unary, Binary, Both, Either, Choose, Folded}
use Rattle.gm_semantics.specs.declared.faults.Fault.{Fault}
use Rattle.gm_semantics.specs.declared.slots.Slot.TheVariants.{Scalar}
use Rattle.gm_semantics.specs.Levels.{node_steps, node_in, is_next}
use Rattle.gm_semantics.specs.Stores.{Store, write}
use Rattle.gm_semantics.specs.Faults.{least, first, then_with, unless_fault, fault_of, oks, errs, joined, of_total}

-- a value or a fault
abbrev pub Answer : Type 0
Answer = Result Value Fault

-- what an expression sees: the graph, the levels of the search around it, whether it is parallel code, the store, the edge of the inner loop around it, and the key of its operators' faults
pub record View : Type 0 where
  pub graph : NumberedGraph
  pub levels : ℕ → Option ℕ
  pub parallel : Bool
  pub store : Store
  pub edge : ℕ
  pub key : Key

-- an operator's fault at a place
abbrev pub fault_at : View → Place → FaultKind → Fault
fault_at w at k = record { kind = k; shown = at; key = w.key; place = at }

-- an operation's result, or its fault at its place
abbrev pub located : View → Place → Result Value FaultKind → Answer
located w at (Ok v) = Ok v
located w at (Err k) = Err (fault_at w at k)

-- the node that a variable holds, or NilNode at the variable's place
abbrev pub node_held : View → Place → Option ℕ → Result ℕ Fault
node_held w at (Some n) = Ok n
node_held w at None = Err (fault_at w at NilNode)

-- the node that a variable holds
abbrev pub node_of : View → ℕ → Place → Result ℕ Fault
node_of w x at = node_held w at (node_in w.graph (w.store.scalar x))

-- what stands at the node that a variable holds
abbrev pub at_node : View → ℕ → Place → (ℕ → Value) → Answer
at_node w x at f = then_with (node_of w x at) (λ n. Ok (f n))

-- the steps from a node; from none there are none
abbrev pub steps_from : Option ℕ → (ℕ → List Step) → List Step
steps_from (Some n) f = f n
steps_from None f = []

-- the steps of a range from a node, one for each iteration: each edge of a neighbour is one
abbrev pub steps_of : View → Domain → Option ℕ → List Step
steps_of w Nodes owner = node_steps w.graph
steps_of w OutNbrs owner = steps_from owner (out_steps w.graph)
steps_of w InNbrs owner = steps_from owner (in_steps w.graph)
steps_of w UpNbrs owner = steps_from owner (λ n. filter (λ s. is_next (w.levels s.node) (w.levels n)) (in_steps w.graph n))
steps_of w DownNbrs owner = steps_from owner (λ n. filter (λ s. is_next (w.levels n) (w.levels s.node)) (out_steps w.graph n))

-- the steps of a loop or a reduction
abbrev pub steps_in : View → Head → List Step
steps_in w head = steps_of w head.domain (node_in w.graph (w.store.scalar head.owner))

-- how many edges lead from a node, or to it
abbrev pub degree_of : View → Direction → ℕ → Value
degree_of w Out n = I32 (pos (length (out_steps w.graph n)))
degree_of w In n = I32 (pos (length (in_steps w.graph n)))

-- the view of a reduction's filter or braces at an element
abbrev pub entered : View → Head → Step → Key → View
entered w head s key = record w { parallel = true; key = key; store = write w.store (Scalar head.iterator) (At (Some s.node)) }

-- the reduction that a word stands for
abbrev pub reduce_of : ReductionWord → Reduce
reduce_of Sum = R.Sum
reduce_of Product = R.Product
reduce_of Min = R.Min
reduce_of Max = R.Max
reduce_of Count = R.Sum
reduce_of Exist = R.Or
reduce_of All = R.And

-- what an element's value puts into the bag: for Count a 1 where it is True
abbrev pub members_of : ReductionWord → Value → List Value
members_of Count v = if is_true v then I32 (pos 1) ∷ [] else []
members_of _ v = v ∷ []

-- what an element puts into the bag: nothing where the filter does not pass it
abbrev pub element : ReductionWord → Answer → Answer → Result (List Value) Fault
element word passed body = then_with passed (λ p. if is_true p then then_with body (λ v. Ok (members_of word v)) else Ok [])

-- a bag's total, closed onto the unit of the reduction's type
abbrev pub closed : Fold → List Value → Answer
closed f bag = let r = reduce_of f.word in of_total f.total (close r (value_at f.vtype (unit_of r f.vtype)) bag)

-- a reduction of its elements: their least fault, or else their total
abbrev pub reduction : Fold → List (Result (List Value) Fault) → Answer
reduction f elements = unless_fault (least (errs elements)) (closed f (joined (oks elements)))

-- an expression's meaning in two parts: the first fault of what is hoisted, and what the rest gives
pub record Evaluated : Type 0 where
  pub hoisted : Option Fault
  pub rest : Answer

-- the value of both parts
abbrev pub settled : Evaluated → Answer
settled e = unless_fault e.hoisted e.rest

-- an answer of the rest
abbrev pub plain : Answer → Evaluated
plain a = record { hoisted = None; rest = a }

-- an answer that is hoisted
abbrev pub early : Answer → Evaluated
early a = record { hoisted = fault_of a; rest = a }

-- a read through a node variable, which a sequential phase hoists
abbrev pub node_read : View → Answer → Evaluated
node_read w a = if w.parallel then plain a else early a

-- an operation on one part
abbrev pub one_of : Evaluated → (Value → Answer) → Evaluated
one_of a f = record { hoisted = a.hoisted; rest = then_with a.rest f }

-- an operation on two parts: what is hoisted of both comes before the rest of both
abbrev pub two_of : Evaluated → Evaluated → (Value → Value → Answer) → Evaluated
two_of a b f = record { hoisted = first a.hoisted b.hoisted; rest = then_with a.rest (λ x. then_with b.rest (f x)) }

-- `&&`, which asks the right side where the left is True
abbrev pub both : Evaluated → Evaluated → Evaluated
both a b = record { hoisted = first a.hoisted b.hoisted; rest = then_with a.rest (λ x. if is_true x then b.rest else Ok x) }

-- `||`, which asks the right side where the left is False
abbrev pub either : Evaluated → Evaluated → Evaluated
either a b = record { hoisted = first a.hoisted b.hoisted; rest = then_with a.rest (λ x. if is_true x then Ok x else b.rest) }

-- `?:`, which asks one of its branches
abbrev pub choice : Evaluated → Evaluated → Evaluated → Evaluated
choice c a b = record {
  hoisted = first c.hoisted (first a.hoisted b.hoisted);
  rest = then_with c.rest (λ x. if is_true x then a.rest else b.rest);
}

-- the meaning of an expression in a view
abbrev pub evaluated : Expr → View → Evaluated
evaluated (Const v) w = plain (Ok v)
evaluated (Var x at) w = plain (Ok (w.store.scalar x))
evaluated (Property x p at) w = node_read w (at_node w x at (w.store.node p))
evaluated (EdgeProperty x p at) w = plain (Ok (w.store.edge p w.edge))
evaluated (Degree d x at) w = node_read w (at_node w x at (degree_of w d))
evaluated NodeCount w = plain (Ok (I32 (pos (node_count w.graph))))
evaluated EdgeCount w = plain (Ok (I32 (pos (edge_count w.graph))))
evaluated (Live x at) w = node_read w (at_node w x at (λ n. At (Some n)))
evaluated (Unary op at e) w = one_of (evaluated e w) (λ v. located w at (result1 op v))
evaluated (Binary op at a b) w = two_of (evaluated a w) (evaluated b w) (λ x y. located w at (result2 op x y))
evaluated (Both a b) w = both (evaluated a w) (evaluated b w)
evaluated (Either a b) w = either (evaluated a w) (evaluated b w)
evaluated (Choose c a b) w = choice (evaluated c w) (evaluated a w) (evaluated b w)
evaluated (Folded f head test e) w =
    early (reduction f (map (λ s. element f.word (settled (evaluated test (entered w head s f.filter))) (settled (evaluated e (entered w head s f.body)))) (steps_in w head)))

-- the value of an expression, or its fault
abbrev pub value : Expr → View → Answer
value e w = settled (evaluated e w)

-- the meaning of several expressions in two parts, in order
pub record AllEvaluated : Type 0 where
  pub hoisted : Option Fault
  pub rest : Result (List Value) Fault

-- one more expression before others: what is hoisted of all comes before the rest of all
abbrev pub and_all : Evaluated → AllEvaluated → AllEvaluated
and_all a b = record { hoisted = first a.hoisted b.hoisted; rest = then_with a.rest (λ x. then_with b.rest (λ xs. Ok (x ∷ xs))) }

-- the meaning of several expressions, from left to right
abbrev pub evaluated_all : List Expr → View → AllEvaluated
evaluated_all [] w = record { hoisted = None; rest = Ok [] }
evaluated_all (e ∷ es) w = and_all (evaluated e w) (evaluated_all es w)
