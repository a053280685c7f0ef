-- What a body does in one iteration of a parallel loop.
use Rattle.std.specs.Prelude.{ℕ, zero, suc, nat_eq, Bool, true, false, if◌then◌else◌, List, [], ◌∷◌, ◌++◌, map, Option, Some, None, Result, Ok, Err}
use Rattle.gm_base.specs.declared.places.Place.{Place}
use Rattle.gm_value.specs.declared.values.VType.{VType}
use Rattle.gm_value.specs.declared.values.Value.{Value}
use Rattle.gm_value.specs.declared.values.Value.TheVariants.{At}
use Rattle.gm_value.specs.declared.faults.FaultKind.TheVariants.{Overflow}
use Rattle.gm_value.specs.declared.reductions.Reduce.{Reduce}
use Rattle.gm_value.specs.declared.reductions.Reduce.TheVariants.{And, Or}
use Rattle.gm_value.specs.Numbers.{zero_of}
use Rattle.gm_value.specs.Operations.{is_true}
use Rattle.gm_value.specs.Reductions.{close}
use Rattle.gm_value.specs.Tuples.{close_slots}
use Rattle.gm_model.specs.Graphs.{NumberedGraph}
use Rattle.gm_ast.specs.declared.tree.Key.{Key}
use Rattle.gm_ast.specs.declared.tree.TotalKey.{TotalKey}
use Rattle.gm_ast.specs.declared.tree.Target.{Target}
use Rattle.gm_ast.specs.declared.tree.Target.TheVariants as T
use Rattle.gm_ast.specs.Program.{Expr, Var, Property, Stmt, Skip, Then, Declare, Assign, Defer, Combine, Foreach, If}
use Rattle.gm_semantics.specs.declared.faults.Fault.{Fault}
use Rattle.gm_semantics.specs.declared.slots.Slot.{Slot}
use Rattle.gm_semantics.specs.declared.slots.Slot.TheVariants.{Scalar, Node}
use Rattle.gm_semantics.specs.declared.slots.Write.{Write}
use Rattle.gm_semantics.specs.Stores.{Store, write, write_all}
use Rattle.gm_semantics.specs.Faults.{least, first, then_with, unless_fault, somes, joined}
use Rattle.gm_semantics.specs.Expressions.{View, Evaluated, AllEvaluated, evaluated, evaluated_all, value, steps_in, node_of, located, fault_at, two_of, both, either}
use Rattle.gm_semantics.specs.Contributions.{Contribution, settled_store, total_faults}

-- when a reduction assignment takes effect
pub data Ends : Type 0 where
  AtOnce WithInner WithOutermost : Ends

-- what stays the same over an outermost loop: the graph, the levels of the search around it, how many loops stand around each variable's declaration, the variables' types, the loop's iterator, and the properties that it reduces through other nodes
pub record Loop : Type 0 where
  pub graph : NumberedGraph
  pub levels : ℕ → Option ℕ
  pub depth : ℕ → ℕ
  pub vtype : ℕ → VType
  pub outer : ℕ
  pub pushed : ℕ → Bool

-- an iteration so far: the store that it sees, its contributions that end with the inner loop and those that end with the outermost one, its deferred writes, and its fault
pub record Iteration : Type 0 where
  pub store : Store
  pub with_inner : List Contribution
  pub with_outermost : List Contribution
  pub deferred : List Write
  pub fault : Option Fault

-- an iteration that begins with a store
abbrev pub begun : Store → Iteration
begun s = record { store = s; with_inner = []; with_outermost = []; deferred = []; fault = None }

-- an iteration that ends with a fault
abbrev pub failed : Iteration → Fault → Iteration
failed it f = record it { fault = Some f }

-- the next part, unless there was a fault
abbrev pub unless_failed : Option Fault → Iteration → (Iteration → Iteration) → Iteration
unless_failed (Some f) it next = it
unless_failed None it next = next it

-- the next statement, unless this one faulted
abbrev pub go_on : Iteration → (Iteration → Iteration) → Iteration
go_on it next = unless_failed it.fault it next

-- goes on with a value, or ends with a fault
abbrev pub with_ok : {A : Type 0} → Iteration → Result A Fault → (A → Iteration) → Iteration
with_ok it (Ok a) next = next a
with_ok it (Err f) next = failed it f

-- the first way where a test holds, else the second
abbrev pub one_way : Bool → (Iteration → Iteration) → (Iteration → Iteration) → Iteration → Iteration
one_way true a b it = a it
one_way false a b it = b it

-- nothing more
abbrev pub as_it_is : Iteration → Iteration
as_it_is it = it

-- where a body stands: it is an outer body, or an inner one at an edge
pub data Mode : Type 0 where
  Outermost : Mode
  AtEdge : (edge : ℕ) → Mode

-- the edge that a body sees
abbrev pub edge_of : Mode → ℕ
edge_of Outermost = 0
edge_of (AtEdge e) = e

-- what the operators of a statement see
abbrev pub view_in : Loop → Mode → Iteration → Key → View
view_in loop m it key = record { graph = loop.graph; levels = loop.levels; parallel = true; store = it.store; edge = edge_of m; key = key }

-- the slot of a target, or NilNode at its node variable
abbrev pub slot_of : View → Target → Result Slot Fault
slot_of w (T.Scalar x at) = Ok (Scalar x)
slot_of w (T.Property x p at) = then_with (node_of w x at) (λ n. Ok (Node p n))

-- a slot and the value for it: what is hoisted of the value, then the target, then the rest of the value
abbrev pub assigned : View → Target → Evaluated → Result (Slot × Value) Fault
assigned w t v = unless_fault v.hoisted (then_with (slot_of w t) (λ s. then_with v.rest (λ x. Ok (s, x))))

-- a target as a value that is read
abbrev pub target_value : Target → Expr
target_value (T.Scalar x at) = Var x at
target_value (T.Property x p at) = Property x p at

-- a value combined with another by a reduction's operator at a place. The operators of And and Or ask the other only where the first leaves it open
abbrev pub combined_by : Reduce → View → Place → Evaluated → Evaluated → Evaluated
combined_by And w at a b = both a b
combined_by Or w at a b = either a b
combined_by r w at a b = two_of a b (λ x y. located w at (close r x (y ∷ [])))

-- the slots of targets, or NilNode at the first node variable that holds none
abbrev pub slots_of : View → List Target → Result (List Slot) Fault
slots_of w [] = Ok []
slots_of w (t ∷ ts) = then_with (slot_of w t) (λ s. then_with (slots_of w ts) (λ ss. Ok (s ∷ ss)))

-- slots and the values for them: what is hoisted of the values, then the targets, then the rest of the values
abbrev pub assigned_all : View → List Target → AllEvaluated → Result (List Slot × List Value) Fault
assigned_all w ts v = unless_fault v.hoisted (then_with (slots_of w ts) (λ ss. then_with v.rest (λ xs. Ok (ss, xs))))

-- held values after one tuple was taken, or Overflow at a place
abbrev pub tuple_held : View → Place → Option (List Value) → Result (List Value) Fault
tuple_held w at (Some vs) = Ok vs
tuple_held w at None = Err (fault_at w at Overflow)

-- held values closed with a tuple at a place
abbrev pub closed_by : Reduce → View → Place → AllEvaluated → AllEvaluated → AllEvaluated
closed_by r w at a b = record {
  hoisted = first a.hoisted b.hoisted;
  rest = then_with a.rest (λ held. then_with b.rest (λ vs. tuple_held w at (close_slots r held (vs ∷ []))));
}

-- one slot and its value as lists
abbrev pub alone : Result (Slot × Value) Fault → Result (List Slot × List Value) Fault
alone answer = then_with answer (λ p. Ok (p.0 ∷ [], p.1 ∷ []))

-- several targets that take the tuple of the values at once, or keep the one that they hold
abbrev pub together : View → Place → Reduce → List Target → List Expr → Result (List Slot × List Value) Fault
together w at r ts es = assigned_all w ts (closed_by r w at (evaluated_all (map target_value ts) w) (evaluated_all es w))

-- a reduction assignment that is done at once, with the operator at a place: of one target it is `x = x op e` word for word
abbrev pub at_once : View → Place → Reduce → List Target → List Expr → Result (List Slot × List Value) Fault
at_once w at r (t ∷ []) (e ∷ []) = alone (assigned w t (combined_by r w at (evaluated (target_value t) w) (evaluated e w)))
at_once w at r ts es = together w at r ts es

-- when a reduction to a scalar ends, by the loops around the scalar's declaration: to a local of the same body at once, to one of the outer body with the inner loop
abbrev pub scalar_ends : Mode → ℕ → Ends
scalar_ends m zero = WithOutermost
scalar_ends Outermost (suc k) = AtOnce
scalar_ends (AtEdge e) (suc zero) = WithInner
scalar_ends (AtEdge e) (suc (suc k)) = AtOnce

-- when a reduction to a property of the outer iterator ends: in the outer body at once, in an inner one with the inner loop, unless the loop also reduces the property through other nodes
abbrev pub own_ends : Mode → Bool → Ends
own_ends Outermost pushed = AtOnce
own_ends (AtEdge e) true = WithOutermost
own_ends (AtEdge e) false = WithInner

-- when a reduction to a target ends
abbrev pub ends_of : Mode → Loop → Target → Ends
ends_of m loop (T.Scalar x at) = scalar_ends m (loop.depth x)
ends_of m loop (T.Property x p at) = if nat_eq x loop.outer then own_ends m (loop.pushed p) else WithOutermost

-- the later of two ends
abbrev pub later : Ends → Ends → Ends
later e AtOnce = e
later AtOnce e = e
later WithOutermost WithInner = WithOutermost
later e f = f

-- when a reduction to targets ends: as late as the latest of them would
abbrev pub ends_of_all : Mode → Loop → List Target → Ends
ends_of_all m loop [] = AtOnce
ends_of_all m loop (t ∷ ts) = later (ends_of m loop t) (ends_of_all m loop ts)

-- a write that the iteration sees from then on
abbrev pub wrote : Iteration → Slot × Value → Iteration
wrote it p = record it { store = write it.store p.0 p.1 }

-- writes that the iteration sees from then on
abbrev pub wrote_all : Iteration → List Slot × List Value → Iteration
wrote_all it p = record it { store = write_all it.store p.0 p.1 }

-- a contribution
abbrev pub contribution : TotalKey → Reduce → List Slot × List Value → Contribution
contribution total r p = record { total = total; reduce = r; slots = p.0; values = p.1 }

-- one more contribution that ends with the inner loop, or with the outermost one
abbrev pub gave_inner : Iteration → Contribution → Iteration
gave_inner it c = record it { with_inner = it.with_inner ++ c ∷ [] }

abbrev pub gave_outermost : Iteration → Contribution → Iteration
gave_outermost it c = record it { with_outermost = it.with_outermost ++ c ∷ [] }

-- one more deferred write
abbrev pub deferred_to : Iteration → Slot × Value → Iteration
deferred_to it p = record it { deferred = it.deferred ++ record { slot = p.0; value = p.1 } ∷ [] }

-- a reduction assignment: a write at once, or a contribution
abbrev pub reduced : Ends → View → Iteration → TotalKey → Reduce → List Target → List Expr → Iteration
reduced AtOnce w it total r ts es = with_ok it (at_once w total.place r ts es) (wrote_all it)
reduced WithInner w it total r ts es = with_ok it (assigned_all w ts (evaluated_all es w)) (λ p. gave_inner it (contribution total r p))
reduced WithOutermost w it total r ts es = with_ok it (assigned_all w ts (evaluated_all es w)) (λ p. gave_outermost it (contribution total r p))

-- what an outer body alone does
abbrev pub outer_only : Mode → (Iteration → Iteration) → Iteration → Iteration
outer_only Outermost go it = go it
outer_only (AtEdge e) go it = it

-- the end of an inner loop: what ends with it is taken, and the rest goes on. Its fault is the least of its iterations and of their totals
abbrev pub inner_done : Iteration → List Iteration → Iteration
inner_done it turns =
    let ended = joined (map (λ t. t.with_inner) turns) in
    record it {
      store = settled_store it.store ended;
      with_outermost = it.with_outermost ++ joined (map (λ t. t.with_outermost) turns);
      fault = least (somes (map (λ t. t.fault) turns) ++ total_faults it.store ended);
    }

-- an iteration at a node: it begins with the node in the iterator, and its body runs where the filter passes it
abbrev pub turn_at : Loop → Mode → Key → Expr → (Iteration → Iteration) → ℕ → ℕ → Store → Iteration
turn_at loop m key test body iterator n s =
    let start = begun (write s (Scalar iterator) (At (Some n))) in
    with_ok start (value test (view_in loop m start key)) (λ v. one_way (is_true v) body as_it_is start)

-- what a statement of a body does
abbrev pub does : Stmt → Mode → Loop → Iteration → Iteration
does Skip m loop it = it
does (Then a b) m loop it = go_on (does a m loop it) (does b m loop)
does (Declare key x None) m loop it = wrote it (Scalar x, zero_of (loop.vtype x))
does (Declare key x (Some e)) m loop it = with_ok it (value e (view_in loop m it key)) (λ v. wrote it (Scalar x, v))
does (Assign key t e) m loop it = let w = view_in loop m it key in with_ok it (assigned w t (evaluated e w)) (wrote it)
does (Defer key t e) m loop it =
    outer_only m (λ it. let w = view_in loop m it key in with_ok it (assigned w t (evaluated e w)) (deferred_to it)) it
does (Combine key total r ts es) m loop it = reduced (ends_of_all m loop ts) (view_in loop m it key) it total r ts es
does (If key test a b) m loop it =
    with_ok it (value test (view_in loop m it key)) (λ v. one_way (is_true v) (does a m loop) (does b m loop) it)
does (Foreach key at head test body) m loop it =
    outer_only m (λ it. inner_done it (map (λ step. turn_at loop (AtEdge step.edge) key test (does body (AtEdge step.edge) loop) head.iterator step.node it.store) (steps_in (view_in loop m it key) head))) it
does _ m loop it = it
