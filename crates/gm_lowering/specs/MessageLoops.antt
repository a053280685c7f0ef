-- Message loops: what the handler of a message does is the inner loop's turn at its edge.
use Rattle.std.specs.Prelude.{◌≡◌, ◌<◌, ℕ, nat_eq, Bool, true, false, not, ◌&&◌, ◌||◌, Option, Some, None, List, [], ◌∷◌, length, map, filter, nat_lt}
use Rattle.std.specs.List.{list_all, list_any}
use Rattle.gm_value.specs.declared.values.VType.{VType}
use Rattle.gm_value.specs.declared.values.Value.{Value}
use Rattle.gm_value.specs.declared.values.Value.TheVariants.{At}
use Rattle.gm_value.specs.declared.reductions.Reduce.{Reduce}
use Rattle.gm_value.specs.Numbers.{zero_of}
use Rattle.gm_model.specs.Graphs.{NumberedGraph, node_count}
use Rattle.gm_ast.specs.declared.tree.Key.{Key}
use Rattle.gm_ast.specs.declared.tree.Target.{Target}
use Rattle.gm_ast.specs.declared.tree.Target.TheVariants as T
use Rattle.gm_ast.specs.Program.{Expr, Stmt}
use Rattle.gm_semantics.specs.declared.faults.Fault.{Fault}
use Rattle.gm_semantics.specs.Contributions.{Contribution}
use Rattle.gm_semantics.specs.Expressions.{View, degree_of}
use Rattle.gm_semantics.specs.Iterations.{Loop, AtEdge, Iteration, begun, view_in, turn_at, does}
use Rattle.gm_semantics.specs.Statements.{variable_at}
use Rattle.gm_semantics.specs.Stores.{Store, write}
use Rattle.gm_image.specs.Program.{Line}
use Rattle.gm_machine.specs.Expressions.{value_at}
use Rattle.gm_machine.specs.Vertex.{VertexContext, VertexState, After, begun as begin, lines_after}
use Rattle.gm_lowering.specs.Layouts.{Layout, is_global, is_register, has_value, body_positions}
use Rattle.gm_lowering.specs.Places.{Segment}
use Rattle.gm_lowering.specs.Terms.{Env, term}
use Rattle.gm_lowering.specs.Plans.{Load, SenderItself, SenderProperty, SenderDegree, EdgeValue, same_load, loads_in}
use Rattle.gm_lowering.specs.Bodies.{under, lines_of}
use Rattle.gm_lowering.specs.Blocks.{load_index, receiver_env, receiver_site}
use Rattle.gm_lowering.specs.Showing.{fault_of}
use Rattle.gm_lowering.specs.Sites.{are_of_scalars, finds, is_body, given, phase_value, IsInGraph, HoldLocals, HoldProperties, IsApart, is_local, same_length}
use Rattle.gm_lowering.specs.OwnLoops.{puts_to_scalars, folds_to, AreTyped, PicksTyped, HasSpares}
use Rattle.gm_forms.specs.Typing.{keeps_tuples}
use Rattle.gm_semantics.specs.declared.slots.Slot.TheVariants.{Scalar}
use Rattle.gm_typed_stores.specs.Tells.{TypeTable}
use Rattle.gm_forms.specs.Sharing.{are_distinct, variables_of}

-- whether a load is among some
abbrev pub has_load : List Load → Load → Bool
has_load loads x = list_any (same_load x) loads

-- a receiver finds what it reads of itself, and what the message carries
abbrev pub receiver_finds : Layout → ℕ → ℕ → List Load → Expr → Bool
receiver_finds c n i loads e = finds c (n ∷ i ∷ []) true e && list_all (has_load loads) (loads_in n e)

-- it sets no properties
abbrev pub sets_nothing : ℕ → ℕ → Bool
sets_nothing x p = false

-- it puts to scalars of the procedure, or folds
abbrev pub receiver_gives : Layout → ℕ → (Expr → Bool) → Reduce → List Target → List Expr → Bool
receiver_gives c i found r ts es = puts_to_scalars c found r ts es || folds_to c i found r ts es

-- whether a variable is a local of inner loops
abbrev pub is_inner_local : Layout → ℕ → Bool
is_inner_local c x = is_local c x && nat_lt 1 (variable_at c.declarations x).depth

-- an inner body keeps in one of its locals the better of what it holds and a value, by Min or Max
abbrev pub picks_inside : Layout → (Expr → Bool) → Reduce → List Target → List Expr → Bool
picks_inside c found r (T.Scalar x at ∷ []) (e ∷ []) = keeps_tuples r && (is_inner_local c x && found e)
picks_inside c found r _ _ = false

-- whether a target is such a local
abbrev pub is_inner_target : Layout → Target → Bool
is_inner_target c (T.Scalar x at) = is_inner_local c x
is_inner_target c (T.Property x p at) = false

-- it keeps a tuple in several of these, each named once
abbrev pub tuples_inside : Layout → (Expr → Bool) → Reduce → List Target → List Expr → Bool
tuples_inside c found r (t ∷ (u ∷ ts)) es =
    let all = t ∷ (u ∷ ts) in keeps_tuples r && (list_all (is_inner_target c) all && (are_distinct (variables_of all) && (same_length all es && list_all found es)))
tuples_inside c found r _ es = false

-- an inner body puts, folds to properties of a node, or keeps a value or a tuple
abbrev pub inner_gives : Layout → ℕ → (Expr → Bool) → Reduce → List Target → List Expr → Bool
inner_gives c i found r ts es = receiver_gives c i found r ts es || (picks_inside c found r ts es || tuples_inside c found r ts es)

-- where an inner body picks, it has types in each turn of its loop, from a node to a node
abbrev pub TurnsTyped : Layout → TypeTable → List ℕ → Option VType → Loop → ℕ → Stmt → Store → Type 0
TurnsTyped c table its result loop i body r =
    (k j : ℕ) → k < node_count loop.graph → j < node_count loop.graph
    → PicksTyped c table its result loop body (begun (write (write r (Scalar loop.outer) (At (Some k))) (Scalar i) (At (Some j))))

-- an inner body has types in each turn of its loop, whatever it does
abbrev pub TurnsAreTyped : Layout → TypeTable → List ℕ → Option VType → Loop → ℕ → Stmt → Store → Type 0
TurnsAreTyped c table its result loop i body r =
    (k j : ℕ) → k < node_count loop.graph → j < node_count loop.graph
    → AreTyped c table its result loop body (begun (write (write r (Scalar loop.outer) (At (Some k))) (Scalar i) (At (Some j))))

-- the lines of the handler of a message loop
abbrev pub handler_lines : Layout → Segment → ℕ → ℕ → List Load → ℕ → Key → Expr → Stmt → List Line
handler_lines c seg n i loads kind key test body = under (term (receiver_env c seg n i loads) key test) (lines_of (receiver_site c seg n i loads) kind body)

-- an inner loop of a loop that is evaluated at the receivers of messages: its iterators are two and no locals, it does what a receiver may, and it has spare registers for its tuples
pub record IsMessageLoop (c : Layout) (registers : List VType) (fields : ℕ) (loop : Loop) (i : ℕ) (loads : List Load) (test : Expr) (body : Stmt) : Type 0 where
  pub apart : IsApart c (length registers) fields
  pub outer : is_register (variable_at c.declarations loop.outer) ≡ false
  pub inner : is_register (variable_at c.declarations i) ≡ false
  pub two : nat_eq i loop.outer ≡ false
  pub types : (x : ℕ) → loop.vtype x ≡ (variable_at c.declarations x).vtype
  pub depths : (x : ℕ) → loop.depth x ≡ (variable_at c.declarations x).depth
  pub found : receiver_finds c loop.outer i loads test ≡ true
  pub fits : is_body c (receiver_finds c loop.outer i loads) sets_nothing (inner_gives c i (receiver_finds c loop.outer i loads)) body ≡ true
  pub spares : HasSpares c (length registers) (body_positions c.declarations body)

-- what a load has: at a sender, and along an edge
abbrev pub load_value : View → ℕ → Load → Value
load_value w k SenderItself = At (Some k)
load_value w k (SenderProperty p) = w.store.node p k
load_value w k (SenderDegree d) = degree_of w d k
load_value w k (EdgeValue p) = w.store.edge p w.edge

-- a message carries its loads
abbrev pub Carries : List Load → View → ℕ → List Value → Type 0
Carries loads w k message = (x : Load) → has_load loads x ≡ true → value_at message (load_index x loads) ≡ load_value w k x

-- whether a contribution goes to scalars, or to properties
abbrev pub is_to_scalars : Contribution → Bool
is_to_scalars x = are_of_scalars x.slots

abbrev pub is_to_nodes : Contribution → Bool
is_to_nodes x = not (is_to_scalars x)

-- what a vertex has given is what a turn has given: puts to scalars, and folds to its own properties
pub record ReceiverGave (c : Layout) (v : Env) (it : Iteration) (w : VertexState) : Type 0 where
  pub puts : w.puts ≡ map (given c v) (filter is_to_scalars it.with_outermost)
  pub folds : w.folds ≡ map (given c v) (filter is_to_nodes it.with_outermost)
  pub messages : w.messages ≡ []
  pub inner : it.with_inner ≡ []
  pub deferred : it.deferred ≡ []

-- a vertex before the handler of a message shows the store of a turn from node k to it: what it sees, its properties, and what the message carries
pub record MessageShows (c : Layout) (g : NumberedGraph) (registers : List VType) (fields : ℕ) (globals values message : List Value) (n : ℕ) (loads : List Load) (w : View) (k j : ℕ) (r : Store) : Type 0 where
  pub scalar : (x : ℕ) → nat_eq x n ≡ false → x < length c.declarations → is_register (variable_at c.declarations x) ≡ false → has_value (variable_at c.declarations x) ≡ true
      → phase_value c globals x ≡ r.scalar x
  pub in_graph : (x : ℕ) → nat_eq x n ≡ false → x < length c.declarations → is_global (variable_at c.declarations x) ≡ true → IsInGraph g (r.scalar x)
  pub sender : r.scalar n ≡ At (Some k)
  pub locals : HoldLocals c (map zero_of registers) r
  pub properties : HoldProperties c values j r
  pub field_count : length values ≡ fields
  pub from_inside : k < node_count g
  pub inside : j < node_count g
  pub carries : Carries loads w k message

-- how the run of a handler ends that stands for a turn
abbrev pub RunEnds : Layout → Env → Iteration → After → Option Fault → Type 0
RunEnds c v it a None = (a.fault ≡ None) × ReceiverGave c v it a.state
RunEnds c v it a (Some f) = (a.fault ≡ Some (fault_of v f)) × ReceiverGave c v it a.state

-- the run of the handler of a message is the inner loop's turn at its edge, where what it picks has types
abbrev pub HandlersAreTurns : Type 0
HandlersAreTurns =
    (c : Layout) (seg : Segment) (registers : List VType) (fields : ℕ) (loop : Loop) (i : ℕ) (loads : List Load) (kind : ℕ) (key : Key) (test : Expr) (body : Stmt)
    (s : VertexContext) (values : List Value) (k edge : ℕ) (r : Store) (table : TypeTable) (its : List ℕ) (result : Option VType)
    → IsMessageLoop c registers fields loop i loads test body
    → PicksTyped c table its result loop body (begun (write r (Scalar i) (At (Some s.node))))
    → s.graph ≡ loop.graph
    → MessageShows c loop.graph registers fields s.globals values s.message loop.outer loads (view_in loop (AtEdge edge) (begun r) key) k s.node r
    → let it = turn_at loop (AtEdge edge) key test (does body (AtEdge edge) loop) i s.node r in
    RunEnds c (receiver_env c seg loop.outer i loads) it (lines_after s (handler_lines c seg loop.outer i loads kind key test body) 0 (begin registers values)) it.fault
