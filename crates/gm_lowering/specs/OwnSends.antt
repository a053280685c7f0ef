-- Own loops whose bodies send through node variables: the step of a vertex is the loop's iteration, up to what is sent.
use Rattle.std.specs.Prelude.{◌≡◌, ◌≤◌, ℕ, Bool, true, false, ◌||◌, Option, Some, None, List, [], ◌∷◌, length, map, filter}
use Rattle.gm_value.specs.declared.values.VType.{VType}
use Rattle.gm_value.specs.declared.values.Value.{Value}
use Rattle.gm_value.specs.declared.values.Value.TheVariants.{At}
use Rattle.gm_value.specs.declared.reductions.Reduce.{Reduce}
use Rattle.gm_model.specs.Graphs.{NumberedGraph, node_count}
use Rattle.gm_ast.specs.declared.tree.Key.{Key}
use Rattle.gm_ast.specs.declared.tree.Target.{Target}
use Rattle.gm_ast.specs.Program.{Expr, Stmt}
use Rattle.gm_semantics.specs.declared.slots.Slot.TheVariants.{Scalar}
use Rattle.gm_semantics.specs.Iterations.{Loop, Iteration, begun}
use Rattle.gm_semantics.specs.Loops.{iteration}
use Rattle.gm_semantics.specs.Statements.{variable_at}
use Rattle.gm_semantics.specs.Stores.{Store, write}
use Rattle.gm_typed_stores.specs.Tells.{TypeTable}
use Rattle.gm_image.specs.Program.{Program}
use Rattle.gm_machine.specs.Machine.{context_at}
use Rattle.gm_machine.specs.Vertex.{VertexState, After, vertex_after}
use Rattle.gm_lowering.specs.Layouts.{Layout, is_register, body_positions}
use Rattle.gm_lowering.specs.Places.{Segment}
use Rattle.gm_lowering.specs.Terms.{Env, own_env}
use Rattle.gm_lowering.specs.Plans.{Away, aways}
use Rattle.gm_lowering.specs.Sites.{is_body, given, HoldProperties, IsApart}
use Rattle.gm_lowering.specs.OwnLoops.{own_finds, own_sets, own_gives, own_block, fold_spots, HaveIndices, HasSpares, AreTyped, NodeShows}
use Rattle.gm_lowering.specs.MessageLoops.{is_to_scalars, is_to_nodes}
use Rattle.gm_lowering.specs.Settles.{fault_or_none}
use Rattle.gm_lowering.specs.Sent.{sends_through, AreSent}

-- an own body reduces as one that sends nothing, or sends
abbrev pub sending_gives : Layout → ℕ → (Expr → Bool) → Reduce → List Target → List Expr → Bool
sending_gives c n found r ts es = own_gives c n found r ts es || sends_through c (n ∷ []) found r ts es

-- an own loop that is lowered and may send: its iterator is no local, it does what such a body may, and it has spare registers for its tuples
pub record IsSendingOwnLoop (c : Layout) (registers : List VType) (fields : ℕ) (loop : Loop) (test : Expr) (body : Stmt) : Type 0 where
  pub apart : IsApart c (length registers) fields
  pub iterator : is_register (variable_at c.declarations loop.outer) ≡ false
  pub types : (x : ℕ) → loop.vtype x ≡ (variable_at c.declarations x).vtype
  pub depths : (x : ℕ) → loop.depth x ≡ (variable_at c.declarations x).depth
  pub found : own_finds c loop.outer test ≡ true
  pub fits : is_body c (own_finds c loop.outer) (own_sets c loop.outer) (sending_gives c loop.outer (own_finds c loop.outer)) body ≡ true
  pub spares : HasSpares c (length registers) (body_positions c.declarations body)

-- what a vertex has given is what an iteration has given: puts to scalars, and messages for the rest
pub record OwnSent (c : Layout) (v : Env) (kind : ℕ) (as' : List Away) (g : NumberedGraph) (it : Iteration) (w : VertexState) : Type 0 where
  pub puts : w.puts ≡ map (given c v) (filter is_to_scalars it.with_outermost)
  pub folds : w.folds ≡ []
  pub carried : AreSent kind as' g (filter is_to_nodes it.with_outermost) w.messages
  pub inner : it.with_inner ≡ []
  pub deferred : it.deferred ≡ []

-- a vertex does what an iteration does: it has the iteration's fault, puts what goes to scalars, and sends the rest, also before a fault. Without a fault its fields hold what the iteration left
pub record OwnSends (c : Layout) (v : Env) (kind : ℕ) (as' : List Away) (g : NumberedGraph) (fields k : ℕ) (it : Iteration) (a : After) : Type 0 where
  pub fault : a.fault ≡ fault_or_none v it.fault
  pub sent : OwnSent c v kind as' g it a.state
  pub properties : it.fault ≡ None → HoldProperties c a.state.fields k it.store
  pub field_count : it.fault ≡ None → length a.state.fields ≡ fields

-- the step of each vertex with the block of an own loop that may send is the loop's iteration there, where the places of its folds have indices, and the body and the store have types whose nodes are those of the graph
abbrev pub SendingOwnStepsAreIterations : Type 0
SendingOwnStepsAreIterations =
    (c : Layout) (seg : Segment) (p : Program) (fields : ℕ) (loop : Loop) (kind : ℕ) (key : Key) (test : Expr) (body : Stmt) (globals values : List Value) (k : ℕ) (r : Store) (table : TypeTable) (its : List ℕ) (result : Option VType)
    → IsSendingOwnLoop c p.registers fields loop test body
    → HaveIndices seg (length p.places) (fold_spots c loop.outer body)
    → AreTyped c table its result loop body (begun (write r (Scalar loop.outer) (At (Some k))))
    → table.limit ≤ node_count loop.graph
    → NodeShows c loop.graph p.registers fields globals values k r
    → OwnSends c (own_env c seg loop.outer) kind (aways c.declarations loop.outer body) loop.graph fields k (iteration loop key test body r k)
    (vertex_after p (own_block c seg loop.outer kind key test body) (context_at loop.graph globals k) [] values)
