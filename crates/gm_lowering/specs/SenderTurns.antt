-- Inner loops that are evaluated at the outer node and send, along the edges or through node variables: the lines of an each, at an edge, are the inner loop's turn there.
use Rattle.std.specs.Prelude.{◌≡◌, ◌≤◌, ℕ, nat_eq, false, true, Option, Some, None, List, [], ◌++◌, length, map, filter}
use Rattle.gm_value.specs.declared.values.VType.{VType}
use Rattle.gm_value.specs.declared.values.Value.TheVariants.{At}
use Rattle.gm_value.specs.Numbers.{zero_of}
use Rattle.gm_model.specs.Graphs.{NumberedGraph, node_count}
use Rattle.gm_ast.specs.declared.tree.Key.{Key}
use Rattle.gm_ast.specs.Program.{Expr, Stmt}
use Rattle.gm_forms.specs.Typing.{type_at}
use Rattle.gm_semantics.specs.declared.faults.Fault.{Fault}
use Rattle.gm_semantics.specs.declared.slots.Slot.TheVariants.{Scalar}
use Rattle.gm_semantics.specs.Iterations.{Loop, AtEdge, Iteration, begun, turn_at, does}
use Rattle.gm_semantics.specs.Statements.{variable_at}
use Rattle.gm_semantics.specs.Stores.{Store, write}
use Rattle.gm_typed_stores.specs.Tells.{TypeTable}
use Rattle.gm_machine.specs.Expressions.{value_at}
use Rattle.gm_machine.specs.Vertex.{Message, VertexContext, VertexState, After, lines_after}
use Rattle.gm_lowering.specs.Layouts.{Layout, is_register, body_positions}
use Rattle.gm_lowering.specs.Places.{Segment}
use Rattle.gm_lowering.specs.Terms.{Env, each_env}
use Rattle.gm_lowering.specs.Plans.{Away, aways}
use Rattle.gm_lowering.specs.Blocks.{reads_scalar}
use Rattle.gm_lowering.specs.Showing.{fault_of}
use Rattle.gm_lowering.specs.Sites.{is_body, is_local, given, IsApart}
use Rattle.gm_lowering.specs.OwnLoops.{AreTyped, HasSpares}
use Rattle.gm_lowering.specs.MessageLoops.{sets_nothing, is_to_scalars, is_to_nodes}
use Rattle.gm_lowering.specs.HomeTurns.{home_finds, home_lines, EdgeShows}
use Rattle.gm_lowering.specs.Sent.{sender_gives, AreSent}

-- an inner loop of a loop that is evaluated at the outer node and reduces to scalars of the procedure, to properties of the inner iterator and through node variables, and at once to its locals: its iterators are two and no locals, its filter reads no locals, registers begin with the first values of their locals, and it has spare registers for its tuples
pub record IsSenderLoop (c : Layout) (registers : List VType) (fields : ℕ) (loop : Loop) (i : ℕ) (test : Expr) (body : Stmt) : Type 0 where
  pub apart : IsApart c (length registers) fields
  pub outer : is_register (variable_at c.declarations loop.outer) ≡ false
  pub inner : is_register (variable_at c.declarations i) ≡ false
  pub two : nat_eq i loop.outer ≡ false
  pub types : (x : ℕ) → loop.vtype x ≡ (variable_at c.declarations x).vtype
  pub depths : (x : ℕ) → loop.depth x ≡ (variable_at c.declarations x).depth
  pub firsts : (x : ℕ) → is_local c x ≡ true → value_at (map zero_of registers) (c.register x) ≡ zero_of (type_at c.declarations x)
  pub plain : (x : ℕ) → is_local c x ≡ true → reads_scalar x test ≡ false
  pub found : home_finds c loop.outer i test ≡ true
  pub fits : is_body c (home_finds c loop.outer i) sets_nothing (sender_gives c loop.outer i (home_finds c loop.outer i)) body ≡ true
  pub spares : HasSpares c (length registers) (body_positions c.declarations body)

-- what a vertex has given since a state is what a turn has given: puts to scalars, and messages for the rest. Its fields are as they were
pub record SenderGave (c : Layout) (v : Env) (kind : ℕ) (as' : List Away) (g : NumberedGraph) (before : VertexState) (it : Iteration) (w : VertexState) : Type 0 where
  pub puts : w.puts ≡ before.puts ++ map (given c v) (filter is_to_scalars it.with_outermost)
  pub folds : w.folds ≡ before.folds
  pub sent : List Message
  pub messages : w.messages ≡ before.messages ++ sent
  pub carried : AreSent kind as' g (filter is_to_nodes it.with_outermost) sent
  pub fields : w.fields ≡ before.fields
  pub count : length w.registers ≡ length before.registers
  pub inner : it.with_inner ≡ []
  pub deferred : it.deferred ≡ []

-- how the lines of an each end that stand for a turn
abbrev pub SendingEnds : Layout → Env → ℕ → List Away → NumberedGraph → VertexState → Iteration → After → Option Fault → Type 0
SendingEnds c v kind as' g before it a None = (a.fault ≡ None) × SenderGave c v kind as' g before it a.state
SendingEnds c v kind as' g before it a (Some f) = (a.fault ≡ Some (fault_of v f)) × SenderGave c v kind as' g before it a.state

-- the lines of an each, at an edge, are the inner loop's turn there, where body and store have types whose nodes are those of the graph
abbrev pub SendingLinesAreTurns : Type 0
SendingLinesAreTurns =
    (c : Layout) (seg : Segment) (registers : List VType) (fields : ℕ) (loop : Loop) (i : ℕ) (kind : ℕ) (key : Key) (test : Expr) (body : Stmt) (s : VertexContext) (w : VertexState) (r : Store)
    (table : TypeTable) (its : List ℕ) (result : Option VType)
    → IsSenderLoop c registers fields loop i test body
    → AreTyped c table its result loop body (begun (write r (Scalar i) (At (Some s.near.node))))
    → table.limit ≤ node_count loop.graph
    → EdgeShows c loop registers fields s w r
    → let it = turn_at loop (AtEdge s.near.edge) key test (does body (AtEdge s.near.edge) loop) i s.near.node r in
    SendingEnds c (each_env c seg loop.outer i) kind (aways c.declarations loop.outer body) loop.graph w it (lines_after s (home_lines c seg loop.outer i kind key test body) 0 w) it.fault
