-- The step of a vertex whose each sends, along its edges or through node variables, is the loop's iteration at its node, up to what is sent.
use Rattle.std.specs.Prelude.{◌≡◌, ◌≤◌, ℕ, Option, List, [], map, filter}
use Rattle.gm_base.specs.declared.places.Place.{Place}
use Rattle.gm_value.specs.declared.values.VType.{VType}
use Rattle.gm_value.specs.declared.values.Value.{Value}
use Rattle.gm_model.specs.Graphs.{NumberedGraph, node_count}
use Rattle.gm_ast.specs.declared.tree.Head.{Head}
use Rattle.gm_ast.specs.declared.tree.Key.{Key}
use Rattle.gm_ast.specs.Program.{Expr, Stmt, Foreach}
use Rattle.gm_semantics.specs.Iterations.{Loop, Iteration}
use Rattle.gm_semantics.specs.Loops.{iteration}
use Rattle.gm_semantics.specs.Stores.{Store}
use Rattle.gm_typed_stores.specs.Tells.{TypeTable}
use Rattle.gm_image.specs.Program.{Program}
use Rattle.gm_machine.specs.Machine.{context_at}
use Rattle.gm_machine.specs.Vertex.{After, vertex_after}
use Rattle.gm_lowering.specs.Layouts.{Layout}
use Rattle.gm_lowering.specs.Places.{Spot, segment}
use Rattle.gm_lowering.specs.Terms.{Env, own_env}
use Rattle.gm_lowering.specs.Plans.{Away, aways}
use Rattle.gm_lowering.specs.Sites.{given}
use Rattle.gm_lowering.specs.OwnLoops.{NodeShows}
use Rattle.gm_lowering.specs.MessageLoops.{is_to_scalars, is_to_nodes, TurnsAreTyped}
use Rattle.gm_lowering.specs.Phases.{EdgesShown}
use Rattle.gm_lowering.specs.TwoSupersteps.{StepsWithin}
use Rattle.gm_lowering.specs.Settles.{HasSpot, fault_or_none}
use Rattle.gm_lowering.specs.HomeSteps.{home_block, each_spots, HasEach}
use Rattle.gm_lowering.specs.Sent.{AreSent}
use Rattle.gm_lowering.specs.SenderTurns.{IsSenderLoop}

-- a vertex does what an iteration does: it has the iteration's fault, puts what goes to scalars, and sends the rest, also before a fault. Its fields are as they were, and the iteration changes no property and defers nothing
pub record SendsAs (c : Layout) (v : Env) (kind : ℕ) (as' : List Away) (g : NumberedGraph) (fields : List Value) (r : Store) (it : Iteration) (a : After) : Type 0 where
  pub fault : a.fault ≡ fault_or_none v it.fault
  pub puts : a.state.puts ≡ map (given c v) (filter is_to_scalars it.with_outermost)
  pub carried : AreSent kind as' g (filter is_to_nodes it.with_outermost) a.state.messages
  pub fields_are : a.state.fields ≡ fields
  pub node : (p k : ℕ) → it.store.node p k ≡ r.node p k
  pub deferred : it.deferred ≡ []

-- the step of each vertex with the block of a loop whose eaches send is the loop's iteration there, where body and store have types whose nodes are those of the graph
abbrev pub SendingStepsAreIterations : Type 0
SendingStepsAreIterations =
    (c : Layout) (p : Program) (fields base : ℕ) (all : List Spot) (loop : Loop) (kind : ℕ) (mask_key : Key) (mask : Expr) (key : Key) (place : Place) (h : Head) (test : Expr) (body : Stmt)
    (globals values : List Value) (k : ℕ) (r : Store) (table : TypeTable) (its : List ℕ) (result : Option VType)
    → HasEach c loop mask h
    → IsSenderLoop c p.registers fields loop h.iterator test body
    → TurnsAreTyped c table its result loop h.iterator body r
    → table.limit ≤ node_count loop.graph
    → ((f : Spot) → HasSpot f (each_spots c loop.outer h.iterator key test body) → HasSpot f all)
    → NodeShows c loop.graph p.registers fields globals values k r
    → EdgesShown c loop.graph r
    → StepsWithin loop.graph h.domain
    → let seg = segment base all in
    SendsAs c (own_env c seg loop.outer) kind (aways c.declarations loop.outer body) loop.graph values r (iteration loop mask_key mask (Foreach key place h test body) r k)
    (vertex_after p (home_block c seg loop.outer kind mask_key mask h key test body) (context_at loop.graph globals k) [] values)
