-- Where a parallel loop begins and ends.
use Rattle.std.specs.Prelude.{◌≡◌, ℕ, List, [], Option, Some, None, Result, Ok, Err}
use Rattle.gm_semantics.specs.declared.faults.Fault.{Fault}
use Rattle.gm_value.specs.declared.values.Value.{Value}
use Rattle.gm_semantics.specs.Levels.{numbers_from}
use Rattle.gm_semantics.specs.Contributions.{Contribution, settled_store, total_faults}
use Rattle.gm_semantics.specs.Faults.{least}
use Rattle.gm_semantics.specs.Stores.{Store, overlaid}
use Rattle.gm_store.specs.Held.{Shape, shape_of, store_of}
use Rattle.gm_totals.specs.Standing.{StandsFor, Within}
use Rattle.gm_loops.specs.declared.goings.Going.{Going}
use Rattle.gm_loops.specs.declared.loops.LoopNodes.{LoopNodes}
use Rattle.gm_loops.specs.declared.loops.LoopNodes.TheVariants.{Below, Listed}
use Rattle.gm_loops.specs.declared.sights.Setting.{Setting}
use Rattle.gm_loops.specs.Goings.{IsReady}
use Rattle.gm_loops.specs.Parts.{sooner}

-- the nodes of a loop
abbrev pub nodes_in : LoopNodes → List ℕ
nodes_in (Below count) = numbers_from 0 count
nodes_in (Listed ns) = ns.now

-- how a loop ended: with a fault, or with the store after it
abbrev pub ended : Option Fault → Store → Result Store Fault
ended None s = Ok s
ended (Some f) s = Err f

-- no loop is going on: the store has room for the run, no write is to be taken back, and nothing waits for a loop's end
pub record AtRest (f : Setting) (g : Going) : Type 0 where
  pub ready : IsReady f g
  pub quiet : g.store.undo ≡ []
  pub inner : StandsFor g.inner []
  pub outermost : StandsFor g.outermost []
  pub deferred : g.deferred.items ≡ []

-- an outermost loop is closed: what waited for its end has been taken, and then the deferred writes, and the fault is the least of its iterations' and of the totals'
pub record Finishes (old new : Going) (found answer : Option Fault) : Type 0 where
  pub fault : (edge : ℕ → ℕ → Value) (cs : List Contribution) → StandsFor old.outermost cs → answer ≡ sooner found (least (total_faults (store_of edge old.store) cs))
  pub store : (edge : ℕ → ℕ → Value) (cs : List Contribution) → StandsFor old.outermost cs → store_of edge new.store ≡ overlaid (settled_store (store_of edge old.store) cs) old.deferred.items
  pub undo : new.store.undo ≡ old.store.undo
  pub shape : shape_of new.store ≡ shape_of old.store
  pub inner : new.inner ≡ old.inner
  pub outermost : StandsFor new.outermost []
  pub within : (shape : Shape) → Within shape new.outermost
  pub deferred : new.deferred.items ≡ []
