-- What the code has of a loop's iterations, against the source meaning's iteration.
use Rattle.std.specs.Prelude.{◌≡◌, ℕ, List, [], ◌++◌, All}
use Rattle.gm_value.specs.declared.values.Value.{Value}
use Rattle.gm_semantics.specs.declared.slots.Write.{Write}
use Rattle.gm_semantics.specs.Contributions.{Contribution}
use Rattle.gm_semantics.specs.Iterations.{Iteration, Mode, Outermost, AtEdge}
use Rattle.gm_store.specs.Held.{HasSlot, Reversible, shape_of, store_of}
use Rattle.gm_totals.specs.declared.totals.Totals.{Totals}
use Rattle.gm_totals.specs.Standing.{StandsFor, Within}
use Rattle.gm_loops.specs.declared.goings.Going.{Going}
use Rattle.gm_loops.specs.declared.sights.Setting.{Setting}
use Rattle.gm_loops.specs.Sights.{Fits, edges_in}

-- what earlier iterations left: contributions that end with the inner loop and with the outermost one, and deferred writes
pub record Before : Type 0 where
  pub with_inner : List Contribution
  pub with_outermost : List Contribution
  pub deferred : List Write

-- the totals that end with an inner loop: in an outer body there are none
abbrev pub InnerStands : Mode → Totals → List Contribution → Type 0
InnerStands Outermost totals cs = StandsFor totals []
InnerStands (AtEdge e) totals cs = StandsFor totals cs

-- the deferred writes after those of an iteration: an inner body defers none
abbrev pub deferred_after : Mode → List Write → List Write → List Write
deferred_after Outermost before own = before ++ own
deferred_after (AtEdge e) before own = before

-- the code stands where an iteration does, behind what earlier ones left
pub record Stands (edge : ℕ → ℕ → Value) (m : Mode) (b : Before) (g : Going) (it : Iteration) : Type 0 where
  pub store : store_of edge g.store ≡ it.store
  pub inner : InnerStands m g.inner (b.with_inner ++ it.with_inner)
  pub outermost : StandsFor g.outermost (b.with_outermost ++ it.with_outermost)
  pub deferred : g.deferred.items ≡ deferred_after m b.deferred it.deferred
  pub fault : g.fault ≡ it.fault

-- all slots that the code keeps are the store's, and the store has room for the run
pub record IsReady (f : Setting) (g : Going) : Type 0 where
  pub fits : Fits f g.store
  pub inner : Within (shape_of g.store) g.inner
  pub outermost : Within (shape_of g.store) g.outermost
  pub deferred : All (λ w. HasSlot (shape_of g.store) w.slot) g.deferred.items

-- the code does what a part of an iteration does, and its writes to the store can be taken back
pub record Does (f : Setting) (m : Mode) (old new : Going) (next : Iteration → Iteration) : Type 0 where
  pub ready : IsReady f old → IsReady f new
  pub back : Reversible old.store new.store
  pub stands : (b : Before) (it : Iteration) → Stands (edges_in f) m b old it → Stands (edges_in f) m b new (next it)
