-- What iterations of a loop leave, against the source meaning's iterations.
use Rattle.std.specs.Prelude.{◌≡◌, ℕ, Bool, List, ◌++◌, map, Option}
use Rattle.gm_value.specs.declared.values.Value.{Value}
use Rattle.gm_ast.specs.declared.tree.Key.{Key}
use Rattle.gm_ast.specs.Program.{Expr, Stmt}
use Rattle.gm_model.specs.Graphs.{Step}
use Rattle.gm_semantics.specs.declared.faults.Fault.{Fault}
use Rattle.gm_semantics.specs.declared.slots.Write.{Write}
use Rattle.gm_semantics.specs.Contributions.{Contribution, settled_store, total_faults}
use Rattle.gm_semantics.specs.Faults.{least, somes, joined}
use Rattle.gm_semantics.specs.Iterations.{Iteration, Loop, Mode, Outermost, AtEdge, as_it_is, does, one_way, turn_at}
use Rattle.gm_semantics.specs.Loops.{own_left}
use Rattle.gm_semantics.specs.Stores.{Store, overlaid}
use Rattle.gm_store.specs.Held.{Held, Reversible, Restored, store_of}
use Rattle.gm_totals.specs.Standing.{StandsFor}
use Rattle.gm_loops.specs.declared.goings.Going.{Going}
use Rattle.gm_loops.specs.declared.sights.Setting.{Setting}
use Rattle.gm_loops.specs.Goings.{Before, InnerStands, IsReady, Stands, deferred_after}
use Rattle.gm_loops.specs.Parts.{sooner}
use Rattle.gm_loops.specs.Sights.{edges_in}

-- the store that the code has, as the source meaning says it
abbrev pub seen : Setting → Going → Store
seen f g = store_of (edges_in f) g.store

-- what is held later is what was held after writes in order, which can be taken back
pub record Overlays (old new : Held) (ws : List Write) : Type 0 where
  pub store : (edge : ℕ → ℕ → Value) → store_of edge new ≡ overlaid (store_of edge old) ws
  pub back : Reversible old new

-- what waits for the end of a loop is what earlier iterations left
pub record Follows (m : Mode) (b : Before) (g : Going) : Type 0 where
  pub inner : InnerStands m g.inner b.with_inner
  pub outermost : StandsFor g.outermost b.with_outermost
  pub deferred : g.deferred.items ≡ b.deferred

-- the code has begun an iteration: the body makes it whole where the filter passed, and else it is whole
pub record Begins (f : Setting) (m : Mode) (old new : Going) (passed : Bool) (turn : (Iteration → Iteration) → Store → Iteration) : Type 0 where
  pub ready : IsReady f old → IsReady f new
  pub back : Reversible old.store new.store
  pub stands : (b : Before) → Follows m b old
      → (it : Iteration) × Stands (edges_in f) m b new it × ((body : Iteration → Iteration) → turn body (seen f old) ≡ one_way passed body as_it_is it)

-- the code has done an iteration that began with the store that was, and its writes to the store can be taken back
pub record DoesTurn (f : Setting) (m : Mode) (old new : Going) (turn : Store → Iteration) : Type 0 where
  pub ready : IsReady f old → IsReady f new
  pub back : Reversible old.store new.store
  pub stands : (b : Before) → Follows m b old → Stands (edges_in f) m b new (turn (seen f old))

-- the contributions of iterations that end with the inner loop, and those that end with the outermost one
abbrev pub inner_of : List Iteration → List Contribution
inner_of turns = joined (map (λ t. t.with_inner) turns)

abbrev pub outermost_of : List Iteration → List Contribution
outermost_of turns = joined (map (λ t. t.with_outermost) turns)

-- the deferred writes of iterations
abbrev pub deferred_of : List Iteration → List Write
deferred_of turns = joined (map (λ t. t.deferred) turns)

-- the faults of iterations
abbrev pub faults_of : List Iteration → List Fault
faults_of turns = somes (map (λ t. t.fault) turns)

-- what waits for the end of a loop after more iterations
abbrev pub behind : Mode → Before → List Iteration → Before
behind m b turns = record {
  with_inner = b.with_inner ++ inner_of turns;
  with_outermost = b.with_outermost ++ outermost_of turns;
  deferred = deferred_after m b.deferred (deferred_of turns);
}

-- the code has done iterations that each began with the store that was, and has that store again: what waits for the loop's end is theirs, and so is the least fault
pub record DoesTurns (f : Setting) (m : Mode) (old new : Going) (found : Option Fault) (turns : Store → List Iteration) : Type 0 where
  pub ready : IsReady f old → IsReady f new
  pub restored : Restored old.store new.store
  pub follows : (b : Before) → Follows m b old → Follows m (behind m b (turns (seen f old))) new
  pub fault : (b : Before) → Follows m b old → found ≡ least (faults_of (turns (seen f old)))

-- what iterations and statements change is as it was
pub record Keeps (old new : Going) : Type 0 where
  pub store : new.store ≡ old.store
  pub inner : new.inner ≡ old.inner
  pub outermost : new.outermost ≡ old.outermost
  pub deferred : new.deferred ≡ old.deferred
  pub fault : new.fault ≡ old.fault

-- the iteration of an inner loop at a step
abbrev pub inner_turn : Loop → Key → Expr → Stmt → ℕ → Step → Store → Iteration
inner_turn loop key test body iterator step s = turn_at loop (AtEdge step.edge) key test (does body (AtEdge step.edge) loop) iterator step.node s

-- an inner loop is closed: what waited for its end has been taken, and the fault is the least of its iterations' and of the totals'
pub record Closes (f : Setting) (old new : Going) (found : Option Fault) : Type 0 where
  pub ready : IsReady f old → IsReady f new
  pub back : Reversible old.store new.store
  pub stands : (b : Before) (it : Iteration) (inner : List Contribution)
      → seen f old ≡ it.store → StandsFor old.inner inner → StandsFor old.outermost (b.with_outermost ++ it.with_outermost) → old.deferred.items ≡ b.deferred ++ it.deferred
      → Stands (edges_in f) Outermost b new (record it { store = settled_store it.store inner; fault = sooner found (least (total_faults it.store inner)) })

-- writes give what the iterations at some nodes left there, each at its own node
abbrev pub KeepsOwn : Store → List Write → List ℕ → (ℕ → Iteration) → Type 0
KeepsOwn s own ks turn = overlaid s own ≡ own_left s ks (map turn ks)
