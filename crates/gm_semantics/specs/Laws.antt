-- What passes may know of the meaning beside its definition.
use Rattle.std.specs.Prelude.{◌≡◌, ℕ, IsTrue, false, List, [], ◌∷◌, map, Ok}
use Rattle.gm_value.specs.Bag.{SameBag, IsIn}
use Rattle.gm_semantics.specs.declared.faults.Fault.{Fault}
use Rattle.gm_semantics.specs.declared.slots.Slot.{Slot}
use Rattle.gm_semantics.specs.declared.slots.Slot.TheVariants.{Scalar, Node}
use Rattle.gm_semantics.specs.declared.slots.Write.{Write}
use Rattle.gm_value.specs.declared.values.Value.{Value}
use Rattle.gm_semantics.specs.Stores.{Store, has_slot, read, reads}
use Rattle.gm_semantics.specs.Faults.{least, joined}
use Rattle.gm_semantics.specs.Contributions.{Contribution, target_taken, settled_store, total_faults}
use Rattle.gm_semantics.specs.Iterations.{Iteration, inner_done}
use Rattle.gm_semantics.specs.Loops.{loop_done}

-- the least fault does not depend on the order of the faults
abbrev pub LeastTakesBags : Type 0
LeastTakesBags = (faults other : List Fault) → SameBag faults other → least faults ≡ least other

-- contributions to one slot are by one reduction to one target, as the rules of races leave them
abbrev pub OneReduction : List Contribution → Type 0
OneReduction cs =
    (c d : Contribution) (slot : Slot) → IsIn c cs → IsIn d cs → IsTrue (has_slot slot c.slots) → IsTrue (has_slot slot d.slots)
    → (c.reduce ≡ d.reduce) × (c.slots ≡ d.slots)

-- what contributions leave does not depend on their order
abbrev pub SettlingTakesBags : Type 0
SettlingTakesBags = (s : Store) (cs other : List Contribution) → OneReduction cs → SameBag cs other → settled_store s cs ≡ settled_store s other

-- nor does the least fault of their totals
abbrev pub TotalsTakeBags : Type 0
TotalsTakeBags = (s : Store) (cs other : List Contribution) → OneReduction cs → SameBag cs other → least (total_faults s cs) ≡ least (total_faults s other)

-- no slot stands twice
abbrev pub Distinct : List Slot → Type 0
Distinct [] = Unit {0}
Distinct (slot ∷ slots) = (has_slot slot slots ≡ false) × Distinct slots

-- the slots of a target hold what was taken onto them, whole
abbrev pub TargetsAreWhole : Type 0
TargetsAreWhole = (s : Store) (cs : List Contribution) (c : Contribution) (values : List Value) → OneReduction cs → IsIn c cs → Distinct c.slots
    → target_taken s cs c.slots ≡ Ok values → reads (settled_store s cs) c.slots ≡ values

-- no contribution is to a slot
abbrev pub Away : Slot → List Contribution → Type 0
Away slot cs = (c : Contribution) → IsIn c cs → has_slot slot c.slots ≡ false

-- a slot to which nothing is given holds what it held
abbrev pub OthersStay : Type 0
OthersStay = (s : Store) (cs : List Contribution) (slot : Slot) → Away slot cs → read (settled_store s cs) slot ≡ read s slot

-- a slot at a node
abbrev pub IsAt : ℕ → Slot → Type 0
IsAt k (Scalar x) = ⊥
IsAt k (Node p n) = n ≡ k

-- each iteration defers writes at its own node alone, as the rules of races leave it
abbrev pub DefersAtHome : (ℕ → Iteration) → List ℕ → Type 0
DefersAtHome iteration ks = (k : ℕ) → IsIn k ks → (w : Write) → IsIn w (iteration k).deferred → IsAt k w.slot

-- a loop does not depend on the order of its iterations
abbrev pub LoopTakesBags : Type 0
LoopTakesBags = (s : Store) (iteration : ℕ → Iteration) (ks other : List ℕ) → SameBag ks other
    → OneReduction (joined (map (λ it. it.with_outermost) (map iteration ks))) → DefersAtHome iteration ks
    → loop_done s ks (map iteration ks) ≡ loop_done s other (map iteration other)

-- two iterations are the same but for the order of their contributions
pub record SameIteration (a b : Iteration) : Type 0 where
  pub store : a.store ≡ b.store
  pub with_inner : SameBag a.with_inner b.with_inner
  pub with_outermost : SameBag a.with_outermost b.with_outermost
  pub deferred : a.deferred ≡ b.deferred
  pub fault : a.fault ≡ b.fault

-- an inner loop does not depend on the order of its edges, but for the order in which its contributions go on
abbrev pub InnerLoopTakesBags : Type 0
InnerLoopTakesBags = (it : Iteration) (turns other : List Iteration) → SameBag turns other → OneReduction (joined (map (λ t. t.with_inner) turns))
    → SameIteration (inner_done it turns) (inner_done it other)
