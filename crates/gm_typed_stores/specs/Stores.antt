-- Stores whose values have the types of their declarations, and what keeps them so.
use Rattle.std.specs.Prelude.{◌≡◌, ◌≤◌, ℕ, true, List, [], ◌∷◌, map, length, Option, Some, None}
use Rattle.gm_value.specs.declared.values.VType.{VType}
use Rattle.gm_value.specs.declared.values.Value.{Value}
use Rattle.gm_value.specs.declared.reductions.Reduce.{Reduce}
use Rattle.gm_value.specs.Reductions.{reduces}
use Rattle.gm_model.specs.Graphs.{NumberedGraph, IsGraph, node_count}
use Rattle.gm_model.specs.declared.outcomes.Outcome.{Outcome}
use Rattle.gm_model.specs.declared.outcomes.Outcome.TheVariants.{Done, Fault, Cut}
use Rattle.gm_ast.specs.declared.tree.Sort.TheVariants as Sorts
use Rattle.gm_ast.specs.Program.{Program}
use Rattle.gm_semantics.specs.declared.slots.Slot.{Slot}
use Rattle.gm_semantics.specs.declared.slots.Slot.TheVariants.{Scalar, Node}
use Rattle.gm_semantics.specs.declared.slots.Write.{Write}
use Rattle.gm_semantics.specs.Stores.{Store}
use Rattle.gm_semantics.specs.Expressions.{View}
use Rattle.gm_semantics.specs.Contributions.{Contribution}
use Rattle.gm_semantics.specs.Iterations.{Loop, Iteration}
use Rattle.gm_semantics.specs.Statements.{Course, Goes, Returns, Faults, Stops}
use Rattle.gm_semantics.specs.Outcomes.{is_of, outputs_of}
use Rattle.gm_forms.specs.Typing.{type_at}
use Rattle.gm_typed_stores.specs.Values.{IsValue, Along, AreValues, Each}
use Rattle.gm_typed_stores.specs.Tells.{TypeTable, holds}

-- a store's values have the types of their declarations, inside some iterators. A property has a value at every number, so at every node and edge
pub record IsTypedStore (table : TypeTable) (its : List ℕ) (s : Store) : Type 0 where
  pub scalar : (x : ℕ) → holds table its x ≡ true → IsValue table.limit (type_at table.declarations x) (s.scalar x)
  pub node : (p n : ℕ) → is_of table.declarations Sorts.NodeProperty p ≡ true → IsValue table.limit (type_at table.declarations p) (s.node p n)
  pub edge : (p e : ℕ) → is_of table.declarations Sorts.EdgeProperty p ≡ true → IsValue table.limit (type_at table.declarations p) (s.edge p e)

-- a graph whose nodes are all below a limit
pub record IsGraphBelow (limit : ℕ) (g : NumberedGraph) : Type 0 where
  pub graph : IsGraph g
  pub nodes : node_count g ≤ limit

-- what an expression sees is a graph, and a store with types
pub record IsTypedView (table : TypeTable) (its : List ℕ) (w : View) : Type 0 where
  pub graph : IsGraphBelow table.limit w.graph
  pub store : IsTypedStore table its w.store

-- the type that is declared for a slot
abbrev pub slot_type : TypeTable → Slot → VType
slot_type table (Scalar x) = type_at table.declarations x
slot_type table (Node p n) = type_at table.declarations p

-- a slot is of a variable that is declared as a scalar, or as a property of nodes
abbrev pub IsDeclared : TypeTable → Slot → Type 0
IsDeclared table (Scalar x) = is_of table.declarations Sorts.Scalar x ≡ true
IsDeclared table (Node p n) = is_of table.declarations Sorts.NodeProperty p ≡ true

-- a reduction fits the type of its one target. Of several it keeps a tuple, whatever the types are
abbrev pub Reduces : Reduce → List VType → Type 0
Reduces r (t ∷ []) = reduces r t ≡ true
Reduces r _ = Unit {0}

-- a contribution of values that have the types of its slots
pub record IsTypedContribution (table : TypeTable) (c : Contribution) : Type 0 where
  pub declared : Each (IsDeclared table) c.slots
  pub values : AreValues table.limit (map (slot_type table) c.slots) c.values
  pub reduces : Reduces c.reduce (map (slot_type table) c.slots)

-- a write of a value that has the slot's type
abbrev pub IsTypedWrite : TypeTable → Write → Type 0
IsTypedWrite table w = IsValue table.limit (slot_type table w.slot) w.value

-- an iteration's store, contributions and deferred writes have types
pub record IsTypedIteration (table : TypeTable) (its : List ℕ) (it : Iteration) : Type 0 where
  pub store : IsTypedStore table its it.store
  pub with_inner : Each (IsTypedContribution table) it.with_inner
  pub with_outermost : Each (IsTypedContribution table) it.with_outermost
  pub deferred : Each (IsTypedWrite table) it.deferred

-- a loop over such a graph that knows the types of the declarations
pub record IsTypedLoop (table : TypeTable) (loop : Loop) : Type 0 where
  pub graph : IsGraphBelow table.limit loop.graph
  pub types : (x : ℕ) → loop.vtype x ≡ type_at table.declarations x

-- a procedure's result is a value of its type, where it has one
abbrev pub IsTypedResult : ℕ → Option VType → Option Value → Type 0
IsTypedResult limit None None = Unit {0}
IsTypedResult limit (Some t) (Some v) = IsValue limit t v
IsTypedResult limit _ _ = ⊥

-- what a statement leads to: a store with types, and a result of the procedure's type
abbrev pub IsTypedCourse : TypeTable → Option VType → List ℕ → Course → Type 0
IsTypedCourse table result its (Goes s) = IsTypedStore table its s.store
IsTypedCourse table result its (Returns v s) = IsTypedResult table.limit result v × IsTypedStore table its s.store
IsTypedCourse table result its (Faults f) = Unit {0}
IsTypedCourse table result its Stops = Unit {0}

-- rows of some types, with one value for each node
abbrev pub AreRows : ℕ → ℕ → List VType → List (List Value) → Type 0
AreRows limit nodes ts rows = Along (λ t row. (length row ≡ nodes) × Each (IsValue limit t) row) ts rows

-- an outcome's outputs and result have the types of their declarations
abbrev pub IsTypedOutcome : ℕ → Program → NumberedGraph → Outcome → Type 0
IsTypedOutcome limit p g (Done scalars result rows turns) =
    AreValues limit (map (type_at p.declarations) (outputs_of p Sorts.Scalar)) scalars
    × IsTypedResult limit p.result result
    × AreRows limit (node_count g) (map (type_at p.declarations) (outputs_of p Sorts.NodeProperty)) rows
IsTypedOutcome limit p g (Fault kind place) = Unit {0}
IsTypedOutcome limit p g (Cut turns) = Unit {0}
