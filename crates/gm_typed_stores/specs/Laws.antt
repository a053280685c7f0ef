-- Values keep the types of their declarations, and nodes stay below a limit.
use Rattle.std.specs.Prelude.{◌≡◌, ◌<◌, ℕ, true, List, [], ◌∷◌, map, filter, IfOk, Option}
use Rattle.std.specs.List.{list_all}
use Rattle.gm_value.specs.declared.values.VType.{VType}
use Rattle.gm_value.specs.declared.values.VType.TheVariants as V
use Rattle.gm_value.specs.declared.values.Value.{Value}
use Rattle.gm_model.specs.Graphs.{NumberedGraph, node_count}
use Rattle.gm_ast.specs.declared.tree.Key.{Key}
use Rattle.gm_ast.specs.declared.tree.Sort.{Sort}
use Rattle.gm_ast.specs.declared.tree.Sort.TheVariants as Sorts
use Rattle.gm_semantics.specs.Levels.{numbers_from}
use Rattle.gm_ast.specs.Program.{Expr, Stmt, Program}
use Rattle.gm_semantics.specs.Stores.{Store}
use Rattle.gm_semantics.specs.Expressions.{View, value}
use Rattle.gm_semantics.specs.Iterations.{Loop, Mode, Iteration, does}
use Rattle.gm_semantics.specs.Loops.{parallel}
use Rattle.gm_semantics.specs.Statements.{Run, State, sequential}
use Rattle.gm_semantics.specs.Outcomes.{is_of, first_store, mean}
use Rattle.gm_forms.specs.Extends.{run_of, start_of}
use Rattle.gm_forms.specs.Meanings.{Fits}
use Rattle.gm_forms.specs.Typing.{type_at, has_type, is_typed_in, has_types}
use Rattle.gm_forms.specs.Uses.{suits, uses_in, uses_of, is_named}
use Rattle.gm_typed_stores.specs.Values.{IsValue, AreValues, AreColumns, Each}
use Rattle.gm_typed_stores.specs.Tells.{TypeTable, table_of, takes_nodes, tells, tells_in, tells_values}
use Rattle.gm_typed_stores.specs.Points.{Reaches}
use Rattle.gm_typed_stores.specs.Stores.{IsTypedStore, IsGraphBelow, IsTypedView, IsTypedIteration, IsTypedLoop, IsTypedCourse, IsTypedOutcome}

-- an expression has a type, names variables as they are declared, and tells values alone, inside some iterators
pub record IsWellTypedExpr (table : TypeTable) (its : List ℕ) (t : VType) (e : Expr) : Type 0 where
  pub typed : has_type table.declarations t e ≡ true
  pub named : list_all (suits table.declarations) (uses_in e) ≡ true
  pub tells : tells table its e ≡ true

-- a statement does so, in a procedure with a result
pub record IsWellTypedStmt (table : TypeTable) (its : List ℕ) (result : Option VType) (s : Stmt) : Type 0 where
  pub typed : is_typed_in table.declarations result s ≡ true
  pub named : list_all (suits table.declarations) (uses_of s) ≡ true
  pub tells : tells_in table its s ≡ true

-- and a program
pub record IsWellTyped (limit : ℕ) (p : Program) : Type 0 where
  pub typed : has_types p ≡ true
  pub named : is_named p ≡ true
  pub tells : tells_values limit p ≡ true

-- what is asked of a graph and of arguments: the graph is one, its nodes are below the limit, and each input begins with values of its type
pub record FitsBelow (limit : ℕ) (p : Program) (g : NumberedGraph) (args : List Value) : Type 0 where
  pub graph : IsGraphBelow limit g
  pub scalars : (x : ℕ) → x < p.inputs → is_of p.declarations Sorts.Scalar x ≡ true → IsValue limit (type_at p.declarations x) ((first_store p g args).scalar x)
  pub nodes : (x n : ℕ) → x < p.inputs → is_of p.declarations Sorts.NodeProperty x ≡ true → IsValue limit (type_at p.declarations x) ((first_store p g args).node x n)
  pub edges : (x e : ℕ) → x < p.inputs → is_of p.declarations Sorts.EdgeProperty x ≡ true → IsValue limit (type_at p.declarations x) ((first_store p g args).edge x e)

-- the types of a program's inputs of a sort, in order of declaration
abbrev pub input_types : Program → Sort → List VType
input_types p sort = map (type_at p.declarations) (filter (is_of p.declarations sort) (numbers_from 0 p.inputs))

-- a graph and arguments that a program asks for: one value for each scalar among its inputs, and a column of values for each property
pub record HasInputs (limit : ℕ) (p : Program) (g : NumberedGraph) (args : List Value) : Type 0 where
  pub graph : IsGraphBelow limit g
  pub scalars : AreValues limit (input_types p Sorts.Scalar) args
  pub nodes : AreColumns limit (input_types p Sorts.NodeProperty) g.node_columns
  pub edges : AreColumns limit (input_types p Sorts.EdgeProperty) g.edge_columns

-- what is asked for fits
abbrev pub AskedFits : Type 0
AskedFits = (limit : ℕ) (p : Program) (g : NumberedGraph) (args : List Value) → HasInputs limit p g args → FitsBelow limit p g args

-- the first store has types
abbrev pub FirstStoresHaveTypes : Type 0
FirstStoresHaveTypes = (limit : ℕ) (p : Program) (g : NumberedGraph) (args : List Value) → FitsBelow limit p g args →
    IsTypedStore (table_of limit p) [] (first_store p g args)

-- an expression of a type gives a value of the type, or a fault
abbrev pub ExpressionsKeepTypes : Type 0
ExpressionsKeepTypes = (table : TypeTable) (its : List ℕ) (w : View) (t : VType) (e : Expr) → IsTypedView table its w → IsWellTypedExpr table its t e →
    IfOk (value e w) (IsValue table.limit t)

-- a statement of a body keeps an iteration's types
abbrev pub BodiesKeepTypes : Type 0
BodiesKeepTypes = (table : TypeTable) (its : List ℕ) (result : Option VType) (loop : Loop) (m : Mode) (s : Stmt) (it : Iteration) →
    IsTypedLoop table loop → IsWellTypedStmt table its result s → IsTypedIteration table its it → IsTypedIteration table its (does s m loop it)

-- so does a parallel loop over nodes of the graph
abbrev pub LoopsKeepTypes : Type 0
LoopsKeepTypes = (table : TypeTable) (its : List ℕ) (result : Option VType) (loop : Loop) (key : Key) (test : Expr) (body : Stmt) (ks : List ℕ) (s : Store) →
    IsTypedLoop table loop → takes_nodes table loop.outer ≡ true → Each (λ k. k < node_count loop.graph) ks →
    IsWellTypedExpr table (loop.outer ∷ its) V.Flag test → IsWellTypedStmt table (loop.outer ∷ its) result body →
    IsTypedStore table its s → IfOk (parallel loop key test body ks s) (IsTypedStore table its)

-- and a statement of a sequential phase
abbrev pub StatementsKeepTypes : Type 0
StatementsKeepTypes = (table : TypeTable) (its : List ℕ) (result : Option VType) (run : Run) (s : Stmt) (state : State) →
    IsGraphBelow table.limit run.graph → run.declarations ≡ table.declarations → IsWellTypedStmt table its result s →
    IsTypedStore table its state.store → IsTypedCourse table result its (sequential s run state)

-- a whole run
abbrev pub RunsKeepTypes : Type 0
RunsKeepTypes = (limit : ℕ) (p : Program) (g : NumberedGraph) (args : List Value) (bound : ℕ) → IsWellTyped limit p → FitsBelow limit p g args →
    IsTypedCourse (table_of limit p) p.result [] (sequential p.body (run_of p g bound) (start_of p g args))

-- at every point of a run the store has types, and the statement that begins there is well typed
pub record IsTypedPoint (table : TypeTable) (result : Option VType) (its : List ℕ) (s : Stmt) (state : State) : Type 0 where
  pub store : IsTypedStore table its state.store
  pub statement : IsWellTypedStmt table its result s

abbrev pub PointsHaveTypes : Type 0
PointsHaveTypes = (limit : ℕ) (p : Program) (g : NumberedGraph) (args : List Value) (bound : ℕ) (its : List ℕ) (s : Stmt) (state : State) →
    IsWellTyped limit p → FitsBelow limit p g args → Reaches (run_of p g bound) [] p.body (start_of p g args) its s state →
    IsTypedPoint (table_of limit p) p.result its s state

-- the outcome of a program has the types of its declarations
abbrev pub OutcomesHaveTypes : Type 0
OutcomesHaveTypes = (limit : ℕ) (p : Program) (g : NumberedGraph) (args : List Value) (bound : ℕ) → IsWellTyped limit p → FitsBelow limit p g args →
    IsTypedOutcome limit p g (mean p g args bound)

-- what fits a program fits it below 2 ^ 32, which each node of each type is
abbrev pub FittingIsBelow : Type 0
FittingIsBelow = (p : Program) (g : NumberedGraph) (args : List Value) → Fits p g args → FitsBelow 4294967296 p g args
