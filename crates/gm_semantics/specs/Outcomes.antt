-- The outcome of a program on a graph.
use Rattle.std.specs.Prelude.{ℕ, nat_lt, Bool, if◌then◌else◌, List, [], map, filter, length, slice_index_or, Option, Some, None}
use Rattle.gm_value.specs.declared.values.VType.{VType}
use Rattle.gm_value.specs.declared.values.Value.{Value}
use Rattle.gm_value.specs.Numbers.{zero_of}
use Rattle.gm_model.specs.Graphs.{NumberedGraph}
use Rattle.gm_model.specs.declared.outcomes.Outcome.{Outcome}
use Rattle.gm_model.specs.declared.outcomes.Outcome.TheVariants.{Done, Fault, Cut}
use Rattle.gm_ast.specs.declared.tree.Declaration.{Declaration}
use Rattle.gm_ast.specs.declared.tree.Sort.{Sort}
use Rattle.gm_ast.specs.declared.tree.Sort.TheVariants as Sorts
use Rattle.gm_ast.specs.Names.{is}
use Rattle.gm_ast.specs.Program.{Program}
use Rattle.gm_semantics.specs.Levels.{numbers_from, nodes}
use Rattle.gm_semantics.specs.Stores.{Store}
use Rattle.gm_semantics.specs.Statements.{Run, State, Course, Goes, Returns, Faults, Stops, variable_at, sequential}

-- whether a variable is of a sort
abbrev pub is_of : List Declaration → Sort → ℕ → Bool
is_of ds sort x = is sort (variable_at ds x)

-- how many variables of a sort are declared before a variable
abbrev pub count_before : List Declaration → Sort → ℕ → ℕ
count_before ds sort x = length (filter (is_of ds sort) (numbers_from 0 x))

-- the value of an input among those of its sort, or else the first value of its type
abbrev pub input_value : Program → Sort → List Value → ℕ → Value
input_value p sort values x =
    let first = zero_of (variable_at p.declarations x).vtype in
    if nat_lt x p.inputs then slice_index_or values (count_before p.declarations sort x) first else first

-- the value of an input's row in its column among those of its sort, or else the first value of its type
abbrev pub column_value : Program → Sort → List (List Value) → ℕ → ℕ → Value
column_value p sort columns x row =
    let first = zero_of (variable_at p.declarations x).vtype in
    if nat_lt x p.inputs then slice_index_or (slice_index_or columns (count_before p.declarations sort x) []) row first else first

-- the first store: inputs from the arguments and the graph's columns, in order of declaration, and else first values
abbrev pub first_store : Program → NumberedGraph → List Value → Store
first_store p g args = record {
  scalar = input_value p Sorts.Scalar args;
  node = column_value p Sorts.NodeProperty g.node_columns;
  edge = column_value p Sorts.EdgeProperty g.edge_columns;
}

-- the outputs of a sort, in order of declaration
abbrev pub outputs_of : Program → Sort → List ℕ
outputs_of p sort = filter (is_of p.declarations sort) (numbers_from p.inputs p.outputs)

-- what is returned: without a value the first value of the result's type
abbrev pub result_of : Option VType → Option Value → Option Value
result_of t (Some v) = Some v
result_of None None = None
result_of (Some t) None = Some (zero_of t)

-- the outcome of a run to its end
abbrev pub done : Program → NumberedGraph → Option Value → State → Outcome
done p g v s = Done
    (map s.store.scalar (outputs_of p Sorts.Scalar))
    (result_of p.result v)
    (map (λ x. map (s.store.node x) (nodes g)) (outputs_of p Sorts.NodeProperty))
    s.turns

-- the outcome of a procedure's body
abbrev pub outcome_of : Program → NumberedGraph → ℕ → Course → Outcome
outcome_of p g bound (Goes s) = done p g None s
outcome_of p g bound (Returns v s) = done p g v s
outcome_of p g bound (Faults f) = Fault f.kind f.shown
outcome_of p g bound Stops = Cut bound

-- what a program means on a graph, with arguments and a bound on turns
abbrev pub mean : Program → NumberedGraph → List Value → ℕ → Outcome
mean p g args bound =
    let run : Run = record { graph = g; declarations = p.declarations; bound = bound } in
    let start : State = record { store = first_store p g args; turns = 0 } in
    outcome_of p g bound (sequential p.body run start)
