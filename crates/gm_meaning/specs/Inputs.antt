-- The first values of a run, as the code has them.
use Rattle.std.specs.Prelude.{◌≤◌, ◌+◌, ℕ, nat_lt, List, length, map, Option, Some, None, if◌then◌else◌}
use Rattle.gm_value.specs.declared.values.Value.{Value}
use Rattle.gm_value.specs.Numbers.{zero_of}
use Rattle.gm_model.specs.Graphs.{NumberedGraph}
use Rattle.gm_ast.specs.declared.tree.Sort.TheVariants as Sorts
use Rattle.gm_ast.specs.Program.{Program}
use Rattle.gm_semantics.specs.Levels.{numbers_from}
use Rattle.gm_semantics.specs.Statements.{variable_at}
use Rattle.gm_semantics.specs.Outcomes.{count_before, input_value}
use Rattle.gm_loops.specs.Bounds.{bound_of}
use Rattle.gm_loops.specs.declared.sights.EdgeColumn.{EdgeColumn}

-- a number of variables with room for all that are declared, are inputs or outputs, or are written
pub record IsRoomFor (p : Program) (variables : ℕ) : Type 0 where
  pub declared : length p.declarations ≤ variables
  pub passed : p.inputs + p.outputs ≤ variables
  pub written : bound_of p.body ≤ variables

-- the first values of all scalars
abbrev pub first_scalars : Program → List Value → ℕ → List Value
first_scalars p args n = map (input_value p Sorts.Scalar args) (numbers_from 0 n)

-- the index of a column, if there are so many
abbrev pub column_in : ℕ → ℕ → Option ℕ
column_in count k = if nat_lt k count then Some k else None

-- where the values of an edge property stand
abbrev pub edge_column : Program → NumberedGraph → ℕ → EdgeColumn
edge_column p g x = record {
  column = if nat_lt x p.inputs then column_in (length g.edge_columns) (count_before p.declarations Sorts.EdgeProperty x) else None;
  first = zero_of (variable_at p.declarations x).vtype;
}

abbrev pub first_columns : Program → NumberedGraph → ℕ → List EdgeColumn
first_columns p g n = map (edge_column p g) (numbers_from 0 n)
