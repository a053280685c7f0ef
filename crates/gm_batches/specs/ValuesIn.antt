-- The values of an expression in each of some rows, and what a column says of them.
use Rattle.std.specs.Prelude.{◌≡◌, ◌⊎◌, ℕ, List, map, [], ◌∷◌, Option, Some, None, Result, Ok, Err}
use Rattle.gm_value.specs.declared.values.VType.{VType}
use Rattle.gm_value.specs.declared.values.Value.{Value}
use Rattle.gm_columns.specs.Columns.{TypedRow}
use Rattle.gm_image.specs.Term.{Term}
use Rattle.gm_kernels.specs.Pointwise.{before}
use Rattle.gm_machine.specs.declared.faults.Fault.{Fault}
use Rattle.gm_machine.specs.Expressions.{View, value}
use Rattle.gm_batches.specs.declared.node_batches.NodeBatch.{NodeBatch}
use Rattle.gm_batches.specs.declared.node_batches.Rows.{Rows}
use Rattle.gm_batches.specs.NodeBatches.{row_view, rows_in}
use Rattle.gm_batches.specs.ColumnTypes.{type_in}

-- a value, unless there is a fault
abbrev pub unless_fault : Result Value Fault → Option Value
unless_fault (Ok v) = Some v
unless_fault (Err f) = None

-- the values of an expression in each of some views, unless it faults in one
abbrev pub values_in : List View → Term → Option (List Value)
values_in [] e = Some []
values_in (w ∷ ws) e = before (unless_fault (value w e)) (values_in ws e)

-- a column is that of a type and of values, where there are both; there is none only where one of them is missing
abbrev pub IsColumn : Option VType → Option (List Value) → Option TypedRow → Type 0
IsColumn t vs (Some column) = (t ≡ Some column.vtype) × (vs ≡ Some column.values)
IsColumn t vs None = (t ≡ None) ⊎ (vs ≡ None)

-- a column has the value of an expression in each of some rows of a batch, by their numbers. There is none only where the
-- expression faults in one of these rows or cannot be evaluated by columns.
abbrev pub IsColumnAt : NodeBatch → List ℕ → Term → Option TypedRow → Type 0
IsColumnAt b rs e = IsColumn (type_in b e) (values_in (map (row_view b) rs) e)

abbrev pub IsColumnOf : NodeBatch → Rows → Term → Option TypedRow → Type 0
IsColumnOf b r e = IsColumnAt b (rows_in b r) e
