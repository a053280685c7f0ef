-- Truth values that say which rows an operand is evaluated in.
use Rattle.std.specs.Prelude.{◌≡◌, ◌<◌, ◌+◌, ℕ, All, Bool, List, length, map}
use Rattle.gm_value.specs.declared.values.VType.TheVariants.{Flag as Truth}
use Rattle.gm_value.specs.declared.values.Value.TheVariants.{Flag}
use Rattle.gm_value.specs.Operations.{is_true}
use Rattle.gm_columns.specs.Columns.{TypedRow}
use Rattle.gm_kernels.specs.Pointwise.{count_of, held, left_out}
use Rattle.gm_batches.specs.declared.node_batches.NodeBatch.{NodeBatch}
use Rattle.gm_batches.specs.NodeBatches.{row_count}

-- whether each value of a column is True
abbrev pub flags_in : TypedRow → List Bool
flags_in column = map is_true column.values

-- a column of truth values
pub record AreTruths (truths : TypedRow) : Type 0 where
  pub vtype : truths.vtype ≡ Truth
  pub flags : truths.values ≡ map (λ b. Flag b) (flags_in truths)

-- a column of truth values beside some rows, the rows where they are True, and the others
pub record IsGuard (rows : List ℕ) (column : TypedRow) (inside outside : List ℕ) : Type 0 where
  pub truths : AreTruths column
  pub inside_rows : inside ≡ held (flags_in column) rows
  pub outside_rows : outside ≡ left_out (flags_in column) rows

-- the rows of both parts are rows of a batch, and as many as the truth values say
pub record FitBatch (b : NodeBatch) (column : TypedRow) (inside outside : List ℕ) : Type 0 where
  pub truths : AreTruths column
  pub inside_rows : All (λ row. row < row_count b) inside
  pub outside_rows : All (λ row. row < row_count b) outside
  pub inside_count : length inside ≡ count_of (flags_in column)
  pub outside_count : count_of (flags_in column) + length outside ≡ length column.values
