-- The values of an expression at all nodes of the graph.
use Rattle.std.specs.Prelude.{◌≡◌, ◌<◌, ℕ, List, Some, Ok, length, slice_index_or}
use Rattle.gm_value.specs.declared.values.Value.{Value}
use Rattle.gm_value.specs.declared.values.Value.TheVariants.{At}
use Rattle.gm_value.specs.declared.operations.Op1.{Op1}
use Rattle.gm_value.specs.declared.operations.Op2.{Op2}
use Rattle.gm_value.specs.Operations.{result1, result2}
use Rattle.gm_model.specs.Graphs.{node_count}
use Rattle.gm_ast.specs.Program.{Expr}
use Rattle.gm_semantics.specs.declared.slots.Slot.TheVariants.{Scalar}
use Rattle.gm_semantics.specs.Expressions.{View, evaluated, plain}
use Rattle.gm_semantics.specs.Stores.{write}
use Rattle.gm_columns.specs.declared.cells.Cells.{Cells}
use Rattle.gm_columns.specs.Cells.{values_of}
use Rattle.gm_loops.specs.declared.columns.Operand.{Operand}
use Rattle.gm_loops.specs.declared.columns.Operand.TheVariants.{Held, Made}

-- what is seen where an iterator holds a node
abbrev pub here : View → ℕ → ℕ → View
here w i n = record w { store = write w.store (Scalar i) (At (Some n)) }

-- the cells that an operand holds
abbrev pub cells_of : Operand → Cells
cells_of (Held cells) = cells.now
cells_of (Made cells) = cells

-- cells with a value for each of n nodes, of which each is as it has to be at its node
pub record Each (n : ℕ) (P : ℕ → Value → Type 0) (cells : Cells) : Type 0 where
  pub full : length (values_of cells) ≡ n
  pub values : (k : ℕ) (d : Value) → k < n → P k (slice_index_or (values_of cells) k d)

-- cells that hold for each node of the graph the value of an expression where the iterator holds the node: nowhere is there a fault
abbrev pub IsColumn : Expr → View → ℕ → Cells → Type 0
IsColumn e w i = Each (node_count w.graph) (λ k v. evaluated e (here w i k) ≡ plain (Ok v))

-- cells that hold what an operation gives on each of some values: nowhere is there a fault
abbrev pub Applies1 : Op1 → List Value → Cells → Type 0
Applies1 op xs = Each (length xs) (λ k v. (d : Value) → result1 op (slice_index_or xs k d) ≡ Ok v)

-- cells that hold what an operation gives on each two of some values: nowhere is there a fault
abbrev pub Applies2 : Op2 → List Value → List Value → Cells → Type 0
Applies2 op xs ys = Each (length xs) (λ k v. (d : Value) → result2 op (slice_index_or xs k d) (slice_index_or ys k d) ≡ Ok v)
