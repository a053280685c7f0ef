-- The values of a column are of its type.
use Rattle.std.proofs.Common.{inl, inr, ℕ, map, get_or, refl}
use Rattle.std.specs.Prelude.{All}
use Rattle.std.proofs.lemmas.Bool.{cases_lt, lt-ltb, le-ltb}
use Rattle.std.proofs.lemmas.List.Elements.{All-map}
use Rattle.gm_value.specs.declared.values.VType.TheVariants.{I32, I64, Flag, Node}
use Rattle.gm_value.specs.declared.values.Value.TheVariants.{I32, I64, Flag}
use Rattle.gm_columns.specs.declared.columns.TypedCells.{TypedCells}
use Rattle.gm_columns.specs.declared.columns.TypedCells.TheVariants.{Ints, Longs, Flags, Nodes}
use Rattle.gm_columns.specs.Columns.{CanHold}
use Rattle.gm_columns.specs.Cells.{node_in}
use Rattle.gm_columns.specs.TypedRows.{typed_row}

node-held : (k : ℕ) → CanHold Node (node_in k)
node-held k =
    elim (cases_lt k 4294967295) [
      | inl below ↦ rw (lt-ltb k 4294967295 below) (record { of_type = refl; storable = below })
      | inr above ↦ rw (le-ltb k 4294967295 above) (record { of_type = refl; storable = tt })
    ]

-- each value of a column is one that it can hold
pub cells-held : (cells : TypedCells) → All (CanHold (typed_row cells).vtype) (typed_row cells).values
cells-held (Ints v) = All-map (CanHold I32) (λ z. I32 z) v.items (λ k d h. record { of_type = refl; storable = tt })
cells-held (Longs v) = All-map (CanHold I64) (λ z. I64 z) v.items (λ k d h. record { of_type = refl; storable = tt })
cells-held (Flags v) = All-map (CanHold Flag) (λ b. Flag b) v.items (λ k d h. record { of_type = refl; storable = tt })
cells-held (Nodes v) = All-map (CanHold Node) node_in v.items (λ k d h. node-held (get_or v.items k d))
