-- Where the pots of slots stand: each slot has a cell, and the cells of a row are places.
use Rattle.std.specs.Prelude.{◌≡◌, ℕ, suc, List, [], ◌∷◌, map, if◌then◌else◌, slice_index_or}
use Rattle.gm_semantics.specs.declared.slots.Slot.{Slot}
use Rattle.gm_semantics.specs.declared.slots.Slot.TheVariants.{Scalar, Node}
use Rattle.gm_semantics.specs.Stores.{slot_eq}
use Rattle.gm_totals.specs.declared.places.Places.{Places}

-- the row of a slot: the first is that of scalars, and each property has the next one
abbrev pub row_of : Slot → ℕ
row_of (Scalar x) = 0
row_of (Node p n) = suc p

-- where a slot stands in its row
abbrev pub column_of : Slot → ℕ
column_of (Scalar x) = x
column_of (Node p n) = n

-- the place in a cell of a row, 0 behind its end
abbrev pub place_in : List ℕ → ℕ → ℕ
place_in row column = slice_index_or row column 0

-- the place that is kept for a slot, 0 where none is
abbrev pub place_at : Places → Slot → ℕ
place_at places slot = place_in (slice_index_or (map (λ row. row.items) places.rows.items) (row_of slot) []) (column_of slot)

-- one place more is kept, and the others stay
abbrev pub HasOneMore : Places → Places → Slot → ℕ → Type 0
HasOneMore old new slot place = (q : Slot) → place_at new q ≡ (if slot_eq q slot then place else place_at old q)

-- the slot by whose place a target is found: its first one
abbrev pub head_of : List Slot → Slot
head_of [] = Scalar 0
head_of (x ∷ xs) = x
