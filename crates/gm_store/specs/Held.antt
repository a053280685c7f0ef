-- The store of a run as contracts see it: what it holds, the store of the source meaning that this is, and how writes are taken back.
use Rattle.std.specs.Prelude.{◌≡◌, ◌<◌, ◌≤◌, ℕ, nat_eq, if◌then◌else◌, pos, List, [], ◌∷◌, ◌++◌, All, length, replicate, slice_index_or, slice_set}
use Rattle.gm_value.specs.declared.values.Value.{Value}
use Rattle.gm_value.specs.declared.values.Value.TheVariants.{I32}
use Rattle.gm_semantics.specs.declared.slots.Slot.{Slot}
use Rattle.gm_semantics.specs.declared.slots.Slot.TheVariants.{Scalar, Node}
use Rattle.gm_semantics.specs.declared.slots.Write.{Write}
use Rattle.gm_semantics.specs.Stores as S

-- a row: a property's values by node, and the value that it has at what is no node
pub record Row : Type 0 where
  pub values : List Value
  pub other : Value

-- what a store holds: how many nodes there are, the values of scalars, the rows of properties, and the log of the writes that can be taken back, each with the value that its slot held before
pub record Held : Type 0 where
  pub nodes : ℕ
  pub scalars : List Value
  pub rows : List Row
  pub undo : List Write

-- a row with one value at every node and elsewhere
abbrev pub uniform_row : ℕ → Value → Row
uniform_row nodes v = record { values = replicate nodes v; other = v }

-- the value in a row at a node, or at what is no node
abbrev pub value_in : Row → ℕ → Value
value_in row n = slice_index_or row.values n row.other

-- a row after a write at a node
abbrev pub with_value : Row → ℕ → Value → Row
with_value row n v = record row { values = slice_set row.values n v }

-- the row of a property that is none
abbrev pub no_row : Row
no_row = record { values = []; other = I32 (pos 0) }

-- the value of a scalar
abbrev pub scalar_of : Held → ℕ → Value
scalar_of h x = slice_index_or h.scalars x (I32 (pos 0))

-- the value of a property at a node
abbrev pub node_of : Held → ℕ → ℕ → Value
node_of h p n = value_in (slice_index_or h.rows p no_row) n

-- what a slot holds
abbrev pub held_at : Held → Slot → Value
held_at h (Scalar x) = scalar_of h x
held_at h (Node p n) = node_of h p n

-- the store of the source meaning that is held, with the values of edge properties
abbrev pub store_of : (ℕ → ℕ → Value) → Held → S.Store
store_of edge h = record { scalar = scalar_of h; node = node_of h; edge = edge }

-- the store with other values of a property by node: what there is no value for stays as it was
abbrev pub replaced : S.Store → ℕ → List Value → S.Store
replaced s p values = record s { node = λ q n. if nat_eq p q then slice_index_or values n (s.node q n) else s.node q n }

-- how many scalars, rows and nodes there are
pub record Shape : Type 0 where
  pub scalars : ℕ
  pub rows : ℕ
  pub nodes : ℕ

-- the shape of what is held
abbrev pub shape_of : Held → Shape
shape_of h = record { scalars = length h.scalars; rows = length h.rows; nodes = h.nodes }

-- a slot of a store of that shape
abbrev pub HasSlot : Shape → Slot → Type 0
HasSlot shape (Scalar x) = x < shape.scalars
HasSlot shape (Node p n) = (p < shape.rows) × (n < shape.nodes)

-- what is held after a write
abbrev pub put : Held → Slot → Value → Held
put h (Scalar x) v = record h { scalars = slice_set h.scalars x v }
put h (Node p n) v = record h { rows = slice_set h.rows p (with_value (slice_index_or h.rows p no_row) n v) }

-- a row for each property, with a value for each node, no more nodes than a graph has, and a log of writes to slots that there are
pub record IsSound (h : Held) : Type 0 where
  pub few : h.nodes ≤ 2147483647
  pub full : All (λ row. length row.values ≡ h.nodes) h.rows
  pub logged : All (λ w. HasSlot (shape_of h) w.slot) h.undo

-- a store after the writes of a log are taken back, the last one first
abbrev pub undone : S.Store → List Write → S.Store
undone s [] = s
undone s (w ∷ ws) = S.write (undone s ws) w.slot w.value

-- what is held later is as it was but for writes of the log: the log has grown, and taking back what came to it gives the store that was
pub record Reversible (old new : Held) : Type 0 where
  pub shape : shape_of new ≡ shape_of old
  pub more : List Write
  pub logged : new.undo ≡ old.undo ++ more
  pub back : (edge : ℕ → ℕ → Value) → undone (store_of edge new) more ≡ store_of edge old

-- what is held later is as it was, as far as a reader or a roll back can tell
pub record Restored (old new : Held) : Type 0 where
  pub store : (edge : ℕ → ℕ → Value) → store_of edge new ≡ store_of edge old
  pub undo : new.undo ≡ old.undo
  pub shape : shape_of new ≡ shape_of old
