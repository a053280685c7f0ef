-- Stores: values of variables, of properties at nodes, and of edge properties at edges.
use Rattle.std.specs.Prelude.{ℕ, nat_eq, Bool, true, false, ◌&&◌, ◌||◌, if◌then◌else◌, List, [], ◌∷◌, map}
use Rattle.gm_value.specs.declared.values.Value.{Value}
use Rattle.gm_semantics.specs.declared.slots.Slot.{Slot}
use Rattle.gm_semantics.specs.declared.slots.Slot.TheVariants.{Scalar, Node}
use Rattle.gm_semantics.specs.declared.slots.Write.{Write}

-- the values of scalars, by variable; of node properties, by variable and node; and of edge properties, by variable and edge
pub record Store : Type 0 where
  pub scalar : ℕ → Value
  pub node : ℕ → ℕ → Value
  pub edge : ℕ → ℕ → Value

-- whether two slots are one
abbrev pub slot_eq : Slot → Slot → Bool
slot_eq (Scalar x) (Scalar y) = nat_eq x y
slot_eq (Node p n) (Node q m) = nat_eq p q && nat_eq n m
slot_eq _ _ = false

-- whether two lists of slots are one
abbrev pub slots_eq : List Slot → List Slot → Bool
slots_eq [] [] = true
slots_eq (x ∷ xs) (y ∷ ys) = slot_eq x y && slots_eq xs ys
slots_eq _ _ = false

-- whether a slot is among some
abbrev pub has_slot : Slot → List Slot → Bool
has_slot slot [] = false
has_slot slot (x ∷ xs) = slot_eq slot x || has_slot slot xs

-- what a slot holds
abbrev pub read : Store → Slot → Value
read s (Scalar x) = s.scalar x
read s (Node p n) = s.node p n

-- what some slots hold
abbrev pub reads : Store → List Slot → List Value
reads s slots = map (read s) slots

-- the store after a write
abbrev pub write : Store → Slot → Value → Store
write s (Scalar x) v = record s { scalar = λ y. if nat_eq x y then v else s.scalar y }
write s (Node p n) v = record s { node = λ q m. if nat_eq p q && nat_eq n m then v else s.node q m }

-- the store after a write to each of some slots, in order
abbrev pub write_all : Store → List Slot → List Value → Store
write_all s (x ∷ xs) (v ∷ vs) = write_all (write s x v) xs vs
write_all s _ _ = s

-- a property with one value at every node
abbrev pub fill : Store → ℕ → Value → Store
fill s p v = record s { node = λ q m. if nat_eq p q then v else s.node q m }

-- the store after writes in order, of which the last to a slot counts
abbrev pub overlaid : Store → List Write → Store
overlaid s [] = s
overlaid s (w ∷ ws) = overlaid (write s w.slot w.value) ws
