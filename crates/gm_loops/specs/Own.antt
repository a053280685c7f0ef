-- What the iterations of a parallel loop write at their own nodes.
use Rattle.std.specs.Prelude.{◌≡◌, ℕ, nat_eq, Bool, false, if◌then◌else◌, List, [], ◌∷◌}
use Rattle.gm_value.specs.declared.values.Value.{Value}
use Rattle.gm_semantics.specs.declared.slots.Slot.{Slot}
use Rattle.gm_semantics.specs.declared.slots.Slot.TheVariants.{Scalar, Node}
use Rattle.gm_semantics.specs.declared.slots.Write.{Write}
use Rattle.gm_semantics.specs.Stores.{overlaid}
use Rattle.gm_store.specs.Held.{Held, held_at, shape_of, store_of}

-- whether a slot is at a node
abbrev pub is_at : ℕ → Slot → Bool
is_at n (Scalar x) = false
is_at n (Node p m) = nat_eq m n

-- what the slots of some writes hold at a node
abbrev pub kept : ℕ → Held → List Write → List Write
kept n h [] = []
kept n h (w ∷ ws) = if is_at n w.slot then record { slot = w.slot; value = held_at h w.slot } ∷ kept n h ws else kept n h ws

-- what is held later is what was held after writes in order, which are not logged
pub record Sets (old new : Held) (ws : List Write) : Type 0 where
  pub store : (edge : ℕ → ℕ → Value) → store_of edge new ≡ overlaid (store_of edge old) ws
  pub undo : new.undo ≡ old.undo
  pub shape : shape_of new ≡ shape_of old
