-- The laws of writes that are taken back.
use Rattle.std.specs.Prelude.{◌≡◌, ℕ, List, ◌∷◌, [], ◌++◌, length, take, drop}
use Rattle.gm_value.specs.declared.values.Value.{Value}
use Rattle.gm_semantics.specs.declared.slots.Slot.{Slot}
use Rattle.gm_semantics.specs.declared.slots.Write.{Write}
use Rattle.gm_semantics.specs.Stores.{Store, read, write}
use Rattle.gm_store.specs.Held.{Held, held_at, store_of, shape_of, undone, Reversible, Restored}

-- writing back what a slot held gives the store before the write
abbrev pub WritingBackRestores : Type 0
WritingBackRestores = (s : Store) (slot : Slot) (v : Value) → write (write s slot v) slot (read s slot) ≡ s

-- of two logs, one after the other, the second is taken back first
abbrev pub LaterLogsComeFirst : Type 0
LaterLogsComeFirst = (s : Store) (ws us : List Write) → undone s (ws ++ us) ≡ undone (undone s us) ws

-- what is held later is what was held, after a write that is logged
pub record IsLogged (old new : Held) (slot : Slot) (v : Value) : Type 0 where
  pub store : (edge : ℕ → ℕ → Value) → store_of edge new ≡ write (store_of edge old) slot v
  pub undo : new.undo ≡ old.undo ++ record { slot = slot; value = held_at old slot } ∷ []
  pub shape : shape_of new ≡ shape_of old

-- a logged write can be taken back
abbrev pub LoggedWritesAreReversible : Type 0
LoggedWritesAreReversible = (old new : Held) (slot : Slot) (v : Value) → IsLogged old new slot v → Reversible old new

-- what can be taken back in two parts can be taken back as a whole
abbrev pub CoursesJoin : Type 0
CoursesJoin = (a b c : Held) → Reversible a b → Reversible b c → Reversible a c

-- what is held later is what was held, after the log is taken back to a mark
pub record IsRolledBack (mark : ℕ) (old new : Held) : Type 0 where
  pub store : (edge : ℕ → ℕ → Value) → store_of edge new ≡ undone (store_of edge old) (drop mark old.undo)
  pub undo : new.undo ≡ take mark old.undo
  pub shape : shape_of new ≡ shape_of old

-- taking the log back to where it ended gives what was held then, if there were only logged writes since
abbrev pub RollingBackRestores : Type 0
RollingBackRestores = (old later new : Held) → Reversible old later → IsRolledBack (length old.undo) later new → Restored old new
