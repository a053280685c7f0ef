-- Iterations that do one thing.
use Rattle.std.specs.Prelude.{◌≡◌, ⊤, ℕ, true, List, [], ◌∷◌}
use Rattle.gm_semantics.specs.declared.slots.Write.{Write}
use Rattle.gm_semantics.specs.Iterations.{Iteration, gave_outermost, wrote}
use Rattle.gm_store.specs.Held.{Shape, HasSlot}
use Rattle.gm_totals.specs.Given.{single}
use Rattle.gm_loops.specs.declared.shorts.Deed.{Deed}
use Rattle.gm_loops.specs.declared.shorts.Deed.TheVariants.{Nothing, Writes, Gives}
use Rattle.gm_loops.specs.Own.{is_at}

-- an iteration after its one deed
abbrev pub after_deed : Deed → Iteration → Iteration
after_deed Nothing it = it
after_deed (Writes w) it = wrote it (w.slot, w.value)
after_deed (Gives c) it = gave_outermost it (single c)

-- the deed is to a slot that there is
abbrev pub IsWithin : Shape → Deed → Type 0
IsWithin shape Nothing = ⊤
IsWithin shape (Writes w) = HasSlot shape w.slot
IsWithin shape (Gives c) = HasSlot shape c.slot

-- a write is at the iteration's own node
abbrev pub IsOwn : ℕ → Deed → Type 0
IsOwn n Nothing = ⊤
IsOwn n (Writes w) = is_at n w.slot ≡ true
IsOwn n (Gives c) = ⊤

-- what a deed leaves at the iteration's own node
abbrev pub own_of : Deed → List Write
own_of Nothing = []
own_of (Writes w) = w ∷ []
own_of (Gives c) = []
