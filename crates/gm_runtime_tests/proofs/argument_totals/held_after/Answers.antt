-- The store of the tests has the slots of the totals and of what they close to.
use Rattle.std.proofs.Common.{◌∙◌, sym, subst, List}
use Rattle.std.specs.Prelude.{All}
use Rattle.gm_semantics.specs.declared.slots.Write.{Write}
use Rattle.gm_store.specs.Held.{Shape, HasSlot, shape_of}
use Rattle.gm_totals.specs.Standing.{Within}
use Rattle.gm_runtime_tests.proofs.argument_totals.held_after.Goals as goal

pub closed-requires : goal.closed-requires
closed-requires c = subst (λ (shape : Shape). Within shape c.give_all.new.totals) (sym c.in_ok-store.ensures) c.in_ok-give_all.ensures

pub write_all-requires : goal.write_all-requires
write_all-requires c =
    subst (λ (writes : List Write). All (λ w. HasSlot (shape_of c.in_ok-store.store) w.slot) writes) (sym c.as_slice.ensures.value) c.in_ok-closed.ensures.within

pub held-requires : goal.held-requires
held-requires c = c.in_ok-write_all.ensures ∙ c.in_ok-store.ensures
