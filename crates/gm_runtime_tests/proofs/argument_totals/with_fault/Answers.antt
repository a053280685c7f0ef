-- The store of the tests has the slots of the totals.
use Rattle.std.proofs.Common.{sym, subst, arith}
use Rattle.gm_store.specs.Held.{Shape}
use Rattle.gm_totals.specs.Standing.{Within}
use Rattle.gm_runtime_tests.proofs.argument_totals.with_fault.Goals as goal

pub give_all-requires : goal.give_all-requires
give_all-requires c = c.in_ok-give.ensures.within (record { scalars = 4; rows = 0; nodes = 1 }) (omega arith) (c.new-totals.ensures.within (record { scalars = 4; rows = 0; nodes = 1 }))

pub closed-requires : goal.closed-requires
closed-requires c = subst (λ (shape : Shape). Within shape c.give_all.new.totals) (sym c.in_ok-store.ensures) c.in_ok-give_all.ensures
