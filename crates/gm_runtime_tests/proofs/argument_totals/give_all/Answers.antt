use Rattle.gm_runtime_tests.proofs.argument_totals.give_all.Goals as goal

pub loop-gift-preserved : goal.loop-gift-preserved
loop-gift-preserved c = c.in_ok-give_tuple.ensures.within (record { scalars = 4; rows = 0; nodes = 1 }) c.in_ok-slots.ensures c.loop-gift.invariant
