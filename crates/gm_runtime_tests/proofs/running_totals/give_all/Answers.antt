use Rattle.gm_runtime_tests.proofs.running_totals.give_all.Goals as goal

pub loop-contribution-preserved : goal.loop-contribution-preserved
loop-contribution-preserved c =
    c.in_ok-give.ensures.within (record { scalars = 1; rows = 1; nodes = 3 }) (c.is_held.ensures c.if-not-is_held.false) c.loop-contribution.invariant
