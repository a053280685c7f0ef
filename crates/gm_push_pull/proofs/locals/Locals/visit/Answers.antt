use Rattle.gm_push_pull.proofs.locals.Locals.visit.Goals as goal

pub returns-in_ok-follow_each : goal.returns-in_ok-follow_each
returns-in_ok-follow_each c = rw c.deref.ensures.value at c.in_ok-follow_each.ensures
