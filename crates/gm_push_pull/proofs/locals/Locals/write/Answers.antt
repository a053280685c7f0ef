use Rattle.gm_push_pull.proofs.locals.Locals.write.Goals as goal

pub returns-in_ok-changed-in-Scalar : goal.returns-in_ok-changed-in-Scalar
returns-in_ok-changed-in-Scalar c = rw c.in-Scalar.is c.in_ok-changed-in-Scalar.ensures
