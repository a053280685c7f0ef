use Rattle.std.proofs.Common.{refl}
use Rattle.std.proofs.lemmas.Result.{IfOk-weaker}
use Rattle.gm_driver.specs.Whole.{checked}
use Rattle.gm_driver.proofs.program.check_job.Goals as goal

pub returns : goal.returns
returns g c = IfOk-weaker c.check.result _ _ (λ a h. λ ways held. checked c.args.prog.now refl (rw c.as_str.ensures at h)) c.check.ensures
