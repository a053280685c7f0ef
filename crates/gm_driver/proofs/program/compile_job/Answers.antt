use Rattle.std.proofs.Common.{refl}
use Rattle.std.proofs.lemmas.Result.{IfOk-weaker}
use Rattle.gm_driver.specs.Whole.{compiled}
use Rattle.gm_driver.proofs.program.compile_job.Goals as goal

pub returns : goal.returns
returns g c = IfOk-weaker c.compile.result _ _ (λ a h. λ ways held. compiled c.args.prog.now refl (rw c.as_str.ensures at h)) c.compile.ensures
