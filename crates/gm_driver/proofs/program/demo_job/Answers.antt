use Rattle.std.proofs.Common.{refl}
use Rattle.std.proofs.lemmas.Result.{IfOk-weaker}
use Rattle.gm_driver.specs.Whole.{demonstrated}
use Rattle.gm_driver.proofs.program.demo_job.Goals as goal

pub returns : goal.returns
returns g c = IfOk-weaker c.demo.result _ _
    (λ a d. λ ways held o. demonstrated c.args.nodes c.args.options refl (record { left = refl; quiet = refl }) (record { map = refl; quiet = refl; found = refl }) d) c.demo.ensures
