use Rattle.gm_core.proofs.MailLemmas.{delivers}
use Rattle.gm_core.proofs.laws.batches_are_delivered.Goals as goal

pub returns : goal.returns
returns g c = delivers
