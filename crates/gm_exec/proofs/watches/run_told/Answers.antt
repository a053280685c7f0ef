use Rattle.gm_exec.proofs.Telling.{part-all}
use Rattle.gm_exec.proofs.watches.run_told.Goals as goal

pub returns-clause-part : goal.returns-clause-part
returns-clause-part g c = part-all _ _ _ c.in_ok-end.ensures.told
