-- The machine on the image of a ready program has its outcome, where the tests pass.
use Rattle.gm_lowering_master.proofs.Plain.{plain-programs-run}
use Rattle.gm_plain_loops.specs.Laws.{ReadyProgramsRun}
use Rattle.gm_plain_loops.proofs.Followed.{ready-is-followed}
use Rattle.gm_plain_loops.proofs.Plain.{ready-is-plain}

pub ready-programs-run : ReadyProgramsRun
ready-programs-run p g args bound ready face tells suits typed fits columns = plain-programs-run p g args bound face typed fits columns (ready-is-followed p ready tells) (ready-is-plain p ready suits)
