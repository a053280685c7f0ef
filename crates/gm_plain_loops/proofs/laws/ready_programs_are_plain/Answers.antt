-- The loops of ready programs are plain.
use Rattle.gm_plain_loops.proofs.Plain.{ready-is-plain}
use Rattle.gm_plain_loops.proofs.laws.ready_programs_are_plain.Goals as goal

pub returns : goal.returns
returns c = ready-is-plain
