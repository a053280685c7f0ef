-- The machine has the outcome of ready programs.
use Rattle.gm_plain_loops.proofs.Running.{ready-programs-run}
use Rattle.gm_plain_loops.proofs.laws.ready_programs_run.Goals as goal

pub returns : goal.returns
returns c = ready-programs-run
