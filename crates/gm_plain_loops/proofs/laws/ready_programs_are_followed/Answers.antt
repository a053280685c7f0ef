-- The master list follows ready programs.
use Rattle.gm_plain_loops.proofs.Followed.{ready-is-followed}
use Rattle.gm_plain_loops.proofs.laws.ready_programs_are_followed.Goals as goal

pub returns : goal.returns
returns c = ready-is-followed
