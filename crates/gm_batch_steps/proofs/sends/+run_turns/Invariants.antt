-- The lines that are left.
use Rattle.std.proofs.Common.{◌+◌, ◌*◌, length}
use Rattle.gm_batch_steps.proofs.sends.+run_turns.Given as goal

abbrev pub decreases-run_turns : goal.decreases-run_turns
decreases-run_turns l = 2 * length l.lines.now

abbrev pub decreases-run_some : goal.decreases-run_some
decreases-run_some l = 2 * length l.lines.now + 1
