-- The lines that are left.
use Rattle.std.proofs.Common.{◌+◌, ◌*◌, length}
use Rattle.gm_batch_handlers.proofs.lines.+running.Given as goal

abbrev pub decreases-run_lines : goal.decreases-run_lines
decreases-run_lines l = 3 * length l.lines.now

abbrev pub decreases-run_held : goal.decreases-run_held
decreases-run_held l = 3 * length l.lines.now + 1

abbrev pub decreases-run_skip : goal.decreases-run_skip
decreases-run_skip l = 3 * length l.lines.now + 2
