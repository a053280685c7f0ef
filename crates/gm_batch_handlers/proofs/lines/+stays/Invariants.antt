-- The lines that are left.
use Rattle.std.proofs.Common.{length}
use Rattle.gm_batch_handlers.proofs.lines.+stays.Given as goal

abbrev pub decreases-stays : goal.decreases-stays
decreases-stays l = length l.lines.now
