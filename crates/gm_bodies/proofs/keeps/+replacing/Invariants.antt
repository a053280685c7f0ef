use Rattle.std.proofs.Common.{length}
use Rattle.gm_bodies.proofs.keeps.+replacing.Given as goal

abbrev pub decreases-replacing : goal.decreases-replacing
decreases-replacing l = length l.targets.now
