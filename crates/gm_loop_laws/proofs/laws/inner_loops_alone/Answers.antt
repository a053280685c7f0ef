-- Inner loops that stand alone.
use Rattle.gm_loop_laws.proofs.Flips.{flipping-holds, ends-anywhere}
use Rattle.gm_loop_laws.proofs.laws.inner_loops_alone.Goals as goal

pub returns-clause-flipped : goal.returns-clause-flipped
returns-clause-flipped c = flipping-holds

pub returns-clause-ended : goal.returns-clause-ended
returns-clause-ended c = ends-anywhere
