-- A tuple is kept whole, where its term says so.
use Rattle.gm_lowering.proofs.Tuples.{replacing-tells, tuples-kept}
use Rattle.gm_lowering.proofs.laws.tuples_are_kept_whole.Goals as goal

pub returns-clause-tells : goal.returns-clause-tells
returns-clause-tells c = replacing-tells

pub returns-clause-kept : goal.returns-clause-kept
returns-clause-kept c = tuples-kept
