-- The lines that keep a tuple do what its reduction does.
use Rattle.gm_lowering.proofs.TupleLines.{tuple-lines}
use Rattle.gm_lowering.proofs.Ranks.{layouts-have-spares}
use Rattle.gm_lowering.proofs.laws.lines_keep_tuples.Goals as goal

pub returns-clause-lines : goal.returns-clause-lines
returns-clause-lines c = tuple-lines

pub returns-clause-spares : goal.returns-clause-spares
returns-clause-spares c = layouts-have-spares
