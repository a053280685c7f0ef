-- Reductions of parallel bodies are loops.
use Rattle.gm_hoisting.proofs.Kept.{kept}
use Rattle.gm_hoisting.proofs.Same.{same-without_inner_folds}
use Rattle.gm_hoisting.proofs.laws.inner_folds_are_loops.Goals as goal

pub returns-clause-same : goal.returns-clause-same
returns-clause-same c = same-without_inner_folds

pub returns-clause-ready : goal.returns-clause-ready
returns-clause-ready c = kept
