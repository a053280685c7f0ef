-- Expressions of the sequential phase have their values in the master list.
use Rattle.gm_lowering.proofs.Masters.{phase-terms}
use Rattle.gm_lowering.proofs.laws.phase_terms_have_values.Goals as goal

pub returns : goal.returns
returns c = phase-terms
