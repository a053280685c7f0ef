use Rattle.gm_core.proofs.SuperstepLemmas.{supersteps, supersteps-stand}
use Rattle.gm_core.proofs.laws.supersteps_are_events.Goals as goal

pub returns-clause-events : goal.returns-clause-events
returns-clause-events c = λ p g owners workers left q line k s taken dealt ready take. supersteps p g owners workers left q line k s dealt ready taken take

pub returns-clause-stands : goal.returns-clause-stands
returns-clause-stands c = supersteps-stand
