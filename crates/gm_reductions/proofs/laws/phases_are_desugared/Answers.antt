use Rattle.gm_reductions.proofs.PhasesLaws.{outside, flat}
use Rattle.gm_reductions.proofs.laws.phases_are_desugared.Goals as goal

pub returns-clause-outside : goal.returns-clause-outside
returns-clause-outside c = outside

pub returns-clause-flat : goal.returns-clause-flat
returns-clause-flat c = flat
