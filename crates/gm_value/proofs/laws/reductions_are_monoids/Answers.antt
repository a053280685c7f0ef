-- Each reduction is associative.
use Rattle.gm_value.proofs.MonoidLaws.{combined_assoc}
use Rattle.gm_value.proofs.laws.reductions_are_monoids.Goals as goal

pub returns-clause-associative : goal.returns-clause-associative
returns-clause-associative c = combined_assoc
