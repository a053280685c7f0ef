-- Outcomes have types.
use Rattle.gm_typed_stores.proofs.Outcomes.{outcome-typed}
use Rattle.gm_typed_stores.proofs.laws.outcomes_have_types.Goals as goal

pub returns : goal.returns
returns c = outcome-typed
