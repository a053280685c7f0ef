use Rattle.gm_posting.proofs.GatheringLemmas.{puts-arrive}
use Rattle.gm_posting.proofs.laws.what_is_put_arrives.Goals as goal

pub returns : goal.returns
returns g c = puts-arrive g.B.Bundle.items
