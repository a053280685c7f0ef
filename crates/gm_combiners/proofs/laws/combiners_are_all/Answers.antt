-- Which kinds have combiners.
use Rattle.gm_combiners.proofs.Made.{made-all}
use Rattle.gm_combiners.proofs.laws.combiners_are_all.Goals as goal

pub returns : goal.returns
returns c p sound = made-all p sound
