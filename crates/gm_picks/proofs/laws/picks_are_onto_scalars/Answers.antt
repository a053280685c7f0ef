use Rattle.gm_picks.proofs.PicksLaws.{same-with_plain_picks}
use Rattle.gm_picks.proofs.PicksOut.{picks-kept}
use Rattle.gm_picks.proofs.laws.picks_are_onto_scalars.Goals as goal

pub returns-clause-same : goal.returns-clause-same
returns-clause-same c = same-with_plain_picks

pub returns-clause-ready : goal.returns-clause-ready
returns-clause-ready c = picks-kept
