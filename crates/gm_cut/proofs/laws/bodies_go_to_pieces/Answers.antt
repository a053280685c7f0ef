-- Bodies go to pieces.
use Rattle.gm_cut.proofs.PartLaws.{flippable-parted, ready-parted, same-parted}
use Rattle.gm_cut.proofs.laws.bodies_go_to_pieces.Goals as goal

pub returns-clause-same : goal.returns-clause-same
returns-clause-same c = same-parted

pub returns-clause-cut : goal.returns-clause-cut
returns-clause-cut c = ready-parted

pub returns-clause-ready : goal.returns-clause-ready
returns-clause-ready c = flippable-parted
