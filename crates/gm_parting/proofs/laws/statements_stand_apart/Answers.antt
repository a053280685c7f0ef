use Rattle.gm_parting.proofs.ApartLaws.{same-apart, parted-apart-still}
use Rattle.gm_parting.proofs.laws.statements_stand_apart.Goals as goal

pub returns-clause-same : goal.returns-clause-same
returns-clause-same c = same-apart

pub returns-clause-cut : goal.returns-clause-cut
returns-clause-cut c = parted-apart-still
