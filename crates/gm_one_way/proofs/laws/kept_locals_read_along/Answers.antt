use Rattle.gm_one_way.proofs.Groups.{groups-keep}
use Rattle.gm_one_way.proofs.laws.kept_locals_read_along.Goals as goal

pub returns : goal.returns
returns c = groups-keep
