use Rattle.gm_one_way.proofs.NodesPrograms.{nodes-keep}
use Rattle.gm_one_way.proofs.laws.nodes_read_along.Goals as goal

pub returns : goal.returns
returns c = nodes-keep
