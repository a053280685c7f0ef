-- Nodes are read into locals of their own first.
use Rattle.gm_parting.proofs.NodesLaws.{ready-read, same-read}
use Rattle.gm_parting.proofs.laws.nodes_are_read_first.Goals as goal

pub returns-clause-same : goal.returns-clause-same
returns-clause-same c = same-read

pub returns-clause-ready : goal.returns-clause-ready
returns-clause-ready c = ready-read
