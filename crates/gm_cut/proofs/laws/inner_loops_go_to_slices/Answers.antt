-- Inner loops go to slices.
use Rattle.gm_cut.proofs.SlicesLaws.{ready-sliced, same-sliced}
use Rattle.gm_cut.proofs.laws.inner_loops_go_to_slices.Goals as goal

pub returns-clause-same : goal.returns-clause-same
returns-clause-same c = same-sliced

pub returns-clause-ready : goal.returns-clause-ready
returns-clause-ready c = ready-sliced
