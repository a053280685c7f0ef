-- Inner loops go to slices.
use Rattle.gm_cut.proofs.LeanLaws.{ready-lean, same-lean}
use Rattle.gm_cut.proofs.laws.inner_loops_go_to_lean_slices.Goals as goal

pub returns-clause-same : goal.returns-clause-same
returns-clause-same c = same-lean

pub returns-clause-ready : goal.returns-clause-ready
returns-clause-ready c = ready-lean
