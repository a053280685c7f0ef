-- Parted programs go to slices that evaluate only what they need.
use Rattle.gm_cut.proofs.LeanFacts.{parted-leans}
use Rattle.gm_cut.proofs.LeanLeaves.{statements-go}
use Rattle.gm_cut.proofs.LeanPlain.{plain-goes}
use Rattle.gm_cut.proofs.laws.parted_programs_go_to_lean_slices.Goals as goal

pub returns-clause-may : goal.returns-clause-may
returns-clause-may c = parted-leans

pub returns-clause-go : goal.returns-clause-go
returns-clause-go c = statements-go

pub returns-clause-plain : goal.returns-clause-plain
returns-clause-plain c = plain-goes
