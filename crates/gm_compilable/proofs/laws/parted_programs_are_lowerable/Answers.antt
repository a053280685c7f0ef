-- A law of parted programs.
use Rattle.gm_compilable.proofs.Lowerable.{parted-lowerable}
use Rattle.gm_compilable.proofs.laws.parted_programs_are_lowerable.Goals as goal

pub returns : goal.returns
returns c = parted-lowerable
