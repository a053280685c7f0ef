-- A law of parted programs.
use Rattle.gm_compilable.proofs.WellTyped.{parted-well-typed}
use Rattle.gm_compilable.proofs.laws.parted_programs_are_well_typed.Goals as goal

pub returns : goal.returns
returns c = parted-well-typed
