-- Bodies are sliced.
use Rattle.gm_loop_laws.proofs.Slicing.{slices-hold}
use Rattle.gm_loop_laws.proofs.laws.bodies_can_be_sliced.Goals as goal

pub returns : goal.returns
returns c = slices-hold
