-- Deferred writes are copied.
use Rattle.gm_loop_laws.proofs.Delays.{defers-move}
use Rattle.gm_loop_laws.proofs.laws.deferred_writes_can_be_copied.Goals as goal

pub returns : goal.returns
returns c = defers-move
