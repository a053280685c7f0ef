use Rattle.gm_store.proofs.Reversing.{Restored-rolled_back}
use Rattle.gm_store.proofs.laws.rolling_back_restores.Goals as goal

pub returns : goal.returns
returns c = λ old later new course back. Restored-rolled_back old later new course back.store back.undo back.shape
