use Rattle.gm_preparable.proofs.Together.{may-be-prepared}
use Rattle.gm_preparable.proofs.laws.typed_programs_may_be_prepared.Goals as goal

pub returns : goal.returns
returns c = may-be-prepared
