use Rattle.gm_preparable.proofs.Together.{check-nothing}
use Rattle.gm_preparable.proofs.laws.typed_programs_check_nothing.Goals as goal

pub returns : goal.returns
returns c = check-nothing
