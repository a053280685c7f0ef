use Rattle.gm_preparable.proofs.Together.{keep-even}
use Rattle.gm_preparable.proofs.laws.typed_programs_keep_tuples_even.Goals as goal

pub returns : goal.returns
returns c = keep-even
