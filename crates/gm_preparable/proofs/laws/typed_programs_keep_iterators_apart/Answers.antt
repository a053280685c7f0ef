use Rattle.gm_preparable.proofs.Together.{keep-apart}
use Rattle.gm_preparable.proofs.laws.typed_programs_keep_iterators_apart.Goals as goal

pub returns : goal.returns
returns c = keep-apart
