use Rattle.gm_one_way.proofs.ApartPrograms.{reads-along}
use Rattle.gm_one_way.proofs.laws.statements_apart_read_along.Goals as goal

pub returns : goal.returns
returns c = reads-along
