use Rattle.gm_along.proofs.Together.{canonical-go}
use Rattle.gm_along.proofs.laws.canonical_programs_go_one_way.Goals as goal

pub returns : goal.returns
returns c = canonical-go
