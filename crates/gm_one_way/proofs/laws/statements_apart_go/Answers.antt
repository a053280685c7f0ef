use Rattle.gm_one_way.proofs.ApartPrograms.{apart-go}
use Rattle.gm_one_way.proofs.laws.statements_apart_go.Goals as goal

pub returns : goal.returns
returns c = apart-go
