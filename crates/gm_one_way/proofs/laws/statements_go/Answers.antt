use Rattle.gm_one_way.proofs.Statements.{statements-go}
use Rattle.gm_one_way.proofs.laws.statements_go.Goals as goal

pub returns : goal.returns
returns c = statements-go
