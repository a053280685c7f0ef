-- Statements are followed.
use Rattle.gm_lowering_master.proofs.Statements.{statements-are-followed}
use Rattle.gm_lowering_master.proofs.laws.statements_are_followed.Goals as goal

pub returns : goal.returns
returns c = statements-are-followed
