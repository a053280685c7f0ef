-- A join leaves one step line fewer.
use Rattle.gm_merge_laws.proofs.Endings.{join-ends}
use Rattle.gm_merge_laws.proofs.laws.joins_end.Goals as goal

pub returns : goal.returns
returns c = join-ends
