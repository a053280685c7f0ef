use Rattle.gm_locals.proofs.AllMovedLemmas.{loop-at-once}
use Rattle.gm_locals.proofs.laws.locals_go_at_once.Goals as goal

pub returns : goal.returns
returns c = loop-at-once
