use Rattle.gm_along.proofs.Scopes.{program-scoped}
use Rattle.gm_along.proofs.laws.typed_programs_are_scoped.Goals as goal

pub returns : goal.returns
returns c = program-scoped
