use Rattle.gm_ready.proofs.Procedures.{typed-named}
use Rattle.gm_ready.proofs.laws.typed_programs_are_named.Goals as goal

pub returns : goal.returns
returns c = typed-named
