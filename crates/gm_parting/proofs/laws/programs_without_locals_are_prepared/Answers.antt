use Rattle.gm_parting.proofs.WithoutLocals.{without-locals}
use Rattle.gm_parting.proofs.laws.programs_without_locals_are_prepared.Goals as goal

pub returns : goal.returns
returns c = without-locals
