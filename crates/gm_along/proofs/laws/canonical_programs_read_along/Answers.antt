use Rattle.gm_along.proofs.Canonical.{texts-read-along}
use Rattle.gm_along.proofs.laws.canonical_programs_read_along.Goals as goal

pub returns : goal.returns
returns c = texts-read-along
