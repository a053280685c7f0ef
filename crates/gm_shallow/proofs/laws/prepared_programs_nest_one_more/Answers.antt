use Rattle.gm_shallow.proofs.Dissected.{prepared-nest}
use Rattle.gm_shallow.proofs.laws.prepared_programs_nest_one_more.Goals as goal

pub returns : goal.returns
returns c = prepared-nest
