-- First moments show.
use Rattle.gm_lowering_master.proofs.Starting.{first-moments-show}
use Rattle.gm_lowering_master.proofs.laws.first_moments_show.Goals as goal

pub returns : goal.returns
returns c = first-moments-show
