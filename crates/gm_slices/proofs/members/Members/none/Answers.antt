use Rattle.gm_slices.proofs.Sets.{member-none}
use Rattle.gm_slices.proofs.members.Members.none.Goals as goal

pub returns : goal.returns
returns c = member-none c.new.result c.new.ensures.empty
