use Rattle.gm_slices.proofs.Sets.{member-copied}
use Rattle.gm_slices.proofs.members.Members.copy.Goals as goal

pub returns : goal.returns
returns c = member-copied c.args.self.now.variables c.in_ok-variables.variables c.in_ok-variables.ensures.cases
