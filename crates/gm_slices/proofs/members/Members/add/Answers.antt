use Rattle.gm_slices.proofs.Sets.{member-more}
use Rattle.gm_slices.proofs.members.Members.add.Goals as goal

pub returns : goal.returns
returns c = member-more c.args.self.now.variables c.insert.new.self c.args.variable c.in_ok-insert.ensures.updates
