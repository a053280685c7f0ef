use Rattle.gm_slices.proofs.Sets.{member-either}
use Rattle.gm_slices.proofs.members.Members.join.Goals as goal

pub returns : goal.returns
returns c = member-either c.args.self.now.variables c.args.other.variables c.append.new.self c.in_ok-append.ensures.inserts_all
