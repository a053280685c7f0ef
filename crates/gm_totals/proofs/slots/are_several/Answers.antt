-- Any number of slots but one.
use Rattle.std.proofs.Common.{sym}
use Rattle.gm_totals.proofs.Keys.{several-not}
use Rattle.gm_totals.proofs.slots.are_several.Goals as goal

pub returns : goal.returns
returns c = sym (several-not c.args.slots.now)
