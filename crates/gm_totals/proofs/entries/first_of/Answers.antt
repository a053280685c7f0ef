-- The first of some values.
use Rattle.std.proofs.Common.{◌<◌, length, arith}
use Rattle.gm_totals.proofs.Joining.{first_of}
use Rattle.gm_totals.proofs.entries.first_of.Goals as goal

pub returns : goal.returns
returns c = λ other. let some : 0 < length c.args.values.now = omega arith in first_of other c.args.values.now _ some
