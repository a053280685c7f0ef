-- The first of some values, or another.
use Rattle.std.proofs.Common.{◌≡◌, ◌<◌, length, sym, arith}
use Rattle.gm_totals.proofs.Joining.{first_of, first-none}
use Rattle.gm_totals.proofs.entries.first_or.Goals as goal

pub returns-then-values-eq0 : goal.returns-then-values-eq0
returns-then-values-eq0 c = let none : length c.args.values.now ≡ 0 = omega arith in sym (first-none c.args.other c.args.values.now none)

pub returns : goal.returns
returns c = let some : 0 < length c.args.values.now = omega arith in sym (first_of c.args.other c.args.values.now _ some)
