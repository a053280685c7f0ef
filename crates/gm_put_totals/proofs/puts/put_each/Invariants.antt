-- What was put so far.
use Rattle.std.proofs.Common.{◌≡◌, ◌++◌, take}
use Rattle.gm_put_totals.specs.PutTotals.{single_puts}
use Rattle.gm_put_totals.proofs.puts.put_each.Given as goal

abbrev pub invariant-loop-i : goal.invariant-loop-i
invariant-loop-i l = l.puts ≡ l.fn.puts ++ single_puts l.place l.reduce l.slot (take l.i l.column.values)
