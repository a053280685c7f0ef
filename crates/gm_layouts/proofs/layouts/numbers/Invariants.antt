use Rattle.std.proofs.Common.{◌≡◌, ◌++◌, drop}
use Rattle.gm_layouts.specs.Tables as Tables
use Rattle.gm_layouts.proofs.layouts.numbers.Given as goal

-- what is there and what is left make the whole
abbrev pub invariant-loop-row : goal.invariant-loop-row
invariant-loop-row l = l.table.items ++ Tables.numbers l.count (drop l.row-index l.rows) ≡ Tables.numbers 0 l.rows
