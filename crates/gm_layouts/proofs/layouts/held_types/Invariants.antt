use Rattle.std.proofs.Common.{◌≡◌, ◌++◌, drop}
use Rattle.gm_layouts.specs.Tables as Tables
use Rattle.gm_layouts.proofs.layouts.held_types.Given as goal

-- what is there and what is left make the whole
abbrev pub invariant-loop-row : goal.invariant-loop-row
invariant-loop-row l = l.types.items ++ Tables.held_types (drop l.row-index l.rows) ≡ Tables.held_types l.rows
