use Rattle.std.proofs.Common.{◌≡◌, ◌++◌, drop}
use Rattle.gm_layouts.specs.Tables.{rows_from}
use Rattle.gm_layouts.specs.Tests.{in_room}
use Rattle.gm_layouts.proofs.layouts.rows_of.Given as goal

-- what is there and what is left make the whole
abbrev pub invariant-loop-declaration : goal.invariant-loop-declaration
invariant-loop-declaration l =
    l.rows.items ++ rows_from (in_room l.fn.room) l.declaration-index (drop l.declaration-index l.declarations) ≡ rows_from (in_room l.fn.room) 0 l.declarations
