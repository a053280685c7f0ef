use Rattle.std.proofs.Common.{◌≡◌, ◌++◌, drop}
use Rattle.gm_layouts.specs.Tables.{rows_from}
use Rattle.gm_layouts.specs.Tests.{has_field}
use Rattle.gm_layouts.proofs.layouts.fields_of.Given as goal

-- what is there and what is left make the whole
abbrev pub invariant-loop-declaration : goal.invariant-loop-declaration
invariant-loop-declaration l =
    (l.index ≡ l.declaration-index)
    × (l.rows.items ++ rows_from (has_field l.fn.marks l.fn.given) l.declaration-index (drop l.declaration-index l.declarations) ≡ rows_from (has_field l.fn.marks l.fn.given) 0 l.declarations)
