use Rattle.std.proofs.Common.{◌≡◌, drop}
use Rattle.gm_layouts.specs.Named.{marked}
use Rattle.gm_layouts.proofs.layouts.mark_all.Given as goal

-- what is there and what is left make the whole
abbrev pub invariant-loop-name : goal.invariant-loop-name
invariant-loop-name l = marked l.marks.items (drop l.name-index l.names) ≡ marked l.initial.marks.items l.names
