use Rattle.std.proofs.Common.{◌≡◌, ◌++◌, drop}
use Rattle.gm_layouts.specs.Named.{none_of}
use Rattle.gm_layouts.proofs.layouts.unmarked.Given as goal

-- what is there and what is left make the whole
abbrev pub invariant-loop-declaration : goal.invariant-loop-declaration
invariant-loop-declaration l = l.marks.items ++ none_of (drop l._declaration-index l.declarations) ≡ none_of l.declarations
