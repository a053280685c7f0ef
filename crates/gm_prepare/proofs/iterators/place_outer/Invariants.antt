use Rattle.std.proofs.Common.{◌≡◌, map, length}
use Rattle.gm_dissect.proofs.Partly.{partly}
use Rattle.std.specs.Prelude.{false}
use Rattle.gm_prepare.specs.Placing.{placed}
use Rattle.gm_prepare.proofs.Placing.{itself}
use Rattle.gm_prepare.proofs.iterators.place_outer.Given as goal

-- the variables before an index are placed
abbrev pub invariant-loop-i : goal.invariant-loop-i
invariant-loop-i l = (length l.declarations.items ≡ length l.initial.declarations.items) × (map itself l.declarations.items ≡ partly (placed false) l.i (map itself l.initial.declarations.items))
