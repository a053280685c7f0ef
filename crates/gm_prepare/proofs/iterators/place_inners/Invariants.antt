use Rattle.std.proofs.Common.{◌≡◌, length}
use Rattle.gm_prepare.specs.Placing.{placed_each}
use Rattle.gm_prepare.proofs.iterators.place_inners.Given as goal

-- those that are left are still to be placed
abbrev pub invariant-placing : goal.invariant-placing
invariant-placing l = placed_each l.inners.items l.declarations.items ≡ placed_each l.fn.inners.items l.initial.declarations.items

abbrev pub decreases-placing : goal.decreases-placing
decreases-placing l = length l.inners.items
