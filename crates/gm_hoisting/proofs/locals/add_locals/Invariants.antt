use Rattle.std.proofs.Common.{◌≡◌, ◌++◌, map, length}
use Rattle.std.specs.Vec.Iter.{into_iter_items, into_iter_len}
use Rattle.gm_hoisting.specs.Hoisting.{local}
use Rattle.gm_hoisting.proofs.locals.add_locals.Given as goal

abbrev pub invariant-loop-vtype : goal.invariant-loop-vtype
invariant-loop-vtype l = (l.yielded ++ into_iter_items l.vtype-iterator ≡ into_iter_items l.initial.vtype-iterator)
    × (l.declarations.items ≡ l.fn.declarations.items ++ map local l.yielded)
    × (into_iter_len l.vtype-iterator ≡ length (into_iter_items l.vtype-iterator))
