use Rattle.std.proofs.Common.{◌≡◌, ◌++◌, map, length}
use Rattle.std.specs.Vec.Iter.{into_iter_items, into_iter_len}
use Rattle.gm_desugar.specs.Conditions.{fresh}
use Rattle.gm_desugar.proofs.reads.add_fresh.Given as goal

abbrev pub invariant-loop-vtype : goal.invariant-loop-vtype
invariant-loop-vtype l = (l.yielded ++ into_iter_items l.vtype-iterator ≡ into_iter_items l.initial.vtype-iterator)
    × (l.declarations.items ≡ l.fn.declarations.items ++ map fresh l.yielded)
    × (into_iter_len l.vtype-iterator ≡ length (into_iter_items l.vtype-iterator))
