use Rattle.std.proofs.Common.{◌≡◌, length}
use Rattle.std.specs.Vec.Iter.{into_iter_items, into_iter_len}
use Rattle.gm_ast.specs.Tree.{program_of}
use Rattle.gm_dissect.specs.AllDeferred.{without_each}
use Rattle.gm_dissect.proofs.all_deferred.each_out.Given as goal

-- the properties that are left lead to the same program
abbrev pub invariant-loop-property : goal.invariant-loop-property
invariant-loop-property l = (without_each (into_iter_items l.property-iterator) (program_of l.tree) ≡ without_each (into_iter_items l.initial.property-iterator) (program_of l.initial.tree))
    × (into_iter_len l.property-iterator ≡ length (into_iter_items l.property-iterator))
