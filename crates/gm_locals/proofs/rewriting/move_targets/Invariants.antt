use Rattle.std.proofs.Common.{◌≡◌, map, length}
use Rattle.gm_dissect.proofs.Partly.{partly}
use Rattle.gm_locals.specs.AllMoved.{property_of, all_moved_target}
use Rattle.gm_locals.proofs.InPlace.{itself}
use Rattle.gm_locals.proofs.rewriting.move_targets.Given as goal

abbrev pub invariant-loop-i : goal.invariant-loop-i
invariant-loop-i l = (length l.targets.items ≡ length l.initial.targets.items)
    × (map itself l.targets.items ≡ partly (all_moved_target (property_of l.kept.first l.locals) l.kept.iterator) l.i (map itself l.initial.targets.items))
