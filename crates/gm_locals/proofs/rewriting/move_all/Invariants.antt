use Rattle.std.proofs.Common.{◌≡◌, map, length}
use Rattle.gm_ast.specs.Tree.{expr_of}
use Rattle.gm_dissect.proofs.Partly.{partly}
use Rattle.gm_locals.specs.AllMoved.{property_of, all_moved_in}
use Rattle.gm_locals.proofs.rewriting.move_all.Given as goal

abbrev pub invariant-loop-i : goal.invariant-loop-i
invariant-loop-i l = (length l.values.items ≡ length l.initial.values.items) × (map expr_of l.values.items ≡ partly (all_moved_in (property_of l.kept.first l.locals) l.kept.iterator) l.i (map expr_of l.initial.values.items))
