use Rattle.gm_ast.specs.Tree.{expr_of}
use Rattle.gm_bfs.specs.Copies.{reading}
use Rattle.gm_bfs.proofs.InPlace.{IsDone}
use Rattle.gm_bfs.proofs.readings.read_all.Given as goal

abbrev pub invariant-loop-value : goal.invariant-loop-value
invariant-loop-value l = IsDone expr_of (reading l.fn.fresh l.fn.marks l.fn.iterator) l.initial.value-items l.value-index l.value-items
