use Rattle.std.proofs.Common.{◌+◌, ◌≤◌, length}
use Rattle.gm_ast.specs.Tree.{expr_of}
use Rattle.gm_semantics.specs.Faults.{oks, joined}
use Rattle.gm_semantics.specs.Expressions.{reduce_of}
use Rattle.gm_loops.specs.Ranges.{all_steps, steps_at}
use Rattle.gm_loops.specs.Runnings.{Runs, elements_at}
use Rattle.gm_loops.specs.Sights.{view_of}
use Rattle.gm_loops.proofs.sights.Sight.+evaluated.Given as goal

abbrev pub decreases-evaluated : goal.decreases-evaluated
decreases-evaluated l = goal.size-evaluated l

-- what is kept is that of the elements from the k-th edge on, of which there are no more than are behind
abbrev pub invariant-elements : goal.invariant-elements
invariant-elements l = record {
  within : l.k ≤ length (all_steps l.range);
  few : length (joined (oks (elements_at l.fold l.head (expr_of l.filter.value) (expr_of l.body.value) (view_of l.self l.scope l.store) (steps_at l.range l.k)))) + l.k ≤ 2147483647;
  runs : Runs (reduce_of l.fold.word) l.fold.vtype l.run (elements_at l.fold l.head (expr_of l.filter.value) (expr_of l.body.value) (view_of l.self l.scope l.store) (steps_at l.range l.k));
}

abbrev pub decreases-elements : goal.decreases-elements
decreases-elements l = l.k
