use Rattle.std.proofs.Common.{◌≡◌, ◌+◌, ◌≤◌, length, None}
use Rattle.gm_ast.specs.Tree.{expr_of}
use Rattle.gm_value.specs.Totals.{IsTotal}
use Rattle.gm_semantics.specs.Faults.{least, errs, oks, joined}
use Rattle.gm_semantics.specs.Expressions.{reduce_of}
use Rattle.gm_loops.specs.Ranges.{all_steps, steps_at}
use Rattle.gm_loops.specs.Runnings.{elements_at}
use Rattle.gm_loops.specs.Sights.{view_of}
use Rattle.gm_loops.proofs.sights.Sight.+finding.Given as goal

-- the total is that of the elements from the k-th edge on, of which none faults and there are no more than are behind
abbrev pub invariant-faultless_fold-elements : goal.invariant-faultless_fold-elements
invariant-faultless_fold-elements l = record {
  within : l.k ≤ length (all_steps l.range);
  few : length (joined (oks (elements_at l.fold l.head (expr_of l.filter.value) (expr_of l.body.value) (view_of l.self l.scope l.store) (steps_at l.range l.k)))) + l.k ≤ 2147483647;
  sound : least (errs (elements_at l.fold l.head (expr_of l.filter.value) (expr_of l.body.value) (view_of l.self l.scope l.store) (steps_at l.range l.k))) ≡ None;
  total : IsTotal (reduce_of l.fold.word) l.fold.vtype l.total (joined (oks (elements_at l.fold l.head (expr_of l.filter.value) (expr_of l.body.value) (view_of l.self l.scope l.store) (steps_at l.range l.k))));
}

abbrev pub decreases-faultless_fold-elements : goal.decreases-faultless_fold-elements
decreases-faultless_fold-elements l = l.k
