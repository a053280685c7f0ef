use Rattle.std.specs.Prelude.{box_value}
use Rattle.gm_ast.specs.Tree.{expr_of}
use Rattle.gm_race.proofs.Trees.{expr_of-Fold}
use Rattle.gm_race.proofs.Parted.{finds-Fold}
use Rattle.gm_race.proofs.walks.Walker.+reads.Goals as goal

pub returns-in_ok-reads-in-Fold-2 : goal.returns-in_ok-reads-in-Fold-2
returns-in_ok-reads-in-Fold-2 t c =
    let r = c.in-Fold in
    rw (r.is, expr_of-Fold)
    (finds-Fold r.fold r.head (expr_of (box_value r.filter)) (expr_of (box_value r.body)) c.in_ok-scalar_read-in-Fold.ensures c.in_ok-enter-in-Fold.ensures
    (rw c.deref-in-Fold.ensures at c.in_ok-reads-in-Fold.ensures) (rw c.deref-in-Fold-2.ensures at c.in_ok-reads-in-Fold-2.ensures) c.leave.ensures)
