use Rattle.std.proofs.Common.{◌++◌}
use Rattle.std.specs.Prelude.{box_value}
use Rattle.gm_ast.specs.Canonical.{reads_broken, range_broken, within}
use Rattle.gm_ast.specs.Canonical as Canonical
use Rattle.gm_ast.specs.Tree.{expr_of}
use Rattle.gm_canon.specs.declared.loops.Code.TheVariants.{Reduction}
use Rattle.gm_canon.proofs.Parts.{notes-both, notes-three, notes-within}
use Rattle.gm_canon.proofs.Trees.{expr_of-Binary, expr_of-Both, expr_of-Either, expr_of-Choose, expr_of-Fold}
use Rattle.gm_canon.proofs.walks.Walker.+reads.Goals as goal

pub returns-in_ok-reads-in-Binary-2 : goal.returns-in_ok-reads-in-Binary-2
returns-in_ok-reads-in-Binary-2 t c =
    rw (c.in-Binary.is, expr_of-Binary)
    (notes-both (reads_broken (expr_of (box_value c.in-Binary.left))) (reads_broken (expr_of (box_value c.in-Binary.right)))
    (rw c.deref-in-Binary.ensures at c.in_ok-reads-in-Binary.ensures) (rw c.deref-in-Binary-2.ensures at c.in_ok-reads-in-Binary-2.ensures))

pub returns-in_ok-reads-in-Both-2 : goal.returns-in_ok-reads-in-Both-2
returns-in_ok-reads-in-Both-2 t c =
    rw (c.in-Both.is, expr_of-Both)
    (notes-both (reads_broken (expr_of (box_value c.in-Both.left))) (reads_broken (expr_of (box_value c.in-Both.right)))
    (rw c.deref-in-Both.ensures at c.in_ok-reads-in-Both.ensures) (rw c.deref-in-Both-2.ensures at c.in_ok-reads-in-Both-2.ensures))

pub returns-in_ok-reads-in-Either-2 : goal.returns-in_ok-reads-in-Either-2
returns-in_ok-reads-in-Either-2 t c =
    rw (c.in-Either.is, expr_of-Either)
    (notes-both (reads_broken (expr_of (box_value c.in-Either.left))) (reads_broken (expr_of (box_value c.in-Either.right)))
    (rw c.deref-in-Either.ensures at c.in_ok-reads-in-Either.ensures) (rw c.deref-in-Either-2.ensures at c.in_ok-reads-in-Either-2.ensures))

pub returns-in_ok-reads-in-Choose-3 : goal.returns-in_ok-reads-in-Choose-3
returns-in_ok-reads-in-Choose-3 t c =
    rw (c.in-Choose.is, expr_of-Choose)
    (notes-three (reads_broken (expr_of (box_value c.in-Choose.test))) (reads_broken (expr_of (box_value c.in-Choose.yes))) (reads_broken (expr_of (box_value c.in-Choose.no)))
    (rw c.deref-in-Choose.ensures at c.in_ok-reads-in-Choose.ensures) (rw c.deref-in-Choose-2.ensures at c.in_ok-reads-in-Choose-2.ensures)
    (rw c.deref-in-Choose-3.ensures at c.in_ok-reads-in-Choose-3.ensures))

pub returns-in_ok-reads-in-Fold-2 : goal.returns-in_ok-reads-in-Fold-2
returns-in_ok-reads-in-Fold-2 t c =
    let r = c.in-Fold in
    let test = expr_of (box_value r.filter) in
    let body = expr_of (box_value r.body) in
    rw (r.is, expr_of-Fold)
    (notes-both (λ w. range_broken w.loops r.head) (λ w. reads_broken test (within w Canonical.Reduction r.head.iterator) ++ reads_broken body (within w Canonical.Reduction r.head.iterator))
    c.range.ensures
    (notes-within Reduction r.head.iterator (λ w. reads_broken test w ++ reads_broken body w) c.in_ok-enter-in-Fold.ensures
    (notes-both (reads_broken test) (reads_broken body)
    (rw c.deref-in-Fold.ensures at c.in_ok-reads-in-Fold.ensures) (rw c.deref-in-Fold-2.ensures at c.in_ok-reads-in-Fold-2.ensures))
    c.leave.ensures))
