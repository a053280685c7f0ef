use Rattle.std.proofs.Common.{◌≡◌, ◌+◌, ◌++◌, ◌∷◌, List, ap, subst, map, drop, option_map}
use Rattle.std.specs.Prelude.{box_value}
use Rattle.gm_ast.specs.Canonical as Canonical
use Rattle.gm_ast.specs.Canonical.{within, range_broken, reads_broken, option_broken, sequential_only, not_inner, ways_broken, forms_broken}
use Rattle.gm_ast.specs.Program.{Stmt, sequence}
use Rattle.gm_ast.specs.Tree.{expr_of, stmt_of}
use Rattle.gm_canon.specs.declared.loops.Code.TheVariants.{Body, Search}
use Rattle.gm_canon.proofs.Items.{drop-item}
use Rattle.gm_canon.proofs.Parts.{notes-both, notes-three, notes-pairs, notes-outside, notes-within, Walks, walks-next}
use Rattle.gm_canon.proofs.Trees.{stmt_of-Foreach, stmt_of-For, stmt_of-If, stmt_of-While, stmt_of-Do, stmt_of-InBfs, stmt_of-InBfsBoth, stmt_of-Return}
use Rattle.gm_canon.proofs.walks.Walker.+forms.Goals as goal

pub block-loop-stmt-preserved : goal.block-loop-stmt-preserved
block-loop-stmt-preserved t c =
    let stmts = c.args.stmts.now.items in
    let i = c.loop-stmt.stmt-index in
    let item = c.stmt-item.result in
    let rest : map stmt_of (drop i stmts) ≡ stmt_of item ∷ map stmt_of (drop (i + 1) stmts) = ap (map stmt_of) (drop-item stmts i item (rw c.deref-stmt-items.ensures.value at c.loop-stmt-test.true) (rw c.deref-stmt-items.ensures.value at c.stmt-item.is)) in
    let w = subst (λ (r : List Stmt). Walks c.args.self.now c.loop-stmt.self (forms_broken (sequence (map stmt_of stmts))) (forms_broken (sequence r))) rest c.loop-stmt.invariant in
    walks-next (forms_broken (sequence (map stmt_of stmts))) (forms_broken (stmt_of item)) (forms_broken (sequence (map stmt_of (drop (i + 1) stmts)))) w c.in_ok-forms.ensures

pub searched-returns : goal.searched-returns
searched-returns t c =
    let x = c.args.iterator in
    let test = expr_of c.args.filter.now in
    let s = stmt_of c.args.body.now in
    notes-both (λ w. reads_broken test (within w Canonical.Filter x)) (λ w. forms_broken s (within w Canonical.Search x))
    c.in_ok-reads_within.ensures
    (notes-within Search x (forms_broken s) c.in_ok-enter.ensures c.in_ok-forms.ensures c.leave.ensures)

pub foreach-returns : goal.foreach-returns
foreach-returns t c key =
    let x = c.args.head.now.iterator in
    let test = expr_of c.args.filter.now in
    let s = stmt_of c.args.body.now in
    notes-three (λ w. not_inner w.loops c.args.place) (λ w. range_broken w.loops c.args.head.now)
    (λ w. reads_broken test (within w Canonical.Body x) ++ (forms_broken s (within w Canonical.Body x) ++ ways_broken w.loops c.args.head.now test s))
    c.not_inner.ensures c.range.ensures
    (notes-three (λ w. reads_broken test (within w Canonical.Body x)) (λ w. forms_broken s (within w Canonical.Body x)) (λ w. ways_broken w.loops c.args.head.now test s)
    c.in_ok-reads_within.ensures
    (notes-within Body x (forms_broken s) c.in_ok-enter.ensures c.in_ok-forms.ensures c.leave.ensures)
    c.in_ok-ways.ensures)

pub for_loop-returns : goal.for_loop-returns
for_loop-returns t c key =
    let test = expr_of c.args.filter.now in
    let s = stmt_of c.args.body.now in
    notes-outside c.args.place (λ w. range_broken w.loops c.args.head.now ++ (reads_broken test w ++ forms_broken s w)) c.phase_only.ensures
    (notes-three (λ w. range_broken w.loops c.args.head.now) (reads_broken test) (forms_broken s)
    c.range.ensures c.in_ok-reads.ensures c.in_ok-forms.ensures)

pub forms-returns-in_ok-foreach-in-Foreach : goal.forms-returns-in_ok-foreach-in-Foreach
forms-returns-in_ok-foreach-in-Foreach t c =
    let r = c.in-Foreach in
    rw (r.is, stmt_of-Foreach) (rw c.deref-in-Foreach.ensures at (c.in_ok-foreach-in-Foreach.ensures r.key))

pub forms-returns-in_ok-for_loop-in-For : goal.forms-returns-in_ok-for_loop-in-For
forms-returns-in_ok-for_loop-in-For t c =
    let r = c.in-For in
    rw (r.is, stmt_of-For) (rw c.deref-in-For.ensures at (c.in_ok-for_loop-in-For.ensures r.key))

pub forms-returns-in_ok-forms-in-If-2 : goal.forms-returns-in_ok-forms-in-If-2
forms-returns-in_ok-forms-in-If-2 t c =
    let r = c.in-If in
    rw (r.is, stmt_of-If)
    (notes-three (reads_broken (expr_of r.test)) (forms_broken (stmt_of (box_value r.yes))) (forms_broken (stmt_of (box_value r.no)))
    c.in_ok-reads-in-If.ensures (rw c.deref-in-If.ensures at c.in_ok-forms-in-If.ensures) (rw c.deref-in-If-2.ensures at c.in_ok-forms-in-If-2.ensures))

pub forms-returns-in_ok-forms-in-While : goal.forms-returns-in_ok-forms-in-While
forms-returns-in_ok-forms-in-While t c =
    let r = c.in-While in
    let test = expr_of r.test in
    let s = stmt_of (box_value r.body) in
    rw (r.is, stmt_of-While)
    (notes-outside r.place (λ w. reads_broken test w ++ forms_broken s w) c.phase_only-in-While.ensures
    (notes-both (reads_broken test) (forms_broken s) c.in_ok-reads-in-While.ensures (rw c.deref-in-While.ensures at c.in_ok-forms-in-While.ensures)))

pub forms-returns-in_ok-reads-in-Do : goal.forms-returns-in_ok-reads-in-Do
forms-returns-in_ok-reads-in-Do t c =
    let r = c.in-Do in
    let test = expr_of r.test in
    let s = stmt_of (box_value r.body) in
    rw (r.is, stmt_of-Do)
    (notes-outside r.place (λ w. forms_broken s w ++ reads_broken test w) c.phase_only-in-Do.ensures
    (notes-both (forms_broken s) (reads_broken test) (rw c.deref-in-Do.ensures at c.in_ok-forms-in-Do.ensures) c.in_ok-reads-in-Do.ensures))

pub forms-returns-in_ok-searched-in-InBfs : goal.forms-returns-in_ok-searched-in-InBfs
forms-returns-in_ok-searched-in-InBfs t c =
    let r = c.in-InBfs in
    let x = r.search.iterator in
    let test = expr_of r.filter in
    let s = stmt_of (box_value r.body) in
    rw (r.is, stmt_of-InBfs)
    (notes-outside r.place (λ w. reads_broken test (within w Canonical.Filter x) ++ forms_broken s (within w Canonical.Search x)) c.phase_only-in-InBfs.ensures
    (rw c.deref-in-InBfs.ensures at c.in_ok-searched-in-InBfs.ensures))

pub forms-returns-in_ok-searched-in-InBfsBoth-2 : goal.forms-returns-in_ok-searched-in-InBfsBoth-2
forms-returns-in_ok-searched-in-InBfsBoth-2 t c =
    let r = c.in-InBfsBoth in
    let x = r.search.iterator in
    let test = expr_of r.filter in
    let s = stmt_of (box_value r.body) in
    let back_test = expr_of r.back_filter in
    let b = stmt_of (box_value r.back) in
    rw (r.is, stmt_of-InBfsBoth)
    (notes-outside r.place
    (λ w. reads_broken test (within w Canonical.Filter x) ++ (forms_broken s (within w Canonical.Search x) ++ (reads_broken back_test (within w Canonical.Filter x) ++ forms_broken b (within w Canonical.Search x))))
    c.phase_only-in-InBfsBoth.ensures
    (notes-pairs (λ w. reads_broken test (within w Canonical.Filter x)) (λ w. forms_broken s (within w Canonical.Search x))
    (λ w. reads_broken back_test (within w Canonical.Filter x)) (λ w. forms_broken b (within w Canonical.Search x))
    (rw c.deref-in-InBfsBoth.ensures at c.in_ok-searched-in-InBfsBoth.ensures) (rw c.deref-in-InBfsBoth-2.ensures at c.in_ok-searched-in-InBfsBoth-2.ensures)))

pub forms-returns-in_ok-optional-in-Return : goal.forms-returns-in_ok-optional-in-Return
forms-returns-in_ok-optional-in-Return t c =
    let r = c.in-Return in
    rw (r.is, stmt_of-Return)
    (notes-outside r.place (option_broken (option_map expr_of r.value)) c.phase_only-in-Return.ensures c.in_ok-optional-in-Return.ensures)
