use Rattle.std.proofs.Common.{◌≡◌, ◌∙◌, ◌∷◌, ◌+◌, [], List, refl, ap, sym, subst, drop, map}
use Rattle.std.specs.Prelude.{box_value}
use Rattle.gm_ast.specs.Program.{Stmt, sequence}
use Rattle.gm_ast.specs.Tree.{expr_of, stmt_of}
use Rattle.gm_push_pull.specs.declared.finding.Finder.{Finder}
use Rattle.gm_ast.specs.Ways.{mentions}
use Rattle.gm_push_pull.specs.Locals.{noted_all}
use Rattle.gm_push_pull.specs.Finding.{Finds, reductions}
use Rattle.gm_push_pull.proofs.CoreTrees.{stmt_of-If}
use Rattle.gm_push_pull.proofs.Gathering.{finds-none, finds-next, finds-If}
use Rattle.gm_push_pull.proofs.Items.{drop-item, nothing-left}
use Rattle.gm_push_pull.proofs.finding.Finder.+finding.Goals as goal

pub find_all-loop-stmt-init : goal.find_all-loop-stmt-init
find_all-loop-stmt-init t c = record { locals = refl; left = λ new f. f }

pub find_all-loop-stmt-preserved : goal.find_all-loop-stmt-preserved
find_all-loop-stmt-preserved t c =
    let z = c.args.self.now in
    let self = c.loop-stmt.self in
    let r = c.args.around in
    let stmts = c.args.stmts.now.items in
    let i = c.loop-stmt.stmt-index in
    let item = c.stmt-item.result in
    let rest : map stmt_of (drop i stmts) ≡ stmt_of item ∷ map stmt_of (drop (i + 1) stmts) = ap (map stmt_of) (drop-item stmts i item (rw c.deref-stmt-items.ensures.value at c.loop-stmt-test.true) (rw c.deref-stmt-items.ensures.value at c.stmt-item.is)) in
    let left = subst (λ (ss : List Stmt). (new : Finder) → Finds self new (reductions z.locals (sequence ss) r) → Finds z new (reductions z.locals (sequence (map stmt_of stmts)) r)) rest c.loop-stmt.invariant.left in
    record {
      locals = c.in_ok-find.ensures.locals ∙ c.loop-stmt.invariant.locals;
      left = λ new f. left new (finds-next z.locals (stmt_of item) (sequence (map stmt_of (drop (i + 1) stmts))) r c.loop-stmt.invariant.locals c.in_ok-find.ensures f);
    }

pub find_all-returns : goal.find_all-returns
find_all-returns t c =
    let z = c.args.self.now in
    let self = c.loop-stmt.self in
    let r = c.args.around in
    let stmts = c.args.stmts.now.items in
    let none : map stmt_of (drop c.loop-stmt.stmt-index stmts) ≡ [] = ap (map stmt_of) (nothing-left stmts c.loop-stmt.stmt-index (rw c.deref-stmt-items.ensures.value at c.loop-stmt-test.false)) in
    c.loop-stmt.invariant.left self (subst (λ (ss : List Stmt). Finds self self (reductions z.locals (sequence ss) r)) (sym none) (finds-none self))

pub find-returns-in_ok-find-in-If-2 : goal.find-returns-in_ok-find-in-If-2
find-returns-in_ok-find-in-If-2 t c =
    let r = c.in-If in
    let z = c.args.self.now in
    let mid = c.find.new.self in
    let one = stmt_of (box_value r.yes) in
    let other = stmt_of (box_value r.no) in
    let inside = noted_all z.locals c.args.around (mentions (expr_of r.test)) in
    let first = rw c.deref.ensures at c.in_ok-find-in-If.ensures in
    let second = rw c.deref-in-If.ensures at c.in_ok-find-in-If-2.ensures in
    rw (r.is, stmt_of-If) (finds-If one other inside
    (subst (λ w. Finds z mid (reductions z.locals one w)) c.noted-inside.ensures first)
    (subst (λ w. Finds mid c.find-in-If.new.self (reductions mid.locals other w)) c.noted-inside.ensures second))
