use Rattle.std.proofs.Common.{◌≡◌, ◌∷◌, ◌+◌, [], List, ap, sym, subst, drop, map}
use Rattle.std.specs.Prelude.{box_value}
use Rattle.gm_ast.specs.declared.tree.Target.{Target}
use Rattle.gm_ast.specs.Program.{Stmt, sequence}
use Rattle.gm_ast.specs.Tree.{expr_of, stmt_of}
use Rattle.gm_ast.specs.Ways.{mentions}
use Rattle.gm_push_pull.specs.Sweeps.{compared}
use Rattle.gm_push_pull.specs.Webs.{Weaves}
use Rattle.gm_push_pull.proofs.CoreTrees.{stmt_of-Block, stmt_of-If, stmt_of-Declare, stmt_of-Declare-None, stmt_of-Assign, stmt_of-Reduce}
use Rattle.gm_push_pull.proofs.Webs.{weaves-none, weaves-then, weaves-If, weaves-write, weaves-one, weaves-declared}
use Rattle.gm_push_pull.proofs.Items.{drop-item, nothing-left}
use Rattle.gm_push_pull.proofs.web.Web.+weaving.Goals as goal

pub weave_all-loop-stmt-init : goal.weave_all-loop-stmt-init
weave_all-loop-stmt-init t c = λ new g. g

pub weave_all-loop-stmt-preserved : goal.weave_all-loop-stmt-preserved
weave_all-loop-stmt-preserved t c =
    let l = c.args.locals.now in
    let stmts = c.args.stmts.now.items in
    let i = c.loop-stmt.stmt-index in
    let item = c.stmt-item.result in
    let rest : map stmt_of (drop i stmts) ≡ stmt_of item ∷ map stmt_of (drop (i + 1) stmts) = ap (map stmt_of) (drop-item stmts i item (rw c.deref-stmt-items.ensures.value at c.loop-stmt-test.true) (rw c.deref-stmt-items.ensures.value at c.stmt-item.is)) in
    λ new g. c.loop-stmt.invariant new (subst (λ (ss : List Stmt). Weaves l c.loop-stmt.self new c.args.around (sequence ss)) (sym rest)
    (weaves-then l (stmt_of item) (sequence (map stmt_of (drop (i + 1) stmts))) c.in_ok-weave.ensures g))

pub weave_all-returns : goal.weave_all-returns
weave_all-returns t c =
    let stmts = c.args.stmts.now.items in
    let i = c.loop-stmt.stmt-index in
    let none : map stmt_of (drop i stmts) ≡ [] = ap (map stmt_of) (nothing-left stmts i (rw c.deref-stmt-items.ensures.value at c.loop-stmt-test.false)) in
    c.loop-stmt.invariant c.loop-stmt.self (subst (λ (ss : List Stmt). Weaves c.args.locals.now c.loop-stmt.self c.loop-stmt.self c.args.around (sequence ss)) (sym none) (weaves-none c.args.locals.now c.loop-stmt.self c.args.around (sequence [])))

pub weave-returns-in_ok-weave_all-in-Block : goal.weave-returns-in_ok-weave_all-in-Block
weave-returns-in_ok-weave_all-in-Block t c = rw (c.in-Block.is, stmt_of-Block) c.in_ok-weave_all-in-Block.ensures

pub weave-returns-in_ok-weave-in-If-2 : goal.weave-returns-in_ok-weave-in-If-2
weave-returns-in_ok-weave-in-If-2 t c =
    let r = c.in-If in
    let one = stmt_of (box_value r.yes) in
    let other = stmt_of (box_value r.no) in
    let first = rw (c.deref.ensures) at c.in_ok-weave-in-If.ensures in
    let second = rw (c.deref-in-If.ensures) at c.in_ok-weave-in-If-2.ensures in
    rw (r.is, stmt_of-If) (weaves-If c.args.locals.now (mentions (expr_of r.test)) one other c.in_ok-site-in-If.ensures first second)

pub weave-returns-in_ok-link-in-None : goal.weave-returns-in_ok-link-in-None
weave-returns-in_ok-link-in-None t c =
    let r = c.in-Declare in
    rw (r.is, c.in-None.is, stmt_of-Declare-None) (weaves-declared c.args.locals.now r.variable c.in_ok-link-in-None.ensures)

pub weave-returns-in_ok-link-in-Some : goal.weave-returns-in_ok-link-in-Some
weave-returns-in_ok-link-in-Some t c =
    let r = c.in-Declare in
    rw (r.is, c.in-Some.is, stmt_of-Declare) (weaves-one c.args.locals.now (mentions (expr_of c.in-Some.value)) (Target.Scalar r.variable (record { line = 0; col = 0 })) c.in_ok-site-in-Some.ensures c.in_ok-link-in-Some.ensures)

pub weave-returns-in_ok-feed-in-Assign : goal.weave-returns-in_ok-feed-in-Assign
weave-returns-in_ok-feed-in-Assign t c =
    let r = c.in-Assign in
    rw (r.is, stmt_of-Assign) (weaves-one c.args.locals.now (mentions (expr_of r.value)) r.target c.in_ok-site-in-Assign.ensures c.in_ok-feed-in-Assign.ensures)

pub weave-returns-in_ok-feed_each-in-Reduce : goal.weave-returns-in_ok-feed_each-in-Reduce
weave-returns-in_ok-feed_each-in-Reduce t c =
    let r = c.in-Reduce in
    rw (r.is, stmt_of-Reduce) (weaves-write c.args.locals.now (compared r.targets.items (map expr_of r.values.items)) r.targets.items
    (rw (c.deref-in-Reduce.ensures.value, c.deref-in-Reduce-2.ensures.value) at c.in_ok-site-in-Reduce.ensures) (rw c.deref-in-Reduce-3.ensures.value at c.in_ok-feed_each-in-Reduce.ensures))
