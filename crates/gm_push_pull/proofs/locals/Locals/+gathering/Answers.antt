use Rattle.std.proofs.Common.{◌≡◌, ◌∷◌, ◌+◌, [], List, ap, sym, subst, drop, map}
use Rattle.gm_ast.specs.Program.{Stmt, sequence}
use Rattle.gm_ast.specs.Tree.{stmt_of}
use Rattle.gm_ast.specs.Ways.{locals}
use Rattle.gm_push_pull.specs.declared.locals.Locals.{Locals}
use Rattle.gm_push_pull.specs.Locals.{Gathers}
use Rattle.gm_push_pull.proofs.Gathering.{gathers-none, gathers-then}
use Rattle.gm_push_pull.proofs.Items.{drop-item, nothing-left}
use Rattle.gm_push_pull.proofs.locals.Locals.+gathering.Goals as goal

pub gather_all-loop-stmt-init : goal.gather_all-loop-stmt-init
gather_all-loop-stmt-init t c = λ new g. g

pub gather_all-loop-stmt-preserved : goal.gather_all-loop-stmt-preserved
gather_all-loop-stmt-preserved t c =
    let stmts = c.args.stmts.now.items in
    let i = c.loop-stmt.stmt-index in
    let item = c.stmt-item.result in
    let rest : map stmt_of (drop i stmts) ≡ stmt_of item ∷ map stmt_of (drop (i + 1) stmts) = ap (map stmt_of) (drop-item stmts i item (rw c.deref-stmt-items.ensures.value at c.loop-stmt-test.true) (rw c.deref-stmt-items.ensures.value at c.stmt-item.is)) in
    let left = subst (λ (ss : List Stmt). (new : Locals) → Gathers c.loop-stmt.self new (locals (sequence ss)) → Gathers c.args.self.now new (locals (sequence (map stmt_of stmts)))) rest c.loop-stmt.invariant in
    λ new g. left new (gathers-then (locals (stmt_of item)) (locals (sequence (map stmt_of (drop (i + 1) stmts)))) c.in_ok-gather.ensures g)

pub gather_all-returns : goal.gather_all-returns
gather_all-returns t c =
    let stmts = c.args.stmts.now.items in
    let i = c.loop-stmt.stmt-index in
    let none : map stmt_of (drop i stmts) ≡ [] = ap (map stmt_of) (nothing-left stmts i (rw c.deref-stmt-items.ensures.value at c.loop-stmt-test.false)) in
    c.loop-stmt.invariant c.loop-stmt.self (subst (λ (ss : List Stmt). Gathers c.loop-stmt.self c.loop-stmt.self (locals (sequence ss))) (sym none) (gathers-none c.loop-stmt.self))
