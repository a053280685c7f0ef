use Rattle.std.proofs.Common.{◌≡◌, ◌∙◌, ◌∷◌, ◌+◌, ◌||◌, [], List, Bool, false, refl, ap, sym, subst, drop, map}
use Rattle.std.specs.Prelude.{nat_eq, box_value}
use Rattle.gm_ast.specs.Program.{Stmt, sequence}
use Rattle.gm_ast.specs.Tree.{expr_of, stmt_of}
use Rattle.gm_ast.specs.Ways.{mentions}
use Rattle.gm_push_pull.specs.declared.locals.Locals.{Locals}
use Rattle.gm_push_pull.specs.Tests.{holds}
use Rattle.gm_push_pull.specs.Locals.{is_known}
use Rattle.gm_push_pull.specs.Sweeps.{compared, Demand, Demands, Grows, is_written, written}
use Rattle.gm_push_pull.proofs.CoreTrees.{stmt_of-Block, stmt_of-If, stmt_of-Declare, stmt_of-Declare-None, stmt_of-Assign, stmt_of-Reduce}
use Rattle.gm_push_pull.proofs.Ors.{or-nothing}
use Rattle.gm_push_pull.proofs.Growing.{grows-written, grows-If, grows-none, sweep-next}
use Rattle.gm_push_pull.proofs.Items.{drop-item, nothing-left}
use Rattle.gm_push_pull.proofs.locals.Locals.+sweeping.Goals as goal

pub sweep_all-loop-stmt-init : goal.sweep_all-loop-stmt-init
sweep_all-loop-stmt-init t c = record { iterator = refl; known = λ x. refl; left = λ new more g. g }

pub sweep_all-loop-stmt-preserved : goal.sweep_all-loop-stmt-preserved
sweep_all-loop-stmt-preserved t c =
    let z = c.args.self.now in
    let self = c.loop-stmt.self in
    let r = c.args.around in
    let stmts = c.args.stmts.now.items in
    let i = c.loop-stmt.stmt-index in
    let item = c.stmt-item.result in
    let rest : map stmt_of (drop i stmts) ≡ stmt_of item ∷ map stmt_of (drop (i + 1) stmts) = ap (map stmt_of) (drop-item stmts i item (rw c.deref-stmt-items.ensures.value at c.loop-stmt-test.true) (rw c.deref-stmt-items.ensures.value at c.stmt-item.is)) in
    let left = subst (λ (ss : List Stmt). (new : Locals) (more : Bool) → Grows self new (λ q B. Demands z.iterator (is_known z) q B (sequence ss) (holds r q)) more
    → Grows z new (λ q B. Demands z.iterator (is_known z) q B (sequence (map stmt_of stmts)) (holds r q)) (c.loop-stmt.changed || more)) rest c.loop-stmt.invariant.left in
    record {
      iterator = c.in_ok-changed.ensures.iterator ∙ c.loop-stmt.invariant.iterator;
      known = λ x. c.in_ok-changed.ensures.known x ∙ c.loop-stmt.invariant.known x;
      left = sweep-next c.loop-stmt.changed r (sequence (map stmt_of stmts)) (stmt_of item) (sequence (map stmt_of (drop (i + 1) stmts))) c.loop-stmt.invariant.iterator c.loop-stmt.invariant.known left c.in_ok-changed.ensures;
    }

pub sweep_all-returns : goal.sweep_all-returns
sweep_all-returns t c =
    let z = c.args.self.now in
    let self = c.loop-stmt.self in
    let r = c.args.around in
    let stmts = c.args.stmts.now.items in
    let none : map stmt_of (drop c.loop-stmt.stmt-index stmts) ≡ [] = ap (map stmt_of) (nothing-left stmts c.loop-stmt.stmt-index (rw c.deref-stmt-items.ensures.value at c.loop-stmt-test.false)) in
    let done = grows-none self {D = λ q B. Demands z.iterator (is_known z) q B (sequence []) (holds r q)} (λ q. tt) in
    subst (λ b. Grows z self (λ q B. Demands z.iterator (is_known z) q B (sequence (map stmt_of stmts)) (holds r q)) b) (or-nothing c.loop-stmt.changed)
    (c.loop-stmt.invariant.left self false (subst (λ (ss : List Stmt). Grows self self (λ q B. Demands z.iterator (is_known z) q B (sequence ss) (holds r q)) false) (sym none) done))

pub sweep-returns-in_ok-changed-in-Block : goal.sweep-returns-in_ok-changed-in-Block
sweep-returns-in_ok-changed-in-Block t c = rw (c.in-Block.is, stmt_of-Block) c.in_ok-changed-in-Block.ensures

pub sweep-returns-in_ok-second-in-If : goal.sweep-returns-in_ok-second-in-If
sweep-returns-in_ok-second-in-If t c =
    let r = c.in-If in
    let z = c.args.self.now in
    let mid = c.sweep.new.self in
    let one = stmt_of (box_value r.yes) in
    let other = stmt_of (box_value r.no) in
    let first = rw (c.deref.ensures) at c.in_ok-first-in-If.ensures in
    let second = rw (c.deref-in-If.ensures) at c.in_ok-second-in-If.ensures in
    rw (r.is, stmt_of-If) (grows-If one other c.args.around (mentions (expr_of r.test))
    (subst (λ w. Grows z mid (λ q B. Demands z.iterator (is_known z) q B one (holds w q)) c.in_ok-first-in-If.first) c.noted-inside.ensures first)
    (subst (λ w. Grows mid c.sweep-in-If.new.self (λ q B. Demands mid.iterator (is_known mid) q B other (holds w q)) c.in_ok-second-in-If.second) c.noted-inside.ensures second))

pub sweep-returns-in_ok-changed-in-None : goal.sweep-returns-in_ok-changed-in-None
sweep-returns-in_ok-changed-in-None t c = rw (c.in-Declare.is, c.in-None.is, stmt_of-Declare-None) c.in_ok-changed-in-None.ensures

pub sweep-returns-in_ok-changed-in-Some : goal.sweep-returns-in_ok-changed-in-Some
sweep-returns-in_ok-changed-in-Some t c =
    let r = c.in-Declare in
    let z = c.args.self.now in
    rw (r.is, c.in-Some.is, stmt_of-Declare) (grows-written (nat_eq r.variable) c.args.around (mentions (expr_of c.in-Some.value))
    (subst (λ w. Grows z c.add-in-Some.new.self (λ q B. Demand (is_known z) B (nat_eq r.variable) (holds w q)) c.in_ok-changed-in-Some.changed) c.noted-reads.ensures c.in_ok-changed-in-Some.ensures))

pub sweep-returns-in_ok-changed-in-Assign : goal.sweep-returns-in_ok-changed-in-Assign
sweep-returns-in_ok-changed-in-Assign t c =
    let r = c.in-Assign in
    let z = c.args.self.now in
    rw (r.is, stmt_of-Assign) (grows-written (is_written r.target) c.args.around (mentions (expr_of r.value))
    (subst (λ w. Grows z c.write.new.self (λ q B. Demand (is_known z) B (is_written r.target) (holds w q)) c.in_ok-changed-in-Assign.changed) c.noted-reads-in-Assign.ensures c.in_ok-changed-in-Assign.ensures))

pub sweep-returns-in_ok-changed-in-Reduce : goal.sweep-returns-in_ok-changed-in-Reduce
sweep-returns-in_ok-changed-in-Reduce t c =
    let r = c.in-Reduce in
    let z = c.args.self.now in
    rw (r.is, stmt_of-Reduce) (grows-written (written r.targets.items) c.args.around (compared r.targets.items (map expr_of r.values.items))
    (subst (λ w. Grows z c.write_each.new.self (λ q B. Demand (is_known z) B (written r.targets.items) (holds w q)) c.in_ok-changed-in-Reduce.changed)
    (rw (c.deref-in-Reduce.ensures.value, c.deref-in-Reduce-2.ensures.value) at c.noted_reduction-reads.ensures) (rw c.deref-in-Reduce-3.ensures.value at c.in_ok-changed-in-Reduce.ensures)))
