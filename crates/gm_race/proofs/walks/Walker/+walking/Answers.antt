use Rattle.std.proofs.Common.{◌≡◌, ◌+◌, ◌∷◌, [], List, refl, ap, subst, map, drop}
use Rattle.std.specs.Prelude.{box_value}
use Rattle.gm_ast.specs.Program.{Stmt, sequence}
use Rattle.gm_ast.specs.Accesses.{accesses_of, loops_of}
use Rattle.gm_ast.specs.Tree.{expr_of, stmt_of}
use Rattle.gm_race.specs.Walks.{Walks}
use Rattle.gm_race.proofs.Items.{drop-item, nothing-left}
use Rattle.gm_race.proofs.Trees.{stmt_of-Group, stmt_of-Foreach, stmt_of-For, stmt_of-If, stmt_of-Do, stmt_of-InBfs, stmt_of-InBfsBoth}
use Rattle.gm_race.proofs.Walked.{walks-next, walks-end}
use Rattle.gm_race.proofs.Parted.{finds-Group, finds-turns, finds-For, finds-If, finds-Do, finds-InBfsBoth}
use Rattle.gm_race.proofs.walks.Walker.+walking.Goals as goal

pub block-loop-stmt-preserved : goal.block-loop-stmt-preserved
block-loop-stmt-preserved t c =
    let stmts = c.args.stmts.now.items in
    let i = c.loop-stmt.stmt-index in
    let item = c.stmt-item.result in
    let rest : map stmt_of (drop i stmts) ≡ stmt_of item ∷ map stmt_of (drop (i + 1) stmts) = ap (map stmt_of) (drop-item stmts i item (rw c.deref-stmt-items.ensures.value at c.loop-stmt-test.true) (rw c.deref-stmt-items.ensures.value at c.stmt-item.is)) in
    let w = subst (λ (r : List Stmt). Walks (λ ss. accesses_of (sequence ss)) (λ ss. loops_of (sequence ss)) c.args.self.now c.loop-stmt.self (map stmt_of stmts) r) rest c.loop-stmt.invariant in
    walks-next (λ ss. accesses_of (sequence ss)) (λ ss. loops_of (sequence ss)) accesses_of loops_of (λ x r v n. refl) (λ x r. refl) (map stmt_of stmts) (stmt_of item) (map stmt_of (drop (i + 1) stmts)) w c.in_ok-statement.ensures

pub block-returns : goal.block-returns
block-returns t c =
    let stmts = c.args.stmts.now.items in
    let i = c.loop-stmt.stmt-index in
    let rest : map stmt_of (drop i stmts) ≡ [] = ap (map stmt_of) (nothing-left stmts i (rw c.deref-stmt-items.ensures.value at c.loop-stmt-test.false)) in
    let w = subst (λ (r : List Stmt). Walks (λ ss. accesses_of (sequence ss)) (λ ss. loops_of (sequence ss)) c.args.self.now c.loop-stmt.self (map stmt_of stmts) r) rest c.loop-stmt.invariant in
    walks-end (λ ss. accesses_of (sequence ss)) (λ ss. loops_of (sequence ss)) (λ v n. refl) refl (map stmt_of stmts) w

pub statement-returns-in_ok-reads-in-Group : goal.statement-returns-in_ok-reads-in-Group
statement-returns-in_ok-reads-in-Group t c =
    let r = c.in-Group in
    rw (r.is, stmt_of-Group) (finds-Group r.key r.place r.graph r.property (expr_of r.value) c.in_ok-enter-in-Group.ensures c.in_ok-property_write-in-Group.ensures c.in_ok-reads-in-Group.ensures c.leave.ensures)

pub statement-returns-in_ok-turns-in-Foreach : goal.statement-returns-in_ok-turns-in-Foreach
statement-returns-in_ok-turns-in-Foreach t c =
    let r = c.in-Foreach in
    rw (r.is, stmt_of-Foreach)
    (finds-turns r.head.owner r.head.place (expr_of r.filter) (stmt_of (box_value r.body)) r.head.iterator r.head.domain c.in_ok-scalar_read-in-Foreach.ensures (rw c.deref-in-Foreach.ensures at c.in_ok-turns-in-Foreach.ensures))

pub statement-returns-in_ok-filtered-in-For : goal.statement-returns-in_ok-filtered-in-For
statement-returns-in_ok-filtered-in-For t c =
    let r = c.in-For in
    rw (r.is, stmt_of-For)
    (finds-For r.head.owner r.head.place (expr_of r.filter) (stmt_of (box_value r.body)) c.in_ok-scalar_read-in-For.ensures (rw c.deref-in-For.ensures at c.in_ok-filtered-in-For.ensures))

pub statement-returns-in_ok-statement-in-If-2 : goal.statement-returns-in_ok-statement-in-If-2
statement-returns-in_ok-statement-in-If-2 t c =
    let r = c.in-If in
    rw (r.is, stmt_of-If)
    (finds-If r.key (expr_of r.test) (stmt_of (box_value r.yes)) (stmt_of (box_value r.no)) c.in_ok-reads-in-If.ensures
    (rw c.deref-in-If.ensures at c.in_ok-statement-in-If.ensures) (rw c.deref-in-If-2.ensures at c.in_ok-statement-in-If-2.ensures))

pub statement-returns-in_ok-reads-in-Do : goal.statement-returns-in_ok-reads-in-Do
statement-returns-in_ok-reads-in-Do t c =
    let r = c.in-Do in
    rw (r.is, stmt_of-Do) (finds-Do r.key r.place (stmt_of (box_value r.body)) (expr_of r.test) (rw c.deref-in-Do.ensures at c.in_ok-statement-in-Do.ensures) c.in_ok-reads-in-Do.ensures)

pub statement-returns-in_ok-turns-in-InBfs : goal.statement-returns-in_ok-turns-in-InBfs
statement-returns-in_ok-turns-in-InBfs t c =
    let r = c.in-InBfs in
    rw (r.is, stmt_of-InBfs)
    (finds-turns r.search.root r.search.place (expr_of r.filter) (stmt_of (box_value r.body)) r.search.iterator _ c.in_ok-scalar_read-in-InBfs.ensures (rw c.deref-in-InBfs.ensures at c.in_ok-turns-in-InBfs.ensures))

pub statement-returns-in_ok-turns-in-InBfsBoth-2 : goal.statement-returns-in_ok-turns-in-InBfsBoth-2
statement-returns-in_ok-turns-in-InBfsBoth-2 t c =
    let r = c.in-InBfsBoth in
    rw (r.is, stmt_of-InBfsBoth)
    (finds-InBfsBoth r.key r.place r.search (expr_of r.filter) (stmt_of (box_value r.body)) r.back_key (expr_of r.back_filter) (stmt_of (box_value r.back)) c.in_ok-scalar_read-in-InBfsBoth.ensures
    (rw c.deref-in-InBfsBoth.ensures at c.in_ok-turns-in-InBfsBoth.ensures) (rw c.deref-in-InBfsBoth-2.ensures at c.in_ok-turns-in-InBfsBoth-2.ensures))
