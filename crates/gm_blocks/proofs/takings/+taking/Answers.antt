use Rattle.std.proofs.Common.{◌≡◌, ◌++◌, ap, sym, ◌∙◌, get_or, map, rules, arith}
use Rattle.gm_ast.specs.declared.tree.Stmt.{the_lemmas}
use Rattle.gm_ast.specs.Program.{If}
use Rattle.gm_ast.specs.Tree.{expr_of, stmt_of}
use Rattle.gm_image.specs.Views.{handler}
use Rattle.gm_layouts.specs.Where.{where_of}
use Rattle.gm_lowering.specs.Blocks.{taking_handlers}
use Rattle.gm_lowering.specs.Plans.{aways}
use Rattle.std.specs.Prelude.{◌+◌, length}
use Rattle.gm_blocks.proofs.Taken.{left_taken, left_counted, next_taken, next_counted}
use Rattle.gm_blocks.proofs.takings.+taking.Goals as goal

pub add_block_takings-loop-stmt-preserved : goal.add_block_takings-loop-stmt-preserved
add_block_takings-loop-stmt-preserved t c =
    let k = where_of c.args.takings.now.layout.now in
    let n = c.args.takings.now.node in
    let stmts = c.args.stmts.now.items in
    let item : c.stmt-item.result ≡ get_or stmts c.loop-stmt.stmt-index c.stmt-item.result = c.stmt-item.is ∙ ap (λ l. get_or l c.loop-stmt.stmt-index c.stmt-item.result) c.deref-stmt-items.ensures.value in (
      left_taken k c.args.takings.now.places.now n stmts c.loop-stmt.stmt-index c.stmt-item.result c.loop-stmt.kind c.in_ok-kind.kind
          (map handler c.loop-stmt.out.items) (map handler c.add_takings.new.out.items) _ (omega arith) item c.in_ok-kind.ensures.handlers c.in_ok-kind.ensures.kinds c.loop-stmt.invariant.0,
      left_counted k.declarations n stmts c.loop-stmt.stmt-index c.stmt-item.result c.loop-stmt.kind c.in_ok-kind.kind
          _ (omega arith) item c.in_ok-kind.ensures.kinds c.loop-stmt.invariant.1,
    )

pub add_takings-returns-in_ok-end-in-If-clause-handlers : goal.add_takings-returns-in_ok-end-in-If-clause-handlers
add_takings-returns-in_ok-end-in-If-clause-handlers t c =
    let k = where_of c.args.takings.now.layout.now in
    let n = c.args.takings.now.node in
    let seen : stmt_of c.args.s.now ≡ If c.in-If.key (expr_of c.in-If.test) (stmt_of c.in-If.yes.value) (stmt_of c.in-If.no.value) = ap stmt_of c.in-If.is ∙ search (rules, the_lemmas) in
    let a = c.deref-in-If.result.now in
    let b = c.deref-in-If-2.result.now in
    let whole : stmt_of c.args.s.now ≡ If c.in-If.key (expr_of c.in-If.test) (stmt_of a) (stmt_of b) =
    seen ∙ ap (λ y. If c.in-If.key (expr_of c.in-If.test) (stmt_of y) (stmt_of c.in-If.no.value)) (sym c.deref-in-If.ensures)
    ∙ ap (λ z. If c.in-If.key (expr_of c.in-If.test) (stmt_of a) (stmt_of z)) (sym c.deref-in-If-2.ensures) in
    next_taken k c.args.takings.now.places.now c.args.kind c.in_ok-middle-in-If.middle (aways k.declarations n (stmt_of a)) (aways k.declarations n (stmt_of b))
    (map handler c.args.out.now.items) (map handler c.add_takings.new.out.items) (map handler c.add_takings-in-If.new.out.items)
    c.in_ok-middle-in-If.ensures.handlers c.in_ok-middle-in-If.ensures.kinds c.in_ok-end-in-If.ensures.handlers
    ∙ sym (ap (λ s. map handler c.args.out.now.items ++ taking_handlers k c.args.takings.now.places.now c.args.kind (aways k.declarations n s)) whole)

pub add_takings-returns-in_ok-end-in-If-clause-kinds : goal.add_takings-returns-in_ok-end-in-If-clause-kinds
add_takings-returns-in_ok-end-in-If-clause-kinds t c =
    let k = where_of c.args.takings.now.layout.now in
    let n = c.args.takings.now.node in
    let seen : stmt_of c.args.s.now ≡ If c.in-If.key (expr_of c.in-If.test) (stmt_of c.in-If.yes.value) (stmt_of c.in-If.no.value) = ap stmt_of c.in-If.is ∙ search (rules, the_lemmas) in
    let a = c.deref-in-If.result.now in
    let b = c.deref-in-If-2.result.now in
    let whole : stmt_of c.args.s.now ≡ If c.in-If.key (expr_of c.in-If.test) (stmt_of a) (stmt_of b) =
    seen ∙ ap (λ y. If c.in-If.key (expr_of c.in-If.test) (stmt_of y) (stmt_of c.in-If.no.value)) (sym c.deref-in-If.ensures)
    ∙ ap (λ z. If c.in-If.key (expr_of c.in-If.test) (stmt_of a) (stmt_of z)) (sym c.deref-in-If-2.ensures) in
    next_counted c.args.kind c.in_ok-middle-in-If.middle c.in_ok-end-in-If.end (aways k.declarations n (stmt_of a)) (aways k.declarations n (stmt_of b))
    c.in_ok-middle-in-If.ensures.kinds c.in_ok-end-in-If.ensures.kinds
    ∙ sym (ap (λ s. c.args.kind + length (aways k.declarations n s)) whole)
