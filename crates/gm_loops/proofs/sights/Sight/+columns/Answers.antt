use Rattle.std.proofs.Common.{ℕ, rules}
use Rattle.gm_ast.specs.Tree.{expr_of}
use Rattle.gm_semantics.specs.Expressions.{View}
use Rattle.gm_columns.specs.Cells.{values_of}
use Rattle.gm_columns.specs.declared.cells.Cells.{Cells}
use Rattle.gm_loops.specs.Columns.{cells_of, Applies1, Applies2, IsColumn}
use Rattle.gm_loops.specs.Sights.{view_of}
use Rattle.gm_loops.proofs.Everywhere.{column-one, column-two, found-then}
use Rattle.gm_loops.proofs.Trees.{expr_of-Binary, expr_of-Property, expr_of-Unary, expr_of-Var}
use Rattle.gm_loops.proofs.sights.Sight.+columns.Goals as goal

pub operand-returns-in-Some : goal.operand-returns-in-Some
operand-returns-in-Some t c = rw (c.in-Property.is, expr_of-Property) (c.in-Some.ensures c.in-Property.place)

pub made-returns-in-Var : goal.made-returns-in-Var
made-returns-in-Var t c = rw (c.in-Var.is, expr_of-Var) (c.in_ok-cells-in-Var.ensures c.in-Var.place)

pub made-returns-in-Some : goal.made-returns-in-Some
made-returns-in-Some t c =
    let w : View = view_of c.args.self.now c.args.scope.now c.args.store.now in
    let i : ℕ = c.args.iterator in
    let cells : Cells = cells_of c.in-Some.operand in
    let inner : IsColumn (expr_of c.in-Unary.inner.value) w i cells = search rules in
    rw (c.in-Unary.is, expr_of-Unary)
    (found-then (Applies1 c.in-Unary.op (values_of cells)) _ c.column_of_one.result
    (λ found applied. column-one c.in-Unary.op c.in-Unary.place (expr_of c.in-Unary.inner.value) w i cells found inner applied) (search rules))

pub made-returns-in-Some-3 : goal.made-returns-in-Some-3
made-returns-in-Some-3 t c =
    let w : View = view_of c.args.self.now c.args.scope.now c.args.store.now in
    let i : ℕ = c.args.iterator in
    let one : Cells = cells_of c.in-Some-2.first in
    let two : Cells = cells_of c.in-Some-3.second in
    let first : IsColumn (expr_of c.in-Binary.left.value) w i one = search rules in
    let second : IsColumn (expr_of c.in-Binary.right.value) w i two = search rules in
    rw (c.in-Binary.is, expr_of-Binary)
    (found-then (Applies2 c.in-Binary.op (values_of one) (values_of two)) _ c.column_of_two.result
    (λ found applied. column-two c.in-Binary.op c.in-Binary.place (expr_of c.in-Binary.left.value) (expr_of c.in-Binary.right.value) w i one two found first second applied) (search rules))
