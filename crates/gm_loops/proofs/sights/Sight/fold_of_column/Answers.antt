use Rattle.std.proofs.Common.{◌≡◌, ◌∙◌, true, length, map, refl, ap, sym, subst, arith}
use Rattle.std.proofs.lemmas.Option.{IfSome_then}
use Rattle.gm_value.specs.Totals.{IsTotal}
use Rattle.gm_ast.specs.Tree.{expr_of}
use Rattle.gm_semantics.specs.Expressions.{View, closed, members_of, reduce_of}
use Rattle.gm_semantics.specs.Faults.{joined}
use Rattle.gm_columns.specs.declared.cells.Cells.{Cells}
use Rattle.gm_columns.specs.Cells.{values_of}
use Rattle.gm_loops.specs.declared.sights.Sight.{Sight}
use Rattle.gm_loops.specs.Columns.{cells_of, IsColumn}
use Rattle.gm_loops.specs.Sights.{view_of}
use Rattle.gm_loops.proofs.Folding.{column-folded}
use Rattle.gm_loops.proofs.sights.Sight.fold_of_column.Goals as goal

pub total_of-requires : goal.total_of-requires
total_of-requires c =
    let taking : Sight = record c.args.self.now { parallel = true; key = c.args.fold.now.body } in
    let found : IsColumn (expr_of c.args.body.now) (view_of c.entered-taking.result c.args.scope.now c.args.store.now) c.args.head.now.iterator (cells_of c.in-Ok-Some.operand) =
    rw c.in-Ok-Some.field-0-is at c.in-Ok-Some.ensures in
    let column : IsColumn (expr_of c.args.body.now) (view_of taking c.args.scope.now c.args.store.now) c.args.head.now.iterator (cells_of c.in-Ok-Some.operand) =
    subst (λ (s : Sight). IsColumn (expr_of c.args.body.now) (view_of s c.args.scope.now c.args.store.now) c.args.head.now.iterator (cells_of c.in-Ok-Some.operand)) c.entered-taking.ensures found in
    omega (arith, ap (λ (cells : Cells). length (values_of cells)) c.cells.ensures, column.full, c.node_count-nodes.ensures.known.few_nodes)

pub returns-in-Ok-Some : goal.returns-in-Ok-Some
returns-in-Ok-Some c =
    let f = c.args.fold.now in
    let w : View = view_of c.args.self.now c.args.scope.now c.args.store.now in
    let taking : Sight = record c.args.self.now { parallel = true; key = f.body } in
    let cells : Cells = cells_of c.in-Ok-Some.operand in
    let found : IsColumn (expr_of c.args.body.now) (view_of c.entered-taking.result c.args.scope.now c.args.store.now) c.args.head.now.iterator cells =
    rw c.in-Ok-Some.field-0-is at c.in-Ok-Some.ensures in
    let column : IsColumn (expr_of c.args.body.now) (view_of taking c.args.scope.now c.args.store.now) c.args.head.now.iterator cells =
    subst (λ (s : Sight). IsColumn (expr_of c.args.body.now) (view_of s c.args.scope.now c.args.store.now) c.args.head.now.iterator cells) c.entered-taking.ensures found in
    let total : IsTotal (reduce_of f.word) f.vtype c.total_of.result (joined (map (members_of f.word) (values_of cells))) =
    subst (λ (held : Cells). IsTotal (reduce_of f.word) f.vtype c.total_of.result (joined (map (members_of f.word) (values_of held)))) c.cells.ensures c.total_of.ensures.total in
    let whole : c.closed_total.result ≡ closed f (joined (map (members_of f.word) (values_of cells))) = c.closed_total.ensures (joined (map (members_of f.word) (values_of cells))) total in
    IfSome_then c.sound.result c.sound.ensures
    (λ v e. column-folded f c.args.head.now (expr_of c.args.filter.now) (expr_of c.args.body.now) w cells v c.in-Nodes.is (c.if-passes_all.ensures refl) column (sym whole ∙ e))
