use Rattle.std.proofs.Common.{◌≡◌, ◌∙◌, None, Some, ap, sym, if◌then◌else◌}
use Rattle.gm_columns.specs.Cells.{values_of}
use Rattle.gm_columns.specs.TypedRows.{typed_row}
use Rattle.gm_columns.specs.declared.columns.TypedCells.{TypedCells}
use Rattle.gm_kernels.specs.Folding.{folded_at}
use Rattle.gm_batch_steps.proofs.TurnLists.{some-is}
use Rattle.gm_batch_steps.proofs.folds.fold_rows.Goals as goal

pub returns : goal.returns
returns c =
    let rows = c.args.rows.now in
    let vs = c.args.column.now.values in
    ap (λ xs. folded_at c.args.reduce xs rows vs) (sym (some-is (λ (cells : TypedCells). (typed_row cells).values ≡ values_of c.args.held.now) c.in_ok-cells.field-0 c.in-Some.cells c.in-Some.is c.in_ok-cells.ensures))
    ∙ c.fold_at.ensures.values
    ∙ ap (λ b. if b then None else Some (typed_row c.fold_at.new.cells).values) c.if-fold_at.false
    ∙ ap (λ xs. Some xs) (sym c.stored.ensures)
