use Rattle.std.proofs.Common.{◌∙◌, ap, sym}
use Rattle.gm_value.specs.declared.values.Value.TheVariants.{I32, I64, Flag}
use Rattle.gm_columns.specs.Cells.{node_in}
use Rattle.gm_columns.specs.Columns.{TypedRow}
use Rattle.gm_columns.specs.TypedRows.{typed_row}
use Rattle.gm_kernels.proofs.Reading.{between-values}
use Rattle.gm_batch_handlers.proofs.handlers.column_between.Goals as goal

pub returns-in_ok-cells_between-in-Ints : goal.returns-in_ok-cells_between-in-Ints
returns-in_ok-cells_between-in-Ints c =
    ap (λ (r : TypedRow). r.values) c.of.ensures
    ∙ between-values (λ z. I32 z) _ c.in-Ints.cells.items _ _ _ _ (sym (ap (λ (r : TypedRow). r.values) c.cells.ensures) ∙ ap (λ cells. (typed_row cells).values) c.in-Ints.is)
    c.deref.ensures.value c.in_ok-cells_between-in-Ints.ensures

pub returns-in_ok-cells_between-in-Longs : goal.returns-in_ok-cells_between-in-Longs
returns-in_ok-cells_between-in-Longs c =
    ap (λ (r : TypedRow). r.values) c.of-in-Longs.ensures
    ∙ between-values (λ z. I64 z) _ c.in-Longs.cells.items _ _ _ _ (sym (ap (λ (r : TypedRow). r.values) c.cells.ensures) ∙ ap (λ cells. (typed_row cells).values) c.in-Longs.is)
    c.deref-in-Longs.ensures.value c.in_ok-cells_between-in-Longs.ensures

pub returns-in_ok-cells_between-in-Flags : goal.returns-in_ok-cells_between-in-Flags
returns-in_ok-cells_between-in-Flags c =
    ap (λ (r : TypedRow). r.values) c.of-in-Flags.ensures
    ∙ between-values (λ b. Flag b) _ c.in-Flags.cells.items _ _ _ _ (sym (ap (λ (r : TypedRow). r.values) c.cells.ensures) ∙ ap (λ cells. (typed_row cells).values) c.in-Flags.is)
    c.deref-in-Flags.ensures.value c.in_ok-cells_between-in-Flags.ensures

pub returns-in_ok-cells_between-in-Nodes : goal.returns-in_ok-cells_between-in-Nodes
returns-in_ok-cells_between-in-Nodes c =
    ap (λ (r : TypedRow). r.values) c.of-in-Nodes.ensures
    ∙ between-values node_in _ c.in-Nodes.cells.items _ _ _ _ (sym (ap (λ (r : TypedRow). r.values) c.cells.ensures) ∙ ap (λ cells. (typed_row cells).values) c.in-Nodes.is)
    c.deref-in-Nodes.ensures.value c.in_ok-cells_between-in-Nodes.ensures
