use Rattle.std.proofs.Common.{◌∙◌, ap, map, sym}
use Rattle.gm_value.specs.declared.values.Value.TheVariants.{I32, I64, Flag}
use Rattle.gm_columns.specs.Cells.{node_in}
use Rattle.gm_columns.specs.Columns.{TypedRow}
use Rattle.gm_columns.specs.TypedRows.{typed_row}
use Rattle.gm_kernels.specs.Pointwise.{written_at}
use Rattle.gm_kernels.proofs.Writing.{written_values}
use Rattle.gm_batch_handlers.proofs.lines.written.Goals as goal
use Rattle.gm_batch_handlers.proofs.lines.written.Goals.{in-Ints-Ints+in_ok-written_cells-in-Ints-Ints, in-Longs-Longs+in_ok-written_cells-in-Longs-Longs, in-Flags-Flags+in_ok-written_cells-in-Flags-Flags, in-Nodes-Nodes+in_ok-written_cells-in-Nodes-Nodes}

pub returns : goal.returns
returns c =
    let rows = c.args.rows.now in
    let held = ap (λ (r : TypedRow). r.values) c.cells.ensures in
    let column = ap (λ (r : TypedRow). r.values) c.cells-2.ensures in
    ap (λ (r : TypedRow). r.values) c.of.ensures
    ∙ elim c.match-cells.branch [
      | in-Ints-Ints+in_ok-written_cells-in-Ints-Ints w ↦
          ap (λ cells. (typed_row cells).values) w.cells-is
          ∙ ap (map (λ z. I32 z)) (w.in_ok-written_cells-in-Ints-Ints.ensures ∙ (λ i. written_at (w.deref.ensures.value i) rows (w.deref-in-Ints-Ints.ensures.value i)))
          ∙ written_values (λ z. I32 z) w.in-Ints-Ints.held.items rows w.in-Ints-Ints.values.items
          ∙ sym (λ i. written_at ((sym held ∙ ap (λ cells. (typed_row cells).values) w.in-Ints-Ints.is-0) i) rows ((sym column ∙ ap (λ cells. (typed_row cells).values) w.in-Ints-Ints.is-1) i))
      | in-Longs-Longs+in_ok-written_cells-in-Longs-Longs w ↦
          ap (λ cells. (typed_row cells).values) w.cells-is
          ∙ ap (map (λ z. I64 z)) (w.in_ok-written_cells-in-Longs-Longs.ensures ∙ (λ i. written_at (w.deref-in-Longs-Longs.ensures.value i) rows (w.deref-in-Longs-Longs-2.ensures.value i)))
          ∙ written_values (λ z. I64 z) w.in-Longs-Longs.held.items rows w.in-Longs-Longs.values.items
          ∙ sym (λ i. written_at ((sym held ∙ ap (λ cells. (typed_row cells).values) w.in-Longs-Longs.is-0) i) rows ((sym column ∙ ap (λ cells. (typed_row cells).values) w.in-Longs-Longs.is-1) i))
      | in-Flags-Flags+in_ok-written_cells-in-Flags-Flags w ↦
          ap (λ cells. (typed_row cells).values) w.cells-is
          ∙ ap (map (λ b. Flag b)) (w.in_ok-written_cells-in-Flags-Flags.ensures ∙ (λ i. written_at (w.deref-in-Flags-Flags.ensures.value i) rows (w.deref-in-Flags-Flags-2.ensures.value i)))
          ∙ written_values (λ b. Flag b) w.in-Flags-Flags.held.items rows w.in-Flags-Flags.values.items
          ∙ sym (λ i. written_at ((sym held ∙ ap (λ cells. (typed_row cells).values) w.in-Flags-Flags.is-0) i) rows ((sym column ∙ ap (λ cells. (typed_row cells).values) w.in-Flags-Flags.is-1) i))
      | in-Nodes-Nodes+in_ok-written_cells-in-Nodes-Nodes w ↦
          ap (λ cells. (typed_row cells).values) w.cells-is
          ∙ ap (map node_in) (w.in_ok-written_cells-in-Nodes-Nodes.ensures ∙ (λ i. written_at (w.deref-in-Nodes-Nodes.ensures.value i) rows (w.deref-in-Nodes-Nodes-2.ensures.value i)))
          ∙ written_values node_in w.in-Nodes-Nodes.held.items rows w.in-Nodes-Nodes.values.items
          ∙ sym (λ i. written_at ((sym held ∙ ap (λ cells. (typed_row cells).values) w.in-Nodes-Nodes.is-0) i) rows ((sym column ∙ ap (λ cells. (typed_row cells).values) w.in-Nodes-Nodes.is-1) i))
    ]
