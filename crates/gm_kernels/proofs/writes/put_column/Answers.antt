use Rattle.std.proofs.Common.{◌≡◌, ◌∙◌, ap, sym, map}
use Rattle.gm_value.specs.declared.values.Value.TheVariants.{I32, I64, Flag}
use Rattle.gm_columns.specs.Cells.{values_of, node_in}
use Rattle.gm_columns.specs.Columns.{TypedRow}
use Rattle.gm_columns.specs.TypedRows.{typed_row}
use Rattle.gm_kernels.specs.Pointwise.{written_at}
use Rattle.gm_kernels.proofs.Writing.{written_values}
use Rattle.gm_kernels.proofs.writes.put_column.Goals as goal
use Rattle.gm_kernels.proofs.writes.put_column.Goals.{in-Ints-Ints, in-Longs-Longs, in-Flags-Flags, in-Nodes-Nodes}

pub returns-clause-values : goal.returns-clause-values
returns-clause-values c =
    let places = c.args.nodes.now in
    let column = ap (λ (r : TypedRow). r.values) c.cells.ensures in
    elim c.match-cells.branch [
      | in-Ints-Ints w ↦
          ap values_of w.cells-is
          ∙ ap (map (λ z. I32 z)) (w.write_row.ensures ∙ ap (written_at w.in-Ints-Ints.cells.items places) w.deref.ensures.value)
          ∙ written_values (λ z. I32 z) w.in-Ints-Ints.cells.items places w.in-Ints-Ints.values.items
          ∙ sym (λ i. written_at (values_of (w.in-Ints-Ints.is-0 i)) places ((sym column ∙ ap (λ cells. (typed_row cells).values) w.in-Ints-Ints.is-1) i))
      | in-Longs-Longs w ↦
          ap values_of w.cells-is
          ∙ ap (map (λ z. I64 z)) (w.write_row-in-Longs-Longs.ensures ∙ ap (written_at w.in-Longs-Longs.cells.items places) w.deref-in-Longs-Longs.ensures.value)
          ∙ written_values (λ z. I64 z) w.in-Longs-Longs.cells.items places w.in-Longs-Longs.values.items
          ∙ sym (λ i. written_at (values_of (w.in-Longs-Longs.is-0 i)) places ((sym column ∙ ap (λ cells. (typed_row cells).values) w.in-Longs-Longs.is-1) i))
      | in-Flags-Flags w ↦
          ap values_of w.cells-is
          ∙ ap (map (λ b. Flag b)) (w.write_row-in-Flags-Flags.ensures ∙ ap (written_at w.in-Flags-Flags.cells.items places) w.deref-in-Flags-Flags.ensures.value)
          ∙ written_values (λ b. Flag b) w.in-Flags-Flags.cells.items places w.in-Flags-Flags.values.items
          ∙ sym (λ i. written_at (values_of (w.in-Flags-Flags.is-0 i)) places ((sym column ∙ ap (λ cells. (typed_row cells).values) w.in-Flags-Flags.is-1) i))
      | in-Nodes-Nodes w ↦
          ap values_of w.cells-is
          ∙ ap (map (node_in)) (w.write_row-in-Nodes-Nodes.ensures ∙ ap (written_at w.in-Nodes-Nodes.cells.items places) w.deref-in-Nodes-Nodes.ensures.value)
          ∙ written_values (node_in) w.in-Nodes-Nodes.cells.items places w.in-Nodes-Nodes.values.items
          ∙ sym (λ i. written_at (values_of (w.in-Nodes-Nodes.is-0 i)) places ((sym column ∙ ap (λ cells. (typed_row cells).values) w.in-Nodes-Nodes.is-1) i))
    ]
