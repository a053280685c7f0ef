use Rattle.std.proofs.Common.{◌∙◌, ap, map, sym}
use Rattle.gm_value.specs.declared.values.Value.TheVariants.{I32, I64, Flag}
use Rattle.gm_columns.specs.Cells.{node_in, values_of}
use Rattle.gm_batch_steps.specs.Parts.{with_part}
use Rattle.gm_batch_steps.proofs.PartLaws.{part-map}
use Rattle.gm_batch_steps.proofs.parts.write_same.Goals as goal
use Rattle.gm_batch_steps.proofs.parts.write_same.Goals.{in-Ints-Ints, in-Longs-Longs, in-Flags-Flags, in-Nodes-Nodes}

pub returns-clause-written : goal.returns-clause-written
returns-clause-written c done =
    let from = c.args.from in
    elim c.match-cells.branch [
      | in-Ints-Ints w ↦
          ap values_of w.cells-is
          ∙ ap (map (λ z. I32 z)) (w.write_part.ensures ∙ ap (with_part from w.in-Ints-Ints.cells.items) w.deref.ensures.value)
          ∙ part-map (λ z. I32 z) from w.in-Ints-Ints.cells.items w.in-Ints-Ints.part.items
          ∙ sym (λ i. with_part from (values_of (w.in-Ints-Ints.is-0 i)) (values_of (w.in-Ints-Ints.is-1 i)))
      | in-Longs-Longs w ↦
          ap values_of w.cells-is
          ∙ ap (map (λ z. I64 z)) (w.write_part-in-Longs-Longs.ensures ∙ ap (with_part from w.in-Longs-Longs.cells.items) w.deref-in-Longs-Longs.ensures.value)
          ∙ part-map (λ z. I64 z) from w.in-Longs-Longs.cells.items w.in-Longs-Longs.part.items
          ∙ sym (λ i. with_part from (values_of (w.in-Longs-Longs.is-0 i)) (values_of (w.in-Longs-Longs.is-1 i)))
      | in-Flags-Flags w ↦
          ap values_of w.cells-is
          ∙ ap (map (λ b. Flag b)) (w.write_part-in-Flags-Flags.ensures ∙ ap (with_part from w.in-Flags-Flags.cells.items) w.deref-in-Flags-Flags.ensures.value)
          ∙ part-map (λ b. Flag b) from w.in-Flags-Flags.cells.items w.in-Flags-Flags.part.items
          ∙ sym (λ i. with_part from (values_of (w.in-Flags-Flags.is-0 i)) (values_of (w.in-Flags-Flags.is-1 i)))
      | in-Nodes-Nodes w ↦
          ap values_of w.cells-is
          ∙ ap (map node_in) (w.write_part-in-Nodes-Nodes.ensures ∙ ap (with_part from w.in-Nodes-Nodes.cells.items) w.deref-in-Nodes-Nodes.ensures.value)
          ∙ part-map node_in from w.in-Nodes-Nodes.cells.items w.in-Nodes-Nodes.part.items
          ∙ sym (λ i. with_part from (values_of (w.in-Nodes-Nodes.is-0 i)) (values_of (w.in-Nodes-Nodes.is-1 i)))
    ]
