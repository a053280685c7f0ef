-- The row of a type takes values of the type.
use Rattle.std.proofs.Common.{◌≡◌, sym, ap, subst, ◌∙◌}
use Rattle.gm_value.specs.declared.values.Value.TheVariants as values
use Rattle.gm_combine.specs.Rows.{totals}
use Rattle.gm_combine.proofs.Messages.{typed-added}
use Rattle.gm_combine.proofs.typed_rows.TypedRow.add.Goals.{in-Ints-Ints, in-Longs-Longs, in-Flags-Flags, in-Nodes-Nodes}
use Rattle.gm_combine.proofs.typed_rows.TypedRow.add.Goals as goal

pub returns-clause-added : goal.returns-clause-added
returns-clause-added c = λ r serves. elim c.match-self.branch [
  | in-Ints-Ints w ↦ rw (w.in-Ints-Ints.is-0, w.in-Ints-Ints.is-1, w.self-is)
      (typed-added (λ cell. values.I32 cell) r (totals (λ cell. values.I32 cell) w.in-Ints-Ints.row) (totals (λ cell. values.I32 cell) w.add.new.self) c.args.places.now w.deref.result.now w.in-Ints-Ints.cells.items
      w.deref.ensures.value (w.add.ensures.added r (rw w.in-Ints-Ints.is-0 at serves)))
  | in-Longs-Longs w ↦ rw (w.in-Longs-Longs.is-0, w.in-Longs-Longs.is-1, w.self-is)
      (typed-added (λ cell. values.I64 cell) r (totals (λ cell. values.I64 cell) w.in-Longs-Longs.row) (totals (λ cell. values.I64 cell) w.add-in-Longs-Longs.new.self) c.args.places.now w.deref-in-Longs-Longs.result.now w.in-Longs-Longs.cells.items
      w.deref-in-Longs-Longs.ensures.value (w.add-in-Longs-Longs.ensures.added r (rw w.in-Longs-Longs.is-0 at serves)))
  | in-Flags-Flags w ↦ rw (w.in-Flags-Flags.is-0, w.in-Flags-Flags.is-1, w.self-is)
      (typed-added (λ cell. values.Flag cell) r (totals (λ cell. values.Flag cell) w.in-Flags-Flags.row) (totals (λ cell. values.Flag cell) w.add-in-Flags-Flags.new.self) c.args.places.now w.deref-in-Flags-Flags.result.now w.in-Flags-Flags.cells.items
      w.deref-in-Flags-Flags.ensures.value (w.add-in-Flags-Flags.ensures.added r (rw w.in-Flags-Flags.is-0 at serves)))
  | in-Nodes-Nodes w ↦ rw (w.in-Nodes-Nodes.is-0, w.in-Nodes-Nodes.is-1, w.self-is)
      (typed-added (λ cell. values.At cell) r (totals (λ cell. values.At cell) w.in-Nodes-Nodes.row) (totals (λ cell. values.At cell) w.add-in-Nodes-Nodes.new.self) c.args.places.now w.deref-in-Nodes-Nodes.result.now w.in-Nodes-Nodes.cells.items
      w.deref-in-Nodes-Nodes.ensures.value (w.add-in-Nodes-Nodes.ensures.added r (rw w.in-Nodes-Nodes.is-0 at serves)))
]
