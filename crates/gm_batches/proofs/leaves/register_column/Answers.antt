use Rattle.std.proofs.Common.{◌∙◌, ap, sym, subst, inl, Some, Ok}
use Rattle.gm_columns.specs.Columns.{TypedRow}
use Rattle.gm_image.specs.Term as T
use Rattle.gm_machine.specs.Expressions.{value_at}
use Rattle.gm_batches.specs.NodeBatches.{HasRows, row_count, row_view, rows_in as rows_of_batch}
use Rattle.gm_batches.proofs.LeafLaws.{rows_in, one_of, type_of_one, no_type}
use Rattle.gm_batches.proofs.leaves.register_column.Goals as goal

pub rows_of-requires-clause-column : goal.rows_of-requires-clause-column
rows_of-requires-clause-column c =
    subst (HasRows (row_count c.args.batch.now)) (sym c.in-Some.ensures.lookup.1)
    (c.requires.batch.registers c.args.register c.in-Some.column.now c.in-Some.ensures.lookup.3.0)

pub returns-in_ok-rows_of-in-Some : goal.returns-in_ok-rows_of-in-Some
returns-in_ok-rows_of-in-Some c =
    let b = c.args.batch.now in
    let k = c.args.register in
    let column = c.in-Some.column.now in
    let within = c.in-Some.ensures.lookup.3.0 in
    let read = c.in-Some.ensures.lookup.1 in (
      type_of_one (λ (column : TypedRow). column.vtype) b.registers.now k column within read
          ∙ ap (λ t. Some t) (sym c.in_ok-rows_of-in-Some.ensures.vtype),
      rows_in (row_view b) (λ row. value_at column.values row) (T.Register k)
          (λ row. ap (λ v. Ok v) (one_of (λ (column : TypedRow). value_at column.values row) b.registers.now k column within read))
          (rows_of_batch b c.args.rows)
          ∙ ap (λ vs. Some vs) (sym c.in_ok-rows_of-in-Some.ensures.values),
    )

pub returns-in-None : goal.returns-in-None
returns-in-None c = inl (no_type (λ (column : TypedRow). column.vtype) c.args.batch.now.registers.now c.args.register c.in-None.ensures.lookup.3)
