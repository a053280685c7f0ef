use Rattle.std.proofs.Common.{ap, sym, subst, inl, Ok}
use Rattle.gm_columns.specs.Cells.{values_of}
use Rattle.gm_image.specs.Term as T
use Rattle.gm_kernels.specs.Typed.{column_type}
use Rattle.gm_machine.specs.Expressions.{value_at}
use Rattle.gm_batches.specs.NodeBatches.{AreWithin, place_at, row_view, rows_in as rows_of_batch}
use Rattle.gm_batches.proofs.LeafLaws.{rows_in, one_of, type_at, no_type_at}
use Rattle.gm_batches.proofs.ColumnLaws.{same_found}
use Rattle.gm_batches.proofs.leaves.field_column.Goals as goal

pub cells_of-requires-clause-within : goal.cells_of-requires-clause-within
cells_of-requires-clause-within c =
    subst (AreWithin c.args.batch.now.places) (sym c.in-Some.ensures.lookup.1)
    (c.requires.batch.fields c.args.field c.in-Some.cells.now c.in-Some.ensures.lookup.3.0)

pub returns-in-Some : goal.returns-in-Some
returns-in-Some c =
    let b = c.args.batch.now in
    let f = c.args.field in
    let cells = c.in-Some.cells.now in
    let within = c.in-Some.ensures.lookup.3.0 in
    let read = c.in-Some.ensures.lookup.1 in
    same_found c.cells_of.result
    (type_at column_type b.fields.now f cells within read)
    (rows_in (row_view b) (λ row. value_at (values_of cells) (place_at b.places row)) (T.Field f)
    (λ row. ap (λ v. Ok v) (one_of (λ cells. value_at (values_of cells) (place_at b.places row)) b.fields.now f cells within read))
    (rows_of_batch b c.args.rows))
    c.cells_of.ensures

pub returns-in-None : goal.returns-in-None
returns-in-None c = inl (no_type_at column_type c.args.batch.now.fields.now c.args.field c.in-None.ensures.lookup.3)
