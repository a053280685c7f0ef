use Rattle.std.proofs.Common.{◌∙◌, ap, sym, subst, None, map}
use Rattle.std.specs.List.{range_with_len}
use Rattle.gm_value.specs.declared.values.Value.TheVariants.{At}
use Rattle.gm_columns.specs.Cells.{values_of}
use Rattle.gm_kernels.specs.Typed.{column_type}
use Rattle.gm_machine.specs.Expressions.{value_at}
use Rattle.gm_batches.specs.NodeBatches.{place_at, row_count, HasPlaces, AreWithin}
use Rattle.gm_batches.proofs.LeafLaws.{all_between, all_at}
use Rattle.gm_batches.proofs.ColumnLaws.{if_found, found_column}
use Rattle.gm_batches.proofs.places.cells_of_all.Goals as goal

pub returns-in-Between : goal.returns-in-Between
returns-in-Between c =
    let n = row_count c.args.batch.now in
    let vs = values_of c.args.cells.now in
    let places = subst (HasPlaces n) c.in-Between.is c.requires.places in
    let within = subst (λ p. AreWithin p c.args.cells.now) c.in-Between.is c.requires.within in
    found_column (column_type c.args.cells.now) _ c.gather_between.result c.gather_between.ensures.vtype
    (if_found c.gather_between.result
    (λ column same. same ∙ all_between vs c.in-Between.from c.in-Between.to n places.0 within
    ∙ ap (λ p. map (λ row. value_at vs (place_at p row)) (range_with_len 0 n)) (sym c.in-Between.is))
    c.gather_between.ensures.values)

pub returns-in-At : goal.returns-in-At
returns-in-At c =
    let n = row_count c.args.batch.now in
    let vs = values_of c.args.cells.now in
    let places = subst (HasPlaces n) c.in-At.is c.requires.places in
    found_column (column_type c.args.cells.now) _ c.gather.result c.gather.ensures.vtype
    (if_found c.gather.result
    (λ column each. each (At None) ∙ all_at vs c.in-At.numbers.now n places
    ∙ ap (λ p. map (λ row. value_at vs (place_at p row)) (range_with_len 0 n)) (sym c.in-At.is))
    c.gather.ensures.values)
