use Rattle.std.proofs.Common.{◌∙◌, ◌+◌, ◌<◌, ap, sym, subst, None, ℕ, map, get_or, length, arith}
use Rattle.std.specs.Prelude.{All}
use Rattle.std.proofs.lemmas.List.Elements.{All-get_or}
use Rattle.gm_value.specs.declared.values.Value.TheVariants.{At}
use Rattle.gm_columns.specs.Cells.{values_of}
use Rattle.gm_kernels.specs.Typed.{column_type}
use Rattle.gm_machine.specs.Expressions.{value_at}
use Rattle.gm_batches.specs.NodeBatches.{place_at, row_count, HasPlaces, AreWithin}
use Rattle.gm_batches.proofs.LeafLaws.{some_places, within_map}
use Rattle.gm_batches.proofs.ColumnLaws.{if_found, found_column}
use Rattle.gm_batches.proofs.places.cells_at.Goals as goal

pub shift-requires : goal.shift-requires
shift-requires c = λ k d lt.
    let places = subst (HasPlaces (row_count c.args.batch.now)) c.in-Between.is c.requires.places in
    omega (arith, c.requires.rows k d lt, places.0, places.1)

pub gather-requires : goal.gather-requires
gather-requires c =
    let places = subst (HasPlaces (row_count c.args.batch.now)) c.in-Between.is c.requires.places in
    let within = subst (λ p. AreWithin p c.args.cells.now) c.in-Between.is c.requires.within in
    let P : ℕ → Type 0 = λ place. place < length (values_of c.args.cells.now) in
    subst (λ numbers. All P numbers) (sym (c.deref.ensures.value ∙ c.in_ok-shift-in-Between.ensures))
    (within_map P (λ row. c.in-Between.from + row) c.args.rows.now (λ k d lt. omega (arith, c.requires.rows k d lt, places.0, within)))

pub gather-requires-in-At : goal.gather-requires-in-At
gather-requires-in-At c =
    let places = subst (HasPlaces (row_count c.args.batch.now)) c.in-At.is c.requires.places in
    let within = subst (λ p. AreWithin p c.args.cells.now) c.in-At.is c.requires.within in
    let P : ℕ → Type 0 = λ place. place < length (values_of c.args.cells.now) in
    subst (λ numbers. All P numbers) (sym (c.deref-in-At.ensures.value ∙ c.in_ok-pick-in-At.ensures 0))
    (within_map P (λ row. get_or c.in-At.numbers.now row 0) c.args.rows.now
    (λ k d lt. All-get_or P c.in-At.numbers.now (get_or c.args.rows.now k d) 0 (omega (arith, c.requires.rows k d lt, places)) within))

pub returns-in_ok-shift-in-Between : goal.returns-in_ok-shift-in-Between
returns-in_ok-shift-in-Between c =
    let vs = values_of c.args.cells.now in
    found_column (column_type c.args.cells.now) _ c.gather.result c.gather.ensures.vtype
    (if_found c.gather.result
    (λ column each. each (At None)
    ∙ some_places vs (λ row. c.in-Between.from + row) c.args.rows.now _ (c.deref.ensures.value ∙ c.in_ok-shift-in-Between.ensures)
    ∙ ap (λ p. map (λ row. value_at vs (place_at p row)) c.args.rows.now) (sym c.in-Between.is))
    c.gather.ensures.values)

pub returns-in_ok-pick-in-At : goal.returns-in_ok-pick-in-At
returns-in_ok-pick-in-At c =
    let vs = values_of c.args.cells.now in
    found_column (column_type c.args.cells.now) _ c.gather-in-At.result c.gather-in-At.ensures.vtype
    (if_found c.gather-in-At.result
    (λ column each. each (At None)
    ∙ some_places vs (λ row. get_or c.in-At.numbers.now row 0) c.args.rows.now _ (c.deref-in-At.ensures.value ∙ c.in_ok-pick-in-At.ensures 0)
    ∙ ap (λ p. map (λ row. value_at vs (place_at p row)) c.args.rows.now) (sym c.in-At.is))
    c.gather-in-At.ensures.values)
