use Rattle.std.proofs.Common.{◌≡◌, ◌∙◌, ◌<◌, [], Some, ap, arith, length, map, refl, sym}
use Rattle.std.proofs.lemmas.List.{length-map, map-set}
use Rattle.std.proofs.lemmas.List.Elements.{recursion_from_All}
use Rattle.gm_columns.specs.declared.cells.Cells.{Cells}
use Rattle.gm_columns.specs.Cells.{values_of}
use Rattle.gm_image.specs.Views.{term}
use Rattle.gm_kernels.specs.Folding.{folded_at}
use Rattle.gm_batch_steps.specs.BatchStates.{field_columns, view_in}
use Rattle.gm_batch_steps.proofs.BatchLaws.{all-of-map, values-found, values-long}
use Rattle.gm_batch_steps.proofs.FoldLaws.{fold-full, fold-runs}
use Rattle.gm_batch_steps.proofs.LineLaws.{get-map}
use Rattle.gm_batch_steps.proofs.TurnLists.{some-is}
use Rattle.gm_batch_steps.proofs.lines.fold.Goals as goal

pub fold_rows-requires-clause-within : goal.fold_rows-requires-clause-within
fold_rows-requires-clause-within c k d lt =
    omega (
      arith,
      c.requires.chosen.rows_within k d lt,
      ap (λ (cells : Cells). length (values_of cells)) c.index.ensures,
      all-of-map (λ values. length values ≡ length c.args.context.now.nodes.now) values_of c.args.state.now.fields.items c.requires.full.fields c.args.slot c.index.result.now
          (omega (arith, c.if-slot-len.false, c.len.ensures, c.args.state.now.fields.ok)),
    )

pub fold_rows-requires-clause-rows : goal.fold_rows-requires-clause-rows
fold_rows-requires-clause-rows c =
    let view = view_in c.args.context.now c.args.state.now in
    let rows = c.args.chosen.rows.now in
    values-long view (term c.args.a.now) rows c.in-Some.column.values
    (values-found (map view rows) (term c.args.a.now) c.in_ok-column.field-0 c.in-Some.column c.in-Some.is c.in_ok-column.ensures)

pub returns-clause-full : goal.returns-clause-full
returns-clause-full c done =
    let fields = c.args.state.now.fields.items in
    let slot = c.args.slot in
    let lt : slot < length fields = omega (arith, c.if-slot-len.false, c.len.ensures, c.args.state.now.fields.ok) in
    let rows = c.args.chosen.rows.now in
    let ys = c.in-Some.column.values in
    let folded : folded_at c.args.reduce (values_of c.index.result.now) rows ys ≡ Some (values_of c.in-Some-2.new) =
    some-is (λ (new : Cells). folded_at c.args.reduce (values_of c.index.result.now) rows ys ≡ Some (values_of new)) c.in_ok-new.field-0 c.in-Some-2.new c.in-Some-2.is c.in_ok-new.ensures in
    record {
      fields = fold-full (length c.args.context.now.nodes.now) slot (field_columns c.args.state.now) _ rows c.args.reduce ys (values_of c.in-Some-2.new) c.requires.full.fields
          (ap (λ xs. folded_at c.args.reduce xs rows ys) (sym (ap values_of c.index.ensures ∙ sym (get-map values_of fields slot c.index.result.now [] lt))) ∙ folded)
          (map-set values_of fields slot c.in-Some-2.new);
      registers = c.requires.full.registers;
    }

pub returns-clause-runs : goal.returns-clause-runs
returns-clause-runs c done =
    let fields = c.args.state.now.fields.items in
    let slot = c.args.slot in
    let lt : slot < length fields = omega (arith, c.if-slot-len.false, c.len.ensures, c.args.state.now.fields.ok) in
    let view = view_in c.args.context.now c.args.state.now in
    let rows = c.args.chosen.rows.now in
    let ys = c.in-Some.column.values in
    let folded : folded_at c.args.reduce (values_of c.index.result.now) rows ys ≡ Some (values_of c.in-Some-2.new) =
    some-is (λ (new : Cells). folded_at c.args.reduce (values_of c.index.result.now) rows ys ≡ Some (values_of new)) c.in_ok-new.field-0 c.in-Some-2.new c.in-Some-2.is c.in_ok-new.ensures in
    fold-runs c.reductions_are_monoids.ensures.unit c.args.context.now.places c.args.place (length c.args.context.now.nodes.now) slot c.args.reduce (term c.args.a.now) c.args.context.now rows ys
    (values_of c.in-Some-2.new) c.args.state.now _ (c.is_place.ensures c.if-not-is_place.false) (omega (arith, lt, length-map fields values_of))
    (values-found (map view rows) (term c.args.a.now) c.in_ok-column.field-0 c.in-Some.column c.in-Some.is c.in_ok-column.ensures)
    c.requires.full (recursion_from_All _ rows c.requires.chosen.rows_within) c.requires.chosen.distinct
    (ap (λ xs. folded_at c.args.reduce xs rows ys) (sym (ap values_of c.index.ensures ∙ sym (get-map values_of fields slot c.index.result.now [] lt))) ∙ folded)
    (map-set values_of fields slot c.in-Some-2.new) refl refl refl
