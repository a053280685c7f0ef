use Rattle.std.proofs.Common.{◌≡◌, ◌∙◌, ◌<◌, ℕ, List, [], Some, None, ap, arith, get_or, length, map, refl, subst, sym}
use Rattle.std.specs.Prelude.{All}
use Rattle.std.proofs.lemmas.List.{length-map}
use Rattle.std.proofs.lemmas.List.Elements.{All-from_recursion, recursion_from_All}
use Rattle.gm_columns.specs.Cells.{values_of}
use Rattle.gm_columns.specs.Columns.{TypedRow}
use Rattle.gm_image.specs.Views.{term}
use Rattle.gm_batches.proofs.ColumnLaws.{if_ok}
use Rattle.gm_batches.specs.ValuesIn.{values_in}
use Rattle.gm_batch_steps.proofs.BatchLaws.{values-found, values-long}
use Rattle.gm_batch_steps.proofs.LineLaws.{get-map}
use Rattle.gm_batch_handlers.specs.Gifts.{held_in}
use Rattle.gm_batch_handlers.specs.RowStates.{field_columns, place_of, view_in}
use Rattle.gm_batch_handlers.proofs.AddLaws.{adds-same}
use Rattle.gm_batch_handlers.proofs.BatchLaws.{long-after, places-within}
use Rattle.gm_batch_handlers.proofs.GiftLaws.{get-same}
use Rattle.gm_batch_handlers.proofs.LineLaws.{fold-runs}
use Rattle.gm_batch_handlers.proofs.lines.fold.Goals as goal

pub add-requires-clause-within : goal.add-requires-clause-within
add-requires-clause-within c =
    let context = c.args.context.now in
    let rows = c.args.chosen.rows.now in
    let slot = c.args.slot in
    let there : slot < length (field_columns context) = omega (arith, c.if-slot-context.false, length-map context.fields.now values_of) in
    let P : ℕ → Type 0 = λ k. k < length (get_or (field_columns context) slot []) in
    let all : All P (map (place_of context) rows) = All-from_recursion P (map (place_of context) rows) (places-within context rows slot c.requires.context there (recursion_from_All _ rows c.requires.chosen.rows_within)) in
    let is : c.deref-2.result.now ≡ map (place_of context) rows = c.deref-2.ensures.value ∙ c.in_ok-at.ensures 0 in
    λ k d lt. omega (
      arith,
      subst (λ l. All P l) (sym is) all k d lt,
      ap length (get-map values_of context.fields.now slot c.index-context-slot.result [] (omega (arith, there, length-map context.fields.now values_of))),
    )

pub add-requires-clause-rows : goal.add-requires-clause-rows
add-requires-clause-rows c =
    let context = c.args.context.now in
    let rows = c.args.chosen.rows.now in
    let is : c.deref-2.result.now ≡ map (place_of context) rows = c.deref-2.ensures.value ∙ c.in_ok-at.ensures 0 in
    values-long (view_in context c.deref.result.now) (term c.args.a.now) rows c.in-Some.column.values
    (values-found (map (view_in context c.deref.result.now) rows) (term c.args.a.now) c.in_ok-column.field-0 c.in-Some.column c.in-Some.is c.in_ok-column.ensures)
    ∙ sym (ap length is ∙ length-map rows (place_of context))

pub add-requires-clause-long : goal.add-requires-clause-long
add-requires-clause-long c =
    let context = c.args.context.now in
    let slot = c.args.slot in
    let totals = c.args.state.now.totals.items in
    let there : slot < length (field_columns context) = omega (arith, c.if-slot-context.false, length-map context.fields.now values_of) in
    let cells : values_of (get_or context.fields.now slot c.index-context-slot.result) ≡ get_or (field_columns context) slot [] =
    sym (get-map values_of context.fields.now slot c.index-context-slot.result [] (omega (arith, there, length-map context.fields.now values_of))) in
    let total : c.index_mut-total.result.now ≡ get_or totals slot None =
    c.index_mut-total.ensures.value ∙ get-same totals slot _ None (omega (arith, there, c.requires.ready.totals.wide)) in
    (λ i. length (held_in (cells i) (total i))) ∙ c.requires.ready.totals.each slot there ∙ ap length (sym cells)

pub returns-clause-runs : goal.returns-clause-runs
returns-clause-runs c =
    let context = c.args.context.now in
    let rows = c.args.chosen.rows.now in
    let slot = c.args.slot in
    let totals = c.args.state.now.totals.items in
    let there : slot < length (field_columns context) = omega (arith, c.if-slot-context.false, length-map context.fields.now values_of) in
    let cells : values_of (get_or context.fields.now slot c.index-context-slot.result) ≡ get_or (field_columns context) slot [] =
    sym (get-map values_of context.fields.now slot c.index-context-slot.result [] (omega (arith, there, length-map context.fields.now values_of))) in
    let total : c.index_mut-total.result.now ≡ get_or totals slot None =
    c.index_mut-total.ensures.value ∙ get-same totals slot _ None (omega (arith, there, c.requires.ready.totals.wide)) in
    let is : c.deref-2.result.now ≡ map (place_of context) rows = c.deref-2.ensures.value ∙ c.in_ok-at.ensures 0 in
    if_ok c.add.result
    (λ done adds fine.
    fold-runs c.reductions_are_monoids.ensures.unit c.args.places c.args.place slot c.args.reduce (term c.args.a.now) context rows c.in-Some.column.values c.args.state.now _ c.add.new.total
    (subst (λ (regs : List TypedRow). values_in (map (view_in context regs) rows) (term c.args.a.now) ≡ Some c.in-Some.column.values) c.deref.ensures.value
    (values-found (map (view_in context c.deref.result.now) rows) (term c.args.a.now) c.in_ok-column.field-0 c.in-Some.column c.in-Some.is c.in_ok-column.ensures))
    (omega (arith, c.if-place-places.false)) there
    (places-within context rows slot c.requires.context there (recursion_from_All _ rows c.requires.chosen.rows_within))
    (adds-same c.args.reduce c.args.place c.in-Some.column.values c.add.new.total cells total is (adds fine)) refl refl)
    c.add.ensures

pub returns-clause-ready : goal.returns-clause-ready
returns-clause-ready c =
    let context = c.args.context.now in
    let rows = c.args.chosen.rows.now in
    let slot = c.args.slot in
    let totals = c.args.state.now.totals.items in
    let there : slot < length (field_columns context) = omega (arith, c.if-slot-context.false, length-map context.fields.now values_of) in
    let cells : values_of (get_or context.fields.now slot c.index-context-slot.result) ≡ get_or (field_columns context) slot [] =
    sym (get-map values_of context.fields.now slot c.index-context-slot.result [] (omega (arith, there, length-map context.fields.now values_of))) in
    let total : c.index_mut-total.result.now ≡ get_or totals slot None =
    c.index_mut-total.ensures.value ∙ get-same totals slot _ None (omega (arith, there, c.requires.ready.totals.wide)) in
    let is : c.deref-2.result.now ≡ map (place_of context) rows = c.deref-2.ensures.value ∙ c.in_ok-at.ensures 0 in
    if_ok c.add.result
    (λ done adds fine. record {
      registers = c.requires.ready.registers;
      totals = long-after c.args.reduce c.args.place slot (field_columns context) totals _ c.add.new.total (map (place_of context) rows) c.in-Some.column.values c.requires.ready.totals
          (adds-same c.args.reduce c.args.place c.in-Some.column.values c.add.new.total cells total is (adds fine)) refl there;
    })
    c.add.ensures
