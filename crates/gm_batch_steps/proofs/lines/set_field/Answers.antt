use Rattle.std.proofs.Common.{◌≡◌, arith, length, map, refl}
use Rattle.std.proofs.lemmas.List.Elements.{recursion_from_All}
use Rattle.gm_columns.specs.Cells.{values_of}
use Rattle.gm_image.specs.Views.{term}
use Rattle.gm_batch_steps.specs.BatchStates.{field_columns, view_in}
use Rattle.gm_batch_steps.proofs.BatchLaws.{all-of-map, still-full, values-found, values-long}
use Rattle.gm_batch_steps.proofs.LineLaws.{field-runs}
use Rattle.gm_batch_steps.proofs.lines.set_field.Goals as goal

pub write_field-requires-clause-within : goal.write_field-requires-clause-within
write_field-requires-clause-within c k d lt k' d' lt' =
    omega (
      arith,
      c.requires.chosen.rows_within k' d' lt',
      all-of-map (λ values. length values ≡ length c.args.context.now.nodes.now) values_of c.args.state.now.fields.items c.requires.full.fields k d lt,
    )

pub write_field-requires-clause-rows : goal.write_field-requires-clause-rows
write_field-requires-clause-rows c =
    let view = view_in c.args.context.now c.args.state.now in
    let rows = c.args.chosen.rows.now in
    values-long view (term c.args.a.now) rows c.in-Some.column.values
    (values-found (map view rows) (term c.args.a.now) c.in_ok-column.field-0 c.in-Some.column c.in-Some.is c.in_ok-column.ensures)

pub returns-clause-full : goal.returns-clause-full
returns-clause-full c done = record {
  fields = still-full (length c.args.context.now.nodes.now) c.args.field (field_columns c.args.state.now) (map values_of c.write_field.new.fields.items)
      c.args.chosen.rows.now c.in-Some.column.values c.requires.full.fields c.in_ok-write_field.ensures;
  registers = c.requires.full.registers;
}

pub returns-clause-runs : goal.returns-clause-runs
returns-clause-runs c done =
    let places = c.args.context.now.places in
    let view = view_in c.args.context.now c.args.state.now in
    let rows = c.args.chosen.rows.now in
    field-runs places (length c.args.context.now.nodes.now) c.args.field (term c.args.a.now) c.args.context.now rows c.in-Some.column.values c.args.state.now _
    (values-found (map view rows) (term c.args.a.now) c.in_ok-column.field-0 c.in-Some.column c.in-Some.is c.in_ok-column.ensures)
    c.requires.full (recursion_from_All _ rows c.requires.chosen.rows_within) c.requires.chosen.distinct c.in_ok-write_field.ensures refl refl refl
