use Rattle.std.proofs.Common.{map, refl}
use Rattle.gm_image.specs.Views.{term}
use Rattle.gm_batch_steps.specs.BatchStates.{view_in}
use Rattle.gm_batch_steps.proofs.BatchLaws.{values-found}
use Rattle.gm_batch_steps.proofs.LineLaws.{put-runs}
use Rattle.gm_batch_steps.proofs.lines.put.Goals as goal

pub returns-clause-runs : goal.returns-clause-runs
returns-clause-runs c done =
    let places = c.args.context.now.places in
    let view = view_in c.args.context.now c.args.state.now in
    let rows = c.args.chosen.rows.now in
    put-runs places c.args.place c.args.slot c.args.reduce (term c.args.a.now) c.args.context.now rows c.in-Some.column.values c.args.state.now _ _
    (values-found (map view rows) (term c.args.a.now) c.in_ok-column.field-0 c.in-Some.column c.in-Some.is c.in_ok-column.ensures)
    c.in_ok-put_values.ensures.put c.put_values.ensures.settle refl refl refl
