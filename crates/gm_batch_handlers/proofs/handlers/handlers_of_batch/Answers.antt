use Rattle.std.proofs.Common.{List, map, subst, sym}
use Rattle.gm_columns.specs.declared.cells.Cells.{Cells}
use Rattle.gm_columns.specs.Cells.{values_of}
use Rattle.gm_batch_handlers.specs.Gathering.{Gathers}
use Rattle.gm_batch_handlers.specs.Handling.{Handles, all_values, messages_in}
use Rattle.gm_batch_handlers.proofs.HandlingLaws.{all-handled}
use Rattle.gm_batch_handlers.proofs.PartLaws.{columns-full}
use Rattle.gm_batch_handlers.proofs.handlers.handlers_of_batch.Goals as goal

pub returns-clause-handled : goal.returns-clause-handled
returns-clause-handled c done =
    let fields = c.args.fields.now.items in
    let nodes = c.args.nodes.now in
    let messages = messages_in c.args.kind c.args.to.now (all_values c.args.values.now) in
    let totals = c.run_parts.new.state.totals.items in
    subst (λ new. Handles c.args.duty.now nodes messages (map values_of fields) new) (sym c.store.ensures)
    (all-handled c.args.duty.now nodes messages (map values_of fields) totals (columns-full fields _ c.requires.fields)
    (subst (λ (l : List Cells). Gathers c.args.duty.now nodes (map values_of l) messages totals) c.deref.ensures.value
    (c.in_ok-run_parts.ensures.gathers c.if-not-branch.false)))
