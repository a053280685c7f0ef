-- The steps of nodes whose handlers were run are those of nodes for which no messages wait.
use Rattle.std.proofs.Common.{◌≡◌, ◌∙◌, List, length, map, ap, sym, subst}
use Rattle.gm_columns.specs.Cells.{values_of}
use Rattle.gm_machine.specs.Fields.{HeldFields, by_node}
use Rattle.gm_machine.specs.Vertex.{Message}
use Rattle.gm_message_columns.specs.MessageTables.{message_rows}
use Rattle.gm_batch_handlers.specs.Handling.{Handles, all_values, messages_in}
use Rattle.gm_node_batches.proofs.HandledLaws.{all-long, handled-full, handled-steps, rows-are}
use Rattle.gm_node_batches.proofs.openings.by_columns.Goals as goal

pub handlers_of_batch-requires-clause-fields : goal.handlers_of_batch-requires-clause-fields
handlers_of_batch-requires-clause-fields c =
    all-long c.into_columns-columns.result.items (length c.replace-held.result.rows) (length c.args.nodes.now) c.into_columns-columns.ensures.full
    (ap (λ (h : HeldFields). length h.rows) c.replace-held.ensures.value ∙ c.requires.fields)

pub from_columns-requires-2 : goal.from_columns-requires-2
from_columns-requires-2 c =
    let held : length c.args.fields.now.rows ≡ length c.replace-held.result.rows = ap (λ (h : HeldFields). length h.rows) (sym c.replace-held.ensures.value) in
    handled-full c.in_ok-done.done c.args.duty.now c.args.nodes.now (messages_in c.kind.result c.to-2.result.now (all_values c.values.result.now)) c.into_columns-columns.result.items c.handlers_of_batch.new.fields.items
    (length c.replace-held.result.rows) c.len-count.result c.in_ok-done.ensures.handled c.in_ok-done.ensures.same_fields c.into_columns-columns.ensures.full (c.len-count.ensures ∙ held)

pub returns-clause-same_steps : goal.returns-clause-same_steps
returns-clause-same_steps c done boxes empty =
    let messages : messages_in c.kind.result c.to-2.result.now (all_values c.values.result.now) ≡ message_rows c.args.messages.now =
    rows-are c.args.messages.now c.kind.result c.to-2.result.now c.values.result.now c.kind.ensures c.to-2.ensures c.values.ensures.columns in
    handled-steps c.args.duty.now c.args.nodes.now (message_rows c.args.messages.now) boxes c.args.fields.now.rows c.from_columns-2.result.rows
    (map values_of c.into_columns-columns.result.items) (map values_of c.handlers_of_batch.new.fields.items) c.len-count.result
    (subst (λ (l : List Message). Handles c.args.duty.now c.args.nodes.now l (map values_of c.into_columns-columns.result.items) (map values_of c.handlers_of_batch.new.fields.items)) messages (c.in_ok-done.ensures.handled done))
    empty c.requires.fields c.len-count.ensures
    (subst (λ (h : HeldFields). h.rows ≡ by_node (length h.rows) (map values_of c.into_columns-columns.result.items)) c.replace-held.ensures.value c.into_columns-columns.ensures.rows)
    c.from_columns-2.ensures.rows
