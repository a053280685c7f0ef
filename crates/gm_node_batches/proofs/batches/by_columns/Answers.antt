-- The steps of the batch are those of the nodes at its places.
use Rattle.std.proofs.Common.{◌≡◌, ◌∙◌, ◌+◌, ℕ, List, length, map, refl, ap, arith, sym, subst}
use Rattle.std.specs.Prelude.{slice_range}
use Rattle.std.specs.List.{flat_map}
use Rattle.gm_columns.specs.declared.cells.Cells.{Cells}
use Rattle.gm_columns.specs.Cells.{values_of}
use Rattle.gm_machine.specs.declared.node_steps.Nodes.TheVariants.{These}
use Rattle.gm_machine.specs.Fields.{HeldFields}
use Rattle.gm_machine.specs.Vertex.{Message}
use Rattle.gm_message_columns.specs.MessageTables.{MessageTable, message_rows}
use Rattle.gm_batch_steps.specs.BatchSteps.{BatchSteps, row_after}
use Rattle.gm_node_batches.specs.declared.steps.Sent.{Sent}
use Rattle.gm_node_batches.proofs.ColumnFields.{columns-steps, length-some, long-enough, some-at, still-full}
use Rattle.gm_node_batches.proofs.batches.by_columns.Goals as goal

pub steps_of_batch-requires-clause-within : goal.steps_of_batch-requires-clause-within
steps_of_batch-requires-clause-within c =
    let from : ℕ = c.args.from in
    let to : ℕ = c.args.to in
    let held : length c.replace-held.result.rows ≡ length c.args.fields.now.rows = ap (λ (h : HeldFields). length h.rows) c.replace-held.ensures.value in
    long-enough c.into_columns-columns.result.items (length c.replace-held.result.rows) (from + length (slice_range c.args.nodes.now from to)) c.into_columns-columns.ensures.full
    (omega (arith, length-some c.args.nodes.now from to c.requires.within, c.requires.within, c.requires.ordered, c.requires.fields, held))

pub from_columns-requires-2 : goal.from_columns-requires-2
from_columns-requires-2 c =
    let from : ℕ = c.args.from in
    let slice : List ℕ = slice_range c.args.nodes.now from c.args.to in
    let held : length c.args.fields.now.rows ≡ length c.replace-held.result.rows = ap (λ (h : HeldFields). length h.rows) (sym c.replace-held.ensures.value) in
    still-full c.in_ok-done.done c.args.duty.now slice from (length slice) (length c.replace-held.result.rows) c.len-count.result c.into_columns-columns.result.items c.steps_of_batch.new.fields.items
    (flat_map message_rows c.new-made.result.items) (flat_map message_rows c.steps_of_batch.new.sent.items) c.args.sent.now.puts c.steps_of_batch.new.puts
    c.in_ok-done.ensures.steps c.in_ok-done.ensures.same_fields c.into_columns-columns.ensures.full (c.len-count.ensures ∙ held)

pub returns-in_ok-append_all-clause-steps : goal.returns-in_ok-append_all-clause-steps
returns-in_ok-append_all-clause-steps c done boxes empty =
    let from : ℕ = c.args.from in
    let to : ℕ = c.args.to in
    let nodes : List ℕ = c.args.nodes.now in
    let made : List Message = flat_map message_rows c.steps_of_batch.new.sent.items in
    let cells : List Cells = c.into_columns-columns.result.items in
    let cells' : List Cells = c.steps_of_batch.new.fields.items in
    let sent : Sent = record { messages = c.append_all.new.messages; puts = c.steps_of_batch.new.puts; fault = c.args.sent.now.fault } in
    columns-steps c.args.duty.now (These c.args.nodes) boxes (slice_range nodes from to) from to c.len-count.result cells cells'
    c.replace-held.result c.args.fields.now c.from_columns-2.result made c.args.sent.now sent
    c.requires.ordered (omega (arith, c.requires.within, c.requires.fields)) (length-some nodes from to c.requires.within)
    (λ row lt. some-at nodes from to row 0 lt)
    empty c.replace-held.ensures.value c.len-count.ensures c.into_columns-columns.ensures.width c.into_columns-columns.ensures.rows
    c.from_columns-2.ensures.width c.from_columns-2.ensures.rows c.in_ok-append_all.ensures refl
    (subst (λ (l : List MessageTable). BatchSteps (row_after c.args.duty.now (slice_range nodes from to) from (map values_of cells)) from (length (slice_range nodes from to)) (map values_of cells) (map values_of cells') (flat_map message_rows l) made c.args.sent.now.puts sent.puts)
    c.new-made.ensures.items (c.in_ok-done.ensures.steps c.if-done.true))
