-- The steps of all nodes, and what they put.
use Rattle.std.proofs.Common.{◌≡◌, ◌+◌, ◌∙◌, List, map, length, refl, ap, sym}
use Rattle.std.specs.List.{range_with_len}
use Rattle.std.proofs.lemmas.List.FromFn.{length-map-range_with_len}
use Rattle.gm_value.specs.declared.values.Value.{Value}
use Rattle.gm_image.specs.Views.{program}
use Rattle.gm_image.specs.Program.{Program}
use Rattle.gm_machine.specs.declared.fields.FieldColumns.{FieldColumns}
use Rattle.gm_machine.specs.declared.node_steps.Duty.{Duty}
use Rattle.gm_machine.specs.Fields.{fields_of, columns_of, held}
use Rattle.gm_machine.specs.Machine.{inbox, block_at, all_steps}
use Rattle.gm_machine.specs.Supersteps.{nodes_of, all_after}
use Rattle.gm_machine.proofs.FieldRows.{length-by_node}
use Rattle.gm_machine.proofs.NodeSteps.{all-places, superstep-is}
use Rattle.gm_machine.proofs.supersteps.superstep.Goals as goal

pub step_all-requires-clause-duty : goal.step_all-requires-clause-duty
step_all-requires-clause-duty c = record { columns = c.requires.columns; served = c.requires.served; keeps = c.requires.keeps }

pub step_all-requires-clause-inbox : goal.step_all-requires-clause-inbox
step_all-requires-clause-inbox c =
    ap length c.in_ok-inbox.ensures ∙ length-map-range_with_len (inbox c.replace-waiting.result) 0 c.node_count-count.result ∙ c.node_count-count.ensures.count

pub returns-clause-superstep : goal.returns-clause-superstep
returns-clause-superstep c =
    let p : Program = program c.args.image.now in
    let columns : FieldColumns = c.args.nodes.now.fields in
    let fields : List (List Value) = fields_of columns in
    let wide : columns.nodes ≡ length fields = sym (length-by_node columns.nodes (columns_of columns)) in
    let d : Duty = record { image = c.args.image; block = c.args.block; graph = c.args.graph; in_rows = c.args.in_rows; globals = c.as_slice-seen.result } in
    superstep-is p c.args.graph.now c.args.block columns.nodes c.args.globals.now.items c.settle_puts.new.globals.items (nodes_of c.args.nodes.now)
    (all_after d c.in_ok-inbox.inbox fields) (held columns) (held c.step_all.new.columns) c.empty-sent.result c.step_all.new.sent c.in_ok-put.put c.lesser.result c.in_ok-supersteps.supersteps c.in_ok-messages.messages
    refl wide c.empty-sent.ensures.messages c.empty-sent.ensures.puts c.empty-sent.ensures.fault
    (all-places p c.args.graph.now (block_at p c.args.block) c.as_slice-seen.result.now c.in_ok-inbox.inbox c.replace-waiting.result fields columns.nodes wide
    (c.in_ok-inbox.ensures ∙ ap (λ n. map (inbox c.replace-waiting.result) (range_with_len 0 n)) (c.node_count-count.ensures.count ∙ sym c.requires.nodes))
    ∙ ap (λ vs. all_steps p c.args.graph.now (block_at p c.args.block) vs c.replace-waiting.result fields) c.as_slice-seen.ensures.value
    ∙ ap (λ ms. all_steps p c.args.graph.now (block_at p c.args.block) c.args.globals.now.items ms fields) c.replace-waiting.ensures.value)
    c.in_ok-step_all.ensures.steps c.in_ok-put.ensures c.in_ok-supersteps.ensures
    (c.in_ok-messages.ensures ∙ ap (λ n. c.args.nodes.now.messages + n) c.messages-more.ensures) c.lesser.ensures
