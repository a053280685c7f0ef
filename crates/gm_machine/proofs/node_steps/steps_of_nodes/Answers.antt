-- The round's steps are those of the duty.
use Rattle.std.proofs.Common.{◌≡◌, ◌<◌, ◌≤◌, ◌∙◌, ℕ, List, [], length, get_or, refl, ap, sym, arith, subst}
use Rattle.gm_value.specs.declared.values.Value.{Value}
use Rattle.gm_image.specs.Views.{program}
use Rattle.gm_machine.specs.declared.fields.FieldColumns.{FieldColumns}
use Rattle.gm_machine.specs.declared.node_steps.Duty.{Duty}
use Rattle.gm_machine.specs.declared.node_steps.Round.{Round}
use Rattle.gm_machine.specs.Duties.{places_of, place_after}
use Rattle.gm_machine.specs.Fields.{HeldFields, fields_of, columns_of, held, IsFull}
use Rattle.gm_machine.specs.Inboxes.{messages_at}
use Rattle.gm_machine.specs.Machine.{block_at}
use Rattle.gm_machine.specs.NodeSteps.{round_after}
use Rattle.gm_machine.specs.Vertex.{Message}
use Rattle.gm_machine.specs.VertexViews.{code_of}
use Rattle.gm_machine.proofs.FieldRows.{length-by_node}
use Rattle.gm_machine.proofs.InboxLemmas.{by_place-read, messages-read}
use Rattle.gm_machine.proofs.NodeSteps.{runs-read, runs-same, runs-steps, place-same}
use Rattle.gm_machine.proofs.OneStep.{block-keeps}
use Rattle.gm_machine.proofs.Serving.{code_served}
use Rattle.gm_machine.proofs.node_steps.steps_of_nodes.Goals as goal

pub run_round-requires-clause-columns : goal.run_round-requires-clause-columns
run_round-requires-clause-columns c = c.requires.duty.columns

pub run_round-requires-clause-rows : goal.run_round-requires-clause-rows
run_round-requires-clause-rows c = c.requires.duty.served.same

pub run_round-requires-clause-asked : goal.run_round-requires-clause-asked
run_round-requires-clause-asked c =
    let d : Duty = c.args.duty.now in
    code_served d.in_rows.now d.graph.now (program d.image.now) d.block (code_of c.block_at-code.result) c.block_at-code.ensures c.requires.duty.served

pub run_round-requires-clause-keeps : goal.run_round-requires-clause-keeps
run_round-requires-clause-keeps c =
    block-keeps (program c.args.duty.now.image.now) c.args.duty.now.block (code_of c.block_at-code.result) c.block_at-code.ensures c.requires.duty.keeps

pub run_round-requires-clause-by_place : goal.run_round-requires-clause-by_place
run_round-requires-clause-by_place c =
    by_place-read c.inbox.inside.places (places_of c.args.nodes.now) c.inbox.inside.values c.inbox.inside.values c.inbox.inside.sorted.items c.as_slice-sorted.result.now c.inbox.inside.starts.items c.as_slice-starts.result.now c.args.inbox.now
    c.inbox.view_is c.requires.inbox refl c.as_slice-sorted.ensures.value c.as_slice-starts.ensures.value c.inbox.invariant

pub run_round-requires-clause-fields : goal.run_round-requires-clause-fields
run_round-requires-clause-fields c =
    ap (λ (f : FieldColumns). f.nodes) c.replace-columns.ensures.value
    ∙ sym (length-by_node c.fields.inside.columns.nodes (columns_of c.fields.inside.columns))
    ∙ ap (λ (h : HeldFields). length h.rows) c.fields.view_is
    ∙ c.requires.fields

pub run_round-requires-clause-full : goal.run_round-requires-clause-full
run_round-requires-clause-full c =
    subst (λ (f : FieldColumns). IsFull (length f.rows.items) f) (sym c.replace-columns.ensures.value) c.fields.invariant

pub returns-clause-steps : goal.returns-clause-steps
returns-clause-steps c =
    let d : Duty = c.args.duty.now in
    let r : Round = record { image = d.image; code = c.block_at-code.result; graph = d.graph; in_rows = d.in_rows; globals = d.globals; nodes = c.args.nodes.now; values = record { ref_ptr = c.args.inbox.ref_ptr; now = c.inbox.inside.values }; sorted = c.as_slice-sorted.result; starts = c.as_slice-starts.result } in
    let before : FieldColumns = c.fields.inside.columns in
    let old : List (List Value) = fields_of before in
    let new : List (List Value) = fields_of c.run_round.new.fields in
    let read : fields_of c.replace-columns.result ≡ old = ap fields_of c.replace-columns.ensures.value in
    let waiting : List (List Message) = c.args.inbox.now in
    let long : length old ≡ places_of c.args.nodes.now = ap (λ (h : HeldFields). length h.rows) c.fields.view_is ∙ c.requires.fields in
    let within : c.in_ok-to.to ≤ length old = omega (arith, c.in_ok-to.ensures.within, long) in
    runs-steps (place_after d c.args.nodes.now waiting) c.args.from c.in_ok-to.to (length before.rows.items) old new c.args.fields.now (held c.run_round.new.fields) c.args.sent.now
    (record { messages = c.run_round.new.state.messages; puts = c.run_round.new.state.puts; fault = c.in_ok-to.fault }) c.fields.view_is
    (ap (λ (n : ℕ). (let h : HeldFields = record { width = n; rows = new } in h)) (c.in_ok-to.ensures.full.wide ∙ ap (λ (f : FieldColumns). length f.rows.items) c.replace-columns.ensures.value))
    c.in_ok-to.ensures.ahead within
    (runs-same (round_after r old) (place_after d c.args.nodes.now waiting old) c.args.from c.in_ok-to.to old new c.args.sent.now.messages c.run_round.new.state.messages c.args.sent.now.puts c.run_round.new.state.puts c.args.sent.now.fault c.in_ok-to.fault
    (λ place low high.
    let below : place < length waiting = omega (arith, high, c.in_ok-to.ensures.within, c.requires.inbox) in
    place-same (program d.image.now) d.graph.now d.globals.now c.args.nodes.now (code_of c.block_at-code.result) (block_at (program d.image.now) d.block) place (messages_at c.inbox.inside.values c.as_slice-sorted.result.now c.as_slice-starts.result.now place) (get_or waiting place []) (get_or old place []) c.block_at-code.ensures
    (messages-read c.inbox.inside.places place c.inbox.inside.values c.inbox.inside.values c.inbox.inside.sorted.items c.as_slice-sorted.result.now c.inbox.inside.starts.items c.as_slice-starts.result.now waiting
    c.inbox.view_is refl c.as_slice-sorted.ensures.value c.as_slice-starts.ensures.value below))
    (runs-read (round_after r) c.args.from c.in_ok-to.to (fields_of c.replace-columns.result) old new c.swap.new.x c.args.sent.now.messages c.run_round.new.state.messages c.swap-2.new.x c.args.sent.now.puts c.run_round.new.state.puts c.args.sent.now.fault c.in_ok-to.fault
    read c.swap.ensures.x_after c.swap-2.ensures.x_after c.in_ok-to.ensures.runs))
