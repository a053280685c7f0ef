-- A node has as many fields after its step as before.
use Rattle.std.proofs.Common.{◌≡◌, ◌∙◌, length, map, sym, ap, subst}
use Rattle.std.proofs.lemmas.List.{length-map}
use Rattle.gm_image.specs.Views.{program}
use Rattle.gm_machine.specs.Batches.{message_of}
use Rattle.gm_columns.specs.Cells.{values_of}
use Rattle.gm_machine.specs.Duties.{places_of}
use Rattle.gm_machine.specs.Fields.{columns_of, IsFull}
use Rattle.gm_machine.specs.Machine.{context_at}
use Rattle.gm_machine.specs.VertexViews.{code_of}
use Rattle.gm_machine.proofs.FieldRows.{length-node}
use Rattle.gm_machine.proofs.NodeSteps.{place-known, place-within}
use Rattle.gm_machine.proofs.Widths.{vertex-wide}
use Rattle.gm_machine.proofs.node_steps.step_at.Goals as goal

pub headers_at-headers-requires-clause-place : goal.headers_at-headers-requires-clause-place
headers_at-headers-requires-clause-place c =
    place-known (places_of c.args.round.now.nodes) c.args.place c.args.round.now.values.now c.args.round.now.sorted.now c.args.round.now.starts.now c.requires.by_place c.requires.place

pub run_vertex-requires-clause-within : goal.run_vertex-requires-clause-within
run_vertex-requires-clause-within c =
    place-within (places_of c.args.round.now.nodes) c.args.place c.args.round.now.values.now c.args.round.now.sorted.now c.headers_at-headers.result.now c.args.round.now.starts.now c.requires.by_place c.requires.place c.headers_at-headers.ensures

pub store-requires-clause-full : goal.store-requires-clause-full
store-requires-clause-full c =
    let wide : length c.as_slice-after.result.now ≡ length c.args.fields.now.rows.items =
    ap length c.as_slice-after.ensures.value
    ∙ ap (λ a. length a.state.fields) c.in_ok-fault.ensures
    ∙ vertex-wide (program c.args.round.now.image.now) (code_of c.args.round.now.code) (context_at c.args.round.now.graph.now c.args.round.now.globals.now c.node.result) (map (message_of c.args.round.now.values.now) c.headers_at-headers.result.now) c.load.new.into.items
    ∙ ap length c.in_ok-load.ensures
    ∙ length-node c.args.fields.now.nodes (columns_of c.args.fields.now) c.args.place c.requires.here
    ∙ length-map c.args.fields.now.rows.items values_of in
    record { wide = sym wide; full = c.requires.full.full }

pub returns-clause-full : goal.returns-clause-full
returns-clause-full c =
    let wide : length c.as_slice-after.result.now ≡ length c.args.fields.now.rows.items =
    ap length c.as_slice-after.ensures.value
    ∙ ap (λ a. length a.state.fields) c.in_ok-fault.ensures
    ∙ vertex-wide (program c.args.round.now.image.now) (code_of c.args.round.now.code) (context_at c.args.round.now.graph.now c.args.round.now.globals.now c.node.result) (map (message_of c.args.round.now.values.now) c.headers_at-headers.result.now) c.load.new.into.items
    ∙ ap length c.in_ok-load.ensures
    ∙ length-node c.args.fields.now.nodes (columns_of c.args.fields.now) c.args.place c.requires.here
    ∙ length-map c.args.fields.now.rows.items values_of in
    subst (λ n. IsFull n c.store.new.self) wide c.in_ok-store.ensures.full
