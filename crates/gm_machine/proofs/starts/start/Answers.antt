-- One more node has its first fields.
use Rattle.std.proofs.Common.{◌≡◌, ◌<◌, ◌≤◌, ◌∙◌, ℕ, List, map, length, sym, ap, subst, arith}
use Rattle.std.proofs.lemmas.List.{length-map}
use Rattle.gm_value.specs.declared.values.Value.{Value}
use Rattle.gm_value.specs.Numbers.{zero_of}
use Rattle.gm_image.specs.Views.{program, input}
use Rattle.gm_machine.specs.Fields.{fields_of, columns_of, IsFull}
use Rattle.gm_machine.specs.Machine.{Nodes, properties, with_inputs, row_at}
use Rattle.gm_machine.specs.Vertex.{Message}
use Rattle.gm_machine.proofs.FieldRows.{length-by_node}
use Rattle.gm_machine.proofs.Starting.{first_fields, length-with_inputs, started-more, started-all}
use Rattle.gm_machine.proofs.starts.start.Goals as goal

pub store-requires-clause-full : goal.store-requires-clause-full
store-requires-clause-full c =
    let wide : length c.as_slice-first.result.now ≡ length c.args.image.now.fields =
    ap length (c.as_slice-first.ensures.value ∙ c.in_ok-bind_properties.ensures)
    ∙ length-with_inputs (properties (map input c.as_slice-inputs.result.now)) (row_at c.args.graph.now.node_columns c.loop-node.node) c.reset.new.registers.items
    ∙ ap length c.in_ok-reset.ensures ∙ length-map c.as_slice-types.result.now zero_of ∙ ap length c.as_slice-types.ensures in
    record { wide = c.loop-node.invariant.full.wide ∙ sym wide; full = c.loop-node.invariant.full.full }

pub loop-node-preserved : goal.loop-node-preserved
loop-node-preserved c =
    let node : ℕ = c.loop-node.node in
    let row : List Value = row_at c.args.graph.now.node_columns node in
    let wide : length c.as_slice-first.result.now ≡ length c.args.image.now.fields =
    ap length (c.as_slice-first.ensures.value ∙ c.in_ok-bind_properties.ensures)
    ∙ length-with_inputs (properties (map input c.as_slice-inputs.result.now)) row c.reset.new.registers.items
    ∙ ap length c.in_ok-reset.ensures ∙ length-map c.as_slice-types.result.now zero_of ∙ ap length c.as_slice-types.ensures in
    let first : c.as_slice-first.result.now ≡ with_inputs (properties (map input c.args.image.now.inputs)) row (map zero_of c.args.image.now.fields) =
    c.as_slice-first.ensures.value ∙ c.in_ok-bind_properties.ensures
    ∙ ap (λ is. with_inputs (properties (map input is)) row c.reset.new.registers.items) c.as_slice-inputs.ensures
    ∙ ap (with_inputs (properties (map input c.args.image.now.inputs)) row) (c.in_ok-reset.ensures ∙ ap (map zero_of) c.as_slice-types.ensures) in
    let within : node < length c.args.graph.now.numbers = omega (arith, c.loop-node-test.true, c.node_count-nodes.ensures.count) in
    record {
      nodes = c.in_ok-store.ensures.nodes ∙ c.loop-node.invariant.nodes;
      full = subst (λ n. IsFull n c.store.new.self) wide c.in_ok-store.ensures.full;
      started =
          started-more (program c.args.image.now) c.args.graph.now node (fields_of c.loop-node.fields) (fields_of c.store.new.self) c.as_slice-first.result.now within
          (length-by_node c.loop-node.fields.nodes (columns_of c.loop-node.fields) ∙ c.loop-node.invariant.nodes)
          first c.in_ok-store.ensures.fields c.loop-node.invariant.started;
    }

pub returns-clause-start : goal.returns-clause-start
returns-clause-start c =
    let end : length c.args.graph.now.numbers ≤ c.loop-node.node = omega (arith, c.loop-node-test.false, c.node_count-nodes.ensures.count) in
    let made : List (List Value) → List Message → Nodes = λ fs ms. record { fields = fs; sent = ms; supersteps = 0; messages = 0 } in
    ap (λ fs. made fs c.empty.result)
    (started-all (program c.args.image.now) c.args.graph.now c.loop-node.node (fields_of c.loop-node.fields) end
    (length-by_node c.loop-node.fields.nodes (columns_of c.loop-node.fields) ∙ c.loop-node.invariant.nodes) c.loop-node.invariant.started)
    ∙ ap (made (first_fields (program c.args.image.now) c.args.graph.now)) c.empty.ensures
