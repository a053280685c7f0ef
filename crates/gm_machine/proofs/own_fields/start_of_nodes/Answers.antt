-- One more node has its first fields.
use Rattle.std.proofs.Common.{◌≡◌, ◌∙◌, ℕ, List, map, length, get_or, sym, ap}
use Rattle.std.proofs.lemmas.List.{length-map}
use Rattle.gm_value.specs.declared.values.Value.{Value}
use Rattle.gm_value.specs.Numbers.{zero_of}
use Rattle.gm_image.specs.Program.{Program}
use Rattle.gm_image.specs.Views.{program}
use Rattle.gm_machine.specs.Machine.{properties, row_at, start_fields}
use Rattle.gm_machine.proofs.OwnFieldLemmas.{start-more}
use Rattle.gm_machine.proofs.Starting.{length-with_inputs}
use Rattle.gm_machine.proofs.own_fields.start_of_nodes.Goals as goal

pub store-requires-clause-wide : goal.store-requires-clause-wide
store-requires-clause-wide c =
    let p : Program = program c.args.image.now in
    ap length (c.as_slice-in-loop-place.ensures.value ∙ c.in_ok-first.ensures 0)
    ∙ length-with_inputs (properties p.inputs) (row_at c.args.graph.now.node_columns (get_or c.args.nodes.now c.loop-place.place 0)) (map zero_of p.fields)
    ∙ length-map p.fields zero_of
    ∙ sym c.loop-place.invariant.width

pub loop-place-preserved : goal.loop-place-preserved
loop-place-preserved c =
    let p : Program = program c.args.image.now in
    let first : ℕ → List Value = λ node. start_fields p c.args.graph.now (node, 0) in
    record {
      width = c.in_ok-store.ensures.width ∙ c.loop-place.invariant.width;
      rows =
          start-more first c.args.nodes.now c.loop-place.place (map zero_of p.fields) c.as_slice-in-loop-place.result.now c.loop-place.fields.rows c.store.new.self.rows c.loop-place-test.true
          (c.as_slice-in-loop-place.ensures.value ∙ c.in_ok-first.ensures 0) c.in_ok-store.ensures.rows c.loop-place.invariant.rows;
    }
