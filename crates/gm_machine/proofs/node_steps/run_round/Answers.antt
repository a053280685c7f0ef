-- One more node has taken its step.
use Rattle.std.proofs.Common.{◌≡◌, ◌<◌, ◌∙◌, ℕ, List, length, refl, arith, subst}
use Rattle.gm_value.specs.declared.values.Value.{Value}
use Rattle.gm_machine.specs.declared.node_steps.Round.{Round}
use Rattle.gm_machine.specs.Fields.{fields_of, columns_of, IsFull}
use Rattle.gm_machine.specs.NodeSteps.{round_after}
use Rattle.gm_machine.proofs.FieldRows.{length-by_node}
use Rattle.gm_machine.proofs.NodeSteps.{runs-none, round-more}
use Rattle.gm_machine.proofs.node_steps.run_round.Goals as goal

pub loop-place-init : goal.loop-place-init
loop-place-init c = record {
  nodes = refl;
  full = c.requires.full;
  ahead = omega arith;
  within = omega (arith, c.requires.from);
  runs = runs-none (round_after c.args.round.now (fields_of c.args.fields.now)) c.args.from (fields_of c.args.fields.now) c.args.state.now.messages c.args.state.now.puts c.args.before;
}

pub loop-place-preserved : goal.loop-place-preserved
loop-place-preserved c =
    let r : Round = c.args.round.now in
    let old : List (List Value) = fields_of c.args.fields.now in
    let now : List (List Value) = fields_of c.loop-place.fields in
    let place : ℕ = c.loop-place.place in
    let wide : length old ≡ c.args.fields.now.nodes = length-by_node c.args.fields.now.nodes (columns_of c.args.fields.now) in
    let within : place < length old = omega (arith, wide, c.requires.fields, c.loop-place-test.true, c.len-place-end.ensures) in
    record {
      nodes = c.in_ok-one.ensures.nodes ∙ c.loop-place.invariant.nodes;
      full = subst (λ n. IsFull n c.step_at.new.fields) c.loop-place.invariant.full.wide c.in_ok-one.ensures.full;
      ahead = omega (arith, c.loop-place.invariant.ahead);
      within = omega (arith, c.loop-place-test.true, c.len-place-end.ensures);
      runs =
          round-more r c.args.from place old now (fields_of c.step_at.new.fields) c.args.state.now.messages c.loop-place.state.messages c.step_at.new.state.messages
          c.args.state.now.puts c.loop-place.state.puts c.step_at.new.state.puts c.args.before c.loop-place.fault c.in_ok-one.one c.lesser-fault.result
          c.loop-place.invariant.ahead within c.in_ok-one.ensures.fields c.in_ok-one.ensures.messages c.in_ok-one.ensures.puts c.in_ok-one.ensures.fault c.lesser-fault.ensures
          c.loop-place.invariant.runs;
    }

pub returns-then-messages-enough-clause-runs : goal.returns-then-messages-enough-clause-runs
returns-then-messages-enough-clause-runs c =
    let r : Round = c.args.round.now in
    let old : List (List Value) = fields_of c.args.fields.now in
    let now : List (List Value) = fields_of c.loop-place.fields in
    let place : ℕ = c.loop-place.place in
    let wide : length old ≡ c.args.fields.now.nodes = length-by_node c.args.fields.now.nodes (columns_of c.args.fields.now) in
    let within : place < length old = omega (arith, wide, c.requires.fields, c.loop-place-test.true, c.len-place-end.ensures) in
    round-more r c.args.from place old now (fields_of c.step_at.new.fields) c.args.state.now.messages c.loop-place.state.messages c.step_at.new.state.messages
    c.args.state.now.puts c.loop-place.state.puts c.step_at.new.state.puts c.args.before c.loop-place.fault c.in_ok-one.one c.lesser-fault.result
    c.loop-place.invariant.ahead within c.in_ok-one.ensures.fields c.in_ok-one.ensures.messages c.in_ok-one.ensures.puts c.in_ok-one.ensures.fault c.lesser-fault.ensures
    c.loop-place.invariant.runs
