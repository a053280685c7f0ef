-- The steps so far were taken.
use Rattle.std.proofs.Common.{◌≡◌, ◌≤◌, length}
use Rattle.gm_machine.specs.Duties.{places_of}
use Rattle.gm_machine.specs.Fields.{fields_of, IsFull}
use Rattle.gm_machine.specs.NodeSteps.{round_after, RunsTo}
use Rattle.gm_machine.proofs.node_steps.run_round.Given as goal

abbrev pub invariant-loop-place : goal.invariant-loop-place
invariant-loop-place l = record {
  nodes : l.fields.nodes ≡ l.fn.fields.nodes;
  full : IsFull (length l.fn.fields.rows.items) l.fields;
  ahead : l.fn.from ≤ l.place;
  within : l.place ≤ places_of l.round.nodes;
  runs : RunsTo (round_after l.round (fields_of l.fn.fields)) l.fn.from l.place (fields_of l.fn.fields) (fields_of l.fields)
      l.fn.state.messages l.state.messages l.fn.state.puts l.state.puts l.fn.before l.fault;
}
