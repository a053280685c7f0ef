use Rattle.std.proofs.Common.{◌≡◌}
use Rattle.gm_meaning.specs.Ends.{values_below}
use Rattle.gm_meaning.proofs.outcomes.typed_values.Given as goal

-- the values of the nodes below are there
abbrev pub invariant-loop-node : goal.invariant-loop-node
invariant-loop-node l = record {
  vtype : l.column.vtype ≡ l.vtype;
  values : l.column.values ≡ values_below l.store l.x l.node;
}
