use Rattle.std.proofs.Common.{◌≡◌, ◌++◌}
use Rattle.gm_bfs.proofs.Tables.{less_than}
use Rattle.gm_bfs.proofs.marked.Marks.in_order.Given as goal

-- what was found and what is left give what there is
abbrev pub invariant-loop-variable : goal.invariant-loop-variable
invariant-loop-variable l = l.marked.items ++ less_than l.self-inside.count l.variable-iterator ≡ less_than l.self-inside.count l.self-inside.variables.keys
