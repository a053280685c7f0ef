-- What a group assignment writes, as a checker holds it.
use Rattle.std.specs.Prelude.{ℕ}
use Rattle.gm_value.specs.declared.values.VType.{VType}
use Rattle.gm_types.specs.declared.assignments.GroupGoal.{GroupGoal}

-- the graph, the property, and its type
abbrev pub group_of : GroupGoal → ℕ × (ℕ × VType)
group_of g = (g.graph, (g.property, g.vtype))
