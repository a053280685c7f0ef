use Rattle.std.proofs.Common.{◌≡◌, ◌≤◌, ◌++◌, map}
use Rattle.std.specs.Prelude.{◌-◌}
use Rattle.gm_ast.specs.Tree.{program_of}
use Rattle.gm_image.specs.Views.{input}
use Rattle.gm_lowering.specs.Lowered.{items}
use Rattle.gm_semantics.specs.Levels.{numbers_from}
use Rattle.gm_lower.proofs.items.inputs_of.Given as goal

-- what is there and what is left make the whole
abbrev pub invariant-loop-variable : goal.invariant-loop-variable
invariant-loop-variable l =
    (l.variable ≤ l.fn.count)
    × (map input l.inputs.items ++ items (program_of l.fn.layout) (numbers_from l.variable (l.fn.count - l.variable)) ≡ items (program_of l.fn.layout) (numbers_from 0 l.fn.count))

abbrev pub decreases-loop-variable : goal.decreases-loop-variable
decreases-loop-variable l = l.fn.count - l.variable
