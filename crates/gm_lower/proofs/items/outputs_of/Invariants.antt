use Rattle.std.proofs.Common.{◌≡◌, ◌++◌, map}
use Rattle.gm_ast.specs.Tree.{program_of}
use Rattle.gm_image.specs.Views.{output}
use Rattle.gm_lowering.specs.Lowered.{items}
use Rattle.gm_semantics.specs.Levels.{numbers_from}
use Rattle.gm_lower.specs.Items.{held}
use Rattle.gm_lower.proofs.items.outputs_of.Given as goal

-- what is there and what is left make the whole
abbrev pub invariant-loop-left : goal.invariant-loop-left
invariant-loop-left l =
    map output l.outputs.items ++ held (items (program_of l.fn.layout) (numbers_from l.variable l.left))
    ≡ held (items (program_of l.fn.layout) (numbers_from l.fn.first l.fn.count))

abbrev pub decreases-loop-left : goal.decreases-loop-left
decreases-loop-left l = l.left
