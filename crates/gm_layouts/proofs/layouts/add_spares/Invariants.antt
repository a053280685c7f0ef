use Rattle.std.proofs.Common.{◌≡◌, ◌++◌}
use Rattle.gm_lowering.specs.Layouts.{spare_types}
use Rattle.gm_layouts.proofs.layouts.add_spares.Given as goal

-- what is there and what is left make the whole
abbrev pub invariant-loop-left : goal.invariant-loop-left
invariant-loop-left l = l.types.items ++ spare_types l.left ≡ l.initial.types.items ++ spare_types l.fn.count

abbrev pub decreases-loop-left : goal.decreases-loop-left
decreases-loop-left l = l.left
