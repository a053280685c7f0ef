use Rattle.std.proofs.Common.{◌≡◌, ◌++◌, drop, map}
use Rattle.gm_image.specs.Views.{target}
use Rattle.gm_layouts.specs.Where.{where_of}
use Rattle.gm_lowering.specs.Blocks.{message_values}
use Rattle.gm_lowering.specs.Bodies.{image_targets}
use Rattle.gm_blocks.proofs.takings.slots.Given as goal

-- what is there and what is left make the whole
abbrev pub invariant-loop-target : goal.invariant-loop-target
invariant-loop-target l =
    map target l.out.items ++ image_targets (where_of l.fn.layout) (drop l.target-index l.targets) (message_values l.index (drop l.target-index l.targets))
    ≡ image_targets (where_of l.fn.layout) l.targets (message_values 0 l.targets)
