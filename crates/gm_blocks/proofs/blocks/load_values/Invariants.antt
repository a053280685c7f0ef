use Rattle.std.proofs.Common.{◌≡◌, ◌++◌, drop, map}
use Rattle.gm_image.specs.Views.{term}
use Rattle.gm_layouts.specs.Where.{where_of}
use Rattle.gm_lowering.specs.Blocks.{load_term}
use Rattle.gm_message.specs.Views.{as_load}
use Rattle.gm_blocks.proofs.blocks.load_values.Given as goal

-- what is there and what is left make the whole
abbrev pub invariant-loop-load : goal.invariant-loop-load
invariant-loop-load l =
    map term l.values.items ++ map (load_term (where_of l.fn.layout)) (map as_load (drop l.load-index l.loads)) ≡ map (load_term (where_of l.fn.layout)) (map as_load l.loads)
