-- The walks for which an image asks rows of its graph.
use Rattle.std.specs.Prelude.{if◌then◌else◌}
use Rattle.gm_graph.specs.declared.builds.Walks.{Walks}
use Rattle.gm_graph.specs.declared.builds.Walks.TheVariants.{Outward, BothWays}
use Rattle.gm_image.specs.Program.{Program}
use Rattle.gm_machine.specs.Asking.{goes_outward}

-- the walks that an image takes
abbrev pub walks_of : Program → Walks
walks_of p = if goes_outward p then Outward else BothWays
