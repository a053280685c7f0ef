-- The walks for which a program asks rows of its graph.
use Rattle.std.specs.Prelude.{if◌then◌else◌}
use Rattle.gm_graph.specs.declared.builds.Walks.{Walks}
use Rattle.gm_graph.specs.declared.builds.Walks.TheVariants.{Outward, BothWays}
use Rattle.gm_ast.specs.Program.{Program}
use Rattle.gm_loops.specs.Asking.{goes_outward}

-- the walks that a program takes
abbrev pub walks_of : Program → Walks
walks_of p = if goes_outward p.body then Outward else BothWays
