-- Inputs, outputs and eaches of the code, seen without where they lie in memory.
use Rattle.std.specs.Prelude.{ℕ, Option, Some, None}
use Rattle.gm_image.specs.declared.items.Holder.{Holder}
use Rattle.gm_image.specs.declared.items.Holder.TheVariants as holder
use Rattle.gm_image.specs.declared.items.Item.{Item}
use Rattle.gm_image.specs.declared.lines.Direction.{Direction}
use Rattle.gm_image.specs.declared.lines.Direction.TheVariants as direction
use Rattle.gm_image.specs.Program as P
use Rattle.gm_image.specs.Program.{Line, Each}

-- what holds an input or an output
abbrev pub holder_of : Holder → P.Holder
holder_of holder.Scalar = P.Scalar
holder_of holder.Node = P.Node
holder_of holder.Edge = P.Edge

-- an input or an output
abbrev pub item_of : Item → P.Item
item_of i = record { holder = holder_of i.holder; vtype = i.vtype; name = i.name.now; slot = i.slot }

-- the edges that an each goes over
abbrev pub direction_of : Direction → P.Direction
direction_of direction.Out = P.Out
direction_of direction.In = P.In

-- the edges that an each goes over and how many lines it has, where a line is an each
abbrev pub each_of : Line → Option (P.Direction × ℕ)
each_of (Each d n) = Some (d, n)
each_of l = None
