-- The handlers of one reduction, by how it reduces.
use Rattle.std.specs.Prelude.{ℕ, List, [], ◌∷◌}
use Rattle.gm_ast.specs.declared.tree.Target.{Target}
use Rattle.gm_ast.specs.declared.tree.TotalKey.{TotalKey}
use Rattle.gm_value.specs.declared.reductions.Reduce.{Reduce}
use Rattle.gm_image.specs.Program.{Block, Handler}
use Rattle.gm_lowering.specs.Layouts.{Layout}
use Rattle.gm_lowering.specs.Places.{Segment}
use Rattle.gm_lowering.specs.Plans.{way_of, away_by}
use Rattle.gm_lowering.specs.Blocks.{taking_handlers}

-- the handlers of a reduction at a node, whose message has a kind
abbrev pub taken_by : Layout → Segment → ℕ → ℕ → TotalKey → Reduce → List Target → List Handler
taken_by c g n kind total r ts = taking_handlers c g kind (away_by (way_of c.declarations n ts) total r ts)

-- the block of some handlers, if there are any
abbrev pub block_if : List Handler → List Block
block_if [] = []
block_if (h ∷ hs) = record { handlers = h ∷ hs; body = [] } ∷ []
