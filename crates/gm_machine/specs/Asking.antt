-- What an image asks of the edges that lead to vertices: an in-degree counts them, and `each in` goes along them against their
-- direction. Who runs an image that asks has the rows of these edges.
use Rattle.std.specs.Prelude.{Bool, true, false, ◌&&◌, Option}
use Rattle.std.specs.List.{list_all}
use Rattle.gm_model.specs.Graphs.{NumberedGraph}
use Rattle.gm_graph.specs.Serving.{AreRowsOf, Serve}
use Rattle.gm_image.specs.Program as P
use Rattle.gm_image.specs.Program.{Program, Direction, Line, Handler, Block, Command}
use Rattle.gm_image.specs.Term as T
use Rattle.gm_image.specs.Term.{Term}
use Rattle.gm_image.specs.Parts.{all_leaves, command_terms, line_terms}

-- what stands alone in a term does not count the edges that lead to a vertex
abbrev pub counts_outward : Term → Bool
counts_outward T.InDegree = false
counts_outward t = true

-- nor does a term
abbrev pub reads_outward : Term → Bool
reads_outward t = all_leaves counts_outward t

-- an each does not go over the edges that lead to a vertex
abbrev pub runs_outward : Direction → Bool
runs_outward P.In = false
runs_outward P.Out = true

-- a line asks nothing of the edges that lead to a vertex
abbrev pub line_outward : Line → Bool
line_outward (P.Each d n) = runs_outward d
line_outward l = list_all reads_outward (line_terms l)

-- nor does a handler, nor a block, nor a line of the master list
abbrev pub handler_outward : Handler → Bool
handler_outward h = list_all line_outward h.lines

abbrev pub block_outward : Block → Bool
block_outward b = list_all handler_outward b.handlers && list_all line_outward b.body

abbrev pub command_outward : Command → Bool
command_outward c = list_all reads_outward (command_terms c)

-- nor does an image
abbrev pub goes_outward : Program → Bool
goes_outward p = list_all block_outward p.blocks && list_all command_outward p.master

-- a graph has the rows for which an image asks
pub record IsServed (p : Program) (g : NumberedGraph) (rows : Option NumberedGraph) : Type 0 where
  pub same : AreRowsOf g rows
  pub asked : Serve rows (goes_outward p)
