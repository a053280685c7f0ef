-- The questions that are asked of what values read.
use Rattle.std.specs.Prelude.{ℕ, Bool, ◌||◌, is_some}
use Rattle.gm_base.specs.declared.places.Place.{Place}
use Rattle.gm_ast.specs.Ways.{Mention, variable_of, reads_through, is_edge_read, edge_reads}
use Rattle.gm_ast.specs.Loops.{any}
use Rattle.gm_push_pull.specs.declared.reads.Reads.{Reads}
use Rattle.gm_push_pull.specs.Places.{is_by, there_by}

-- whether something is read through the iterator, whether an edge is read, and whether one is read at a place or before
pub data Test : Type 0 where
  Neighbour : Test
  AnyEdge : Test
  EdgeBy : (place : Place) → Test

-- the answer for what is read
abbrev pub holds : Reads → Test → Bool
holds r Neighbour = r.neighbour
holds r AnyEdge = is_some r.edge
holds r (EdgeBy q) = there_by q r.edge

-- the answer for a mention by itself, in a loop with this iterator
abbrev pub passes_alone : ℕ → Test → Mention → Bool
passes_alone i Neighbour m = reads_through i m
passes_alone i AnyEdge m = is_edge_read m
passes_alone i (EdgeBy q) m = any (is_by q) (edge_reads m)

-- the answer for a mention, where that is known for variables
abbrev pub passes : ℕ → Test → (ℕ → Bool) → Mention → Bool
passes i t of_variable m = passes_alone i t m || of_variable (variable_of m)
