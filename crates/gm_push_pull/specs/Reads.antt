-- What values read of the nodes and edges around a loop.
use Rattle.std.specs.Prelude.{ℕ, ◌+◌, false, ◌||◌, if◌then◌else◌, Option, Some, None}
use Rattle.gm_base.specs.declared.places.Place.{Place}
use Rattle.gm_ast.specs.Ways.{Mention, Alone, Through, OfEdge, reads_through}
use Rattle.gm_push_pull.specs.declared.reads.Reads.{Reads}
use Rattle.gm_push_pull.specs.Places.{earlier, place_rank}

-- what is read by some values or by others
abbrev pub joined : Reads → Reads → Reads
joined a b = record { neighbour = a.neighbour || b.neighbour; edge = earlier a.edge b.edge }

-- what a constant reads
abbrev pub nothing : Reads
nothing = record { neighbour = false; edge = None }

-- the place of an edge's read
abbrev pub edge_of : Mention → Option Place
edge_of (Alone x) = None
edge_of (Through x) = None
edge_of (OfEdge x at) = Some at

-- what a mention reads by itself, in a loop with this iterator
abbrev pub own_reads : ℕ → Mention → Reads
own_reads t m = record { neighbour = reads_through t m; edge = edge_of m }

-- a number that is smaller the more is read
abbrev pub reads_rank : Reads → ℕ
reads_rank r = (if r.neighbour then 0 else 1) + place_rank r.edge
