-- What is asked of the edges that lead to nodes, and the rows that serve it.
use Rattle.std.specs.Prelude.{Bool, ◌||◌, ◌≡◌, IsTrue, IfSome, Option, is_some}
use Rattle.gm_model.specs.Graphs.{NumberedGraph}

-- rows, where there are any, are those of a graph
abbrev pub AreRowsOf : NumberedGraph → Option NumberedGraph → Type 0
AreRowsOf g rows = IfSome rows (λ r. r ≡ g)

-- there are rows, or nothing is asked of them
abbrev pub Serve : Option NumberedGraph → Bool → Type 0
Serve rows outward = IsTrue (is_some rows || outward)
