-- Short words for the parts of programs and graphs.
use Rattle.std.specs.Prelude.{ℕ, List}
use Rattle.gm_base.specs.declared.places.Place.{Place}
use Rattle.gm_value.specs.declared.values.VType.{VType}
use Rattle.gm_value.specs.declared.values.Value.{Value}
use Rattle.gm_model.specs.Graphs.{NumberedGraph, Edge}
use Rattle.gm_ast.specs.declared.surface.ReductionWord.{ReductionWord}
use Rattle.gm_ast.specs.declared.tree.Declaration.{Declaration}
use Rattle.gm_ast.specs.declared.tree.Domain.{Domain}
use Rattle.gm_ast.specs.declared.tree.Fold.{Fold}
use Rattle.gm_ast.specs.declared.tree.Head.{Head}
use Rattle.gm_ast.specs.declared.tree.Key.{Key}
use Rattle.gm_ast.specs.declared.tree.Search.{Search}
use Rattle.gm_ast.specs.declared.tree.Sort.{Sort}
use Rattle.gm_ast.specs.declared.tree.Stage.{Stage}
use Rattle.gm_ast.specs.declared.tree.TotalKey.{TotalKey}

-- a place by its line and column
abbrev pub place : ℕ → ℕ → Place
place line col = record { line = line; col = col }

-- a statement's number with a stage
abbrev pub key : ℕ → Stage → Key
key n stage = record { statement = n; stage = stage }

-- a total's key, its place, and the place that its fault shows
abbrev pub total : Key → Place → Place → TotalKey
total k at shown = record { key = k; place = at; shown = shown }

-- a row of the table of declarations
abbrev pub declared : List ℕ → Sort → VType → ℕ → Declaration
declared text sort t depth = record { name = text; variable = record { sort = sort; vtype = t; depth = depth } }

-- what a loop runs over
abbrev pub head : ℕ → Domain → ℕ → Place → Head
head iterator domain owner at = record { iterator = iterator; domain = domain; owner = owner; place = at }

-- a reduction's word, type and keys
abbrev pub fold : ReductionWord → VType → Key → Key → TotalKey → Fold
fold word t filter body total = record { word = word; vtype = t; filter = filter; body = body; total = total }

-- a breadth-first search
abbrev pub search : ℕ → ℕ → ℕ → Place → Search
search iterator graph root at = record { iterator = iterator; graph = graph; root = root; place = at }

-- an edge between two nodes by their indices
abbrev pub edge : ℕ → ℕ → Edge
edge from to = record { from = from; to = to }

-- a graph by its node numbers, its edges, and its columns of nodes and of edges
abbrev pub graph : List ℕ → List Edge → List (List Value) → List (List Value) → NumberedGraph
graph numbers edges node_columns edge_columns = record { numbers = numbers; edges = edges; node_columns = node_columns; edge_columns = edge_columns }
