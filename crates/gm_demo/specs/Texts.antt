-- The text of the graph of `demo n`.
use Rattle.std.specs.Prelude.{ℕ, zero, suc, ◌*◌, List, [], ◌∷◌, ◌++◌, codes, decimal}
use Rattle.gm_demo.specs.declared.edges.Edge.{Edge}
use Rattle.gm_demo.specs.Edges.{demo_edge}

-- the end of each line
abbrev pub line_end : List ℕ
line_end = 10 ∷ []

-- the line of a node
abbrev pub node_line : ℕ → List ℕ
node_line k = codes "v " ++ decimal k ++ line_end

-- the line of an edge: its origin, its target and its length
abbrev pub edge_line : Edge → List ℕ
edge_line e = decimal e.origin ++ codes " " ++ decimal e.target ++ codes " " ++ decimal e.length ++ line_end

-- the lines of the nodes from 0 on, as many as a number
abbrev pub node_lines : ℕ → List ℕ
node_lines zero = []
node_lines (suc k) = node_lines k ++ node_line k

-- the lines of the first edges of `demo n`, as many as a number
abbrev pub edge_lines : ℕ → ℕ → List ℕ
edge_lines n zero = []
edge_lines n (suc k) = edge_lines n k ++ edge_line (demo_edge n k)

-- the text: the lines of the n nodes, and then those of the 4 n edges; it is not an abbreviation, since it would be
-- written out in each goal where n is given
unfoldable pub demo_text : ℕ → List ℕ
demo_text n = node_lines n ++ edge_lines n (4 * n)
