-- The text of the procedure that `demo` runs.
use Rattle.std.specs.Prelude.{ℕ, List, ◌++◌, codes}

-- the procedure `sssp`, the shortest paths from a node along the edges with their lengths; it is not an abbreviation,
-- since its bytes would stand in each goal that speaks of it
unfoldable pub sssp_text : List ℕ
sssp_text =
    codes "Procedure sssp(G: Graph, root: Node, len: E_P<Int>; dist: N_P<Int>) {\n"
    ++ codes "  N_P<Int> next;\n"
    ++ codes "  N_P<Bool> on;\n"
    ++ codes "  Bool fin = False;\n"
    ++ codes "  G.dist = (G == root) ? 0 : INF;\n"
    ++ codes "  G.next = G.dist;\n"
    ++ codes "  G.on = (G == root);\n"
    ++ codes "  While (!fin) {\n"
    ++ codes "    Foreach (n: G.Nodes) (n.on) {\n"
    ++ codes "      Foreach (s: n.Nbrs) {\n"
    ++ codes "        Edge e = s.ToEdge();\n"
    ++ codes "        s.next min= n.dist + e.len;\n"
    ++ codes "      }\n"
    ++ codes "    }\n"
    ++ codes "    G.on = G.next < G.dist;\n"
    ++ codes "    G.dist = G.next;\n"
    ++ codes "    fin = !Exist(n: G.Nodes) {n.on};\n"
    ++ codes "  }\n"
    ++ codes "}\n"
