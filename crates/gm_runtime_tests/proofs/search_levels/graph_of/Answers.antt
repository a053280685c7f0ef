use Rattle.std.proofs.Common.{arith, ◌≡◌, ◌≤◌, ◌∙◌, ◌++◌, ℕ, [], ◌∷◌, length, length-append, sym, ap}
use Rattle.gm_graph.specs.declared.builds.RawGraph.{RawGraph}
use Rattle.gm_graph.specs.Builds.{IsBuildable, numbers_of, types_of}
use Rattle.gm_graph.proofs.Building.{length-distinct}
use Rattle.gm_runtime_tests.proofs.search_levels.graph_of.Goals as goal

-- a graph without columns, and with a node that has a line of its own
buildable : (raw : RawGraph) (lonely : ℕ) → raw.shape.nodes ≡ [] → raw.shape.edges ≡ [] → raw.edge_columns ≡ [] → raw.node_columns ≡ [] → raw.extra ≡ lonely ∷ [] → length raw.to ≡ length raw.from → length raw.from ≤ 1000000 → IsBuildable raw
buildable raw lonely nodes edges edge_columns node_columns extra both few = record {
  both_ends = both;
  edge_types = ap types_of edge_columns ∙ sym edges;
  edge_rows = λ k d h. absurd (omega (arith, ap length edge_columns));
  node_types = ap types_of node_columns ∙ sym nodes;
  node_rows = λ k d h. absurd (omega (arith, ap length node_columns));
  one_row_a_node = λ i j d before within. absurd (omega (arith, ap length extra));
  few_nodes = omega (arith, length-distinct (numbers_of raw), length-append (raw.from ++ raw.to) raw.extra, length-append raw.from raw.to, ap length extra);
  few_edges = omega arith;
}

pub build-requires : goal.build-requires
build-requires c =
    let both : length c.in_ok-from.to ≡ length c.in_ok-from.from = omega (arith, c.in_ok-from.ensures.from, c.in_ok-from.ensures.to) in
    let few : length c.in_ok-from.from ≤ 1000000 = omega (arith, c.in_ok-from.ensures.from, c.requires) in
    buildable _ c.args.lonely (c.new-2.ensures ∙ c.new.ensures.items) (c.new-4.ensures ∙ c.new-3.ensures.items) (c.new-6.ensures ∙ c.new-5.ensures.items) (c.new-8.ensures ∙ c.new-7.ensures.items) c.in_ok-from_slice.ensures both few
