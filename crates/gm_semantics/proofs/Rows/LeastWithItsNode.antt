-- The outcome of
--   Procedure best(G: Graph, v: N_P<Int>; m: N_P<Int>, w: N_P<Node>) {
--     Foreach (n: G.Nodes) { n.m = INF; }
--     Foreach (n: G.Nodes) {
--       Foreach (t: n.Nbrs) { <t.m; t.w> min= <n.v; n>; }
--     }
--   }
use Rattle.std.specs.Prelude.{◌≡◌, true, [], ◌∷◌, pos, Some, None, refl, codes}
use Rattle.gm_value.specs.declared.values.VType.TheVariants as V
use Rattle.gm_value.specs.declared.values.Value.TheVariants.{I32, Flag, At}
use Rattle.gm_value.specs.declared.reductions.Reduce.TheVariants as Reduce
use Rattle.gm_model.specs.Graphs.{NumberedGraph}
use Rattle.gm_model.specs.declared.outcomes.Outcome.TheVariants.{Done}
use Rattle.gm_ast.specs.declared.tree.Sort.TheVariants as Sort
use Rattle.gm_ast.specs.declared.tree.Stage.TheVariants.{Operator, Total}
use Rattle.gm_ast.specs.declared.tree.Domain.TheVariants as Domain
use Rattle.gm_ast.specs.declared.tree.Target.TheVariants as Target
use Rattle.gm_ast.specs.Program.{Const, Var, Property, Assign, Combine, Foreach, Program, sequence}
use Rattle.gm_semantics.specs.Outcomes.{mean}
use Rattle.gm_semantics.proofs.Rows.Notation.{place, key, total, declared, head, edge, graph}

abbrev pub least_with_its_node_program : Program
least_with_its_node_program = record {
  name = codes "best";
  declarations =
      declared (codes "G") Sort.Graph V.Node 0 ∷
      declared (codes "v") Sort.NodeProperty V.I32 0 ∷
      declared (codes "m") Sort.NodeProperty V.I32 0 ∷
      declared (codes "w") Sort.NodeProperty V.Node 0 ∷
      declared (codes "n") Sort.Iterator V.Node 1 ∷
      declared (codes "n") Sort.Iterator V.Node 1 ∷
      declared (codes "t") Sort.Iterator V.Node 2 ∷ [];
  inputs = 2;
  outputs = 2;
  result = None;
  statements = 9;
  body =
      (sequence ((Foreach (key 1 Operator) (place 2 3) (head 4 Domain.Nodes 0 (place 2 15)) (Const (Flag true)) (sequence ((Assign (key 3 Operator) (Target.Property 4 2 (place 2 26)) (Const (I32 (pos 2147483647)))) ∷ []))) ∷
      (Foreach (key 4 Operator) (place 3 3) (head 5 Domain.Nodes 0 (place 3 15)) (Const (Flag true)) (sequence ((Foreach (key 6 Operator) (place 4 5) (head 6 Domain.OutNbrs 5 (place 4 17)) (Const (Flag true)) (sequence ((Combine (key 8 Operator) (total (key 8 Total) (place 4 38) (place 4 38)) Reduce.Min ((Target.Property 6 2 (place 4 28)) ∷ (Target.Property 6 3 (place 4 33)) ∷ []) ((Property 5 1 (place 4 44)) ∷ (Var 5 (place 4 49)) ∷ [])) ∷ []))) ∷ []))) ∷ []));
}

abbrev pub least_with_its_node_graph : NumberedGraph
least_with_its_node_graph = graph (0 ∷ 1 ∷ 2 ∷ 3 ∷ []) ((edge 0 3) ∷ (edge 1 3) ∷ (edge 2 3) ∷ []) (((I32 (pos 4)) ∷ (I32 (pos 2)) ∷ (I32 (pos 2)) ∷ (I32 (pos 0)) ∷ []) ∷ []) []

pub least_with_its_node : mean least_with_its_node_program least_with_its_node_graph [] 1000000 ≡ Done [] None (((I32 (pos 2147483647)) ∷ (I32 (pos 2147483647)) ∷ (I32 (pos 2147483647)) ∷ (I32 (pos 2)) ∷ []) ∷ ((At None) ∷ (At None) ∷ (At None) ∷ (At (Some 1)) ∷ []) ∷ []) 0
least_with_its_node = refl
