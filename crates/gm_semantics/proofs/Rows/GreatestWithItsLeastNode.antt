-- The outcome of
--   Procedure best(G: Graph, v: N_P<Int>; m: N_P<Int>, w: N_P<Node>) {
--     Foreach (n: G.Nodes) {
--       Foreach (t: n.Nbrs) { <t.m; t.w> max= <n.v; n>; }
--     }
--   }
use Rattle.std.specs.Prelude.{◌≡◌, true, [], ◌∷◌, pos, Some, None, refl, codes}
use Rattle.gm_value.specs.declared.values.VType.TheVariants as V
use Rattle.gm_value.specs.declared.values.Value.TheVariants.{I32, Flag, At}
use Rattle.gm_value.specs.declared.reductions.Reduce.TheVariants as Reduce
use Rattle.gm_model.specs.Graphs.{NumberedGraph}
use Rattle.gm_model.specs.declared.outcomes.Outcome.TheVariants.{Done}
use Rattle.gm_ast.specs.declared.tree.Sort.TheVariants as Sort
use Rattle.gm_ast.specs.declared.tree.Stage.TheVariants.{Operator, Total}
use Rattle.gm_ast.specs.declared.tree.Domain.TheVariants as Domain
use Rattle.gm_ast.specs.declared.tree.Target.TheVariants as Target
use Rattle.gm_ast.specs.Program.{Const, Var, Property, Combine, Foreach, Program, sequence}
use Rattle.gm_semantics.specs.Outcomes.{mean}
use Rattle.gm_semantics.proofs.Rows.Notation.{place, key, total, declared, head, edge, graph}

abbrev pub greatest_with_its_least_node_program : Program
greatest_with_its_least_node_program = record {
  name = codes "best";
  declarations =
      declared (codes "G") Sort.Graph V.Node 0 ∷
      declared (codes "v") Sort.NodeProperty V.I32 0 ∷
      declared (codes "m") Sort.NodeProperty V.I32 0 ∷
      declared (codes "w") Sort.NodeProperty V.Node 0 ∷
      declared (codes "n") Sort.Iterator V.Node 1 ∷
      declared (codes "t") Sort.Iterator V.Node 2 ∷ [];
  inputs = 2;
  outputs = 2;
  result = None;
  statements = 6;
  body =
      (sequence ((Foreach (key 1 Operator) (place 2 3) (head 4 Domain.Nodes 0 (place 2 15)) (Const (Flag true)) (sequence ((Foreach (key 3 Operator) (place 3 5) (head 5 Domain.OutNbrs 4 (place 3 17)) (Const (Flag true)) (sequence ((Combine (key 5 Operator) (total (key 5 Total) (place 3 38) (place 3 38)) Reduce.Max ((Target.Property 5 2 (place 3 28)) ∷ (Target.Property 5 3 (place 3 33)) ∷ []) ((Property 4 1 (place 3 44)) ∷ (Var 4 (place 3 49)) ∷ [])) ∷ []))) ∷ []))) ∷ []));
}

abbrev pub greatest_with_its_least_node_graph : NumberedGraph
greatest_with_its_least_node_graph = graph (0 ∷ 1 ∷ 2 ∷ 3 ∷ []) ((edge 1 3) ∷ (edge 0 3) ∷ (edge 2 3) ∷ (edge 3 0) ∷ []) (((I32 (pos 4)) ∷ (I32 (pos 4)) ∷ (I32 (pos 2)) ∷ (I32 (pos 0)) ∷ []) ∷ []) []

pub greatest_with_its_least_node : mean greatest_with_its_least_node_program greatest_with_its_least_node_graph [] 1000000 ≡ Done [] None (((I32 (pos 0)) ∷ (I32 (pos 0)) ∷ (I32 (pos 0)) ∷ (I32 (pos 4)) ∷ []) ∷ ((At None) ∷ (At None) ∷ (At None) ∷ (At (Some 0)) ∷ []) ∷ []) 0
greatest_with_its_least_node = refl
