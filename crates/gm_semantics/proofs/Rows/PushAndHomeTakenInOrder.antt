-- The outcome of
--   Procedure both(G: Graph, v: N_P<Int>; b: N_P<Int>) {
--     G.b = 1;
--     Foreach (n: G.Nodes) {
--       Foreach (t: n.Nbrs) { t.b += 0 - n.v; n.b += n.v; }
--     }
--   }
use Rattle.std.specs.Prelude.{◌≡◌, true, [], ◌∷◌, pos, None, refl, codes}
use Rattle.gm_value.specs.declared.values.VType.TheVariants as V
use Rattle.gm_value.specs.declared.values.Value.TheVariants.{I32, Flag}
use Rattle.gm_value.specs.declared.operations.Op2.TheVariants as Op2
use Rattle.gm_value.specs.declared.reductions.Reduce.TheVariants as Reduce
use Rattle.gm_model.specs.Graphs.{NumberedGraph}
use Rattle.gm_model.specs.declared.outcomes.Outcome.TheVariants.{Done}
use Rattle.gm_ast.specs.declared.tree.Sort.TheVariants as Sort
use Rattle.gm_ast.specs.declared.tree.Stage.TheVariants.{Operator, Total}
use Rattle.gm_ast.specs.declared.tree.Domain.TheVariants as Domain
use Rattle.gm_ast.specs.declared.tree.Target.TheVariants as Target
use Rattle.gm_ast.specs.Program.{Const, Property, Binary, Combine, Group, Foreach, Program, sequence}
use Rattle.gm_semantics.specs.Outcomes.{mean}
use Rattle.gm_semantics.proofs.Rows.Notation.{place, key, total, declared, head, edge, graph}

abbrev pub push_and_home_taken_in_order_program : Program
push_and_home_taken_in_order_program = record {
  name = codes "both";
  declarations =
      declared (codes "G") Sort.Graph V.Node 0 ∷
      declared (codes "v") Sort.NodeProperty V.I32 0 ∷
      declared (codes "b") Sort.NodeProperty V.I32 0 ∷
      declared (codes "n") Sort.Iterator V.Node 1 ∷
      declared (codes "t") Sort.Iterator V.Node 2 ∷ [];
  inputs = 2;
  outputs = 1;
  result = None;
  statements = 8;
  body =
      (sequence (
      (Group (key 1 Operator) (place 2 3) 0 2 (Const (I32 (pos 1)))) ∷
      (Foreach (key 2 Operator) (place 3 3) (head 3 Domain.Nodes 0 (place 3 15)) (Const (Flag true)) (sequence (
      (Foreach (key 4 Operator) (place 4 5) (head 4 Domain.OutNbrs 3 (place 4 17)) (Const (Flag true)) (sequence (
      (Combine (key 6 Operator) (total (key 6 Total) (place 4 31) (place 4 31)) Reduce.Sum ((Target.Property 4 2 (place 4 27)) ∷ []) ((Binary Op2.Sub (place 4 36) (Const (I32 (pos 0))) (Property 3 1 (place 4 38))) ∷ [])) ∷
      (Combine (key 7 Operator) (total (key 7 Total) (place 4 47) (place 4 47)) Reduce.Sum ((Target.Property 3 2 (place 4 43)) ∷ []) ((Property 3 1 (place 4 50)) ∷ [])) ∷ []))) ∷ []))) ∷ []));
}

abbrev pub push_and_home_taken_in_order_graph : NumberedGraph
push_and_home_taken_in_order_graph = graph (0 ∷ 1 ∷ []) ((edge 0 1) ∷ (edge 1 0) ∷ []) (((I32 (pos 2147483647)) ∷ (I32 (pos 2147483647)) ∷ []) ∷ []) []

pub push_and_home_taken_in_order : mean push_and_home_taken_in_order_program push_and_home_taken_in_order_graph [] 1000000 ≡ Done [] None (((I32 (pos 1)) ∷ (I32 (pos 1)) ∷ []) ∷ []) 0
push_and_home_taken_in_order = refl
