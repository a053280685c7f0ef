-- The outcome of
--   Procedure sssp(G: Graph, root: Node, len: E_P<Int>; dist: N_P<Int>) {
--     N_P<Int> next;
--     N_P<Bool> on;
--     Bool fin = False;
--     G.dist = (G == root) ? 0 : INF;
--     G.next = G.dist;
--     G.on = (G == root);
--     While (!fin) {
--       Foreach (n: G.Nodes) (n.on) {
--         Foreach (s: n.Nbrs) {
--           Edge e = s.ToEdge();
--           s.next min= n.dist + e.len;
--         }
--       }
--       G.on = G.next < G.dist;
--       G.dist = G.next;
--       fin = !Exist(n: G.Nodes) {n.on};
--     }
--   }
use Rattle.std.specs.Prelude.{◌≡◌, true, false, [], ◌∷◌, pos, Some, None, refl, codes}
use Rattle.gm_value.specs.declared.values.VType.TheVariants as V
use Rattle.gm_value.specs.declared.values.Value.TheVariants.{I32, Flag, At}
use Rattle.gm_value.specs.declared.operations.Op1.TheVariants as Op1
use Rattle.gm_value.specs.declared.operations.Op2.TheVariants as Op2
use Rattle.gm_value.specs.declared.reductions.Reduce.TheVariants as Reduce
use Rattle.gm_model.specs.Graphs.{NumberedGraph}
use Rattle.gm_model.specs.declared.outcomes.Outcome.TheVariants.{Done}
use Rattle.gm_ast.specs.declared.surface.ReductionWord.TheVariants as Word
use Rattle.gm_ast.specs.declared.tree.Sort.TheVariants as Sort
use Rattle.gm_ast.specs.declared.tree.Stage.TheVariants.{Operator, Total}
use Rattle.gm_ast.specs.declared.tree.Domain.TheVariants as Domain
use Rattle.gm_ast.specs.declared.tree.Target.TheVariants as Target
use Rattle.gm_ast.specs.Program.{Const, Var, Property, EdgeProperty, Unary, Binary, Choose, Folded, Declare, DeclareEdge, Assign, Combine, Group, Foreach, While, Program, sequence}
use Rattle.gm_semantics.specs.Outcomes.{mean}
use Rattle.gm_semantics.proofs.Rows.Notation.{place, key, total, declared, head, fold, edge, graph}

abbrev pub shortest_paths_program : Program
shortest_paths_program = record {
  name = codes "sssp";
  declarations =
      declared (codes "G") Sort.Graph V.Node 0 ∷
      declared (codes "root") Sort.Scalar V.Node 0 ∷
      declared (codes "len") Sort.EdgeProperty V.I32 0 ∷
      declared (codes "dist") Sort.NodeProperty V.I32 0 ∷
      declared (codes "next") Sort.NodeProperty V.I32 0 ∷
      declared (codes "on") Sort.NodeProperty V.Flag 0 ∷
      declared (codes "fin") Sort.Scalar V.Flag 0 ∷
      declared (codes "n") Sort.Iterator V.Node 1 ∷
      declared (codes "s") Sort.Iterator V.Node 2 ∷
      declared (codes "e") Sort.Edge V.Node 2 ∷
      declared (codes "n") Sort.Iterator V.Node 1 ∷ [];
  inputs = 3;
  outputs = 1;
  result = None;
  statements = 20;
  body =
      (sequence (
      (sequence (
      (Declare (key 1 Operator) 4 None) ∷ [])) ∷
      (sequence (
      (Declare (key 2 Operator) 5 None) ∷ [])) ∷
      (Declare (key 3 Operator) 6 (Some (Const (Flag false)))) ∷
      (Group (key 4 Operator) (place 5 3) 0 3 (Choose (Binary Op2.Eq (place 5 15) (Var 0 (place 5 13)) (Var 1 (place 5 18))) (Const (I32 (pos 0))) (Const (I32 (pos 2147483647))))) ∷
      (Group (key 5 Operator) (place 6 3) 0 4 (Property 0 3 (place 6 12))) ∷
      (Group (key 6 Operator) (place 7 3) 0 5 (Binary Op2.Eq (place 7 13) (Var 0 (place 7 11)) (Var 1 (place 7 16)))) ∷
      (While (key 7 Operator) (place 8 3) (Unary Op1.Not (place 8 10) (Var 6 (place 8 11))) (sequence (
      (Foreach (key 9 Operator) (place 9 5) (head 7 Domain.Nodes 0 (place 9 17)) (Property 7 5 (place 9 27)) (sequence (
      (Foreach (key 11 Operator) (place 10 7) (head 8 Domain.OutNbrs 7 (place 10 19)) (Const (Flag true)) (sequence (
      (DeclareEdge 9 8 (place 11 18)) ∷
      (Combine (key 14 Operator) (total (key 14 Total) (place 12 16) (place 12 16)) Reduce.Min ((Target.Property 8 4 (place 12 9)) ∷ []) ((Binary Op2.Add (place 12 28) (Property 7 3 (place 12 21)) (EdgeProperty 9 2 (place 12 30))) ∷ [])) ∷ []))) ∷ []))) ∷
      (Group (key 15 Operator) (place 15 5) 0 5 (Binary Op2.Lt (place 15 19) (Property 0 4 (place 15 12)) (Property 0 3 (place 15 21)))) ∷
      (Group (key 16 Operator) (place 16 5) 0 3 (Property 0 4 (place 16 14))) ∷
      (Assign (key 17 Operator) (Target.Scalar 6 (place 17 5)) (Unary Op1.Not (place 17 11) (Folded (fold Word.Exist V.Flag (key 18 Operator) (key 19 Operator) (total (key 19 Total) (place 17 35) (place 17 12))) (head 10 Domain.Nodes 0 (place 17 21)) (Const (Flag true)) (Property 10 5 (place 17 31))))) ∷ []))) ∷ []));
}

abbrev pub shortest_paths_graph : NumberedGraph
shortest_paths_graph = graph (0 ∷ 1 ∷ 2 ∷ []) ((edge 0 1) ∷ (edge 0 2) ∷ (edge 2 1) ∷ []) [] (((I32 (pos 4)) ∷ (I32 (pos 1)) ∷ (I32 (pos 2)) ∷ []) ∷ [])

pub shortest_paths : mean shortest_paths_program shortest_paths_graph ((At (Some 0)) ∷ []) 1000000 ≡ Done [] None (((I32 (pos 0)) ∷ (I32 (pos 3)) ∷ (I32 (pos 1)) ∷ []) ∷ []) 3
shortest_paths = refl
