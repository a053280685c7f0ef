-- The outcome of
--   Procedure e(G: Graph, v: N_P<Int>, w: E_P<Int>; s: N_P<Int>) {
--     Foreach (n: G.Nodes) {
--       Foreach (t: n.InNbrs) {
--         Edge e1 = t.ToEdge();
--           n.s += t.v * e1.w;
--       }
--     }
--   }
use Rattle.std.specs.Prelude.{◌≡◌, true, [], ◌∷◌, pos, None, refl, codes}
use Rattle.gm_value.specs.declared.values.VType.TheVariants as V
use Rattle.gm_value.specs.declared.values.Value.TheVariants.{I32, Flag}
use Rattle.gm_value.specs.declared.operations.Op2.TheVariants as Op2
use Rattle.gm_value.specs.declared.reductions.Reduce.TheVariants as Reduce
use Rattle.gm_model.specs.Graphs.{NumberedGraph}
use Rattle.gm_model.specs.declared.outcomes.Outcome.TheVariants.{Done}
use Rattle.gm_ast.specs.declared.tree.Sort.TheVariants as Sort
use Rattle.gm_ast.specs.declared.tree.Stage.TheVariants.{Operator, Total}
use Rattle.gm_ast.specs.declared.tree.Domain.TheVariants as Domain
use Rattle.gm_ast.specs.declared.tree.Target.TheVariants as Target
use Rattle.gm_ast.specs.Program.{Const, Property, EdgeProperty, Binary, DeclareEdge, Combine, Foreach, Program, sequence}
use Rattle.gm_semantics.specs.Outcomes.{mean}
use Rattle.gm_semantics.proofs.Rows.Notation.{place, key, total, declared, head, edge, graph}

abbrev pub edge_read_with_the_message_program : Program
edge_read_with_the_message_program = record {
  name = codes "e";
  declarations =
      declared (codes "G") Sort.Graph V.Node 0 ∷
      declared (codes "v") Sort.NodeProperty V.I32 0 ∷
      declared (codes "w") Sort.EdgeProperty V.I32 0 ∷
      declared (codes "s") Sort.NodeProperty V.I32 0 ∷
      declared (codes "n") Sort.Iterator V.Node 1 ∷
      declared (codes "t") Sort.Iterator V.Node 2 ∷
      declared (codes "e1") Sort.Edge V.Node 2 ∷ [];
  inputs = 3;
  outputs = 1;
  result = None;
  statements = 7;
  body =
      (sequence (
      (Foreach (key 1 Operator) (place 2 3) (head 4 Domain.Nodes 0 (place 2 15)) (Const (Flag true)) (sequence (
      (Foreach (key 3 Operator) (place 3 5) (head 5 Domain.InNbrs 4 (place 3 17)) (Const (Flag true)) (sequence (
      (DeclareEdge 6 5 (place 4 17)) ∷
      (Combine (key 6 Operator) (total (key 6 Total) (place 5 13) (place 5 13)) Reduce.Sum ((Target.Property 4 3 (place 5 9)) ∷ []) ((Binary Op2.Mul (place 5 20) (Property 5 1 (place 5 16)) (EdgeProperty 6 2 (place 5 22))) ∷ [])) ∷ []))) ∷ []))) ∷ []));
}

abbrev pub edge_read_with_the_message_graph : NumberedGraph
edge_read_with_the_message_graph = graph (0 ∷ 1 ∷ 2 ∷ []) ((edge 0 1) ∷ (edge 2 1) ∷ []) (((I32 (pos 2)) ∷ (I32 (pos 0)) ∷ (I32 (pos 5)) ∷ []) ∷ []) (((I32 (pos 3)) ∷ (I32 (pos 4)) ∷ []) ∷ [])

pub edge_read_with_the_message : mean edge_read_with_the_message_program edge_read_with_the_message_graph [] 1000000 ≡ Done [] None (((I32 (pos 0)) ∷ (I32 (pos 26)) ∷ (I32 (pos 0)) ∷ []) ∷ []) 0
edge_read_with_the_message = refl
