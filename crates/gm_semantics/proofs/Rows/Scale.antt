-- The outcome of
--   Procedure scale(G: Graph, v: N_P<Int>, k: Int; p: N_P<Int>) {
--     Foreach (n: G.Nodes) { n.p = n.v * 3 - 1; }
--   }
use Rattle.std.specs.Prelude.{◌≡◌, true, [], ◌∷◌, pos, negsuc, None, refl, codes}
use Rattle.gm_value.specs.declared.values.VType.TheVariants as V
use Rattle.gm_value.specs.declared.values.Value.TheVariants.{I32, Flag}
use Rattle.gm_value.specs.declared.operations.Op2.TheVariants as Op2
use Rattle.gm_model.specs.Graphs.{NumberedGraph}
use Rattle.gm_model.specs.declared.outcomes.Outcome.TheVariants.{Done}
use Rattle.gm_ast.specs.declared.tree.Sort.TheVariants as Sort
use Rattle.gm_ast.specs.declared.tree.Stage.TheVariants.{Operator}
use Rattle.gm_ast.specs.declared.tree.Domain.TheVariants as Domain
use Rattle.gm_ast.specs.declared.tree.Target.TheVariants as Target
use Rattle.gm_ast.specs.Program.{Const, Property, Binary, Assign, Foreach, Program, sequence}
use Rattle.gm_semantics.specs.Outcomes.{mean}
use Rattle.gm_semantics.proofs.Rows.Notation.{place, key, declared, head, edge, graph}

abbrev pub scale_program : Program
scale_program = record {
  name = codes "scale";
  declarations =
      declared (codes "G") Sort.Graph V.Node 0 ∷
      declared (codes "v") Sort.NodeProperty V.I32 0 ∷
      declared (codes "k") Sort.Scalar V.I32 0 ∷
      declared (codes "p") Sort.NodeProperty V.I32 0 ∷
      declared (codes "n") Sort.Iterator V.Node 1 ∷ [];
  inputs = 3;
  outputs = 1;
  result = None;
  statements = 4;
  body =
      (sequence (
      (Foreach (key 1 Operator) (place 2 3) (head 4 Domain.Nodes 0 (place 2 15)) (Const (Flag true)) (sequence (
      (Assign (key 3 Operator) (Target.Property 4 3 (place 2 26)) (Binary Op2.Sub (place 2 40) (Binary Op2.Mul (place 2 36) (Property 4 1 (place 2 32)) (Const (I32 (pos 3)))) (Const (I32 (pos 1))))) ∷ []))) ∷ []));
}

abbrev pub scale_graph : NumberedGraph
scale_graph = graph (3 ∷ 5 ∷ []) ((edge 1 0) ∷ []) (((I32 (pos 4)) ∷ (I32 (pos 0)) ∷ []) ∷ []) []

pub scale : mean scale_program scale_graph ((I32 (pos 9)) ∷ []) 1000000 ≡ Done [] None (((I32 (pos 11)) ∷ (I32 (negsuc 0)) ∷ []) ∷ []) 0
scale = refl
