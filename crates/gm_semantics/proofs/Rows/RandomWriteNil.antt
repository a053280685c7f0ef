-- The outcome of
--   Procedure vote(G: Graph, r: Node; c: N_P<Int>) {
--     Foreach (n: G.Nodes) { r.c += 1; }
--   }
use Rattle.std.specs.Prelude.{◌≡◌, true, [], ◌∷◌, pos, None, refl, codes}
use Rattle.gm_value.specs.declared.values.VType.TheVariants as V
use Rattle.gm_value.specs.declared.values.Value.TheVariants.{I32, Flag, At}
use Rattle.gm_value.specs.declared.reductions.Reduce.TheVariants as Reduce
use Rattle.gm_value.specs.declared.faults.FaultKind.TheVariants.{NilNode}
use Rattle.gm_model.specs.Graphs.{NumberedGraph}
use Rattle.gm_model.specs.declared.outcomes.Outcome.TheVariants.{Fault}
use Rattle.gm_ast.specs.declared.tree.Sort.TheVariants as Sort
use Rattle.gm_ast.specs.declared.tree.Stage.TheVariants.{Operator, Total}
use Rattle.gm_ast.specs.declared.tree.Domain.TheVariants as Domain
use Rattle.gm_ast.specs.declared.tree.Target.TheVariants as Target
use Rattle.gm_ast.specs.Program.{Const, Combine, Foreach, Program, sequence}
use Rattle.gm_semantics.specs.Outcomes.{mean}
use Rattle.gm_semantics.proofs.Rows.Notation.{place, key, total, declared, head, edge, graph}

abbrev pub random_write_nil_program : Program
random_write_nil_program = record {
  name = codes "vote";
  declarations =
      declared (codes "G") Sort.Graph V.Node 0 ∷
      declared (codes "r") Sort.Scalar V.Node 0 ∷
      declared (codes "c") Sort.NodeProperty V.I32 0 ∷
      declared (codes "n") Sort.Iterator V.Node 1 ∷ [];
  inputs = 2;
  outputs = 1;
  result = None;
  statements = 4;
  body =
      (sequence (
      (Foreach (key 1 Operator) (place 2 3) (head 3 Domain.Nodes 0 (place 2 15)) (Const (Flag true)) (sequence (
      (Combine (key 3 Operator) (total (key 3 Total) (place 2 30) (place 2 30)) Reduce.Sum ((Target.Property 1 2 (place 2 26)) ∷ []) ((Const (I32 (pos 1))) ∷ [])) ∷ []))) ∷ []));
}

abbrev pub random_write_nil_graph : NumberedGraph
random_write_nil_graph = graph (0 ∷ 1 ∷ 2 ∷ []) ((edge 0 1) ∷ (edge 2 1) ∷ []) [] []

pub random_write_nil : mean random_write_nil_program random_write_nil_graph ((At None) ∷ []) 1000000 ≡ Fault NilNode (place 2 26)
random_write_nil = refl
