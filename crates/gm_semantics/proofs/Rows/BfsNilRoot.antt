-- The outcome of
--   Procedure reach(G: Graph, s: Node; seen: N_P<Bool>) {
--     InBFS (v: G.Nodes From s) {
--       v.seen = True;
--     }
--   }
use Rattle.std.specs.Prelude.{◌≡◌, true, [], ◌∷◌, None, refl, codes}
use Rattle.gm_value.specs.declared.values.VType.TheVariants as V
use Rattle.gm_value.specs.declared.values.Value.TheVariants.{Flag, At}
use Rattle.gm_value.specs.declared.faults.FaultKind.TheVariants.{NilNode}
use Rattle.gm_model.specs.Graphs.{NumberedGraph}
use Rattle.gm_model.specs.declared.outcomes.Outcome.TheVariants.{Fault}
use Rattle.gm_ast.specs.declared.tree.Sort.TheVariants as Sort
use Rattle.gm_ast.specs.declared.tree.Stage.TheVariants.{Operator}
use Rattle.gm_ast.specs.declared.tree.Target.TheVariants as Target
use Rattle.gm_ast.specs.Program.{Const, Assign, InBfs, Program, sequence}
use Rattle.gm_semantics.specs.Outcomes.{mean}
use Rattle.gm_semantics.proofs.Rows.Notation.{place, key, declared, search, edge, graph}

abbrev pub bfs_nil_root_program : Program
bfs_nil_root_program = record {
  name = codes "reach";
  declarations =
      declared (codes "G") Sort.Graph V.Node 0 ∷
      declared (codes "s") Sort.Scalar V.Node 0 ∷
      declared (codes "seen") Sort.NodeProperty V.Flag 0 ∷
      declared (codes "v") Sort.Iterator V.Node 1 ∷ [];
  inputs = 2;
  outputs = 1;
  result = None;
  statements = 4;
  body =
      (sequence (
      (InBfs (key 1 Operator) (place 2 3) (search 3 0 1 (place 2 26)) (Const (Flag true)) (sequence (
      (Assign (key 3 Operator) (Target.Property 3 2 (place 3 5)) (Const (Flag true))) ∷ []))) ∷ []));
}

abbrev pub bfs_nil_root_graph : NumberedGraph
bfs_nil_root_graph = graph (0 ∷ 1 ∷ 2 ∷ 3 ∷ []) ((edge 0 1) ∷ (edge 2 3) ∷ []) [] []

pub bfs_nil_root : mean bfs_nil_root_program bfs_nil_root_graph ((At None) ∷ []) 1000000 ≡ Fault NilNode (place 2 26)
bfs_nil_root = refl
