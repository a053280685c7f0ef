-- The outcome of
--   Procedure depths(G: Graph, s: Node; depth, last: N_P<Int>) {
--     s.depth = 1;
--     InBFS (v: G.Nodes From s) (v != s) {
--       v.depth = Max(w: v.UpNbrs) {w.depth + 1};
--     } InReverse {
--       v.last = Count(w: v.DownNbrs) (w.last == 0);
--     }
--   }
use Rattle.std.specs.Prelude.{◌≡◌, true, [], ◌∷◌, pos, None, refl, codes}
use Rattle.gm_value.specs.declared.values.VType.TheVariants as V
use Rattle.gm_value.specs.declared.values.Value.TheVariants.{I32, Flag, At}
use Rattle.gm_value.specs.declared.operations.Op2.TheVariants as Op2
use Rattle.gm_value.specs.declared.faults.FaultKind.TheVariants.{NilNode}
use Rattle.gm_model.specs.Graphs.{NumberedGraph}
use Rattle.gm_model.specs.declared.outcomes.Outcome.TheVariants.{Fault}
use Rattle.gm_ast.specs.declared.surface.ReductionWord.TheVariants as Word
use Rattle.gm_ast.specs.declared.tree.Sort.TheVariants as Sort
use Rattle.gm_ast.specs.declared.tree.Stage.TheVariants.{Inner, Operator}
use Rattle.gm_ast.specs.declared.tree.Domain.TheVariants as Domain
use Rattle.gm_ast.specs.declared.tree.Target.TheVariants as Target
use Rattle.gm_ast.specs.Program.{Const, Var, Property, Binary, Folded, Assign, InBfsBoth, Program, sequence}
use Rattle.gm_semantics.specs.Outcomes.{mean}
use Rattle.gm_semantics.proofs.Rows.Notation.{place, key, total, declared, head, fold, search, edge, graph}

abbrev pub bfs_nil_write_program : Program
bfs_nil_write_program = record {
  name = codes "depths";
  declarations =
      declared (codes "G") Sort.Graph V.Node 0 ∷
      declared (codes "s") Sort.Scalar V.Node 0 ∷
      declared (codes "depth") Sort.NodeProperty V.I32 0 ∷
      declared (codes "last") Sort.NodeProperty V.I32 0 ∷
      declared (codes "v") Sort.Iterator V.Node 1 ∷
      declared (codes "w") Sort.Iterator V.Node 2 ∷
      declared (codes "w") Sort.Iterator V.Node 2 ∷ [];
  inputs = 2;
  outputs = 2;
  result = None;
  statements = 8;
  body =
      (sequence (
      (Assign (key 1 Operator) (Target.Property 1 2 (place 2 3)) (Const (I32 (pos 1)))) ∷
      (InBfsBoth (key 2 Operator) (place 3 3) (search 4 0 1 (place 3 26)) (Binary Op2.Ne (place 3 32) (Var 4 (place 3 30)) (Var 1 (place 3 35))) (sequence (
      (Assign (key 4 Operator) (Target.Property 4 2 (place 4 5)) (Folded (fold Word.Max V.I32 (key 4 Inner) (key 4 Inner) (total (key 4 Inner) (place 4 44) (place 4 15))) (head 5 Domain.UpNbrs 4 (place 4 22)) (Const (Flag true)) (Binary Op2.Add (place 4 41) (Property 5 2 (place 4 33)) (Const (I32 (pos 1)))))) ∷ [])) (key 5 Operator) (Const (Flag true)) (sequence (
      (Assign (key 7 Operator) (Target.Property 4 3 (place 6 5)) (Folded (fold Word.Count V.I32 (key 7 Inner) (key 7 Inner) (total (key 7 Inner) (place 6 14) (place 6 14))) (head 6 Domain.DownNbrs 4 (place 6 23)) (Binary Op2.Eq (place 6 43) (Property 6 3 (place 6 36)) (Const (I32 (pos 0)))) (Const (Flag true)))) ∷ []))) ∷ []));
}

abbrev pub bfs_nil_write_graph : NumberedGraph
bfs_nil_write_graph = graph (0 ∷ 1 ∷ 2 ∷ 3 ∷ []) ((edge 0 1) ∷ (edge 0 2) ∷ (edge 1 3) ∷ (edge 2 3) ∷ []) [] []

pub bfs_nil_write : mean bfs_nil_write_program bfs_nil_write_graph ((At None) ∷ []) 1000000 ≡ Fault NilNode (place 2 3)
bfs_nil_write = refl
