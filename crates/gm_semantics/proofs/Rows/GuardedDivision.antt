-- The outcome of
--   Procedure quot(G: Graph, v: N_P<Int>; q: N_P<Int>) {
--     Foreach (n: G.Nodes) (n.v > 0) {
--       Foreach (t: n.Nbrs) { n.q += 12 / t.v; }
--     }
--   }
use Rattle.std.specs.Prelude.{◌≡◌, true, [], ◌∷◌, pos, None, refl, codes}
use Rattle.gm_value.specs.declared.values.VType.TheVariants as V
use Rattle.gm_value.specs.declared.values.Value.TheVariants.{I32, Flag}
use Rattle.gm_value.specs.declared.operations.Op2.TheVariants as Op2
use Rattle.gm_value.specs.declared.reductions.Reduce.TheVariants as Reduce
use Rattle.gm_model.specs.Graphs.{NumberedGraph}
use Rattle.gm_model.specs.declared.outcomes.Outcome.TheVariants.{Done}
use Rattle.gm_ast.specs.declared.tree.Sort.TheVariants as Sort
use Rattle.gm_ast.specs.declared.tree.Stage.TheVariants.{Operator, Total}
use Rattle.gm_ast.specs.declared.tree.Domain.TheVariants as Domain
use Rattle.gm_ast.specs.declared.tree.Target.TheVariants as Target
use Rattle.gm_ast.specs.Program.{Const, Property, Binary, Combine, Foreach, Program, sequence}
use Rattle.gm_semantics.specs.Outcomes.{mean}
use Rattle.gm_semantics.proofs.Rows.Notation.{place, key, total, declared, head, edge, graph}

abbrev pub guarded_division_program : Program
guarded_division_program = record {
  name = codes "quot";
  declarations =
      declared (codes "G") Sort.Graph V.Node 0 ∷
      declared (codes "v") Sort.NodeProperty V.I32 0 ∷
      declared (codes "q") Sort.NodeProperty V.I32 0 ∷
      declared (codes "n") Sort.Iterator V.Node 1 ∷
      declared (codes "t") Sort.Iterator V.Node 2 ∷ [];
  inputs = 2;
  outputs = 1;
  result = None;
  statements = 6;
  body =
      (sequence (
      (Foreach (key 1 Operator) (place 2 3) (head 3 Domain.Nodes 0 (place 2 15)) (Binary Op2.Gt (place 2 29) (Property 3 1 (place 2 25)) (Const (I32 (pos 0)))) (sequence (
      (Foreach (key 3 Operator) (place 3 5) (head 4 Domain.OutNbrs 3 (place 3 17)) (Const (Flag true)) (sequence (
      (Combine (key 5 Operator) (total (key 5 Total) (place 3 31) (place 3 31)) Reduce.Sum ((Target.Property 3 2 (place 3 27)) ∷ []) ((Binary Op2.Div (place 3 37) (Const (I32 (pos 12))) (Property 4 1 (place 3 39))) ∷ [])) ∷ []))) ∷ []))) ∷ []));
}

abbrev pub guarded_division_graph : NumberedGraph
guarded_division_graph = graph (0 ∷ 1 ∷ 2 ∷ 3 ∷ []) ((edge 0 1) ∷ (edge 2 3) ∷ []) (((I32 (pos 0)) ∷ (I32 (pos 0)) ∷ (I32 (pos 1)) ∷ (I32 (pos 4)) ∷ []) ∷ []) []

pub guarded_division : mean guarded_division_program guarded_division_graph [] 1000000 ≡ Done [] None (((I32 (pos 0)) ∷ (I32 (pos 0)) ∷ (I32 (pos 3)) ∷ (I32 (pos 0)) ∷ []) ∷ []) 0
guarded_division = refl
