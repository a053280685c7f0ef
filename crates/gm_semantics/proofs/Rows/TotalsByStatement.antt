-- The outcome of
--   Procedure acc(G: Graph, v: N_P<Int>; b: N_P<Int>) {
--     Foreach (n: G.Nodes) {
--       Foreach (t: n.Nbrs) { t.b += n.v; t.b += 0 - n.v; }
--     }
--   }
use Rattle.std.specs.Prelude.{◌≡◌, true, [], ◌∷◌, pos, None, refl, codes}
use Rattle.gm_value.specs.declared.values.VType.TheVariants as V
use Rattle.gm_value.specs.declared.values.Value.TheVariants.{I32, Flag}
use Rattle.gm_value.specs.declared.operations.Op2.TheVariants as Op2
use Rattle.gm_value.specs.declared.reductions.Reduce.TheVariants as Reduce
use Rattle.gm_value.specs.declared.faults.FaultKind.TheVariants.{Overflow}
use Rattle.gm_model.specs.Graphs.{NumberedGraph}
use Rattle.gm_model.specs.declared.outcomes.Outcome.TheVariants.{Fault}
use Rattle.gm_ast.specs.declared.tree.Sort.TheVariants as Sort
use Rattle.gm_ast.specs.declared.tree.Stage.TheVariants.{Operator, Total}
use Rattle.gm_ast.specs.declared.tree.Domain.TheVariants as Domain
use Rattle.gm_ast.specs.declared.tree.Target.TheVariants as Target
use Rattle.gm_ast.specs.Program.{Const, Property, Binary, Combine, Foreach, Program, sequence}
use Rattle.gm_semantics.specs.Outcomes.{mean}
use Rattle.gm_semantics.proofs.Rows.Notation.{place, key, total, declared, head, edge, graph}

abbrev pub totals_by_statement_program : Program
totals_by_statement_program = record {
  name = codes "acc";
  declarations =
      declared (codes "G") Sort.Graph V.Node 0 ∷
      declared (codes "v") Sort.NodeProperty V.I32 0 ∷
      declared (codes "b") Sort.NodeProperty V.I32 0 ∷
      declared (codes "n") Sort.Iterator V.Node 1 ∷
      declared (codes "t") Sort.Iterator V.Node 2 ∷ [];
  inputs = 2;
  outputs = 1;
  result = None;
  statements = 7;
  body =
      (sequence (
      (Foreach (key 1 Operator) (place 2 3) (head 3 Domain.Nodes 0 (place 2 15)) (Const (Flag true)) (sequence (
      (Foreach (key 3 Operator) (place 3 5) (head 4 Domain.OutNbrs 3 (place 3 17)) (Const (Flag true)) (sequence (
      (Combine (key 5 Operator) (total (key 5 Total) (place 3 31) (place 3 31)) Reduce.Sum ((Target.Property 4 2 (place 3 27)) ∷ []) ((Property 3 1 (place 3 34)) ∷ [])) ∷
      (Combine (key 6 Operator) (total (key 6 Total) (place 3 43) (place 3 43)) Reduce.Sum ((Target.Property 4 2 (place 3 39)) ∷ []) ((Binary Op2.Sub (place 3 48) (Const (I32 (pos 0))) (Property 3 1 (place 3 50))) ∷ [])) ∷ []))) ∷ []))) ∷ []));
}

abbrev pub totals_by_statement_graph : NumberedGraph
totals_by_statement_graph = graph (0 ∷ 1 ∷ 2 ∷ []) ((edge 0 2) ∷ (edge 1 2) ∷ []) (((I32 (pos 2147483647)) ∷ (I32 (pos 1)) ∷ (I32 (pos 0)) ∷ []) ∷ []) []

pub totals_by_statement : mean totals_by_statement_program totals_by_statement_graph [] 1000000 ≡ Fault Overflow (place 3 31)
totals_by_statement = refl
