-- The outcome of
--   Procedure both(G: Graph, v, w: N_P<Int>; a: N_P<Int>) {
--     Foreach (n: G.Nodes) {
--       n.a = 6 / n.v + Sum(t: n.Nbrs) {6 / t.w};
--     }
--   }
use Rattle.std.specs.Prelude.{◌≡◌, true, [], ◌∷◌, pos, None, refl, codes}
use Rattle.gm_value.specs.declared.values.VType.TheVariants as V
use Rattle.gm_value.specs.declared.values.Value.TheVariants.{I32, Flag}
use Rattle.gm_value.specs.declared.operations.Op2.TheVariants as Op2
use Rattle.gm_value.specs.declared.faults.FaultKind.TheVariants.{DivideByZero}
use Rattle.gm_model.specs.Graphs.{NumberedGraph}
use Rattle.gm_model.specs.declared.outcomes.Outcome.TheVariants.{Fault}
use Rattle.gm_ast.specs.declared.surface.ReductionWord.TheVariants as Word
use Rattle.gm_ast.specs.declared.tree.Sort.TheVariants as Sort
use Rattle.gm_ast.specs.declared.tree.Stage.TheVariants.{Inner, Operator}
use Rattle.gm_ast.specs.declared.tree.Domain.TheVariants as Domain
use Rattle.gm_ast.specs.declared.tree.Target.TheVariants as Target
use Rattle.gm_ast.specs.Program.{Const, Property, Binary, Folded, Assign, Foreach, Program, sequence}
use Rattle.gm_semantics.specs.Outcomes.{mean}
use Rattle.gm_semantics.proofs.Rows.Notation.{place, key, total, declared, head, fold, edge, graph}

abbrev pub hoisted_sum_faults_first_program : Program
hoisted_sum_faults_first_program = record {
  name = codes "both";
  declarations =
      declared (codes "G") Sort.Graph V.Node 0 ∷
      declared (codes "v") Sort.NodeProperty V.I32 0 ∷
      declared (codes "w") Sort.NodeProperty V.I32 0 ∷
      declared (codes "a") Sort.NodeProperty V.I32 0 ∷
      declared (codes "n") Sort.Iterator V.Node 1 ∷
      declared (codes "t") Sort.Iterator V.Node 2 ∷ [];
  inputs = 3;
  outputs = 1;
  result = None;
  statements = 4;
  body =
      (sequence (
      (Foreach (key 1 Operator) (place 2 3) (head 4 Domain.Nodes 0 (place 2 15)) (Const (Flag true)) (sequence (
      (Assign (key 3 Operator) (Target.Property 4 3 (place 3 5)) (Binary Op2.Add (place 3 19) (Binary Op2.Div (place 3 13) (Const (I32 (pos 6))) (Property 4 1 (place 3 15))) (Folded (fold Word.Sum V.I32 (key 3 Inner) (key 3 Inner) (total (key 3 Inner) (place 3 44) (place 3 21))) (head 5 Domain.OutNbrs 4 (place 3 28)) (Const (Flag true)) (Binary Op2.Div (place 3 39) (Const (I32 (pos 6))) (Property 5 2 (place 3 41)))))) ∷ []))) ∷ []));
}

abbrev pub hoisted_sum_faults_first_graph : NumberedGraph
hoisted_sum_faults_first_graph = graph (0 ∷ 1 ∷ []) ((edge 1 0) ∷ []) (((I32 (pos 0)) ∷ (I32 (pos 1)) ∷ []) ∷ ((I32 (pos 0)) ∷ (I32 (pos 1)) ∷ []) ∷ []) []

pub hoisted_sum_faults_first : mean hoisted_sum_faults_first_program hoisted_sum_faults_first_graph [] 1000000 ≡ Fault DivideByZero (place 3 39)
hoisted_sum_faults_first = refl
