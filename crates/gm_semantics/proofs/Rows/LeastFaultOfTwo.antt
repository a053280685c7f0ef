-- The outcome of
--   Procedure two(G: Graph, v: N_P<Int>; a, b: N_P<Int>) {
--     Foreach (n: G.Nodes) {
--       n.a = 6 / (n.v - 1);
--       n.b = 6 / (n.v - 2);
--     }
--   }
use Rattle.std.specs.Prelude.{◌≡◌, true, [], ◌∷◌, pos, None, refl, codes}
use Rattle.gm_value.specs.declared.values.VType.TheVariants as V
use Rattle.gm_value.specs.declared.values.Value.TheVariants.{I32, Flag}
use Rattle.gm_value.specs.declared.operations.Op2.TheVariants as Op2
use Rattle.gm_value.specs.declared.faults.FaultKind.TheVariants.{DivideByZero}
use Rattle.gm_model.specs.Graphs.{NumberedGraph}
use Rattle.gm_model.specs.declared.outcomes.Outcome.TheVariants.{Fault}
use Rattle.gm_ast.specs.declared.tree.Sort.TheVariants as Sort
use Rattle.gm_ast.specs.declared.tree.Stage.TheVariants.{Operator}
use Rattle.gm_ast.specs.declared.tree.Domain.TheVariants as Domain
use Rattle.gm_ast.specs.declared.tree.Target.TheVariants as Target
use Rattle.gm_ast.specs.Program.{Const, Property, Binary, Assign, Foreach, Program, sequence}
use Rattle.gm_semantics.specs.Outcomes.{mean}
use Rattle.gm_semantics.proofs.Rows.Notation.{place, key, declared, head, graph}

abbrev pub least_fault_of_two_program : Program
least_fault_of_two_program = record {
  name = codes "two";
  declarations =
      declared (codes "G") Sort.Graph V.Node 0 ∷
      declared (codes "v") Sort.NodeProperty V.I32 0 ∷
      declared (codes "a") Sort.NodeProperty V.I32 0 ∷
      declared (codes "b") Sort.NodeProperty V.I32 0 ∷
      declared (codes "n") Sort.Iterator V.Node 1 ∷ [];
  inputs = 2;
  outputs = 2;
  result = None;
  statements = 5;
  body =
      (sequence (
      (Foreach (key 1 Operator) (place 2 3) (head 4 Domain.Nodes 0 (place 2 15)) (Const (Flag true)) (sequence (
      (Assign (key 3 Operator) (Target.Property 4 2 (place 3 5)) (Binary Op2.Div (place 3 13) (Const (I32 (pos 6))) (Binary Op2.Sub (place 3 20) (Property 4 1 (place 3 16)) (Const (I32 (pos 1)))))) ∷
      (Assign (key 4 Operator) (Target.Property 4 3 (place 4 5)) (Binary Op2.Div (place 4 13) (Const (I32 (pos 6))) (Binary Op2.Sub (place 4 20) (Property 4 1 (place 4 16)) (Const (I32 (pos 2)))))) ∷ []))) ∷ []));
}

abbrev pub least_fault_of_two_graph : NumberedGraph
least_fault_of_two_graph = graph (0 ∷ 1 ∷ []) [] (((I32 (pos 2)) ∷ (I32 (pos 1)) ∷ []) ∷ []) []

pub least_fault_of_two : mean least_fault_of_two_program least_fault_of_two_graph [] 1000000 ≡ Fault DivideByZero (place 3 13)
least_fault_of_two = refl
