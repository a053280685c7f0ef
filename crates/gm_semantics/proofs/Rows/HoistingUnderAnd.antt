-- The outcome of
--   Procedure h(G: Graph, s: Node, p: N_P<Int>) : Bool { Return s != NIL && s.p > 0; }
use Rattle.std.specs.Prelude.{◌≡◌, [], ◌∷◌, pos, Some, None, refl, codes}
use Rattle.gm_value.specs.declared.values.VType.TheVariants as V
use Rattle.gm_value.specs.declared.values.Value.TheVariants.{I32, At}
use Rattle.gm_value.specs.declared.operations.Op2.TheVariants as Op2
use Rattle.gm_value.specs.declared.faults.FaultKind.TheVariants.{NilNode}
use Rattle.gm_model.specs.Graphs.{NumberedGraph}
use Rattle.gm_model.specs.declared.outcomes.Outcome.TheVariants.{Fault}
use Rattle.gm_ast.specs.declared.tree.Sort.TheVariants as Sort
use Rattle.gm_ast.specs.declared.tree.Stage.TheVariants.{Operator}
use Rattle.gm_ast.specs.Program.{Const, Var, Property, Binary, Both, Return, Program, sequence}
use Rattle.gm_semantics.specs.Outcomes.{mean}
use Rattle.gm_semantics.proofs.Rows.Notation.{place, key, declared, graph}

abbrev pub hoisting_under_and_program : Program
hoisting_under_and_program = record {
  name = codes "h";
  declarations =
      declared (codes "G") Sort.Graph V.Node 0 ∷
      declared (codes "s") Sort.Scalar V.Node 0 ∷
      declared (codes "p") Sort.NodeProperty V.I32 0 ∷ [];
  inputs = 3;
  outputs = 0;
  result = (Some V.Flag);
  statements = 2;
  body =
      (sequence (
      (Return (key 1 Operator) (place 1 54) (Some (Both (Binary Op2.Ne (place 1 63) (Var 1 (place 1 61)) (Const (At None))) (Binary Op2.Gt (place 1 77) (Property 1 2 (place 1 73)) (Const (I32 (pos 0))))))) ∷ []));
}

abbrev pub hoisting_under_and_graph : NumberedGraph
hoisting_under_and_graph = graph [] [] ([] ∷ []) []

pub hoisting_under_and : mean hoisting_under_and_program hoisting_under_and_graph ((At None) ∷ []) 1000000 ≡ Fault NilNode (place 1 73)
hoisting_under_and = refl
