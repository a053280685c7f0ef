-- The outcome of
--   Procedure order(G: Graph, v: N_P<Int>) : Int {
--     Int h = 0;
--     For (n: G.Nodes) (n.v > 0) { h = h * 10 + n.v; }
--     Return h;
--   }
use Rattle.std.specs.Prelude.{◌≡◌, [], ◌∷◌, pos, Some, refl, codes}
use Rattle.gm_value.specs.declared.values.VType.TheVariants as V
use Rattle.gm_value.specs.declared.values.Value.TheVariants.{I32}
use Rattle.gm_value.specs.declared.operations.Op2.TheVariants as Op2
use Rattle.gm_model.specs.Graphs.{NumberedGraph}
use Rattle.gm_model.specs.declared.outcomes.Outcome.TheVariants.{Done}
use Rattle.gm_ast.specs.declared.tree.Sort.TheVariants as Sort
use Rattle.gm_ast.specs.declared.tree.Stage.TheVariants.{Operator}
use Rattle.gm_ast.specs.declared.tree.Domain.TheVariants as Domain
use Rattle.gm_ast.specs.declared.tree.Target.TheVariants as Target
use Rattle.gm_ast.specs.Program.{Const, Var, Property, Binary, Declare, Assign, For, Return, Program, sequence}
use Rattle.gm_semantics.specs.Outcomes.{mean}
use Rattle.gm_semantics.proofs.Rows.Notation.{place, key, declared, head, graph}

abbrev pub sequential_order_program : Program
sequential_order_program = record {
  name = codes "order";
  declarations =
      declared (codes "G") Sort.Graph V.Node 0 ∷
      declared (codes "v") Sort.NodeProperty V.I32 0 ∷
      declared (codes "h") Sort.Scalar V.I32 0 ∷
      declared (codes "n") Sort.Iterator V.Node 0 ∷ [];
  inputs = 2;
  outputs = 0;
  result = (Some V.I32);
  statements = 6;
  body =
      (sequence (
      (Declare (key 1 Operator) 2 (Some (Const (I32 (pos 0))))) ∷
      (For (key 2 Operator) (place 3 3) (head 3 Domain.Nodes 0 (place 3 11)) (Binary Op2.Gt (place 3 25) (Property 3 1 (place 3 21)) (Const (I32 (pos 0)))) (sequence (
      (Assign (key 4 Operator) (Target.Scalar 2 (place 3 32)) (Binary Op2.Add (place 3 43) (Binary Op2.Mul (place 3 38) (Var 2 (place 3 36)) (Const (I32 (pos 10)))) (Property 3 1 (place 3 45)))) ∷ []))) ∷
      (Return (key 5 Operator) (place 4 3) (Some (Var 2 (place 4 10)))) ∷ []));
}

abbrev pub sequential_order_graph : NumberedGraph
sequential_order_graph = graph (3 ∷ 5 ∷ 7 ∷ []) [] (((I32 (pos 2)) ∷ (I32 (pos 0)) ∷ (I32 (pos 1)) ∷ []) ∷ []) []

pub sequential_order : mean sequential_order_program sequential_order_graph [] 1000000 ≡ Done [] (Some (I32 (pos 21))) [] 3
sequential_order = refl
