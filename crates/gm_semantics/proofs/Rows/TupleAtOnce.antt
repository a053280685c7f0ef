-- The outcome of
--   Procedure best(G: Graph, v: N_P<Int>; m: N_P<Int>, w: N_P<Node>, c: N_P<Int>) {
--     Int k = 5;
--     Int l = 7;
--     <k; l> max= <5; 3>;
--     <k; l> max= <4; 1>;
--     Foreach (n: G.Nodes) {
--       <n.m; n.w> max= <n.v; n>;
--       n.c = n.m + l;
--     }
--   }
use Rattle.std.specs.Prelude.{◌≡◌, true, [], ◌∷◌, pos, Some, None, refl, codes}
use Rattle.gm_value.specs.declared.values.VType.TheVariants as V
use Rattle.gm_value.specs.declared.values.Value.TheVariants.{I32, Flag, At}
use Rattle.gm_value.specs.declared.operations.Op2.TheVariants as Op2
use Rattle.gm_value.specs.declared.reductions.Reduce.TheVariants as Reduce
use Rattle.gm_model.specs.Graphs.{NumberedGraph}
use Rattle.gm_model.specs.declared.outcomes.Outcome.TheVariants.{Done}
use Rattle.gm_ast.specs.declared.tree.Sort.TheVariants as Sort
use Rattle.gm_ast.specs.declared.tree.Stage.TheVariants.{Operator, Total}
use Rattle.gm_ast.specs.declared.tree.Domain.TheVariants as Domain
use Rattle.gm_ast.specs.declared.tree.Target.TheVariants as Target
use Rattle.gm_ast.specs.Program.{Const, Var, Property, Binary, Declare, Assign, Combine, Foreach, Program, sequence}
use Rattle.gm_semantics.specs.Outcomes.{mean}
use Rattle.gm_semantics.proofs.Rows.Notation.{place, key, total, declared, head, edge, graph}

abbrev pub tuple_at_once_program : Program
tuple_at_once_program = record {
  name = codes "best";
  declarations =
      declared (codes "G") Sort.Graph V.Node 0 ∷
      declared (codes "v") Sort.NodeProperty V.I32 0 ∷
      declared (codes "m") Sort.NodeProperty V.I32 0 ∷
      declared (codes "w") Sort.NodeProperty V.Node 0 ∷
      declared (codes "c") Sort.NodeProperty V.I32 0 ∷
      declared (codes "k") Sort.Scalar V.I32 0 ∷
      declared (codes "l") Sort.Scalar V.I32 0 ∷
      declared (codes "n") Sort.Iterator V.Node 1 ∷ [];
  inputs = 2;
  outputs = 3;
  result = None;
  statements = 9;
  body =
      (sequence ((Declare (key 1 Operator) 5 (Some (Const (I32 (pos 5))))) ∷
      (Declare (key 2 Operator) 6 (Some (Const (I32 (pos 7))))) ∷
      (Combine (key 3 Operator) (total (key 3 Total) (place 4 10) (place 4 10)) Reduce.Max ((Target.Scalar 5 (place 4 4)) ∷ (Target.Scalar 6 (place 4 7)) ∷ []) ((Const (I32 (pos 5))) ∷ (Const (I32 (pos 3))) ∷ [])) ∷
      (Combine (key 4 Operator) (total (key 4 Total) (place 5 10) (place 5 10)) Reduce.Max ((Target.Scalar 5 (place 5 4)) ∷ (Target.Scalar 6 (place 5 7)) ∷ []) ((Const (I32 (pos 4))) ∷ (Const (I32 (pos 1))) ∷ [])) ∷
      (Foreach (key 5 Operator) (place 6 3) (head 7 Domain.Nodes 0 (place 6 15)) (Const (Flag true)) (sequence ((Combine (key 7 Operator) (total (key 7 Total) (place 7 16) (place 7 16)) Reduce.Max ((Target.Property 7 2 (place 7 6)) ∷ (Target.Property 7 3 (place 7 11)) ∷ []) ((Property 7 1 (place 7 22)) ∷ (Var 7 (place 7 27)) ∷ [])) ∷
      (Assign (key 8 Operator) (Target.Property 7 4 (place 8 5)) (Binary Op2.Add (place 8 15) (Property 7 2 (place 8 11)) (Var 6 (place 8 17)))) ∷ []))) ∷ []));
}

abbrev pub tuple_at_once_graph : NumberedGraph
tuple_at_once_graph = graph (0 ∷ 1 ∷ []) [] (((I32 (pos 4)) ∷ (I32 (pos 0)) ∷ []) ∷ []) []

pub tuple_at_once : mean tuple_at_once_program tuple_at_once_graph [] 1000000 ≡ Done [] None (((I32 (pos 4)) ∷ (I32 (pos 0)) ∷ []) ∷ ((At (Some 0)) ∷ (At None) ∷ []) ∷ ((I32 (pos 7)) ∷ (I32 (pos 3)) ∷ []) ∷ []) 0
tuple_at_once = refl
