-- The outcome of
--   Procedure mix(G: Graph, v: N_P<Int>; a, b, c: N_P<Int>) {
--     Foreach (n: G.Nodes) {
--       n.c = n.v;
--       If (n.c > 1) {
--         n.c = 0;
--         Foreach (t: n.Nbrs) {
--           Int d = t.v - n.v;
--           If (d > 0) { n.a += d; }
--           t.b += d;
--         }
--         n.c = n.c + n.a;
--       }
--     }
--   }
use Rattle.std.specs.Prelude.{◌≡◌, true, [], ◌∷◌, pos, negsuc, Some, None, refl, codes}
use Rattle.gm_value.specs.declared.values.VType.TheVariants as V
use Rattle.gm_value.specs.declared.values.Value.TheVariants.{I32, Flag}
use Rattle.gm_value.specs.declared.operations.Op2.TheVariants as Op2
use Rattle.gm_value.specs.declared.reductions.Reduce.TheVariants as Reduce
use Rattle.gm_model.specs.Graphs.{NumberedGraph}
use Rattle.gm_model.specs.declared.outcomes.Outcome.TheVariants.{Done}
use Rattle.gm_ast.specs.declared.tree.Sort.TheVariants as Sort
use Rattle.gm_ast.specs.declared.tree.Stage.TheVariants.{Operator, Total}
use Rattle.gm_ast.specs.declared.tree.Domain.TheVariants as Domain
use Rattle.gm_ast.specs.declared.tree.Target.TheVariants as Target
use Rattle.gm_ast.specs.Program.{Const, Var, Property, Binary, Skip, Declare, Assign, Combine, Foreach, If, Program, sequence}
use Rattle.gm_semantics.specs.Outcomes.{mean}
use Rattle.gm_semantics.proofs.Rows.Notation.{place, key, total, declared, head, edge, graph}

abbrev pub mixed_body_program : Program
mixed_body_program = record {
  name = codes "mix";
  declarations =
      declared (codes "G") Sort.Graph V.Node 0 ∷
      declared (codes "v") Sort.NodeProperty V.I32 0 ∷
      declared (codes "a") Sort.NodeProperty V.I32 0 ∷
      declared (codes "b") Sort.NodeProperty V.I32 0 ∷
      declared (codes "c") Sort.NodeProperty V.I32 0 ∷
      declared (codes "n") Sort.Iterator V.Node 1 ∷
      declared (codes "t") Sort.Iterator V.Node 2 ∷
      declared (codes "d") Sort.Scalar V.I32 2 ∷ [];
  inputs = 2;
  outputs = 3;
  result = None;
  statements = 17;
  body =
      (sequence (
      (Foreach (key 1 Operator) (place 2 3) (head 5 Domain.Nodes 0 (place 2 15)) (Const (Flag true)) (sequence (
      (Assign (key 3 Operator) (Target.Property 5 4 (place 3 5)) (Property 5 1 (place 3 11))) ∷
      (If (key 4 Operator) (Binary Op2.Gt (place 4 13) (Property 5 4 (place 4 9)) (Const (I32 (pos 1)))) (sequence (
      (Assign (key 6 Operator) (Target.Property 5 4 (place 5 7)) (Const (I32 (pos 0)))) ∷
      (Foreach (key 7 Operator) (place 6 7) (head 6 Domain.OutNbrs 5 (place 6 19)) (Const (Flag true)) (sequence (
      (Declare (key 9 Operator) 7 (Some (Binary Op2.Sub (place 7 21) (Property 6 1 (place 7 17)) (Property 5 1 (place 7 23))))) ∷
      (If (key 10 Operator) (Binary Op2.Gt (place 8 15) (Var 7 (place 8 13)) (Const (I32 (pos 0)))) (sequence (
      (Combine (key 12 Operator) (total (key 12 Total) (place 8 26) (place 8 26)) Reduce.Sum ((Target.Property 5 2 (place 8 22)) ∷ []) ((Var 7 (place 8 29)) ∷ [])) ∷ [])) Skip) ∷
      (Combine (key 14 Operator) (total (key 14 Total) (place 9 13) (place 9 13)) Reduce.Sum ((Target.Property 6 3 (place 9 9)) ∷ []) ((Var 7 (place 9 16)) ∷ [])) ∷ []))) ∷
      (Assign (key 15 Operator) (Target.Property 5 4 (place 11 7)) (Binary Op2.Add (place 11 17) (Property 5 4 (place 11 13)) (Property 5 2 (place 11 19)))) ∷ [])) Skip) ∷ []))) ∷ []));
}

abbrev pub mixed_body_graph : NumberedGraph
mixed_body_graph = graph (0 ∷ 1 ∷ 2 ∷ []) ((edge 0 1) ∷ (edge 0 2) ∷ (edge 2 2) ∷ (edge 2 1) ∷ []) (((I32 (pos 3)) ∷ (I32 (pos 5)) ∷ (I32 (pos 2)) ∷ []) ∷ []) []

pub mixed_body : mean mixed_body_program mixed_body_graph [] 1000000 ≡ Done [] None (((I32 (pos 2)) ∷ (I32 (pos 0)) ∷ (I32 (pos 3)) ∷ []) ∷ ((I32 (pos 0)) ∷ (I32 (pos 5)) ∷ (I32 (negsuc 0)) ∷ []) ∷ ((I32 (pos 2)) ∷ (I32 (pos 0)) ∷ (I32 (pos 3)) ∷ []) ∷ []) 0
mixed_body = refl
