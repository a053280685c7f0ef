-- The outcome of
--   Procedure best(G: Graph, v: N_P<Int>; m, s: N_P<Int>) {
--     Foreach (n: G.Nodes) {
--       Int best = 9;
--       Foreach (t: n.Nbrs) {
--         Int score = 2;
--         <score; best> max= <1; t.v>;
--         n.s += score;
--       }
--       n.m = best;
--     }
--   }
use Rattle.std.specs.Prelude.{◌≡◌, true, [], ◌∷◌, pos, Some, None, refl, codes}
use Rattle.gm_value.specs.declared.values.VType.TheVariants as V
use Rattle.gm_value.specs.declared.values.Value.TheVariants.{I32, Flag}
use Rattle.gm_value.specs.declared.reductions.Reduce.TheVariants as Reduce
use Rattle.gm_model.specs.Graphs.{NumberedGraph}
use Rattle.gm_model.specs.declared.outcomes.Outcome.TheVariants.{Done}
use Rattle.gm_ast.specs.declared.tree.Sort.TheVariants as Sort
use Rattle.gm_ast.specs.declared.tree.Stage.TheVariants.{Operator, Total}
use Rattle.gm_ast.specs.declared.tree.Domain.TheVariants as Domain
use Rattle.gm_ast.specs.declared.tree.Target.TheVariants as Target
use Rattle.gm_ast.specs.Program.{Const, Var, Property, Declare, Assign, Combine, Foreach, Program, sequence}
use Rattle.gm_semantics.specs.Outcomes.{mean}
use Rattle.gm_semantics.proofs.Rows.Notation.{place, key, total, declared, head, edge, graph}

abbrev pub tuple_ends_with_its_latest_target_program : Program
tuple_ends_with_its_latest_target_program = record {
  name = codes "best";
  declarations =
      declared (codes "G") Sort.Graph V.Node 0 ∷
      declared (codes "v") Sort.NodeProperty V.I32 0 ∷
      declared (codes "m") Sort.NodeProperty V.I32 0 ∷
      declared (codes "s") Sort.NodeProperty V.I32 0 ∷
      declared (codes "n") Sort.Iterator V.Node 1 ∷
      declared (codes "best") Sort.Scalar V.I32 1 ∷
      declared (codes "t") Sort.Iterator V.Node 2 ∷
      declared (codes "score") Sort.Scalar V.I32 2 ∷ [];
  inputs = 2;
  outputs = 2;
  result = None;
  statements = 10;
  body =
      (sequence ((Foreach (key 1 Operator) (place 2 3) (head 4 Domain.Nodes 0 (place 2 15)) (Const (Flag true)) (sequence ((Declare (key 3 Operator) 5 (Some (Const (I32 (pos 9))))) ∷
      (Foreach (key 4 Operator) (place 4 5) (head 6 Domain.OutNbrs 4 (place 4 17)) (Const (Flag true)) (sequence ((Declare (key 6 Operator) 7 (Some (Const (I32 (pos 2))))) ∷
      (Combine (key 7 Operator) (total (key 7 Total) (place 6 21) (place 6 21)) Reduce.Max ((Target.Scalar 7 (place 6 8)) ∷ (Target.Scalar 5 (place 6 15)) ∷ []) ((Const (I32 (pos 1))) ∷ (Property 6 1 (place 6 30)) ∷ [])) ∷
      (Combine (key 8 Operator) (total (key 8 Total) (place 7 11) (place 7 11)) Reduce.Sum ((Target.Property 4 3 (place 7 7)) ∷ []) ((Var 7 (place 7 14)) ∷ [])) ∷ []))) ∷
      (Assign (key 9 Operator) (Target.Property 4 2 (place 9 5)) (Var 5 (place 9 11))) ∷ []))) ∷ []));
}

abbrev pub tuple_ends_with_its_latest_target_graph : NumberedGraph
tuple_ends_with_its_latest_target_graph = graph (0 ∷ 1 ∷ 2 ∷ []) ((edge 0 1) ∷ (edge 0 2) ∷ (edge 1 2) ∷ []) (((I32 (pos 1)) ∷ (I32 (pos 5)) ∷ (I32 (pos 4)) ∷ []) ∷ []) []

pub tuple_ends_with_its_latest_target : mean tuple_ends_with_its_latest_target_program tuple_ends_with_its_latest_target_graph [] 1000000 ≡ Done [] None (((I32 (pos 4)) ∷ (I32 (pos 4)) ∷ (I32 (pos 9)) ∷ []) ∷ ((I32 (pos 4)) ∷ (I32 (pos 2)) ∷ (I32 (pos 0)) ∷ []) ∷ []) 0
tuple_ends_with_its_latest_target = refl
