-- The outcome of
--   Procedure back(G: Graph, v: N_P<Int>; s: N_P<Int>) {
--     Foreach (n: G.Nodes) {
--       Foreach (t: n.InNbrs) { t.s += n.v; }
--     }
--   }
use Rattle.std.specs.Prelude.{◌≡◌, true, [], ◌∷◌, pos, None, refl, codes}
use Rattle.gm_value.specs.declared.values.VType.TheVariants as V
use Rattle.gm_value.specs.declared.values.Value.TheVariants.{I32, Flag}
use Rattle.gm_value.specs.declared.reductions.Reduce.TheVariants as Reduce
use Rattle.gm_model.specs.Graphs.{NumberedGraph}
use Rattle.gm_model.specs.declared.outcomes.Outcome.TheVariants.{Done}
use Rattle.gm_ast.specs.declared.tree.Sort.TheVariants as Sort
use Rattle.gm_ast.specs.declared.tree.Stage.TheVariants.{Operator, Total}
use Rattle.gm_ast.specs.declared.tree.Domain.TheVariants as Domain
use Rattle.gm_ast.specs.declared.tree.Target.TheVariants as Target
use Rattle.gm_ast.specs.Program.{Const, Property, Combine, Foreach, Program, sequence}
use Rattle.gm_semantics.specs.Outcomes.{mean}
use Rattle.gm_semantics.proofs.Rows.Notation.{place, key, total, declared, head, edge, graph}

abbrev pub push_against_program : Program
push_against_program = record {
  name = codes "back";
  declarations =
      declared (codes "G") Sort.Graph V.Node 0 ∷
      declared (codes "v") Sort.NodeProperty V.I32 0 ∷
      declared (codes "s") Sort.NodeProperty V.I32 0 ∷
      declared (codes "n") Sort.Iterator V.Node 1 ∷
      declared (codes "t") Sort.Iterator V.Node 2 ∷ [];
  inputs = 2;
  outputs = 1;
  result = None;
  statements = 6;
  body =
      (sequence (
      (Foreach (key 1 Operator) (place 2 3) (head 3 Domain.Nodes 0 (place 2 15)) (Const (Flag true)) (sequence (
      (Foreach (key 3 Operator) (place 3 5) (head 4 Domain.InNbrs 3 (place 3 17)) (Const (Flag true)) (sequence (
      (Combine (key 5 Operator) (total (key 5 Total) (place 3 33) (place 3 33)) Reduce.Sum ((Target.Property 4 2 (place 3 29)) ∷ []) ((Property 3 1 (place 3 36)) ∷ [])) ∷ []))) ∷ []))) ∷ []));
}

abbrev pub push_against_graph : NumberedGraph
push_against_graph = graph (0 ∷ 1 ∷ []) ((edge 0 1) ∷ (edge 0 1) ∷ (edge 1 1) ∷ []) (((I32 (pos 5)) ∷ (I32 (pos 7)) ∷ []) ∷ []) []

pub push_against : mean push_against_program push_against_graph [] 1000000 ≡ Done [] None (((I32 (pos 14)) ∷ (I32 (pos 7)) ∷ []) ∷ []) 0
push_against = refl
