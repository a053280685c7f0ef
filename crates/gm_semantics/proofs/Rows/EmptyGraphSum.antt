-- The outcome of
--   Procedure count(G: Graph; p: N_P<Int>) : Int {
--     Foreach (n: G.Nodes) { n.p = 1; }
--     Return Sum(n: G.Nodes) {n.p};
--   }
use Rattle.std.specs.Prelude.{◌≡◌, true, [], ◌∷◌, pos, Some, refl, codes}
use Rattle.gm_value.specs.declared.values.VType.TheVariants as V
use Rattle.gm_value.specs.declared.values.Value.TheVariants.{I32, Flag}
use Rattle.gm_model.specs.Graphs.{NumberedGraph}
use Rattle.gm_model.specs.declared.outcomes.Outcome.TheVariants.{Done}
use Rattle.gm_ast.specs.declared.surface.ReductionWord.TheVariants as Word
use Rattle.gm_ast.specs.declared.tree.Sort.TheVariants as Sort
use Rattle.gm_ast.specs.declared.tree.Stage.TheVariants.{Operator, Total}
use Rattle.gm_ast.specs.declared.tree.Domain.TheVariants as Domain
use Rattle.gm_ast.specs.declared.tree.Target.TheVariants as Target
use Rattle.gm_ast.specs.Program.{Const, Property, Folded, Assign, Foreach, Return, Program, sequence}
use Rattle.gm_semantics.specs.Outcomes.{mean}
use Rattle.gm_semantics.proofs.Rows.Notation.{place, key, total, declared, head, fold, graph}

abbrev pub empty_graph_sum_program : Program
empty_graph_sum_program = record {
  name = codes "count";
  declarations =
      declared (codes "G") Sort.Graph V.Node 0 ∷
      declared (codes "p") Sort.NodeProperty V.I32 0 ∷
      declared (codes "n") Sort.Iterator V.Node 1 ∷
      declared (codes "n") Sort.Iterator V.Node 1 ∷ [];
  inputs = 1;
  outputs = 1;
  result = (Some V.I32);
  statements = 7;
  body =
      (sequence (
      (Foreach (key 1 Operator) (place 2 3) (head 2 Domain.Nodes 0 (place 2 15)) (Const (Flag true)) (sequence (
      (Assign (key 3 Operator) (Target.Property 2 1 (place 2 26)) (Const (I32 (pos 1)))) ∷ []))) ∷
      (Return (key 4 Operator) (place 3 3) (Some (Folded (fold Word.Sum V.I32 (key 5 Operator) (key 6 Operator) (total (key 6 Total) (place 3 30) (place 3 10))) (head 3 Domain.Nodes 0 (place 3 17)) (Const (Flag true)) (Property 3 1 (place 3 27))))) ∷ []));
}

abbrev pub empty_graph_sum_graph : NumberedGraph
empty_graph_sum_graph = graph [] [] [] []

pub empty_graph_sum : mean empty_graph_sum_program empty_graph_sum_graph [] 1000000 ≡ Done [] (Some (I32 (pos 0))) ([] ∷ []) 0
empty_graph_sum = refl
