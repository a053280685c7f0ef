-- The outcome of
--   Procedure tot(G: Graph, v: N_P<Int>) : Int { Return Sum(n: G.Nodes) {n.v}; }
use Rattle.std.specs.Prelude.{◌≡◌, true, [], ◌∷◌, pos, negsuc, Some, refl, codes}
use Rattle.gm_value.specs.declared.values.VType.TheVariants as V
use Rattle.gm_value.specs.declared.values.Value.TheVariants.{I32, Flag}
use Rattle.gm_model.specs.Graphs.{NumberedGraph}
use Rattle.gm_model.specs.declared.outcomes.Outcome.TheVariants.{Done}
use Rattle.gm_ast.specs.declared.surface.ReductionWord.TheVariants as Word
use Rattle.gm_ast.specs.declared.tree.Sort.TheVariants as Sort
use Rattle.gm_ast.specs.declared.tree.Stage.TheVariants.{Operator, Total}
use Rattle.gm_ast.specs.declared.tree.Domain.TheVariants as Domain
use Rattle.gm_ast.specs.Program.{Const, Property, Folded, Return, Program, sequence}
use Rattle.gm_semantics.specs.Outcomes.{mean}
use Rattle.gm_semantics.proofs.Rows.Notation.{place, key, total, declared, head, fold, graph}

abbrev pub sum_total_fits_program : Program
sum_total_fits_program = record {
  name = codes "tot";
  declarations =
      declared (codes "G") Sort.Graph V.Node 0 ∷
      declared (codes "v") Sort.NodeProperty V.I32 0 ∷
      declared (codes "n") Sort.Iterator V.Node 1 ∷ [];
  inputs = 2;
  outputs = 0;
  result = (Some V.I32);
  statements = 4;
  body =
      (sequence (
      (Return (key 1 Operator) (place 1 46) (Some (Folded (fold Word.Sum V.I32 (key 2 Operator) (key 3 Operator) (total (key 3 Total) (place 1 73) (place 1 53))) (head 2 Domain.Nodes 0 (place 1 60)) (Const (Flag true)) (Property 2 1 (place 1 70))))) ∷ []));
}

abbrev pub sum_total_fits_graph : NumberedGraph
sum_total_fits_graph = graph (0 ∷ 1 ∷ 2 ∷ []) [] (((I32 (pos 2147483647)) ∷ (I32 (pos 2147483647)) ∷ (I32 (negsuc 2147483646)) ∷ []) ∷ []) []

pub sum_total_fits : mean sum_total_fits_program sum_total_fits_graph [] 1000000 ≡ Done [] (Some (I32 (pos 2147483647))) [] 0
sum_total_fits = refl
