-- The outcome of
--   Procedure prod(G: Graph, v: N_P<Int>) : Int { Return Product(n: G.Nodes) {n.v}; }
use Rattle.std.specs.Prelude.{◌≡◌, true, [], ◌∷◌, pos, Some, refl, codes}
use Rattle.gm_value.specs.declared.values.VType.TheVariants as V
use Rattle.gm_value.specs.declared.values.Value.TheVariants.{I32, Flag}
use Rattle.gm_model.specs.Graphs.{NumberedGraph}
use Rattle.gm_model.specs.declared.outcomes.Outcome.TheVariants.{Done}
use Rattle.gm_ast.specs.declared.surface.ReductionWord.TheVariants as Word
use Rattle.gm_ast.specs.declared.tree.Sort.TheVariants as Sort
use Rattle.gm_ast.specs.declared.tree.Stage.TheVariants.{Operator, Total}
use Rattle.gm_ast.specs.declared.tree.Domain.TheVariants as Domain
use Rattle.gm_ast.specs.Program.{Const, Property, Folded, Return, Program, sequence}
use Rattle.gm_semantics.specs.Outcomes.{mean}
use Rattle.gm_semantics.proofs.Rows.Notation.{place, key, total, declared, head, fold, graph}

abbrev pub product_with_zero_program : Program
product_with_zero_program = record {
  name = codes "prod";
  declarations =
      declared (codes "G") Sort.Graph V.Node 0 ∷
      declared (codes "v") Sort.NodeProperty V.I32 0 ∷
      declared (codes "n") Sort.Iterator V.Node 1 ∷ [];
  inputs = 2;
  outputs = 0;
  result = (Some V.I32);
  statements = 4;
  body =
      (sequence (
      (Return (key 1 Operator) (place 1 47) (Some (Folded (fold Word.Product V.I32 (key 2 Operator) (key 3 Operator) (total (key 3 Total) (place 1 78) (place 1 54))) (head 2 Domain.Nodes 0 (place 1 65)) (Const (Flag true)) (Property 2 1 (place 1 75))))) ∷ []));
}

abbrev pub product_with_zero_graph : NumberedGraph
product_with_zero_graph = graph (0 ∷ 1 ∷ 2 ∷ []) [] (((I32 (pos 2147483647)) ∷ (I32 (pos 2147483647)) ∷ (I32 (pos 0)) ∷ []) ∷ []) []

pub product_with_zero : mean product_with_zero_program product_with_zero_graph [] 1000000 ≡ Done [] (Some (I32 (pos 0))) [] 0
product_with_zero = refl
