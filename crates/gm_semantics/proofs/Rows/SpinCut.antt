-- The outcome of
--   Procedure spin(G: Graph) : Int {
--     Int k = 0;
--     While (k < 6) { k += 1; }
--     Return k;
--   }
use Rattle.std.specs.Prelude.{◌≡◌, [], ◌∷◌, pos, Some, refl, codes}
use Rattle.gm_value.specs.declared.values.VType.TheVariants as V
use Rattle.gm_value.specs.declared.values.Value.TheVariants.{I32}
use Rattle.gm_value.specs.declared.operations.Op2.TheVariants as Op2
use Rattle.gm_value.specs.declared.reductions.Reduce.TheVariants as Reduce
use Rattle.gm_model.specs.Graphs.{NumberedGraph}
use Rattle.gm_model.specs.declared.outcomes.Outcome.TheVariants.{Cut}
use Rattle.gm_ast.specs.declared.tree.Sort.TheVariants as Sort
use Rattle.gm_ast.specs.declared.tree.Stage.TheVariants.{Operator, Total}
use Rattle.gm_ast.specs.declared.tree.Target.TheVariants as Target
use Rattle.gm_ast.specs.Program.{Const, Var, Binary, Declare, Combine, While, Return, Program, sequence}
use Rattle.gm_semantics.specs.Outcomes.{mean}
use Rattle.gm_semantics.proofs.Rows.Notation.{place, key, total, declared, graph}

abbrev pub spin_cut_program : Program
spin_cut_program = record {
  name = codes "spin";
  declarations =
      declared (codes "G") Sort.Graph V.Node 0 ∷
      declared (codes "k") Sort.Scalar V.I32 0 ∷ [];
  inputs = 1;
  outputs = 0;
  result = (Some V.I32);
  statements = 6;
  body =
      (sequence (
      (Declare (key 1 Operator) 1 (Some (Const (I32 (pos 0))))) ∷
      (While (key 2 Operator) (place 3 3) (Binary Op2.Lt (place 3 12) (Var 1 (place 3 10)) (Const (I32 (pos 6)))) (sequence (
      (Combine (key 4 Operator) (total (key 4 Total) (place 3 21) (place 3 21)) Reduce.Sum ((Target.Scalar 1 (place 3 19)) ∷ []) ((Const (I32 (pos 1))) ∷ [])) ∷ []))) ∷
      (Return (key 5 Operator) (place 4 3) (Some (Var 1 (place 4 10)))) ∷ []));
}

abbrev pub spin_cut_graph : NumberedGraph
spin_cut_graph = graph [] [] [] []

pub spin_cut : mean spin_cut_program spin_cut_graph [] 5 ≡ Cut 5
spin_cut = refl
