-- The outcome of
--   Procedure total(G: Graph, v: N_P<Int>; s: N_P<Int>) {
--     Foreach (n: G.Nodes) { n.s = Sum(t: n.InNbrs) {t.v}; }
--   }
use Rattle.std.specs.Prelude.{◌≡◌, true, [], ◌∷◌, pos, None, refl, codes}
use Rattle.gm_value.specs.declared.values.VType.TheVariants as V
use Rattle.gm_value.specs.declared.values.Value.TheVariants.{I32, Flag}
use Rattle.gm_model.specs.Graphs.{NumberedGraph}
use Rattle.gm_model.specs.declared.outcomes.Outcome.TheVariants.{Done}
use Rattle.gm_ast.specs.declared.surface.ReductionWord.TheVariants as Word
use Rattle.gm_ast.specs.declared.tree.Sort.TheVariants as Sort
use Rattle.gm_ast.specs.declared.tree.Stage.TheVariants.{Inner, Operator}
use Rattle.gm_ast.specs.declared.tree.Domain.TheVariants as Domain
use Rattle.gm_ast.specs.declared.tree.Target.TheVariants as Target
use Rattle.gm_ast.specs.Program.{Const, Property, Folded, Assign, Foreach, Program, sequence}
use Rattle.gm_semantics.specs.Outcomes.{mean}
use Rattle.gm_semantics.proofs.Rows.Notation.{place, key, total, declared, head, fold, edge, graph}

abbrev pub parallel_edges_program : Program
parallel_edges_program = record {
  name = codes "total";
  declarations =
      declared (codes "G") Sort.Graph V.Node 0 ∷
      declared (codes "v") Sort.NodeProperty V.I32 0 ∷
      declared (codes "s") Sort.NodeProperty V.I32 0 ∷
      declared (codes "n") Sort.Iterator V.Node 1 ∷
      declared (codes "t") Sort.Iterator V.Node 2 ∷ [];
  inputs = 2;
  outputs = 1;
  result = None;
  statements = 4;
  body =
      (sequence (
      (Foreach (key 1 Operator) (place 2 3) (head 3 Domain.Nodes 0 (place 2 15)) (Const (Flag true)) (sequence (
      (Assign (key 3 Operator) (Target.Property 3 2 (place 2 26)) (Folded (fold Word.Sum V.I32 (key 3 Inner) (key 3 Inner) (total (key 3 Inner) (place 2 53) (place 2 32))) (head 4 Domain.InNbrs 3 (place 2 39)) (Const (Flag true)) (Property 4 1 (place 2 50)))) ∷ []))) ∷ []));
}

abbrev pub parallel_edges_graph : NumberedGraph
parallel_edges_graph = graph (0 ∷ 1 ∷ []) ((edge 0 1) ∷ (edge 0 1) ∷ (edge 1 1) ∷ []) (((I32 (pos 5)) ∷ (I32 (pos 7)) ∷ []) ∷ []) []

pub parallel_edges : mean parallel_edges_program parallel_edges_graph [] 1000000 ≡ Done [] None (((I32 (pos 0)) ∷ (I32 (pos 17)) ∷ []) ∷ []) 0
parallel_edges = refl
