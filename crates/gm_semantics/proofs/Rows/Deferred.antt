-- The outcome of
--   Procedure shift(G: Graph, v: N_P<Int>; p: N_P<Int>) {
--     Foreach (n: G.Nodes) { n.p = n.v; }
--     Foreach (n: G.Nodes) { n.p <= Sum(t: n.InNbrs) {t.p} @ n; }
--   }
use Rattle.std.specs.Prelude.{◌≡◌, true, [], ◌∷◌, pos, None, refl, codes}
use Rattle.gm_value.specs.declared.values.VType.TheVariants as V
use Rattle.gm_value.specs.declared.values.Value.TheVariants.{I32, Flag}
use Rattle.gm_model.specs.Graphs.{NumberedGraph}
use Rattle.gm_model.specs.declared.outcomes.Outcome.TheVariants.{Done}
use Rattle.gm_ast.specs.declared.surface.ReductionWord.TheVariants as Word
use Rattle.gm_ast.specs.declared.tree.Sort.TheVariants as Sort
use Rattle.gm_ast.specs.declared.tree.Stage.TheVariants.{Inner, Operator}
use Rattle.gm_ast.specs.declared.tree.Domain.TheVariants as Domain
use Rattle.gm_ast.specs.declared.tree.Target.TheVariants as Target
use Rattle.gm_ast.specs.Program.{Const, Property, Folded, Assign, Defer, Foreach, Program, sequence}
use Rattle.gm_semantics.specs.Outcomes.{mean}
use Rattle.gm_semantics.proofs.Rows.Notation.{place, key, total, declared, head, fold, edge, graph}

abbrev pub deferred_program : Program
deferred_program = record {
  name = codes "shift";
  declarations =
      declared (codes "G") Sort.Graph V.Node 0 ∷
      declared (codes "v") Sort.NodeProperty V.I32 0 ∷
      declared (codes "p") Sort.NodeProperty V.I32 0 ∷
      declared (codes "n") Sort.Iterator V.Node 1 ∷
      declared (codes "n") Sort.Iterator V.Node 1 ∷
      declared (codes "t") Sort.Iterator V.Node 2 ∷ [];
  inputs = 2;
  outputs = 1;
  result = None;
  statements = 7;
  body =
      (sequence (
      (Foreach (key 1 Operator) (place 2 3) (head 3 Domain.Nodes 0 (place 2 15)) (Const (Flag true)) (sequence (
      (Assign (key 3 Operator) (Target.Property 3 2 (place 2 26)) (Property 3 1 (place 2 32))) ∷ []))) ∷
      (Foreach (key 4 Operator) (place 3 3) (head 4 Domain.Nodes 0 (place 3 15)) (Const (Flag true)) (sequence (
      (Defer (key 6 Operator) (Target.Property 4 2 (place 3 26)) (Folded (fold Word.Sum V.I32 (key 6 Inner) (key 6 Inner) (total (key 6 Inner) (place 3 54) (place 3 33))) (head 5 Domain.InNbrs 4 (place 3 40)) (Const (Flag true)) (Property 5 2 (place 3 51)))) ∷ []))) ∷ []));
}

abbrev pub deferred_graph : NumberedGraph
deferred_graph = graph (0 ∷ 1 ∷ 2 ∷ []) ((edge 0 1) ∷ (edge 1 2) ∷ (edge 2 0) ∷ []) (((I32 (pos 1)) ∷ (I32 (pos 2)) ∷ (I32 (pos 3)) ∷ []) ∷ []) []

pub deferred : mean deferred_program deferred_graph [] 1000000 ≡ Done [] None (((I32 (pos 3)) ∷ (I32 (pos 1)) ∷ (I32 (pos 2)) ∷ []) ∷ []) 0
deferred = refl
