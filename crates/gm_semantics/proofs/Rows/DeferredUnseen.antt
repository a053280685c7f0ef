-- The outcome of
--   Procedure d(G: Graph; p, q: N_P<Int>) { Foreach (n: G.Nodes) { n.p <= 5; n.q = n.p + 1; } }
use Rattle.std.specs.Prelude.{◌≡◌, true, [], ◌∷◌, pos, None, refl, codes}
use Rattle.gm_value.specs.declared.values.VType.TheVariants as V
use Rattle.gm_value.specs.declared.values.Value.TheVariants.{I32, Flag}
use Rattle.gm_value.specs.declared.operations.Op2.TheVariants as Op2
use Rattle.gm_model.specs.Graphs.{NumberedGraph}
use Rattle.gm_model.specs.declared.outcomes.Outcome.TheVariants.{Done}
use Rattle.gm_ast.specs.declared.tree.Sort.TheVariants as Sort
use Rattle.gm_ast.specs.declared.tree.Stage.TheVariants.{Operator}
use Rattle.gm_ast.specs.declared.tree.Domain.TheVariants as Domain
use Rattle.gm_ast.specs.declared.tree.Target.TheVariants as Target
use Rattle.gm_ast.specs.Program.{Const, Property, Binary, Assign, Defer, Foreach, Program, sequence}
use Rattle.gm_semantics.specs.Outcomes.{mean}
use Rattle.gm_semantics.proofs.Rows.Notation.{place, key, declared, head, edge, graph}

abbrev pub deferred_unseen_program : Program
deferred_unseen_program = record {
  name = codes "d";
  declarations =
      declared (codes "G") Sort.Graph V.Node 0 ∷
      declared (codes "p") Sort.NodeProperty V.I32 0 ∷
      declared (codes "q") Sort.NodeProperty V.I32 0 ∷
      declared (codes "n") Sort.Iterator V.Node 1 ∷ [];
  inputs = 1;
  outputs = 2;
  result = None;
  statements = 5;
  body =
      (sequence (
      (Foreach (key 1 Operator) (place 1 41) (head 3 Domain.Nodes 0 (place 1 53)) (Const (Flag true)) (sequence (
      (Defer (key 3 Operator) (Target.Property 3 1 (place 1 64)) (Const (I32 (pos 5)))) ∷
      (Assign (key 4 Operator) (Target.Property 3 2 (place 1 74)) (Binary Op2.Add (place 1 84) (Property 3 1 (place 1 80)) (Const (I32 (pos 1))))) ∷ []))) ∷ []));
}

abbrev pub deferred_unseen_graph : NumberedGraph
deferred_unseen_graph = graph (0 ∷ 1 ∷ []) ((edge 0 1) ∷ []) [] []

pub deferred_unseen : mean deferred_unseen_program deferred_unseen_graph [] 1000000 ≡ Done [] None (((I32 (pos 5)) ∷ (I32 (pos 5)) ∷ []) ∷ ((I32 (pos 1)) ∷ (I32 (pos 1)) ∷ []) ∷ []) 0
deferred_unseen = refl
