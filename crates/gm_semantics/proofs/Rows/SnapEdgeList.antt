-- The outcome of
--   Procedure deg(G: Graph; d: N_P<Int>) { Foreach (n: G.Nodes) { n.d = n.OutDegree(); } }
use Rattle.std.specs.Prelude.{◌≡◌, true, [], ◌∷◌, pos, None, refl, codes}
use Rattle.gm_value.specs.declared.values.VType.TheVariants as V
use Rattle.gm_value.specs.declared.values.Value.TheVariants.{I32, Flag}
use Rattle.gm_model.specs.Graphs.{NumberedGraph}
use Rattle.gm_model.specs.declared.outcomes.Outcome.TheVariants.{Done}
use Rattle.gm_ast.specs.declared.tree.Sort.TheVariants as Sort
use Rattle.gm_ast.specs.declared.tree.Stage.TheVariants.{Operator}
use Rattle.gm_ast.specs.declared.tree.Domain.TheVariants as Domain
use Rattle.gm_ast.specs.declared.tree.Direction.TheVariants as Direction
use Rattle.gm_ast.specs.declared.tree.Target.TheVariants as Target
use Rattle.gm_ast.specs.Program.{Const, Degree, Assign, Foreach, Program, sequence}
use Rattle.gm_semantics.specs.Outcomes.{mean}
use Rattle.gm_semantics.proofs.Rows.Notation.{place, key, declared, head, edge, graph}

abbrev pub snap_edge_list_program : Program
snap_edge_list_program = record {
  name = codes "deg";
  declarations =
      declared (codes "G") Sort.Graph V.Node 0 ∷
      declared (codes "d") Sort.NodeProperty V.I32 0 ∷
      declared (codes "n") Sort.Iterator V.Node 1 ∷ [];
  inputs = 1;
  outputs = 1;
  result = None;
  statements = 4;
  body =
      (sequence (
      (Foreach (key 1 Operator) (place 1 40) (head 2 Domain.Nodes 0 (place 1 52)) (Const (Flag true)) (sequence (
      (Assign (key 3 Operator) (Target.Property 2 1 (place 1 63)) (Degree Direction.Out 2 (place 1 69))) ∷ []))) ∷ []));
}

abbrev pub snap_edge_list_graph : NumberedGraph
snap_edge_list_graph = graph (30 ∷ 1412 ∷ 3352 ∷ []) ((edge 0 1) ∷ (edge 0 2) ∷ (edge 1 0) ∷ []) [] []

pub snap_edge_list : mean snap_edge_list_program snap_edge_list_graph [] 1000000 ≡ Done [] None (((I32 (pos 2)) ∷ (I32 (pos 1)) ∷ (I32 (pos 0)) ∷ []) ∷ []) 0
snap_edge_list = refl
