-- What becomes of the search of
--   Procedure shares(G: Graph, s: Node; a: N_P<Int>) {
--     InBFS (v: G.Nodes From s) (v != s) {
--       v.a = 6 / (v.OutDegree() - 1);
--     }
--   }
-- where a node faults in the turn of its level, whatever nodes of later levels do.
use Rattle.std.specs.Prelude.{◌≡◌, true, [], ◌∷◌, pos, Some, None, refl, codes}
use Rattle.gm_value.specs.declared.values.VType.TheVariants as V
use Rattle.gm_value.specs.declared.values.Value.TheVariants.{I32, At}
use Rattle.gm_value.specs.declared.faults.FaultKind.TheVariants.{DivideByZero}
use Rattle.gm_value.specs.declared.operations.Op2.TheVariants as Op2
use Rattle.gm_model.specs.Graphs.{NumberedGraph}
use Rattle.gm_model.specs.declared.outcomes.Outcome.TheVariants.{Fault, Cut}
use Rattle.gm_ast.specs.declared.tree.Direction.TheVariants.{Out}
use Rattle.gm_ast.specs.declared.tree.Sort.TheVariants as Sort
use Rattle.gm_ast.specs.declared.tree.Stage.TheVariants.{Operator}
use Rattle.gm_ast.specs.declared.tree.Target.TheVariants as Target
use Rattle.gm_ast.specs.Program.{Const, Var, Degree, Binary, Stmt, Skip, Assign, InBfs, Program, sequence}
use Rattle.gm_semantics.specs.Outcomes.{mean}
use Rattle.gm_forms.specs.Forms.{is_levelled}
use Rattle.gm_forms.specs.Order.{is_ordered}
use Rattle.gm_bfs.specs.Levelled.{levelled}
use Rattle.gm_bfs.proofs.Rows.Notation.{place, key, declared, search, edge, graph}

abbrev program_with : Stmt → Program
program_with body = record {
  name = codes "shares";
  declarations =
      declared (codes "G") Sort.Graph V.Node 0 ∷
      declared (codes "s") Sort.Scalar V.Node 0 ∷
      declared (codes "a") Sort.NodeProperty V.I32 0 ∷
      declared (codes "v") Sort.Iterator V.Node 1 ∷ [];
  inputs = 2;
  outputs = 1;
  result = None;
  statements = 4;
  body = sequence (
      InBfs (key 1 Operator) (place 2 3) (search 3 0 1 (place 2 26)) (Binary Op2.Ne (place 2 32) (Var 3 (place 2 30)) (Var 1 (place 2 35))) body ∷ []);
}

abbrev program : Program
program = program_with (Assign (key 3 Operator) (Target.Property 3 2 (place 3 5)) (Binary Op2.Div (place 3 13) (Const (I32 (pos 6))) (Binary Op2.Sub (place 3 30) (Degree Out 3 (place 3 16)) (Const (I32 (pos 1))))))

-- 0, 1, 2 after one another: 1 has one edge out
abbrev path : NumberedGraph
path = graph (0 ∷ 1 ∷ 2 ∷ []) (edge 0 1 ∷ edge 1 2 ∷ []) [] []

form : is_levelled (levelled program) ≡ true
form = refl

ordered : is_ordered (levelled program) ≡ true
ordered = refl

-- the fault comes in the second turn
fault : mean (levelled program) path (At (Some 0) ∷ []) 2 ≡ Fault DivideByZero (place 3 13)
fault = refl

same_fault : mean program path (At (Some 0) ∷ []) 2 ≡ Fault DivideByZero (place 3 13)
same_fault = refl

-- and the cut before it
cut_first : mean (levelled program) path (At (Some 0) ∷ []) 1 ≡ Cut 1
cut_first = refl

-- a search that does nothing takes its turns all the same
idle_cut : mean (levelled (program_with Skip)) path (At (Some 0) ∷ []) 2 ≡ Cut 2
idle_cut = refl

idle_same : mean (levelled (program_with Skip)) path (At (Some 0) ∷ []) 3 ≡ mean (program_with Skip) path (At (Some 0) ∷ []) 3
idle_same = refl
