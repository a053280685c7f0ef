-- What becomes of the search of
--   Procedure reach(G: Graph, s: Node; seen: N_P<Bool>) {
--     InBFS (v: G.Nodes From s) {
--       v.seen = True;
--     }
--   }
use Rattle.std.specs.Prelude.{◌≡◌, true, false, [], ◌∷◌, pos, Some, None, refl, codes}
use Rattle.gm_value.specs.declared.values.Value.TheVariants.{Flag, At}
use Rattle.gm_value.specs.declared.faults.FaultKind.TheVariants.{NilNode}
use Rattle.gm_value.specs.declared.operations.Op2.TheVariants as Op2
use Rattle.gm_value.specs.declared.reductions.Reduce.TheVariants.{Min, Or}
use Rattle.gm_value.specs.declared.values.Value.TheVariants.{I32}
use Rattle.gm_model.specs.declared.outcomes.Outcome.TheVariants.{Done, Fault, Cut}
use Rattle.gm_ast.specs.declared.tree.Stage.TheVariants.{Inner, Operator, Total}
use Rattle.gm_ast.specs.declared.tree.Domain.TheVariants as Domain
use Rattle.gm_ast.specs.declared.tree.Target.TheVariants as Target
use Rattle.gm_ast.specs.Program.{always, Const, Var, Property, Live, Binary, Choose, Assign, Combine, Foreach, While, InBfs, Skip, Program, sequence}
use Rattle.gm_semantics.specs.Outcomes.{mean}
use Rattle.gm_bfs.proofs.Rows.Notation.{place, key, total, head, declared, search, edge, graph}
use Rattle.gm_model.specs.Graphs.{NumberedGraph}
use Rattle.gm_ast.specs.declared.tree.Sort.TheVariants as Sort
use Rattle.gm_value.specs.declared.values.VType.TheVariants as V
use Rattle.gm_forms.specs.Forms.{is_levelled}
use Rattle.gm_forms.specs.Order.{is_ordered}
use Rattle.gm_forms.specs.Sharing.{is_race_free}
use Rattle.gm_forms.specs.Typing.{has_types}
use Rattle.gm_forms.specs.Uses.{is_named}
use Rattle.gm_bfs.specs.Levelled.{levelled}

abbrev program : Program
program = record {
  name = codes "reach";
  declarations =
      declared (codes "G") Sort.Graph V.Node 0 ∷
      declared (codes "s") Sort.Scalar V.Node 0 ∷
      declared (codes "seen") Sort.NodeProperty V.Flag 0 ∷
      declared (codes "v") Sort.Iterator V.Node 1 ∷ [];
  inputs = 2;
  outputs = 1;
  result = None;
  statements = 4;
  body =
      (sequence (
      (InBfs (key 1 Operator) (place 2 3) (search 3 0 1 (place 2 26)) (Const (Flag true)) (sequence (
      (Assign (key 3 Operator) (Target.Property 3 2 (place 3 5)) (Const (Flag true))) ∷ []))) ∷ []));
}

abbrev path : NumberedGraph
path = graph (0 ∷ 1 ∷ 2 ∷ 3 ∷ []) ((edge 0 1) ∷ (edge 2 3) ∷ []) [] []

-- the fresh variables stand behind the four declared ones: 4 is the root, 5 the current level, 7 the next one, 8 whether there is more, 9 whether a node was found, 10 the level, 11 whether a node is active, 12 and 13 the iterators
tree : (levelled program).body ≡ sequence (
    sequence (
    sequence (
    Assign (key 1 Operator) (Target.Scalar 4 (place 2 26)) (Live 1 (place 2 26)) ∷
    Foreach (key 0 Inner) (place 2 26) (head 12 Domain.Nodes 0 (place 2 26)) always
    (Assign (key 1 Operator) (Target.Property 12 10 (place 2 26))
    (Choose (Binary Op2.Eq (place 2 26) (Var 12 (place 2 26)) (Var 4 (place 2 26))) (Const (I32 (pos 0))) (Const (I32 (pos 2147483647))))) ∷
    Assign (key 1 Operator) (Target.Scalar 5 (place 2 26)) (Const (I32 (pos 0))) ∷
    Assign (key 1 Operator) (Target.Scalar 8 (place 2 26)) always ∷ []) ∷
    While (key 1 Inner) (place 2 26) (Var 8 (place 2 26)) (sequence (
    Assign (key 1 Operator) (Target.Scalar 7 (place 2 26)) (Binary Op2.Add (place 2 26) (Var 5 (place 2 26)) (Const (I32 (pos 1)))) ∷
    Skip ∷
    Assign (key 1 Operator) (Target.Scalar 9 (place 2 26)) (Const (Flag false)) ∷
    Foreach (key 0 Inner) (place 2 26) (head 12 Domain.Nodes 0 (place 2 26)) always
    (Assign (key 1 Operator) (Target.Property 12 11 (place 2 26)) (Binary Op2.Eq (place 2 26) (Property 12 10 (place 2 26)) (Var 5 (place 2 26)))) ∷
    Skip ∷
    sequence (
    Foreach (key 1 Operator) (place 2 26) (head 3 Domain.Nodes 0 (place 2 26)) (Property 3 11 (place 2 26))
    (sequence (Assign (key 3 Operator) (Target.Property 3 2 (place 3 5)) (Const (Flag true)) ∷ [])) ∷
    Foreach (key 0 Inner) (place 2 26) (head 12 Domain.Nodes 0 (place 2 26)) (Property 12 11 (place 2 26))
    (Foreach (key 1 Inner) (place 2 26) (head 13 Domain.OutNbrs 12 (place 2 26)) always
    (Combine (key 1 Operator) (total (key 1 Total) (place 2 26) (place 2 26)) Min (Target.Property 13 10 (place 2 26) ∷ []) (Var 7 (place 2 26) ∷ []))) ∷ []) ∷
    Foreach (key 0 Inner) (place 2 26) (head 12 Domain.Nodes 0 (place 2 26)) always
    (Combine (key 1 Operator) (total (key 1 Total) (place 2 26) (place 2 26)) Or (Target.Scalar 9 (place 2 26) ∷ [])
    (Binary Op2.Eq (place 2 26) (Property 12 10 (place 2 26)) (Var 7 (place 2 26)) ∷ [])) ∷
    Assign (key 1 Operator) (Target.Scalar 8 (place 2 26)) (Var 9 (place 2 26)) ∷
    Assign (key 1 Operator) (Target.Scalar 5 (place 2 26)) (Var 7 (place 2 26)) ∷ [])) ∷ []) ∷ [])
tree = refl

-- it has the form without searches, and what every pass keeps
form : is_levelled (levelled program) ≡ true
form = refl

named : is_named (levelled program) ≡ true
named = refl

typed : has_types (levelled program) ≡ true
typed = refl

ordered : is_ordered (levelled program) ≡ true
ordered = refl

race_free : is_race_free (levelled program) ≡ true
race_free = refl

-- two levels, and nodes that are not reached
done : mean (levelled program) path ((At (Some 0)) ∷ []) 1000000 ≡ Done [] None (((Flag true) ∷ (Flag true) ∷ (Flag false) ∷ (Flag false) ∷ []) ∷ []) 2
done = refl

-- as many turns as the bound lets begin, and one more
within_bound : mean (levelled program) path ((At (Some 0)) ∷ []) 2 ≡ mean program path ((At (Some 0)) ∷ []) 2
within_bound = refl

cut : mean (levelled program) path ((At (Some 0)) ∷ []) 1 ≡ Cut 1
cut = refl

-- no root
nil_root : mean (levelled program) path ((At None) ∷ []) 1000000 ≡ Fault NilNode (place 2 26)
nil_root = refl
