-- What becomes of the search of
--   Procedure depths(G: Graph, s: Node; depth, last: N_P<Int>) {
--     Foreach (n: G.Nodes) { n.depth = n == s ? 1 : 0; }
--     InBFS (v: G.Nodes From s) (v != s) {
--       Int most = 0;
--       Foreach (w: v.UpNbrs) { most max= w.depth + 1; }
--       v.depth = most;
--     } InReverse {
--       Int count = 0;
--       Foreach (w: v.DownNbrs) (w.last == 0) { count += 1; }
--       v.last = count;
--     }
--   }
use Rattle.std.specs.Prelude.{◌≡◌, true, false, [], ◌∷◌, pos, Some, None, refl, codes}
use Rattle.gm_value.specs.declared.values.VType.TheVariants as V
use Rattle.gm_value.specs.declared.values.Value.TheVariants.{I32, Flag, At}
use Rattle.gm_value.specs.declared.operations.Op2.TheVariants as Op2
use Rattle.gm_value.specs.declared.reductions.Reduce.TheVariants.{Sum, Max}
use Rattle.gm_model.specs.Graphs.{NumberedGraph}
use Rattle.gm_model.specs.declared.outcomes.Outcome.TheVariants.{Done, Cut}
use Rattle.gm_ast.specs.declared.tree.Sort.TheVariants as Sort
use Rattle.gm_ast.specs.declared.tree.Stage.TheVariants.{Operator, Total}
use Rattle.gm_ast.specs.declared.tree.Domain.TheVariants as Domain
use Rattle.gm_ast.specs.declared.tree.Target.TheVariants as Target
use Rattle.gm_ast.specs.Program.{Expr, always, Const, Var, Property, Binary, Both, Choose, Stmt, Declare, Assign, Combine, Foreach, InBfsBoth, Program, sequence}
use Rattle.gm_semantics.specs.Outcomes.{mean}
use Rattle.gm_forms.specs.Forms.{is_desugared, is_levelled}
use Rattle.gm_forms.specs.Order.{is_ordered}
use Rattle.gm_forms.specs.Sharing.{is_race_free}
use Rattle.gm_forms.specs.Typing.{has_types}
use Rattle.gm_forms.specs.Uses.{is_named}
use Rattle.gm_bfs.specs.Variables.{fresh_from}
use Rattle.gm_bfs.specs.Copies.{copied, asks_up, asks_down}
use Rattle.gm_bfs.specs.Searches.{by_levels}
use Rattle.gm_bfs.specs.Levelled.{levelled}
use Rattle.gm_bfs.proofs.Rows.Notation.{place, key, total, declared, head, search, edge, graph}

-- the body of the first part, and that of the way back
abbrev most : Stmt
most = sequence (
    Declare (key 5 Operator) 6 (Some (Const (I32 (pos 0)))) ∷
    Foreach (key 6 Operator) (place 5 5) (head 7 Domain.UpNbrs 5 (place 5 17)) always
    (Combine (key 7 Operator) (total (key 7 Total) (place 5 34) (place 5 34)) Max (Target.Scalar 6 (place 5 29) ∷ []) (Binary Op2.Add (place 5 47) (Property 7 2 (place 5 39)) (Const (I32 (pos 1))) ∷ [])) ∷
    Assign (key 8 Operator) (Target.Property 5 2 (place 6 5)) (Var 6 (place 6 15)) ∷ [])

abbrev count : Stmt
count = sequence (
    Declare (key 10 Operator) 8 (Some (Const (I32 (pos 0)))) ∷
    Foreach (key 11 Operator) (place 9 5) (head 9 Domain.DownNbrs 5 (place 9 17)) (Binary Op2.Eq (place 9 36) (Property 9 3 (place 9 29)) (Const (I32 (pos 0))))
    (Combine (key 12 Operator) (total (key 12 Total) (place 9 50) (place 9 50)) Sum (Target.Scalar 8 (place 9 44) ∷ []) (Const (I32 (pos 1)) ∷ [])) ∷
    Assign (key 13 Operator) (Target.Property 5 3 (place 10 5)) (Var 8 (place 10 14)) ∷ [])

abbrev program : Program
program = record {
  name = codes "depths";
  declarations =
      declared (codes "G") Sort.Graph V.Node 0 ∷
      declared (codes "s") Sort.Scalar V.Node 0 ∷
      declared (codes "depth") Sort.NodeProperty V.I32 0 ∷
      declared (codes "last") Sort.NodeProperty V.I32 0 ∷
      declared (codes "n") Sort.Iterator V.Node 1 ∷
      declared (codes "v") Sort.Iterator V.Node 1 ∷
      declared (codes "most") Sort.Scalar V.I32 1 ∷
      declared (codes "w") Sort.Iterator V.Node 2 ∷
      declared (codes "count") Sort.Scalar V.I32 1 ∷
      declared (codes "w") Sort.Iterator V.Node 2 ∷ [];
  inputs = 2;
  outputs = 2;
  result = None;
  statements = 14;
  body = sequence (
      Foreach (key 1 Operator) (place 2 3) (head 4 Domain.Nodes 0 (place 2 15)) always
      (Assign (key 2 Operator) (Target.Property 4 2 (place 2 26)) (Choose (Binary Op2.Eq (place 2 38) (Var 4 (place 2 36)) (Var 1 (place 2 41))) (Const (I32 (pos 1))) (Const (I32 (pos 0))))) ∷
      InBfsBoth (key 3 Operator) (place 3 3) (search 5 0 1 (place 3 26)) (Binary Op2.Ne (place 3 32) (Var 5 (place 3 30)) (Var 1 (place 3 35))) most
      (key 9 Operator) always count ∷ []);
}

-- the first part reads depth on the level above while it changes it, and copies it; the way back copies last
most_copies : copied 10 most ≡ false ∷ false ∷ true ∷ false ∷ false ∷ false ∷ false ∷ false ∷ false ∷ false ∷ []
most_copies = refl

count_copies : copied 10 count ≡ false ∷ false ∷ false ∷ true ∷ false ∷ false ∷ false ∷ false ∷ false ∷ false ∷ []
count_copies = refl

most_asks : asks_up most ≡ true
most_asks = refl

most_does_not : asks_down most ≡ false
most_does_not = refl

-- neighbours on the level above are the starts of edges whose level (16) is that above (12), and the copy of depth (2) is 22
most_by_levels : by_levels (fresh_from 10) (copied 10 most) most ≡ sequence (
    Declare (key 5 Operator) 6 (Some (Const (I32 (pos 0)))) ∷
    Foreach (key 6 Operator) (place 5 5) (head 7 Domain.InNbrs 5 (place 5 17)) (Binary Op2.Eq (place 5 17) (Property 7 16 (place 5 17)) (Var 12 (place 5 17)))
    (Combine (key 7 Operator) (total (key 7 Total) (place 5 34) (place 5 34)) Max (Target.Scalar 6 (place 5 29) ∷ []) (Binary Op2.Add (place 5 47) (Property 7 22 (place 5 39)) (Const (I32 (pos 1))) ∷ [])) ∷
    Assign (key 8 Operator) (Target.Property 5 2 (place 6 5)) (Var 6 (place 6 15)) ∷ [])
most_by_levels = refl

-- those on the level below (13) are ends of edges, with the filter behind
count_by_levels : by_levels (fresh_from 10) (copied 10 count) count ≡ sequence (
    Declare (key 10 Operator) 8 (Some (Const (I32 (pos 0)))) ∷
    Foreach (key 11 Operator) (place 9 5) (head 9 Domain.OutNbrs 5 (place 9 17))
    (Both (Binary Op2.Eq (place 9 17) (Property 9 16 (place 9 17)) (Var 13 (place 9 17))) (Binary Op2.Eq (place 9 36) (Property 9 23 (place 9 29)) (Const (I32 (pos 0)))))
    (Combine (key 12 Operator) (total (key 12 Total) (place 9 50) (place 9 50)) Sum (Target.Scalar 8 (place 9 44) ∷ []) (Const (I32 (pos 1)) ∷ [])) ∷
    Assign (key 13 Operator) (Target.Property 5 3 (place 10 5)) (Var 8 (place 10 14)) ∷ [])
count_by_levels = refl

-- what goes in and what comes out
before : is_desugared program ≡ true
before = refl

form : is_levelled (levelled program) ≡ true
form = refl

named : is_named (levelled program) ≡ true
named = refl

typed : has_types (levelled program) ≡ true
typed = refl

ordered : is_ordered (levelled program) ≡ true
ordered = refl

race_free : is_race_free (levelled program) ≡ true
race_free = refl

-- two ways from 0 to 3, and a node that is not reached
abbrev diamond : NumberedGraph
diamond = graph (0 ∷ 1 ∷ 2 ∷ 3 ∷ 4 ∷ []) (edge 0 1 ∷ edge 0 2 ∷ edge 1 3 ∷ edge 2 3 ∷ edge 4 0 ∷ []) [] []

done : mean (levelled program) diamond (At (Some 0) ∷ []) 1000000
    ≡ Done [] None ((I32 (pos 1) ∷ I32 (pos 2) ∷ I32 (pos 2) ∷ I32 (pos 3) ∷ I32 (pos 0) ∷ []) ∷ (I32 (pos 0) ∷ I32 (pos 1) ∷ I32 (pos 1) ∷ I32 (pos 0) ∷ I32 (pos 0) ∷ []) ∷ []) 6
done = refl

same : mean (levelled program) diamond (At (Some 0) ∷ []) 6 ≡ mean program diamond (At (Some 0) ∷ []) 6
same = refl

cut_on_the_way_back : mean (levelled program) diamond (At (Some 0) ∷ []) 5 ≡ Cut 5
cut_on_the_way_back = refl

cut_on_the_way : mean (levelled program) diamond (At (Some 0) ∷ []) 2 ≡ Cut 2
cut_on_the_way = refl
