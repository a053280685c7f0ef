-- Programs that procedures stand for, as the definitions of typing compute them.
use Rattle.std.specs.Prelude.{◌≡◌, ℕ, List, [], ◌∷◌, pos, negsuc, Some, None, refl, codes}
use Rattle.gm_value.specs.declared.operations.Op2.TheVariants.{Add, Sub, Gt}
use Rattle.gm_value.specs.declared.reductions.Reduce.TheVariants as Reduce
use Rattle.gm_ast.specs.declared.surface.TypeWord.TheVariants as Word
use Rattle.gm_ast.specs.declared.surface.Bearer.TheVariants as Bearer
use Rattle.gm_ast.specs.declared.surface.LoopWord.TheVariants as Loop
use Rattle.gm_ast.specs.declared.surface.Range.TheVariants as Range
use Rattle.gm_ast.specs.declared.surface.ReductionWord.TheVariants as Fold
use Rattle.gm_ast.specs.declared.surface.Prefix.TheVariants.{Cast}
use Rattle.gm_ast.specs.declared.surface.Infix.TheVariants.{Op}
use Rattle.gm_ast.specs.Surface.{SurfaceProcedure, Plain, Property, Always, Number, Least, Named, Member, Method, Prefixed, Infixed, Reduction, Skip, Then, DeclareAs, Assign, Combine, Increment, Loop}
use Rattle.gm_ast.proofs.Rows.Notation.{at, name, target, head, group, procedure}
use Rattle.gm_base.specs.declared.places.Place.{Place}
use Rattle.gm_value.specs.declared.values.VType.{VType}
use Rattle.gm_value.specs.declared.values.Value.TheVariants as Value
use Rattle.gm_value.specs.declared.operations.Op1.TheVariants.{ToI32, ToI64}
use Rattle.gm_ast.specs.declared.tree.Sort.{Sort}
use Rattle.gm_ast.specs.declared.tree.Sort.TheVariants.{Graph, Iterator, Scalar, Edge, NodeProperty, EdgeProperty}
use Rattle.gm_ast.specs.declared.tree.Declaration.{Declaration}
use Rattle.gm_ast.specs.declared.tree.Domain.TheVariants as Domain
use Rattle.gm_ast.specs.declared.tree.Key.{Key}
use Rattle.gm_ast.specs.declared.tree.TotalKey.{TotalKey}
use Rattle.gm_ast.specs.declared.tree.Stage.{Stage}
use Rattle.gm_ast.specs.declared.tree.Stage.TheVariants.{Inner, Operator, Total}
use Rattle.gm_ast.specs.declared.tree.Target.TheVariants as Target
use Rattle.gm_ast.specs.Program as P
use Rattle.gm_ast.specs.Procedures.{elaborated}

-- a row of the table of declarations
abbrev pub declared : List ℕ → Sort → VType → ℕ → Declaration
declared text sort t depth = record { name = text; variable = record { sort = sort; vtype = t; depth = depth } }

-- a statement's number with a stage
abbrev pub key : ℕ → Stage → Key
key n stage = record { statement = n; stage = stage }

-- a total's key, its place, and the place that its fault shows
abbrev pub total : Key → Place → Place → TotalKey
total k place shown = record { key = k; place = place; shown = shown }

-- an Int that goes to a Long is widened; a flexible number takes the type of its target, and -INF is the least one of it:
--   Procedure f(G: Graph, a: Int, b: Long) { b = a + 1; a = -INF; b = 1 - 3000000000; }
abbrev pub numbers_text : SurfaceProcedure
numbers_text = procedure (name (codes "f") 1 11)
    ((group ((name (codes "G") 1 13) ∷ []) (Plain (at 1 16) Word.Graph None)) ∷ (group ((name (codes "a") 1 23) ∷ []) (Plain (at 1 26) Word.Int None)) ∷ (group ((name (codes "b") 1 31) ∷ []) (Plain (at 1 34) Word.Long None)) ∷ [])
    []
    None
    (Then (Assign (target (name (codes "b") 1 42) None) (at 1 44) (Infixed (at 1 48) (Op Add) (Named (name (codes "a") 1 46)) (Number (at 1 50) (pos 1)))) (Then (Assign (target (name (codes "a") 1 53) None) (at 1 55) (Least (at 1 57))) (Then (Assign (target (name (codes "b") 1 63) None) (at 1 65) (Infixed (at 1 69) (Op Sub) (Number (at 1 67) (pos 1)) (Number (at 1 71) (pos 3000000000)))) Skip)))

numbers : (elaborated numbers_text).part ≡ Some (record {
  name = codes "f";
  declarations =
      declared (codes "G") Graph VType.Node 0 ∷
      declared (codes "a") Scalar VType.I32 0 ∷
      declared (codes "b") Scalar VType.I64 0 ∷ [];
  inputs = 3;
  outputs = 0;
  result = None;
  statements = 4;
  body =
      P.Then (P.Assign (key 1 Operator) (Target.Scalar 2 (at 1 42)) (P.Unary ToI64 (at 1 44) (P.Binary Add (at 1 48) (P.Var 1 (at 1 46)) (P.Const (Value.I32 (pos 1))))))
      (P.Then (P.Assign (key 2 Operator) (Target.Scalar 1 (at 1 53)) (P.Const (Value.I32 (negsuc 2147483647))))
      (P.Then (P.Assign (key 3 Operator) (Target.Scalar 2 (at 1 63)) (P.Binary Sub (at 1 69) (P.Const (Value.I64 (pos 1))) (P.Const (Value.I64 (pos 3000000000)))))
      P.Skip));
})
numbers = refl

-- a cast to the type that a number has is the number; a flexible number is cast from the type that it takes alone:
--   Procedure f(G: Graph, a: Int, b: Long) { a = (Int) a; b = (Long) b; a = (Int) b; b = (Long) 1; }
abbrev pub casts_text : SurfaceProcedure
casts_text = procedure (name (codes "f") 1 11)
    ((group ((name (codes "G") 1 13) ∷ []) (Plain (at 1 16) Word.Graph None)) ∷ (group ((name (codes "a") 1 23) ∷ []) (Plain (at 1 26) Word.Int None)) ∷ (group ((name (codes "b") 1 31) ∷ []) (Plain (at 1 34) Word.Long None)) ∷ [])
    []
    None
    (Then (Assign (target (name (codes "a") 1 42) None) (at 1 44) (Prefixed (at 1 46) (Cast VType.I32) (Named (name (codes "a") 1 52))))
    (Then (Assign (target (name (codes "b") 1 55) None) (at 1 57) (Prefixed (at 1 59) (Cast VType.I64) (Named (name (codes "b") 1 66))))
    (Then (Assign (target (name (codes "a") 1 69) None) (at 1 71) (Prefixed (at 1 73) (Cast VType.I32) (Named (name (codes "b") 1 79))))
    (Then (Assign (target (name (codes "b") 1 82) None) (at 1 84) (Prefixed (at 1 86) (Cast VType.I64) (Number (at 1 93) (pos 1)))) Skip))))

casts : (elaborated casts_text).part ≡ Some (record {
  name = codes "f";
  declarations =
      declared (codes "G") Graph VType.Node 0 ∷
      declared (codes "a") Scalar VType.I32 0 ∷
      declared (codes "b") Scalar VType.I64 0 ∷ [];
  inputs = 3;
  outputs = 0;
  result = None;
  statements = 5;
  body =
      P.Then (P.Assign (key 1 Operator) (Target.Scalar 1 (at 1 42)) (P.Var 1 (at 1 52)))
      (P.Then (P.Assign (key 2 Operator) (Target.Scalar 2 (at 1 55)) (P.Var 2 (at 1 66)))
      (P.Then (P.Assign (key 3 Operator) (Target.Scalar 1 (at 1 69)) (P.Unary ToI32 (at 1 73) (P.Var 2 (at 1 79))))
      (P.Then (P.Assign (key 4 Operator) (Target.Scalar 2 (at 1 82)) (P.Unary ToI64 (at 1 86) (P.Const (Value.I32 (pos 1)))))
      P.Skip)));
})
casts = refl

-- in a sequential phase the filter and the braces of a reduction have numbers of their own after that of the statement, and a name is declared before the iterators of its value:
--   Procedure f(G: Graph, v: N_P<Int>) {
--     Int k = Sum(n: G.Nodes) (n.v > 1) {n.v};
--     k++;
--   }
abbrev pub sequential_text : SurfaceProcedure
sequential_text = procedure (name (codes "f") 1 11)
    ((group ((name (codes "G") 1 13) ∷ []) (Plain (at 1 16) Word.Graph None)) ∷ (group ((name (codes "v") 1 23) ∷ []) (Property (at 1 26) Bearer.Nodes (Plain (at 1 30) Word.Int None) None)) ∷ [])
    []
    None
    (Then (DeclareAs (Plain (at 2 3) Word.Int None) (name (codes "k") 2 7) (at 2 9) (Reduction (at 2 11) Fold.Sum (head (name (codes "n") 2 15) (name (codes "G") 2 18) Range.Nodes) (Infixed (at 2 32) (Op Gt) (Member (name (codes "n") 2 28) (name (codes "v") 2 30)) (Number (at 2 34) (pos 1))) (Member (name (codes "n") 2 38) (name (codes "v") 2 40)) (at 2 41))) (Then (Increment (target (name (codes "k") 3 3) None) (at 3 4)) Skip))

sequential : (elaborated sequential_text).part ≡ Some (record {
  name = codes "f";
  declarations =
      declared (codes "G") Graph VType.Node 0 ∷
      declared (codes "v") NodeProperty VType.I32 0 ∷
      declared (codes "k") Scalar VType.I32 0 ∷
      declared (codes "n") Iterator VType.Node 1 ∷ [];
  inputs = 2;
  outputs = 0;
  result = None;
  statements = 5;
  body =
      P.Then (P.Declare (key 1 Operator) 2 (Some
      (P.Folded (record { word = Fold.Sum; vtype = VType.I32; filter = key 2 Operator; body = key 3 Operator; total = total (key 3 Total) (at 2 41) (at 2 11) })
      (record { iterator = 3; domain = Domain.Nodes; owner = 0; place = (at 2 18) })
      (P.Binary Gt (at 2 32) (P.Property 3 1 (at 2 28)) (P.Const (Value.I32 (pos 1))))
      (P.Property 3 1 (at 2 38)))))
      (P.Then (P.Combine (key 4 Operator) (total (key 4 Total) (at 3 4) (at 3 4)) Reduce.Sum (Target.Scalar 2 (at 3 3) ∷ []) (P.Const (Value.I32 (pos 1)) ∷ []))
      P.Skip);
})
sequential = refl

-- in parallel code a reduction has the number of its statement and stands before its operators; of the edge only its node is kept:
--   Procedure f(G: Graph, w: E_P<Int>; p: N_P<Int>) {
--     Foreach (n: G.Nodes) {
--       n.p += Max(m: n.InNbrs) {m.p};
--       Foreach (m: n.Nbrs) {
--         Edge e = m.ToEdge();
--         m.p min= e.w;
--       }
--     }
--   }
abbrev pub parallel_text : SurfaceProcedure
parallel_text = procedure (name (codes "f") 1 11)
    ((group ((name (codes "G") 1 13) ∷ []) (Plain (at 1 16) Word.Graph None)) ∷ (group ((name (codes "w") 1 23) ∷ []) (Property (at 1 26) Bearer.Edges (Plain (at 1 30) Word.Int None) None)) ∷ [])
    ((group ((name (codes "p") 1 36) ∷ []) (Property (at 1 39) Bearer.Nodes (Plain (at 1 43) Word.Int None) None)) ∷ [])
    None
    (Then (Loop (at 2 3) Loop.Foreach (head (name (codes "n") 2 12) (name (codes "G") 2 15) Range.Nodes) Always (Then (Combine ((target (name (codes "n") 3 5) (Some (name (codes "p") 3 7))) ∷ []) Reduce.Sum (at 3 9) ((Reduction (at 3 12) Fold.Max (head (name (codes "m") 3 16) (name (codes "n") 3 19) Range.InNbrs) Always (Member (name (codes "m") 3 30) (name (codes "p") 3 32)) (at 3 33)) ∷ []) None) (Then (Loop (at 4 5) Loop.Foreach (head (name (codes "m") 4 14) (name (codes "n") 4 17) Range.Nbrs) Always (Then (DeclareAs (Plain (at 5 7) Word.Edge None) (name (codes "e") 5 12) (at 5 14) (Method (name (codes "m") 5 16) (name (codes "ToEdge") 5 18))) (Then (Combine ((target (name (codes "m") 6 7) (Some (name (codes "p") 6 9))) ∷ []) Reduce.Min (at 6 11) ((Member (name (codes "e") 6 16) (name (codes "w") 6 18)) ∷ []) None) Skip))) Skip))) Skip)

parallel : (elaborated parallel_text).part ≡ Some (record {
  name = codes "f";
  declarations =
      declared (codes "G") Graph VType.Node 0 ∷
      declared (codes "w") EdgeProperty VType.I32 0 ∷
      declared (codes "p") NodeProperty VType.I32 0 ∷
      declared (codes "n") Iterator VType.Node 1 ∷
      declared (codes "m") Iterator VType.Node 2 ∷
      declared (codes "m") Iterator VType.Node 2 ∷
      declared (codes "e") Edge VType.Node 2 ∷ [];
  inputs = 2;
  outputs = 1;
  result = None;
  statements = 8;
  body =
      P.Then (P.Foreach (key 1 Operator) (at 2 3) (record { iterator = 3; domain = Domain.Nodes; owner = 0; place = (at 2 15) }) P.always
      (P.Then (P.Combine (key 3 Operator) (total (key 3 Total) (at 3 9) (at 3 9)) Reduce.Sum (Target.Property 3 2 (at 3 5) ∷ [])
      (P.Folded (record { word = Fold.Max; vtype = VType.I32; filter = key 3 Inner; body = key 3 Inner; total = total (key 3 Inner) (at 3 33) (at 3 12) })
      (record { iterator = 4; domain = Domain.InNbrs; owner = 3; place = (at 3 19) })
      P.always
      (P.Property 4 2 (at 3 30)) ∷ []))
      (P.Then (P.Foreach (key 4 Operator) (at 4 5) (record { iterator = 5; domain = Domain.OutNbrs; owner = 3; place = (at 4 17) }) P.always
      (P.Then (P.DeclareEdge 6 5 (at 5 16))
      (P.Then (P.Combine (key 7 Operator) (total (key 7 Total) (at 6 11) (at 6 11)) Reduce.Min (Target.Property 5 2 (at 6 7) ∷ []) (P.EdgeProperty 6 1 (at 6 16) ∷ []))
      P.Skip)))
      P.Skip)))
      P.Skip;
})
parallel = refl
