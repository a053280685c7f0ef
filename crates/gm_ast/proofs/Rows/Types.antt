-- Verdicts that the definitions of typing compute: each rule once, and the choices that decide between two.
use Rattle.std.specs.Prelude.{◌≡◌, [], ◌∷◌, true, pos, Some, None, refl, codes}
use Rattle.gm_base.specs.declared.rules.Rule.TheVariants.{T1, T2, T3, T4, T5, T6, T7, T8, T9, T10, T11, T12, T13, T14}
use Rattle.gm_value.specs.declared.operations.Op2.TheVariants.{Add, Lt}
use Rattle.gm_value.specs.declared.reductions.Reduce.TheVariants as Reduce
use Rattle.gm_ast.specs.declared.surface.TypeWord.TheVariants as Word
use Rattle.gm_ast.specs.declared.surface.Bearer.TheVariants as Bearer
use Rattle.gm_ast.specs.declared.surface.LoopWord.TheVariants as Loop
use Rattle.gm_ast.specs.declared.surface.Range.TheVariants as Range
use Rattle.gm_ast.specs.declared.surface.ReductionWord.TheVariants as Fold
use Rattle.gm_ast.specs.declared.surface.Prefix.TheVariants.{Minus}
use Rattle.gm_ast.specs.declared.surface.Infix.TheVariants.{Op}
use Rattle.gm_ast.specs.Surface.{SurfaceStmt, SurfaceProcedure, Plain, Property, Always, Number, Truth, Least, Named, Method, Paren, Prefixed, Infixed, Choose, Reduction, Skip, Then, Declare, DeclareAs, Assign, Defer, Combine, Increment, Loop, If, Return}
use Rattle.gm_ast.proofs.Rows.Notation.{at, name, target, head, group, procedure, verdict, refused_at}

-- a procedure whose second line is some statements, after the line
--   Procedure f(G: Graph, a: Int, b: Long, c: Bool, s: Node, v: N_P<Int>, w: E_P<Int>; p: N_P<Int>, q: N_P<Long>, r: N_P<Bool>, t: N_P<Node>): Int {
abbrev pub in_body : SurfaceStmt → SurfaceProcedure
in_body = procedure (name (codes "f") 1 11)
    ((group ((name (codes "G") 1 13) ∷ []) (Plain (at 1 16) Word.Graph None)) ∷ (group ((name (codes "a") 1 23) ∷ []) (Plain (at 1 26) Word.Int None)) ∷ (group ((name (codes "b") 1 31) ∷ []) (Plain (at 1 34) Word.Long None)) ∷ (group ((name (codes "c") 1 40) ∷ []) (Plain (at 1 43) Word.Bool None)) ∷ (group ((name (codes "s") 1 49) ∷ []) (Plain (at 1 52) Word.Node None)) ∷ (group ((name (codes "v") 1 58) ∷ []) (Property (at 1 61) Bearer.Nodes (Plain (at 1 65) Word.Int None) None)) ∷ (group ((name (codes "w") 1 71) ∷ []) (Property (at 1 74) Bearer.Edges (Plain (at 1 78) Word.Int None) None)) ∷ [])
    ((group ((name (codes "p") 1 84) ∷ []) (Property (at 1 87) Bearer.Nodes (Plain (at 1 91) Word.Int None) None)) ∷ (group ((name (codes "q") 1 97) ∷ []) (Property (at 1 100) Bearer.Nodes (Plain (at 1 104) Word.Long None) None)) ∷ (group ((name (codes "r") 1 111) ∷ []) (Property (at 1 114) Bearer.Nodes (Plain (at 1 118) Word.Bool None) None)) ∷ (group ((name (codes "t") 1 125) ∷ []) (Property (at 1 128) Bearer.Nodes (Plain (at 1 132) Word.Node None) None)) ∷ [])
    (Some (Plain (at 1 140) Word.Int None))

-- a name that is not known; the sum around it is not judged:
--   a = True + y;
unknown_name : verdict (in_body (Then (Assign (target (name (codes "a") 2 1) None) (at 2 3) (Infixed (at 2 10) (Op Add) (Truth (at 2 5) true) (Named (name (codes "y") 2 12)))) Skip)) ≡ Some (refused_at T1 2 12)
unknown_name = refl

-- a name is not known in its own initial value:
--   Int k = k;
own_value : verdict (in_body (Then (DeclareAs (Plain (at 2 1) Word.Int None) (name (codes "k") 2 5) (at 2 7) (Named (name (codes "k") 2 9))) Skip)) ≡ Some (refused_at T1 2 9)
own_value = refl

-- a branch that is no block is a scope of its own:
--   If (c) Int k = 1; Else k = 2;
branch_ends : verdict (in_body (Then (If (at 2 1) (Named (name (codes "c") 2 5)) (DeclareAs (Plain (at 2 8) Word.Int None) (name (codes "k") 2 12) (at 2 14) (Number (at 2 16) (pos 1))) (Assign (target (name (codes "k") 2 24) None) (at 2 26) (Number (at 2 28) (pos 2)))) Skip)) ≡ Some (refused_at T1 2 24)
branch_ends = refl

-- a name that is known already:
--   Int a = True;
known_name : verdict (in_body (Then (DeclareAs (Plain (at 2 1) Word.Int None) (name (codes "a") 2 5) (at 2 7) (Truth (at 2 9) true)) Skip)) ≡ Some (refused_at T2 2 5)
known_name = refl

-- an iterator that is known already leaves the reduction its type, which its target is judged by:
--   c = Sum(c: G.Nodes) {1};
iterator_known : verdict (in_body (Then (Assign (target (name (codes "c") 2 1) None) (at 2 3) (Reduction (at 2 5) Fold.Sum (head (name (codes "c") 2 9) (name (codes "G") 2 12) Range.Nodes) Always (Number (at 2 22) (pos 1)) (at 2 23))) Skip)) ≡ Some (refused_at T9 2 3)
iterator_known = refl

-- no graph among the inputs:
--   Procedure f(a: Int, a: Int) { }
no_graph : verdict (procedure (name (codes "f") 1 11)
    ((group ((name (codes "a") 1 13) ∷ []) (Plain (at 1 16) Word.Int None)) ∷ (group ((name (codes "a") 1 21) ∷ []) (Plain (at 1 24) Word.Int None)) ∷ [])
    []
    None
    Skip) ≡ Some (refused_at T3 1 11)
no_graph = refl

-- an edge in a property:
--   N_P<Edge> k;
edge_inside : verdict (in_body (Then (Declare (Property (at 2 1) Bearer.Nodes (Plain (at 2 5) Word.Edge None) None) ((name (codes "k") 2 11) ∷ [])) Skip)) ≡ Some (refused_at T4 2 5)
edge_inside = refl

-- a property that is declared in parallel code:
--   Foreach (n: G.Nodes) { N_P<Int> k; }
property_in_parallel : verdict (in_body (Then (Loop (at 2 1) Loop.Foreach (head (name (codes "n") 2 10) (name (codes "G") 2 13) Range.Nodes) Always (Then (Declare (Property (at 2 24) Bearer.Nodes (Plain (at 2 28) Word.Int None) None) ((name (codes "k") 2 33) ∷ [])) Skip)) Skip)) ≡ Some (refused_at T4 2 24)
property_in_parallel = refl

-- a known name after a type that is not the graph:
--   N_P<Int>(a) k;
not_the_graph : verdict (in_body (Then (Declare (Property (at 2 1) Bearer.Nodes (Plain (at 2 5) Word.Int None) (Some (name (codes "a") 2 10))) ((name (codes "k") 2 13) ∷ [])) Skip)) ≡ Some (refused_at T5 2 10)
not_the_graph = refl

-- of two declarations of one name the first one counts, here the graph:
--   Procedure f(x: N_P<Int>(H), H: Graph, H: Int) { }
first_stands : verdict (procedure (name (codes "f") 1 11)
    ((group ((name (codes "x") 1 13) ∷ []) (Property (at 1 16) Bearer.Nodes (Plain (at 1 20) Word.Int None) (Some (name (codes "H") 1 25)))) ∷ (group ((name (codes "H") 1 29) ∷ []) (Plain (at 1 32) Word.Graph None)) ∷ (group ((name (codes "H") 1 39) ∷ []) (Plain (at 1 42) Word.Int None)) ∷ [])
    []
    None
    Skip) ≡ Some (refused_at T2 1 39)
first_stands = refl

-- in a group assignment the graph is no node whose neighbours are asked:
--   G.p = Count(n: G.Nbrs);
neighbours_of_graph : verdict (in_body (Then (Assign (target (name (codes "G") 2 1) (Some (name (codes "p") 2 3))) (at 2 5) (Reduction (at 2 7) Fold.Count (head (name (codes "n") 2 13) (name (codes "G") 2 16) Range.Nbrs) Always Always (at 2 7))) Skip)) ≡ Some (refused_at T6 2 16)
neighbours_of_graph = refl

-- a reduction whose range breaks a rule is not judged:
--   b = Sum(n: a.Nbrs) {True};
range_without_type : verdict (in_body (Then (Assign (target (name (codes "b") 2 1) None) (at 2 3) (Reduction (at 2 5) Fold.Sum (head (name (codes "n") 2 9) (name (codes "a") 2 12) Range.Nbrs) Always (Truth (at 2 21) true) (at 2 25))) Skip)) ≡ Some (refused_at T6 2 12)
range_without_type = refl

-- a property alone is no value, in a group assignment neither:
--   G.p = v;
property_alone : verdict (in_body (Then (Assign (target (name (codes "G") 2 1) (Some (name (codes "p") 2 3))) (at 2 5) (Named (name (codes "v") 2 7))) Skip)) ≡ Some (refused_at T7 2 7)
property_alone = refl

-- ToEdge() in a part of the value:
--   Edge e = c ? s.ToEdge() : s.ToEdge();
edge_of_choice : verdict (in_body (Then (DeclareAs (Plain (at 2 1) Word.Edge None) (name (codes "e") 2 6) (at 2 8) (Choose (at 2 12) (Named (name (codes "c") 2 10)) (Method (name (codes "s") 2 14) (name (codes "ToEdge") 2 16)) (Method (name (codes "s") 2 27) (name (codes "ToEdge") 2 29)))) Skip)) ≡ Some (refused_at T7 2 14)
edge_of_choice = refl

-- operands that do not fit; the sum around them is not judged:
--   a = a + True + y;
operands : verdict (in_body (Then (Assign (target (name (codes "a") 2 1) None) (at 2 3) (Infixed (at 2 14) (Op Add) (Infixed (at 2 7) (Op Add) (Named (name (codes "a") 2 5)) (Truth (at 2 9) true)) (Named (name (codes "y") 2 16)))) Skip)) ≡ Some (refused_at T8 2 7)
operands = refl

-- a literal is judged before the minus, and its target is not:
--   a = -2147483648;
literal : verdict (in_body (Then (Assign (target (name (codes "a") 2 1) None) (at 2 3) (Prefixed (at 2 5) Minus (Number (at 2 6) (pos 2147483648)))) Skip)) ≡ Some (refused_at T8 2 6)
literal = refl

-- a number for a Bool:
--   c = 0;
flexible_for_bool : verdict (in_body (Then (Assign (target (name (codes "c") 2 1) None) (at 2 3) (Number (at 2 5) (pos 0))) Skip)) ≡ Some (refused_at T9 2 3)
flexible_for_bool = refl

-- an edge that is declared without ToEdge():
--   Edge k;
edge_without_value : verdict (in_body (Then (Declare (Plain (at 2 1) Word.Edge None) ((name (codes "k") 2 6) ∷ [])) Skip)) ≡ Some (refused_at T9 2 6)
edge_without_value = refl

-- a condition is judged at its parenthesis:
--   If ((a)) { }
condition : verdict (in_body (Then (If (at 2 1) (Paren (at 2 5) (Named (name (codes "a") 2 6))) Skip Skip) Skip)) ≡ Some (refused_at T10 2 5)
condition = refl

-- a Bool that is incremented:
--   c++;
incremented_bool : verdict (in_body (Then (Increment (target (name (codes "c") 2 1) None) (at 2 2)) Skip)) ≡ Some (refused_at T11 2 2)
incremented_bool = refl

-- a value that fits a target which its reduction does not:
--   c += True;
reduction_for_bool : verdict (in_body (Then (Combine ((target (name (codes "c") 2 1) None) ∷ []) Reduce.Sum (at 2 3) ((Truth (at 2 6) true) ∷ []) None) Skip)) ≡ Some (refused_at T11 2 3)
reduction_for_bool = refl

-- a target is judged whatever its value is:
--   Foreach (n: G.Nodes) { n = y; }
iterator_written : verdict (in_body (Then (Loop (at 2 1) Loop.Foreach (head (name (codes "n") 2 10) (name (codes "G") 2 13) Range.Nodes) Always (Then (Assign (target (name (codes "n") 2 24) None) (at 2 26) (Named (name (codes "y") 2 28))) Skip)) Skip)) ≡ Some (refused_at T12 2 24)
iterator_written = refl

-- a name after @ that is no iterator:
--   Foreach (n: G.Nodes) { n.p <= 1 @ s; }
no_iterator : verdict (in_body (Then (Loop (at 2 1) Loop.Foreach (head (name (codes "n") 2 10) (name (codes "G") 2 13) Range.Nodes) Always (Then (Defer (target (name (codes "n") 2 24) (Some (name (codes "p") 2 26))) (at 2 28) (Number (at 2 31) (pos 1)) (Some (name (codes "s") 2 35))) Skip)) Skip)) ≡ Some (refused_at T13 2 35)
no_iterator = refl

-- a value that does not fit the result:
--   Return True;
returned : verdict (in_body (Then (Return (at 2 1) (Some (Truth (at 2 8) true))) Skip)) ≡ Some (refused_at T14 2 1)
returned = refl

-- each form of literal where it fits:
--   a = 1 < 3000000000 ? 2147483647 : -INF; b = b + 2147483648; G.t = G; b = Sum(n: s.Nbrs) {3000000000};
accepted : verdict (in_body (Then (Assign (target (name (codes "a") 2 1) None) (at 2 3) (Choose (at 2 20) (Infixed (at 2 7) (Op Lt) (Number (at 2 5) (pos 1)) (Number (at 2 9) (pos 3000000000))) (Number (at 2 22) (pos 2147483647)) (Least (at 2 35)))) (Then (Assign (target (name (codes "b") 2 41) None) (at 2 43) (Infixed (at 2 47) (Op Add) (Named (name (codes "b") 2 45)) (Number (at 2 49) (pos 2147483648)))) (Then (Assign (target (name (codes "G") 2 61) (Some (name (codes "t") 2 63))) (at 2 65) (Named (name (codes "G") 2 67))) (Then (Assign (target (name (codes "b") 2 70) None) (at 2 72) (Reduction (at 2 74) Fold.Sum (head (name (codes "n") 2 78) (name (codes "s") 2 81) Range.Nbrs) Always (Number (at 2 90) (pos 3000000000)) (at 2 100))) Skip))))) ≡ None
accepted = refl
