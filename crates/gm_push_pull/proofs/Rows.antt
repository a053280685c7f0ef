-- Worked rows: on what locals rest that are reduced at once.
use Rattle.std.proofs.Common.{◌≡◌, ℕ, List, [], ◌∷◌, refl, Some, None}
use Rattle.std.specs.Prelude.{pos}
use Rattle.gm_base.specs.declared.places.Place.{Place}
use Rattle.gm_value.specs.declared.reductions.Reduce.{Reduce}
use Rattle.gm_value.specs.declared.reductions.Reduce.TheVariants.{Sum, Min}
use Rattle.gm_value.specs.declared.values.Value.TheVariants.{I32}
use Rattle.gm_ast.specs.declared.tree.Domain.{Domain}
use Rattle.gm_ast.specs.declared.tree.Domain.TheVariants.{OutNbrs, InNbrs}
use Rattle.gm_ast.specs.declared.tree.Head.{Head}
use Rattle.gm_ast.specs.declared.tree.Key.{Key}
use Rattle.gm_ast.specs.declared.tree.Stage.TheVariants.{Operator, Total}
use Rattle.gm_ast.specs.declared.tree.Target.{Target}
use Rattle.gm_ast.specs.declared.tree.Target.TheVariants as T
use Rattle.gm_ast.specs.declared.ways.Way.TheVariants.{Push, Pull, Home}
use Rattle.gm_ast.specs.Program.{Expr, Const, Var, Property, EdgeProperty, always, Stmt, Declare, DeclareEdge, Combine, If, sequence}
use Rattle.gm_ast.specs.Ways.{ways_of, edges_against}

abbrev at : ℕ → Place
at line = record { line = line; col = 1 }

abbrev key : ℕ → Key
key k = record { statement = k; stage = Operator }

-- Foreach (t: n.Nbrs) or (t: n.InNbrs). 1: the outer iterator n; 2: the inner one, t; 3, 4: the properties a and c of a node; 5: the property w of an edge; 6: the edge e; 7, 8: the locals x and y
abbrev inner : Domain → Head
inner d = record { iterator = 2; domain = d; owner = 1; place = at 2 }

abbrev number : ℕ → Expr
number n = Const (I32 (pos n))

abbrev gives : ℕ → Reduce → List Target → List Expr → Stmt
gives line op ts es = Combine (key line) (record { key = record { statement = line; stage = Total }; place = at line; shown = at line }) op ts es

-- Edge e = t.ToEdge(); Int x = e.w; Int y = 0; <what follows>
abbrev body : List Stmt → Stmt
body ss = sequence (DeclareEdge 6 2 (at 3) ∷ Declare (key 4) 7 (Some (EdgeProperty 6 5 (at 4))) ∷ Declare (key 5) 8 (Some (number 0)) ∷ ss)

-- ---- <x; y> min= <t.a; 3>; n.c += y;

-- y rests on what x held, though nothing that is written to y mentions x
abbrev compares : Stmt
compares = body (gives 6 Min (T.Scalar 7 (at 6) ∷ T.Scalar 8 (at 6) ∷ []) (Property 2 3 (at 6) ∷ number 3 ∷ []) ∷ gives 7 Sum (T.Property 1 4 (at 7) ∷ []) (Var 8 (at 7) ∷ []) ∷ [])

pulls : ways_of (inner OutNbrs) always compares ≡ Pull ∷ []
pulls = refl

refused : edges_against (inner OutNbrs) always compares ≡ at 4 ∷ []
refused = refl

-- along in-edges it is read where it is at hand
along : edges_against (inner InNbrs) always compares ≡ []
along = refl

-- ---- x min= t.a; y min= 3; n.c += y;

-- of each alone, y rests on itself
abbrev apart : Stmt
apart =
    body (gives 6 Min (T.Scalar 7 (at 6) ∷ []) (Property 2 3 (at 6) ∷ []) ∷ gives 7 Min (T.Scalar 8 (at 7) ∷ []) (number 3 ∷ []) ∷ gives 8 Sum (T.Property 1 4 (at 8) ∷ []) (Var 8 (at 8) ∷ []) ∷ [])

at-home : ways_of (inner OutNbrs) always apart ≡ Home ∷ []
at-home = refl

accepted : edges_against (inner OutNbrs) always apart ≡ []
accepted = refl

-- ---- If (t.a > 0) { Int y; n.c += y; } with an edge's value besides

-- a declaration without a value rests on the conditions around it
abbrev declares : Stmt
declares = body (If (key 6) (Property 2 3 (at 6)) (sequence (Declare (key 7) 9 None ∷ [])) (sequence []) ∷ gives 8 Sum (T.Property 1 4 (at 8) ∷ []) (Var 9 (at 8) ∷ []) ∷ [])

rests : ways_of (inner OutNbrs) always declares ≡ Pull ∷ []
rests = refl
