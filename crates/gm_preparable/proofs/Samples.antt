-- Programs of texts once their loops are plain: what is asked of them before their loops are prepared. And programs of no text, whose iterators stand wrong or which check a node variable.
use Rattle.std.proofs.Common.{refl}
use Rattle.std.specs.Prelude.{◌≡◌, ℕ, Bool, true, false, List, [], ◌∷◌, Option, Some, None, codes, pos}
use Rattle.gm_base.specs.declared.places.Place.{Place}
use Rattle.gm_base.specs.declared.rules.Refusal.{Refusal}
use Rattle.gm_value.specs.declared.reductions.Reduce.TheVariants.{Sum, Max}
use Rattle.gm_value.specs.declared.values.Value.TheVariants.{I32}
use Rattle.gm_value.specs.declared.values.VType.{VType}
use Rattle.gm_value.specs.declared.values.VType.TheVariants as V
use Rattle.gm_ast.specs.declared.surface.TypeWord.TheVariants as Word
use Rattle.gm_ast.specs.declared.surface.Bearer.TheVariants.{Nodes}
use Rattle.gm_ast.specs.declared.surface.Range.TheVariants as Range
use Rattle.gm_ast.specs.declared.surface.LoopWord.TheVariants as Loop
use Rattle.gm_ast.specs.declared.surface.ReductionWord.TheVariants as Words
use Rattle.gm_ast.specs.declared.tree.Declaration.{Declaration}
use Rattle.gm_ast.specs.declared.tree.Domain.TheVariants as Domain
use Rattle.gm_ast.specs.declared.tree.Key.{Key}
use Rattle.gm_ast.specs.declared.tree.Sort.{Sort}
use Rattle.gm_ast.specs.declared.tree.Sort.TheVariants as Sorts
use Rattle.gm_ast.specs.declared.tree.Stage.TheVariants.{Operator}
use Rattle.gm_ast.specs.declared.tree.Target.TheVariants as T
use Rattle.gm_ast.specs.Surface.{SurfaceName, SurfaceType, Plain, Property, SurfaceTarget, Always, Number, Member, Reduction, SurfaceStmt, SurfaceProcedure, Skip, Then, DeclareAs, Assign, Combine, Loop, InBfs}
use Rattle.gm_ast.specs.Program as P
use Rattle.gm_ast.specs.Program.{Expr, Stmt, Program}
use Rattle.gm_ast.specs.Races.{races}
use Rattle.gm_ast.specs.Canonical.{uncanonical}
use Rattle.gm_ast.specs.Procedures.{elaborated}
use Rattle.gm_desugaring.specs.Desugaring.{with_plain_loops}
use Rattle.gm_bfs.specs.Levelled.{levelled}
use Rattle.gm_parting.specs.Iterators.{has_iterators_apart}
use Rattle.gm_parting.specs.Locals.{has_no_checks}
use Rattle.gm_parting.specs.Tuples.{has_even_tuples}
use Rattle.gm_preparable.specs.Even.{has_even_reductions}

-- ---- texts

-- places ascend along the text
abbrev at : ℕ → Place
at n = record { line = 1; col = n }

abbrev name : List ℕ → ℕ → SurfaceName
name text n = record { text = text; place = at n }

abbrev whole : SurfaceType
whole = Plain (at 1) Word.Int None

abbrev of_nodes : SurfaceType
of_nodes = Property (at 1) Nodes whole None

-- a procedure over a graph G from a node s, with the outputs a and b
abbrev procedure : SurfaceStmt → SurfaceProcedure
procedure body = record {
  name = name (codes "f") 1;
  inputs = record { names = name (codes "G") 1 ∷ []; vtype = Plain (at 1) Word.Graph None } ∷ (record { names = name (codes "s") 1 ∷ []; vtype = Plain (at 1) Word.Node None } ∷ []);
  outputs = record { names = name (codes "a") 1 ∷ (name (codes "b") 1 ∷ []); vtype = of_nodes } ∷ [];
  result = None;
  body = body;
}

abbrev is_empty : List Refusal → Bool
is_empty [] = true
is_empty (x ∷ xs) = false

-- what is asked of a program before its loops are prepared, of which the last may be asked of its text
abbrev asked : Program → List Bool
asked p = let q = levelled (with_plain_loops p) in has_iterators_apart q ∷ (has_no_checks q ∷ (has_even_tuples q ∷ (has_even_reductions p ∷ [])))

abbrev told_of : Option Program → List Bool
told_of None = []
told_of (Some p) = is_empty (races p) ∷ (is_empty (uncanonical p) ∷ asked p)

-- whether a procedure breaks no rule of types, of races, of form, and then what is asked
abbrev verdict : SurfaceStmt → List Bool
verdict body = let e = elaborated (procedure body) in is_empty e.broken ∷ told_of e.part

abbrev through : List ℕ → List ℕ → ℕ → SurfaceTarget
through x p n = record { owner = name x n; property = Some (name p n) }

abbrev alone : List ℕ → ℕ → SurfaceTarget
alone x n = record { owner = name x n; property = None }

-- s.a = 1; InBFS (v: G.Nodes From s) { v.a = Sum (w: v.UpNbrs) { w.a }; }
-- the node s is checked, a loop over nodes writes there, and reductions and searches become loops
everything : verdict (Then (Assign (through (codes "s") (codes "a") 2) (at 2) (Number (at 2) (pos 1)))
    (Then (InBfs (at 2) (name (codes "v") 2) (name (codes "G") 2) (name (codes "s") 2) Always
    (Then (Assign (through (codes "v") (codes "a") 3) (at 4)
    (Reduction (at 5) Words.Sum (record { iterator = name (codes "w") 6; owner = name (codes "v") 7; range = Range.UpNbrs }) Always (Member (name (codes "w") 8) (name (codes "a") 9)) (at 10))) Skip)) Skip))
    ≡ true ∷ true ∷ true ∷ true ∷ true ∷ true ∷ true ∷ []
everything = refl

-- Int t = 0; Foreach (n: G.Nodes) { Int l = 0; <t, l> max= <1, 2>; Foreach (m: n.Nbrs) { m.b += n.a; } }
-- a text may reduce scalars together that are declared inside different loops
uneven : verdict (Then (DeclareAs whole (name (codes "t") 2) (at 2) (Number (at 2) (pos 0)))
    (Then (Loop (at 3) Loop.Foreach (record { iterator = name (codes "n") 3; owner = name (codes "G") 3; range = Range.Nodes }) Always
    (Then (DeclareAs whole (name (codes "l") 4) (at 4) (Number (at 4) (pos 0)))
    (Then (Combine (alone (codes "t") 6 ∷ (alone (codes "l") 7 ∷ [])) Max (at 8) (Number (at 9) (pos 1) ∷ (Number (at 10) (pos 2) ∷ [])) None)
    (Then (Loop (at 11) Loop.Foreach (record { iterator = name (codes "m") 11; owner = name (codes "n") 11; range = Range.Nbrs }) Always
    (Then (Combine (through (codes "m") (codes "b") 12 ∷ []) Sum (at 13) (Member (name (codes "n") 14) (name (codes "a") 14) ∷ []) None) Skip)) Skip)))) Skip))
    ≡ true ∷ true ∷ true ∷ true ∷ true ∷ false ∷ false ∷ []
uneven = refl

-- Foreach (n: G.Nodes) { Int l = 0; Int r = 0; <l, r> max= <1, 2>; Foreach (m: n.Nbrs) { <m.a, m.b> max= <1, 2>; } }
-- locals together, and properties together
even : verdict (Then (Loop (at 3) Loop.Foreach (record { iterator = name (codes "n") 3; owner = name (codes "G") 3; range = Range.Nodes }) Always
    (Then (DeclareAs whole (name (codes "l") 4) (at 4) (Number (at 4) (pos 0)))
    (Then (DeclareAs whole (name (codes "r") 5) (at 5) (Number (at 5) (pos 0)))
    (Then (Combine (alone (codes "l") 6 ∷ (alone (codes "r") 7 ∷ [])) Max (at 8) (Number (at 9) (pos 1) ∷ (Number (at 10) (pos 2) ∷ [])) None)
    (Then (Loop (at 11) Loop.Foreach (record { iterator = name (codes "m") 11; owner = name (codes "n") 11; range = Range.Nbrs }) Always
    (Then (Combine (through (codes "m") (codes "a") 12 ∷ (through (codes "m") (codes "b") 13 ∷ [])) Max (at 14) (Number (at 15) (pos 1) ∷ (Number (at 16) (pos 2) ∷ [])) None) Skip)) Skip))))) Skip)
    ≡ true ∷ true ∷ true ∷ true ∷ true ∷ true ∷ true ∷ []
even = refl

-- ---- programs of no text

abbrev declared : Sort → VType → ℕ → Declaration
declared sort t depth = record { name = []; variable = record { sort = sort; vtype = t; depth = depth } }

abbrev key : Key
key = record { statement = 1; stage = Operator }

-- over a graph 0, with the node properties 1 and 2, the iterators 3 and 4, and a node variable 5
abbrev program : Stmt → Program
program body = record {
  name = [];
  declarations =
      declared Sorts.Graph V.Node 0 ∷ declared Sorts.NodeProperty V.I32 0 ∷ declared Sorts.NodeProperty V.I32 0 ∷ declared Sorts.Iterator V.Node 1 ∷ declared Sorts.Iterator V.Node 2
      ∷ declared Sorts.Scalar V.Node 0 ∷ [];
  inputs = 1;
  outputs = 0;
  result = None;
  statements = 2;
  body = body;
}

-- a loop over nodes, and one within it along edges
abbrev over : ℕ → Stmt → Stmt
over n body = P.Foreach key (at 1) (record { iterator = n; domain = Domain.Nodes; owner = 0; place = at 1 }) P.always body

abbrev along : ℕ → ℕ → Stmt → Stmt
along n m body = P.Foreach key (at 1) (record { iterator = m; domain = Domain.OutNbrs; owner = n; place = at 1 }) P.always body

abbrev push : ℕ → Expr → Stmt
push m e = P.Combine key (record { key = key; place = at 1; shown = at 1 }) Sum (T.Property m 2 (at 1) ∷ []) (e ∷ [])

-- Foreach (n: G.Nodes) { Foreach (m: n.Nbrs) { m.q += n.p; } }, and the same with m and n exchanged
abbrev both : Program
both = program (P.Then (over 3 (along 3 4 (push 4 (P.Property 3 1 (at 1))))) (over 4 (along 4 3 (push 3 (P.Property 4 1 (at 1))))))

both-asked : asked both ≡ false ∷ true ∷ true ∷ true ∷ []
both-asked = refl

-- Foreach (n: G.Nodes) { Foreach (m: n.Nbrs) { m.q += 1, or 2; } }, by a check of the node variable x
abbrev checking : Program
checking = program (over 3 (along 3 4 (push 4 (P.Choose (P.Live 5 (at 1)) (P.Const (I32 (pos 1))) (P.Const (I32 (pos 2)))))))

checking-asked : asked checking ≡ true ∷ false ∷ true ∷ true ∷ []
checking-asked = refl
