-- Accesses as checks and loops: through a node variable behind a check, through the iterator of a For around without one.
use Rattle.std.specs.Prelude.{◌≡◌, ℕ, [], ◌∷◌, List, refl}
use Rattle.gm_base.specs.declared.places.Place.{Place}
use Rattle.gm_value.specs.declared.operations.Op2.TheVariants.{Eq}
use Rattle.gm_value.specs.declared.values.VType.{VType}
use Rattle.gm_value.specs.declared.values.VType.TheVariants as V
use Rattle.gm_ast.specs.declared.surface.ReductionWord.{ReductionWord}
use Rattle.gm_ast.specs.declared.surface.ReductionWord.TheVariants.{Max, Exist}
use Rattle.gm_ast.specs.declared.tree.Declaration.{Declaration}
use Rattle.gm_ast.specs.declared.tree.Direction.TheVariants.{Out}
use Rattle.gm_ast.specs.declared.tree.Domain.TheVariants.{Nodes}
use Rattle.gm_ast.specs.declared.tree.Head.{Head}
use Rattle.gm_ast.specs.declared.tree.Key.{Key}
use Rattle.gm_ast.specs.declared.tree.Sort.{Sort}
use Rattle.gm_ast.specs.declared.tree.Sort.TheVariants as Sorts
use Rattle.gm_ast.specs.declared.tree.Stage.TheVariants.{Inner, Operator, Total}
use Rattle.gm_ast.specs.declared.tree.Target.TheVariants as T
use Rattle.gm_ast.specs.Program.{always, Expr, Var, Property, Degree, Live, Binary, Folded, Stmt, Assign, Foreach, For, While, sequence}
use Rattle.gm_reductions.specs.Accesses.{added_at, by_loops}

abbrev nowhere : Place
nowhere = record { line = 0; col = 0 }

abbrev at : Place
at = record { line = 2; col = 5 }

abbrev key : Key
key = record { statement = 3; stage = Operator }

abbrev declared_as : Sort → VType → Declaration
declared_as sort t = record { name = []; variable = record { sort = sort; vtype = t; depth = 0 } }

-- x, s, n, m, p and f
abbrev table : List Declaration
table =
    declared_as Sorts.Scalar V.I32 ∷ declared_as Sorts.Scalar V.Node ∷ declared_as Sorts.Iterator V.Node ∷ declared_as Sorts.Iterator V.Node
    ∷ declared_as Sorts.NodeProperty V.I32 ∷ declared_as Sorts.NodeProperty V.Flag ∷ []

-- the statements of a program with these, where nothing stands around them: c is 6, the iterator i is 7, the values are 8 to 11
abbrev loops : Stmt → Stmt
loops s = by_loops table (added_at 6) [] s

abbrev all : ℕ → Head
all n = record { iterator = n; domain = Nodes; owner = n; place = nowhere }

-- i == y
abbrev is_at : ℕ → Expr
is_at y = Binary Eq nowhere (Var 7 nowhere) (Var y nowhere)

-- a reduction over all nodes i, of which that of a variable passes
abbrev over : ReductionWord → VType → ℕ → Expr → Expr
over word t y e =
    Folded (record {
      word = word;
      vtype = t;
      filter = record { statement = 1; stage = Inner };
      body = record { statement = 1; stage = Operator };
      total = record { key = record { statement = 1; stage = Total }; place = record { line = 0; col = 1 }; shown = nowhere };
    }) (all 7) (is_at y) e

-- y = e
abbrev sets : ℕ → Expr → Stmt
sets y e = Assign key (T.Scalar y nowhere) e

-- Foreach (i: G.Nodes)(i == y) { i.q = v; }
abbrev writes : ℕ → ℕ → ℕ → Stmt
writes y q v = Foreach (record { statement = 0; stage = Inner }) nowhere (all 7) (is_at y) (Assign (record { statement = 1; stage = Inner }) (T.Property 7 q nowhere) (Var v nowhere))

-- x = s.p
reads_through_a_variable : loops (sets 0 (Property 1 4 at)) ≡ sequence (sets 6 (Live 1 at) ∷ sets 0 (over Max V.I32 6 (Property 7 4 nowhere)) ∷ [])
reads_through_a_variable = refl

-- s.p = x
writes_through_a_variable : loops (Assign key (T.Property 1 4 at) (Var 0 at)) ≡ sequence (sets 6 (Live 1 at) ∷ sets 8 (Var 0 at) ∷ writes 6 4 8 ∷ [])
writes_through_a_variable = refl

-- For (n: G.Nodes) { x = n.p; n.f = x; }
through_an_iterator :
    loops (For key at (all 2) always (sequence (sets 0 (Property 2 4 at) ∷ Assign key (T.Property 2 5 at) (Var 0 at) ∷ [])))
    ≡ For key at (all 2) always (sequence (sets 0 (over Max V.I32 2 (Property 7 4 nowhere)) ∷ sequence (sets 10 (Var 0 at) ∷ writes 2 5 10 ∷ []) ∷ []))
through_an_iterator = refl

-- For (n: G.Nodes) { x = s.p; }: a variable is checked there too
a_variable_inside : loops (For key at (all 2) always (sets 0 (Property 1 4 at))) ≡ For key at (all 2) always (sequence (sets 6 (Live 1 at) ∷ sets 0 (over Max V.I32 6 (Property 7 4 nowhere)) ∷ []))
a_variable_inside = refl

-- For (n: G.Nodes) { For (m: G.Nodes) { While (True) { x = n.OutDegree(); x = m.f; } } }
within_one_another :
    loops (For key at (all 2) always (For key at (all 3) always (While key at always (sequence (sets 0 (Degree Out 2 at) ∷ sets 0 (Property 3 5 at) ∷ [])))))
    ≡ For key at (all 2) always (For key at (all 3) always (While key at always (sequence (sets 0 (over Max V.I32 2 (Degree Out 7 nowhere)) ∷ sets 0 (over Exist V.Flag 3 (Property 7 5 nowhere)) ∷ []))))
within_one_another = refl

-- For (n: G.Nodes) { } x = n.p: no For around, so it is checked
behind_the_loop :
    loops (sequence (For key at (all 2) always (sequence []) ∷ sets 0 (Property 2 4 at) ∷ []))
    ≡ sequence (For key at (all 2) always (sequence []) ∷ sequence (sets 6 (Live 2 at) ∷ sets 0 (over Max V.I32 6 (Property 7 4 nowhere)) ∷ []) ∷ [])
behind_the_loop = refl
