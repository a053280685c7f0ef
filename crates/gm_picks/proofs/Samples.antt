-- Picks onto scalars: of a property through a node variable behind a check, through the iterator of a For around without one.
use Rattle.std.specs.Prelude.{◌≡◌, ℕ, [], ◌∷◌, List, refl}
use Rattle.gm_base.specs.declared.places.Place.{Place}
use Rattle.gm_value.specs.declared.reductions.Reduce.{Reduce}
use Rattle.gm_value.specs.declared.reductions.Reduce.TheVariants.{Min, Max}
use Rattle.gm_value.specs.declared.values.VType.{VType}
use Rattle.gm_value.specs.declared.values.VType.TheVariants as V
use Rattle.gm_ast.specs.declared.tree.Declaration.{Declaration}
use Rattle.gm_ast.specs.declared.tree.Domain.TheVariants.{Nodes}
use Rattle.gm_ast.specs.declared.tree.Head.{Head}
use Rattle.gm_ast.specs.declared.tree.Key.{Key}
use Rattle.gm_ast.specs.declared.tree.Sort.{Sort}
use Rattle.gm_ast.specs.declared.tree.Sort.TheVariants as Sorts
use Rattle.gm_ast.specs.declared.tree.Stage.TheVariants.{Operator, Total}
use Rattle.gm_ast.specs.declared.tree.Target.{Target}
use Rattle.gm_ast.specs.declared.tree.Target.TheVariants as T
use Rattle.gm_ast.specs.declared.tree.TotalKey.{TotalKey}
use Rattle.gm_ast.specs.Program.{always, Expr, Var, Property, Live, Stmt, Assign, Combine, For, While, sequence}
use Rattle.gm_picks.specs.Picks.{count_picks, types_picked, onto_scalars}

abbrev nowhere : Place
nowhere = record { line = 0; col = 0 }

abbrev at : Place
at = record { line = 2; col = 5 }

abbrev key : Key
key = record { statement = 3; stage = Operator }

abbrev total : TotalKey
total = record { key = record { statement = 3; stage = Total }; place = at; shown = at }

abbrev declared_as : Sort → VType → Declaration
declared_as sort t = record { name = []; variable = record { sort = sort; vtype = t; depth = 0 } }

-- x, s, n, m, p and q
abbrev table : List Declaration
table =
    declared_as Sorts.Scalar V.I32 ∷ declared_as Sorts.Scalar V.Node ∷ declared_as Sorts.Iterator V.Node ∷ declared_as Sorts.Iterator V.Node
    ∷ declared_as Sorts.NodeProperty V.I32 ∷ declared_as Sorts.NodeProperty V.I64 ∷ []

abbrev all : ℕ → Head
all n = record { iterator = n; domain = Nodes; owner = n; place = nowhere }

abbrev pick : Reduce → List Target → List Expr → Stmt
pick r ts es = Combine key total r ts es

abbrev sets : ℕ → Expr → Stmt
sets x e = Assign key (T.Scalar x nowhere) e

-- y.p, with what a scalar holds
abbrev writes : ℕ → ℕ → ℕ → Stmt
writes y p x = Assign key (T.Property y p at) (Var x nowhere)

-- s.p min= x;
through_a_variable :
    onto_scalars [] 6 (pick Min (T.Property 1 4 at ∷ []) (Var 0 at ∷ [])) ≡ sequence (sets 6 (Live 1 at) ∷ sets 7 (Property 1 4 at) ∷ pick Min (T.Scalar 7 nowhere ∷ []) (Var 0 at ∷ []) ∷ writes 6 4 7 ∷ [])
through_a_variable = refl

-- For (n: G.Nodes) { n.p min= x; }
through_an_iterator :
    onto_scalars [] 6 (For key at (all 2) always (pick Min (T.Property 2 4 at ∷ []) (Var 0 at ∷ [])))
    ≡ For key at (all 2) always (sequence (sets 6 (Property 2 4 at) ∷ pick Min (T.Scalar 6 nowhere ∷ []) (Var 0 at ∷ []) ∷ writes 2 4 6 ∷ []))
through_an_iterator = refl

-- For (n: G.Nodes) { <n.p; s.q; x> max= <s.p; x; n.q>; }: a variable is checked there too
several_targets :
    onto_scalars [] 6 (For key at (all 2) always (pick Max (T.Property 2 4 at ∷ T.Property 1 5 at ∷ T.Scalar 0 at ∷ []) (Property 1 4 at ∷ Var 0 at ∷ Property 2 5 at ∷ [])))
    ≡ For key at (all 2) always (sequence (
    sets 6 (Property 2 4 at) ∷ sets 7 (Live 1 at) ∷ sets 8 (Property 1 5 at) ∷ sets 9 (Property 1 4 at) ∷ sets 10 (Property 2 5 at)
    ∷ pick Max (T.Scalar 6 nowhere ∷ T.Scalar 8 nowhere ∷ T.Scalar 0 at ∷ []) (Var 9 nowhere ∷ Var 0 at ∷ Var 10 nowhere ∷ []) ∷ writes 2 4 6 ∷ writes 7 5 8 ∷ []
    ))
several_targets = refl

-- For (n: G.Nodes) { For (m: G.Nodes) { While (True) { <n.q; m.p> min= <x; x>; } } }
within_one_another :
    onto_scalars [] 6 (For key at (all 2) always (For key at (all 3) always (While key at always (pick Min (T.Property 2 5 at ∷ T.Property 3 4 at ∷ []) (Var 0 at ∷ Var 0 at ∷ [])))))
    ≡ For key at (all 2) always (For key at (all 3) always (While key at always (sequence (
    sets 6 (Property 2 5 at) ∷ sets 7 (Property 3 4 at) ∷ pick Min (T.Scalar 6 nowhere ∷ T.Scalar 7 nowhere ∷ []) (Var 0 at ∷ Var 0 at ∷ []) ∷ writes 2 5 6 ∷ writes 3 4 7 ∷ []
    ))))
within_one_another = refl

-- For (n: G.Nodes) { n.p min= x; } n.p min= x; s.q min= x;
abbrev behind : Stmt
behind =
    sequence (For key at (all 2) always (pick Min (T.Property 2 4 at ∷ []) (Var 0 at ∷ [])) ∷ pick Min (T.Property 2 4 at ∷ []) (Var 0 at ∷ []) ∷ pick Min (T.Property 1 5 at ∷ []) (Var 0 at ∷ []) ∷ [])

-- behind its loop an iterator is checked
behind_the_loop :
    onto_scalars [] 6 behind
    ≡ sequence (
    For key at (all 2) always (sequence (sets 6 (Property 2 4 at) ∷ pick Min (T.Scalar 6 nowhere ∷ []) (Var 0 at ∷ []) ∷ writes 2 4 6 ∷ []))
    ∷ sequence (sets 7 (Live 2 at) ∷ sets 8 (Property 2 4 at) ∷ pick Min (T.Scalar 8 nowhere ∷ []) (Var 0 at ∷ []) ∷ writes 7 4 8 ∷ [])
    ∷ sequence (sets 9 (Live 1 at) ∷ sets 10 (Property 1 5 at) ∷ pick Min (T.Scalar 10 nowhere ∷ []) (Var 0 at ∷ []) ∷ writes 9 5 10 ∷ []) ∷ []
    )
behind_the_loop = refl

their_types : types_picked table [] behind ≡ V.I32 ∷ V.Node ∷ V.I32 ∷ V.Node ∷ V.I64 ∷ []
their_types = refl

their_count : count_picks [] behind ≡ 5
their_count = refl
