-- The law of deferred writes.
use Rattle.std.specs.Prelude.{◌≡◌, ◌<◌, ◌≤◌, ℕ, nat_eq, Bool, true, false, ◌&&◌, not, if◌then◌else◌, List}
use Rattle.gm_base.specs.declared.places.Place.{Place}
use Rattle.gm_ast.specs.declared.tree.Declaration.{Declaration}
use Rattle.gm_ast.specs.declared.tree.Key.{Key}
use Rattle.gm_ast.specs.declared.tree.Target.{Target}
use Rattle.gm_ast.specs.declared.tree.Target.TheVariants as T
use Rattle.gm_ast.specs.Program.{Expr, Property, always, Stmt, Then, Assign, Defer, If}
use Rattle.gm_ast.specs.Ways.{is_in}
use Rattle.gm_semantics.specs.Iterations.{Loop}
use Rattle.gm_semantics.specs.Frames.{ReadsBelow, NamesBelow}
use Rattle.gm_forms.specs.Cut.{touched}
use Rattle.gm_forms.specs.Forms.{is_outer_body}
use Rattle.gm_loop_laws.specs.Masks.{looped, in_turn, SameChange}

-- a deferred write to a property is one to another at once
abbrev pub undeferred_to : ℕ → ℕ → Key → Target → Expr → Stmt
undeferred_to p q k (T.Scalar y at) e = Defer k (T.Scalar y at) e
undeferred_to p q k (T.Property y r at) e = if nat_eq r p then Assign k (T.Property y q at) e else Defer k (T.Property y r at) e

-- the same in a body
abbrev pub undeferred : ℕ → ℕ → Stmt → Stmt
undeferred p q (Then a b) = Then (undeferred p q a) (undeferred p q b)
undeferred p q (Defer k t e) = undeferred_to p q k t e
undeferred p q (If k c a b) = If k c (undeferred p q a) (undeferred p q b)
undeferred p q s = s

-- whether a body writes a property by deferred writes alone, and the iterator not at all
abbrev pub only_defers : ℕ → ℕ → Stmt → Bool
only_defers n p (Then a b) = only_defers n p a && only_defers n p b
only_defers n p (Defer k t e) = true
only_defers n p (If k c a b) = only_defers n p a && only_defers n p b
only_defers n p s = not (is_in (touched s) n) && not (is_in (touched s) p)

-- the deferred writes to a property may go to a fresh one, which holds the same as it before the loop, and is copied to it behind the loop: the same fault, or stores that agree in all that the loop names
abbrev pub DefersMove : Type 0
DefersMove = (j : ℕ) (ds : List Declaration) (loop : Loop) (p q : ℕ) (key : Key) (at : Place) (test : Expr) (body : Stmt) →
    let n = loop.outer in
    n < j → p < j → j ≤ q → ReadsBelow j test → NamesBelow j body → is_outer_body ds false n body ≡ true → only_defers n p body ≡ true →
    SameChange j (looped loop key test body)
    (in_turn (looped loop key always (Assign key (T.Property n q at) (Property n p at)))
    (in_turn (looped loop key test (undeferred p q body)) (looped loop key always (Assign key (T.Property n p at) (Property n q at)))))
