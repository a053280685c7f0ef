-- The law of conditions that are saved in locals.
use Rattle.std.specs.Prelude.{◌≡◌, ◌≤◌, ℕ, Option, Some, None}
use Rattle.gm_base.specs.declared.places.Place.{Place}
use Rattle.gm_ast.specs.declared.tree.Key.{Key}
use Rattle.gm_ast.specs.Program.{Expr, Var, Stmt, Then, Declare, If}
use Rattle.gm_semantics.specs.Iterations.{Loop}
use Rattle.gm_semantics.specs.Frames.{ReadsBelow, NamesBelow}
use Rattle.gm_loop_laws.specs.Masks.{looped, SameChange}

-- an If whose condition is first saved in a local, if one is given
abbrev pub saved_if : Option ℕ → Place → Key → Expr → Stmt → Stmt → Stmt
saved_if None at k c a b = If k c a b
saved_if (Some y) at k c a b = Then (Declare k y (Some c)) (If k (Var y at) a b)

-- an outer body, with the conditions of some of its Ifs saved, each in the local that its key has
abbrev pub conditions_saved : (Key → Option ℕ) → Place → Stmt → Stmt
conditions_saved local at (Then a b) = Then (conditions_saved local at a) (conditions_saved local at b)
conditions_saved local at (If k c a b) = saved_if (local k) at k c (conditions_saved local at a) (conditions_saved local at b)
conditions_saved local at s = s

-- conditions may be saved in fresh locals where they are evaluated: the same fault, or stores that agree in all that the loop names
abbrev pub ConditionsSaved : Type 0
ConditionsSaved = (j : ℕ) (loop : Loop) (local : Key → Option ℕ) (key : Key) (at : Place) (test : Expr) (body : Stmt) →
    ReadsBelow j test → NamesBelow j body → ((k : Key) (y : ℕ) → local k ≡ Some y → j ≤ y) →
    SameChange j (looped loop key test body) (looped loop key test (conditions_saved local at body))
