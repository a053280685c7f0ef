-- Sets of variables that a walk over a body gathers, each as the test whether a variable is in it.
use Rattle.std.specs.Prelude.{ℕ, nat_eq, Bool, false, ◌||◌, List, [], ◌∷◌, Option, Some, None}
use Rattle.gm_ast.specs.declared.tree.Target.{Target}
use Rattle.gm_ast.specs.declared.tree.Target.TheVariants as T
use Rattle.gm_ast.specs.Program.{Expr, Var, Property, Degree, Live, Unary, Binary, Both, Either, Choose, Folded}

-- no variable
abbrev pub none : ℕ → Bool
none x = false

-- one more variable
abbrev pub with_member : ℕ → (ℕ → Bool) → (ℕ → Bool)
with_member k m x = nat_eq x k || m x

-- those of either set
abbrev pub either : (ℕ → Bool) → (ℕ → Bool) → (ℕ → Bool)
either a b x = a x || b x

-- the scalars and nodes that an expression reads by their names
abbrev pub with_told : Expr → (ℕ → Bool) → (ℕ → Bool)
with_told (Var x at) m = with_member x m
with_told (Property x p at) m = with_member x m
with_told (Degree d x at) m = with_member x m
with_told (Live x at) m = with_member x m
with_told (Unary op at e) m = with_told e m
with_told (Binary op at a b) m = with_told b (with_told a m)
with_told (Both a b) m = with_told b (with_told a m)
with_told (Either a b) m = with_told b (with_told a m)
with_told (Choose c a b) m = with_told b (with_told a (with_told c m))
with_told (Folded f h test e) m = with_told e (with_told test (with_member h.owner m))
with_told _ m = m

abbrev pub with_all_told : List Expr → (ℕ → Bool) → (ℕ → Bool)
with_all_told [] m = m
with_all_told (e ∷ es) m = with_all_told es (with_told e m)

abbrev pub with_told_option : Option Expr → (ℕ → Bool) → (ℕ → Bool)
with_told_option None m = m
with_told_option (Some e) m = with_told e m

-- whether a target's variable is one of a set
abbrev pub is_touched : (ℕ → Bool) → Target → Bool
is_touched m (T.Scalar x at) = m x
is_touched m (T.Property x p at) = m p
