-- Whether Ifs that hold what is cut have numbers of their own, as the walk asks it.
use Rattle.std.specs.Prelude.{ℕ, nat_eq, Bool, true, false, ◌&&◌, ◌||◌, not}
use Rattle.gm_base.specs.declared.places.Place.{Place}
use Rattle.gm_ast.specs.declared.tree.Head.{Head}
use Rattle.gm_ast.specs.declared.tree.Key.{Key}
use Rattle.gm_ast.specs.Program.{Expr, Stmt, Then, If}
use Rattle.gm_dissect.specs.Conditions.{holds_cut}
use Rattle.gm_forms.specs.Cut.{is_own_loop}

-- an If of a body has a number
abbrev pub has_number : ℕ → Stmt → Bool
has_number x (Then a b) = has_number x a || has_number x b
has_number x (If k c a b) = nat_eq x k.statement || (has_number x a || has_number x b)
has_number x _ = false

-- an If has another number than those within it, where its branches hold what is cut
abbrev pub differs : ℕ → Key → Stmt → Stmt → Bool
differs n k a b = not (holds_cut n a || holds_cut n b) || not (has_number k.statement a || has_number k.statement b)

-- each If of a body has
abbrev pub all_differ : ℕ → Stmt → Bool
all_differ n (Then a b) = all_differ n a && all_differ n b
all_differ n (If k c a b) = differs n k a b && (all_differ n a && all_differ n b)
all_differ n _ = true

-- a loop is of own statements, or each If of its body has
abbrev pub is_numbered : Key → Place → Head → Expr → Stmt → Bool
is_numbered k at h test body = is_own_loop h.iterator body || all_differ h.iterator body
