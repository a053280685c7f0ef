-- Tests of own statements, as they are asked of bodies without inner loops.
use Rattle.std.specs.Prelude.{ℕ, Bool, true, false, ◌&&◌, ◌||◌, not}
use Rattle.std.specs.List.{list_all}
use Rattle.gm_ast.specs.Program.{Stmt, Skip, Then, Declare, DeclareEdge, Assign, Combine, If}
use Rattle.gm_forms.specs.Cut.{can_overflow, is_here, is_own_loop}
use Rattle.gm_forms.specs.Forms.{may}
use Rattle.gm_forms.specs.Order.{cannot_fail}

-- whether nothing that own statements do can fault
abbrev pub is_safe : ℕ → Stmt → Bool
is_safe n Skip = true
is_safe n (Then a b) = is_safe n a && is_safe n b
is_safe n (Declare k x e) = may cannot_fail e
is_safe n (DeclareEdge x y at) = true
is_safe n (Assign k t e) = is_here n t && cannot_fail e
is_safe n (Combine k total r ts es) = not (can_overflow r) && (list_all (is_here n) ts && list_all cannot_fail es)
is_safe n (If k c a b) = cannot_fail c && (is_safe n a && is_safe n b)
is_safe n _ = false

-- whether a body reduces by a Sum or a Product through another node variable than the iterator
abbrev pub adds_beyond : ℕ → Stmt → Bool
adds_beyond n (Then a b) = adds_beyond n a || adds_beyond n b
adds_beyond n (Combine k total r ts es) = can_overflow r && not (list_all (is_here n) ts)
adds_beyond n (If k c a b) = adds_beyond n a || adds_beyond n b
adds_beyond n _ = false

-- whether nothing that can fault stands behind such a Sum or Product
abbrev pub adds_safely : ℕ → Stmt → Bool
adds_safely n (Then a b) = adds_safely n a && (adds_safely n b && (not (adds_beyond n a) || is_safe n b))
adds_safely n (If k c a b) = adds_safely n a && adds_safely n b
adds_safely n _ = true

-- whether an own statement may stand behind others, which reduce so or do not
abbrev pub joins_behind : ℕ → Bool → Stmt → Bool
joins_behind n adds s = is_own_loop n s && (not adds || is_safe n s)
