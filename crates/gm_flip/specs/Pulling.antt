-- Which loops pull.
use Rattle.std.specs.Prelude.{ℕ, Bool, true, false, ◌&&◌, ◌||◌, not, List, [], ◌∷◌}
use Rattle.std.specs.List.{list_all}
use Rattle.gm_ast.specs.declared.tree.Head.{Head}
use Rattle.gm_ast.specs.Program.{Expr, Stmt, Then, Declare, Assign, Combine, Foreach, If}
use Rattle.gm_forms.specs.Forms.{may, is_flat, is_along, avoids}

-- whether the expressions of an inner body read properties and degrees through some iterators alone, and an edge's where one is at hand
abbrev pub sees : List ℕ → Bool → Stmt → Bool
sees its edge (Then a b) = sees its edge a && sees its edge b
sees its edge (Declare k x e) = may (is_flat its edge) e
sees its edge (Assign k t e) = is_flat its edge e
sees its edge (Combine k total r ts es) = list_all (is_flat its edge) es
sees its edge (If k c a b) = is_flat its edge c && (sees its edge a && sees its edge b)
sees its edge s = true

-- whether an inner loop can be evaluated at the outer node n: it reads nothing of the inner node, and reduces nothing of it
abbrev pub is_at_home : ℕ → Head → Expr → Stmt → Bool
is_at_home n h test body =
    is_flat (n ∷ []) (is_along h.domain) test && (sees (n ∷ []) (is_along h.domain) body && avoids h.iterator body)

-- whether it can be evaluated at the inner node, for each message from the outer one: it reduces nothing of the outer node, and reads the edge only where it leads along it
abbrev pub is_outgoing : ℕ → Head → Expr → Stmt → Bool
is_outgoing n h test body =
    is_flat (n ∷ h.iterator ∷ []) (is_along h.domain) test && (sees (n ∷ h.iterator ∷ []) (is_along h.domain) body && avoids n body)

-- whether a loop's body is an inner loop that pulls: it can be evaluated in neither way
abbrev pub pulls : ℕ → Stmt → Bool
pulls n (Foreach k at h test body) = not (is_at_home n h test body || is_outgoing n h test body)
pulls n s = false
