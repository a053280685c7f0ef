-- Conditions of an inner loop's filter that are asked at the outer node, before it looks at its edges.
use Rattle.std.specs.Prelude.{ℕ, Bool, ◌&&◌, List, ◌∷◌, if◌then◌else◌}
use Rattle.gm_base.specs.declared.places.Place.{Place}
use Rattle.gm_ast.specs.declared.tree.Head.{Head}
use Rattle.gm_ast.specs.declared.tree.Key.{Key}
use Rattle.gm_ast.specs.Program.{Expr, always, Both, Stmt, Then, Foreach, For, If, While, Do, Program}
use Rattle.gm_forms.specs.Cut.{is_mask, touched}
use Rattle.gm_forms.specs.Order.{cannot_fail}
use Rattle.gm_loop_laws.specs.Masks.{spares}
use Rattle.gm_outward.specs.Gathered.{together, gathered}

-- whether a condition is a mask of a node that reads none of some variables
abbrev pub is_mask_apart : ℕ → List ℕ → Expr → Bool
is_mask_apart n changed e = is_mask n e && spares changed e

-- whether a condition may be asked at the outer node n before an inner loop: it is a mask of the node, and reads neither the inner iterator nor what the loop's body changes
abbrev pub is_outer : ℕ → Head → Stmt → Expr → Bool
is_outer n h body e = is_mask_apart n (h.iterator ∷ touched body) e

-- the conditions of a filter that pass a test, up to the first condition that can fault
abbrev pub chosen : (Expr → Bool) → Expr → Expr
chosen test (Both a b) = together (chosen test a) (if cannot_fail a then chosen test b else always)
chosen test e = if test e then e else always

-- the others
abbrev pub left : (Expr → Bool) → Expr → Expr
left test (Both a b) = together (left test a) (if cannot_fail a then left test b else b)
left test e = if test e then always else e

-- the mask of a loop over nodes: where its body is an inner loop, what is the outer node's of that loop's filter joins it
abbrev pub asked_mask : ℕ → Expr → Stmt → Expr
asked_mask n mask (Foreach j here i test body) = together mask (chosen (is_outer n i body) test)
asked_mask n mask body = mask

-- and its body, where the inner loop's filter keeps the rest
abbrev pub asked_body : ℕ → Stmt → Stmt
asked_body n (Foreach j here i test body) = Foreach j here i (left (is_outer n i body) test) body
asked_body n body = body

-- a loop over nodes so, once the conditions of its inner loop's body are gathered
abbrev pub asked_loop : Key → Place → Head → Expr → Stmt → Stmt
asked_loop k at h mask body = let inner = gathered body in Foreach k at h (asked_mask h.iterator mask inner) (asked_body h.iterator inner)

-- a sequential phase with each of its loops so
abbrev pub asked_outward : Stmt → Stmt
asked_outward (Then a b) = Then (asked_outward a) (asked_outward b)
asked_outward (Foreach k at h mask body) = asked_loop k at h mask body
asked_outward (For k at h test body) = For k at h test (asked_outward body)
asked_outward (If k c a b) = If k c (asked_outward a) (asked_outward b)
asked_outward (While k at c body) = While k at c (asked_outward body)
asked_outward (Do k at body c) = Do k at (asked_outward body) c
asked_outward s = s

-- a program in which each loop asks at the outer node what it can before it looks at its edges
abbrev pub outward : Program → Program
outward p = record p { body = asked_outward p.body }
