-- The syntax of a block whose loops ask first.
use Rattle.std.proofs.Common.{◌≡◌, List, [], ◌∷◌, map, ap, refl, sym, ◌∙◌}
use Rattle.gm_base.specs.declared.places.Place.{Place}
use Rattle.gm_ast.specs.declared.tree.Head.{Head}
use Rattle.gm_ast.specs.declared.tree.Key.{Key}
use Rattle.gm_ast.specs.Program.{Expr, Stmt, Then, Foreach, sequence}
use Rattle.gm_outward.specs.Gathered.{together, gathered_filter, gathered_body}
use Rattle.gm_outward.specs.Outward.{is_outer, chosen, left, asked_loop, asked_outward}

pub asked-sequence : (xs : List Stmt) → asked_outward (sequence xs) ≡ sequence (map asked_outward xs)
asked-sequence [] = refl
asked-sequence (x ∷ xs) = ap (Then (asked_outward x)) (asked-sequence xs)

-- a block is no inner loop
pub loop-sequence : (k : Key) (at : Place) (h : Head) (mask : Expr) (ss : List Stmt) → asked_loop k at h mask (sequence ss) ≡ Foreach k at h mask (sequence ss)
loop-sequence k at h mask [] = refl
loop-sequence k at h mask (s ∷ ss) = refl

-- a loop of what was made of the parts of a loop whose body is an inner loop
pub asked-parts : (k j : Key) (at here : Place) (h i : Head) (mask test m f : Expr) (body b inner whole : Stmt) →
    m ≡ together mask (chosen (is_outer h.iterator i (gathered_body body)) (gathered_filter test body)) → f ≡ left (is_outer h.iterator i (gathered_body body)) (gathered_filter test body) → b ≡ gathered_body body →
    inner ≡ Foreach j here i f b → whole ≡ Foreach j here i test body → Foreach k at h m inner ≡ asked_loop k at h mask whole
asked-parts k j at here h i mask test m f body b inner whole p q r s w =
    ap (λ z. Foreach k at h z inner) p
    ∙ ap (Foreach k at h (together mask (chosen (is_outer h.iterator i (gathered_body body)) (gathered_filter test body))))
    (s ∙ ap (λ z. Foreach j here i z b) q ∙ ap (Foreach j here i (left (is_outer h.iterator i (gathered_body body)) (gathered_filter test body))) r)
    ∙ sym (ap (asked_loop k at h mask) w)
