-- Conditions that are saved in locals add no level, and no If within others.
use Rattle.std.proofs.Common.{◌≡◌, ◌≤◌, ℕ, true, length, arith, Option, Some, None}
use Rattle.gm_base.specs.declared.places.Place.{Place}
use Rattle.gm_ast.specs.declared.tree.Head.{Head}
use Rattle.gm_ast.specs.declared.tree.Key.{Key}
use Rattle.gm_ast.specs.Program.{Expr, Stmt, Then, If, Program}
use Rattle.gm_dissect.specs.Conditions.{numbers_in, local_of, saved_first, with_saved, saved_loop, with_saved_conditions}
use Rattle.gm_depth.specs.Depths.{all_within}
use Rattle.gm_depth.specs.Nesting.{body_nesting, nesting}
use Rattle.gm_depth.proofs.Limits.{Within, AllWithin, parts, whole}
use Rattle.gm_shallow.proofs.Nesting.{both}
use Rattle.gm_shallow.proofs.Loops.{loops-within, loops-nest}

module _ (local : Key → Option ℕ) where
  module _ (n : ℕ) (one : 1 ≤ n) where
    first-within : (o : Option ℕ) (at : Place) (k : Key) (c : Expr) (a b : Stmt) → Within n c → AllWithin n a → AllWithin n b → AllWithin n (saved_first o at k c a b)
    first-within None at k c a b h x y = (h, (x, y))
    first-within (Some z) at k c a b h x y = (h, ((one, (x, y)), tt))

    body-within : (at : Place) (s : Stmt) → AllWithin n s → AllWithin n (with_saved local at s)
    body-within at (Then a b) h = (body-within at a h.0, body-within at b h.1)
    body-within at (If k c a b) h = first-within (local k) at k c (with_saved local at a) (with_saved local at b) h.0 (body-within at a h.1.0) (body-within at b h.1.1)
    body-within at s h = h

    loop-within : (k : Key) (at : Place) (hd : Head) (test : Expr) (body : Stmt) → Within n test → AllWithin n body → AllWithin n (saved_loop local k at hd test body)
    loop-within k at hd test body h x = (h, body-within at body x)

  first-nests : (o : Option ℕ) (at : Place) (k : Key) (c : Expr) (a b d e : Stmt) → body_nesting d ≤ body_nesting a → body_nesting e ≤ body_nesting b → body_nesting (saved_first o at k c d e) ≤ body_nesting (If k c a b)
  first-nests None at k c a b d e h x = omega arith
  first-nests (Some z) at k c a b d e h x = omega arith

  body-nests : (at : Place) (s : Stmt) → body_nesting (with_saved local at s) ≤ body_nesting s
  body-nests at (Then a b) = both (body-nests at a) (body-nests at b)
  body-nests at (If k c a b) = first-nests (local k) at k c a b (with_saved local at a) (with_saved local at b) (body-nests at a) (body-nests at b)
  body-nests at s = omega arith

  loop-nests : (k : Key) (at : Place) (hd : Head) (test : Expr) (body : Stmt) → nesting (saved_loop local k at hd test body) ≤ body_nesting body
  loop-nests k at hd test body = body-nests at body

pub saved-keep : (n : ℕ) (p : Program) → 1 ≤ n → all_within n p.body ≡ true → all_within n (with_saved_conditions p).body ≡ true
saved-keep n p one h =
    let local = local_of (length p.declarations) (numbers_in p.body) in
    whole n (with_saved_conditions p).body (loops-within (saved_loop local) n (loop-within local n one) p.body (parts n p.body h))

pub saved-nest : (p : Program) → nesting (with_saved_conditions p).body ≤ nesting p.body
saved-nest p = let local = local_of (length p.declarations) (numbers_in p.body) in loops-nest (saved_loop local) (loop-nests local) p.body
