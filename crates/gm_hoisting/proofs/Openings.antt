-- Bodies behind the loops of reductions, and filters with reductions and without.
use Rattle.std.proofs.Common.{◌≡◌, ◌<◌, ◌+◌, ◌++◌, ℕ, Bool, true, false, List, [], ◌∷◌, length, map, refl, ap, ◌∙◌, arith}
use Rattle.std.specs.Prelude.{◌&&◌, nat_eq}
use Rattle.std.proofs.lemmas.Bool.{both_ways, eq-eqb, eqb-true, ne_eqb}
use Rattle.gm_ast.specs.declared.tree.Key.{Key}
use Rattle.gm_ast.specs.declared.tree.Stmt as S
use Rattle.gm_ast.specs.Program.{Expr, always, Stmt, sequence}
use Rattle.gm_ast.specs.Tree.{stmt_of}
use Rattle.gm_hoisting.specs.Hoisting.{count_folds, count_body, count_loop, has_none, behind, body_out, filter_left, under, opened}

-- a statement behind none, and behind some
pub behind_none : (xs : List S.Stmt) (t : Stmt) → length xs ≡ 0 → behind (map stmt_of xs) t ≡ t
behind_none [] t e = refl
behind_none (x ∷ xs) t e = absurd (omega (arith, e))

pub behind_some : (xs : List S.Stmt) (t : Stmt) → 0 < length xs → behind (map stmt_of xs) t ≡ sequence (map stmt_of xs ++ (t ∷ []))
behind_some [] t e = absurd (omega (arith, e))
behind_some (x ∷ xs) t e = refl

-- two parts have no reductions where neither has
pub none_both : (a b : ℕ) → nat_eq (a + b) 0 ≡ (nat_eq a 0 && nat_eq b 0)
none_both a b = by (nat_eq a 0) (nat_eq b 0) refl refl
  where
    by : (s t : Bool) → nat_eq a 0 ≡ s → nat_eq b 0 ≡ t → nat_eq (a + b) 0 ≡ (s && t)
    by true true e f = let p : a ≡ 0 = eqb-true a 0 e in let q : b ≡ 0 = eqb-true b 0 f in eq-eqb (a + b) 0 (omega arith)
    by true false e f = ne_eqb (a + b) 0 (λ h. both_ways (nat_eq b 0) f (eq-eqb b 0 (omega (arith, h))))
    by false t e f = ne_eqb (a + b) 0 (λ h. both_ways (nat_eq a 0) e (eq-eqb a 0 (omega (arith, h))))

-- a filter without reductions stays, and its body keeps its numbers
pub filter_none : (test : Expr) → has_none test ≡ true → filter_left (has_none test) test ≡ test
filter_none test e = ap (λ t. filter_left t test) e

pub opened_none : (n : ℕ) (k : Key) (test : Expr) (body : Stmt) → has_none test ≡ true → opened n k test body ≡ body_out n body
opened_none n k test body e =
    let z : count_folds test ≡ 0 = eqb-true (count_folds test) 0 e in
    let m : n + count_folds test ≡ n = omega arith in
    ap (λ t. under t n k test (body_out (n + count_folds test) body)) e ∙ ap (λ i. body_out i body) m

pub count_none : (test : Expr) (body : Stmt) → has_none test ≡ true → count_loop test body ≡ count_body body
count_none test body e =
    let z : count_folds test ≡ 0 = eqb-true (count_folds test) 0 e in
    let sum : count_folds test + count_body body ≡ count_body body = omega arith in sum

-- a filter with reductions goes into the body
pub filter_some : (test : Expr) → has_none test ≡ false → filter_left (has_none test) test ≡ always
filter_some test e = ap (λ t. filter_left t test) e

pub opened_some : (n : ℕ) (k : Key) (test : Expr) (body : Stmt) → has_none test ≡ false → opened n k test body ≡ under false n k test (body_out (n + count_folds test) body)
opened_some n k test body e = ap (λ t. under t n k test (body_out (n + count_folds test) body)) e
