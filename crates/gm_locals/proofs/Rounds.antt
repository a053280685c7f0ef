-- The rounds in which the most of some locals is found.
use Rattle.std.proofs.Common.{◌≡◌, ◌<◌, ◌≤◌, ◌+◌, ◌-◌, arith, ℕ, suc, true, false, cond, List, [], ap, sym, ◌∙◌}
use Rattle.std.specs.Prelude.{filter}
use Rattle.std.specs.List.{list_all}
use Rattle.gm_ast.specs.declared.tree.Declaration.{Declaration}
use Rattle.gm_ast.specs.Program.{Expr, Stmt}
use Rattle.gm_locals.specs.Groups.{may_keep}
use Rattle.gm_locals.specs.AllGroups.{most_of}

module _ (ds : List Declaration) (n : ℕ) (test : Expr) (body : Stmt) (xs : List ℕ) where
  abbrev rest : ℕ → List ℕ
  rest k = most_of k ds n test body (filter (may_keep ds xs n test body) xs)

  -- where all may go, these are the most
  pub all-go : (r i : ℕ) → i < r → list_all (may_keep ds xs n test body) xs ≡ true → most_of (r - i) ds n test body xs ≡ xs
  all-go r i l h =
      let next : r - i ≡ suc (r - (i + 1)) = omega (arith, l) in
      ap (λ k. most_of k ds n test body xs) next ∙ ap (λ b. cond b xs (rest (r - (i + 1)))) h

  -- where some may not, those are left out
  pub some-stay : (r i : ℕ) → i < r → list_all (may_keep ds xs n test body) xs ≡ false → most_of (r - i) ds n test body xs ≡ most_of (r - (i + 1)) ds n test body (filter (may_keep ds xs n test body) xs)
  some-stay r i l h =
      let next : r - i ≡ suc (r - (i + 1)) = omega (arith, l) in
      ap (λ k. most_of k ds n test body xs) next ∙ ap (λ b. cond b xs (rest (r - (i + 1)))) h

  pub none-left : (r i : ℕ) → r ≤ i → most_of (r - i) ds n test body xs ≡ []
  none-left r i l =
      let none : r - i ≡ 0 = omega (arith, l) in
      ap (λ k. most_of k ds n test body xs) none

  -- the same, with what the rounds lead to
  pub go-on : (r i : ℕ) (ys w : List ℕ) → i < r → list_all (may_keep ds xs n test body) xs ≡ false → ys ≡ filter (may_keep ds xs n test body) xs → most_of (r - i) ds n test body xs ≡ w → most_of (r - (i + 1)) ds n test body ys ≡ w
  go-on r i ys w l h e before = ap (λ zs. most_of (r - (i + 1)) ds n test body zs) e ∙ sym (some-stay r i l h) ∙ before

  pub end-here : (r i : ℕ) (w : List ℕ) → i < r → list_all (may_keep ds xs n test body) xs ≡ true → most_of (r - i) ds n test body xs ≡ w → xs ≡ w
  end-here r i w l h before = sym (all-go r i l h) ∙ before

  pub end-empty : (r i : ℕ) (ys w : List ℕ) → r ≤ i → ys ≡ [] → most_of (r - i) ds n test body xs ≡ w → ys ≡ w
  end-empty r i ys w l e before = e ∙ sym (none-left r i l) ∙ before

  pub first-round : (r : ℕ) → most_of (r - 0) ds n test body xs ≡ most_of r ds n test body xs
  first-round r =
      let same : r - 0 ≡ r = omega arith in
      ap (λ k. most_of k ds n test body xs) same
