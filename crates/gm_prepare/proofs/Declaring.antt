-- Bodies behind the declarations of some locals, the last of which is set first.
use Rattle.std.proofs.Common.{◌≡◌, ℕ, List, [], ◌∷◌, ◌++◌, length, refl, sym, ap, ◌∙◌, arith}
use Rattle.std.specs.Prelude.{Some}
use Rattle.gm_base.specs.declared.places.Place.{Place}
use Rattle.gm_ast.specs.declared.tree.Key.{Key}
use Rattle.gm_ast.specs.Program.{Var, Stmt, Declare, sequence}
use Rattle.gm_parting.specs.Declared.{declared_first}

module _ (k : Key) (at : Place) where
  last-declared : (xs : List ℕ) (x : ℕ) (b : Stmt) → declared_first k at (xs ++ (x ∷ [])) b ≡ declared_first k at xs (sequence (Declare k x (Some (Var x at)) ∷ b ∷ []))
  last-declared [] x b = refl
  last-declared (y ∷ xs) x b = ap (λ s. sequence (Declare k y (Some (Var y at)) ∷ s ∷ [])) (last-declared xs x b)

  -- xs: those that are left, zs: those before the last of these was taken
  pub declared-next : (x : ℕ) (xs zs : List ℕ) (b d e : Stmt) → zs ≡ xs ++ (x ∷ []) → d ≡ sequence (Declare k x (Some (Var x at)) ∷ b ∷ []) → declared_first k at zs b ≡ e → declared_first k at xs d ≡ e
  declared-next x xs zs b d e p q r = ap (declared_first k at xs) q ∙ sym (last-declared xs x b) ∙ ap (λ l. declared_first k at l b) (sym p) ∙ r

  pub declared-done : (xs : List ℕ) (b e : Stmt) → length xs ≡ 0 → declared_first k at xs b ≡ e → b ≡ e
  declared-done [] b e l r = r
  declared-done (x ∷ xs) b e l r = absurd (omega arith)
