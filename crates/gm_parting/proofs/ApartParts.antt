-- Inner bodies whose statements stand alone: what is gathered from them statement by statement.
use Rattle.std.proofs.Common.{◌≡◌, ◌<◌, ◌≤◌, ◌+◌, arith, ℕ, suc, Bool, true, List, [], ◌++◌, refl, sym, ap, subst, ◌∙◌, append-nil, Some, ◌⊎◌, ⊎_elim, inl, inr}
use Rattle.gm_base.specs.declared.places.Place.{Place}
use Rattle.gm_value.specs.Bag.{IsIn}
use Rattle.gm_value.specs.declared.operations.Op1.TheVariants.{Not}
use Rattle.gm_ast.specs.declared.tree.Key.{Key}
use Rattle.gm_ast.specs.Program.{Expr, Var, Unary, Stmt, Skip, Then, Declare, If}
use Rattle.gm_forms.proofs.Doings.{in-left, in-right, in-either}
use Rattle.gm_parting.specs.Numbers.{count_ifs}
use Rattle.gm_parting.specs.Apart.{under, apart}

-- what is made of parts, where a condition and what saves it add nothing: op joins two parts, and e is that of none
module _ {A : Type 0} (op : A → A → A) (e : A) (left : (x : A) → op e x ≡ x) (right : (x : A) → op x e ≡ x) (f : Stmt → A)
    (skips : f Skip ≡ e) (joins : (a b : Stmt) → f (Then a b) ≡ op (f a) (f b)) (asks : (k : Key) (c : Expr) (a b : Stmt) → f (If k c a b) ≡ op (f a) (f b)) where
  alone : (k : Key) (c : Expr) (s : Stmt) → f (If k c s Skip) ≡ f s
  alone k c s = asks k c s Skip ∙ ap (op (f s)) skips ∙ right (f s)

  pub same-under : (k : Key) (c : Expr) (s : Stmt) → f (under k c s) ≡ f s
  same-under k c Skip = refl
  same-under k c (Then a b) = joins (under k c a) (under k c b) ∙ ap (λ x. op x (f (under k c b))) (same-under k c a) ∙ ap (op (f a)) (same-under k c b) ∙ sym (joins a b)
  same-under k c s = alone k c s

  module _ (saves : (k : Key) (y : ℕ) (c : Expr) → f (Declare k y (Some c)) ≡ e) (at : Place) where
    pub same-apart : (y : ℕ) (s : Stmt) → f (apart at y s) ≡ f s
    same-apart y (Then a b) = joins (apart at y a) (apart at (y + count_ifs a) b) ∙ ap (λ x. op x (f (apart at (y + count_ifs a) b))) (same-apart y a) ∙ ap (op (f a)) (same-apart (y + count_ifs a) b) ∙ sym (joins a b)
    same-apart y (If k c a b) =
        let u = under k (Var y at) (apart at (suc y) a) in
        let v = under k (Unary Not at (Var y at)) (apart at (suc y + count_ifs a) b) in
        joins (Declare k y (Some c)) (Then u (Then v Skip)) ∙ ap (λ x. op x (f (Then u (Then v Skip)))) (saves k y c) ∙ left (f (Then u (Then v Skip)))
        ∙ joins u (Then v Skip) ∙ ap (op (f u)) (joins v Skip ∙ ap (op (f v)) skips ∙ right (f v))
        ∙ ap (λ x. op x (f v)) (same-under k (Var y at) (apart at (suc y) a) ∙ same-apart (suc y) a)
        ∙ ap (op (f a)) (same-under k (Unary Not at (Var y at)) (apart at (suc y + count_ifs a) b) ∙ same-apart (suc y + count_ifs a) b)
        ∙ sym (asks k c a b)
    same-apart y s = refl

-- in one of both parts, or new
module _ (New : Type 0) (z : ℕ) where
  pub either-new : (xs ys us vs : List ℕ) → (IsIn z us → IsIn z xs ⊎ New) → (IsIn z vs → IsIn z ys ⊎ New) → IsIn z (us ++ vs) → IsIn z (xs ++ ys) ⊎ New
  either-new xs ys us vs f g i =
      ⊎_elim (λ l. ⊎_elim (λ m. inl (in-left z xs ys m)) (λ e. inr e) (f l)) (λ r. ⊎_elim (λ m. inl (in-right z xs ys m)) (λ e. inr e) (g r)) (in-either z us vs i)

-- variables that are gathered: those of a body are in what its statements stand apart, or new. tells: those of a condition; sets: those of what saves it
module _ (f : Stmt → List ℕ) (tells : Expr → List ℕ) (sets : ℕ → Expr → List ℕ)
    (skips : f Skip ≡ []) (joins : (a b : Stmt) → f (Then a b) ≡ f a ++ f b) (asks : (k : Key) (c : Expr) (a b : Stmt) → f (If k c a b) ≡ tells c ++ (f a ++ f b)) (saves : (k : Key) (y : ℕ) (c : Expr) → f (Declare k y (Some c)) ≡ sets y c)
    (base top : ℕ) (New : ℕ → Type 0) (z : ℕ) where
  in-under : (k : Key) (c : Expr) (s : Stmt) → (IsIn z (tells c) → New z) → IsIn z (f (under k c s)) → IsIn z (f s) ⊎ New z
  in-under k c Skip new i = inl i
  in-under k c (Then a b) new i =
      subst (λ l. IsIn z l ⊎ New z) (sym (joins a b)) (either-new (New z) z (f a) (f b) (f (under k c a)) (f (under k c b)) (in-under k c a new) (in-under k c b new) (subst (IsIn z) (joins (under k c a) (under k c b)) i))
  in-under k c s new i = alone k c s new i
    where
      alone : (k : Key) (c : Expr) (s : Stmt) → (IsIn z (tells c) → New z) → IsIn z (f (If k c s Skip)) → IsIn z (f s) ⊎ New z
      alone k c s new i =
          ⊎_elim (λ l. inr (new l)) (λ r. ⊎_elim (λ m. inl m) (λ m. absurd (subst (IsIn z) skips m)) (in-either z (f s) (f Skip) r)) (in-either z (tells c) (f s ++ f Skip) (subst (IsIn z) (asks k c s Skip) i))

  module _ (told : (y : ℕ) → base ≤ y → y < top → (at : Place) → IsIn z (tells (Var y at)) → New z) (untold : (y : ℕ) → base ≤ y → y < top → (at : Place) → IsIn z (tells (Unary Not at (Var y at))) → New z)
      (set : (y : ℕ) → base ≤ y → y < top → (c : Expr) → IsIn z (sets y c) → IsIn z (tells c) ⊎ New z) (at : Place) where
    pub in-apart : (y : ℕ) (s : Stmt) → base ≤ y → y + count_ifs s ≤ top → IsIn z (f (apart at y s)) → IsIn z (f s) ⊎ New z
    in-apart y (Then a b) l h i =
        subst (λ l. IsIn z l ⊎ New z) (sym (joins a b))
        (either-new (New z) z (f a) (f b) (f (apart at y a)) (f (apart at (y + count_ifs a) b)) (in-apart y a l (omega (arith, h))) (in-apart (y + count_ifs a) b (omega (arith, l)) (omega (arith, h)))
        (subst (IsIn z) (joins (apart at y a) (apart at (y + count_ifs a) b)) i))
    in-apart y (If k c a b) l h i =
        let u = under k (Var y at) (apart at (suc y) a) in
        let v = under k (Unary Not at (Var y at)) (apart at (suc y + count_ifs a) b) in
        let inside : y < top = omega (arith, h) in
        let first : IsIn z (f u) → IsIn z (f a) ⊎ New z = λ j. ⊎_elim (λ m. in-apart (suc y) a (omega (arith, l)) (omega (arith, h)) m) (λ e. inr e) (in-under k (Var y at) (apart at (suc y) a) (told y l inside at) j) in
        let second : IsIn z (f v) → IsIn z (f b) ⊎ New z = λ j. ⊎_elim (λ m. in-apart (suc y + count_ifs a) b (omega (arith, l)) (omega (arith, h)) m) (λ e. inr e) (in-under k (Unary Not at (Var y at)) (apart at (suc y + count_ifs a) b) (untold y l inside at) j) in
        subst (λ l. IsIn z l ⊎ New z) (sym (asks k c a b))
        (either-new (New z) z (tells c) (f a ++ f b) (sets y c) (f u ++ f v) (set y l inside c) (either-new (New z) z (f a) (f b) (f u) (f v) first second)
        (whole (f u) (f v)
        (subst (λ x. IsIn z (sets y c ++ (f u ++ x))) (joins v Skip)
        (subst (λ x. IsIn z (sets y c ++ x)) (joins u (Then v Skip)) (subst (λ x. IsIn z (x ++ f (Then u (Then v Skip)))) (saves k y c) (subst (IsIn z) (joins (Declare k y (Some c)) (Then u (Then v Skip))) i))))))
      where
        whole : (p q : List ℕ) → IsIn z (sets y c ++ (p ++ (q ++ f Skip))) → IsIn z (sets y c ++ (p ++ q))
        whole p q i =
            ⊎_elim (λ l. in-left z (sets y c) (p ++ q) l)
            (λ r. in-right z (sets y c) (p ++ q) (⊎_elim (λ l. in-left z p q l) (λ r. in-right z p q (⊎_elim (λ l. l) (λ m. absurd (subst (IsIn z) skips m)) (in-either z q (f Skip) r))) (in-either z p (q ++ f Skip) r)))
            (in-either z (sets y c) (p ++ (q ++ f Skip)) i)
    in-apart y s l h i = inl i

-- lists that are gathered, where a condition that reads a local adds nothing: they stay
module _ {A : Type 0} (f : Stmt → List A) (tells : Key → Expr → List A)
    (skips : f Skip ≡ []) (joins : (a b : Stmt) → f (Then a b) ≡ f a ++ f b) (asks : (k : Key) (c : Expr) (a b : Stmt) → f (If k c a b) ≡ tells k c ++ (f a ++ f b)) (saves : (k : Key) (y : ℕ) (c : Expr) → f (Declare k y (Some c)) ≡ tells k c) where
  gathered-alone : (k : Key) (c : Expr) (s : Stmt) → tells k c ≡ [] → f (If k c s Skip) ≡ f s
  gathered-alone k c s e = asks k c s Skip ∙ ap (λ l. l ++ (f s ++ f Skip)) e ∙ ap (λ l. f s ++ l) skips ∙ append-nil (f s)

  pub gathered-under : (k : Key) (c : Expr) (s : Stmt) → tells k c ≡ [] → f (under k c s) ≡ f s
  gathered-under k c Skip e = refl
  gathered-under k c (Then a b) e = joins (under k c a) (under k c b) ∙ ap (λ l. l ++ f (under k c b)) (gathered-under k c a e) ∙ ap (λ l. f a ++ l) (gathered-under k c b e) ∙ sym (joins a b)
  gathered-under k c s e = gathered-alone k c s e

  module _ (told : (k : Key) (y : ℕ) (at : Place) → tells k (Var y at) ≡ []) (untold : (k : Key) (y : ℕ) (at : Place) → tells k (Unary Not at (Var y at)) ≡ []) (at : Place) where
    pub gathered-apart : (y : ℕ) (s : Stmt) → f (apart at y s) ≡ f s
    gathered-apart y (Then a b) = joins (apart at y a) (apart at (y + count_ifs a) b) ∙ ap (λ l. l ++ f (apart at (y + count_ifs a) b)) (gathered-apart y a) ∙ ap (λ l. f a ++ l) (gathered-apart (y + count_ifs a) b) ∙ sym (joins a b)
    gathered-apart y (If k c a b) =
        let u = under k (Var y at) (apart at (suc y) a) in
        let v = under k (Unary Not at (Var y at)) (apart at (suc y + count_ifs a) b) in
        joins (Declare k y (Some c)) (Then u (Then v Skip)) ∙ ap (λ l. l ++ f (Then u (Then v Skip))) (saves k y c)
        ∙ ap (λ l. tells k c ++ l) (
        joins u (Then v Skip) ∙ ap (λ l. f u ++ l) (joins v Skip ∙ ap (λ l. f v ++ l) skips ∙ append-nil (f v))
        ∙ ap (λ l. l ++ f v) (gathered-under k (Var y at) (apart at (suc y) a) (told k y at) ∙ gathered-apart (suc y) a)
        ∙ ap (λ l. f a ++ l) (gathered-under k (Unary Not at (Var y at)) (apart at (suc y + count_ifs a) b) (untold k y at) ∙ gathered-apart (suc y + count_ifs a) b))
        ∙ sym (asks k c a b)
    gathered-apart y s = refl

-- a test that passes, where that of a condition does for one that reads a local, and the local may be declared
module _ (P : Stmt → Bool) (Q : Expr → Bool) (skips : P Skip ≡ true) (splits : (a b : Stmt) → P (Then a b) ≡ true → (P a ≡ true) × (P b ≡ true)) (joins : (a b : Stmt) → P a ≡ true → P b ≡ true → P (Then a b) ≡ true)
    (parts : (k : Key) (c : Expr) (a b : Stmt) → P (If k c a b) ≡ true → (Q c ≡ true) × ((P a ≡ true) × (P b ≡ true))) (asks : (k : Key) (c : Expr) (a b : Stmt) → Q c ≡ true → P a ≡ true → P b ≡ true → P (If k c a b) ≡ true) where
  pub holds-under : (k : Key) (c : Expr) (s : Stmt) → Q c ≡ true → P s ≡ true → P (under k c s) ≡ true
  holds-under k c Skip q h = h
  holds-under k c (Then a b) q h = let r = splits a b h in joins (under k c a) (under k c b) (holds-under k c a q r.0) (holds-under k c b q r.1)
  holds-under k c s q h = asks k c s Skip q h skips

  module _ (base top : ℕ) (told : (y : ℕ) → base ≤ y → y < top → (at : Place) → Q (Var y at) ≡ true) (untold : (y : ℕ) → base ≤ y → y < top → (at : Place) → Q (Unary Not at (Var y at)) ≡ true)
      (saves : (k : Key) (y : ℕ) → base ≤ y → y < top → (c : Expr) → Q c ≡ true → P (Declare k y (Some c)) ≡ true) (at : Place) where
    pub holds-apart : (y : ℕ) (s : Stmt) → base ≤ y → y + count_ifs s ≤ top → P s ≡ true → P (apart at y s) ≡ true
    holds-apart y (Then a b) l i h = let r = splits a b h in joins (apart at y a) (apart at (y + count_ifs a) b) (holds-apart y a l (omega (arith, i)) r.0) (holds-apart (y + count_ifs a) b (omega (arith, l)) (omega (arith, i)) r.1)
    holds-apart y (If k c a b) l i h =
        let r = parts k c a b h in
        let u = under k (Var y at) (apart at (suc y) a) in
        let v = under k (Unary Not at (Var y at)) (apart at (suc y + count_ifs a) b) in
        let inside : y < top = omega (arith, i) in
        joins (Declare k y (Some c)) (Then u (Then v Skip)) (saves k y l inside c r.0)
        (joins u (Then v Skip) (holds-under k (Var y at) (apart at (suc y) a) (told y l inside at) (holds-apart (suc y) a (omega (arith, l)) (omega (arith, i)) r.1.0))
        (joins v Skip (holds-under k (Unary Not at (Var y at)) (apart at (suc y + count_ifs a) b) (untold y l inside at) (holds-apart (suc y + count_ifs a) b (omega (arith, l)) (omega (arith, i)) r.1.1)) skips))
    holds-apart y s l i h = h
