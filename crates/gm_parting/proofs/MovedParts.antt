-- What is known of a body stays where one of its locals goes to a property: what is own, what can fault, what is written, and its conditions.
use Rattle.std.proofs.Common.{◌≡◌, ◌<◌, arith, ℕ, Bool, true, false, cond, List, [], ◌∷◌, ◌++◌, map, refl, sym, ap, subst, ◌∙◌, Some, None, ⊎_elim, inl, inr}
use Rattle.std.specs.Prelude.{◌⊎◌, ◌&&◌, ◌||◌, not, nat_eq, nat_lt}
use Rattle.std.specs.List.{list_all}
use Rattle.std.proofs.lemmas.Bool.{both_ways, eq-eqb, eqb-true}
use Rattle.gm_base.specs.declared.places.Place.{Place}
use Rattle.gm_value.specs.Bag.{IsIn}
use Rattle.gm_value.specs.declared.values.VType.{VType}
use Rattle.gm_value.specs.Numbers.{zero_of}
use Rattle.gm_ast.specs.declared.tree.Declaration.{Declaration}
use Rattle.gm_ast.specs.declared.tree.Target.{Target}
use Rattle.gm_ast.specs.declared.tree.Target.TheVariants as T
use Rattle.gm_ast.specs.Program.{Expr, Const, Var, Property, EdgeProperty, Degree, NodeCount, EdgeCount, Live, Unary, Binary, Both, Either, Choose, Folded, Stmt, Then, Declare, Assign, Defer, Combine, Foreach, If}
use Rattle.gm_ast.specs.Ways.{is_in}
use Rattle.gm_semantics.specs.Frames.{ReadsBelow, NamesBelow}
use Rattle.gm_forms.specs.Cut.{is_mask, touched, can_overflow, is_there, is_calm, adds_elsewhere, adds_last, is_here, is_own_body, is_own_code, is_own_loop}
use Rattle.gm_forms.specs.Forms.{depth_at, is_flat}
use Rattle.gm_forms.specs.Order.{cannot_fail}
use Rattle.gm_forms.specs.Sharing.{told_in, written_by, variables_of}
use Rattle.gm_forms.proofs.Doings.{in-left, in-right, in-either}
use Rattle.gm_forms.proofs.Named.{both-true, all-append}
use Rattle.gm_forms.proofs.Weaker.{and-true}
use Rattle.gm_loop_laws.specs.Localised.{moved_in, moved_target, moved}
use Rattle.gm_loop_laws.specs.Masks.{spares}
use Rattle.gm_loop_laws.proofs.Kept.{touched-below}
use Rattle.gm_dissect.specs.AllDeferred.{deferred_of}
use Rattle.gm_dissect.specs.Conditions.{holds_cut}
use Rattle.gm_dissect.proofs.Moved.{flat-moved}
use Rattle.gm_dissect.proofs.MovedOrder.{safe-moved}
use Rattle.gm_dissect.proofs.Undeferred.{append-true, two-same}
use Rattle.gm_locals.proofs.MovedAll.{holds-moved}
use Rattle.gm_parting.specs.Lasting.{is_shallow, may_be_repeated, conditions_repeat}
use Rattle.gm_parting.proofs.Lasting.{not-in, out-of}
use Rattle.gm_parting.proofs.Loops.{told-below}

-- what reads none of some variables reads no fresh one either
pub spares-more : (xs : List ℕ) (q : ℕ) (e : Expr) → ReadsBelow q e → spares xs e ≡ true → spares (q ∷ xs) e ≡ true
spares-more xs q e below h = by e below h
  where
    one : (z : ℕ) → z < q → not (is_in xs z) ≡ true → not (is_in (q ∷ xs) z) ≡ true
    one z l h = not-in (q ∷ xs) z (λ i. ⊎_elim (λ (e : z ≡ q). omega (arith, e, l)) (λ j. out-of xs z h j) i)

    by : (e : Expr) → ReadsBelow q e → spares xs e ≡ true → spares (q ∷ xs) e ≡ true
    by (Const v) b h = refl
    by (Var z at) b h = one z b h
    by (Property z p at) b h = let r = both-true (not (is_in xs z)) (not (is_in xs p)) h in and-true (not (is_in (q ∷ xs) z)) (not (is_in (q ∷ xs) p)) (one z b.0 r.0) (one p b.1 r.1)
    by (EdgeProperty z p at) b h = refl
    by (Degree d z at) b h = one z b h
    by NodeCount b h = refl
    by EdgeCount b h = refl
    by (Live z at) b h = one z b h
    by (Unary op at e) b h = by e b h
    by (Binary op at c d) b h = let r = both-true (spares xs c) (spares xs d) h in and-true (spares (q ∷ xs) c) (spares (q ∷ xs) d) (by c b.0 r.0) (by d b.1 r.1)
    by (Both c d) b h = let r = both-true (spares xs c) (spares xs d) h in and-true (spares (q ∷ xs) c) (spares (q ∷ xs) d) (by c b.0 r.0) (by d b.1 r.1)
    by (Either c d) b h = let r = both-true (spares xs c) (spares xs d) h in and-true (spares (q ∷ xs) c) (spares (q ∷ xs) d) (by c b.0 r.0) (by d b.1 r.1)
    by (Choose f c d) b h =
        let r = both-true (spares xs f) (spares xs c && spares xs d) h in
        let s = both-true (spares xs c) (spares xs d) r.1 in
        and-true (spares (q ∷ xs) f) (spares (q ∷ xs) c && spares (q ∷ xs) d) (by f b.0 r.0) (and-true (spares (q ∷ xs) c) (spares (q ∷ xs) d) (by c b.1 s.0) (by d b.2 s.1))
    by (Folded f hd test e) b h = absurd (both_ways false refl h)

-- x: the local; q: its property; n: the iterator; t: the local's type
module _ (x q n : ℕ) (at : Place) (t : VType) where
  abbrev mi : Expr → Expr
  mi e = moved_in x q n at (zero_of t) e

  abbrev mt : Target → Target
  mt o = moved_target x q n at (zero_of t) o

  abbrev mv : Stmt → Stmt
  mv s = moved x q n at (zero_of t) s

  here : nat_eq n n ≡ true
  here = eq-eqb n n refl

  -- what does not name the local is not changed
  pub unmoved : (e : Expr) → (IsIn x (told_in e) → ⊥) → mi e ≡ e
  unmoved (Var y p) out = by (nat_eq y x) refl
    where
      by : (b : Bool) → nat_eq y x ≡ b → cond b (Property n q p) (Var y p) ≡ Var y p
      by true e = absurd (out (inl (sym (eqb-true y x e))))
      by false e = refl
  unmoved (Unary op p e) out = ap (Unary op p) (unmoved e out)
  unmoved (Binary op p a b) out =
      ap (λ c. Binary op p c (mi b)) (unmoved a (λ i. out (in-left x (told_in a) (told_in b) i))) ∙ ap (Binary op p a) (unmoved b (λ i. out (in-right x (told_in a) (told_in b) i)))
  unmoved (Both a b) out = ap (λ c. Both c (mi b)) (unmoved a (λ i. out (in-left x (told_in a) (told_in b) i))) ∙ ap (Both a) (unmoved b (λ i. out (in-right x (told_in a) (told_in b) i)))
  unmoved (Either a b) out = ap (λ c. Either c (mi b)) (unmoved a (λ i. out (in-left x (told_in a) (told_in b) i))) ∙ ap (Either a) (unmoved b (λ i. out (in-right x (told_in a) (told_in b) i)))
  unmoved (Choose c a b) out =
      let rest = told_in a ++ told_in b in
      ap (λ d. Choose d (mi a) (mi b)) (unmoved c (λ i. out (in-left x (told_in c) rest i)))
      ∙ ap (λ d. Choose c d (mi b)) (unmoved a (λ i. out (in-right x (told_in c) rest (in-left x (told_in a) (told_in b) i))))
      ∙ ap (Choose c a) (unmoved b (λ i. out (in-right x (told_in c) rest (in-right x (told_in a) (told_in b) i))))
  unmoved (Const v) out = refl
  unmoved (Property y p place) out = refl
  unmoved (EdgeProperty y p place) out = refl
  unmoved (Degree d y place) out = refl
  unmoved NodeCount out = refl
  unmoved EdgeCount out = refl
  unmoved (Live y place) out = refl
  unmoved (Folded f hd test e) out = refl

  -- ---- tests of targets

  targets-there : (its : List ℕ) → is_in its n ≡ true → (ts : List Target) → list_all (is_there its) (map mt ts) ≡ list_all (is_there its) ts
  targets-there its inside [] = refl
  targets-there its inside (T.Scalar y p ∷ ts) = by (nat_eq y x) (targets-there its inside ts)
    where
      by : (b : Bool) → list_all (is_there its) (map mt ts) ≡ list_all (is_there its) ts → is_there its (cond b (T.Property n q p) (T.Scalar y p)) && list_all (is_there its) (map mt ts) ≡ list_all (is_there its) ts
      by true h = ap (λ b. b && list_all (is_there its) (map mt ts)) inside ∙ h
      by false h = h
  targets-there its inside (T.Property y r p ∷ ts) = ap (λ b. is_in its y && b) (targets-there its inside ts)

  targets-here : (ts : List Target) → list_all (is_here n) (map mt ts) ≡ list_all (is_here n) ts
  targets-here [] = refl
  targets-here (T.Scalar y p ∷ ts) = by (nat_eq y x) (targets-here ts)
    where
      by : (b : Bool) → list_all (is_here n) (map mt ts) ≡ list_all (is_here n) ts → is_here n (cond b (T.Property n q p) (T.Scalar y p)) && list_all (is_here n) (map mt ts) ≡ list_all (is_here n) ts
      by true h = ap (λ b. b && list_all (is_here n) (map mt ts)) here ∙ h
      by false h = h
  targets-here (T.Property y r p ∷ ts) = ap (λ b. nat_eq y n && b) (targets-here ts)

  target-there : (its : List ℕ) → is_in its n ≡ true → (o : Target) → is_there its (mt o) ≡ is_there its o
  target-there its inside (T.Scalar y p) = by (nat_eq y x)
    where
      by : (b : Bool) → is_there its (cond b (T.Property n q p) (T.Scalar y p)) ≡ true
      by true = inside
      by false = refl
  target-there its inside (T.Property y r p) = refl

  all-safe : (es : List Expr) → list_all cannot_fail (map mi es) ≡ list_all cannot_fail es
  all-safe [] = refl
  all-safe (e ∷ es) = two-same (λ a b. a && b) (cannot_fail (mi e)) (list_all cannot_fail (map mi es)) (cannot_fail e) (list_all cannot_fail es) (safe-moved x q n at t e) (all-safe es)

  -- ---- what can fault

  wider : (its : List ℕ) (y : ℕ) → is_in its n ≡ true → is_in (y ∷ its) n ≡ true
  wider its y h = by (nat_eq n y) h
    where
      by : (b : Bool) → is_in its n ≡ true → b || is_in its n ≡ true
      by true h = refl
      by false h = h

  calm-moved : (its : List ℕ) → is_in its n ≡ true → (s : Stmt) → is_calm its (mv s) ≡ is_calm its s
  calm-moved its inside (Then a b) = two-same (λ c d. c && d) (is_calm its (mv a)) (is_calm its (mv b)) (is_calm its a) (is_calm its b) (calm-moved its inside a) (calm-moved its inside b)
  calm-moved its inside (Declare k y None) = by (nat_eq y x)
    where
      by : (b : Bool) → is_calm its (cond b (Assign k (T.Property n q at) (Const (zero_of t))) (Declare k y None)) ≡ true
      by true = ap (λ c. c && true) inside
      by false = refl
  calm-moved its inside (Declare k y (Some e)) = by (nat_eq y x)
    where
      by : (b : Bool) → is_calm its (cond b (Assign k (T.Property n q at) (mi e)) (Declare k y (Some (mi e)))) ≡ cannot_fail e
      by true = ap (λ c. c && cannot_fail (mi e)) inside ∙ safe-moved x q n at t e
      by false = safe-moved x q n at t e
  calm-moved its inside (Assign k o e) = two-same (λ c d. c && d) (is_there its (mt o)) (cannot_fail (mi e)) (is_there its o) (cannot_fail e) (target-there its inside o) (safe-moved x q n at t e)
  calm-moved its inside (Defer k o e) = ap (λ d. is_there its o && d) (safe-moved x q n at t e)
  calm-moved its inside (Combine k total r ts es) =
      ap (λ d. not (can_overflow r) && d) (two-same (λ c d. c && d) (list_all (is_there its) (map mt ts)) (list_all cannot_fail (map mi es)) (list_all (is_there its) ts) (list_all cannot_fail es) (targets-there its inside ts) (all-safe es))
  calm-moved its inside (If k c a b) =
      two-same (λ d e. d && e) (cannot_fail (mi c)) (is_calm its (mv a) && is_calm its (mv b)) (cannot_fail c) (is_calm its a && is_calm its b) (safe-moved x q n at t c)
      (two-same (λ d e. d && e) (is_calm its (mv a)) (is_calm its (mv b)) (is_calm its a) (is_calm its b) (calm-moved its inside a) (calm-moved its inside b))
  calm-moved its inside (Foreach k p hd test body) =
      two-same (λ d e. d && e) (cannot_fail (mi test)) (is_calm (hd.iterator ∷ its) (mv body)) (cannot_fail test) (is_calm (hd.iterator ∷ its) body) (safe-moved x q n at t test) (calm-moved (hd.iterator ∷ its) (wider its hd.iterator inside) body)
  calm-moved its inside s = refl

  adds-moved : (its : List ℕ) → is_in its n ≡ true → (s : Stmt) → adds_elsewhere its (mv s) ≡ adds_elsewhere its s
  adds-moved its inside (Then a b) = two-same (λ c d. c || d) (adds_elsewhere its (mv a)) (adds_elsewhere its (mv b)) (adds_elsewhere its a) (adds_elsewhere its b) (adds-moved its inside a) (adds-moved its inside b)
  adds-moved its inside (If k c a b) = two-same (λ c d. c || d) (adds_elsewhere its (mv a)) (adds_elsewhere its (mv b)) (adds_elsewhere its a) (adds_elsewhere its b) (adds-moved its inside a) (adds-moved its inside b)
  adds-moved its inside (Combine k total r ts es) = ap (λ b. can_overflow r && not b) (targets-there its inside ts)
  adds-moved its inside (Declare k y None) = by (nat_eq y x)
    where
      by : (b : Bool) → adds_elsewhere its (cond b (Assign k (T.Property n q at) (Const (zero_of t))) (Declare k y None)) ≡ false
      by true = refl
      by false = refl
  adds-moved its inside (Declare k y (Some e)) = by (nat_eq y x)
    where
      by : (b : Bool) → adds_elsewhere its (cond b (Assign k (T.Property n q at) (mi e)) (Declare k y (Some (mi e)))) ≡ false
      by true = refl
      by false = refl
  adds-moved its inside s = refl

  pub last-moved : (its : List ℕ) → is_in its n ≡ true → (s : Stmt) → adds_last its (mv s) ≡ adds_last its s
  last-moved its inside (Then a b) =
      two-same (λ c d. c && d) (adds_last its (mv a)) (adds_last its (mv b) && (not (adds_elsewhere its (mv a)) || is_calm its (mv b))) (adds_last its a) (adds_last its b && (not (adds_elsewhere its a) || is_calm its b)) (last-moved its inside a)
      (two-same (λ c d. c && d) (adds_last its (mv b)) (not (adds_elsewhere its (mv a)) || is_calm its (mv b)) (adds_last its b) (not (adds_elsewhere its a) || is_calm its b) (last-moved its inside b)
      (two-same (λ c d. not c || d) (adds_elsewhere its (mv a)) (is_calm its (mv b)) (adds_elsewhere its a) (is_calm its b) (adds-moved its inside a) (calm-moved its inside b)))
  last-moved its inside (If k c a b) = two-same (λ c d. c && d) (adds_last its (mv a)) (adds_last its (mv b)) (adds_last its a) (adds_last its b) (last-moved its inside a) (last-moved its inside b)
  last-moved its inside (Declare k y None) = by (nat_eq y x)
    where
      by : (b : Bool) → adds_last its (cond b (Assign k (T.Property n q at) (Const (zero_of t))) (Declare k y None)) ≡ true
      by true = refl
      by false = refl
  last-moved its inside (Declare k y (Some e)) = by (nat_eq y x)
    where
      by : (b : Bool) → adds_last its (cond b (Assign k (T.Property n q at) (mi e)) (Declare k y (Some (mi e)))) ≡ true
      by true = refl
      by false = refl
  last-moved its inside s = refl

  -- ---- what is own

  body-moved : (s : Stmt) → is_own_body n (mv s) ≡ is_own_body n s
  body-moved (Then a b) = two-same (λ c d. c && d) (is_own_body n (mv a)) (is_own_body n (mv b)) (is_own_body n a) (is_own_body n b) (body-moved a) (body-moved b)
  body-moved (If k c a b) = two-same (λ c d. c && d) (is_own_body n (mv a)) (is_own_body n (mv b)) (is_own_body n a) (is_own_body n b) (body-moved a) (body-moved b)
  body-moved (Combine k total r ts es) = targets-here ts
  body-moved (Declare k y None) = by (nat_eq y x)
    where
      by : (b : Bool) → is_own_body n (cond b (Assign k (T.Property n q at) (Const (zero_of t))) (Declare k y None)) ≡ true
      by true = refl
      by false = refl
  body-moved (Declare k y (Some e)) = by (nat_eq y x)
    where
      by : (b : Bool) → is_own_body n (cond b (Assign k (T.Property n q at) (mi e)) (Declare k y (Some (mi e)))) ≡ true
      by true = refl
      by false = refl
  body-moved s = refl

  code-moved : (s : Stmt) → is_own_code n (mv s) ≡ is_own_code n s
  code-moved (Then a b) = two-same (λ c d. c && d) (is_own_code n (mv a)) (is_own_code n (mv b)) (is_own_code n a) (is_own_code n b) (code-moved a) (code-moved b)
  code-moved (If k c a b) = body-moved (If k c a b)
  code-moved (Declare k y None) = by (nat_eq y x)
    where
      by : (b : Bool) → is_own_code n (cond b (Assign k (T.Property n q at) (Const (zero_of t))) (Declare k y None)) ≡ true
      by true = refl
      by false = refl
  code-moved (Declare k y (Some e)) = by (nat_eq y x)
    where
      by : (b : Bool) → is_own_code n (cond b (Assign k (T.Property n q at) (mi e)) (Declare k y (Some (mi e)))) ≡ true
      by true = refl
      by false = refl
  code-moved s = refl

  pub own-moved : (s : Stmt) → is_own_loop n (mv s) ≡ is_own_loop n s
  own-moved s = two-same (λ c d. c && d) (is_own_code n (mv s)) (adds_last (n ∷ []) (mv s)) (is_own_code n s) (adds_last (n ∷ []) s) (code-moved s) (last-moved (n ∷ []) (ap (λ b. b || false) here) s)

  pub deferred-of-moved : (s : Stmt) → deferred_of (mv s) ≡ deferred_of s
  deferred-of-moved (Then a b) = two-same (λ c d. c ++ d) (deferred_of (mv a)) (deferred_of (mv b)) (deferred_of a) (deferred_of b) (deferred-of-moved a) (deferred-of-moved b)
  deferred-of-moved (If k c a b) = two-same (λ c d. c ++ d) (deferred_of (mv a)) (deferred_of (mv b)) (deferred_of a) (deferred_of b) (deferred-of-moved a) (deferred-of-moved b)
  deferred-of-moved (Declare k y None) = by (nat_eq y x)
    where
      by : (b : Bool) → deferred_of (cond b (Assign k (T.Property n q at) (Const (zero_of t))) (Declare k y None)) ≡ []
      by true = refl
      by false = refl
  deferred-of-moved (Declare k y (Some e)) = by (nat_eq y x)
    where
      by : (b : Bool) → deferred_of (cond b (Assign k (T.Property n q at) (mi e)) (Declare k y (Some (mi e)))) ≡ []
      by true = refl
      by false = refl
  deferred-of-moved s = refl

  -- ---- what is written

  abbrev Now : List ℕ → ℕ → Type 0
  Now xs y = IsIn y xs ⊎ ((y ≡ q) × IsIn x xs)

  now-left : (xs ys : List ℕ) (y : ℕ) → Now xs y → Now (xs ++ ys) y
  now-left xs ys y w = ⊎_elim (λ i. inl (in-left y xs ys i)) (λ r. inr (r.0, in-left x xs ys r.1)) w

  now-right : (xs ys : List ℕ) (y : ℕ) → Now ys y → Now (xs ++ ys) y
  now-right xs ys y w = ⊎_elim (λ i. inl (in-right y xs ys i)) (λ r. inr (r.0, in-right x xs ys r.1)) w

  target-now : (o : Target) (y : ℕ) → IsIn y (written_by (mt o)) → Now (written_by o) y
  target-now (T.Scalar z p) y i = by (nat_eq z x) refl i
    where
      by : (b : Bool) → nat_eq z x ≡ b → IsIn y (written_by (cond b (T.Property n q p) (T.Scalar z p))) → Now (z ∷ []) y
      by true e i = ⊎_elim (λ (f : y ≡ q). inr (f, inl (sym (eqb-true z x e)))) (λ j. absurd j) i
      by false e i = inl i
  target-now (T.Property z p place) y i = inl i

  targets-now : (ts : List Target) (y : ℕ) → IsIn y (variables_of (map mt ts)) → Now (variables_of ts) y
  targets-now [] y i = absurd i
  targets-now (o ∷ ts) y i =
      ⊎_elim (λ j. now-left (written_by o) (variables_of ts) y (target-now o y j)) (λ j. now-right (written_by o) (variables_of ts) y (targets-now ts y j)) (in-either y (written_by (mt o)) (variables_of (map mt ts)) i)

  pub touched-moved : (s : Stmt) (y : ℕ) → IsIn y (touched (mv s)) → Now (touched s) y
  touched-moved (Then a b) y i = ⊎_elim (λ j. now-left (touched a) (touched b) y (touched-moved a y j)) (λ j. now-right (touched a) (touched b) y (touched-moved b y j)) (in-either y (touched (mv a)) (touched (mv b)) i)
  touched-moved (If k c a b) y i = ⊎_elim (λ j. now-left (touched a) (touched b) y (touched-moved a y j)) (λ j. now-right (touched a) (touched b) y (touched-moved b y j)) (in-either y (touched (mv a)) (touched (mv b)) i)
  touched-moved (Declare k z None) y i = by (nat_eq z x) refl i
    where
      by : (b : Bool) → nat_eq z x ≡ b → IsIn y (touched (cond b (Assign k (T.Property n q at) (Const (zero_of t))) (Declare k z None))) → Now (z ∷ []) y
      by true e i = ⊎_elim (λ (f : y ≡ q). inr (f, inl (sym (eqb-true z x e)))) (λ j. absurd j) i
      by false e i = inl i
  touched-moved (Declare k z (Some e)) y i = by (nat_eq z x) refl i
    where
      by : (b : Bool) → nat_eq z x ≡ b → IsIn y (touched (cond b (Assign k (T.Property n q at) (mi e)) (Declare k z (Some (mi e))))) → Now (z ∷ []) y
      by true e i = ⊎_elim (λ (f : y ≡ q). inr (f, inl (sym (eqb-true z x e)))) (λ j. absurd j) i
      by false e i = inl i
  touched-moved (Assign k o e) y i = target-now o y i
  touched-moved (Defer k o e) y i = inl i
  touched-moved (Combine k total r ts es) y i = targets-now ts y i
  touched-moved (Foreach k p hd test body) y i = touched-moved body y i
  touched-moved s y i = inl i

  -- ---- conditions

  -- xs: what is written; ys: what is written then
  module _ (xs ys : List ℕ) (low : (y : ℕ) → IsIn y xs → y < q) (now : (y : ℕ) → IsIn y ys → Now xs y) (off : IsIn n xs → ⊥) (iterator : n < q) where
    still : (z : ℕ) → z < q → not (is_in xs z) ≡ true → not (is_in ys z) ≡ true
    still z l h = not-in ys z (λ i. ⊎_elim (λ j. out-of xs z h j) (λ (r : (z ≡ q) × IsIn x xs). let e = r.0 in omega (arith, e, l)) (now z i))

    kept-unwritten : not (is_in xs x) ≡ true → not (is_in ys n) && not (is_in ys q) ≡ true
    kept-unwritten h =
        and-true (not (is_in ys n)) (not (is_in ys q)) (not-in ys n (λ i. ⊎_elim off (λ (r : (n ≡ q) × IsIn x xs). let e = r.0 in omega (arith, e, iterator)) (now n i)))
        (not-in ys q (λ i. ⊎_elim (λ j. let l = low q j in omega (arith, l)) (λ (r : (q ≡ q) × IsIn x xs). out-of xs x h r.1) (now q i)))

    spares-moved : (e : Expr) → ReadsBelow q e → spares xs e ≡ true → spares ys (mi e) ≡ true
    spares-moved (Const v) b h = refl
    spares-moved (Var z p) b h = by (nat_eq z x) refl
      where
        by : (c : Bool) → nat_eq z x ≡ c → spares ys (cond c (Property n q p) (Var z p)) ≡ true
        by true e = kept-unwritten (subst (λ w. not (is_in xs w) ≡ true) (eqb-true z x e) h)
        by false e = still z b h
    spares-moved (Property z p place) b h = let r = both-true (not (is_in xs z)) (not (is_in xs p)) h in and-true (not (is_in ys z)) (not (is_in ys p)) (still z b.0 r.0) (still p b.1 r.1)
    spares-moved (EdgeProperty z p place) b h = refl
    spares-moved (Degree d z place) b h = still z b h
    spares-moved NodeCount b h = refl
    spares-moved EdgeCount b h = refl
    spares-moved (Live z place) b h = still z b h
    spares-moved (Unary op p e) b h = spares-moved e b h
    spares-moved (Binary op p c d) b h = let r = both-true (spares xs c) (spares xs d) h in and-true (spares ys (mi c)) (spares ys (mi d)) (spares-moved c b.0 r.0) (spares-moved d b.1 r.1)
    spares-moved (Both c d) b h = let r = both-true (spares xs c) (spares xs d) h in and-true (spares ys (mi c)) (spares ys (mi d)) (spares-moved c b.0 r.0) (spares-moved d b.1 r.1)
    spares-moved (Either c d) b h = let r = both-true (spares xs c) (spares xs d) h in and-true (spares ys (mi c)) (spares ys (mi d)) (spares-moved c b.0 r.0) (spares-moved d b.1 r.1)
    spares-moved (Choose f c d) b h =
        let r = both-true (spares xs f) (spares xs c && spares xs d) h in
        let s = both-true (spares xs c) (spares xs d) r.1 in
        and-true (spares ys (mi f)) (spares ys (mi c) && spares ys (mi d)) (spares-moved f b.0 r.0) (and-true (spares ys (mi c)) (spares ys (mi d)) (spares-moved c b.1 s.0) (spares-moved d b.2 s.1))
    spares-moved (Folded f hd test e) b h = absurd (both_ways false refl h)

  -- ds: the table; dt: a longer one
  module _ (ds dt : List Declaration) (depths : (y : ℕ) → y < q → depth_at dt y ≡ depth_at ds y) where
    shallow-one : (z : ℕ) → z < q → is_shallow ds n z ≡ true → is_shallow dt n z ≡ true
    shallow-one z l h = ap (λ d. nat_eq z n || nat_lt d 2) (depths z l) ∙ h

    shallow-longer : (zs : List ℕ) → ((y : ℕ) → IsIn y zs → y < q) → list_all (is_shallow ds n) zs ≡ true → list_all (is_shallow dt n) zs ≡ true
    shallow-longer [] low h = refl
    shallow-longer (z ∷ zs) low h =
        let r = both-true (is_shallow ds n z) (list_all (is_shallow ds n) zs) h in
        and-true (is_shallow dt n z) (list_all (is_shallow dt n) zs) (shallow-one z (low z (inl refl)) r.0) (shallow-longer zs (λ y i. low y (inr i)) r.1)

    shallow-moved : (e : Expr) → ReadsBelow q e → list_all (is_shallow ds n) (told_in e) ≡ true → list_all (is_shallow dt n) (told_in (mi e)) ≡ true
    shallow-moved (Var z p) l h = by (nat_eq z x)
      where
        by : (b : Bool) → list_all (is_shallow dt n) (told_in (cond b (Property n q p) (Var z p))) ≡ true
        by true = and-true (is_shallow dt n n) true (ap (λ b. b || nat_lt (depth_at dt n) 2) here) refl
        by false = and-true (is_shallow dt n z) true (shallow-one z l (both-true (is_shallow ds n z) true h).0) refl
    shallow-moved (Unary op p e) l h = shallow-moved e l h
    shallow-moved (Binary op p a b) l h =
        let r = all-append (is_shallow ds n) (told_in a) (told_in b) h in append-true (is_shallow dt n) (told_in (mi a)) (told_in (mi b)) (shallow-moved a l.0 r.0) (shallow-moved b l.1 r.1)
    shallow-moved (Both a b) l h =
        let r = all-append (is_shallow ds n) (told_in a) (told_in b) h in append-true (is_shallow dt n) (told_in (mi a)) (told_in (mi b)) (shallow-moved a l.0 r.0) (shallow-moved b l.1 r.1)
    shallow-moved (Either a b) l h =
        let r = all-append (is_shallow ds n) (told_in a) (told_in b) h in append-true (is_shallow dt n) (told_in (mi a)) (told_in (mi b)) (shallow-moved a l.0 r.0) (shallow-moved b l.1 r.1)
    shallow-moved (Choose c a b) l h =
        let r = all-append (is_shallow ds n) (told_in c) (told_in a ++ told_in b) h in
        let s = all-append (is_shallow ds n) (told_in a) (told_in b) r.1 in
        append-true (is_shallow dt n) (told_in (mi c)) (told_in (mi a) ++ told_in (mi b)) (shallow-moved c l.0 r.0) (append-true (is_shallow dt n) (told_in (mi a)) (told_in (mi b)) (shallow-moved a l.1 s.0) (shallow-moved b l.2 s.1))
    shallow-moved e l h = shallow-longer (told_in e) (told-below q e l) h

    -- in a longer table
    pub repeat-longer : (s : Stmt) → NamesBelow q s → conditions_repeat ds n s ≡ true → conditions_repeat dt n s ≡ true
    repeat-longer (Then a b) l h =
        let r = both-true (conditions_repeat ds n a) (conditions_repeat ds n b) h in and-true (conditions_repeat dt n a) (conditions_repeat dt n b) (repeat-longer a l.0 r.0) (repeat-longer b l.1 r.1)
    repeat-longer (If k c a b) l h =
        let xs = touched a ++ touched b in
        let holds = holds_cut n a || holds_cut n b in
        let p = both-true (not holds || may_be_repeated ds n xs c) (conditions_repeat ds n a && conditions_repeat ds n b) h in
        let r = both-true (conditions_repeat ds n a) (conditions_repeat ds n b) p.1 in
        and-true (not holds || may_be_repeated dt n xs c) (conditions_repeat dt n a && conditions_repeat dt n b)
        (by (not holds) (is_mask n c) (spares xs c) (list_all (is_shallow ds n) (told_in c)) (list_all (is_shallow dt n) (told_in c)) p.0 (shallow-longer (told_in c) (told-below q c l.0)))
        (and-true (conditions_repeat dt n a) (conditions_repeat dt n b) (repeat-longer a l.1 r.0) (repeat-longer b l.2 r.1))
      where
        by : (o x y w v : Bool) → o || (x && (y && w)) ≡ true → (w ≡ true → v ≡ true) → o || (x && (y && v)) ≡ true
        by true x y w v h f = refl
        by false x y w v h f =
            let r = both-true x (y && w) h in
            let q = both-true y w r.1 in
            and-true x (y && v) r.0 (and-true y v q.0 (f q.1))
    repeat-longer s l h = refl

    pub repeat-moved : (deep : nat_eq (depth_at dt x) 1 ≡ true) (iterator : n < q) (s : Stmt) → NamesBelow q s → (IsIn n (touched s) → ⊥) → conditions_repeat ds n s ≡ true → conditions_repeat dt n (mv s) ≡ true
    repeat-moved deep iterator (Then a b) l off h =
        let r = both-true (conditions_repeat ds n a) (conditions_repeat ds n b) h in
        and-true (conditions_repeat dt n (mv a)) (conditions_repeat dt n (mv b)) (repeat-moved deep iterator a l.0 (λ i. off (in-left n (touched a) (touched b) i)) r.0) (repeat-moved deep iterator b l.1 (λ i. off (in-right n (touched a) (touched b) i)) r.1)
    repeat-moved deep iterator (If k c a b) l off h =
        let xs = touched a ++ touched b in
        let ys = touched (mv a) ++ touched (mv b) in
        let holds = holds_cut n a || holds_cut n b in
        let p = both-true (not holds || may_be_repeated ds n xs c) (conditions_repeat ds n a && conditions_repeat ds n b) h in
        let r = both-true (conditions_repeat ds n a) (conditions_repeat ds n b) p.1 in
        let same : holds_cut n (mv a) || holds_cut n (mv b) ≡ holds = two-same (λ d e. d || e) (holds_cut n (mv a)) (holds_cut n (mv b)) (holds_cut n a) (holds_cut n b) (holds-moved x q n at (zero_of t) a) (holds-moved x q n at (zero_of t) b) in
        let low : (y : ℕ) → IsIn y xs → y < q = λ y i. ⊎_elim (touched-below q a l.1 y) (touched-below q b l.2 y) (in-either y (touched a) (touched b) i) in
        let now : (y : ℕ) → IsIn y ys → Now xs y =
        λ y i. ⊎_elim (λ j. now-left (touched a) (touched b) y (touched-moved a y j)) (λ j. now-right (touched a) (touched b) y (touched-moved b y j)) (in-either y (touched (mv a)) (touched (mv b)) i) in
        let mask : may_be_repeated ds n xs c ≡ true → may_be_repeated dt n ys (mi c) ≡ true =
        λ m.
        let w = both-true (is_mask n c) (spares xs c && list_all (is_shallow ds n) (told_in c)) m in
        let u = both-true (spares xs c) (list_all (is_shallow ds n) (told_in c)) w.1 in
        let v = both-true (cannot_fail c) (is_flat (n ∷ []) false c) w.0 in
        and-true (is_mask n (mi c)) (spares ys (mi c) && list_all (is_shallow dt n) (told_in (mi c)))
        (and-true (cannot_fail (mi c)) (is_flat (n ∷ []) false (mi c)) (safe-moved x q n at t c ∙ v.0) (flat-moved dt x q n at t deep (n ∷ []) false (ap (λ b. b || false) here) c ∙ v.1))
        (and-true (spares ys (mi c)) (list_all (is_shallow dt n) (told_in (mi c))) (spares-moved xs ys low now off iterator c l.0 u.0) (shallow-moved c l.0 u.1)) in
        and-true (not (holds_cut n (mv a) || holds_cut n (mv b)) || may_be_repeated dt n ys (mi c)) (conditions_repeat dt n (mv a) && conditions_repeat dt n (mv b))
        (ap (λ b. not b || may_be_repeated dt n ys (mi c)) same ∙ still-either (not holds) (may_be_repeated ds n xs c) (may_be_repeated dt n ys (mi c)) p.0 mask)
        (and-true (conditions_repeat dt n (mv a)) (conditions_repeat dt n (mv b)) (repeat-moved deep iterator a l.1 (λ i. off (in-left n (touched a) (touched b) i)) r.0) (repeat-moved deep iterator b l.2 (λ i. off (in-right n (touched a) (touched b) i)) r.1))
      where
        still-either : (o m m' : Bool) → o || m ≡ true → (m ≡ true → m' ≡ true) → o || m' ≡ true
        still-either true m m' h f = refl
        still-either false m m' h f = f h
    repeat-moved deep iterator (Declare k y None) l off h = by (nat_eq y x)
      where
        by : (b : Bool) → conditions_repeat dt n (cond b (Assign k (T.Property n q at) (Const (zero_of t))) (Declare k y None)) ≡ true
        by true = refl
        by false = refl
    repeat-moved deep iterator (Declare k y (Some e)) l off h = by (nat_eq y x)
      where
        by : (b : Bool) → conditions_repeat dt n (cond b (Assign k (T.Property n q at) (mi e)) (Declare k y (Some (mi e)))) ≡ true
        by true = refl
        by false = refl
    repeat-moved deep iterator s l off h = refl
