-- Masks that last over a part of a body.
use Rattle.std.proofs.Common.{◌≡◌, ℕ, Bool, true, false, List, [], ◌∷◌, ◌++◌, refl, subst, ⊎_elim, inl}
use Rattle.std.specs.Prelude.{◌&&◌, not}
use Rattle.std.specs.List.{list_all}
use Rattle.std.proofs.lemmas.Bool.{both_ways}
use Rattle.gm_base.specs.declared.places.Place.{Place}
use Rattle.gm_value.specs.Bag.{IsIn}
use Rattle.gm_value.specs.declared.operations.Op1.TheVariants.{Not}
use Rattle.gm_ast.specs.declared.tree.Declaration.{Declaration}
use Rattle.gm_ast.specs.Program.{Expr, Const, Var, Property, EdgeProperty, Degree, NodeCount, EdgeCount, Live, Unary, Binary, Both, Either, Choose, Folded, Stmt}
use Rattle.gm_ast.specs.Ways.{is_in}
use Rattle.gm_forms.specs.Cut.{is_mask, touched}
use Rattle.gm_forms.specs.Forms.{is_flat}
use Rattle.gm_forms.specs.Order.{cannot_fail}
use Rattle.gm_forms.specs.Sharing.{Read, reads_in, told_in, read_anywhere}
use Rattle.gm_forms.proofs.CutTests.{found, finds}
use Rattle.gm_forms.proofs.Doings.{in-left, in-right, in-either}
use Rattle.gm_forms.proofs.Named.{both-true}
use Rattle.gm_forms.proofs.Weaker.{and-true}
use Rattle.gm_loop_laws.specs.Masks.{is_certain, spares, is_stable}
use Rattle.gm_dissect.proofs.Undeferred.{append-true}
use Rattle.gm_cut.proofs.Apart.{mask-certain}
use Rattle.gm_cut.proofs.Shared.{Under, anywhere-split}
use Rattle.gm_parting.specs.Lasting.{is_outside, is_lasting}

pub not-in : (xs : List ℕ) (y : ℕ) → (IsIn y xs → ⊥) → not (is_in xs y) ≡ true
not-in xs y out = by (is_in xs y) refl
  where
    by : (b : Bool) → is_in xs y ≡ b → not b ≡ true
    by true e = absurd (out (found xs y e))
    by false e = refl

pub out-of : (xs : List ℕ) (y : ℕ) → not (is_in xs y) ≡ true → IsIn y xs → ⊥
out-of xs y h i = by (is_in xs y) (finds xs y i) h
  where
    by : (b : Bool) → b ≡ true → not b ≡ true → ⊥
    by true e n = both_ways false refl n
    by false e n = both_ways false refl e

fewer-in : (xs ys : List ℕ) (y : ℕ) → Under ys xs → not (is_in xs y) ≡ true → not (is_in ys y) ≡ true
fewer-in xs ys y u h = not-in ys y (λ i. out-of xs y h (u y i))

-- what reads none of some variables reads none of fewer
pub spares-fewer : (xs ys : List ℕ) → Under ys xs → (e : Expr) → spares xs e ≡ true → spares ys e ≡ true
spares-fewer xs ys u (Const v) h = refl
spares-fewer xs ys u (Var x at) h = fewer-in xs ys x u h
spares-fewer xs ys u (Property x p at) h = let r = both-true (not (is_in xs x)) (not (is_in xs p)) h in and-true (not (is_in ys x)) (not (is_in ys p)) (fewer-in xs ys x u r.0) (fewer-in xs ys p u r.1)
spares-fewer xs ys u (EdgeProperty x p at) h = refl
spares-fewer xs ys u (Degree d x at) h = fewer-in xs ys x u h
spares-fewer xs ys u NodeCount h = refl
spares-fewer xs ys u EdgeCount h = refl
spares-fewer xs ys u (Live x at) h = fewer-in xs ys x u h
spares-fewer xs ys u (Unary op at e) h = spares-fewer xs ys u e h
spares-fewer xs ys u (Binary op at a b) h = let r = both-true (spares xs a) (spares xs b) h in and-true (spares ys a) (spares ys b) (spares-fewer xs ys u a r.0) (spares-fewer xs ys u b r.1)
spares-fewer xs ys u (Both a b) h = let r = both-true (spares xs a) (spares xs b) h in and-true (spares ys a) (spares ys b) (spares-fewer xs ys u a r.0) (spares-fewer xs ys u b r.1)
spares-fewer xs ys u (Either a b) h = let r = both-true (spares xs a) (spares xs b) h in and-true (spares ys a) (spares ys b) (spares-fewer xs ys u a r.0) (spares-fewer xs ys u b r.1)
spares-fewer xs ys u (Choose c a b) h =
    let q = both-true (spares xs c) (spares xs a && spares xs b) h in
    let r = both-true (spares xs a) (spares xs b) q.1 in
    and-true (spares ys c) (spares ys a && spares ys b) (spares-fewer xs ys u c q.0) (and-true (spares ys a) (spares ys b) (spares-fewer xs ys u a r.0) (spares-fewer xs ys u b r.1))
spares-fewer xs ys u (Folded f hd test e) h = absurd (both_ways false refl h)

-- none of these is read, by its name or as a property
abbrev Unread : List ℕ → Expr → Type 0
Unread xs e = (y : ℕ) → IsIn y xs → IsIn y (read_anywhere (reads_in e) ++ told_in e) → ⊥

unread-both : (xs : List ℕ) (p q : List Read) (s t : List ℕ) → ((y : ℕ) → IsIn y xs → IsIn y (read_anywhere p ++ s) → ⊥) → ((y : ℕ) → IsIn y xs → IsIn y (read_anywhere q ++ t) → ⊥) →
    (y : ℕ) → IsIn y xs → IsIn y (read_anywhere (p ++ q) ++ (s ++ t)) → ⊥
unread-both xs p q s t f g y i j =
    ⊎_elim (λ k. ⊎_elim (λ l. f y i (in-left y (read_anywhere p) s l)) (λ l. g y i (in-left y (read_anywhere q) t l)) (in-either y (read_anywhere p) (read_anywhere q) (subst (IsIn y) (anywhere-split p q) k)))
    (λ k. ⊎_elim (λ l. f y i (in-right y (read_anywhere p) s l)) (λ l. g y i (in-right y (read_anywhere q) t l)) (in-either y s t k))
    (in-either y (read_anywhere (p ++ q)) (s ++ t) j)

one-out : (xs : List ℕ) (x y : ℕ) → not (is_in xs x) ≡ true → IsIn y xs → IsIn y (x ∷ []) → ⊥
one-out xs x y h i j = ⊎_elim (λ (e : y ≡ x). out-of xs x h (subst (λ z. IsIn z xs) e i)) (λ k. k) j

pub unread : (xs : List ℕ) (e : Expr) → spares xs e ≡ true → Unread xs e
unread xs (Const v) h = λ y i j. j
unread xs (Var x at) h = λ y i j. one-out xs x y h i j
unread xs (Property x p at) h = λ y i j.
    let r = both-true (not (is_in xs x)) (not (is_in xs p)) h in
    ⊎_elim (λ (e : y ≡ p). one-out xs p y r.1 i (inl e)) (λ k. one-out xs x y r.0 i k) j
unread xs (EdgeProperty x p at) h = λ y i j. j
unread xs (Degree d x at) h = λ y i j. one-out xs x y h i j
unread xs NodeCount h = λ y i j. j
unread xs EdgeCount h = λ y i j. j
unread xs (Live x at) h = λ y i j. one-out xs x y h i j
unread xs (Unary op at e) h = unread xs e h
unread xs (Binary op at a b) h = let r = both-true (spares xs a) (spares xs b) h in unread-both xs (reads_in a) (reads_in b) (told_in a) (told_in b) (unread xs a r.0) (unread xs b r.1)
unread xs (Both a b) h = let r = both-true (spares xs a) (spares xs b) h in unread-both xs (reads_in a) (reads_in b) (told_in a) (told_in b) (unread xs a r.0) (unread xs b r.1)
unread xs (Either a b) h = let r = both-true (spares xs a) (spares xs b) h in unread-both xs (reads_in a) (reads_in b) (told_in a) (told_in b) (unread xs a r.0) (unread xs b r.1)
unread xs (Choose c a b) h =
    let q = both-true (spares xs c) (spares xs a && spares xs b) h in
    let r = both-true (spares xs a) (spares xs b) q.1 in
    unread-both xs (reads_in c) (reads_in a ++ reads_in b) (told_in c) (told_in a ++ told_in b) (unread xs c q.0) (unread-both xs (reads_in a) (reads_in b) (told_in a) (told_in b) (unread xs a r.0) (unread xs b r.1))
unread xs (Folded f hd test e) h = absurd (both_ways false refl h)

module _ (ds : List Declaration) (n : ℕ) where
  abbrev told : Expr → Bool
  told e = list_all (is_outside ds n) (told_in e)

  -- the parts of the test
  pub record Lasts (xs : List ℕ) (e : Expr) : Type 0 where
    pub sure : cannot_fail e ≡ true
    pub flat : is_flat (n ∷ []) false e ≡ true
    pub spare : spares xs e ≡ true
    pub plain : list_all (is_outside ds n) (told_in e) ≡ true

  pub lasts : (xs : List ℕ) (e : Expr) → is_lasting ds n xs e ≡ true → Lasts xs e
  lasts xs e h =
      let a = both-true (is_mask n e) (spares xs e && told e) h in
      let b = both-true (spares xs e) (told e) a.1 in
      let c = both-true (cannot_fail e) (is_flat (n ∷ []) false e) a.0 in
      record { sure = c.0; flat = c.1; spare = b.0; plain = b.1 }

  pub lasting : (xs : List ℕ) (e : Expr) → Lasts xs e → is_lasting ds n xs e ≡ true
  lasting xs e l =
      and-true (is_mask n e) (spares xs e && told e) (and-true (cannot_fail e) (is_flat (n ∷ []) false e) l.sure l.flat) (and-true (spares xs e) (told e) l.spare l.plain)

  pub lasts-fewer : (xs ys : List ℕ) (e : Expr) → Under ys xs → Lasts xs e → Lasts ys e
  lasts-fewer xs ys e u l = record { sure = l.sure; flat = l.flat; spare = spares-fewer xs ys u e l.spare; plain = l.plain }

  -- under one side of a condition that lasts
  pub lasts-both : (xs : List ℕ) (mask c : Expr) → Lasts xs mask → Lasts xs c → Lasts xs (Both mask c)
  lasts-both xs mask c l m = record {
    sure = and-true (cannot_fail mask) (cannot_fail c) l.sure m.sure;
    flat = and-true (is_flat (n ∷ []) false mask) (is_flat (n ∷ []) false c) l.flat m.flat;
    spare = and-true (spares xs mask) (spares xs c) l.spare m.spare;
    plain = append-true (is_outside ds n) (told_in mask) (told_in c) l.plain m.plain;
  }

  pub lasts-not : (xs : List ℕ) (at : Place) (c : Expr) → Lasts xs c → Lasts xs (Unary Not at c)
  lasts-not xs at c m = record { sure = m.sure; flat = m.flat; spare = m.spare; plain = m.plain }

  -- it stays over a part that does not write the iterator
  pub lasts-stable : (a : Stmt) (e : Expr) → (IsIn n (touched a) → ⊥) → Lasts (touched a) e → is_stable n a e ≡ true
  lasts-stable a e off l =
      and-true (is_certain (n ∷ []) e) (not (is_in (touched a) n) && spares (touched a) e) (mask-certain n e l.sure l.flat) (and-true (not (is_in (touched a) n)) (spares (touched a) e) (not-in (touched a) n off) l.spare)
