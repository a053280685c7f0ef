-- Lists as bags, and lists made of lists.
use Rattle.std.proofs.Common.{◌≡◌, ◌≢◌, ◌<◌, ◌≤◌, ◌+◌, ℕ, zero, suc, List, [], ◌∷◌, ◌++◌, length, map, refl, sym, ap, ◌∙◌, subst, arith, append_assoc, ⊎_elim}
use Rattle.std.specs.Prelude.{slice_index_or}
use Rattle.std.specs.List.{flat_map, range_with_len, enumerate_from}
use Rattle.std.proofs.lemmas.Bool.{cases_eq}
use Rattle.std.proofs.lemmas.List.{append-nil}
use Rattle.gm_value.specs.Bag.{SameBag, same_nil, same_cons, same_swap, same_trans}
use Rattle.gm_value.proofs.BagLaws.{SameBag-refl, SameBag-sym, SameBag-middle, SameBag-append_left, SameBag-append_right}

pub same_as : {A : Type 0} {xs ys : List A} → xs ≡ ys → SameBag xs ys
same_as {xs = xs} e = subst (λ l. SameBag xs l) e (SameBag-refl xs)

pub SameBag-length : {A : Type 0} {xs ys : List A} → SameBag xs ys → length xs ≡ length ys
SameBag-length same_nil = refl
SameBag-length (same_cons x s) = ap suc (SameBag-length s)
SameBag-length (same_swap x y xs) = refl
SameBag-length (same_trans s t) = SameBag-length s ∙ SameBag-length t

-- a list goes past a list
pub lists_past : {A : Type 0} (xs ys zs : List A) → SameBag (xs ++ (ys ++ zs)) (ys ++ (xs ++ zs))
lists_past [] ys zs = SameBag-refl (ys ++ zs)
lists_past (x ∷ xs) ys zs = same_trans (same_cons x (lists_past xs ys zs)) (SameBag-sym (SameBag-middle ys x (xs ++ zs)))

pub flat_map-permuted : {A B : Type 0} (f : A → List B) {xs ys : List A} → SameBag xs ys → SameBag (flat_map f xs) (flat_map f ys)
flat_map-permuted f same_nil = same_nil
flat_map-permuted f (same_cons x s) = SameBag-append_left (f x) (flat_map-permuted f s)
flat_map-permuted f (same_swap x y xs) = lists_past (f x) (f y) (flat_map f xs)
flat_map-permuted f (same_trans s t) = same_trans (flat_map-permuted f s) (flat_map-permuted f t)

pub SameBag-both : {A : Type 0} {xs ys zs ws : List A} → SameBag xs ys → SameBag zs ws → SameBag (xs ++ zs) (ys ++ ws)
SameBag-both {ys = ys} {zs = zs} s t = same_trans (SameBag-append_right zs s) (SameBag-append_left ys t)

pub flat_map-push : {A B : Type 0} (f : A → List B) (xs : List A) (x : A) → flat_map f (xs ++ x ∷ []) ≡ flat_map f xs ++ f x
flat_map-push f [] x = append-nil (f x)
flat_map-push f (y ∷ ys) x = ap (λ l. f y ++ l) (flat_map-push f ys x) ∙ sym (append_assoc (f y) (flat_map f ys) (f x))

pub map-push : {A B : Type 0} (f : A → B) (xs : List A) (x : A) → map f (xs ++ x ∷ []) ≡ map f xs ++ f x ∷ []
map-push f [] x = refl
map-push f (y ∷ ys) x = ap (λ l. f y ∷ l) (map-push f ys x)

pub flat_map-map : {A B C : Type 0} (h : A → B) (f : B → List C) (xs : List A) → flat_map f (map h xs) ≡ flat_map (λ x. f (h x)) xs
flat_map-map h f [] = refl
flat_map-map h f (x ∷ xs) = ap (λ l. f (h x) ++ l) (flat_map-map h f xs)

pub map-map : {A B C : Type 0} (h : A → B) (f : B → C) (xs : List A) → map f (map h xs) ≡ map (λ x. f (h x)) xs
map-map h f [] = refl
map-map h f (x ∷ xs) = ap (λ l. f (h x) ∷ l) (map-map h f xs)

-- one of some lists is another one
module _ {A : Type 0} (u u' : ℕ → List A) (w : ℕ) (others : (f : ℕ) → f ≢ w → u' f ≡ u f) where
  flat-same : (a k : ℕ) → w < a → flat_map u' (range_with_len a k) ≡ flat_map u (range_with_len a k)
  flat-same a zero past = refl
  flat-same a (suc k) past =
      ap (λ l. l ++ flat_map u' (range_with_len (a + 1) k)) (others a (λ e. omega arith))
      ∙ ap (λ l. u a ++ l) (flat-same (a + 1) k (omega arith))

  -- it lacks the front
  pub flat-loses : (front : List A) (a k : ℕ) → front ++ u' w ≡ u w → a ≤ w → w < a + k → SameBag (front ++ flat_map u' (range_with_len a k)) (flat_map u (range_with_len a k))
  flat-loses front a zero is low high = absurd (omega arith)
  flat-loses front a (suc k) is low high =
      ⊎_elim
      (λ (here : w ≡ a).
      same_as (
      sym (append_assoc front (u' a) (flat_map u' (range_with_len (a + 1) k)))
      ∙ ap (λ l. l ++ flat_map u' (range_with_len (a + 1) k)) (ap (λ v. front ++ u' v) (sym here) ∙ is ∙ ap u here)
      ∙ ap (λ l. u a ++ l) (flat-same (a + 1) k (omega arith))))
      (λ (later : w ≡ a → ⊥).
      same_trans
      (lists_past front (u' a) (flat_map u' (range_with_len (a + 1) k)))
      (same_trans
      (SameBag-append_left (u' a) (flat-loses front (a + 1) k is (omega arith) (omega arith)))
      (same_as (ap (λ l. l ++ flat_map u (range_with_len (a + 1) k)) (others a (λ e. later (sym e)))))))
      (cases_eq w a)

  -- it has more at its back
  pub flat-gains : (more : List A) (a k : ℕ) → u' w ≡ u w ++ more → a ≤ w → w < a + k → SameBag (flat_map u (range_with_len a k) ++ more) (flat_map u' (range_with_len a k))
  flat-gains more a zero is low high = absurd (omega arith)
  flat-gains more a (suc k) is low high =
      ⊎_elim
      (λ (here : w ≡ a).
      same_trans
      (same_as (append_assoc (u a) (flat_map u (range_with_len (a + 1) k)) more))
      (same_trans
      (SameBag-append_left (u a) (swapped (flat_map u (range_with_len (a + 1) k)) more))
      (same_as (
      sym (append_assoc (u a) more (flat_map u (range_with_len (a + 1) k)))
      ∙ ap (λ l. l ++ flat_map u (range_with_len (a + 1) k)) (ap (λ v. u v ++ more) (sym here) ∙ sym is ∙ ap u' here)
      ∙ ap (λ l. u' a ++ l) (sym (flat-same (a + 1) k (omega arith)))))))
      (λ (later : w ≡ a → ⊥).
      same_trans
      (same_as (append_assoc (u a) (flat_map u (range_with_len (a + 1) k)) more))
      (same_trans
      (SameBag-append_left (u a) (flat-gains more (a + 1) k is (omega arith) (omega arith)))
      (same_as (ap (λ l. l ++ flat_map u' (range_with_len (a + 1) k)) (sym (others a (λ e. later (sym e))))))))
      (cases_eq w a)
    where
      swapped : (xs ys : List A) → SameBag (xs ++ ys) (ys ++ xs)
      swapped xs ys = same_trans (same_as (ap (λ l. xs ++ l) (sym (append-nil ys)))) (same_trans (lists_past xs ys []) (same_as (ap (λ l. ys ++ l) (append-nil xs))))

pub flat-none : {A : Type 0} (u : ℕ → List A) (a k : ℕ) → ((f : ℕ) → a ≤ f → f < a + k → u f ≡ []) → flat_map u (range_with_len a k) ≡ []
flat-none u a zero none = refl
flat-none u a (suc k) none =
    ap (λ l. l ++ flat_map u (range_with_len (a + 1) k)) (none a (omega arith) (omega arith)) ∙ flat-none u (a + 1) k (λ f low high. none f (omega arith) (omega arith))

-- a list with its indices
pub enumerated : {A : Type 0} (d : A) (all : List A) (a : ℕ) (xs : List A) → ((k : ℕ) → slice_index_or all (a + k) d ≡ slice_index_or xs k d) →
    enumerate_from a xs ≡ map (λ n. (n, slice_index_or all n d)) (range_with_len a (length xs))
enumerated d all a [] at = refl
enumerated d all a (x ∷ xs) at =
    let here : slice_index_or all a d ≡ x = ap (λ n. slice_index_or all n d) (let e : a ≡ a + 0 = omega arith in e) ∙ at 0 in
    ap (λ v. (a, v) ∷ enumerate_from (a + 1) xs) (sym here)
    ∙ ap (λ l. (a, slice_index_or all a d) ∷ l) (enumerated d all (a + 1) xs (λ k. ap (λ n. slice_index_or all n d) (let e : (a + 1) + k ≡ a + suc k = omega arith in e) ∙ at (suc k)))
