-- Lists joined over the nodes of a graph.
use Rattle.std.proofs.Common.{◌≡◌, ◌≢◌, ◌≤◌, arith, ℕ, zero, suc, Bool, true, false, cond, List, [], ◌∷◌, ◌++◌, map, filter, refl, sym, ap, subst, ◌∙◌, append_assoc, append-nil, ⊎_elim, inl, inr}
use Rattle.std.specs.Prelude.{not}
use Rattle.std.proofs.lemmas.Bool.{both_ways}
use Rattle.gm_value.specs.Bag.{IsIn, SameBag, same_nil, same_cons, same_trans}
use Rattle.gm_value.proofs.BagLaws.{SameBag-refl, SameBag-sym, SameBag-append_left, SameBag-middle}
use Rattle.gm_semantics.specs.Faults.{joined}
use Rattle.gm_semantics.specs.Levels.{numbers_from}
use Rattle.gm_forms.proofs.Takings.{filter-append}

pub map-compose : {A B C : Type 0} (G : B → C) (F : A → B) (xs : List A) → map G (map F xs) ≡ map (λ x. G (F x)) xs
map-compose G F [] = refl
map-compose G F (x ∷ xs) = ap (λ l. G (F x) ∷ l) (map-compose G F xs)

pub map-append : {A B : Type 0} (F : A → B) (xs ys : List A) → map F (xs ++ ys) ≡ map F xs ++ map F ys
map-append F [] ys = refl
map-append F (x ∷ xs) ys = ap (λ l. F x ∷ l) (map-append F xs ys)

pub map-each : {A B : Type 0} (F G : A → B) (xs : List A) → ((x : A) → IsIn x xs → F x ≡ G x) → map F xs ≡ map G xs
map-each F G [] h = refl
map-each F G (x ∷ xs) h = ap (λ y. y ∷ map F xs) (h x (inl refl)) ∙ ap (λ l. G x ∷ l) (map-each F G xs (λ y i. h y (inr i)))

pub joined-append : {A : Type 0} (xs ys : List (List A)) → joined (xs ++ ys) ≡ joined xs ++ joined ys
joined-append [] ys = refl
joined-append (x ∷ xs) ys = ap (λ l. x ++ l) (joined-append xs ys) ∙ sym (append_assoc x (joined xs) (joined ys))

-- a map of what is joined
pub map-joined : {A B : Type 0} (F : A → B) (xss : List (List A)) → map F (joined xss) ≡ joined (map (map F) xss)
map-joined F [] = refl
map-joined F (xs ∷ xss) = map-append F xs (joined xss) ∙ ap (λ l. map F xs ++ l) (map-joined F xss)

-- what is joined twice
pub joined-joined : {A : Type 0} (xsss : List (List (List A))) → joined (joined xsss) ≡ joined (map joined xsss)
joined-joined [] = refl
joined-joined (xss ∷ xsss) = joined-append xss (joined xsss) ∙ ap (λ l. joined xss ++ l) (joined-joined xsss)

-- a filter of what is joined
pub filter-joined : {A : Type 0} (p : A → Bool) (xss : List (List A)) → filter p (joined xss) ≡ joined (map (filter p) xss)
filter-joined p [] = refl
filter-joined p (xs ∷ xss) = filter-append p xs (joined xss) ∙ ap (λ l. filter p xs ++ l) (filter-joined p xss)

-- lists of which one alone is not empty
pub joined-none : {A : Type 0} (H : ℕ → List A) (ks : List ℕ) → ((z : ℕ) → IsIn z ks → H z ≡ []) → joined (map H ks) ≡ []
joined-none H [] h = refl
joined-none H (k ∷ ks) h = ap (λ l. l ++ joined (map H ks)) (h k (inl refl)) ∙ joined-none H ks (λ z i. h z (inr i))

-- the numbers from one on are not below it
pub from-on : (k n z : ℕ) → IsIn z (numbers_from k n) → k ≤ z
from-on k zero z i = absurd i
from-on k (suc n) z i = ⊎_elim (λ (e : z ≡ k). omega arith) (λ r. let b = from-on (suc k) n z r in omega arith) i

pub joined-one : {A : Type 0} (H : ℕ → List A) (x j m : ℕ) → IsIn x (numbers_from j m) → ((z : ℕ) → z ≢ x → H z ≡ []) → joined (map H (numbers_from j m)) ≡ H x
joined-one H x j zero i h = absurd i
joined-one H x j (suc m) i h =
    ⊎_elim
    (λ (e : x ≡ j).
    ap (λ l. H j ++ l) (joined-none H (numbers_from (suc j) m) (λ z k. let b = from-on (suc j) m z k in h z (λ d. omega arith)))
    ∙ append-nil (H j) ∙ ap H (sym e))
    (λ r. let b = from-on (suc j) m x r in ap (λ l. l ++ joined (map H (numbers_from (suc j) m))) (h j (λ d. omega arith)) ∙ joined-one H x (suc j) m r h) i

-- bags of lists put together
pub exchanged : {A : Type 0} (xs ys zs : List A) → SameBag (xs ++ (ys ++ zs)) (ys ++ (xs ++ zs))
exchanged [] ys zs = SameBag-refl (ys ++ zs)
exchanged (x ∷ xs) ys zs = same_trans (same_cons x (exchanged xs ys zs)) (SameBag-sym (SameBag-middle ys x (xs ++ zs)))

-- a list is what passes a test and what does not
pub parted : {A : Type 0} (p : A → Bool) (xs : List A) → SameBag xs (filter (λ x. not (p x)) xs ++ filter p xs)
parted p [] = same_nil
parted {A} p (x ∷ xs) = by (p x) (parted p xs)
  where
    by : (b : Bool) → SameBag xs (filter (λ x. not (p x)) xs ++ filter p xs) → SameBag (x ∷ xs) (cond (not b) (x ∷ filter (λ x. not (p x)) xs) (filter (λ x. not (p x)) xs) ++ cond b (x ∷ filter p xs) (filter p xs))
    by true h = same_trans (same_cons x h) (SameBag-sym (SameBag-middle (filter (λ x. not (p x)) xs) x (filter p xs)))
    by false h = same_cons x h

-- two lists for each member, joined each by itself
pub joined-two : {A : Type 0} (F G : ℕ → List A) (ks : List ℕ) → SameBag (joined (map (λ k. F k ++ G k) ks)) (joined (map F ks) ++ joined (map G ks))
joined-two F G [] = same_nil
joined-two F G (k ∷ ks) =
    let a = joined (map F ks) in
    let b = joined (map G ks) in
    let rest = joined (map (λ k. F k ++ G k) ks) in
    let one : (F k ++ G k) ++ rest ≡ F k ++ (G k ++ rest) = append_assoc (F k) (G k) rest in
    let two : F k ++ (a ++ (G k ++ b)) ≡ (F k ++ a) ++ (G k ++ b) = sym (append_assoc (F k) a (G k ++ b)) in
    subst (λ l. SameBag l ((F k ++ a) ++ (G k ++ b))) (sym one)
    (subst (λ l. SameBag (F k ++ (G k ++ rest)) l) two
    (SameBag-append_left (F k) (same_trans (SameBag-append_left (G k) (joined-two F G ks)) (exchanged (G k) a b))))

-- a test that another follows from is asked alone
pub filter-implied : {A : Type 0} (p q : A → Bool) (xs : List A) → ((x : A) → p x ≡ true → q x ≡ true) → filter p (filter q xs) ≡ filter p xs
filter-implied p q [] h = refl
filter-implied p q (x ∷ xs) h = by (q x) (p x) refl (h x) (filter-implied p q xs h)
  where
    by : (b c : Bool) → p x ≡ c → (p x ≡ true → b ≡ true) → filter p (filter q xs) ≡ filter p xs → filter p (cond b (x ∷ filter q xs) (filter q xs)) ≡ cond c (x ∷ filter p xs) (filter p xs)
    by true c is k e = ap (λ d. cond d (x ∷ filter p (filter q xs)) (filter p (filter q xs))) is ∙ ap (λ l. cond c (x ∷ l) l) e
    by false true is k e = absurd (both_ways false refl (k is))
    by false false is k e = e

-- two tests are asked in either order
pub filter-commute : {A : Type 0} (p q : A → Bool) (xs : List A) → filter p (filter q xs) ≡ filter q (filter p xs)
filter-commute p q [] = refl
filter-commute p q (x ∷ xs) = by (p x) (q x) refl refl (filter-commute p q xs)
  where
    by : (b c : Bool) → p x ≡ b → q x ≡ c → filter p (filter q xs) ≡ filter q (filter p xs) → filter p (cond c (x ∷ filter q xs) (filter q xs)) ≡ filter q (cond b (x ∷ filter p xs) (filter p xs))
    by true true d f e = ap (λ z. cond z (x ∷ filter p (filter q xs)) (filter p (filter q xs))) d ∙ ap (λ l. x ∷ l) e ∙ sym (ap (λ z. cond z (x ∷ filter q (filter p xs)) (filter q (filter p xs))) f)
    by true false d f e = e ∙ sym (ap (λ z. cond z (x ∷ filter q (filter p xs)) (filter q (filter p xs))) f)
    by false true d f e = ap (λ z. cond z (x ∷ filter p (filter q xs)) (filter p (filter q xs))) d ∙ e
    by false false d f e = e

-- a test that holds of all leaves all, and one that holds of none nothing
pub filter-whole : {A : Type 0} (p : A → Bool) (xs : List A) → ((x : A) → IsIn x xs → p x ≡ true) → filter p xs ≡ xs
filter-whole p [] h = refl
filter-whole p (x ∷ xs) h = ap (λ b. cond b (x ∷ filter p xs) (filter p xs)) (h x (inl refl)) ∙ ap (λ l. x ∷ l) (filter-whole p xs (λ y i. h y (inr i)))

pub filter-nothing : {A : Type 0} (p : A → Bool) (xs : List A) → ((x : A) → IsIn x xs → p x ≡ false) → filter p xs ≡ []
filter-nothing p [] h = refl
filter-nothing p (x ∷ xs) h = ap (λ b. cond b (x ∷ filter p xs) (filter p xs)) (h x (inl refl)) ∙ filter-nothing p xs (λ y i. h y (inr i))
