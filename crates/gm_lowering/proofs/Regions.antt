-- Contributions to some slots depend on those alone.
use Rattle.std.proofs.Common.{◌≡◌, ◌<◌, ◌≤◌, ◌⊎◌, inl, inr, ℕ, zero, suc, Bool, true, false, cond, Option, Some, None, List, [], ◌∷◌, ◌++◌, refl, ap, ◌∙◌, sym, subst, arith, ⊎_elim}
use Rattle.std.specs.Prelude.{◌+◌, nat_eq, if◌then◌else◌, filter}
use Rattle.std.specs.List.{flat_map}
use Rattle.std.proofs.lemmas.Bool.{both_ways, eq-eqb, ne_eqb, cases_lt}
use Rattle.gm_value.specs.Bag.{IsIn, SameBag, same_nil, same_cons, same_swap, same_trans}
use Rattle.gm_semantics.specs.declared.faults.Fault.{Fault}
use Rattle.gm_semantics.specs.declared.slots.Slot.{Slot}
use Rattle.gm_semantics.specs.Contributions.{Contribution, to_target, target_of, value_after, target_fault, taken_onto, value_among, values_or, target_taken, fault_in}
use Rattle.gm_semantics.specs.Faults.{least}
use Rattle.gm_semantics.specs.Levels.{numbers_from}
use Rattle.gm_semantics.specs.Stores.{Store, slots_eq, has_slot, read, reads}
use Rattle.gm_semantics.proofs.ContributionLaws.{slots_eq-true, has_first}
use Rattle.gm_semantics.proofs.LeastLaws.{lower_comm}
use Rattle.gm_lowering.proofs.Settles.{least-is, least-none}

-- a filter that keeps all contributions to a slot, and to the targets that have it
module _ (q : Contribution → Bool) where
  target-filtered : (slots : List Slot) (cs : List Contribution) → ((x : Contribution) → IsIn x cs → slots_eq slots x.slots ≡ true → q x ≡ true) → to_target slots (filter q cs) ≡ to_target slots cs
  target-filtered slots [] h = refl
  target-filtered slots (x ∷ cs) h = by (q x) (slots_eq slots x.slots) refl refl (target-filtered slots cs (λ y i. h y (inr i))) where
    by : (a b : Bool) → q x ≡ a → slots_eq slots x.slots ≡ b → to_target slots (filter q cs) ≡ to_target slots cs
        → to_target slots (cond a (x ∷ filter q cs) (filter q cs)) ≡ cond b (x ∷ to_target slots cs) (to_target slots cs)
    by true b e f rest = ap (λ z. cond z (x ∷ to_target slots (filter q cs)) (to_target slots (filter q cs))) f ∙ ap (λ l. cond b (x ∷ l) l) rest
    by false true e f rest = absurd (both_ways (q x) e (h x (inl refl) f))
    by false false e f rest = rest

  of-filtered : (slot : Slot) (cs : List Contribution) → ((x : Contribution) → IsIn x cs → has_slot slot x.slots ≡ true → q x ≡ true) → target_of slot (filter q cs) ≡ target_of slot cs
  of-filtered slot [] h = refl
  of-filtered slot (x ∷ cs) h = by (q x) (has_slot slot x.slots) refl refl (of-filtered slot cs (λ y i. h y (inr i))) where
    by : (a b : Bool) → q x ≡ a → has_slot slot x.slots ≡ b → target_of slot (filter q cs) ≡ target_of slot cs
        → target_of slot (cond a (x ∷ filter q cs) (filter q cs)) ≡ (if b then x.slots else target_of slot cs)
    by true b e f rest = ap (λ z. if z then x.slots else target_of slot (filter q cs)) f ∙ ap (λ l. if b then x.slots else l) rest
    by false true e f rest = absurd (both_ways (q x) e (h x (inl refl) f))
    by false false e f rest = rest

  -- the value of a slot
  pub value-filtered : (s : Store) (slot : Slot) (cs : List Contribution) → ((x : Contribution) → IsIn x cs → has_slot slot x.slots ≡ true → q x ≡ true) → value_after s (filter q cs) slot ≡ value_after s cs slot
  value-filtered s slot cs h =
      ap (λ slots. value_among slot slots (values_or (reads s slots) (target_taken s (filter q cs) slots)) (read s slot)) (of-filtered slot cs h)
      ∙ ap (λ ds. value_among slot (target_of slot cs) (values_or (reads s (target_of slot cs)) (taken_onto (reads s (target_of slot cs)) ds)) (read s slot))
      (target-filtered (target_of slot cs) cs (λ x i e. h x i (ap (has_slot slot) (sym (slots_eq-true (target_of slot cs) x.slots e)) ∙ target-has slot cs))) where
        target-has : (slot : Slot) (cs : List Contribution) → has_slot slot (target_of slot cs) ≡ true
        target-has slot [] = has_first slot []
        target-has slot (x ∷ cs) = by (has_slot slot x.slots) refl (target-has slot cs) where
          by : (b : Bool) → has_slot slot x.slots ≡ b → has_slot slot (target_of slot cs) ≡ true → has_slot slot (if b then x.slots else target_of slot cs) ≡ true
          by true e rest = e
          by false e rest = rest

  pub fault-filtered : (s : Store) (slots : List Slot) (cs : List Contribution) → ((x : Contribution) → IsIn x cs → slots_eq slots x.slots ≡ true → q x ≡ true) → target_fault s (filter q cs) slots ≡ target_fault s cs slots
  fault-filtered s slots cs h = ap (λ ds. fault_in ds (taken_onto (reads s slots) ds)) (target-filtered slots cs h)

-- lists with the same members have the same least
pub least-members : (xs ys : List Fault) → ((f : Fault) → IsIn f xs → IsIn f ys) → ((f : Fault) → IsIn f ys → IsIn f xs) → least xs ≡ least ys
least-members xs ys h k = by (least xs) (least ys) refl refl where
  by : (a b : Option Fault) → least xs ≡ a → least ys ≡ b → a ≡ b
  by None None e f = refl
  by None (Some y) e f = absurd (least-none xs e y (k y (least-is ys y f).is_in))
  by (Some x) None e f = absurd (least-none ys f x (h x (least-is xs x e).is_in))
  by (Some x) (Some y) e f =
      let p = least-is xs x e in
      let q = least-is ys y f in
      ap Some (sym (p.lowest y (k y q.is_in)) ∙ lower_comm x y ∙ q.lowest x (h x p.is_in))

-- a list is the bag of its parts by a number
pub in-front : {A : Type 0} (x : A) (xs ys : List A) → IsIn x xs → IsIn x (xs ++ ys)
in-front x [] ys i = absurd i
in-front x (y ∷ xs) ys i = ⊎_elim (λ (e : x ≡ y). inl e) (λ (j : IsIn x xs). inr (in-front x xs ys j)) i

pub in-back : {A : Type 0} (x : A) (xs ys : List A) → IsIn x ys → IsIn x (xs ++ ys)
in-back x [] ys i = i
in-back x (y ∷ xs) ys i = inr (in-back x xs ys i)

pub in-parts : {A : Type 0} (x : A) (xs ys : List A) → IsIn x (xs ++ ys) → IsIn x xs ⊎ IsIn x ys
in-parts x [] ys i = inr i
in-parts x (y ∷ xs) ys i = ⊎_elim (λ (e : x ≡ y). inl (inl e)) (λ (j : IsIn x (xs ++ ys)). ⊎_elim (λ (k : IsIn x xs). inl (inr k)) (λ (k : IsIn x ys). inr k) (in-parts x xs ys j)) i

same-refl : {A : Type 0} (xs : List A) → SameBag xs xs
same-refl [] = same_nil
same-refl (x ∷ xs) = same_cons x (same-refl xs)

past-one : {A : Type 0} (x : A) (xs ys : List A) → SameBag (x ∷ (xs ++ ys)) (xs ++ (x ∷ ys))
past-one x [] ys = same-refl (x ∷ ys)
past-one x (y ∷ xs) ys = same_trans (same_swap x y (xs ++ ys)) (same_cons y (past-one x xs ys))

front-same : {A : Type 0} (xs : List A) {ys zs : List A} → SameBag ys zs → SameBag (xs ++ ys) (xs ++ zs)
front-same [] h = h
front-same (x ∷ xs) h = same_cons x (front-same xs h)

abbrev pub part_of : {A : Type 0} → (A → ℕ) → List A → ℕ → List A
part_of κ xs j = filter (λ x. nat_eq (κ x) j) xs

abbrev pub parts_from : {A : Type 0} → (A → ℕ) → List A → ℕ → ℕ → List A
parts_from κ xs a m = flat_map (part_of κ xs) (numbers_from a m)

no-part : {A : Type 0} (κ : A → ℕ) (x : A) (xs : List A) (a m : ℕ) → κ x < a → parts_from κ (x ∷ xs) a m ≡ parts_from κ xs a m
no-part κ x xs a zero lt = refl
no-part κ x xs a (suc m) lt =
    ap (λ b. cond b (x ∷ part_of κ xs a) (part_of κ xs a) ++ parts_from κ (x ∷ xs) (suc a) m) (ne_eqb (κ x) a (λ e. omega arith))
    ∙ ap (λ l. part_of κ xs a ++ l) (no-part κ x xs (suc a) m (omega arith))

-- one more member goes into its part
one-part : {A : Type 0} (κ : A → ℕ) (x : A) (xs : List A) (a m : ℕ) → a ≤ κ x → κ x < a + m → SameBag (x ∷ parts_from κ xs a m) (parts_from κ (x ∷ xs) a m)
one-part κ x xs a zero le lt = absurd (omega arith)
one-part {A = A} κ x xs a (suc m) le lt =
    ⊎_elim
    (λ (l : a < κ x).
    subst (λ b. SameBag (x ∷ parts_from κ xs a (suc m)) (cond b (x ∷ part_of κ xs a) (part_of κ xs a) ++ parts_from κ (x ∷ xs) (suc a) m)) (sym (ne_eqb (κ x) a (λ e. omega arith)))
    (same_trans (past-one x (part_of κ xs a) (parts_from κ xs (suc a) m)) (front-same (part_of κ xs a) (one-part κ x xs (suc a) m (omega arith) (omega arith)))))
    (λ (l : κ x ≤ a).
    let same : κ x ≡ a = omega arith in
    subst (λ b. SameBag (x ∷ parts_from κ xs a (suc m)) (cond b (x ∷ part_of κ xs a) (part_of κ xs a) ++ parts_from κ (x ∷ xs) (suc a) m)) (sym (eq-eqb (κ x) a same))
    (subst (λ l. SameBag (x ∷ (part_of κ xs a ++ parts_from κ xs (suc a) m)) (x ∷ (part_of κ xs a ++ l))) (sym (no-part κ x xs (suc a) m (omega arith))) (same-refl (x ∷ parts_from κ xs a (suc m)))))
    (cases_lt a (κ x))

empty-parts : {A : Type 0} (κ : A → ℕ) (a m : ℕ) → parts_from {A = A} κ [] a m ≡ []
empty-parts κ a zero = refl
empty-parts κ a (suc m) = empty-parts κ (suc a) m

pub by-parts : {A : Type 0} (κ : A → ℕ) (xs : List A) (m : ℕ) → ((x : A) → IsIn x xs → κ x < m) → SameBag xs (parts_from κ xs 0 m)
by-parts {A = A} κ [] m h = subst (SameBag []) (sym (empty-parts {A = A} κ 0 m)) same_nil
by-parts κ (x ∷ xs) m h =
    same_trans (same_cons x (by-parts κ xs m (λ y i. h y (inr i)))) (one-part κ x xs 0 m (omega arith) (let l = h x (inl refl) in omega arith))
