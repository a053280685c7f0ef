-- What contributions leave does not depend on their order.
use Rattle.std.proofs.Common.{◌≡◌, ℕ, zero, suc, max, Bool, true, false, cond, List, [], ◌∷◌, map, refl, sym, ap, subst, ◌∙◌, arith, Option, Some, None, Result, Ok, Err, ⊎_elim, inl, inr}
use Rattle.std.proofs.Math.Path.{fun_ext}
use Rattle.std.specs.Prelude.{filter, nat_eq, ◌&&◌, ◌||◌, IsTrue}
use Rattle.std.proofs.lemmas.Bool.{cases_Bool, both_ways, eqb-true, eq-eqb}
use Rattle.gm_value.specs.declared.values.Value.{Value}
use Rattle.gm_value.specs.declared.reductions.Reduce.{Reduce}
use Rattle.gm_value.specs.Bag.{IsIn, SameBag, same_nil, same_cons, same_swap, same_trans}
use Rattle.gm_value.specs.Taking.{of_rank, then_take, taken_bag, taken, TakesBags}
use Rattle.gm_value.proofs.BagLaws.{SameBag-map, SameBag-filter, SameBag-sym, SameBag-refl, SameBag-folded}
use Rattle.gm_value.proofs.TakingLaws.{taken-bags}
use Rattle.gm_value.proofs.TupleLaws.{slots-permuted}
use Rattle.gm_semantics.specs.declared.faults.Fault.{Fault}
use Rattle.gm_semantics.specs.declared.slots.Slot.{Slot}
use Rattle.gm_semantics.specs.declared.slots.Slot.TheVariants.{Scalar, Node}
use Rattle.gm_semantics.specs.Stores.{Store, slot_eq, slots_eq, has_slot, read, reads}
use Rattle.gm_semantics.specs.Faults.{least, somes, total_fault}
use Rattle.gm_semantics.specs.Contributions.{Contribution, statement_of, to_target, target_of, close_by, statement_bound, taken_onto, values_or, fault_in, target_taken, value_among, value_after, target_fault, settled_store, total_faults}
use Rattle.gm_semantics.specs.Laws.{OneReduction}
use Rattle.gm_semantics.proofs.LeastLaws.{least-same}

-- a member of a bag is one in any order
pub IsIn-same : {A : Type 0} (x : A) {xs ys : List A} → SameBag xs ys → IsIn x xs → IsIn x ys
IsIn-same x same_nil h = h
IsIn-same x (same_cons y s) h = ⊎_elim (λ (e : x ≡ y). inl e) (λ rest. inr (IsIn-same x s rest)) h
IsIn-same x (same_swap y z xs) h = ⊎_elim (λ (e : x ≡ y). inr (inl e)) (λ rest. ⊎_elim (λ (e : x ≡ z). inl e) (λ more. inr (inr more)) rest) h
IsIn-same x (same_trans s t) h = IsIn-same x t (IsIn-same x s h)

-- a member of what passes a test is a member, and passes it
pub IsIn-filter : {A : Type 0} (p : A → Bool) (x : A) (xs : List A) → IsIn x (filter p xs) → IsIn x xs × (p x ≡ true)
IsIn-filter p x [] h = absurd h
IsIn-filter p x (y ∷ ys) h =
    ⊎_elim
    (λ (passes : p y ≡ true).
    ⊎_elim
    (λ (e : x ≡ y). (inl e, subst (λ z. p z ≡ true) (sym e) passes))
    (λ rest. let r = IsIn-filter p x ys rest in (inr r.0, r.1))
    (subst (IsIn x) (ap (λ b. cond b (y ∷ filter p ys) (filter p ys)) passes) h))
    (λ (fails : p y ≡ false).
    let r = IsIn-filter p x ys (subst (IsIn x) (ap (λ b. cond b (y ∷ filter p ys) (filter p ys)) fails) h) in (inr r.0, r.1))
    (cases_Bool (p y))

-- closing by a reduction takes a bag
close_by-bags : (r : Reduce) → TakesBags (close_by r)
close_by-bags r held some other same = slots-permuted r held (map (λ (c : Contribution). c.values) some) (map (λ (c : Contribution). c.values) other) (SameBag-map (λ (c : Contribution). c.values) same)

max_exchange : (a b c : ℕ) → max a (max b c) ≡ max b (max a c)
max_exchange a b c = omega arith

statement_bound-same : {cs ds : List Contribution} → SameBag cs ds → statement_bound cs ≡ statement_bound ds
statement_bound-same same =
    SameBag-folded statement_bound (λ c n. max (suc (statement_of c)) n) (λ c cs. refl) (λ c d n. max_exchange (suc (statement_of c)) (suc (statement_of d)) n) same

-- all contributions are by one reduction
abbrev pub ByOne : List Contribution → Type 0
ByOne cs = (c d : Contribution) → IsIn c cs → IsIn d cs → c.reduce ≡ d.reduce

-- a taking onto one target does not depend on the order
pub taken_onto-same : (held : List Value) (cs ds : List Contribution) → ByOne cs → SameBag cs ds → taken_onto held cs ≡ taken_onto held ds
taken_onto-same held [] [] one same = refl
taken_onto-same held [] (d ∷ ds) one same = absurd (IsIn-same d (SameBag-sym same) (inl refl))
taken_onto-same held (c ∷ cs) [] one same = absurd (IsIn-same c same (inl refl))
taken_onto-same held (c ∷ cs) (d ∷ ds) one same =
    taken-bags statement_of (close_by c.reduce) (close_by-bags c.reduce) (statement_bound (c ∷ cs)) held (c ∷ cs) (d ∷ ds) same
    ∙ ap (λ n. taken statement_of (close_by c.reduce) n held (d ∷ ds)) (statement_bound-same same)
    ∙ ap (λ r. taken statement_of (close_by r) (statement_bound (d ∷ ds)) held (d ∷ ds)) (one c d (inl refl) (IsIn-same d (SameBag-sym same) (inl refl)))

fault_in-same : (cs ds : List Contribution) → SameBag cs ds → {V : Type 0} (r : Result V ℕ) → fault_in cs r ≡ fault_in ds r
fault_in-same cs ds same (Ok v) = refl
fault_in-same cs ds same (Err n) = least-same (SameBag-map (λ (c : Contribution). total_fault c.total) (SameBag-filter _ same))

-- slots that compare equal are one
pub slot_eq-true : (a b : Slot) → slot_eq a b ≡ true → a ≡ b
slot_eq-true (Scalar x) (Scalar y) h = ap Scalar (eqb-true x y h)
slot_eq-true (Scalar x) (Node p n) h = absurd (both_ways false refl h)
slot_eq-true (Node p n) (Scalar x) h = absurd (both_ways false refl h)
slot_eq-true (Node p n) (Node q m) h = node_eq (nat_eq p q) refl h
  where
    node_eq : (b : Bool) → nat_eq p q ≡ b → b && nat_eq n m ≡ true → Node p n ≡ Node q m
    node_eq true e h = ap (λ x. Node x n) (eqb-true p q e) ∙ ap (Node q) (eqb-true n m h)
    node_eq false e h = absurd (both_ways false refl h)

pub slot_eq-refl : (slot : Slot) → slot_eq slot slot ≡ true
slot_eq-refl (Scalar x) = eq-eqb x x refl
slot_eq-refl (Node p n) = ap (λ b. b && nat_eq n n) (eq-eqb p p refl) ∙ eq-eqb n n refl

-- and so are lists of them
pub slots_eq-true : (xs ys : List Slot) → slots_eq xs ys ≡ true → xs ≡ ys
slots_eq-true [] [] h = refl
slots_eq-true [] (y ∷ ys) h = absurd (both_ways false refl h)
slots_eq-true (x ∷ xs) [] h = absurd (both_ways false refl h)
slots_eq-true (x ∷ xs) (y ∷ ys) h = by (slot_eq x y) refl (slots_eq-true xs ys) h
  where
    by : (b : Bool) → slot_eq x y ≡ b → (slots_eq xs ys ≡ true → xs ≡ ys) → b && slots_eq xs ys ≡ true → x ∷ xs ≡ y ∷ ys
    by true e rest h = ap (λ z. z ∷ xs) (slot_eq-true x y e) ∙ ap (λ zs. y ∷ zs) (rest h)
    by false e rest h = absurd (both_ways false refl h)

pub slots_eq-refl : (slots : List Slot) → slots_eq slots slots ≡ true
slots_eq-refl [] = refl
slots_eq-refl (x ∷ xs) = ap (λ b. b && slots_eq xs xs) (slot_eq-refl x) ∙ slots_eq-refl xs

-- a target has its first slot
pub has_first : (slot : Slot) (slots : List Slot) → has_slot slot (slot ∷ slots) ≡ true
has_first slot slots = ap (λ b. b || has_slot slot slots) (slot_eq-refl slot)

to_target-one : (slot : Slot) (slots : List Slot) (cs : List Contribution) → OneReduction cs → ByOne (to_target (slot ∷ slots) cs)
to_target-one slot slots cs one c d c_in d_in =
    let p = IsIn-filter (λ (c : Contribution). slots_eq (slot ∷ slots) c.slots) c cs c_in in
    let q = IsIn-filter (λ (c : Contribution). slots_eq (slot ∷ slots) c.slots) d cs d_in in
    let has : (e : Contribution) → slots_eq (slot ∷ slots) e.slots ≡ true → IsTrue (has_slot slot e.slots) =
    λ e h. subst (λ xs. has_slot slot xs ≡ true) (slots_eq-true (slot ∷ slots) e.slots h) (has_first slot slots) in
    (one c d slot p.0 q.0 (has c p.1) (has d q.1)).0

-- no slots take nothing
bag-empty : (r : Reduce) (n : ℕ) (bag : List Contribution) → taken_bag (close_by r) n [] bag ≡ Ok []
bag-empty r n [] = refl
bag-empty r n (c ∷ bag) = refl

taken-empty : (r : Reduce) (n : ℕ) (cs : List Contribution) → taken statement_of (close_by r) n [] cs ≡ Ok []
taken-empty r zero cs = refl
taken-empty r (suc n) cs = ap (λ e. then_take e (λ v. taken_bag (close_by r) n v (of_rank statement_of n cs))) (taken-empty r n cs) ∙ bag-empty r n (of_rank statement_of n cs)

pub taken_onto-empty : (cs : List Contribution) → taken_onto [] cs ≡ Ok []
taken_onto-empty [] = refl
taken_onto-empty (c ∷ cs) = taken-empty c.reduce (statement_bound (c ∷ cs)) (c ∷ cs)

pub somes-same : {fs gs : List (Option Fault)} → SameBag fs gs → SameBag (somes fs) (somes gs)
somes-same same_nil = same_nil
somes-same (same_cons None s) = somes-same s
somes-same (same_cons (Some f) s) = same_cons f (somes-same s)
somes-same (same_swap None None fs) = SameBag-refl (somes fs)
somes-same (same_swap None (Some g) fs) = SameBag-refl (g ∷ somes fs)
somes-same (same_swap (Some f) None fs) = SameBag-refl (f ∷ somes fs)
somes-same (same_swap (Some f) (Some g) fs) = same_swap f g (somes fs)
somes-same (same_trans s t) = same_trans (somes-same s) (somes-same t)

-- a slot belongs to the same target in any order
two_targets : (slot : Slot) (c d : Contribution) (rest : List Slot) (p q : Bool) → has_slot slot c.slots ≡ p → has_slot slot d.slots ≡ q →
    (IsTrue (has_slot slot c.slots) → IsTrue (has_slot slot d.slots) → c.slots ≡ d.slots) → cond p c.slots (cond q d.slots rest) ≡ cond q d.slots (cond p c.slots rest)
two_targets slot c d rest true true h g one = one h g
two_targets slot c d rest true false h g one = refl
two_targets slot c d rest false true h g one = refl
two_targets slot c d rest false false h g one = refl

pub target_of-same : (slot : Slot) {cs ds : List Contribution} → OneReduction cs → SameBag cs ds → target_of slot cs ≡ target_of slot ds
target_of-same slot one same_nil = refl
target_of-same slot one (same_cons c same) = ap (λ rest. cond (has_slot slot c.slots) c.slots rest) (target_of-same slot (λ d e x i j. one d e x (inr i) (inr j)) same)
target_of-same slot one (same_swap c d cs) =
    two_targets slot c d (target_of slot cs) (has_slot slot c.slots) (has_slot slot d.slots) refl refl (λ h g. (one c d slot (inl refl) (inr (inl refl)) h g).1)
target_of-same slot one (same_trans a b) =
    target_of-same slot one a ∙ target_of-same slot (λ d e x i j. one d e x (IsIn-same d (SameBag-sym a) i) (IsIn-same e (SameBag-sym a) j)) b

module _ (s : Store) {cs ds : List Contribution} (one : OneReduction cs) (same : SameBag cs ds) where
  pub taking-same : (slots : List Slot) → target_taken s cs slots ≡ target_taken s ds slots
  taking-same [] = taken_onto-empty (to_target [] cs) ∙ sym (taken_onto-empty (to_target [] ds))
  taking-same (x ∷ xs) = taken_onto-same (reads s (x ∷ xs)) (to_target (x ∷ xs) cs) (to_target (x ∷ xs) ds) (to_target-one x xs cs one) (SameBag-filter _ same)

  -- a slot holds the same after contributions in any order
  pub value_after-same : (slot : Slot) → value_after s cs slot ≡ value_after s ds slot
  value_after-same slot =
      ap (λ slots. value_among slot slots (values_or (reads s slots) (target_taken s cs slots)) (read s slot)) (target_of-same slot one same)
      ∙ ap (λ answer. value_among slot (target_of slot ds) (values_or (reads s (target_of slot ds)) answer) (read s slot)) (taking-same (target_of slot ds))

  -- so the store after contributions does not depend on their order
  pub settled_store-same : settled_store s cs ≡ settled_store s ds
  settled_store-same =
      ap (λ f. record { scalar = λ x. f (Scalar x); node = λ p n. f (Node p n); edge = s.edge }) (fun_ext value_after-same)

  pub target_fault-same : (slots : List Slot) → target_fault s cs slots ≡ target_fault s ds slots
  target_fault-same slots =
      ap (fault_in (to_target slots cs)) (taking-same slots) ∙ fault_in-same (to_target slots cs) (to_target slots ds) (SameBag-filter _ same) (target_taken s ds slots)

  -- nor does the least fault of the totals
  pub total_faults-same : least (total_faults s cs) ≡ least (total_faults s ds)
  total_faults-same =
      ap (λ f. least (somes (map (λ (c : Contribution). f c.slots) cs))) (fun_ext target_fault-same)
      ∙ least-same (somes-same (SameBag-map (λ (c : Contribution). target_fault s ds c.slots) same))
