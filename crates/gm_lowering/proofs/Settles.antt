-- Reductions on the machine are taken as those of the program.
use Rattle.std.proofs.Common.{◌≡◌, ◌<◌, ◌≤◌, ◌⊎◌, inl, inr, ℕ, zero, suc, Bool, true, false, cond, Option, Some, None, Result, Ok, Err, List, [], ◌∷◌, length, map, refl, ap, ◌∙◌, sym, subst, arith, ⊎_elim}
use Rattle.std.specs.Prelude.{◌+◌, ◌&&◌, ◌||◌, nat_lt, nat_eq, if◌then◌else◌, filter, find, slice_index_or}
use Rattle.std.specs.List.{list_all, enumerate_from}
use Rattle.std.specs.Option.{option_map}
use Rattle.std.proofs.lemmas.Bool.{cases_lt, both_ways, lt-ltb, le-ltb, ltb-true, eqb-true, eqb-false, eq-eqb, ne_eqb}
use Rattle.std.proofs.lemmas.List.{get_or_past}
use Rattle.gm_value.specs.declared.values.Value.{Value}
use Rattle.gm_value.specs.declared.values.Value.TheVariants.{At}
use Rattle.gm_value.specs.declared.reductions.Reduce.{Reduce}
use Rattle.gm_value.specs.declared.faults.FaultKind.TheVariants.{Overflow}
use Rattle.gm_value.specs.Bag.{IsIn}
use Rattle.gm_value.specs.Taking.{of_rank, then_take, at_rank, taken_bag, taken, rank_by, AreBelow}
use Rattle.gm_value.specs.Tuples.{close_slots}
use Rattle.gm_value.proofs.TakingLaws.{then_take-each, taken-bound}
use Rattle.gm_value.proofs.RekeyingLaws.{rekeyed, filter-each}
use Rattle.gm_ast.specs.declared.tree.TotalKey.{TotalKey}
use Rattle.gm_ast.specs.Keys as K
use Rattle.gm_base.specs.Places.{place_lt}
use Rattle.gm_ast.specs.Keys.{stage_rank, total_fault, fault_lt}
use Rattle.gm_forms.proofs.Named.{both-true}
use Rattle.gm_semantics.specs.declared.faults.Fault.{Fault}
use Rattle.gm_semantics.specs.declared.slots.Slot.{Slot}
use Rattle.gm_semantics.specs.Contributions as S
use Rattle.gm_semantics.specs.Contributions.{Contribution, statement_of, statement_bound, close_by, taken_onto, values_or, fault_in, target_taken, value_among, target_fault, total_faults}
use Rattle.gm_semantics.specs.Faults.{least, somes}
use Rattle.gm_semantics.specs.Faults as F
use Rattle.gm_semantics.specs.Stores.{Store, slot_eq, slots_eq, has_slot, read, reads}
use Rattle.gm_semantics.proofs.LeastLaws.{lower-exchange, lower_comm}
use Rattle.gm_semantics.proofs.TargetLaws.{value-away, target_of-found, among-reads}
use Rattle.gm_semantics.proofs.ContributionLaws.{IsIn-filter, slot_eq-true, slot_eq-refl, slots_eq-true, slots_eq-refl}
use Rattle.gm_image.specs.Folds.{same_numbers}
use Rattle.gm_image.specs.Parts.{is_among}
use Rattle.gm_machine.specs.declared.faults.Fault as M
use Rattle.gm_machine.specs.Expressions.{value_at}
use Rattle.gm_machine.specs.Faults.{then_go, lesser}
use Rattle.gm_machine.specs.Taking as T
use Rattle.gm_machine.specs.Taking.{closed, reduction_of, overflow_at, target_after, entry_of, slot_by, slot_after, fault_after, settled}
use Rattle.gm_machine.proofs.LeastLaws.{lesser-comm, lesser-assoc, least_right, least_from-right}
use Rattle.gm_lowering.specs.Layouts.{Layout}
use Rattle.gm_lowering.specs.Places.{Spot, segment, ascending, place_index, spot_of_total}
use Rattle.gm_lowering.specs.Terms.{Env}
use Rattle.gm_lowering.specs.Showing.{fault_of}
use Rattle.gm_lowering.specs.Sites.{slot_at, given}
use Rattle.gm_lowering.specs.Settles.{HasSpot, fault_or_none, is_some_list, AreHeld, AreGiven, SettlesAlike, ReductionsSettle, spot_of_fault, HaveRoom}
use Rattle.gm_lowering.proofs.Orders.{lt-itself, kept-more, kept-one-more, ascending-has, fault-has, spot-in, lesser-lower}

-- taking what is seen through a function
pub filter-map : {A C : Type 0} (f : A → C) (test : C → Bool) (ys : List A) → filter test (map f ys) ≡ map f (filter (λ x. test (f x)) ys)
filter-map f test [] = refl
filter-map {A = A} {C = C} f test (y ∷ ys) = by (test (f y)) (filter-map f test ys) where
  by : (b : Bool) → filter test (map f ys) ≡ map f (filter (λ x. test (f x)) ys)
      → cond b (f y ∷ filter test (map f ys)) (filter test (map f ys)) ≡ map f (cond b (y ∷ filter (λ x. test (f x)) ys) (filter (λ x. test (f x)) ys))
  by true e = ap (λ l. f y ∷ l) e
  by false e = e

bag-map : {A C V : Type 0} (f : A → C) (close : V → List C → Option V) (n : ℕ) (v : V) (ys : List A) → taken_bag close n v (map f ys) ≡ taken_bag (λ u zs. close u (map f zs)) n v ys
bag-map f close n v [] = refl
bag-map f close n v (y ∷ ys) = refl

pub taken-map : {A C V : Type 0} (f : A → C) (rank : C → ℕ) (close : V → List C → Option V) (n : ℕ) (held : V) (xs : List A)
    → taken rank close n held (map f xs) ≡ taken (λ x. rank (f x)) (λ v ys. close v (map f ys)) n held xs
taken-map f rank close zero held xs = refl
taken-map f rank close (suc n) held xs =
    ap (λ e. then_take e (λ v. taken_bag close n v (of_rank rank n (map f xs)))) (taken-map f rank close n held xs)
    ∙ then_take-each (taken (λ x. rank (f x)) (λ v ys. close v (map f ys)) n held xs) _ _ (λ v.
    ap (taken_bag close n v) (filter-map f (λ c. nat_eq (rank c) n) xs) ∙ bag-map f close n v (of_rank (λ x. rank (f x)) n xs))

-- closings that are one
bag-same : {C V : Type 0} (close other : V → List C → Option V) (n : ℕ) (v : V) (ys : List C) → ((u : V) (zs : List C) → close u zs ≡ other u zs) → taken_bag close n v ys ≡ taken_bag other n v ys
bag-same close other n v [] e = refl
bag-same close other n v (y ∷ ys) e = ap (at_rank n) (e v (y ∷ ys))

pub taken-close : {C V : Type 0} (rank : C → ℕ) (close other : V → List C → Option V) (n : ℕ) (held : V) (xs : List C) → ((v : V) (ys : List C) → close v ys ≡ other v ys)
    → taken rank close n held xs ≡ taken rank other n held xs
taken-close rank close other zero held xs e = refl
taken-close rank close other (suc n) held xs e =
    ap (λ r. then_take r (λ v. taken_bag close n v (of_rank rank n xs))) (taken-close rank close other n held xs e)
    ∙ then_take-each (taken rank other n held xs) _ _ (λ v. bag-same close other n v (of_rank rank n xs) e)

map-map : {A B C : Type 0} (h : A → B) (f : B → C) (xs : List A) → map f (map h xs) ≡ map (λ x. f (h x)) xs
map-map h f [] = refl
map-map h f (x ∷ xs) = ap (λ l. f (h x) ∷ l) (map-map h f xs)

-- a taking fails at a rank that a contribution has
pub taken-fails : {C V : Type 0} (rank : C → ℕ) (close : V → List C → Option V) (n : ℕ) (held : V) (cs : List C) (st : ℕ) → taken rank close n held cs ≡ Err st → (x : C) × IsIn x cs × (rank x ≡ st)
taken-fails rank close zero held cs st e = absurd (ok-err e) where
  ok-err : {V : Type 0} {v : V} {m : ℕ} → Ok v ≡ Err m → ⊥
  ok-err {V = V} e = both_ways false refl (ap is_err e) where
    is_err : Result V ℕ → Bool
    is_err (Ok v) = false
    is_err (Err m) = true
taken-fails {C = C} {V = V} rank close (suc n) held cs st e = by (taken rank close n held cs) refl e (λ f. taken-fails rank close n held cs st f) where
  is_err : Result V ℕ → Bool
  is_err (Ok v) = false
  is_err (Err m) = true

  err_of : Result V ℕ → ℕ
  err_of (Ok v) = n
  err_of (Err m) = m

  ended : (o : Option V) → at_rank n o ≡ Err st → n ≡ st
  ended (Some v) f = absurd (both_ways false refl (ap is_err f))
  ended None f = ap err_of f

  bag : (v : V) (ds : List C) → of_rank rank n cs ≡ ds → taken_bag close n v ds ≡ Err st → (x : C) × IsIn x cs × (rank x ≡ st)
  bag v [] i f = absurd (both_ways false refl (ap is_err f))
  bag v (x ∷ ds) i f =
      let q = IsIn-filter (λ c. nat_eq (rank c) n) x cs (subst (IsIn x) (sym i) (inl refl)) in (x, q.0, eqb-true (rank x) n q.1 ∙ ended (close v (x ∷ ds)) f)

  by : (r : Result V ℕ) → taken rank close n held cs ≡ r → then_take r (λ v. taken_bag close n v (of_rank rank n cs)) ≡ Err st → (taken rank close n held cs ≡ Err st → (x : C) × IsIn x cs × (rank x ≡ st)) → (x : C) × IsIn x cs × (rank x ≡ st)
  by (Ok v) i f go = bag v (of_rank rank n cs) refl f
  by (Err m) i f go = go (i ∙ f)

-- the number of the first member that has a rank
abbrev number_by : {C : Type 0} → (rank new : C → ℕ) → List C → ℕ → ℕ
number_by rank new [] n = 0
number_by rank new (x ∷ xs) n = if nat_eq (rank x) n then new x else number_by rank new xs n

number-is : {C : Type 0} (rank new : C → ℕ) (cs : List C) (x : C) → IsIn x cs → ((y : C) → IsIn y cs → rank x ≡ rank y → new x ≡ new y) → new x ≡ number_by rank new cs (rank x)
number-is rank new [] x i e = absurd i
number-is {C = C} rank new (y ∷ ys) x i e = by (nat_eq (rank y) (rank x)) refl (λ j. number-is rank new ys x j (λ z k. e z (inr k))) where
  by : (b : Bool) → nat_eq (rank y) (rank x) ≡ b → (IsIn x ys → new x ≡ number_by rank new ys (rank x)) → new x ≡ (if b then new y else number_by rank new ys (rank x))
  by true f go = e y (inl refl) (sym (eqb-true (rank y) (rank x) f))
  by false f go = ⊎_elim (λ (j : x ≡ y). absurd (eqb-false (rank y) (rank x) f (ap rank (sym j)))) (λ (j : IsIn x ys). go j) i

-- statements are below their bound
pub below-bound : (cs : List Contribution) (x : Contribution) → IsIn x cs → statement_of x < statement_bound cs
below-bound [] x i = absurd i
below-bound (c ∷ cs) x i =
    ⊎_elim
    (λ (e : x ≡ c). subst (λ k. k < statement_bound (c ∷ cs)) (ap statement_of (sym e)) (omega arith))
    (λ (j : IsIn x cs). let rest = below-bound cs x j in omega arith)
    i

all-below : {C : Type 0} (rank : C → ℕ) (n : ℕ) (cs : List C) → ((x : C) → IsIn x cs → rank x < n) → AreBelow rank n cs
all-below rank n [] h = tt
all-below rank n (c ∷ cs) h = (h c (inl refl), all-below rank n cs (λ x i. h x (inr i)))

-- contributions to one target
in-target : (slots : List Slot) (cs : List Contribution) (x : Contribution) → IsIn x (S.to_target slots cs) → IsIn x cs × (x.slots ≡ slots)
in-target slots cs x i = let q = IsIn-filter (λ c. slots_eq slots c.slots) x cs i in (q.0, sym (slots_eq-true slots x.slots q.1))

-- a fault of a lesser statement comes before, and one that comes before is of no greater one
abbrev rest_lt : K.Fault → K.Fault → Bool
rest_lt a b = nat_lt (stage_rank a.key.stage) (stage_rank b.key.stage) || (nat_eq (stage_rank a.key.stage) (stage_rank b.key.stage) && place_lt a.place b.place)

statement-before : (a b : K.Fault) → a.key.statement < b.key.statement → fault_lt a b ≡ true
statement-before a b lt = ap (λ x. x || (nat_eq a.key.statement b.key.statement && rest_lt a b)) (lt-ltb a.key.statement b.key.statement lt)

before-statement : (a b : K.Fault) → fault_lt a b ≡ true → a.key.statement ≤ b.key.statement
before-statement a b h =
    ⊎_elim
    (λ (l : b.key.statement < a.key.statement). absurd (both_ways (fault_lt a b)
    (ap (λ x. x || (nat_eq a.key.statement b.key.statement && rest_lt a b)) (le-ltb a.key.statement b.key.statement (omega arith)) ∙ ap (λ x. x && rest_lt a b) (ne_eqb a.key.statement b.key.statement (λ e. omega arith))) h))
    (λ (l : a.key.statement ≤ b.key.statement). l)
    (cases_lt b.key.statement a.key.statement)

-- the index of a total within a segment
module _ (v : Env) (base : ℕ) (spots : List Spot) (places : v.place ≡ place_index (segment base spots)) where
  abbrev new : Contribution → ℕ
  new x = v.place x.total.key x.total.place

  -- the places of statements below a number
  abbrev cut : ℕ → ℕ
  cut b = base + length (filter (λ s. nat_lt s.fault.key.statement b) (ascending spots))

  new-is : (x : Contribution) → new x ≡ base + length (filter (λ s. fault_lt s.fault (total_fault x.total)) (ascending spots))
  new-is x = ap (λ p. p x.total.key x.total.place) places

  below : (x : Contribution) → HasSpot (spot_of_total x.total) spots → (b : ℕ) → statement_of x < b → new x < cut b
  below x o b lt =
      let all = ascending spots in
      let q = spot-in (total_fault x.total) all (ascending-has (total_fault x.total) spots (fault-has (spot_of_total x.total) spots o)) in
      let less : length (filter (λ s. fault_lt s.fault (total_fault x.total)) all) < length (filter (λ s. nat_lt s.fault.key.statement b) all) =
      kept-one-more (λ s. fault_lt s.fault (total_fault x.total)) (λ s. nat_lt s.fault.key.statement b) all q.0
      (λ s e. let l = before-statement s.fault (total_fault x.total) e in lt-ltb s.fault.key.statement b (omega arith)) q.2
      (ap (λ f. fault_lt f (total_fault x.total)) q.1 ∙ lt-itself (total_fault x.total)) (ap (λ f. nat_lt f.key.statement b) q.1 ∙ lt-ltb (statement_of x) b lt) in
      subst (λ k. k < cut b) (sym (new-is x)) (omega arith)

  above : (x : Contribution) → (b : ℕ) → b ≤ statement_of x → cut b ≤ new x
  above x b le =
      let all = ascending spots in
      let less : length (filter (λ s. nat_lt s.fault.key.statement b) all) ≤ length (filter (λ s. fault_lt s.fault (total_fault x.total)) all) =
      kept-more (λ s. nat_lt s.fault.key.statement b) (λ s. fault_lt s.fault (total_fault x.total)) all
      (λ s e. let l = ltb-true s.fault.key.statement b e in statement-before s.fault (total_fault x.total) (omega arith)) in
      subst (λ k. cut b ≤ k) (sym (new-is x)) (omega arith)

  up : (b : ℕ) → cut b ≤ cut (suc b)
  up b =
      let less : length (filter (λ s. nat_lt s.fault.key.statement b) (ascending spots)) ≤ length (filter (λ s. nat_lt s.fault.key.statement (suc b)) (ascending spots)) =
      kept-more (λ s. nat_lt s.fault.key.statement b) (λ s. nat_lt s.fault.key.statement (suc b)) (ascending spots) (λ s e. let l = ltb-true s.fault.key.statement b e in lt-ltb s.fault.key.statement (suc b) (omega arith)) in
      omega arith

  cut-within : (b : ℕ) → cut b ≤ base + length (ascending spots)
  cut-within b = let less = all-kept (λ (s : Spot). nat_lt s.fault.key.statement b) (ascending spots) in omega arith where
    all-kept : {A : Type 0} (p : A → Bool) (xs : List A) → length (filter p xs) ≤ length xs
    all-kept p [] = omega arith
    all-kept p (x ∷ xs) = by (p x) (all-kept p xs) where
      by : (b : Bool) → length (filter p xs) ≤ length xs → length (cond b (x ∷ filter p xs) (filter p xs)) ≤ length (x ∷ xs)
      by true l = omega arith
      by false l = omega arith

  -- contributions to one target, of which those of one statement are of one total, are taken alike
  pub taken-alike : (c : Layout) (most : ℕ) (r : Reduce) (held : List Value) (x : Contribution) (ds : List Contribution) → HaveRoom base spots most
      → ((y : Contribution) → IsIn y (x ∷ ds) → HasSpot (spot_of_total y.total) spots)
      → ((y z : Contribution) → IsIn y (x ∷ ds) → IsIn z (x ∷ ds) → statement_of y ≡ statement_of z → y.total ≡ z.total)
      → taken (λ g. g.place) (closed r) most held (map (given c v) (x ∷ ds))
      ≡ rank_by (number_by statement_of new (x ∷ ds)) (taken statement_of (close_by r) (statement_bound (x ∷ ds)) held (x ∷ ds))
  taken-alike c most r held x ds le o one =
      let cs = x ∷ ds in
      let b = statement_bound cs in
      let low : cut b ≤ most = (let l = cut-within b in let m : base + length (ascending spots) ≤ most = le (spot_of_total x.total) (o x (inl refl)) in omega arith) in
      taken-map (given c v) (λ g. g.place) (closed r) most held cs
      ∙ taken-close new (λ u ys. closed r u (map (given c v) ys)) (close_by r) most held cs (λ u ys. ap (close_slots r u) (map-map (given c v) (λ (g : T.Contribution). g.values) ys))
      ∙ taken-bound new (close_by r) (cut b) most held cs low (all-below new (cut b) cs (λ y i. below y (o y i) b (below-bound cs y i)))
      ∙ rekeyed statement_of new (close_by r) (number_by statement_of new cs) cut cs
      (λ y i. number-is statement_of new cs y i (λ z j e. ap (λ (t : TotalKey). v.place t.key t.place) (one y z i j e)))
      (λ y i. below y (o y i)) (λ y i. above y) up held b

-- what one reads at an index of a list that was made slot by slot
at-enumerated : {B : Type 0} (f : ℕ × Value → B) (d : B) (k : ℕ) (xs : List Value) (i : ℕ) → i < length xs → slice_index_or (map f (enumerate_from k xs)) i d ≡ f (k + i, value_at xs i)
at-enumerated f d k [] i lt = absurd (omega arith)
at-enumerated f d k (x ∷ xs) zero lt = ap (λ n. f (n, x)) (let e : k ≡ k + 0 = omega arith in e)
at-enumerated f d k (x ∷ xs) (suc i) lt =
    at-enumerated f d (k + 1) xs i (omega arith) ∙ ap (λ n. f (n, value_at xs i)) (let e : (k + 1) + i ≡ k + suc i = omega arith in e)

enumerated-length : {B : Type 0} (f : ℕ × Value → B) (k : ℕ) (xs : List Value) → length (map f (enumerate_from k xs)) ≡ length xs
enumerated-length f k [] = refl
enumerated-length f k (x ∷ xs) = ap suc (enumerated-length f (k + 1) xs)

enumerated-in : {B : Type 0} (f : ℕ × Value → B) (k : ℕ) (xs : List Value) (i : ℕ) → i < length xs → IsIn (f (k + i, value_at xs i)) (map f (enumerate_from k xs))
enumerated-in f k [] i lt = absurd (omega arith)
enumerated-in f k (x ∷ xs) zero lt = inl (ap (λ n. f (n, x)) (let e : k + 0 ≡ k = omega arith in e))
enumerated-in f k (x ∷ xs) (suc i) lt =
    inr (subst (λ n. IsIn (f (n, value_at xs i)) (map f (enumerate_from (k + 1) xs))) (let e : (k + 1) + i ≡ k + suc i = omega arith in e) (enumerated-in f (k + 1) xs i (omega arith)))

enumerated-from : {B : Type 0} (f : ℕ × Value → B) (k : ℕ) (xs : List Value) (y : B) → IsIn y (map f (enumerate_from k xs)) → (i : ℕ) × (x : Value) × (y ≡ f (i, x))
enumerated-from f k [] y h = absurd h
enumerated-from f k (x ∷ xs) y h = ⊎_elim (λ (e : y ≡ f (k, x)). (k, x, e)) (λ (j : IsIn y (map f (enumerate_from (k + 1) xs))). enumerated-from f (k + 1) xs y j) h

-- the least of some faults on the machine is one of them that is not after the others
right-over : (m : M.Fault) (os : List (Option M.Fault)) → ((x : M.Fault) → IsIn (Some x) os → lesser (Some m) (Some x) ≡ Some m) → lesser (Some m) (least_right os) ≡ Some m
right-over m [] h = refl
right-over m (None ∷ os) h = right-over m os (λ x i. h x (inr i))
right-over m (Some x ∷ os) h =
    sym (lesser-assoc (Some m) (Some x) (least_right os)) ∙ ap (λ o. lesser o (least_right os)) (h x (inl refl)) ∙ right-over m os (λ y i. h y (inr i))

right-is : (m : M.Fault) (os : List (Option M.Fault)) → ((x : M.Fault) → IsIn (Some x) os → lesser (Some m) (Some x) ≡ Some m) → IsIn (Some m) os → least_right os ≡ Some m
right-is m [] h i = absurd i
right-is m (a ∷ os) h i =
    ⊎_elim
    (λ (e : Some m ≡ a). ap (λ o. lesser o (least_right os)) (sym e) ∙ right-over m os (λ x j. h x (inr j)))
    (λ (j : IsIn (Some m) os). ap (lesser a) (right-is m os (λ x k. h x (inr k)) j) ∙ over a (λ x e. h x (inl e)))
    i where
      over : (a : Option M.Fault) → ((x : M.Fault) → Some x ≡ a → lesser (Some m) (Some x) ≡ Some m) → lesser a (Some m) ≡ Some m
      over None g = refl
      over (Some x) g = lesser-comm (Some x) (Some m) ∙ g x refl

right-none : (os : List (Option M.Fault)) → ((x : M.Fault) → IsIn (Some x) os → ⊥) → least_right os ≡ None
right-none [] h = refl
right-none (None ∷ os) h = right-none os (λ x i. h x (inr i))
right-none (Some x ∷ os) h = absurd (h x (inl refl))

-- the least of some faults of the meaning is one of them and none is lower
lower-self : (f : Fault) → F.lower f f ≡ f
lower-self f = by (F.comes_before (F.rank_of f) (F.rank_of f)) where
  by : (b : Bool) → (if b then f else f) ≡ f
  by true = refl
  by false = refl

lower-one : (f g : Fault) → (F.lower f g ≡ f) ⊎ (F.lower f g ≡ g)
lower-one f g = by (F.comes_before (F.rank_of g) (F.rank_of f)) where
  by : (b : Bool) → ((if b then g else f) ≡ f) ⊎ ((if b then g else f) ≡ g)
  by true = inr refl
  by false = inl refl

lower-keeps : (f g x : Fault) → F.lower f g ≡ f → F.lower g x ≡ g → F.lower f x ≡ f
lower-keeps f g x e h =
    let turn : F.lower f g ≡ F.lower g (F.lower f x) = ap (F.lower f) (sym h) ∙ lower-exchange f g x in
    ⊎_elim
    (λ (a : F.lower f x ≡ f). a)
    (λ (a : F.lower f x ≡ x).
    let same : f ≡ g = sym e ∙ turn ∙ ap (F.lower g) a ∙ h in
    ap (λ z. F.lower z x) same ∙ h ∙ sym same)
    (lower-one f x)

pub record IsLeast (f : Fault) (fs : List Fault) : Type 0 where
  pub is_in : IsIn f fs
  pub lowest : (g : Fault) → IsIn g fs → F.lower f g ≡ f

pub least-is : (fs : List Fault) (f : Fault) → least fs ≡ Some f → IsLeast f fs
least-is [] f e = absurd (both_ways false refl (ap is_one e)) where
  is_one : Option Fault → Bool
  is_one None = false
  is_one (Some x) = true
least-is (g ∷ gs) f e = by (least gs) refl e (λ h k. least-is gs h k) where
  same_some : {x y : Fault} → Some x ≡ Some y → x ≡ y
  same_some {x = x} e = ap (some_or x) e where
    some_or : Fault → Option Fault → Fault
    some_or d None = d
    some_or d (Some z) = z

  no-members : (o : List Fault) → least o ≡ None → (z : Fault) → IsIn z o → ⊥
  no-members [] h z i = i
  no-members (y ∷ ys) h z i = never (least ys) h where
    is_one : Option Fault → Bool
    is_one None = false
    is_one (Some x) = true

    never : (o : Option Fault) → F.lesser y o ≡ None → ⊥
    never None k = both_ways false refl (sym (ap is_one k))
    never (Some x) k = both_ways false refl (sym (ap is_one k))

  whole : (h : Fault) → F.lower g h ≡ f → IsLeast h gs → IsLeast f (g ∷ gs)
  whole h k q = ⊎_elim first second (lower-one g h) where
    first : F.lower g h ≡ g → IsLeast f (g ∷ gs)
    first a =
        let same : g ≡ f = sym a ∙ k in
        subst (λ z. IsLeast z (g ∷ gs)) same (record {
          is_in = inl refl;
          lowest = λ z i. ⊎_elim (λ (j : z ≡ g). ap (F.lower g) j ∙ lower-self g) (λ (j : IsIn z gs). lower-keeps g h z a (q.lowest z j)) i;
        })

    second : F.lower g h ≡ h → IsLeast f (g ∷ gs)
    second a =
        let same : h ≡ f = sym a ∙ k in
        subst (λ z. IsLeast z (g ∷ gs)) same (record {
          is_in = inr q.is_in;
          lowest = λ z i. ⊎_elim (λ (j : z ≡ g). ap (F.lower h) j ∙ lower_comm h g ∙ a) (λ (j : IsIn z gs). q.lowest z j) i;
        })

  by : (o : Option Fault) → least gs ≡ o → F.lesser g o ≡ Some f → ((h : Fault) → least gs ≡ Some h → IsLeast h gs) → IsLeast f (g ∷ gs)
  by None i k go =
      let same : g ≡ f = same_some k in
      subst (λ z. IsLeast z (g ∷ gs)) same (record {
        is_in = inl refl;
        lowest = λ z j. ⊎_elim (λ (a : z ≡ g). ap (F.lower g) a ∙ lower-self g) (λ (a : IsIn z gs). absurd (no-members gs i z a)) j;
      })
  by (Some h) i k go = whole h (same_some k) (go h i)

pub least-none : (fs : List Fault) → least fs ≡ None → (f : Fault) → IsIn f fs → ⊥
least-none [] h f i = i
least-none (y ∷ ys) h f i = never (least ys) h where
  is_one : Option Fault → Bool
  is_one None = false
  is_one (Some x) = true

  never : (o : Option Fault) → F.lesser y o ≡ None → ⊥
  never None k = both_ways false refl (sym (ap is_one k))
  never (Some x) k = both_ways false refl (sym (ap is_one k))

-- faults that are all one
least-const : (f : Fault) (fs : List Fault) (x : Fault) → IsIn x fs → ((g : Fault) → IsIn g fs → g ≡ f) → least fs ≡ Some f
least-const f [] x i h = absurd i
least-const f (g ∷ []) x i h = ap Some (h g (inl refl))
least-const f (g ∷ (k ∷ fs)) x i h =
    ap (F.lesser g) (least-const f (k ∷ fs) k (inl refl) (λ z j. h z (inr j))) ∙ ap (λ z. Some (F.lower z f)) (h g (inl refl)) ∙ ap Some (lower-self f)

pub somes-in : {A : Type 0} (f : A → Option Fault) (xs : List A) (g : Fault) → IsIn g (somes (map f xs)) → (x : A) × IsIn x xs × (f x ≡ Some g)
somes-in f [] g i = absurd i
somes-in {A = A} f (x ∷ xs) g i = by (f x) refl i (λ j. somes-in f xs g j) where
  by : (o : Option Fault) → f x ≡ o → IsIn g (somes (o ∷ map f xs)) → (IsIn g (somes (map f xs)) → (y : A) × IsIn y xs × (f y ≡ Some g)) → (y : A) × IsIn y (x ∷ xs) × (f y ≡ Some g)
  by None e j go = let q = go j in (q.0, inr q.1, q.2)
  by (Some h) e j go = ⊎_elim (λ (k : g ≡ h). (x, inl refl, e ∙ ap Some (sym k))) (λ (k : IsIn g (somes (map f xs))). let q = go k in (q.0, inr q.1, q.2)) j

pub in-somes : {A : Type 0} (f : A → Option Fault) (xs : List A) (x : A) (g : Fault) → IsIn x xs → f x ≡ Some g → IsIn g (somes (map f xs))
in-somes f [] x g i e = absurd i
in-somes {A = A} f (y ∷ ys) x g i e = by (f y) refl (λ j. in-somes f ys x g j e) where
  by : (o : Option Fault) → f y ≡ o → (IsIn x ys → IsIn g (somes (map f ys))) → IsIn g (somes (o ∷ map f ys))
  by None k go = ⊎_elim (λ (j : x ≡ y). absurd (none-some (sym k ∙ ap f (sym j) ∙ e))) (λ (j : IsIn x ys). go j) i where
    none-some : None ≡ Some g → ⊥
    none-some h = both_ways false refl (ap is_one h) where
      is_one : Option Fault → Bool
      is_one None = false
      is_one (Some x) = true
  by (Some h) k go =
      ⊎_elim (λ (j : x ≡ y). inl (some_is (sym e ∙ ap f j ∙ k))) (λ (j : IsIn x ys). inr (go j)) i where
        some_is : Some g ≡ Some h → g ≡ h
        some_is p = ap some_or p where
          some_or : Option Fault → Fault
          some_or None = g
          some_or (Some z) = z

pub filter-in : {A : Type 0} (p : A → Bool) (xs : List A) (x : A) → IsIn x xs → p x ≡ true → IsIn x (filter p xs)
filter-in p [] x i e = i
filter-in {A = A} p (y ∷ ys) x i e = by (p y) refl (λ j. filter-in p ys x j e) where
  by : (b : Bool) → p y ≡ b → (IsIn x ys → IsIn x (filter p ys)) → IsIn x (cond b (y ∷ filter p ys) (filter p ys))
  by true f go = ⊎_elim (λ (k : x ≡ y). inl k) (λ (j : IsIn x ys). inr (go j)) i
  by false f go = ⊎_elim (λ (k : x ≡ y). absurd (both_ways (p y) f (ap p (sym k) ∙ e))) (λ (j : IsIn x ys). go j) i

-- a member of a list all of which pass
passes : {A : Type 0} (p : A → Bool) (xs : List A) (x : A) → list_all p xs ≡ true → IsIn x xs → p x ≡ true
passes p [] x h i = absurd i
passes p (y ∷ ys) x h i = let q = both-true (p y) (list_all p ys) h in ⊎_elim (λ (e : x ≡ y). ap p e ∙ q.0) (λ (j : IsIn x ys). passes p ys x q.1 j) i

slot-in : (slot : Slot) (xs : List Slot) → has_slot slot xs ≡ true → IsIn slot xs
slot-in slot [] h = absurd (both_ways false refl h)
slot-in slot (x ∷ xs) h = by (slot_eq slot x) refl h (λ j. slot-in slot xs j) where
  by : (b : Bool) → slot_eq slot x ≡ b → b || has_slot slot xs ≡ true → (has_slot slot xs ≡ true → IsIn slot xs) → IsIn slot (x ∷ xs)
  by true e j go = inl (slot_eq-true slot x e)
  by false e j go = inr (go j)

module _ (c : Layout) (v : Env) (base most : ℕ) (spots : List Spot) (s : Store) (held : List Value) (here : Slot → Bool) (cs : List Contribution)
    (places : v.place ≡ place_index (segment base spots)) (le : HaveRoom base spots most) (h : AreHeld c s held here) (g : AreGiven cs here spots) where
  abbrev at : Slot → ℕ
  at = slot_at c

  abbrev ms : List T.Contribution
  ms = map (given c v) cs

  -- numbers of slots are one where the slots are
  number-same : (a b : Slot) → here a ≡ true → here b ≡ true → nat_eq (at b) (at a) ≡ slot_eq a b
  number-same a b p q = by (nat_eq (at b) (at a)) refl where
    by : (x : Bool) → nat_eq (at b) (at a) ≡ x → x ≡ slot_eq a b
    by true e = sym (ap (slot_eq a) (h.apart b a q p (eqb-true (at b) (at a) e)) ∙ slot_eq-refl a)
    by false e = sym (other (slot_eq a b) refl) where
      other : (x : Bool) → slot_eq a b ≡ x → x ≡ false
      other true f = absurd (eqb-false (at b) (at a) e (ap at (sym (slot_eq-true a b f))))
      other false f = refl

  among-same : (slot : Slot) → here slot ≡ true → (xs : List Slot) → list_all here xs ≡ true → is_among (at slot) (map at xs) ≡ has_slot slot xs
  among-same slot p [] o = refl
  among-same slot p (x ∷ xs) o =
      let q = both-true (here x) (list_all here xs) o in
      ap (λ b. b || is_among (at slot) (map at xs)) (number-same slot x p q.0) ∙ ap (λ b. slot_eq slot x || b) (among-same slot p xs q.1)

  numbers-same : (xs ys : List Slot) → list_all here xs ≡ true → list_all here ys ≡ true → same_numbers (map at ys) (map at xs) ≡ slots_eq xs ys
  numbers-same [] [] o p = refl
  numbers-same [] (y ∷ ys) o p = refl
  numbers-same (x ∷ xs) [] o p = refl
  numbers-same (x ∷ xs) (y ∷ ys) o p =
      let q = both-true (here x) (list_all here xs) o in
      let r = both-true (here y) (list_all here ys) p in
      ap (λ b. b && same_numbers (map at ys) (map at xs)) (number-same x y q.0 r.0) ∙ ap (λ b. slot_eq x y && b) (numbers-same xs ys q.1 r.1)

  target-same : (slots : List Slot) → list_all here slots ≡ true → T.to_target (map at slots) ms ≡ map (given c v) (S.to_target slots cs)
  target-same slots o =
      filter-map (given c v) (λ x. same_numbers x.slots (map at slots)) cs
      ∙ ap (map (given c v)) (filter-each (λ (x : Contribution). same_numbers (map at x.slots) (map at slots)) (λ x. slots_eq slots x.slots) cs (λ x i. numbers-same slots x.slots o (g.here_all x i)))

  held-reads : (xs : List Slot) → list_all here xs ≡ true → map (value_at held) (map at xs) ≡ reads s xs
  held-reads [] o = refl
  held-reads (x ∷ xs) o =
      let q = both-true (here x) (list_all here xs) o in
      ap (λ z. z ∷ map (value_at held) (map at xs)) (h.holds x q.0) ∙ ap (λ zs. read s x ∷ zs) (held-reads xs q.1)

  entry-same : (slot : Slot) → here slot ≡ true → (xs : List Slot) → list_all here xs ≡ true → (vs : List Value) (other : Value) → entry_of (at slot) (map at xs) vs other ≡ value_among slot xs vs other
  entry-same slot p [] o vs other = refl
  entry-same slot p (x ∷ xs) o [] other = refl
  entry-same slot p (x ∷ xs) o (w ∷ vs) other =
      let q = both-true (here x) (list_all here xs) o in
      ap (λ b. cond b w (entry_of (at slot) (map at xs) vs other)) (number-same slot x p q.0) ∙ ap (λ z. cond (slot_eq slot x) w z) (entry-same slot p xs q.1 vs other)

  -- the first contribution that has a slot
  pub data First (i : ℕ) (ds : List Contribution) : Type 0 where
    first_none : find (T.has_slot i) (map (given c v) ds) ≡ None → First i ds
    first_some : (x : Contribution) → IsIn x ds → is_among i (map at x.slots) ≡ true → find (T.has_slot i) (map (given c v) ds) ≡ Some (given c v x) → First i ds

  first : (i : ℕ) (ds : List Contribution) → First i ds
  first i [] = first_none refl
  first i (x ∷ ds) = by (is_among i (map at x.slots)) refl (first i ds) where
    by : (b : Bool) → is_among i (map at x.slots) ≡ b → First i ds → First i (x ∷ ds)
    by true e f = first_some x (inl refl) e (ap (λ b. if b then Some (given c v x) else find (T.has_slot i) (map (given c v) ds)) e)
    by false e (first_none f) = first_none (ap (λ b. if b then Some (given c v x) else find (T.has_slot i) (map (given c v) ds)) e ∙ f)
    by false e (first_some y j k f) = first_some y (inr j) k (ap (λ b. if b then Some (given c v x) else find (T.has_slot i) (map (given c v) ds)) e ∙ f)

  -- the number of a slot among some is that of one of them
  number-in : (i : ℕ) (xs : List Slot) → list_all here xs ≡ true → is_among i (map at xs) ≡ true → (slot : Slot) × (here slot ≡ true) × (i ≡ at slot) × (has_slot slot xs ≡ true)
  number-in i [] o e = absurd (both_ways false refl e)
  number-in i (x ∷ xs) o e =
      let q = both-true (here x) (list_all here xs) o in
      by (nat_eq (at x) i) refl q.0 e (λ j. number-in i xs q.1 j) where
        by : (b : Bool) → nat_eq (at x) i ≡ b → here x ≡ true → b || is_among i (map at xs) ≡ true → (is_among i (map at xs) ≡ true → (slot : Slot) × (here slot ≡ true) × (i ≡ at slot) × (has_slot slot xs ≡ true))
            → (slot : Slot) × (here slot ≡ true) × (i ≡ at slot) × (has_slot slot (x ∷ xs) ≡ true)
        by true f p e go = (x, p, sym (eqb-true (at x) i f), ap (λ b. b || has_slot x xs) (slot_eq-refl x))
        by false f p e go = let r = go e in (r.0, r.1, r.2, or-right (slot_eq r.0 x) r.3) where
          or-right : {y : Bool} (b : Bool) → y ≡ true → b || y ≡ true
          or-right true k = refl
          or-right false k = k

  -- what a target comes to
  abbrev target_of_meaning : List Slot → Result (List Value) ℕ
  target_of_meaning slots = taken_onto (reads s slots) (S.to_target slots cs)

  abbrev numbers : List Slot → ℕ → ℕ
  numbers slots = number_by statement_of (new v base spots places) (S.to_target slots cs)

  target-is : (x : Contribution) → IsIn x cs → target_after most ms held (reduction_of (given c v x)) ≡ overflow_at (rank_by (numbers x.slots) (target_of_meaning x.slots))
  target-is x i =
      ap (λ ys. overflow_at (taken (λ y. y.place) (closed x.reduce) most ys (T.to_target (map at x.slots) ms))) (held-reads x.slots (g.here_all x i))
      ∙ ap (λ ds. overflow_at (taken (λ y. y.place) (closed x.reduce) most (reads s x.slots) ds)) (target-same x.slots (g.here_all x i))
      ∙ ap overflow_at (by (S.to_target x.slots cs) refl (in-to x i)) where
        in-to : (x : Contribution) → IsIn x cs → IsIn x (S.to_target x.slots cs)
        in-to x i = filter-in (λ (y : Contribution). slots_eq x.slots y.slots) cs x i (slots_eq-refl x.slots)

        by : (ds : List Contribution) → S.to_target x.slots cs ≡ ds → IsIn x (S.to_target x.slots cs)
            → taken (λ y. y.place) (closed x.reduce) most (reads s x.slots) (map (given c v) (S.to_target x.slots cs)) ≡ rank_by (numbers x.slots) (target_of_meaning x.slots)
        by [] e j = absurd (subst (IsIn x) e j)
        by (y ∷ ds) e j =
            let within : (z : Contribution) → IsIn z (y ∷ ds) → IsIn z cs × (z.slots ≡ x.slots) = λ z k. in-target x.slots cs z (subst (IsIn z) (sym e) k) in
            let q = within y (inl refl) in
            let same : x.reduce ≡ y.reduce = same-reduce x y i q.0 (sym q.1) in
            ap (λ zs. taken (λ y. y.place) (closed x.reduce) most (reads s x.slots) (map (given c v) zs)) e
            ∙ ap (λ r. taken (λ y. y.place) (closed r) most (reads s x.slots) (map (given c v) (y ∷ ds))) same
            ∙ taken-alike v base spots places c most y.reduce (reads s x.slots) y ds le (λ z k. g.spotted z (within z k).0)
            (λ z w k l f. g.one_total z w (within z k).0 (within w l).0 ((within z k).1 ∙ sym (within w l).1) f)
            ∙ ap (λ zs. rank_by (number_by statement_of (new v base spots places) zs) (taken_onto (reads s x.slots) zs)) (sym e) where
              same-reduce : (a b : Contribution) → IsIn a cs → IsIn b cs → a.slots ≡ b.slots → a.reduce ≡ b.reduce
              same-reduce a b k l f = by_first a.slots refl (g.not_empty a k) where
                by_first : (xs : List Slot) → a.slots ≡ xs → is_some_list a.slots ≡ true → a.reduce ≡ b.reduce
                by_first [] m o = absurd (both_ways false refl (sym (ap is_some_list m) ∙ o))
                by_first (z ∷ zs) m o =
                    let has : has_slot z a.slots ≡ true = ap (has_slot z) m ∙ ap (λ b. b || has_slot z zs) (slot_eq-refl z) in
                    (g.one a b z k l has (ap (has_slot z) (sym f) ∙ has)).0

  -- the fault of a target
  fault-is : (slots : List Slot) (q : Result (List Value) ℕ) → taken_onto (reads s slots) (S.to_target slots cs) ≡ q
      → (go : List Value → Value) → T.fault_of (then_go (overflow_at (rank_by (numbers slots) q)) (λ vs. Ok (go vs))) ≡ fault_or_none v (fault_in (S.to_target slots cs) q)
  fault-is slots (Ok vs) e go = refl
  fault-is slots (Err st) e go =
      let q = failing slots st e in
      let member : IsIn (F.total_fault q.0.total) (map (λ (y : Contribution). F.total_fault y.total) (of_rank statement_of st (S.to_target slots cs))) =
      map-in (λ (y : Contribution). F.total_fault y.total) (of_rank statement_of st (S.to_target slots cs)) q.0 (filter-in (λ (y : Contribution). nat_eq (statement_of y) st) (S.to_target slots cs) q.0 q.1 (eq-eqb (statement_of q.0) st q.2)) in
      ap (λ n. Some (record { place = n; kind = Overflow })) (ap (numbers slots) (sym q.2) ∙ sym (number-of slots q.0 q.1))
      ∙ ap (fault_or_none v) (sym (least-const (F.total_fault q.0.total) (map (λ (y : Contribution). F.total_fault y.total) (of_rank statement_of st (S.to_target slots cs))) (F.total_fault q.0.total) member (λ f i. all-one slots st q.0 q.1 q.2 f i))) where
        failing : (slots : List Slot) (st : ℕ) → taken_onto (reads s slots) (S.to_target slots cs) ≡ Err st → (y : Contribution) × IsIn y (S.to_target slots cs) × (statement_of y ≡ st)
        failing slots st e = by (S.to_target slots cs) refl e where
          by : (ds : List Contribution) → S.to_target slots cs ≡ ds → taken_onto (reads s slots) ds ≡ Err st → (y : Contribution) × IsIn y (S.to_target slots cs) × (statement_of y ≡ st)
          by [] i f = absurd (both_ways false refl (ap is_err f)) where
            is_err : Result (List Value) ℕ → Bool
            is_err (Ok v) = false
            is_err (Err m) = true
          by (y ∷ ds) i f =
              let q = taken-fails statement_of (close_by y.reduce) (statement_bound (y ∷ ds)) (reads s slots) (y ∷ ds) st f in
              (q.0, subst (IsIn q.0) (sym i) q.1, q.2)

        total-same : (slots : List Slot) (y z : Contribution) → IsIn y (S.to_target slots cs) → IsIn z (S.to_target slots cs) → statement_of y ≡ statement_of z → y.total ≡ z.total
        total-same slots y z i j e =
            let a = in-target slots cs y i in
            let b = in-target slots cs z j in
            g.one_total y z a.0 b.0 (a.1 ∙ sym b.1) e

        number-of : (slots : List Slot) (y : Contribution) → IsIn y (S.to_target slots cs) → new v base spots places y ≡ numbers slots (statement_of y)
        number-of slots y i =
            number-is statement_of (new v base spots places) (S.to_target slots cs) y i (λ z j e. ap (λ (t : TotalKey). v.place t.key t.place) (total-same slots y z i j e))

        map-in : {A B : Type 0} (f : A → B) (xs : List A) (x : A) → IsIn x xs → IsIn (f x) (map f xs)
        map-in f [] x i = i
        map-in f (y ∷ ys) x i = ⊎_elim (λ (e : x ≡ y). inl (ap f e)) (λ (j : IsIn x ys). inr (map-in f ys x j)) i

        from-map : {A B : Type 0} (f : A → B) (xs : List A) (y : B) → IsIn y (map f xs) → (x : A) × IsIn x xs × (y ≡ f x)
        from-map f [] y i = absurd i
        from-map f (x ∷ xs) y i = ⊎_elim (λ (e : y ≡ f x). (x, inl refl, e)) (λ (j : IsIn y (map f xs)). let q = from-map f xs y j in (q.0, inr q.1, q.2)) i

        all-one : (slots : List Slot) (st : ℕ) (y : Contribution) → IsIn y (S.to_target slots cs) → statement_of y ≡ st → (f : Fault)
            → IsIn f (map (λ (z : Contribution). F.total_fault z.total) (of_rank statement_of st (S.to_target slots cs))) → f ≡ F.total_fault y.total
        all-one slots st y i e f j =
            let q = from-map (λ (z : Contribution). F.total_fault z.total) (of_rank statement_of st (S.to_target slots cs)) f j in
            let r = IsIn-filter (λ (z : Contribution). nat_eq (statement_of z) st) q.0 (S.to_target slots cs) q.1 in
            q.2 ∙ ap (λ t. F.total_fault t) (total-same slots q.0 y r.0 i (eqb-true (statement_of q.0) st r.1 ∙ sym e))

  -- what no contribution has is found in none
  none-among : (i : ℕ) (ds : List Contribution) → find (T.has_slot i) (map (given c v) ds) ≡ None → (x : Contribution) → IsIn x ds → is_among i (map at x.slots) ≡ false
  none-among i [] e x j = absurd j
  none-among i (y ∷ ds) e x j = by (is_among i (map at y.slots)) refl e (λ f k. none-among i ds f x k) where
    by : (b : Bool) → is_among i (map at y.slots) ≡ b → (if b then Some (given c v y) else find (T.has_slot i) (map (given c v) ds)) ≡ None
        → (find (T.has_slot i) (map (given c v) ds) ≡ None → IsIn x ds → is_among i (map at x.slots) ≡ false) → is_among i (map at x.slots) ≡ false
    by true f k go = absurd (both_ways false refl (sym (ap is_one k))) where
      is_one : Option T.Contribution → Bool
      is_one None = false
      is_one (Some z) = true
    by false f k go = ⊎_elim (λ (m : x ≡ y). ap (λ (z : Contribution). is_among i (map at z.slots)) m ∙ f) (λ (m : IsIn x ds). go k m) j

  slot-found : (i : ℕ) (x : Contribution) → find (T.has_slot i) ms ≡ Some (given c v x) → slot_after most ms held i ≡ slot_by most ms held i (Some (reduction_of (given c v x)))
  slot-found i x e = ap (λ o. slot_by most ms held i (option_map reduction_of o)) e

  slot-missed : (i : ℕ) → find (T.has_slot i) ms ≡ None → slot_after most ms held i ≡ Ok (value_at held i)
  slot-missed i e = ap (λ o. slot_by most ms held i (option_map reduction_of o)) e

  -- the value of a slot
  value-is : (slot : Slot) → here slot ≡ true → T.value_after most ms held (at slot, value_at held (at slot)) ≡ S.value_after s cs slot
  value-is slot p = by (first (at slot) cs) where
    taken-value : (x : Contribution) → IsIn x cs → has_slot slot x.slots ≡ true → (q : Result (List Value) ℕ) → target_of_meaning x.slots ≡ q
        → T.value_or (value_at held (at slot)) (then_go (overflow_at (rank_by (numbers x.slots) q)) (λ vs. Ok (entry_of (at slot) (map at x.slots) vs (value_at held (at slot)))))
        ≡ value_among slot x.slots (values_or (reads s x.slots) q) (read s slot)
    taken-value x i has (Ok vs) e = entry-same slot p x.slots (g.here_all x i) vs (value_at held (at slot)) ∙ ap (value_among slot x.slots vs) (h.holds slot p)
    taken-value x i has (Err st) e = h.holds slot p ∙ sym (among-reads s slot x.slots (read s slot) has)

    by : First (at slot) cs → T.value_after most ms held (at slot, value_at held (at slot)) ≡ S.value_after s cs slot
    by (first_none e) =
        ap (T.value_or (value_at held (at slot))) (slot-missed (at slot) e) ∙ h.holds slot p
        ∙ sym (value-away s slot cs (λ x i. sym (among-same slot p x.slots (g.here_all x i)) ∙ none-among (at slot) cs e x i))
    by (first_some x i k e) =
        let has : has_slot slot x.slots ≡ true = sym (among-same slot p x.slots (g.here_all x i)) ∙ k in
        ap (T.value_or (value_at held (at slot))) (
        slot-found (at slot) x e
        ∙ ap (λ r. then_go r (λ vs. Ok (entry_of (at slot) (map at x.slots) vs (value_at held (at slot))))) (target-is x i))
        ∙ taken-value x i has (target_of_meaning x.slots) refl
        ∙ sym (ap (λ slots. value_among slot slots (values_or (reads s slots) (target_taken s cs slots)) (read s slot)) (target_of-found slot cs g.one x i has))

  -- the fault of a slot is that of a target
  fault-at : (i : ℕ) → (T.fault_after most ms held (i, value_at held i) ≡ None) ⊎ ((x : Contribution) × IsIn x cs × (T.fault_after most ms held (i, value_at held i) ≡ fault_or_none v (target_fault s cs x.slots)))
  fault-at i = by (first i cs) where
    by : First i cs → (T.fault_after most ms held (i, value_at held i) ≡ None) ⊎ ((x : Contribution) × IsIn x cs × (T.fault_after most ms held (i, value_at held i) ≡ fault_or_none v (target_fault s cs x.slots)))
    by (first_none e) = inl (ap T.fault_of (slot-missed i e))
    by (first_some x j k e) = inr (
      x,
      j,
      ap T.fault_of (slot-found i x e ∙ ap (λ r. then_go r (λ vs. Ok (entry_of i (map at x.slots) vs (value_at held i)))) (target-is x j))
          ∙ fault-is x.slots (target_of_meaning x.slots) refl (λ vs. entry_of i (map at x.slots) vs (value_at held i)),
    )

  -- and the fault of each target is that of a slot
  fault-of-target : (x : Contribution) → IsIn x cs → (i : ℕ) × (i < length held) × (T.fault_after most ms held (i, value_at held i) ≡ fault_or_none v (target_fault s cs x.slots))
  fault-of-target x j = by_slots x.slots refl (g.not_empty x j) where
    by_slots : (xs : List Slot) → x.slots ≡ xs → is_some_list x.slots ≡ true → (i : ℕ) × (i < length held) × (T.fault_after most ms held (i, value_at held i) ≡ fault_or_none v (target_fault s cs x.slots))
    by_slots [] m o = absurd (both_ways false refl (sym (ap is_some_list m) ∙ o))
    by_slots (z ∷ zs) m o =
        let has : has_slot z x.slots ≡ true = ap (has_slot z) m ∙ ap (λ b. b || has_slot z zs) (slot_eq-refl z) in
        let p : here z ≡ true = (both-true (here z) (list_all here zs) (ap (list_all here) (sym m) ∙ g.here_all x j)).0 in
        (at z, h.within z p, by z p has (first (at z) cs)) where
          by : (z : Slot) → here z ≡ true → has_slot z x.slots ≡ true → First (at z) cs → T.fault_after most ms held (at z, value_at held (at z)) ≡ fault_or_none v (target_fault s cs x.slots)
          by z p has (first_none e) = absurd (both_ways (has_slot z x.slots) (sym (among-same z p x.slots (g.here_all x j)) ∙ none-among (at z) cs e x j) has)
          by z p has (first_some y k l e) =
              let other : has_slot z y.slots ≡ true = sym (among-same z p y.slots (g.here_all y k)) ∙ l in
              let same : y.slots ≡ x.slots = (g.one y x z k j other has).1 in
              ap T.fault_of (slot-found (at z) y e ∙ ap (λ r. then_go r (λ vs. Ok (entry_of (at z) (map at y.slots) vs (value_at held (at z))))) (target-is y k))
              ∙ fault-is y.slots (target_of_meaning y.slots) refl (λ vs. entry_of (at z) (map at y.slots) vs (value_at held (at z)))
              ∙ ap (λ slots. fault_or_none v (target_fault s cs slots)) same

  -- a fault of totals is that of a contribution, and so it has a spot
  pub total-spot : (f : Fault) → IsIn f (total_faults s cs) → HasSpot (spot_of_fault f) spots
  total-spot f i =
      let q = somes-in (λ (x : Contribution). target_fault s cs x.slots) cs f i in
      by q.0.slots (target_of_meaning q.0.slots) q.2 where
        pick : (slots : List Slot) (st : ℕ) → least (map (λ (y : Contribution). F.total_fault y.total) (of_rank statement_of st (S.to_target slots cs))) ≡ Some f → HasSpot (spot_of_fault f) spots
        pick slots st e =
            let l = least-is (map (λ (y : Contribution). F.total_fault y.total) (of_rank statement_of st (S.to_target slots cs))) f e in
            let q = from-map (λ (y : Contribution). F.total_fault y.total) (of_rank statement_of st (S.to_target slots cs)) f l.is_in in
            let r = IsIn-filter (λ (y : Contribution). nat_eq (statement_of y) st) q.0 (S.to_target slots cs) q.1 in
            subst (λ z. HasSpot (spot_of_fault z) spots) (sym q.2) (g.spotted q.0 (in-target slots cs q.0 r.0).0) where
              from-map : {A B : Type 0} (f : A → B) (xs : List A) (y : B) → IsIn y (map f xs) → (x : A) × IsIn x xs × (y ≡ f x)
              from-map f [] y i = absurd i
              from-map f (x ∷ xs) y i = ⊎_elim (λ (e : y ≡ f x). (x, inl refl, e)) (λ (j : IsIn y (map f xs)). let q = from-map f xs y j in (q.0, inr q.1, q.2)) i

        by : (slots : List Slot) (q : Result (List Value) ℕ) → fault_in (S.to_target slots cs) q ≡ Some f → HasSpot (spot_of_fault f) spots
        by slots (Ok vs) e = absurd (both_ways false refl (ap is_one e)) where
          is_one : Option Fault → Bool
          is_one None = false
          is_one (Some z) = true
        by slots (Err st) e = pick slots st e

  abbrev machine_faults : List (Option M.Fault)
  machine_faults = map (T.fault_after most ms held) (enumerate_from 0 held)

  -- each fault on the machine is one of the totals
  machine-fault : (m : M.Fault) → IsIn (Some m) machine_faults → (f : Fault) × IsIn f (total_faults s cs) × (m ≡ fault_of v f)
  machine-fault m i =
      by (enumerated-values 0 held (λ k. ap (value_at held) (let z : 0 + k ≡ k = omega arith in z)) (Some m) i) where
        some_is : {x y : M.Fault} → Some x ≡ Some y → x ≡ y
        some_is {x = x} p = ap some_or p where
          some_or : Option M.Fault → M.Fault
          some_or None = x
          some_or (Some z) = z

        is_one : Option M.Fault → Bool
        is_one None = false
        is_one (Some z) = true

        enumerated-values : (k : ℕ) (xs : List Value) → ((j : ℕ) → value_at held (k + j) ≡ value_at xs j) → (o : Option M.Fault) → IsIn o (map (T.fault_after most ms held) (enumerate_from k xs))
            → (j : ℕ) × (o ≡ T.fault_after most ms held (j, value_at held j))
        enumerated-values k [] e o i = absurd i
        enumerated-values k (x ∷ xs) e o i =
            ⊎_elim
            (λ (a : o ≡ T.fault_after most ms held (k, x)). (k, a ∙ ap (λ y. T.fault_after most ms held (k, y)) (sym (ap (value_at held) (let z : k ≡ k + 0 = omega arith in z) ∙ e 0))))
            (λ (a : IsIn o (map (T.fault_after most ms held) (enumerate_from (k + 1) xs))).
            enumerated-values (k + 1) xs (λ j. ap (value_at held) (let z : (k + 1) + j ≡ k + suc j = omega arith in z) ∙ e (suc j)) o a)
            i

        found : (j : ℕ) → Some m ≡ T.fault_after most ms held (j, value_at held j) → (x : Contribution) → IsIn x cs → T.fault_after most ms held (j, value_at held j) ≡ fault_or_none v (target_fault s cs x.slots)
            → (o : Option Fault) → target_fault s cs x.slots ≡ o → (f : Fault) × IsIn f (total_faults s cs) × (m ≡ fault_of v f)
        found j a x i b None e = absurd (both_ways false refl (sym (ap is_one (a ∙ b ∙ ap (fault_or_none v) e))))
        found j a x i b (Some f) e = (f, in-somes (λ (y : Contribution). target_fault s cs y.slots) cs x f i e, some_is (a ∙ b ∙ ap (fault_or_none v) e))

        by : (j : ℕ) × (Some m ≡ T.fault_after most ms held (j, value_at held j)) → (f : Fault) × IsIn f (total_faults s cs) × (m ≡ fault_of v f)
        by q =
            ⊎_elim
            (λ (a : T.fault_after most ms held (q.0, value_at held q.0) ≡ None). absurd (both_ways false refl (sym (ap is_one (q.1 ∙ a)))))
            (λ (a : (x : Contribution) × IsIn x cs × (T.fault_after most ms held (q.0, value_at held q.0) ≡ fault_or_none v (target_fault s cs x.slots))). found q.0 q.1 a.0 a.1 a.2 (target_fault s cs a.0.slots) refl)
            (fault-at q.0)

  fault-in : (i : ℕ) → i < length held → IsIn (T.fault_after most ms held (i, value_at held i)) machine_faults
  fault-in i lt = subst (λ n. IsIn (T.fault_after most ms held (n, value_at held i)) machine_faults) (let e : 0 + i ≡ i = omega arith in e) (enumerated-in (T.fault_after most ms held) 0 held i lt)

  least-same : (o : Option Fault) → least (total_faults s cs) ≡ o → least_right machine_faults ≡ fault_or_none v o
  least-same None e = right-none machine_faults (λ m i. let q = machine-fault m i in least-none (total_faults s cs) e q.0 q.1)
  least-same (Some f) e =
      let l = least-is (total_faults s cs) f e in
      let q = somes-in (λ (x : Contribution). target_fault s cs x.slots) cs f l.is_in in
      let r = fault-of-target q.0 q.1 in
      right-is (fault_of v f) machine_faults (λ m i. over m (machine-fault m i) l)
      (subst (λ o. IsIn o machine_faults) (r.2 ∙ ap (fault_or_none v) q.2) (fault-in r.0 r.1)) where
        over : (m : M.Fault) → (x : Fault) × IsIn x (total_faults s cs) × (m ≡ fault_of v x) → IsLeast f (total_faults s cs) → lesser (Some (fault_of v f)) (Some m) ≡ Some (fault_of v f)
        over m q l =
            ap (λ z. lesser (Some (fault_of v f)) (Some z)) q.2
            ∙ lesser-lower v base spots places f q.0 (total-spot f l.is_in) (total-spot q.0 q.1)
            ∙ ap (λ z. Some (fault_of v z)) (l.lowest q.0 q.1)

  -- an index that none has
  other-is : (i : ℕ) → ((x : Contribution) → IsIn x cs → is_among i (map at x.slots) ≡ false) → value_at (settled most ms held).values i ≡ value_at held i
  other-is i none =
      ⊎_elim
      (λ (lt : i < length held).
      at-enumerated (T.value_after most ms held) (At None) 0 held i lt
      ∙ ap (λ n. T.value_after most ms held (n, value_at held i)) (let e : 0 + i ≡ i = omega arith in e)
      ∙ ap (T.value_or (value_at held i)) (missed (first i cs)))
      (λ (past : length held ≤ i).
      get_or_past (map (T.value_after most ms held) (enumerate_from 0 held)) i (At None) (subst (λ n. n ≤ i) (sym (enumerated-length (T.value_after most ms held) 0 held)) past)
      ∙ sym (get_or_past held i (At None) past))
      (cases_lt i (length held)) where
        missed : First i cs → slot_after most ms held i ≡ Ok (value_at held i)
        missed (first_none e) = slot-missed i e
        missed (first_some x j k e) = absurd (both_ways (is_among i (map at x.slots)) (none x j) k)

  pub settles-alike : SettlesAlike c v most s held here cs
  settles-alike = record {
    values = λ slot p.
        at-enumerated (T.value_after most ms held) (At None) 0 held (at slot) (h.within slot p)
        ∙ ap (λ n. T.value_after most ms held (n, value_at held (at slot))) (let e : 0 + at slot ≡ at slot = omega arith in e)
        ∙ value-is slot p;
    others = other-is;
    count = enumerated-length (T.value_after most ms held) 0 held;
    fault = least_from-right None machine_faults ∙ least-same (least (total_faults s cs)) refl;
  }

pub reductions-settle : ReductionsSettle
reductions-settle c v base places spots s held here cs e le h g = settles-alike c v base places spots s held here cs e le h g
