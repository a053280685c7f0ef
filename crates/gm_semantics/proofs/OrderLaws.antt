-- Loops do not depend on the order of their iterations.
use Rattle.std.proofs.Common.{◌≡◌, ℕ, Bool, true, false, cond, List, [], ◌∷◌, ◌++◌, map, refl, sym, ap, subst, ◌∙◌, arith, Ok, ⊎_elim, inl, inr}
use Rattle.std.proofs.Math.Path.{fun_ext}
use Rattle.std.specs.Prelude.{nat_eq, if◌then◌else◌}
use Rattle.std.proofs.lemmas.Bool.{cases_Bool, eqb-true}
use Rattle.std.proofs.lemmas.Bool.Decides.{nat_tests}
use Rattle.gm_value.specs.declared.values.Value.{Value}
use Rattle.gm_value.specs.Bag.{IsIn, SameBag, same_nil, same_cons, same_swap, same_trans}
use Rattle.gm_value.proofs.BagLaws.{SameBag-map, SameBag-sym, SameBag-refl, SameBag-append_left, SameBag-middle}
use Rattle.gm_semantics.specs.declared.faults.Fault.{Fault}
use Rattle.gm_semantics.specs.declared.slots.Slot.{Slot}
use Rattle.gm_semantics.specs.declared.slots.Slot.TheVariants.{Scalar, Node}
use Rattle.gm_semantics.specs.declared.slots.Write.{Write}
use Rattle.gm_semantics.specs.Stores.{Store, slot_eq, read, write, overlaid}
use Rattle.gm_semantics.specs.Faults.{least, somes, joined, unless_fault}
use Rattle.gm_semantics.specs.Contributions.{settled_store, total_faults}
use Rattle.gm_semantics.specs.Iterations.{Iteration, inner_done}
use Rattle.gm_semantics.specs.Loops.{left_at, own_left, loop_done}
use Rattle.gm_semantics.specs.Laws.{OneReduction, IsAt, DefersAtHome, SameIteration}
use Rattle.gm_semantics.proofs.Leasts.{lesser_of, least-append}
use Rattle.gm_semantics.proofs.LeastLaws.{least-same}
use Rattle.gm_semantics.proofs.ContributionLaws.{IsIn-same, slot_eq-true, somes-same, settled_store-same, total_faults-same}

-- lists put together in another order
exchanged : {A : Type 0} (xs ys zs : List A) → SameBag (xs ++ (ys ++ zs)) (ys ++ (xs ++ zs))
exchanged [] ys zs = SameBag-refl (ys ++ zs)
exchanged (x ∷ xs) ys zs = same_trans (same_cons x (exchanged xs ys zs)) (SameBag-sym (SameBag-middle ys x (xs ++ zs)))

-- lists joined in another order
pub joined-same : {A B : Type 0} (g : A → List B) {xs ys : List A} → SameBag xs ys → SameBag (joined (map g xs)) (joined (map g ys))
joined-same g same_nil = same_nil
joined-same g (same_cons x s) = SameBag-append_left (g x) (joined-same g s)
joined-same g (same_swap x y xs) = exchanged (g x) (g y) (joined (map g xs))
joined-same g (same_trans s t) = same_trans (joined-same g s) (joined-same g t)

-- the least fault of parts whose least faults are the same
least-parts : (xs ys us vs : List Fault) → least xs ≡ least us → least ys ≡ least vs → least (xs ++ ys) ≡ least (us ++ vs)
least-parts xs ys us vs p q = least-append xs ys ∙ ap (λ o. lesser_of o (least ys)) p ∙ ap (lesser_of (least us)) q ∙ sym (least-append us vs)

module _ (f : ℕ → Iteration) (s : Store) (p n : ℕ) where
  chosen_twice : (k j : ℕ) (rest : Value) (b c : Bool) → nat_eq k n ≡ b → nat_eq j n ≡ c →
      cond b ((f k).store.node p n) (cond c ((f j).store.node p n) rest) ≡ cond c ((f j).store.node p n) (cond b ((f k).store.node p n) rest)
  chosen_twice k j rest true true h g = ap (λ i. (f i).store.node p n) (eqb-true k n h ∙ sym (eqb-true j n g))
  chosen_twice k j rest true false h g = refl
  chosen_twice k j rest false true h g = refl
  chosen_twice k j rest false false h g = refl

  -- what a node holds after its own iteration does not depend on the order
  left_at-same : {ks js : List ℕ} → SameBag ks js → left_at ks (map f ks) s p n ≡ left_at js (map f js) s p n
  left_at-same same_nil = refl
  left_at-same (same_cons k same) = ap (λ v. if nat_eq k n then (f k).store.node p n else v) (left_at-same same)
  left_at-same (same_swap k j ks) = chosen_twice k j (left_at ks (map f ks) s p n) (nat_eq k n) (nat_eq j n) refl refl
  left_at-same (same_trans a b) = left_at-same a ∙ left_at-same b

own_left-same : (f : ℕ → Iteration) (s : Store) {ks js : List ℕ} → SameBag ks js → own_left s ks (map f ks) ≡ own_left s js (map f js)
own_left-same f s same = ap (λ node. record s { node = node }) (fun_ext (λ p. fun_ext (λ n. left_at-same f s p n same)))

-- the last value for a slot among writes, after a value that was there
abbrev pub last_to : Slot → List Write → Value → Value
last_to slot [] v = v
last_to slot (w ∷ ws) v = last_to slot ws (if slot_eq w.slot slot then w.value else v)

read-write : (s : Store) (at slot : Slot) (v : Value) → read (write s at v) slot ≡ (if slot_eq at slot then v else read s slot)
read-write s (Scalar x) (Scalar y) v = refl
read-write s (Scalar x) (Node p n) v = refl
read-write s (Node p n) (Scalar y) v = refl
read-write s (Node p n) (Node q m) v = refl

read-overlaid : (s : Store) (ws : List Write) (slot : Slot) → read (overlaid s ws) slot ≡ last_to slot ws (read s slot)
read-overlaid s [] slot = refl
read-overlaid s (w ∷ ws) slot = read-overlaid (write s w.slot w.value) ws slot ∙ ap (last_to slot ws) (read-write s w.slot slot w.value)

last_to-append : (slot : Slot) (ws vs : List Write) (v : Value) → last_to slot (ws ++ vs) v ≡ last_to slot vs (last_to slot ws v)
last_to-append slot [] vs v = refl
last_to-append slot (w ∷ ws) vs v = last_to-append slot ws vs (if slot_eq w.slot slot then w.value else v)

edge-write : (s : Store) (at : Slot) (v : Value) → (write s at v).edge ≡ s.edge
edge-write s (Scalar x) v = refl
edge-write s (Node p n) v = refl

edge-overlaid : (s : Store) (ws : List Write) → (overlaid s ws).edge ≡ s.edge
edge-overlaid s [] = refl
edge-overlaid s (w ∷ ws) = edge-overlaid (write s w.slot w.value) ws ∙ edge-write s w.slot w.value

-- stores that hold the same in each slot are one
store-same : (a b : Store) → ((slot : Slot) → read a slot ≡ read b slot) → a.edge ≡ b.edge → a ≡ b
store-same a b h e =
    ap (λ f. record a { scalar = f }) (fun_ext (λ x. h (Scalar x))) ∙ ap (λ f. record { scalar = b.scalar; node = f; edge = a.edge }) (fun_ext (λ p. fun_ext (λ n. h (Node p n))))
    ∙ ap (λ f. record b { edge = f }) e

-- writes at a node leave the slots of others as they are
away : (k : ℕ) (slot : Slot) (ws : List Write) → ((w : Write) → IsIn w ws → IsAt k w.slot) → (¬ IsAt k slot) → (v : Value) → last_to slot ws v ≡ v
away k slot [] home other v = refl
away k slot (w ∷ ws) home other v =
    ⊎_elim
    (λ (h : slot_eq w.slot slot ≡ true). absurd (other (subst (IsAt k) (slot_eq-true w.slot slot h) (home w (inl refl)))))
    (λ (h : slot_eq w.slot slot ≡ false).
    ap (λ b. last_to slot ws (cond b w.value v)) h ∙ away k slot ws (λ u i. home u (inr i)) other v)
    (cases_Bool (slot_eq w.slot slot))

different : (n k : ℕ) → nat_eq n k ≡ false → ¬ (n ≡ k)
different n k h e = grind (arith, nat_tests)

-- the deferred writes of each iteration are at its own node
module _ (f : ℕ → Iteration) where
  abbrev AtHome : ℕ → Type 0
  AtHome k = (w : Write) → IsIn w (f k).deferred → IsAt k w.slot

  first_away : (slot : Slot) (k j : ℕ) → AtHome k → (¬ IsAt k slot) → (v : Value) →
      last_to slot (f j).deferred (last_to slot (f k).deferred v) ≡ last_to slot (f k).deferred (last_to slot (f j).deferred v)
  first_away slot k j home other v =
      ap (last_to slot (f j).deferred) (away k slot (f k).deferred home other v) ∙ sym (away k slot (f k).deferred home other (last_to slot (f j).deferred v))

  exchanged_writes : (slot : Slot) (k j : ℕ) → AtHome k → AtHome j → (v : Value) →
      last_to slot (f j).deferred (last_to slot (f k).deferred v) ≡ last_to slot (f k).deferred (last_to slot (f j).deferred v)
  exchanged_writes (Scalar x) k j hk hj v = first_away (Scalar x) k j hk (λ e. e) v
  exchanged_writes (Node p n) k j hk hj v =
      ⊎_elim
      (λ (at_k : nat_eq n k ≡ true).
      ⊎_elim
      (λ (at_j : nat_eq n j ≡ true).
      ap (λ i. last_to (Node p n) (f j).deferred (last_to (Node p n) (f i).deferred v)) (sym (eqb-true n k at_k) ∙ eqb-true n j at_j)
      ∙ ap (λ i. last_to (Node p n) (f i).deferred (last_to (Node p n) (f j).deferred v)) (sym (eqb-true n j at_j) ∙ eqb-true n k at_k))
      (λ (off_j : nat_eq n j ≡ false). sym (first_away (Node p n) j k hj (different n j off_j) v))
      (cases_Bool (nat_eq n j)))
      (λ (off_k : nat_eq n k ≡ false). first_away (Node p n) k j hk (different n k off_k) v)
      (cases_Bool (nat_eq n k))

  abbrev writes_of : List ℕ → List Write
  writes_of ks = joined (map (λ it. it.deferred) (map f ks))

  -- the last deferred write to a slot does not depend on the order
  last-same : {ks js : List ℕ} → SameBag ks js → DefersAtHome f ks → (slot : Slot) (v : Value) → last_to slot (writes_of ks) v ≡ last_to slot (writes_of js) v
  last-same same_nil home slot v = refl
  last-same (same_cons k {xs = xs} {ys = ys} same) home slot v =
      last_to-append slot (f k).deferred (writes_of xs) v
      ∙ last-same same (λ j i. home j (inr i)) slot (last_to slot (f k).deferred v)
      ∙ sym (last_to-append slot (f k).deferred (writes_of ys) v)
  last-same (same_swap k j ks) home slot v =
      last_to-append slot (f k).deferred ((f j).deferred ++ writes_of ks) v
      ∙ last_to-append slot (f j).deferred (writes_of ks) (last_to slot (f k).deferred v)
      ∙ ap (last_to slot (writes_of ks)) (exchanged_writes slot k j (home k (inl refl)) (home j (inr (inl refl))) v)
      ∙ sym (last_to-append slot (f k).deferred (writes_of ks) (last_to slot (f j).deferred v))
      ∙ sym (last_to-append slot (f j).deferred ((f k).deferred ++ writes_of ks) v)
  last-same (same_trans a b) home slot v = last-same a home slot v ∙ last-same b (λ j i. home j (IsIn-same j (SameBag-sym a) i)) slot v

  overlaid-same : (s : Store) {ks js : List ℕ} → SameBag ks js → DefersAtHome f ks → overlaid s (writes_of ks) ≡ overlaid s (writes_of js)
  overlaid-same s {ks = ks} {js = js} same home =
      store-same (overlaid s (writes_of ks)) (overlaid s (writes_of js))
      (λ slot. read-overlaid s (writes_of ks) slot ∙ last-same same home slot (read s slot) ∙ sym (read-overlaid s (writes_of js) slot))
      (edge-overlaid s (writes_of ks) ∙ sym (edge-overlaid s (writes_of js)))

  -- a loop does not depend on the order of its iterations
  pub loop_done-same : (s : Store) (ks js : List ℕ) → SameBag ks js → OneReduction (joined (map (λ it. it.with_outermost) (map f ks))) → DefersAtHome f ks →
      loop_done s ks (map f ks) ≡ loop_done s js (map f js)
  loop_done-same s ks js same one home =
      let its = SameBag-map f same in
      let given = joined-same (λ (it : Iteration). it.with_outermost) its in
      let own = own_left-same f s same in
      let cs = joined (map (λ (it : Iteration). it.with_outermost) (map f ks)) in
      let ds = joined (map (λ (it : Iteration). it.with_outermost) (map f js)) in
      ap (λ (o : Store). unless_fault (least (somes (map (λ it. it.fault) (map f ks)) ++ total_faults o cs)) (Ok (overlaid (settled_store o cs) (writes_of ks)))) own
      ∙ ap (λ e. unless_fault e (Ok (overlaid (settled_store (own_left s js (map f js)) cs) (writes_of ks))))
      (least-parts (somes (map (λ it. it.fault) (map f ks))) (total_faults (own_left s js (map f js)) cs) (somes (map (λ it. it.fault) (map f js))) (total_faults (own_left s js (map f js)) ds)
      (least-same (somes-same (SameBag-map (λ (it : Iteration). it.fault) its))) (total_faults-same (own_left s js (map f js)) one given))
      ∙ ap (λ (o : Store). unless_fault (least (somes (map (λ it. it.fault) (map f js)) ++ total_faults (own_left s js (map f js)) ds)) (Ok (overlaid o (writes_of ks)))) (settled_store-same (own_left s js (map f js)) one given)
      ∙ ap (λ (o : Store). unless_fault (least (somes (map (λ it. it.fault) (map f js)) ++ total_faults (own_left s js (map f js)) ds)) (Ok o)) (overlaid-same (settled_store (own_left s js (map f js)) ds) same home)

-- an inner loop does not depend on the order of its edges
pub inner_done-same : (it : Iteration) (turns other : List Iteration) → SameBag turns other → OneReduction (joined (map (λ t. t.with_inner) turns)) → SameIteration (inner_done it turns) (inner_done it other)
inner_done-same it turns other same one =
    let ended = joined-same (λ (t : Iteration). t.with_inner) same in
    record {
      store = settled_store-same it.store one ended;
      with_inner = SameBag-refl it.with_inner;
      with_outermost = SameBag-append_left it.with_outermost (joined-same (λ (t : Iteration). t.with_outermost) same);
      deferred = refl;
      fault = least-parts (somes (map (λ t. t.fault) turns)) (total_faults it.store (joined (map (λ t. t.with_inner) turns))) (somes (map (λ t. t.fault) other)) (total_faults it.store (joined (map (λ t. t.with_inner) other)))
          (least-same (somes-same (SameBag-map (λ (t : Iteration). t.fault) same))) (total_faults-same it.store one ended);
    }
