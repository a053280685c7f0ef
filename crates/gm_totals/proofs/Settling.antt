-- What the writes and the faults of all pots come to.
use Rattle.std.proofs.Common.{◌≡◌, ℕ, ◌+◌, ◌<◌, ◌≤◌, min, arith, drop, get_or, zero, suc, Bool, true, false, cond, List, [], ◌∷◌, ◌++◌, length, map, refl, sym, ap, subst, ◌∙◌, Option, Some, None, Result, Ok, Err, ⊎_elim, inl, inr}
use Rattle.std.proofs.Math.Path.{fun_ext}
use Rattle.std.proofs.lemmas.List.{length-map}
use Rattle.std.proofs.lemmas.List.Elements.{All-push}
use Rattle.std.specs.Prelude.{◌⊎◌, ◌||◌, All}
use Rattle.std.proofs.lemmas.Bool.{cases_Bool, cases_lt}
use Rattle.gm_value.specs.declared.values.Value.{Value}
use Rattle.gm_value.specs.declared.reductions.Reduce.{Reduce}
use Rattle.gm_value.specs.Bag.{IsIn}
use Rattle.gm_value.specs.Numbers.{type_of}
use Rattle.gm_value.specs.Taking.{of_rank, then_take, at_rank, taken_bag, taken}
use Rattle.gm_value.proofs.TupleLaws.{slots-typed}
use Rattle.gm_semantics.specs.declared.faults.Fault.{Fault}
use Rattle.gm_semantics.specs.declared.slots.Slot.{Slot}
use Rattle.gm_semantics.specs.declared.slots.Slot.TheVariants.{Scalar, Node}
use Rattle.gm_semantics.specs.declared.slots.Write.{Write}
use Rattle.gm_semantics.specs.Stores.{Store, slot_eq, slots_eq, has_slot, read, reads, write, overlaid}
use Rattle.gm_semantics.specs.Faults.{least, somes}
use Rattle.gm_semantics.specs.Contributions.{Contribution, statement_of, statement_bound, close_by, to_target, taken_onto, values_or, fault_in, value_among, value_after, target_taken, target_fault, settled_store, total_faults}
use Rattle.gm_store.specs.Held.{Held, Shape, HasSlot, held_at, store_of}
use Rattle.gm_totals.specs.Standing.{Sets}
use Rattle.gm_totals.proofs.Keys.{slot_eq-sym, slots_eq-itself, slots_eq-same}
use Rattle.gm_totals.proofs.Tuples.{drop-here, drop-past}
use Rattle.gm_totals.proofs.Leasts.{least-members, IsIn-somes, somes-IsIn, IsIn-map, map-IsIn}

-- what a slot holds after a write
read-write : (s : Store) (a b : Slot) (v : Value) → read (write s a v) b ≡ cond (slot_eq a b) v (read s b)
read-write s (Scalar x) (Scalar y) v = refl
read-write s (Scalar x) (Node p n) v = refl
read-write s (Node p n) (Scalar x) v = refl
read-write s (Node p n) (Node q m) v = refl

edge-write : (s : Store) (a : Slot) (v : Value) → (write s a v).edge ≡ s.edge
edge-write s (Scalar x) v = refl
edge-write s (Node p n) v = refl

pub edge-overlaid : (s : Store) (ws : List Write) → (overlaid s ws).edge ≡ s.edge
edge-overlaid s [] = refl
edge-overlaid s (w ∷ ws) = edge-overlaid (write s w.slot w.value) ws ∙ edge-write s w.slot w.value

overlaid-last : (s : Store) (ws : List Write) (w : Write) → overlaid s (ws ++ w ∷ []) ≡ write (overlaid s ws) w.slot w.value
overlaid-last s [] w = refl
overlaid-last s (x ∷ ws) w = overlaid-last (write s x.slot x.value) ws w

-- one more slot is written before others
pub sets-more : (slot : Slot) (v : Value) (slots : List Slot) (values : List Value) (old new : List Write) → Sets slots values old new
    → Sets (slot ∷ slots) (v ∷ values) old (new ++ record { slot = slot; value = v } ∷ [])
sets-more slot v slots values old new sets s x =
    ap (λ t. read t x) (overlaid-last s new (record { slot = slot; value = v })) ∙ read-write (overlaid s new) slot x v
    ∙ ap (λ b. cond b v (read (overlaid s new) x)) (slot_eq-sym slot x) ∙ ap (cond (slot_eq x slot) v) (sets s x)

-- nothing is written
pub sets-none : (slots : List Slot) (values : List Value) (ws : List Write) → (slots ≡ []) ⊎ (values ≡ []) → Sets slots values ws ws
sets-none [] values ws none s x = refl
sets-none (slot ∷ slots) [] ws none s x = refl
sets-none (slot ∷ slots) (v ∷ values) ws none s x = absurd (⊎_elim (λ (e : slot ∷ slots ≡ []). no_slots e) (λ (e : v ∷ values ≡ []). no_values e) none)
  where
    no_slots : slot ∷ slots ≡ [] → ⊥
    no_slots e = cc

    no_values : v ∷ values ≡ [] → ⊥
    no_values e = cc

pub sets-one : (slot : Slot) (v : Value) (ws : List Write) → Sets (slot ∷ []) (v ∷ []) ws (ws ++ record { slot = slot; value = v } ∷ [])
sets-one slot v ws = sets-more slot v [] [] ws ws (sets-none [] [] ws (inl refl))

-- stores that hold the same are one
pub store-same : (s t : Store) → ((slot : Slot) → read s slot ≡ read t slot) → s.edge ≡ t.edge → s ≡ t
store-same s t same edges =
    ap (λ (f : ℕ → Value). let u : Store = record { scalar = f; node = s.node; edge = s.edge } in u) (fun_ext (λ x. same (Scalar x)))
    ∙ ap (λ (f : ℕ → ℕ → Value). let u : Store = record { scalar = t.scalar; node = f; edge = s.edge } in u) (fun_ext (λ p. fun_ext (λ n. same (Node p n))))
    ∙ ap (λ (f : ℕ → ℕ → Value). let u : Store = record { scalar = t.scalar; node = t.node; edge = f } in u) edges

pub read-settled : (s : Store) (cs : List Contribution) (slot : Slot) → read (settled_store s cs) slot ≡ value_after s cs slot
read-settled s cs (Scalar x) = refl
read-settled s cs (Node p n) = refl

-- as many values are taken onto slots as they held
OfLength : ℕ → Result (List Value) ℕ → Type 0
OfLength n (Ok vs) = length vs ≡ n
OfLength n (Err s) = Unit {0}

at-length : (r : Reduce) (n s : ℕ) (v : List Value) (bag : List Contribution) → length v ≡ n → (o : Option (List Value)) → close_by r v bag ≡ o → OfLength n (at_rank s o)
unfolding OfLength
at-length r n s v bag same None e = tt
at-length r n s v bag same (Some after) e =
    sym (length-map after type_of) ∙ ap length (slots-typed r v (map (λ (c : Contribution). c.values) bag) after e) ∙ length-map v type_of ∙ same

bag-length : (r : Reduce) (n s : ℕ) (v : List Value) (bag : List Contribution) → length v ≡ n → OfLength n (taken_bag (close_by r) s v bag)
unfolding OfLength
bag-length r n s v [] same = same
bag-length r n s v (c ∷ bag) same = at-length r n s v (c ∷ bag) same (close_by r v (c ∷ bag)) refl

then-length : (r : Reduce) (n s : ℕ) (bag : List Contribution) (before : Result (List Value) ℕ) → OfLength n before → OfLength n (then_take before (λ v. taken_bag (close_by r) s v bag))
unfolding OfLength
then-length r n s bag (Ok v) same = bag-length r n s v bag same
then-length r n s bag (Err t) same = tt

taken-length : (r : Reduce) (bound : ℕ) (held : List Value) (cs : List Contribution) → OfLength (length held) (taken statement_of (close_by r) bound held cs)
unfolding OfLength
taken-length r zero held cs = refl
taken-length r (suc s) held cs = then-length r (length held) s (of_rank statement_of s cs) (taken statement_of (close_by r) s held cs) (taken-length r s held cs)

onto-length : (held : List Value) (cs : List Contribution) → OfLength (length held) (taken_onto held cs)
unfolding OfLength
onto-length held [] = refl
onto-length held (c ∷ cs) = taken-length c.reduce (statement_bound (c ∷ cs)) held (c ∷ cs)

or-length : (held : List Value) (answer : Result (List Value) ℕ) → OfLength (length held) answer → length (values_or held answer) ≡ length held
unfolding OfLength
or-length held (Ok vs) same = same
or-length held (Err s) same = refl

pub values-length : (s : Store) (cs : List Contribution) (slots : List Slot) → length slots ≡ length (values_or (reads s slots) (target_taken s cs slots))
values-length s cs slots =
    sym (or-length (reads s slots) (target_taken s cs slots) (onto-length (reads s slots) (to_target slots cs)) ∙ length-map slots (read s))

-- a slot among others has one of their values, whatever it held
pub among-has : (slot : Slot) (slots : List Slot) (values : List Value) (a b : Value) → length slots ≡ length values
    → value_among slot slots values a ≡ cond (has_slot slot slots) (value_among slot slots values b) a
among-has slot [] values a b same = refl
among-has slot (x ∷ slots) [] a b same = absurd (empty same)
  where
    empty : suc (length slots) ≡ zero → ⊥
    empty e = cc
among-has slot (x ∷ slots) (v ∷ values) a b same = by (slot_eq slot x) (among-has slot slots values a b (less (length slots) (length values) same))
  where
    less : (m n : ℕ) → suc m ≡ suc n → m ≡ n
    less m n e = cc

    by : (p : Bool) → value_among slot slots values a ≡ cond (has_slot slot slots) (value_among slot slots values b) a
        → cond p v (value_among slot slots values a) ≡ cond (p || has_slot slot slots) (cond p v (value_among slot slots values b)) a
    by true rest = refl
    by false rest = rest

-- targets among which each one is that has contributions
abbrev pub HasAll : List Contribution → List (List Slot) → Type 0
HasAll cs ks = (slots : List Slot) → IsIn slots ks ⊎ (to_target slots cs ≡ [])

-- a contribution to a target is one of all
to_target-in : (slots : List Slot) (cs : List Contribution) → (to_target slots cs ≡ []) ⊎ ((c : Contribution) × (IsIn c cs × (slots ≡ c.slots)))
to_target-in slots [] = inl refl
to_target-in slots (c ∷ cs) =
    ⊎_elim
    (λ (same : slots_eq slots c.slots ≡ true). inr (c, (inl refl, slots_eq-same slots c.slots same)))
    (λ (other : slots_eq slots c.slots ≡ false).
    ⊎_elim
    (λ (none : to_target slots cs ≡ []). inl (ap (λ b. cond b (c ∷ to_target slots cs) (to_target slots cs)) other ∙ none))
    (λ (some : (d : Contribution) × (IsIn d cs × (slots ≡ d.slots))). inr (some.0, (inr some.1.0, some.1.1)))
    (to_target-in slots cs))
    (cases_Bool (slots_eq slots c.slots))

pub own-some : (c : Contribution) (cs : List Contribution) → IsIn c cs → to_target c.slots cs ≡ [] → ⊥
own-some c [] h none = absurd h
own-some c (d ∷ cs) h none =
    ⊎_elim
    (λ (e : c ≡ d). apart (sym (ap (λ b. cond b (d ∷ to_target c.slots cs) (to_target c.slots cs)) (subst (λ (x : Contribution). slots_eq c.slots x.slots ≡ true) e (slots_eq-itself c.slots))) ∙ none))
    (λ (rest : IsIn c cs).
    ⊎_elim
    (λ (same : slots_eq c.slots d.slots ≡ true). apart (sym (ap (λ b. cond b (d ∷ to_target c.slots cs) (to_target c.slots cs)) same) ∙ none))
    (λ (other : slots_eq c.slots d.slots ≡ false). own-some c cs rest (sym (ap (λ b. cond b (d ∷ to_target c.slots cs) (to_target c.slots cs)) other) ∙ none))
    (cases_Bool (slots_eq c.slots d.slots)))
    h
  where
    apart : {xs : List Contribution} → d ∷ xs ≡ [] → ⊥
    apart e = cc

no_fault : (f : Fault) → Some f ≡ None → ⊥
no_fault f e = cc

-- the least fault of the targets that have contributions is that of all totals
pub faults-settle : (s : Store) (cs : List Contribution) (ks : List (List Slot)) → HasAll cs ks → least (somes (map (target_fault s cs) ks)) ≡ least (total_faults s cs)
faults-settle s cs ks all = least-members (somes (map (target_fault s cs) ks)) (total_faults s cs) there back
  where
    there : (f : Fault) → IsIn f (somes (map (target_fault s cs) ks)) → IsIn f (total_faults s cs)
    there f h =
        let at = map-IsIn (target_fault s cs) (Some f) ks (somes-IsIn f (map (target_fault s cs) ks) h) in
        let k = at.0 in
        let is : Some f ≡ target_fault s cs k = at.1.1 in
        ⊎_elim
        (λ (none : to_target k cs ≡ []). absurd (no_fault f (is ∙ ap (λ l. fault_in l (taken_onto (reads s k) l)) none)))
        (λ (some : (c : Contribution) × (IsIn c cs × (k ≡ c.slots))).
        let e : Some f ≡ target_fault s cs some.0.slots = is ∙ ap (target_fault s cs) some.1.1 in
        IsIn-somes f (map (λ (c : Contribution). target_fault s cs c.slots) cs)
        (subst (λ o. IsIn o (map (λ (c : Contribution). target_fault s cs c.slots) cs)) (sym e) (IsIn-map (λ (c : Contribution). target_fault s cs c.slots) some.0 cs some.1.0)))
        (to_target-in k cs)

    back : (f : Fault) → IsIn f (total_faults s cs) → IsIn f (somes (map (target_fault s cs) ks))
    back f h =
        let at = map-IsIn (λ (c : Contribution). target_fault s cs c.slots) (Some f) cs (somes-IsIn f (map (λ (c : Contribution). target_fault s cs c.slots) cs) h) in
        let c = at.0 in
        let is : Some f ≡ target_fault s cs c.slots = at.1.1 in
        ⊎_elim
        (λ (k_in : IsIn c.slots ks). IsIn-somes f (map (target_fault s cs) ks) (subst (λ o. IsIn o (map (target_fault s cs) ks)) (sym is) (IsIn-map (target_fault s cs) c.slots ks k_in)))
        (λ (none : to_target c.slots cs ≡ []). absurd (own-some c cs at.1.0 none))
        (all c.slots)

-- the slots from a number on are written
pub record Written (slots : List Slot) (values : List Value) (k : ℕ) (old new : List Write) : Type 0 where
  pub short : k ≤ length slots
  pub fewer : k ≤ length values
  pub sets : Sets (drop k slots) (drop k values) old new
  pub within : (shape : Shape) → All (HasSlot shape) slots → All (λ w. HasSlot shape w.slot) old → All (λ w. HasSlot shape w.slot) new

pub written-none : (slots : List Slot) (values : List Value) (k : ℕ) (ws : List Write) → k ≡ min (length slots) (length values) → Written slots values k ws ws
written-none slots values k ws is =
    let short : k ≤ length slots = omega (arith, is) in
    let fewer : k ≤ length values = omega (arith, is) in
    record {
      short = short;
      fewer = fewer;
      sets = sets-none (drop k slots) (drop k values) ws
          (⊎_elim
          (λ (less : k < length slots). let past : length values ≤ k = omega (arith, is, less) in inr (drop-past values k past))
          (λ (past : length slots ≤ k). inl (drop-past slots k past))
          (cases_lt k (length slots)));
      within = λ shape known has. has;
    }

pub written-more : (slots : List Slot) (values : List Value) (k : ℕ) (old new : List Write) (slot : Slot) (v : Value) (d : Slot) (e : Value) → Written slots values (k + 1) old new
    → slot ≡ get_or slots k d → v ≡ get_or values k e → Written slots values k old (new ++ record { slot = slot; value = v } ∷ [])
written-more slots values k old new slot v d e were is_slot is_value =
    let short : k < length slots = omega (arith, were.short) in
    let fewer : k < length values = omega (arith, were.fewer) in
    let w : Write = record { slot = slot; value = v } in
    let step : Sets (slot ∷ drop (k + 1) slots) (v ∷ drop (k + 1) values) old (new ++ w ∷ []) = sets-more slot v (drop (k + 1) slots) (drop (k + 1) values) old new were.sets in
    record {
      short = omega (arith, short);
      fewer = omega (arith, fewer);
      sets = subst (λ xs. Sets xs (drop k values) old (new ++ w ∷ [])) (sym (drop-here slots k d short ∙ ap (λ x. x ∷ drop (k + 1) slots) (sym is_slot)))
          (subst (λ vs. Sets (slot ∷ drop (k + 1) slots) vs old (new ++ w ∷ [])) (sym (drop-here values k e fewer ∙ ap (λ x. x ∷ drop (k + 1) values) (sym is_value))) step);
      within = λ shape known has.
          let at_k : HasSlot shape (get_or slots k d) = known k d short in
          All-push (λ (x : Write). HasSlot shape x.slot) new w (were.within shape known has) (subst (HasSlot shape) (sym is_slot) at_k);
    }

-- what slots hold in the store of the source meaning
pub reads-held : (edge : ℕ → ℕ → Value) (h : Held) (slots : List Slot) → reads (store_of edge h) slots ≡ map (held_at h) slots
reads-held edge h [] = refl
reads-held edge h (Scalar x ∷ slots) = ap (λ l. held_at h (Scalar x) ∷ l) (reads-held edge h slots)
reads-held edge h (Node p n ∷ slots) = ap (λ l. held_at h (Node p n) ∷ l) (reads-held edge h slots)
