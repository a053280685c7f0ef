-- A loop does not depend on when the reductions of its inner loops end.
use Rattle.std.proofs.Common.{◌≡◌, ◌≢◌, ℕ, Bool, true, false, cond, List, [], ◌∷◌, ◌++◌, map, filter, refl, sym, ap, subst, ◌∙◌, append_assoc, Option, Some, None, Ok, ⊎_elim, inl, inr}
use Rattle.std.specs.Prelude.{◌⊎◌, ◌||◌, ◌&&◌, nat_eq, not}
use Rattle.std.specs.List.{list_any}
use Rattle.std.proofs.lemmas.Bool.{cases_Bool, both_ways, eqb-true, eq-eqb}
use Rattle.gm_value.specs.Bag.{IsIn, SameBag}
use Rattle.gm_value.proofs.BagLaws.{SameBag-sym}
use Rattle.gm_semantics.specs.declared.faults.Fault.{Fault}
use Rattle.gm_semantics.specs.declared.slots.Slot.{Slot}
use Rattle.gm_semantics.specs.declared.slots.Slot.TheVariants.{Scalar, Node}
use Rattle.gm_semantics.specs.Stores.{Store, slots_eq, has_slot, read, reads, overlaid}
use Rattle.gm_semantics.specs.Faults.{least, somes, joined, unless_fault}
use Rattle.gm_semantics.specs.Levels.{numbers_from}
use Rattle.gm_semantics.specs.Contributions.{Contribution, to_target, target_of, taken_onto, fault_in, value_after, target_fault, settled_store, total_faults}
use Rattle.gm_semantics.specs.Iterations.{Iteration}
use Rattle.gm_semantics.specs.Laws.{OneReduction, Away, IsAt}
use Rattle.gm_semantics.specs.Loops.{left_at, own_left, loop_done}
use Rattle.gm_semantics.proofs.LeastLaws.{least-same}
use Rattle.gm_semantics.proofs.Leasts.{lesser_of, least-append}
use Rattle.gm_semantics.proofs.ContributionLaws.{IsIn-same, IsIn-filter, slots_eq-true, settled_store-same, total_faults-same}
use Rattle.gm_semantics.proofs.TargetLaws.{Reaches, reaches?, never, value-away, read-settled, reads-same}
use Rattle.gm_forms.proofs.Cuts.{left_at-in, placed}
use Rattle.gm_forms.proofs.Doings.{in-left, in-right, in-either}
use Rattle.gm_loop_laws.proofs.Joins.{map-append, map-compose, map-each, filter-joined, joined-none, joined-one, joined-two, parted}
use Rattle.gm_loop_laws.proofs.Settling.{target-of, target-alone, value-store, value-one, away-joined, store-same, somes-append, settled-both, totals-both}

-- a member of lists that are joined
pub in-joined : {A : Type 0} (x : A) (H : ℕ → List A) (ks : List ℕ) → IsIn x (joined (map H ks)) → (k : ℕ) × IsIn k ks × IsIn x (H k)
in-joined x H [] i = absurd i
in-joined {A} x H (k ∷ ks) i =
    ⊎_elim
    (λ (j : IsIn x (H k)). let r : (z : ℕ) × IsIn z (k ∷ ks) × IsIn x (H z) = (k, inl refl, j) in r)
    (λ j. let r = in-joined x H ks j in (r.0, inr r.1, r.2))
    (in-either x (H k) (joined (map H ks)) i)

pub joined-in : {A : Type 0} (x : A) (H : ℕ → List A) (ks : List ℕ) (k : ℕ) → IsIn k ks → IsIn x (H k) → IsIn x (joined (map H ks))
joined-in x H [] k i j = absurd i
joined-in x H (z ∷ ks) k i j =
    ⊎_elim
    (λ (e : k ≡ z). in-left x (H z) (joined (map H ks)) (subst (λ y. IsIn x (H y)) e j))
    (λ r. in-right x (H z) (joined (map H ks)) (joined-in x H ks k r j)) i

-- a number is in a list, or is not
pub listed? : (k : ℕ) (ks : List ℕ) → IsIn k ks ⊎ (IsIn k ks → ⊥)
listed? k [] = inr (λ i. i)
listed? k (z ∷ ks) =
    ⊎_elim
    (λ (e : nat_eq k z ≡ true). inl (inl (eqb-true k z e)))
    (λ (e : nat_eq k z ≡ false).
    ⊎_elim (λ (i : IsIn k ks). inl (inr i)) (λ (off : IsIn k ks → ⊥). inr (λ i. ⊎_elim (λ (s : k ≡ z). both_ways (nat_eq k z) e (eq-eqb k z s)) (λ j. off j) i)) (listed? k ks))
    (cases_Bool (nat_eq k z))

least-some : (o : Option Fault) (os : List (Option Fault)) → least (somes (o ∷ os)) ≡ lesser_of o (least (somes os))
least-some None os = refl
least-some (Some f) os = refl

-- the least of leasts
pub least-leasts : (f : ℕ → Option Fault) (H : ℕ → List Fault) (ks : List ℕ) → ((k : ℕ) → IsIn k ks → f k ≡ least (H k)) → least (somes (map f ks)) ≡ least (joined (map H ks))
least-leasts f H [] h = refl
least-leasts f H (k ∷ ks) h =
    least-some (f k) (map f ks) ∙ ap (λ o. lesser_of o (least (somes (map f ks)))) (h k (inl refl))
    ∙ ap (lesser_of (least (H k))) (least-leasts f H ks (λ z i. h z (inr i))) ∙ sym (least-append (H k) (joined (map H ks)))

-- faults of totals, list by list
somes-joined : (F : Contribution → Option Fault) (H : ℕ → List Contribution) (ks : List ℕ) → somes (map F (joined (map H ks))) ≡ joined (map (λ k. somes (map F (H k))) ks)
somes-joined F H [] = refl
somes-joined F H (k ∷ ks) = ap somes (map-append F (H k) (joined (map H ks))) ∙ somes-append (map F (H k)) (map F (joined (map H ks))) ∙ ap (λ l. somes (map F (H k)) ++ l) (somes-joined F H ks)

-- slots of a node, of which there is one
pub record IsOwn (k : ℕ) (slots : List Slot) : Type 0 where
  pub first : Slot
  pub has : has_slot first slots ≡ true
  pub all : (slot : Slot) → has_slot slot slots ≡ true → IsAt k slot

-- What all iterations give (G) and how they fault (F), where they begin; late: the slots to which what is given ends with the outermost loop
module _ (s : Store) (count : ℕ) (late : Slot → Bool) (start : ℕ → Store) (G : ℕ → List Contribution) (F : ℕ → List Fault) where
  abbrev ks : List ℕ
  ks = numbers_from 0 count

  -- what ends with the outermost loop, and with the inner one
  abbrev pub is_outer : Contribution → Bool
  is_outer c = list_any late c.slots

  abbrev pub is_inner : Contribution → Bool
  is_inner c = not (is_outer c)

  abbrev pub all : List Contribution
  all = joined (map G ks)

  abbrev inners : List Contribution
  inners = filter is_inner all

  abbrev outers : List Contribution
  outers = filter is_outer all

  abbrev pub inner_at : ℕ → List Contribution
  inner_at k = filter is_inner (G k)

  abbrev pub outer_at : ℕ → List Contribution
  outer_at k = filter is_outer (G k)

  -- what is known of what they give: what ends with the inner loop goes to the iteration's own node, and what goes to one slot is of one target
  pub record Given : Type 0 where
    pub owns : (k : ℕ) (c : Contribution) → IsIn c (G k) → is_outer c ≡ false → IsOwn k c.slots
    pub one : OneReduction all
    pub begins : (k : ℕ) → (start k).node ≡ s.node

  -- iterations that give that
  pub record Turns (its : ℕ → Iteration) : Type 0 where
    pub node : (k : ℕ) → IsIn k ks → (p : ℕ) → (its k).store.node p k ≡ value_after (start k) (inner_at k) (Node p k)
    pub outermost : (k : ℕ) → IsIn k ks → (its k).with_outermost ≡ outer_at k
    pub deferred : (k : ℕ) → IsIn k ks → (its k).deferred ≡ []
    pub fault : (k : ℕ) → IsIn k ks → (its k).fault ≡ least (F k ++ total_faults (start k) (inner_at k))

  module _ (given : Given) where
    flip-not : (b : Bool) → not b ≡ true → b ≡ false
    flip-not true h = absurd (both_ways false refl h)
    flip-not false h = refl

    inner-in : (c : Contribution) → IsIn c inners → IsIn c all × (is_outer c ≡ false)
    inner-in c i = let r = IsIn-filter is_inner c all i in (r.0, flip-not (is_outer c) r.1)

    inner-at : (k : ℕ) (c : Contribution) → IsIn c (inner_at k) → IsOwn k c.slots
    inner-at k c i = let r = IsIn-filter is_inner c (G k) i in given.owns k c r.0 (flip-not (is_outer c) r.1)

    others : (c d : Contribution) → IsIn c inners → IsIn d outers → c.slots ≢ d.slots
    others c d i j e = both_ways (is_outer c) (inner-in c i).1 (ap (list_any late) e ∙ (IsIn-filter is_outer d all j).1)

    apart : (c d : Contribution) (slot : Slot) → IsIn c inners → IsIn d outers → has_slot slot c.slots ≡ true → has_slot slot d.slots ≡ true → ⊥
    apart c d slot i j h k = others c d i j (given.one c d slot (inner-in c i).0 (IsIn-filter is_outer d all j).0 h k).1

    parts : SameBag all (inners ++ outers)
    parts = parted is_outer all

    one-parts : OneReduction (inners ++ outers)
    one-parts c d slot i j = given.one c d slot (IsIn-same c (SameBag-sym parts) i) (IsIn-same d (SameBag-sym parts) j)

    inners-at : inners ≡ joined (map inner_at ks)
    inners-at = filter-joined is_inner (map G ks) ∙ ap joined (map-compose (filter is_inner) G ks)

    outers-at : outers ≡ joined (map outer_at ks)
    outers-at = filter-joined is_outer (map G ks) ∙ ap joined (map-compose (filter is_outer) G ks)

    -- what an iteration gives to its own node reaches no other
    off-node : (p k z : ℕ) → z ≢ k → Away (Node p k) (inner_at z)
    off-node p k z ne c i = ⊎_elim (λ (h : has_slot (Node p k) c.slots ≡ true). absurd (ne (sym ((inner-at z c i).all (Node p k) h)))) (λ e. e) (cases_Bool (has_slot (Node p k) c.slots))

    off-scalar : (y z : ℕ) → Away (Scalar y) (inner_at z)
    off-scalar y z c i = ⊎_elim (λ (h : has_slot (Scalar y) c.slots ≡ true). absurd ((inner-at z c i).all (Scalar y) h)) (λ e. e) (cases_Bool (has_slot (Scalar y) c.slots))

    same-nodes : (k : ℕ) (slot : Slot) → IsAt k slot → read (start k) slot ≡ read s slot
    same-nodes k (Scalar y) h = absurd h
    same-nodes k (Node p n) h = ap (λ f. f p n) (given.begins k)

    own-value : (p k : ℕ) → IsIn k ks → value_after (start k) (inner_at k) (Node p k) ≡ value_after s inners (Node p k)
    own-value p k i =
        value-store (start k) s (Node p k) (inner_at k) (λ x h. same-nodes k x (at-home x h (reaches? (Node p k) (inner_at k))))
        ∙ sym (ap (λ l. value_after s l (Node p k)) inners-at ∙ value-one s (Node p k) inner_at k 0 count i (off-node p k))
      where
        at-home : (x : Slot) → has_slot x (target_of (Node p k) (inner_at k)) ≡ true → Away (Node p k) (inner_at k) ⊎ Reaches (Node p k) (inner_at k) → IsAt k x
        at-home x h (inl none) = here x (sym (ap (has_slot x) (target-alone (Node p k) (inner_at k) none)) ∙ h)
          where
            here : (x : Slot) → has_slot x (Node p k ∷ []) ≡ true → IsAt k x
            here (Scalar y) h = never h refl
            here (Node q n) h = by (nat_eq q p) (nat_eq n k) refl h
              where
                by : (b c : Bool) → nat_eq n k ≡ c → (b && c) || false ≡ true → n ≡ k
                by true true e h = eqb-true n k e
                by true false e h = never h refl
                by false c e h = never h refl
        at-home x h (inr r) = let f = target-of (Node p k) (inner_at k) r in (inner-at k f.0 f.1).all x (sym (ap (has_slot x) f.2) ∙ h)

    module _ (its : ℕ → Iteration) (turns : Turns its) where
      abbrev own : Store
      own = own_left s ks (map its ks)

      abbrev between : Store
      between = settled_store s inners

      own-at : (slot : Slot) → read own slot ≡ value_after s inners slot
      own-at (Scalar y) = sym (value-away s (Scalar y) inners (λ c i. away-joined (Scalar y) inner_at ks (λ z j. off-scalar y z) c (subst (IsIn c) inners-at i)))
      own-at (Node p k) =
          ⊎_elim
          (λ (i : IsIn k ks). left_at-in its s p k ks i ∙ turns.node k i p ∙ own-value p k i)
          (λ (off : IsIn k ks → ⊥).
          ⊎_elim (λ (i : IsIn k ks). absurd (off i)) (λ (out : (f : ℕ → Iteration) (t : Store) (q : ℕ) → left_at ks (map f ks) t q k ≡ t.node q k). out its s p) (placed k ks)
          ∙ sym (value-away s (Node p k) inners (λ c i. away-joined (Node p k) inner_at ks (λ z j. off-node p k z (λ e. off (subst (λ y. IsIn y ks) e j))) c (subst (IsIn c) inners-at i))))
          (listed? k ks)

      -- the own writes of all iterations are what the reductions to them leave
      own-is : own ≡ between
      own-is = store-same own between (λ slot. own-at slot ∙ sym (read-settled s inners slot)) refl

      contributions : joined (map (λ t. t.with_outermost) (map its ks)) ≡ outers
      contributions = ap joined (map-compose (λ t. t.with_outermost) its ks ∙ map-each (λ k. (its k).with_outermost) outer_at ks turns.outermost) ∙ sym outers-at

      nothing : joined (map (λ t. t.deferred) (map its ks)) ≡ []
      nothing = ap joined (map-compose (λ t. t.deferred) its ks) ∙ joined-none (λ k. (its k).deferred) ks turns.deferred

      abbrev totals_at : ℕ → List Fault
      totals_at k = total_faults (start k) (inner_at k)

      target-own : (k : ℕ) → IsIn k ks → (c : Contribution) → IsIn c (inner_at k) → target_fault s inners c.slots ≡ target_fault (start k) (inner_at k) c.slots
      target-own k i c j =
          let o = inner-at k c j in
          let none : (z : ℕ) → z ≢ k → to_target c.slots (inner_at z) ≡ [] =
          λ z ne. none-to z ne (inner_at z) (λ d m. m) in
          ap (λ l. fault_in l (taken_onto (reads s c.slots) l))
          (ap (to_target c.slots) inners-at ∙ filter-joined (λ d. slots_eq c.slots d.slots) (map inner_at ks) ∙ ap joined (map-compose (to_target c.slots) inner_at ks) ∙ joined-one (λ z. to_target c.slots (inner_at z)) k 0 count i none)
          ∙ ap (λ vs. fault_in (to_target c.slots (inner_at k)) (taken_onto vs (to_target c.slots (inner_at k)))) (reads-same s (start k) c.slots (λ x h. sym (same-nodes k x (o.all x h))))
        where
          two-nodes : (slot : Slot) (a b : ℕ) → IsAt a slot → IsAt b slot → a ≡ b
          two-nodes (Scalar y) a b h k = absurd h
          two-nodes (Node p n) a b h k = sym h ∙ k

          none-to : (z : ℕ) → z ≢ k → (xs : List Contribution) → ((d : Contribution) → IsIn d xs → IsIn d (inner_at z)) → to_target c.slots xs ≡ []
          none-to z ne [] h = refl
          none-to z ne (d ∷ xs) h = by (slots_eq c.slots d.slots) refl (none-to z ne xs (λ e m. h e (inr m)))
            where
              by : (b : Bool) → slots_eq c.slots d.slots ≡ b → to_target c.slots xs ≡ [] → cond b (d ∷ to_target c.slots xs) (to_target c.slots xs) ≡ []
              by true e rest =
                  let same = slots_eq-true c.slots d.slots e in
                  let o = inner-at k c j in
                  let q = inner-at z d (h d (inl refl)) in
                  absurd (ne (two-nodes o.first z k (q.all o.first (sym (ap (has_slot o.first) same) ∙ o.has)) (o.all o.first o.has)))
              by false e rest = rest

      totals-own : total_faults s inners ≡ joined (map totals_at ks)
      totals-own =
          ap (λ l. somes (map (λ (c : Contribution). target_fault s inners c.slots) l)) inners-at
          ∙ somes-joined (λ (c : Contribution). target_fault s inners c.slots) inner_at ks
          ∙ ap joined (map-each (λ k. somes (map (λ (c : Contribution). target_fault s inners c.slots) (inner_at k))) totals_at ks
          (λ k i. ap somes (map-each (λ (c : Contribution). target_fault s inners c.slots) (λ c. target_fault (start k) (inner_at k) c.slots) (inner_at k) (target-own k i))))

      abbrev faults : List Fault
      faults = joined (map F ks)

      iterations : least (somes (map (λ t. t.fault) (map its ks))) ≡ least (faults ++ joined (map totals_at ks))
      iterations =
          ap (λ l. least (somes l)) (map-compose (λ t. t.fault) its ks)
          ∙ least-leasts (λ k. (its k).fault) (λ k. F k ++ totals_at k) ks turns.fault
          ∙ least-same (joined-two F totals_at ks)

      least-all : least (somes (map (λ t. t.fault) (map its ks)) ++ total_faults between outers) ≡ least (faults ++ total_faults s all)
      least-all =
          least-append (somes (map (λ t. t.fault) (map its ks))) (total_faults between outers)
          ∙ ap (λ o. lesser_of o (least (total_faults between outers))) iterations
          ∙ sym (least-append (faults ++ joined (map totals_at ks)) (total_faults between outers))
          ∙ ap least (append_assoc faults (joined (map totals_at ks)) (total_faults between outers))
          ∙ ap (λ l. least (faults ++ (l ++ total_faults between outers))) (sym totals-own)
          ∙ ap (λ l. least (faults ++ l)) (sym (totals-both s inners outers apart others))
          ∙ least-append faults (total_faults s (inners ++ outers))
          ∙ ap (lesser_of (least faults)) (sym (total_faults-same s given.one parts))
          ∙ sym (least-append faults (total_faults s all))

      -- the loop is what all that was given leaves at once
      pub loop-ends : loop_done s ks (map its ks) ≡ unless_fault (least (faults ++ total_faults s all)) (Ok (settled_store s all))
      loop-ends =
          ap (λ (o : Store). unless_fault (least (somes (map (λ t. t.fault) (map its ks)) ++ total_faults o (joined (map (λ t. t.with_outermost) (map its ks))))) (Ok (overlaid (settled_store o (joined (map (λ t. t.with_outermost) (map its ks)))) (joined (map (λ t. t.deferred) (map its ks)))))) own-is
          ∙ ap (λ cs. unless_fault (least (somes (map (λ t. t.fault) (map its ks)) ++ total_faults between cs)) (Ok (overlaid (settled_store between cs) (joined (map (λ t. t.deferred) (map its ks)))))) contributions
          ∙ ap (λ ws. unless_fault (least (somes (map (λ t. t.fault) (map its ks)) ++ total_faults between outers)) (Ok (overlaid (settled_store between outers) ws))) nothing
          ∙ ap (λ o. unless_fault o (Ok (settled_store between outers))) least-all
          ∙ ap (λ t. unless_fault (least (faults ++ total_faults s all)) (Ok t)) (settled-both s inners outers apart others ∙ sym (settled_store-same s given.one parts))
