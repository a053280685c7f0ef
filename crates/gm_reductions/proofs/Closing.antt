-- Contributions of one statement to one scalar leave its closed total there, or the total's fault.
use Rattle.std.proofs.Common.{◌≡◌, ◌≤◌, ◌<◌, ℕ, zero, suc, max, Bool, true, false, cond, List, [], ◌∷◌, ◌++◌, map, refl, sym, ap, subst, ◌∙◌, arith, ⊎_elim, inl, inr, Option, Some, None, Result, Ok, Err}
use Rattle.std.specs.Prelude.{◌⊎◌, ◌≢◌, ◌||◌, IsTrue, filter, nat_eq, if◌then◌else◌}
use Rattle.std.proofs.Math.Nat.{le-max_left}
use Rattle.std.proofs.Math.Path.{fun_ext}
use Rattle.std.proofs.lemmas.Bool.{both_ways, eq-eqb, eqb-true, ne_eqb}
use Rattle.gm_value.specs.declared.faults.FaultKind.{FaultKind}
use Rattle.gm_value.specs.declared.values.Value.{Value}
use Rattle.gm_value.specs.declared.values.Value.TheVariants.{Flag}
use Rattle.gm_value.specs.declared.reductions.Reduce.{Reduce}
use Rattle.gm_value.specs.Bag.{IsIn}
use Rattle.gm_value.specs.Reductions.{close}
use Rattle.gm_value.specs.Taking.{of_rank, then_take, at_rank, taken_bag, taken}
use Rattle.gm_value.specs.Tuples.{first_or}
use Rattle.gm_ast.specs.declared.tree.TotalKey.{TotalKey}
use Rattle.gm_semantics.specs.declared.faults.Fault.{Fault}
use Rattle.gm_semantics.specs.declared.slots.Slot.{Slot}
use Rattle.gm_semantics.specs.declared.slots.Slot.TheVariants.{Scalar, Node}
use Rattle.gm_semantics.specs.Stores.{Store, slot_eq, slots_eq, has_slot, read, write}
use Rattle.gm_semantics.specs.Faults.{rank_of, comes_before, lower, lesser, least, then_with, unless_fault, somes, of_total, total_fault}
use Rattle.gm_semantics.specs.Contributions.{Contribution, statement_of, statement_bound, to_target, fault_in, value_after, target_fault, settled_store, total_faults}
use Rattle.gm_semantics.specs.Singles.{value_of, IsOne, IsTarget, ok_value, close_one, taken_one, value_or}
use Rattle.gm_semantics.specs.Iterations.{contribution}
use Rattle.gm_semantics.specs.Laws.{Away}
use Rattle.gm_semantics.proofs.ContributionLaws.{slot_eq-refl, slots_eq-refl}
use Rattle.gm_semantics.proofs.LeastLaws.{lower_comm}
use Rattle.gm_semantics.proofs.SingleLaws.{value_after-one, target_fault-one}
use Rattle.gm_semantics.proofs.TargetLaws.{value-away}

-- ---- a taking of one rank

-- all of some are of one rank
abbrev OfRank : {C : Type 0} → (C → ℕ) → ℕ → List C → Type 0
OfRank rank n [] = Unit {0}
OfRank rank n (c ∷ cs) = (rank c ≡ n) × OfRank rank n cs

rank-all : {C : Type 0} (rank : C → ℕ) (n : ℕ) (cs : List C) → OfRank rank n cs → of_rank rank n cs ≡ cs
rank-all rank n [] h = refl
rank-all rank n (c ∷ cs) h = ap (λ b. cond b (c ∷ of_rank rank n cs) (of_rank rank n cs)) (eq-eqb (rank c) n h.0) ∙ ap (λ ds. c ∷ ds) (rank-all rank n cs h.1)

rank-none : {C : Type 0} (rank : C → ℕ) (n m : ℕ) (cs : List C) → m ≢ n → OfRank rank n cs → of_rank rank m cs ≡ []
rank-none rank n m [] apart h = refl
rank-none rank n m (c ∷ cs) apart h =
    ap (λ b. cond b (c ∷ of_rank rank m cs) (of_rank rank m cs)) (ne_eqb (rank c) m (λ e. apart (sym e ∙ h.0))) ∙ rank-none rank n m cs apart h.1

-- ranks above and below give nothing
taken-low : {C V : Type 0} (rank : C → ℕ) (closing : V → List C → Option V) (n m : ℕ) (held : V) (cs : List C) → m ≤ n → OfRank rank n cs → taken rank closing m held cs ≡ Ok held
taken-low rank closing n zero held cs l h = refl
taken-low rank closing n (suc m) held cs l h =
    ap (λ r. then_take r (λ v. taken_bag closing m v (of_rank rank m cs))) (taken-low rank closing n m held cs (omega arith) h)
    ∙ ap (taken_bag closing m held) (rank-none rank n m cs (λ e. omega arith) h)

taken-high : {C V : Type 0} (rank : C → ℕ) (closing : V → List C → Option V) (n m : ℕ) (held : V) (cs : List C) → n < m → OfRank rank n cs → taken rank closing m held cs ≡ taken_bag closing n held cs
taken-high rank closing n zero held cs l h = absurd (omega arith)
taken-high {C = C} {V = V} rank closing n (suc m) held cs l h =
    ⊎_elim
    (λ (e : m ≡ n).
    ap (λ r. then_take r (λ v. taken_bag closing m v (of_rank rank m cs))) (taken-low rank closing n m held cs (omega arith) h)
    ∙ ap (λ k. taken_bag closing k held (of_rank rank k cs)) e ∙ ap (taken_bag closing n held) (rank-all rank n cs h))
    (λ (o : n < m).
    ap (λ r. then_take r (λ v. taken_bag closing m v (of_rank rank m cs))) (taken-high rank closing n m held cs o h)
    ∙ nothing-more (taken_bag closing n held cs) (rank-none rank n m cs (λ e. omega arith) h))
    (which m n l)
  where
    which : (m n : ℕ) → n < suc m → (m ≡ n) ⊎ (n < m)
    which m n l = by (nat_eq m n) refl
      where
        by : (b : Bool) → nat_eq m n ≡ b → (m ≡ n) ⊎ (n < m)
        by true e = inl (eqb-true m n e)
        by false e = inr (let apart : m ≢ n = (λ s. both_ways (nat_eq m n) e (eq-eqb m n s)) in omega arith)

    nothing-more : (r : Result V ℕ) → of_rank rank m cs ≡ [] → then_take r (λ v. taken_bag closing m v (of_rank rank m cs)) ≡ r
    nothing-more (Ok v) e = ap (taken_bag closing m v) e
    nothing-more (Err t) e = refl

-- ---- contributions to a scalar

module _ (total : TotalKey) (r : Reduce) (x : ℕ) where
  abbrev pub gives : Value → Contribution
  gives v = contribution total r (Scalar x ∷ [], v ∷ [])

  pub is-target : (vs : List Value) → IsTarget (Scalar x) (map gives vs)
  is-target [] c i has = absurd i
  is-target (v ∷ vs) c i has = ⊎_elim (λ (e : c ≡ gives v). (ap (λ (d : Contribution). d.slots) e, subst (λ (d : Contribution). IsOne d.values) (sym e) tt)) (λ j. is-target vs c j has) i

  all-to : (vs : List Value) → to_target (Scalar x ∷ []) (map gives vs) ≡ map gives vs
  all-to [] = refl
  all-to (v ∷ vs) = ap (λ b. cond b (gives v ∷ to_target (Scalar x ∷ []) (map gives vs)) (to_target (Scalar x ∷ []) (map gives vs))) (slots_eq-refl (Scalar x ∷ [])) ∙ ap (λ cs. gives v ∷ cs) (all-to vs)

  one-rank : (vs : List Value) → OfRank statement_of total.key.statement (map gives vs)
  one-rank [] = tt
  one-rank (v ∷ vs) = (refl, one-rank vs)

  values-given : (vs : List Value) → map value_of (map gives vs) ≡ vs
  values-given [] = refl
  values-given (v ∷ vs) = ap (λ us. v ∷ us) (values-given vs)

  taken-all : (held v : Value) (vs : List Value) → taken_one held (map gives (v ∷ vs)) ≡ at_rank total.key.statement (ok_value (close r held (v ∷ vs)))
  taken-all held v vs =
      let rest = statement_bound (map gives vs) in
      let low : total.key.statement < max (suc total.key.statement) rest = (let m = le-max_left (suc total.key.statement) rest in omega arith) in
      taken-high statement_of (close_one r) total.key.statement (max (suc total.key.statement) rest) held (map gives (v ∷ vs)) low (one-rank (v ∷ vs))
      ∙ ap (λ us. at_rank total.key.statement (ok_value (close r held us))) (values-given (v ∷ vs))

  pub away : (vs : List Value) (slot : Slot) → slot_eq slot (Scalar x) ≡ false → Away slot (map gives vs)
  away [] slot apart c i = absurd i
  away (v ∷ vs) slot apart c i =
      ⊎_elim (λ (e : c ≡ gives v). ap (λ (d : Contribution). has_slot slot d.slots) e ∙ ap (λ b. b || false) apart) (λ j. away vs slot apart c j) i

  module _ (s : Store) where
    -- the scalar's value decides the store
    settled-is : (vs : List Value) (v : Value) → value_after s (map gives vs) (Scalar x) ≡ v → settled_store s (map gives vs) ≡ write s (Scalar x) v
    settled-is vs v e =
        ap (λ (f : ℕ → Value). let t : Store = record { scalar = f; node = λ p n. value_after s (map gives vs) (Node p n); edge = s.edge } in t) (fun_ext (λ y. by y (nat_eq x y) refl))
        ∙ ap (λ (g : ℕ → ℕ → Value). let t : Store = record { scalar = λ y. if nat_eq x y then v else s.scalar y; node = g; edge = s.edge } in t)
        (fun_ext (λ p. fun_ext (λ n. value-away s (Node p n) (map gives vs) (away vs (Node p n) refl))))
      where
        by : (y : ℕ) (b : Bool) → nat_eq x y ≡ b → value_after s (map gives vs) (Scalar y) ≡ (if b then v else s.scalar y)
        by y true same = ap (λ z. value_after s (map gives vs) (Scalar z)) (sym (eqb-true x y same)) ∙ e
        by y false apart = value-away s (Scalar y) (map gives vs) (away vs (Scalar y) (ne_eqb y x (λ z. both_ways (nat_eq x y) apart (eq-eqb x y (sym z)))))

    -- the faults of the totals are all one
    totals-of : (us vs : List Value) → map (λ (c : Contribution). target_fault s (map gives us) c.slots) (map gives vs) ≡ map (λ v. target_fault s (map gives us) (Scalar x ∷ [])) vs
    totals-of us [] = refl
    totals-of us (v ∷ vs) = ap (λ l. target_fault s (map gives us) (Scalar x ∷ []) ∷ l) (totals-of us vs)

    no-faults : (vs : List Value) → least (somes (map (λ v. None) vs)) ≡ None
    no-faults [] = refl
    no-faults (v ∷ vs) = no-faults vs

    itself : (f : Fault) → lower f f ≡ f
    itself f = by (comes_before (rank_of f) (rank_of f))
      where
        by : (b : Bool) → (if b then f else f) ≡ f
        by true = refl
        by false = refl

    one-fault : (f : Fault) (v : Value) (vs : List Value) → least (somes (map (λ v. Some f) (v ∷ vs))) ≡ Some f
    one-fault f v [] = refl
    one-fault f v (w ∷ vs) = ap (lesser f) (one-fault f w vs) ∙ ap Some (itself f)

    one-total : (v : Value) (vs : List Value) → least (map (λ (c : Contribution). total_fault c.total) (map gives (v ∷ vs))) ≡ Some (total_fault total)
    one-total v [] = refl
    one-total v (w ∷ vs) = ap (lesser (total_fault total)) (one-total w vs) ∙ ap Some (itself (total_fault total))

    module _ (held : Value) (is : s.scalar x ≡ held) where
      target-taken : (v : Value) (vs : List Value) → taken_one (s.scalar x) (to_target (Scalar x ∷ []) (map gives (v ∷ vs))) ≡ at_rank total.key.statement (ok_value (close r held (v ∷ vs)))
      target-taken v vs = ap (taken_one (s.scalar x)) (all-to (v ∷ vs)) ∙ ap (λ u. taken_one u (map gives (v ∷ vs))) is ∙ taken-all held v vs

      fault-taken : (v : Value) (vs : List Value) → target_fault s (map gives (v ∷ vs)) (Scalar x ∷ []) ≡ fault_in (map gives (v ∷ vs)) (at_rank total.key.statement (ok_value (close r held (v ∷ vs))))
      fault-taken v vs =
          target_fault-one s (map gives (v ∷ vs)) (Scalar x) (is-target (v ∷ vs))
          ∙ ap (λ cs. fault_in cs (taken_one (s.scalar x) (to_target (Scalar x ∷ []) (map gives (v ∷ vs))))) (all-to (v ∷ vs))
          ∙ ap (fault_in (map gives (v ∷ vs))) (target-taken v vs)

      value-taken : (v : Value) (vs : List Value) → value_after s (map gives (v ∷ vs)) (Scalar x) ≡ value_or (s.scalar x) (at_rank total.key.statement (ok_value (close r held (v ∷ vs))))
      value-taken v vs = value_after-one s (map gives (v ∷ vs)) (Scalar x) (is-target (v ∷ vs)) ∙ ap (value_or (s.scalar x)) (target-taken v vs)

      -- the store with the total in the scalar, or the total's fault
      pub closing : close r held [] ≡ Ok held → (vs : List Value) →
          unless_fault (least (total_faults s (map gives vs))) (Ok (settled_store s (map gives vs))) ≡ then_with (of_total total (close r held vs)) (λ v. Ok (write s (Scalar x) v))
      closing empty [] =
          ap Ok (settled-is [] held (value-away s (Scalar x) [] (λ c i. absurd i) ∙ is))
          ∙ sym (ap (λ q. then_with (of_total total q) (λ v. Ok (write s (Scalar x) v))) empty)
      closing empty (v ∷ vs) = by (close r held (v ∷ vs)) refl
        where
          totals : (o : Option Fault) → target_fault s (map gives (v ∷ vs)) (Scalar x ∷ []) ≡ o → total_faults s (map gives (v ∷ vs)) ≡ somes (map (λ v. o) (v ∷ vs))
          totals o e = ap somes (totals-of (v ∷ vs) (v ∷ vs) ∙ ap (λ (o : Option Fault). map (λ v. o) (v ∷ vs)) e)

          by : (q : Result Value FaultKind) → close r held (v ∷ vs) ≡ q →
              unless_fault (least (total_faults s (map gives (v ∷ vs)))) (Ok (settled_store s (map gives (v ∷ vs)))) ≡ then_with (of_total total q) (λ v. Ok (write s (Scalar x) v))
          by (Ok w) e =
              let taken = ap (λ q. at_rank total.key.statement (ok_value q)) e in
              ap (λ o. unless_fault o (Ok (settled_store s (map gives (v ∷ vs))))) (ap least (totals None (fault-taken v vs ∙ ap (fault_in (map gives (v ∷ vs))) taken)) ∙ no-faults (v ∷ vs))
              ∙ ap Ok (settled-is (v ∷ vs) w (value-taken v vs ∙ ap (value_or (s.scalar x)) taken))
          by (Err k) e =
              let taken = ap (λ q. at_rank total.key.statement (ok_value q)) e in
              let fault = fault-taken v vs ∙ ap (fault_in (map gives (v ∷ vs))) taken ∙ ap (λ cs. least (map (λ (c : Contribution). total_fault c.total) cs)) (rank-all statement_of total.key.statement (map gives (v ∷ vs)) (one-rank (v ∷ vs))) ∙ one-total v vs in
              ap (λ o. unless_fault o (Ok (settled_store s (map gives (v ∷ vs))))) (ap least (totals (Some (total_fault total)) fault) ∙ one-fault (total_fault total) v vs)
