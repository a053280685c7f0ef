-- What contributions of one statement leave: the least level, and whether a condition held once.
use Rattle.std.proofs.Common.{◌≡◌, ◌<◌, ◌≤◌, ℕ, zero, suc, Bool, true, false, cond, List, [], ◌∷◌, map, refl, sym, ap, subst, ◌∙◌, arith, Option, None, Ok, ⊎_elim, inl, inr}
use Rattle.std.specs.Prelude.{◌||◌, ℤ, pos, nat_eq, nat_lt, int_lt}
use Rattle.std.specs.Int.{int_min, int_max}
use Rattle.std.proofs.lemmas.Bool.{lt-ltb, ltb-true, eqb-true, eq-eqb, cases_lt}
use Rattle.gm_value.specs.declared.values.VType.TheVariants as V
use Rattle.gm_value.specs.declared.values.Value.{Value}
use Rattle.gm_value.specs.declared.values.Value.TheVariants.{I32, Flag}
use Rattle.gm_value.specs.declared.reductions.Reduce.{Reduce}
use Rattle.gm_value.specs.declared.reductions.Reduce.TheVariants.{Min, Or}
use Rattle.gm_value.specs.Bag.{IsIn}
use Rattle.gm_value.specs.Numbers.{number_of, checked}
use Rattle.gm_value.specs.Operations.{is_true}
use Rattle.gm_value.specs.Reductions.{total, close}
use Rattle.gm_value.specs.Taking.{of_rank, then_take, at_rank, taken_bag, taken}
use Rattle.gm_value.proofs.TakingLaws.{then_take-ok}
use Rattle.gm_ast.specs.declared.tree.TotalKey.{TotalKey}
use Rattle.gm_semantics.specs.declared.slots.Slot.{Slot}
use Rattle.gm_semantics.specs.Faults.{somes}
use Rattle.gm_semantics.specs.Stores.{Store, slot_eq, slots_eq, has_slot, read}
use Rattle.gm_semantics.specs.Contributions.{Contribution, statement_of, to_target, statement_bound, settled_store, fault_in, target_fault, total_faults}
use Rattle.gm_semantics.specs.Singles.{value_of, IsOne, IsTarget, ok_value, close_one, taken_one, value_or}
use Rattle.gm_semantics.proofs.ContributionLaws.{IsIn-filter, slot_eq-true}
use Rattle.gm_semantics.proofs.SingleLaws.{value_after-one, target_fault-one}
use Rattle.gm_semantics.proofs.TargetLaws.{never, read-settled}
use Rattle.gm_bfs.proofs.Cells.{not-less, in-range}

-- one contribution of a value to a slot
abbrev pub gift : TotalKey → Reduce → Slot → Value → Contribution
gift key r slot v = record { total = key; reduce = r; slots = slot ∷ []; values = v ∷ [] }

-- contributions of values of one kind by one statement
pub record Gift (key : TotalKey) (r : Reduce) (Good : Value → Type 0) (c : Contribution) : Type 0 where
  pub slot : Slot
  pub value : Value
  pub good : Good value
  pub is : c ≡ gift key r slot value

module _ (key : TotalKey) (r : Reduce) (Good : Value → Type 0) where
  abbrev pub Gifts : List Contribution → Type 0
  Gifts cs = (c : Contribution) → IsIn c cs → Gift key r Good c

  abbrev σ : ℕ
  σ = key.key.statement

  -- they have one rank
  of_rank-all : (cs : List Contribution) → Gifts cs → (n : ℕ) → σ ≡ n → of_rank statement_of n cs ≡ cs
  of_rank-all [] g n e = refl
  of_rank-all (c ∷ cs) g n e =
      let hit : nat_eq (statement_of c) n ≡ true = eq-eqb (statement_of c) n (ap statement_of (g c (inl refl)).is ∙ e) in
      ap (λ b. cond b (c ∷ of_rank statement_of n cs) (of_rank statement_of n cs)) hit ∙ ap (λ l. c ∷ l) (of_rank-all cs (λ d i. g d (inr i)) n e)

  of_rank-none : (cs : List Contribution) → Gifts cs → (n : ℕ) → nat_eq σ n ≡ false → of_rank statement_of n cs ≡ []
  of_rank-none [] g n e = refl
  of_rank-none (c ∷ cs) g n e =
      ap (λ b. cond b (c ∷ of_rank statement_of n cs) (of_rank statement_of n cs)) (ap (λ (z : Contribution). nat_eq (statement_of z) n) (g c (inl refl)).is ∙ e) ∙ of_rank-none cs (λ d i. g d (inr i)) n e

  taken-gifts : (close : Value → List Contribution → Option Value) (n : ℕ) (held : Value) (cs : List Contribution) → Gifts cs → taken statement_of close n held cs ≡ cond (nat_lt σ n) (taken_bag close σ held cs) (Ok held)
  taken-gifts close zero held cs g = sym (ap (λ b. cond b (taken_bag close σ held cs) (Ok held)) (not-less σ 0 (omega arith)))
  taken-gifts close (suc n) held cs g = by (nat_eq σ n) refl (taken-gifts close n held cs g)
    where
      by : (b : Bool) → nat_eq σ n ≡ b → taken statement_of close n held cs ≡ cond (nat_lt σ n) (taken_bag close σ held cs) (Ok held) →
          then_take (taken statement_of close n held cs) (λ v. taken_bag close n v (of_rank statement_of n cs)) ≡ cond (nat_lt σ (suc n)) (taken_bag close σ held cs) (Ok held)
      by true e rest =
          let is = eqb-true σ n e in
          let early : nat_lt σ n ≡ false = not-less σ n (omega arith) in
          let late : nat_lt σ (suc n) ≡ true = lt-ltb σ (suc n) (omega arith) in
          ap (λ t. then_take t (λ v. taken_bag close n v (of_rank statement_of n cs))) (rest ∙ ap (λ b. cond b (taken_bag close σ held cs) (Ok held)) early)
          ∙ ap (taken_bag close n held) (of_rank-all cs g n is)
          ∙ ap (λ m. taken_bag close m held cs) (sym is)
          ∙ sym (ap (λ b. cond b (taken_bag close σ held cs) (Ok held)) late)
      by false e rest =
          ap (λ l. then_take (taken statement_of close n held cs) (λ v. taken_bag close n v l)) (of_rank-none cs g n e)
          ∙ then_take-ok (taken statement_of close n held cs)
          ∙ rest
          ∙ ap (λ b. cond b (taken_bag close σ held cs) (Ok held)) (same (nat_lt σ n) refl)
        where
          same : (b : Bool) → nat_lt σ n ≡ b → b ≡ nat_lt σ (suc n)
          same true h = sym (lt-ltb σ (suc n) (let l = ltb-true σ n h in omega arith))
          same false h = sym (not-less σ (suc n) (⊎_elim (λ (l : σ < suc n). let is : σ ≡ n = between σ n l h in never (eq-eqb σ n is) e) (λ (l : suc n ≤ σ). l) (cases_lt σ (suc n))))
            where
              between : (a b : ℕ) → a < suc b → nat_lt a b ≡ false → a ≡ b
              between a b l h = ⊎_elim (λ (m : a < b). never (lt-ltb a b m) h) (λ (m : b ≤ a). omega arith) (cases_lt a b)

  bound-past : (c : Contribution) (cs : List Contribution) → statement_of c < statement_bound (c ∷ cs)
  bound-past c cs = omega arith

  taken-one : (held : Value) (cs : List Contribution) → Gifts cs → taken_one held cs ≡ taken_bag (close_one r) σ held cs
  taken-one held [] g = refl
  taken-one held (c ∷ cs) g =
      let one = (g c (inl refl)).is in
      let past = bound-past c cs in
      let rank : statement_of c ≡ σ = ap statement_of one in
      let less : nat_lt σ (statement_bound (c ∷ cs)) ≡ true = lt-ltb σ (statement_bound (c ∷ cs)) (omega arith) in
      ap (λ (z : Contribution). taken statement_of (close_one z.reduce) (statement_bound (c ∷ cs)) held (c ∷ cs)) one
      ∙ taken-gifts (close_one r) (statement_bound (c ∷ cs)) held (c ∷ cs) g
      ∙ ap (λ b. cond b (taken_bag (close_one r) σ held (c ∷ cs)) (Ok held)) less

  target : (slot : Slot) (cs : List Contribution) → Gifts cs → IsTarget slot cs
  target slot cs g c i h =
      let p = g c i in
      let has : slot_eq slot p.slot || false ≡ true = sym (ap (λ (z : Contribution). has_slot slot z.slots) p.is) ∙ h in
      (ap (λ (z : Contribution). z.slots) p.is ∙ ap (λ s. s ∷ []) (sym (one slot p.slot has)), subst (λ (z : Contribution). IsOne z.values) (sym p.is) tt)
    where
      one : (a b : Slot) → slot_eq a b || false ≡ true → a ≡ b
      one a b h = by (slot_eq a b) refl h
        where
          by : (c : Bool) → slot_eq a b ≡ c → c || false ≡ true → a ≡ b
          by true e h = slot_eq-true a b e
          by false e h = never h refl

  to-gifts : (slots : List Slot) (cs : List Contribution) → Gifts cs → Gifts (to_target slots cs)
  to-gifts slots cs g c i = g c (IsIn-filter (λ (c : Contribution). slots_eq slots c.slots) c cs i).0

  -- a slot holds what a taking of its contributions gives
  pub gifts-value : (s : Store) (slot : Slot) (cs : List Contribution) → Gifts cs → read (settled_store s cs) slot ≡ value_or (read s slot) (taken_bag (close_one r) σ (read s slot) (to_target (slot ∷ []) cs))
  gifts-value s slot cs g =
      read-settled s cs slot ∙ value_after-one s cs slot (target slot cs g) ∙ ap (value_or (read s slot)) (taken-one (read s slot) (to_target (slot ∷ []) cs) (to-gifts (slot ∷ []) cs g))

  -- where each taking gives a value there is no fault
  pub gifts-faultless : (s : Store) (cs : List Contribution) → Gifts cs → ((slot : Slot) → (v : Value) × (taken_bag (close_one r) σ (read s slot) (to_target (slot ∷ []) cs) ≡ Ok v)) → total_faults s cs ≡ []
  gifts-faultless s cs g fine = each cs (λ c i. i)
    where
      one : (slot : Slot) → target_fault s cs (slot ∷ []) ≡ None
      one slot =
          target_fault-one s cs slot (target slot cs g)
          ∙ ap (fault_in (to_target (slot ∷ []) cs)) (taken-one (read s slot) (to_target (slot ∷ []) cs) (to-gifts (slot ∷ []) cs g) ∙ (fine slot).1)

      each : (ds : List Contribution) → ((c : Contribution) → IsIn c ds → IsIn c cs) → somes (map (λ c. target_fault s cs c.slots) ds) ≡ []
      each [] sub = refl
      each (d ∷ ds) sub = ap (λ o. somes (o ∷ map (λ c. target_fault s cs c.slots) ds)) (ap (λ (z : Contribution). target_fault s cs z.slots) (g d (sub d (inl refl))).is ∙ one (g d (sub d (inl refl))).slot) ∙ each ds (λ c i. sub c (inr i))

-- the least of a level and some of another
abbrev pub lesser-of : ℕ → ℕ → ℕ
lesser-of v a = cond (nat_lt v a) v a

module _ (key : TotalKey) (v : ℕ) (small : v ≤ 2147483647) where
  abbrev pub IsLevel : Value → Type 0
  IsLevel w = w ≡ I32 (pos v)

  min-self : (a b : ℤ) → a ≡ b → int_min a b ≡ a
  min-self a b e = by (int_lt b a)
    where
      by : (c : Bool) → cond c b a ≡ a
      by true = sym e
      by false = refl

  min-pos : (a b : ℕ) → int_min (pos a) (pos b) ≡ pos (lesser-of b a)
  min-pos a b = by (nat_lt b a)
    where
      by : (c : Bool) → cond c (pos b) (pos a) ≡ pos (cond c b a)
      by true = refl
      by false = refl

  total-levels : (c : Contribution) (cs : List Contribution) → Gifts key Min IsLevel (c ∷ cs) → total Min V.I32 (map value_of (c ∷ cs)) ≡ pos v
  total-levels c [] g =
      let one : value_of c ≡ I32 (pos v) = ap value_of (g c (inl refl)).is ∙ (g c (inl refl)).good in
      ap (λ z. int_min (number_of z) (pos 2147483647)) one ∙ min-pos v 2147483647 ∙ ap pos (by (nat_lt 2147483647 v) refl)
    where
      by : (b : Bool) → nat_lt 2147483647 v ≡ b → cond b 2147483647 v ≡ v
      by true e = let l = ltb-true 2147483647 v e in absurd (omega arith)
      by false e = refl
  total-levels c (d ∷ cs) g =
      let one : value_of c ≡ I32 (pos v) = ap value_of (g c (inl refl)).is ∙ (g c (inl refl)).good in
      ap (λ z. int_min (number_of z) (total Min V.I32 (map value_of (d ∷ cs)))) one
      ∙ ap (int_min (pos v)) (total-levels d cs (λ e i. g e (inr i)))
      ∙ min-self (pos v) (pos v) refl

  lesser-small : (a : ℕ) → a ≤ 2147483647 → lesser-of v a ≤ 2147483647
  lesser-small a h = by (nat_lt v a)
    where
      by : (b : Bool) → cond b v a ≤ 2147483647
      by true = small
      by false = h

  -- some contributions of a level
  pub taken-levels : (a : ℕ) (c : Contribution) (cs : List Contribution) → a ≤ 2147483647 → Gifts key Min IsLevel (c ∷ cs) → taken_bag (close_one Min) key.key.statement (I32 (pos a)) (c ∷ cs) ≡ Ok (I32 (pos (lesser-of v a)))
  taken-levels a c cs h g =
      ap (λ t. at_rank key.key.statement (ok_value (checked V.I32 (int_min (pos a) t)))) (total-levels c cs g)
      ∙ ap (λ z. at_rank key.key.statement (ok_value (checked V.I32 z))) (min-pos a v)
      ∙ ap (λ r. at_rank key.key.statement (ok_value r)) (in-range (lesser-of v a) (lesser-small a h))

module _ (key : TotalKey) where
  abbrev pub IsFlag : Value → Type 0
  IsFlag w = (b : Bool) × (w ≡ Flag b)

  -- whether a condition held once
  abbrev pub some-true : List Contribution → Bool
  some-true [] = false
  some-true (c ∷ cs) = is_true (value_of c) || some-true cs

  abbrev as-number : Bool → ℤ
  as-number b = cond b (pos 1) (pos 0)

  max-flags : (b c : Bool) → int_max (number_of (Flag b)) (as-number c) ≡ as-number (is_true (Flag b) || c)
  max-flags true true = refl
  max-flags true false = refl
  max-flags false true = refl
  max-flags false false = refl

  total-flags : (cs : List Contribution) → Gifts key Or IsFlag cs → total Or V.Flag (map value_of cs) ≡ as-number (some-true cs)
  total-flags [] g = refl
  total-flags (c ∷ cs) g =
      let p = g c (inl refl) in
      let one : value_of c ≡ Flag p.good.0 = ap value_of p.is ∙ p.good.1 in
      ap (int_max (number_of (value_of c))) (total-flags cs (λ e i. g e (inr i)))
      ∙ ap (λ z. int_max (number_of z) (as-number (some-true cs))) one
      ∙ max-flags p.good.0 (some-true cs)
      ∙ sym (ap (λ z. as-number (is_true z || some-true cs)) one)

  flag-of : (b : Bool) → at_rank key.key.statement (ok_value (checked V.Flag (int_max (pos 0) (as-number b)))) ≡ Ok (Flag b)
  flag-of true = refl
  flag-of false = refl

  pub taken-flags : (cs : List Contribution) → Gifts key Or IsFlag cs → taken_bag (close_one Or) key.key.statement (Flag false) cs ≡ Ok (Flag (some-true cs))
  taken-flags [] g = refl
  taken-flags (c ∷ cs) g = ap (λ t. at_rank key.key.statement (ok_value (checked V.Flag (int_max (pos 0) t)))) (total-flags (c ∷ cs) g) ∙ flag-of (some-true (c ∷ cs))
