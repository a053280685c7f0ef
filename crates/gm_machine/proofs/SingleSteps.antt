-- Contributions to one slot alone are taken as values are.
use Rattle.std.proofs.Common.{◌≡◌, ◌<◌, ◌≤◌, ◌+◌, ℕ, zero, suc, Bool, true, false, cond, nat_eq, ◌&&◌, Option, Some, None, Result, Ok, Err, List, [], ◌∷◌, map, length, take, refl, sym, ap, ◌∙◌, arith}
use Rattle.std.proofs.lemmas.Bool.{eq-eqb, ne_eqb}
use Rattle.gm_value.specs.declared.values.Value.{Value}
use Rattle.gm_value.specs.declared.faults.FaultKind.{FaultKind}
use Rattle.gm_value.specs.declared.reductions.Reduce.{Reduce}
use Rattle.gm_value.specs.Reductions.{close}
use Rattle.gm_value.specs.Taking.{of_rank, then_take, at_rank, taken_bag, taken}
use Rattle.gm_value.specs.Tuples.{with_value, first_or}
use Rattle.gm_image.specs.Folds.{same_numbers}
use Rattle.gm_machine.specs.declared.faults.Fault.{Fault}
use Rattle.gm_machine.specs.declared.contributions.ContributionPart.{ContributionPart}
use Rattle.gm_machine.specs.Faults.{then_go}
use Rattle.gm_machine.specs.Expressions.{value_at}
use Rattle.gm_machine.specs.Taking.{Contribution, to_target, closed, overflow_at, entry_of, slot_by}
use Rattle.gm_machine.specs.Contributions.{contribution_of, begins, contributions_of, AreWhole}
use Rattle.gm_machine.specs.Settling.{is_to, to_slot, place_of, answer_of, closed_one, reduced, slots_in}

-- the first values of contributions
abbrev pub firsts_of : Value → List Contribution → List Value
firsts_of h cs = map (first_or h) (map (λ c. c.values) cs)

-- a held value closed with them
abbrev pub closed_first : Reduce → Value → List Contribution → Option Value
closed_first r held cs = answer_of (close r held (firsts_of held cs))

abbrev pub in_list : Result Value ℕ → Result (List Value) ℕ
in_list (Ok v) = Ok (v ∷ [])
in_list (Err s) = Err s

-- what one slot holds after a taking
pub taken-single : (r : Reduce) (n : ℕ) (h : Value) (cs : List Contribution) → taken (λ c. c.place) (closed r) n (h ∷ []) cs ≡ in_list (taken (λ c. c.place) (closed_first r) n h cs)
taken-single r zero h cs = refl
taken-single r (suc n) h cs =
    ap (λ e. then_take e (λ v. taken_bag (closed r) n v (of_rank (λ c. c.place) n cs))) (taken-single r n h cs)
    ∙ each (taken (λ c. c.place) (closed_first r) n h cs)
  where
    by : (e : Result Value FaultKind) → at_rank n (with_value e (Some [])) ≡ in_list (at_rank n (answer_of e))
    by (Ok v) = refl
    by (Err kind) = refl

    bag : (v : Value) (ds : List Contribution) → taken_bag (closed r) n (v ∷ []) ds ≡ in_list (taken_bag (closed_first r) n v ds)
    bag v [] = refl
    bag v (d ∷ ds) = by (close r v (firsts_of v (d ∷ ds)))

    each : (e : Result Value ℕ) → then_take (in_list e) (λ v. taken_bag (closed r) n v (of_rank (λ c. c.place) n cs)) ≡ in_list (then_take e (λ v. taken_bag (closed_first r) n v (of_rank (λ c. c.place) n cs)))
    each (Ok v) = bag v (of_rank (λ c. c.place) n cs)
    each (Err s) = refl

-- the contribution of one part
abbrev pub single : ContributionPart → Contribution
single p = contribution_of p (p ∷ [])

and-false : (a : Bool) → a && false ≡ false
and-false true = refl
and-false false = refl

and-true : (a : Bool) → a && true ≡ a
and-true true = refl
and-true false = refl

-- the contributions to one slot alone are the parts that are
pub singles : (slot : ℕ) (parts : List ContributionPart) → AreWhole parts → to_target (slot ∷ []) (contributions_of parts) ≡ map single (to_slot slot parts)
singles slot [] whole = refl
singles slot (p ∷ parts) whole = by (singles slot parts whole.1) p.width refl whole.0 where
  here : (w : ℕ) → p.width ≡ w → is_to slot p ≡ (nat_eq p.slot slot && nat_eq w 1)
  here w is = ap (λ n. nat_eq p.slot slot && nat_eq n 1) is

  hit : to_target (slot ∷ []) (contributions_of parts) ≡ map single (to_slot slot parts) → (b : Bool) → cond b (single p ∷ to_target (slot ∷ []) (contributions_of parts)) (to_target (slot ∷ []) (contributions_of parts)) ≡ map single (cond b (p ∷ to_slot slot parts) (to_slot slot parts))
  hit rest true = ap (λ cs. single p ∷ cs) rest
  hit rest false = rest

  by : to_target (slot ∷ []) (contributions_of parts) ≡ map single (to_slot slot parts) → (w : ℕ) → p.width ≡ w → w ≤ suc (length parts) → to_target (slot ∷ []) (begins w p parts (contributions_of parts)) ≡ map single (cond (is_to slot p) (p ∷ to_slot slot parts) (to_slot slot parts))
  by rest zero is room =
      rest ∙ sym (ap (λ b. map single (cond b (p ∷ to_slot slot parts) (to_slot slot parts))) (here 0 is ∙ and-false (nat_eq p.slot slot)))
  by rest (suc zero) is room =
      ap (λ b. cond b (single p ∷ to_target (slot ∷ []) (contributions_of parts)) (to_target (slot ∷ []) (contributions_of parts))) (and-true (nat_eq p.slot slot))
      ∙ hit rest (nat_eq p.slot slot)
      ∙ sym (ap (λ b. map single (cond b (p ∷ to_slot slot parts) (to_slot slot parts))) (here 1 is ∙ and-true (nat_eq p.slot slot)))
  by rest (suc (suc more)) is room = longer parts refl (omega arith) where
    longer : (qs : List ContributionPart) → parts ≡ qs → 1 ≤ length qs →
        to_target (slot ∷ []) (contribution_of p (p ∷ take (suc more) parts) ∷ contributions_of parts) ≡ map single (cond (is_to slot p) (p ∷ to_slot slot parts) (to_slot slot parts))
    longer [] are some = absurd (omega arith)
    longer (q ∷ qs) are some =
        ap (λ l. cond (same_numbers (p.slot ∷ map (λ x. x.slot) (take (suc more) l)) (slot ∷ [])) (contribution_of p (p ∷ take (suc more) parts) ∷ to_target (slot ∷ []) (contributions_of parts)) (to_target (slot ∷ []) (contributions_of parts))) are
        ∙ ap (λ b. cond b (contribution_of p (p ∷ take (suc more) parts) ∷ to_target (slot ∷ []) (contributions_of parts)) (to_target (slot ∷ []) (contributions_of parts))) (and-false (nat_eq p.slot slot))
        ∙ rest
        ∙ sym (ap (λ b. map single (cond b (p ∷ to_slot slot parts) (to_slot slot parts))) (here (suc (suc more)) is ∙ ap (λ b. nat_eq p.slot slot && b) (ne_eqb (suc (suc more)) 1 (λ e. absurd (omega arith))) ∙ and-false (nat_eq p.slot slot)))

rank-singles : (s : ℕ) (ps : List ContributionPart) → of_rank (λ c. c.place) s (map single ps) ≡ map single (of_rank place_of s ps)
rank-singles s [] = refl
rank-singles s (p ∷ ps) = by (rank-singles s ps) (nat_eq p.place s) where
  by : of_rank (λ c. c.place) s (map single ps) ≡ map single (of_rank place_of s ps) → (b : Bool) → cond b (single p ∷ of_rank (λ c. c.place) s (map single ps)) (of_rank (λ c. c.place) s (map single ps)) ≡ map single (cond b (p ∷ of_rank place_of s ps) (of_rank place_of s ps))
  by rest true = ap (λ cs. single p ∷ cs) rest
  by rest false = rest

firsts-singles : (h : Value) (ps : List ContributionPart) → firsts_of h (map single ps) ≡ map (λ p. p.value) ps
firsts-singles h [] = refl
firsts-singles h (p ∷ ps) = ap (λ vs. p.value ∷ vs) (firsts-singles h ps)

bag-singles : (r : Reduce) (s : ℕ) (h : Value) (ps : List ContributionPart) → taken_bag (closed_first r) s h (map single ps) ≡ taken_bag (closed_one r) s h ps
bag-singles r s h [] = refl
bag-singles r s h (p ∷ ps) = ap (λ vs. at_rank s (answer_of (close r h vs))) (firsts-singles h (p ∷ ps))

taken-singles : (r : Reduce) (n : ℕ) (h : Value) (ps : List ContributionPart) → taken (λ c. c.place) (closed_first r) n h (map single ps) ≡ taken place_of (closed_one r) n h ps
taken-singles r zero h ps = refl
taken-singles r (suc n) h ps =
    ap (λ e. then_take e (λ v. taken_bag (closed_first r) n v (of_rank (λ c. c.place) n (map single ps)))) (taken-singles r n h ps)
    ∙ ap (λ cs. then_take (taken place_of (closed_one r) n h ps) (λ v. taken_bag (closed_first r) n v cs)) (rank-singles n ps)
    ∙ each (taken place_of (closed_one r) n h ps)
  where
    each : (e : Result Value ℕ) → then_take e (λ v. taken_bag (closed_first r) n v (map single (of_rank place_of n ps))) ≡ then_take e (λ v. taken_bag (closed_one r) n v (of_rank place_of n ps))
    each (Ok v) = bag-singles r n v (of_rank place_of n ps)
    each (Err s) = refl

-- what a slot holds after the contributions to it alone
pub slot-single : (places : ℕ) (r : Reduce) (slot : ℕ) (held : List Value) (parts : List ContributionPart) → AreWhole parts →
    slot_by places (contributions_of parts) held slot (Some (record { reduce = r; slots = slot ∷ [] })) ≡ reduced places r (value_at held slot) (to_slot slot parts)
slot-single places r slot held parts whole =
    let entry : Result (List Value) ℕ → Result Value Fault = λ e. then_go (overflow_at e) (λ vs. Ok (entry_of slot (slot ∷ []) vs (value_at held slot))) in
    ap entry (
    ap (taken (λ c. c.place) (closed r) places (value_at held slot ∷ [])) (singles slot parts whole)
    ∙ taken-single r places (value_at held slot) (map single (to_slot slot parts))
    ∙ ap in_list (taken-singles r places (value_at held slot) (to_slot slot parts)))
    ∙ each (taken place_of (closed_one r) places (value_at held slot) (to_slot slot parts))
  where
    each : (e : Result Value ℕ) → then_go (overflow_at (in_list e)) (λ vs. Ok (entry_of slot (slot ∷ []) vs (value_at held slot))) ≡ overflow_at e
    each (Ok v) = ap (λ b. Ok (cond b v (value_at held slot))) (eq-eqb slot slot refl)
    each (Err s) = refl
