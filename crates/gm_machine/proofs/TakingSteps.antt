-- A taking goes on past places without contributions, and ends at its first fault.
use Rattle.std.proofs.Common.{◌≡◌, ℕ, zero, suc, ◌<◌, ◌≤◌, ◌+◌, Option, Ok, Err, List, [], ◌∷◌, map, refl, sym, ap, ◌∙◌, arith, add-one, ⊎_elim}
use Rattle.std.specs.Prelude.{IsTrue, true, false, cond, All, length}
use Rattle.std.proofs.lemmas.Bool.{cases_lt, cases_Bool, ne_eqb}
use Rattle.gm_value.specs.declared.values.Value.{Value}
use Rattle.gm_value.specs.declared.faults.FaultKind.{FaultKind}
use Rattle.gm_value.specs.declared.faults.FaultKind.TheVariants.{Overflow}
use Rattle.gm_value.specs.declared.reductions.Reduce.{Reduce}
use Rattle.gm_value.specs.Numbers.{type_of, number_of, fits, checked}
use Rattle.gm_value.specs.Reductions.{unit_of, close}
use Rattle.gm_value.specs.Taking.{of_rank, then_take, at_rank, taken_bag, taken}
use Rattle.gm_value.specs.Laws.{HasUnit}
use Rattle.gm_value.proofs.NumberLaws.{checked-number_of}
use Rattle.gm_value.proofs.MonoidLaws.{combined_comm}
use Rattle.gm_value.proofs.TakingLaws.{then_take-ok}
use Rattle.gm_machine.specs.declared.contributions.ContributionPart.{ContributionPart}
use Rattle.gm_machine.specs.Taking.{overflow_at}
use Rattle.gm_machine.specs.Settling.{is_to, to_slot, answer_of, closed_one, IsPast, place_of, reduced}

module _ {C V : Type 0} (rank : C → ℕ) (close : V → List C → Option V) where
  -- a rank without contributions changes nothing
  taken-skip : (n : ℕ) (held : V) (cs : List C) → of_rank rank n cs ≡ [] → taken rank close (suc n) held cs ≡ taken rank close n held cs
  taken-skip n held cs none = ap (λ b. then_take (taken rank close n held cs) (λ v. taken_bag close n v b)) none ∙ then_take-ok (taken rank close n held cs)

  -- nor do several
  pub taken-gap : (from n : ℕ) (held : V) (cs : List C) → from ≤ n → ((s : ℕ) → from ≤ s → s < n → of_rank rank s cs ≡ []) → taken rank close n held cs ≡ taken rank close from held cs
  taken-gap from zero held cs h none = let e : 0 ≡ from = omega arith in ap (λ k. taken rank close k held cs) e
  taken-gap from (suc n) held cs h none =
      ⊎_elim
      (λ (less : n < from). let e : suc n ≡ from = omega arith in ap (λ k. taken rank close k held cs) e)
      (λ (above : from ≤ n).
      let last : n < suc n = omega arith in
      taken-skip n held cs (none n above last) ∙ taken-gap from n held cs above (λ s a b. let c : s < suc n = omega arith in none s a c))
      (cases_lt n from)

  -- a fault ends the taking
  pub taken-fault : (s n e : ℕ) (held : V) (cs : List C) → s ≤ n → taken rank close s held cs ≡ Err e → taken rank close n held cs ≡ Err e
  taken-fault s zero e held cs h is = let z : 0 ≡ s = omega arith in ap (λ k. taken rank close k held cs) z ∙ is
  taken-fault s (suc n) e held cs h is =
      ⊎_elim
      (λ (less : n < s). let z : suc n ≡ s = omega arith in ap (λ k. taken rank close k held cs) z ∙ is)
      (λ (above : s ≤ n). ap (λ r. then_take r (λ v. taken_bag close n v (of_rank rank n cs))) (taken-fault s n e held cs above is))
      (cases_lt n s)

-- a bag is closed_one also where it is empty
bag-closed : ((r : Reduce) → HasUnit r) → (r : Reduce) (place : ℕ) (v : Value) → IsTrue (fits (type_of v) (number_of v)) → (bag : List ContributionPart) →
    taken_bag (closed_one r) place v bag ≡ at_rank place (closed_one r v bag)
bag-closed units r place v inside [] =
    sym (
    ap (λ z. at_rank place (answer_of (checked (type_of v) z))) (combined_comm r (number_of v) (unit_of r (type_of v)) ∙ (units r (type_of v)).1 (number_of v) inside)
    ∙ ap (λ a. at_rank place (answer_of a)) (checked-number_of v inside))
bag-closed units r place v inside (c ∷ bag) = refl

-- the taking goes on with what the next place's bag closes to
pub taken-next : ((r : Reduce) → HasUnit r) → (r : Reduce) (place : ℕ) (held v : Value) (cs : List ContributionPart) → IsTrue (fits (type_of v) (number_of v)) →
    taken place_of (closed_one r) place held cs ≡ Ok v → taken place_of (closed_one r) (place + 1) held cs ≡ at_rank place (closed_one r v (of_rank place_of place cs))
taken-next units r place held v cs inside is =
    ap (λ k. taken place_of (closed_one r) k held cs) (add-one place)
    ∙ ap (λ e. then_take e (λ u. taken_bag (closed_one r) place u (of_rank place_of place cs))) is
    ∙ bag-closed units r place v inside (of_rank place_of place cs)

-- parts whose places are past a number have none below it
past-none : (slot from next s : ℕ) (c : ContributionPart) (cs : List ContributionPart) → IsPast slot from next c → from ≤ s → s < next →
    of_rank place_of s (to_slot slot cs) ≡ [] → of_rank place_of s (to_slot slot (c ∷ cs)) ≡ []
past-none slot from next s c cs past a b none =
    ⊎_elim
    (λ (is : is_to slot c ≡ true).
    let other : c.place ≡ s → ⊥ = λ e. (let low : from ≤ c.place = omega arith in let high : next ≤ c.place = past is low in absurd (omega arith)) in
    ap (λ b. of_rank place_of s (cond b (c ∷ to_slot slot cs) (to_slot slot cs))) is
    ∙ ap (λ b. cond b (c ∷ of_rank place_of s (to_slot slot cs)) (of_rank place_of s (to_slot slot cs))) (ne_eqb c.place s other)
    ∙ none)
    (λ (differs : is_to slot c ≡ false).
    ap (λ b. of_rank place_of s (cond b (c ∷ to_slot slot cs) (to_slot slot cs))) differs
    ∙ none)
    (cases_Bool (is_to slot c))

pub none-between : (slot from next : ℕ) (cs : List ContributionPart) → All (IsPast slot from next) cs → (s : ℕ) → from ≤ s → s < next →
    of_rank place_of s (to_slot slot cs) ≡ []
none-between slot from next [] past s a b = refl
none-between slot from next (c ∷ cs) past s a b =
    let first : 0 < length (c ∷ cs) = omega arith in
    past-none slot from next s c cs (past 0 c first) a b (none-between slot from next cs (λ k d h. let l : suc k < length (c ∷ cs) = omega arith in past (suc k) d l) s a b)

-- the places before the first that is taken give nothing
pub reduced-start : (r : Reduce) (slot next : ℕ) (held : Value) (cs : List ContributionPart) → All (IsPast slot 0 next) cs →
    taken place_of (closed_one r) next held (to_slot slot cs) ≡ Ok held
reduced-start r slot next held cs past =
    let low : 0 ≤ next = omega arith in
    taken-gap place_of (closed_one r) 0 next held (to_slot slot cs) low (λ s a b. none-between slot 0 next cs past s a b)

-- the parts to a slot at a place, as values
abbrev pub bag_at : ℕ → ℕ → List ContributionPart → List Value
bag_at slot place cs = map (λ c. c.value) (of_rank place_of place (to_slot slot cs))

-- one more place is taken, and those up to the next give nothing
pub reduced-next : ((r : Reduce) → HasUnit r) → (r : Reduce) (slot place next : ℕ) (held v w : Value) (cs : List ContributionPart) → IsTrue (fits (type_of v) (number_of v)) →
    taken place_of (closed_one r) place held (to_slot slot cs) ≡ Ok v → Ok w ≡ close r v (bag_at slot place cs) →
    place + 1 ≤ next → All (IsPast slot (place + 1) next) cs →
    taken place_of (closed_one r) next held (to_slot slot cs) ≡ Ok w
reduced-next units r slot place next held v w cs inside so_far closes up past =
    taken-gap place_of (closed_one r) (place + 1) next held (to_slot slot cs) up (λ s a b. none-between slot (place + 1) next cs past s a b)
    ∙ taken-next units r place held v (to_slot slot cs) inside so_far
    ∙ ap (λ a. at_rank place (answer_of a)) (sym closes)

-- a place whose bag does not close ends the taking
pub reduced-fault : ((r : Reduce) → HasUnit r) → (r : Reduce) (slot place places : ℕ) (held v : Value) (kind : FaultKind) (cs : List ContributionPart) → IsTrue (fits (type_of v) (number_of v)) →
    taken place_of (closed_one r) place held (to_slot slot cs) ≡ Ok v → Err kind ≡ close r v (bag_at slot place cs) → place < places →
    Err (record { place = place; kind = Overflow }) ≡ reduced places r held (to_slot slot cs)
reduced-fault units r slot place places held v kind cs inside so_far closes below =
    let up : place + 1 ≤ places = omega arith in
    sym (ap overflow_at (taken-fault place_of (closed_one r) (place + 1) places place held (to_slot slot cs) up
    (taken-next units r place held v (to_slot slot cs) inside so_far ∙ ap (λ a. at_rank place (answer_of a)) (sym closes))))
