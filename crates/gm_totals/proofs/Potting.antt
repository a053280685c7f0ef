-- A pot with one more contribution, and what all pots stand for.
use Rattle.std.proofs.Common.{◌≡◌, ℕ, ◌≤◌, Bool, true, false, cond, List, [], ◌∷◌, ◌++◌, refl, sym, ap, subst, ◌∙◌, arith, Option, Some, None}
use Rattle.std.specs.Prelude.{nat_eq, if◌then◌else◌}
use Rattle.std.proofs.lemmas.List.Elements.{filter-append}
use Rattle.gm_value.specs.declared.reductions.Reduce.{Reduce}
use Rattle.gm_value.specs.Taking.{of_rank}
use Rattle.gm_semantics.specs.declared.slots.Slot.{Slot}
use Rattle.gm_semantics.specs.Stores.{slots_eq}
use Rattle.gm_semantics.specs.Contributions.{Contribution, statement_of, to_target}
use Rattle.gm_totals.specs.declared.pots.Pot.{Pot}
use Rattle.gm_totals.specs.Pots.{RankStands, Joins, AreFrom, entry_at, with_own, Gains, entries_of, BeginBy, PotStands, TargetStands, PotGains}
use Rattle.gm_totals.specs.Given.{is_several}
use Rattle.gm_totals.proofs.Gaining.{gains-end}
use Rattle.gm_totals.proofs.Keys.{slots_eq-same}

-- the contributions of a statement with one more
of_rank-more : (s : ℕ) (cs : List Contribution) (c : Contribution) → of_rank statement_of s (cs ++ c ∷ []) ≡ with_own s (of_rank statement_of s cs) c
of_rank-more s cs c = filter-append (λ (x : Contribution). nat_eq (statement_of x) s) cs (c ∷ []) ∙ by (nat_eq (statement_of c) s)
  where
    append_nil : (xs : List Contribution) → xs ++ [] ≡ xs
    append_nil [] = refl
    append_nil (x ∷ xs) = ap (λ l. x ∷ l) (append_nil xs)

    by : (b : Bool) → of_rank statement_of s cs ++ cond b (c ∷ []) [] ≡ (if b then of_rank statement_of s cs ++ c ∷ [] else of_rank statement_of s cs)
    by true = refl
    by false = append_nil (of_rank statement_of s cs)

begin-more : (r : Reduce) (cs : List Contribution) (c : Contribution) → BeginBy r cs → BeginBy r (cs ++ c ∷ [])
begin-more r [] c begin = absurd begin
begin-more r (x ∷ cs) c begin = begin

-- a pot with one more
pub pot-more : (several : Bool) (old new : Pot) (c : Contribution) → new.reduce ≡ old.reduce → Gains several old.reduce (entries_of old) (entries_of new) c → PotGains several (Some old) new c
pot-more several old new c by gains cs stands =
    let more = gains 0 stands.ascending in
    let low : 0 ≤ statement_of c = omega arith in
    record {
      reduce = subst (λ r. BeginBy r (cs ++ c ∷ [])) (sym by) (begin-more old.reduce cs c stands.reduce);
      ascending = more.0 low;
      ranks = λ s. subst (λ r. RankStands several r (entry_at s (entries_of new)) (of_rank statement_of s (cs ++ c ∷ []))) (sym by)
          (subst (RankStands several old.reduce (entry_at s (entries_of new))) (sym (of_rank-more s cs c)) (more.1 s (of_rank statement_of s cs) (stands.ranks s)));
    }

-- a pot of one contribution
pub pot-first : (several : Bool) (pot : Pot) (c : Contribution) → pot.more.items ≡ [] → c.reduce ≡ pot.reduce → Joins several pot.reduce None c pot.first → PotGains several None pot c
pot-first several pot c more by joins cs none =
    let gains = gains-end several pot.reduce c pot.first joins 0 tt in
    let low : 0 ≤ statement_of c = omega arith in
    let alone : entries_of pot ≡ pot.first ∷ [] = ap (λ es. pot.first ∷ es) more in
    subst (λ (l : List Contribution). PotStands several pot (l ++ c ∷ [])) (sym none) (record {
      reduce = by;
      ascending = subst (AreFrom 0) (sym alone) (gains.0 low);
      ranks = λ s. subst (λ es. RankStands several pot.reduce (entry_at s es) (of_rank statement_of s (c ∷ []))) (sym alone) (gains.1 s [] refl);
    })

append_none : (xs : List Contribution) → xs ++ [] ≡ xs
append_none [] = refl
append_none (x ∷ xs) = ap (λ l. x ∷ l) (append_none xs)

-- the contributions to a target with one more
to_target-more : (slots : List Slot) (cs : List Contribution) (c : Contribution)
    → to_target slots (cs ++ c ∷ []) ≡ to_target slots cs ++ cond (slots_eq slots c.slots) (c ∷ []) []
to_target-more slots cs c = filter-append (λ (x : Contribution). slots_eq slots x.slots) cs (c ∷ [])

-- what the pots of all targets stand for, with one more contribution
pub targets-more : (old new : List Slot → Option Pot) (pot : Pot) (c : Contribution) → PotGains (is_several c.slots) (old c.slots) pot c
    → ((slots : List Slot) → new slots ≡ cond (slots_eq slots c.slots) (Some pot) (old slots))
    → (cs : List Contribution) → ((slots : List Slot) → TargetStands (is_several slots) (old slots) (to_target slots cs)) → (slots : List Slot)
    → TargetStands (is_several slots) (new slots) (to_target slots (cs ++ c ∷ []))
targets-more old new pot c gains is cs stands slots =
    subst (λ o. TargetStands (is_several slots) o (to_target slots (cs ++ c ∷ []))) (sym (is slots))
    (subst (TargetStands (is_several slots) (cond (slots_eq slots c.slots) (Some pot) (old slots))) (sym (to_target-more slots cs c)) (by (slots_eq slots c.slots) refl))
  where
    by : (b : Bool) → slots_eq slots c.slots ≡ b → TargetStands (is_several slots) (cond b (Some pot) (old slots)) (to_target slots cs ++ cond b (c ∷ []) [])
    by true e =
        let same : slots ≡ c.slots = slots_eq-same slots c.slots e in
        let here : PotStands (is_several c.slots) pot (to_target c.slots cs ++ c ∷ []) = gains (to_target c.slots cs) (stands c.slots) in
        subst (λ (s : List Slot). PotStands (is_several s) pot (to_target s cs ++ c ∷ [])) (sym same) here
    by false e = subst (TargetStands (is_several slots) (old slots)) (sym (append_none (to_target slots cs))) (stands slots)
