-- The target that a slot belongs to.
use Rattle.std.proofs.Common.{◌≡◌, ℕ, zero, suc, ◌<◌, Bool, true, false, cond, List, [], ◌∷◌, ◌++◌, length, get_or, map, refl, sym, ap, ◌∙◌, arith, Option, Some, None, ⊎_elim, inl, inr}
use Rattle.std.specs.Prelude.{◌||◌}
use Rattle.std.proofs.lemmas.Bool.{cases_Bool}
use Rattle.gm_value.specs.declared.values.Value.{Value}
use Rattle.gm_value.specs.Bag.{IsIn}
use Rattle.gm_semantics.specs.declared.slots.Slot.{Slot}
use Rattle.gm_semantics.specs.Stores.{Store, slots_eq, has_slot, read, reads}
use Rattle.gm_semantics.specs.Contributions.{Contribution, to_target, target_of, target_taken, taken_onto, values_or, value_among, value_after}
use Rattle.gm_totals.specs.Standing.{first_with}
use Rattle.gm_totals.proofs.Keys.{slot_eq-itself, slots_eq-same}

-- the first target of a slot, or a further one that has it
or_further : Slot → List Slot → Option (List Slot) → Option (List Slot)
or_further slot t (Some u) = Some u
or_further slot t None = cond (has_slot slot t) (Some t) None

first-more : (slot : Slot) (ts : List (List Slot)) (t : List Slot) → first_with slot (ts ++ t ∷ []) ≡ or_further slot t (first_with slot ts)
unfolding or_further
first-more slot [] t = refl
first-more slot (u ∷ ts) t = by (has_slot slot u) (first-more slot ts t)
  where
    by : (b : Bool) → first_with slot (ts ++ t ∷ []) ≡ or_further slot t (first_with slot ts)
        → cond b (Some u) (first_with slot (ts ++ t ∷ [])) ≡ or_further slot t (cond b (Some u) (first_with slot ts))
    by true rest = refl
    by false rest = rest

slots-last : (cs : List Contribution) (c : Contribution) → map (λ (x : Contribution). x.slots) (cs ++ c ∷ []) ≡ map (λ (x : Contribution). x.slots) cs ++ c.slots ∷ []
slots-last [] c = refl
slots-last (x ∷ cs) c = ap (λ l. x.slots ∷ l) (slots-last cs c)

-- the targets of contributions with one more
further : (slot : Slot) (cs : List Contribution) (c : Contribution) (ts : List (List Slot)) → first_with slot ts ≡ first_with slot (map (λ (x : Contribution). x.slots) cs)
    → or_further slot c.slots (first_with slot ts) ≡ first_with slot (map (λ (x : Contribution). x.slots) (cs ++ c ∷ []))
further slot cs c ts same =
    ap (or_further slot c.slots) same ∙ sym (first-more slot (map (λ (x : Contribution). x.slots) cs) c.slots) ∙ ap (first_with slot) (sym (slots-last cs c))

-- owners with a contribution to a new target
pub owners-added : (slot : Slot) (cs : List Contribution) (c : Contribution) (ts : List (List Slot)) → first_with slot ts ≡ first_with slot (map (λ (x : Contribution). x.slots) cs)
    → first_with slot (ts ++ c.slots ∷ []) ≡ first_with slot (map (λ (x : Contribution). x.slots) (cs ++ c ∷ []))
owners-added slot cs c ts same = first-more slot ts c.slots ∙ further slot cs c ts same

-- what no target has is not in one of them
none-has : (slot : Slot) (t : List Slot) (ts : List (List Slot)) → first_with slot ts ≡ None → IsIn t ts → has_slot slot t ≡ false
none-has slot t [] none h = absurd h
none-has slot t (u ∷ ts) none h = by (has_slot slot u) refl (λ rest_none rest_in. none-has slot t ts rest_none rest_in)
  where
    apart : Some u ≡ None → ⊥
    apart h = cc

    by : (b : Bool) → has_slot slot u ≡ b → (first_with slot ts ≡ None → IsIn t ts → has_slot slot t ≡ false) → has_slot slot t ≡ false
    by true e others = absurd (apart (sym (ap (λ b. cond b (Some u) (first_with slot ts)) e) ∙ none))
    by false e others =
        ⊎_elim
        (λ (same : t ≡ u). ap (has_slot slot) same ∙ e)
        (λ (rest : IsIn t ts). others (sym (ap (λ b. cond b (Some u) (first_with slot ts)) e) ∙ none) rest)
        h

pub get-in : {A : Type 0} (xs : List A) (k : ℕ) (d : A) → k < length xs → IsIn (get_or xs k d) xs
get-in [] k d h = absurd (empty (omega (arith, h)))
  where
    empty : ⊥ → ⊥
    empty e = e
get-in (x ∷ xs) zero d h = inl refl
get-in (x ∷ xs) (suc k) d h = let less : k < length xs = omega (arith, h) in inr (get-in xs k d less)

-- owners with a contribution to a target that there is
pub owners-kept : (slot : Slot) (cs : List Contribution) (c : Contribution) (ts : List (List Slot)) → IsIn c.slots ts → first_with slot ts ≡ first_with slot (map (λ (x : Contribution). x.slots) cs)
    → first_with slot ts ≡ first_with slot (map (λ (x : Contribution). x.slots) (cs ++ c ∷ []))
unfolding or_further
owners-kept slot cs c ts h same = by (first_with slot ts) refl ∙ further slot cs c ts same
  where
    by : (o : Option (List Slot)) → first_with slot ts ≡ o → first_with slot ts ≡ or_further slot c.slots (first_with slot ts)
    by (Some u) e = e ∙ ap (or_further slot c.slots) (sym e)
    by None e = e ∙ ap (λ b. cond b (Some c.slots) None) (sym (none-has slot c.slots ts e h)) ∙ ap (or_further slot c.slots) (sym e)

-- the value of a slot by its target
pub by_target : Store → List Contribution → Slot → Option (List Slot) → Value
by_target s cs slot None = read s slot
by_target s cs slot (Some t) = value_among slot t (values_or (reads s t) (target_taken s cs t)) (read s slot)

-- the value of a slot by the first of some targets that has it
abbrev pub value_from : Store → List Contribution → Slot → List (List Slot) → Value
value_from s cs slot [] = read s slot
value_from s cs slot (t ∷ ts) = cond (has_slot slot t) (value_among slot t (values_or (reads s t) (target_taken s cs t)) (read s slot)) (value_from s cs slot ts)

from-first : (s : Store) (cs : List Contribution) (slot : Slot) (ts : List (List Slot)) → value_from s cs slot ts ≡ by_target s cs slot (first_with slot ts)
unfolding by_target
from-first s cs slot [] = refl
from-first s cs slot (t ∷ ts) = by (has_slot slot t) (from-first s cs slot ts)
  where
    by : (b : Bool) → value_from s cs slot ts ≡ by_target s cs slot (first_with slot ts)
        → cond b (value_among slot t (values_or (reads s t) (target_taken s cs t)) (read s slot)) (value_from s cs slot ts) ≡ by_target s cs slot (cond b (Some t) (first_with slot ts))
    by true rest = refl
    by false rest = rest

-- the target of a slot
or_alone : Slot → Option (List Slot) → List Slot
or_alone slot None = slot ∷ []
or_alone slot (Some t) = t

target-first : (slot : Slot) (cs : List Contribution) → target_of slot cs ≡ or_alone slot (first_with slot (map (λ (x : Contribution). x.slots) cs))
unfolding or_alone
target-first slot [] = refl
target-first slot (c ∷ cs) = by (has_slot slot c.slots) (target-first slot cs)
  where
    by : (b : Bool) → target_of slot cs ≡ or_alone slot (first_with slot (map (λ (x : Contribution). x.slots) cs))
        → cond b c.slots (target_of slot cs) ≡ or_alone slot (cond b (Some c.slots) (first_with slot (map (λ (x : Contribution). x.slots) cs)))
    by true rest = refl
    by false rest = rest

-- where no target has a slot, no contribution is to it alone
alone-other : (slot : Slot) (t : List Slot) → has_slot slot t ≡ false → slots_eq (slot ∷ []) t ≡ false
alone-other slot t none =
    ⊎_elim
    (λ (same : slots_eq (slot ∷ []) t ≡ true).
    let has : has_slot slot t ≡ true = ap (has_slot slot) (sym (slots_eq-same (slot ∷ []) t same)) ∙ ap (λ b. b || false) (slot_eq-itself slot) in
    absurd (apart (sym has ∙ none)))
    (λ (other : slots_eq (slot ∷ []) t ≡ false). other)
    (cases_Bool (slots_eq (slot ∷ []) t))
  where
    apart : true ≡ false → ⊥
    apart h = cc

none-alone : (slot : Slot) (cs : List Contribution) → first_with slot (map (λ (x : Contribution). x.slots) cs) ≡ None → to_target (slot ∷ []) cs ≡ []
none-alone slot [] none = refl
none-alone slot (c ∷ cs) none = by (has_slot slot c.slots) refl (λ rest. none-alone slot cs rest)
  where
    apart : Some c.slots ≡ None → ⊥
    apart h = cc

    by : (b : Bool) → has_slot slot c.slots ≡ b → (first_with slot (map (λ (x : Contribution). x.slots) cs) ≡ None → to_target (slot ∷ []) cs ≡ []) → to_target (slot ∷ []) (c ∷ cs) ≡ []
    by true e others = absurd (apart (sym (ap (λ b. cond b (Some c.slots) (first_with slot (map (λ (x : Contribution). x.slots) cs))) e) ∙ none))
    by false e others =
        ap (λ b. cond b (c ∷ to_target (slot ∷ []) cs) (to_target (slot ∷ []) cs)) (alone-other slot c.slots e)
        ∙ others (sym (ap (λ b. cond b (Some c.slots) (first_with slot (map (λ (x : Contribution). x.slots) cs))) e) ∙ none)

after-first : (s : Store) (cs : List Contribution) (slot : Slot) (o : Option (List Slot)) → first_with slot (map (λ (x : Contribution). x.slots) cs) ≡ o
    → value_after s cs slot ≡ by_target s cs slot o
unfolding by_target or_alone
after-first s cs slot (Some t) e =
    ap (λ u. value_among slot u (values_or (reads s u) (target_taken s cs u)) (read s slot)) (target-first slot cs ∙ ap (or_alone slot) e)
after-first s cs slot None e =
    ap (λ u. value_among slot u (values_or (reads s u) (target_taken s cs u)) (read s slot)) (target-first slot cs ∙ ap (or_alone slot) e)
    ∙ ap (λ (l : List Contribution). value_among slot (slot ∷ []) (values_or (reads s (slot ∷ [])) (taken_onto (reads s (slot ∷ [])) l)) (read s slot)) (none-alone slot cs e)
    ∙ ap (λ b. cond b (read s slot) (read s slot)) (slot_eq-itself slot)

-- a slot holds what the first target that has it leaves it
pub from-targets : (s : Store) (cs : List Contribution) (slot : Slot) (ts : List (List Slot)) → first_with slot ts ≡ first_with slot (map (λ (x : Contribution). x.slots) cs)
    → value_from s cs slot ts ≡ value_after s cs slot
from-targets s cs slot ts same = from-first s cs slot ts ∙ ap (by_target s cs slot) same ∙ sym (after-first s cs slot (first_with slot (map (λ (x : Contribution). x.slots) cs)) refl)
