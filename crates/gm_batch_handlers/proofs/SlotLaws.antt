-- Slots settled with what one node gives.
use Rattle.std.proofs.Common.{◌≡◌, ◌≢◌, ◌∙◌, ◌<◌, ◌+◌, ℕ, suc, Bool, true, false, cond, ◌&&◌, ◌||◌, find, Option, Some, None, Result, Ok, List, [], ◌∷◌, refl, ap, sym, map, length, arith, add-one, ⊎_elim}
use Rattle.std.specs.Option.{option_map}
use Rattle.std.specs.List.{enumerate_from}
use Rattle.std.proofs.lemmas.Bool.{cases_eq, eq-eqb, ne_eqb}
use Rattle.gm_value.specs.declared.values.Value.{Value}
use Rattle.gm_value.specs.declared.reductions.Reduce.{Reduce}
use Rattle.gm_value.specs.Reductions.{close}
use Rattle.gm_value.specs.Taking.{of_rank, then_take, at_rank, taken_bag, taken}
use Rattle.gm_image.specs.Folds.{Reduction}
use Rattle.gm_machine.specs.declared.faults.Fault.{Fault}
use Rattle.gm_machine.specs.Expressions.{value_at}
use Rattle.gm_machine.specs.Faults.{then_go, lesser, least_from}
use Rattle.gm_machine.specs.Settling.{answer_of}
use Rattle.gm_machine.specs.Taking.{Contribution, closed, entry_of, fault_after, fault_of, first_reduction, has_slot, overflow_at, reduction_of, settled, Settled, slot_after, slot_by, to_target, value_after, value_or}
use Rattle.gm_machine.proofs.SingleSteps.{closed_first, firsts_of, in_list, taken-single}
use Rattle.gm_machine.proofs.TakingSteps.{taken-gap}
use Rattle.gm_batch_handlers.specs.Gifts.{Gift, contribution, to_slot, values_given, Closes, AreBy}

-- the reduction of the first gift
abbrev first-of : ℕ → List Gift → Option Reduction
first-of slot [] = None
first-of slot (g ∷ gs) = Some (record { reduce = g.reduce; slots = slot ∷ [] })

abbrev has : ℕ → Gift → Bool
has slot g = has_slot slot (contribution g)

has-yes : (slot : ℕ) (g : Gift) → g.slot ≡ slot → has slot g ≡ true
has-yes slot g e = ap (λ b. b || false) (eq-eqb g.slot slot e)

has-no : (slot : ℕ) (g : Gift) → g.slot ≢ slot → has slot g ≡ false
has-no slot g e = ap (λ b. b || false) (ne_eqb g.slot slot e)

first-is : (slot : ℕ) (gs : List Gift) → first_reduction slot (map contribution gs) ≡ first-of slot (to_slot slot gs)
first-is slot [] = refl
first-is slot (g ∷ gs) =
    ⊎_elim
    (λ (here : g.slot ≡ slot).
    ap (λ b. option_map reduction_of (cond b (Some (contribution g)) (find (has_slot slot) (map contribution gs)))) (has-yes slot g here)
    ∙ ap (λ s. Some (record { reduce = g.reduce; slots = s ∷ [] })) here
    ∙ sym (ap (λ b. first-of slot (cond b (g ∷ to_slot slot gs) (to_slot slot gs))) (eq-eqb g.slot slot here)))
    (λ (other : g.slot ≢ slot).
    ap (λ b. option_map reduction_of (cond b (Some (contribution g)) (find (has_slot slot) (map contribution gs)))) (has-no slot g other)
    ∙ first-is slot gs
    ∙ sym (ap (λ b. first-of slot (cond b (g ∷ to_slot slot gs) (to_slot slot gs))) (ne_eqb g.slot slot other)))
    (cases_eq g.slot slot)

-- the contributions to a slot
target-is : (slot : ℕ) (gs : List Gift) → to_target (slot ∷ []) (map contribution gs) ≡ map contribution (to_slot slot gs)
target-is slot [] = refl
target-is slot (g ∷ gs) =
    ⊎_elim
    (λ (here : g.slot ≡ slot).
    ap (λ b. cond (b && true) (contribution g ∷ to_target (slot ∷ []) (map contribution gs)) (to_target (slot ∷ []) (map contribution gs))) (eq-eqb g.slot slot here)
    ∙ ap (λ l. contribution g ∷ l) (target-is slot gs)
    ∙ sym (ap (λ b. map contribution (cond b (g ∷ to_slot slot gs) (to_slot slot gs))) (eq-eqb g.slot slot here)))
    (λ (other : g.slot ≢ slot).
    ap (λ b. cond (b && true) (contribution g ∷ to_target (slot ∷ []) (map contribution gs)) (to_target (slot ∷ []) (map contribution gs))) (ne_eqb g.slot slot other)
    ∙ target-is slot gs
    ∙ sym (ap (λ b. map contribution (cond b (g ∷ to_slot slot gs) (to_slot slot gs))) (ne_eqb g.slot slot other)))
    (cases_eq g.slot slot)

-- contributions of one place of the image
abbrev rank : Contribution → ℕ
rank c = c.place

rank-all : (r : Reduce) (place : ℕ) (gs : List Gift) → AreBy r place gs → of_rank rank place (map contribution gs) ≡ map contribution gs
rank-all r place [] h = refl
rank-all r place (g ∷ gs) h =
    ap (λ b. cond b (contribution g ∷ of_rank rank place (map contribution gs)) (of_rank rank place (map contribution gs))) (eq-eqb g.place place h.0.1)
    ∙ ap (λ l. contribution g ∷ l) (rank-all r place gs h.1)

rank-none : (r : Reduce) (place s : ℕ) (gs : List Gift) → place ≢ s → AreBy r place gs → of_rank rank s (map contribution gs) ≡ []
rank-none r place s [] other h = refl
rank-none r place s (g ∷ gs) other h =
    ap (λ b. cond b (contribution g ∷ of_rank rank s (map contribution gs)) (of_rank rank s (map contribution gs))) (ne_eqb g.place s (λ e. other (sym h.0.1 ∙ e)))
    ∙ rank-none r place s gs other h.1

firsts-are : (h : Value) (gs : List Gift) → firsts_of h (map contribution gs) ≡ values_given gs
firsts-are h [] = refl
firsts-are h (g ∷ gs) = ap (λ l. g.value ∷ l) (firsts-are h gs)

-- they are taken at once
taken-once : (places place : ℕ) (r : Reduce) (h new : Value) (g : Gift) (gs : List Gift) → place < places → AreBy r place (g ∷ gs) → close r h (values_given (g ∷ gs)) ≡ Ok new
    → taken rank (closed_first r) places h (map contribution (g ∷ gs)) ≡ Ok new
taken-once places place r h new g gs lt by closes =
    let cs = map contribution (g ∷ gs) in
    taken-gap rank (closed_first r) (place + 1) places h cs (omega (arith, lt)) (λ s low high. rank-none r place s (g ∷ gs) (λ e. absurd (omega (arith, e, low))) by)
    ∙ ap (λ k. taken rank (closed_first r) k h cs) (add-one place)
    ∙ ap (λ e. then_take e (λ v. taken_bag (closed_first r) place v (of_rank rank place cs)))
    (taken-gap rank (closed_first r) 0 place h cs (omega arith) (λ s low high. rank-none r place s (g ∷ gs) (λ e. absurd (omega (arith, e, high))) by))
    ∙ ap (λ l. taken_bag (closed_first r) place h l) (rank-all r place (g ∷ gs) by)
    ∙ ap (λ l. at_rank place (answer_of (close r h l))) (firsts-are h (g ∷ gs))
    ∙ ap (λ a. at_rank place (answer_of a)) closes

-- a slot to which nothing is given
pub slot-kept : (places slot : ℕ) (held : List Value) (gs : List Gift) → to_slot slot gs ≡ [] → slot_after places (map contribution gs) held slot ≡ Ok (value_at held slot)
slot-kept places slot held gs none =
    ap (slot_by places (map contribution gs) held slot) (first-is slot gs ∙ ap (first-of slot) none)

-- a slot after what is given to it
given-to : (places place slot : ℕ) (r : Reduce) (held : List Value) (gs l : List Gift) (new : Value) → place < places → to_slot slot gs ≡ l → AreBy r place l
    → Closes r (value_at held slot) (values_given l) new → slot_after places (map contribution gs) held slot ≡ Ok new
given-to places place slot r held gs [] new lt are by closes = slot-kept places slot held gs are ∙ ap Ok (sym closes)
given-to places place slot r held gs (g ∷ l) new lt are by closes =
    let h = value_at held slot in
    let entry : Result (List Value) ℕ → Result Value Fault = λ e. then_go (overflow_at e) (λ vs. Ok (entry_of slot (slot ∷ []) vs h)) in
    ap (slot_by places (map contribution gs) held slot) (first-is slot gs ∙ ap (first-of slot) are ∙ ap (λ q. Some (record { reduce = q; slots = slot ∷ [] })) by.0.0)
    ∙ ap (λ cs. entry (taken rank (closed r) places (h ∷ []) cs)) (target-is slot gs ∙ ap (map contribution) are)
    ∙ ap entry (taken-single r places h (map contribution (g ∷ l)) ∙ ap in_list (taken-once places place r h new g l lt by closes))
    ∙ ap (λ b. Ok (cond b new h)) (eq-eqb slot slot refl)

pub slot-closes : (places place slot : ℕ) (r : Reduce) (held : List Value) (gs : List Gift) (new : Value) → place < places → AreBy r place (to_slot slot gs)
    → Closes r (value_at held slot) (values_given (to_slot slot gs)) new → slot_after places (map contribution gs) held slot ≡ Ok new
slot-closes places place slot r held gs new lt by closes = given-to places place slot r held gs (to_slot slot gs) new lt refl by closes

-- all slots
module _ (places : ℕ) (cs : List Contribution) (held : List Value) where
  here : (i : ℕ) (ys : List Value) (n : ℕ) → ((k : ℕ) → k < suc n → slot_after places cs held (i + k) ≡ Ok (value_at ys k)) → slot_after places cs held i ≡ Ok (value_at ys 0)
  here i ys n h = ap (slot_after places cs held) (let e : i ≡ i + 0 = omega arith in e) ∙ h 0 (omega arith)

  rest : (i : ℕ) (y : Value) (ys : List Value) (n : ℕ) → ((k : ℕ) → k < suc n → slot_after places cs held (i + k) ≡ Ok (value_at (y ∷ ys) k))
      → (k : ℕ) → k < n → slot_after places cs held ((i + 1) + k) ≡ Ok (value_at ys k)
  rest i y ys n h k lt = ap (slot_after places cs held) (let e : (i + 1) + k ≡ i + suc k = omega arith in e) ∙ h (suc k) (omega (arith, lt))

  all-values-after : (i : ℕ) (xs ys : List Value) → length ys ≡ length xs → ((k : ℕ) → k < length xs → slot_after places cs held (i + k) ≡ Ok (value_at ys k))
      → map (value_after places cs held) (enumerate_from i xs) ≡ ys
  all-values-after i [] [] long h = refl
  all-values-after i [] (y ∷ ys) long h = absurd (omega (arith, long))
  all-values-after i (x ∷ xs) [] long h = absurd (omega (arith, long))
  all-values-after i (x ∷ xs) (y ∷ ys) long h =
      λ j. value_or x (here i (y ∷ ys) (length xs) h j) ∷ all-values-after (i + 1) xs ys (omega (arith, long)) (rest i y ys (length xs) h) j

  no-faults-after : (i : ℕ) (xs ys : List Value) → length ys ≡ length xs → ((k : ℕ) → k < length xs → slot_after places cs held (i + k) ≡ Ok (value_at ys k))
      → least_from None (map (fault_after places cs held) (enumerate_from i xs)) ≡ None
  no-faults-after i [] ys long h = refl
  no-faults-after i (x ∷ xs) [] long h = absurd (omega (arith, long))
  no-faults-after i (x ∷ xs) (y ∷ ys) long h =
      ap (λ r. least_from (lesser None (fault_of r)) (map (fault_after places cs held) (enumerate_from (i + 1) xs))) (here i (y ∷ ys) (length xs) h)
      ∙ no-faults-after (i + 1) xs ys (omega (arith, long)) (rest i y ys (length xs) h)

  pub settled-is : (new : List Value) → length new ≡ length held → ((slot : ℕ) → slot < length held → slot_after places cs held slot ≡ Ok (value_at new slot))
      → settled places cs held ≡ record { values = new; fault = None }
  settled-is new long h =
      let to : List Value → Option Fault → Settled = λ vs f. record { values = vs; fault = f } in
      let from-start : (k : ℕ) → k < length held → slot_after places cs held (0 + k) ≡ Ok (value_at new k) =
      λ k lt. ap (slot_after places cs held) (let e : 0 + k ≡ k = omega arith in e) ∙ h k lt in
      λ j. to (all-values-after 0 held new long from-start j) (no-faults-after 0 held new long from-start j)
