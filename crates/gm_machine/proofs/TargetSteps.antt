-- Steps along parts, for a target of several slots.
use Rattle.std.proofs.Common.{◌≡◌, ◌<◌, ◌≤◌, ◌+◌, ◌-◌, ℕ, zero, suc, ℤ, Bool, true, false, cond, nat_eq, Option, Some, None, Result, Ok, Err, List, [], ◌∷◌, ◌++◌, map, find, length, take, drop, get_or, add-one, append_assoc, refl, sym, ap, subst, ◌∙◌, arith, ⊎_elim}
use Rattle.std.specs.Prelude.{◌&&◌, ◌||◌, slice_index_or, slice_get, slice_range}
use Rattle.std.specs.Option.{option_map}
use Rattle.std.proofs.lemmas.Bool.{cases_Bool, eq-eqb, ne_eqb, cases_eq, eqb-true}
use Rattle.std.proofs.lemmas.List.{drop_more, drop_all, append-nil, length-drop, length-take-le, length-map}
use Rattle.gm_value.specs.declared.values.Value.{Value}
use Rattle.gm_value.specs.declared.values.Value.TheVariants.{At}
use Rattle.gm_value.specs.declared.faults.FaultKind.{FaultKind}
use Rattle.gm_value.specs.declared.faults.FaultKind.TheVariants.{Overflow}
use Rattle.gm_value.specs.declared.reductions.Reduce.{Reduce}
use Rattle.gm_value.specs.Bag.{same_swap}
use Rattle.gm_value.specs.Numbers.{number_of, type_of, checked}
use Rattle.gm_value.specs.Taking.{of_rank, then_take, at_rank, taken_bag, taken}
use Rattle.gm_value.specs.Tuples.{replaces, kept, best, with_value, values_at, close_slots}
use Rattle.gm_value.proofs.TupleLaws.{best-permuted}
use Rattle.gm_image.specs.Parts.{is_among}
use Rattle.gm_image.specs.Folds.{Reduction, same_numbers}
use Rattle.gm_machine.specs.declared.faults.Fault.{Fault}
use Rattle.gm_machine.specs.declared.contributions.ContributionPart.{ContributionPart}
use Rattle.gm_machine.specs.Expressions.{value_at}
use Rattle.gm_machine.specs.Taking.{Contribution, has_slot, reduction_of, first_reduction, to_target, closed, overflow_at, target_after, entry_of, slot_by, slot_after}
use Rattle.gm_machine.specs.Contributions.{contribution_of, begins, contributions_of, AreWhole}
use Rattle.gm_machine.specs.Settling.{to_slot, reduced, slots_in, are_to, begin_with, contribution_at, at_place, tuples_at, better, kept_entry, are_some, if_all, BeginsAt, IsFirst, ComesAfter}
use Rattle.gm_machine.proofs.LineSteps.{drop-got}
use Rattle.gm_machine.proofs.SingleSteps.{slot-single}
use Rattle.gm_machine.proofs.TakingSteps.{taken-gap, taken-fault}

and-false : (a : Bool) → a && false ≡ false
and-false true = refl
and-false false = refl

-- the parts of a contribution are there
pub whole-at : (parts : List ContributionPart) (i : ℕ) (d : ContributionPart) → AreWhole parts → i < length parts → i + (get_or parts i d).width ≤ length parts
whole-at [] i d whole l = absurd (omega arith)
whole-at (p ∷ parts) zero d whole l = omega (arith, whole.0)
whole-at (p ∷ parts) (suc i) d whole l = let rest : i + (get_or parts i d).width ≤ length parts = whole-at parts i d whole.1 (omega arith) in omega arith

-- parts from an index on, so many
pub range-is : (parts : List ContributionPart) (i width : ℕ) → slice_range parts i (i + width) ≡ take width (drop i parts)
range-is parts i width = let e : (i + width) - i ≡ width = omega arith in ap (λ n. take n (drop i parts)) e

-- so many parts are that many
pub range-length : (parts : List ContributionPart) (i width : ℕ) → i + width ≤ length parts → length (take width (drop i parts)) ≡ width
range-length parts i width h = length-take-le width (drop i parts) (omega (arith, length-drop i parts))

-- the first contribution that has a slot, given the first part
found-by : (slot : ℕ) (p : ContributionPart) (parts : List ContributionPart) (cs : List Contribution) (w : ℕ) →
    find (has_slot slot) (begins w p parts cs) ≡ cond (is_among slot (slots_in (take w (p ∷ parts)))) (Some (contribution_of p (take w (p ∷ parts)))) (find (has_slot slot) cs)
found-by slot p parts cs zero = refl
found-by slot p parts cs (suc more) = refl

module _ (slot : ℕ) (parts : List ContributionPart) (i : ℕ) (d : ContributionPart) (within : i < length parts)
    (so_far : find (has_slot slot) (contributions_of (drop i parts)) ≡ find (has_slot slot) (contributions_of parts)) where
  abbrev first : ContributionPart
  first = get_or parts i d

  here : find (has_slot slot) (contributions_of parts)
      ≡ cond (is_among slot (slots_in (take first.width (drop i parts)))) (Some (contribution_at parts i first)) (find (has_slot slot) (contributions_of (drop (i + 1) parts)))
  here =
      sym so_far
      ∙ ap (λ ps. find (has_slot slot) (contributions_of ps)) (drop_more parts i d within)
      ∙ found-by slot first (drop (i + 1) parts) (contributions_of (drop (i + 1) parts)) first.width
      ∙ ap (λ ps. cond (is_among slot (slots_in (take first.width ps))) (Some (contribution_of first (take first.width ps))) (find (has_slot slot) (contributions_of (drop (i + 1) parts)))) (sym (drop_more parts i d within))

  pub first-not : is_among slot (slots_in (take first.width (drop i parts))) ≡ false → find (has_slot slot) (contributions_of (drop (i + 1) parts)) ≡ find (has_slot slot) (contributions_of parts)
  first-not lacks = sym (here ∙ ap (λ b. cond b (Some (contribution_at parts i first)) (find (has_slot slot) (contributions_of (drop (i + 1) parts)))) lacks)

  pub first-here : is_among slot (slots_in (take first.width (drop i parts))) ≡ true → find (has_slot slot) (contributions_of parts) ≡ Some (contribution_at parts i first)
  first-here has = here ∙ ap (λ b. cond b (Some (contribution_at parts i first)) (find (has_slot slot) (contributions_of (drop (i + 1) parts)))) has

get_or-same : (parts : List ContributionPart) (i : ℕ) (d e : ContributionPart) → i < length parts → get_or parts i d ≡ get_or parts i e
get_or-same [] i d e l = absurd (omega arith)
get_or-same (p ∷ parts) zero d e l = refl
get_or-same (p ∷ parts) (suc i) d e l = get_or-same parts i d e (omega arith)

pub first-is : (slot : ℕ) (parts : List ContributionPart) (i : ℕ) (d : ContributionPart) → i < length parts →
    find (has_slot slot) (contributions_of (drop i parts)) ≡ find (has_slot slot) (contributions_of parts) →
    is_among slot (slots_in (take (get_or parts i d).width (drop i parts))) ≡ true → BeginsAt slot parts i
first-is slot parts i d within so_far has = record {
  within = within;
  has = λ e. ap (λ (p : ContributionPart). is_among slot (slots_in (take p.width (drop i parts)))) (get_or-same parts i e d within) ∙ has;
  first = λ e. first-here slot parts i d within so_far has ∙ ap (λ p. Some (contribution_at parts i p)) (get_or-same parts i d e within);
}

-- the contributions to a target, given the first part
target-by : (slots : List ℕ) (p : ContributionPart) (parts : List ContributionPart) (cs : List Contribution) (w : ℕ) →
    to_target slots (begins w p parts cs) ≡ cond (are_to w slots p parts) (contribution_of p (take w (p ∷ parts)) ∷ to_target slots cs) (to_target slots cs)
target-by slots p parts cs zero = refl
target-by slots p parts cs (suc more) = refl

module _ (s : ℕ) (slots : List ℕ) (parts : List ContributionPart) (i : ℕ) (d : ContributionPart) (within : i < length parts) where
  abbrev begin : ContributionPart
  begin = get_or parts i d

  abbrev rest : List ContributionPart
  rest = drop (i + 1) parts

  split : at_place s slots (drop i parts)
      ≡ of_rank (λ c. c.place) s (cond (begin_with slots (drop i parts)) (contribution_at parts i begin ∷ to_target slots (contributions_of rest)) (to_target slots (contributions_of rest)))
  split =
      ap (at_place s slots) (drop_more parts i d within)
      ∙ ap (of_rank (λ c. c.place) s) (target-by slots begin rest (contributions_of rest) begin.width)
      ∙ ap (λ ps. of_rank (λ c. c.place) s (cond (begin_with slots ps) (contribution_of begin (take begin.width ps) ∷ to_target slots (contributions_of rest)) (to_target slots (contributions_of rest))))
      (sym (drop_more parts i d within))

  pub at-hit : begin_with slots (drop i parts) ≡ true → begin.place ≡ s → at_place s slots (drop i parts) ≡ contribution_at parts i begin ∷ at_place s slots rest
  at-hit begun now =
      split
      ∙ ap (λ b. of_rank (λ c. c.place) s (cond b (contribution_at parts i begin ∷ to_target slots (contributions_of rest)) (to_target slots (contributions_of rest)))) begun
      ∙ ap (λ b. cond b (contribution_at parts i begin ∷ at_place s slots rest) (at_place s slots rest)) (eq-eqb begin.place s now)

  pub at-other : (begin_with slots (drop i parts) ≡ true → begin.place ≡ s → ⊥) → at_place s slots (drop i parts) ≡ at_place s slots rest
  at-other not =
      ⊎_elim
      (λ (begun : begin_with slots (drop i parts) ≡ true).
      split
      ∙ ap (λ b. of_rank (λ c. c.place) s (cond b (contribution_at parts i begin ∷ to_target slots (contributions_of rest)) (to_target slots (contributions_of rest)))) begun
      ∙ ap (λ b. cond b (contribution_at parts i begin ∷ at_place s slots rest) (at_place s slots rest)) (ne_eqb begin.place s (not begun)))
      (λ (none : begin_with slots (drop i parts) ≡ false).
      split
      ∙ ap (λ b. of_rank (λ c. c.place) s (cond b (contribution_at parts i begin ∷ to_target slots (contributions_of rest)) (to_target slots (contributions_of rest)))) none)
      (cases_Bool (begin_with slots (drop i parts)))

-- whether parts from an index on begin with a contribution to some slots, where their width is known
numbers-differ : (xs ys : List ℕ) → (length xs ≡ length ys → ⊥) → same_numbers xs ys ≡ false
numbers-differ [] [] differs = absurd (differs refl)
numbers-differ [] (y ∷ ys) differs = refl
numbers-differ (x ∷ xs) [] differs = refl
numbers-differ (x ∷ xs) (y ∷ ys) differs = ap (λ b. nat_eq x y && b) (numbers-differ xs ys (λ same. differs (ap suc same))) ∙ and-false (nat_eq x y)

are-some : (w : ℕ) (slots : List ℕ) (p : ContributionPart) (ps : List ContributionPart) → 1 ≤ w → are_to w slots p ps ≡ same_numbers (slots_in (take w (p ∷ ps))) slots
are-some zero slots p ps some = absurd (omega arith)
are-some (suc more) slots p ps some = refl

module _ (slots : List ℕ) (parts : List ContributionPart) (i : ℕ) (d : ContributionPart) (within : i < length parts) where
  begins-if : 1 ≤ (get_or parts i d).width → begin_with slots (drop i parts) ≡ same_numbers (slots_in (take (get_or parts i d).width (drop i parts))) slots
  begins-if some =
      ap (begin_with slots) (drop_more parts i d within)
      ∙ are-some (get_or parts i d).width slots (get_or parts i d) (drop (i + 1) parts) some
      ∙ ap (λ ps. same_numbers (slots_in (take (get_or parts i d).width ps)) slots) (sym (drop_more parts i d within))

  pub begins-there : (result : Bool) → 1 ≤ (get_or parts i d).width → result ≡ same_numbers (slots_in (slice_range parts i (i + (get_or parts i d).width))) slots → result ≡ begin_with slots (drop i parts)
  begins-there result some is = is ∙ ap (λ ps. same_numbers (slots_in ps) slots) (range-is parts i (get_or parts i d).width) ∙ sym (begins-if some)

  pub begins-not : AreWhole parts → ((get_or parts i d).width ≡ length slots → ⊥) → false ≡ begin_with slots (drop i parts)
  begins-not whole other =
      ⊎_elim
      (λ (none : (get_or parts i d).width ≡ 0).
      sym (ap (begin_with slots) (drop_more parts i d within) ∙ ap (λ w. are_to w slots (get_or parts i d) (drop (i + 1) parts)) none))
      (λ (some : (get_or parts i d).width ≡ 0 → ⊥).
      let one : 1 ≤ (get_or parts i d).width = omega (arith, some) in
      let long : length (slots_in (take (get_or parts i d).width (drop i parts))) ≡ (get_or parts i d).width =
      length-map (take (get_or parts i d).width (drop i parts)) (λ p. p.slot) ∙ range-length parts i (get_or parts i d).width (whole-at parts i d whole within) in
      sym (begins-if one ∙ numbers-differ (slots_in (take (get_or parts i d).width (drop i parts))) slots (λ same. other (sym long ∙ same))))
      (cases_eq (get_or parts i d).width 0)

-- the places before the next one have no contributions, if the parts from an index on give none there
abbrev pub ComesBy : ℕ → ℕ → List ℕ → List ContributionPart → ℕ → Type 0
ComesBy from next slots parts i = (s : ℕ) → from ≤ s → s < next → at_place s slots (drop i parts) ≡ [] → at_place s slots parts ≡ []

pub comes-more : (from next new : ℕ) (slots : List ℕ) (parts : List ContributionPart) (i : ℕ) (d : ContributionPart) → i < length parts → new ≤ next →
    ((s : ℕ) → from ≤ s → s < new → begin_with slots (drop i parts) ≡ true → (get_or parts i d).place ≡ s → ⊥) →
    ComesBy from next slots parts i → ComesBy from new slots parts (i + 1)
comes-more from next new slots parts i d within less not so_far = λ s low high none.
    so_far s low (omega arith) (at-other s slots parts i d within (not s low high) ∙ none)

pub comes-all : (from next : ℕ) (slots : List ℕ) (parts : List ContributionPart) (i : ℕ) → length parts ≤ i → ComesBy from next slots parts i → ComesAfter from next slots parts
comes-all from next slots parts i end so_far = λ s low high. so_far s low high (ap (at_place s slots) (drop_all i parts end))

-- the best of tuples, the first one compared first
best-exchange : (r : Reduce) (b t u : List ℤ) → kept r (kept r b t) u ≡ kept r (kept r b u) t
best-exchange r b t u = best-permuted r b (same_swap u t [])

pub best-first : (r : Reduce) (b t : List ℤ) (tuples : List (List ℤ)) → best r (kept r b t) tuples ≡ best r b (t ∷ tuples)
best-first r b t [] = refl
best-first r b t (u ∷ tuples) = ap (λ x. kept r x u) (best-first r b t tuples) ∙ best-exchange r (best r b tuples) t u

-- what is found with the parts from an index on is what is found with all
pub record IsBestTo (r : Reduce) (place : ℕ) (slots : List ℕ) (held : List Value) (parts : List ContributionPart) (i : ℕ) (found : Bool) (row : List Value) : Type 0 where
  pub some : (found || are_some (tuples_at place slots (drop i parts))) ≡ are_some (tuples_at place slots parts)
  pub best_is : best r (map number_of row) (tuples_at place slots (drop i parts)) ≡ best r (map number_of held) (tuples_at place slots parts)

chosen-numbers : (next row : List Value) (b : Bool) → map number_of (cond b next row) ≡ cond b (map number_of next) (map number_of row)
chosen-numbers next row true = refl
chosen-numbers next row false = refl

or-true : (b : Bool) → b || true ≡ true
or-true true = refl
or-true false = refl

module _ (r : Reduce) (place : ℕ) (slots : List ℕ) (held : List Value) (parts : List ContributionPart) (i : ℕ) (d : ContributionPart) (found : Bool) (row : List Value)
    (within : i < length parts) (so_far : IsBestTo r place slots held parts i found row) where
  pub best-same : (begin_with slots (drop i parts) ≡ true → (get_or parts i d).place ≡ place → ⊥) → IsBestTo r place slots held parts (i + 1) found row
  best-same not =
      let same : tuples_at place slots (drop i parts) ≡ tuples_at place slots (drop (i + 1) parts) =
      ap (λ cs. map (map number_of) (map (λ c. c.values) cs)) (at-other place slots parts i d within not) in
      record {
        some = ap (λ ts. found || are_some ts) (sym same) ∙ so_far.some;
        best_is = ap (best r (map number_of row)) (sym same) ∙ so_far.best_is;
      }

  pub best-more : (new : List Value) → begin_with slots (drop i parts) ≡ true → (get_or parts i d).place ≡ place →
      new ≡ better r row (map (λ p. p.value) (take (get_or parts i d).width (drop i parts))) →
      IsBestTo r place slots held parts (i + 1) true new
  best-more new begun now new_is =
      let next : List Value = map (λ p. p.value) (take (get_or parts i d).width (drop i parts)) in
      let t : List ℤ = map number_of next in
      let left : List (List ℤ) = tuples_at place slots (drop (i + 1) parts) in
      let split : tuples_at place slots (drop i parts) ≡ t ∷ left =
      ap (λ cs. map (map number_of) (map (λ c. c.values) cs)) (at-hit place slots parts i d within begun now) in
      let chosen : map number_of new ≡ kept r (map number_of row) t = ap (map number_of) new_is ∙ chosen-numbers next row (replaces r (map number_of row) t) in
      record {
        some = sym (ap (λ ts. found || are_some ts) split ∙ or-true found) ∙ so_far.some;
        best_is =
            ap (λ b. best r b left) chosen
            ∙ best-first r (map number_of row) t left
            ∙ ap (best r (map number_of row)) (sym split)
            ∙ so_far.best_is;
      }

pub best-all : (r : Reduce) (place : ℕ) (slots : List ℕ) (held : List Value) (parts : List ContributionPart) (i : ℕ) (found : Bool) (row : List Value) → length parts ≤ i →
    IsBestTo r place slots held parts i found row →
    (found ≡ are_some (tuples_at place slots parts)) × (map number_of row ≡ best r (map number_of held) (tuples_at place slots parts))
best-all r place slots held parts i found row end to =
    let none : tuples_at place slots (drop i parts) ≡ [] = ap (tuples_at place slots) (drop_all i parts end) in (
      sym (ap (λ ts. found || are_some ts) none ∙ off found) ∙ to.some,
      ap (best r (map number_of row)) (sym none) ∙ to.best_is,
    )
  where
    off : (b : Bool) → b || false ≡ b
    off true = refl
    off false = refl

-- values kept so far, and those that are left
abbrev pub kept_then : List Value → Option (List Value) → Option (List Value)
kept_then done None = None
kept_then done (Some values) = Some (done ++ values)

kept-value : (done : List Value) (v : Value) (o : Option (List Value)) → kept_then done (with_value (Ok v) o) ≡ kept_then (done ++ v ∷ []) o
kept-value done v None = refl
kept-value done v (Some vs) = ap Some (sym (append_assoc done (v ∷ []) vs))

kept-left : (done : List Value) (v : Value) (held : List Value) → kept_then done (Some (v ∷ held)) ≡ kept_then (done ++ v ∷ []) (values_at held [])
kept-left done v [] = ap Some (sym (append-nil (done ++ v ∷ [])))
kept-left done v (u ∷ held) = ap Some (sym (append_assoc done (v ∷ []) (u ∷ held)))

-- the values of a tuple that are left from an index on
abbrev pub left_at : List Value → List Value → ℕ → Option (List Value)
left_at held tuple i = values_at (drop i held) (map number_of (drop i tuple))

got-there : (tuple : List Value) (i : ℕ) (entry : Value) → slice_get tuple i ≡ Some entry → drop i tuple ≡ entry ∷ drop (i + 1) tuple
got-there tuple i entry is = drop-got tuple i entry is ∙ ap (λ n. entry ∷ drop n tuple) (sym (add-one i))

none-left : (tuple : List Value) (i : ℕ) → slice_get tuple i ≡ None → (drop i tuple ≡ []) × (drop (suc i) tuple ≡ [])
none-left [] zero is = (refl, refl)
none-left [] (suc i) is = (refl, refl)
none-left (x ∷ tuple) zero is = cc
none-left (x ∷ tuple) (suc i) is = none-left tuple i is

got-none : (tuple : List Value) (i : ℕ) → slice_get tuple i ≡ None → (drop i tuple ≡ []) × (drop (i + 1) tuple ≡ [])
got-none tuple i is = let both = none-left tuple i is in (both.0, ap (λ n. drop n tuple) (add-one i) ∙ both.1)

-- one more entry
pub keep-more : (held tuple done new : List Value) (i : ℕ) (d v : Value) (all : Option (List Value)) → i < length held →
    Ok v ≡ kept_entry (get_or held i d) (slice_get tuple i) → new ≡ done ++ v ∷ [] → kept_then done (left_at held tuple i) ≡ all → kept_then new (left_at held tuple (i + 1)) ≡ all
keep-more held tuple done new i d v all within fits pushed so_far = by (slice_get tuple i) refl fits where
  x : Value
  x = get_or held i d

  here : drop i held ≡ x ∷ drop (i + 1) held
  here = drop_more held i d within

  by : (o : Option Value) → slice_get tuple i ≡ o → Ok v ≡ kept_entry x o → kept_then new (left_at held tuple (i + 1)) ≡ all
  by (Some entry) at is =
      let there : drop i tuple ≡ entry ∷ drop (i + 1) tuple = got-there tuple i entry at in
      ap (λ vs. kept_then vs (left_at held tuple (i + 1))) pushed
      ∙ sym (kept-value done v (left_at held tuple (i + 1)))
      ∙ ap (λ e. kept_then done (with_value e (left_at held tuple (i + 1)))) is
      ∙ ap (λ vs. kept_then done (values_at (x ∷ drop (i + 1) held) (map number_of vs))) (sym there)
      ∙ ap (λ vs. kept_then done (values_at vs (map number_of (drop i tuple)))) (sym here)
      ∙ so_far
  by None at is =
      let ended : (drop i tuple ≡ []) × (drop (i + 1) tuple ≡ []) = got-none tuple i at in
      let same : v ≡ x = cc in
      ap (λ vs. kept_then vs (left_at held tuple (i + 1))) (pushed ∙ ap (λ y. done ++ y ∷ []) same)
      ∙ ap (λ vs. kept_then (done ++ x ∷ []) (values_at (drop (i + 1) held) (map number_of vs))) ended.1
      ∙ sym (kept-left done x (drop (i + 1) held))
      ∙ ap (λ vs. kept_then done (values_at (x ∷ drop (i + 1) held) (map number_of vs))) (sym ended.0)
      ∙ ap (λ vs. kept_then done (values_at vs (map number_of (drop i tuple)))) (sym here)
      ∙ so_far

-- one that is out of range
pub keep-none : (held tuple done : List Value) (i : ℕ) (d : Value) (kind : FaultKind) (all : Option (List Value)) → i < length held →
    Err kind ≡ kept_entry (get_or held i d) (slice_get tuple i) → kept_then done (left_at held tuple i) ≡ all → all ≡ None
keep-none held tuple done i d kind all within fails so_far = by (slice_get tuple i) refl fails where
  by : (o : Option Value) → slice_get tuple i ≡ o → Err kind ≡ kept_entry (get_or held i d) o → all ≡ None
  by (Some entry) at is =
      sym so_far
      ∙ ap (λ vs. kept_then done (values_at vs (map number_of (drop i tuple)))) (drop_more held i d within)
      ∙ ap (λ vs. kept_then done (values_at (get_or held i d ∷ drop (i + 1) held) (map number_of vs))) (got-there tuple i entry at)
      ∙ ap (λ e. kept_then done (with_value e (left_at held tuple (i + 1)))) (sym is)
  by None at is = cc

pub keep-all : (held tuple done : List Value) (i : ℕ) (all : Option (List Value)) → length held ≤ i → kept_then done (left_at held tuple i) ≡ all → all ≡ Some done
keep-all held tuple done i all end so_far =
    sym so_far ∙ ap (λ vs. kept_then done (values_at vs (map number_of (drop i tuple)))) (drop_all i held end) ∙ ap Some (append-nil done)

-- several slots are closed with the best tuple
pub closed-several : (r : Reduce) (held : List Value) (cs : List Contribution) → 2 ≤ length held →
    closed r held cs ≡ values_at held (best r (map number_of held) (map (map number_of) (map (λ c. c.values) cs)))
closed-several r [] cs many = absurd (omega arith)
closed-several r (v ∷ []) cs many = absurd (omega arith)
closed-several r (v ∷ (w ∷ held)) cs many = refl

with-length : (n : ℕ) (e : Result Value FaultKind) (o : Option (List Value)) (new : List Value) → ((vs : List Value) → o ≡ Some vs → length vs ≡ n) → with_value e o ≡ Some new → length new ≡ suc n
with-length n (Ok v) (Some vs) new long is = let same : new ≡ v ∷ vs = cc in ap length same ∙ ap suc (long vs refl)
with-length n (Ok v) None new long is = cc
with-length n (Err kind) o new long is = cc

pub values-length : (held : List Value) (tuple : List ℤ) (new : List Value) → values_at held tuple ≡ Some new → length new ≡ length held
values-length [] tuple new is = let same : new ≡ [] = cc in ap length same
values-length (v ∷ held) [] new is = let same : new ≡ v ∷ held = cc in ap length same
values-length (v ∷ held) (n ∷ tuple) new is = with-length (length held) (checked (type_of v) n) (values_at held tuple) new (values-length held tuple) is

-- and several stay several
pub still-several : (held : List Value) (tuple : List ℤ) (next : List Value) (all : Bool) → 2 ≤ length held → values_at held tuple ≡ if_all all next → all ≡ true → 2 ≤ length next
still-several held tuple next true many is yes_all = omega (arith, many, values-length held tuple next is)
still-several held tuple next false many is yes_all = cc

-- what the taking comes to at the next place
module _ (r : Reduce) (slots : List ℕ) (start : List Value) (parts : List ContributionPart) where
  abbrev pub taken_to : ℕ → Result (List Value) ℕ
  taken_to n = taken (λ c. c.place) (closed r) n start (to_target slots (contributions_of parts))

  pub target-start : (next : ℕ) → ComesAfter 0 next slots parts → taken_to next ≡ Ok start
  target-start next none = taken-gap (λ c. c.place) (closed r) 0 next start (to_target slots (contributions_of parts)) (omega arith) (λ s low high. none s low high)

  pub target-gap : (from next : ℕ) → from ≤ next → ComesAfter from next slots parts → taken_to next ≡ taken_to from
  target-gap from next up none = taken-gap (λ c. c.place) (closed r) from next start (to_target slots (contributions_of parts)) up (λ s low high. none s low high)

  -- what the taking of a place's contributions comes to
  pub target-place : (place : ℕ) (held : List Value) (e : Result (List Value) ℕ) → taken_to place ≡ Ok held → taken_bag (closed r) place held (at_place place slots parts) ≡ e → taken_to (place + 1) ≡ e
  target-place place held e so_far is = ap taken_to (add-one place) ∙ ap (λ e. then_take e (λ v. taken_bag (closed r) place v (at_place place slots parts))) so_far ∙ is

  -- no tuple is there
  pub bag-none : (place : ℕ) (held : List Value) → false ≡ are_some (tuples_at place slots parts) → taken_bag (closed r) place held (at_place place slots parts) ≡ Ok held
  bag-none place held none = by (at_place place slots parts) none where
    by : (cs : List Contribution) → false ≡ are_some (map (map number_of) (map (λ c. c.values) cs)) → taken_bag (closed r) place held cs ≡ Ok held
    by [] empty = refl
    by (c ∷ cs) empty = cc

  -- the best tuple is taken
  pub bag-some : (place : ℕ) (held row next : List Value) (all : Bool) → 2 ≤ length held → true ≡ are_some (tuples_at place slots parts) →
      map number_of row ≡ best r (map number_of held) (tuples_at place slots parts) → values_at held (map number_of row) ≡ if_all all next →
      taken_bag (closed r) place held (at_place place slots parts) ≡ at_rank place (if_all all next)
  bag-some place held row next all many some row_is next_is =
      by (at_place place slots parts) some
      ∙ ap (at_rank place) (closed-several r held (at_place place slots parts) many ∙ ap (values_at held) (sym row_is) ∙ next_is)
    where
      by : (cs : List Contribution) → true ≡ are_some (map (map number_of) (map (λ c. c.values) cs)) → taken_bag (closed r) place held cs ≡ at_rank place (closed r held cs)
      by [] any = cc
      by (c ∷ cs) any = refl

  pub target-fault : (place places : ℕ) → place < places → taken_to (place + 1) ≡ Err place → taken_to places ≡ Err place
  target-fault place places below fails = taken-fault (λ c. c.place) (closed r) (place + 1) places place start (to_target slots (contributions_of parts)) (omega arith) fails

-- the entry of a slot
pub entry-none : (slot : ℕ) (slots : List ℕ) (other : Value) → entry_of slot slots [] other ≡ other
entry-none slot [] other = refl
entry-none slot (s ∷ slots) other = refl

pub entry-ended : (slot : ℕ) (slots : List ℕ) (values : List Value) (i : ℕ) (other : Value) → length values ≤ i → entry_of slot slots (drop i values) other ≡ other
entry-ended slot slots values i other end = ap (λ vs. entry_of slot slots vs other) (drop_all i values end) ∙ entry-none slot slots other

-- a value that is there
pub value-there : (values : List Value) (i : ℕ) (d : Value) → i < length values → get_or values i d ≡ value_at values i
value-there [] i d l = absurd (omega arith)
value-there (v ∷ values) zero d l = refl
value-there (v ∷ values) (suc i) d l = value-there values i d (omega arith)

-- the one slot of a part
pub one-slot : (slot : ℕ) (parts : List ContributionPart) (i : ℕ) (d : ContributionPart) → i < length parts → is_among slot (slots_in (take 1 (drop i parts))) ≡ true →
    slots_in (take 1 (drop i parts)) ≡ slot ∷ []
one-slot slot parts i d within has =
    let cut : take 1 (drop i parts) ≡ get_or parts i d ∷ [] = ap (take 1) (drop_more parts i d within) in
    let alone : ((get_or parts i d).slot ≡ slot) = eqb-true (get_or parts i d).slot slot (off (nat_eq (get_or parts i d).slot slot) (sym (ap (λ ps. is_among slot (slots_in ps)) cut) ∙ has)) in
    ap slots_in cut ∙ ap (λ s. s ∷ []) alone
  where
    off : (b : Bool) → b || false ≡ true → b ≡ true
    off true e = refl
    off false e = e

-- what a slot holds by the contribution that begins at an index
pub slot-first : (places slot : ℕ) (held : List Value) (parts : List ContributionPart) (i : ℕ) (d : ContributionPart) → BeginsAt slot parts i →
    slot_after places (contributions_of parts) held slot
    ≡ slot_by places (contributions_of parts) held slot (Some (record { reduce = (get_or parts i d).reduce; slots = slots_in (take (get_or parts i d).width (drop i parts)) }))
slot-first places slot held parts i d at = ap (λ o. slot_by places (contributions_of parts) held slot (option_map reduction_of o)) (at.first d)

pub slot-none : (places slot : ℕ) (held : List Value) (parts : List ContributionPart) → find (has_slot slot) (contributions_of parts) ≡ None →
    slot_after places (contributions_of parts) held slot ≡ Ok (value_at held slot)
slot-none places slot held parts none = ap (λ o. slot_by places (contributions_of parts) held slot (option_map reduction_of o)) none

-- there are two parts and more
pub several-parts : (slot : ℕ) (parts : List ContributionPart) (i : ℕ) (d : ContributionPart) → AreWhole parts → BeginsAt slot parts i → ((get_or parts i d).width ≡ 1 → ⊥) →
    2 ≤ length (take (get_or parts i d).width (drop i parts))
several-parts slot parts i d whole at other =
    let long : length (take (get_or parts i d).width (drop i parts)) ≡ (get_or parts i d).width = range-length parts i (get_or parts i d).width (whole-at parts i d whole at.within) in
    ⊎_elim
    (λ (none : (get_or parts i d).width ≡ 0). let clash : false ≡ true = ap (λ w. is_among slot (slots_in (take w (drop i parts)))) (sym none) ∙ at.has d in cc)
    (λ (some : (get_or parts i d).width ≡ 0 → ⊥). omega (arith, long, some, other))
    (cases_eq (get_or parts i d).width 0)

-- what a slot holds where the contribution that begins at an index is to it alone, and where it is to several slots
module _ (places slot : ℕ) (held : List Value) (parts : List ContributionPart) (i : ℕ) (d : ContributionPart) (whole : AreWhole parts) (at : BeginsAt slot parts i) (after : Result Value Fault) where
  pub slot-one : (v : Value) → (get_or parts i d).width ≡ 1 → slot < length held → after ≡ reduced places (get_or parts i d).reduce (get_or held slot v) (to_slot slot parts) →
      after ≡ slot_after places (contributions_of parts) held slot
  slot-one v one there is =
      let slots_are : slots_in (take (get_or parts i d).width (drop i parts)) ≡ slot ∷ [] =
      ap (λ w. slots_in (take w (drop i parts))) one
      ∙ one-slot slot parts i d at.within (ap (λ w. is_among slot (slots_in (take w (drop i parts)))) (sym one) ∙ at.has d) in
      let made : List ℕ → Option Reduction = λ slots. Some (record { reduce = (get_or parts i d).reduce; slots = slots }) in
      is
      ∙ ap (λ h. reduced places (get_or parts i d).reduce h (to_slot slot parts)) (value-there held slot v there)
      ∙ sym (slot-single places (get_or parts i d).reduce slot held parts whole)
      ∙ sym (slot-first places slot held parts i d at ∙ ap (λ slots. slot_by places (contributions_of parts) held slot (made slots)) slots_are)

  pub slot-many : after ≡ slot_by places (contributions_of parts) held slot (Some (record { reduce = (get_or parts i d).reduce; slots = slots_in (slice_range parts i (i + (get_or parts i d).width)) })) →
      after ≡ slot_after places (contributions_of parts) held slot
  slot-many is =
      let made : List ℕ → Option Reduction = λ slots. Some (record { reduce = (get_or parts i d).reduce; slots = slots }) in
      is
      ∙ ap (λ ps. slot_by places (contributions_of parts) held slot (made (slots_in ps))) (range-is parts i (get_or parts i d).width)
      ∙ sym (slot-first places slot held parts i d at)

  pub range-several : ((get_or parts i d).width ≡ 1 → ⊥) → 2 ≤ length (slice_range parts i (i + (get_or parts i d).width))
  range-several other = omega (arith, ap length (range-is parts i (get_or parts i d).width), several-parts slot parts i d whole at other)
