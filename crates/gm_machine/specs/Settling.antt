-- How the code takes contributions: those to one slot by totals of numbers of 64 bits, those to several by the best tuple.
use Rattle.std.specs.Prelude.{ℕ, zero, suc, nat_eq, ℤ, Bool, true, false, cond, ◌&&◌, ◌≡◌, ◌≤◌, Option, Some, None, Result, Ok, Err, List, [], ◌∷◌, map, filter, find, take, drop, ◌<◌, length, slice_index_or}
use Rattle.gm_value.specs.declared.values.Value.{Value}
use Rattle.gm_value.specs.declared.values.Value.TheVariants.{I64}
use Rattle.gm_value.specs.declared.faults.FaultKind.{FaultKind}
use Rattle.gm_value.specs.declared.reductions.Reduce.{Reduce}
use Rattle.gm_value.specs.Numbers.{type_of, number_of, checked}
use Rattle.gm_value.specs.Tuples.{replaces}
use Rattle.gm_value.specs.Reductions.{close}
use Rattle.gm_value.specs.Taking.{of_rank, taken}
use Rattle.gm_image.specs.Parts.{is_among}
use Rattle.gm_image.specs.Folds.{same_numbers}
use Rattle.gm_machine.specs.declared.faults.Fault.{Fault}
use Rattle.gm_machine.specs.declared.contributions.ContributionPart.{ContributionPart}
use Rattle.gm_machine.specs.Contributions.{contribution_of, contributions_of}
use Rattle.gm_machine.specs.Taking.{Contribution, has_slot, to_target, overflow_at}

-- whether a part is a contribution to a slot alone
abbrev pub is_to : ℕ → ContributionPart → Bool
is_to slot p = nat_eq p.slot slot && nat_eq p.width 1

-- the parts that are
abbrev pub to_slot : ℕ → List ContributionPart → List ContributionPart
to_slot slot parts = filter (is_to slot) parts

abbrev pub place_of : ContributionPart → ℕ
place_of p = p.place

-- the value of an answer, where it is one
abbrev pub answer_of : Result Value FaultKind → Option Value
answer_of (Ok v) = Some v
answer_of (Err kind) = None

-- the held value of a slot closed with some parts by a reduction, where that is in range
abbrev pub closed_one : Reduce → Value → List ContributionPart → Option Value
closed_one reduce held parts = answer_of (close reduce held (map (λ p. p.value) parts))

-- the held value of a slot after parts, taken by a reduction place by place below a bound
abbrev pub reduced : ℕ → Reduce → Value → List ContributionPart → Result Value Fault
reduced places reduce held parts = overflow_at (taken place_of (closed_one reduce) places held parts)

-- a value's number as one of 64 bits
abbrev pub long_of : Value → Value
long_of v = I64 (number_of v)

-- the numbers of parts
abbrev pub longs_of : List ContributionPart → List Value
longs_of parts = map long_of (map (λ p. p.value) parts)

-- a part that is a contribution to a slot alone and has a place from one on has it at or behind another
abbrev pub IsPast : ℕ → ℕ → ℕ → ContributionPart → Type 0
IsPast slot from next p = is_to slot p ≡ true → from ≤ p.place → next ≤ p.place

-- the slots of parts
abbrev pub slots_in : List ContributionPart → List ℕ
slots_in parts = map (λ p. p.slot) parts

-- whether so many parts are a contribution to some slots
abbrev pub are_to : ℕ → List ℕ → ContributionPart → List ContributionPart → Bool
are_to zero slots first parts = false
are_to (suc more) slots first parts = same_numbers (slots_in (first ∷ take more parts)) slots

-- whether parts begin with a contribution to some slots
abbrev pub begin_with : List ℕ → List ContributionPart → Bool
begin_with slots [] = false
begin_with slots (p ∷ parts) = are_to p.width slots p parts

-- the contribution that begins at an index
abbrev pub contribution_at : List ContributionPart → ℕ → ContributionPart → Contribution
contribution_at parts i first = contribution_of first (take first.width (drop i parts))

-- the contributions to a target at a place
abbrev pub at_place : ℕ → List ℕ → List ContributionPart → List Contribution
at_place place slots parts = of_rank (λ c. c.place) place (to_target slots (contributions_of parts))

-- their tuples, as numbers
abbrev pub tuples_at : ℕ → List ℕ → List ContributionPart → List (List ℤ)
tuples_at place slots parts = map (map number_of) (map (λ c. c.values) (at_place place slots parts))

-- the better of a held tuple and a new one
abbrev pub better : Reduce → (held new : List Value) → List Value
better reduce held new = cond (replaces reduce (map number_of held) (map number_of new)) new held

-- an entry as a value of the held one's type, the held one where there is no entry
abbrev pub kept_entry : Value → Option Value → Result Value FaultKind
kept_entry held None = Ok held
kept_entry held (Some entry) = checked (type_of held) (number_of entry)

-- whether there are any
abbrev pub are_some : {A : Type 0} → List A → Bool
are_some [] = false
are_some (x ∷ xs) = true

-- the first contribution that has a slot begins at an index, or there is none
pub record BeginsAt (slot : ℕ) (parts : List ContributionPart) (i : ℕ) : Type 0 where
  pub within : i < length parts
  pub has : (d : ContributionPart) → is_among slot (slots_in (take (slice_index_or parts i d).width (drop i parts))) ≡ true
  pub first : (d : ContributionPart) → find (has_slot slot) (contributions_of parts) ≡ Some (contribution_at parts i (slice_index_or parts i d))

abbrev pub IsFirst : ℕ → List ContributionPart → Option ℕ → Type 0
IsFirst slot parts None = find (has_slot slot) (contributions_of parts) ≡ None
IsFirst slot parts (Some i) = BeginsAt slot parts i

-- there is no contribution to some slots from a place on and before another
abbrev pub ComesAfter : ℕ → ℕ → List ℕ → List ContributionPart → Type 0
ComesAfter from next slots parts = (s : ℕ) → from ≤ s → s < next → at_place s slots parts ≡ []

-- values, where all are in range
abbrev pub if_all : Bool → List Value → Option (List Value)
if_all true values = Some values
if_all false values = None
