-- Values that are folded into slots, and what the slots hold then.
use Rattle.std.specs.Prelude.{◌≡◌, ◌<◌, ⊤, ℕ, nat_eq, Option, Some, None, Ok, List, [], ◌∷◌, length, map, filter, slice_index_or}
use Rattle.std.specs.List.{AllByRecursion}
use Rattle.gm_value.specs.declared.values.Value.{Value}
use Rattle.gm_value.specs.declared.reductions.Reduce.{Reduce}
use Rattle.gm_value.specs.Reductions.{close}
use Rattle.gm_columns.specs.TypedRows.{typed_row}
use Rattle.gm_kernels.specs.Folding.{folded_at}
use Rattle.gm_machine.specs.Expressions.{value_at}
use Rattle.gm_machine.specs.Taking.{Contribution}
use Rattle.gm_batch_handlers.specs.declared.row_states.SlotTotal.{SlotTotal}

-- a value that a node gives to one of its slots: where the node stands, and by which reduction and at which place of the image
pub record Gift : Type 0 where
  pub at : ℕ
  pub slot : ℕ
  pub reduce : Reduce
  pub place : ℕ
  pub value : Value

-- the same as what a line gives
abbrev pub contribution : Gift → Contribution
contribution g = record { place = g.place; reduce = g.reduce; slots = g.slot ∷ []; values = g.value ∷ [] }

-- gifts to a slot, gifts of a node, and values of gifts
abbrev pub to_slot : ℕ → List Gift → List Gift
to_slot slot gifts = filter (λ g. nat_eq g.slot slot) gifts

abbrev pub of_node : ℕ → List Gift → List Gift
of_node at gifts = filter (λ g. nat_eq g.at at) gifts

abbrev pub values_given : List Gift → List Value
values_given gifts = map (λ g. g.value) gifts

-- one gift a node, with these values
abbrev pub gifts_of : Reduce → ℕ → ℕ → List ℕ → List Value → List Gift
gifts_of reduce place slot (at ∷ more) (v ∷ values) =
    record { at = at; slot = slot; reduce = reduce; place = place; value = v } ∷ gifts_of reduce place slot more values
gifts_of reduce place slot _ _ = []

-- a held value closed with given values, which stays where none are given
abbrev pub Closes : Reduce → Value → List Value → Value → Type 0
Closes r held [] new = new ≡ held
Closes r held (v ∷ values) new = close r held (v ∷ values) ≡ Ok new

-- a column by place, closed with what the node of each place gives
pub record AllClose (r : Reduce) (held : List Value) (gifts : List Gift) (new : List Value) : Type 0 where
  pub long : length new ≡ length held
  pub each : (at : ℕ) → at < length held → Closes r (value_at held at) (values_given (of_node at gifts)) (value_at new at)

-- all gifts are by one reduction and at one place of the image
abbrev pub AreBy : Reduce → ℕ → List Gift → Type 0
AreBy r place gifts = AllByRecursion (λ g. (g.reduce ≡ r) × (g.place ≡ place)) gifts

-- what a slot holds after all gifts to it, which are of one reduction and one place of the image, where there are any
pub record IsSome (places : ℕ) (held : List Value) (gifts : List Gift) (t : SlotTotal) : Type 0 where
  pub way : AreBy t.reduce t.place gifts
  pub within : t.place < places
  pub closed : AllClose t.reduce held gifts (typed_row t.cells).values

abbrev pub IsTotal : ℕ → List Value → List Gift → Option SlotTotal → Type 0
IsTotal places held gifts None = gifts ≡ []
IsTotal places held gifts (Some t) = IsSome places held gifts t

-- what all slots hold after gifts
pub record AreTotals (places : ℕ) (columns : List (List Value)) (gifts : List Gift) (totals : List (Option SlotTotal)) : Type 0 where
  pub wide : length totals ≡ length columns
  pub each : (slot : ℕ) → slot < length columns → IsTotal places (slice_index_or columns slot []) (to_slot slot gifts) (slice_index_or totals slot None)

-- what a slot holds so far: what it held, where nothing was given
abbrev pub held_in : List Value → Option SlotTotal → List Value
held_in held None = held
held_in held (Some t) = (typed_row t.cells).values

-- slots that hold as many values as their columns
pub record AreLong (columns : List (List Value)) (totals : List (Option SlotTotal)) : Type 0 where
  pub wide : length totals ≡ length columns
  pub each : (slot : ℕ) → slot < length columns
      → length (held_in (slice_index_or columns slot []) (slice_index_or totals slot None)) ≡ length (slice_index_or columns slot [])

-- a total is by a reduction and at a place of the image
abbrev pub IsBy : Reduce → ℕ → Option SlotTotal → Type 0
IsBy r place None = ⊤
IsBy r place (Some t) = (t.reduce ≡ r) × (t.place ≡ place)

-- values were folded into what a slot holds, each at the place beside it
pub record Adds (r : Reduce) (place : ℕ) (held : List Value) (old : Option SlotTotal) (at : List ℕ) (values : List Value) (new : Option SlotTotal) : Type 0 where
  pub way : IsBy r place old
  pub total : SlotTotal
  pub is : new ≡ Some total
  pub by : (total.reduce ≡ r) × (total.place ≡ place)
  pub folded : folded_at r (held_in held old) at values ≡ Some (typed_row total.cells).values

-- columns by slot, with the totals in the place of those of their slots
abbrev pub with_totals : List (List Value) → List (Option SlotTotal) → List (List Value)
with_totals (held ∷ columns) (t ∷ totals) = held_in held t ∷ with_totals columns totals
with_totals columns _ = columns
