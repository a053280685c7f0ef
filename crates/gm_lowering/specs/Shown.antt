-- The place of a fault's index is the place that the fault shows.
use Rattle.std.specs.Prelude.{◌≡◌, ◌-◌, ℕ, List, slice_index_or}
use Rattle.gm_base.specs.declared.places.Place.{Place}
use Rattle.gm_value.specs.Bag.{IsIn}
use Rattle.gm_ast.specs.Keys.{Fault}
use Rattle.gm_lowering.specs.Places.{Spot, segment, place_index, shown_places}

-- the place of an index among those of a segment, from its base on
abbrev pub place_shown : ℕ → List Spot → Fault → Place → Place
place_shown base spots f other =
    let g = segment base spots in slice_index_or (shown_places g) (place_index g f.key f.place - base) other

-- spots that stand at one place in the order of faults show one place
abbrev pub ShowOne : List Spot → Type 0
ShowOne spots = (a b : Spot) → IsIn a spots → IsIn b spots → a.fault ≡ b.fault → a.shown ≡ b.shown

-- the place at the index of a fault is what its spot shows
abbrev pub IndicesShowPlaces : Type 0
IndicesShowPlaces =
    (base : ℕ) (spots : List Spot) (s : Spot) (other : Place) → ShowOne spots → IsIn s spots → place_shown base spots s.fault other ≡ s.shown
