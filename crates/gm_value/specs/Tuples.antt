-- Tuples of numbers, of which an argument reduction keeps one whole.
use Rattle.std.specs.Prelude.{Bool, true, false, not, ◌&&◌, ◌||◌, cond, ℤ, int_lt, Option, Some, None, Result, Ok, Err, List, [], ◌∷◌, map}
use Rattle.gm_value.specs.declared.values.Value.{Value}
use Rattle.gm_value.specs.declared.faults.FaultKind.{FaultKind}
use Rattle.gm_value.specs.declared.reductions.Reduce.{Reduce}
use Rattle.gm_value.specs.declared.reductions.Reduce.TheVariants.{Max}
use Rattle.gm_value.specs.Numbers.{type_of, number_of, checked}
use Rattle.gm_value.specs.Reductions.{close}

-- whether a tuple comes before another: the first entries that differ decide
abbrev pub is_before : List ℤ → List ℤ → Bool
is_before xs [] = false
is_before [] (y ∷ ys) = true
is_before (x ∷ xs) (y ∷ ys) = int_lt x y || (not (int_lt y x) && is_before xs ys)

-- whether the greatest first entry, and among those the least rest, belongs to the new tuple
abbrev pub is_above : (new held : List ℤ) → Bool
is_above (y ∷ new) (x ∷ held) = int_lt x y || (not (int_lt y x) && is_before new held)
is_above new held = is_before new held

-- whether a new tuple takes the place of the held one: by Max where its first entry is greater, or the same and its rest comes before; else, by Min, where it comes before. An equal tuple does not
abbrev pub replaces : Reduce → (held new : List ℤ) → Bool
replaces Max held new = is_above new held
replaces r held new = is_before new held

-- the tuple that is kept of the held one and a new one
abbrev pub kept : Reduce → (held new : List ℤ) → List ℤ
kept r held new = cond (replaces r held new) new held

-- the tuple that is kept of the held one and all contributed ones
abbrev pub best : Reduce → List ℤ → List (List ℤ) → List ℤ
best r held [] = held
best r held (new ∷ tuples) = kept r (best r held tuples) new

-- one more value in front, where there is one and the others are there
abbrev pub with_value : Result Value FaultKind → Option (List Value) → Option (List Value)
with_value (Ok v) (Some values) = Some (v ∷ values)
with_value (Ok v) None = None
with_value (Err kind) values = None

-- a tuple of numbers as what held slots hold from then on, each of its slot's type; where the tuple ends, the slots stay. None where a number is out of its slot's range
abbrev pub values_at : (held : List Value) → List ℤ → Option (List Value)
values_at [] tuple = Some []
values_at (v ∷ held) [] = Some (v ∷ held)
values_at (v ∷ held) (n ∷ tuple) = with_value (checked (type_of v) n) (values_at held tuple)

-- the first value of a contribution, or another where it has none
abbrev pub first_or : Value → List Value → Value
first_or other [] = other
first_or other (v ∷ values) = v

-- the slots of one target after a bag of contributions to them, each with a value for each slot. One slot is closed with its values; several count as one target and take the best tuple whole. None where a result is out of range
abbrev pub close_slots : Reduce → List Value → List (List Value) → Option (List Value)
close_slots r [] bag = Some []
close_slots r (held ∷ []) bag = with_value (close r held (map (first_or held) bag)) (Some [])
close_slots r (held ∷ (next ∷ more)) bag =
    values_at (held ∷ (next ∷ more)) (best r (map number_of (held ∷ (next ∷ more))) (map (map number_of) bag))
