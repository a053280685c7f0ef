-- When a tuple takes the place of held values: what the term says of it, and what is kept.
use Rattle.std.specs.Prelude.{◌≡◌, ◌≤◌, true, if◌then◌else◌, Some, Ok, List, [], ◌∷◌, length, map}
use Rattle.gm_value.specs.declared.values.VType.{VType}
use Rattle.gm_value.specs.declared.values.Value.{Value}
use Rattle.gm_value.specs.declared.values.Value.TheVariants.{Flag}
use Rattle.gm_value.specs.declared.reductions.Reduce.{Reduce}
use Rattle.gm_value.specs.Laws.{AreOf}
use Rattle.gm_value.specs.Numbers.{number_of}
use Rattle.gm_value.specs.Tuples.{replaces, close_slots}
use Rattle.gm_forms.specs.Typing.{keeps_tuples}
use Rattle.gm_image.specs.Term.{Term}
use Rattle.gm_machine.specs.Expressions.{View, value}
use Rattle.gm_lowering.specs.Bodies.{better, replacing}

-- terms side by side have the values of a new tuple and the held ones
abbrev pub Have : View → List (Term × Term) → List Value → List Value → Type 0
Have m [] [] [] = Unit {0}
Have m (p ∷ ps) (y ∷ new) (x ∷ held) = (value m p.0 ≡ Ok y) × (value m p.1 ≡ Ok x) × Have m ps new held
Have m _ _ _ = ⊥

-- the term says whether the new tuple takes the place of the held one
abbrev pub ReplacingTells : Type 0
ReplacingTells =
    (m : View) (r : Reduce) (pairs : List (Term × Term)) (new held : List Value) → keeps_tuples r ≡ true → Have m pairs new held
    → value m (replacing (better r) pairs) ≡ Ok (Flag (replaces r (map number_of held) (map number_of new)))

-- a tuple of the held types is kept whole, or the held one is
abbrev pub TuplesAreKept : Type 0
TuplesAreKept =
    (r : Reduce) (types : List VType) (held new : List Value) → 2 ≤ length held → AreOf types held → AreOf types new
    → close_slots r held (new ∷ []) ≡ Some (if replaces r (map number_of held) (map number_of new) then new else held)
