-- The first fields of nodes, as the code binds them.
use Rattle.std.specs.Prelude.{◌≡◌, ℕ, List, ◌∷◌, drop}
use Rattle.gm_value.specs.declared.values.Value.{Value}
use Rattle.gm_image.specs.Program.{Item}
use Rattle.gm_machine.specs.Machine.{properties, with_inputs}

-- an input is bound: the columns from the next one on go to the inputs behind it as those from a column on went to it and them
abbrev pub IsBound : Item → List Value → ℕ → List Value → ℕ → List Value → Type 0
IsBound item row column held next new =
    (items : List Item) → with_inputs (properties (item ∷ items)) (drop column row) held ≡ with_inputs (properties items) (drop next row) new
