-- Messages whose totals were worked out by hand.
use Rattle.std.specs.Prelude.{ℕ, pos, List, [], ◌∷◌}
use Rattle.gm_value.specs.declared.values.Value.TheVariants.{I32}
use Rattle.gm_machine.specs.Vertex.{Message}

-- a message of kind 0 to node 1
abbrev pub carries : ℕ → Message
carries n = record { to = 1; kind = 0; values = I32 (pos n) ∷ [] }

abbrev pub worked_messages : List Message
worked_messages = carries 5 ∷ carries 5 ∷ carries 7 ∷ []
