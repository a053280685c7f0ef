-- Places for which no messages wait.
use Rattle.std.specs.Prelude.{◌≡◌, ℕ, List, [], slice_index_or}
use Rattle.gm_machine.specs.Vertex.{Message}

-- no messages wait at any place
abbrev pub AllEmpty : List (List Message) → Type 0
AllEmpty boxes = (place : ℕ) → slice_index_or boxes place [] ≡ []
