-- Batches of messages of one kind.
use Rattle.std.specs.Prelude.{ℕ, List, [], ◌∷◌, map}
use Rattle.gm_value.specs.declared.values.Value.{Value}
use Rattle.gm_value.specs.declared.values.Value.TheVariants as values
use Rattle.gm_value.specs.declared.values.VType.{VType}
use Rattle.gm_value.specs.declared.values.VType.TheVariants as types
use Rattle.gm_machine.specs.Vertex.{Message}
use Rattle.gm_combine.specs.declared.batches.Carried.{Carried}
use Rattle.gm_combine.specs.declared.batches.Carried.TheVariants as carried

-- messages of a kind with one value of a type each. A message is addressed by the place of its node
pub record Messages : Type 0 where
  pub kind : ℕ
  pub vtype : VType
  pub messages : List Message

-- the values that the code holds in a typed row
abbrev pub values_of : Carried → List Value
values_of (carried.Ints cells) = map (λ cell. values.I32 cell) cells.items
values_of (carried.Longs cells) = map (λ cell. values.I64 cell) cells.items
values_of (carried.Flags cells) = map (λ cell. values.Flag cell) cells.items
values_of (carried.Nodes cells) = map (λ cell. values.At cell) cells.items

abbrev pub type_carried : Carried → VType
type_carried (carried.Ints cells) = types.I32
type_carried (carried.Longs cells) = types.I64
type_carried (carried.Flags cells) = types.Flag
type_carried (carried.Nodes cells) = types.Node

-- messages of a kind to places, as far as both lists go
abbrev pub messages_to : ℕ → List ℕ → List Value → List Message
messages_to kind [] vs = []
messages_to kind (to ∷ places) [] = []
messages_to kind (to ∷ places) (v ∷ vs) = record { to = to; kind = kind; values = v ∷ [] } ∷ messages_to kind places vs
