-- The fields of nodes that several owners hold.
use Rattle.std.specs.Prelude.{◌≡◌, ◌<◌, ℕ, List, [], length, slice_index, slice_index_or}
use Rattle.gm_value.specs.declared.values.Value.{Value}
use Rattle.gm_machine.specs.Fields.{HeldFields}

-- no fields of no nodes
abbrev pub no_fields : HeldFields
no_fields = record { width = 0; rows = [] }

-- the fields of the node that an owner, by its number, holds at a place
abbrev pub row_held : List HeldFields → ℕ → ℕ → List Value
row_held fields owner place = slice_index_or (slice_index_or fields owner no_fields).rows place []

-- an owner holds a node at a place
pub record IsHeldAt (fields : List HeldFields) (owner place : ℕ) : Type 0 where
  pub owner_is : owner < length fields
  pub place_is : place < length (slice_index_or fields owner no_fields).rows

-- each node has an owner, and a place among the nodes that the owner holds
pub record AreHeld (fields : List HeldFields) (owners places : List ℕ) : Type 0 where
  pub long : length places ≡ length owners
  pub each : (node : ℕ) → node < length owners → IsHeldAt fields (slice_index owners node) (slice_index places node)

-- the fields of all nodes, by node, are those that the owners hold
pub record AreRows (fields : List HeldFields) (owners places : List ℕ) (rows : List (List Value)) : Type 0 where
  pub long : length rows ≡ length owners
  pub each : (node : ℕ) → node < length owners → slice_index_or rows node [] ≡ row_held fields (slice_index owners node) (slice_index places node)
