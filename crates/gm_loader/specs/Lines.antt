-- What a line of a graph text is.
use Rattle.std.specs.Prelude.{ℕ, List, [], ◌∷◌, ◌==◌, if◌then◌else◌, drop, Result, Ok, Err, slice_index, codes}
use Rattle.std.specs.Str.{bytes_eq}
use Rattle.gm_fields.specs.Fields.{fields, number_in}
use Rattle.gm_value.specs.declared.values.VType.{VType}
use Rattle.gm_value.specs.declared.values.Value.{Value}
use Rattle.gm_graph.specs.declared.builds.Shape.{Shape}
use Rattle.gm_loader.specs.declared.faults.LineFault.{LineFault}
use Rattle.gm_loader.specs.declared.faults.LineFault.TheVariants.{BadLine, MissingColumn}
use Rattle.gm_loader.specs.Fields.{node_number, value_in}

-- a line without a fault: one that is skipped, a node with a value for each node column, or an edge from a
-- node number to a node number with a value for each edge column
pub data Line : Type 0 where
  Skipped : Line
  NodeLine : ℕ → List Value → Line
  EdgeLine : ℕ → ℕ → List Value → Line

-- what goes on where there was no fault
infixl 10 ◌>>=◌
abbrev pub ◌>>=◌ : {A B : Type 0} → Result A LineFault → (A → Result B LineFault) → Result B LineFault
Ok x >>= f = f x
Err e >>= f = Err e

-- the node number in the first of some fields; where there is no field, there are no digits
abbrev pub first_number : List (List ℕ) → Result ℕ LineFault
first_number [] = Err BadLine
first_number (field ∷ more) = node_number (number_in field)

-- a value of each type, in order, from the fields; the fields after these are not looked at
abbrev pub values_in : List VType → List (List ℕ) → Result (List Value) LineFault
values_in [] more = Ok []
values_in (t ∷ ts) [] = Err MissingColumn
values_in (t ∷ ts) (field ∷ more) = do
  value ← value_in t field
  values ← values_in ts more
  Ok (value ∷ values)

-- a node: its number, then its values
abbrev pub node_line : List VType → List (List ℕ) → Result Line LineFault
node_line types parts = do
  number ← first_number parts
  values ← values_in types (drop 1 parts)
  Ok (NodeLine number values)

-- an edge whose nodes were read, with the values that further fields spell
abbrev pub edge_with : List VType → ℕ → ℕ → List (List ℕ) → Result Line LineFault
edge_with types from to parts = do
  values ← values_in types parts
  Ok (EdgeLine from to values)

-- an edge: the numbers of the nodes from which and to which it leads, then its values
abbrev pub edge_line : List VType → List (List ℕ) → Result Line LineFault
edge_line types parts = do
  from ← first_number parts
  to ← first_number (drop 1 parts)
  values ← values_in types (drop 2 parts)
  Ok (EdgeLine from to values)

-- a line by its fields: none, a first one that begins with '#', a first one that is 'v', or any other
abbrev pub line_in : Shape → List (List ℕ) → Result Line LineFault
line_in shape [] = Ok Skipped
line_in shape (field ∷ more) =
    if slice_index field 0 == 35 then Ok Skipped else
    (if bytes_eq field (codes "v") then node_line shape.nodes more else edge_line shape.edges (field ∷ more))

-- what a line is
abbrev pub line_of : Shape → List ℕ → Result Line LineFault
line_of shape bytes = line_in shape (fields bytes)
