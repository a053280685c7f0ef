-- What is read in one pass: the front of an edge line, and whole numbers.
use Rattle.std.specs.Prelude.{◌≡◌, ◌<◌, ◌≤◌, ℕ, nat_lt, pos, Some, Bool, true, ◌&&◌, ◌||◌, ◌==◌, List, ◌∷◌, ◌++◌, length, take, slice_index}
use Rattle.std.specs.List.{list_all}
use Rattle.std.specs.Str.Lines.{lines}
use Rattle.gm_fields.specs.Fields.{fields, is_blank, is_digit, decimal_value}
use Rattle.gm_graph.specs.declared.builds.Shape.{Shape}
use Rattle.gm_loader.specs.Fields.{top_number, whole_in}
use Rattle.gm_loader.specs.Lines.{edge_with, line_of}

-- a text begins with the digits of a node number, and goes on behind them
pub record BeginsNumber (text : List ℕ) (number end : ℕ) : Type 0 where
  pub some : 0 < end
  pub within : end < length text
  pub digits : list_all is_digit (take end text) ≡ true
  pub spelled : decimal_value (take end text) ≡ number
  pub small : number ≤ top_number

-- a text begins with some digits, or with none
pub record BeginsDigits (text : List ℕ) (number end : ℕ) : Type 0 where
  pub within : end ≤ length text
  pub digits : list_all is_digit (take end text) ≡ true
  pub spelled : decimal_value (take end text) ≡ number
  pub small : number ≤ top_number

-- the first field of a line is a whole number without a sign, and the rest has the fields behind it
pub record BeginsWhole (line : List ℕ) (number : ℕ) (rest : List ℕ) : Type 0 where
  pub part : List ℕ
  pub first : fields line ≡ part ∷ fields rest
  pub spelled : whole_in part ≡ Some (pos number)

-- whether some text begins with a blank or with the end of a line
abbrev pub ends_field : List ℕ → Bool
ends_field text =
    is_blank (slice_index text 0)
    || (slice_index text 0 == 10 || (slice_index text 0 == 13 && (nat_lt 1 (length text) && slice_index text 1 == 10)))

-- a text begins with the numbers of an edge's nodes, and the rest behind them has the values of that edge in its first line
pub record BeginsEdge (text : List ℕ) (from to : ℕ) (rest : List ℕ) : Type 0 where
  pub front : List ℕ
  pub some : 0 < length rest
  pub shorter : length rest ≤ length text
  pub first : (line : List ℕ) (more : List (List ℕ)) → lines rest ≡ line ∷ more → lines text ≡ (front ++ line) ∷ more
  pub edge : (shape : Shape) (line : List ℕ) (more : List (List ℕ)) → lines rest ≡ line ∷ more
      → line_of shape (front ++ line) ≡ edge_with shape.edges from to (fields line)
