-- What the parts of the loader say of one another.
use Rattle.std.specs.Prelude.{◌≡◌, ◌≢◌, ◌≤◌, ℕ, ⊤, min, ℤ, pos, negsuc, List, [], ◌∷◌, ◌++◌, length, map, Result, Ok, Err, IsOkAnd, AllPairs}
use Rattle.std.specs.Str.Lines.{lines}
use Rattle.gm_fields.specs.Fields.{number_in}
use Rattle.gm_value.specs.declared.values.Value.{Value}
use Rattle.gm_value.specs.declared.values.VType.{VType}
use Rattle.gm_value.specs.declared.values.VType.TheVariants.{I32, I64, Flag, Node}
use Rattle.gm_graph.specs.declared.builds.Shape.{Shape}
use Rattle.gm_columns.specs.Columns.{TypedRow}
use Rattle.gm_loader.specs.declared.faults.LineFault.{LineFault}
use Rattle.gm_loader.specs.declared.faults.LineFault.TheVariants.{MissingColumn}
use Rattle.gm_loader.specs.declared.faults.LineStop.{LineStop}
use Rattle.gm_loader.specs.declared.faults.LineStop.TheVariants.{Fault, NoMemory}
use Rattle.gm_loader.specs.declared.limits.Limits.{Limits}
use Rattle.gm_loader.specs.declared.tables.Tables.{Tables}
use Rattle.gm_loader.specs.Fields.{node_number, value_in}
use Rattle.gm_loader.specs.Lines.{Line, ◌>>=◌, line_of}
use Rattle.gm_loader.specs.GraphText.{edge_rows, node_rows, numbers_on, node_count, edge_count, columns_of, judged, lines_after}
use Rattle.gm_loader.specs.Sets.{HasEach, Counts}

-- the types of whole numbers
abbrev pub IsWholeType : VType → Type 0
IsWholeType I32 = ⊤
IsWholeType I64 = ⊤
IsWholeType Flag = ⊥
IsWholeType Node = ⊥

-- a whole number, with those of more than 64 bits brought near
abbrev pub clipped : ℤ → ℤ
clipped (pos n) = pos (min 18446744073709551615 n)
clipped (negsuc n) = negsuc (min 18446744073709551614 n)

-- a column with one value more
abbrev pub with_value : TypedRow → Value → TypedRow
with_value column value = record column { values = column.values ++ value ∷ [] }

-- columns with one row more, whose values the fields spell
abbrev pub row_added : List TypedRow → List (List ℕ) → Result (List TypedRow) LineFault
row_added [] parts = Ok []
row_added (column ∷ columns) [] = Err MissingColumn
row_added (column ∷ columns) (part ∷ parts) = do
  value ← value_in column.vtype part
  longer ← row_added columns parts
  Ok (with_value column value ∷ longer)

-- one value more was read into a column from the first of some fields
pub record ReadsValue (before after : TypedRow) (parts more : List (List ℕ)) : Type 0 where
  pub part : List ℕ
  pub value : Value
  pub first : parts ≡ part ∷ more
  pub spelled : value_in before.vtype part ≡ Ok value
  pub added : after ≡ with_value before value

-- a node number was read from the first of some fields
pub record ReadsNumber (parts : List (List ℕ)) (number : ℕ) (more : List (List ℕ)) : Type 0 where
  pub part : List ℕ
  pub first : parts ≡ part ∷ more
  pub spelled : node_number (number_in part) ≡ Ok number

-- a fact of the fault that stopped a line, if it was one
abbrev pub IfFault : LineStop → (LineFault → Type 0) → Type 0
IfFault (Fault e) P = P e
IfFault NoMemory P = ⊤

-- the tables hold what some lines give
pub record Holds (shape : Shape) (limits : Limits) (before : List Line) (tables : Tables) : Type 0 where
  pub from : tables.from ≡ map (λ e. e.from) (edge_rows before)
  pub to : tables.to ≡ map (λ e. e.to) (edge_rows before)
  pub edge_columns : tables.edge_columns.items ≡ columns_of shape.edges (map (λ e. e.values) (edge_rows before))
  pub extra : tables.extra ≡ map (λ r. r.number) (node_rows before)
  pub node_columns : tables.node_columns.items ≡ columns_of shape.nodes (map (λ r. r.values) (node_rows before))
  pub seen : Counts limits.nodes (numbers_on before) tables.seen
  pub listed : HasEach (map (λ r. r.number) (node_rows before)) tables.listed
  pub distinct_nodes : AllPairs (λ m n. m ≢ n) (map (λ r. r.number) (node_rows before))
  pub few_nodes : node_count before ≤ limits.nodes
  pub few_edges : edge_count before ≤ limits.edges

-- the line after some lines was taken into the tables, or has the fault that stopped it
abbrev pub Takes : Shape → Limits → List Line → Result Line LineFault → Tables → Result (Unit {0}) LineStop → Type 0
Takes shape limits before line tables (Ok done) =
    IsOkAnd (judged limits before line) (λ sound. Holds shape limits (before ++ sound ∷ []) tables)
Takes shape limits before line tables (Err stop) = IfFault stop (λ e. judged limits before line ≡ Err e)

-- the first line of a text was taken into the tables, or has the fault that stopped it; more lines are behind it
pub record TakesFirst (limits : Limits) (text : List ℕ) (more : List (List ℕ)) (old new : Tables) (answer : Result (Unit {0}) LineStop) : Type 0 where
  pub line : List ℕ
  pub first : lines text ≡ line ∷ more
  pub takes : (shape : Shape) (before : List Line) → Holds shape limits before old → Takes shape limits before (line_of shape line) new answer

-- the tables hold what the lines of a text give, none of which has a fault
pub record HoldsLines (shape : Shape) (limits : Limits) (text : List ℕ) (tables : Tables) : Type 0 where
  pub sound_lines : List Line
  pub no_fault : lines_after limits [] (map (line_of shape) (lines text)) ≡ Ok sound_lines
  pub held : Holds shape limits sound_lines tables

-- and the text has no more bytes than the limit
pub record HoldsText (shape : Shape) (limits : Limits) (text : List ℕ) (tables : Tables) : Type 0 where
  pub held_lines : HoldsLines shape limits text tables
  pub fits : length text ≤ limits.bytes

-- the tables hold what some lines give, within limits that a graph may have
pub record HoldsSome (shape : Shape) (tables : Tables) : Type 0 where
  pub limits : Limits
  pub before : List Line
  pub held : Holds shape limits before tables
  pub few_nodes : limits.nodes ≤ 2147483647
  pub few_edges : limits.edges ≤ 2147483647
