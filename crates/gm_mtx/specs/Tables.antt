-- What the parts of the reader say of one another.
use Rattle.std.specs.Prelude.{◌≡◌, ◌≤◌, ◌+◌, ℕ, ⊤, List, [], ◌∷◌, ◌++◌, length, map, Option, Result, Ok, Err, IsOkAnd}
use Rattle.std.specs.Str.Lines.{lines}
use Rattle.gm_fields.specs.Fields.{number_in}
use Rattle.gm_value.specs.declared.values.VType.{VType}
use Rattle.gm_value.specs.declared.values.Value.{Value}
use Rattle.gm_graph.specs.declared.builds.Shape.{Shape}
use Rattle.gm_columns.specs.Columns.{TypedRow}
use Rattle.gm_loader.specs.declared.limits.Limits.{Limits}
use Rattle.gm_loader.specs.GraphText.{columns_of}
use Rattle.gm_mtx.specs.declared.faults.LineFault.{LineFault}
use Rattle.gm_mtx.specs.declared.faults.LineStop.{LineStop}
use Rattle.gm_mtx.specs.declared.faults.LineStop.TheVariants.{Fault, NoMemory}
use Rattle.gm_mtx.specs.declared.faults.MtxFault.{MtxFault}
use Rattle.gm_mtx.specs.declared.faults.MtxFault.TheVariants as fault
use Rattle.gm_mtx.specs.declared.headers.EntryValues.{EntryValues}
use Rattle.gm_mtx.specs.declared.sizes.Size.{Size}
use Rattle.gm_mtx.specs.declared.tables.Tables.{Tables}
use Rattle.gm_mtx.specs.MatrixMarket.{Entry, at_line, size_line, values_in, entries_after, matrix_in}

-- what stopped the line of a number, as a fault of the text
abbrev pub stop_at_line : ℕ → LineStop → MtxFault
stop_at_line k (Fault e) = at_line k e
stop_at_line k NoMemory = fault.NoMemory

-- a number was read from the first of some fields, as it is judged, and more fields are behind it
pub record Reads (judged : Option ℕ → Result ℕ LineFault) (parts : List (List ℕ)) (number : ℕ) (more : List (List ℕ)) : Type 0 where
  pub part : List ℕ
  pub first : parts ≡ part ∷ more
  pub spelled : judged (number_in part) ≡ Ok number

-- a size line was found in some text, and this text is behind it
pub record FindsSize (limits : Limits) (text : List ℕ) (size : Size) (number : ℕ) (rest : List ℕ) : Type 0 where
  pub found : size_line limits 2 (lines text) ≡ Ok (record { size = size; number = number; more = lines rest })
  pub room : number + length rest ≤ length text + 2

-- a fact of the fault that stopped a line, if it was one
abbrev pub IfFault : LineStop → (LineFault → Type 0) → Type 0
IfFault (Fault e) P = P e
IfFault NoMemory P = ⊤

-- columns of some types were given the values of an entry, or these have the fault that stopped them
abbrev pub FillsColumns : List VType → EntryValues → List (List ℕ) → List TypedRow → List TypedRow → Result (Unit {0}) LineStop → Type 0
FillsColumns types kind parts old new (Ok done) = (rows : List (List Value)) → old ≡ columns_of types rows
    → IsOkAnd (values_in types kind parts) (λ values. new ≡ columns_of types (rows ++ values ∷ []))
FillsColumns types kind parts old new (Err stop) = (rows : List (List Value)) → old ≡ columns_of types rows
    → IfFault stop (λ e. values_in types kind parts ≡ Err e)

-- the tables hold some entries
pub record Holds (types : List VType) (entries : List Entry) (tables : Tables) : Type 0 where
  pub from : tables.from ≡ map (λ e. e.row) entries
  pub to : tables.to ≡ map (λ e. e.column) entries
  pub edge_columns : tables.edge_columns.items ≡ columns_of types (map (λ e. e.values) entries)

-- the tables hold the entries up to a line, or the line has the fault that stopped it
abbrev pub Takes : List VType → Result (List Entry) LineFault → Tables → Result (Unit {0}) LineStop → Type 0
Takes types judged tables (Ok done) = IsOkAnd judged (λ longer. Holds types longer tables)
Takes types judged tables (Err stop) = IfFault stop (λ e. judged ≡ Err e)

-- the tables hold the entries of some text behind a size line
pub record HoldsEntries (types : List VType) (kind : EntryValues) (size : Size) (number : ℕ) (text : List ℕ) (tables : Tables) : Type 0 where
  pub entries : List Entry
  pub no_fault : entries_after types kind size (number + 1) [] (lines text) ≡ Ok entries
  pub held : Holds types entries tables

-- the tables hold the entries of a text, whose size is this one
pub record HoldsMatrix (shape : Shape) (limits : Limits) (text : List ℕ) (size : Size) (tables : Tables) : Type 0 where
  pub entries : List Entry
  pub no_fault : matrix_in shape limits (lines text) ≡ Ok (record { size = size; entries = entries })
  pub held : Holds shape.edges entries tables
