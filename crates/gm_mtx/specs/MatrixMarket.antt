-- Which graph a Matrix Market text stands for, or which of its lines is the first with a fault.
use Rattle.std.specs.Prelude.{◌≡◌, ℕ, ◌+◌, nat_le, nat_lt, Bool, true, ◌&&◌, ◌==◌, if◌then◌else◌, List, [], ◌∷◌, ◌++◌, length, map, drop, replicate, Result, Ok, Err, slice_index, codes}
use Rattle.std.specs.List.{range_with_len}
use Rattle.std.specs.Str.{str_eq_ignore_ascii_case}
use Rattle.std.specs.Str.Lines.{lines}
use Rattle.gm_fields.specs.Fields.{fields}
use Rattle.gm_value.specs.declared.values.VType.{VType}
use Rattle.gm_value.specs.declared.values.Value.{Value}
use Rattle.gm_value.specs.Numbers.{zero_of}
use Rattle.gm_graph.specs.declared.builds.Shape.{Shape}
use Rattle.gm_graph.specs.declared.builds.RawGraph.{RawGraph}
use Rattle.gm_columns.specs.Columns.{TypedRow}
use Rattle.gm_model.specs.Graphs.{NumberedGraph}
use Rattle.gm_graph.specs.Builds.{IsBuiltOf}
use Rattle.gm_loader.specs.declared.limits.Limits.{Limits}
use Rattle.gm_loader.specs.GraphText.{columns_of}
use Rattle.gm_mtx.specs.declared.faults.LineFault.{LineFault}
use Rattle.gm_mtx.specs.declared.faults.LineFault.TheVariants.{BadHeader, Unsupported, BadLine, MissingColumn, OutOfRange, CountDiffers, TooManyNodes, TooManyEdges}
use Rattle.gm_mtx.specs.declared.faults.MtxFault.{MtxFault}
use Rattle.gm_mtx.specs.declared.faults.MtxFault.TheVariants as fault
use Rattle.gm_mtx.specs.declared.headers.EntryValues.{EntryValues}
use Rattle.gm_mtx.specs.declared.headers.EntryValues.TheVariants.{Integer, Pattern}
use Rattle.gm_mtx.specs.declared.sizes.Size.{Size}
use Rattle.gm_mtx.specs.Fields.{size_number, index_number, first_number, value_in}

-- what goes on where there was no fault
infixl 10 ◌>>=◌
abbrev pub ◌>>=◌ : {A B : Type 0} → Result A LineFault → (A → Result B LineFault) → Result B LineFault
Ok x >>= f = f x
Err e >>= f = Err e

-- ---- the header

-- what the fourth field of a header says of the entries
abbrev pub values_named : List ℕ → Result EntryValues LineFault
values_named word =
    if str_eq_ignore_ascii_case word (codes "integer") then Ok Integer else
    (if str_eq_ignore_ascii_case word (codes "pattern") then Ok Pattern else Err Unsupported)

-- whether the other fields of a header are those of a sparse matrix without symmetry
abbrev pub is_general : List ℕ → List ℕ → List ℕ → Bool
is_general object format symmetry =
    str_eq_ignore_ascii_case object (codes "matrix")
    && (str_eq_ignore_ascii_case format (codes "coordinate") && str_eq_ignore_ascii_case symmetry (codes "general"))

-- a header by its fields, in any ASCII case: `%%MatrixMarket matrix coordinate integer general`, or `pattern` in
-- place of `integer`
abbrev pub header_in : List (List ℕ) → Result EntryValues LineFault
header_in (banner ∷ object ∷ format ∷ values ∷ symmetry ∷ []) =
    if str_eq_ignore_ascii_case banner (codes "%%MatrixMarket")
    then (if is_general object format symmetry then values_named values else Err Unsupported)
    else Err BadHeader
header_in _ = Err BadHeader

-- ---- the lines behind the header

-- a line that is skipped: it is blank, or its first field begins with '%'
abbrev pub is_skipped : List (List ℕ) → Bool
is_skipped [] = true
is_skipped (field ∷ more) = slice_index field 0 == 37

-- how many nodes there are: the greater of rows and columns
abbrev pub node_count : Size → ℕ
node_count size = if nat_le size.rows size.columns then size.columns else size.rows

-- a size, unless it is over a limit
abbrev pub within_limits : Limits → Size → Result Size LineFault
within_limits limits size =
    if nat_lt limits.nodes (node_count size) then Err TooManyNodes else
    (if nat_lt limits.edges size.entries then Err TooManyEdges else Ok size)

-- the size line by its fields: the numbers of rows, columns and entries
abbrev pub size_in : Limits → List (List ℕ) → Result Size LineFault
size_in limits parts = do
  rows ← size_number (first_number parts)
  columns ← size_number (first_number (drop 1 parts))
  entries ← size_number (first_number (drop 2 parts))
  within_limits limits (record { rows = rows; columns = columns; entries = entries })

-- an entry: an edge from its row to its column, with its values
pub record Entry : Type 0 where
  pub row : ℕ
  pub column : ℕ
  pub values : List Value

-- a value for the one edge input that there is; no entry has a second value
abbrev pub for_one : List VType → Value → Result (List Value) LineFault
for_one [] value = Ok (value ∷ [])
for_one (t ∷ ts) value = Err MissingColumn

-- the values for edge inputs of some types, from the fields behind row and column: the first input takes the value of
-- an entry where entries have one
abbrev pub values_in : List VType → EntryValues → List (List ℕ) → Result (List Value) LineFault
values_in [] kind parts = Ok []
values_in (t ∷ ts) Pattern parts = Err MissingColumn
values_in (t ∷ ts) Integer [] = Err MissingColumn
values_in (t ∷ ts) Integer (field ∷ more) = value_in t field >>= for_one ts

-- an entry by its fields
abbrev pub entry_in : List VType → EntryValues → Size → List (List ℕ) → Result Entry LineFault
entry_in types kind size parts = do
  row ← index_number size.rows (first_number parts)
  column ← index_number size.columns (first_number (drop 1 parts))
  values ← values_in types kind (drop 2 parts)
  Ok (record { row = row; column = column; values = values })

-- an entry behind others, unless it is one too many
abbrev pub behind : Size → List Entry → Entry → Result (List Entry) LineFault
behind size before entry = if nat_lt (length before) size.entries then Ok (before ++ entry ∷ []) else Err CountDiffers

-- the entries up to the line of an entry, by the entries before it and its fields
abbrev pub with_entry : List VType → EntryValues → Size → List Entry → List (List ℕ) → Result (List Entry) LineFault
with_entry types kind size before parts = entry_in types kind size parts >>= behind size before

-- the entries up to a line, by the entries before it and its fields
abbrev pub entries_with : List VType → EntryValues → Size → List Entry → List (List ℕ) → Result (List Entry) LineFault
entries_with types kind size before parts =
    if is_skipped parts then Ok before else with_entry types kind size before parts

-- ---- the whole text

-- the fault of the line of a number
abbrev pub at_line : ℕ → LineFault → MtxFault
at_line k BadHeader = fault.BadHeader k
at_line k Unsupported = fault.Unsupported k
at_line k BadLine = fault.BadLine k
at_line k MissingColumn = fault.MissingColumn k
at_line k OutOfRange = fault.OutOfRange k
at_line k CountDiffers = fault.CountDiffers k
at_line k TooManyNodes = fault.TooManyNodes k
at_line k TooManyEdges = fault.TooManyEdges k

-- what goes on after a line that has no fault; the fault of the line of a number where it has one
abbrev pub on_line : {A B : Type 0} → ℕ → Result A LineFault → (A → Result B MtxFault) → Result B MtxFault
on_line k (Ok x) go = go x
on_line k (Err e) go = Err (at_line k e)

-- a size line that was found: the size, the number of its line and the lines behind it
pub record Found : Type 0 where
  pub size : Size
  pub number : ℕ
  pub more : List (List ℕ)

-- the size line is the first of some lines that is not skipped; their numbers begin with k
abbrev pub size_line : Limits → ℕ → List (List ℕ) → Result Found MtxFault
size_line limits k [] = Err (fault.BadLine k)
size_line limits k (line ∷ more) =
    if is_skipped (fields line) then size_line limits (k + 1) more else
    on_line k (size_in limits (fields line)) (λ size. Ok (record { size = size; number = k; more = more }))

-- all entries, at the line after the last
abbrev pub all_entries : Size → ℕ → List Entry → Result (List Entry) MtxFault
all_entries size k entries = if nat_lt (length entries) size.entries then Err (fault.CountDiffers k) else Ok entries

-- some entries and more behind them from some lines, or the fault of the first of these that has one. The numbers of
-- the lines begin with k
abbrev pub entries_after : List VType → EntryValues → Size → ℕ → List Entry → List (List ℕ) → Result (List Entry) MtxFault
entries_after types kind size k before [] = all_entries size k before
entries_after types kind size k before (line ∷ more) =
    on_line k (entries_with types kind size before (fields line)) (λ longer. entries_after types kind size (k + 1) longer more)

-- what a text says: the size and the entries
pub record Matrix : Type 0 where
  pub size : Size
  pub entries : List Entry

abbrev pub matrix_with : Size → Result (List Entry) MtxFault → Result Matrix MtxFault
matrix_with size (Ok entries) = Ok (record { size = size; entries = entries })
matrix_with size (Err e) = Err e

-- the matrix by its size line
abbrev pub matrix_behind : List VType → EntryValues → Result Found MtxFault → Result Matrix MtxFault
matrix_behind types kind (Err e) = Err e
matrix_behind types kind (Ok found) =
    matrix_with found.size (entries_after types kind found.size (found.number + 1) [] found.more)

-- the matrix of some lines: the header is the first, then comes the size line, then the entries. Lines count from 1
abbrev pub matrix_in : Shape → Limits → List (List ℕ) → Result Matrix MtxFault
matrix_in shape limits [] = Err (fault.BadHeader 1)
matrix_in shape limits (header ∷ more) =
    on_line 1 (header_in (fields header)) (λ kind. matrix_behind shape.edges kind (size_line limits 2 more))

-- the matrix of a text, or its fault: too many bytes, or else the fault of the first line that has one
abbrev pub matrix_of : Shape → Limits → List ℕ → Result Matrix MtxFault
matrix_of shape limits text =
    if nat_lt limits.bytes (length text) then Err fault.TooLong else matrix_in shape limits (lines text)

-- ---- the graph

-- a column that has the zero of its type at each of some nodes
abbrev pub zero_column : ℕ → VType → TypedRow
zero_column nodes t = record { vtype = t; values = replicate nodes (zero_of t) }

-- of what the graph of a matrix is made: its nodes are 1 to the greater of rows and columns, with 0 or False in each
-- node column, and each entry is an edge from its row to its column, in the order of the entries
abbrev pub raw_of : Shape → Matrix → RawGraph
raw_of shape m = record {
  shape = shape;
  from = map (λ e. e.row) m.entries;
  to = map (λ e. e.column) m.entries;
  edge_columns = columns_of shape.edges (map (λ e. e.values) m.entries);
  extra = range_with_len 1 (node_count m.size);
  node_columns = map (zero_column (node_count m.size)) shape.nodes;
}

-- a text stands for a graph: none of its lines has a fault, and the graph is made of its matrix
pub record StandsFor (shape : Shape) (limits : Limits) (text : List ℕ) (g : NumberedGraph) : Type 0 where
  pub matrix : Matrix
  pub no_fault : matrix_of shape limits text ≡ Ok matrix
  pub built : IsBuiltOf (raw_of shape matrix) g
