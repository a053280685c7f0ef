-- What is true of every matrix that a text says: its size is within the limits, its rows and columns are within its
-- size, and it has no more entries than its size says.
use Rattle.std.proofs.Common.{◌≡◌, ◌≤◌, ◌<◌, ◌+◌, ℕ, Bool, true, false, cond, ◌&&◌, List, [], ◌∷◌, ◌++◌, length, drop, ltb, leb, refl, arith, length-append}
use Rattle.std.specs.Prelude.{Result, Ok, Err, Option, Some, None, All}
use Rattle.std.proofs.lemmas.Bool.Decides.{nat_tests}
use Rattle.std.proofs.lemmas.List.Elements.{All-nil, All-push}
use Rattle.gm_fields.specs.Fields.{fields}
use Rattle.gm_value.specs.declared.values.VType.{VType}
use Rattle.gm_value.specs.declared.values.Value.{Value}
use Rattle.gm_graph.specs.declared.builds.Shape.{Shape}
use Rattle.gm_loader.specs.declared.limits.Limits.{Limits}
use Rattle.gm_mtx.specs.declared.faults.LineFault.{LineFault}
use Rattle.gm_mtx.specs.declared.faults.LineFault.TheVariants.{OutOfRange, CountDiffers, TooManyNodes, TooManyEdges}
use Rattle.gm_mtx.specs.declared.faults.MtxFault.{MtxFault}
use Rattle.gm_mtx.specs.declared.faults.MtxFault.TheVariants as fault
use Rattle.gm_mtx.specs.declared.headers.EntryValues.{EntryValues}
use Rattle.gm_mtx.specs.declared.sizes.Size.{Size}
use Rattle.gm_mtx.specs.Fields.{index_number, size_number, first_number}
use Rattle.gm_mtx.specs.MatrixMarket.{◌>>=◌, header_in, is_skipped, node_count, within_limits, size_in, Entry, values_in, entry_in, behind, entries_with, on_line, Found, size_line, entries_after, Matrix, matrix_with, matrix_behind, matrix_in}

-- an edge between nodes that there are
pub record IsInside (nodes : ℕ) (e : Entry) : Type 0 where
  pub row_low : 1 ≤ e.row
  pub row_high : e.row ≤ nodes
  pub column_low : 1 ≤ e.column
  pub column_high : e.column ≤ nodes

-- entries that a size allows
pub record AreFine (size : Size) (entries : List Entry) : Type 0 where
  pub inside : All (IsInside (node_count size)) entries
  pub count : length entries ≤ size.entries

-- a matrix within some limits
pub record IsSound (limits : Limits) (m : Matrix) : Type 0 where
  pub few_nodes : node_count m.size ≤ limits.nodes
  pub few_edges : m.size.entries ≤ limits.edges
  pub fine : AreFine m.size m.entries

-- a row or a column is from 1 to the size
index_within : (most : ℕ) (x : Option ℕ) (n : ℕ) → index_number most x ≡ Ok n → (1 ≤ n) × (n ≤ most)
index_within most None n h = cc
index_within most (Some m) n h =
    choice (leb 1 m) (leb m most) (λ e. grind (arith, nat_tests, e)) (λ e. grind (arith, nat_tests, e)) h where
      choice : (a b : Bool) → (a ≡ true → 1 ≤ m) → (b ≡ true → m ≤ most) → cond (a && b) (Ok m) (Err OutOfRange) ≡ Ok n → (1 ≤ n) × (n ≤ most)
      choice true true low high e = let same : m ≡ n = cc in rw (← same) (low refl, high refl)
      choice true false low high e = cc
      choice false b low high e = cc

rows_count : (size : Size) → size.rows ≤ node_count size
rows_count size = choice (leb size.rows size.columns) (λ e. grind (arith, nat_tests, e)) where
  choice : (b : Bool) → (b ≡ true → size.rows ≤ size.columns) → size.rows ≤ cond b size.columns size.rows
  choice true h = h refl
  choice false h = omega arith

columns_count : (size : Size) → size.columns ≤ node_count size
columns_count size = choice (leb size.rows size.columns) (λ e. grind (arith, nat_tests, e)) where
  choice : (b : Bool) → (b ≡ false → size.columns ≤ size.rows) → size.columns ≤ cond b size.columns size.rows
  choice true h = omega arith
  choice false h = h refl

-- what is read is one thing alone
abbrev entry_at : ℕ → ℕ → List Value → Entry
entry_at row column values = record { row = row; column = column; values = values }

abbrev found_at : ℕ → List (List ℕ) → Size → Found
found_at k more size = record { size = size; number = k; more = more }

abbrev matrix_at : Size → List Entry → Matrix
matrix_at size entries = record { size = size; entries = entries }

one_entry : (r : Result Entry LineFault) (x y : Entry) → r ≡ Ok x → r ≡ Ok y → x ≡ y
one_entry r x y e f = cc

one_found : (r : Result Found MtxFault) (x y : Found) → r ≡ Ok x → r ≡ Ok y → x ≡ y
one_found r x y e f = cc

one_matrix : (r : Result Matrix MtxFault) (x y : Matrix) → r ≡ Ok x → r ≡ Ok y → x ≡ y
one_matrix r x y e f = cc

-- an entry is within its size
entry_inside : (types : List VType) (kind : EntryValues) (size : Size) (parts : List (List ℕ)) (e : Entry) → entry_in types kind size parts ≡ Ok e → IsInside (node_count size) e
entry_inside types kind size parts e h =
    parted (index_number size.rows (first_number parts)) (index_number size.columns (first_number (drop 1 parts))) (values_in types kind (drop 2 parts))
    (λ n i. index_within size.rows (first_number parts) n i) (λ n i. index_within size.columns (first_number (drop 1 parts)) n i) h where
      parted : (r c : Result ℕ LineFault) (v : Result (List Value) LineFault) → ((n : ℕ) → r ≡ Ok n → (1 ≤ n) × (n ≤ size.rows)) → ((n : ℕ) → c ≡ Ok n → (1 ≤ n) × (n ≤ size.columns))
          → (r >>= λ row. c >>= λ column. v >>= λ values. Ok (entry_at row column values)) ≡ Ok e → IsInside (node_count size) e
      parted (Ok row) (Ok column) (Ok values) rows columns i =
          let is : entry_at row column values ≡ e = one_entry (Ok (entry_at row column values)) (entry_at row column values) e refl i in
          let a = rows row refl in
          let b = columns column refl in
          rw (← is) (record {
            row_low = a.0;
            row_high = omega (arith, a.1, rows_count size);
            column_low = b.0;
            column_high = omega (arith, b.1, columns_count size);
          })
      parted (Ok row) (Ok column) (Err f) rows columns i = cc
      parted (Ok row) (Err f) v rows columns i = cc
      parted (Err f) c v rows columns i = cc

-- the entries up to a line
line_fine : (types : List VType) (kind : EntryValues) (size : Size) (before longer : List Entry) (parts : List (List ℕ)) → AreFine size before → entries_with types kind size before parts ≡ Ok longer → AreFine size longer
line_fine types kind size before longer parts fine h =
    skipped (is_skipped parts) h where
      counted : (e : Entry) (b : Bool) → (b ≡ true → length before < size.entries) → IsInside (node_count size) e → cond b (Ok (before ++ e ∷ [])) (Err CountDiffers) ≡ Ok longer → AreFine size longer
      counted e true less inside i =
          let is : before ++ e ∷ [] ≡ longer = cc in
          rw (← is) (record {
            inside = All-push (IsInside (node_count size)) before e fine.inside inside;
            count = omega (arith, length-append before (e ∷ []), less refl);
          })
      counted e false less inside i = cc

      taken : (r : Result Entry LineFault) → ((e : Entry) → r ≡ Ok e → IsInside (node_count size) e) → (r >>= behind size before) ≡ Ok longer → AreFine size longer
      taken (Ok e) inside i = counted e (ltb (length before) size.entries) (λ b. grind (arith, nat_tests, b)) (inside e refl) i
      taken (Err f) inside i = cc

      skipped : (b : Bool) → cond b (Ok before) (entry_in types kind size parts >>= behind size before) ≡ Ok longer → AreFine size longer
      skipped true i = let is : before ≡ longer = cc in rw (← is) fine
      skipped false i = taken (entry_in types kind size parts) (λ e. entry_inside types kind size parts e) i

-- all entries
lines_fine : (types : List VType) (kind : EntryValues) (size : Size) (ls : List (List ℕ)) (k : ℕ) (before entries : List Entry) → AreFine size before → entries_after types kind size k before ls ≡ Ok entries → AreFine size entries
lines_fine types kind size [] k before entries fine h =
    whole (ltb (length before) size.entries) h where
      whole : (b : Bool) → cond b (Err (fault.CountDiffers k)) (Ok before) ≡ Ok entries → AreFine size entries
      whole true i = cc
      whole false i = let is : before ≡ entries = cc in rw (← is) fine
lines_fine types kind size (line ∷ more) k before entries fine h =
    goes (entries_with types kind size before (fields line)) (λ longer. line_fine types kind size before longer (fields line) fine) (λ longer sound i. lines_fine types kind size more (k + 1) longer entries sound i) h where
      goes : (r : Result (List Entry) LineFault) → ((longer : List Entry) → r ≡ Ok longer → AreFine size longer)
          → ((longer : List Entry) → AreFine size longer → entries_after types kind size (k + 1) longer more ≡ Ok entries → AreFine size entries) → on_line k r (λ longer. entries_after types kind size (k + 1) longer more) ≡ Ok entries → AreFine size entries
      goes (Ok longer) longer_fine rest i = rest longer (longer_fine longer refl) i
      goes (Err f) longer_fine rest i = cc

-- a size within some limits
pub record IsSmall (limits : Limits) (size : Size) : Type 0 where
  pub few_nodes : node_count size ≤ limits.nodes
  pub few_edges : size.entries ≤ limits.edges

limits_small : (limits : Limits) (s size : Size) → within_limits limits s ≡ Ok size → IsSmall limits size
limits_small limits s size h =
    choice (ltb limits.nodes (node_count s)) (ltb limits.edges s.entries) (λ e. grind (arith, nat_tests, e)) (λ e. grind (arith, nat_tests, e)) h where
      choice : (a b : Bool) → (a ≡ false → node_count s ≤ limits.nodes) → (b ≡ false → s.entries ≤ limits.edges) → cond a (Err TooManyNodes) (cond b (Err TooManyEdges) (Ok s)) ≡ Ok size → IsSmall limits size
      choice true b nodes edges i = cc
      choice false true nodes edges i = cc
      choice false false nodes edges i = let is : s ≡ size = cc in rw (← is) (record { few_nodes = nodes refl; few_edges = edges refl })

size_small : (limits : Limits) (size : Size) (parts : List (List ℕ)) → size_in limits parts ≡ Ok size → IsSmall limits size
size_small limits size parts h =
    parted (size_number (first_number parts)) (size_number (first_number (drop 1 parts))) (size_number (first_number (drop 2 parts))) h where
      parted : (r c e : Result ℕ LineFault) → (r >>= λ rows. c >>= λ columns. e >>= λ entries. within_limits limits (record { rows = rows; columns = columns; entries = entries })) ≡ Ok size → IsSmall limits size
      parted (Ok rows) (Ok columns) (Ok entries) i = limits_small limits (record { rows = rows; columns = columns; entries = entries }) size i
      parted (Ok rows) (Ok columns) (Err f) i = cc
      parted (Ok rows) (Err f) e i = cc
      parted (Err f) c e i = cc

found_small : (limits : Limits) (ls : List (List ℕ)) (k : ℕ) (found : Found) → size_line limits k ls ≡ Ok found → IsSmall limits found.size
found_small limits [] k found h = cc
found_small limits (line ∷ more) k found h =
    skipped (is_skipped (fields line)) (found_small limits more (k + 1) found) h where
      goes : (r : Result Size LineFault) → ((size : Size) → r ≡ Ok size → IsSmall limits size) → on_line k r (λ size. Ok (found_at k more size)) ≡ Ok found → IsSmall limits found.size
      goes (Ok size) small i =
          let is : found_at k more size ≡ found = one_found (Ok (found_at k more size)) (found_at k more size) found refl i in
          rw (← is) (small size refl)
      goes (Err f) small i = cc

      skipped : (b : Bool) → (size_line limits (k + 1) more ≡ Ok found → IsSmall limits found.size) → cond b (size_line limits (k + 1) more) (on_line k (size_in limits (fields line)) (λ size. Ok (found_at k more size))) ≡ Ok found → IsSmall limits found.size
      skipped true rest i = rest i
      skipped false rest i = goes (size_in limits (fields line)) (λ size. size_small limits size (fields line)) i

-- the whole matrix
pub matrix_sound : (shape : Shape) (limits : Limits) (ls : List (List ℕ)) (m : Matrix) → matrix_in shape limits ls ≡ Ok m → IsSound limits m
matrix_sound shape limits [] m h = cc
matrix_sound shape limits (header ∷ more) m h =
    headed (header_in (fields header)) h where
      filled : (kind : EntryValues) (found : Found) → IsSmall limits found.size → (r : Result (List Entry) MtxFault) → ((entries : List Entry) → r ≡ Ok entries → AreFine found.size entries) → matrix_with found.size r ≡ Ok m → IsSound limits m
      filled kind found small (Ok entries) fine i =
          let is : matrix_at found.size entries ≡ m = one_matrix (Ok (matrix_at found.size entries)) (matrix_at found.size entries) m refl i in
          rw (← is) (record { few_nodes = small.few_nodes; few_edges = small.few_edges; fine = fine entries refl })
      filled kind found small (Err f) fine i = cc

      sized : (kind : EntryValues) (r : Result Found MtxFault) → ((found : Found) → r ≡ Ok found → IsSmall limits found.size) → matrix_behind shape.edges kind r ≡ Ok m → IsSound limits m
      sized kind (Ok found) small i =
          filled kind found (small found refl) (entries_after shape.edges kind found.size (found.number + 1) [] found.more)
          (λ entries. lines_fine shape.edges kind found.size found.more (found.number + 1) [] entries (record { inside = All-nil (IsInside (node_count found.size)); count = omega arith })) i
      sized kind (Err f) small i = cc

      headed : (r : Result EntryValues LineFault) → on_line 1 r (λ kind. matrix_behind shape.edges kind (size_line limits 2 more)) ≡ Ok m → IsSound limits m
      headed (Ok kind) i = sized kind (size_line limits 2 more) (λ found. found_small limits more 2 found) i
      headed (Err f) i = cc
