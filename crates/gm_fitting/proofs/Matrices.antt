-- The columns of the graph that a Matrix Market text stands for hold values of their types.
use Rattle.std.proofs.Common.{◌≡◌, ◌+◌, ℕ, Bool, true, false, List, [], ◌∷◌, ◌++◌, length, map, drop, refl, sym, subst, Option, Some, None, Result, Ok, Err}
use Rattle.std.specs.Prelude.{IfOk, ℤ, nat_lt, if◌then◌else◌}
use Rattle.std.specs.Str.Lines.{lines}
use Rattle.gm_fields.specs.Fields.{fields}
use Rattle.gm_value.specs.declared.values.VType.{VType}
use Rattle.gm_value.specs.declared.values.VType.TheVariants as V
use Rattle.gm_value.specs.declared.values.Value.{Value}
use Rattle.gm_value.specs.declared.values.Value.TheVariants as Values
use Rattle.gm_value.specs.Numbers.{fits, value_at}
use Rattle.gm_graph.specs.declared.builds.Shape.{Shape}
use Rattle.gm_typed_stores.specs.Values.{IsValue, AreValues, AreColumns, Each}
use Rattle.gm_loader.specs.declared.limits.Limits.{Limits}
use Rattle.gm_loader.specs.Fields.{whole_in, flag_in}
use Rattle.gm_mtx.specs.declared.faults.LineFault.{LineFault}
use Rattle.gm_mtx.specs.declared.faults.LineFault.TheVariants.{OutOfRange, CountDiffers}
use Rattle.gm_mtx.specs.declared.faults.MtxFault.{MtxFault}
use Rattle.gm_mtx.specs.declared.faults.MtxFault.TheVariants as fault
use Rattle.gm_mtx.specs.declared.headers.EntryValues.{EntryValues}
use Rattle.gm_mtx.specs.declared.headers.EntryValues.TheVariants.{Integer, Pattern}
use Rattle.gm_mtx.specs.declared.sizes.Size.{Size}
use Rattle.gm_mtx.specs.Fields.{index_number, first_number, whole_value, flag_value, value_in}
use Rattle.gm_mtx.specs.MatrixMarket.{◌>>=◌, Entry, for_one, values_in, entry_in, behind, with_entry, entries_with, is_skipped, on_line, Found, size_line, all_entries, entries_after, Matrix, matrix_with, matrix_behind, header_in, matrix_in, matrix_of, node_count, zero_column, raw_of}
use Rattle.gm_fitting.specs.Laws.{MatricesHaveColumns}
use Rattle.gm_fitting.proofs.Columns.{each-both, Rows, columns-good, as-columns, as-spread, zero-columns}

module _ (limit : ℕ) where
  -- ---- fields

  whole-good : (t : VType) → ((z : ℤ) → fits t z ≡ true → IsValue limit t (value_at t z)) → (o : Option ℤ) → IfOk (whole_value t o) (IsValue limit t)
  whole-good t good None = tt
  whole-good t good (Some z) = by (fits t z) refl
    where
      by : (b : Bool) → fits t z ≡ b → IfOk (if b then Ok (value_at t z) else Err OutOfRange) (IsValue limit t)
      by true e = good z e
      by false e = tt

  flag-good : (o : Option Bool) → IfOk (flag_value o) (IsValue limit V.Flag)
  flag-good None = tt
  flag-good (Some true) = record { of_type = (refl, refl); below = tt }
  flag-good (Some false) = record { of_type = (refl, refl); below = tt }

  field-good : (t : VType) (field : List ℕ) → IfOk (value_in t field) (IsValue limit t)
  field-good V.I32 field = whole-good V.I32 (λ z e. record { of_type = (refl, e); below = tt }) (whole_in field)
  field-good V.I64 field = whole-good V.I64 (λ z e. record { of_type = (refl, e); below = tt }) (whole_in field)
  field-good V.Flag field = flag-good (flag_in field)
  field-good V.Node field = tt

  -- ---- entries

  bind-good : {A B : Type 0} (P : A → Type 0) (Q : B → Type 0) (r : Result A LineFault) (f : A → Result B LineFault) → IfOk r P → ((x : A) → P x → IfOk (f x) Q) → IfOk (r >>= f) Q
  bind-good P Q (Ok x) f h k = k x h
  bind-good P Q (Err e) f h k = tt

  any : {A : Type 0} (r : Result A LineFault) → IfOk r (λ (x : A). Unit {0})
  any (Ok x) = tt
  any (Err e) = tt

  one-good : (t : VType) (ts : List VType) (v : Value) → IsValue limit t v → IfOk (for_one ts v) (AreValues limit (t ∷ ts))
  one-good t [] v h = (h, tt)
  one-good t (u ∷ ts) v h = tt

  values-good : (ts : List VType) (kind : EntryValues) (parts : List (List ℕ)) → IfOk (values_in ts kind parts) (AreValues limit ts)
  values-good [] kind parts = tt
  values-good (t ∷ ts) Pattern parts = tt
  values-good (t ∷ ts) Integer [] = tt
  values-good (t ∷ ts) Integer (field ∷ more) = bind-good (IsValue limit t) (AreValues limit (t ∷ ts)) (value_in t field) (for_one ts) (field-good t field) (λ v h. one-good t ts v h)

  module _ (ts : List VType) where
    abbrev IsEntry : Entry → Type 0
    IsEntry e = AreValues limit ts e.values

    entry-good : (kind : EntryValues) (size : Size) (parts : List (List ℕ)) → IfOk (entry_in ts kind size parts) IsEntry
    entry-good kind size parts =
        bind-good (λ (n : ℕ). Unit {0}) IsEntry (index_number size.rows (first_number parts))
        (λ row. index_number size.columns (first_number (drop 1 parts)) >>= (λ column. values_in ts kind (drop 2 parts) >>= (λ values. Ok (record { row = row; column = column; values = values })))) (any (index_number size.rows (first_number parts)))
        (λ a u.
        bind-good (λ (n : ℕ). Unit {0}) IsEntry (index_number size.columns (first_number (drop 1 parts))) (λ column. values_in ts kind (drop 2 parts) >>= (λ values. Ok (record { row = a; column = column; values = values })))
        (any (index_number size.columns (first_number (drop 1 parts))))
        (λ b w. bind-good (AreValues limit ts) IsEntry (values_in ts kind (drop 2 parts)) (λ values. Ok (record { row = a; column = b; values = values })) (values-good ts kind (drop 2 parts)) (λ vs h. h)))

    behind-good : (size : Size) (before : List Entry) (e : Entry) → Each IsEntry before → IsEntry e → IfOk (behind size before e) (Each IsEntry)
    behind-good size before e h k = by (nat_lt (length before) size.entries)
      where
        by : (b : Bool) → IfOk (if b then Ok (before ++ e ∷ []) else Err CountDiffers) (Each IsEntry)
        by true = each-both IsEntry before (e ∷ []) h (k, tt)
        by false = tt

    with-good : (kind : EntryValues) (size : Size) (before : List Entry) (parts : List (List ℕ)) → Each IsEntry before → IfOk (entries_with ts kind size before parts) (Each IsEntry)
    with-good kind size before parts h = by (is_skipped parts)
      where
        by : (b : Bool) → IfOk (if b then Ok before else with_entry ts kind size before parts) (Each IsEntry)
        by true = h
        by false = bind-good IsEntry (Each IsEntry) (entry_in ts kind size parts) (behind size before) (entry-good kind size parts) (λ e k. behind-good size before e h k)

    all-entries-good : (size : Size) (k : ℕ) (entries : List Entry) → Each IsEntry entries → IfOk (all_entries size k entries) (Each IsEntry)
    all-entries-good size k entries h = by (nat_lt (length entries) size.entries)
      where
        by : (b : Bool) → IfOk (if b then Err (fault.CountDiffers k) else Ok entries) (Each IsEntry)
        by true = tt
        by false = h

    on-good : {A B : Type 0} (P : A → Type 0) (Q : B → Type 0) (k : ℕ) (r : Result A LineFault) (go : A → Result B MtxFault) → IfOk r P → ((x : A) → P x → IfOk (go x) Q) → IfOk (on_line k r go) Q
    on-good P Q k (Ok x) go h g = g x h
    on-good P Q k (Err e) go h g = tt

    after-good : (kind : EntryValues) (size : Size) (k : ℕ) (before : List Entry) (texts : List (List ℕ)) → Each IsEntry before → IfOk (entries_after ts kind size k before texts) (Each IsEntry)
    after-good kind size k before [] h = all-entries-good size k before h
    after-good kind size k before (line ∷ more) h =
        on-good (Each IsEntry) (Each IsEntry) k (entries_with ts kind size before (fields line)) (λ longer. entries_after ts kind size (k + 1) longer more) (with-good kind size before (fields line) h)
        (λ longer l. after-good kind size (k + 1) longer more l)

    -- ---- the whole text

    abbrev IsMatrix : Matrix → Type 0
    IsMatrix m = Each IsEntry m.entries

    matrix-good : (size : Size) (r : Result (List Entry) MtxFault) → IfOk r (Each IsEntry) → IfOk (matrix_with size r) IsMatrix
    matrix-good size (Ok entries) h = h
    matrix-good size (Err e) h = tt

    found-good : (kind : EntryValues) (r : Result Found MtxFault) → IfOk (matrix_behind ts kind r) IsMatrix
    found-good kind (Err e) = tt
    found-good kind (Ok found) = matrix-good found.size (entries_after ts kind found.size (found.number + 1) [] found.more) (after-good kind found.size (found.number + 1) [] found.more tt)

  text-good : (shape : Shape) (limits : Limits) (text : List ℕ) → IfOk (matrix_of shape limits text) (IsMatrix shape.edges)
  text-good shape limits text = by (nat_lt limits.bytes (length text)) (lines text)
    where
      inside : (ls : List (List ℕ)) → IfOk (matrix_in shape limits ls) (IsMatrix shape.edges)
      inside [] = tt
      inside (header ∷ more) =
          on-good shape.edges (λ (k : EntryValues). Unit {0}) (IsMatrix shape.edges) 1 (header_in (fields header)) (λ kind. matrix_behind shape.edges kind (size_line limits 2 more)) (any (header_in (fields header)))
          (λ kind u. found-good shape.edges kind (size_line limits 2 more))

      by : (b : Bool) (ls : List (List ℕ)) → IfOk (if b then Err fault.TooLong else matrix_in shape limits ls) (IsMatrix shape.edges)
      by true ls = tt
      by false ls = inside ls

  entries-rows : (ts : List VType) (es : List Entry) → Each (IsEntry ts) es → Rows limit ts (map (λ (e : Entry). e.values) es)
  entries-rows ts [] h = tt
  entries-rows ts (e ∷ es) h = (h.0, entries-rows ts es h.1)

pub matrices : MatricesHaveColumns
matrices limit shape limits text g h =
    let good = subst (λ r. IfOk r (IsMatrix limit shape.edges)) h.no_fault (text-good limit shape limits text) in
    let m = h.matrix in
    let raw = raw_of shape m in
    let n = node_count m.size in
    record {
      nodes = subst (AreColumns limit shape.nodes) (sym h.built.node_columns) (as-spread limit g.numbers raw.extra shape.nodes raw.node_columns (zero-columns limit (zero_column n) n (λ t. refl) shape.nodes));
      edges =
          subst (AreColumns limit shape.edges) (sym h.built.edge_columns)
          (as-columns limit shape.edges raw.edge_columns (columns-good limit shape.edges (map (λ (e : Entry). e.values) m.entries) (entries-rows limit shape.edges m.entries good)));
    }
