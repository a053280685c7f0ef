-- Size lines and entries by what was read of their fields.
use Rattle.std.proofs.Common.{◌≡◌, ◌≤◌, ◌<◌, ℕ, true, false, cond, List, [], ◌∷◌, ◌++◌, length, map, ltb, refl, ap, sym, ◌∙◌, arith}
use Rattle.std.specs.Prelude.{Result, Ok, Err, IsOkAnd}
use Rattle.std.proofs.lemmas.Bool.Decides.{nat_tests}
use Rattle.std.proofs.lemmas.List.{map-append, length-map}
use Rattle.gm_value.specs.declared.values.VType.{VType}
use Rattle.gm_value.specs.declared.values.Value.{Value}
use Rattle.gm_columns.specs.Columns.{TypedRow}
use Rattle.gm_loader.specs.declared.limits.Limits.{Limits}
use Rattle.gm_loader.specs.GraphText.{columns_of}
use Rattle.gm_mtx.specs.declared.faults.LineFault.{LineFault}
use Rattle.gm_mtx.specs.declared.faults.LineFault.TheVariants.{CountDiffers}
use Rattle.gm_mtx.specs.declared.faults.LineStop.{LineStop}
use Rattle.gm_mtx.specs.declared.faults.LineStop.TheVariants.{Fault, NoMemory}
use Rattle.gm_mtx.specs.declared.headers.EntryValues.{EntryValues}
use Rattle.gm_mtx.specs.declared.sizes.Size.{Size}
use Rattle.gm_mtx.specs.declared.tables.Tables.{Tables}
use Rattle.gm_mtx.specs.Fields.{size_number, index_number, first_number}
use Rattle.gm_mtx.specs.MatrixMarket.{◌>>=◌, within_limits, size_in, Entry, values_in, entry_in, behind, entries_with, is_skipped}
use Rattle.gm_mtx.specs.Tables.{Reads, FillsColumns, Holds, Takes}

-- ---- the size line

pub size_stop : (limits : Limits) (parts : List (List ℕ)) (e : LineFault) → size_number (first_number parts) ≡ Err e → size_in limits parts ≡ Err e
size_stop limits parts e h = rw h refl

pub size_stop_two : (limits : Limits) (parts more : List (List ℕ)) (rows : ℕ) (e : LineFault) → Reads size_number parts rows more → size_number (first_number more) ≡ Err e → size_in limits parts ≡ Err e
size_stop_two limits parts more rows e r h = rw (r.first, r.spelled, h) refl

pub size_stop_three : (limits : Limits) (parts more rest : List (List ℕ)) (rows columns : ℕ) (e : LineFault) → Reads size_number parts rows more → Reads size_number more columns rest → size_number (first_number rest) ≡ Err e
    → size_in limits parts ≡ Err e
size_stop_three limits parts more rest rows columns e r c h = rw (r.first, r.spelled, c.first, c.spelled, h) refl

pub size_read : (limits : Limits) (parts more rest last : List (List ℕ)) (rows columns entries : ℕ) → Reads size_number parts rows more → Reads size_number more columns rest → Reads size_number rest entries last
    → size_in limits parts ≡ within_limits limits (record { rows = rows; columns = columns; entries = entries })
size_read limits parts more rest last rows columns entries r c e = rw (r.first, r.spelled, c.first, c.spelled, e.first, e.spelled) refl

-- ---- entries

pub entry_stop : (types : List VType) (kind : EntryValues) (size : Size) (before : List Entry) (parts : List (List ℕ)) (e : LineFault) → index_number size.rows (first_number parts) ≡ Err e
    → (entry_in types kind size parts >>= behind size before) ≡ Err e
entry_stop types kind size before parts e h = rw h refl

pub entry_stop_two : (types : List VType) (kind : EntryValues) (size : Size) (before : List Entry) (parts more : List (List ℕ)) (row : ℕ) (e : LineFault) → Reads (index_number size.rows) parts row more
    → index_number size.columns (first_number more) ≡ Err e → (entry_in types kind size parts >>= behind size before) ≡ Err e
entry_stop_two types kind size before parts more row e r h = rw (r.first, r.spelled, h) refl

-- an entry by its values
entry_read : (types : List VType) (kind : EntryValues) (size : Size) (parts more rest : List (List ℕ)) (row column : ℕ) → Reads (index_number size.rows) parts row more → Reads (index_number size.columns) more column rest
    → entry_in types kind size parts ≡ (values_in types kind rest >>= λ values. Ok (record { row = row; column = column; values = values }))
entry_read types kind size parts more rest row column r c = rw (r.first, r.spelled, c.first, c.spelled) refl

pub entry_stop_three : (types : List VType) (kind : EntryValues) (size : Size) (before : List Entry) (old new : Tables) (columns : List TypedRow) (parts more rest : List (List ℕ)) (row column : ℕ) (stop : LineStop)
    → Holds types before old → Reads (index_number size.rows) parts row more → Reads (index_number size.columns) more column rest
    → FillsColumns types kind rest old.edge_columns.items columns (Err stop) → Takes types (entry_in types kind size parts >>= behind size before) new (Err stop)
entry_stop_three types kind size before old new columns parts more rest row column NoMemory h r c f = tt
entry_stop_three types kind size before old new columns parts more rest row column (Fault e) h r c f =
    let bad : values_in types kind rest ≡ Err e = f (map (λ e. e.values) before) h.edge_columns in
    ap (λ j. j >>= behind size before) (entry_read types kind size parts more rest row column r c ∙ ap (λ v. v >>= λ values. Ok (record { row = row; column = column; values = values })) bad)

-- the entries so far
held_count : (types : List VType) (before : List Entry) (tables : Tables) → Holds types before tables → length tables.from ≡ length before
held_count types before tables h = ap length h.from ∙ length-map before (λ e. e.row)

pub entry_far : (types : List VType) (kind : EntryValues) (size : Size) (before : List Entry) (old new : Tables) (columns : List TypedRow) (parts more rest : List (List ℕ)) (row column : ℕ) (done : Unit {0})
    → Holds types before old → Reads (index_number size.rows) parts row more → Reads (index_number size.columns) more column rest
    → FillsColumns types kind rest old.edge_columns.items columns (Ok done) → size.entries ≤ length old.from
    → Takes types (entry_in types kind size parts >>= behind size before) new (Err (Fault CountDiffers))
entry_far types kind size before old new columns parts more rest row column done h r c f many =
    let full : ltb (length before) size.entries ≡ false = grind (arith, nat_tests, held_count types before old h, many) in
    ap (λ j. j >>= behind size before) (entry_read types kind size parts more rest row column r c)
    ∙ goes (values_in types kind rest) (f (map (λ e. e.values) before) h.edge_columns) full where
      goes : (v : Result (List Value) LineFault) → IsOkAnd v (λ values. columns ≡ columns_of types (map (λ (e : Entry). e.values) before ++ values ∷ [])) → ltb (length before) size.entries ≡ false
          → ((v >>= λ values. Ok (record { row = row; column = column; values = values })) >>= behind size before) ≡ Err CountDiffers
      goes (Ok values) t full = rw full refl
      goes (Err e) t full = absurd t

pub entry_taken : (types : List VType) (kind : EntryValues) (size : Size) (before : List Entry) (old new : Tables) (parts more rest : List (List ℕ)) (row column : ℕ) (done last : Unit {0})
    → Holds types before old → Reads (index_number size.rows) parts row more → Reads (index_number size.columns) more column rest
    → FillsColumns types kind rest old.edge_columns.items new.edge_columns.items (Ok done) → length old.from < size.entries
    → new.from ≡ old.from ++ row ∷ [] → new.to ≡ old.to ++ column ∷ []
    → Takes types (entry_in types kind size parts >>= behind size before) new (Ok last)
entry_taken types kind size before old new parts more rest row column done last h r c f room from to =
    let less : ltb (length before) size.entries ≡ true = grind (arith, nat_tests, held_count types before old h, room) in
    goes (values_in types kind rest) (f (map (λ e. e.values) before) h.edge_columns) (entry_read types kind size parts more rest row column r c) less where
      goes : (v : Result (List Value) LineFault) → IsOkAnd v (λ values. new.edge_columns.items ≡ columns_of types (map (λ (e : Entry). e.values) before ++ values ∷ []))
          → entry_in types kind size parts ≡ (v >>= λ values. Ok (record { row = row; column = column; values = values })) → ltb (length before) size.entries ≡ true
          → IsOkAnd (entry_in types kind size parts >>= behind size before) (λ longer. Holds types longer new)
      goes (Ok values) t is less =
          let entry : Entry = record { row = row; column = column; values = values } in
          rw (is, less) (record {
            from = from ∙ ap (λ z. z ++ row ∷ []) h.from ∙ sym (map-append (λ (e : Entry). e.row) before (record { row = row; column = column; values = values } ∷ []));
            to = to ∙ ap (λ z. z ++ column ∷ []) h.to ∙ sym (map-append (λ (e : Entry). e.column) before (record { row = row; column = column; values = values } ∷ []));
            edge_columns = t ∙ ap (columns_of types) (sym (map-append (λ (e : Entry). e.values) before (record { row = row; column = column; values = values } ∷ [])));
          })
      goes (Err e) t is less = absurd t

-- a line that is skipped, and one that is an entry
pub skipped_taken : (types : List VType) (kind : EntryValues) (size : Size) (before : List Entry) (tables : Tables) (parts : List (List ℕ)) (done : Unit {0}) → Holds types before tables → is_skipped parts ≡ true
    → Takes types (entries_with types kind size before parts) tables (Ok done)
skipped_taken types kind size before tables parts done h skipped = rw skipped h

pub entry_line : (types : List VType) (kind : EntryValues) (size : Size) (before : List Entry) (tables : Tables) (parts : List (List ℕ)) (result : Result (Unit {0}) LineStop) → is_skipped parts ≡ false
    → Takes types (entry_in types kind size parts >>= behind size before) tables result → Takes types (entries_with types kind size before parts) tables result
entry_line types kind size before tables parts result counts t =
    let same : entries_with types kind size before parts ≡ (entry_in types kind size parts >>= behind size before) = ap (λ b. cond b (Ok before) (entry_in types kind size parts >>= behind size before)) counts in
    rw same t
