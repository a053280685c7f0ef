-- Columns that are filled row by row.
use Rattle.std.proofs.Common.{◌≡◌, ◌<◌, ◌+◌, ℕ, List, [], ◌∷◌, ◌++◌, length, map, take, drop, get_or, refl, ap, sym, ◌∙◌}
use Rattle.std.specs.Prelude.{Result, Ok, Err}
use Rattle.std.proofs.lemmas.List.{map-append, take_more}
use Rattle.gm_value.specs.declared.values.VType.{VType}
use Rattle.gm_value.specs.declared.values.Value.{Value}
use Rattle.gm_columns.specs.Columns.{TypedRow}
use Rattle.gm_graph.specs.Builds.{types_of}
use Rattle.gm_loader.specs.declared.faults.LineFault.{LineFault}
use Rattle.gm_loader.specs.Fields.{value_in}
use Rattle.gm_loader.specs.Lines.{NodeLine, EdgeLine, ◌>>=◌, first_number, values_in, edge_line, node_line}
use Rattle.gm_loader.specs.GraphText.{columns_of, first_value}
use Rattle.gm_loader.specs.Tables.{row_added, with_value, ReadsNumber}

-- columns behind others
abbrev pub behind_columns : List TypedRow → Result (List TypedRow) LineFault → Result (List TypedRow) LineFault
behind_columns done rest = rest >>= λ columns. Ok (done ++ columns)

-- a row of fields, added to columns with rows
pub row_columns : (types : List VType) (rows : List (List Value)) (parts : List (List ℕ)) → row_added (columns_of types rows) parts ≡ (values_in types parts >>= λ values. Ok (columns_of types (rows ++ values ∷ [])))
row_columns [] rows parts = refl
row_columns (t ∷ ts) rows [] = refl
row_columns (t ∷ ts) rows (part ∷ parts) =
    first (row_columns ts (map (drop 1) rows) parts) (value_in t part) where
      longer : (v : Value) (vs : List Value) → with_value (record { vtype = t; values = map (first_value t) rows }) v ∷ columns_of ts (map (drop 1) rows ++ vs ∷ []) ≡ columns_of (t ∷ ts) (rows ++ (v ∷ vs) ∷ [])
      longer v vs =
          let heads : map (first_value t) (rows ++ (v ∷ vs) ∷ []) ≡ map (first_value t) rows ++ v ∷ [] = map-append (first_value t) rows ((v ∷ vs) ∷ []) in
          let tails : map (drop 1) (rows ++ (v ∷ vs) ∷ []) ≡ map (drop 1) rows ++ vs ∷ [] = map-append (drop 1) rows ((v ∷ vs) ∷ []) in
          rw (heads, tails) refl

      second : (v : Value) (s : Result (List Value) LineFault)
          → ((s >>= λ vs. Ok (columns_of ts (map (drop 1) rows ++ vs ∷ []))) >>= λ columns. Ok (with_value (record { vtype = t; values = map (first_value t) rows }) v ∷ columns))
          ≡ ((s >>= λ vs. Ok (v ∷ vs)) >>= λ values. Ok (columns_of (t ∷ ts) (rows ++ values ∷ [])))
      second v (Ok vs) = ap Ok (longer v vs)
      second v (Err e) = refl

      first : row_added (columns_of ts (map (drop 1) rows)) parts ≡ (values_in ts parts >>= λ vs. Ok (columns_of ts (map (drop 1) rows ++ vs ∷ []))) → (r : Result Value LineFault)
          → (r >>= λ v. row_added (columns_of ts (map (drop 1) rows)) parts >>= λ columns. Ok (with_value (record { vtype = t; values = map (first_value t) rows }) v ∷ columns))
          ≡ ((r >>= λ v. values_in ts parts >>= λ vs. Ok (v ∷ vs)) >>= λ values. Ok (columns_of (t ∷ ts) (rows ++ values ∷ [])))
      first rest (Ok v) = ap (λ s. s >>= λ columns. Ok (with_value (record { vtype = t; values = map (first_value t) rows }) v ∷ columns)) rest ∙ second v (values_in ts parts)
      first rest (Err e) = refl

-- the values that were added, or the fault
abbrev pub Added : List VType → List (List Value) → List (List ℕ) → List TypedRow → Type 0
Added types rows parts new = (values : List Value) × (values_in types parts ≡ Ok values) × (new ≡ columns_of types (rows ++ values ∷ []))

pub added_row : (types : List VType) (rows : List (List Value)) (parts : List (List ℕ)) (old new : List TypedRow) → old ≡ columns_of types rows → row_added old parts ≡ Ok new → Added types rows parts new
added_row types rows parts old new is h =
    gives (values_in types parts) (sym (row_columns types rows parts) ∙ ap (λ c. row_added c parts) (sym is) ∙ h) where
      gives : (s : Result (List Value) LineFault) → (s >>= λ values. Ok (columns_of types (rows ++ values ∷ []))) ≡ Ok new → (values : List Value) × (s ≡ Ok values) × (new ≡ columns_of types (rows ++ values ∷ []))
      gives (Ok values) e = (values, refl, cc)
      gives (Err f) e = cc

pub fault_row : (types : List VType) (rows : List (List Value)) (parts : List (List ℕ)) (old : List TypedRow) (e : LineFault) → old ≡ columns_of types rows → row_added old parts ≡ Err e → values_in types parts ≡ Err e
fault_row types rows parts old e is h =
    gives (values_in types parts) (sym (row_columns types rows parts) ∙ ap (λ c. row_added c parts) (sym is) ∙ h) where
      gives : (s : Result (List Value) LineFault) → (s >>= λ values. Ok (columns_of types (rows ++ values ∷ []))) ≡ Err e → s ≡ Err e
      gives (Ok values) i = cc
      gives (Err f) i = cc

-- lines by what was read of them
pub first_read : (parts more : List (List ℕ)) (n : ℕ) → ReadsNumber parts n more → first_number parts ≡ Ok n
first_read parts more n r = rw r.first r.spelled

pub first_rest : (parts more : List (List ℕ)) (n : ℕ) → ReadsNumber parts n more → drop 1 parts ≡ more
first_rest parts more n r = rw r.first refl

pub node_read : (types : List VType) (parts more : List (List ℕ)) (n : ℕ) → ReadsNumber parts n more → node_line types parts ≡ (values_in types more >>= λ values. Ok (NodeLine n values))
node_read types parts more n r =
    rw (first_read parts more n r, first_rest parts more n r) refl

pub edge_read : (types : List VType) (parts middle more : List (List ℕ)) (a b : ℕ) → ReadsNumber parts a middle → ReadsNumber middle b more → edge_line types parts ≡ (values_in types more >>= λ values. Ok (EdgeLine a b values))
edge_read types parts middle more a b r s =
    let rest : drop 2 parts ≡ more = rw (r.first, s.first) refl in
    rw (first_read parts middle a r, first_rest parts middle a r, first_read middle more b s, rest) refl

-- columns without rows
pub columns_types : (types : List VType) (rows : List (List Value)) → types_of (columns_of types rows) ≡ types
columns_types [] rows = refl
columns_types (t ∷ ts) rows = ap (λ z. t ∷ z) (columns_types ts (map (drop 1) rows))

-- columns without rows, one more
pub columns_none : (types : List VType) (t : VType) → columns_of (types ++ t ∷ []) [] ≡ columns_of types [] ++ record { vtype = t; values = [] } ∷ []
columns_none [] t = refl
columns_none (u ∷ types) t = ap (λ z. record { vtype = u; values = [] } ∷ z) (columns_none types t)

pub column_none : (column : TypedRow) (t : VType) → column.vtype ≡ t → column.values ≡ [] → column ≡ record { vtype = t; values = [] }
column_none column t e f =
    let first : column ≡ record { vtype = t; values = column.values } = ap (λ u. record { vtype = u; values = column.values }) e in
    first ∙ ap (λ vs. record { vtype = t; values = vs }) f

pub columns_more : (types : List VType) (i : ℕ) (t d : VType) (column : TypedRow) (columns new : List TypedRow) → i < length types → t ≡ get_or types i d → column.vtype ≡ t → column.values ≡ []
    → columns ≡ columns_of (take i types) [] → new ≡ columns ++ column ∷ [] → new ≡ columns_of (take (i + 1) types) []
columns_more types i t d column columns new h is e f old more =
    let longer : take (i + 1) types ≡ take i types ++ t ∷ [] = take_more types i d h ∙ ap (λ u. take i types ++ u ∷ []) (sym is) in
    more ∙ rw (longer, old, column_none column t e f) (sym (columns_none (take i types) t))
