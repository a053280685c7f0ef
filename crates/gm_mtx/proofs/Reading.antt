-- A text that is read line by line.
use Rattle.std.proofs.Common.{◌≡◌, ◌≤◌, ◌<◌, ◌+◌, ℕ, zero, suc, true, false, cond, List, [], ◌∷◌, ◌++◌, length, ltb, refl, ap, sym, ◌∙◌, arith}
use Rattle.std.specs.Prelude.{Result, Ok, Err, IsOkAnd}
use Rattle.std.specs.List.{range_with_len}
use Rattle.std.specs.Str.Lines.{lines}
use Rattle.std.proofs.lemmas.Bool.Decides.{nat_tests}
use Rattle.std.proofs.lemmas.List.{length-map}
use Rattle.gm_fields.specs.Fields.{fields}
use Rattle.gm_value.specs.declared.values.VType.{VType}
use Rattle.gm_loader.specs.declared.limits.Limits.{Limits}
use Rattle.gm_mtx.specs.declared.faults.LineFault.{LineFault}
use Rattle.gm_mtx.specs.declared.faults.MtxFault.TheVariants as fault
use Rattle.gm_mtx.specs.declared.headers.EntryValues.{EntryValues}
use Rattle.gm_mtx.specs.declared.sizes.Size.{Size}
use Rattle.gm_mtx.specs.declared.tables.Tables.{Tables}
use Rattle.gm_mtx.specs.MatrixMarket.{is_skipped, size_in, size_line, Entry, on_line, entries_with, entries_after, all_entries}
use Rattle.gm_mtx.specs.Tables.{Holds, HoldsEntries, Takes}

-- lines before the size line were skipped
pub record IsSeeking (limits : Limits) (text rest : List ℕ) (number : ℕ) : Type 0 where
  pub same : size_line limits 2 (lines text) ≡ size_line limits number (lines rest)
  pub room : number + length rest ≤ length text + 2

-- the size line is where it was, behind a line that is skipped
pub seeking_more : (limits : Limits) (text rest line behind : List ℕ) (number : ℕ) → IsSeeking limits text rest number → lines rest ≡ line ∷ lines behind → length behind < length rest
    → is_skipped (fields line) ≡ true → IsSeeking limits text behind (number + 1)
seeking_more limits text rest line behind number s cut shorter skipped = record {
  same =
      s.same ∙ ap (size_line limits number) cut
      ∙ ap (λ b. cond b (size_line limits (number + 1) (lines behind)) (on_line number (size_in limits (fields line)) (λ size. Ok (record { size = size; number = number; more = lines behind })))) skipped;
  room = omega (arith, s.room, shorter);
}

-- some entries were read, which have no fault; the rest is still to be read
pub record IsReading (types : List VType) (kind : EntryValues) (size : Size) (first : ℕ) (text rest : List ℕ) (number : ℕ) (tables : Tables) : Type 0 where
  pub before : List Entry
  pub same : entries_after types kind size first [] (lines text) ≡ entries_after types kind size number before (lines rest)
  pub room : number + length rest ≤ 9223372036854775811
  pub held : Holds types before tables

-- one line more was taken in
pub reading_more : (types : List VType) (kind : EntryValues) (size : Size) (first : ℕ) (text rest line behind : List ℕ) (number : ℕ) (old new : Tables) (done : Unit {0})
    → (r : IsReading types kind size first text rest number old) → lines rest ≡ line ∷ lines behind → length behind < length rest
    → Takes types (entries_with types kind size r.before (fields line)) new (Ok done) → IsReading types kind size first text behind (number + 1) new
reading_more types kind size first text rest line behind number old new done r cut shorter takes =
    goes (entries_with types kind size r.before (fields line)) refl takes where
      goes : (j : Result (List Entry) LineFault) → entries_with types kind size r.before (fields line) ≡ j → IsOkAnd j (λ longer. Holds types longer new) → IsReading types kind size first text behind (number + 1) new
      goes (Ok longer) e t = record {
        before = longer;
        same =
            r.same ∙ ap (entries_after types kind size number r.before) cut
            ∙ ap (λ j. on_line number j (λ more. entries_after types kind size (number + 1) more (lines behind))) e;
        room = omega (arith, r.room, shorter);
        held = t;
      }
      goes (Err f) e t = absurd t

-- all lines were read
read_whole : (types : List VType) (kind : EntryValues) (size : Size) (first : ℕ) (text rest : List ℕ) (number : ℕ) (tables : Tables) → (r : IsReading types kind size first text rest number tables)
    → length rest ≡ 0 → entries_after types kind size first [] (lines text) ≡ all_entries size number r.before
read_whole types kind size first text [] number tables r none = r.same
read_whole types kind size first text (b ∷ rest) number tables r none = absurd (omega (arith, none))

pub read_few : (types : List VType) (kind : EntryValues) (size : Size) (first : ℕ) (text rest : List ℕ) (number : ℕ) (tables : Tables) → (r : IsReading types kind size first text rest number tables)
    → length rest ≡ 0 → length tables.from < size.entries → entries_after types kind size first [] (lines text) ≡ Err (fault.CountDiffers number)
read_few types kind size first text rest number tables r none less =
    let count : length tables.from ≡ length r.before = ap length r.held.from ∙ length-map r.before (λ e. e.row) in
    let few : ltb (length r.before) size.entries ≡ true = grind (arith, nat_tests, count, less) in
    read_whole types kind size first text rest number tables r none ∙ ap (λ b. cond b (Err (fault.CountDiffers number)) (Ok r.before)) few

pub read_all_entries : (types : List VType) (kind : EntryValues) (size : Size) (number : ℕ) (text rest : List ℕ) (last : ℕ) (tables : Tables) → (r : IsReading types kind size (number + 1) text rest last tables)
    → length rest ≡ 0 → size.entries ≤ length tables.from → HoldsEntries types kind size number text tables
read_all_entries types kind size number text rest last tables r none enough =
    let count : length tables.from ≡ length r.before = ap length r.held.from ∙ length-map r.before (λ e. e.row) in
    let full : ltb (length r.before) size.entries ≡ false = grind (arith, nat_tests, count, enough) in
    record {
      entries = r.before;
      no_fault = read_whole types kind size (number + 1) text rest last tables r none ∙ ap (λ b. cond b (Err (fault.CountDiffers last)) (Ok r.before)) full;
      held = r.held;
    }

-- the numbers of nodes with one more
range_last : (a n j : ℕ) → a + n ≡ j → range_with_len a (suc n) ≡ range_with_len a n ++ j ∷ []
range_last a zero j e = let same : a ≡ j = omega (arith, e) in ap (λ z. z ∷ []) same
range_last a (suc n) j e = ap (λ z. a ∷ z) (range_last (a + 1) n j (omega (arith, e)))

pub numbers_more : (n j : ℕ) (old new : List ℕ) → old ≡ range_with_len 1 n → new ≡ old ++ j ∷ [] → 1 + n ≡ j → new ≡ range_with_len 1 (n + 1)
numbers_more n j old new is added next =
    let on : suc n ≡ n + 1 = omega arith in
    added ∙ ap (λ z. z ++ j ∷ []) is ∙ sym (range_last 1 n j next) ∙ ap (range_with_len 1) on
