-- Rows of numbers: one more row, and the value that a row gives.
use Rattle.std.proofs.Common.{◌≡◌, ◌≢◌, ◌<◌, ◌≤◌, ◌+◌, inl, inr, ℕ, zero, suc, List, [], ◌∷◌, length, get_or, set, refl, sym, subst, ◌∙◌, ap, arith}
use Rattle.std.specs.Prelude.{slice_index, map, AllPairs}
use Rattle.std.specs.List.Sorted.{IsStrictlyIncreasing}
use Rattle.std.proofs.lemmas.Bool.{cases_eq, cases_lt, eq-eqb, ne_eqb}
use Rattle.std.proofs.lemmas.List.{get_or-set_same, get_or-set_other}
use Rattle.gm_value.specs.declared.values.VType.{VType}
use Rattle.gm_value.specs.declared.values.Value.{Value}
use Rattle.gm_value.specs.Numbers.{zero_of}
use Rattle.gm_columns.specs.Columns.{TypedRow}
use Rattle.gm_graph.specs.Builds.{value_for, spread_out}
use Rattle.gm_graph.specs.Spreads.{IsRowOf, value_in}
use Rattle.gm_graph.proofs.Ascending.{one_place}

-- the rows of the numbers, after the row of one more number of extra
pub rows-more : (numbers extra rows : List ℕ) (row at : ℕ) → IsStrictlyIncreasing numbers → length rows ≡ length numbers → at < length numbers → get_or numbers at 0 ≡ get_or extra row 0 → ((k : ℕ) → k < length numbers → IsRowOf extra row (slice_index numbers k) (slice_index rows k)) → (k : ℕ) → k < length numbers → IsRowOf extra (row + 1) (slice_index numbers k) (slice_index (set rows at row) k)
rows-more numbers extra rows row at up long within is held k h =
    elim (cases_eq k at) [
      | inl here ↦ (let P : ℕ → Type 0 = λ m. IsRowOf extra (row + 1) (slice_index numbers m) (slice_index (set rows at row) m) in
          let wrote : slice_index (set rows at row) at ≡ row = get_or-set_same rows at row 0 (omega arith) in
          let below : row < row + 1 = omega arith in
          let at_row : P at = rw wrote (inr (below, sym is)) in
          subst P (sym here) at_row)
      | inr elsewhere ↦ (let kept : slice_index (set rows at row) k ≡ slice_index rows k = get_or-set_other rows at k row 0 elsewhere in
          rw kept (elim (held k h) [
            | inl none ↦ inl (
              none.0,
              λ j below same. elim (cases_lt j row) [
                | inl earlier ↦ none.1 j earlier same
                | inr later ↦ (let last : j ≡ row = omega arith in
                    elsewhere (one_place numbers up k at h within (sym same ∙ (ap (λ m. get_or extra m 0) last ∙ sym is))))
              ],
            )
            | inr some ↦ (let below : slice_index rows k < row + 1 = omega arith in inr (below, some.1))
          ]))
    ]

-- the value that stands for a number of which the row is known
value_for-row : (t : VType) (rows : List ℕ) (values : List Value) (number row : ℕ) → length values ≡ length rows → row < length rows → get_or rows row 0 ≡ number → ((j : ℕ) → j < row → get_or rows j 0 ≢ number) → value_for t rows values number ≡ get_or values row (zero_of t)
value_for-row t [] values number row long within is first = absurd (omega arith)
value_for-row t (x ∷ rows) [] number row long within is first = absurd (omega arith)
value_for-row t (x ∷ rows) (v ∷ values) number zero long within is first = rw (eq-eqb x number is)
value_for-row t (x ∷ rows) (v ∷ values) number (suc row) long within is first =
    rw (ne_eqb x number (first 0 (omega arith))) (value_for-row t rows values number row (omega arith) (omega arith) is (λ j h. first (suc j) (omega arith)))

value_for-none : (t : VType) (rows : List ℕ) (values : List Value) (number : ℕ) → ((j : ℕ) → j < length rows → get_or rows j 0 ≢ number) → value_for t rows values number ≡ zero_of t
value_for-none t [] values number absent = refl
value_for-none t (x ∷ rows) [] number absent = refl
value_for-none t (x ∷ rows) (v ∷ values) number absent =
    rw (ne_eqb x number (absent 0 (omega arith))) (value_for-none t rows values number (λ j h. absent (suc j) (omega arith)))

pub value-in-row : (column : TypedRow) (extra : List ℕ) (number row : ℕ) → length column.values ≡ length extra → length extra ≤ 2147483647 → AllPairs (λ a b. a ≢ b) extra → IsRowOf extra (length extra) number row → value_in column row ≡ value_for column.vtype extra column.values number
value-in-row column extra number row long few apart known =
    elim known [
      | inl none ↦ rw (eq-eqb row 4294967295 none.0) (sym (value_for-none column.vtype extra column.values number none.1))
      | inr some ↦ (let small : row ≢ 4294967295 = omega arith in
          rw (ne_eqb row 4294967295 small) (sym (value_for-row column.vtype extra column.values number row long some.0 some.1
          (λ j h same. apart j row 0 h some.0 (same ∙ sym some.1)))))
    ]

-- a column spread out over all numbers
pub spread-is : (column : TypedRow) (extra numbers rows : List ℕ) → length column.values ≡ length extra → length extra ≤ 2147483647 → AllPairs (λ a b. a ≢ b) extra → length rows ≡ length numbers → ((k : ℕ) → k < length numbers → IsRowOf extra (length extra) (slice_index numbers k) (slice_index rows k)) → map (value_in column) rows ≡ spread_out numbers extra column
spread-is column extra [] [] long few apart same rows_of = refl
spread-is column extra [] (r ∷ rows) long few apart same rows_of = absurd (omega arith)
spread-is column extra (n ∷ numbers) [] long few apart same rows_of = absurd (omega arith)
spread-is column extra (n ∷ numbers) (r ∷ rows) long few apart same rows_of =
    rw (value-in-row column extra n r long few apart (rows_of 0 (omega arith)))
    (ap (λ vs. value_for column.vtype extra column.values n ∷ vs)
    (spread-is column extra numbers rows long few apart (omega arith) (λ k h. rows_of (suc k) (omega arith))))
