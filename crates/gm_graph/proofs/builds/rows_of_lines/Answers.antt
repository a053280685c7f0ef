use Rattle.std.proofs.Common.{◌≡◌, ◌≢◌, ◌<◌, ◌≤◌, ◌+◌, ◌∙◌, arith, ap, sym, inl, inr, get_or, length, map, set, ℕ, List}
use Rattle.std.specs.Prelude.{◌==◌}
use Rattle.std.proofs.lemmas.Bool.{cases_eq, eqb-true}
use Rattle.std.proofs.lemmas.List.{ext_get_or, get_or-set_same, get_or-set_other, length-map}
use Rattle.std.proofs.lemmas.List.FromFn.{get_or-map-range_with_len, length-range_with_len}
use Rattle.std.proofs.lemmas.List.Sums.{passes_at_first}
use Rattle.gm_graph.specs.Rows.{HaveEachLine, lines_of, row_of}
use Rattle.gm_graph.proofs.builds.rows_of_lines.Goals as goal

-- one row more
row-more : (i : ℕ) (lines rows : List ℕ) → HaveEachLine lines → length rows ≡ length lines → i < length lines → ((line : ℕ) → line < length lines → row_of lines line < i → get_or rows line 0 ≡ row_of lines line) → (line : ℕ) → line < length lines → row_of lines line < i + 1 → get_or (set rows (get_or lines i 0) i) line 0 ≡ row_of lines line
row-more i lines rows whole long within held line h below =
    elim (cases_eq line (get_or lines i 0)) [
      | inl here ↦ (let same : row_of lines line ≡ i = ap (row_of lines) here ∙ whole.once i within in
          ap (λ n. get_or (set rows (get_or lines i 0) i) n 0) here
          ∙ (get_or-set_same rows (get_or lines i 0) i 0 (omega (arith, h, here, long)) ∙ sym same))
      | inr other ↦ (let stands : get_or lines (row_of lines line) 0 ≡ line = eqb-true (get_or lines (row_of lines line) 0) line (passes_at_first (λ l. l == line) lines 0 (whole.each line h)) in
          let apart : row_of lines line ≢ i = λ same. other (sym stands ∙ ap (λ n. get_or lines n 0) same) in
          get_or-set_other rows (get_or lines i 0) line i 0 other ∙ held line h (omega (arith, below, apart)))
    ]

-- the rows of all lines
all-rows : (i : ℕ) (lines rows : List ℕ) → HaveEachLine lines → length rows ≡ length lines → length lines ≤ i → ((line : ℕ) → line < length lines → row_of lines line < i → get_or rows line 0 ≡ row_of lines line) → rows ≡ map (row_of lines) (lines_of (length lines))
all-rows i lines rows whole long end held =
    ext_get_or 0 rows (map (row_of lines) (lines_of (length lines)))
    (omega (arith, long, length-map (lines_of (length lines)) (row_of lines), length-range_with_len 0 (length lines)))
    (λ e h. held e (omega (arith, h, long)) (omega (arith, whole.each e (omega (arith, h, long)), end)) ∙ sym (get_or-map-range_with_len (row_of lines) 0 (length lines) e e 0 (omega (arith, h, long)) (omega arith)))

pub loop-row-preserved : goal.loop-row-preserved
loop-row-preserved c = (
  c.loop-row.invariant.0,
  row-more c.loop-row.row c.args.lines.now c.loop-row.rows.items c.requires.whole (omega (arith, c.loop-row.invariant.0)) c.loop-row-test.true c.loop-row.invariant.1,
)

pub returns : goal.returns
returns c = all-rows c.loop-row.row c.args.lines.now c.loop-row.rows.items c.requires.whole (omega (arith, c.loop-row.invariant.0)) c.loop-row-test.false c.loop-row.invariant.1
