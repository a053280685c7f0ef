-- What a line was read as, beside what reading the text's lines gives.
use Rattle.std.proofs.Common.{◌≡◌, ℕ, List, ap, sym, ◌∙◌}
use Rattle.std.specs.Prelude.{Option, Some, Result, Ok, Err}
use Rattle.std.specs.Borrow.{Bor}
use Rattle.gm_image_text.specs.declared.faults.LineStop.{LineStop}
use Rattle.gm_image_text.specs.declared.faults.LineStop.TheVariants as of_line
use Rattle.gm_image_text.specs.declared.faults.TextStop.{TextStop}
use Rattle.gm_image_text.specs.declared.faults.TextStop.TheVariants as of_text
use Rattle.gm_image_text.specs.Lines.{Word, lines_of}
use Rattle.gm_image_text.specs.Reading.{cut_at}
use Rattle.gm_image_text.specs.Sections.{row_at, row_behind, judged}
use Rattle.gm_image_text.specs.Giving.{GivesLine, GivesText, RefusesText, Judges, CutsLine}

module _ {X Y : Type 0} (view : X → Y) (f : List Word → Option Y) (text rest : List ℕ) (words : List Word) (cut : cut_at (lines_of text) ≡ Some (words, lines_of rest)) where
  row_is : row_at f (lines_of text) ≡ judged (lines_of text) (lines_of rest) (f words)
  row_is = ap (row_behind f (lines_of text)) cut

  pub judged_gives : (answer : Result X LineStop) (result : Result (X × Bor (List ℕ)) TextStop) → GivesLine view answer (f words) → Judges answer text rest result → GivesText (λ x. (view x.0, lines_of x.1.now)) result (row_at f (lines_of text))
  judged_gives (Ok x) (Ok y) g j =
      row_is ∙ ap (judged (lines_of text) (lines_of rest)) g ∙ ap (λ v. Ok (view v, lines_of rest)) (sym j.0) ∙ ap (λ v. Ok (view y.0, lines_of v)) (sym j.1)
  judged_gives (Ok x) (Err stop) g j = absurd j
  judged_gives (Err of_line.Bad) (Ok y) g j = absurd j
  judged_gives (Err of_line.Bad) (Err (of_text.Bad at)) g j = row_is ∙ ap (judged (lines_of text) (lines_of rest)) g ∙ ap (λ v. Err (lines_of v)) (sym j)
  judged_gives (Err of_line.Bad) (Err of_text.NoMemory) g j = absurd j
  judged_gives (Err of_line.NoMemory) (Ok y) g j = absurd j
  judged_gives (Err of_line.NoMemory) (Err (of_text.Bad at)) g j = absurd j
  judged_gives (Err of_line.NoMemory) (Err of_text.NoMemory) g j = tt

-- a first line without its end
pub cut_refused : {Y : Type 0} (f : List Word → Option Y) (text : List ℕ) (stop : TextStop) → CutsLine (Err stop) text → RefusesText stop (row_at f (lines_of text))
cut_refused f text (of_text.Bad at) h = ap (row_behind f (lines_of text)) h.1 ∙ ap (λ v. Err (lines_of v)) (sym h.0)
cut_refused f text of_text.NoMemory h = tt
