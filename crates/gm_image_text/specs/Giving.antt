-- What a function of the reader answers, beside what reading gives.
use Rattle.std.specs.Prelude.{◌≡◌, ℕ, List, Option, Some, None, Result, Ok, Err, ⊤}
use Rattle.std.specs.Borrow.{Bor}
use Rattle.gm_image_text.specs.declared.faults.LineStop.{LineStop}
use Rattle.gm_image_text.specs.declared.faults.LineStop.TheVariants as of_line
use Rattle.gm_image_text.specs.declared.faults.TextStop.{TextStop}
use Rattle.gm_image_text.specs.declared.faults.TextStop.TheVariants as of_text
use Rattle.gm_image_text.specs.Lines.{Line, lines_of}
use Rattle.gm_image_text.specs.Reading.{cut_at, words_left}

-- a line is bad exactly where reading gives nothing
abbrev pub Refuses : {Y : Type 0} → LineStop → Option Y → Type 0
Refuses of_line.Bad read = read ≡ None
Refuses of_line.NoMemory read = ⊤

-- what was answered, seen by a view, is what reading gives, unless memory ran out
abbrev pub GivesLine : {X Y : Type 0} → (X → Y) → Result X LineStop → Option Y → Type 0
GivesLine view (Ok x) read = read ≡ Some (view x)
GivesLine view (Err stop) read = Refuses stop read

-- the text from the first bad line on
abbrev pub RefusesText : {Y : Type 0} → TextStop → Result Y (List Line) → Type 0
RefusesText (of_text.Bad rest) read = read ≡ Err (lines_of rest.now)
RefusesText of_text.NoMemory read = ⊤

abbrev pub GivesText : {X Y : Type 0} → (X → Y) → Result X TextStop → Result Y (List Line) → Type 0
GivesText view (Ok x) read = read ≡ Ok (view x)
GivesText view (Err stop) read = RefusesText stop read

-- what a line was read as is answered with the text behind it; where the line is bad, the text from it on
abbrev pub Judges : {X : Type 0} → Result X LineStop → List ℕ → List ℕ → Result (X × Bor (List ℕ)) TextStop → Type 0
Judges (Ok x) text rest (Ok y) = (y.0 ≡ x) × (y.1.now ≡ rest)
Judges (Ok x) text rest (Err stop) = ⊥
Judges (Err of_line.Bad) text rest (Ok y) = ⊥
Judges (Err of_line.Bad) text rest (Err (of_text.Bad at)) = at.now ≡ text
Judges (Err of_line.Bad) text rest (Err of_text.NoMemory) = ⊥
Judges (Err of_line.NoMemory) text rest (Ok y) = ⊥
Judges (Err of_line.NoMemory) text rest (Err (of_text.Bad at)) = ⊥
Judges (Err of_line.NoMemory) text rest (Err of_text.NoMemory) = ⊤

-- the words of the first line and the text behind it, where the line has its end
abbrev pub CutsLine : Result (Option (Bor (List ℕ)) × Bor (List ℕ)) TextStop → List ℕ → Type 0
CutsLine (Ok cut) text = cut_at (lines_of text) ≡ Some (words_left cut.0, lines_of cut.1.now)
CutsLine (Err (of_text.Bad at)) text = (at.now ≡ text) × (cut_at (lines_of text) ≡ None)
CutsLine (Err of_text.NoMemory) text = ⊥
