-- The lines of a text and the words of a line.
use Rattle.std.specs.Prelude.{ℕ, ◌==◌, if◌then◌else◌, List, [], ◌∷◌, ◌++◌, Option, Some, None, option_map}
use Rattle.std.specs.List.{flat_map}

-- a word, and a line with its end: both are their bytes
abbrev pub Word : Type 0
Word = List ℕ

abbrev pub Line : Type 0
Line = List ℕ

-- a list of parts with one byte more in front of the first
abbrev pub onto_first : ℕ → List (List ℕ) → List (List ℕ)
onto_first b [] = (b ∷ []) ∷ []
onto_first b (part ∷ parts) = (b ∷ part) ∷ parts

-- the lines of a text, each with the LF that ends it; the last may lack its end
abbrev pub lines_of : List ℕ → List Line
lines_of [] = []
lines_of (b ∷ bs) = if b == 10 then (10 ∷ []) ∷ lines_of bs else onto_first b (lines_of bs)

-- a text from its lines
abbrev pub text_of : List Line → List ℕ
text_of lines = flat_map (λ line. line) lines

-- words, each behind a space
abbrev pub led : List Word → List ℕ
led [] = []
led (w ∷ ws) = 32 ∷ (w ++ led ws)

-- words with one space between two
abbrev pub joined : List Word → List ℕ
joined [] = []
joined (w ∷ ws) = w ++ led ws

-- the line that words make
abbrev pub spaced : List Word → Line
spaced ws = joined ws ++ 10 ∷ []

-- the words of what stands before the end of a line: the parts between its spaces
abbrev pub words_of : List ℕ → List Word
words_of [] = [] ∷ []
words_of (b ∷ bs) = if b == 32 then [] ∷ words_of bs else onto_first b (words_of bs)

-- nothing stands behind the end of a line
abbrev pub at_end : List ℕ → Option (List ℕ)
at_end [] = Some []
at_end (b ∷ bs) = None

-- what stands before the end of a line, which ends with the only LF in it
abbrev pub before_end : Line → Option (List ℕ)
before_end [] = None
before_end (b ∷ bs) = if b == 10 then at_end bs else option_map (λ front. b ∷ front) (before_end bs)

-- the words of a line that has its end
abbrev pub line_words : Line → Option (List Word)
line_words line = option_map words_of (before_end line)
