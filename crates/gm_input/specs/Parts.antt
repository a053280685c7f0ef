-- The two texts that stand one after the other in one input: a program, and behind the first line that is exactly
-- `%%` a graph. A line begins at the first byte and behind each LF, and ends at the next LF or where the text ends.
use Rattle.std.specs.Prelude.{◌≡◌, ℕ, Bool, true, ◌&&◌, ◌||◌, ◌==◌, if◌then◌else◌, List, [], ◌∷◌, ◌++◌, codes}
use Rattle.std.specs.Str.{bytes_eq}

-- the line that begins with some bytes, without its LF
abbrev pub line_in : List ℕ → List ℕ
line_in [] = []
line_in (b ∷ bs) = if b == 10 then [] else b ∷ line_in bs

-- what stands behind that line and its LF
abbrev pub behind_line : List ℕ → List ℕ
behind_line [] = []
behind_line (b ∷ bs) = if b == 10 then bs else behind_line bs

-- whether a line is exactly `%%`, with or without a CR at its end
abbrev pub is_mark : List ℕ → Bool
is_mark line = bytes_eq line (codes "%%") || bytes_eq line (codes "%%" ++ 13 ∷ [])

-- whether the line `%%` begins with some bytes, of which the first begins a line or does not
abbrev pub marks : Bool → List ℕ → Bool
marks begins bytes = begins && is_mark (line_in bytes)

-- the program in some bytes, of which the first begins a line or does not: it ends before the first line `%%`
abbrev pub program_from : Bool → List ℕ → List ℕ
program_from begins [] = []
program_from begins (b ∷ bs) = if marks begins (b ∷ bs) then [] else b ∷ program_from (b == 10) bs

-- the graph in them: what stands behind the first line `%%`, and nothing where there is no such line
abbrev pub graph_from : Bool → List ℕ → List ℕ
graph_from begins [] = []
graph_from begins (b ∷ bs) = if marks begins (b ∷ bs) then behind_line (b ∷ bs) else graph_from (b == 10) bs

-- the program and the graph of a whole text
abbrev pub program_part : List ℕ → List ℕ
program_part text = program_from true text

abbrev pub graph_part : List ℕ → List ℕ
graph_part text = graph_from true text

-- a text that is parted: it is a program alone, without a line `%%`; or a program, the line `%%` with its LF, and a
-- graph; or a program and the line `%%` at its end
pub data IsParted (text program graph : List ℕ) : Type 0 where
  program_alone : text ≡ program → graph ≡ [] → IsParted text program graph
  with_graph : (line : List ℕ) → is_mark line ≡ true → text ≡ program ++ line ++ 10 ∷ graph → IsParted text program graph
  mark_last : (line : List ℕ) → is_mark line ≡ true → text ≡ program ++ line → graph ≡ [] → IsParted text program graph
