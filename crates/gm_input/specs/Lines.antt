-- How far a line that is being read may still become the line `%%`.
use Rattle.std.specs.Prelude.{◌≡◌, ◌≤◌, ◌<◌, ◌+◌, ℕ, Bool, true, false, ◌==◌, if◌then◌else◌, List, [], ◌∷◌, ◌++◌, Option, Some, None, take, drop, length}
use Rattle.gm_input.specs.declared.lines.LineSoFar.{LineSoFar}
use Rattle.gm_input.specs.declared.lines.LineSoFar.TheVariants.{Empty, OneSign, TwoSigns, SignsAndReturn, Other}
use Rattle.gm_input.specs.declared.lines.Sought.{Sought}
use Rattle.gm_input.specs.declared.lines.Sought.TheVariants.{Mark, Open}
use Rattle.gm_input.specs.Parts.{program_from, graph_from, program_part, graph_part}

-- a line after a byte that no `%%` has there
abbrev pub line_after : ℕ → LineSoFar
line_after b = if b == 10 then Empty else Other

-- a line with one byte more; none where that byte ends the line `%%`
abbrev pub line_with : LineSoFar → ℕ → Option LineSoFar
line_with Empty b = Some (if b == 37 then OneSign else line_after b)
line_with OneSign b = Some (if b == 37 then TwoSigns else line_after b)
line_with TwoSigns b = if b == 10 then None else Some (if b == 13 then SignsAndReturn else Other)
line_with SignsAndReturn b = if b == 10 then None else Some Other
line_with Other b = Some (line_after b)

-- the bytes of a line that may still become `%%`
abbrev pub held : LineSoFar → List ℕ
held Empty = []
held OneSign = 37 ∷ []
held TwoSigns = 37 ∷ 37 ∷ []
held SignsAndReturn = 37 ∷ 37 ∷ 13 ∷ []
held Other = []

-- the bytes of a line that is `%%` where the text ends there
abbrev pub held_at_end : LineSoFar → List ℕ
held_at_end Empty = []
held_at_end OneSign = []
held_at_end TwoSigns = 37 ∷ 37 ∷ []
held_at_end SignsAndReturn = 37 ∷ 37 ∷ 13 ∷ []
held_at_end Other = []

-- whether the bytes that are held, or else the next one, begin a line
abbrev pub begins : LineSoFar → Bool
begins Other = false
begins _ = true

-- some bytes were read, in which no line `%%` has ended: they are a part of the program, and then what is held of the
-- last line. Whatever comes behind them, program and graph go on from there
pub record AreRead (bytes : List ℕ) (line : LineSoFar) : Type 0 where
  pub known : List ℕ
  pub all : bytes ≡ known ++ held line
  pub program : (rest : List ℕ) → program_part (bytes ++ rest) ≡ known ++ program_from (begins line) (held line ++ rest)
  pub graph : (rest : List ℕ) → graph_part (bytes ++ rest) ≡ graph_from (begins line) (held line ++ rest)

-- the first line `%%` of some bytes begins and ends at these places. Whatever comes behind them, the program ends at
-- the one and the graph begins at the other
pub record AreParted (bytes : List ℕ) (start end : ℕ) : Type 0 where
  pub within : end ≤ length bytes
  pub ordered : start ≤ end
  pub short : end ≤ start + 4
  pub program : (rest : List ℕ) → program_part (bytes ++ rest) ≡ take start bytes
  pub graph : (rest : List ℕ) → graph_part (bytes ++ rest) ≡ drop end bytes ++ rest

-- what a search found in some bytes, of which so many were searched before
abbrev pub IsFound : List ℕ → ℕ → Sought → Type 0
IsFound bytes before (Mark start end) = AreParted bytes start end × (before < end)
IsFound bytes before (Open line) = AreRead bytes line
