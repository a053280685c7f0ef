-- The order of work, by cases, for whatever runs: the text of a program or of an image is read and judged, and only where
-- nothing is wrong with it the text of the graph is read; then the graph is judged, then the arguments are, and only then
-- something runs.
use Rattle.std.specs.Prelude.{◌≡◌, ◌≢◌, ◌+◌, ℕ, Bool, IsTrue, List, length, option_map}
use Rattle.gm_base.specs.declared.statuses.Status.{Status}
use Rattle.gm_base.specs.declared.statuses.Status.TheVariants.{ReadFault}
use Rattle.gm_input.specs.Fronts.{GaveRest, IsFront, GaveAtMost, ReachesGraph, ReadsBoth, ReadsProgram, Tells, ahead_of, exhausted, farthest}
use Rattle.gm_input.specs.Names.{AreFront, IsFrontOf}
use Rattle.gm_input.specs.Outside.{Outside, KeepsFiles, IsText, IsUnread}
use Rattle.gm_input.specs.Parts.{program_part, graph_part}
use Rattle.gm_input.specs.Texts.{Says, graph_bytes, standard_input}

-- the two names are not both that of standard input
abbrev pub AreApart : List ℕ → List ℕ → Type 0
AreApart code graph = code ≡ standard_input → graph ≢ standard_input

-- the greatest number of bytes of a graph text that are read: one more than a text may have, so that a longer one is seen
abbrev pub most_graph : ℕ
most_graph = graph_bytes + 1

-- what a road has of its own: the things that may run; how many bytes of a text are read at most; which texts stand for
-- such a thing; what is said of a text that stands for none; and what is said where one is to run over a graph text
pub record Road : Type 1 where
  pub Code : Type 0
  pub most : ℕ
  pub stands : List ℕ → Code → Type 0
  pub bad : List ℕ → List ℕ → Status → Type 0
  pub over : Code → List ℕ → List ℕ → Status → Type 0

-- a text under a name could not be read, and this is said
pub record SaysUnread (name : List ℕ) (before after : Outside) (text : List ℕ) (status : Status) : Type 0 where
  pub line : List ℕ
  pub unread : IsUnread name before after line
  pub says : Says text status line ReadFault

-- the whole text of a program or of an image, of which so many bytes are asked for, and nothing was read behind it: where
-- its graph is on standard input too, it stands there before the line `%%`; else it is the whole text under its name
pub data IsCode (most : ℕ) (code graph : List ℕ) (before after : Outside) (whole : List ℕ) : Type 0 where
  in_front : code ≡ standard_input → graph ≡ standard_input → (input : List ℕ) → ReadsProgram most before.left after.left input → whole ≡ program_part input
      → after.input_faults ≡ before.input_faults → KeepsFiles before after → IsCode most code graph before after whole
  alone : AreApart code graph → IsText most code before after whole → IsCode most code graph before after whole

-- that text, and the whole text of its graph; where both are on standard input, that is what stands there behind the line
-- `%%`, where it is told
pub data AreTexts (most : ℕ) (code graph : List ℕ) (before after : Outside) (whole text : List ℕ) : Type 0 where
  parted : code ≡ standard_input → graph ≡ standard_input → (input : List ℕ) → ReadsBoth most_graph before.left after.left input
      → whole ≡ program_part input → Tells (option_map graph_part before.left) text → after.input_faults ≡ before.input_faults → KeepsFiles before after → AreTexts most code graph before after whole text
  apart : AreApart code graph → (between : Outside) → IsText most code before between whole → IsText most_graph graph between after text → AreTexts most code graph before after whole text

-- what is to be written along a road, by the names of the text and of its graph. The text could not be read (on one input
-- with its graph that says of either that a read failed); something is wrong with it, and nothing is read behind it; it
-- stands for something that may run, and the graph text could not be read; or that was read, and this is said over it
pub data IsReply (r : Road) (code graph : List ℕ) (before after : Outside) (text : List ℕ) (status : Status) : Type 0 where
  no_code : SaysUnread code before after text status → IsReply r code graph before after text status
  bad_code : (whole : List ℕ) → IsCode r.most code graph before after whole → r.bad whole text status → IsReply r code graph before after text status
  no_graph : AreApart code graph → (between : Outside) (whole : List ℕ) → IsText r.most code before between whole
      → (it : r.Code) → r.stands whole it → SaysUnread graph between after text status → IsReply r code graph before after text status
  over : (whole over_text : List ℕ) → AreTexts r.most code graph before after whole over_text → (it : r.Code) → r.stands whole it → r.over it over_text text status
      → IsReply r code graph before after text status

-- what was read of the text of a program or of an image, of which so many bytes are asked for: these are its first bytes,
-- and where the graph stands behind it, what was read ahead of that and whether the input was seen to end
pub data IsCodeRead (most : ℕ) (code graph : List ℕ) (before after : Outside) (bytes ahead : List ℕ) (ended : Bool) : Type 0 where
  front_read : code ≡ standard_input → graph ≡ standard_input → IsFront before.left after.left most bytes ahead ended → GaveAtMost before.left after.left (farthest (length bytes))
      → ReachesGraph most before.left after.left → (IsTrue ended → after.left ≡ exhausted before.left) → after.input_faults ≡ before.input_faults → KeepsFiles before after
      → IsCodeRead most code graph before after bytes ahead ended
  whole_read : AreApart code graph → IsFrontOf most code before after bytes → IsCodeRead most code graph before after bytes ahead ended

-- what was read of the text of a graph, behind what was read ahead of it or under its own name
pub data IsGraphRead (code graph ahead : List ℕ) (ended : Bool) (before after : Outside) (bytes : List ℕ) : Type 0 where
  behind : code ≡ standard_input → graph ≡ standard_input → AreFront (ahead_of ahead ended before.left) bytes most_graph → GaveRest most_graph ahead ended before.left after.left
      → after.input_faults ≡ before.input_faults → KeepsFiles before after → IsGraphRead code graph ahead ended before after bytes
  named : AreApart code graph → IsFrontOf most_graph graph before after bytes → IsGraphRead code graph ahead ended before after bytes
