-- What is read of an input that holds a program and behind it a graph.
use Rattle.std.specs.Prelude.{◌≡◌, ◌≤◌, ◌<◌, ◌+◌, ◌-◌, ◌⊎◌, ℕ, Bool, true, false, List, [], ◌++◌, take, drop, length, min, Option, Some, None, option_map}
use Rattle.gm_input.specs.Parts.{program_part, graph_part}

-- these are the bytes that a source has left, where it tells them; where it does not they may be any
abbrev pub Tells : Option (List ℕ) → List ℕ → Type 0
Tells None bytes = Unit {0}
Tells (Some left) bytes = bytes ≡ left

-- what a source has left that was not seen to end
abbrev pub unread : Bool → List ℕ → List ℕ
unread true left = []
unread false left = left

-- the bytes that were read ahead, and behind them those that the source has left, where it tells them
abbrev pub ahead_of : List ℕ → Bool → Option (List ℕ) → Option (List ℕ)
ahead_of ahead ended left = option_map (λ rest. ahead ++ unread ended rest) left

-- the program of an input was read, up to some number of bytes: it is the program of all that the input had. Where it
-- is shorter than that number it is whole, and what was read ahead and what is left are the graph
pub record IsFront (left after : Option (List ℕ)) (most : ℕ) (program ahead : List ℕ) (ended : Bool) : Type 0 where
  pub text : List ℕ
  pub told : Tells left text
  pub program_read : program ≡ take most (program_part text)
  pub graph_left : length program < most → Tells (ahead_of ahead ended after) (graph_part text)

-- a source gave so many bytes at most, those at its front
abbrev pub GaveAtMost : Option (List ℕ) → Option (List ℕ) → ℕ → Type 0
GaveAtMost None after most = after ≡ None
GaveAtMost (Some left) after most = (k : ℕ) × (k ≤ most) × (after ≡ Some (drop k left))

-- how many bytes one read asks for at most
abbrev pub piece : ℕ
piece = 65536

-- how far an input is read for a program of some length: the bytes of the program, at most three of the line `%%`
-- before the byte that ends it, and one piece
abbrev pub farthest : ℕ → ℕ
farthest length = length + 3 + piece

-- k bytes more stand behind others: those at the front of what a source had left, where it tells them; none only at
-- its end
abbrev pub Takes : Option (List ℕ) → Option (List ℕ) → List ℕ → Type 0
Takes None after more = after ≡ None
Takes (Some left) after more = (rest : List ℕ) × (left ≡ more ++ rest) × (after ≡ Some rest) × (length more ≡ 0 → left ≡ [])

pub record Appends (left after : Option (List ℕ)) (old new : List ℕ) (k : ℕ) : Type 0 where
  pub more : List ℕ
  pub added : new ≡ old ++ more
  pub count : length more ≡ k
  pub taken : Takes left after more

-- where the graph of an input begins: behind the line `%%`, or at the end where there is no such line
abbrev pub graph_start : List ℕ → ℕ
graph_start text = length text - length (graph_part text)

-- a source gave at least so many bytes, those at its front
abbrev pub GaveAtLeast : ℕ → List ℕ → Option (List ℕ) → Type 0
GaveAtLeast least left after = (k : ℕ) × (least ≤ k) × (k ≤ length left) × (after ≡ Some (drop k left))

-- an input was read for its program as far as is needed: to the place where its graph begins, or as many bytes as are
-- asked for
abbrev pub ReachesGraph : ℕ → Option (List ℕ) → Option (List ℕ) → Type 0
ReachesGraph most None after = after ≡ None
ReachesGraph most (Some left) after = GaveAtLeast (min (graph_start left) most) left after

-- a source has nothing left, where it tells it
abbrev pub exhausted : Option (List ℕ) → Option (List ℕ)
exhausted left = option_map (λ _. []) left

-- an input was read for its program, of which so many bytes are asked for, and this is the whole input, where it tells
-- it: to the place where the graph begins or as many bytes, and no piece after that was seen
abbrev pub ReadsProgram : ℕ → Option (List ℕ) → Option (List ℕ) → List ℕ → Type 0
ReadsProgram most None after text = after ≡ None
ReadsProgram most (Some left) after text =
    (text ≡ left) × (ReachesGraph most (Some left) after × GaveAtMost (Some left) after (farthest (min most (length (program_part left)))))

-- the reading of what stands behind some bytes: it went to the end, or until there were so many bytes, and no piece
-- further
pub record IsBehind (most : ℕ) (ahead left : List ℕ) (after : Option (List ℕ)) (bytes : List ℕ) : Type 0 where
  pub read : List ℕ
  pub rest : List ℕ
  pub all : left ≡ read ++ rest
  pub put : bytes ≡ ahead ++ read
  pub still : after ≡ Some rest
  pub enough : (most ≤ length bytes) ⊎ (rest ≡ [])
  pub near : length read ≤ (most - length ahead) + piece

abbrev pub ReadsBehind : ℕ → List ℕ → Option (List ℕ) → Option (List ℕ) → List ℕ → Type 0
ReadsBehind most ahead None after bytes = after ≡ None
ReadsBehind most ahead (Some left) after bytes = IsBehind most ahead left after bytes

-- how far a source is read for what stands behind some bytes, of which so many are asked for in all: to its end, or as
-- far as these, and no piece further; where it was seen to end, it is not read again
abbrev pub GaveRest : ℕ → List ℕ → Bool → Option (List ℕ) → Option (List ℕ) → Type 0
GaveRest most ahead true left after = after ≡ left
GaveRest most ahead false None after = after ≡ None
GaveRest most ahead false (Some left) after =
    GaveAtLeast (min (length left) (most - length ahead)) left after × GaveAtMost (Some left) after ((most - length ahead) + piece)

-- an input was read for its program and then for its graph, of which so many bytes are asked for, and this is the whole
-- input, where it tells it: to its end or as many bytes of the graph, and no piece after that was seen
abbrev pub ReadsBoth : ℕ → Option (List ℕ) → Option (List ℕ) → List ℕ → Type 0
ReadsBoth most None after text = after ≡ None
ReadsBoth most (Some left) after text =
    (text ≡ left) × (GaveAtLeast (min (length left) (graph_start left + most)) left after × GaveAtMost (Some left) after (graph_start left + most + piece))
