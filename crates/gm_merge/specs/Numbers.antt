-- The numbers that a line of the master list names: its block, and the line that it jumps to.
use Rattle.std.specs.Prelude.{ℕ, ◌≡◌, ◌<◌, nat_eq, Bool, false, Option, Some, None, List, [], ◌∷◌, slice_get, slice_index_or}
use Rattle.std.specs.List.{list_any}
use Rattle.gm_image.specs.Program.{Command, SetGlobal, Step, Jump, Test, Turn, Back, Finish}
use Rattle.gm_merge.specs.Trimmed.{steps_to, counted_before}

-- the block of a line, if it is a step
abbrev pub step_block : Command → Option ℕ
step_block (Step q) = Some q
step_block m = None

-- the line that a line jumps to, if it has one
abbrev pub jump_line : Command → Option ℕ
jump_line (SetGlobal g a) = None
jump_line (Step q) = None
jump_line (Jump to) = Some to
jump_line (Test to a) = Some to
jump_line (Turn exit a) = Some exit
jump_line (Back head) = Some head
jump_line Finish = None

-- whether a number is named
abbrev pub is_named : Option ℕ → ℕ → Bool
is_named None q = false
is_named (Some r) q = nat_eq r q

-- whether some line jumps to line j
abbrev pub is_target : List Command → ℕ → Bool
is_target ms j = list_any (λ m. is_named (jump_line m) j) ms

-- how many lines are steps of a block
abbrev pub step_count : ℕ → List Command → ℕ
step_count q [] = 0
step_count q (m ∷ ms) = counted_before (steps_to q m) (step_count q ms)

-- a flag of a list, and a count of one; what lies behind its end is not set
abbrev pub flag_at : List Bool → ℕ → Bool
flag_at flags q = slice_index_or flags q false

abbrev pub count_at : List ℕ → ℕ → ℕ
count_at counts q = slice_index_or counts q 0

-- a line with another number of its block, if it is a step
abbrev pub numbered : (ℕ → ℕ) → Command → Command
numbered number (Step q) = Step (number q)
numbered number m = m

-- each step's block is one of so many
abbrev pub StepsInside : ℕ → List Command → Type 0
StepsInside n ms = (k q : ℕ) → slice_get ms k ≡ Some (Step q) → q < n
