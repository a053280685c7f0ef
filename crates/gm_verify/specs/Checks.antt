-- What the code answers of some lines, against what the rules say of them.
use Rattle.std.specs.Prelude.{◌≡◌, ℕ, ◌+◌, Option, Some, None, Result, Ok, Err, List, [], length}
use Rattle.gm_image.specs.declared.rules.ImageRule.{ImageRule}
use Rattle.std.specs.List.{flat_map}
use Rattle.gm_image.specs.Program.{Program, Handler}
use Rattle.gm_image.specs.Rows.{Row, handlers_rows}
use Rattle.gm_image.specs.Soundness.{broken_from, first_broken}
use Rattle.gm_verify.specs.declared.stops.VerifyStop.{VerifyStop}
use Rattle.gm_verify.specs.declared.stops.VerifyStop.TheVariants as stop

-- an answer to a line: the number of the next one, or the rule that it breaks
abbrev pub Steps : Option ImageRule → ℕ → Result ℕ VerifyStop → Type 0
Steps rule n (Ok next) = (rule ≡ None) × (next ≡ n + 1)
Steps rule n (Err (stop.Broken r line)) = (rule ≡ Some r) × (line ≡ n)
Steps rule n (Err stop.NoMemory) = Unit {0}

-- an answer to some lines of which the first has a number: the number of the line after them, or what is broken first
abbrev pub Checks : Program → ℕ → List Row → Result ℕ VerifyStop → Type 0
Checks p n rows (Ok next) = (broken_from p n rows ≡ None) × (next ≡ n + length rows)
Checks p n rows (Err (stop.Broken r line)) = broken_from p n rows ≡ Some (record { rule = r; line = line })
Checks p n rows (Err stop.NoMemory) = Unit {0}

-- a walk over some lines has come to a line: what is broken first is what is broken first from there on
pub record Walks (p : Program) (n : ℕ) (all : List Row) (m : ℕ) (rest : List Row) : Type 0 where
  pub same : broken_from p n all ≡ broken_from p m rest
  pub count : n + length all ≡ m + length rest

-- what is said of an image is what it breaks first; that memory ran out says nothing of it
abbrev pub IsFirstBroken : Program → VerifyStop → Type 0
IsFirstBroken p (stop.Broken r line) = first_broken p ≡ Some (record { rule = r; line = line })
IsFirstBroken p stop.NoMemory = Unit {0}

-- the lines of all handlers of a block
abbrev pub all_handlers_rows : List Handler → List Row
all_handlers_rows hs = handlers_rows (flat_map (λ h. h.lines) hs) [] [] hs
