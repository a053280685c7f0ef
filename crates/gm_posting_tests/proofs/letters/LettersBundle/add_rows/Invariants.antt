-- The first letters have come.
use Rattle.std.proofs.Common.{◌≡◌, ◌++◌, ℕ, take}
use Rattle.gm_posting.specs.Gathering.{at_places}
use Rattle.gm_posting_tests.proofs.letters.LettersBundle.add_rows.Given as goal

abbrev pub invariant-loop-row : goal.invariant-loop-row
invariant-loop-row l = (d : ℕ) → l.self.numbers.items ≡ l.fn.self.numbers.items ++ at_places l.from.numbers.items (take l.row-index l.rows) d
