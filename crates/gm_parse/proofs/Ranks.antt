-- Which functions for expressions call which at one place, and what a row of operands keeps.
use Rattle.std.proofs.Common.{ℕ, ◌<◌, ◌≤◌, List, length, drop, Result}
use Rattle.gm_token.specs.Tokens.{Token, Listing, words_of}
use Rattle.gm_ast.specs.declared.surface.SpelledExpr.{SpelledExpr}
use Rattle.gm_ast.specs.SurfaceTree.{expr_of}
use Rattle.gm_parse.specs.declared.faults.Fault.{Fault}
use Rattle.gm_parse.specs.declared.around.Around.{Around}
use Rattle.gm_parse.specs.declared.levels.Level.{Level}
use Rattle.gm_parse.specs.declared.levels.Level.TheVariants as levels
use Rattle.gm_parse.specs.Grammar.{Of, Many, ◌▸◌}
use Rattle.gm_parse.specs.Goes.{Goes}
use Rattle.gm_parse.specs.Trees.{ReadsTree}
use Rattle.gm_parse.specs.Levels.{part_of, operand_of, signs_of}

-- an operand of a level calls the operands of tighter levels
abbrev pub rank : Level → ℕ
rank levels.Or = 18
rank levels.And = 16
rank levels.Equality = 14
rank levels.Relation = 12
rank levels.Sum = 10
rank levels.Product = 8

-- what further operators of the level give from index k on, the row gives from its beginning; and so for trees
pub record RowSoFar (l : Level) (a : Around) (it : Listing) (i k : ℕ) (first left : SpelledExpr) : Type 0 where
  pub goes : (r : Result ℕ Fault) → Goes (Many (signs_of l ▸ Of (operand_of l))) a (words_of it) k r → Goes (Many (signs_of l ▸ Of (operand_of l))) a (words_of it) i r
  pub tree : (us : List Token) → ReadsTree (operand_of l) us (expr_of first) (drop i it.tokens) → ReadsTree (part_of l) us (expr_of left) (drop k it.tokens)
  pub begun : i ≤ k
  pub in_text : k ≤ length it.tokens
