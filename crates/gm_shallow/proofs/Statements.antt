-- Statements one after another, within a limit of levels.
use Rattle.std.proofs.Common.{ℕ, List, [], ◌∷◌, ◌++◌}
use Rattle.gm_ast.specs.Program.{Stmt, sequence}
use Rattle.gm_depth.proofs.Limits.{AllWithin}

module _ (n : ℕ) where
  -- the expressions of each of some statements
  abbrev pub Several : List Stmt → Type 0
  Several [] = Unit {0}
  Several (s ∷ ss) = AllWithin n s × Several ss

  pub several-both : (xs ys : List Stmt) → Several xs → Several ys → Several (xs ++ ys)
  several-both [] ys h k = k
  several-both (x ∷ xs) ys h k = (h.0, several-both xs ys h.1 k)

  pub sequence-within : (ss : List Stmt) → Several ss → AllWithin n (sequence ss)
  sequence-within [] h = tt
  sequence-within (s ∷ ss) h = (h.0, sequence-within ss h.1)
