-- How many Ifs stand within one another in what is made of parts.
use Rattle.std.proofs.Common.{◌≤◌, ℕ, suc, max, List, [], ◌∷◌, ◌++◌, arith}
use Rattle.gm_ast.specs.Program.{Stmt, sequence}
use Rattle.gm_depth.specs.Nesting.{body_nesting, nesting}

pub both : {a b c d : ℕ} → a ≤ c → b ≤ d → max a b ≤ max c d
both h k = omega arith

pub below : {a b c d : ℕ} → a ≤ c → b ≤ d → suc (max a b) ≤ suc (max c d)
below h k = omega arith

module _ (m : ℕ) where
  -- in each of some statements of a sequential phase, no more than a limit
  abbrev pub EachNests : List Stmt → Type 0
  EachNests [] = Unit {0}
  EachNests (s ∷ ss) = (nesting s ≤ m) × EachNests ss

  pub each-both : (xs ys : List Stmt) → EachNests xs → EachNests ys → EachNests (xs ++ ys)
  each-both [] ys h k = k
  each-both (x ∷ xs) ys h k = (h.0, each-both xs ys h.1 k)

  pub sequence-nests : (ss : List Stmt) → EachNests ss → nesting (sequence ss) ≤ m
  sequence-nests [] h = omega arith
  sequence-nests (s ∷ ss) h = let x : nesting s ≤ m = h.0 in let y : nesting (sequence ss) ≤ m = sequence-nests ss h.1 in omega arith

  -- in each of some statements of a parallel body
  abbrev pub EachInside : List Stmt → Type 0
  EachInside [] = Unit {0}
  EachInside (s ∷ ss) = (body_nesting s ≤ m) × EachInside ss

  pub inside-both : (xs ys : List Stmt) → EachInside xs → EachInside ys → EachInside (xs ++ ys)
  inside-both [] ys h k = k
  inside-both (x ∷ xs) ys h k = (h.0, inside-both xs ys h.1 k)

  pub sequence-inside : (ss : List Stmt) → EachInside ss → body_nesting (sequence ss) ≤ m
  sequence-inside [] h = omega arith
  sequence-inside (s ∷ ss) h = let x : body_nesting s ≤ m = h.0 in let y : body_nesting (sequence ss) ≤ m = sequence-inside ss h.1 in omega arith
