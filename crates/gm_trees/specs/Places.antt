-- Statements before and behind others.
use Rattle.std.specs.Prelude.{List, [], ◌∷◌, ◌++◌, Option, Some, None}
use Rattle.gm_ast.specs.Program.{Stmt, sequence}

-- a statement after another, if there is that
abbrev pub after : Option Stmt → Stmt → Stmt
after None s = s
after (Some first) s = sequence (first ∷ s ∷ [])

-- after others, if there is a list of them
abbrev pub after_all : Option (List Stmt) → Stmt → Stmt
after_all None s = s
after_all (Some first) s = sequence (first ++ (s ∷ []))

-- and before another
abbrev pub before : Stmt → Option Stmt → Stmt
before s None = s
before s (Some second) = sequence (s ∷ second ∷ [])
