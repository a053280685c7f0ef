-- Parts of statements that a walk goes through together.
use Rattle.std.specs.Prelude.{ℕ, ◌+◌, List, ◌++◌}
use Rattle.gm_ast.specs.declared.accesses.Access.{Access}
use Rattle.gm_ast.specs.Program.{Expr, Stmt}
use Rattle.gm_ast.specs.Accesses.{Around, reads, loops_in, accesses_of, loops_of}

-- the accesses of a condition and of what stands under it
abbrev pub filtered : Expr → Stmt → Around → ℕ → List Access
filtered test body w n = reads test w n ++ accesses_of body w (n + loops_in test)

-- how many parallel loops they have
abbrev pub loops_filtered : Expr → Stmt → ℕ
loops_filtered test body = loops_in test + loops_of body
