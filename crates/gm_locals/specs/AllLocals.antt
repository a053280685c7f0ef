-- Programs whose loops keep in properties all locals that they can.
use Rattle.std.specs.Prelude.{ℕ, Bool, true, ◌&&◌, not, List}
use Rattle.std.specs.List.{list_all}
use Rattle.gm_ast.specs.declared.tree.Declaration.{Declaration}
use Rattle.gm_ast.specs.Program.{Expr, Stmt, Then, Foreach, For, If, While, Do, Program}
use Rattle.gm_dissect.specs.Locals.{keeps_local, locals_of}

-- whether a loop keeps none of the locals that its body declares: each that could be kept in a property is
abbrev pub keeps_none : List Declaration → ℕ → Expr → Stmt → Bool
keeps_none ds n test body = list_all (λ x. not (keeps_local ds x n test body)) (locals_of body)

-- whether each loop of a sequential phase keeps none
abbrev pub keeps_none_in : List Declaration → Stmt → Bool
keeps_none_in ds (Then a b) = keeps_none_in ds a && keeps_none_in ds b
keeps_none_in ds (Foreach k at h test body) = keeps_none ds h.iterator test body
keeps_none_in ds (For k at h test body) = keeps_none_in ds body
keeps_none_in ds (If k c a b) = keeps_none_in ds a && keeps_none_in ds b
keeps_none_in ds (While k at c body) = keeps_none_in ds body
keeps_none_in ds (Do k at body c) = keeps_none_in ds body
keeps_none_in ds _ = true

-- whether all locals of a program's loops that can be kept in properties are
abbrev pub has_moved_locals : Program → Bool
has_moved_locals program = keeps_none_in program.declarations program.body
