-- Programs whose loops keep in properties all locals that they can, also those that are reduced together.
use Rattle.std.specs.Prelude.{ℕ, zero, suc, ◌+◌, if◌then◌else◌, List, [], ◌++◌, length, map, filter}
use Rattle.std.specs.List.{list_all}
use Rattle.gm_ast.specs.declared.tree.Declaration.{Declaration}
use Rattle.gm_ast.specs.Program.{Expr, Stmt, Then, Foreach, For, If, While, Do, Program}
use Rattle.gm_dissect.specs.Conditions.{holds_cut}
use Rattle.gm_dissect.specs.Deferred.{copy_of}
use Rattle.gm_dissect.specs.Locals.{locals_of}
use Rattle.gm_locals.specs.Groups.{may_keep, locals_loop}

-- the most of some locals that may go to properties together, found in at most so many rounds: each leaves out the locals that may not go with the others
abbrev pub most_of : ℕ → List Declaration → ℕ → Expr → Stmt → List ℕ → List ℕ
most_of zero ds n test body xs = []
most_of (suc rounds) ds n test body xs =
    if list_all (may_keep ds xs n test body) xs then xs else most_of rounds ds n test body (filter (may_keep ds xs n test body) xs)

-- the locals that a loop keeps in properties: where a part is cut from its body, the most of those that it declares
abbrev pub group_of : List Declaration → ℕ → Expr → Stmt → List ℕ
group_of ds n test body = if holds_cut n body then most_of (length (locals_of body)) ds n test body (locals_of body) else []

-- those of the loops of a sequential phase, in the order of the text
abbrev pub groups_in : List Declaration → Stmt → List ℕ
groups_in ds (Then a b) = groups_in ds a ++ groups_in ds b
groups_in ds (Foreach k at h test body) = group_of ds h.iterator test body
groups_in ds (For k at h test body) = groups_in ds body
groups_in ds (If k c a b) = groups_in ds a ++ groups_in ds b
groups_in ds (While k at c body) = groups_in ds body
groups_in ds (Do k at body c) = groups_in ds body
groups_in ds _ = []

-- a sequential phase whose loops keep them, each local in a property of its own, the first of them q
abbrev pub with_groups : List Declaration → ℕ → Stmt → Stmt
with_groups ds q (Then a b) = Then (with_groups ds q a) (with_groups ds (q + length (groups_in ds a)) b)
with_groups ds q (Foreach k at h test body) = locals_loop ds (group_of ds h.iterator test body) q k at h test body
with_groups ds q (For k at h test body) = For k at h test (with_groups ds q body)
with_groups ds q (If k c a b) = If k c (with_groups ds q a) (with_groups ds (q + length (groups_in ds a)) b)
with_groups ds q (While k at c body) = While k at c (with_groups ds q body)
with_groups ds q (Do k at body c) = Do k at (with_groups ds q body) c
with_groups ds q s = s

-- a program whose loops keep all locals that they can in properties, the last of its variables
abbrev pub with_groups_kept : Program → Program
with_groups_kept program = record program {
  declarations = program.declarations ++ map (copy_of program.declarations) (groups_in program.declarations program.body);
  body = with_groups program.declarations (length program.declarations) program.body;
}
