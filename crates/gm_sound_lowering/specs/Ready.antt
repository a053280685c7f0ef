-- What is asked of a program that is ready to be lowered, beside what the passes give.
use Rattle.std.specs.Prelude.{ℕ, Bool, true, ◌&&◌, if◌then◌else◌, List}
use Rattle.std.specs.List.{list_all}
use Rattle.gm_value.specs.Operations.{is_numeric}
use Rattle.gm_ast.specs.declared.tree.Declaration.{Declaration}
use Rattle.gm_ast.specs.declared.tree.Target.{Target}
use Rattle.gm_ast.specs.Program.{Expr, Stmt, Then, Declare, Assign, Combine, Foreach, For, If, While, Do, Return, Program}
use Rattle.gm_forms.specs.Typing.{target_type}
use Rattle.gm_semantics.specs.Statements.{variable_at}
use Rattle.gm_lowering.specs.Layouts.{is_global}
use Rattle.gm_lowering.specs.Plans.{way_of, is_here}
use Rattle.gm_sound_lowering.specs.Asked.{is_plain, may_be_plain, all_plain, may_pick}

-- whether a body may be lowered at a node: its constants are no nodes but NIL, and what it keeps at once are numbers in locals
abbrev pub is_lowerable_body : List Declaration → ℕ → Stmt → Bool
is_lowerable_body ds n (Then a b) = is_lowerable_body ds n a && is_lowerable_body ds n b
is_lowerable_body ds n (Declare k x e) = may_be_plain ds e
is_lowerable_body ds n (Assign k t e) = is_plain ds e
is_lowerable_body ds n (Combine k total r ts es) = may_pick (way_of ds n ts) ds ts && all_plain ds es
is_lowerable_body ds n (If k c a b) = is_plain ds c && (is_lowerable_body ds n a && is_lowerable_body ds n b)
is_lowerable_body ds n _ = true

-- the same of a parallel loop
abbrev pub is_lowerable_loop : List Declaration → ℕ → Expr → Stmt → Bool
is_lowerable_loop ds n test (Foreach k at h inner body) =
    is_plain ds test && (is_plain ds inner && is_lowerable_body ds (if is_here ds n h inner body then n else h.iterator) body)
is_lowerable_loop ds n test body = is_plain ds test && is_lowerable_body ds n body

-- a target of a type of numbers
abbrev pub is_number : List Declaration → Target → Bool
is_number ds t = is_numeric (target_type ds t)

-- and of a statement of a sequential phase, which keeps all at once. The iterator of a For is a node of the procedure
abbrev pub is_lowerable_phase : List Declaration → Stmt → Bool
is_lowerable_phase ds (Then a b) = is_lowerable_phase ds a && is_lowerable_phase ds b
is_lowerable_phase ds (Declare k x e) = may_be_plain ds e
is_lowerable_phase ds (Assign k t e) = is_plain ds e
is_lowerable_phase ds (Combine k total r ts es) = list_all (is_number ds) ts && all_plain ds es
is_lowerable_phase ds (Foreach k at h test body) = is_lowerable_loop ds h.iterator test body
is_lowerable_phase ds (For k at h test body) = is_global (variable_at ds h.iterator) && (is_plain ds test && is_lowerable_phase ds body)
is_lowerable_phase ds (If k c a b) = is_plain ds c && (is_lowerable_phase ds a && is_lowerable_phase ds b)
is_lowerable_phase ds (While k at c body) = is_plain ds c && is_lowerable_phase ds body
is_lowerable_phase ds (Do k at body c) = is_lowerable_phase ds body && is_plain ds c
is_lowerable_phase ds (Return k at e) = may_be_plain ds e
is_lowerable_phase ds _ = true

abbrev pub is_lowerable : Program → Bool
is_lowerable p = is_lowerable_phase p.declarations p.body
