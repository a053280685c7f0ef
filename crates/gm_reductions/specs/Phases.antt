-- What a sequential phase is once its accesses and its reductions are loops.
use Rattle.std.specs.Prelude.{◌≡◌, ℕ, Bool, true, false, ◌&&◌, List}
use Rattle.gm_ast.specs.declared.tree.Declaration.{Declaration}
use Rattle.gm_ast.specs.Program.{Expr, Stmt, Then, Combine, Foreach, For, If, While, Do, InBfs, InBfsBoth, Program}
use Rattle.gm_forms.specs.Forms.{is_flat_loop, is_phase}
use Rattle.gm_forms.specs.Ready.{is_outer_expr, is_outer_code, is_outer_loop, Ready1}
use Rattle.gm_reductions.specs.Stages.{WithLoopsAlone}

-- whether nothing is reduced at once in a sequential phase. What is left of that are picks
abbrev pub has_no_picks : Stmt → Bool
has_no_picks (Then a b) = has_no_picks a && has_no_picks b
has_no_picks (Combine k total r ts es) = false
has_no_picks (For k at h test body) = has_no_picks body
has_no_picks (If k c a b) = has_no_picks a && has_no_picks b
has_no_picks (While k at c body) = has_no_picks body
has_no_picks (Do k at body c) = has_no_picks body
has_no_picks s = true

-- a program has no pick in its sequential phase where another has none
abbrev pub KeepsNoPicks : Program → Program → Type 0
KeepsNoPicks p q = has_no_picks p.body ≡ true → has_no_picks q.body ≡ true

-- whether each parallel loop and each search of a sequential phase is flat: no reduction stands in its expressions, and none is done at once but picks
abbrev pub has_flat_loops : List Declaration → Stmt → Bool
has_flat_loops ds (Then a b) = has_flat_loops ds a && has_flat_loops ds b
has_flat_loops ds (Foreach k at h test body) = is_flat_loop ds false h.iterator test body
has_flat_loops ds (For k at h test body) = has_flat_loops ds body
has_flat_loops ds (If k c a b) = has_flat_loops ds a && has_flat_loops ds b
has_flat_loops ds (While k at c body) = has_flat_loops ds body
has_flat_loops ds (Do k at body c) = has_flat_loops ds body
has_flat_loops ds (InBfs k at s test body) = is_flat_loop ds true s.iterator test body
has_flat_loops ds (InBfsBoth k at s test body back_key back_test back) = is_flat_loop ds true s.iterator test body && is_flat_loop ds true s.iterator back_test back
has_flat_loops ds s = true

-- a search of a checked program
abbrev pub is_search_code : List Declaration → ℕ → Expr → Stmt → Bool
is_search_code ds n test body = is_outer_expr false n test && is_outer_code ds true n body

-- whether a program is desugared but for its parallel loops and searches, which are those of a checked program: its sequential phase computes with scalars alone
abbrev pub is_desugared_outside : Program → Bool
is_desugared_outside p = is_phase (is_outer_loop p.declarations false) (is_search_code p.declarations) p.declarations p.body

-- where neither an access nor a reduction is left, a program without picks is desugared but for its parallel loops and searches
abbrev pub PhasesAreDesugared : Type 0
PhasesAreDesugared = (p : Program) → WithLoopsAlone p → has_no_picks p.body ≡ true → is_desugared_outside p ≡ true

-- and it is desugared where these are flat
abbrev pub FlatProgramsAreDesugared : Type 0
FlatProgramsAreDesugared = (p : Program) → WithLoopsAlone p → has_no_picks p.body ≡ true → has_flat_loops p.declarations p.body ≡ true → Ready1 p
