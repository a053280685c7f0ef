-- Locals that stay within a piece of a loop's body.
use Rattle.std.specs.Prelude.{ℕ, Bool, true, ◌&&◌, ◌||◌, List}
use Rattle.gm_ast.specs.declared.tree.Declaration.{Declaration}
use Rattle.gm_ast.specs.Program.{Stmt, Then, If, Program}
use Rattle.gm_forms.specs.Cut.{is_own_loop}
use Rattle.gm_cut.specs.Parts.{locals_stay, each_passes}
use Rattle.gm_cut.specs.Runs.{with_runs}

-- whether no local goes from one piece of a body into another
abbrev pub locals_stay_within : List Declaration → ℕ → Stmt → Bool
locals_stay_within ds n (Then a b) = is_own_loop n (Then a b) || (locals_stay ds n a b && (locals_stay_within ds n a && locals_stay_within ds n b))
locals_stay_within ds n (If k c a b) = is_own_loop n (If k c a b) || (locals_stay ds n a b && (locals_stay_within ds n a && locals_stay_within ds n b))
locals_stay_within ds n _ = true

-- whether none does in the loops of a program that are not of own statements
abbrev pub has_staying_locals : Program → Bool
has_staying_locals p = each_passes (λ k at h test body. is_own_loop h.iterator body || locals_stay_within p.declarations h.iterator (with_runs h.iterator body)) p.body
