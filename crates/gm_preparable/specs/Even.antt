-- Tuples of a program as it stands for a text, before its searches and reductions are loops.
use Rattle.std.specs.Prelude.{Bool, true, ◌&&◌, List}
use Rattle.gm_ast.specs.declared.tree.Declaration.{Declaration}
use Rattle.gm_ast.specs.Program.{Stmt, Then, Foreach, For, If, While, Do, InBfs, InBfsBoth, Program}
use Rattle.gm_parting.specs.Tuples.{reduces_evenly}

-- whether the targets of each reduction in the loops and searches of a sequential phase are declared inside as many loops
abbrev pub all_reduce_evenly : List Declaration → Stmt → Bool
all_reduce_evenly ds (Then a b) = all_reduce_evenly ds a && all_reduce_evenly ds b
all_reduce_evenly ds (Foreach k at h test body) = reduces_evenly ds body
all_reduce_evenly ds (For k at h test body) = all_reduce_evenly ds body
all_reduce_evenly ds (If k c a b) = all_reduce_evenly ds a && all_reduce_evenly ds b
all_reduce_evenly ds (While k at c body) = all_reduce_evenly ds body
all_reduce_evenly ds (Do k at body c) = all_reduce_evenly ds body
all_reduce_evenly ds (InBfs k at s test body) = reduces_evenly ds body
all_reduce_evenly ds (InBfsBoth k at s test body back_key back_test back) = reduces_evenly ds body && reduces_evenly ds back
all_reduce_evenly ds s = true

-- whether they are in those of a program
abbrev pub has_even_reductions : Program → Bool
has_even_reductions p = all_reduce_evenly p.declarations p.body
