-- What the targets of one reduction have in common.
use Rattle.std.specs.Prelude.{Bool, true, ◌&&◌}
use Rattle.gm_ast.specs.Program.{Stmt, Then, Combine, Foreach, For, If, While, Do, InBfs, InBfsBoth, Program}
use Rattle.gm_forms.specs.Sharing.{are_alike, are_distinct, variables_of}

-- whether the targets of each reduction of a statement are scalars, or properties through one variable, and none stands twice
abbrev pub reduces_alike_in : Stmt → Bool
reduces_alike_in (Then a b) = reduces_alike_in a && reduces_alike_in b
reduces_alike_in (Combine k total r ts es) = are_alike ts && are_distinct (variables_of ts)
reduces_alike_in (Foreach k at h test body) = reduces_alike_in body
reduces_alike_in (For k at h test body) = reduces_alike_in body
reduces_alike_in (If k c a b) = reduces_alike_in a && reduces_alike_in b
reduces_alike_in (While k at c body) = reduces_alike_in body
reduces_alike_in (Do k at body c) = reduces_alike_in body
reduces_alike_in (InBfs k at s test body) = reduces_alike_in body
reduces_alike_in (InBfsBoth k at s test body back_key back_test back) = reduces_alike_in body && reduces_alike_in back
reduces_alike_in _ = true

-- whether those of each reduction of a program are
abbrev pub reduces_alike : Program → Bool
reduces_alike p = reduces_alike_in p.body
