-- Tuples of scalars that are reduced together, all declared inside as many parallel loops.
use Rattle.std.specs.Prelude.{ℕ, nat_eq, Bool, true, false, ◌&&◌, ◌||◌, List, [], ◌∷◌}
use Rattle.std.specs.List.{list_all}
use Rattle.gm_ast.specs.declared.tree.Declaration.{Declaration}
use Rattle.gm_ast.specs.declared.tree.Target.{Target}
use Rattle.gm_ast.specs.declared.tree.Target.TheVariants as T
use Rattle.gm_ast.specs.Program.{Stmt, Then, Combine, Foreach, If, Program}
use Rattle.gm_forms.specs.Forms.{depth_at}
use Rattle.gm_forms.specs.Cut.{is_own_loop}
use Rattle.gm_cut.specs.Parts.{each_passes}

-- whether a target is a scalar that is declared inside so many parallel loops
abbrev pub is_scalar_at : List Declaration → ℕ → Target → Bool
is_scalar_at ds d (T.Scalar x at) = nat_eq (depth_at ds x) d
is_scalar_at ds d (T.Property x p at) = false

-- whether targets are properties, or scalars that are all declared inside as many
abbrev pub are_even : List Declaration → List Target → Bool
are_even ds [] = true
are_even ds (T.Scalar x at ∷ ts) = list_all (is_scalar_at ds (depth_at ds x)) ts
are_even ds (T.Property x p at ∷ ts) = true

-- whether the targets of each reduction of a body are
abbrev pub reduces_evenly : List Declaration → Stmt → Bool
reduces_evenly ds (Then a b) = reduces_evenly ds a && reduces_evenly ds b
reduces_evenly ds (Combine k total r ts es) = are_even ds ts
reduces_evenly ds (If k c a b) = reduces_evenly ds a && reduces_evenly ds b
reduces_evenly ds (Foreach k at h test body) = reduces_evenly ds body
reduces_evenly ds _ = true

-- whether those of each loop of a program that is not of own statements are
abbrev pub has_even_tuples : Program → Bool
has_even_tuples p = each_passes (λ k at h test body. is_own_loop h.iterator body || reduces_evenly p.declarations body) p.body
