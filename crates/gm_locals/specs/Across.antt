-- Bodies of which no local goes from one part into another.
use Rattle.std.specs.Prelude.{◌≡◌, ℕ, Bool, true, false, List, ◌++◌}
use Rattle.std.specs.List.{list_all}
use Rattle.gm_ast.specs.declared.tree.Declaration.{Declaration}
use Rattle.gm_ast.specs.declared.tree.Sort.TheVariants.{NodeProperty}
use Rattle.gm_ast.specs.Names.{sort_eq}
use Rattle.gm_ast.specs.Program.{Stmt}
use Rattle.gm_semantics.specs.Statements.{variable_at}
use Rattle.gm_forms.specs.Fission.{changed, reduced_locals}
use Rattle.gm_forms.specs.Forms.{is_outer_body}
use Rattle.gm_forms.specs.Sharing.{sights_of, disjoint}
use Rattle.gm_forms.specs.Uses.{Iterates, has_role, suits, uses_of}

-- whether a part of a loop's body leaves no scalar changed, but properties alone
abbrev pub changes_no_scalar : List Declaration → ℕ → Stmt → Bool
changes_no_scalar ds n s = list_all (λ x. sort_eq NodeProperty (variable_at ds x).sort) (changed ds n s)

-- what stands behind such a part neither reads nor reduces a local that it changes
abbrev pub NoLocalGoesAcross : Type 0
NoLocalGoesAcross = (ds : List Declaration) (n : ℕ) (a b : Stmt) →
    has_role (variable_at ds n) Iterates ≡ true → list_all (suits ds) (uses_of b) ≡ true → is_outer_body ds false n b ≡ true → changes_no_scalar ds n a ≡ true →
    disjoint (changed ds n a) ((sights_of ds n false b).scalars ++ reduced_locals ds b) ≡ true
