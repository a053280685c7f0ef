-- A table of declarations with more of them at its end.
use Rattle.std.proofs.Common.{◌≡◌, ◌<◌, ℕ, true, List, [], ◌∷◌, ◌++◌, length, refl, sym, ap, ◌∙◌, arith, Some}
use Rattle.std.specs.Prelude.{nat_lt, option_map}
use Rattle.std.specs.List.{list_all}
use Rattle.std.proofs.Math.Seq.{get_or-append_seam}
use Rattle.std.proofs.lemmas.Bool.{lt-ltb, ltb-true}
use Rattle.std.proofs.lemmas.List.{length-append, get_or_append_left}
use Rattle.std.proofs.lemmas.Option.{slice_get-get_or}
use Rattle.gm_value.specs.declared.values.VType.TheVariants.{Flag}
use Rattle.gm_ast.specs.declared.tree.Declaration.{Declaration}
use Rattle.gm_semantics.specs.Statements.{variable_or, variable_at}
use Rattle.gm_forms.specs.Uses.{Role, Use, has_role, suits}
use Rattle.gm_forms.proofs.Named.{both-true}
use Rattle.gm_forms.proofs.Weaker.{and-true}
use Rattle.gm_desugar.specs.Conditions.{fresh}

-- the variables of the shorter table
module _ (ds more : List Declaration) where
  abbrev appended : List Declaration
  appended = ds ++ more

  longer : (x : ℕ) → x < length ds → x < length appended
  longer x below = let e = length-append ds more in omega arith

  pub variable-appended : (x : ℕ) → x < length ds → variable_at appended x ≡ variable_at ds x
  variable-appended x below =
      ap (λ o. variable_or (option_map (λ (y : Declaration). y.variable) o))
      (slice_get-get_or appended x (fresh Flag) (longer x below) ∙ ap Some (get_or_append_left ds more (fresh Flag) x below) ∙ sym (slice_get-get_or ds x (fresh Flag) below))

  -- what suits the table suits the longer one
  suits-appended : (u : Use) → suits ds u ≡ true → suits appended u ≡ true
  suits-appended u h =
      let b = both-true (nat_lt u.variable (length ds)) (has_role (variable_at ds u.variable) u.role) h in
      let below : u.variable < length ds = ltb-true u.variable (length ds) b.0 in
      and-true (nat_lt u.variable (length appended)) (has_role (variable_at appended u.variable) u.role) (lt-ltb u.variable (length appended) (longer u.variable below)) (ap (λ v. has_role v u.role) (variable-appended u.variable below) ∙ b.1)

  pub all-suit-appended : (us : List Use) → list_all (suits ds) us ≡ true → list_all (suits appended) us ≡ true
  all-suit-appended [] h = refl
  all-suit-appended (u ∷ us) h = let b = both-true (suits ds u) (list_all (suits ds) us) h in and-true (suits appended u) (list_all (suits appended) us) (suits-appended u b.0) (all-suit-appended us b.1)

-- the first of the others
module _ (ds : List Declaration) (d : Declaration) (more : List Declaration) where
  pub next-below : length ds < length (ds ++ (d ∷ more))
  next-below = let e = length-append ds (d ∷ more) in omega arith

  pub variable-next : variable_at (ds ++ (d ∷ more)) (length ds) ≡ d.variable
  variable-next =
      ap (λ o. variable_or (option_map (λ (y : Declaration). y.variable) o)) (slice_get-get_or (ds ++ (d ∷ more)) (length ds) d next-below ∙ ap Some (get_or-append_seam ds d more d))

  pub next-suits : (role : Role) → has_role d.variable role ≡ true → suits (ds ++ (d ∷ more)) (record { variable = length ds; role = role }) ≡ true
  next-suits role h =
      and-true (nat_lt (length ds) (length (ds ++ (d ∷ more)))) (has_role (variable_at (ds ++ (d ∷ more)) (length ds)) role) (lt-ltb (length ds) (length (ds ++ (d ∷ more))) next-below) (ap (λ v. has_role v role) variable-next ∙ h)
