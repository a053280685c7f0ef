-- How the reductions of a body go, and the slots of their targets.
use Rattle.std.proofs.Common.{◌≡◌, ℕ, Bool, true, false, List, [], ◌∷◌, ◌++◌, refl}
use Rattle.std.specs.Prelude.{nat_eq, if◌then◌else◌}
use Rattle.std.specs.List.{list_all, list_any}
use Rattle.std.proofs.lemmas.Bool.{both_ways}
use Rattle.gm_ast.specs.declared.tree.Declaration.{Declaration}
use Rattle.gm_ast.specs.declared.tree.Target.{Target}
use Rattle.gm_ast.specs.declared.tree.Target.TheVariants as T
use Rattle.gm_ast.specs.Program.{Program}
use Rattle.gm_forms.proofs.Named.{both-true}
use Rattle.gm_forms.specs.Sharing.{are_alike, is_scalar, is_through}
use Rattle.gm_forms.specs.Uses.{Use, Written, Owner, NodeValue, use_as, uses_of_targets}
use Rattle.gm_semantics.specs.Statements.{variable_at}
use Rattle.gm_typed_stores.specs.Values.{Each}
use Rattle.gm_lowering.specs.Layouts.{is_global, is_scalar_of}
use Rattle.gm_lowering.specs.Plans.{Way, Puts, Folds, Sends, Picks, is_property_of, is_property_off, way_of}
use Rattle.gm_sound_lowering.specs.Types.{is_placed}
use Rattle.gm_sound_lowering.proofs.Leaves.{placed-here, placed-split}
use Rattle.gm_sound_lowering.proofs.Reductions.{IsScalarSlot, IsPropertySlot}

pub no-off : (n : ℕ) (ts : List Target) → list_all is_scalar ts ≡ true → list_any (is_property_off n) ts ≡ false
no-off n [] h = refl
no-off n (T.Scalar x at ∷ ts) h = no-off n ts h
no-off n (T.Property x q at ∷ ts) h = absurd (both_ways false refl h)

module _ (p : Program) (n : ℕ) where
  abbrev ds : List Declaration
  ds = p.declarations

  abbrev pub WayIs : Way → List Target → Type 0
  WayIs Puts ts = list_all (is_scalar_of is_global ds) ts ≡ true
  WayIs Folds ts = list_all (is_property_of n) ts ≡ true
  WayIs Sends ts = list_any (is_property_off n) ts ≡ true
  WayIs Picks ts = Unit {0}

  pub way-is : (ts : List Target) → WayIs (way_of ds n ts) ts
  way-is ts = by (list_all (is_scalar_of is_global ds) ts) (list_all (is_property_of n) ts) (list_any (is_property_off n) ts) refl refl refl where
    by : (a b c : Bool) → list_all (is_scalar_of is_global ds) ts ≡ a → list_all (is_property_of n) ts ≡ b → list_any (is_property_off n) ts ≡ c → WayIs (if a then Puts else (if b then Folds else (if c then Sends else Picks))) ts
    by true b c e f g = e
    by false true c e f g = f
    by false false true e f g = g
    by false false false e f g = tt

  abbrev Placed : List Use → Type 0
  Placed us = list_all (is_placed p) us ≡ true

  pub scalar-slots : (ts : List Target) → list_all (is_scalar_of is_global ds) ts ≡ true → Placed (uses_of_targets ts) → Each (IsScalarSlot p) ts
  scalar-slots [] h u = tt
  scalar-slots (T.Scalar x at ∷ ts) h u =
      let b = both-true (is_global (variable_at ds x)) (list_all (is_scalar_of is_global ds) ts) h in
      let r = placed-split p (use_as Written x) (uses_of_targets ts) u in (((placed-here p Written x r.0).0, b.0), scalar-slots ts b.1 r.1)
  scalar-slots (T.Property x q at ∷ ts) h u = absurd (both_ways false refl h)

  -- targets that are all properties
  abbrev pub is_property : Target → Bool
  is_property (T.Scalar x at) = false
  is_property (T.Property x q at) = true

  pub property-slots : (ts : List Target) → list_all is_property ts ≡ true → Placed (uses_of_targets ts) → Each (IsPropertySlot p) ts
  property-slots [] h u = tt
  property-slots (T.Scalar x at ∷ ts) h u = absurd (both_ways false refl h)
  property-slots (T.Property x q at ∷ ts) h u =
      let r = placed-split p (use_as Owner x ++ use_as NodeValue q) (uses_of_targets ts) u in
      let w = placed-split p (use_as Owner x) (use_as NodeValue q) r.0 in ((placed-here p NodeValue q w.1).2, property-slots ts h r.1)

  pub own-properties : (ts : List Target) → list_all (is_property_of n) ts ≡ true → list_all is_property ts ≡ true
  own-properties [] h = refl
  own-properties (T.Scalar x at ∷ ts) h = absurd (both_ways false refl h)
  own-properties (T.Property x q at ∷ ts) h = own-properties ts (both-true (nat_eq x n) (list_all (is_property_of n) ts) h).1

  pub through-properties : (x : ℕ) (ts : List Target) → list_all (is_through x) ts ≡ true → list_all is_property ts ≡ true
  through-properties x [] h = refl
  through-properties x (T.Scalar y at ∷ ts) h = absurd (both_ways false refl h)
  through-properties x (T.Property y q at ∷ ts) h = through-properties x ts (both-true (nat_eq y x) (list_all (is_through x) ts) h).1

  pub sent-properties : (ts : List Target) → are_alike ts ≡ true → list_any (is_property_off n) ts ≡ true → list_all is_property ts ≡ true
  sent-properties [] h g = refl
  sent-properties (T.Scalar x at ∷ ts) h g = absurd (both_ways (list_any (is_property_off n) ts) (no-off n ts h) g)
  sent-properties (T.Property x q at ∷ ts) h g = through-properties x ts h
