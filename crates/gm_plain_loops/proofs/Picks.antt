-- A reduction that a sequential phase of a ready program does at once goes.
use Rattle.std.proofs.Common.{◌≡◌, true, false, List, [], ◌∷◌, ◌++◌, refl}
use Rattle.std.specs.Prelude.{◌&&◌, nat_eq}
use Rattle.std.specs.List.{list_all}
use Rattle.std.proofs.lemmas.Bool.{both_ways, and_from}
use Rattle.gm_value.specs.declared.reductions.Reduce.{Reduce}
use Rattle.gm_ast.specs.declared.tree.Declaration.{Declaration}
use Rattle.gm_ast.specs.declared.tree.Target.{Target}
use Rattle.gm_ast.specs.declared.tree.Target.TheVariants as T
use Rattle.gm_ast.specs.Program.{Expr, Program}
use Rattle.gm_forms.proofs.Named.{both-true}
use Rattle.gm_forms.specs.Forms.{depth_at, is_told, is_plain}
use Rattle.gm_forms.specs.Typing.{keeps_tuples, all_have_types, fits_targets}
use Rattle.gm_forms.specs.Uses.{Written, use_as, uses_in, uses_in_all, uses_of_targets}
use Rattle.gm_lowering.specs.Layouts.{Layout, layout}
use Rattle.gm_lowering.specs.OwnLoops.{are_any}
use Rattle.gm_lowering.specs.Sites.{same_length}
use Rattle.gm_lowering_master.specs.Cells.{is_scalar}
use Rattle.gm_lowering_master.specs.Follows.{tells}
use Rattle.gm_lowering_master.specs.Going.{is_phase_target}
use Rattle.gm_lowering_master.specs.Plain.{pick_goes}
use Rattle.gm_plain_loops.specs.Tests.{asks_around}
use Rattle.gm_plain_loops.proofs.Names.{Fine, split, told, a-scalar, declared-scalar}
use Rattle.gm_plain_loops.proofs.Bodies.{as-long}

module _ (p : Program) where
  abbrev ds : List Declaration
  ds = p.declarations

  abbrev c : Layout
  c = layout p

  some-targets : (r : Reduce) (ts : List Target) → fits_targets ds r ts ≡ true → are_any ts ≡ true
  some-targets r [] h = absurd (both_ways false refl h)
  some-targets r (t ∷ ts) h = refl

  phase-targets : (ts : List Target) → list_all (is_plain ds) ts ≡ true → Fine p (uses_of_targets ts) → list_all (is_phase_target c) ts ≡ true
  phase-targets [] h u = refl
  phase-targets (T.Property x q at ∷ ts) h u = absurd (both_ways false refl h)
  phase-targets (T.Scalar x at ∷ ts) h u =
      let h2 = both-true (nat_eq (depth_at ds x) 0) (list_all (is_plain ds) ts) h in
      let u2 = split p (use_as Written x) (uses_of_targets ts) u in
      and_from (is_scalar c x) (list_all (is_phase_target c) ts) (a-scalar p Written x u2.0 (declared-scalar p x u2.0 h2.0)) (phase-targets ts h2.1 u2.1)

  all-told : (es : List Expr) → list_all is_told es ≡ true → Fine p (uses_in_all es) → list_all (asks_around ds []) es ≡ true → list_all (tells c) es ≡ true
  all-told [] f u h = refl
  all-told (e ∷ es) f u h =
      let f2 = both-true (is_told e) (list_all is_told es) f in
      let u2 = split p (uses_in e) (uses_in_all es) u in
      let h2 = both-true (asks_around ds [] e) (list_all (asks_around ds []) es) h in
      and_from (tells c e) (list_all (tells c) es) (told p e f2.0 u2.0 h2.0) (all-told es f2.1 u2.1 h2.1)

  pub pick-plain : (r : Reduce) (ts : List Target) (es : List Expr) → keeps_tuples r && (list_all (is_plain ds) ts && list_all is_told es) ≡ true → Fine p (uses_of_targets ts ++ uses_in_all es)
      → all_have_types ds ts es && fits_targets ds r ts ≡ true → list_all (asks_around ds []) es ≡ true → pick_goes c r ts es ≡ true
  pick-plain r ts es f u y h =
      let f1 = both-true (keeps_tuples r) (list_all (is_plain ds) ts && list_all is_told es) f in
      let f2 = both-true (list_all (is_plain ds) ts) (list_all is_told es) f1.1 in
      let u2 = split p (uses_of_targets ts) (uses_in_all es) u in
      let y2 = both-true (all_have_types ds ts es) (fits_targets ds r ts) y in
      and_from (keeps_tuples r) _ f1.0
      (and_from (are_any ts) _ (some-targets r ts y2.1)
      (and_from (list_all (is_phase_target c) ts) _ (phase-targets ts f2.0 u2.0)
      (and_from (same_length ts es) (list_all (tells c) es) (as-long p ts es y2.0) (all-told es f2.1 u2.1 h))))
