-- Rows of products take one more factor.
use Rattle.std.proofs.Common.{◌≡◌, ◌≢◌, ◌<◌, ◌+◌, ℕ, zero, suc, ℤ, pos, ◌*ℤ◌, Bool, true, false, cond, Option, Some, None, List, length, set, get_or, refl, sym, ap, subst, ◌∙◌, arith, ⊎_elim}
use Rattle.std.specs.Prelude.{slice_get, slice_index_or}
use Rattle.std.proofs.lemmas.Bool.{cases_eq}
use Rattle.std.proofs.lemmas.Int.{ints}
use Rattle.std.proofs.lemmas.List.{get_or-set_same, get_or-set_other, length-set}
use Rattle.gm_value.specs.declared.reductions.Reduce.{Reduce}
use Rattle.gm_value.specs.declared.reductions.Reduce.TheVariants as reduce
use Rattle.gm_value.specs.declared.totals.Total.{Total}
use Rattle.gm_value.specs.Totals.{Shows}
use Rattle.gm_machine.specs.Combining.{more_exact}
use Rattle.gm_combine.specs.Totals.{ShowsTotal}
use Rattle.gm_combine.specs.Folds.{AddsOne}
use Rattle.gm_combine.specs.Cells.{marked, multiplied, AreProducts}
use Rattle.gm_combine.proofs.Adding.{adds-one}
use Rattle.gm_combine.proofs.Picking.{set-here, set-elsewhere, marked-here, marked-elsewhere}

times-one : (z : ℤ) → z *ℤ pos 1 ≡ z
times-one z = omega (arith, ints)

here-shown : (b : Bool) (held new : Total) (z : ℤ) (exact : Option ℤ) → (b ≡ false → Shows reduce.Product held (pos 1)) → ((e : ℤ) → Shows reduce.Product held e → Shows reduce.Product new (z *ℤ e)) →
    ShowsTotal reduce.Product (cond b (Some held) None) exact → Shows reduce.Product new (more_exact reduce.Product z exact)
here-shown false held new z None none more is = subst (λ e. Shows reduce.Product new e) (times-one z) (more (pos 1) (none refl))
here-shown false held new z (Some e) none more is = absurd is
here-shown true held new z None none more is = absurd is
here-shown true held new z (Some e) none more is = more e is

pub products-add : (r : Reduce) → r ≡ reduce.Product → (cells : List Total) (marks : List Bool) (place : ℕ) (held new : Total) (z : ℤ) →
    place < length cells → place < length marks →
    (get_or marks place false ≡ true → slice_get cells place ≡ Some held) → (get_or marks place false ≡ false → Shows reduce.Product held (pos 1)) →
    ((e : ℤ) → Shows reduce.Product held e → Shows reduce.Product new (z *ℤ e)) →
    AddsOne r (multiplied cells marks) (place, z) (multiplied (set cells place new) (set marks place true))
products-add r is_product cells marks place held new z in_cells in_marks some none more =
    subst (λ s. AddsOne s (multiplied cells marks) (place, z) (multiplied (set cells place new) (set marks place true))) (sym is_product)
    (adds-one reduce.Product (multiplied cells marks) (multiplied (set cells place new) (set marks place true)) place z others here)
  where
    others : (n : ℕ) → n ≢ place → multiplied (set cells place new) (set marks place true) n ≡ multiplied cells marks n
    others n differs = marked-elsewhere marks place n (slice_get cells n) (slice_get (set cells place new) n) differs (set-elsewhere cells place n new differs)

    after : multiplied (set cells place new) (set marks place true) place ≡ Some new
    after = marked-here marks place (slice_get (set cells place new) place) in_marks ∙ set-here cells place new in_cells

    before : (b : Bool) → get_or marks place false ≡ b → cond b (slice_get cells place) None ≡ cond b (Some held) None
    before false is = refl
    before true is = some is

    here : (exact : Option ℤ) → ShowsTotal reduce.Product (multiplied cells marks place) exact → ShowsTotal reduce.Product (multiplied (set cells place new) (set marks place true) place) (Some (more_exact reduce.Product z exact))
    here exact is = subst (λ t. ShowsTotal reduce.Product t (Some (more_exact reduce.Product z exact))) (sym after)
        (here-shown (get_or marks place false) held new z exact none more (subst (λ t. ShowsTotal reduce.Product t exact) (before (get_or marks place false) refl) is))

pub products-hold : (cells : List Total) (marks : List Bool) (place : ℕ) (held new : Total) (z : ℤ) → AreProducts cells marks → place < length cells →
    (get_or marks place false ≡ true → slice_get cells place ≡ Some held) → (get_or marks place false ≡ false → Shows reduce.Product held (pos 1)) →
    ((e : ℤ) → Shows reduce.Product held e → Shows reduce.Product new (z *ℤ e)) →
    AreProducts (set cells place new) (set marks place true)
products-hold cells marks place held new z are in_cells some none more = record {
  as_marked = length-set marks place true ∙ are.as_marked ∙ sym (length-set cells place new);
  shown = λ n t is_marked is. ⊎_elim (here n t is) (elsewhere n t is_marked is) (cases_eq n place);
} where
  shown-held : (b : Bool) → get_or marks place false ≡ b → (e : ℤ) × Shows reduce.Product held e
  shown-held false is = (pos 1, none is)
  shown-held true is = are.shown place held is (some is)

  here : (n : ℕ) (t : Total) → slice_get (set cells place new) n ≡ Some t → n ≡ place → (e : ℤ) × Shows reduce.Product t e
  here n t is same =
      let e = shown-held (get_or marks place false) refl in
      let one : Some new ≡ Some t = sym (ap (slice_get (set cells place new)) same ∙ set-here cells place new in_cells) ∙ is in
      let new_is : new ≡ t = cc one in
      (z *ℤ e.0, subst (λ x. Shows reduce.Product x (z *ℤ e.0)) new_is (more e.0 e.1))

  elsewhere : (n : ℕ) (t : Total) → get_or (set marks place true) n false ≡ true → slice_get (set cells place new) n ≡ Some t → (n ≡ place → ⊥) → (e : ℤ) × Shows reduce.Product t e
  elsewhere n t is_marked is differs = are.shown n t (sym (get_or-set_other marks place n true false differs) ∙ is_marked) (sym (set-elsewhere cells place n new differs) ∙ is)
