-- Rows of least and of greatest values take one more value.
use Rattle.std.proofs.Common.{◌≡◌, ◌≢◌, ◌<◌, ◌+◌, ℕ, zero, suc, ℤ, Bool, true, false, cond, nat_eq, Option, Some, None, List, [], ◌∷◌, map, length, set, get_or, refl, sym, ap, subst, ◌∙◌, arith, ⊎_elim}
use Rattle.std.specs.Prelude.{slice_get, slice_index_or, ◌⊎◌}
use Rattle.std.specs.Option.{option_map}
use Rattle.std.specs.Int.{int_min, int_max}
use Rattle.std.proofs.lemmas.List.{get_or-set_same, get_or-set_other}
use Rattle.gm_value.specs.declared.values.Value.{Value}
use Rattle.gm_value.specs.declared.reductions.Reduce.{Reduce}
use Rattle.gm_value.specs.declared.reductions.Reduce.TheVariants as reduce
use Rattle.gm_value.specs.declared.totals.Total.{Total}
use Rattle.gm_value.specs.declared.totals.Total.TheVariants.{Small}
use Rattle.gm_value.specs.Numbers.{number_of}
use Rattle.gm_value.specs.Totals.{Shows}
use Rattle.gm_machine.specs.Combining.{more_exact}
use Rattle.gm_combine.specs.Totals.{ShowsTotal}
use Rattle.gm_combine.specs.Folds.{AddsOne}
use Rattle.gm_combine.specs.Cells.{marked, picked}
use Rattle.gm_combine.proofs.Adding.{adds-one}

pub set-here : {A : Type 0} (xs : List A) (i : ℕ) (x : A) → i < length xs → slice_get (set xs i x) i ≡ Some x
set-here [] i x here = absurd (omega (arith, here))
set-here (y ∷ xs) zero x here = refl
set-here (y ∷ xs) (suc i) x here = set-here xs i x (omega (arith, here))

pub set-elsewhere : {A : Type 0} (xs : List A) (i n : ℕ) (x : A) → n ≢ i → slice_get (set xs i x) n ≡ slice_get xs n
set-elsewhere [] i n x differs = refl
set-elsewhere (y ∷ xs) zero zero x differs = absurd (differs refl)
set-elsewhere (y ∷ xs) zero (suc n) x differs = refl
set-elsewhere (y ∷ xs) (suc i) zero x differs = refl
set-elsewhere (y ∷ xs) (suc i) (suc n) x differs = set-elsewhere xs i n x (λ e. differs (ap suc e))

pub get-here : {A : Type 0} (xs : List A) (i : ℕ) (x : A) → i < length xs → x ≡ get_or xs i x → slice_get xs i ≡ Some x
get-here [] i x here is = absurd (omega (arith, here))
get-here (y ∷ xs) zero x here is = ap Some (sym is)
get-here (y ∷ xs) (suc i) x here is = get-here xs i x (omega (arith, here)) is

pub any-default : {A : Type 0} (xs : List A) (i : ℕ) (d e : A) → i < length xs → get_or xs i d ≡ get_or xs i e
any-default [] i d e here = absurd (omega (arith, here))
any-default (y ∷ xs) zero d e here = refl
any-default (y ∷ xs) (suc i) d e here = any-default xs i d e (omega (arith, here))

-- what is marked at a place, where something is marked elsewhere
pub marked-elsewhere : {A : Type 0} (marks : List Bool) (place n : ℕ) (held other : Option A) → n ≢ place → other ≡ held →
    marked (set marks place true) n other ≡ marked marks n held
marked-elsewhere marks place n held other differs same = rw (same, get_or-set_other marks place n true false differs) refl

pub marked-here : {A : Type 0} (marks : List Bool) (place : ℕ) (held : Option A) → place < length marks → marked (set marks place true) place held ≡ held
marked-here marks place held here = ap (λ b. cond b held None) (get_or-set_same marks place true false here)

-- one more value at a place: the value itself where nothing was held, and else what the reduction leaves
here-shown : {T : Type 0} (value : T → Value) (r : Reduce) (b : Bool) (held y : T) (z : ℤ) (exact : Option ℤ) →
    ((v w : Value) (e : ℤ) → number_of v ≡ e → Shows r (Small v) e) → ((v : Value) (e : ℤ) → Shows r (Small v) e → number_of v ≡ e) →
    (b ≡ false → number_of (value y) ≡ z) → (b ≡ true → more_exact r z (Some (number_of (value held))) ≡ number_of (value y)) →
    ShowsTotal r (cond b (Some (Small (value held))) None) exact → Shows r (Small (value y)) (more_exact r z exact)
here-shown value r false held y z None shows shown first more is = shows (value y) (value y) z (first refl)
here-shown value r false held y z (Some e) shows shown first more is = absurd is
here-shown value r true held y z None shows shown first more is = absurd is
here-shown value r true held y z (Some e) shows shown first more is =
    shows (value y) (value y) (more_exact r z (Some e)) (sym (ap (λ k. more_exact r z (Some k)) (sym (shown (value held) e is)) ∙ more refl))

pub picks : {T : Type 0} (value : T → Value) (r : Reduce) (cells : List T) (marks : List Bool) (place : ℕ) (held y : T) (z : ℤ) →
    ((v w : Value) (e : ℤ) → number_of v ≡ e → Shows r (Small v) e) → ((v : Value) (e : ℤ) → Shows r (Small v) e → number_of v ≡ e) →
    place < length cells → place < length marks → held ≡ get_or cells place held →
    (get_or marks place false ≡ false → number_of (value y) ≡ z) →
    (get_or marks place false ≡ true → more_exact r z (Some (number_of (value held))) ≡ number_of (value y)) →
    AddsOne r (picked value cells marks) (place, z) (picked value (set cells place y) (set marks place true))
picks value r cells marks place held y z shows shown in_cells in_marks is_held first more = adds-one r (picked value cells marks) (picked value (set cells place y) (set marks place true)) place z others here where
  others : (n : ℕ) → n ≢ place → picked value (set cells place y) (set marks place true) n ≡ picked value cells marks n
  others n differs = marked-elsewhere marks place n (option_map (λ c. Small (value c)) (slice_get cells n)) (option_map (λ c. Small (value c)) (slice_get (set cells place y) n)) differs
      (ap (λ o. option_map (λ c. Small (value c)) o) (set-elsewhere cells place n y differs))

  after : picked value (set cells place y) (set marks place true) place ≡ Some (Small (value y))
  after = marked-here marks place (option_map (λ c. Small (value c)) (slice_get (set cells place y) place)) in_marks ∙ ap (λ o. option_map (λ c. Small (value c)) o) (set-here cells place y in_cells)

  before : picked value cells marks place ≡ cond (get_or marks place false) (Some (Small (value held))) None
  before = ap (λ o. marked marks place (option_map (λ c. Small (value c)) o)) (get-here cells place held in_cells is_held)

  here : (exact : Option ℤ) → ShowsTotal r (picked value cells marks place) exact → ShowsTotal r (picked value (set cells place y) (set marks place true) place) (Some (more_exact r z exact))
  here exact is = subst (λ t. ShowsTotal r t (Some (more_exact r z exact))) (sym after)
      (here-shown value r (get_or marks place false) held y z exact shows shown first more (subst (λ t. ShowsTotal r t exact) before is))

-- by Min and And, and by Max and Or
pub least : {T : Type 0} (value : T → Value) (r : Reduce) (cells : List T) (marks : List Bool) (place : ℕ) (held y v : T) → (r ≡ reduce.Min) ⊎ (r ≡ reduce.And) →
    place < length cells → place < length marks → held ≡ get_or cells place held →
    (get_or marks place false ≡ false → number_of (value y) ≡ number_of (value v)) →
    (get_or marks place false ≡ true → number_of (value y) ≡ int_min (number_of (value v)) (number_of (value held))) →
    AddsOne r (picked value cells marks) (place, number_of (value v)) (picked value (set cells place y) (set marks place true))
least value r cells marks place held y v serves in_cells in_marks is_held first more = ⊎_elim by_min by_and serves where
  by_min : r ≡ reduce.Min → AddsOne r (picked value cells marks) (place, number_of (value v)) (picked value (set cells place y) (set marks place true))
  by_min is = subst (λ s. AddsOne s (picked value cells marks) (place, number_of (value v)) (picked value (set cells place y) (set marks place true))) (sym is)
      (picks value reduce.Min cells marks place held y (number_of (value v)) (λ a b e same. same) (λ a e same. same) in_cells in_marks is_held first (λ m. sym (more m)))

  by_and : r ≡ reduce.And → AddsOne r (picked value cells marks) (place, number_of (value v)) (picked value (set cells place y) (set marks place true))
  by_and is = subst (λ s. AddsOne s (picked value cells marks) (place, number_of (value v)) (picked value (set cells place y) (set marks place true))) (sym is)
      (picks value reduce.And cells marks place held y (number_of (value v)) (λ a b e same. same) (λ a e same. same) in_cells in_marks is_held first (λ m. sym (more m)))

pub greatest : {T : Type 0} (value : T → Value) (r : Reduce) (cells : List T) (marks : List Bool) (place : ℕ) (held y v : T) → (r ≡ reduce.Max) ⊎ (r ≡ reduce.Or) →
    place < length cells → place < length marks → held ≡ get_or cells place held →
    (get_or marks place false ≡ false → number_of (value y) ≡ number_of (value v)) →
    (get_or marks place false ≡ true → number_of (value y) ≡ int_max (number_of (value v)) (number_of (value held))) →
    AddsOne r (picked value cells marks) (place, number_of (value v)) (picked value (set cells place y) (set marks place true))
greatest value r cells marks place held y v serves in_cells in_marks is_held first more = ⊎_elim by_max by_or serves where
  by_max : r ≡ reduce.Max → AddsOne r (picked value cells marks) (place, number_of (value v)) (picked value (set cells place y) (set marks place true))
  by_max is = subst (λ s. AddsOne s (picked value cells marks) (place, number_of (value v)) (picked value (set cells place y) (set marks place true))) (sym is)
      (picks value reduce.Max cells marks place held y (number_of (value v)) (λ a b e same. same) (λ a e same. same) in_cells in_marks is_held first (λ m. sym (more m)))

  by_or : r ≡ reduce.Or → AddsOne r (picked value cells marks) (place, number_of (value v)) (picked value (set cells place y) (set marks place true))
  by_or is = subst (λ s. AddsOne s (picked value cells marks) (place, number_of (value v)) (picked value (set cells place y) (set marks place true))) (sym is)
      (picks value reduce.Or cells marks place held y (number_of (value v)) (λ a b e same. same) (λ a e same. same) in_cells in_marks is_held first (λ m. sym (more m)))
