-- Numbers added to rows of totals one after another.
use Rattle.std.proofs.Common.{◌≡◌, ◌≢◌, ◌<◌, ◌+◌, ℕ, zero, suc, ℤ, Bool, true, false, cond, nat_eq, Option, Some, None, List, [], ◌∷◌, ◌++◌, map, length, take, get_or, refl, sym, ap, subst, ◌∙◌, arith, ⊎_elim}
use Rattle.std.proofs.lemmas.Bool.{cases_eq, eq-eqb, ne_eqb, eqb-true}
use Rattle.std.proofs.Math.Seq.{take-length}
use Rattle.gm_value.specs.declared.reductions.Reduce.{Reduce}
use Rattle.gm_value.specs.declared.totals.Total.{Total}
use Rattle.gm_machine.specs.Combining.{more_exact}
use Rattle.gm_combine.specs.Totals.{ShowsTotal, more_at, all_at}
use Rattle.gm_combine.specs.Folds.{placed, AddsOne, AddsAll}

-- one more number with its place
placed-snoc : (places : List ℕ) (numbers : List ℤ) (place : ℕ) (number : ℤ) → length places ≡ length numbers →
    placed (places ++ place ∷ []) (numbers ++ number ∷ []) ≡ placed places numbers ++ (place, number) ∷ []
placed-snoc [] [] place number same = refl
placed-snoc [] (n ∷ numbers) place number same = absurd (omega (arith, same))
placed-snoc (p ∷ places) [] place number same = absurd (omega (arith, same))
placed-snoc (p ∷ places) (n ∷ numbers) place number same = ap (λ xs. (p, n) ∷ xs) (placed-snoc places numbers place number (omega (arith, same)))

all_at-append : (r : Reduce) (place : ℕ) (xs ys : List (ℕ × ℤ)) (exact : Option ℤ) → all_at r place (xs ++ ys) exact ≡ all_at r place ys (all_at r place xs exact)
all_at-append r place [] ys exact = refl
all_at-append r place (x ∷ xs) ys exact = all_at-append r place xs ys (more_at r place x exact)

pub adds-none : (r : Reduce) (old : ℕ → Option Total) → AddsAll r old [] old
adds-none r old = λ place exact shown. shown

pub adds-then : (r : Reduce) (old mid new : ℕ → Option Total) (xs : List (ℕ × ℤ)) (x : ℕ × ℤ) → AddsAll r old xs mid → AddsOne r mid x new → AddsAll r old (xs ++ x ∷ []) new
adds-then r old mid new xs x all one = λ place exact shown.
    subst (λ e. ShowsTotal r (new place) e) (sym (all_at-append r place xs (x ∷ []) exact)) (one place (all_at r place xs exact) (all place exact shown))

-- a loop's step: of two rows of the same length one more of each
pub placed-more : {T : Type 0} (f : T → ℤ) (places : List ℕ) (cells : List T) (i p : ℕ) (v : T) → length cells ≡ length places → i < length places → get_or places i p ≡ p → get_or cells i v ≡ v →
    placed (take (suc i) places) (map f (take (suc i) cells)) ≡ placed (take i places) (map f (take i cells)) ++ (p, f v) ∷ []
placed-more f [] cells i p v same here is_p is_v = absurd (omega (arith, here))
placed-more f (q ∷ places) [] i p v same here is_p is_v = absurd (omega (arith, same))
placed-more f (q ∷ places) (w ∷ cells) zero p v same here is_p is_v = rw (is_p, is_v) refl
placed-more f (q ∷ places) (w ∷ cells) (suc i) p v same here is_p is_v = ap (λ xs. (q, f w) ∷ xs) (placed-more f places cells i p v (omega (arith, same)) (omega (arith, here)) is_p is_v)

-- a row takes one number: what it shows there changes, and nothing else
pub adds-one : (r : Reduce) (old new : ℕ → Option Total) (place : ℕ) (z : ℤ) →
    ((n : ℕ) → n ≢ place → new n ≡ old n) →
    ((exact : Option ℤ) → ShowsTotal r (old place) exact → ShowsTotal r (new place) (Some (more_exact r z exact))) →
    AddsOne r old (place, z) new
adds-one r old new place z others here n exact shown = ⊎_elim same differs (cases_eq place n) where
  same : place ≡ n → ShowsTotal r (new n) (more_at r n (place, z) exact)
  same is = subst (λ k. ShowsTotal r (new k) (more_at r k (place, z) exact)) is
      (rw (eq-eqb place place refl) (here exact (subst (λ k. ShowsTotal r (old k) exact) (sym is) shown)))

  differs : (place ≡ n → ⊥) → ShowsTotal r (new n) (more_at r n (place, z) exact)
  differs not = rw (ne_eqb place n not, others n (λ e. not (sym e))) shown

-- at a loop's end all of both rows
pub take-all : {T : Type 0} (f : T → ℤ) (places : List ℕ) (cells : List T) (i : ℕ) → i ≡ length places → length cells ≡ length places →
    placed (take i places) (map f (take i cells)) ≡ placed places (map f cells)
take-all f places cells i is same =
    let all_places : take i places ≡ places = ap (λ n. take n places) is ∙ take-length places in
    let all_cells : take i cells ≡ cells = ap (λ n. take n cells) (is ∙ sym same) ∙ take-length cells in
    rw (all_places, all_cells) refl
