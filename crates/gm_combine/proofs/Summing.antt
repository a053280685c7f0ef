-- Rows of sums take one more number.
use Rattle.std.proofs.Common.{◌≡◌, ◌≢◌, ◌<◌, ◌≤◌, ◌+◌, ◌*◌, ◌^◌, ℕ, zero, suc, ℤ, pos, ◌+ℤ◌, ◌*ℤ◌, Bool, true, false, cond, nat_eq, Option, Some, None, List, [], ◌∷◌, map, length, set, get_or, refl, sym, ap, subst, ◌∙◌, arith, ⊎_elim, FitsSigned}
use mir.Syntax.{w64}
use Rattle.std.specs.Prelude.{unsigned_abs}
use Rattle.std.proofs.lemmas.Bool.{cases_eq}
use Rattle.std.proofs.lemmas.Int.{ints, unsigned_abs-mul}
use Rattle.std.proofs.lemmas.List.{get_or-set_same, get_or-set_other, length-set}
use Rattle.gm_value.specs.declared.reductions.Reduce.{Reduce}
use Rattle.gm_value.specs.declared.reductions.Reduce.TheVariants as reduce
use Rattle.gm_value.specs.declared.totals.Total.{Total}
use Rattle.gm_value.specs.declared.totals.Total.TheVariants.{Sum}
use Rattle.gm_value.specs.Totals.{HasRoom}
use Rattle.gm_value.proofs.NumberLaws.{abs-add}
use Rattle.gm_machine.specs.Combining.{more_exact}
use Rattle.gm_combine.specs.Totals.{ShowsTotal}
use Rattle.gm_combine.specs.Folds.{AddsOne}
use Rattle.gm_combine.specs.Cells.{marked, sum_of, summed, AreSums}
use Rattle.gm_combine.proofs.Adding.{adds-one}
use Rattle.gm_combine.proofs.Picking.{marked-here, marked-elsewhere}

abbrev carry : ℤ
carry = pos 18446744073709551616

-- a carry adds its part
carried-more : (c d : ℤ) → (c +ℤ d) *ℤ carry ≡ c *ℤ carry +ℤ d *ℤ carry
carried-more c d = omega (arith, ints)

-- the sum with one more number
sum-more : (low carried number new c : ℤ) → sum_of new c ≡ number +ℤ low → sum_of new (c +ℤ carried) ≡ number +ℤ sum_of low carried
sum-more low carried number new c is = let more = carried-more c carried in omega (arith, ints, is, more)

none-more : (number new : ℤ) → new ≡ number +ℤ sum_of (pos 0) (pos 0) → new ≡ number
none-more number new is = omega (arith, ints, is)

pub sums-add : (count : ℕ) (low carried : List ℤ) (marks : List Bool) (place : ℕ) (number new c : ℤ) → AreSums count low carried marks → place < length low →
    sum_of new c ≡ number +ℤ get_or low place (pos 0) →
    AddsOne reduce.Sum (summed low carried marks) (place, number) (summed (set low place new) (set carried place (c +ℤ get_or carried place (pos 0))) (set marks place true))
sums-add count low carried marks place number new c are in_low is = adds-one reduce.Sum (summed low carried marks) (summed low' carried' (set marks place true)) place number others here where
  low' : List ℤ
  low' = set low place new

  carried' : List ℤ
  carried' = set carried place (c +ℤ get_or carried place (pos 0))

  in_carried : place < length carried
  in_carried = omega (arith, are.as_many, in_low)

  in_marks : place < length marks
  in_marks = omega (arith, are.as_marked, in_low)

  others : (n : ℕ) → n ≢ place → summed low' carried' (set marks place true) n ≡ summed low carried marks n
  others n differs = marked-elsewhere marks place n (Some (Sum (sum_of (get_or low n (pos 0)) (get_or carried n (pos 0))))) (Some (Sum (sum_of (get_or low' n (pos 0)) (get_or carried' n (pos 0))))) differs
      (rw (get_or-set_other low place n new (pos 0) differs, get_or-set_other carried place n (c +ℤ get_or carried place (pos 0)) (pos 0) differs) refl)

  after : summed low' carried' (set marks place true) place ≡ Some (Sum (sum_of new (c +ℤ get_or carried place (pos 0))))
  after = marked-here marks place (Some (Sum (sum_of (get_or low' place (pos 0)) (get_or carried' place (pos 0))))) in_marks
      ∙ rw (get_or-set_same low place new (pos 0) in_low, get_or-set_same carried place (c +ℤ get_or carried place (pos 0)) (pos 0) in_carried) refl

  total : sum_of new (c +ℤ get_or carried place (pos 0)) ≡ number +ℤ sum_of (get_or low place (pos 0)) (get_or carried place (pos 0))
  total = sum-more (get_or low place (pos 0)) (get_or carried place (pos 0)) number new c is

  by : (b : Bool) → get_or marks place false ≡ b → (exact : Option ℤ) → ShowsTotal reduce.Sum (cond b (Some (Sum (sum_of (get_or low place (pos 0)) (get_or carried place (pos 0))))) None) exact →
      sum_of new (c +ℤ get_or carried place (pos 0)) ≡ more_exact reduce.Sum number exact
  by false unmarked None shown =
      let l = are.low_none place unmarked in
      let k = are.carried_none place unmarked in
      none-more number (sum_of new (c +ℤ get_or carried place (pos 0))) (subst (λ x. sum_of new (c +ℤ get_or carried place (pos 0)) ≡ number +ℤ sum_of x (pos 0)) l
      (subst (λ x. sum_of new (c +ℤ get_or carried place (pos 0)) ≡ number +ℤ sum_of (get_or low place (pos 0)) x) k total))
  by false unmarked (Some e) shown = absurd shown
  by true is_marked None shown = absurd shown
  by true is_marked (Some e) shown = total ∙ ap (λ x. number +ℤ x) shown

  here : (exact : Option ℤ) → ShowsTotal reduce.Sum (summed low carried marks place) exact → ShowsTotal reduce.Sum (summed low' carried' (set marks place true) place) (Some (more_exact reduce.Sum number exact))
  here exact shown = subst (λ t. ShowsTotal reduce.Sum t (Some (more_exact reduce.Sum number exact))) (sym after) (by (get_or marks place false) refl exact shown)

pub sums-added : (r : Reduce) → r ≡ reduce.Sum → (count : ℕ) (low carried low' carried' : List ℤ) (marks : List Bool) (place : ℕ) (z number l new c : ℤ) → AreSums count low carried marks → place < length low →
    low' ≡ set low place new → carried' ≡ set carried place (c +ℤ get_or carried place (pos 0)) → number ≡ z → l ≡ get_or low place (pos 0) → sum_of new c ≡ number +ℤ l →
    AddsOne r (summed low carried marks) (place, z) (summed low' carried' (set marks place true))
sums-added r is_sum count low carried low' carried' marks place z number l new c are in_low is_low is_carried is_z is_l is =
    rw (is_sum, is_low, is_carried, ← is_z) (sums-add count low carried marks place number new c are in_low (is ∙ ap (λ x. number +ℤ x) is_l))

pub sums-hold : (count : ℕ) (low carried : List ℤ) (marks : List Bool) (place : ℕ) (new c : ℤ) → AreSums count low carried marks → place < length low → unsigned_abs c ≤ 1 →
    AreSums (count + 1) (set low place new) (set carried place (c +ℤ get_or carried place (pos 0))) (set marks place true)
sums-hold count low carried marks place new c are in_low once = record {
  as_many = length-set carried place (c +ℤ get_or carried place (pos 0)) ∙ are.as_many ∙ sym (length-set low place new);
  as_marked = length-set marks place true ∙ are.as_marked ∙ sym (length-set low place new);
  few = λ n. ⊎_elim (few-here n) (few-other n) (cases_eq n place);
  low_none = λ n none. ⊎_elim (λ is. absurd (marked-not n is none)) (λ differs. get_or-set_other low place n new (pos 0) differs ∙ are.low_none n (sym (get_or-set_other marks place n true false differs) ∙ none)) (cases_eq n place);
  carried_none = λ n none. ⊎_elim (λ is. absurd (marked-not n is none)) (λ differs. get_or-set_other carried place n k (pos 0) differs ∙ are.carried_none n (sym (get_or-set_other marks place n true false differs) ∙ none)) (cases_eq n place);
} where
  k : ℤ
  k = c +ℤ get_or carried place (pos 0)

  in_carried : place < length carried
  in_carried = omega (arith, are.as_many, in_low)

  in_marks : place < length marks
  in_marks = omega (arith, are.as_marked, in_low)

  few-here : (n : ℕ) → n ≡ place → unsigned_abs (get_or (set carried place k) n (pos 0)) ≤ count + 1
  few-here n is =
      let at : get_or (set carried place k) n (pos 0) ≡ k = ap (λ m. get_or (set carried place k) m (pos 0)) is ∙ get_or-set_same carried place k (pos 0) in_carried in
      let near = abs-add c (get_or carried place (pos 0)) 1 count once (are.few place) in
      rw at (omega (arith, near))

  few-other : (n : ℕ) → (n ≡ place → ⊥) → unsigned_abs (get_or (set carried place k) n (pos 0)) ≤ count + 1
  few-other n differs = rw (get_or-set_other carried place n k (pos 0) differs) (let few = are.few n in omega (arith, few))

  marked-not : (n : ℕ) → n ≡ place → get_or (set marks place true) n false ≡ false → ⊥
  marked-not n is none =
      let at : get_or (set marks place true) n false ≡ true = ap (λ m. get_or (set marks place true) m false) is ∙ get_or-set_same marks place true false in_marks in
      absurd (cc (at, none))

pub sums-held : (count : ℕ) (low carried low' carried' : List ℤ) (marks : List Bool) (place : ℕ) (new c : ℤ) → AreSums count low carried marks → place < length low → unsigned_abs c ≤ 1 →
    low' ≡ set low place new → carried' ≡ set carried place (c +ℤ get_or carried place (pos 0)) →
    AreSums (count + 1) low' carried' (set marks place true)
sums-held count low carried low' carried' marks place new c are in_low once is_low is_carried =
    rw (is_low, is_carried) (sums-hold count low carried marks place new c are in_low once)

-- a sum of fewer than 2 ^ 62 numbers has room
pub sum-room : (count : ℕ) (low carried : ℤ) → unsigned_abs low ≤ 9223372036854775808 → unsigned_abs carried ≤ count → count < 4611686018427387904 → unsigned_abs (sum_of low carried) ≤ 2 ^ 126
sum-room count low carried in_low few small =
    let times = unsigned_abs-mul carried carry in
    let near = abs-add low (carried *ℤ carry) 9223372036854775808 (unsigned_abs carried * 18446744073709551616) in_low (omega (arith, times)) in
    omega (arith, near, few, small)

pub abs-near : (z : ℤ) → FitsSigned w64 z → unsigned_abs z ≤ 9223372036854775808
abs-near z fits = omega (arith, ints, fits)
