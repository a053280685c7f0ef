-- The total of values is the value to which they are reduced.
use Rattle.std.proofs.Common.{◌≡◌, IsTrue, true, false, ℤ, Some, Result, Ok, Err, IfOk, List, [], ◌∷◌, ◌++◌, refl, sym, ap, subst, ◌∙◌, ⊎_elim, if◌then◌else◌}
use Rattle.std.specs.Option.{option_and_then}
use Rattle.std.proofs.lemmas.Bool.{cases_Bool}
use Rattle.gm_value.specs.declared.values.VType.{VType}
use Rattle.gm_value.specs.declared.values.Value.{Value}
use Rattle.gm_value.specs.declared.faults.FaultKind.{FaultKind}
use Rattle.gm_value.specs.declared.faults.FaultKind.TheVariants.{Overflow}
use Rattle.gm_value.specs.declared.reductions.Reduce.{Reduce}
use Rattle.gm_value.specs.declared.reductions.Reduce.TheVariants.{Sum, Product, Min, Max, And, Or}
use Rattle.gm_value.specs.Laws.{HasUnit}
use Rattle.gm_value.specs.Numbers.{type_of, number_of, value_at, fits, checked, IsOf}
use Rattle.gm_value.specs.Reductions.{combined, unit_of, total}
use Rattle.gm_value.proofs.MonoidLaws.{combined_assoc, combined_comm, combined_exchange}
use Rattle.gm_value.proofs.NumberLaws.{type_of-value_at, number_of-value_at, checked-typed}
use Rattle.gm_kernels.specs.Folding.{folded_all}
use Rattle.gm_kernels.specs.Pointwise.{given}
use Rattle.gm_put_totals.specs.PutTotals.{total_type}

-- a total of values, of which a unit leaves the first as it is, combined with more
pub total-joined : (r : Reduce) (t u : VType) (v : Value) (vs bag : List Value) → combined r (unit_of r t) (number_of v) ≡ number_of v →
    total r u (v ∷ (vs ++ bag)) ≡ combined r (total r t (v ∷ vs)) (total r u bag)
total-joined r t u v [] bag unit = ap (λ z. combined r z (total r u bag)) (sym (combined_comm r (number_of v) (unit_of r t) ∙ unit))
total-joined r t u v (x ∷ vs) bag unit =
    combined_exchange r (number_of v) (number_of x) (total r u (vs ++ bag))
    ∙ ap (combined r (number_of x)) (total-joined r t u v vs bag unit)
    ∙ sym (combined_assoc r (number_of x) (total r t (v ∷ vs)) (total r u bag))
    ∙ ap (λ z. combined r z (total r u bag)) (combined_exchange r (number_of x) (number_of v) (total r t vs))

-- a checked number is the value's
checked-number : (t : VType) (z : ℤ) (v : Value) → checked t z ≡ Ok v → number_of v ≡ z
checked-number t z v is =
    ⊎_elim
    (λ (inside : fits t z ≡ true).
    let there : Ok v ≡ Ok (value_at t z) = sym is ∙ ap (λ b. if b then Ok (value_at t z) else Err Overflow) inside in
    let same : v ≡ value_at t z = cc in
    ap number_of same ∙ number_of-value_at t z inside)
    (λ (outside : fits t z ≡ false).
    let there : Ok v ≡ Err Overflow = sym is ∙ ap (λ b. if b then Ok (value_at t z) else Err Overflow) outside in cc)
    (cases_Bool (fits t z))

module _ (units : (r : Reduce) → HasUnit r) where
  -- values folded into a held one come to it with their total
  total-folded : (r : Reduce) (t : VType) (held : Value) (vs : List Value) (w : Value) → IsOf t held → folded_all r held vs ≡ Some w →
      number_of w ≡ combined r (number_of held) (total r t vs)
  total-folded r t held [] w of is =
      let same : held ≡ w = cc in
      sym (combined_comm r (number_of held) (unit_of r t) ∙ (units r t).1 (number_of held) of.1 ∙ ap number_of same)
  total-folded r t held (v ∷ vs) w of is = step (λ next of goes. total-folded r t next vs w of goes) (checked (type_of held) (combined r (number_of held) (number_of v))) refl is where
    step : ((next : Value) → IsOf t next → folded_all r next vs ≡ Some w → number_of w ≡ combined r (number_of next) (total r t vs)) →
        (e : Result Value FaultKind) → checked (type_of held) (combined r (number_of held) (number_of v)) ≡ e → option_and_then (λ next. folded_all r next vs) (given e) ≡ Some w →
        number_of w ≡ combined r (number_of held) (combined r (number_of v) (total r t vs))
    step rest (Ok next) found goes =
        let typed : IsOf (type_of held) next = subst (λ e. IfOk e (IsOf (type_of held))) found (checked-typed (type_of held) (combined r (number_of held) (number_of v))) in
        let of_it : IsOf t next = subst (λ u. IsOf u next) of.0 typed in
        rest next of_it goes
        ∙ ap (λ z. combined r z (total r t vs)) (checked-number (type_of held) (combined r (number_of held) (number_of v)) next found)
        ∙ combined_assoc r (number_of held) (number_of v) (total r t vs)
    step rest (Err kind) found goes = cc

  -- a unit leaves each value of the type as it is, in the type of the total
  pub unit-leaves : (r : Reduce) (t : VType) (v : Value) → IsOf t v → combined r (unit_of r (total_type r t)) (number_of v) ≡ number_of v
  unit-leaves Sum t v of = (units Sum t).1 (number_of v) of.1
  unit-leaves Product t v of = (units Product t).1 (number_of v) of.1
  unit-leaves Min t v of = (units Min t).1 (number_of v) of.1
  unit-leaves Max t v of = (units Max t).1 (number_of v) of.1
  unit-leaves And t v of = (units And t).1 (number_of v) of.1
  unit-leaves Or t v of = (units Or t).1 (number_of v) of.1

  -- values folded into the unit come to their total
  pub total-reduced : (r : Reduce) (t : VType) (v : Value) (vs : List Value) (w : Value) → combined r (unit_of r t) (number_of v) ≡ number_of v →
      folded_all r (value_at t (unit_of r t)) (v ∷ vs) ≡ Some w → number_of w ≡ total r t (v ∷ vs)
  total-reduced r t v vs w unit is =
      let inside : IsTrue (fits t (unit_of r t)) = (units r t).0 in
      let number : number_of (value_at t (unit_of r t)) ≡ unit_of r t = number_of-value_at t (unit_of r t) inside in
      let first : IsOf t (value_at t (unit_of r t)) = (type_of-value_at t (unit_of r t), subst (λ n. IsTrue (fits t n)) (sym number) inside) in
      total-folded r t (value_at t (unit_of r t)) (v ∷ vs) w first is
      ∙ ap (λ z. combined r z (total r t (v ∷ vs))) number
      ∙ sym (combined_assoc r (unit_of r t) (number_of v) (total r t vs))
      ∙ ap (λ z. combined r z (total r t vs)) unit
