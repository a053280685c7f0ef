-- Operations, reductions and closings give values of their types, and nodes below a limit where they had such.
use Rattle.std.proofs.Common.{◌≡◌, ◌<◌, ℕ, zero, suc, Bool, true, false, cond, not, List, [], ◌∷◌, map, refl, sym, subst, arith, ℤ, pos, negsuc, Option, Some, None, Result, Ok, Err, IfOk}
use Rattle.std.specs.Prelude.{neg_ℤ, nat_eq, IfSome, IsTrue, if◌then◌else◌, int_lt}
use Rattle.std.specs.Int.{int_max}
use Rattle.std.proofs.lemmas.Bool.{both_ways}
use Rattle.gm_value.specs.declared.values.VType.{VType}
use Rattle.gm_value.specs.declared.values.VType.TheVariants as V
use Rattle.gm_value.specs.declared.values.Value.{Value}
use Rattle.gm_value.specs.declared.values.Value.TheVariants.{I32, I64, Flag, At}
use Rattle.gm_value.specs.declared.faults.FaultKind.{FaultKind}
use Rattle.gm_value.specs.declared.faults.FaultKind.TheVariants.{Overflow}
use Rattle.gm_value.specs.declared.operations.Op1.{Op1}
use Rattle.gm_value.specs.declared.operations.Op1.TheVariants.{Neg, Not, ToI32, ToI64}
use Rattle.gm_value.specs.declared.operations.Op2.{Op2}
use Rattle.gm_value.specs.declared.operations.Op2.TheVariants.{Add, Sub, Mul, Div, Rem, Eq, Ne, Lt, Le, Gt, Ge}
use Rattle.gm_value.specs.declared.reductions.Reduce.{Reduce}
use Rattle.gm_value.specs.declared.reductions.Reduce.TheVariants.{Sum, Product, Min, Max, And, Or}
use Rattle.gm_value.specs.Numbers.{type_of, number_of, value_at, fits, checked, zero_of, IsOf}
use Rattle.gm_value.specs.Operations.{is_true, is_numeric, same_type, both_numeric, fits1, fits2, type1, type2, result1, result2}
use Rattle.gm_value.specs.Reductions.{combined, unit_of, total, close, reduces}
use Rattle.gm_value.specs.Tuples.{replaces, best, with_value, values_at, first_or, close_slots}
use Rattle.gm_value.specs.Taking.{of_rank, then_take, at_rank, taken_bag, taken}
use Rattle.gm_value.proofs.NumberLaws.{checked-typed, flag-typed, result2-typed}
use Rattle.gm_typed_stores.specs.Values.{NodeBelow, IsValue, AreValues, Each}
use Rattle.gm_typed_stores.specs.Stores.{Reduces}
use Rattle.gm_typed_stores.proofs.Eaches.{each-map, each-weaker, each-filter}

pub same_type-true : (t u : VType) → same_type t u ≡ true → t ≡ u
same_type-true V.I32 V.I32 h = refl
same_type-true V.I64 V.I64 h = refl
same_type-true V.Flag V.Flag h = refl
same_type-true V.Node V.Node h = refl
same_type-true V.I32 V.I64 h = absurd (both_ways false refl h)
same_type-true V.I32 V.Flag h = absurd (both_ways false refl h)
same_type-true V.I32 V.Node h = absurd (both_ways false refl h)
same_type-true V.I64 V.I32 h = absurd (both_ways false refl h)
same_type-true V.I64 V.Flag h = absurd (both_ways false refl h)
same_type-true V.I64 V.Node h = absurd (both_ways false refl h)
same_type-true V.Flag V.I32 h = absurd (both_ways false refl h)
same_type-true V.Flag V.I64 h = absurd (both_ways false refl h)
same_type-true V.Flag V.Node h = absurd (both_ways false refl h)
same_type-true V.Node V.I32 h = absurd (both_ways false refl h)
same_type-true V.Node V.I64 h = absurd (both_ways false refl h)
same_type-true V.Node V.Flag h = absurd (both_ways false refl h)

numeric-plain : (t : VType) → is_numeric t ≡ true → same_type V.Node t ≡ false
numeric-plain V.I32 h = refl
numeric-plain V.I64 h = refl
numeric-plain V.Flag h = refl
numeric-plain V.Node h = absurd (both_ways false refl h)

both-numeric : (t u : VType) → both_numeric t u ≡ true → is_numeric t ≡ true
both-numeric t u h = by (same_type t u) h
  where
    by : (b : Bool) → (if b then is_numeric t else false) ≡ true → is_numeric t ≡ true
    by true h = h
    by false h = absurd (both_ways false refl h)

module _ (limit : ℕ) where
  -- a number of a type: that of a node is below the limit
  abbrev pub NumberBelow : VType → ℤ → Type 0
  NumberBelow V.Node (pos k) = k < limit
  NumberBelow V.Node (negsuc k) = Unit {0}
  NumberBelow V.I32 z = Unit {0}
  NumberBelow V.I64 z = Unit {0}
  NumberBelow V.Flag z = Unit {0}

  number-below : (v : Value) → NodeBelow limit v → NumberBelow (type_of v) (number_of v)
  number-below (I32 z) h = tt
  number-below (I64 z) h = tt
  number-below (Flag b) h = tt
  number-below (At None) h = tt
  number-below (At (Some k)) h = h

  below-number : (t : VType) (z : ℤ) → NumberBelow t z → NodeBelow limit (value_at t z)
  below-number V.I32 z h = tt
  below-number V.I64 z h = tt
  below-number V.Flag z h = tt
  below-number V.Node (pos k) h = h
  below-number V.Node (negsuc k) h = tt

  pub value-number : (t : VType) (v : Value) → IsValue limit t v → NumberBelow t (number_of v)
  value-number t v h = subst (λ (u : VType). NumberBelow u (number_of v)) h.of_type.0 (number-below v h.below)

  pub checked-value : (t : VType) (z : ℤ) → NumberBelow t z → IfOk (checked t z) (IsValue limit t)
  checked-value t z below = by (fits t z) (checked-typed t z)
    where
      by : (b : Bool) → IfOk (if b then Ok (value_at t z) else Err Overflow) (IsOf t) → IfOk (if b then Ok (value_at t z) else Err Overflow) (IsValue limit t)
      by true h = record { of_type = h; below = below-number t z below }
      by false h = tt

  below-plain : (v : Value) → same_type V.Node (type_of v) ≡ false → NodeBelow limit v
  below-plain (I32 z) h = tt
  below-plain (I64 z) h = tt
  below-plain (Flag b) h = tt
  below-plain (At n) h = absurd (both_ways true h refl)

  pub plain-value : (t : VType) (v : Value) → same_type V.Node t ≡ false → IsOf t v → IsValue limit t v
  plain-value t v e is = record { of_type = is; below = below-plain v (subst (λ (u : VType). same_type V.Node u ≡ false) (sym is.0) e) }

  if-plain : (t : VType) (r : Result Value FaultKind) → same_type V.Node t ≡ false → IfOk r (IsOf t) → IfOk r (IsValue limit t)
  if-plain t (Ok v) e h = plain-value t v e h
  if-plain t (Err k) e h = tt

  pub zero-value : (t : VType) → IsValue limit t (zero_of t)
  zero-value V.I32 = record { of_type = (refl, refl); below = tt }
  zero-value V.I64 = record { of_type = (refl, refl); below = tt }
  zero-value V.Flag = record { of_type = (refl, refl); below = tt }
  zero-value V.Node = record { of_type = (refl, refl); below = tt }

  -- ---- operations

  wider : (t : VType) (z : ℤ) → IsTrue (fits t z) → IsTrue (fits V.I64 z)
  wider V.I32 (pos n) inside = grind arith
  wider V.I32 (negsuc n) inside = grind arith
  wider V.I64 z inside = inside
  wider V.Flag (pos n) inside = grind arith
  wider V.Flag (negsuc n) inside = grind arith
  wider V.Node (pos n) inside = grind arith
  wider V.Node (negsuc n) inside = grind arith

  one-own : (op : Op1) (v : Value) → fits1 op (type_of v) ≡ true → IsTrue (fits (type_of v) (number_of v)) → IfOk (result1 op v) (IsValue limit (type1 op (type_of v)))
  one-own Neg v h is = if-plain (type_of v) (checked (type_of v) (neg_ℤ (number_of v))) (numeric-plain (type_of v) h) (checked-typed (type_of v) (neg_ℤ (number_of v)))
  one-own Not v h is = plain-value V.Flag (Flag (not (is_true v))) refl (flag-typed (not (is_true v)))
  one-own ToI32 v h is = if-plain V.I32 (checked V.I32 (number_of v)) refl (checked-typed V.I32 (number_of v))
  one-own ToI64 v h is = plain-value V.I64 (I64 (number_of v)) refl (refl, wider (type_of v) (number_of v) is)

  pub result1-value : (op : Op1) (t : VType) (v : Value) → fits1 op t ≡ true → IsValue limit t v → IfOk (result1 op v) (IsValue limit (type1 op t))
  result1-value op t v h is =
      subst (λ (u : VType). IfOk (result1 op v) (IsValue limit (type1 op u))) is.of_type.0
      (one-own op v (subst (λ (u : VType). fits1 op u ≡ true) (sym is.of_type.0) h) (subst (λ (u : VType). IsTrue (fits u (number_of v))) (sym is.of_type.0) is.of_type.1))

  two-plain : (op : Op2) (t u : VType) → fits2 op t u ≡ true → same_type V.Node (type2 op t) ≡ false
  two-plain Add t u h = numeric-plain t (both-numeric t u h)
  two-plain Sub t u h = numeric-plain t (both-numeric t u h)
  two-plain Mul t u h = numeric-plain t (both-numeric t u h)
  two-plain Div t u h = numeric-plain t (both-numeric t u h)
  two-plain Rem t u h = numeric-plain t (both-numeric t u h)
  two-plain Eq t u h = refl
  two-plain Ne t u h = refl
  two-plain Lt t u h = refl
  two-plain Le t u h = refl
  two-plain Gt t u h = refl
  two-plain Ge t u h = refl

  pub result2-value : (op : Op2) (t u : VType) (a b : Value) → fits2 op t u ≡ true → IsValue limit t a → IfOk (result2 op a b) (IsValue limit (type2 op t))
  result2-value op t u a b h is =
      if-plain (type2 op t) (result2 op a b) (two-plain op t u h) (subst (λ (k : VType). IfOk (result2 op a b) (IsOf (type2 op k))) is.of_type.0 (result2-typed op a b))

  -- ---- reductions

  abbrev pub NumbersBelow : VType → List Value → Type 0
  NumbersBelow t bag = Each (λ v. NumberBelow t (number_of v)) bag

  max-below : (a b : ℤ) → NumberBelow V.Node a → NumberBelow V.Node b → NumberBelow V.Node (int_max a b)
  max-below a b h k = by (int_lt b a)
    where
      by : (less : Bool) → NumberBelow V.Node (cond less a b)
      by true = h
      by false = k

  combined-below : (r : Reduce) (t : VType) (a b : ℤ) → reduces r t ≡ true → NumberBelow t a → NumberBelow t b → NumberBelow t (combined r a b)
  combined-below r V.I32 a b e h k = tt
  combined-below r V.I64 a b e h k = tt
  combined-below r V.Flag a b e h k = tt
  combined-below Sum V.Node a b e h k = absurd (both_ways false refl e)
  combined-below Product V.Node a b e h k = absurd (both_ways false refl e)
  combined-below Min V.Node a b e h k = absurd (both_ways false refl e)
  combined-below Max V.Node a b e h k = max-below a b h k
  combined-below And V.Node a b e h k = absurd (both_ways false refl e)
  combined-below Or V.Node a b e h k = absurd (both_ways false refl e)

  unit-below : (r : Reduce) (t : VType) → reduces r t ≡ true → NumberBelow t (unit_of r t)
  unit-below r V.I32 e = tt
  unit-below r V.I64 e = tt
  unit-below r V.Flag e = tt
  unit-below Sum V.Node e = absurd (both_ways false refl e)
  unit-below Product V.Node e = absurd (both_ways false refl e)
  unit-below Min V.Node e = absurd (both_ways false refl e)
  unit-below Max V.Node e = tt
  unit-below And V.Node e = absurd (both_ways false refl e)
  unit-below Or V.Node e = absurd (both_ways false refl e)

  -- the number of the value at a unit
  pub held-below : (r : Reduce) (t : VType) → reduces r t ≡ true → NumberBelow t (number_of (value_at t (unit_of r t)))
  held-below r V.I32 e = tt
  held-below r V.I64 e = tt
  held-below r V.Flag e = tt
  held-below Sum V.Node e = absurd (both_ways false refl e)
  held-below Product V.Node e = absurd (both_ways false refl e)
  held-below Min V.Node e = absurd (both_ways false refl e)
  held-below Max V.Node e = tt
  held-below And V.Node e = absurd (both_ways false refl e)
  held-below Or V.Node e = absurd (both_ways false refl e)

  total-below : (r : Reduce) (t : VType) (bag : List Value) → reduces r t ≡ true → NumbersBelow t bag → NumberBelow t (total r t bag)
  total-below r t [] e h = unit-below r t e
  total-below r t (v ∷ bag) e h = combined-below r t (number_of v) (total r t bag) e h.0 (total-below r t bag e h.1)

  pub close-value : (r : Reduce) (t : VType) (held : Value) (bag : List Value) → reduces r t ≡ true → type_of held ≡ t → NumberBelow t (number_of held) → NumbersBelow t bag → IfOk (close r held bag) (IsValue limit t)
  close-value r t held bag e is h each =
      subst (λ (u : VType). IfOk (checked u (combined r (number_of held) (total r u bag))) (IsValue limit t)) (sym is)
      (checked-value t (combined r (number_of held) (total r t bag)) (combined-below r t (number_of held) (total r t bag) e h (total-below r t bag e each)))

  -- ---- tuples

  abbrev AreNumbers : List VType → List ℤ → Type 0
  AreNumbers [] [] = Unit {0}
  AreNumbers [] (z ∷ zs) = ⊥
  AreNumbers (t ∷ ts) [] = ⊥
  AreNumbers (t ∷ ts) (z ∷ zs) = NumberBelow t z × AreNumbers ts zs

  numbers-of : (ts : List VType) (vs : List Value) → AreValues limit ts vs → AreNumbers ts (map number_of vs)
  numbers-of [] [] h = tt
  numbers-of [] (v ∷ vs) h = absurd h
  numbers-of (t ∷ ts) [] h = absurd h
  numbers-of (t ∷ ts) (v ∷ vs) h = (value-number t v h.0, numbers-of ts vs h.1)

  best-numbers : (r : Reduce) (ts : List VType) (held : List ℤ) (tuples : List (List ℤ)) → AreNumbers ts held → Each (AreNumbers ts) tuples → AreNumbers ts (best r held tuples)
  best-numbers r ts held [] h each = h
  best-numbers r ts held (new ∷ tuples) h each = by (replaces r (best r held tuples) new) (best-numbers r ts held tuples h each.1)
    where
      by : (b : Bool) → AreNumbers ts (best r held tuples) → AreNumbers ts (cond b new (best r held tuples))
      by true rest = each.0
      by false rest = rest

  with_value-values : (t : VType) (ts : List VType) (r : Result Value FaultKind) (o : Option (List Value)) → IfOk r (IsValue limit t) → IfSome o (AreValues limit ts) → IfSome (with_value r o) (AreValues limit (t ∷ ts))
  with_value-values t ts (Ok v) (Some vs) h k = (h, k)
  with_value-values t ts (Ok v) None h k = tt
  with_value-values t ts (Err e) o h k = tt

  values_at-values : (ts : List VType) (held : List Value) (tuple : List ℤ) → AreValues limit ts held → AreNumbers ts tuple → IfSome (values_at held tuple) (AreValues limit ts)
  values_at-values [] [] tuple h k = tt
  values_at-values [] (v ∷ held) tuple h k = absurd h
  values_at-values (t ∷ ts) [] tuple h k = absurd h
  values_at-values (t ∷ ts) (v ∷ held) [] h k = absurd k
  values_at-values (t ∷ ts) (v ∷ held) (z ∷ tuple) h k =
      with_value-values t ts (checked (type_of v) z) (values_at held tuple)
      (subst (λ (u : VType). IfOk (checked u z) (IsValue limit t)) (sym h.0.of_type.0) (checked-value t z k.0))
      (values_at-values ts held tuple h.1 k.1)

  first-number : (t : VType) (held : Value) (vs : List Value) → AreValues limit (t ∷ []) vs → NumberBelow t (number_of (first_or held vs))
  first-number t held [] h = absurd h
  first-number t held (v ∷ vs) h = value-number t v h.0

  -- the slots of a target keep their types where values of them are taken
  pub close_slots-values : (r : Reduce) (ts : List VType) (held : List Value) (bag : List (List Value)) → Reduces r ts → AreValues limit ts held → Each (AreValues limit ts) bag → IfSome (close_slots r held bag) (AreValues limit ts)
  close_slots-values r [] [] bag e h each = tt
  close_slots-values r [] (v ∷ held) bag e h each = absurd h
  close_slots-values r (t ∷ ts) [] bag e h each = absurd h
  close_slots-values r (t ∷ []) (v ∷ []) bag e h each =
      with_value-values t [] (close r v (map (first_or v) bag)) (Some [])
      (close-value r t v (map (first_or v) bag) e h.0.of_type.0 (value-number t v h.0)
      (each-map (λ (u : Value). NumberBelow t (number_of u)) (first_or v) bag
      (each-weaker (AreValues limit (t ∷ [])) (λ (vs : List Value). NumberBelow t (number_of (first_or v vs))) bag (λ vs g. first-number t v vs g) each))) tt
  close_slots-values r (t ∷ []) (v ∷ (u ∷ held)) bag e h each = absurd h.1
  close_slots-values r (t ∷ (s ∷ ts)) (v ∷ []) bag e h each = absurd h.1
  close_slots-values r (t ∷ (s ∷ ts)) (v ∷ (u ∷ held)) bag e h each =
      values_at-values (t ∷ (s ∷ ts)) (v ∷ (u ∷ held)) (best r (map number_of (v ∷ (u ∷ held))) (map (map number_of) bag)) h
      (best-numbers r (t ∷ (s ∷ ts)) (map number_of (v ∷ (u ∷ held))) (map (map number_of) bag) (numbers-of (t ∷ (s ∷ ts)) (v ∷ (u ∷ held)) h)
      (each-map (AreNumbers (t ∷ (s ∷ ts))) (map number_of) bag
      (each-weaker (AreValues limit (t ∷ (s ∷ ts))) (λ (vs : List Value). AreNumbers (t ∷ (s ∷ ts)) (map number_of vs)) bag (λ vs g. numbers-of (t ∷ (s ∷ ts)) vs g) each)))

-- ---- taking

module _ {C V : Type 0} (rank : C → ℕ) (close : V → List C → Option V) (P : V → Type 0) (Q : C → Type 0)
    (closes : (held : V) (c : C) (bag : List C) → P held → Each Q (c ∷ bag) → IfSome (close held (c ∷ bag)) P) where
  at_rank-keeps : (s : ℕ) (o : Option V) → IfSome o P → IfOk (at_rank s o) P
  at_rank-keeps s (Some v) h = h
  at_rank-keeps s None h = tt

  bag-keeps : (s : ℕ) (held : V) (bag : List C) → P held → Each Q bag → IfOk (taken_bag close s held bag) P
  bag-keeps s held [] h each = h
  bag-keeps s held (c ∷ bag) h each = at_rank-keeps s (close held (c ∷ bag)) (closes held c bag h each)

  then-keeps : (r : Result V ℕ) (f : V → Result V ℕ) → IfOk r P → ((v : V) → P v → IfOk (f v) P) → IfOk (then_take r f) P
  then-keeps (Ok v) f h k = k v h
  then-keeps (Err s) f h k = tt

  -- what holds of the held value holds after a taking
  pub taken-keeps : (bound : ℕ) (held : V) (cs : List C) → P held → Each Q cs → IfOk (taken rank close bound held cs) P
  taken-keeps zero held cs h each = h
  taken-keeps (suc s) held cs h each =
      then-keeps (taken rank close s held cs) (λ v. taken_bag close s v (of_rank rank s cs)) (taken-keeps s held cs h each)
      (λ v k. bag-keeps s v (of_rank rank s cs) k
      (each-weaker (λ c. Q c × (nat_eq (rank c) s ≡ true)) Q (of_rank rank s cs) (λ c g. g.0) (each-filter Q (λ c. nat_eq (rank c) s) cs each)))
