-- Which tuple an argument reduction keeps does not depend on the order.
use Rattle.std.proofs.Common.{◌≡◌, ◌≢◌, ◌≤◌, IsTrue, length, Bool, true, false, not, ◌&&◌, ◌||◌, cond, ℤ, Option, Some, None, Result, Ok, Err, IfOk, List, [], ◌∷◌, map, refl, sym, ap, subst, ◌∙◌, arith}
use Rattle.std.specs.Prelude.{int_lt}
use Rattle.std.proofs.lemmas.Int.{ints}
use Rattle.gm_value.specs.declared.reductions.Reduce.{Reduce}
use Rattle.gm_value.specs.declared.reductions.Reduce.TheVariants.{Sum, Product, Min, Max, And, Or}
use Rattle.gm_value.specs.declared.values.VType.{VType}
use Rattle.gm_value.specs.declared.values.Value.{Value}
use Rattle.gm_value.specs.declared.faults.FaultKind.{FaultKind}
use Rattle.gm_value.specs.Numbers.{type_of, number_of, fits, checked, IsOf}
use Rattle.gm_value.specs.Reductions.{combined, total, close}
use Rattle.gm_value.specs.Tuples.{is_before, is_above, replaces, kept, best, with_value, values_at, first_or, close_slots}
use Rattle.gm_value.specs.Bag.{SameBag}
use Rattle.gm_value.specs.Laws.{AreOf, EachAreOf}
use Rattle.gm_value.proofs.BagLaws.{SameBag-folded, SameBag-map}
use Rattle.gm_value.proofs.MonoidLaws.{close-permuted}
use Rattle.gm_value.proofs.NumberLaws.{checked-typed}

lt-asym : (x y : ℤ) → int_lt x y ≡ true → int_lt y x ≡ false
lt-asym x y l = by (int_lt y x) refl
  where
    by : (b : Bool) → int_lt y x ≡ b → b ≡ false
    by true m = let never : 1 ≤ 0 = omega (arith, ints) in grind arith
    by false m = refl

lt-trans : (x y z : ℤ) → int_lt x y ≡ true → int_lt y z ≡ true → int_lt x z ≡ true
lt-trans x y z l m = by (int_lt x z) refl
  where
    by : (b : Bool) → int_lt x z ≡ b → b ≡ true
    by true k = refl
    by false k = let never : 1 ≤ 0 = omega (arith, ints) in grind arith

lt-eq : (x y : ℤ) → int_lt x y ≡ false → int_lt y x ≡ false → x ≡ y
lt-eq x y l m = omega (arith, ints)

-- a strict order of all elements
record Orders {A : Type 0} (less : A → A → Bool) : Type 0 where
  asym : (x y : A) → less x y ≡ true → less y x ≡ false
  trans : (x y z : A) → less x y ≡ true → less y z ≡ true → less x z ≡ true
  total : (x y : A) → less x y ≡ false → less y x ≡ false → x ≡ y

-- the lesser of two, the held one where they are equal
abbrev lesser : {A : Type 0} → (A → A → Bool) → A → A → A
lesser less held new = cond (less new held) new held

-- two new ones change places
module _ {A : Type 0} (less : A → A → Bool) (o : Orders less) where
  never : {B : Type 0} → (x y : A) → less x y ≡ true → less x y ≡ false → B
  never x y l m = grind arith

  tied : (x y : A) (p q : Bool) → less x y ≡ p → less y x ≡ q → cond p x y ≡ cond q y x
  tied x y true true l m = never y x m (o.asym x y l)
  tied x y true false l m = refl
  tied x y false true l m = refl
  tied x y false false l m = sym (o.total x y l m)

  -- where one of two is less than a third and the other is not
  passes : (x y b : A) (p : Bool) → less y b ≡ true → less x b ≡ false → less x y ≡ p → cond p x y ≡ y
  passes x y b true l m k = never x b (o.trans x y b k l) m
  passes x y b false l m k = refl

  by : (x y b : A) (p q : Bool) → less y b ≡ p → less x b ≡ q → lesser less (cond p y b) x ≡ lesser less (cond q x b) y
  by x y b true true l m = tied x y (less x y) (less y x) refl refl
  by x y b true false l m = passes x y b (less x y) l m refl ∙ ap (λ t. cond t y b) (sym l)
  by x y b false true l m = ap (λ t. cond t x b) m ∙ sym (passes y x b (less y x) m l refl)
  by x y b false false l m = ap (λ t. cond t x b) m ∙ ap (λ t. cond t y b) (sym l)

  -- what is not less than two others is not less than the lesser of them
  stays : (x y b : A) (r s : Bool) → less x b ≡ false → less y x ≡ false → less y b ≡ r → less x y ≡ s → cond r y b ≡ b
  stays x y b true true k l m n = never x b (o.trans x y b n m) k
  stays x y b true false k l m n = never x b (rw (o.total x y n l) m) k
  stays x y b false s k l m n = refl

  parts-by : (x y b : A) (p q : Bool) → less x b ≡ p → less y x ≡ q → lesser less (cond p x b) y ≡ lesser less b (cond q y x)
  parts-by x y b true true l m = ap (λ t. cond t y x) m ∙ ap (λ t. cond t y b) (sym (o.trans y x b m l))
  parts-by x y b true false l m = ap (λ t. cond t y x) m ∙ ap (λ t. cond t x b) (sym l)
  parts-by x y b false true l m = refl
  parts-by x y b false false l m = stays x y b (less y b) (less x y) l m refl refl ∙ ap (λ t. cond t x b) (sym l)

  lesser-parts : (b x y : A) → lesser less (lesser less b x) y ≡ lesser less b (lesser less x y)
  lesser-parts b x y = parts-by x y b (less x b) (less y x) refl refl

  lesser-exchange : (x y b : A) → lesser less (lesser less b y) x ≡ lesser less (lesser less b x) y
  lesser-exchange x y b = by x y b (less y b) (less x b) refl refl

-- entries first, then the rest
module _ (x y : ℤ) where
  asym-by : (p q r s : Bool) → int_lt x y ≡ p → int_lt y x ≡ q → (r ≡ true → s ≡ false) → (p || (not q && r)) ≡ true → (q || (not p && s)) ≡ false
  asym-by true true r s a b rest l = sym b ∙ lt-asym x y a
  asym-by true false r s a b rest l = refl
  asym-by false true r s a b rest l = sym l
  asym-by false false r s a b rest l = rest l

  total-by : (p q r s : Bool) → int_lt x y ≡ p → int_lt y x ≡ q → (p || (not q && r)) ≡ false → (q || (not p && s)) ≡ false → (x ≡ y) × ((r ≡ false) × (s ≡ false))
  total-by true q r s a b l m = grind arith
  total-by false true r s a b l m = grind arith
  total-by false false r s a b l m = (lt-eq x y a b, (l, m))

  trans-by : (z : ℤ) (p q p' q' r s t : Bool) → int_lt x y ≡ p → int_lt y x ≡ q → int_lt y z ≡ p' → int_lt z y ≡ q' → (r ≡ true → s ≡ true → t ≡ true) → (p || (not q && r)) ≡ true → (p' || (not q' && s)) ≡ true → (int_lt x z || (not (int_lt z x) && t)) ≡ true
  trans-by z true q true q' r s t a b c d rest l m = rw (lt-trans x y z a c) refl
  trans-by z true q false true r s t a b c d rest l m = grind arith
  trans-by z true q false false r s t a b c d rest l m = rw (sym (lt-eq y z c d)) (rw a refl)
  trans-by z false true p' q' r s t a b c d rest l m = grind arith
  trans-by z false false true q' r s t a b c d rest l m = rw (lt-eq x y a b) (rw c refl)
  trans-by z false false false true r s t a b c d rest l m = grind arith
  trans-by z false false false false r s t a b c d rest l m =
      rw (sym (lt-eq y z c d)) (rw a (rw b (rest l m)))

-- tuples are in order
before-asym : (xs ys : List ℤ) → is_before xs ys ≡ true → is_before ys xs ≡ false
before-asym xs [] l = grind arith
before-asym [] (y ∷ ys) l = refl
before-asym (x ∷ xs) (y ∷ ys) l = asym-by x y (int_lt x y) (int_lt y x) (is_before xs ys) (is_before ys xs) refl refl (before-asym xs ys) l

before-trans : (xs ys zs : List ℤ) → is_before xs ys ≡ true → is_before ys zs ≡ true → is_before xs zs ≡ true
before-trans xs [] zs l m = grind arith
before-trans xs (y ∷ ys) [] l m = grind arith
before-trans [] (y ∷ ys) (z ∷ zs) l m = refl
before-trans (x ∷ xs) (y ∷ ys) (z ∷ zs) l m =
    trans-by x y z (int_lt x y) (int_lt y x) (int_lt y z) (int_lt z y) (is_before xs ys) (is_before ys zs) (is_before xs zs) refl refl refl refl (before-trans xs ys zs) l m

before-total : (xs ys : List ℤ) → is_before xs ys ≡ false → is_before ys xs ≡ false → xs ≡ ys
before-total [] [] l m = refl
before-total [] (y ∷ ys) l m = grind arith
before-total (x ∷ xs) [] l m = grind arith
before-total (x ∷ xs) (y ∷ ys) l m =
    let e : (x ≡ y) × ((is_before xs ys ≡ false) × (is_before ys xs ≡ false)) = total-by x y (int_lt x y) (int_lt y x) (is_before xs ys) (is_before ys xs) refl refl l m in
    rw e.0 (ap (λ t. y ∷ t) (before-total xs ys e.1.0 e.1.1))

before-orders : Orders is_before
before-orders = record { asym = before-asym; trans = before-trans; total = before-total }

-- and so are they by the greatest first entry
above-asym : (xs ys : List ℤ) → is_above xs ys ≡ true → is_above ys xs ≡ false
above-asym [] ys l = above-nil-asym ys l
  where
    above-nil-asym : (ys : List ℤ) → is_above [] ys ≡ true → is_above ys [] ≡ false
    above-nil-asym [] l = refl
    above-nil-asym (y ∷ ys) l = refl
above-asym (x ∷ xs) [] l = grind arith
above-asym (x ∷ xs) (y ∷ ys) l = asym-by y x (int_lt y x) (int_lt x y) (is_before xs ys) (is_before ys xs) refl refl (before-asym xs ys) l

above-trans : (xs ys zs : List ℤ) → is_above xs ys ≡ true → is_above ys zs ≡ true → is_above xs zs ≡ true
above-trans xs [] zs l m = grind arith
above-trans [] (y ∷ ys) [] l m = grind arith
above-trans (x ∷ xs) (y ∷ ys) [] l m = grind arith
above-trans [] (y ∷ ys) (z ∷ zs) l m = refl
above-trans (x ∷ xs) (y ∷ ys) (z ∷ zs) l m =
    trans-by z y x (int_lt z y) (int_lt y z) (int_lt y x) (int_lt x y) (is_before ys zs) (is_before xs ys) (is_before xs zs) refl refl refl refl (λ a b. before-trans xs ys zs b a) m l

above-total : (xs ys : List ℤ) → is_above xs ys ≡ false → is_above ys xs ≡ false → xs ≡ ys
above-total [] [] l m = refl
above-total [] (y ∷ ys) l m = grind arith
above-total (x ∷ xs) [] l m = grind arith
above-total (x ∷ xs) (y ∷ ys) l m =
    let e : (y ≡ x) × ((is_before xs ys ≡ false) × (is_before ys xs ≡ false)) = total-by y x (int_lt y x) (int_lt x y) (is_before xs ys) (is_before ys xs) refl refl l m in
    rw e.0 (ap (λ t. x ∷ t) (before-total xs ys e.1.0 e.1.1))

above-orders : Orders is_above
above-orders = record { asym = above-asym; trans = above-trans; total = above-total }

-- the kept tuple of all does not depend on their order
best-by : (r : Reduce) (less : List ℤ → List ℤ → Bool) → Orders less → ((held new : List ℤ) → kept r held new ≡ lesser less held new) → (held : List ℤ) {tuples other : List (List ℤ)} → SameBag tuples other → best r held tuples ≡ best r held other
best-by r less o is held same =
    SameBag-folded (best r held) (λ new b. lesser less b new) (λ new tuples. is (best r held tuples) new) (λ x y b. lesser-exchange less o x y b) same

pub best-permuted : (r : Reduce) (held : List ℤ) {tuples other : List (List ℤ)} → SameBag tuples other → best r held tuples ≡ best r held other
best-permuted Max held same = best-by Max is_above above-orders (λ held new. refl) held same
best-permuted Sum held same = best-by Sum is_before before-orders (λ held new. refl) held same
best-permuted Product held same = best-by Product is_before before-orders (λ held new. refl) held same
best-permuted Min held same = best-by Min is_before before-orders (λ held new. refl) held same
best-permuted And held same = best-by And is_before before-orders (λ held new. refl) held same
best-permuted Or held same = best-by Or is_before before-orders (λ held new. refl) held same

-- with three tuples it does not matter which two are compared first
pub kept-parts : (r : Reduce) (held some other : List ℤ) → kept r (kept r held some) other ≡ kept r held (kept r some other)
kept-parts Max = lesser-parts is_above above-orders
kept-parts Sum = lesser-parts is_before before-orders
kept-parts Product = lesser-parts is_before before-orders
kept-parts Min = lesser-parts is_before before-orders
kept-parts And = lesser-parts is_before before-orders
kept-parts Or = lesser-parts is_before before-orders

-- what slots hold does not depend on the order of what is contributed
pub slots-permuted : (r : Reduce) (held : List Value) (bag other : List (List Value)) → SameBag bag other → close_slots r held bag ≡ close_slots r held other
slots-permuted r [] bag other same = refl
slots-permuted r (held ∷ []) bag other same =
    ap (λ closed. with_value closed (Some [])) (close-permuted r held (SameBag-map (first_or held) same))
slots-permuted r (held ∷ (next ∷ more)) bag other same =
    ap (values_at (held ∷ (next ∷ more))) (best-permuted r (map number_of (held ∷ (next ∷ more))) (SameBag-map (map number_of) same))

-- one slot is closed as a value is
firsts : (held : Value) (bag : List Value) → map (first_or held) (map (λ v. v ∷ []) bag) ≡ bag
firsts held [] = refl
firsts held (v ∷ bag) = ap (λ rest. v ∷ rest) (firsts held bag)

pub one-slot : (r : Reduce) (held : Value) (bag : List Value) → close_slots r (held ∷ []) (map (λ v. v ∷ []) bag) ≡ with_value (close r held bag) (Some [])
one-slot r held bag = ap (λ values. with_value (close r held values) (Some [])) (firsts held bag)

-- slots keep their types
abbrev IfTyped : Option (List Value) → List VType → Type 0
IfTyped None ts = Unit {0}
IfTyped (Some vs) ts = map type_of vs ≡ ts

with-typed : (t : VType) (ts : List VType) (e : Result Value FaultKind) (o : Option (List Value)) → IfOk e (IsOf t) → IfTyped o ts → IfTyped (with_value e o) (t ∷ ts)
with-typed t ts (Ok v) (Some vs) one rest = ap (λ u. u ∷ map type_of vs) one.0 ∙ ap (λ us. t ∷ us) rest
with-typed t ts (Ok v) None one rest = tt
with-typed t ts (Err kind) o one rest = tt

values-typed : (held : List Value) (tuple : List ℤ) → IfTyped (values_at held tuple) (map type_of held)
values-typed [] tuple = refl
values-typed (v ∷ held) [] = refl
values-typed (v ∷ held) (n ∷ tuple) =
    with-typed (type_of v) (map type_of held) (checked (type_of v) n) (values_at held tuple) (checked-typed (type_of v) n) (values-typed held tuple)

close-typed : (r : Reduce) (held : List Value) (bag : List (List Value)) → IfTyped (close_slots r held bag) (map type_of held)
close-typed r [] bag = refl
close-typed r (held ∷ []) bag =
    with-typed (type_of held) [] (close r held (map (first_or held) bag)) (Some [])
    (checked-typed (type_of held) (combined r (number_of held) (total r (type_of held) (map (first_or held) bag)))) refl
close-typed r (held ∷ (next ∷ more)) bag = values-typed (held ∷ (next ∷ more)) (best r (map number_of (held ∷ (next ∷ more))) (map (map number_of) bag))

pub slots-typed : (r : Reduce) (held : List Value) (bag : List (List Value)) (after : List Value) → close_slots r held bag ≡ Some after → map type_of after ≡ map type_of held
slots-typed r held bag after same = subst (λ o. IfTyped o (map type_of held)) same (close-typed r held bag)

-- several slots take every bag of values of their types
abbrev AllFit : (held : List Value) → List ℤ → Type 0
AllFit [] tuple = Unit {0}
AllFit (v ∷ held) [] = Unit {0}
AllFit (v ∷ held) (n ∷ tuple) = IsTrue (fits (type_of v) n) × AllFit held tuple

numbers-fit : (ts : List VType) (held vs : List Value) → AreOf ts held → AreOf ts vs → AllFit held (map number_of vs)
numbers-fit ts [] vs typed other = tt
numbers-fit [] (v ∷ held) vs typed other = grind arith
numbers-fit (t ∷ ts) (v ∷ held) [] typed other = tt
numbers-fit (t ∷ ts) (v ∷ held) (u ∷ vs) typed other =
    (subst (λ k. IsTrue (fits k (number_of u))) (sym typed.0.0) other.0.1, numbers-fit ts held vs typed.1 other.1)

one-of-two : (held : List Value) (b : Bool) (some other : List ℤ) → AllFit held some → AllFit held other → AllFit held (cond b some other)
one-of-two held true some other p q = p
one-of-two held false some other p q = q

best-fits : (r : Reduce) (ts : List VType) (held : List Value) (bag : List (List Value)) → AreOf ts held → EachAreOf ts bag → AllFit held (best r (map number_of held) (map (map number_of) bag))
best-fits r ts held [] typed each = numbers-fit ts held held typed typed
best-fits r ts held (vs ∷ bag) typed each =
    one-of-two held (replaces r (best r (map number_of held) (map (map number_of) bag)) (map number_of vs)) (map number_of vs) (best r (map number_of held) (map (map number_of) bag))
    (numbers-fit ts held vs typed each.0) (best-fits r ts held bag typed each.1)

with-some : (t : VType) (n : ℤ) (o : Option (List Value)) → IsTrue (fits t n) → o ≢ None → with_value (checked t n) o ≢ None
with-some t n None fit some = λ same. some refl
with-some t n (Some vs) fit some = rw fit (λ same. some-no-none same)
  where
    some-no-none : {v : Value} → Some (v ∷ vs) ≡ None → ⊥
    some-no-none same = grind arith

values-some : (held : List Value) (tuple : List ℤ) → AllFit held tuple → values_at held tuple ≢ None
values-some [] tuple all same = grind arith
values-some (v ∷ held) [] all same = grind arith
values-some (v ∷ held) (n ∷ tuple) all same = with-some (type_of v) n (values_at held tuple) all.0 (values-some held tuple all.1) same

pub tuples-fit : (r : Reduce) (ts : List VType) (held : List Value) (bag : List (List Value)) → 2 ≤ length held → AreOf ts held → EachAreOf ts bag → close_slots r held bag ≢ None
tuples-fit r ts [] bag many typed each = grind arith
tuples-fit r ts (v ∷ []) bag many typed each = grind arith
tuples-fit r ts (v ∷ (next ∷ more)) bag many typed each =
    values-some (v ∷ (next ∷ more)) (best r (map number_of (v ∷ (next ∷ more))) (map (map number_of) bag)) (best-fits r ts (v ∷ (next ∷ more)) bag typed each)

-- with one entry it is the reduction
pub kept-min : (x y : ℤ) → kept Min (x ∷ []) (y ∷ []) ≡ combined Min x y ∷ []
kept-min x y = by (int_lt y x) (int_lt x y) refl refl
  where
    by : (p q : Bool) → int_lt y x ≡ p → int_lt x y ≡ q → cond (p || (not q && false)) (y ∷ []) (x ∷ []) ≡ cond p y x ∷ []
    by true q l m = refl
    by false true l m = refl
    by false false l m = refl

pub kept-max : (x y : ℤ) → kept Max (x ∷ []) (y ∷ []) ≡ combined Max x y ∷ []
kept-max x y = by (int_lt x y) (int_lt y x) refl refl
  where
    by : (p q : Bool) → int_lt x y ≡ p → int_lt y x ≡ q → cond (p || (not q && false)) (y ∷ []) (x ∷ []) ≡ cond q x y ∷ []
    by true true l m = grind (arith, lt-asym x y l)
    by true false l m = refl
    by false true l m = refl
    by false false l m = ap (λ z. z ∷ []) (lt-eq x y l m)
