-- Gifts slot by slot and node by node, and what closes with them.
use Rattle.std.proofs.Common.{◌≡◌, ◌≢◌, ◌∙◌, ◌<◌, ◌+◌, ℕ, zero, suc, nat_eq, ℤ, Bool, true, false, cond, Option, Some, None, Result, Ok, Err, List, [], ◌∷◌, ◌++◌, refl, ap, sym, subst, length, get_or, set, arith, length-set, ⊎_elim, if◌then◌else◌}
use Rattle.std.specs.Option.{option_map, option_and_then}
use Rattle.std.specs.List.{AllByRecursion}
use Rattle.std.proofs.lemmas.Bool.{cases_eq, eq-eqb, ne_eqb, true≢false}
use Rattle.std.proofs.lemmas.List.{get_or-set_same, get_or-set_other}
use Rattle.std.proofs.lemmas.Option.{none-some, same_Some}
use Rattle.gm_value.specs.declared.values.VType.{VType}
use Rattle.gm_value.specs.declared.values.Value.{Value}
use Rattle.gm_value.specs.declared.values.Value.TheVariants.{At}
use Rattle.gm_value.specs.declared.faults.FaultKind.{FaultKind}
use Rattle.gm_value.specs.declared.faults.FaultKind.TheVariants.{Overflow}
use Rattle.gm_value.specs.declared.reductions.Reduce.{Reduce}
use Rattle.gm_value.specs.Bag.{SameBag, same_nil, same_cons, same_swap, same_trans}
use Rattle.gm_value.specs.Laws.{HasUnit}
use Rattle.gm_value.specs.Numbers.{type_of, number_of, fits, value_at as typed_value, checked}
use Rattle.gm_value.specs.Reductions.{combined, unit_of, total, close}
use Rattle.gm_value.proofs.BagLaws.{SameBag-refl, SameBag-filter, SameBag-map, SameBag-middle, SameBag-sym}
use Rattle.gm_value.proofs.MonoidLaws.{combined_assoc, combined_comm, close-permuted}
use Rattle.gm_value.proofs.NumberLaws.{type_of-value_at, number_of-value_at}
use Rattle.gm_kernels.specs.Folding.{folded, fold_in, folded_at}
use Rattle.gm_kernels.specs.Pointwise.{given}
use Rattle.gm_machine.specs.Expressions.{value_at}
use Rattle.gm_batch_handlers.specs.Gifts.{Gift, to_slot, of_node, values_given, gifts_of, Closes, AllClose, AreBy}

-- a checked number that is a value
abbrev is_fine : {A B : Type 0} → Result A B → Bool
is_fine (Ok a) = true
is_fine (Err b) = false

inside : (b : Bool) (v w : Value) → (if b then Ok v else Err Overflow) ≡ Ok w → b ≡ true
inside true v w e = refl
inside false v w e = absurd (true≢false (sym (ap is_fine e)))

checked-fits : (t : VType) (z : ℤ) (w : Value) → checked t z ≡ Ok w → fits t z ≡ true
checked-fits t z w e = inside (fits t z) (typed_value t z) w e

abbrev fine : Value → Result Value FaultKind
fine v = Ok v

abbrev or-else : Value → Result Value FaultKind → Value
or-else x (Ok v) = v
or-else x (Err f) = x

ok-same : (x y : Value) → fine x ≡ fine y → x ≡ y
ok-same x y e = ap (or-else x) e

checked-is : (t : VType) (z : ℤ) (w : Value) → checked t z ≡ Ok w → w ≡ typed_value t z
checked-is t z w e =
    sym (ok-same (typed_value t z) w (sym (ap (λ b. if b then Ok (typed_value t z) else Err Overflow) (checked-fits t z w e)) ∙ e))

given-ok : (r : Result Value FaultKind) (v : Value) → given r ≡ Some v → r ≡ Ok v
given-ok (Ok w) v e = ap Ok (same_Some w v e)
given-ok (Err f) v e = absurd (none-some v e)

-- one value more closes
closes-first : ((r : Reduce) → HasUnit r) → (r : Reduce) (h v new : Value) → folded r h v ≡ Some new → close r h (v ∷ []) ≡ Ok new
closes-first units r h v new e =
    let t = type_of h in
    let z = combined r (number_of h) (number_of v) in
    let fine : checked t z ≡ Ok new = given-ok (checked t z) new e in
    ap (checked t) (
    sym (combined_assoc r (number_of h) (number_of v) (unit_of r t))
    ∙ combined_comm r z (unit_of r t)
    ∙ (units r t).1 z (checked-fits t z new fine))
    ∙ fine

closes-next : (r : Reduce) (h x v w new : Value) (vs : List Value) → close r h (w ∷ vs) ≡ Ok x → folded r x v ≡ Some new → close r h (v ∷ (w ∷ vs)) ≡ Ok new
closes-next r h x v w new vs so e =
    let t = type_of h in
    let z = total r t (w ∷ vs) in
    let sum = combined r (number_of h) z in
    let is : x ≡ typed_value t sum = checked-is t sum x so in
    let typed : type_of x ≡ t = ap type_of is ∙ type_of-value_at t sum in
    let number : number_of x ≡ sum = ap number_of is ∙ number_of-value_at t sum (checked-fits t sum x so) in
    ap (checked t) (
    ap (combined r (number_of h)) (combined_comm r (number_of v) z)
    ∙ sym (combined_assoc r (number_of h) z (number_of v)))
    ∙ sym (λ i. checked (typed i) (combined r (number i) (number_of v)))
    ∙ given-ok (checked (type_of x) (combined r (number_of x) (number_of v))) new e

pub closes-more : ((r : Reduce) → HasUnit r) → (r : Reduce) (h x v new : Value) (vs : List Value) → Closes r h vs x → folded r x v ≡ Some new → Closes r h (v ∷ vs) new
closes-more units r h x v new [] so e = closes-first units r h v new (ap (λ y. folded r y v) (sym so) ∙ e)
closes-more units r h x v new (w ∷ vs) so e = closes-next r h x v w new vs so e

-- the order of the values does not count
empty-bag : {A : Type 0} {xs ys : List A} → SameBag xs ys → xs ≡ [] → ys ≡ []
empty-bag same_nil e = refl
empty-bag (same_cons x {xs = xs} s) e = absurd (omega (arith, ap length e))
empty-bag (same_swap x y xs) e = absurd (omega (arith, ap length e))
empty-bag (same_trans s t) e = empty-bag t (empty-bag s e)

pub no-gifts : {A : Type 0} {xs ys : List A} → SameBag xs ys → xs ≡ [] → ys ≡ []
no-gifts = empty-bag

closes-same : (r : Reduce) (h new : Value) (xs ys : List Value) → SameBag xs ys → Closes r h xs new → Closes r h ys new
closes-same r h new [] [] s c = c
closes-same r h new [] (y ∷ ys) s c = absurd (omega (arith, ap length (empty-bag s refl)))
closes-same r h new (x ∷ xs) [] s c = absurd (omega (arith, ap length (empty-bag (SameBag-sym s) refl)))
closes-same r h new (x ∷ xs) (y ∷ ys) s c = sym (close-permuted r h s) ∙ c

pub all-close-same : (r : Reduce) (held new : List Value) (xs ys : List Gift) → SameBag xs ys → AllClose r held xs new → AllClose r held ys new
all-close-same r held new xs ys s c = record {
  long = c.long;
  each = λ at lt. closes-same r (value_at held at) (value_at new at) (values_given (of_node at xs)) (values_given (of_node at ys))
      (SameBag-map (λ g. g.value) (SameBag-filter (λ g. nat_eq g.at at) s)) (c.each at lt);
}

pub by-same : (r : Reduce) (place : ℕ) {xs ys : List Gift} → SameBag xs ys → AreBy r place xs → AreBy r place ys
by-same r place same_nil h = tt
by-same r place (same_cons x s) h = (h.0, by-same r place s h.1)
by-same r place (same_swap x y xs) h = (h.1.0, (h.0, h.1.1))
by-same r place (same_trans s t) h = by-same r place t (by-same r place s h)

-- one gift more
pub get-same : {A : Type 0} (xs : List A) (k : ℕ) (a b : A) → k < length xs → get_or xs k a ≡ get_or xs k b
get-same [] k a b lt = absurd (omega (arith, lt))
get-same (x ∷ xs) zero a b lt = refl
get-same (x ∷ xs) (suc k) a b lt = get-same xs k a b (omega (arith, lt))

hit : (at : ℕ) (g : Gift) (gs : List Gift) → g.at ≡ at → of_node at (g ∷ gs) ≡ g ∷ of_node at gs
hit at g gs e = ap (λ b. cond b (g ∷ of_node at gs) (of_node at gs)) (eq-eqb g.at at e)

miss : (at : ℕ) (g : Gift) (gs : List Gift) → g.at ≢ at → of_node at (g ∷ gs) ≡ of_node at gs
miss at g gs e = ap (λ b. cond b (g ∷ of_node at gs) (of_node at gs)) (ne_eqb g.at at e)

close-one : ((r : Reduce) → HasUnit r) → (r : Reduce) (held xs : List Value) (gs : List Gift) (g : Gift) (new : Value) → g.at < length xs
    → AllClose r held gs xs → folded r (get_or xs g.at g.value) g.value ≡ Some new → AllClose r held (g ∷ gs) (set xs g.at new)
close-one units r held xs gs g new lt c e = record {
  long = length-set xs g.at new ∙ c.long;
  each = λ at below.
      ⊎_elim
      (λ (here : g.at ≡ at).
      subst (λ l. Closes r (value_at held at) (values_given l) (value_at (set xs g.at new) at)) (sym (hit at g gs here))
      (subst (λ y. Closes r (value_at held at) (g.value ∷ values_given (of_node at gs)) y)
      (sym (ap (λ k. value_at (set xs k new) at) here ∙ get_or-set_same xs at new (At None) (omega (arith, below, c.long))))
      (closes-more units r (value_at held at) (value_at xs at) g.value new (values_given (of_node at gs)) (c.each at below)
      (ap (λ y. folded r y g.value) (ap (λ k. value_at xs k) (sym here) ∙ get-same xs g.at (At None) g.value lt) ∙ e))))
      (λ (other : g.at ≢ at).
      subst (λ l. Closes r (value_at held at) (values_given l) (value_at (set xs g.at new) at)) (sym (miss at g gs other))
      (subst (λ y. Closes r (value_at held at) (values_given (of_node at gs)) y) (sym (get_or-set_other xs g.at at new (At None) (λ e. other (sym e)))) (c.each at below)))
      (cases_eq g.at at);
}

-- the gifts of some nodes, the last one in front
abbrev behind : Reduce → ℕ → ℕ → List ℕ → List Value → List Gift → List Gift
behind r place slot (at ∷ more) (v ∷ values) gs = behind r place slot more values (record { at = at; slot = slot; reduce = r; place = place; value = v } ∷ gs)
behind r place slot _ _ gs = gs

behind-same : (r : Reduce) (place slot : ℕ) (at : List ℕ) (vs : List Value) (gs : List Gift) → SameBag (behind r place slot at vs gs) (gs ++ gifts_of r place slot at vs)
behind-same r place slot [] vs gs = subst (λ l. SameBag gs l) (sym (nil-end gs)) (SameBag-refl gs) where
  nil-end : {A : Type 0} (xs : List A) → xs ++ [] ≡ xs
  nil-end [] = refl
  nil-end (x ∷ xs) = ap (λ l. x ∷ l) (nil-end xs)
behind-same r place slot (k ∷ at) [] gs = subst (λ l. SameBag gs l) (sym (nil-end gs)) (SameBag-refl gs) where
  nil-end : {A : Type 0} (xs : List A) → xs ++ [] ≡ xs
  nil-end [] = refl
  nil-end (x ∷ xs) = ap (λ l. x ∷ l) (nil-end xs)
behind-same r place slot (k ∷ at) (v ∷ vs) gs =
    let g : Gift = record { at = k; slot = slot; reduce = r; place = place; value = v } in
    same_trans (behind-same r place slot at vs (g ∷ gs)) (SameBag-sym (SameBag-middle gs g (gifts_of r place slot at vs)))

folded-there : (o : Option (List Value)) (go : List Value → Option (List Value)) (ys : List Value) → option_and_then go o ≡ Some ys → (xs : List Value) × ((o ≡ Some xs) × (go xs ≡ Some ys))
folded-there None go ys e = absurd (none-some ys e)
folded-there (Some xs) go ys e = (xs, (refl, e))

set-there : (o : Option Value) (xs ys : List Value) (k : ℕ) → option_map (λ new. set xs k new) o ≡ Some ys → (new : Value) × ((o ≡ Some new) × (ys ≡ set xs k new))
set-there None xs ys k e = absurd (none-some ys e)
set-there (Some new) xs ys k e = (new, (refl, sym (same_Some (set xs k new) ys e)))

-- as many values are held as before
pub folded-long : (r : Reduce) (xs : List Value) (at : List ℕ) (vs ys : List Value) → folded_at r xs at vs ≡ Some ys → length ys ≡ length xs
folded-long r xs [] vs ys e = ap length (sym (same_Some xs ys e))
folded-long r xs (k ∷ at) [] ys e = ap length (sym (same_Some xs ys e))
folded-long r xs (k ∷ at) (v ∷ vs) ys e =
    let there = folded-there (fold_in r xs k v) (λ next. folded_at r next at vs) ys e in
    let one = set-there (folded r (get_or xs k v) v) xs there.0 k there.1.0 in
    folded-long r there.0 at vs ys there.1.1 ∙ ap length one.1.1 ∙ length-set xs k one.0

close-behind : ((r : Reduce) → HasUnit r) → (r : Reduce) (place slot : ℕ) (held : List Value) (at : List ℕ) (vs xs ys : List Value) (gs : List Gift)
    → AllByRecursion (λ k. k < length held) at → AllClose r held gs xs → folded_at r xs at vs ≡ Some ys → AllClose r held (behind r place slot at vs gs) ys
close-behind units r place slot held [] vs xs ys gs within c e = subst (λ l. AllClose r held gs l) (same_Some xs ys e) c
close-behind units r place slot held (k ∷ at) [] xs ys gs within c e = subst (λ l. AllClose r held gs l) (same_Some xs ys e) c
close-behind units r place slot held (k ∷ at) (v ∷ vs) xs ys gs within c e =
    let there = folded-there (fold_in r xs k v) (λ next. folded_at r next at vs) ys e in
    let one = set-there (folded r (get_or xs k v) v) xs there.0 k there.1.0 in
    let g : Gift = record { at = k; slot = slot; reduce = r; place = place; value = v } in
    close-behind units r place slot held at vs there.0 ys (g ∷ gs) within.1
    (subst (λ l. AllClose r held (g ∷ gs) l) (sym one.1.1) (close-one units r held xs gs g one.0 (omega (arith, within.0, c.long)) c one.1.0))
    there.1.1

pub close-all : ((r : Reduce) → HasUnit r) → (r : Reduce) (place slot : ℕ) (held : List Value) (at : List ℕ) (vs xs ys : List Value) (gs : List Gift)
    → AllByRecursion (λ k. k < length held) at → AllClose r held gs xs → folded_at r xs at vs ≡ Some ys → AllClose r held (gs ++ gifts_of r place slot at vs) ys
close-all units r place slot held at vs xs ys gs within c e =
    all-close-same r held ys (behind r place slot at vs gs) (gs ++ gifts_of r place slot at vs) (behind-same r place slot at vs gs)
    (close-behind units r place slot held at vs xs ys gs within c e)

-- nothing is given
pub close-nothing : (r : Reduce) (held : List Value) → AllClose r held [] held
close-nothing r held = record { long = refl; each = λ at lt. refl }

-- the gifts of some nodes to one slot
pub gifts-by : (r : Reduce) (place slot : ℕ) (at : List ℕ) (vs : List Value) → AreBy r place (gifts_of r place slot at vs)
gifts-by r place slot [] vs = tt
gifts-by r place slot (k ∷ at) [] = tt
gifts-by r place slot (k ∷ at) (v ∷ vs) = ((refl, refl), gifts-by r place slot at vs)

pub by-both : (r : Reduce) (place : ℕ) (xs ys : List Gift) → AreBy r place xs → AreBy r place ys → AreBy r place (xs ++ ys)
by-both r place [] ys h k = k
by-both r place (x ∷ xs) ys h k = (h.0, by-both r place xs ys h.1 k)

pub gifts-here : (r : Reduce) (place slot : ℕ) (at : List ℕ) (vs : List Value) → to_slot slot (gifts_of r place slot at vs) ≡ gifts_of r place slot at vs
gifts-here r place slot [] vs = refl
gifts-here r place slot (k ∷ at) [] = refl
gifts-here r place slot (k ∷ at) (v ∷ vs) =
    let g : Gift = record { at = k; slot = slot; reduce = r; place = place; value = v } in
    ap (λ b. cond b (g ∷ to_slot slot (gifts_of r place slot at vs)) (to_slot slot (gifts_of r place slot at vs))) (eq-eqb slot slot refl)
    ∙ ap (λ l. g ∷ l) (gifts-here r place slot at vs)

pub gifts-other : (r : Reduce) (place slot other : ℕ) (at : List ℕ) (vs : List Value) → slot ≢ other → to_slot other (gifts_of r place slot at vs) ≡ []
gifts-other r place slot other [] vs e = refl
gifts-other r place slot other (k ∷ at) [] e = refl
gifts-other r place slot other (k ∷ at) (v ∷ vs) e =
    let g : Gift = record { at = k; slot = slot; reduce = r; place = place; value = v } in
    ap (λ b. cond b (g ∷ to_slot other (gifts_of r place slot at vs)) (to_slot other (gifts_of r place slot at vs))) (ne_eqb slot other e)
    ∙ gifts-other r place slot other at vs e
