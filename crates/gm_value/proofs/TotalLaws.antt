-- Laws of totals and of the bags that they stand for.
use Rattle.std.proofs.Common.{◌≡◌, ◌≤◌, ◌<◌, ◌*◌, ◌^◌, ℤ, ◌*ℤ◌, unsigned_abs, Bool, true, false, List, [], ◌∷◌, length, ap, sym, ◌∙◌, subst, arith}
use Rattle.gm_value.specs.declared.values.VType.{VType}
use Rattle.gm_value.specs.declared.values.Value.{Value}
use Rattle.gm_value.specs.declared.reductions.Reduce.{Reduce}
use Rattle.gm_value.specs.declared.reductions.Reduce.TheVariants.{Sum, Product, Min, Max, And, Or}
use Rattle.gm_value.specs.declared.totals.Total.{Total}
use Rattle.gm_value.specs.declared.totals.Total.TheVariants as totals
use Rattle.gm_value.specs.Numbers.{number_of, type_of, value_at}
use Rattle.gm_value.specs.Reductions.{combined, total}
use Rattle.gm_value.specs.Totals.{AreNear, IsProduct, IsProductTotal, Shows, ShowsMore, HasType, IsTotal, HasRoom, AddsMember}
use Rattle.gm_value.specs.Bag.{SameBag, same_nil, same_cons, same_swap, same_trans}
use Rattle.gm_value.proofs.NumberLaws.{abs-add, value_at-number_of}
use Rattle.gm_value.proofs.BagLaws.{SameBag-sym}
use Rattle.gm_value.proofs.MonoidLaws.{total-permuted}

-- whether all members are near does not depend on their order
pub AreNear-same : {xs ys : List Value} → SameBag xs ys → AreNear xs → AreNear ys
AreNear-same same_nil are = are
AreNear-same (same_cons x s) are = (are.0, AreNear-same s are.1)
AreNear-same (same_swap x y xs) are = (are.1.0, (are.0, are.1.1))
AreNear-same (same_trans s u) are = AreNear-same u (AreNear-same s are)

-- what a total stands for does not depend on the order of the bag
pub IsTotal-same : (r : Reduce) (t : VType) (a : Total) {xs ys : List Value} → SameBag xs ys → IsTotal r t a xs → IsTotal r t a ys
IsTotal-same r t a s is = (AreNear-same s is.0, subst (Shows r a) (total-permuted r t s) is.1)

-- a total that shows one more member's number stands for the bag with that member, in any order
pub adds_member : (r : Reduce) (a : Total) (b : Value) (new : Total) → unsigned_abs (number_of b) ≤ 2 ^ 63 → ShowsMore r a (number_of b) new → AddsMember r a b new
adds_member r a b new near shows_more t bag more is same =
    IsTotal-same r t new (SameBag-sym same) ((near, is.0), shows_more (total r t bag) is.1)

-- what a total shows, by its form

pub shown-small : (r : Reduce) (v : Value) (exact : ℤ) → Shows r (totals.Small v) exact → number_of v ≡ exact
shown-small Sum v exact shows = absurd shows
shown-small Product v exact shows = absurd shows
shown-small Min v exact shows = shows
shown-small Max v exact shows = shows
shown-small And v exact shows = shows
shown-small Or v exact shows = shows

pub shown-sum : (r : Reduce) (z exact : ℤ) → Shows r (totals.Sum z) exact → z ≡ exact
shown-sum Sum z exact shows = shows
shown-sum Product z exact shows = absurd shows
shown-sum Min z exact shows = absurd shows
shown-sum Max z exact shows = absurd shows
shown-sum And z exact shows = absurd shows
shown-sum Or z exact shows = absurd shows

pub shown-product : (r : Reduce) (value : ℤ) (over : Bool) (exact : ℤ) → Shows r (totals.Product value over) exact → IsProduct value over exact
shown-product Sum value over exact shows = absurd shows
shown-product Product value over exact shows = shows
shown-product Min value over exact shows = absurd shows
shown-product Max value over exact shows = absurd shows
shown-product And value over exact shows = absurd shows
shown-product Or value over exact shows = absurd shows

-- a product's total with one more factor
pub product_more : (r : Reduce) (a new : Total) (x number value : ℤ) (over : Bool) →
    r ≡ Product → a ≡ totals.Product value over → x ≡ number →
    ((exact : ℤ) → IsProduct value over exact → IsProductTotal new (x *ℤ exact)) →
    ShowsMore r a number new
product_more r a new x number value over is_product is_a is_x more exact shows =
    let known = rw (is_product, is_a) at shows in
    rw (is_product, ← is_x) (more exact known)

-- a sum's magnitude is at most 2 ^ 63 a member
sum-near : (t : VType) (bag : List Value) → AreNear bag → unsigned_abs (total Sum t bag) ≤ 2 ^ 63 * length bag
sum-near t [] are = omega arith
sum-near t (v ∷ bag) are =
    let near = abs-add (number_of v) (total Sum t bag) (2 ^ 63) (2 ^ 63 * length bag) are.0 (sum-near t bag are.1) in
    omega (arith, near)

product-near : (value : ℤ) (over : Bool) (exact : ℤ) → IsProduct value over exact → unsigned_abs value ≤ 2 ^ 63
product-near value false exact is = let e = ap unsigned_abs is.0 in omega (arith, is.1, e)
product-near value true exact is = let e = ap unsigned_abs is.0 in omega (arith, e)

-- a total of fewer than 2 ^ 62 members has room
pub has_room : (r : Reduce) (t : VType) (a : Total) (bag : List Value) → IsTotal r t a bag → length bag < 2 ^ 62 → HasRoom a
has_room r t (totals.Small v) bag is few = tt
has_room Sum t (totals.Sum z) bag is few =
    let near = sum-near t bag is.0 in
    let same = ap unsigned_abs is.1 in
    omega (arith, near, same)
has_room Product t (totals.Sum z) bag is few = absurd is.1
has_room Min t (totals.Sum z) bag is few = absurd is.1
has_room Max t (totals.Sum z) bag is few = absurd is.1
has_room And t (totals.Sum z) bag is few = absurd is.1
has_room Or t (totals.Sum z) bag is few = absurd is.1
has_room r t (totals.Product value over) bag is few = product-near value over (total r t bag) (shown-product r value over (total r t bag) is.1)

-- a value is known by its type and its number
one-value : (t : VType) (v w : Value) → type_of v ≡ t → type_of w ≡ t → number_of v ≡ number_of w → v ≡ w
one-value t v w is_v is_w same =
    sym (value_at-number_of v) ∙ ap (λ x. value_at x (number_of v)) (is_v ∙ sym is_w) ∙ ap (value_at (type_of w)) same ∙ value_at-number_of w

one-small : (r : Reduce) (t : VType) (v w : Value) (exact : ℤ) → type_of v ≡ t → type_of w ≡ t → Shows r (totals.Small v) exact → Shows r (totals.Small w) exact
    → totals.Small v ≡ totals.Small w
one-small r t v w exact is_v is_w a b = ap (λ x. totals.Small x) (one-value t v w is_v is_w (shown-small r v exact a ∙ sym (shown-small r w exact b)))

one-product : (v w : ℤ) (p q : Bool) (exact : ℤ) → IsProduct v p exact → IsProduct w q exact → totals.Product v p ≡ totals.Product w q
one-product v w false false exact a b = ap (λ x. totals.Product x false) (a.0 ∙ sym b.0)
one-product v w false true exact a b = absurd (omega (arith, a.1, b.1))
one-product v w true false exact a b = absurd (omega (arith, a.1, b.1))
one-product v w true true exact a b = ap (λ x. totals.Product x true) (a.0 ∙ sym b.0)

-- one total alone of a type shows a number
one-shows : (r : Reduce) (t : VType) (a b : Total) (exact : ℤ) → HasType t a → HasType t b → Shows r a exact → Shows r b exact → a ≡ b
one-shows Sum t (totals.Sum y) (totals.Sum z) exact ta tb sa sb = ap (λ x. totals.Sum x) (sa ∙ sym sb)
one-shows Product t (totals.Product v p) (totals.Product w q) exact ta tb sa sb = one-product v w p q exact sa sb
one-shows Min t (totals.Small v) (totals.Small w) exact ta tb sa sb = one-small Min t v w exact ta tb sa sb
one-shows Max t (totals.Small v) (totals.Small w) exact ta tb sa sb = one-small Max t v w exact ta tb sa sb
one-shows And t (totals.Small v) (totals.Small w) exact ta tb sa sb = one-small And t v w exact ta tb sa sb
one-shows Or t (totals.Small v) (totals.Small w) exact ta tb sa sb = one-small Or t v w exact ta tb sa sb
one-shows r t a b exact ta tb sa sb = search (sa, sb)

-- one total alone of a type stands for a bag
pub one_total : (r : Reduce) (t kind : VType) (a b : Total) (bag : List Value) → HasType kind a → HasType kind b → IsTotal r t a bag → IsTotal r t b bag → a ≡ b
one_total r t kind a b bag ta tb is_a is_b = one-shows r kind a b (total r t bag) ta tb is_a.1 is_b.1
