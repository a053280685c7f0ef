-- The term by which a tuple is kept compares as tuples are compared.
use Rattle.std.proofs.Common.{◌≡◌, ◌≤◌, ℤ, Bool, true, false, cond, Some, None, Ok, List, [], ◌∷◌, length, map, refl, ap, ◌∙◌, sym, subst, arith}
use Rattle.std.specs.Prelude.{◌&&◌, ◌||◌, not, int_lt, IsTrue, if◌then◌else◌}
use Rattle.std.proofs.lemmas.Bool.{both_ways}
use Rattle.gm_value.specs.declared.operations.Op1.TheVariants as one
use Rattle.gm_value.specs.declared.operations.Op2.TheVariants as two
use Rattle.gm_value.specs.declared.values.VType.{VType}
use Rattle.gm_value.specs.declared.values.Value.{Value}
use Rattle.gm_value.specs.declared.values.Value.TheVariants.{Flag}
use Rattle.gm_value.specs.declared.reductions.Reduce.{Reduce}
use Rattle.gm_value.specs.declared.reductions.Reduce.TheVariants as R
use Rattle.gm_value.specs.Laws.{AreOf}
use Rattle.gm_value.specs.Numbers.{number_of, type_of, fits, checked}
use Rattle.gm_value.specs.Operations.{is_true}
use Rattle.gm_value.specs.Tuples.{is_before, is_above, replaces, kept, values_at, with_value, close_slots}
use Rattle.gm_value.proofs.NumberLaws.{checked-number_of}
use Rattle.gm_forms.specs.Typing.{keeps_tuples}
use Rattle.gm_image.specs.Term as M
use Rattle.gm_image.specs.Term.{Term}
use Rattle.gm_machine.specs.Expressions.{View, value, unary_value, binary_value}
use Rattle.gm_machine.specs.Faults.{then_go}
use Rattle.gm_lowering.specs.Bodies.{replacing, compared}
use Rattle.gm_lowering.specs.Tuples.{Have, ReplacingTells, TuplesAreKept}

-- a comparison's value
less : (m : View) (a b : Term) (x y : Value) → value m a ≡ Ok x → value m b ≡ Ok y → value m (compared two.Lt a b) ≡ Ok (Flag (int_lt (number_of x) (number_of y)))
less m a b x y e f = ap (λ u. binary_value two.Lt 0 u (value m b)) e ∙ ap (binary_value two.Lt 0 (Ok x)) f

greater : (m : View) (a b : Term) (x y : Value) → value m a ≡ Ok x → value m b ≡ Ok y → value m (compared two.Gt a b) ≡ Ok (Flag (int_lt (number_of y) (number_of x)))
greater m a b x y e f = ap (λ u. binary_value two.Gt 0 u (value m b)) e ∙ ap (binary_value two.Gt 0 (Ok x)) f

-- one comparison, the opposite one, and the rest
decided : (m : View) (a b rest : Term) (x y z : Bool) → value m a ≡ Ok (Flag x) → value m b ≡ Ok (Flag y) → value m rest ≡ Ok (Flag z)
    → value m (M.Or a (M.And (M.Unary one.Not None b) rest)) ≡ Ok (Flag (x || (not y && z)))
decided m a b rest x y z e f g =
    ap (λ u. then_go u (λ v. if is_true v then Ok v else then_go (unary_value one.Not 0 (value m b)) (λ w. if is_true w then value m rest else Ok w))) e
    ∙ ap (λ u. then_go (Ok (Flag x)) (λ v. if is_true v then Ok v else then_go (unary_value one.Not 0 u) (λ w. if is_true w then value m rest else Ok w))) f
    ∙ ap (λ u. then_go (Ok (Flag x)) (λ v. if is_true v then Ok v else then_go (unary_value one.Not 0 (Ok (Flag y))) (λ w. if is_true w then u else Ok w))) g
    ∙ by x y where
      by : (x y : Bool) → then_go (Ok (Flag x)) (λ v. if is_true v then Ok v else then_go (unary_value one.Not 0 (Ok (Flag y))) (λ w. if is_true w then Ok (Flag z) else Ok w)) ≡ Ok (Flag (x || (not y && z)))
      by true y = refl
      by false true = refl
      by false false = refl

alone : (b c : Bool) → b ≡ b || (c && false)
alone true c = refl
alone false true = refl
alone false false = refl

before-tells : (m : View) (pairs : List (Term × Term)) (new held : List Value) → Have m pairs new held
    → value m (replacing two.Lt pairs) ≡ Ok (Flag (is_before (map number_of new) (map number_of held)))
before-tells m [] [] [] h = refl
before-tells m [] [] (x ∷ held) h = absurd h
before-tells m [] (y ∷ new) held h = absurd h
before-tells m (p ∷ ps) [] held h = absurd h
before-tells m (p ∷ ps) (y ∷ new) [] h = absurd h
before-tells m (p ∷ []) (y ∷ []) (x ∷ []) h =
    less m p.0 p.1 y x h.0 h.1 ∙ ap (λ b. Ok (Flag b)) (alone (int_lt (number_of y) (number_of x)) (not (int_lt (number_of x) (number_of y))))
before-tells m (p ∷ []) (y ∷ (z ∷ new)) (x ∷ held) h = absurd h.2
before-tells m (p ∷ []) (y ∷ []) (x ∷ (z ∷ held)) h = absurd h.2
before-tells m (p ∷ (q ∷ ps)) (y ∷ new) (x ∷ held) h =
    decided m (compared two.Lt p.0 p.1) (compared two.Lt p.1 p.0) (replacing two.Lt (q ∷ ps)) (int_lt (number_of y) (number_of x)) (int_lt (number_of x) (number_of y)) (is_before (map number_of new) (map number_of held))
    (less m p.0 p.1 y x h.0 h.1) (less m p.1 p.0 x y h.1 h.0) (before-tells m (q ∷ ps) new held h.2)

above-tells : (m : View) (pairs : List (Term × Term)) (new held : List Value) → Have m pairs new held
    → value m (replacing two.Gt pairs) ≡ Ok (Flag (is_above (map number_of new) (map number_of held)))
above-tells m [] [] [] h = refl
above-tells m [] [] (x ∷ held) h = absurd h
above-tells m [] (y ∷ new) held h = absurd h
above-tells m (p ∷ ps) [] held h = absurd h
above-tells m (p ∷ ps) (y ∷ new) [] h = absurd h
above-tells m (p ∷ []) (y ∷ []) (x ∷ []) h =
    greater m p.0 p.1 y x h.0 h.1 ∙ ap (λ b. Ok (Flag b)) (alone (int_lt (number_of x) (number_of y)) (not (int_lt (number_of y) (number_of x))))
above-tells m (p ∷ []) (y ∷ (z ∷ new)) (x ∷ held) h = absurd h.2
above-tells m (p ∷ []) (y ∷ []) (x ∷ (z ∷ held)) h = absurd h.2
above-tells m (p ∷ (q ∷ ps)) (y ∷ new) (x ∷ held) h =
    decided m (compared two.Gt p.0 p.1) (compared two.Gt p.1 p.0) (replacing two.Lt (q ∷ ps)) (int_lt (number_of x) (number_of y)) (int_lt (number_of y) (number_of x)) (is_before (map number_of new) (map number_of held))
    (greater m p.0 p.1 y x h.0 h.1) (greater m p.1 p.0 x y h.1 h.0) (before-tells m (q ∷ ps) new held h.2)

pub replacing-tells : ReplacingTells
replacing-tells m R.Min pairs new held o h = before-tells m pairs new held h
replacing-tells m R.Max pairs new held o h = above-tells m pairs new held h
replacing-tells m R.Sum pairs new held o h = absurd (both_ways false refl o)
replacing-tells m R.Product pairs new held o h = absurd (both_ways false refl o)
replacing-tells m R.And pairs new held o h = absurd (both_ways false refl o)
replacing-tells m R.Or pairs new held o h = absurd (both_ways false refl o)

-- the numbers of a tuple of the held types are its values
numbers-kept : (types : List VType) (held new : List Value) → AreOf types held → AreOf types new → values_at held (map number_of new) ≡ Some new
numbers-kept [] [] [] h k = refl
numbers-kept [] [] (y ∷ new) h k = absurd k
numbers-kept [] (x ∷ held) new h k = absurd h
numbers-kept (t ∷ ts) [] new h k = absurd h
numbers-kept (t ∷ ts) (x ∷ held) [] h k = absurd k
numbers-kept (t ∷ ts) (x ∷ held) (y ∷ new) h k =
    ap (λ u. with_value (checked u (number_of y)) (values_at held (map number_of new))) (h.0.0 ∙ sym k.0.0)
    ∙ ap (λ r. with_value r (values_at held (map number_of new))) (checked-number_of y (subst (λ u. IsTrue (fits u (number_of y))) (sym k.0.0) k.0.1))
    ∙ ap (with_value (Ok y)) (numbers-kept ts held new h.1 k.1)

pub tuples-kept : TuplesAreKept
tuples-kept r ts [] new two h k = absurd (omega arith)
tuples-kept r ts (x ∷ []) new two h k = absurd (omega arith)
tuples-kept r ts (x ∷ (z ∷ held)) new two h k = by (replaces r (map number_of (x ∷ (z ∷ held))) (map number_of new)) where
  by : (b : Bool) → values_at (x ∷ (z ∷ held)) (cond b (map number_of new) (map number_of (x ∷ (z ∷ held)))) ≡ Some (if b then new else x ∷ (z ∷ held))
  by true = numbers-kept ts (x ∷ (z ∷ held)) new h k
  by false = numbers-kept ts (x ∷ (z ∷ held)) (x ∷ (z ∷ held)) h h
