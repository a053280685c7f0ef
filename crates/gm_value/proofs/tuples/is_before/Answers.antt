-- After the shorter tuple's last entry the lengths decide.
use Rattle.std.proofs.Common.{◌≡◌, ℕ, zero, suc, min, length, List, [], ◌∷◌, map, drop, sym, ◌∙◌, arith}
use Rattle.std.specs.Prelude.{nat_lt}
use Rattle.gm_value.specs.declared.values.Value.{Value}
use Rattle.gm_value.specs.Numbers.{number_of}
use Rattle.gm_value.specs.Tuples.{is_before}
use Rattle.gm_value.proofs.tuples.is_before.Goals as goal

ended : (xs ys : List Value) (i : ℕ) → i ≡ min (length xs) (length ys) → is_before (map number_of (drop i xs)) (map number_of (drop i ys)) ≡ nat_lt (length xs) (length ys)
ended [] [] i e = grind arith
ended [] (y ∷ ys) i e = let z : i ≡ zero = omega arith in rw z (grind arith)
ended (x ∷ xs) [] i e = let z : i ≡ zero = omega arith in rw z (grind arith)
ended (x ∷ xs) (y ∷ ys) zero e = grind arith
ended (x ∷ xs) (y ∷ ys) (suc i) e = let h = ended xs ys i (omega arith) in grind (arith, h)

pub returns : goal.returns
returns c = let e : c.loop-i.i ≡ min (length c.args.some.now) (length c.args.other.now) = omega (arith, c.min-shorter.ensures, c.loop-i.auto.i-end, c.loop-i-test.false) in
    sym (c.loop-i.invariant ∙ ended c.args.some.now c.args.other.now c.loop-i.i e)
