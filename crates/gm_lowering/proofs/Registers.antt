-- Registers begin with the first values of their locals.
use Rattle.std.proofs.Common.{◌≡◌, ◌<◌, ℕ, zero, suc, Bool, true, false, cond, List, ◌∷◌, ◌++◌, length, map, ap, ◌∙◌, arith}
use Rattle.std.specs.Prelude.{◌+◌, nat_lt, filter}
use Rattle.std.proofs.lemmas.Bool.{ltb-true}
use Rattle.gm_value.specs.declared.values.VType.{VType}
use Rattle.gm_value.specs.Numbers.{zero_of}
use Rattle.gm_forms.proofs.Named.{both-true}
use Rattle.gm_semantics.specs.Levels.{numbers_from}
use Rattle.gm_semantics.specs.Statements.{variable_at}
use Rattle.gm_machine.specs.Expressions.{value_at}
use Rattle.gm_lowering.specs.Layouts.{is_register, spare_types, body_positions, tested}
use Rattle.gm_lowering.specs.HomeTurns.{RegistersBegin}

-- what stands at the rank of a number that passes
at-rank : (f : ℕ → VType) (test : ℕ → Bool) (more : List VType) (d a m : ℕ) → test (a + d) ≡ true → d < m
    → value_at (map zero_of (map f (filter test (numbers_from a m)) ++ more)) (length (filter test (numbers_from a d))) ≡ zero_of (f (a + d))
at-rank f test more d a zero e lt = absurd (omega arith)
at-rank f test more zero a (suc m) e lt =
    ap (λ b. value_at (map zero_of (map f (cond b (a ∷ filter test (numbers_from (suc a) m)) (filter test (numbers_from (suc a) m))) ++ more)) 0) (ap test (let z : a ≡ a + 0 = omega arith in z) ∙ e)
    ∙ ap (λ x. zero_of (f x)) (let z : a ≡ a + 0 = omega arith in z)
at-rank f test more (suc d) a (suc m) e lt =
    by (test a) (at-rank f test more d (suc a) m (ap test (let z : suc a + d ≡ a + suc d = omega arith in z) ∙ e) (omega arith))
    ∙ ap (λ x. zero_of (f x)) (let z : suc a + d ≡ a + suc d = omega arith in z) where
      by : (b : Bool) → value_at (map zero_of (map f (filter test (numbers_from (suc a) m)) ++ more)) (length (filter test (numbers_from (suc a) d))) ≡ zero_of (f (suc a + d))
          → value_at (map zero_of (map f (cond b (a ∷ filter test (numbers_from (suc a) m)) (filter test (numbers_from (suc a) m))) ++ more)) (length (cond b (a ∷ filter test (numbers_from (suc a) d)) (filter test (numbers_from (suc a) d)))) ≡ zero_of (f (suc a + d))
      by true h = h
      by false h = h

pub registers-begin : RegistersBegin
registers-begin p x o =
    let t = both-true (nat_lt x (length p.declarations)) (is_register (variable_at p.declarations x)) o in
    at-rank (λ y. (variable_at p.declarations y).vtype) (tested p is_register) (spare_types (body_positions p.declarations p.body)) x 0 (length p.declarations)
    (ap (tested p is_register) (zero-plus x) ∙ t.1) (ltb-true x (length p.declarations) t.0)
    ∙ ap (λ y. zero_of (variable_at p.declarations y).vtype) (zero-plus x) where
      zero-plus : (y : ℕ) → 0 + y ≡ y
      zero-plus y = omega arith
