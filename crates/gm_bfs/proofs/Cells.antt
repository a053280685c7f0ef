-- Levels as the property holds them that they are kept in.
use Rattle.std.proofs.Common.{Less, Greater, Equal, ◌≡◌, ◌<◌, ◌≤◌, ◌+◌, ◌-◌, ℕ, zero, suc, Bool, true, false, cond, refl, sym, ap, ◌∙◌, arith, Option, Some, None, Ok, Err, ⊎_elim}
use Rattle.std.specs.Prelude.{◌≢◌, ℤ, pos, negsuc, ◌-ℤ◌, nat_eq, nat_lt, nat_le}
use Rattle.std.specs.Ordering.{int_eq, is_eq}
use Rattle.gm_value.specs.declared.faults.FaultKind.TheVariants.{Overflow}
use Rattle.std.proofs.lemmas.Bool.{lt-ltb, ltb-true, le-leb, leb-true, eq-eqb, cases_lt}
use Rattle.gm_value.specs.declared.values.VType.TheVariants as V
use Rattle.gm_value.specs.declared.values.Value.{Value}
use Rattle.gm_value.specs.declared.values.Value.TheVariants.{I32, Flag}
use Rattle.gm_value.specs.declared.operations.Op2.TheVariants.{Add, Sub, Eq}
use Rattle.gm_value.specs.Numbers.{checked}
use Rattle.gm_value.specs.Operations.{result2}
use Rattle.gm_semantics.specs.Levels.{is_level, is_next}
use Rattle.gm_semantics.proofs.TargetLaws.{never}
use Rattle.gm_forms.proofs.ReadingFrames.{nat_eq-apart}

-- numbers
pub not-less : (a b : ℕ) → b ≤ a → nat_lt a b ≡ false
not-less a b h = grind (arith)

both-not : (a b : ℕ) → nat_lt a b ≡ false → nat_lt b a ≡ false → a ≡ b
both-not a b e h = ⊎_elim (λ (l : a < b). never (lt-ltb a b l) e) (λ (l : b ≤ a). ⊎_elim (λ (m : b < a). never (lt-ltb b a m) h) (λ (m : a ≤ b). omega arith) (cases_lt b a)) (cases_lt a b)

past : (l c : ℕ) → nat_le l c ≡ false → c < l
past l c e = ⊎_elim (λ (m : c < l). m) (λ (m : l ≤ c). never (le-leb l c m) e) (cases_lt c l)

pub not-at-most : (a b : ℕ) → b < a → nat_le a b ≡ false
not-at-most a b h = grind (arith)

pub int_eq-pos : (a b : ℕ) → int_eq (pos a) (pos b) ≡ nat_eq a b
int_eq-pos a b = by (nat_lt a b) (nat_lt b a) refl refl
  where
    by : (c d : Bool) → nat_lt a b ≡ c → nat_lt b a ≡ d → is_eq (cond c Less (cond d Greater Equal)) ≡ nat_eq a b
    by true d e h = let l = ltb-true a b e in sym (nat_eq-apart a b (λ k. omega arith))
    by false true e h = let l = ltb-true b a h in sym (nat_eq-apart a b (λ k. omega arith))
    by false false e h = sym (eq-eqb a b (both-not a b e h))

pub eq-suc : (a b : ℕ) → nat_eq (suc a) (suc b) ≡ nat_eq a b
eq-suc a b = grind (arith)

pub eq-sym : (a b : ℕ) → nat_eq a b ≡ nat_eq b a
eq-sym a b = grind (arith)

pub in-range : (n : ℕ) → n ≤ 2147483647 → checked V.I32 (pos n) ≡ Ok (I32 (pos n))
in-range n h = ap (λ c. cond c (Ok (I32 (pos n))) (Err Overflow)) (le-leb n 2147483647 h)

pub one-more : (j : ℕ) → suc j ≤ 2147483647 → result2 Add (I32 (pos j)) (I32 (pos 1)) ≡ Ok (I32 (pos (suc j)))
one-more j h = let is : j + 1 ≡ suc j = omega arith in ap (λ n. checked V.I32 (pos n)) is ∙ in-range (suc j) h

-- the number before another, which is -1 before 0
abbrev pub before : ℕ → ℤ
before zero = negsuc 0
before (suc i) = pos i

before-is : (j : ℕ) → pos j -ℤ pos 1 ≡ before j
before-is zero = refl
before-is (suc i) =
    let past : nat_lt (suc i) 1 ≡ false = not-less (suc i) 1 (omega arith) in
    let is : suc i - 1 ≡ i = omega arith in
    ap (λ c. cond c (negsuc (1 - suc (suc i))) (pos (suc i - 1))) past ∙ ap pos is

before-fits : (j : ℕ) → j ≤ 2147483647 → checked V.I32 (before j) ≡ Ok (I32 (before j))
before-fits zero h = refl
before-fits (suc i) h = in-range i (omega arith)

pub one-less : (j : ℕ) → j ≤ 2147483647 → result2 Sub (I32 (pos j)) (I32 (pos 1)) ≡ Ok (I32 (before j))
one-less j h = ap (checked V.I32) (before-is j) ∙ before-fits j h

-- what the property holds of a level, where those up to one are found
abbrev pub cell : ℕ → Option ℕ → Value
cell c None = I32 (pos 2147483647)
cell c (Some l) = cond (nat_le l c) (I32 (pos l)) (I32 (pos 2147483647))

abbrev pub is_found : ℕ → Option ℕ → Bool
is_found c None = false
is_found c (Some l) = nat_le l c

-- whether it is a level
pub cell-is : (c i : ℕ) (o : Option ℕ) → i ≤ c → (is_found c o ≡ false → i < 2147483647) → result2 Eq (cell c o) (I32 (pos i)) ≡ Ok (Flag (is_level o i))
cell-is c i None low few = let less = few refl in ap (λ b. Ok (Flag b)) (int_eq-pos 2147483647 i ∙ nat_eq-apart 2147483647 i (λ e. omega arith))
cell-is c i (Some l) low few = by (nat_le l c) refl
  where
    by : (b : Bool) → nat_le l c ≡ b → result2 Eq (cond b (I32 (pos l)) (I32 (pos 2147483647))) (I32 (pos i)) ≡ Ok (Flag (nat_eq l i))
    by true e = ap (λ b. Ok (Flag b)) (int_eq-pos l i)
    by false e =
        let less = few e in
        let far : c < l = past l c e in
        ap (λ b. Ok (Flag b)) (int_eq-pos 2147483647 i ∙ nat_eq-apart 2147483647 i (λ e. omega arith) ∙ sym (nat_eq-apart l i (λ e. omega arith)))

-- whether it is the level above one
pub cell-above : (c j : ℕ) (o : Option ℕ) → j ≤ suc c → (is_found c o ≡ false → j < 2147483647) → result2 Eq (cell c o) (I32 (before j)) ≡ Ok (Flag (is_next o (Some j)))
cell-above c zero o low few = by o
  where
    none-before : (l : ℕ) → nat_eq (suc l) 0 ≡ false
    none-before l = nat_eq-apart (suc l) 0 (λ e. omega arith)

    by : (o : Option ℕ) → result2 Eq (cell c o) (I32 (negsuc 0)) ≡ Ok (Flag (is_next o (Some 0)))
    by None = refl
    by (Some l) = two (nat_le l c)
      where
        two : (b : Bool) → result2 Eq (cond b (I32 (pos l)) (I32 (pos 2147483647))) (I32 (negsuc 0)) ≡ Ok (Flag (nat_eq (suc l) 0))
        two true = ap (λ b. Ok (Flag b)) (sym (none-before l))
        two false = ap (λ b. Ok (Flag b)) (sym (none-before l))
cell-above c (suc i) o low few =
    let less : i ≤ c = omega arith in
    cell-is c i o less (λ e. let f = few e in omega arith) ∙ ap (λ b. Ok (Flag b)) (next o)
  where
    next : (o : Option ℕ) → is_level o i ≡ is_next o (Some (suc i))
    next None = refl
    next (Some l) = sym (eq-suc l i)

-- or the one below
pub cell-below : (c j : ℕ) (o : Option ℕ) → suc j ≤ c → (is_found c o ≡ false → suc j < 2147483647) → result2 Eq (cell c o) (I32 (pos (suc j))) ≡ Ok (Flag (is_next (Some j) o))
cell-below c j o low few = cell-is c (suc j) o low few ∙ ap (λ b. Ok (Flag b)) (next o)
  where
    next : (o : Option ℕ) → is_level o (suc j) ≡ is_next (Some j) o
    next None = refl
    next (Some l) = eq-sym l (suc j)

-- the cell stays where the next level is another
pub cell-same : (c : ℕ) (o : Option ℕ) → is_level o (suc c) ≡ false → cell (suc c) o ≡ cell c o
cell-same c None h = refl
cell-same c (Some l) h = ap (λ b. cond b (I32 (pos l)) (I32 (pos 2147483647))) (by (nat_le l c) refl)
  where
    by : (b : Bool) → nat_le l c ≡ b → nat_le l (suc c) ≡ b
    by true e = let b = leb-true l c e in le-leb l (suc c) (omega arith)
    by false e =
        let far = past l c e in
        let not : l ≢ suc c = λ k. never (eq-eqb l (suc c) k) h in
        not-at-most l (suc c) (further l c far not)
      where
        further : (l c : ℕ) → c < l → l ≢ suc c → suc c < l
        further l c a b = ⊎_elim (λ (m : suc c < l). m) (λ (n : l ≤ suc c). absurd (b (omega arith))) (cases_lt (suc c) l)

pub cell-found : (c l : ℕ) → l ≤ c → cell c (Some l) ≡ I32 (pos l)
cell-found c l h = ap (λ b. cond b (I32 (pos l)) (I32 (pos 2147483647))) (le-leb l c h)

pub cell-far : (c l : ℕ) → c < l → cell c (Some l) ≡ I32 (pos 2147483647)
cell-far c l h = ap (λ b. cond b (I32 (pos l)) (I32 (pos 2147483647))) (not-at-most l c h)
