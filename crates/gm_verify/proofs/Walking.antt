-- Walks over the lines of a text: one step, a section, and where they stop.
use Rattle.std.proofs.Common.{◌≡◌, ◌+◌, ◌<◌, ◌≤◌, ℕ, suc, List, [], ◌∷◌, ◌++◌, length, Option, Some, None, Result, Ok, Err, refl, sym, ap, subst, ◌∙◌, arith, length-append}
use Rattle.std.specs.Prelude.{IsErrAnd}
use Rattle.std.proofs.lemmas.Result.{err_from_is_err_and}
use Rattle.gm_image.specs.declared.rules.ImageRule.{ImageRule}
use Rattle.gm_image.specs.declared.rules.Broken.{Broken}
use Rattle.gm_image.specs.Program.{Program}
use Rattle.gm_image.specs.Rows.{Row, Plain, plain_rows}
use Rattle.gm_image.specs.Soundness.{broken_rule, broken_or, broken_from}
use Rattle.gm_verify.specs.declared.stops.VerifyStop.{VerifyStop}
use Rattle.gm_verify.specs.declared.stops.VerifyStop.TheVariants as stop
use Rattle.gm_verify.specs.Checks.{Steps, Checks, Walks}

-- a walk begins at the first line
pub walks-start : (p : Program) (n : ℕ) (all : List Row) → Walks p n all n all
walks-start p n all = record { same = refl; count = refl }

-- it goes on behind a line that breaks no rule
pub walks-next : (p : Program) (n : ℕ) (all : List Row) (m next : ℕ) (row : Row) (rest : List Row) (rule : Option ImageRule)
    → Walks p n all m (row ∷ rest) → rule ≡ broken_rule p row → rule ≡ None → next ≡ m + 1 → Walks p n all next rest
walks-next p n all m next row rest rule w is none at =
    let after : suc m ≡ next = omega (arith, at) in
    let count : m + length (row ∷ rest) ≡ next + length rest = omega (arith, at) in
    record {
      same = w.same ∙ ap (λ (r : Option ImageRule). broken_or r m (broken_from p (suc m) rest)) (sym is ∙ none) ∙ ap (λ (k : ℕ). broken_from p k rest) after;
      count = w.count ∙ count;
    }

-- it stops at a line that breaks a rule
pub walks-stop : (p : Program) (n : ℕ) (all : List Row) (m : ℕ) (row : Row) (rest : List Row) (rule : Option ImageRule)
    → Walks p n all m (row ∷ rest) → rule ≡ broken_rule p row → (e : VerifyStop) → Steps rule m (Err e) → Checks p n all (Err e)
walks-stop p n all m row rest rule w is (stop.Broken r line) s =
    w.same ∙ ap (λ (o : Option ImageRule). broken_or o m (broken_from p (suc m) rest)) (sym is ∙ s.0)
    ∙ ap (λ (k : ℕ). let b : Broken = record { rule = r; line = k } in Some b) (sym s.1)
walks-stop p n all m row rest rule w is stop.NoMemory s = tt

-- it ends behind the last line
pub walks-end : (p : Program) (n : ℕ) (all : List Row) (m : ℕ) → Walks p n all m [] → Checks p n all (Ok m)
walks-end p n all m w =
    let count : m ≡ n + length all = omega (arith, w.count) in
    (w.same, count)

-- what is broken first in two sections, of which the first is whole
from-append : (p : Program) (xs ys : List Row) (m : ℕ) → broken_from p m xs ≡ None → broken_from p m (xs ++ ys) ≡ broken_from p (m + length xs) ys
from-append p [] ys m none =
    let at : m ≡ m + length {A = Row} [] = omega arith in
    ap (λ (k : ℕ). broken_from p k ys) at
from-append p (x ∷ xs) ys m none = by (broken_rule p x) (from-append p xs ys (suc m)) none
  where
    by : (r : Option ImageRule) → (broken_from p (suc m) xs ≡ None → broken_from p (suc m) (xs ++ ys) ≡ broken_from p (suc m + length xs) ys)
        → broken_or r m (broken_from p (suc m) xs) ≡ None
        → broken_or r m (broken_from p (suc m) (xs ++ ys)) ≡ broken_from p (m + length (x ∷ xs)) ys
    by None rest h =
        let at : suc m + length xs ≡ m + length (x ∷ xs) = omega arith in
        rest h ∙ ap (λ (k : ℕ). broken_from p k ys) at
    by (Some r) rest h = absurd cc

-- what is broken in the first of two sections
from-first : (p : Program) (xs ys : List Row) (m : ℕ) (b : Broken) → broken_from p m xs ≡ Some b → broken_from p m (xs ++ ys) ≡ Some b
from-first p [] ys m b h = absurd cc
from-first p (x ∷ xs) ys m b h = by (broken_rule p x) (from-first p xs ys (suc m) b) h
  where
    by : (r : Option ImageRule) → (broken_from p (suc m) xs ≡ Some b → broken_from p (suc m) (xs ++ ys) ≡ Some b)
        → broken_or r m (broken_from p (suc m) xs) ≡ Some b → broken_or r m (broken_from p (suc m) (xs ++ ys)) ≡ Some b
    by None rest h = rest h
    by (Some r) rest h = h

-- a walk goes on behind a section that breaks no rule
pub walks-section : (p : Program) (n : ℕ) (all : List Row) (m next : ℕ) (xs ys : List Row)
    → Walks p n all m (xs ++ ys) → Checks p m xs (Ok next) → Walks p n all next ys
walks-section p n all m next xs ys w c =
    let count : m + length (xs ++ ys) ≡ next + length ys = omega (arith, c.1, length-append xs ys) in
    record {
      same = w.same ∙ from-append p xs ys m c.0 ∙ ap (λ (k : ℕ). broken_from p k ys) (sym c.1);
      count = w.count ∙ count;
    }

-- and stops in one that does
pub walks-broken : (p : Program) (n : ℕ) (all : List Row) (m : ℕ) (xs ys : List Row)
    → Walks p n all m (xs ++ ys) → (e : VerifyStop) → Checks p m xs (Err e) → Checks p n all (Err e)
walks-broken p n all m xs ys w (stop.Broken r line) c = w.same ∙ from-first p xs ys m _ c
walks-broken p n all m xs ys w stop.NoMemory c = tt

-- a line that no rule looks at
pub walks-plain : (p : Program) (n : ℕ) (all : List Row) (m : ℕ) (rest : List Row) → Walks p n all m (Plain ∷ rest) → Walks p n all (m + 1) rest
walks-plain p n all m rest w = walks-next p n all m (m + 1) Plain rest None w refl refl refl

-- lines that no rule looks at
pub walks-plains : {A : Type 0} (p : Program) (n : ℕ) (all : List Row) (xs : List A) (m : ℕ) (rest : List Row)
    → Walks p n all m (plain_rows xs ++ rest) → Walks p n all (m + length xs) rest
walks-plains p n all [] m rest w =
    let at : m ≡ m + 0 = omega arith in
    subst (λ (k : ℕ). Walks p n all k rest) at w
walks-plains p n all (x ∷ xs) m rest w =
    let at : m + 1 + length xs ≡ m + length (x ∷ xs) = omega arith in
    subst (λ (k : ℕ). Walks p n all k rest) at (walks-plains p n all xs (m + 1) rest (walks-plain p n all m (plain_rows xs ++ rest) w))

-- the number of a line that is reached
pub walks-room : (p : Program) (n : ℕ) (all : List Row) (m : ℕ) (row : Row) (rest : List Row) → Walks p n all m (row ∷ rest)
    → n + length all ≤ 4294967296 → m < 4294967296
walks-room p n all m row rest w room = omega (arith, w.count, room)

-- the lines of a section that is reached
pub walks-fits : (p : Program) (n : ℕ) (all : List Row) (m : ℕ) (xs ys : List Row) → Walks p n all m (xs ++ ys)
    → n + length all ≤ 4294967296 → m + length xs ≤ 4294967296
walks-fits p n all m xs ys w room = omega (arith, w.count, room, length-append xs ys)

-- an answer that is an error, with what is known of the error
pub stopped : (p : Program) (n : ℕ) (all : List Row) (r : Result ℕ VerifyStop) (e : VerifyStop) → IsErrAnd r (λ d. d ≡ e) → Checks p n all (Err e) → Checks p n all r
stopped p n all r e is checks =
    let q = err_from_is_err_and r is in
    subst (λ (s : Result ℕ VerifyStop). Checks p n all s) (sym (q.1 ∙ ap (λ (d : VerifyStop). Err d) q.2)) checks

-- an answer that memory ran out
pub starved : (p : Program) (n : ℕ) (all : List Row) (r : Result ℕ VerifyStop) → IsErrAnd r (λ d. d ≡ stop.NoMemory) → Checks p n all r
starved p n all r is = stopped p n all r stop.NoMemory is tt
