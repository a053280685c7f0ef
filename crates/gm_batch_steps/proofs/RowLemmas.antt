-- Values written at rows, and what holds of the rows of a list.
use Rattle.std.proofs.Common.{◌≡◌, ◌≢◌, ◌∙◌, ◌<◌, ◌≤◌, ◌+◌, ℕ, zero, suc, Bool, true, false, List, [], ◌∷◌, Option, Some, None, refl, ap, sym, subst, map, length, drop, get_or, set, arith, length-set}
use Rattle.std.specs.Prelude.{Result, Ok, Err}
use Rattle.std.specs.List.{AllByRecursion, AllZip, range_with_len}
use Rattle.std.proofs.lemmas.List.{get_or-set_same, get_or-set_other}
use Rattle.std.proofs.lemmas.Option.{none-some, same_Some}
use Rattle.gm_value.specs.declared.values.Value.{Value}
use Rattle.gm_image.specs.Term.{Term}
use Rattle.gm_kernels.specs.Pointwise.{before, held, left_out, written_at}
use Rattle.gm_machine.specs.declared.faults.Fault.{Fault}
use Rattle.gm_machine.specs.Expressions.{View, value}
use Rattle.gm_batches.specs.ValuesIn.{unless_fault, values_in}
use Rattle.gm_batch_steps.specs.BatchStates.{AreDistinct}

-- what holds of each
pub each-weaker : {A : Type 0} {P Q : A → Type 0} → ((a : A) → P a → Q a) → (xs : List A) → AllByRecursion P xs → AllByRecursion Q xs
each-weaker f [] h = tt
each-weaker f (x ∷ xs) h = (f x h.0, each-weaker f xs h.1)

pub each-both : {A : Type 0} {P Q R : A → Type 0} → ((a : A) → P a → Q a → R a) → (xs : List A) → AllByRecursion P xs → AllByRecursion Q xs → AllByRecursion R xs
each-both f [] h k = tt
each-both f (x ∷ xs) h k = (f x h.0 k.0, each-both f xs h.1 k.1)

pub each-held : {A : Type 0} (P : A → Type 0) (cs : List Bool) (xs : List A) → AllByRecursion P xs → AllByRecursion P (held cs xs)
each-held P [] xs h = tt
each-held P (true ∷ cs) [] h = tt
each-held P (false ∷ cs) [] h = tt
each-held P (true ∷ cs) (x ∷ xs) h = (h.0, each-held P cs xs h.1)
each-held P (false ∷ cs) (x ∷ xs) h = each-held P cs xs h.1

pub each-left : {A : Type 0} (P : A → Type 0) (cs : List Bool) (xs : List A) → AllByRecursion P xs → AllByRecursion P (left_out cs xs)
each-left P [] xs h = tt
each-left P (true ∷ cs) [] h = tt
each-left P (false ∷ cs) [] h = tt
each-left P (true ∷ cs) (x ∷ xs) h = each-left P cs xs h.1
each-left P (false ∷ cs) (x ∷ xs) h = (h.0, each-left P cs xs h.1)

-- rows that are parted
pub distinct-held : (cs : List Bool) (rows : List ℕ) → AreDistinct rows → AreDistinct (held cs rows)
distinct-held [] rows h = tt
distinct-held (true ∷ cs) [] h = tt
distinct-held (false ∷ cs) [] h = tt
distinct-held (true ∷ cs) (r ∷ rows) h = (each-held _ cs rows h.0, distinct-held cs rows h.1)
distinct-held (false ∷ cs) (r ∷ rows) h = distinct-held cs rows h.1

pub apart : (cs : List Bool) (rows : List ℕ) → AreDistinct rows → AllByRecursion (λ row. AllByRecursion (λ r. r ≢ row) (held cs rows)) (left_out cs rows)
apart [] rows h = tt
apart (true ∷ cs) [] h = tt
apart (false ∷ cs) [] h = tt
apart (true ∷ cs) (r ∷ rows) h =
    each-both (λ row other more. ((λ e. other (sym e)), more)) (left_out cs rows) (each-left _ cs rows h.0) (apart cs rows h.1)
apart (false ∷ cs) (r ∷ rows) h = (each-held _ cs rows h.0, apart cs rows h.1)

-- rows from one on, each once
from-on : (a b n : ℕ) → a < b → AllByRecursion (λ r. r ≢ a) (range_with_len b n)
from-on a b zero h = tt
from-on a b (suc n) h = ((λ e. omega (arith, h, e)), from-on a (b + 1) n (omega (arith, h)))

pub range-distinct : (a n : ℕ) → AreDistinct (range_with_len a n)
range-distinct a zero = tt
range-distinct a (suc n) = (from-on a (a + 1) n (omega arith), range-distinct (a + 1) n)

pub range-below : (a n top : ℕ) → a + n ≤ top → AllByRecursion (λ r. r < top) (range_with_len a n)
range-below a zero top h = tt
range-below a (suc n) top h = (omega (arith, h), range-below (a + 1) n top (omega (arith, h)))

pub range-at : (P : ℕ → Type 0) (a n k : ℕ) → k < n → AllByRecursion P (range_with_len a n) → P (a + k)
range-at P a zero k h all = absurd (omega (arith, h))
range-at P a (suc n) zero h all = subst P (omega arith) all.0
range-at P a (suc n) (suc k) h all = subst P (omega arith) (range-at P (a + 1) n k (omega (arith, h)) all.1)

-- values written at rows: these have them, and the others what they had
pub written-other : {A : Type 0} (xs : List A) (rows : List ℕ) (ys : List A) (row : ℕ) (d : A) → AllByRecursion (λ r. r ≢ row) rows
    → get_or (written_at xs rows ys) row d ≡ get_or xs row d
written-other xs [] ys row d h = refl
written-other xs (r ∷ rows) [] row d h = refl
written-other xs (r ∷ rows) (y ∷ ys) row d h = written-other (set xs r y) rows ys row d h.1 ∙ get_or-set_other xs r row y d (λ e. h.0 (sym e))

pub written-here : {A : Type 0} (xs : List A) (rows : List ℕ) (ys : List A) (d : A) → length ys ≡ length rows → AllByRecursion (λ r. r < length xs) rows → AreDistinct rows
    → AllZip (λ row y. get_or (written_at xs rows ys) row d ≡ y) rows ys
written-here xs [] [] d e w h = tt
written-here xs [] (y ∷ ys) d e w h = absurd (omega (arith, e))
written-here xs (r ∷ rows) [] d e w h = absurd (omega (arith, e))
written-here xs (r ∷ rows) (y ∷ ys) d e w h = (
  written-other (set xs r y) rows ys r d h.0 ∙ get_or-set_same xs r y d w.0,
  written-here (set xs r y) rows ys d (omega (arith, e)) (subst (λ n. AllByRecursion (λ k. k < n) rows) (sym (length-set xs r y)) w.1) h.1,
)

-- the values of an expression, row by row
before-cons : (o : Option Value) (more : Option (List Value)) (x : Value) (xs : List Value) → before o more ≡ Some (x ∷ xs) → (o ≡ Some x) × (more ≡ Some xs)
before-cons None more x xs e = absurd (none-some (x ∷ xs) e)
before-cons (Some v) None x xs e = absurd (none-some (x ∷ xs) e)
before-cons (Some v) (Some vs) x xs e =
    let same = same_Some (v ∷ vs) (x ∷ xs) e in
    (ap (λ l. Some (get_or l 0 x)) same, ap (λ l. Some (drop 1 l)) same)

before-nil : (o : Option Value) (more : Option (List Value)) → before o more ≡ Some [] → ⊥
before-nil None more e = none-some [] e
before-nil (Some v) None e = none-some [] e
before-nil (Some v) (Some vs) e = let same = same_Some (v ∷ vs) [] e in omega (arith, ap length same)

no-fault : (r : Result Value Fault) (v : Value) → unless_fault r ≡ Some v → r ≡ Ok v
no-fault (Ok w) v e = ap (λ x. Ok x) (same_Some w v e)
no-fault (Err f) v e = absurd (none-some v e)

pub row-values : {A : Type 0} (view : A → View) (a : Term) (rows : List A) (ys : List Value) → values_in (map view rows) a ≡ Some ys → AllZip (λ row y. value (view row) a ≡ Ok y) rows ys
row-values view a [] [] e = tt
row-values view a [] (y ∷ ys) e = let same = same_Some [] (y ∷ ys) e in absurd (omega (arith, ap length same))
row-values view a (r ∷ rows) [] e = absurd (before-nil _ _ e)
row-values view a (r ∷ rows) (y ∷ ys) e =
    let parts = before-cons (unless_fault (value (view r) a)) (values_in (map view rows) a) y ys e in
    (no-fault (value (view r) a) y parts.0, row-values view a rows ys parts.1)

pub zip-at : {A B : Type 0} (P : A → B → Type 0) (xs : List A) (ys : List B) (k : ℕ) (a : A) (b : B) → AllZip P xs ys → k < length xs → P (get_or xs k a) (get_or ys k b)
zip-at P [] ys k a b h lt = absurd (omega (arith, lt))
zip-at P (x ∷ xs) [] k a b h lt = absurd h
zip-at P (x ∷ xs) (y ∷ ys) zero a b h lt = h.0
zip-at P (x ∷ xs) (y ∷ ys) (suc k) a b h lt = zip-at P xs ys k a b h.1 (omega (arith, lt))

pub zip-length : {A B : Type 0} (P : A → B → Type 0) (xs : List A) (ys : List B) → AllZip P xs ys → length ys ≡ length xs
zip-length P [] [] h = refl
zip-length P [] (y ∷ ys) h = absurd h
zip-length P (x ∷ xs) [] h = absurd h
zip-length P (x ∷ xs) (y ∷ ys) h = ap suc (zip-length P xs ys h.1)
