-- What holds of each of some holds of what is made of them; and what holds of an answer, if it is one.
use mathlib.Core.List.{reverse_aux}
use Rattle.std.proofs.Common.{◌≡◌, ◌+◌, ℕ, suc, Bool, true, false, cond, List, [], ◌∷◌, ◌++◌, map, refl, arith, Option, Some, None, Result, Ok, Err, IfOk}
use Rattle.std.specs.Prelude.{filter, All, if◌then◌else◌, reverse}
use Rattle.std.specs.List.{enumerate_from}
use Rattle.gm_semantics.specs.declared.faults.Fault.{Fault}
use Rattle.gm_semantics.specs.Faults.{then_with, unless_fault, oks, joined}
use Rattle.gm_typed_stores.specs.Values.{Each}

pub each-map : {A B : Type 0} (P : B → Type 0) (f : A → B) (xs : List A) → Each (λ x. P (f x)) xs → Each P (map f xs)
each-map P f [] h = tt
each-map P f (x ∷ xs) h = (h.0, each-map P f xs h.1)

pub each-weaker : {A : Type 0} (P Q : A → Type 0) (xs : List A) → ((x : A) → P x → Q x) → Each P xs → Each Q xs
each-weaker P Q [] f h = tt
each-weaker P Q (x ∷ xs) f h = (f x h.0, each-weaker P Q xs f h.1)

pub each-append : {A : Type 0} (P : A → Type 0) (xs ys : List A) → Each P xs → Each P ys → Each P (xs ++ ys)
each-append P [] ys h k = k
each-append P (x ∷ xs) ys h k = (h.0, each-append P xs ys h.1 k)

pub each-joined : {A : Type 0} (P : A → Type 0) (xss : List (List A)) → Each (Each P) xss → Each P (joined xss)
each-joined P [] h = tt
each-joined P (xs ∷ xss) h = each-append P xs (joined xss) h.0 (each-joined P xss h.1)

pub each-filter : {A : Type 0} (P : A → Type 0) (f : A → Bool) (xs : List A) → Each P xs → Each (λ x. P x × (f x ≡ true)) (filter f xs)
each-filter P f [] h = tt
each-filter {A = A} P f (x ∷ xs) h = by (f x) refl (each-filter P f xs h.1)
  where
    by : (b : Bool) → f x ≡ b → Each (λ y. P y × (f y ≡ true)) (filter f xs) → Each (λ y. P y × (f y ≡ true)) (cond b (x ∷ filter f xs) (filter f xs))
    by true e rest = ((h.0, e), rest)
    by false e rest = rest

pub each-kept : {A : Type 0} (P : A → Type 0) (f : A → Bool) (xs : List A) → Each P xs → Each P (filter f xs)
each-kept P f xs h = each-weaker (λ x. P x × (f x ≡ true)) P (filter f xs) (λ x p. p.0) (each-filter P f xs h)

pub each-any : {A : Type 0} (xs : List A) → Each (λ x. Unit {0}) xs
each-any [] = tt
each-any (x ∷ xs) = (tt, each-any xs)

pub each-all : {A : Type 0} (P : A → Type 0) (xs : List A) → All P xs → Each P xs
each-all P [] h = tt
each-all P (x ∷ xs) h = (h 0 x (omega arith), each-all P xs (λ k d lt. h (suc k) d (omega arith)))

pub each-numbered : {A : Type 0} (P : A → Type 0) (n : ℕ) (xs : List A) → Each P xs → Each (λ e. P e.1) (enumerate_from n xs)
each-numbered P n [] h = tt
each-numbered P n (x ∷ xs) h = (h.0, each-numbered P (n + 1) xs h.1)

each-onto : {A : Type 0} (P : A → Type 0) (xs ys : List A) → Each P xs → Each P ys → Each P (reverse_aux xs ys)
each-onto P [] ys h k = k
each-onto P (x ∷ xs) ys h k = each-onto P xs (x ∷ ys) h.1 (h.0, k)

pub each-reverse : {A : Type 0} (P : A → Type 0) (xs : List A) → Each P xs → Each P (reverse xs)
each-reverse P xs h = each-onto P xs [] h tt

-- ---- answers

pub if-then : {A B : Type 0} (P : A → Type 0) (Q : B → Type 0) (r : Result A Fault) (f : A → Result B Fault) → IfOk r P → ((a : A) → P a → IfOk (f a) Q) → IfOk (then_with r f) Q
if-then P Q (Ok a) f h k = k a h
if-then P Q (Err e) f h k = tt

pub if-unless : {A : Type 0} (P : A → Type 0) (o : Option Fault) (r : Result A Fault) → IfOk r P → IfOk (unless_fault o r) P
if-unless P (Some f) r h = tt
if-unless P None r h = h

pub if-weaker : {A E : Type 0} (P Q : A → Type 0) (r : Result A E) → ((a : A) → P a → Q a) → IfOk r P → IfOk r Q
if-weaker P Q (Ok a) f h = f a h
if-weaker P Q (Err e) f h = tt

pub each-oks : {A : Type 0} (P : A → Type 0) (rs : List (Result A Fault)) → Each (λ r. IfOk r P) rs → Each P (oks rs)
each-oks P [] h = tt
each-oks P (Ok a ∷ rs) h = (h.0, each-oks P rs h.1)
each-oks P (Err f ∷ rs) h = each-oks P rs h.1

pub if-value : {A : Type 0} (P : A → Type 0) (b : Bool) (v u : A) → (b ≡ true → P v) → (b ≡ false → P u) → P (if b then v else u)
if-value P true v u h k = h refl
if-value P false v u h k = k refl
