-- The numbers of a tuple as values of held slots, one after another.
use Rattle.std.proofs.Common.{◌≡◌, ℕ, ◌+◌, zero, suc, ◌<◌, ◌≤◌, List, [], ◌∷◌, ◌++◌, length, drop, get_or, map, refl, sym, ap, subst, ◌∙◌, arith, append_assoc, ℤ, Option, Some, None, Ok, Err}
use Rattle.std.proofs.lemmas.List.{length-map, get_or-map}
use Rattle.gm_value.specs.declared.values.Value.{Value}
use Rattle.gm_value.specs.declared.faults.FaultKind.{FaultKind}
use Rattle.gm_value.specs.Numbers.{number_of, type_of, checked}
use Rattle.gm_value.specs.Tuples.{with_value, values_at}
use Rattle.gm_totals.specs.Pots.{before}

-- what comes behind some values, if it is there
abbrev pub after : List Value → Option (List Value) → Option (List Value)
after vs None = None
after vs (Some rest) = Some (vs ++ rest)

after-more : (vs : List Value) (v : Value) (o : Option (List Value)) → after vs (before (Some v) o) ≡ after (vs ++ v ∷ []) o
after-more vs v None = refl
after-more vs v (Some rest) = ap Some (sym (append_assoc vs (v ∷ []) rest))

drop-next : {A : Type 0} (xs : List A) (i : ℕ) (d : A) → i < length xs → drop i xs ≡ get_or xs i d ∷ drop (suc i) xs
drop-next [] i d h = absurd (empty (omega (arith, h)))
  where
    empty : ⊥ → ⊥
    empty e = e
drop-next (x ∷ xs) zero d h = refl
drop-next (x ∷ xs) (suc i) d h = let less : i < length xs = omega (arith, h) in drop-next xs i d less

pub drop-here : {A : Type 0} (xs : List A) (i : ℕ) (d : A) → i < length xs → drop i xs ≡ get_or xs i d ∷ drop (i + 1) xs
drop-here xs i d h = let next : suc i ≡ i + 1 = omega arith in drop-next xs i d h ∙ ap (λ n. get_or xs i d ∷ drop n xs) next

pub drop-past : {A : Type 0} (xs : List A) (i : ℕ) → length xs ≤ i → drop i xs ≡ []
drop-past [] zero h = refl
drop-past [] (suc i) h = refl
drop-past (x ∷ xs) zero h = absurd (empty (omega (arith, h)))
  where
    empty : ⊥ → ⊥
    empty e = e
drop-past (x ∷ xs) (suc i) h = let less : length xs ≤ i = omega (arith, h) in drop-past xs i less

with-before : (v : Value) (o : Option (List Value)) → with_value (Ok v) o ≡ before (Some v) o
with-before v None = refl
with-before v (Some vs) = refl

-- a number in its slot's range
pub value-in : (held v : Value) (tuple : List Value) (k : ℕ) (d : Value) → k < length tuple → checked (type_of held) (number_of (get_or tuple k d)) ≡ Ok v → (rest : List Value)
    → values_at (held ∷ rest) (drop k (map number_of tuple)) ≡ before (Some v) (values_at rest (drop (k + 1) (map number_of tuple)))
value-in held v tuple k d h is rest =
    let within : k < length (map number_of tuple) = subst (λ n. k < n) (sym (length-map tuple number_of)) h in
    ap (values_at (held ∷ rest)) (drop-here (map number_of tuple) k (number_of d) within)
    ∙ ap (λ n. with_value (checked (type_of held) n) (values_at rest (drop (k + 1) (map number_of tuple)))) (get_or-map number_of tuple k d (number_of d) h)
    ∙ ap (λ r. with_value r (values_at rest (drop (k + 1) (map number_of tuple)))) is ∙ with-before v (values_at rest (drop (k + 1) (map number_of tuple)))

-- a number out of its slot's range
pub value-out : (held : Value) (tuple : List Value) (k : ℕ) (d : Value) (e : FaultKind) → k < length tuple
    → checked (type_of held) (number_of (get_or tuple k d)) ≡ Err e → (rest : List Value)
    → values_at (held ∷ rest) (drop k (map number_of tuple)) ≡ before None (values_at rest (drop (k + 1) (map number_of tuple)))
value-out held tuple k d e h is rest =
    let within : k < length (map number_of tuple) = subst (λ n. k < n) (sym (length-map tuple number_of)) h in
    ap (values_at (held ∷ rest)) (drop-here (map number_of tuple) k (number_of d) within)
    ∙ ap (λ n. with_value (checked (type_of held) n) (values_at rest (drop (k + 1) (map number_of tuple)))) (get_or-map number_of tuple k d (number_of d) h)
    ∙ ap (λ r. with_value r (values_at rest (drop (k + 1) (map number_of tuple)))) is

-- behind the tuple's end
stays : (rest : List Value) → values_at rest [] ≡ Some rest
stays [] = refl
stays (v ∷ rest) = refl

pub value-past : (held : Value) (tuple : List Value) (k : ℕ) → length tuple ≤ k → (rest : List Value)
    → values_at (held ∷ rest) (drop k (map number_of tuple)) ≡ before (Some held) (values_at rest (drop (k + 1) (map number_of tuple)))
value-past held tuple k h rest =
    let past : length (map number_of tuple) ≤ k = subst (λ n. n ≤ k) (sym (length-map tuple number_of)) h in
    let further : length (map number_of tuple) ≤ k + 1 = omega (arith, past) in
    ap (values_at (held ∷ rest)) (drop-past (map number_of tuple) k past)
    ∙ sym (ap (before (Some held)) (ap (values_at rest) (drop-past (map number_of tuple) (k + 1) further) ∙ stays rest))

-- the values so far
abbrev pub AreSoFar : List Value → List ℤ → ℕ → List Value → Type 0
AreSoFar held tuple k values = values_at held tuple ≡ after values (values_at (drop k held) (drop k tuple))

pub far-none : (held : List Value) (tuple : List ℤ) → AreSoFar held tuple 0 []
far-none held tuple = by (values_at held tuple)
  where
    by : (o : Option (List Value)) → o ≡ after [] o
    by None = refl
    by (Some vs) = refl

pub far-more : (held : List Value) (tuple : List ℤ) (k : ℕ) (values : List Value) (h v d : Value) → k < length held → h ≡ get_or held k d → AreSoFar held tuple k values
    → ((rest : List Value) → values_at (h ∷ rest) (drop k tuple) ≡ before (Some v) (values_at rest (drop (k + 1) tuple))) → AreSoFar held tuple (k + 1) (values ++ v ∷ [])
far-more held tuple k values h v d within is far step =
    far ∙ ap (λ l. after values (values_at l (drop k tuple))) (drop-here held k d within ∙ ap (λ x. x ∷ drop (k + 1) held) (sym is))
    ∙ ap (after values) (step (drop (k + 1) held)) ∙ after-more values v (values_at (drop (k + 1) held) (drop (k + 1) tuple))

pub far-out : (held : List Value) (tuple : List ℤ) (k : ℕ) (values : List Value) (h d : Value) → k < length held → h ≡ get_or held k d → AreSoFar held tuple k values
    → ((rest : List Value) → values_at (h ∷ rest) (drop k tuple) ≡ before None (values_at rest (drop (k + 1) tuple))) → None ≡ values_at held tuple
far-out held tuple k values h d within is far step =
    sym (far ∙ ap (λ l. after values (values_at l (drop k tuple))) (drop-here held k d within ∙ ap (λ x. x ∷ drop (k + 1) held) (sym is))
    ∙ ap (after values) (step (drop (k + 1) held)))

pub far-all : (held : List Value) (tuple : List ℤ) (k : ℕ) (values : List Value) → length held ≤ k → AreSoFar held tuple k values → Some values ≡ values_at held tuple
far-all held tuple k values past far =
    sym (far ∙ ap (λ l. after values (values_at l (drop k tuple))) (drop-past held k past) ∙ ap Some (append_nil values))
  where
    append_nil : (xs : List Value) → xs ++ [] ≡ xs
    append_nil [] = refl
    append_nil (x ∷ xs) = ap (λ l. x ∷ l) (append_nil xs)
