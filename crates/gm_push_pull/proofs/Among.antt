-- Members of lists, and tests that some member passes.
use Rattle.std.proofs.Common.{◌≡◌, ℕ, Bool, true, false, ◌||◌, cond, List, [], ◌∷◌, ◌++◌, map, refl, sym, ap, subst, ◌∙◌, ◌⊎◌, inl, inr, filter}
use Rattle.std.specs.Prelude.{flat_map, nat_eq}
use Rattle.std.proofs.lemmas.Bool.{false≢true, or_cases, or_left, or_right, eqb-true, eq-eqb}
use Rattle.gm_ast.specs.Loops.{any}
use Rattle.gm_ast.specs.Ways.{is_in}
use Rattle.gm_push_pull.proofs.Ors.{or-assoc}

-- being one of some
abbrev pub Among : {A : Type 0} → A → List A → Type 0
Among x [] = ⊥
Among x (y ∷ ys) = (x ≡ y) ⊎ Among x ys

-- of two lists joined
pub among-left : {A : Type 0} (x : A) (ys zs : List A) → Among x ys → Among x (ys ++ zs)
among-left x [] zs h = absurd h
among-left x (y ∷ ys) zs (inl e) = inl e
among-left x (y ∷ ys) zs (inr h) = inr (among-left x ys zs h)

pub among-right : {A : Type 0} (x : A) (ys zs : List A) → Among x zs → Among x (ys ++ zs)
among-right x [] zs h = h
among-right x (y ∷ ys) zs h = inr (among-right x ys zs h)

pub among-cases : {A : Type 0} (x : A) (ys zs : List A) → Among x (ys ++ zs) → Among x ys ⊎ Among x zs
among-cases x [] zs h = inr h
among-cases x (y ∷ ys) zs (inl e) = inl (inl e)
among-cases x (y ∷ ys) zs (inr h) = on (among-cases x ys zs h)
  where
    on : (Among x ys ⊎ Among x zs) → Among x (y ∷ ys) ⊎ Among x zs
    on (inl k) = inl (inr k)
    on (inr k) = inr k

-- a test that some member passes
pub any-among : {A : Type 0} (f : A → Bool) (x : A) (xs : List A) → Among x xs → f x ≡ true → any f xs ≡ true
any-among f x [] h k = absurd h
any-among f x (y ∷ ys) (inl e) k = or_left (f y) (any f ys) (ap f (sym e) ∙ k)
any-among f x (y ∷ ys) (inr h) k = or_right (f y) (any f ys) (any-among f x ys h k)

pub among-any : {A : Type 0} (f : A → Bool) (xs : List A) → any f xs ≡ true → (x : A) × Among x xs × (f x ≡ true)
among-any f [] h = absurd (false≢true h)
among-any {A} f (x ∷ xs) h = on (among-any f xs) (or_cases (f x) (any f xs) h)
  where
    on : (any f xs ≡ true → (y : A) × Among y xs × (f y ≡ true)) → ((f x ≡ true) ⊎ (any f xs ≡ true)) → (y : A) × Among y (x ∷ xs) × (f y ≡ true)
    on go (inl k) = (x, inl refl, k)
    on go (inr k) = let r = go k in (r.0, inr r.1, r.2)

-- what a filter keeps
pub among-filter : {A : Type 0} (f : A → Bool) (x : A) (xs : List A) → Among x xs → f x ≡ true → Among x (filter f xs)
among-filter f x [] h k = absurd h
among-filter f x (y ∷ ys) (inl e) k = on (f y) (sym (ap f e) ∙ k)
  where
    on : (b : Bool) → b ≡ true → Among x (cond b (y ∷ filter f ys) (filter f ys))
    on true q = inl e
    on false q = absurd (false≢true q)
among-filter f x (y ∷ ys) (inr h) k = on (f y) (among-filter f x ys h k)
  where
    on : (b : Bool) → Among x (filter f ys) → Among x (cond b (y ∷ filter f ys) (filter f ys))
    on true q = inr q
    on false q = q

pub filter-among : {A : Type 0} (f : A → Bool) (x : A) (xs : List A) → Among x (filter f xs) → Among x xs × (f x ≡ true)
filter-among f x [] h = absurd h
filter-among f x (y ∷ ys) h = on (filter-among f x ys) (f y) refl h
  where
    on : (Among x (filter f ys) → Among x ys × (f x ≡ true)) → (b : Bool) → f y ≡ b → Among x (cond b (y ∷ filter f ys) (filter f ys)) → Among x (y ∷ ys) × (f x ≡ true)
    on go true e (inl q) = (inl q, ap f q ∙ e)
    on go true e (inr q) = let r = go q in (inr r.0, r.1)
    on go false e q = let r = go q in (inr r.0, r.1)

-- what a map gives
pub among-map : {A B : Type 0} (g : A → B) (x : A) (xs : List A) → Among x xs → Among (g x) (map g xs)
among-map g x [] h = absurd h
among-map g x (y ∷ ys) (inl e) = inl (ap g e)
among-map g x (y ∷ ys) (inr h) = inr (among-map g x ys h)

pub map-among : {A B : Type 0} (g : A → B) (y : B) (xs : List A) → Among y (map g xs) → (x : A) × Among x xs × (y ≡ g x)
map-among g y [] h = absurd h
map-among g y (x ∷ xs) (inl e) = (x, inl refl, e)
map-among g y (x ∷ xs) (inr h) = let r = map-among g y xs h in (r.0, inr r.1, r.2)

-- what lists joined end to end hold
pub among-flat : {A B : Type 0} (g : A → List B) (x : A) (y : B) (xs : List A) → Among x xs → Among y (g x) → Among y (flat_map g xs)
among-flat g x y [] h k = absurd h
among-flat g x y (z ∷ zs) (inl e) k = among-left y (g z) (flat_map g zs) (subst (λ w. Among y (g w)) e k)
among-flat g x y (z ∷ zs) (inr h) k = among-right y (g z) (flat_map g zs) (among-flat g x y zs h k)

pub flat-among : {A B : Type 0} (g : A → List B) (y : B) (xs : List A) → Among y (flat_map g xs) → (x : A) × Among x xs × Among y (g x)
flat-among g y [] h = absurd h
flat-among {A} g y (x ∷ xs) h = on (flat-among g y xs) (among-cases y (g x) (flat_map g xs) h)
  where
    on : (Among y (flat_map g xs) → (z : A) × Among z xs × Among y (g z)) → (Among y (g x) ⊎ Among y (flat_map g xs)) → (z : A) × Among z (x ∷ xs) × Among y (g z)
    on go (inl k) = (x, inl refl, k)
    on go (inr k) = let r = go k in (r.0, inr r.1, r.2)

-- variables that are among some
pub is_in-among : (xs : List ℕ) (x : ℕ) → is_in xs x ≡ true → Among x xs
is_in-among xs x h = let r = among-any (nat_eq x) xs h in subst (λ y. Among y xs) (sym (eqb-true x r.0 r.2)) r.1

pub among-is_in : (xs : List ℕ) (x : ℕ) → Among x xs → is_in xs x ≡ true
among-is_in xs x h = any-among (nat_eq x) x xs h (eq-eqb x x refl)

-- a test on two lists joined
pub any-append : {A : Type 0} (f : A → Bool) (xs ys : List A) → any f (xs ++ ys) ≡ (any f xs || any f ys)
any-append f [] ys = refl
any-append f (x ∷ xs) ys = ap (λ b. f x || b) (any-append f xs ys) ∙ sym (or-assoc (f x) (any f xs) (any f ys))

-- two tests that pass together are one answer
pub same-answer : (a b : Bool) → (a ≡ true → b ≡ true) → (b ≡ true → a ≡ true) → a ≡ b
same-answer true b h k = sym (h refl)
same-answer false true h k = k refl
same-answer false false h k = refl
