-- Tests of the items of a list.
use Rattle.std.proofs.Common.{◌≡◌, Bool, true, false, List, [], ◌∷◌, map, filter, fold, cond, ap, refl, sym, ◌∙◌}
use Rattle.std.specs.Prelude.{◌&&◌, ◌||◌, not}
use Rattle.gm_ast.specs.Loops.{any}

pub or-false : (b : Bool) → (b || false) ≡ b
or-false true = refl
or-false false = refl

pub or-assoc : (a b c : Bool) → ((a || b) || c) ≡ (a || (b || c))
or-assoc true b c = refl
or-assoc false b c = refl

pub and-false : (b : Bool) → (b && false) ≡ false
and-false true = refl
and-false false = refl

-- a test that another implies
pub absorbed : (a b : Bool) → (a ≡ true → b ≡ true) → b ≡ (a || b)
absorbed true b h = h refl
absorbed false b h = refl

pub not-true : (b : Bool) → not b ≡ true → b ≡ false
not-true true h = absurd cc
not-true false h = refl

-- a test of what is made of the items
pub any-map : {A B : Type 0} (f : B → Bool) (g : A → B) (xs : List A) → any f (map g xs) ≡ any (λ x. f (g x)) xs
any-map f g [] = refl
any-map f g (x ∷ xs) = ap (λ b. f (g x) || b) (any-map f g xs)

-- a test of the items that pass another
pub any-filter : {A : Type 0} (p f : A → Bool) (xs : List A) → any f (filter p xs) ≡ any (λ x. p x && f x) xs
any-filter p f [] = refl
any-filter p f (x ∷ xs) = by (p x) (any-filter p f xs)
  where
    by : (b : Bool) → any f (filter p xs) ≡ any (λ y. p y && f y) xs → any f (cond b (x ∷ filter p xs) (filter p xs)) ≡ ((b && f x) || any (λ y. p y && f y) xs)
    by true h = ap (λ c. f x || c) h
    by false h = h

-- tests that agree
pub any-same : {A : Type 0} (f g : A → Bool) → ((x : A) → f x ≡ g x) → (xs : List A) → any f xs ≡ any g xs
any-same f g h [] = refl
any-same f g h (x ∷ xs) = ap (λ b. b || any f xs) (h x) ∙ ap (λ b. g x || b) (any-same f g h xs)

crossed : (a b c d : Bool) → ((a || b) || (c || d)) ≡ ((a || c) || (b || d))
crossed true b c d = refl
crossed false true true d = refl
crossed false true false d = refl
crossed false false c d = refl

-- one of two tests
pub any-or : {A : Type 0} (f g : A → Bool) (xs : List A) → any (λ x. f x || g x) xs ≡ (any f xs || any g xs)
any-or f g [] = refl
any-or f g (x ∷ xs) = ap (λ b. (f x || g x) || b) (any-or f g xs) ∙ crossed (f x) (g x) (any f xs) (any g xs)

-- a test that no item passes
pub any-none : {A : Type 0} (f : A → Bool) → ((x : A) → f x ≡ false) → (xs : List A) → any f xs ≡ false
any-none f h [] = refl
any-none f h (x ∷ xs) = ap (λ b. b || any f xs) (h x) ∙ any-none f h xs

-- a condition beside a test
pub any-and : {A : Type 0} (c : Bool) (f : A → Bool) (xs : List A) → any (λ x. c && f x) xs ≡ (c && any f xs)
any-and true f xs = refl
any-and false f xs = any-none (λ x. false) (λ x. refl) xs

-- a test that a fold carries along, while what it keeps is in order
pub fold-any : {U A : Type 0} (step : U → A → U) (told : U → Bool) (test : A → Bool) (Kept : U → Type 0)
    → ((u : U) (x : A) → Kept u → Kept (step u x)) → ((u : U) (x : A) → Kept u → told (step u x) ≡ (told u || test x))
    → (u : U) → Kept u → (xs : List A) → told (fold step u xs) ≡ (told u || any test xs)
fold-any step told test Kept keeps tells u k [] = sym (or-false (told u))
fold-any step told test Kept keeps tells u k (x ∷ xs) =
    fold-any step told test Kept keeps tells (step u x) (keeps u x k) xs ∙ ap (λ b. b || any test xs) (tells u x k) ∙ or-assoc (told u) (test x) (any test xs)

-- the tests of two reductions within one inner loop, or of which one goes to other nodes
pub own-mix : (m p d n s : Bool) → ((m && ((p && d) && n)) || ((m && s) && (d && n))) ≡ (m && (d && (n && (p || (false || s)))))
own-mix false p d n s = refl
own-mix true true true true true = refl
own-mix true true true true false = refl
own-mix true true true false true = refl
own-mix true true true false false = refl
own-mix true true false true true = refl
own-mix true true false true false = refl
own-mix true true false false true = refl
own-mix true true false false false = refl
own-mix true false true true true = refl
own-mix true false true true false = refl
own-mix true false true false true = refl
own-mix true false true false false = refl
own-mix true false false true true = refl
own-mix true false false true false = refl
own-mix true false false false true = refl
own-mix true false false false false = refl

-- the tests of a reduction before one to other nodes
pub push-mix : (m d n p s : Bool) → (m && (d && n)) ≡ (m && (d && (n && (p || (true || s)))))
push-mix false d n p s = refl
push-mix true true true true true = refl
push-mix true true true true false = refl
push-mix true true true false true = refl
push-mix true true true false false = refl
push-mix true true false true true = refl
push-mix true true false true false = refl
push-mix true true false false true = refl
push-mix true true false false false = refl
push-mix true false true true true = refl
push-mix true false true true false = refl
push-mix true false true false true = refl
push-mix true false true false false = refl
push-mix true false false true true = refl
push-mix true false false true false = refl
push-mix true false false false true = refl
push-mix true false false false false = refl

-- the tests of a deferred write beside another change
pub deferred-mix : (m n da cb ca db : Bool) → ((cb && (m && (da && n))) || (db && (m && (ca && n)))) ≡ (m && (n && ((da && cb) || (ca && db))))
deferred-mix false n da true ca true = refl
deferred-mix false n da true ca false = refl
deferred-mix false n da false ca true = refl
deferred-mix false n da false ca false = refl
deferred-mix true true true true true true = refl
deferred-mix true true true true true false = refl
deferred-mix true true true true false true = refl
deferred-mix true true true true false false = refl
deferred-mix true true true false true true = refl
deferred-mix true true true false true false = refl
deferred-mix true true true false false true = refl
deferred-mix true true true false false false = refl
deferred-mix true true false true true true = refl
deferred-mix true true false true true false = refl
deferred-mix true true false true false true = refl
deferred-mix true true false true false false = refl
deferred-mix true true false false true true = refl
deferred-mix true true false false true false = refl
deferred-mix true true false false false true = refl
deferred-mix true true false false false false = refl
deferred-mix true false true true true true = refl
deferred-mix true false true true true false = refl
deferred-mix true false true true false true = refl
deferred-mix true false true true false false = refl
deferred-mix true false true false true true = refl
deferred-mix true false true false true false = refl
deferred-mix true false true false false true = refl
deferred-mix true false true false false false = refl
deferred-mix true false false true true true = refl
deferred-mix true false false true true false = refl
deferred-mix true false false true false true = refl
deferred-mix true false false true false false = refl
deferred-mix true false false false true true = refl
deferred-mix true false false false true false = refl
deferred-mix true false false false false true = refl
deferred-mix true false false false false false = refl

-- the tests of a reduction within one inner loop
pub inner-test : (m s t : Bool) → ((m && s) && t) ≡ (m && (t && s))
inner-test false s t = refl
inner-test true true true = refl
inner-test true true false = refl
inner-test true false true = refl
inner-test true false false = refl
