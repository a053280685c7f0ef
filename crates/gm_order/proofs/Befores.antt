-- Lists of faults that lie before others.
use Rattle.std.proofs.Common.{◌≡◌, ◌<◌, ℕ, Bool, true, false, List, [], ◌∷◌, ◌++◌, ◌⊎◌, inl, inr, refl, sym, ap, subst, ◌∙◌, arith}
use Rattle.std.specs.Prelude.{nat_lt, nat_eq, ◌&&◌, ◌||◌}
use Rattle.std.specs.Cmp.Derive.{both_true}
use Rattle.std.proofs.lemmas.Bool.{lt-ltb, ltb-true, eq-eqb, or_left, or_right}
use Rattle.gm_base.specs.declared.places.Place.{Place}
use Rattle.gm_base.specs.Places.{place_lt}
use Rattle.gm_ast.specs.declared.tree.Key.{Key}
use Rattle.gm_ast.specs.declared.tree.Stage.TheVariants.{Inner, Operator, Total}
use Rattle.gm_ast.specs.Keys.{Fault, stage_rank, fault_lt, all_before}
use Rattle.gm_forms.proofs.Named.{both-true}
use Rattle.gm_forms.specs.Order.{lie_before}
use Rattle.gm_order.specs.Places.{is_before, ascend}

-- what holds of each of some faults
abbrev pub Each : (Fault → Type 0) → List Fault → Type 0
Each P [] = Unit {0}
Each P (f ∷ fs) = P f × Each P fs

pub each-append : (P : Fault → Type 0) (xs ys : List Fault) → Each P xs → Each P ys → Each P (xs ++ ys)
each-append P [] ys h k = k
each-append P (x ∷ xs) ys h k = (h.0, each-append P xs ys h.1 k)

pub each-map : (P Q : Fault → Type 0) (xs : List Fault) → ((f : Fault) → P f → Q f) → Each P xs → Each Q xs
each-map P Q [] step h = tt
each-map P Q (x ∷ xs) step h = (step x h.0, each-map P Q xs step h.1)

pub each-and : (P Q : Fault → Type 0) (xs : List Fault) → Each P xs → Each Q xs → Each (λ f. P f × Q f) xs
each-and P Q [] h k = tt
each-and P Q (x ∷ xs) h k = ((h.0, k.0), each-and P Q xs h.1 k.1)

pub before-one : (P : Fault → Type 0) (xs : List Fault) (b : Fault) → Each P xs → ((a : Fault) → P a → fault_lt a b ≡ true) → all_before xs b ≡ true
before-one P [] b h step = refl
before-one P (x ∷ xs) b h step = both_true (step x h.0) (before-one P xs b h.1 step)

pub lie : (P Q : Fault → Type 0) (xs ys : List Fault) → Each P xs → Each Q ys → ((a b : Fault) → P a → Q b → fault_lt a b ≡ true) → lie_before xs ys ≡ true
lie P Q xs [] h k step = refl
lie P Q xs (y ∷ ys) h k step = both_true (before-one P xs y h (λ a p. step a y p k.0)) (lie P Q xs ys h k.1 step)

pub before-append : (xs ys : List Fault) (b : Fault) → all_before xs b ≡ true → all_before ys b ≡ true → all_before (xs ++ ys) b ≡ true
before-append [] ys b h k = k
before-append (x ∷ xs) ys b h k = let s = both-true (fault_lt x b) (all_before xs b) h in both_true s.0 (before-append xs ys b s.1 k)

-- nothing lies before anything
pub nothing-before : (xs ys : List Fault) → xs ≡ [] → lie_before xs ys ≡ true
nothing-before xs [] e = refl
nothing-before xs (y ∷ ys) e = both_true (ap (λ zs. all_before zs y) e) (nothing-before xs ys e)

-- ---- keys

abbrev pub inner : ℕ → Key
inner n = record { statement = n; stage = Inner }

abbrev pub operators : ℕ → Key
operators n = record { statement = n; stage = Operator }

abbrev pub totals : ℕ → Key
totals n = record { statement = n; stage = Total }

-- one key before another, wherever their faults are
abbrev pub KeyBefore : Key → Key → Type 0
KeyBefore j k = (p q : Place) → fault_lt (record { key = j; place = p }) (record { key = k; place = q }) ≡ true

pub statement-before : (j k : Key) → j.statement < k.statement → KeyBefore j k
statement-before j k h p q = or_left (nat_lt j.statement k.statement) _ (lt-ltb j.statement k.statement h)

pub stage-before : (j k : Key) → j.statement ≡ k.statement → nat_lt (stage_rank j.stage) (stage_rank k.stage) ≡ true → KeyBefore j k
stage-before j k e h p q =
    or_right (nat_lt j.statement k.statement) _ (both_true (eq-eqb j.statement k.statement e) (or_left (nat_lt (stage_rank j.stage) (stage_rank k.stage)) _ h))

pub place-before : (k : Key) (p q : Place) → place_lt p q ≡ true → fault_lt (record { key = k; place = p }) (record { key = k; place = q }) ≡ true
place-before k p q h =
    or_right (nat_lt k.statement k.statement) _ (both_true (eq-eqb k.statement k.statement refl)
    (or_right (nat_lt (stage_rank k.stage) (stage_rank k.stage)) _ (both_true (eq-eqb (stage_rank k.stage) (stage_rank k.stage) refl) h)))

-- ---- places

abbrev pub Among : List Place → Place → Type 0
Among [] p = ⊥
Among (q ∷ qs) p = (q ≡ p) ⊎ Among qs p

pub among-left : (ps qs : List Place) (p : Place) → Among ps p → Among (ps ++ qs) p
among-left [] qs p h = absurd h
among-left (r ∷ ps) qs p (inl e) = inl e
among-left (r ∷ ps) qs p (inr h) = inr (among-left ps qs p h)

pub among-right : (ps qs : List Place) (p : Place) → Among qs p → Among (ps ++ qs) p
among-right [] qs p h = h
among-right (r ∷ ps) qs p h = inr (among-right ps qs p h)

before-among : (p : Place) (qs : List Place) (q : Place) → is_before p qs ≡ true → Among qs q → place_lt p q ≡ true
before-among p [] q h a = absurd a
before-among p (r ∷ qs) q h (inl e) = subst (λ s. place_lt p s ≡ true) e (both-true (place_lt p r) (is_before p qs) h).0
before-among p (r ∷ qs) q h (inr a) = before-among p qs q (both-true (place_lt p r) (is_before p qs) h).1 a

before-right : (p : Place) (ps qs : List Place) → is_before p (ps ++ qs) ≡ true → is_before p qs ≡ true
before-right p [] qs h = h
before-right p (r ∷ ps) qs h = before-right p ps qs (both-true (place_lt p r) (is_before p (ps ++ qs)) h).1

before-left : (p : Place) (ps qs : List Place) → is_before p (ps ++ qs) ≡ true → is_before p ps ≡ true
before-left p [] qs h = refl
before-left p (r ∷ ps) qs h = let s = both-true (place_lt p r) (is_before p (ps ++ qs)) h in both_true s.0 (before-left p ps qs s.1)

pub ascend-tail : (p : Place) (ps : List Place) → ascend (p ∷ ps) ≡ true → ascend ps ≡ true
ascend-tail p ps h = (both-true (is_before p ps) (ascend ps) h).1

pub ascend-left : (ps qs : List Place) → ascend (ps ++ qs) ≡ true → ascend ps ≡ true
ascend-left [] qs h = refl
ascend-left (p ∷ ps) qs h =
    let s = both-true (is_before p (ps ++ qs)) (ascend (ps ++ qs)) h in
    both_true (before-left p ps qs s.0) (ascend-left ps qs s.1)

pub ascend-right : (ps qs : List Place) → ascend (ps ++ qs) ≡ true → ascend qs ≡ true
ascend-right [] qs h = h
ascend-right (p ∷ ps) qs h = ascend-right ps qs (ascend-tail p (ps ++ qs) h)

pub ascend-across : (ps qs : List Place) → ascend (ps ++ qs) ≡ true → (p q : Place) → Among ps p → Among qs q → place_lt p q ≡ true
ascend-across [] qs h p q a b = absurd a
ascend-across (r ∷ ps) qs h p q (inl e) b =
    let s = both-true (is_before r (ps ++ qs)) (ascend (ps ++ qs)) h in
    subst (λ t. place_lt t q ≡ true) e (before-among r qs q (before-right r ps qs s.0) b)
ascend-across (r ∷ ps) qs h p q (inr a) b = ascend-across ps qs (ascend-tail r (ps ++ qs) h) p q a b

-- a place among some, or between them: what stands before all of them stands before it, and what stands behind all of them behind it
abbrev pub Inside : List Place → Place → Type 0
Inside ps p = ((q : Place) → ((r : Place) → Among ps r → place_lt q r ≡ true) → place_lt q p ≡ true) × ((q : Place) → ((r : Place) → Among ps r → place_lt r q ≡ true) → place_lt p q ≡ true)

pub inside-of : (ps : List Place) (p : Place) → Among ps p → Inside ps p
inside-of ps p a = (λ q h. h p a, λ q h. h p a)

pub inside-wide : (ps qs : List Place) → ((p : Place) → Among ps p → Among qs p) → (p : Place) → Inside ps p → Inside qs p
inside-wide ps qs w p i = (λ q h. i.0 q (λ r a. h r (w r a)), λ q h. i.1 q (λ r a. h r (w r a)))

pub inside-across : (ps qs : List Place) → ascend (ps ++ qs) ≡ true → (p q : Place) → Inside ps p → Inside qs q → place_lt p q ≡ true
inside-across ps qs up p q i j = j.0 p (λ r b. i.1 r (λ s a. ascend-across ps qs up s r a b))

-- some place, and one that stands behind another
abbrev pub HasPlace : List Place → Type 0
HasPlace ps = (r : Place) × Among ps r

abbrev pub Followed : List Place → Place → Type 0
Followed ps p = (r : Place) × (Among ps r × (place_lt p r ≡ true))

pub followed-wide : (ps qs : List Place) → ((p : Place) → Among ps p → Among qs p) → (p : Place) → Followed ps p → Followed qs p
followed-wide ps qs w p f = (f.0, (w f.0 f.1.0, f.1.1))

pub follows : (at : Place) (ps : List Place) → ascend (at ∷ ps) ≡ true → HasPlace ps → Followed (at ∷ ps) at
follows at ps up h = (h.0, (inr h.1, ascend-across (at ∷ []) ps up at h.0 (inl refl) h.1))

-- ---- faults under a key, at some places

abbrev pub At : Key → List Place → Fault → Type 0
At k ps f = (f.key ≡ k) × Inside ps f.place

pub wider : (k : Key) (ps qs : List Place) (xs : List Fault) → ((p : Place) → Among ps p → Among qs p) → Each (At k ps) xs → Each (At k qs) xs
wider k ps qs xs w h = each-map (At k ps) (At k qs) xs (λ f a. (a.0, inside-wide ps qs w f.place a.1)) h

at-keys : (j k : Key) (a b : Fault) → KeyBefore j k → a.key ≡ j → b.key ≡ k → fault_lt a b ≡ true
at-keys j k a b lt e g = subst (λ i. fault_lt (record { key = i; place = a.place }) b ≡ true) (sym e) (subst (λ i. fault_lt (record { key = j; place = a.place }) (record { key = i; place = b.place }) ≡ true) (sym g) (lt a.place b.place))

-- by their keys
pub lie-keys : (j k : Key) (ps qs : List Place) (xs ys : List Fault) → KeyBefore j k → Each (At j ps) xs → Each (At k qs) ys → lie_before xs ys ≡ true
lie-keys j k ps qs xs ys lt h g = lie (At j ps) (At k qs) xs ys h g (λ a b x y. at-keys j k a b lt x.0 y.0)

pub one-keys : (j k : Key) (ps : List Place) (xs : List Fault) (b : Fault) → KeyBefore j k → Each (At j ps) xs → b.key ≡ k → all_before xs b ≡ true
one-keys j k ps xs b lt h e = before-one (At j ps) xs b h (λ a x. at-keys j k a b lt x.0 e)

pub at-places : (k : Key) (a b : Fault) → a.key ≡ k → b.key ≡ k → place_lt a.place b.place ≡ true → fault_lt a b ≡ true
at-places k a b e g lt = subst (λ i. fault_lt (record { key = i; place = a.place }) b ≡ true) (sym e) (subst (λ i. fault_lt (record { key = k; place = a.place }) (record { key = i; place = b.place }) ≡ true) (sym g) (place-before k a.place b.place lt))

-- by their places
pub lie-places : (k : Key) (ps qs : List Place) (xs ys : List Fault) → ((p q : Place) → Inside ps p → Inside qs q → place_lt p q ≡ true) → Each (At k ps) xs → Each (At k qs) ys → lie_before xs ys ≡ true
lie-places k ps qs xs ys lt h g = lie (At k ps) (At k qs) xs ys h g (λ a b x y. at-places k a b x.0 y.0 (lt a.place b.place x.1 y.1))

pub one-places : (k : Key) (ps : List Place) (xs : List Fault) (b : Fault) → ((p : Place) → Inside ps p → place_lt p b.place ≡ true) → Each (At k ps) xs → b.key ≡ k → all_before xs b ≡ true
one-places k ps xs b lt h e = before-one (At k ps) xs b h (λ a x. at-places k a b x.0 e (lt a.place x.1))

-- of one key the place decides
lt-self : (n : ℕ) → nat_lt n n ≡ false
lt-self n = by (nat_lt n n) refl
  where
    by : (b : Bool) → nat_lt n n ≡ b → b ≡ false
    by true e = absurd (let l : n < n = ltb-true n n e in omega (arith, l))
    by false e = refl

same-keys : (k : Key) (p q : Place) → fault_lt (record { key = k; place = p }) (record { key = k; place = q }) ≡ place_lt p q
same-keys k p q =
    let n = k.statement in
    let r = stage_rank k.stage in
    let last = nat_eq r r && place_lt p q in
    ap (λ b. b || (nat_eq n n && (nat_lt r r || last))) (lt-self n) ∙ (ap (λ b. b && (nat_lt r r || last)) (eq-eqb n n refl) ∙ (ap (λ b. b || last) (lt-self r) ∙ ap (λ b. b && place_lt p q) (eq-eqb r r refl)))

by-places : (k : Key) (a b : Fault) → a.key ≡ k → b.key ≡ k → fault_lt a b ≡ place_lt a.place b.place
by-places k a b e g =
    ap (λ i. fault_lt (record { key = i; place = a.place }) b) e
    ∙ (ap (λ i. fault_lt (record { key = k; place = a.place }) (record { key = i; place = b.place })) g ∙ same-keys k a.place b.place)

pub places-of : (k : Key) (a b : Fault) → a.key ≡ k → b.key ≡ k → fault_lt a b ≡ true → place_lt a.place b.place ≡ true
places-of k a b e g h = sym (by-places k a b e g) ∙ h

pub not-places : (k : Key) (a b : Fault) → a.key ≡ k → b.key ≡ k → fault_lt a b ≡ false → place_lt a.place b.place ≡ false
not-places k a b e g h = sym (by-places k a b e g) ∙ h
