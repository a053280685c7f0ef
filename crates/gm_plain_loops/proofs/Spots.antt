-- The spots of a loop whose faults stand in order, and whose totals follow what may fault in their values: those of one fault show one place, and nothing comes behind what is sent last.
use Rattle.std.proofs.Common.{◌≡◌, ◌⊎◌, inl, inr, ℕ, Bool, true, false, Option, Some, None, List, [], ◌∷◌, ◌++◌, map, refl, ap, ◌∙◌, sym, ⊎_elim}
use Rattle.std.specs.Prelude.{◌&&◌, ◌||◌, not, nat_eq, if◌then◌else◌}
use Rattle.std.specs.List.{list_all, list_any}
use Rattle.std.proofs.lemmas.Bool.{both_ways, and_from, or_left, or_right, eq-eqb}
use Rattle.gm_base.specs.declared.places.Place.{Place}
use Rattle.gm_value.specs.Bag.{IsIn}
use Rattle.gm_ast.specs.declared.tree.Key.{Key}
use Rattle.gm_ast.specs.declared.tree.Target.{Target}
use Rattle.gm_ast.specs.declared.tree.Target.TheVariants as T
use Rattle.gm_ast.specs.Keys.{Fault, fault_lt, all_before}
use Rattle.gm_ast.specs.Program as S
use Rattle.gm_ast.specs.Program.{Expr}
use Rattle.gm_ast.specs.Ways.{is_in}
use Rattle.gm_forms.proofs.CutTests.{Covers}
use Rattle.gm_forms.proofs.Named.{both-true}
use Rattle.gm_forms.specs.Order.{fault_of, can_fail1, can_fail2, cannot_fail, fault_if, rest_in, hoisted_in, faults_in, faults_in_option, faults_in_all, targets_faults}
use Rattle.gm_lowering.specs.Places.{Spot, spot_of, spot_at, spots_in, spots_in_all, spots_in_option, spot_lt}
use Rattle.gm_lowering.specs.Bodies.{target_spots}
use Rattle.gm_lowering.proofs.Orders.{lt-itself, lt-trans, lt-tie}
use Rattle.gm_plain_loops.specs.Tests.{comes_behind, is_behind_target}
use Rattle.gm_lowering_master.specs.Plain.{same_place, shows_with, all_show_one}

-- ---- lists

pub in-left : {A : Type 0} (xs ys : List A) (x : A) → IsIn x xs → IsIn x (xs ++ ys)
in-left [] ys x i = absurd i
in-left (y ∷ xs) ys x i = ⊎_elim (λ (e : x ≡ y). inl e) (λ (j : IsIn x xs). inr (in-left xs ys x j)) i

pub in-right : {A : Type 0} (xs ys : List A) (x : A) → IsIn x ys → IsIn x (xs ++ ys)
in-right [] ys x i = i
in-right (y ∷ xs) ys x i = inr (in-right xs ys x i)

pub in-split : {A : Type 0} (xs ys : List A) (x : A) → IsIn x (xs ++ ys) → IsIn x xs ⊎ IsIn x ys
in-split [] ys x i = inr i
in-split (y ∷ xs) ys x i =
    ⊎_elim (λ (e : x ≡ y). inl (inl e)) (λ (j : IsIn x (xs ++ ys)). ⊎_elim (λ (k : IsIn x xs). inl (inr k)) (λ (k : IsIn x ys). inr k) (in-split xs ys x j)) i

pub all-of : {A : Type 0} (f : A → Bool) (xs : List A) → ((x : A) → IsIn x xs → f x ≡ true) → list_all f xs ≡ true
all-of f [] h = refl
all-of f (x ∷ xs) h = and_from (f x) (list_all f xs) (h x (inl refl)) (all-of f xs (λ y i. h y (inr i)))

pub any-of : {A : Type 0} (f : A → Bool) (xs : List A) (x : A) → IsIn x xs → f x ≡ true → list_any f xs ≡ true
any-of f [] x i h = absurd i
any-of f (y ∷ xs) x i h = ⊎_elim (λ (e : x ≡ y). or_left (f y) (list_any f xs) (ap f (sym e) ∙ h)) (λ (j : IsIn x xs). or_right (f y) (list_any f xs) (any-of f xs x j h)) i

pub before-one : (xs : List Fault) (f g : Fault) → all_before xs g ≡ true → IsIn f xs → fault_lt f g ≡ true
before-one [] f g h i = absurd i
before-one (y ∷ ys) f g h i =
    let r = both-true (fault_lt y g) (all_before ys g) h in
    ⊎_elim (λ (e : f ≡ y). ap (λ z. fault_lt z g) e ∙ r.0) (λ (j : IsIn f ys). before-one ys f g r.1 j) i

-- what comes before does not come behind
pub not-behind : (a b : Fault) → fault_lt a b ≡ true → fault_lt b a ≡ false
not-behind a b h = by (fault_lt b a) refl where
  by : (q : Bool) → fault_lt b a ≡ q → q ≡ false
  by false e = refl
  by true e = absurd (both_ways (fault_lt a a) (lt-itself a) (lt-trans a b a h e))

-- ---- one place

pub place-itself : (a : Place) → same_place a a ≡ true
place-itself a = and_from (nat_eq a.line a.line) (nat_eq a.col a.col) (eq-eqb a.line a.line refl) (eq-eqb a.col a.col refl)

-- a spot that shows its own place
abbrev pub IsPlain : Spot → Type 0
IsPlain s = s.shown ≡ s.fault.place

abbrev pub ArePlain : List Spot → Type 0
ArePlain xs = (s : Spot) → IsIn s xs → IsPlain s

pub shows-plain : (a b : Spot) → IsPlain a → IsPlain b → shows_with a b ≡ true
shows-plain a b h k = by (spot_lt a b) (spot_lt b a) refl refl where
  by : (x y : Bool) → spot_lt a b ≡ x → spot_lt b a ≡ y → x || (y || same_place a.shown b.shown) ≡ true
  by true y e f = refl
  by false true e f = refl
  by false false e f =
      let same : a.shown ≡ b.shown = h ∙ (ap (λ z. z.place) (lt-tie a.fault b.fault e f) ∙ sym k) in
      ap (λ z. same_place a.shown z) (sym same) ∙ place-itself a.shown

pub shows-before : (a b : Spot) → spot_lt a b ≡ true → shows_with a b ≡ true
shows-before a b h = or_left (spot_lt a b) (spot_lt b a || same_place a.shown b.shown) h

pub shows-behind : (a b : Spot) → spot_lt b a ≡ true → shows_with a b ≡ true
shows-behind a b h = or_right (spot_lt a b) (spot_lt b a || same_place a.shown b.shown) (or_left (spot_lt b a) (same_place a.shown b.shown) h)

pub show-join : (xs ys : List Spot) → all_show_one xs ≡ true → all_show_one ys ≡ true → ((a b : Spot) → IsIn a xs → IsIn b ys → shows_with a b ≡ true) → all_show_one (xs ++ ys) ≡ true
show-join [] ys h k c = k
show-join (x ∷ xs) ys h k c =
    let q = both-true (list_all (shows_with x) xs) (all_show_one xs) h in
    and_from (list_all (shows_with x) (xs ++ ys)) (all_show_one (xs ++ ys))
    (all-of (shows_with x) (xs ++ ys) (λ b i. ⊎_elim (λ (j : IsIn b xs). all-in (shows_with x) xs b q.0 j) (λ (j : IsIn b ys). c x b (inl refl) j) (in-split xs ys b i)))
    (show-join xs ys q.1 k (λ a b i j. c a b (inr i) j)) where
      all-in : (f : Spot → Bool) (zs : List Spot) (z : Spot) → list_all f zs ≡ true → IsIn z zs → f z ≡ true
      all-in f [] z h i = absurd i
      all-in f (w ∷ zs) z h i = let r = both-true (f w) (list_all f zs) h in ⊎_elim (λ (e : z ≡ w). ap f e ∙ r.0) (λ (j : IsIn z zs). all-in f zs z r.1 j) i

pub show-plain : (xs : List Spot) → ArePlain xs → all_show_one xs ≡ true
show-plain [] h = refl
show-plain (x ∷ xs) h =
    and_from (list_all (shows_with x) xs) (all_show_one xs) (all-of (shows_with x) xs (λ b i. shows-plain x b (h x (inl refl)) (h b (inr i)))) (show-plain xs (λ s i. h s (inr i)))

-- ---- expressions

spots-if : (b : Bool) (k : Key) (at : Place) (s : Spot) → IsIn s (map spot_of (fault_if b k at)) → IsPlain s × IsIn s.fault (fault_if b k at)
spots-if true k at s i = ⊎_elim (λ (e : s ≡ spot_of (record { key = k; place = at })). (ap (λ z. z.shown) e ∙ sym (ap (λ z. z.fault.place) e), inl (ap (λ z. z.fault) e))) (λ (j : IsIn s []). absurd j) i
spots-if false k at s i = absurd i

-- the spots of an expression are its faults, each at its own place
pub rest-spots : (e : Expr) (k : Key) (s : Spot) → IsIn s (spots_in e k) → IsPlain s × IsIn s.fault (rest_in e k)
rest-spots (S.Const v) k s i = absurd i
rest-spots (S.Var x at) k s i = absurd i
rest-spots (S.Property x q at) k s i = absurd i
rest-spots (S.EdgeProperty x q at) k s i = absurd i
rest-spots (S.Degree d x at) k s i = absurd i
rest-spots S.NodeCount k s i = absurd i
rest-spots S.EdgeCount k s i = absurd i
rest-spots (S.Live x at) k s i = spots-if true k at s i
rest-spots (S.Unary op at e) k s i =
    ⊎_elim
    (λ (j : IsIn s (map spot_of (fault_if (can_fail1 op) k at))). let q = spots-if (can_fail1 op) k at s j in (q.0, in-left (fault_if (can_fail1 op) k at) (rest_in e k) s.fault q.1))
    (λ (j : IsIn s (spots_in e k)). let q = rest-spots e k s j in (q.0, in-right (fault_if (can_fail1 op) k at) (rest_in e k) s.fault q.1))
    (in-split (map spot_of (fault_if (can_fail1 op) k at)) (spots_in e k) s i)
rest-spots (S.Binary op at a b) k s i =
    ⊎_elim
    (λ (j : IsIn s (map spot_of (fault_if (can_fail2 op) k at))). let q = spots-if (can_fail2 op) k at s j in (q.0, in-left (fault_if (can_fail2 op) k at) (rest_in a k ++ rest_in b k) s.fault q.1))
    (λ (j : IsIn s (spots_in a k ++ spots_in b k)).
    ⊎_elim
    (λ (l : IsIn s (spots_in a k)). let q = rest-spots a k s l in (q.0, in-right (fault_if (can_fail2 op) k at) (rest_in a k ++ rest_in b k) s.fault (in-left (rest_in a k) (rest_in b k) s.fault q.1)))
    (λ (l : IsIn s (spots_in b k)). let q = rest-spots b k s l in (q.0, in-right (fault_if (can_fail2 op) k at) (rest_in a k ++ rest_in b k) s.fault (in-right (rest_in a k) (rest_in b k) s.fault q.1)))
    (in-split (spots_in a k) (spots_in b k) s j))
    (in-split (map spot_of (fault_if (can_fail2 op) k at)) (spots_in a k ++ spots_in b k) s i)
rest-spots (S.Both a b) k s i =
    ⊎_elim
    (λ (l : IsIn s (spots_in a k)). let q = rest-spots a k s l in (q.0, in-left (rest_in a k) (rest_in b k) s.fault q.1))
    (λ (l : IsIn s (spots_in b k)). let q = rest-spots b k s l in (q.0, in-right (rest_in a k) (rest_in b k) s.fault q.1))
    (in-split (spots_in a k) (spots_in b k) s i)
rest-spots (S.Either a b) k s i =
    ⊎_elim
    (λ (l : IsIn s (spots_in a k)). let q = rest-spots a k s l in (q.0, in-left (rest_in a k) (rest_in b k) s.fault q.1))
    (λ (l : IsIn s (spots_in b k)). let q = rest-spots b k s l in (q.0, in-right (rest_in a k) (rest_in b k) s.fault q.1))
    (in-split (spots_in a k) (spots_in b k) s i)
rest-spots (S.Choose c a b) k s i =
    ⊎_elim
    (λ (l : IsIn s (spots_in c k)). let q = rest-spots c k s l in (q.0, in-left (rest_in c k) (rest_in a k ++ rest_in b k) s.fault q.1))
    (λ (j : IsIn s (spots_in a k ++ spots_in b k)).
    ⊎_elim
    (λ (l : IsIn s (spots_in a k)). let q = rest-spots a k s l in (q.0, in-right (rest_in c k) (rest_in a k ++ rest_in b k) s.fault (in-left (rest_in a k) (rest_in b k) s.fault q.1)))
    (λ (l : IsIn s (spots_in b k)). let q = rest-spots b k s l in (q.0, in-right (rest_in c k) (rest_in a k ++ rest_in b k) s.fault (in-right (rest_in a k) (rest_in b k) s.fault q.1)))
    (in-split (spots_in a k) (spots_in b k) s j))
    (in-split (spots_in c k) (spots_in a k ++ spots_in b k) s i)
rest-spots (S.Folded f h t e) k s i = absurd i

-- the same in its faults
pub expr-spots : (e : Expr) (k : Key) (s : Spot) → IsIn s (spots_in e k) → IsPlain s × IsIn s.fault (faults_in e k)
expr-spots e k s i = let q = rest-spots e k s i in (q.0, in-right (hoisted_in e) (rest_in e k) s.fault q.1)

pub option-spots : (e : Option Expr) (k : Key) (s : Spot) → IsIn s (spots_in_option e k) → IsPlain s × IsIn s.fault (faults_in_option e k)
option-spots None k s i = absurd i
option-spots (Some e) k s i = expr-spots e k s i

pub all-spots : (es : List Expr) (k : Key) (s : Spot) → IsIn s (spots_in_all es k) → IsPlain s × IsIn s.fault (faults_in_all es k)
all-spots [] k s i = absurd i
all-spots (e ∷ es) k s i =
    ⊎_elim
    (λ (j : IsIn s (spots_in e k)). let q = expr-spots e k s j in (q.0, in-left (faults_in e k) (faults_in_all es k) s.fault q.1))
    (λ (j : IsIn s (spots_in_all es k)). let q = all-spots es k s j in (q.0, in-right (faults_in e k) (faults_in_all es k) s.fault q.1))
    (in-split (spots_in e k) (spots_in_all es k) s i)

-- the same without those of reductions, of which there are none
abbrev pub rest_in_all : List Expr → Key → List Fault
rest_in_all [] k = []
rest_in_all (e ∷ es) k = rest_in e k ++ rest_in_all es k

pub rest-all : (es : List Expr) (k : Key) (s : Spot) → IsIn s (spots_in_all es k) → IsIn s.fault (rest_in_all es k)
rest-all [] k s i = absurd i
rest-all (e ∷ es) k s i =
    ⊎_elim
    (λ (j : IsIn s (spots_in e k)). in-left (rest_in e k) (rest_in_all es k) s.fault (rest-spots e k s j).1)
    (λ (j : IsIn s (spots_in_all es k)). in-right (rest_in e k) (rest_in_all es k) s.fault (rest-all es k s j))
    (in-split (spots_in e k) (spots_in_all es k) s i)

-- an expression that cannot fault has no spots
fails-not : (b : Bool) (k : Key) (at : Place) → not b ≡ true → map spot_of (fault_if b k at) ≡ []
fails-not true k at h = absurd (both_ways false refl h)
fails-not false k at h = refl

pub none-two : {A : Type 0} (xs ys : List A) → xs ≡ [] → ys ≡ [] → xs ++ ys ≡ []
none-two xs ys e f = ap (λ l. l ++ ys) e ∙ f

pub no-spots : (e : Expr) (k : Key) → cannot_fail e ≡ true → spots_in e k ≡ []
no-spots (S.Const v) k h = refl
no-spots (S.Var x at) k h = refl
no-spots (S.Property x q at) k h = refl
no-spots (S.EdgeProperty x q at) k h = refl
no-spots (S.Degree d x at) k h = refl
no-spots S.NodeCount k h = refl
no-spots S.EdgeCount k h = refl
no-spots (S.Live x at) k h = absurd (both_ways false refl h)
no-spots (S.Unary op at e) k h = let q = both-true (not (can_fail1 op)) (cannot_fail e) h in none-two (map spot_of (fault_if (can_fail1 op) k at)) (spots_in e k) (fails-not (can_fail1 op) k at q.0) (no-spots e k q.1)
no-spots (S.Binary op at a b) k h =
    let q = both-true (not (can_fail2 op)) (cannot_fail a && cannot_fail b) h in
    let r = both-true (cannot_fail a) (cannot_fail b) q.1 in
    none-two (map spot_of (fault_if (can_fail2 op) k at)) (spots_in a k ++ spots_in b k) (fails-not (can_fail2 op) k at q.0) (none-two (spots_in a k) (spots_in b k) (no-spots a k r.0) (no-spots b k r.1))
no-spots (S.Both a b) k h = let r = both-true (cannot_fail a) (cannot_fail b) h in none-two (spots_in a k) (spots_in b k) (no-spots a k r.0) (no-spots b k r.1)
no-spots (S.Either a b) k h = let r = both-true (cannot_fail a) (cannot_fail b) h in none-two (spots_in a k) (spots_in b k) (no-spots a k r.0) (no-spots b k r.1)
no-spots (S.Choose c a b) k h =
    let q = both-true (cannot_fail c) (cannot_fail a && cannot_fail b) h in
    let r = both-true (cannot_fail a) (cannot_fail b) q.1 in
    none-two (spots_in c k) (spots_in a k ++ spots_in b k) (no-spots c k q.0) (none-two (spots_in a k) (spots_in b k) (no-spots a k r.0) (no-spots b k r.1))
no-spots (S.Folded f hd t e) k h = refl

-- ---- targets

pub target-found : (its : List ℕ) (k : Key) (ts : List Target) (s : Spot) → IsIn s (target_spots its k ts) → IsPlain s × IsIn s.fault (targets_faults its ts k)
target-found its k [] s i = absurd i
target-found its k (T.Scalar x at ∷ ts) s i = target-found its k ts s i
target-found its k (T.Property x q at ∷ ts) s i = by (is_in its x) i where
  by : (b : Bool) → IsIn s (if b then [] else spot_at k at ∷ []) → IsPlain s × IsIn s.fault (fault_if (not b) k at ++ targets_faults its ts k)
  by true j = absurd j
  by false j = ⊎_elim (λ (e : s ≡ spot_at k at). (ap (λ z. z.shown) e ∙ sym (ap (λ z. z.fault.place) e), inl (ap (λ z. z.fault) e))) (λ (l : IsIn s []). absurd l) j

-- faults of targets among fewer iterators
target-covered : (its js : List ℕ) → Covers js its → (x : ℕ) (k : Key) (at : Place) (f : Fault) → IsIn f (fault_if (not (is_in its x)) k at) → IsIn f (fault_if (not (is_in js x)) k at)
target-covered its js c x k at f i = by (is_in its x) (is_in js x) refl (c x) i where
  by : (a b : Bool) → is_in js x ≡ b → (is_in js x ≡ true → a ≡ true) → IsIn f (fault_if (not a) k at) → IsIn f (fault_if (not b) k at)
  by true b e h j = absurd j
  by false false e h j = j
  by false true e h j = absurd (both_ways false refl (h e))

pub targets-covered : (its js : List ℕ) → Covers js its → (ts : List Target) (k : Key) (f : Fault) → IsIn f (targets_faults its ts k) → IsIn f (targets_faults js ts k)
targets-covered its js c [] k f i = absurd i
targets-covered its js c (T.Scalar x at ∷ ts) k f i = targets-covered its js c ts k f i
targets-covered its js c (T.Property x q at ∷ ts) k f i =
    ⊎_elim
    (λ (j : IsIn f (fault_if (not (is_in its x)) k at)). in-left (fault_if (not (is_in js x)) k at) (targets_faults js ts k) f (target-covered its js c x k at f j))
    (λ (j : IsIn f (targets_faults its ts k)). in-right (fault_if (not (is_in js x)) k at) (targets_faults js ts k) f (targets-covered its js c ts k f j))
    (in-split (fault_if (not (is_in its x)) k at) (targets_faults its ts k) f i)

-- several expressions that cannot
pub no-spots-all : (es : List Expr) (k : Key) → list_all cannot_fail es ≡ true → spots_in_all es k ≡ []
no-spots-all [] k h = refl
no-spots-all (e ∷ es) k h = let q = both-true (cannot_fail e) (list_all cannot_fail es) h in none-two (spots_in e k) (spots_in_all es k) (no-spots e k q.0) (no-spots-all es k q.1)

-- ---- behind what may fault

join-before : (xs ys : List Fault) (f : Fault) → all_before xs f ≡ true → all_before ys f ≡ true → all_before (xs ++ ys) f ≡ true
join-before [] ys f h k = k
join-before (x ∷ xs) ys f h k = let q = both-true (fault_lt x f) (all_before xs f) h in and_from (fault_lt x f) (all_before (xs ++ ys) f) q.0 (join-before xs ys f q.1 k)

if-before : (b : Bool) (k : Key) (at : Place) (f : Fault) → not b || fault_lt (fault_of k at) f ≡ true → all_before (fault_if b k at) f ≡ true
if-before true k at f h = and_from (fault_lt (fault_of k at) f) true h refl
if-before false k at f h = refl

rest-before : (f : Fault) (k : Key) (e : Expr) → comes_behind f k e ≡ true → all_before (rest_in e k) f ≡ true
rest-before f k (S.Live x at) h = and_from (fault_lt (fault_of k at) f) true h refl
rest-before f k (S.Unary op at e) h =
    let q = both-true (not (can_fail1 op) || fault_lt (fault_of k at) f) (comes_behind f k e) h in join-before (fault_if (can_fail1 op) k at) (rest_in e k) f (if-before (can_fail1 op) k at f q.0) (rest-before f k e q.1)
rest-before f k (S.Binary op at a b) h =
    let q = both-true (not (can_fail2 op) || fault_lt (fault_of k at) f) (comes_behind f k a && comes_behind f k b) h in
    let r = both-true (comes_behind f k a) (comes_behind f k b) q.1 in
    join-before (fault_if (can_fail2 op) k at) (rest_in a k ++ rest_in b k) f (if-before (can_fail2 op) k at f q.0) (join-before (rest_in a k) (rest_in b k) f (rest-before f k a r.0) (rest-before f k b r.1))
rest-before f k (S.Both a b) h = let r = both-true (comes_behind f k a) (comes_behind f k b) h in join-before (rest_in a k) (rest_in b k) f (rest-before f k a r.0) (rest-before f k b r.1)
rest-before f k (S.Either a b) h = let r = both-true (comes_behind f k a) (comes_behind f k b) h in join-before (rest_in a k) (rest_in b k) f (rest-before f k a r.0) (rest-before f k b r.1)
rest-before f k (S.Choose c a b) h =
    let q = both-true (comes_behind f k c) (comes_behind f k a && comes_behind f k b) h in
    let r = both-true (comes_behind f k a) (comes_behind f k b) q.1 in
    join-before (rest_in c k) (rest_in a k ++ rest_in b k) f (rest-before f k c q.0) (join-before (rest_in a k) (rest_in b k) f (rest-before f k a r.0) (rest-before f k b r.1))
rest-before f k (S.Const v) h = refl
rest-before f k (S.Var x at) h = refl
rest-before f k (S.Property x q at) h = refl
rest-before f k (S.EdgeProperty x q at) h = refl
rest-before f k (S.Degree d x at) h = refl
rest-before f k S.NodeCount h = refl
rest-before f k S.EdgeCount h = refl
rest-before f k (S.Folded w hd t e) h = refl

pub values-before : (f : Fault) (k : Key) (es : List Expr) → list_all (comes_behind f k) es ≡ true → all_before (rest_in_all es k) f ≡ true
values-before f k [] h = refl
values-before f k (e ∷ es) h = let q = both-true (comes_behind f k e) (list_all (comes_behind f k) es) h in join-before (rest_in e k) (rest_in_all es k) f (rest-before f k e q.0) (values-before f k es q.1)

unless-before : (b : Bool) (k : Key) (at : Place) (f : Fault) → b || fault_lt (fault_of k at) f ≡ true → all_before (fault_if (not b) k at) f ≡ true
unless-before true k at f h = refl
unless-before false k at f h = and_from (fault_lt (fault_of k at) f) true h refl

pub all-targets-before : (its : List ℕ) (f : Fault) (k : Key) (ts : List Target) → list_all (is_behind_target its f k) ts ≡ true → all_before (targets_faults its ts k) f ≡ true
all-targets-before its f k [] h = refl
all-targets-before its f k (T.Scalar x at ∷ ts) h = all-targets-before its f k ts h
all-targets-before its f k (T.Property x q at ∷ ts) h =
    let r = both-true (is_in its x || fault_lt (fault_of k at) f) (list_all (is_behind_target its f k) ts) h in
    join-before (fault_if (not (is_in its x)) k at) (targets_faults its ts k) f (unless-before (is_in its x) k at f r.0) (all-targets-before its f k ts r.1)
