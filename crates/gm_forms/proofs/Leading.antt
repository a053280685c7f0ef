-- Keys that stand before the faults of a body, for loops that a pass writes.
use Rattle.std.proofs.Common.{◌≡◌, ◌<◌, ℕ, suc, Bool, true, false, List, [], ◌∷◌, ◌++◌, refl, sym, ap, subst, ◌∙◌, arith}
use Rattle.std.specs.Prelude.{nat_lt, nat_eq, ◌&&◌, ◌||◌, not}
use Rattle.std.specs.Cmp.Derive.{both_true}
use Rattle.std.proofs.lemmas.Bool.{false≢true, or_left, lt-ltb}
use Rattle.gm_base.specs.declared.places.Place.{Place}
use Rattle.gm_value.specs.declared.operations.Op1.{Op1}
use Rattle.gm_value.specs.declared.operations.Op2.{Op2}
use Rattle.gm_ast.specs.declared.tree.Key.{Key}
use Rattle.gm_ast.specs.declared.tree.Stage.TheVariants.{Inner}
use Rattle.gm_ast.specs.declared.tree.Target.{Target}
use Rattle.gm_ast.specs.declared.tree.Target.TheVariants as T
use Rattle.gm_ast.specs.Keys.{Fault, fault_lt, all_before, total_fault}
use Rattle.gm_ast.specs.Ways.{is_in}
use Rattle.gm_ast.specs.Program.{Expr, Const, Var, Property, EdgeProperty, Degree, NodeCount, EdgeCount, Live, Unary, Binary, Both, Either, Choose, Folded, Stmt, Skip, Then, Declare, DeclareEdge, Assign, Defer, Combine, Group, Foreach, For, If, While, Do, InBfs, InBfsBoth, Return}
use Rattle.gm_forms.specs.Forms.{is_flat}
use Rattle.gm_forms.specs.Order.{fault_of, are_numbered, first_key, cannot_fail, can_fail1, can_fail2, fault_if, hoisted_in, hoisted_in_all, hoists_in_order, rest_in, faults_in, faults_in_all, in_order, all_in_order, lie_before, target_faults, targets_faults, faults_of, leads, body_in_order, loop_in_order, begins}
use Rattle.gm_forms.proofs.Named.{both-true}

-- ---- numbered faults

pub numbered-both : (xs ys : List Fault) → are_numbered xs ≡ true → are_numbered ys ≡ true → are_numbered (xs ++ ys) ≡ true
numbered-both [] ys h g = g
numbered-both (f ∷ fs) ys h g = let s = both-true (nat_lt 0 f.key.statement) (are_numbered fs) h in both_true s.0 (numbered-both fs ys s.1 g)

pub numbered-first : (xs ys : List Fault) → are_numbered (xs ++ ys) ≡ true → are_numbered xs ≡ true
numbered-first [] ys h = refl
numbered-first (f ∷ fs) ys h = let s = both-true (nat_lt 0 f.key.statement) (are_numbered (fs ++ ys)) h in both_true s.0 (numbered-first fs ys s.1)

pub numbered-second : (xs ys : List Fault) → are_numbered (xs ++ ys) ≡ true → are_numbered ys ≡ true
numbered-second [] ys h = h
numbered-second (f ∷ fs) ys h = numbered-second fs ys (both-true (nat_lt 0 f.key.statement) (are_numbered (fs ++ ys)) h).1

-- ---- one key before others

-- a key of a lesser number comes before, wherever the faults are
pub lesser-before : (j k : Key) (p q : Place) → nat_lt j.statement k.statement ≡ true → fault_lt (fault_of j p) (fault_of k q) ≡ true
lesser-before j k p q h = or_left (nat_lt j.statement k.statement) _ h

pub first-before : (at : Place) (xs : List Fault) → are_numbered xs ≡ true → lie_before (fault_of first_key at ∷ []) xs ≡ true
first-before at [] h = refl
first-before at (f ∷ fs) h =
    let s = both-true (nat_lt 0 f.key.statement) (are_numbered fs) h in
    both_true (both_true (lesser-before first_key f.key at f.place s.0) refl) (first-before at fs s.1)

-- faults that are all under the first key come before those that are numbered
abbrev pub AreUnder : Key → List Fault → Type 0
AreUnder k [] = Unit {0}
AreUnder k (f ∷ fs) = (f.key ≡ k) × AreUnder k fs

under-before : (xs : List Fault) (f : Fault) → AreUnder first_key xs → nat_lt 0 f.key.statement ≡ true → all_before xs f ≡ true
under-before [] f u h = refl
under-before (x ∷ xs) f u h = both_true (subst (λ (k : Key). fault_lt (fault_of k x.place) f ≡ true) (sym u.0) (lesser-before first_key f.key x.place f.place h)) (under-before xs f u.1 h)

pub under-first : (xs ys : List Fault) → AreUnder first_key xs → are_numbered ys ≡ true → lie_before xs ys ≡ true
under-first xs [] u h = refl
under-first xs (y ∷ ys) u h = let s = both-true (nat_lt 0 y.key.statement) (are_numbered ys) h in both_true (under-before xs y u s.0) (under-first xs ys u s.1)

-- nothing comes before anything
pub nothing-first : (xs ys : List Fault) → xs ≡ [] → lie_before xs ys ≡ true
nothing-first xs [] e = refl
nothing-first xs (y ∷ ys) e = both_true (ap (λ zs. all_before zs y) e) (nothing-first xs ys e)

-- ---- a loop of the first key

pub first-leads : (its : List ℕ) (at : Place) (body : Stmt) → are_numbered (faults_of its body) ≡ true → leads its first_key at body ≡ true
first-leads its at body h = first-before at (faults_of its body) h

-- it stands in order, whatever the filter that cannot fault, where its body does
pub first-begins : (its : List ℕ) (at : Place) (test : Expr) (body : Stmt) → hoisted_in test ≡ [] → cannot_fail test ≡ true → are_numbered (faults_of its body) ≡ true → begins its first_key at test body ≡ true
first-begins its at test body none safe h =
    both_true (first-leads its at body h) (both_true (subst (λ xs. are_numbered (xs ++ faults_of its body) ≡ true) (sym none) h) (ap (λ b. nat_lt 0 first_key.statement || b) safe))

-- ---- flat filters

append-nothing : (xs ys : List Fault) → xs ≡ [] → ys ≡ [] → xs ++ ys ≡ []
append-nothing xs ys x y = ap (λ zs. zs ++ ys) x ∙ y

pub flat-hoisted : (its : List ℕ) (edge : Bool) (e : Expr) → is_flat its edge e ≡ true → hoisted_in e ≡ []
flat-hoisted its edge (Const v) h = refl
flat-hoisted its edge (Var x at) h = refl
flat-hoisted its edge (Property x p at) h = refl
flat-hoisted its edge (EdgeProperty x p at) h = refl
flat-hoisted its edge (Degree d x at) h = refl
flat-hoisted its edge NodeCount h = refl
flat-hoisted its edge EdgeCount h = refl
flat-hoisted its edge (Live x at) h = refl
flat-hoisted its edge (Unary op at e) h = flat-hoisted its edge e h
flat-hoisted its edge (Binary op at a b) h = let s = both-true (is_flat its edge a) (is_flat its edge b) h in append-nothing (hoisted_in a) (hoisted_in b) (flat-hoisted its edge a s.0) (flat-hoisted its edge b s.1)
flat-hoisted its edge (Both a b) h = let s = both-true (is_flat its edge a) (is_flat its edge b) h in append-nothing (hoisted_in a) (hoisted_in b) (flat-hoisted its edge a s.0) (flat-hoisted its edge b s.1)
flat-hoisted its edge (Either a b) h = let s = both-true (is_flat its edge a) (is_flat its edge b) h in append-nothing (hoisted_in a) (hoisted_in b) (flat-hoisted its edge a s.0) (flat-hoisted its edge b s.1)
flat-hoisted its edge (Choose c a b) h =
    let s = both-true (is_flat its edge c) (is_flat its edge a && is_flat its edge b) h in
    let t = both-true (is_flat its edge a) (is_flat its edge b) s.1 in
    append-nothing (hoisted_in c) (hoisted_in a ++ hoisted_in b) (flat-hoisted its edge c s.0) (append-nothing (hoisted_in a) (hoisted_in b) (flat-hoisted its edge a t.0) (flat-hoisted its edge b t.1))
flat-hoisted its edge (Folded f hd test e) h = absurd (false≢true h)

nothing-after : (xs ys : List Fault) → ys ≡ [] → lie_before xs ys ≡ true
nothing-after xs ys e = ap (lie_before xs) e

two-flat : (a b : Expr) → hoists_in_order a ≡ true → hoists_in_order b ≡ true → hoisted_in b ≡ [] → hoists_in_order a && (hoists_in_order b && lie_before (hoisted_in a) (hoisted_in b)) ≡ true
two-flat a b x y none = both_true x (both_true y (nothing-after (hoisted_in a) (hoisted_in b) none))

pub flat-ordered : (its : List ℕ) (edge : Bool) (e : Expr) → is_flat its edge e ≡ true → hoists_in_order e ≡ true
flat-ordered its edge (Const v) h = refl
flat-ordered its edge (Var x at) h = refl
flat-ordered its edge (Property x p at) h = refl
flat-ordered its edge (EdgeProperty x p at) h = refl
flat-ordered its edge (Degree d x at) h = refl
flat-ordered its edge NodeCount h = refl
flat-ordered its edge EdgeCount h = refl
flat-ordered its edge (Live x at) h = refl
flat-ordered its edge (Unary op at e) h = flat-ordered its edge e h
flat-ordered its edge (Binary op at a b) h = let s = both-true (is_flat its edge a) (is_flat its edge b) h in two-flat a b (flat-ordered its edge a s.0) (flat-ordered its edge b s.1) (flat-hoisted its edge b s.1)
flat-ordered its edge (Both a b) h = let s = both-true (is_flat its edge a) (is_flat its edge b) h in two-flat a b (flat-ordered its edge a s.0) (flat-ordered its edge b s.1) (flat-hoisted its edge b s.1)
flat-ordered its edge (Either a b) h = let s = both-true (is_flat its edge a) (is_flat its edge b) h in two-flat a b (flat-ordered its edge a s.0) (flat-ordered its edge b s.1) (flat-hoisted its edge b s.1)
flat-ordered its edge (Choose c a b) h =
    let s = both-true (is_flat its edge c) (is_flat its edge a && is_flat its edge b) h in
    let t = both-true (is_flat its edge a) (is_flat its edge b) s.1 in
    let none = append-nothing (hoisted_in a) (hoisted_in b) (flat-hoisted its edge a t.0) (flat-hoisted its edge b t.1) in
    both_true (flat-ordered its edge c s.0) (both_true (flat-ordered its edge a t.0) (both_true (flat-ordered its edge b t.1)
    (both_true (nothing-after (hoisted_in c) (hoisted_in a ++ hoisted_in b) none) (nothing-after (hoisted_in a) (hoisted_in b) (flat-hoisted its edge b t.1)))))
flat-ordered its edge (Folded f hd test e) h = absurd (false≢true h)

pub flat-in-order : (its : List ℕ) (edge : Bool) (e : Expr) (k : Key) → is_flat its edge e ≡ true → in_order e k ≡ true
flat-in-order its edge e k h = both_true (flat-ordered its edge e h) (nothing-first (hoisted_in e) (rest_in e k) (flat-hoisted its edge e h))

-- what is not of reductions is under the key of the statement
under-fault : (b : Bool) (k : Key) (at : Place) → AreUnder k (fault_if b k at)
under-fault true k at = (refl, tt)
under-fault false k at = tt

under-both : (k : Key) (xs ys : List Fault) → AreUnder k xs → AreUnder k ys → AreUnder k (xs ++ ys)
under-both k [] ys x y = y
under-both k (f ∷ fs) ys x y = (x.0, under-both k fs ys x.1 y)

pub rest-under : (e : Expr) (k : Key) → AreUnder k (rest_in e k)
rest-under (Const v) k = tt
rest-under (Var x at) k = tt
rest-under (Property x p at) k = tt
rest-under (EdgeProperty x p at) k = tt
rest-under (Degree d x at) k = tt
rest-under NodeCount k = tt
rest-under EdgeCount k = tt
rest-under (Live x at) k = (refl, tt)
rest-under (Unary op at e) k = under-both k (fault_if (can_fail1 op) k at) (rest_in e k) (under-fault (can_fail1 op) k at) (rest-under e k)
rest-under (Binary op at a b) k = under-both k (fault_if (can_fail2 op) k at) (rest_in a k ++ rest_in b k) (under-fault (can_fail2 op) k at) (under-both k (rest_in a k) (rest_in b k) (rest-under a k) (rest-under b k))
rest-under (Both a b) k = under-both k (rest_in a k) (rest_in b k) (rest-under a k) (rest-under b k)
rest-under (Either a b) k = under-both k (rest_in a k) (rest_in b k) (rest-under a k) (rest-under b k)
rest-under (Choose c a b) k = under-both k (rest_in c k) (rest_in a k ++ rest_in b k) (rest-under c k) (under-both k (rest_in a k) (rest_in b k) (rest-under a k) (rest-under b k))
rest-under (Folded f hd test e) k = tt

pub flat-under : (its : List ℕ) (edge : Bool) (e : Expr) (k : Key) → is_flat its edge e ≡ true → AreUnder k (faults_in e k)
flat-under its edge e k h = subst (λ xs. AreUnder k (xs ++ rest_in e k)) (sym (flat-hoisted its edge e h)) (rest-under e k)

-- what cannot fault, a mask, has no faults
no-fault1 : (op : Op1) (k : Key) (at : Place) → not (can_fail1 op) ≡ true → fault_if (can_fail1 op) k at ≡ []
no-fault1 op k at h = by (can_fail1 op) h
  where
    by : (b : Bool) → not b ≡ true → fault_if b k at ≡ []
    by true h = absurd (false≢true h)
    by false h = refl

no-fault2 : (op : Op2) (k : Key) (at : Place) → not (can_fail2 op) ≡ true → fault_if (can_fail2 op) k at ≡ []
no-fault2 op k at h = by (can_fail2 op) h
  where
    by : (b : Bool) → not b ≡ true → fault_if b k at ≡ []
    by true h = absurd (false≢true h)
    by false h = refl

pub safe-rest : (e : Expr) (k : Key) → cannot_fail e ≡ true → rest_in e k ≡ []
safe-rest (Const v) k h = refl
safe-rest (Var x at) k h = refl
safe-rest (Property x p at) k h = refl
safe-rest (EdgeProperty x p at) k h = refl
safe-rest (Degree d x at) k h = refl
safe-rest NodeCount k h = refl
safe-rest EdgeCount k h = refl
safe-rest (Live x at) k h = absurd (false≢true h)
safe-rest (Unary op at e) k h = let s = both-true (not (can_fail1 op)) (cannot_fail e) h in append-nothing _ _ (no-fault1 op k at s.0) (safe-rest e k s.1)
safe-rest (Binary op at a b) k h =
    let s = both-true (not (can_fail2 op)) (cannot_fail a && cannot_fail b) h in
    let t = both-true (cannot_fail a) (cannot_fail b) s.1 in append-nothing _ _ (no-fault2 op k at s.0) (append-nothing _ _ (safe-rest a k t.0) (safe-rest b k t.1))
safe-rest (Both a b) k h = let s = both-true (cannot_fail a) (cannot_fail b) h in append-nothing _ _ (safe-rest a k s.0) (safe-rest b k s.1)
safe-rest (Either a b) k h = let s = both-true (cannot_fail a) (cannot_fail b) h in append-nothing _ _ (safe-rest a k s.0) (safe-rest b k s.1)
safe-rest (Choose c a b) k h =
    let s = both-true (cannot_fail c) (cannot_fail a && cannot_fail b) h in
    let t = both-true (cannot_fail a) (cannot_fail b) s.1 in append-nothing _ _ (safe-rest c k s.0) (append-nothing _ _ (safe-rest a k t.0) (safe-rest b k t.1))
safe-rest (Folded f hd test e) k h = absurd (false≢true h)

pub safe-hoisted : (e : Expr) → cannot_fail e ≡ true → hoisted_in e ≡ []
safe-hoisted (Const v) h = refl
safe-hoisted (Var x at) h = refl
safe-hoisted (Property x p at) h = refl
safe-hoisted (EdgeProperty x p at) h = refl
safe-hoisted (Degree d x at) h = refl
safe-hoisted NodeCount h = refl
safe-hoisted EdgeCount h = refl
safe-hoisted (Live x at) h = refl
safe-hoisted (Unary op at e) h = safe-hoisted e (both-true (not (can_fail1 op)) (cannot_fail e) h).1
safe-hoisted (Binary op at a b) h =
    let s = both-true (not (can_fail2 op)) (cannot_fail a && cannot_fail b) h in
    let t = both-true (cannot_fail a) (cannot_fail b) s.1 in append-nothing _ _ (safe-hoisted a t.0) (safe-hoisted b t.1)
safe-hoisted (Both a b) h = let s = both-true (cannot_fail a) (cannot_fail b) h in append-nothing _ _ (safe-hoisted a s.0) (safe-hoisted b s.1)
safe-hoisted (Either a b) h = let s = both-true (cannot_fail a) (cannot_fail b) h in append-nothing _ _ (safe-hoisted a s.0) (safe-hoisted b s.1)
safe-hoisted (Choose c a b) h =
    let s = both-true (cannot_fail c) (cannot_fail a && cannot_fail b) h in
    let t = both-true (cannot_fail a) (cannot_fail b) s.1 in append-nothing _ _ (safe-hoisted c s.0) (append-nothing _ _ (safe-hoisted a t.0) (safe-hoisted b t.1))
safe-hoisted (Folded f hd test e) h = absurd (false≢true h)

pub safe-faults : (e : Expr) (k : Key) → cannot_fail e ≡ true → faults_in e k ≡ []
safe-faults e k h = append-nothing (hoisted_in e) (rest_in e k) (safe-hoisted e h) (safe-rest e k h)

-- faults depend on which iterators there are, not on their order
abbrev pub SameIterators : List ℕ → List ℕ → Type 0
SameIterators its js = (x : ℕ) → is_in its x ≡ is_in js x

pub iterators-inside : (y : ℕ) (its js : List ℕ) → SameIterators its js → SameIterators (y ∷ its) (y ∷ js)
iterators-inside y its js h x = ap (λ b. nat_eq x y || b) (h x)

pub iterators-turned : (y z : ℕ) → SameIterators (y ∷ z ∷ []) (z ∷ y ∷ [])
iterators-turned y z x = by (nat_eq x y) (nat_eq x z)
  where
    by : (b c : Bool) → b || (c || false) ≡ c || (b || false)
    by true true = refl
    by true false = refl
    by false true = refl
    by false false = refl

target-same : (its js : List ℕ) → SameIterators its js → (t : Target) (k : Key) → target_faults its t k ≡ target_faults js t k
target-same its js h (T.Scalar x at) k = refl
target-same its js h (T.Property x p at) k = ap (λ b. fault_if (not b) k at) (h x)

pub targets-same : (its js : List ℕ) → SameIterators its js → (ts : List Target) (k : Key) → targets_faults its ts k ≡ targets_faults js ts k
targets-same its js h [] k = refl
targets-same its js h (t ∷ ts) k = ap (λ l. l ++ targets_faults its ts k) (target-same its js h t k) ∙ ap (λ l. target_faults js t k ++ l) (targets-same its js h ts k)

pub faults-same : (its js : List ℕ) → SameIterators its js → (s : Stmt) → faults_of its s ≡ faults_of js s
faults-same its js h Skip = refl
faults-same its js h (Then a b) = ap (λ l. l ++ faults_of its b) (faults-same its js h a) ∙ ap (λ l. faults_of js a ++ l) (faults-same its js h b)
faults-same its js h (Declare k x e) = refl
faults-same its js h (DeclareEdge x y at) = refl
faults-same its js h (Assign k t e) = ap (λ l. l ++ faults_in e k) (target-same its js h t k)
faults-same its js h (Defer k t e) = ap (λ l. l ++ faults_in e k) (target-same its js h t k)
faults-same its js h (Combine k total r ts es) = ap (λ l. l ++ (faults_in_all es k ++ (record { key = k; place = total.place } ∷ total_fault total ∷ []))) (targets-same its js h ts k)
faults-same its js h (Group k at g p e) = refl
faults-same its js h (Foreach k at hd test body) = ap (λ l. fault_of k hd.place ∷ (faults_in test k ++ l)) (faults-same (hd.iterator ∷ its) (hd.iterator ∷ js) (iterators-inside hd.iterator its js h) body)
faults-same its js h (For k at hd test body) = refl
faults-same its js h (If k c a b) = ap (λ l. faults_in c k ++ (l ++ faults_of its b)) (faults-same its js h a) ∙ ap (λ l. faults_in c k ++ (faults_of js a ++ l)) (faults-same its js h b)
faults-same its js h (While k at c body) = refl
faults-same its js h (Do k at body c) = refl
faults-same its js h (InBfs k at s test body) = refl
faults-same its js h (InBfsBoth k at s test body bk bt back) = refl
faults-same its js h (Return k at e) = refl

pub order-same : (its js : List ℕ) → SameIterators its js → (s : Stmt) → body_in_order its s ≡ body_in_order js s
order-same its js h Skip = refl
order-same its js h (Then a b) =
    ap (λ z. z && (body_in_order its b && lie_before (faults_of its a) (faults_of its b))) (order-same its js h a)
    ∙ ap (λ z. body_in_order js a && (z && lie_before (faults_of its a) (faults_of its b))) (order-same its js h b)
    ∙ ap (λ l. body_in_order js a && (body_in_order js b && lie_before l (faults_of its b))) (faults-same its js h a) ∙ ap (λ l. body_in_order js a && (body_in_order js b && lie_before (faults_of js a) l)) (faults-same its js h b)
order-same its js h (Declare k x e) = refl
order-same its js h (DeclareEdge x y at) = refl
order-same its js h (Assign k t e) = ap (λ l. in_order e k && lie_before (hoisted_in e) l) (target-same its js h t k)
order-same its js h (Defer k t e) = ap (λ l. in_order e k && lie_before (hoisted_in e) l) (target-same its js h t k)
order-same its js h (Combine k total r ts es) =
    ap (λ l. all_in_order es k && lie_before (hoisted_in_all es) (l ++ (record { key = k; place = total.place } ∷ total_fault total ∷ []))) (targets-same its js h ts k)
order-same its js h (Group k at g p e) = refl
order-same its js h (Foreach k at hd test body) =
    let ys = hd.iterator ∷ its in
    let zs = hd.iterator ∷ js in
    let inside = iterators-inside hd.iterator its js h in
    ap (λ l. lie_before (fault_of k hd.place ∷ []) l && (in_order test k && (body_in_order ys body && lie_before (faults_in test k) l))) (faults-same ys zs inside body)
    ∙ ap (λ z. leads zs k hd.place body && (in_order test k && (z && lie_before (faults_in test k) (faults_of zs body)))) (order-same ys zs inside body)
order-same its js h (For k at hd test body) = refl
order-same its js h (If k c a b) =
    ap (λ z. in_order c k && (z && (body_in_order its b && (lie_before (faults_in c k) (faults_of its a ++ faults_of its b) && lie_before (faults_of its a) (faults_of its b))))) (order-same its js h a)
    ∙ ap (λ z. in_order c k && (body_in_order js a && (z && (lie_before (faults_in c k) (faults_of its a ++ faults_of its b) && lie_before (faults_of its a) (faults_of its b))))) (order-same its js h b)
    ∙ ap (λ l. in_order c k && (body_in_order js a && (body_in_order js b && (lie_before (faults_in c k) (l ++ faults_of its b) && lie_before l (faults_of its b))))) (faults-same its js h a)
    ∙ ap (λ l. in_order c k && (body_in_order js a && (body_in_order js b && (lie_before (faults_in c k) (faults_of js a ++ l) && lie_before (faults_of js a) l)))) (faults-same its js h b)
order-same its js h (While k at c body) = refl
order-same its js h (Do k at body c) = refl
order-same its js h (InBfs k at s test body) = refl
order-same its js h (InBfsBoth k at s test body bk bt back) = refl
order-same its js h (Return k at e) = refl

-- a loop over nodes that a pass writes stands in order under the first key, if its filter cannot fault, its body stands in order, and the faults of that are numbered
pub first-stands : (its js : List ℕ) (edge : Bool) (at : Place) (test : Expr) (body : Stmt) → is_flat js edge test ≡ true → cannot_fail test ≡ true → body_in_order its body ≡ true → are_numbered (faults_of its body) ≡ true
    → begins its first_key at test body && loop_in_order its first_key test body ≡ true
first-stands its js edge at test body flat safe h numbered =
    both_true (first-begins its at test body (flat-hoisted js edge test flat) safe numbered)
    (both_true (flat-in-order js edge test first_key flat) (both_true h (under-first (faults_in test first_key) (faults_of its body) (flat-under js edge test first_key flat) numbered)))

-- faults under a key that has a number are numbered
pub under-numbered : (k : Key) (xs : List Fault) → nat_lt 0 k.statement ≡ true → AreUnder k xs → are_numbered xs ≡ true
under-numbered k [] h u = refl
under-numbered k (f ∷ fs) h u = both_true (subst (λ (j : Key). nat_lt 0 j.statement ≡ true) (sym u.0) h) (under-numbered k fs h u.1)
