-- Where faults stand in the order of the text, the numbers of reductions rise.
use Rattle.std.proofs.Common.{◌≡◌, ◌+◌, ℕ, inl, inr, Bool, true, false, List, [], ◌∷◌, ◌++◌, refl, sym, ap, ◌∙◌}
use Rattle.std.specs.Prelude.{◌&&◌, ◌||◌, nat_lt, nat_eq}
use Rattle.std.specs.Cmp.Derive.{both_true}
use Rattle.gm_base.specs.declared.places.Place.{Place}
use Rattle.gm_ast.specs.declared.tree.Declaration.{Declaration}
use Rattle.gm_ast.specs.declared.tree.Key.{Key}
use Rattle.gm_ast.specs.declared.tree.Stage.{Stage}
use Rattle.gm_ast.specs.declared.tree.Stage.TheVariants.{Operator, Total}
use Rattle.gm_ast.specs.declared.tree.TotalKey.{TotalKey}
use Rattle.gm_ast.specs.Keys.{Fault, fault_lt, total_fault, all_before}
use Rattle.gm_ast.specs.Program.{Expr, Stmt, Skip, Then, Declare, DeclareEdge, Assign, Defer, Combine, Group, Foreach, For, If, While, Do, InBfs, InBfsBoth, Return}
use Rattle.gm_forms.proofs.Named.{both-true}
use Rattle.gm_forms.specs.Order.{lie_before, faults_in, faults_in_all, targets_faults, fault_of, are_numbered, faults_of, in_order, leads, body_in_order, loop_in_order, begins, search_in_order, folds_in_order, loops_in_order}
use Rattle.gm_ready.specs.Rising.{numbers_in, is_below, rise, numbers_rise_in}
use Rattle.gm_ready.proofs.Placing.{Placed}
use Rattle.gm_ready.proofs.Racing.{Member, member-left, member-right}

-- ---- lists that rise

-- each of some numbers is less than each of others
abbrev Under : List ℕ → List ℕ → Type 0
Under xs ys = (n m : ℕ) → Member n xs → Member m ys → nat_lt n m ≡ true

below-all : (n : ℕ) (ys : List ℕ) → ((m : ℕ) → Member m ys → nat_lt n m ≡ true) → is_below n ys ≡ true
below-all n [] f = refl
below-all n (y ∷ ys) f = both_true (f y (inl refl)) (below-all n ys (λ m i. f m (inr i)))

below-append : (n : ℕ) (xs ys : List ℕ) → is_below n xs ≡ true → is_below n ys ≡ true → is_below n (xs ++ ys) ≡ true
below-append n [] ys h k = k
below-append n (x ∷ xs) ys h k = let r = both-true (nat_lt n x) (is_below n xs) h in both_true r.0 (below-append n xs ys r.1 k)

rise-append : (xs ys : List ℕ) → Under xs ys → rise xs ≡ true → rise ys ≡ true → rise (xs ++ ys) ≡ true
rise-append [] ys u h k = k
rise-append (x ∷ xs) ys u h k =
    let r = both-true (is_below x xs) (rise xs) h in
    both_true (below-append x xs ys r.0 (below-all x ys (λ m i. u x m (inl refl) i))) (rise-append xs ys (λ n m i j. u n m (inr i) j) r.1 k)

-- a member of two lists together is one of the first or of the second
in-either : {A B : Type 0} (x : A) (xs ys : List A) → Member x (xs ++ ys) → (Member x xs → B) → (Member x ys → B) → B
in-either x [] ys m f g = g m
in-either x (y ∷ xs) ys (inl e) f g = f (inl e)
in-either x (y ∷ xs) ys (inr m) f g = in-either x xs ys m (λ i. f (inr i)) g

-- ---- faults of reductions

all-before-one : (xs : List Fault) (y x : Fault) → all_before xs y ≡ true → Member x xs → fault_lt x y ≡ true
all-before-one [] y x h m = absurd m
all-before-one (z ∷ zs) y x h (inl e) = ap (λ q. fault_lt q y) e ∙ (both-true (fault_lt z y) (all_before zs y) h).0
all-before-one (z ∷ zs) y x h (inr m) = all-before-one zs y x (both-true (fault_lt z y) (all_before zs y) h).1 m

before-one : (xs ys : List Fault) (x y : Fault) → lie_before xs ys ≡ true → Member x xs → Member y ys → fault_lt x y ≡ true
before-one xs [] x y h m n = absurd n
before-one xs (z ∷ zs) x y h m (inl e) = ap (fault_lt x) e ∙ all-before-one xs z x (both-true (all_before xs z) (lie_before xs zs) h).0 m
before-one xs (z ∷ zs) x y h m (inr n) = before-one xs zs x y (both-true (all_before xs z) (lie_before xs zs) h).1 m n

-- a fault of a stage under a number
abbrev fault_at : ℕ → Stage → Place → Fault
fault_at n stage at = record { key = record { statement = n; stage = stage }; place = at }

-- a total that comes before an operator stands under a lesser number
lesser : (n m : ℕ) (p q : Place) → fault_lt (fault_at n Total p) (fault_at m Operator q) ≡ true → nat_lt n m ≡ true
lesser n m p q h = by (nat_lt n m) (nat_eq n m) h
  where
    by : (a b : Bool) → a || (b && false) ≡ true → a ≡ true
    by true b h = refl
    by false true h = h
    by false false h = h

module _ (ds : List Declaration) where
  -- a reduction's total and its operator are among the faults of what it stands in
  abbrev Has : List ℕ → Stage → ℕ → Stmt → Type 0
  Has its stage n s = (at : Place) × Member (fault_at n stage at) (faults_of its s)

  total-of : (n : ℕ) (k : Key) (total : TotalKey) → total.key ≡ record { statement = k.statement; stage = Total } → n ≡ total.key.statement → fault_at n Total total.place ≡ total_fault total
  total-of n k total key e = ap (λ m. fault_at m Total total.place) (e ∙ ap (λ (q : Key). q.statement) key) ∙ ap (λ (q : Key). fault_of q) (sym key)
    where
      fault_of : Key → Fault
      fault_of q = record { key = q; place = total.place }

  operator-of : (n : ℕ) (k : Key) (total : TotalKey) → k.stage ≡ Operator → total.key ≡ record { statement = k.statement; stage = Total } → n ≡ total.key.statement → fault_at n Operator total.place ≡ record { key = k; place = total.place }
  operator-of n k total stage key e =
      ap (λ m. fault_at m Operator total.place) (e ∙ ap (λ (q : Key). q.statement) key) ∙ ap (λ st. fault_at k.statement st total.place) (sym stage)

  has-total : (its : List ℕ) (d : ℕ) (edge : Bool) (s : Stmt) → Placed ds d edge s → (n : ℕ) → Member n (numbers_in s) → Has its Total n s
  has-total its d edge (Then a b) h n m = in-either n (numbers_in a) (numbers_in b) m (λ i. let r = has-total its d edge a h.0 n i in (r.0, member-left _ (faults_of its a) (faults_of its b) r.1)) (λ i. let r = has-total its d h.1.0 b h.1.1.1 n i in (r.0, member-right _ (faults_of its a) (faults_of its b) r.1))
  has-total its d edge (Combine k total op ts es) h n (inl e) =
      (total.place, member-right _ (targets_faults its ts k) _ (member-right _ (faults_in_all es k) _ (inr (inl (total-of n k total h.1.0.1 e)))))
  has-total its d edge (Combine k total op ts es) h n (inr m) = absurd m
  has-total its d edge (If k c a b) h n m =
      in-either n (numbers_in a) (numbers_in b) m (λ i. let r = has-total its d edge a h.1.0 n i in (r.0, member-right _ (faults_in c k) _ (member-left _ (faults_of its a) (faults_of its b) r.1)))
      (λ i. let r = has-total its d edge b h.1.1 n i in (r.0, member-right _ (faults_in c k) _ (member-right _ (faults_of its a) (faults_of its b) r.1)))
  has-total its d edge (Foreach k at hd test body) h n m = let r = has-total (hd.iterator ∷ its) (d + 1) edge body h.1.1 n m in (r.0, inr (member-right _ (faults_in test k) (faults_of (hd.iterator ∷ its) body) r.1))
  has-total its d edge Skip h n m = absurd m
  has-total its d edge (Declare k x e) h n m = absurd m
  has-total its d edge (DeclareEdge x y at) h n m = absurd m
  has-total its d edge (Assign k t e) h n m = absurd m
  has-total its d edge (Defer k t e) h n m = absurd m
  has-total its d edge (Group k at g p e) h n m = absurd m
  has-total its d edge (For k at hd test body) h n m = absurd m
  has-total its d edge (While k at c body) h n m = absurd m
  has-total its d edge (Do k at body c) h n m = absurd m
  has-total its d edge (InBfs k at s test body) h n m = absurd m
  has-total its d edge (InBfsBoth k at s test body bk bt back) h n m = absurd m
  has-total its d edge (Return k at e) h n m = absurd m

  has-operator : (its : List ℕ) (d : ℕ) (edge : Bool) (s : Stmt) → Placed ds d edge s → (n : ℕ) → Member n (numbers_in s) → Has its Operator n s
  has-operator its d edge (Then a b) h n m = in-either n (numbers_in a) (numbers_in b) m (λ i. let r = has-operator its d edge a h.0 n i in (r.0, member-left _ (faults_of its a) (faults_of its b) r.1)) (λ i. let r = has-operator its d h.1.0 b h.1.1.1 n i in (r.0, member-right _ (faults_of its a) (faults_of its b) r.1))
  has-operator its d edge (Combine k total op ts es) h n (inl e) =
      (total.place, member-right _ (targets_faults its ts k) _ (member-right _ (faults_in_all es k) _ (inl (operator-of n k total h.1.0.0 h.1.0.1 e))))
  has-operator its d edge (Combine k total op ts es) h n (inr m) = absurd m
  has-operator its d edge (If k c a b) h n m =
      in-either n (numbers_in a) (numbers_in b) m (λ i. let r = has-operator its d edge a h.1.0 n i in (r.0, member-right _ (faults_in c k) _ (member-left _ (faults_of its a) (faults_of its b) r.1)))
      (λ i. let r = has-operator its d edge b h.1.1 n i in (r.0, member-right _ (faults_in c k) _ (member-right _ (faults_of its a) (faults_of its b) r.1)))
  has-operator its d edge (Foreach k at hd test body) h n m = let r = has-operator (hd.iterator ∷ its) (d + 1) edge body h.1.1 n m in (r.0, inr (member-right _ (faults_in test k) (faults_of (hd.iterator ∷ its) body) r.1))
  has-operator its d edge Skip h n m = absurd m
  has-operator its d edge (Declare k x e) h n m = absurd m
  has-operator its d edge (DeclareEdge x y at) h n m = absurd m
  has-operator its d edge (Assign k t e) h n m = absurd m
  has-operator its d edge (Defer k t e) h n m = absurd m
  has-operator its d edge (Group k at g p e) h n m = absurd m
  has-operator its d edge (For k at hd test body) h n m = absurd m
  has-operator its d edge (While k at c body) h n m = absurd m
  has-operator its d edge (Do k at body c) h n m = absurd m
  has-operator its d edge (InBfs k at s test body) h n m = absurd m
  has-operator its d edge (InBfsBoth k at s test body bk bt back) h n m = absurd m
  has-operator its d edge (Return k at e) h n m = absurd m

  -- of two parts of which the faults of one lie before those of the other, so do the numbers
  under : (its : List ℕ) (d e : ℕ) (edge more : Bool) (a b : Stmt) → Placed ds d edge a → Placed ds e more b → lie_before (faults_of its a) (faults_of its b) ≡ true → Under (numbers_in a) (numbers_in b)
  under its d e edge more a b h k o n m i j =
      let t = has-total its d edge a h n i in
      let u = has-operator its e more b k m j in
      lesser n m t.0 u.0 (before-one (faults_of its a) (faults_of its b) (fault_at n Total t.0) (fault_at m Operator u.0) o t.1 u.1)

  rises-in : (its : List ℕ) (d : ℕ) (edge : Bool) (s : Stmt) → Placed ds d edge s → body_in_order its s ≡ true → rise (numbers_in s) ≡ true
  rises-in its d edge (Then a b) h o =
      let q = both-true (body_in_order its a) (body_in_order its b && lie_before (faults_of its a) (faults_of its b)) o in
      let z = both-true (body_in_order its b) (lie_before (faults_of its a) (faults_of its b)) q.1 in
      rise-append (numbers_in a) (numbers_in b) (under its d d edge h.1.0 a b h.0 h.1.1.1 z.1) (rises-in its d edge a h.0 q.0) (rises-in its d h.1.0 b h.1.1.1 z.0)
  rises-in its d edge (Combine k total op ts es) h o = refl
  rises-in its d edge (If k c a b) h o =
      let q = both-true (in_order c k) (body_in_order its a && (body_in_order its b && (lie_before (faults_in c k) (faults_of its a ++ faults_of its b) && lie_before (faults_of its a) (faults_of its b)))) o in
      let z = both-true (body_in_order its a) (body_in_order its b && (lie_before (faults_in c k) (faults_of its a ++ faults_of its b) && lie_before (faults_of its a) (faults_of its b))) q.1 in
      let y = both-true (body_in_order its b) (lie_before (faults_in c k) (faults_of its a ++ faults_of its b) && lie_before (faults_of its a) (faults_of its b)) z.1 in
      let x = both-true (lie_before (faults_in c k) (faults_of its a ++ faults_of its b)) (lie_before (faults_of its a) (faults_of its b)) y.1 in
      rise-append (numbers_in a) (numbers_in b) (under its d d edge edge a b h.1.0 h.1.1 x.1) (rises-in its d edge a h.1.0 z.0) (rises-in its d edge b h.1.1 y.0)
  rises-in its d edge (Foreach k at hd test body) h o =
      let z = both-true (leads (hd.iterator ∷ its) k hd.place body) (loop_in_order (hd.iterator ∷ its) k test body) o in
      let q = both-true (in_order test k) (body_in_order (hd.iterator ∷ its) body && lie_before (faults_in test k) (faults_of (hd.iterator ∷ its) body)) z.1 in
      rises-in (hd.iterator ∷ its) (d + 1) edge body h.1.1 (both-true (body_in_order (hd.iterator ∷ its) body) (lie_before (faults_in test k) (faults_of (hd.iterator ∷ its) body)) q.1).0
  rises-in its d edge Skip h o = refl
  rises-in its d edge (Declare k x e) h o = refl
  rises-in its d edge (DeclareEdge x y at) h o = refl
  rises-in its d edge (Assign k t e) h o = refl
  rises-in its d edge (Defer k t e) h o = refl
  rises-in its d edge (Group k at g p e) h o = refl
  rises-in its d edge (For k at hd test body) h o = refl
  rises-in its d edge (While k at c body) h o = refl
  rises-in its d edge (Do k at body c) h o = refl
  rises-in its d edge (InBfs k at s test body) h o = refl
  rises-in its d edge (InBfsBoth k at s test body bk bt back) h o = refl
  rises-in its d edge (Return k at e) h o = refl

  loop-rises : (its : List ℕ) (d : ℕ) (edge : Bool) (k : Key) (test : Expr) (body : Stmt) → Placed ds d edge body → loop_in_order its k test body ≡ true → rise (numbers_in body) ≡ true
  loop-rises its d edge k test body h o =
      let q = both-true (in_order test k) (body_in_order its body && lie_before (faults_in test k) (faults_of its body)) o in
      rises-in its d edge body h (both-true (body_in_order its body) (lie_before (faults_in test k) (faults_of its body)) q.1).0

  search-rises : (its : List ℕ) (d : ℕ) (edge : Bool) (k : Key) (at : Place) (test : Expr) (body : Stmt) → Placed ds d edge body → search_in_order its k at test body ≡ true → rise (numbers_in body) ≡ true
  search-rises its d edge k at test body h o =
      let q = both-true (are_numbered (fault_of k at ∷ [])) (begins its k at test body && loop_in_order its k test body) o in
      loop-rises its d edge k test body h (both-true (begins its k at test body) (loop_in_order its k test body) q.1).1

  pub numbers-rise : (d : ℕ) (edge : Bool) (s : Stmt) → Placed ds d edge s → loops_in_order s ≡ true → numbers_rise_in s ≡ true
  numbers-rise d edge (Then a b) h o = let q = both-true (loops_in_order a) (loops_in_order b) o in both_true (numbers-rise d edge a h.0 q.0) (numbers-rise d h.1.0 b h.1.1.1 q.1)
  numbers-rise d edge (Foreach k at hd test body) h o = loop-rises (hd.iterator ∷ []) (d + 1) edge k test body h.1.1 (both-true (begins (hd.iterator ∷ []) k hd.place test body) (loop_in_order (hd.iterator ∷ []) k test body) o).1
  numbers-rise d edge (For k at hd test body) h o = numbers-rise (d + 0) edge body h.1.1 (both-true (folds_in_order test) (loops_in_order body) o).1
  numbers-rise d edge (If k c a b) h o =
      let q = both-true (folds_in_order c) (loops_in_order a && loops_in_order b) o in
      let z = both-true (loops_in_order a) (loops_in_order b) q.1 in
      both_true (numbers-rise d edge a h.1.0 z.0) (numbers-rise d edge b h.1.1 z.1)
  numbers-rise d edge (While k at c body) h o = numbers-rise d edge body h.1 (both-true (folds_in_order c) (loops_in_order body) o).1
  numbers-rise d edge (Do k at body c) h o = numbers-rise d edge body h.0 (both-true (loops_in_order body) (folds_in_order c) o).0
  numbers-rise d edge (InBfs k at s test body) h o = search-rises (s.iterator ∷ []) (d + 1) edge k s.place test body h.1.1 o
  numbers-rise d edge (InBfsBoth k at s test body bk bt back) h o =
      let q = both-true (search_in_order (s.iterator ∷ []) k s.place test body) (search_in_order (s.iterator ∷ []) bk s.place bt back) o in
      both_true (search-rises (s.iterator ∷ []) (d + 1) edge k s.place test body h.1.0.1 q.0) (search-rises (s.iterator ∷ []) (d + 1) edge bk s.place bt back h.1.1.1 q.1)
  numbers-rise d edge Skip h o = refl
  numbers-rise d edge (Declare k x e) h o = refl
  numbers-rise d edge (DeclareEdge x y at) h o = refl
  numbers-rise d edge (Assign k t e) h o = refl
  numbers-rise d edge (Defer k t e) h o = refl
  numbers-rise d edge (Combine k total op ts es) h o = refl
  numbers-rise d edge (Group k at g p e) h o = refl
  numbers-rise d edge (Return k at e) h o = refl
