-- A body that is one reduction under conditions: what it reads, changes and may fault in is what its conditions and its reduction do.
use Rattle.std.proofs.Common.{◌≡◌, ℕ, Bool, true, false, cond, List, [], ◌∷◌, ◌++◌, refl, sym, ap, subst, ◌∙◌, ⊎_elim, inl, inr}
use Rattle.std.specs.Prelude.{◌&&◌, ◌||◌, ◌⊎◌, not, nat_eq}
use Rattle.std.proofs.lemmas.Bool.{both_ways}
use Rattle.gm_value.specs.Bag.{IsIn}
use Rattle.gm_ast.specs.declared.tree.Declaration.{Declaration}
use Rattle.gm_ast.specs.declared.tree.Key.{Key}
use Rattle.gm_ast.specs.Keys as K
use Rattle.gm_ast.specs.Program.{Expr, Both, always, Stmt, Skip, Then, Declare, DeclareEdge, Assign, Defer, Combine, Group, Foreach, For, If, While, Do, InBfs, InBfsBoth, Return}
use Rattle.gm_forms.specs.Cut.{touched, spares_locals, adds_last}
use Rattle.gm_forms.specs.Forms.{is_flat, is_inner_body, avoids, may}
use Rattle.gm_forms.specs.Order.{cannot_fail, faults_of, body_in_order, rest_in, faults_in, in_order, lie_before}
use Rattle.gm_forms.specs.Sharing.{Read, Sights, reads_in, told_in, sights_of, written, Reduced, reduced, targets_alike}
use Rattle.gm_forms.proofs.Doings.{in-left, in-right, in-either}
use Rattle.gm_forms.proofs.Named.{both-true}
use Rattle.gm_forms.proofs.Weaker.{and-true}
use Rattle.gm_flip.proofs.Basics.{none}
use Rattle.gm_outward.specs.Gathered.{together, is_idle, is_one_reduction, conditions, reduction}
use Rattle.gm_outward.proofs.Masks.{together-has, Reads, reads-together, Tells, tells-together}

append-nil : {A : Type 0} (xs : List A) → xs ++ [] ≡ xs
append-nil [] = refl
append-nil (x ∷ xs) = ap (λ l. x ∷ l) (append-nil xs)

-- the parts of such a body, by what it is made of
module _ (Q : Stmt → Type 0)
    (front : (a b : Stmt) → is_idle a ≡ true → Q b → Q (Then a b)) (back : (a b : Stmt) → is_idle a ≡ false → is_idle b ≡ true → Q a → Q (Then a b))
    (under : (k : Key) (c : Expr) (a b : Stmt) → cannot_fail c ≡ true → is_idle b ≡ true → Q a → Q (If k c a b))
    (one : (k : Key) → (total : _) → (r : _) → (ts : _) → (es : _) → Q (Combine k total r ts es)) where
  pub by-lone : (s : Stmt) → is_one_reduction s ≡ true → Q s
  by-lone (Then a b) h = by (is_idle a) refl h (by-lone a) (by-lone b)
    where
      by : (c : Bool) → is_idle a ≡ c → cond c (is_one_reduction b) (is_one_reduction a && is_idle b) ≡ true → (is_one_reduction a ≡ true → Q a) → (is_one_reduction b ≡ true → Q b) → Q (Then a b)
      by true e l f g = front a b e (g l)
      by false e l f g = let q = both-true (is_one_reduction a) (is_idle b) l in back a b e q.1 (f q.0)
  by-lone (If k c a b) h =
      let p = both-true (cannot_fail c) (is_one_reduction a && is_idle b) h in
      let q = both-true (is_one_reduction a) (is_idle b) p.1 in
      under k c a b p.0 q.1 (by-lone a q.0)
  by-lone (Combine k total r ts es) h = one k total r ts es
  by-lone Skip h = none h
  by-lone (Declare k x e) h = none h
  by-lone (DeclareEdge x y at) h = none h
  by-lone (Assign k t e) h = none h
  by-lone (Defer k t e) h = none h
  by-lone (Group k at g p e) h = none h
  by-lone (Foreach k at hd c s) h = none h
  by-lone (For k at hd c s) h = none h
  by-lone (While k at c s) h = none h
  by-lone (Do k at s c) h = none h
  by-lone (InBfs k at hd c s) h = none h
  by-lone (InBfsBoth k at hd c s bk d u) h = none h
  by-lone (Return k at e) h = none h

-- what all parts of a body have, its reduction has, and so have its conditions together
module _ (B : Stmt → Type 0) (first-of : (a b : Stmt) → B (Then a b) → B a) (second-of : (a b : Stmt) → B (Then a b) → B b) (yes-of : (k : Key) (c : Expr) (a b : Stmt) → B (If k c a b) → B a) where
  pub reduction-has : (s : Stmt) → is_one_reduction s ≡ true → B s → B (reduction s)
  reduction-has s h = by-lone (λ s. B s → B (reduction s))
      (λ a b e f p. subst (λ c. B (cond c (reduction b) (reduction a))) (sym e) (f (second-of a b p)))
      (λ a b e i f p. subst (λ c. B (cond c (reduction b) (reduction a))) (sym e) (f (first-of a b p)))
      (λ k c a b q i f p. f (yes-of k c a b p)) (λ k total r ts es p. p) s h

  module _ (Q : Expr → Type 0) (passes : Q always) (pair : (a b : Expr) → Q a → Q b → Q (Both a b)) (of : (k : Key) (c : Expr) (a b : Stmt) → cannot_fail c ≡ true → B (If k c a b) → Q c) where
    pub conditions-have : (s : Stmt) → is_one_reduction s ≡ true → B s → Q (conditions s)
    conditions-have s h = by-lone (λ s. B s → Q (conditions s))
        (λ a b e f p. subst (λ c. Q (cond c (conditions b) (conditions a))) (sym e) (f (second-of a b p)))
        (λ a b e i f p. subst (λ c. Q (cond c (conditions b) (conditions a))) (sym e) (f (first-of a b p)))
        (λ k c a b q i f p. together-has Q passes pair c (conditions a) (of k c a b q p) (f (yes-of k c a b p))) (λ k total r ts es p. passes) s h

-- the conditions cannot fault
pub conditions-safe : (s : Stmt) → is_one_reduction s ≡ true → cannot_fail (conditions s) ≡ true
conditions-safe s h = conditions-have (λ s. cannot_fail always ≡ true) (λ a b p. p) (λ a b p. p) (λ k c a b p. p) (λ e. cannot_fail e ≡ true) refl (λ a b p q. and-true (cannot_fail a) (cannot_fail b) p q) (λ k c a b q p. q) s h refl

-- lists of what is done by parts
module _ {A : Type 0} (L : Stmt → List A) (both : (a b : Stmt) → L (Then a b) ≡ L a ++ L b) (ways : (k : Key) (c : Expr) (a b : Stmt) → L (If k c a b) ≡ L a ++ L b) (skips : L Skip ≡ []) (edges : (x y : ℕ) (at : _) → L (DeclareEdge x y at) ≡ []) where
  idle-list : (s : Stmt) → is_idle s ≡ true → L s ≡ []
  idle-list Skip h = skips
  idle-list (Then a b) h = let q = both-true (is_idle a) (is_idle b) h in both a b ∙ ap (λ l. l ++ L b) (idle-list a q.0) ∙ idle-list b q.1
  idle-list (DeclareEdge x y at) h = edges x y at
  idle-list (Declare k x e) h = none h
  idle-list (Assign k t e) h = none h
  idle-list (Defer k t e) h = none h
  idle-list (Combine k total r ts es) h = none h
  idle-list (Group k at g p e) h = none h
  idle-list (Foreach k at hd c s) h = none h
  idle-list (For k at hd c s) h = none h
  idle-list (If k c a b) h = none h
  idle-list (While k at c s) h = none h
  idle-list (Do k at s c) h = none h
  idle-list (InBfs k at hd c s) h = none h
  idle-list (InBfsBoth k at hd c s bk d u) h = none h
  idle-list (Return k at e) h = none h

  -- are those of the reduction
  pub reduction-list : (s : Stmt) → is_one_reduction s ≡ true → L (reduction s) ≡ L s
  reduction-list s h = by-lone (λ s. L (reduction s) ≡ L s)
      (λ a b e f. ap (λ c. L (cond c (reduction b) (reduction a))) e ∙ f ∙ sym (both a b ∙ ap (λ l. l ++ L b) (idle-list a e)))
      (λ a b e i f. ap (λ c. L (cond c (reduction b) (reduction a))) e ∙ f ∙ sym (both a b ∙ ap (λ l. L a ++ l) (idle-list b i) ∙ append-nil (L a)))
      (λ k c a b q i f. f ∙ sym (ways k c a b ∙ ap (λ l. L a ++ l) (idle-list b i) ∙ append-nil (L a)))
      (λ k total r ts es. refl) s h

pub touched-same : (s : Stmt) → is_one_reduction s ≡ true → touched (reduction s) ≡ touched s
touched-same = reduction-list touched (λ a b. refl) (λ k c a b. refl) refl (λ x y at. refl)

module _ (ds : List Declaration) (n : ℕ) where
  pub reduced-same : (s : Stmt) → is_one_reduction s ≡ true → reduced ds n true (reduction s) ≡ reduced ds n true s
  reduced-same = reduction-list (reduced ds n true) (λ a b. refl) (λ k c a b. refl) refl (λ x y at. refl)

  pub written-same : (s : Stmt) → is_one_reduction s ≡ true → written ds n true (reduction s) ≡ written ds n true s
  written-same = reduction-list (written ds n true) (λ a b. refl) (λ k c a b. refl) refl (λ x y at. refl)

  abbrev S : Stmt → Sights
  S s = sights_of ds n true s

  -- what is read is among some
  module _ (l : List Read) where
    abbrev Reading : Stmt → Type 0
    Reading s = (r : Read) → IsIn r (S s).properties → IsIn r l

    first-reads : (a b : Stmt) → Reading (Then a b) → Reading a
    first-reads a b h r i = h r (in-left r (S a).properties (S b).properties i)

    second-reads : (a b : Stmt) → Reading (Then a b) → Reading b
    second-reads a b h r i = h r (in-right r (S a).properties (S b).properties i)

    yes-reads : (k : Key) (c : Expr) (a b : Stmt) → Reading (If k c a b) → Reading a
    yes-reads k c a b h r i = h r (in-right r (reads_in c) ((S a).properties ++ (S b).properties) (in-left r (S a).properties (S b).properties i))

    pub reduction-reads : (s : Stmt) → is_one_reduction s ≡ true → Reading s → Reading (reduction s)
    reduction-reads = reduction-has Reading first-reads second-reads yes-reads

    pub conditions-read : (s : Stmt) → is_one_reduction s ≡ true → Reading s → Reads l (conditions s)
    conditions-read = conditions-have Reading first-reads second-reads yes-reads (Reads l) (λ r i. absurd i) (λ a b p q r i. ⊎_elim (λ j. p r j) (λ j. q r j) (in-either r (reads_in a) (reads_in b) i))
        (λ k c a b q h r i. h r (in-left r (reads_in c) ((S a).properties ++ (S b).properties) i))

  -- so are the variables that are named
  module _ (l : List ℕ) where
    abbrev Telling : Stmt → Type 0
    Telling s = (y : ℕ) → IsIn y (S s).scalars → IsIn y l

    first-tells : (a b : Stmt) → Telling (Then a b) → Telling a
    first-tells a b h y i = h y (in-left y (S a).scalars (S b).scalars i)

    second-tells : (a b : Stmt) → Telling (Then a b) → Telling b
    second-tells a b h y i = h y (in-right y (S a).scalars (S b).scalars i)

    yes-tells : (k : Key) (c : Expr) (a b : Stmt) → Telling (If k c a b) → Telling a
    yes-tells k c a b h y i = h y (in-right y (told_in c) ((S a).scalars ++ (S b).scalars) (in-left y (S a).scalars (S b).scalars i))

    pub reduction-tells : (s : Stmt) → is_one_reduction s ≡ true → Telling s → Telling (reduction s)
    reduction-tells = reduction-has Telling first-tells second-tells yes-tells

    pub conditions-tell : (s : Stmt) → is_one_reduction s ≡ true → Telling s → Tells l (conditions s)
    conditions-tell = conditions-have Telling first-tells second-tells yes-tells (Tells l) (λ y i. absurd i) (λ a b p q y i. ⊎_elim (λ j. p y j) (λ j. q y j) (in-either y (told_in a) (told_in b) i))
        (λ k c a b q h y i. h y (in-left y (told_in c) ((S a).scalars ++ (S b).scalars) i))

-- the form of inner bodies
module _ (ds : List Declaration) (its : List ℕ) (edge : Bool) where
  abbrev Inner : Stmt → Type 0
  Inner s = is_inner_body ds its edge s ≡ true

  inner-halves : (a b : Stmt) → Inner (Then a b) → Inner a × Inner b
  inner-halves a b h = both-true (is_inner_body ds its edge a) (is_inner_body ds its edge b) h

  inner-ways : (k : Key) (c : Expr) (a b : Stmt) → Inner (If k c a b) → (is_flat its edge c ≡ true) × Inner a
  inner-ways k c a b h = let q = both-true (is_flat its edge c) (is_inner_body ds its edge a && is_inner_body ds its edge b) h in (q.0, (both-true (is_inner_body ds its edge a) (is_inner_body ds its edge b) q.1).0)

  pub reduction-inner : (s : Stmt) → is_one_reduction s ≡ true → Inner s → Inner (reduction s)
  reduction-inner = reduction-has Inner (λ a b h. (inner-halves a b h).0) (λ a b h. (inner-halves a b h).1) (λ k c a b h. (inner-ways k c a b h).1)

  pub conditions-flat : (s : Stmt) → is_one_reduction s ≡ true → Inner s → is_flat its edge (conditions s) ≡ true
  conditions-flat = conditions-have Inner (λ a b h. (inner-halves a b h).0) (λ a b h. (inner-halves a b h).1) (λ k c a b h. (inner-ways k c a b h).1)
      (λ e. is_flat its edge e ≡ true) refl (λ a b p q. and-true (is_flat its edge a) (is_flat its edge b) p q) (λ k c a b q h. (inner-ways k c a b h).0)

pub reduction-avoids : (x : ℕ) (s : Stmt) → is_one_reduction s ≡ true → avoids x s ≡ true → avoids x (reduction s) ≡ true
reduction-avoids x = reduction-has (λ s. avoids x s ≡ true) (λ a b h. (both-true (avoids x a) (avoids x b) h).0) (λ a b h. (both-true (avoids x a) (avoids x b) h).1) (λ k c a b h. (both-true (avoids x a) (avoids x b) h).0)

pub reduction-spares : (ds : List Declaration) (s : Stmt) → is_one_reduction s ≡ true → spares_locals ds s ≡ true → spares_locals ds (reduction s) ≡ true
reduction-spares ds = reduction-has (λ s. spares_locals ds s ≡ true) (λ a b h. (both-true (spares_locals ds a) (spares_locals ds b) h).0) (λ a b h. (both-true (spares_locals ds a) (spares_locals ds b) h).1) (λ k c a b h. (both-true (spares_locals ds a) (spares_locals ds b) h).0)

pub reduction-alike : (s : Stmt) → is_one_reduction s ≡ true → targets_alike s ≡ true → targets_alike (reduction s) ≡ true
reduction-alike = reduction-has (λ s. targets_alike s ≡ true) (λ a b h. (both-true (targets_alike a) (targets_alike b) h).0) (λ a b h. (both-true (targets_alike a) (targets_alike b) h).1) (λ k c a b h. (both-true (targets_alike a) (targets_alike b) h).0)

pub reduction-last : (its : List ℕ) (s : Stmt) → is_one_reduction s ≡ true → adds_last its s ≡ true → adds_last its (reduction s) ≡ true
reduction-last its = reduction-has (λ s. adds_last its s ≡ true) (λ a b h. (both-true (adds_last its a) _ h).0) (λ a b h. (both-true (adds_last its b) _ (both-true (adds_last its a) _ h).1).0) (λ k c a b h. (both-true (adds_last its a) (adds_last its b) h).0)

-- the order of faults
pub reduction-order : (its : List ℕ) (s : Stmt) → is_one_reduction s ≡ true → body_in_order its s ≡ true → body_in_order its (reduction s) ≡ true
reduction-order its = reduction-has (λ s. body_in_order its s ≡ true)
    (λ a b h. (both-true (body_in_order its a) _ h).0) (λ a b h. (both-true (body_in_order its b) _ (both-true (body_in_order its a) _ h).1).0)
    (λ k c a b h. (both-true (body_in_order its a) _ (both-true (in_order c k) _ h).1).0)

module _ (its : List ℕ) (l : List K.Fault) where
  abbrev Faulting : Stmt → Type 0
  Faulting s = (g : K.Fault) → IsIn g (faults_of its s) → IsIn g l

  pub reduction-faults : (s : Stmt) → is_one_reduction s ≡ true → Faulting s → Faulting (reduction s)
  reduction-faults = reduction-has Faulting (λ a b h g i. h g (in-left g (faults_of its a) (faults_of its b) i)) (λ a b h g i. h g (in-right g (faults_of its a) (faults_of its b) i))
      (λ k c a b h g i. h g (in-right g (faults_in c k) (faults_of its a ++ faults_of its b) (in-left g (faults_of its a) (faults_of its b) i)))
