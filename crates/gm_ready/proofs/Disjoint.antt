-- Lists of variables without a common one, and reductions that do the same.
use Rattle.std.proofs.Common.{◌≡◌, ℕ, Bool, true, false, List, [], ◌∷◌, ◌++◌, refl, sym, ap, subst}
use Rattle.std.specs.Prelude.{◌&&◌, ◌||◌, not, nat_eq, nat_lt, if◌then◌else◌}
use Rattle.std.specs.Cmp.Derive.{both_true}
use Rattle.std.proofs.lemmas.Bool.{both_ways, eqb-true, eq-eqb}
use Rattle.gm_value.specs.declared.reductions.Reduce.{Reduce}
use Rattle.gm_value.specs.declared.reductions.Reduce.TheVariants.{Sum, Product, Min, Max, And, Or}
use Rattle.gm_ast.specs.declared.accesses.Operation.{Operation}
use Rattle.gm_ast.specs.declared.tree.Declaration.{Declaration}
use Rattle.gm_ast.specs.Program.{Stmt, Skip, Then, Declare, DeclareEdge, Assign, Defer, Combine, Group, Foreach, For, If, While, Do, InBfs, InBfsBoth, Return}
use Rattle.gm_ast.specs.Races.{reduce_eq, variables_eq, operation_eq}
use Rattle.gm_ast.specs.Ways.{is_in}
use Rattle.gm_forms.specs.Sharing.{disjoint, are_at_once, Reduced, reduced_by, reduced}
use Rattle.gm_forms.proofs.CutLaws.{reduce-same, variables-same}
use Rattle.gm_forms.proofs.Named.{both-true}
use Rattle.gm_ready.specs.Rising.{numbers_in, is_below, rise}
use Rattle.gm_ready.proofs.ReadFacts.{Every}

-- ---- members of two lists

not-in : (Q : ℕ → Type 0) (x : ℕ) → (Q x → ⊥) → (ys : List ℕ) → Every Q ys → is_in ys x ≡ false
not-in Q x c [] h = refl
not-in Q x c (y ∷ ys) h = by (nat_eq x y) refl (not-in Q x c ys h.1)
  where
    by : (same : Bool) → nat_eq x y ≡ same → is_in ys x ≡ false → same || is_in ys x ≡ false
    by true e rest = absurd (c (subst Q (sym (eqb-true x y e)) h.0))
    by false e rest = rest

pub disjoint-from : (P Q : ℕ → Type 0) → ((x : ℕ) → P x → Q x → ⊥) → (xs ys : List ℕ) → Every P xs → Every Q ys → disjoint xs ys ≡ true
disjoint-from P Q c [] ys h k = refl
disjoint-from P Q c (x ∷ xs) ys h k = both_true (ap not (not-in Q x (c x h.0) ys k)) (disjoint-from P Q c xs ys h.1 k)

found : (Q : ℕ → Type 0) (x : ℕ) (ys : List ℕ) → Every Q ys → is_in ys x ≡ true → Q x
found Q x [] h e = absurd (both_ways false refl e)
found Q x (y ∷ ys) h e = by (nat_eq x y) refl (found Q x ys h.1) e
  where
    by : (same : Bool) → nat_eq x y ≡ same → (is_in ys x ≡ true → Q x) → same || is_in ys x ≡ true → Q x
    by true s more e = subst Q (sym (eqb-true x y s)) h.0
    by false s more e = more e

-- of two lists that are not disjoint, a member of both
pub common : (P Q : ℕ → Type 0) (xs ys : List ℕ) → Every P xs → Every Q ys → disjoint xs ys ≡ false → (x : ℕ) × (P x × Q x)
common P Q [] ys h k e = absurd (both_ways true e refl)
common P Q (x ∷ xs) ys h k e = by (is_in ys x) refl (common P Q xs ys h.1 k) e
  where
    by : (c : Bool) → is_in ys x ≡ c → (disjoint xs ys ≡ false → (x : ℕ) × (P x × Q x)) → not c && disjoint xs ys ≡ false → (x : ℕ) × (P x × Q x)
    by true i more e = (x, (h.0, found Q x ys k i))
    by false i more e = more e

-- ---- operations

reduce-self : (r : Reduce) → reduce_eq r r ≡ true
reduce-self Sum = refl
reduce-self Product = refl
reduce-self Min = refl
reduce-self Max = refl
reduce-self And = refl
reduce-self Or = refl

variables-self : (xs : List ℕ) → variables_eq xs xs ≡ true
variables-self [] = refl
variables-self (x ∷ xs) = both_true (eq-eqb x x refl) (variables-self xs)

pub operations-turn : (p q : Operation) → operation_eq q p ≡ true → operation_eq p q ≡ true
operations-turn p q h =
    let s = both-true (reduce_eq q.reduce p.reduce) (variables_eq q.targets p.targets) h in
    both_true (subst (λ r. reduce_eq p.reduce r ≡ true) (sym (reduce-same q.reduce p.reduce s.0)) (reduce-self p.reduce))
    (subst (λ vs. variables_eq p.targets vs ≡ true) (sym (variables-same q.targets p.targets s.1)) (variables-self p.targets))

-- ---- numbers of reductions

-- some of a list, in its order
data Sub : List ℕ → List ℕ → Type 0 where
  none : Sub [] []
  skip : {xs ys : List ℕ} {y : ℕ} → Sub xs ys → Sub xs (y ∷ ys)
  keep : {xs ys : List ℕ} {y : ℕ} → Sub xs ys → Sub (y ∷ xs) (y ∷ ys)

sub-append : {xs ys us vs : List ℕ} → Sub xs ys → Sub us vs → Sub (xs ++ us) (ys ++ vs)
sub-append Sub.none k = k
sub-append (Sub.skip h) k = Sub.skip (sub-append h k)
sub-append (Sub.keep h) k = Sub.keep (sub-append h k)

sub-below : (n : ℕ) {xs ys : List ℕ} → Sub xs ys → is_below n ys ≡ true → is_below n xs ≡ true
sub-below n Sub.none h = refl
sub-below n (Sub.skip {ys} {y} s) h = sub-below n s (both-true (nat_lt n y) (is_below n ys) h).1
sub-below n (Sub.keep {ys} {y} s) h = let k = both-true (nat_lt n y) (is_below n ys) h in both_true k.0 (sub-below n s k.1)

sub-rise : {xs ys : List ℕ} → Sub xs ys → rise ys ≡ true → rise xs ≡ true
sub-rise Sub.none h = refl
sub-rise (Sub.skip {ys} {y} s) h = sub-rise s (both-true (is_below y ys) (rise ys) h).1
sub-rise (Sub.keep {ys} {y} s) h = let k = both-true (is_below y ys) (rise ys) h in both_true (sub-below y s k.0) (sub-rise s k.1)

abbrev pub numbers_of : List Reduced → List ℕ
numbers_of [] = []
numbers_of (r ∷ rs) = r.number ∷ numbers_of rs

numbers-append : (rs qs : List Reduced) → numbers_of rs ++ numbers_of qs ≡ numbers_of (rs ++ qs)
numbers-append [] qs = refl
numbers-append (r ∷ rs) qs = ap (λ ns. r.number ∷ ns) (numbers-append rs qs)

module _ (ds : List Declaration) (n : ℕ) where
  both-sub : (inner : Bool) (a b : Stmt) → Sub (numbers_of (reduced ds n inner a)) (numbers_in a) → Sub (numbers_of (reduced ds n inner b)) (numbers_in b) → Sub (numbers_of (reduced ds n inner a ++ reduced ds n inner b)) (numbers_in a ++ numbers_in b)
  both-sub inner a b h k = subst (λ ns. Sub ns (numbers_in a ++ numbers_in b)) (numbers-append (reduced ds n inner a) (reduced ds n inner b)) (sub-append h k)

  reduced-sub : (inner : Bool) (s : Stmt) → Sub (numbers_of (reduced ds n inner s)) (numbers_in s)
  reduced-sub inner (Then a b) = both-sub inner a b (reduced-sub inner a) (reduced-sub inner b)
  reduced-sub inner (Combine k total r ts es) = by (are_at_once ds n inner ts)
    where
      by : (c : Bool) → Sub (numbers_of (if c then [] else reduced_by ds n total.key.statement r ts ∷ [])) (total.key.statement ∷ [])
      by true = Sub.skip Sub.none
      by false = Sub.keep Sub.none
  reduced-sub inner (If k c a b) = both-sub inner a b (reduced-sub inner a) (reduced-sub inner b)
  reduced-sub inner (Foreach k at h test body) = reduced-sub true body
  reduced-sub inner Skip = Sub.none
  reduced-sub inner (Declare k x e) = Sub.none
  reduced-sub inner (DeclareEdge x y at) = Sub.none
  reduced-sub inner (Assign k t e) = Sub.none
  reduced-sub inner (Defer k t e) = Sub.none
  reduced-sub inner (Group k at g p e) = Sub.none
  reduced-sub inner (For k at h test body) = Sub.none
  reduced-sub inner (While k at c body) = Sub.none
  reduced-sub inner (Do k at body c) = Sub.none
  reduced-sub inner (InBfs k at s test body) = Sub.none
  reduced-sub inner (InBfsBoth k at s test body bk bt back) = Sub.none
  reduced-sub inner (Return k at e) = Sub.none

  -- where the numbers of a body rise, so do those of its reductions that end with a loop
  pub reduced-rise : (s : Stmt) → rise (numbers_in s) ≡ true → rise (numbers_of (reduced ds n false s)) ≡ true
  reduced-rise s h = sub-rise (reduced-sub false s) h
