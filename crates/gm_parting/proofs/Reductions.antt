-- Reductions with even tuples: each is a loop's own and lasts as long as an iteration, or is shared, in all its variables.
use Rattle.std.proofs.Common.{◌≡◌, arith, ℕ, zero, suc, Bool, true, false, cond, List, [], ◌∷◌, ◌++◌, refl, sym, ap, subst, ◌∙◌, ⊎_elim, inl, inr}
use Rattle.std.specs.Prelude.{◌⊎◌, ◌&&◌, ◌||◌, not, nat_eq, nat_lt}
use Rattle.std.specs.List.{list_all}
use Rattle.std.proofs.lemmas.Bool.{both_ways, eqb-true, eq-eqb}
use Rattle.std.proofs.lemmas.Bool.Decides.{nat_tests}
use Rattle.gm_base.specs.declared.places.Place.{Place}
use Rattle.gm_value.specs.Bag.{IsIn}
use Rattle.gm_value.specs.declared.reductions.Reduce.{Reduce}
use Rattle.gm_value.specs.declared.reductions.Reduce.TheVariants.{Sum, Product, Min, Max, And, Or}
use Rattle.gm_ast.specs.declared.tree.Declaration.{Declaration}
use Rattle.gm_ast.specs.declared.tree.Target.{Target}
use Rattle.gm_ast.specs.declared.tree.Target.TheVariants as T
use Rattle.gm_ast.specs.Races.{reduce_eq, variables_eq}
use Rattle.gm_ast.specs.Program.{Stmt, Then, Combine, Foreach, If}
use Rattle.gm_forms.specs.Forms.{depth_at}
use Rattle.gm_forms.specs.Sharing.{Reduced, is_at_once, are_at_once, is_owned, is_kept, written_by, variables_of, variables_where, reduced_by, reduced, is_through, are_alike, are_distinct, targets_alike, disjoint, does_same, agrees, all_agree}
use Rattle.gm_forms.proofs.CutLaws.{reduce-same, variables-same}
use Rattle.gm_forms.proofs.Doings.{in-either}
use Rattle.gm_forms.proofs.Named.{both-true}
use Rattle.gm_forms.proofs.Weaker.{and-true}
use Rattle.gm_parting.specs.Tuples.{is_scalar_at, are_even, reduces_evenly}

-- ---- targets that are alike and even

-- targets are none, scalars of one depth, or properties through one variable
pub data Uniform (ds : List Declaration) (ts : List Target) : Type 0 where
  None : ts ≡ [] → Uniform ds ts
  Scalars : (d : ℕ) → list_all (is_scalar_at ds d) ts ≡ true → Uniform ds ts
  Through : (x : ℕ) → list_all (is_through x) ts ≡ true → Uniform ds ts

pub uniform : (ds : List Declaration) (ts : List Target) → are_alike ts ≡ true → are_even ds ts ≡ true → Uniform ds ts
uniform ds [] a e = None refl
uniform ds (T.Scalar x at ∷ ts) a e = Scalars (depth_at ds x) (and-true (nat_eq (depth_at ds x) (depth_at ds x)) (list_all (is_scalar_at ds (depth_at ds x)) ts) (eq-eqb (depth_at ds x) (depth_at ds x) refl) e)
uniform ds (T.Property x p at ∷ ts) a e = Through x (and-true (nat_eq x x) (list_all (is_through x) ts) (eq-eqb x x refl) a)

-- what holds of each scalar of a depth, or of each property through a variable, holds of all
pub all-scalars : (ds : List Declaration) (d : ℕ) (f : Target → Bool) (b : Bool) (each : (x : ℕ) (at : Place) → depth_at ds x ≡ d → f (T.Scalar x at) ≡ b) (ts : List Target) → list_all (is_scalar_at ds d) ts ≡ true → list_all (λ t. cond b (f t) (not (f t))) ts ≡ true
all-scalars ds d f b each [] h = refl
all-scalars ds d f b each (T.Scalar x at ∷ ts) h =
    let r = both-true (nat_eq (depth_at ds x) d) (list_all (is_scalar_at ds d) ts) h in
    and-true (cond b (f (T.Scalar x at)) (not (f (T.Scalar x at)))) (list_all (λ t. cond b (f t) (not (f t))) ts) (by b (f (T.Scalar x at)) (each x at (eqb-true (depth_at ds x) d r.0))) (all-scalars ds d f b each ts r.1)
  where
    by : (b c : Bool) → c ≡ b → cond b c (not c) ≡ true
    by true c e = e
    by false c e = ap not e
all-scalars ds d f b each (T.Property x p at ∷ ts) h = absurd (both_ways false refl h)

pub all-through : (y : ℕ) (f : Target → Bool) (b : Bool) (each : (p : ℕ) (at : Place) → f (T.Property y p at) ≡ b) (ts : List Target) → list_all (is_through y) ts ≡ true → list_all (λ t. cond b (f t) (not (f t))) ts ≡ true
all-through y f b each [] h = refl
all-through y f b each (T.Scalar x at ∷ ts) h = absurd (both_ways false refl h)
all-through y f b each (T.Property x p at ∷ ts) h =
    let r = both-true (nat_eq x y) (list_all (is_through y) ts) h in
    and-true (cond b (f (T.Property x p at)) (not (f (T.Property x p at)))) (list_all (λ t. cond b (f t) (not (f t))) ts)
    (by b (f (T.Property x p at)) (subst (λ z. f (T.Property z p at) ≡ b) (sym (eqb-true x y r.0)) (each p at))) (all-through y f b each ts r.1)
  where
    by : (b c : Bool) → c ≡ b → cond b c (not c) ≡ true
    by true c e = e
    by false c e = ap not e

-- the variables of the targets that pass a test which all pass, or none does
pub where-all : (f : Target → Bool) (ts : List Target) → list_all f ts ≡ true → variables_where f ts ≡ variables_of ts
where-all f [] h = refl
where-all f (t ∷ ts) h = let r = both-true (f t) (list_all f ts) h in ap (λ b. cond b (written_by t ++ variables_where f ts) (variables_where f ts)) r.0 ∙ ap (λ l. written_by t ++ l) (where-all f ts r.1)

pub where-none : (f : Target → Bool) (ts : List Target) → list_all (λ t. not (f t)) ts ≡ true → variables_where f ts ≡ []
where-none f [] h = refl
where-none f (t ∷ ts) h = let r = both-true (not (f t)) (list_all (λ t. not (f t)) ts) h in by (f t) r.0 (where-none f ts r.1)
  where
    by : (b : Bool) → not b ≡ true → variables_where f ts ≡ [] → cond b (written_by t ++ variables_where f ts) (variables_where f ts) ≡ []
    by true n h = absurd (both_ways false refl n)
    by false n h = h

-- ---- reductions in all their variables

-- a reduction is the loop's own, and kept, in all its variables, or it is shared in all
pub record Mine (r : Reduced) : Type 0 where
  pub own : r.own ≡ true
  pub kept : r.kept ≡ r.variables
  pub shared : r.shared ≡ []

pub record Given (r : Reduced) : Type 0 where
  pub own : r.own ≡ false
  pub kept : r.kept ≡ []
  pub shared : r.shared ≡ r.variables

abbrev pub Clear : Reduced → Type 0
Clear r = Mine r ⊎ Given r

abbrev pub AllClear : List Reduced → Type 0
AllClear rs = (r : Reduced) → IsIn r rs → Clear r

pub some-false : (f : Target → Bool) (t : Target) (ts : List Target) → list_all (λ t. not (f t)) (t ∷ ts) ≡ true → list_all f (t ∷ ts) ≡ false
some-false f t ts h = by (f t) (both-true (not (f t)) (list_all (λ t. not (f t)) ts) h).0
  where
    by : (b : Bool) → not b ≡ true → b && list_all f ts ≡ false
    by true n = absurd (both_ways false refl n)
    by false n = refl

not-none : (d : ℕ) → nat_eq (suc (suc d)) 0 ≡ false
not-none d = grind (arith, nat_tests)

past-one : (d : ℕ) → nat_lt 1 (suc (suc d)) ≡ true
past-one d = grind (arith, nat_tests)

module _ (ds : List Declaration) (n : ℕ) where
  mine : (k : ℕ) (r : Reduce) (ts : List Target) → list_all (is_owned ds n) ts ≡ true → list_all (is_kept ds n) ts ≡ true → Clear (reduced_by ds n k r ts)
  mine k r ts o h = inl (record { own = o; kept = where-all (is_kept ds n) ts h; shared = where-none (λ t. not (is_owned ds n t)) ts (twice ts o) })
    where
      twice : (ts : List Target) → list_all (is_owned ds n) ts ≡ true → list_all (λ t. not (not (is_owned ds n t))) ts ≡ true
      twice [] h = refl
      twice (t ∷ ts) h =
          let r = both-true (is_owned ds n t) (list_all (is_owned ds n) ts) h in and-true (not (not (is_owned ds n t))) (list_all (λ t. not (not (is_owned ds n t))) ts) (ap (λ b. not (not b)) r.0) (twice ts r.1)

  given : (k : ℕ) (r : Reduce) (t : Target) (ts : List Target) → list_all (λ t. not (is_owned ds n t)) (t ∷ ts) ≡ true → list_all (λ t. not (is_kept ds n t)) (t ∷ ts) ≡ true → Clear (reduced_by ds n k r (t ∷ ts))
  given k r t ts o h = inr (record { own = some-false (is_owned ds n) t ts o; kept = where-none (is_kept ds n) (t ∷ ts) h; shared = where-all (λ t. not (is_owned ds n t)) (t ∷ ts) o })

  -- scalars of a depth that are not reduced at once
  scalars-clear : (inner : Bool) (k : ℕ) (r : Reduce) (ts : List Target) (d : ℕ) → list_all (is_scalar_at ds d) ts ≡ true → are_at_once ds n inner ts ≡ false → Clear (reduced_by ds n k r ts)
  scalars-clear inner k r [] d h o = absurd (both_ways true o refl)
  scalars-clear inner k r (t ∷ ts) zero h o =
      given k r t ts (all-scalars ds 0 (is_owned ds n) false (λ x at e. ap (λ d. not (nat_eq d 0)) e) (t ∷ ts) h) (all-scalars ds 0 (is_kept ds n) false (λ x at e. ap (λ d. nat_eq d 1) e) (t ∷ ts) h)
  scalars-clear true k r (t ∷ ts) (suc zero) h o =
      mine k r (t ∷ ts) (all-scalars ds 1 (is_owned ds n) true (λ x at e. ap (λ d. not (nat_eq d 0)) e) (t ∷ ts) h) (all-scalars ds 1 (is_kept ds n) true (λ x at e. ap (λ d. nat_eq d 1) e) (t ∷ ts) h)
  scalars-clear false k r (t ∷ ts) (suc zero) h o =
      absurd (both_ways (are_at_once ds n false (t ∷ ts)) o (all-scalars ds 1 (is_at_once ds n false) true (λ x at e. ap (λ d. not (nat_eq d 0)) e) (t ∷ ts) h))
  scalars-clear true k r (t ∷ ts) (suc (suc d)) h o =
      absurd (both_ways (are_at_once ds n true (t ∷ ts)) o (all-scalars ds (suc (suc d)) (is_at_once ds n true) true (λ x at e. ap (λ d. nat_lt 1 d) e ∙ past-one d) (t ∷ ts) h))
  scalars-clear false k r (t ∷ ts) (suc (suc d)) h o =
      absurd (both_ways (are_at_once ds n false (t ∷ ts)) o (all-scalars ds (suc (suc d)) (is_at_once ds n false) true (λ x at e. ap (λ d. not (nat_eq d 0)) e ∙ ap not (not-none d)) (t ∷ ts) h))

  pub combined-clear : (inner : Bool) (k : ℕ) (r : Reduce) (ts : List Target) → Uniform ds ts → are_at_once ds n inner ts ≡ false → Clear (reduced_by ds n k r ts)
  combined-clear inner k r ts (None e) o = absurd (both_ways (are_at_once ds n inner ts) o (ap (are_at_once ds n inner) e))
  combined-clear inner k r ts (Scalars d h) o = scalars-clear inner k r ts d h o
  combined-clear inner k r [] (Through x h) o = absurd (both_ways true o refl)
  combined-clear inner k r (t ∷ ts) (Through x h) o = by (nat_eq x n) refl
    where
      by : (b : Bool) → nat_eq x n ≡ b → Clear (reduced_by ds n k r (t ∷ ts))
      by true e = mine k r (t ∷ ts) (all-through x (is_owned ds n) true (λ p at. e) (t ∷ ts) h) (all-through x (is_kept ds n) true (λ p at. e) (t ∷ ts) h)
      by false e = given k r t ts (all-through x (is_owned ds n) false (λ p at. e) (t ∷ ts) h) (all-through x (is_kept ds n) false (λ p at. e) (t ∷ ts) h)

  -- so are all of a body whose tuples are even
  pub all-clear : (inner : Bool) (s : Stmt) → targets_alike s ≡ true → reduces_evenly ds s ≡ true → AllClear (reduced ds n inner s)
  all-clear inner (Then a b) h e r i =
      let p = both-true (targets_alike a) (targets_alike b) h in
      let q = both-true (reduces_evenly ds a) (reduces_evenly ds b) e in
      ⊎_elim (λ j. all-clear inner a p.0 q.0 r j) (λ j. all-clear inner b p.1 q.1 r j) (in-either r (reduced ds n inner a) (reduced ds n inner b) i)
  all-clear inner (If k c a b) h e r i =
      let p = both-true (targets_alike a) (targets_alike b) h in
      let q = both-true (reduces_evenly ds a) (reduces_evenly ds b) e in
      ⊎_elim (λ j. all-clear inner a p.0 q.0 r j) (λ j. all-clear inner b p.1 q.1 r j) (in-either r (reduced ds n inner a) (reduced ds n inner b) i)
  all-clear inner (Foreach k at hd test body) h e r i = all-clear true body h e r i
  all-clear inner (Combine k total o ts es) h e r i = by (are_at_once ds n inner ts) refl i
    where
      by : (b : Bool) → are_at_once ds n inner ts ≡ b → IsIn r (cond b [] (reduced_by ds n total.key.statement o ts ∷ [])) → Clear r
      by true f i = absurd i
      by false f i =
          ⊎_elim (λ (g : r ≡ reduced_by ds n total.key.statement o ts). subst Clear (sym g) (combined-clear inner total.key.statement o ts (uniform ds ts (both-true (are_alike ts) (are_distinct (variables_of ts)) h).0 e) f)) (λ j. absurd j) i
  all-clear inner s h e r i = absurd i

-- ---- what two reductions to one variable have in common

abbrev pub Same : Reduced → Reduced → Type 0
Same a b = (a.variables ≡ b.variables) × (a.reduce ≡ b.reduce)

pub does-same : (a b : Reduced) → does_same a b ≡ true → Same a b
does-same a b h = let r = both-true (reduce_eq a.reduce b.reduce) (variables_eq a.variables b.variables) h in (variables-same a.variables b.variables r.1, reduce-same a.reduce b.reduce r.0)

itself : (r : Reduce) → reduce_eq r r ≡ true
itself Sum = refl
itself Product = refl
itself Min = refl
itself Max = refl
itself And = refl
itself Or = refl

themselves : (xs : List ℕ) → variables_eq xs xs ≡ true
themselves [] = refl
themselves (x ∷ xs) = and-true (nat_eq x x) (variables_eq xs xs) (eq-eqb x x refl) (themselves xs)

pub same-does : (a b : Reduced) → Same a b → does_same a b ≡ true
same-does a b s =
    and-true (reduce_eq a.reduce b.reduce) (variables_eq a.variables b.variables) (subst (λ r. reduce_eq a.reduce r ≡ true) s.1 (itself a.reduce)) (subst (λ xs. variables_eq a.variables xs ≡ true) s.0 (themselves a.variables))

-- what is asked of a reduction and one behind it
abbrev pub pair : Reduced → Reduced → Bool
pair a b = disjoint a.variables b.variables || (nat_lt a.number b.number && ((disjoint a.shared b.variables && disjoint b.shared a.variables) || does_same a b))

pub pair-of : (a : Reduced) (bs : List Reduced) → agrees a bs ≡ true → (b : Reduced) → IsIn b bs → pair a b ≡ true
pair-of a [] h b i = absurd i
pair-of a (c ∷ bs) h b i = let r = both-true (pair a c) (agrees a bs) h in ⊎_elim (λ (e : b ≡ c). subst (λ z. pair a z ≡ true) (sym e) r.0) (λ j. pair-of a bs r.1 b j) i

pub in-pairs : (rs : List Reduced) → all_agree rs ≡ true → (a b : Reduced) → IsIn a rs → IsIn b rs → (a ≡ b) ⊎ ((pair a b ≡ true) ⊎ (pair b a ≡ true))
in-pairs [] h a b i j = absurd i
in-pairs (r ∷ rs) h a b i j =
    let q = both-true (agrees r rs) (all_agree rs) h in
    ⊎_elim (λ (e : a ≡ r). ⊎_elim (λ (f : b ≡ r). inl (e ∙ sym f)) (λ l. inr (inl (subst (λ z. pair z b ≡ true) (sym e) (pair-of r rs q.0 b l)))) j)
    (λ k. ⊎_elim (λ (f : b ≡ r). inr (inr (subst (λ z. pair z a ≡ true) (sym f) (pair-of r rs q.0 a k)))) (λ l. in-pairs rs q.1 a b k l) j) i
