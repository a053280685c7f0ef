-- In a block of a program's image each global is put by one reduction.
use Rattle.std.proofs.Common.{◌≡◌, inl, inr, ℕ, Bool, true, false, List, [], ◌∷◌, ◌++◌, refl, ap, ◌∙◌, sym, subst, ⊎_elim}
use Rattle.std.specs.Prelude.{◌&&◌, ◌||◌, not, nat_lt, nat_eq, if◌then◌else◌}
use Rattle.std.specs.List.{list_all}
use Rattle.std.proofs.lemmas.Bool.{both_ways, and_from, eqb-true}
use Rattle.gm_value.specs.Bag.{IsIn}
use Rattle.gm_value.specs.declared.reductions.Reduce.{Reduce}
use Rattle.gm_ast.specs.declared.tree.Declaration.{Declaration}
use Rattle.gm_ast.specs.declared.tree.Target.{Target}
use Rattle.gm_ast.specs.declared.tree.Target.TheVariants as T
use Rattle.gm_ast.specs.Program as S
use Rattle.gm_ast.specs.Program.{Stmt, Program}
use Rattle.gm_ast.specs.Races.{reduce_eq, variables_eq}
use Rattle.gm_forms.proofs.Named.{both-true}
use Rattle.gm_forms.specs.Forms.{depth_at}
use Rattle.gm_forms.specs.Sharing.{Reduced, variables_of, variables_where, is_owned, reduced_by, all_reduced_by, is_at_once, are_at_once, reduced, disjoint, does_same, agrees, all_agree}
use Rattle.gm_semantics.specs.Statements.{variable_at}
use Rattle.gm_typed_stores.specs.Values.{Each}
use Rattle.gm_lowering.specs.Layouts.{is_global, is_scalar_of}
use Rattle.gm_lowering.specs.Plans.{Way, Puts, Folds, Sends, Picks, way_of}
use Rattle.gm_sound_lowering.proofs.Leaves.{each-join}
use Rattle.gm_sound_lowering.proofs.OneWay.{Combined, Agree, AllAgree}
use Rattle.gm_sound_lowering.proofs.Ways.{WayIs, way-is}

-- the reductions of a body that are put, in the order of the text
abbrev pub put_by : Way → Reduce → List Target → List Combined
put_by Puts r [] = []
put_by Puts r (t ∷ ts) = record { reduce = r; variables = variables_of (t ∷ ts) } ∷ []
put_by _ r ts = []

abbrev pub puts_in : List Declaration → ℕ → Stmt → List Combined
puts_in ds n (S.Then a b) = puts_in ds n a ++ puts_in ds n b
puts_in ds n (S.Combine k total r ts es) = put_by (way_of ds n ts) r ts
puts_in ds n (S.If k c a b) = puts_in ds n a ++ puts_in ds n b
puts_in ds n _ = []

-- ---- lists whose members agree

-- whether two reductions of a loop agree
abbrev pub clash : Reduced → Reduced → Bool
clash a b = disjoint a.variables b.variables || (nat_lt a.number b.number && ((disjoint a.shared b.variables && disjoint b.shared a.variables) || does_same a b))

agrees-in : (a : Reduced) (bs : List Reduced) (b : Reduced) → agrees a bs ≡ true → IsIn b bs → clash a b ≡ true
agrees-in a [] b h i = absurd i
agrees-in a (c ∷ bs) b h i =
    let g = both-true (clash a c) (agrees a bs) h in ⊎_elim (λ (e : b ≡ c). ap (clash a) e ∙ g.0) (λ (j : IsIn b bs). agrees-in a bs b g.1 j) i

agrees-left : (a : Reduced) (xs ys : List Reduced) → agrees a (xs ++ ys) ≡ true → (agrees a xs ≡ true) × (agrees a ys ≡ true)
agrees-left a [] ys h = (refl, h)
agrees-left a (x ∷ xs) ys h =
    let g = both-true (clash a x) (agrees a (xs ++ ys)) h in
    let r = agrees-left a xs ys g.1 in (and_from (clash a x) (agrees a xs) g.0 r.0, r.1)

pub agree-split : (xs ys : List Reduced) → all_agree (xs ++ ys) ≡ true → (all_agree xs ≡ true) × (all_agree ys ≡ true) × ((a b : Reduced) → IsIn a xs → IsIn b ys → clash a b ≡ true)
agree-split [] ys h = (refl, h, λ a b i j. absurd i)
agree-split (x ∷ xs) ys h =
    let g = both-true (agrees x (xs ++ ys)) (all_agree (xs ++ ys)) h in
    let l = agrees-left x xs ys g.0 in
    let r = agree-split xs ys g.1 in (
      and_from (agrees x xs) (all_agree xs) l.0 r.0,
      r.1,
      λ a b i j. ⊎_elim (λ (e : a ≡ x). ap (λ z. clash z b) e ∙ agrees-in x ys b l.1 j) (λ (k : IsIn a xs). r.2 a b k j) i,
    )

-- a reduction that is put is one of the loop's, all of whose variables are shared
pub record IsShared (q : Combined) (r : Reduced) : Type 0 where
  pub reduce : r.reduce ≡ q.reduce
  pub variables : r.variables ≡ q.variables
  pub shared : r.shared ≡ q.variables

pub agree-of : (q s : Combined) (a b : Reduced) → IsShared q a → IsShared s b → clash a b ≡ true → Agree q s
agree-of q s a b h k e = by (disjoint a.variables b.variables) (disjoint a.shared b.variables) (reduce_eq a.reduce b.reduce) (variables_eq a.variables b.variables) refl refl refl refl e where
  here : disjoint a.variables b.variables ≡ true → Agree q s
  here f = inl (ap (λ v. disjoint v s.variables) (sym h.variables) ∙ ap (disjoint a.variables) (sym k.variables) ∙ f)

  by : (c d u v : Bool) → disjoint a.variables b.variables ≡ c → disjoint a.shared b.variables ≡ d → reduce_eq a.reduce b.reduce ≡ u → variables_eq a.variables b.variables ≡ v
      → c || (nat_lt a.number b.number && ((d && disjoint b.shared a.variables) || (u && v))) ≡ true → Agree q s
  by true d u v f g x y e = here f
  by false true u v f g x y e = here (ap (λ z. disjoint z b.variables) (h.variables ∙ sym h.shared) ∙ g)
  by false false true true f g x y e =
      inr (ap (λ z. reduce_eq z s.reduce) (sym h.reduce) ∙ ap (reduce_eq a.reduce) (sym k.reduce) ∙ x, ap (λ z. variables_eq z s.variables) (sym h.variables) ∙ ap (variables_eq a.variables) (sym k.variables) ∙ y)
  by false false true false f g x y e = absurd (both_ways false refl (both-true (nat_lt a.number b.number) false e).1)
  by false false false v f g x y e = absurd (both_ways false refl (both-true (nat_lt a.number b.number) false e).1)

-- each of some is one of the loop's, in some sense
abbrev pub AreOf : (Combined → Reduced → Type 0) → List Reduced → List Combined → Type 0
AreOf Of rs qs = Each (λ q. (r : Reduced) × IsIn r rs × Of q r) qs

pub in-left : {A : Type 0} (xs ys : List A) (x : A) → IsIn x xs → IsIn x (xs ++ ys)
in-left [] ys x i = absurd i
in-left (z ∷ xs) ys x i = ⊎_elim (λ (e : x ≡ z). inl e) (λ (j : IsIn x xs). inr (in-left xs ys x j)) i

pub in-right : {A : Type 0} (xs ys : List A) (x : A) → IsIn x ys → IsIn x (xs ++ ys)
in-right [] ys x i = i
in-right (z ∷ xs) ys x i = inr (in-right xs ys x i)

module _ (Of : Combined → Reduced → Type 0) where
  pub of-left : (rs ss : List Reduced) (qs : List Combined) → AreOf Of rs qs → AreOf Of (rs ++ ss) qs
  of-left rs ss [] h = tt
  of-left rs ss (q ∷ qs) h = ((h.0.0, in-left rs ss h.0.0 h.0.1, h.0.2), of-left rs ss qs h.1)

  pub of-right : (rs ss : List Reduced) (qs : List Combined) → AreOf Of ss qs → AreOf Of (rs ++ ss) qs
  of-right rs ss [] h = tt
  of-right rs ss (q ∷ qs) h = ((h.0.0, in-right rs ss h.0.0 h.0.1, h.0.2), of-right rs ss qs h.1)

  -- those of two parts of a loop
  pub of-both : (rs ss : List Reduced) (qs ps : List Combined) → AreOf Of rs qs → AreOf Of ss ps → AreOf Of (rs ++ ss) (qs ++ ps)
  of-both rs ss qs ps h k = each-join (λ q. (r : Reduced) × IsIn r (rs ++ ss) × Of q r) qs ps (of-left rs ss qs h) (of-right rs ss ps k)

  module _ (holds : Reduced → Reduced → Bool) (agree : (q s : Combined) (a b : Reduced) → Of q a → Of s b → holds a b ≡ true → Agree q s) where
    cross-one : (rs ss : List Reduced) (q : Combined) (a : Reduced) (ps : List Combined) → IsIn a rs → Of q a → AreOf Of ss ps → ((a b : Reduced) → IsIn a rs → IsIn b ss → holds a b ≡ true) → Each (Agree q) ps
    cross-one rs ss q a [] i h k c = tt
    cross-one rs ss q a (p ∷ ps) i h k c = (agree q p a k.0.0 h k.0.2 (c a k.0.0 i k.0.1), cross-one rs ss q a ps i h k.1 c)

    -- they agree, where the loop's do
    pub join-agree : (rs ss : List Reduced) (qs ps : List Combined) → AreOf Of rs qs → AreOf Of ss ps → AllAgree qs → AllAgree ps → ((a b : Reduced) → IsIn a rs → IsIn b ss → holds a b ≡ true) → AllAgree (qs ++ ps)
    join-agree rs ss [] ps h k x y c = y
    join-agree rs ss (q ∷ qs) ps h k x y c = (each-join (Agree q) qs ps x.0 (cross-one rs ss q h.0.0 ps h.0.1 h.0.2 k c), join-agree rs ss qs ps h.1 k x.1 y c)

-- ---- what is put

module _ (p : Program) (n m : ℕ) (inner : Bool) where
  abbrev ds : List Declaration
  ds = p.declarations

  -- scalars of the procedure are no iteration's own, and are not reduced at once
  global-shared : (ts : List Target) → list_all (is_scalar_of is_global ds) ts ≡ true → variables_where (λ t. not (is_owned ds n t)) ts ≡ variables_of ts
  global-shared [] h = refl
  global-shared (T.Scalar x at ∷ ts) h =
      let b = both-true (is_global (variable_at ds x)) (list_all (is_scalar_of is_global ds) ts) h in
      let d = (both-true (nat_eq (depth_at ds x) 0) _ b.0).0 in
      ap (λ b. if not (not b) then x ∷ variables_where (λ t. not (is_owned ds n t)) ts else variables_where (λ t. not (is_owned ds n t)) ts) d ∙ ap (λ xs. x ∷ xs) (global-shared ts b.1)
  global-shared (T.Property x q at ∷ ts) h = absurd (both_ways false refl h)

  not-at-once : (t : Target) (ts : List Target) → list_all (is_scalar_of is_global ds) (t ∷ ts) ≡ true → are_at_once ds n inner (t ∷ ts) ≡ false
  not-at-once (T.Property x q at) ts h = absurd (both_ways false refl h)
  not-at-once (T.Scalar x at) ts h =
      let b = both-true (is_global (variable_at ds x)) (list_all (is_scalar_of is_global ds) ts) h in
      let d = (both-true (nat_eq (depth_at ds x) 0) _ b.0).0 in by inner d where
        by : (i : Bool) → nat_eq (depth_at ds x) 0 ≡ true → is_at_once ds n i (T.Scalar x at) && are_at_once ds n i ts ≡ false
        by false d = ap (λ b. not b && are_at_once ds n false ts) d
        by true d = ap (λ k. nat_lt 1 k && are_at_once ds n true ts) (eqb-true (depth_at ds x) 0 d)

  put-of : (k : ℕ) (r : Reduce) (ts : List Target) (way : Way) → WayIs p m way ts → AreOf IsShared (all_reduced_by ds n inner k r ts) (put_by way r ts)
  put-of k r [] Puts w = tt
  put-of k r (t ∷ ts) Puts w =
      subst (λ b. AreOf IsShared (if b then [] else reduced_by ds n k r (t ∷ ts) ∷ []) (record { reduce = r; variables = variables_of (t ∷ ts) } ∷ [])) (sym (not-at-once t ts w))
      ((reduced_by ds n k r (t ∷ ts), inl refl, record { reduce = refl; variables = refl; shared = global-shared (t ∷ ts) w }), tt)
  put-of k r ts Folds w = tt
  put-of k r ts Sends w = tt
  put-of k r ts Picks w = tt

  puts-of : (st : Stmt) → AreOf IsShared (reduced ds n inner st) (puts_in ds m st)
  puts-of (S.Then a b) = of-both IsShared (reduced ds n inner a) (reduced ds n inner b) (puts_in ds m a) (puts_in ds m b) (puts-of a) (puts-of b)
  puts-of (S.If k c a b) = of-both IsShared (reduced ds n inner a) (reduced ds n inner b) (puts_in ds m a) (puts_in ds m b) (puts-of a) (puts-of b)
  puts-of (S.Combine k total r ts es) = put-of total.key.statement r ts (way_of ds m ts) (way-is p m ts)
  puts-of _ = tt

  put-agrees : (r : Reduce) (ts : List Target) (way : Way) → AllAgree (put_by way r ts)
  put-agrees r [] Puts = tt
  put-agrees r (t ∷ ts) Puts = (tt, tt)
  put-agrees r ts Folds = tt
  put-agrees r ts Sends = tt
  put-agrees r ts Picks = tt

  -- the reductions of a body that are put agree, where those of its loop do
  pub puts-agree : (st : Stmt) → all_agree (reduced ds n inner st) ≡ true → AllAgree (puts_in ds m st)
  puts-agree (S.Then a b) h =
      let g = agree-split (reduced ds n inner a) (reduced ds n inner b) h in
      join-agree IsShared clash agree-of (reduced ds n inner a) (reduced ds n inner b) (puts_in ds m a) (puts_in ds m b) (puts-of a) (puts-of b) (puts-agree a g.0) (puts-agree b g.1) g.2
  puts-agree (S.If k c a b) h =
      let g = agree-split (reduced ds n inner a) (reduced ds n inner b) h in
      join-agree IsShared clash agree-of (reduced ds n inner a) (reduced ds n inner b) (puts_in ds m a) (puts_in ds m b) (puts-of a) (puts-of b) (puts-agree a g.0) (puts-agree b g.1) g.2
  puts-agree (S.Combine k total r ts es) h = put-agrees r ts (way_of ds m ts)
  puts-agree _ h = tt
