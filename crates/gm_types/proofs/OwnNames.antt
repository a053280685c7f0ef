-- Targets of one reduction, and the names by which they are told apart.
use Rattle.std.proofs.Common.{◌≡◌, ◌≤◌, ℕ, Bool, true, false, List, [], ◌∷◌, ◌++◌, map, length, get_or, refl, sym, ap, ◌∙◌, Option, Some, None, Bor, Ordering, arith}
use Rattle.std.specs.Prelude.{◌&&◌, ◌||◌, not, is_none, is_some, if◌then◌else◌, bytes_eq}
use Rattle.std.specs.BTreeSet.{BTreeSet, contains, Updates}
use Rattle.std.specs.Cmp.Lexicographic.{slice_cmp}
use Rattle.std.specs.List.{list_any}
use Rattle.std.specs.Ordering.{nat_cmp, is_eq}
use Rattle.std.proofs.lemmas.Bool.{both_ways}
use Rattle.std.proofs.lemmas.Map.Text.{is_eq-slice_cmp}
use Rattle.std.proofs.lemmas.Slice.Eq.{bytes_eq-Decides}
use Rattle.gm_base.specs.declared.rules.Rule.TheVariants.{T12}
use Rattle.gm_ast.specs.declared.surface.SpelledTarget.{SpelledTarget}
use Rattle.gm_ast.specs.Judged.{unless}
use Rattle.gm_ast.specs.Surface.{SurfaceName, SurfaceTarget}
use Rattle.gm_ast.specs.SurfaceTree.{target_of}
use Rattle.gm_ast.specs.Statements.{name_eq, properties_eq, target_eq, goes_with, is_repeated, apart, apart_from_first}
use Rattle.gm_types.specs.OwnNames.{name_or, own_name, has_name, Tells}

-- ---- letters

text-same : (xs ys : List ℕ) → bytes_eq xs ys ≡ true → xs ≡ ys
text-same xs ys h = (bytes_eq-Decides xs ys).0 h

same-text : (xs ys : List ℕ) → xs ≡ ys → bytes_eq xs ys ≡ true
same-text xs ys h = (bytes_eq-Decides xs ys).1 h

-- ---- targets

-- a target goes with itself
pub with-itself : (t : SurfaceTarget) → goes_with t t ≡ true
with-itself t = by t.property
  where
    by : (o : Option SurfaceName) → (if is_some o then is_some o && name_eq t.owner t.owner else is_none o) ≡ true
    by None = refl
    by (Some p) = same-text t.owner.text t.owner.text refl

and-true : (b : Bool) → b && true ≡ b
and-true true = refl
and-true false = refl

and-false : (b : Bool) → b && false ≡ false
and-false true = refl
and-false false = refl

module _ (f x y : SurfaceName) where
  alike : (o p q : Option SurfaceName) → (if is_some o then is_some p && name_eq f x else is_none p) ≡ true
      → (if is_some o then is_some q && name_eq f y else is_none q) ≡ true
      → (name_eq x y && properties_eq p q) ≡ bytes_eq (name_or x p) (name_or y q)
  alike None None None a b = and-true (name_eq x y)
  alike None None (Some q) a b = absurd (both_ways false refl b)
  alike None (Some p) q a b = absurd (both_ways false refl a)
  alike (Some o) None q a b = absurd (both_ways false refl a)
  alike (Some o) (Some p) None a b = absurd (both_ways false refl b)
  alike (Some o) (Some p) (Some q) a b =
      let same : name_eq x y ≡ true = same-text x.text y.text (sym (text-same f.text x.text a) ∙ text-same f.text y.text b) in
      ap (λ c. c && name_eq p q) same

  unlike : (o p q : Option SurfaceName) → (if is_some o then is_some p && name_eq f x else is_none p) ≡ true
      → (if is_some o then is_some q && name_eq f y else is_none q) ≡ false
      → (name_eq x y && properties_eq p q) ≡ false
  unlike None None None a b = absurd (both_ways true b refl)
  unlike None None (Some q) a b = and-false (name_eq x y)
  unlike None (Some p) q a b = absurd (both_ways false refl a)
  unlike (Some o) None q a b = absurd (both_ways false refl a)
  unlike (Some o) (Some p) None a b = and-false (name_eq x y)
  unlike (Some o) (Some p) (Some q) a b = by (name_eq x y) refl
    where
      by : (c : Bool) → name_eq x y ≡ c → (c && name_eq p q) ≡ false
      by true e = absurd (both_ways (name_eq f y) b (same-text f.text y.text (text-same f.text x.text a ∙ text-same x.text y.text e)))
      by false e = refl

-- two that go with the first are spelled alike where their own names are
pub told-apart : (first t u : SurfaceTarget) → goes_with first t ≡ true → goes_with first u ≡ true → target_eq t u ≡ bytes_eq (own_name t) (own_name u)
told-apart first t u = alike first.owner t.owner u.owner first.property t.property u.property

-- one that goes with the first is spelled like none that does not
pub others : (first t u : SurfaceTarget) → goes_with first t ≡ true → goes_with first u ≡ false → target_eq t u ≡ false
others first t u = unlike first.owner t.owner u.owner first.property t.property u.property

or-false : (b : Bool) → b || false ≡ b
or-false true = refl
or-false false = refl

or-assoc : (a b c : Bool) → a || (b || c) ≡ (a || b) || c
or-assoc true b c = refl
or-assoc false b c = refl

-- one more target
pub repeated-more : (t u : SurfaceTarget) (seen : List SurfaceTarget) → is_repeated t (seen ++ (u ∷ [])) ≡ (is_repeated t seen || target_eq t u)
repeated-more t u [] = or-false (target_eq t u)
repeated-more t u (x ∷ xs) = ap (λ b. target_eq t x || b) (repeated-more t u xs) ∙ or-assoc (target_eq t x) (is_repeated t xs) (target_eq t u)

-- ---- sets of names

-- how names are compared
abbrev name_cmp : Bor (List ℕ) → Bor (List ℕ) → Ordering
name_cmp x y = slice_cmp nat_cmp x.now y.now

-- a set has a name where it has one that compares equal
has : (s : BTreeSet (Bor (List ℕ))) (k : Bor (List ℕ)) → contains name_cmp s k ≡ has_name s k.now
has s k = ap (λ (test : Bor (List ℕ) → Bool). list_any test s.keys) (λ i x. is_eq-slice_cmp k.now x.now i)

-- a set with one more name
pub has-more : (s n : BTreeSet (Bor (List ℕ))) (k : Bor (List ℕ)) → Updates name_cmp s n k true → (text : List ℕ) → has_name n text ≡ (has_name s text || bytes_eq text k.now)
has-more s n k u text = by (bytes_eq text k.now) refl
  where
    -- a borrow of the text
    q : Bor (List ℕ)
    q = record k { now = text }

    differ : bytes_eq text k.now ≡ false → bytes_eq k.now text ≡ false
    differ e = one (bytes_eq k.now text) refl
      where
        one : (c : Bool) → bytes_eq k.now text ≡ c → c ≡ false
        one true f = absurd (both_ways (bytes_eq text k.now) e (same-text text k.now (sym (text-same k.now text f))))
        one false f = refl

    or-true : (c : Bool) → (c || true) ≡ true
    or-true true = refl
    or-true false = refl

    by : (b : Bool) → bytes_eq text k.now ≡ b → has_name n text ≡ (has_name s text || b)
    by true e = ap (has_name n) (text-same text k.now e) ∙ sym (has n k) ∙ u.1 ∙ sym (or-true (has_name s text))
    by false e =
        sym (has n q) ∙ u.2 q (is_eq-slice_cmp k.now text ∙ differ e) ∙ has s q ∙ sym (or-false (has_name s text))

-- one that does not go with the first
pub tells-other : (first t : SurfaceTarget) (s : BTreeSet (Bor (List ℕ))) → goes_with first t ≡ false → Tells first s s t false
tells-other first t s h seen old = (
  ap (λ b. b && not (is_repeated t seen)) (sym h),
  λ u g. old u g ∙ sym (repeated-more u t seen ∙ ap (λ b. is_repeated u seen || b) (others first u t g h) ∙ or-false (is_repeated u seen)),
)

-- one that does
pub tells-one : (first t : SurfaceTarget) (s n : BTreeSet (Bor (List ℕ))) (k : Bor (List ℕ)) (added : Bool) → k.now ≡ own_name t → goes_with first t ≡ true
    → added ≡ not (contains name_cmp s k) → Updates name_cmp s n k true → Tells first s n t added
tells-one first t s n k added name h is u seen old = (
  is ∙ ap not (has s k ∙ ap (has_name s) name ∙ old t h) ∙ sym (ap (λ b. b && not (is_repeated t seen)) h),
  λ v g. has-more s n k u (own_name v)
      ∙ ap (λ b. b || bytes_eq (own_name v) k.now) (old v g)
      ∙ ap (λ text. is_repeated v seen || bytes_eq (own_name v) text) name
      ∙ ap (λ b. is_repeated v seen || b) (sym (told-apart first v t g h))
      ∙ sym (repeated-more v t seen),
)

-- the first belongs with itself, so all behind it are judged
pub from-first : (xs : List SpelledTarget) (x : SpelledTarget) → 1 ≤ length xs → x ≡ get_or xs 0 x → apart (target_of x) [] (map target_of xs) ≡ apart_from_first (map target_of xs)
from-first [] x l is = absurd (omega (arith, l))
from-first (y ∷ ys) x l is =
    ap (λ z. apart (target_of z) [] (target_of y ∷ map target_of ys)) is
    ∙ ap (λ b. unless (b && true) T12 (target_of y).owner.place ++ apart (target_of y) (target_of y ∷ []) (map target_of ys)) (with-itself (target_of y))
