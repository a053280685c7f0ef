-- How the reductions of a body go to properties, and that those that do agree.
use Rattle.std.proofs.Common.{◌≡◌, inl, inr, ℕ, Bool, true, false, Option, List, [], ◌∷◌, ◌++◌, map, refl, ap, ◌∙◌, sym, subst, ⊎_elim}
use Rattle.std.specs.Prelude.{◌&&◌, ◌||◌, not, nat_eq, if◌then◌else◌}
use Rattle.std.specs.List.{list_all, list_any}
use Rattle.std.proofs.lemmas.Bool.{both_ways, and_from, eq-eqb, eqb-true}
use Rattle.gm_base.specs.declared.places.Place.{Place}
use Rattle.gm_value.specs.Bag.{IsIn}
use Rattle.gm_value.specs.declared.reductions.Reduce.{Reduce}
use Rattle.gm_value.specs.declared.values.VType.{VType}
use Rattle.gm_value.specs.declared.values.VType.TheVariants as V
use Rattle.gm_ast.specs.declared.tree.Declaration.{Declaration}
use Rattle.gm_ast.specs.declared.tree.Target.{Target}
use Rattle.gm_ast.specs.declared.tree.Target.TheVariants as T
use Rattle.gm_ast.specs.Program as S
use Rattle.gm_ast.specs.Program.{Stmt, Program}
use Rattle.gm_ast.specs.Races.{reduce_eq, variables_eq}
use Rattle.gm_forms.proofs.Named.{both-true}
use Rattle.gm_forms.specs.Sharing.{Reduced, is_scalar, is_through, are_alike, are_distinct, targets_alike, variables_of, variables_where, is_owned, is_kept, reduced_by, all_reduced_by, is_at_once, are_at_once, reduced, disjoint, does_same, all_agree, lasting, lasts_one_way, all_last_one_way}
use Rattle.gm_forms.specs.Typing.{has_type, all_have_types, fits_targets, is_typed_in}
use Rattle.gm_lowering.specs.Layouts.{is_global, is_scalar_of}
use Rattle.gm_lowering.specs.Plans.{Way, Puts, Folds, Sends, Picks, is_property_of, is_property_off, way_of, Away, away_by, aways}
use Rattle.gm_sound_lowering.proofs.OneWay.{Combined, Agree, AllAgree}
use Rattle.gm_sound_lowering.proofs.PutLines.{nothing-behind, map-both}
use Rattle.gm_sound_lowering.proofs.Puts.{clash, agree-split, IsShared, agree-of, AreOf, of-both, join-agree}
use Rattle.gm_sound_lowering.proofs.Ways.{no-off}

-- ---- ways

module _ (ds : List Declaration) (m : ℕ) where
  -- the targets of a reduction by how a body at a node does it: those that it folds to are properties of the node, those that it sends to are properties through one other variable, and those that it picks are scalars
  abbrev pub Goes : Way → List Target → Type 0
  Goes Puts ts = Unit {0}
  Goes Folds ts = list_all (is_through m) ts ≡ true
  Goes Sends ts = (y : ℕ) × (list_all (is_through y) ts ≡ true) × (nat_eq y m ≡ false)
  Goes Picks ts = list_all is_scalar ts ≡ true

  as-through : (ts : List Target) → list_all (is_through m) ts ≡ list_all (is_property_of m) ts
  as-through [] = refl
  as-through (T.Scalar x at ∷ ts) = refl
  as-through (T.Property x q at ∷ ts) = ap (λ b. nat_eq x m && b) (as-through ts)

  pub goes : (ts : List Target) → are_alike ts ≡ true → Goes (way_of ds m ts) ts
  goes [] h = tt
  goes (T.Scalar x at ∷ ts) h = by (list_all (is_scalar_of is_global ds) (T.Scalar x at ∷ ts)) (list_any (is_property_off m) ts) (no-off m ts h) where
    by : (a b : Bool) → b ≡ false → Goes (if a then Puts else (if b then Sends else Picks)) (T.Scalar x at ∷ ts)
    by true b e = tt
    by false true e = absurd (both_ways true e refl)
    by false false e = h
  goes (T.Property x q at ∷ ts) h = by (nat_eq x m) refl where
    by : (b : Bool) → nat_eq x m ≡ b → Goes (if b && list_all (is_property_of m) ts then Folds else (if not b || list_any (is_property_off m) ts then Sends else Picks)) (T.Property x q at ∷ ts)
    by false e = (x, and_from (nat_eq x x) (list_all (is_through x) ts) (eq-eqb x x refl) h, e)
    by true e =
        let here : list_all (is_through m) ts ≡ true = subst (λ y. list_all (is_through y) ts ≡ true) (eqb-true x m e) h in
        subst (λ c. Goes (if c then Folds else (if list_any (is_property_off m) ts then Sends else Picks)) (T.Property x q at ∷ ts)) (sym (sym (as-through ts) ∙ here)) (and_from (nat_eq x m) (list_all (is_through m) ts) e here)

-- the reductions of a body that go in some ways, in the order of the text
abbrev pub ended_if : Bool → Reduce → List Target → List Combined
ended_if true r ts = record { reduce = r; variables = variables_of ts } ∷ []
ended_if false r ts = []

abbrev pub ends_in : (Way → Bool) → List Declaration → ℕ → Stmt → List Combined
ends_in some ds m (S.Then a b) = ends_in some ds m a ++ ends_in some ds m b
ends_in some ds m (S.Combine k total r ts es) = ended_if (some (way_of ds m ts)) r ts
ends_in some ds m (S.If k c a b) = ends_in some ds m a ++ ends_in some ds m b
ends_in some ds m _ = []

abbrev pub is_fold : Way → Bool
is_fold Folds = true
is_fold _ = false

abbrev pub is_sent : Way → Bool
is_sent Sends = true
is_sent _ = false

-- what is sent, as a reduction
abbrev pub sent_of : Away → Combined
sent_of a = record { reduce = a.reduce; variables = variables_of a.targets }

pub aways-end : (ds : List Declaration) (m : ℕ) (st : Stmt) → map sent_of (aways ds m st) ≡ ends_in is_sent ds m st
aways-end ds m (S.Then a b) = map-both sent_of (aways ds m a) (aways ds m b) ∙ ap (λ xs. xs ++ map sent_of (aways ds m b)) (aways-end ds m a) ∙ ap (λ xs. ends_in is_sent ds m a ++ xs) (aways-end ds m b)
aways-end ds m (S.If k c a b) = map-both sent_of (aways ds m a) (aways ds m b) ∙ ap (λ xs. xs ++ map sent_of (aways ds m b)) (aways-end ds m a) ∙ ap (λ xs. ends_in is_sent ds m a ++ xs) (aways-end ds m b)
aways-end ds m (S.Combine k total r ts es) = by (way_of ds m ts) where
  by : (w : Way) → map sent_of (away_by w total r ts) ≡ ended_if (is_sent w) r ts
  by Puts = refl
  by Folds = refl
  by Sends = refl
  by Picks = refl
aways-end ds m _ = refl

-- ---- they are among the reductions of the loop

-- a reduction to properties is one of the loop's: its variables are all the loop's own, or none of them is
pub record IsOf (own : Bool) (q : Combined) (r : Reduced) : Type 0 where
  pub reduce : r.reduce ≡ q.reduce
  pub variables : r.variables ≡ q.variables
  pub shared : r.shared ≡ (if not own then q.variables else [])
  pub kept : r.kept ≡ (if own then q.variables else [])

-- and whether they are is known
abbrev pub IsSome : (Bool → Type 0) → Combined → Reduced → Type 0
IsSome P q r = (own : Bool) × P own × IsOf own q r

module _ (y : ℕ) (test : Target → Bool) where
  where-all : ((x q : ℕ) (at : Place) → nat_eq x y ≡ true → test (T.Property x q at) ≡ true) → (ts : List Target) → list_all (is_through y) ts ≡ true → variables_where test ts ≡ variables_of ts
  where-all h [] e = refl
  where-all h (T.Scalar x at ∷ ts) e = absurd (both_ways false refl e)
  where-all h (T.Property x q at ∷ ts) e =
      let b = both-true (nat_eq x y) (list_all (is_through y) ts) e in
      ap (λ c. if c then q ∷ variables_where test ts else variables_where test ts) (h x q at b.0) ∙ ap (λ xs. q ∷ xs) (where-all h ts b.1)

  where-none : ((x q : ℕ) (at : Place) → nat_eq x y ≡ true → test (T.Property x q at) ≡ false) → (ts : List Target) → list_all (is_through y) ts ≡ true → variables_where test ts ≡ []
  where-none h [] e = refl
  where-none h (T.Scalar x at ∷ ts) e = absurd (both_ways false refl e)
  where-none h (T.Property x q at ∷ ts) e =
      let b = both-true (nat_eq x y) (list_all (is_through y) ts) e in
      ap (λ c. if c then q ∷ variables_where test ts else variables_where test ts) (h x q at b.0) ∙ where-none h ts b.1

  where-if : (b : Bool) → ((x q : ℕ) (at : Place) → nat_eq x y ≡ true → test (T.Property x q at) ≡ b) → (ts : List Target) → list_all (is_through y) ts ≡ true → variables_where test ts ≡ (if b then variables_of ts else [])
  where-if true h ts e = where-all h ts e
  where-if false h ts e = where-none h ts e

module _ (ds : List Declaration) (n : ℕ) (inner : Bool) where
  is-of : (y k : ℕ) (r : Reduce) (ts : List Target) → list_all (is_through y) ts ≡ true → IsOf (nat_eq y n) (record { reduce = r; variables = variables_of ts }) (reduced_by ds n k r ts)
  is-of y k r ts h = record {
    reduce = refl;
    variables = refl;
    shared = where-if y (λ t. not (is_owned ds n t)) (not (nat_eq y n)) (λ x q at e. ap (λ z. not (nat_eq z n)) (eqb-true x y e)) ts h;
    kept = where-if y (is_kept ds n) (nat_eq y n) (λ x q at e. ap (λ z. nat_eq z n) (eqb-true x y e)) ts h;
  }

  -- it is not done at once
  not-at-once : (y : ℕ) (r : Reduce) (ts : List Target) → (inner ≡ false → nat_eq y n ≡ false) → fits_targets ds r ts ≡ true → list_all (is_through y) ts ≡ true → are_at_once ds n inner ts ≡ false
  not-at-once y r [] o f h = absurd (both_ways false refl f)
  not-at-once y r (T.Scalar x at ∷ ts) o f h = absurd (both_ways false refl h)
  not-at-once y r (T.Property x q at ∷ ts) o f h = by inner o where
    by : (i : Bool) → (i ≡ false → nat_eq y n ≡ false) → is_at_once ds n i (T.Property x q at) && are_at_once ds n i ts ≡ false
    by true o = refl
    by false o = ap (λ b. b && are_at_once ds n false ts) (ap (λ z. nat_eq z n) (eqb-true x y (both-true (nat_eq x y) (list_all (is_through y) ts) h).0) ∙ o refl)

  module _ (m : ℕ) (some : Way → Bool) (P : Bool → Type 0)
      (leads : (w : Way) (ts : List Target) → some w ≡ true → Goes ds m w ts → (y : ℕ) × (list_all (is_through y) ts ≡ true) × P (nat_eq y n) × (inner ≡ false → nat_eq y n ≡ false)) where
    end-of : (k : ℕ) (r : Reduce) (ts : List Target) (w : Way) → fits_targets ds r ts ≡ true → Goes ds m w ts → AreOf (IsSome P) (all_reduced_by ds n inner k r ts) (ended_if (some w) r ts)
    end-of k r ts w f g = by (some w) refl where
      by : (b : Bool) → some w ≡ b → AreOf (IsSome P) (all_reduced_by ds n inner k r ts) (ended_if b r ts)
      by false e = tt
      by true e =
          let y = leads w ts e g in
          subst (λ c. AreOf (IsSome P) (if c then [] else reduced_by ds n k r ts ∷ []) (record { reduce = r; variables = variables_of ts } ∷ [])) (sym (not-at-once y.0 r ts y.3 f y.1))
          ((reduced_by ds n k r ts, inl refl, (nat_eq y.0 n, y.2, is-of y.0 k r ts y.1)), tt)

    pub ends-of : (result : Option VType) (st : Stmt) → is_typed_in ds result st ≡ true → targets_alike st ≡ true → AreOf (IsSome P) (reduced ds n inner st) (ends_in some ds m st)
    ends-of result (S.Then a b) h t =
        let h2 = both-true (is_typed_in ds result a) (is_typed_in ds result b) h in
        let t2 = both-true (targets_alike a) (targets_alike b) t in
        of-both (IsSome P) (reduced ds n inner a) (reduced ds n inner b) (ends_in some ds m a) (ends_in some ds m b) (ends-of result a h2.0 t2.0) (ends-of result b h2.1 t2.1)
    ends-of result (S.If k c a b) h t =
        let h2 = both-true (is_typed_in ds result a) (is_typed_in ds result b) (both-true (has_type ds V.Flag c) (is_typed_in ds result a && is_typed_in ds result b) h).1 in
        let t2 = both-true (targets_alike a) (targets_alike b) t in
        of-both (IsSome P) (reduced ds n inner a) (reduced ds n inner b) (ends_in some ds m a) (ends_in some ds m b) (ends-of result a h2.0 t2.0) (ends-of result b h2.1 t2.1)
    ends-of result (S.Combine k total r ts es) h t =
        end-of total.key.statement r ts (way_of ds m ts) (both-true (all_have_types ds ts es) (fits_targets ds r ts) h).1 (goes ds m ts (both-true (are_alike ts) (are_distinct (variables_of ts)) t).0)
    ends-of result _ h t = tt

    module _ (holds : Reduced → Reduced → Bool) (agree : (q s : Combined) (a b : Reduced) → IsSome P q a → IsSome P s b → holds a b ≡ true → Agree q s) (all : List Reduced → Bool)
        (split : (xs ys : List Reduced) → all (xs ++ ys) ≡ true → (all xs ≡ true) × (all ys ≡ true) × ((a b : Reduced) → IsIn a xs → IsIn b ys → holds a b ≡ true)) where
      ended-agree : (b : Bool) (r : Reduce) (ts : List Target) → AllAgree (ended_if b r ts)
      ended-agree true r ts = (tt, tt)
      ended-agree false r ts = tt

      join : (result : Option VType) (a b : Stmt) → is_typed_in ds result a ≡ true → is_typed_in ds result b ≡ true → targets_alike a ≡ true → targets_alike b ≡ true → AllAgree (ends_in some ds m a) → AllAgree (ends_in some ds m b)
          → ((x y : Reduced) → IsIn x (reduced ds n inner a) → IsIn y (reduced ds n inner b) → holds x y ≡ true) → AllAgree (ends_in some ds m a ++ ends_in some ds m b)
      join result a b h k t u x y c =
          join-agree (IsSome P) holds agree (reduced ds n inner a) (reduced ds n inner b) (ends_in some ds m a) (ends_in some ds m b) (ends-of result a h t) (ends-of result b k u) x y c

      pub ends-agree : (result : Option VType) (st : Stmt) → is_typed_in ds result st ≡ true → targets_alike st ≡ true → all (reduced ds n inner st) ≡ true → AllAgree (ends_in some ds m st)
      ends-agree result (S.Then a b) h t g =
          let h2 = both-true (is_typed_in ds result a) (is_typed_in ds result b) h in
          let t2 = both-true (targets_alike a) (targets_alike b) t in
          let g2 = split (reduced ds n inner a) (reduced ds n inner b) g in
          join result a b h2.0 h2.1 t2.0 t2.1 (ends-agree result a h2.0 t2.0 g2.0) (ends-agree result b h2.1 t2.1 g2.1) g2.2
      ends-agree result (S.If k c a b) h t g =
          let h2 = both-true (is_typed_in ds result a) (is_typed_in ds result b) (both-true (has_type ds V.Flag c) (is_typed_in ds result a && is_typed_in ds result b) h).1 in
          let t2 = both-true (targets_alike a) (targets_alike b) t in
          let g2 = split (reduced ds n inner a) (reduced ds n inner b) g in
          join result a b h2.0 h2.1 t2.0 t2.1 (ends-agree result a h2.0 t2.0 g2.0) (ends-agree result b h2.1 t2.1 g2.1) g2.2
      ends-agree result (S.Combine k total r ts es) h t g = ended-agree (some (way_of ds m ts)) r ts
      ends-agree result _ h t g = tt

-- ---- which agree

-- what lasts of a reduction is all of its variables
lasts : (own : Bool) (q : Combined) (r : Reduced) → IsOf own q r → lasting r ≡ q.variables
lasts true q r h = ap (λ xs. xs ++ r.kept) h.shared ∙ h.kept
lasts false q r h = ap (λ xs. xs ++ r.kept) h.shared ∙ ap (λ xs. q.variables ++ xs) h.kept ∙ nothing-behind q.variables

-- whether two reductions of an inner loop go one way, but for its locals
abbrev pub one_way : Reduced → Reduced → Bool
one_way a b = disjoint (lasting a) (lasting b) || does_same a b

inner-agree : (P : Bool → Type 0) (q s : Combined) (a b : Reduced) → IsSome P q a → IsSome P s b → one_way a b ≡ true → Agree q s
inner-agree P q s a b h k e = by (disjoint (lasting a) (lasting b)) refl e where
  by : (c : Bool) → disjoint (lasting a) (lasting b) ≡ c → c || does_same a b ≡ true → Agree q s
  by true f e = inl (ap (λ v. disjoint v s.variables) (sym (lasts h.0 q a h.2)) ∙ ap (disjoint (lasting a)) (sym (lasts k.0 s b k.2)) ∙ f)
  by false f e =
      let d = both-true (reduce_eq a.reduce b.reduce) (variables_eq a.variables b.variables) e in
      inr (
        ap (λ z. reduce_eq z s.reduce) (sym h.2.reduce) ∙ ap (reduce_eq a.reduce) (sym k.2.reduce) ∙ d.0,
        ap (λ z. variables_eq z s.variables) (sym h.2.variables) ∙ ap (variables_eq a.variables) (sym k.2.variables) ∙ d.1,
      )

is-shared : (own : Bool) (q : Combined) (r : Reduced) → own ≡ false → IsOf own q r → IsShared q r
is-shared true q r e h = absurd (both_ways true e refl)
is-shared false q r e h = record { reduce = h.reduce; variables = h.variables; shared = h.shared }

outer-agree : (q s : Combined) (a b : Reduced) → IsSome (λ own. own ≡ false) q a → IsSome (λ own. own ≡ false) s b → clash a b ≡ true → Agree q s
outer-agree q s a b h k e = agree-of q s a b (is-shared h.0 q a h.1 h.2) (is-shared k.0 s b k.1 k.2) e

way-in : (a : Reduced) (bs : List Reduced) (b : Reduced) → lasts_one_way a bs ≡ true → IsIn b bs → one_way a b ≡ true
way-in a [] b h i = absurd i
way-in a (c ∷ bs) b h i =
    let g = both-true (one_way a c) (lasts_one_way a bs) h in ⊎_elim (λ (e : b ≡ c). ap (one_way a) e ∙ g.0) (λ (j : IsIn b bs). way-in a bs b g.1 j) i

way-left : (a : Reduced) (xs ys : List Reduced) → lasts_one_way a (xs ++ ys) ≡ true → (lasts_one_way a xs ≡ true) × (lasts_one_way a ys ≡ true)
way-left a [] ys h = (refl, h)
way-left a (x ∷ xs) ys h =
    let g = both-true (one_way a x) (lasts_one_way a (xs ++ ys)) h in
    let r = way-left a xs ys g.1 in (and_from (one_way a x) (lasts_one_way a xs) g.0 r.0, r.1)

way-split : (xs ys : List Reduced) → all_last_one_way (xs ++ ys) ≡ true → (all_last_one_way xs ≡ true) × (all_last_one_way ys ≡ true) × ((a b : Reduced) → IsIn a xs → IsIn b ys → one_way a b ≡ true)
way-split [] ys h = (refl, h, λ a b i j. absurd i)
way-split (x ∷ xs) ys h =
    let g = both-true (lasts_one_way x (xs ++ ys)) (all_last_one_way (xs ++ ys)) h in
    let l = way-left x xs ys g.0 in
    let r = way-split xs ys g.1 in (
      and_from (lasts_one_way x xs) (all_last_one_way xs) l.0 r.0,
      r.1,
      λ a b i j. ⊎_elim (λ (e : a ≡ x). ap (λ z. one_way z b) e ∙ way-in x ys b l.1 j) (λ (k : IsIn a xs). r.2 a b k j) i,
    )

module _ (ds : List Declaration) (n m : ℕ) where
  -- what a body at a node folds to its own properties
  fold-leads : (w : Way) (ts : List Target) → is_fold w ≡ true → Goes ds m w ts → (y : ℕ) × (list_all (is_through y) ts ≡ true) × (nat_eq y n ≡ nat_eq m n) × (true ≡ false → nat_eq y n ≡ false)
  fold-leads Folds ts e g = (m, g, refl, λ f. absurd (both_ways true f refl))
  fold-leads Puts ts e g = absurd (both_ways false refl e)
  fold-leads Sends ts e g = absurd (both_ways false refl e)
  fold-leads Picks ts e g = absurd (both_ways false refl e)

  sent-leads : (w : Way) (ts : List Target) → is_sent w ≡ true → Goes ds m w ts → (y : ℕ) × (list_all (is_through y) ts ≡ true) × Unit {0} × (true ≡ false → nat_eq y n ≡ false)
  sent-leads Sends ts e g = (g.0, g.1, tt, λ f. absurd (both_ways true f refl))
  sent-leads Puts ts e g = absurd (both_ways false refl e)
  sent-leads Folds ts e g = absurd (both_ways false refl e)
  sent-leads Picks ts e g = absurd (both_ways false refl e)

  abbrev pub AtNode : Bool → Type 0
  AtNode own = own ≡ nat_eq m n

  -- the folds of an inner loop are among its reductions, and agree
  pub folds-of : (result : Option VType) (st : Stmt) → is_typed_in ds result st ≡ true → targets_alike st ≡ true → AreOf (IsSome AtNode) (reduced ds n true st) (ends_in is_fold ds m st)
  folds-of = ends-of ds n true m is_fold AtNode fold-leads

  pub folds-agree : (result : Option VType) (st : Stmt) → is_typed_in ds result st ≡ true → targets_alike st ≡ true → all_last_one_way (reduced ds n true st) ≡ true → AllAgree (ends_in is_fold ds m st)
  folds-agree = ends-agree ds n true m is_fold AtNode fold-leads one_way (inner-agree AtNode) all_last_one_way way-split

  -- what an inner loop sends agrees
  pub inner-sent-agree : (result : Option VType) (st : Stmt) → is_typed_in ds result st ≡ true → targets_alike st ≡ true → all_last_one_way (reduced ds n true st) ≡ true → AllAgree (ends_in is_sent ds m st)
  inner-sent-agree = ends-agree ds n true m is_sent (λ own. Unit {0}) sent-leads one_way (inner-agree (λ own. Unit {0})) all_last_one_way way-split

-- what an own body sends agrees
module _ (ds : List Declaration) (n : ℕ) where
  own-leads : (w : Way) (ts : List Target) → is_sent w ≡ true → Goes ds n w ts → (y : ℕ) × (list_all (is_through y) ts ≡ true) × (nat_eq y n ≡ false) × (false ≡ false → nat_eq y n ≡ false)
  own-leads Sends ts e g = (g.0, g.1, g.2, λ f. g.2)
  own-leads Puts ts e g = absurd (both_ways false refl e)
  own-leads Folds ts e g = absurd (both_ways false refl e)
  own-leads Picks ts e g = absurd (both_ways false refl e)

  pub own-sent-agree : (result : Option VType) (st : Stmt) → is_typed_in ds result st ≡ true → targets_alike st ≡ true → all_agree (reduced ds n false st) ≡ true → AllAgree (ends_in is_sent ds n st)
  own-sent-agree = ends-agree ds n false n is_sent (λ own. own ≡ false) own-leads clash outer-agree all_agree agree-split
