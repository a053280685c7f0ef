-- Accesses of a program without races.
use Rattle.std.proofs.Common.{◌≡◌, inl, inr, Bool, true, false, List, [], ◌∷◌, ◌++◌, refl, ap, ◌∙◌}
use Rattle.std.specs.Prelude.{◌⊎◌, ◌&&◌, ◌||◌, not, flat_map}
use Rattle.std.proofs.lemmas.Bool.{both_ways}
use Rattle.gm_base.specs.declared.places.Place.{Place}
use Rattle.gm_base.specs.declared.rules.Refusal.{Refusal}
use Rattle.gm_base.specs.declared.rules.Rule.{Rule}
use Rattle.gm_base.specs.declared.rules.Rule.TheVariants.{R1, R2, R3, R4, R5, R6}
use Rattle.gm_ast.specs.declared.accesses.Access.{Access}
use Rattle.gm_ast.specs.declared.tree.Declaration.{Declaration}
use Rattle.gm_ast.specs.Loops.{broken_if, declared_at, is_property}
use Rattle.gm_ast.specs.Races.{is_stray, reads_changed, meets_push, reads_reduced, mixes, mixes_deferred, races_at, races_among}
use Rattle.gm_ready.proofs.Judging.{append-empty}

-- what stands in a list
abbrev pub Member : {A : Type 0} → A → List A → Type 0
Member x [] = ⊥
Member x (y ∷ ys) = (x ≡ y) ⊎ Member x ys

pub member-left : {A : Type 0} (x : A) (xs ys : List A) → Member x xs → Member x (xs ++ ys)
member-left x (y ∷ xs) ys (inl e) = inl e
member-left x (y ∷ xs) ys (inr m) = inr (member-left x xs ys m)
member-left x [] ys m = absurd m

pub member-right : {A : Type 0} (x : A) (xs ys : List A) → Member x ys → Member x (xs ++ ys)
member-right x [] ys m = m
member-right x (y ∷ xs) ys m = inr (member-right x xs ys m)

-- a list of which each member stands in another
abbrev pub Inside : {A : Type 0} → List A → List A → Type 0
Inside {A} xs all = (x : A) → Member x xs → Member x all

pub inside-left : {A : Type 0} (xs ys all : List A) → Inside (xs ++ ys) all → Inside xs all
inside-left xs ys all h x m = h x (member-left x xs ys m)

pub inside-right : {A : Type 0} (xs ys all : List A) → Inside (xs ++ ys) all → Inside ys all
inside-right xs ys all h x m = h x (member-right x xs ys m)

pub broken-not : {A : Type 0} (x : Refusal) (xs : List Refusal) → x ∷ xs ≡ [] → A
broken-not x xs h = absurd (both_ways false refl (ap none_in h))
  where
    none_in : List Refusal → Bool
    none_in [] = true
    none_in (x ∷ xs) = false

pub unbroken : (bad : Bool) (r : Rule) (at : Place) → broken_if bad r at ≡ [] → bad ≡ false
unbroken true r at h = broken-not _ _ h
unbroken false r at h = refl

each-empty : {A : Type 0} (f : A → List Refusal) (xs : List A) → flat_map f xs ≡ [] → (x : A) → Member x xs → f x ≡ []
each-empty f [] h x m = absurd m
each-empty f (y ∷ ys) h x (inl e) = ap f e ∙ (append-empty (f y) (flat_map f ys) h).0
each-empty f (y ∷ ys) h x (inr m) = each-empty f ys (append-empty (f y) (flat_map f ys) h).1 x m

-- what an access of a program without races does not break
pub record Clean (ds : List Declaration) (all : List Access) (b : Access) : Type 0 where
  pub unchanged : reads_changed all b ≡ false
  pub unpushed : meets_push all b || reads_reduced all b ≡ false
  pub unmixed : mixes all b ≡ false
  pub own : is_stray b.kind ≡ false
  pub undeferred : mixes_deferred all b ≡ false

both-false : (a p : Bool) → a && p ≡ false → a && not p ≡ false → a ≡ false
both-false false p h k = refl
both-false true true h k = h
both-false true false h k = k

pub clean-of : (ds : List Declaration) (all : List Access) → races_among ds all ≡ [] → (b : Access) → Member b all → Clean ds all b
clean-of ds all free b m =
    let p = is_property (declared_at ds b.variable) in
    let r1 = broken_if (reads_changed all b) R1 b.place in
    let r2 = broken_if (meets_push all b || reads_reduced all b) R2 b.place in
    let r3 = broken_if (mixes all b) R3 b.place in
    let r4 = broken_if (is_stray b.kind && p) R4 b.place in
    let r5 = broken_if (is_stray b.kind && not p) R5 b.place in
    let r6 = broken_if (mixes_deferred all b) R6 b.place in
    let e1 = append-empty r1 (r2 ++ (r3 ++ (r4 ++ (r5 ++ r6)))) (each-empty (races_at ds all) all free b m) in
    let e2 = append-empty r2 (r3 ++ (r4 ++ (r5 ++ r6))) e1.1 in
    let e3 = append-empty r3 (r4 ++ (r5 ++ r6)) e2.1 in
    let e4 = append-empty r4 (r5 ++ r6) e3.1 in
    let e5 = append-empty r5 r6 e4.1 in
    record {
      unchanged = unbroken (reads_changed all b) R1 b.place e1.0;
      unpushed = unbroken (meets_push all b || reads_reduced all b) R2 b.place e2.0;
      unmixed = unbroken (mixes all b) R3 b.place e3.0;
      own = both-false (is_stray b.kind) p (unbroken (is_stray b.kind && p) R4 b.place e4.0) (unbroken (is_stray b.kind && not p) R5 b.place e5.0);
      undeferred = unbroken (mixes_deferred all b) R6 b.place e5.1;
    }
