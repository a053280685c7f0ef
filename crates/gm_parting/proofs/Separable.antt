-- What a loop shares between its iterations may be shared between the loops of its pieces, where its tuples are even and it defers nothing.
use Rattle.std.proofs.Common.{◌≡◌, ℕ, Bool, true, false, cond, List, [], ◌∷◌, ◌++◌, refl, sym, ap, subst, ◌∙◌, ⊎_elim, inl, inr}
use Rattle.std.specs.Prelude.{◌&&◌, ◌||◌, not, nat_eq, nat_lt}
use Rattle.std.specs.List.{list_all}
use Rattle.std.proofs.lemmas.Bool.{both_ways, cases_Bool, eqb-true}
use Rattle.gm_base.specs.declared.places.Place.{Place}
use Rattle.gm_value.specs.Bag.{IsIn}
use Rattle.gm_value.specs.declared.reductions.Reduce.{Reduce}
use Rattle.gm_ast.specs.declared.tree.Declaration.{Declaration}
use Rattle.gm_ast.specs.declared.tree.Target.{Target}
use Rattle.gm_ast.specs.declared.tree.Target.TheVariants as T
use Rattle.gm_ast.specs.Program.{Expr, Stmt, Then, Declare, Assign, Combine, Foreach, If}
use Rattle.gm_ast.specs.Ways.{is_in}
use Rattle.gm_forms.specs.Fission.{left, changed, elsewhere_of, pushed_properties, agrees_with, all_agree_with, is_late, all_same, reduces_whole, is_nil}
use Rattle.gm_forms.specs.Forms.{depth_at}
use Rattle.gm_forms.specs.Sharing.{Read, Reduced, reads_in, told_in, sights_of, written, is_at_once, are_at_once, is_owned, variables_of, reduced_by, reduced, deferred, inners_share, targets_alike, are_alike, are_distinct, is_through, read_anywhere, read_elsewhere, pushed_in, owned_in, shared_in, kept_in, disjoint, does_same, agrees, all_agree, shares}
use Rattle.gm_forms.proofs.CutTests.{found, finds}
use Rattle.gm_forms.proofs.Doings.{in-left, in-right, in-either}
use Rattle.gm_forms.proofs.Named.{both-true}
use Rattle.gm_forms.proofs.Weaker.{and-true}
use Rattle.gm_loop_laws.proofs.Chosen.{disjoint-apart, apart-disjoint}
use Rattle.gm_dissect.proofs.DeferredLoops.{either-true}
use Rattle.gm_cut.specs.Parts.{is_separable}
use Rattle.gm_cut.proofs.Shared.{Under, under-both, fewer-apart, anywhere-split, elsewhere-split, listed-second}
use Rattle.gm_parting.specs.Tuples.{is_scalar_at, reduces_evenly}
use Rattle.gm_parting.proofs.Reductions.{Uniform, None, Scalars, Through, uniform, all-scalars, all-through, some-false, Clear, AllClear, Same, does-same, same-does, pair, in-pairs, all-clear}

-- ---- what lists have in common

record Common (xs ys : List ℕ) : Type 0 where
  number : ℕ
  first : IsIn number xs
  second : IsIn number ys

common : (xs ys : List ℕ) → disjoint xs ys ≡ false → Common xs ys
common [] ys h = absurd (both_ways true h refl)
common (x ∷ xs) ys h = by (is_in ys x) refl h (common xs ys)
  where
    by : (b : Bool) → is_in ys x ≡ b → not b && disjoint xs ys ≡ false → (disjoint xs ys ≡ false → Common xs ys) → Common (x ∷ xs) ys
    by true e h rest = record { number = x; first = inl refl; second = found ys x e }
    by false e h rest = let c : Common xs ys = rest h in record { number = c.number; first = inr c.first; second = c.second }

or-first : (a b : Bool) → a ≡ true → a || b ≡ true
or-first a b h = ap (λ x. x || b) h

or-second : (a b : Bool) → b ≡ true → a || b ≡ true
or-second true b h = refl
or-second false b h = h

-- ---- pairs of reductions

pair-same : (a b : Reduced) (y : ℕ) → pair a b ≡ true → IsIn y a.variables → IsIn y b.variables → b.shared ≡ b.variables → Same a b
pair-same a b y h i j e =
    ⊎_elim (λ (d : disjoint a.variables b.variables ≡ true). absurd (disjoint-apart a.variables b.variables y d i j))
    (λ (q : nat_lt a.number b.number && ((disjoint a.shared b.variables && disjoint b.shared a.variables) || does_same a b) ≡ true).
    ⊎_elim (λ (p : disjoint a.shared b.variables && disjoint b.shared a.variables ≡ true). absurd (disjoint-apart b.shared a.variables y (both-true (disjoint a.shared b.variables) (disjoint b.shared a.variables) p).1 (subst (IsIn y) (sym e) j) i))
    (λ s. does-same a b s)
    (either-true (disjoint a.shared b.variables && disjoint b.shared a.variables) (does_same a b) (both-true (nat_lt a.number b.number) ((disjoint a.shared b.variables && disjoint b.shared a.variables) || does_same a b) q).1))
    (either-true (disjoint a.variables b.variables) (nat_lt a.number b.number && ((disjoint a.shared b.variables && disjoint b.shared a.variables) || does_same a b)) h)

pair-back : (a b : Reduced) (y : ℕ) → pair b a ≡ true → IsIn y a.variables → IsIn y b.variables → b.shared ≡ b.variables → Same a b
pair-back a b y h i j e =
    ⊎_elim (λ (d : disjoint b.variables a.variables ≡ true). absurd (disjoint-apart b.variables a.variables y d j i))
    (λ (q : nat_lt b.number a.number && ((disjoint b.shared a.variables && disjoint a.shared b.variables) || does_same b a) ≡ true).
    ⊎_elim (λ (p : disjoint b.shared a.variables && disjoint a.shared b.variables ≡ true). absurd (disjoint-apart b.shared a.variables y (both-true (disjoint b.shared a.variables) (disjoint a.shared b.variables) p).0 (subst (IsIn y) (sym e) j) i))
    (λ s. let t = does-same b a s in (sym t.0, sym t.1))
    (either-true (disjoint b.shared a.variables && disjoint a.shared b.variables) (does_same b a) (both-true (nat_lt b.number a.number) ((disjoint b.shared a.variables && disjoint a.shared b.variables) || does_same b a) q).1))
    (either-true (disjoint b.variables a.variables) (nat_lt b.number a.number && ((disjoint b.shared a.variables && disjoint a.shared b.variables) || does_same b a)) h)

shared-all : (b : Reduced) → Clear b → b.own ≡ false → b.shared ≡ b.variables
shared-all b (inl m) o = absurd (both_ways b.own o m.own)
shared-all b (inr g) o = g.shared

-- a reduction among some that gives a variable to others, with all that are given to others
pub record Pusher (rs : List Reduced) (pushed : List ℕ) (y : ℕ) : Type 0 where
  pub by : Reduced
  pub among : IsIn by rs
  pub own : by.own ≡ false
  pub gives : IsIn y by.variables
  pub all : Under by.variables pushed

-- all: the reductions of a loop; pushed: what they push
module _ (all : List Reduced) (pushed : List ℕ) (agree : all_agree all ≡ true) (clear : AllClear all) (push : (y : ℕ) → IsIn y pushed → Pusher all pushed y) where
  linked : (a b : Reduced) → IsIn a all → IsIn b all → (y : ℕ) → IsIn y a.variables → IsIn y b.variables → b.own ≡ false → Same a b
  linked a b i j y l m o =
      let e = shared-all b (clear b j) o in
      ⊎_elim (λ (f : a ≡ b). (ap (λ (r : Reduced). r.variables) f, ap (λ (r : Reduced). r.reduce) f))
      (λ q. ⊎_elim (λ p. pair-same a b y p l m e) (λ p. pair-back a b y p l m e) q) (in-pairs all agree a b i j)

  -- what is kept in a reduction that shares nothing
  keeps : (a b : Reduced) (y : ℕ) → Clear a → IsIn y a.variables → IsIn y b.variables → disjoint a.shared b.variables ≡ true → a.own ≡ true
  keeps a b y (inl m) l k d = m.own
  keeps a b y (inr g) l k d = absurd (disjoint-apart a.shared b.variables y d (subst (IsIn y) (sym g.shared) l) k)

  abbrev test : Reduced → Reduced → Bool
  test a b = disjoint a.variables b.variables || (nat_lt a.number b.number && ((a.own && (b.own && disjoint a.variables pushed)) || does_same a b))

  tests : (a b : Reduced) → IsIn a all → IsIn b all → pair a b ≡ true → test a b ≡ true
  tests a b i j h =
      let less = nat_lt a.number b.number in
      let alone = disjoint a.shared b.variables && disjoint b.shared a.variables in
      let ours = a.own && (b.own && disjoint a.variables pushed) in
      ⊎_elim (λ (d : disjoint a.variables b.variables ≡ true). or-first (disjoint a.variables b.variables) (less && (ours || does_same a b)) d)
      (λ (d : disjoint a.variables b.variables ≡ false).
      let q = both-true less (alone || does_same a b) (subst (λ x. x || (less && (alone || does_same a b)) ≡ true) d h) in
      or-second (disjoint a.variables b.variables) (less && (ours || does_same a b))
      (and-true less (ours || does_same a b) q.0
      (⊎_elim (λ (p : alone ≡ true). apart (common a.variables b.variables d) (both-true (disjoint a.shared b.variables) (disjoint b.shared a.variables) p)) (λ s. or-second ours (does_same a b) s) (either-true alone (does_same a b) q.1))))
      (cases_Bool (disjoint a.variables b.variables))
    where
      apart : Common a.variables b.variables → (disjoint a.shared b.variables ≡ true) × (disjoint b.shared a.variables ≡ true) → (a.own && (b.own && disjoint a.variables pushed)) || does_same a b ≡ true
      apart c p =
          let first = keeps a b c.number (clear a i) c.first c.second p.0 in
          let second = keeps b a c.number (clear b j) c.second c.first p.1 in
          ⊎_elim (λ (d : disjoint a.variables pushed ≡ true). or-first (a.own && (b.own && disjoint a.variables pushed)) (does_same a b)
          (and-true a.own (b.own && disjoint a.variables pushed) first (and-true b.own (disjoint a.variables pushed) second d)))
          (λ (d : disjoint a.variables pushed ≡ false). or-second (a.own && (b.own && disjoint a.variables pushed)) (does_same a b) (same-does a b (through c (common a.variables pushed d))))
          (cases_Bool (disjoint a.variables pushed))
        where
          through : Common a.variables b.variables → Common a.variables pushed → Same a b
          through c g =
              let p = push g.number g.second in
              let x = linked a p.by i p.among g.number g.first p.gives p.own in
              let y = linked b p.by j p.among c.number c.second (subst (IsIn c.number) x.0 c.first) p.own in
              (x.0 ∙ sym y.0, x.1 ∙ sym y.1)

  agrees-with : (a : Reduced) (bs : List Reduced) → IsIn a all → ((r : Reduced) → IsIn r bs → IsIn r all) → agrees a bs ≡ true → agrees_with pushed a bs ≡ true
  agrees-with a [] i u h = refl
  agrees-with a (b ∷ bs) i u h =
      let r = both-true (pair a b) (agrees a bs) h in and-true (test a b) (agrees_with pushed a bs) (tests a b i (u b (inl refl)) r.0) (agrees-with a bs i (λ r j. u r (inr j)) r.1)

  pub agree-with : (rs : List Reduced) → ((r : Reduced) → IsIn r rs → IsIn r all) → all_agree rs ≡ true → all_agree_with pushed rs ≡ true
  agree-with [] u h = refl
  agree-with (a ∷ rs) u h =
      let r = both-true (agrees a rs) (all_agree rs) h in
      and-true (agrees_with pushed a rs) (all_agree_with pushed rs) (agrees-with a rs (u a (inl refl)) (λ r j. u r (inr j)) r.0) (agree-with rs (λ r j. u r (inr j)) r.1)

module _ (ds : List Declaration) (n : ℕ) where
  -- ---- what is pushed is given to others

  elsewhere-through : (x : ℕ) → nat_eq x n ≡ false → (ts : List Target) → list_all (is_through x) ts ≡ true → elsewhere_of n ts ≡ variables_of ts
  elsewhere-through x e [] h = refl
  elsewhere-through x e (T.Scalar y at ∷ ts) h = absurd (both_ways false refl h)
  elsewhere-through x e (T.Property y p at ∷ ts) h =
      let r = both-true (nat_eq y x) (list_all (is_through x) ts) h in
      ap (λ b. cond b (elsewhere_of n ts) (p ∷ elsewhere_of n ts)) (subst (λ z. nat_eq z n ≡ false) (sym (eqb-true y x r.0)) e) ∙ ap (λ l. p ∷ l) (elsewhere-through x e ts r.1)

  elsewhere-own : (x : ℕ) → nat_eq x n ≡ true → (ts : List Target) → list_all (is_through x) ts ≡ true → elsewhere_of n ts ≡ []
  elsewhere-own x e [] h = refl
  elsewhere-own x e (T.Scalar y at ∷ ts) h = absurd (both_ways false refl h)
  elsewhere-own x e (T.Property y p at ∷ ts) h =
      let r = both-true (nat_eq y x) (list_all (is_through x) ts) h in
      ap (λ b. cond b (elsewhere_of n ts) (p ∷ elsewhere_of n ts)) (subst (λ z. nat_eq z n ≡ true) (sym (eqb-true y x r.0)) e) ∙ elsewhere-own x e ts r.1

  elsewhere-scalars : (d : ℕ) (ts : List Target) → list_all (is_scalar_at ds d) ts ≡ true → elsewhere_of n ts ≡ []
  elsewhere-scalars d [] h = refl
  elsewhere-scalars d (T.Scalar y at ∷ ts) h = elsewhere-scalars d ts (both-true (nat_eq (depth_at ds y) d) (list_all (is_scalar_at ds d) ts) h).1
  elsewhere-scalars d (T.Property y p at ∷ ts) h = absurd (both_ways false refl h)

  once-through : (inner : Bool) (x : ℕ) → nat_eq x n ≡ false → (p : ℕ) (at : Place) → is_at_once ds n inner (T.Property x p at) ≡ false
  once-through true x e p at = refl
  once-through false x e p at = e

  combined-push : (inner : Bool) (k : ℕ) (o : Reduce) (ts : List Target) → Uniform ds ts → (y : ℕ) → IsIn y (elsewhere_of n ts) →
      Pusher (cond (are_at_once ds n inner ts) [] (reduced_by ds n k o ts ∷ [])) (elsewhere_of n ts) y
  combined-push inner k o ts (None e) y i = absurd (subst (λ l. IsIn y (elsewhere_of n l)) e i)
  combined-push inner k o ts (Scalars d h) y i = absurd (subst (IsIn y) (elsewhere-scalars d ts h) i)
  combined-push inner k o [] (Through x h) y i = absurd i
  combined-push inner k o (t ∷ ts) (Through x h) y i = by (nat_eq x n) refl
    where
      by : (b : Bool) → nat_eq x n ≡ b → Pusher (cond (are_at_once ds n inner (t ∷ ts)) [] (reduced_by ds n k o (t ∷ ts) ∷ [])) (elsewhere_of n (t ∷ ts)) y
      by true e = absurd (subst (IsIn y) (elsewhere-own x e (t ∷ ts) h) i)
      by false e =
          let late : are_at_once ds n inner (t ∷ ts) ≡ false = some-false (is_at_once ds n inner) t ts (all-through x (is_at_once ds n inner) false (once-through inner x e) (t ∷ ts) h) in
          let all = elsewhere-through x e (t ∷ ts) h in
          subst (λ b. Pusher (cond b [] (reduced_by ds n k o (t ∷ ts) ∷ [])) (elsewhere_of n (t ∷ ts)) y) (sym late)
          (record {
            by = reduced_by ds n k o (t ∷ ts);
            among = inl refl;
            own = some-false (is_owned ds n) t ts (all-through x (is_owned ds n) false (λ p at. e) (t ∷ ts) h);
            gives = subst (IsIn y) all i;
            all = λ z j. subst (IsIn z) (sym all) j;
          })

  wider : (rs ss : List Reduced) (ps qs : List ℕ) (y : ℕ) → ((r : Reduced) → IsIn r rs → IsIn r ss) → Under ps qs → Pusher rs ps y → Pusher ss qs y
  wider rs ss ps qs y u w p = record { by = p.by; among = u p.by p.among; own = p.own; gives = p.gives; all = λ z i. w z (p.all z i) }

  pub pushers : (inner : Bool) (s : Stmt) → targets_alike s ≡ true → reduces_evenly ds s ≡ true → (y : ℕ) → IsIn y (pushed_properties n s) → Pusher (reduced ds n inner s) (pushed_properties n s) y
  pushers inner (Then a b) h e y i =
      let p = both-true (targets_alike a) (targets_alike b) h in
      let q = both-true (reduces_evenly ds a) (reduces_evenly ds b) e in
      let A = reduced ds n inner a in
      let B = reduced ds n inner b in
      let P = pushed_properties n a in
      let Q = pushed_properties n b in
      ⊎_elim (λ j. wider A (A ++ B) P (P ++ Q) y (λ r k. in-left r A B k) (λ z k. in-left z P Q k) (pushers inner a p.0 q.0 y j))
      (λ j. wider B (A ++ B) Q (P ++ Q) y (λ r k. in-right r A B k) (λ z k. in-right z P Q k) (pushers inner b p.1 q.1 y j)) (in-either y P Q i)
  pushers inner (If k c a b) h e y i =
      let p = both-true (targets_alike a) (targets_alike b) h in
      let q = both-true (reduces_evenly ds a) (reduces_evenly ds b) e in
      let A = reduced ds n inner a in
      let B = reduced ds n inner b in
      let P = pushed_properties n a in
      let Q = pushed_properties n b in
      ⊎_elim (λ j. wider A (A ++ B) P (P ++ Q) y (λ r k. in-left r A B k) (λ z k. in-left z P Q k) (pushers inner a p.0 q.0 y j))
      (λ j. wider B (A ++ B) Q (P ++ Q) y (λ r k. in-right r A B k) (λ z k. in-right z P Q k) (pushers inner b p.1 q.1 y j)) (in-either y P Q i)
  pushers inner (Foreach k at hd test body) h e y i = pushers true body h e y i
  pushers inner (Combine k total o ts es) h e y i =
      combined-push inner total.key.statement o ts (uniform ds ts (both-true (are_alike ts) (are_distinct (variables_of ts)) h).0 e) y i
  pushers inner s h e y i = absurd i

  -- ---- the targets of each reduction end together

  all-late : (pushed : List ℕ) (ts : List Target) → Under (variables_of ts) pushed → list_all (is_through n) ts ≡ true → list_all (is_late ds n pushed) ts ≡ true
  all-late pushed [] u h = refl
  all-late pushed (T.Scalar y at ∷ ts) u h = absurd (both_ways false refl h)
  all-late pushed (T.Property y p at ∷ ts) u h =
      and-true (not (nat_eq y n) || is_in pushed p) (list_all (is_late ds n pushed) ts) (or-second (not (nat_eq y n)) (is_in pushed p) (finds pushed p (u p (inl refl))))
      (all-late pushed ts (λ z i. u z (inr i)) (both-true (nat_eq y n) (list_all (is_through n) ts) h).1)

  none-late : (pushed : List ℕ) (ts : List Target) → disjoint (variables_of ts) pushed ≡ true → list_all (is_through n) ts ≡ true → list_all (λ t. not (is_late ds n pushed t)) ts ≡ true
  none-late pushed [] d h = refl
  none-late pushed (T.Scalar y at ∷ ts) d h = absurd (both_ways false refl h)
  none-late pushed (T.Property y p at ∷ ts) d h =
      let r = both-true (nat_eq y n) (list_all (is_through n) ts) h in
      let e = both-true (not (is_in pushed p)) (disjoint (variables_of ts) pushed) d in
      and-true (not (not (nat_eq y n) || is_in pushed p)) (list_all (λ t. not (is_late ds n pushed t)) ts) (ap (λ b. not (not b || is_in pushed p)) r.0 ∙ e.0) (none-late pushed ts e.1 r.1)

  same-true : (f : Target → Bool) (ts : List Target) → list_all f ts ≡ true → all_same f ts ≡ true
  same-true f ts h = or-first (list_all f ts) (list_all (λ t. not (f t)) ts) h

  same-false : (f : Target → Bool) (ts : List Target) → list_all (λ t. not (f t)) ts ≡ true → all_same f ts ≡ true
  same-false f ts h = or-second (list_all f ts) (list_all (λ t. not (f t)) ts) h

  scalars-same : (d : ℕ) (ts : List Target) → list_all (is_scalar_at ds d) ts ≡ true → (f : Target → Bool) (g : ℕ → Bool) → ((x : ℕ) (at : Place) → f (T.Scalar x at) ≡ g (depth_at ds x)) → all_same f ts ≡ true
  scalars-same d ts h f g e = by (g d) refl
    where
      by : (b : Bool) → g d ≡ b → all_same f ts ≡ true
      by true k = same-true f ts (all-scalars ds d f true (λ x at j. e x at ∙ ap g j ∙ k) ts h)
      by false k = same-false f ts (all-scalars ds d f false (λ x at j. e x at ∙ ap g j ∙ k) ts h)

  -- all: the reductions of a loop; pushed: what they push
  module _ (all : List Reduced) (pushed : List ℕ) (agree : all_agree all ≡ true) (clear : AllClear all) (push : (y : ℕ) → IsIn y pushed → Pusher all pushed y) where
    abbrev Whole : Bool → List Target → Type 0
    Whole inner ts = all_same (is_late ds n pushed) ts && all_same (is_at_once ds n inner) ts ≡ true

    both-same : (inner : Bool) (ts : List Target) → all_same (is_late ds n pushed) ts ≡ true → all_same (is_at_once ds n inner) ts ≡ true → Whole inner ts
    both-same inner ts l o = and-true (all_same (is_late ds n pushed) ts) (all_same (is_at_once ds n inner) ts) l o

    scalars-whole : (inner : Bool) (d : ℕ) (ts : List Target) → list_all (is_scalar_at ds d) ts ≡ true → Whole inner ts
    scalars-whole inner d ts h = both-same inner ts (scalars-same d ts h (is_late ds n pushed) (λ e. nat_eq e 0) (λ x at. refl)) (once inner)
      where
        once : (inner : Bool) → all_same (is_at_once ds n inner) ts ≡ true
        once true = scalars-same d ts h (is_at_once ds n true) (λ e. nat_lt 1 e) (λ x at. refl)
        once false = scalars-same d ts h (is_at_once ds n false) (λ e. not (nat_eq e 0)) (λ x at. refl)

    -- k: its number; among: one that is not done at once is one of all; off: one that is pushes nothing
    combined-whole : (inner : Bool) (k : ℕ) (o : Reduce) (ts : List Target) → Uniform ds ts → (are_at_once ds n inner ts ≡ false → IsIn (reduced_by ds n k o ts) all) → (inner ≡ false → are_at_once ds n inner ts ≡ true → disjoint (variables_of ts) pushed ≡ true) → Whole inner ts
    combined-whole inner k o ts (None e) among off = subst (Whole inner) (sym e) refl
    combined-whole inner k o ts (Scalars d h) among off = scalars-whole inner d ts h
    combined-whole inner k o ts (Through x h) among off = by (nat_eq x n) refl
      where
        own : nat_eq x n ≡ true → list_all (is_through n) ts ≡ true
        own e = subst (λ z. list_all (is_through z) ts ≡ true) (eqb-true x n e) h

        in-turn : (inner : Bool) → (are_at_once ds n inner ts ≡ false → IsIn (reduced_by ds n k o ts) all) → are_at_once ds n inner ts ≡ false → list_all (is_through n) ts ≡ true → all_same (is_late ds n pushed) ts ≡ true
        in-turn inner among late h =
            ⊎_elim (λ (d : disjoint (variables_of ts) pushed ≡ true). same-false (is_late ds n pushed) ts (none-late pushed ts d h))
            (λ (d : disjoint (variables_of ts) pushed ≡ false).
            let c = common (variables_of ts) pushed d in
            let p = push c.number c.second in
            let e = linked all pushed agree clear push (reduced_by ds n k o ts) p.by (among late) p.among c.number c.first p.gives p.own in
            same-true (is_late ds n pushed) ts (all-late pushed ts (λ y i. p.all y (subst (IsIn y) e.0 i)) h))
            (cases_Bool (disjoint (variables_of ts) pushed))

        mine : (inner : Bool) → (are_at_once ds n inner ts ≡ false → IsIn (reduced_by ds n k o ts) all) → (inner ≡ false → are_at_once ds n inner ts ≡ true → disjoint (variables_of ts) pushed ≡ true) → nat_eq x n ≡ true → Whole inner ts
        mine true among off e =
            ⊎_elim (λ (late : are_at_once ds n true ts ≡ true). by ts late h) (λ (late : are_at_once ds n true ts ≡ false). both-same true ts (in-turn true among late (own e)) (same-false (is_at_once ds n true) ts (all-through x (is_at_once ds n true) false (λ p at. refl) ts h)))
            (cases_Bool (are_at_once ds n true ts))
          where
            by : (ts : List Target) → are_at_once ds n true ts ≡ true → list_all (is_through x) ts ≡ true → Whole true ts
            by [] a h = refl
            by (T.Scalar y at ∷ ts) a h = absurd (both_ways false refl h)
            by (T.Property y p at ∷ ts) a h = absurd (both_ways false refl a)
        mine false among off e =
            let once : list_all (is_at_once ds n false) ts ≡ true = all-through x (is_at_once ds n false) true (λ p at. e) ts h in
            both-same false ts (same-false (is_late ds n pushed) ts (none-late pushed ts (off refl once) (own e))) (same-true (is_at_once ds n false) ts once)

        by : (b : Bool) → nat_eq x n ≡ b → Whole inner ts
        by true e = mine inner among off e
        by false e =
            both-same inner ts (same-true (is_late ds n pushed) ts (all-through x (is_late ds n pushed) true (λ p at. ap (λ b. not b || is_in pushed p) e) ts h))
            (same-false (is_at_once ds n inner) ts (all-through x (is_at_once ds n inner) false (once-through inner x e) ts h))

    pub whole : (inner : Bool) (s : Stmt) → targets_alike s ≡ true → reduces_evenly ds s ≡ true → ((r : Reduced) → IsIn r (reduced ds n inner s) → IsIn r all) →
        ((y : ℕ) → inner ≡ false → IsIn y (written ds n false s) → IsIn y pushed → ⊥) → reduces_whole ds n pushed inner s ≡ true
    whole inner (Then a b) h e u w =
        let p = both-true (targets_alike a) (targets_alike b) h in
        let q = both-true (reduces_evenly ds a) (reduces_evenly ds b) e in
        and-true (reduces_whole ds n pushed inner a) (reduces_whole ds n pushed inner b)
        (whole inner a p.0 q.0 (λ r i. u r (in-left r (reduced ds n inner a) (reduced ds n inner b) i)) (λ y f i. w y f (in-left y (written ds n false a) (written ds n false b) i)))
        (whole inner b p.1 q.1 (λ r i. u r (in-right r (reduced ds n inner a) (reduced ds n inner b) i)) (λ y f i. w y f (in-right y (written ds n false a) (written ds n false b) i)))
    whole inner (If k c a b) h e u w =
        let p = both-true (targets_alike a) (targets_alike b) h in
        let q = both-true (reduces_evenly ds a) (reduces_evenly ds b) e in
        and-true (reduces_whole ds n pushed inner a) (reduces_whole ds n pushed inner b)
        (whole inner a p.0 q.0 (λ r i. u r (in-left r (reduced ds n inner a) (reduced ds n inner b) i)) (λ y f i. w y f (in-left y (written ds n false a) (written ds n false b) i)))
        (whole inner b p.1 q.1 (λ r i. u r (in-right r (reduced ds n inner a) (reduced ds n inner b) i)) (λ y f i. w y f (in-right y (written ds n false a) (written ds n false b) i)))
    whole inner (Foreach k at hd test body) h e u w = whole true body h e u (λ y f. absurd (both_ways true f refl))
    whole inner (Combine k total o ts es) h e u w =
        let a = both-true (are_alike ts) (are_distinct (variables_of ts)) h in
        and-true (are_alike ts) (are_distinct (variables_of ts) && (all_same (is_late ds n pushed) ts && all_same (is_at_once ds n inner) ts)) a.0
        (and-true (are_distinct (variables_of ts)) (all_same (is_late ds n pushed) ts && all_same (is_at_once ds n inner) ts) a.1
        (combined-whole inner total.key.statement o ts (uniform ds ts a.0 e)
        (λ f. u (reduced_by ds n total.key.statement o ts) (subst (λ b. IsIn (reduced_by ds n total.key.statement o ts) (cond b [] (reduced_by ds n total.key.statement o ts ∷ []))) (sym f) (inl refl)))
        (λ f g. apart-disjoint (variables_of ts) pushed (λ y i j. w y f (subst (λ b. IsIn y (cond b (variables_of ts) [])) (sym (outer f g)) i) j))))
      where
        outer : inner ≡ false → are_at_once ds n inner ts ≡ true → are_at_once ds n false ts ≡ true
        outer f g = subst (λ b. are_at_once ds n b ts ≡ true) f g
    whole inner s h e u w = refl

  -- ---- what is given to others is shared, and what is the loop's own is kept

  given-shared : (rs : List Reduced) → AllClear rs → Under (pushed_in rs) (shared_in rs)
  given-shared [] c y i = absurd i
  given-shared (r ∷ rs) c y i = by (c r (inl refl)) (given-shared rs (λ s j. c s (inr j)))
    where
      by : Clear r → Under (pushed_in rs) (shared_in rs) → IsIn y (r.shared ++ shared_in rs)
      by (inl m) u = in-right y r.shared (shared_in rs) (u y (subst (λ b. IsIn y (cond b (pushed_in rs) (r.variables ++ pushed_in rs))) m.own i))
      by (inr g) u =
          ⊎_elim (λ j. in-left y r.shared (shared_in rs) (subst (IsIn y) (sym g.shared) j)) (λ j. in-right y r.shared (shared_in rs) (u y j))
          (in-either y r.variables (pushed_in rs) (subst (λ b. IsIn y (cond b (pushed_in rs) (r.variables ++ pushed_in rs))) g.own i))

  pub owned-kept : (rs : List Reduced) → AllClear rs → Under (owned_in rs) (kept_in rs)
  owned-kept [] c y i = absurd i
  owned-kept (r ∷ rs) c y i = by (c r (inl refl)) (owned-kept rs (λ s j. c s (inr j)))
    where
      by : Clear r → Under (owned_in rs) (kept_in rs) → IsIn y (r.kept ++ kept_in rs)
      by (inr g) u = in-right y r.kept (kept_in rs) (u y (subst (λ b. IsIn y (cond b (r.variables ++ owned_in rs) (owned_in rs))) g.own i))
      by (inl m) u =
          ⊎_elim (λ j. in-left y r.kept (kept_in rs) (subst (IsIn y) (sym m.kept) j)) (λ j. in-right y r.kept (kept_in rs) (u y j))
          (in-either y r.variables (owned_in rs) (subst (λ b. IsIn y (cond b (r.variables ++ owned_in rs) (owned_in rs))) m.own i))

  shared-member : (rs : List Reduced) (r : Reduced) → IsIn r rs → Under r.shared (shared_in rs)
  shared-member [] r i y j = absurd i
  shared-member (s ∷ rs) r i y j =
      ⊎_elim (λ (e : r ≡ s). in-left y s.shared (shared_in rs) (subst (λ z. IsIn y z.shared) e j)) (λ k. in-right y s.shared (shared_in rs) (shared-member rs r k y j)) i

  left-written : (s : Stmt) → Under (left ds n s) (written ds n false s)
  left-written (Then a b) = under-both (left ds n a) (left ds n b) (written ds n false a) (written ds n false b) (left-written a) (left-written b)
  left-written (If k c a b) = under-both (left ds n a) (left ds n b) (written ds n false a) (written ds n false b) (left-written a) (left-written b)
  left-written (Declare k x e) = λ y i. i
  left-written (Assign k t e) = λ y i. i
  left-written (Combine k total r ts es) = λ y i. i
  left-written s = λ y i. absurd i

  -- ---- the parts of the test of a loop

  module _ (test : Expr) (s : Stmt) (share : shares ds n test s ≡ true) (even : reduces_evenly ds s ≡ true) where
    abbrev P : List Read
    P = (sights_of ds n false s).properties

    abbrev S : List ℕ
    S = (sights_of ds n false s).scalars

    abbrev W : List ℕ
    W = written ds n false s

    abbrev R : List Reduced
    R = reduced ds n false s

    abbrev pushed : List ℕ
    pushed = pushed_properties n s

    abbrev seen : List ℕ
    seen = read_anywhere (reads_in test ++ P) ++ ((told_in test ++ S) ++ W)

    abbrev others : List ℕ
    others = read_elsewhere n (reads_in test ++ P)

    abbrev more : List ℕ
    more = W ++ (shared_in R ++ kept_in R)

    record Parts : Type 0 where
      shared : disjoint (shared_in R) seen ≡ true
      apart : disjoint (W ++ kept_in R) others ≡ true
      agree : all_agree R ≡ true
      inners : inners_share ds n s ≡ true
      alike : targets_alike s ≡ true

    parts : Parts
    parts =
        let a = both-true (disjoint (shared_in R) seen) (disjoint (W ++ kept_in R) others && (disjoint (deferred s) more && (all_agree R && (inners_share ds n s && targets_alike s)))) share in
        let b = both-true (disjoint (W ++ kept_in R) others) (disjoint (deferred s) more && (all_agree R && (inners_share ds n s && targets_alike s))) a.1 in
        let c = both-true (disjoint (deferred s) more) (all_agree R && (inners_share ds n s && targets_alike s)) b.1 in
        let d = both-true (all_agree R) (inners_share ds n s && targets_alike s) c.1 in
        let e = both-true (inners_share ds n s) (targets_alike s) d.1 in
        record { shared = a.0; apart = b.0; agree = d.0; inners = e.0; alike = e.1 }

    pub inners-of : inners_share ds n s ≡ true
    inners-of = parts.inners

    pub alike-of : targets_alike s ≡ true
    alike-of = parts.alike

    clear : AllClear R
    clear = all-clear ds n false s parts.alike even

    push : (y : ℕ) → IsIn y pushed → Pusher R pushed y
    push = pushers false s parts.alike even

    pushed-shared : Under pushed (shared_in R)
    pushed-shared y i =
        let p = push y i in shared-member R p.by p.among y (subst (IsIn y) (sym (shared-all p.by (clear p.by p.among) p.own)) p.gives)

    -- reductions to one variable do the same where one of their variables is pushed
    pub agrees-pushed : all_agree_with pushed R ≡ true
    agrees-pushed = agree-with R pushed parts.agree clear push R (λ r i. i) parts.agree

    -- the targets of each reduction end together
    pub ends-whole : reduces_whole ds n pushed false s ≡ true
    ends-whole =
        whole R pushed parts.agree clear push false s parts.alike even (λ r i. i)
        (λ y f i j. disjoint-apart (shared_in R) seen y parts.shared (pushed-shared y j) (in-right y (read_anywhere (reads_in test ++ P)) ((told_in test ++ S) ++ W) (in-right y (told_in test ++ S) W i)))

    -- what is pushed is neither read nor written otherwise
    pub pushed-apart : disjoint (pushed_in R ++ pushed) (read_anywhere P ++ (S ++ left ds n s)) ≡ true
    pushed-apart =
        fewer-apart (pushed_in R ++ pushed) (read_anywhere P ++ (S ++ left ds n s)) (shared_in R) seen
        (λ y i. ⊎_elim (λ j. given-shared R clear y j) (λ j. pushed-shared y j) (in-either y (pushed_in R) pushed i))
        (under-both (read_anywhere P) (S ++ left ds n s) (read_anywhere (reads_in test ++ P)) ((told_in test ++ S) ++ W) (listed-second read_anywhere anywhere-split (reads_in test) P)
        (under-both S (left ds n s) (told_in test ++ S) W (λ y i. in-right y (told_in test) S i) (left-written s)))
        parts.shared

    -- what is changed is read at no other node
    pub changed-apart : disjoint (changed ds n s) (read_elsewhere n P) ≡ true
    changed-apart =
        fewer-apart (changed ds n s) (read_elsewhere n P) (W ++ kept_in R) others (under-both (left ds n s) (owned_in R) W (kept_in R) (left-written s) (owned-kept R clear))
        (listed-second (read_elsewhere n) (elsewhere-split n) (reads_in test) P) parts.apart

    pub separable : is_nil (deferred s) ≡ true → nat_lt (depth_at ds n) 2 ≡ true → is_separable ds n s ≡ true
    separable nothing deep =
        let spare = disjoint (pushed_in R ++ pushed) (read_anywhere P ++ (S ++ left ds n s)) in
        let apart = disjoint (changed ds n s) (read_elsewhere n P) in
        and-true (is_nil (deferred s)) (nat_lt (depth_at ds n) 2 && (all_agree_with pushed R && (reduces_whole ds n pushed false s && (spare && apart)))) nothing
        (and-true (nat_lt (depth_at ds n) 2) (all_agree_with pushed R && (reduces_whole ds n pushed false s && (spare && apart))) deep
        (and-true (all_agree_with pushed R) (reduces_whole ds n pushed false s && (spare && apart)) agrees-pushed
        (and-true (reduces_whole ds n pushed false s) (spare && apart) ends-whole (and-true spare apart pushed-apart changed-apart))))
