-- Each loop of a parted program may be written as its slices, where each goes one way and the inner loop reads nothing that it gives.
use Rattle.std.proofs.Common.{◌≡◌, ◌⊎◌, arith, ℕ, Bool, true, false, cond, List, [], ◌∷◌, ◌++◌, length, refl, sym, ap, subst, ◌∙◌, Some, ⊎_elim, inl, inr, ◌≢◌}
use Rattle.std.specs.Prelude.{◌&&◌, ◌||◌, not, nat_eq, nat_lt, ◌+◌, nat_le}
use Rattle.std.specs.List.{list_all}
use Rattle.std.proofs.lemmas.Bool.{both_ways}
use Rattle.std.proofs.lemmas.List.{append_assoc}
use Rattle.gm_base.specs.declared.places.Place.{Place}
use Rattle.gm_value.specs.Bag.{IsIn}
use Rattle.gm_ast.specs.Keys.{Fault}
use Rattle.gm_ast.specs.Loops.{is_nodes}
use Rattle.gm_ast.specs.Ways.{is_in}
use Rattle.gm_ast.specs.declared.tree.Declaration.{Declaration}
use Rattle.gm_ast.specs.declared.tree.Head.{Head}
use Rattle.gm_ast.specs.declared.tree.Key.{Key}
use Rattle.gm_ast.specs.declared.tree.Target.{Target}
use Rattle.gm_ast.specs.declared.tree.Target.TheVariants as T
use Rattle.gm_ast.specs.Program.{Expr, Const, Var, Property, EdgeProperty, Degree, NodeCount, EdgeCount, Live, Unary, Binary, Both, Either, Choose, Folded, Stmt, Skip, Then, Declare, DeclareEdge, Assign, Defer, Combine, Group, Foreach, For, If, While, Do, InBfs, InBfsBoth, Return, sequence, Program}
use Rattle.gm_semantics.specs.Faults.{joined}
use Rattle.gm_semantics.specs.Frames.{NamesBelow}
use Rattle.gm_forms.specs.Cut.{is_mask, touched, spares_locals, is_no_local, knows_no_locals, mask_stays, has_plain_locals, is_edge_loop, is_cut, adds_last}
use Rattle.gm_forms.specs.Fission.{pushed_properties}
use Rattle.gm_forms.specs.Forms.{is_flat, is_inner_head, is_inner_body, is_outer_body, is_flat_loop, has_a_way, is_phase, no_loop, is_told}
use Rattle.gm_forms.specs.Order.{cannot_fail, in_order, fault_of, hoisted_in, faults_in, faults_of, lie_before, are_numbered, body_in_order, loops_in_order, folds_in_order}
use Rattle.gm_forms.specs.Sharing.{Read, Reduced, reads_in, told_in, sights_of, read_at, read_anywhere, read_elsewhere, written, reduced, shared_in, kept_in, disjoint, does_same, agrees, all_agree, is_one, all_one, lasting, lasts_one_way, all_last_one_way, targets_alike, inner_shares, inners_share, shares, loops_share, are_at_once, variables_of}
use Rattle.gm_forms.specs.Uses.{suits, uses_in, uses_of_head, uses_of}
use Rattle.gm_forms.proofs.Named.{both-true, all-append, names-below}
use Rattle.gm_forms.proofs.Weaker.{and-true}
use Rattle.gm_forms.proofs.ReadingFrames.{nat_eq-apart}
use Rattle.gm_loop_laws.proofs.Kept.{touched-below}
use Rattle.gm_forms.proofs.Doings.{in-left, in-right, in-either}
use Rattle.gm_loop_laws.specs.Alone.{stands_alone}
use Rattle.gm_loop_laws.specs.Inner.{given_by, stands_before, all_stand_before}
use Rattle.gm_loop_laws.specs.Masks.{is_certain, spares, is_stable}
use Rattle.gm_loop_laws.specs.Pieces.{is_lone}
use Rattle.gm_loop_laws.specs.Resumed.{serves, needs, kept, resumed, may_resume, may_trim}
use Rattle.gm_loop_laws.specs.Saved.{never_writes, is_other}
use Rattle.gm_loop_laws.proofs.Chosen.{disjoint-apart, apart-disjoint}
use Rattle.gm_cut.specs.Lean.{lean_slice, lean_slices, lean_stands, may_go_on, may_lean, reads_no_given, lean_groups_of, can_lean, can_be_lean, gives_apart, slices_go, has_givens_apart, has_slices_that_go}
use Rattle.gm_cut.specs.Parts.{stands_at_edges, goes_any_way, is_parted, IsPartedBy, each_passes}
use Rattle.gm_cut.specs.Slices.{statements_of, goes_one_way, is_sound}
use Rattle.gm_cut.proofs.Apart.{mask-certain, all-in, not-in, written-touched}
use Rattle.gm_cut.proofs.Grouped.{lie-first, lie-second}
use Rattle.gm_cut.proofs.Lean.{lean-whole}
use Rattle.gm_cut.proofs.LeanParts as Parts
use Rattle.gm_cut.proofs.LeanParts.{some-itself, some-both, some-then, some-in, some-first, some-second, all-some, all-apart, lies-some, numbered-some, listed-append, listed-opened, listed-kept, listed-resumed}
use Rattle.gm_cut.proofs.PartLaws.{edge-of}
use Rattle.gm_cut.proofs.Shared.{Under, under-both, fewer-apart, fewer-share, shares-alike}
use Rattle.gm_cut.proofs.SlicesKept as Kept

-- ---- lists

all-members : {A : Type 0} (p : A → Bool) (xs ys : List A) → Parts.Some xs ys → list_all p ys ≡ true → list_all p xs ≡ true
all-members p [] ys s h = refl
all-members p (x ∷ xs) [] s h = absurd s
all-members p (x ∷ xs) (y ∷ ys) s h =
    let r = both-true (p y) (list_all p ys) h in
    ⊎_elim (λ (q : (x ≡ y) × Parts.Some xs ys). and-true (p x) (list_all p xs) (ap p q.0 ∙ r.0) (all-members p xs ys q.1 r.1)) (λ (q : Parts.Some (x ∷ xs) ys). all-members p (x ∷ xs) ys q r.1) s

under : (xs ys : List ℕ) → Parts.Some xs ys → Under xs ys
under xs ys s = some-in xs ys s

-- some of a list, listed part by part
module _ {A : Type 0} (f : List A → List ℕ) (one : A → List ℕ) (f-more : (a : A) (as' : List A) → f (a ∷ as') ≡ one a ++ f as') (f-none : f [] ≡ []) where
  listed-under : (xs ys : List A) → Parts.Some xs ys → Under (f xs) (f ys)
  listed-under [] ys s v i = absurd (subst (IsIn v) f-none i)
  listed-under (x ∷ xs) [] s v i = absurd s
  listed-under (x ∷ xs) (y ∷ ys) s v i =
      subst (IsIn v) (sym (f-more y ys))
      (⊎_elim
      (λ (q : (x ≡ y) × Parts.Some xs ys). ⊎_elim (λ l. in-left v (one y) (f ys) (subst (λ z. IsIn v (one z)) q.0 l)) (λ r. in-right v (one y) (f ys) (listed-under xs ys q.1 v r)) (in-either v (one x) (f xs) (subst (IsIn v) (f-more x xs) i)))
      (λ (q : Parts.Some (x ∷ xs) ys). in-right v (one y) (f ys) (listed-under (x ∷ xs) ys q v i)) s)

elsewhere-more : (n : ℕ) (r : Read) (rs : List Read) → read_elsewhere n (r ∷ rs) ≡ cond (nat_eq r.owner n) [] (r.property ∷ []) ++ read_elsewhere n rs
elsewhere-more n r rs = by (nat_eq r.owner n)
  where
    by : (b : Bool) → cond b (read_elsewhere n rs) (r.property ∷ read_elsewhere n rs) ≡ cond b [] (r.property ∷ []) ++ read_elsewhere n rs
    by true = refl
    by false = refl

at-more : (n : ℕ) (r : Read) (rs : List Read) → read_at n (r ∷ rs) ≡ cond (nat_eq r.owner n) (r.property ∷ []) [] ++ read_at n rs
at-more n r rs = by (nat_eq r.owner n)
  where
    by : (b : Bool) → cond b (r.property ∷ read_at n rs) (read_at n rs) ≡ cond b (r.property ∷ []) [] ++ read_at n rs
    by true = refl
    by false = refl

anywhere-under : (xs ys : List Read) → Parts.Some xs ys → Under (read_anywhere xs) (read_anywhere ys)
anywhere-under = listed-under read_anywhere (λ r. r.property ∷ []) (λ r rs. refl) refl

elsewhere-under : (n : ℕ) (xs ys : List Read) → Parts.Some xs ys → Under (read_elsewhere n xs) (read_elsewhere n ys)
elsewhere-under n = listed-under (read_elsewhere n) (λ r. cond (nat_eq r.owner n) [] (r.property ∷ [])) (elsewhere-more n) refl

at-under : (n : ℕ) (xs ys : List Read) → Parts.Some xs ys → Under (read_at n xs) (read_at n ys)
at-under n = listed-under (read_at n) (λ r. cond (nat_eq r.owner n) (r.property ∷ []) []) (at-more n) refl

shared-under : (xs ys : List Reduced) → Parts.Some xs ys → Under (shared_in xs) (shared_in ys)
shared-under = listed-under shared_in (λ r. r.shared) (λ r rs. refl) refl

kept-under : (xs ys : List Reduced) → Parts.Some xs ys → Under (kept_in xs) (kept_in ys)
kept-under = listed-under kept_in (λ r. r.kept) (λ r rs. refl) refl

-- an expression reads none of some variables
abbrev Off : List ℕ → List ℕ → Type 0
Off gone vs = (v : ℕ) → IsIn v vs → IsIn v gone → ⊥

off-left : (gone us vs : List ℕ) → Off gone (us ++ vs) → Off gone us
off-left gone us vs h v i = h v (in-left v us vs i)

off-right : (gone us vs : List ℕ) → Off gone (us ++ vs) → Off gone vs
off-right gone us vs h v i = h v (in-right v us vs i)

off-first : (gone : List ℕ) (us vs : List Read) → Off gone (read_anywhere (us ++ vs)) → Off gone (read_anywhere us)
off-first gone us vs h v i = h v (anywhere-under us (us ++ vs) (some-first us vs) v i)

off-second : (gone : List ℕ) (us vs : List Read) → Off gone (read_anywhere (us ++ vs)) → Off gone (read_anywhere vs)
off-second gone us vs h v i = h v (anywhere-under vs (us ++ vs) (some-second us vs) v i)

spares-from : (its : List ℕ) (edge : Bool) (gone : List ℕ) (e : Expr) → is_flat its edge e ≡ true → Off gone (told_in e) → Off gone (read_anywhere (reads_in e)) → spares gone e ≡ true
spares-from its edge gone (Const v) g a b = refl
spares-from its edge gone (Var x at) g a b = not-in gone x (a x (inl refl))
spares-from its edge gone (Property x p at) g a b = and-true (not (is_in gone x)) (not (is_in gone p)) (not-in gone x (a x (inl refl))) (not-in gone p (b p (inl refl)))
spares-from its edge gone (EdgeProperty x p at) g a b = refl
spares-from its edge gone (Degree d x at) g a b = not-in gone x (a x (inl refl))
spares-from its edge gone NodeCount g a b = refl
spares-from its edge gone EdgeCount g a b = refl
spares-from its edge gone (Live x at) g a b = not-in gone x (a x (inl refl))
spares-from its edge gone (Unary op at e) g a b = spares-from its edge gone e g a b
spares-from its edge gone (Binary op at e f) g a b =
    let r = both-true (is_flat its edge e) (is_flat its edge f) g in
    and-true (spares gone e) (spares gone f) (spares-from its edge gone e r.0 (off-left gone (told_in e) (told_in f) a) (off-first gone (reads_in e) (reads_in f) b)) (spares-from its edge gone f r.1 (off-right gone (told_in e) (told_in f) a) (off-second gone (reads_in e) (reads_in f) b))
spares-from its edge gone (Both e f) g a b =
    let r = both-true (is_flat its edge e) (is_flat its edge f) g in
    and-true (spares gone e) (spares gone f) (spares-from its edge gone e r.0 (off-left gone (told_in e) (told_in f) a) (off-first gone (reads_in e) (reads_in f) b)) (spares-from its edge gone f r.1 (off-right gone (told_in e) (told_in f) a) (off-second gone (reads_in e) (reads_in f) b))
spares-from its edge gone (Either e f) g a b =
    let r = both-true (is_flat its edge e) (is_flat its edge f) g in
    and-true (spares gone e) (spares gone f) (spares-from its edge gone e r.0 (off-left gone (told_in e) (told_in f) a) (off-first gone (reads_in e) (reads_in f) b)) (spares-from its edge gone f r.1 (off-right gone (told_in e) (told_in f) a) (off-second gone (reads_in e) (reads_in f) b))
spares-from its edge gone (Choose c e f) g a b =
    let r = both-true (is_flat its edge c) (is_flat its edge e && is_flat its edge f) g in
    let q = both-true (is_flat its edge e) (is_flat its edge f) r.1 in
    let a' = off-right gone (told_in c) (told_in e ++ told_in f) a in
    let b' = off-second gone (reads_in c) (reads_in e ++ reads_in f) b in
    and-true (spares gone c) (spares gone e && spares gone f) (spares-from its edge gone c r.0 (off-left gone (told_in c) (told_in e ++ told_in f) a) (off-first gone (reads_in c) (reads_in e ++ reads_in f) b))
    (and-true (spares gone e) (spares gone f) (spares-from its edge gone e q.0 (off-left gone (told_in e) (told_in f) a') (off-first gone (reads_in e) (reads_in f) b')) (spares-from its edge gone f q.1 (off-right gone (told_in e) (told_in f) a') (off-second gone (reads_in e) (reads_in f) b')))
spares-from its edge gone (Folded f hd test e) g a b = absurd (both_ways false refl g)

-- what a body gives it touches
gives-touched : (ds : List Declaration) (n : ℕ) (s : Stmt) → Under (given_by ds n s) (touched s)
gives-touched ds n (Then a b) = under-both (given_by ds n a) (given_by ds n b) (touched a) (touched b) (gives-touched ds n a) (gives-touched ds n b)
gives-touched ds n (If k c a b) = under-both (given_by ds n a) (given_by ds n b) (touched a) (touched b) (gives-touched ds n a) (gives-touched ds n b)
gives-touched ds n (Combine k total r ts es) = by (are_at_once ds n true ts)
  where
    by : (b : Bool) → Under (cond b [] (variables_of ts)) (variables_of ts)
    by true x i = absurd i
    by false x i = i
gives-touched ds n (Foreach k at hd test body) = gives-touched ds n body
gives-touched ds n s = λ x i. absurd i

leaf-told : (d : Bool) (rs xs : List ℕ) (v : ℕ) → IsIn v (cond d (rs ++ xs) xs) → IsIn v rs ⊎ IsIn v xs
leaf-told true rs xs v i = in-either v rs xs i
leaf-told false rs xs v i = inr i

-- what is needed is named behind, or read by what is evaluated
needs-told : (ds : List Declaration) (its : List ℕ) (n : ℕ) (new : Bool) (s : Stmt) (xs : List ℕ) (v : ℕ) → is_inner_body ds its true s ≡ true → IsIn v (needs ds its n new s xs) → IsIn v (sights_of ds n true s).scalars ⊎ IsIn v xs
needs-told ds its n new Skip xs v g i = inr i
needs-told ds its n new (Then a b) xs v g i =
    let r = both-true (is_inner_body ds its true a) (is_inner_body ds its true b) g in
    let A = (sights_of ds n true a).scalars in
    let B = (sights_of ds n true b).scalars in
    ⊎_elim (λ l. inl (in-left v A B l)) (λ l. ⊎_elim (λ q. inl (in-right v A B q)) (λ q. inr q) (needs-told ds its n new b xs v r.1 l)) (needs-told ds its n new a (needs ds its n new b xs) v r.0 i)
needs-told ds its n new (Declare k x o) xs v g i = leaf-told (serves ds its n new xs (Declare k x o)) (sights_of ds n true (Declare k x o)).scalars xs v i
needs-told ds its n new (DeclareEdge x w at) xs v g i = inr i
needs-told ds its n new (Assign k u o) xs v g i = leaf-told (serves ds its n new xs (Assign k u o)) (sights_of ds n true (Assign k u o)).scalars xs v i
needs-told ds its n new (Defer k u o) xs v g i = absurd (both_ways false refl g)
needs-told ds its n new (Combine k total r ts es) xs v g i = leaf-told (serves ds its n new xs (Combine k total r ts es)) (sights_of ds n true (Combine k total r ts es)).scalars xs v i
needs-told ds its n new (Group k at x p o) xs v g i = absurd (both_ways false refl g)
needs-told ds its n new (Foreach k at hd test body) xs v g i = absurd (both_ways false refl g)
needs-told ds its n new (For k at hd test body) xs v g i = absurd (both_ways false refl g)
needs-told ds its n new (If k c a b) xs v g i =
    let o = both-true (is_flat its true c) (is_inner_body ds its true a && is_inner_body ds its true b) g in
    let r = both-true (is_inner_body ds its true a) (is_inner_body ds its true b) o.1 in
    by (serves ds its n new xs (If k c a b)) i (λ l. needs-told ds its n new a xs v r.0 l) (λ l. needs-told ds its n new b xs v r.1 l)
  where
    A : List ℕ
    A = (sights_of ds n true a).scalars

    B : List ℕ
    B = (sights_of ds n true b).scalars

    by : (d : Bool) → IsIn v (cond d (told_in c ++ (needs ds its n new a xs ++ needs ds its n new b xs)) xs) → (IsIn v (needs ds its n new a xs) → IsIn v A ⊎ IsIn v xs) → (IsIn v (needs ds its n new b xs) → IsIn v B ⊎ IsIn v xs) → IsIn v (told_in c ++ (A ++ B)) ⊎ IsIn v xs
    by false i p q = inr i
    by true i p q =
        ⊎_elim (λ l. inl (in-left v (told_in c) (A ++ B) l))
        (λ l. ⊎_elim (λ m. ⊎_elim (λ z. inl (in-right v (told_in c) (A ++ B) (in-left v A B z))) (λ z. inr z) (p m)) (λ m. ⊎_elim (λ z. inl (in-right v (told_in c) (A ++ B) (in-right v A B z))) (λ z. inr z) (q m)) (in-either v (needs ds its n new a xs) (needs ds its n new b xs) l))
        (in-either v (told_in c) (needs ds its n new a xs ++ needs ds its n new b xs) i)
needs-told ds its n new (While k at c body) xs v g i = absurd (both_ways false refl g)
needs-told ds its n new (Do k at body c) xs v g i = absurd (both_ways false refl g)
needs-told ds its n new (InBfs k at hd c body) xs v g i = absurd (both_ways false refl g)
needs-told ds its n new (InBfsBoth k at hd c body bk d back) xs v g i = absurd (both_ways false refl g)
needs-told ds its n new (Return k at o) xs v g i = absurd (both_ways false refl g)

-- ---- the order of faults

module _ (ds : List Declaration) (ends : List ℕ) where
  abbrev F : Stmt → List Fault
  F s = faults_of ends s

  abbrev O : Stmt → Bool
  O s = body_in_order ends s

  F-append : (xs ys : List Stmt) → F (sequence (xs ++ ys)) ≡ F (sequence xs) ++ F (sequence ys)
  F-append = listed-append F (λ k c. faults_in c k) refl (λ a b. refl) (λ k c a b. refl)

  F-opened : (s : Stmt) → F (sequence (statements_of s)) ≡ F s
  F-opened = listed-opened F (λ k c. faults_in c k) refl (λ a b. refl) (λ k c a b. refl)

  F-kept : (its : List ℕ) (n : ℕ) (new : Bool) (s : Stmt) (xs : List ℕ) → Parts.Some (F (kept ds its n new s xs)) (F s)
  F-kept = listed-kept F (λ k c. faults_in c k) refl (λ a b. refl) (λ k c a b. refl) ds

  order-then : (a b : Stmt) → O a ≡ true → O b ≡ true → lie_before (F a) (F b) ≡ true → O (Then a b) ≡ true
  order-then a b p q l = and-true (O a) (O b && lie_before (F a) (F b)) p (and-true (O b) (lie_before (F a) (F b)) q l)

  order-each : (a b : Stmt) → O (Then a b) ≡ true → (O a ≡ true) × (O b ≡ true) × (lie_before (F a) (F b) ≡ true)
  order-each a b h = let r = both-true (O a) (O b && lie_before (F a) (F b)) h in let q = both-true (O b) (lie_before (F a) (F b)) r.1 in (r.0, q.0, q.1)

  order-append : (xs ys : List Stmt) → O (sequence xs) ≡ true → O (sequence ys) ≡ true → lie_before (F (sequence xs)) (F (sequence ys)) ≡ true → O (sequence (xs ++ ys)) ≡ true
  order-append [] ys p q l = q
  order-append (x ∷ xs) ys p q l =
      let r = order-each x (sequence xs) p in
      let m = both-true (lie_before (F x) (F (sequence ys))) (lie_before (F (sequence xs)) (F (sequence ys))) (sym (lie-first (F x) (F (sequence xs)) (F (sequence ys))) ∙ l) in
      order-then x (sequence (xs ++ ys)) r.0 (order-append xs ys r.1 q m.1)
      (ap (lie_before (F x)) (F-append xs ys) ∙ lie-second (F x) (F (sequence xs)) (F (sequence ys)) ∙ and-true (lie_before (F x) (F (sequence xs))) (lie_before (F x) (F (sequence ys))) r.2 m.0)

  order-parts : (xs ys : List Stmt) → O (sequence (xs ++ ys)) ≡ true → (O (sequence xs) ≡ true) × (O (sequence ys) ≡ true) × (lie_before (F (sequence xs)) (F (sequence ys)) ≡ true)
  order-parts [] ys h = (refl, h, none (F (sequence ys)))
    where
      none : (fs : List Fault) → lie_before [] fs ≡ true
      none [] = refl
      none (f ∷ fs) = none fs
  order-parts (x ∷ xs) ys h =
      let r = order-each x (sequence (xs ++ ys)) h in
      let q = order-parts xs ys r.1 in
      let m = both-true (lie_before (F x) (F (sequence xs))) (lie_before (F x) (F (sequence ys))) (sym (lie-second (F x) (F (sequence xs)) (F (sequence ys))) ∙ sym (ap (lie_before (F x)) (F-append xs ys)) ∙ r.2) in
      (order-then x (sequence xs) r.0 q.0 m.0, q.1, lie-first (F x) (F (sequence xs)) (F (sequence ys)) ∙ and-true (lie_before (F x) (F (sequence ys))) (lie_before (F (sequence xs)) (F (sequence ys))) m.1 q.2)

  abbrev Branches : Key → Expr → List Fault → List Fault → Bool
  Branches k c fs gs = lie_before (faults_in c k) (fs ++ gs) && lie_before fs gs

  order-if : (k : Key) (c : Expr) (a b a' b' : Stmt) → Parts.Some (F a') (F a) → Parts.Some (F b') (F b) → (O a ≡ true → O a' ≡ true) → (O b ≡ true → O b' ≡ true) → O (If k c a b) ≡ true → O (If k c a' b') ≡ true
  order-if k c a b a' b' u v p q h =
      let r1 = both-true (in_order c k) (O a && (O b && Branches k c (F a) (F b))) h in
      let r2 = both-true (O a) (O b && Branches k c (F a) (F b)) r1.1 in
      let r3 = both-true (O b) (Branches k c (F a) (F b)) r2.1 in
      let r4 = both-true (lie_before (faults_in c k) (F a ++ F b)) (lie_before (F a) (F b)) r3.1 in
      and-true (in_order c k) (O a' && (O b' && Branches k c (F a') (F b'))) r1.0
      (and-true (O a') (O b' && Branches k c (F a') (F b')) (p r2.0)
      (and-true (O b') (Branches k c (F a') (F b')) (q r3.0)
      (and-true (lie_before (faults_in c k) (F a' ++ F b')) (lie_before (F a') (F b')) (lies-some (faults_in c k) (F a' ++ F b') (faults_in c k) (F a ++ F b) (some-itself (faults_in c k)) (some-both (F a') (F b') (F a) (F b) u v) r4.0)
      (lies-some (F a') (F b') (F a) (F b) u v r4.1))))

  single : (s : Stmt) → O s ≡ true → O (Then s Skip) ≡ true
  single s h = order-then s Skip h refl refl

  order-opened : (s : Stmt) → O s ≡ true → O (sequence (statements_of s)) ≡ true
  order-opened Skip h = refl
  order-opened (Then a b) h =
      let r = order-each a b h in
      order-append (statements_of a) (statements_of b) (order-opened a r.0) (order-opened b r.1) (ap (λ l. lie_before l (F (sequence (statements_of b)))) (F-opened a) ∙ ap (lie_before (F a)) (F-opened b) ∙ r.2)
  order-opened (If k c a b) h =
      let a' = sequence (statements_of a) in
      let b' = sequence (statements_of b) in
      single (If k c a' b') (order-if k c a b a' b' (subst (λ l. Parts.Some l (F a)) (sym (F-opened a)) (some-itself (F a))) (subst (λ l. Parts.Some l (F b)) (sym (F-opened b)) (some-itself (F b))) (order-opened a) (order-opened b) h)
  order-opened s h = single s h

  either : (d : Bool) (s : Stmt) → O s ≡ true → O (cond d s Skip) ≡ true
  either true s h = h
  either false s h = refl

  order-kept : (its : List ℕ) (n : ℕ) (new : Bool) (s : Stmt) (xs : List ℕ) → O s ≡ true → O (kept ds its n new s xs) ≡ true
  order-kept its n new Skip xs h = h
  order-kept its n new (Then a b) xs h =
      let ys = needs ds its n new b xs in
      let r = order-each a b h in
      order-then (kept ds its n new a ys) (kept ds its n new b xs) (order-kept its n new a ys r.0) (order-kept its n new b xs r.1)
      (lies-some (F (kept ds its n new a ys)) (F (kept ds its n new b xs)) (F a) (F b) (F-kept its n new a ys) (F-kept its n new b xs) r.2)
  order-kept its n new (DeclareEdge x y at) xs h = h
  order-kept its n new (If k c a b) xs h =
      let ka = kept ds its n new a xs in
      let kb = kept ds its n new b xs in
      either (serves ds its n new xs (If k c a b)) (If k c ka kb) (order-if k c a b ka kb (F-kept its n new a xs) (F-kept its n new b xs) (order-kept its n new a xs) (order-kept its n new b xs) h)
  order-kept its n new s xs h = either (serves ds its n new xs s) s h

-- ---- one loop

-- k, at, h, mask: those of the loop; j, here, inner, test, body: those of its inner loop
module _ (ds : List Declaration) (k : Key) (at : Place) (h : Head) (mask : Expr) (j : Key) (here : Place) (inner : Head) (test : Expr) (body : Stmt) where
  abbrev n : ℕ
  n = h.iterator

  abbrev t : ℕ
  t = inner.iterator

  abbrev its : List ℕ
  its = h.iterator ∷ inner.iterator ∷ []

  abbrev ends : List ℕ
  ends = inner.iterator ∷ h.iterator ∷ []

  abbrev the : Stmt → Stmt
  the s = Foreach j here inner test s

  abbrev pushed : List ℕ
  pushed = pushed_properties h.iterator body

  abbrev P : Stmt → List Read
  P s = (sights_of ds h.iterator true s).properties

  abbrev S : Stmt → List ℕ
  S s = (sights_of ds h.iterator true s).scalars

  abbrev R : Stmt → List Reduced
  R s = reduced ds h.iterator true s

  -- a body that does no more than the inner loop's
  record Part (s : Stmt) : Type 0 where
    form : is_inner_body ds its true s ≡ true
    alike : targets_alike s ≡ true
    local : spares_locals ds s ≡ true
    never : never_writes h.iterator s ≡ true
    order : body_in_order ends s ≡ true
    reduces : Parts.Some (R s) (R body)
    writes : Parts.Some (written ds h.iterator true s) (written ds h.iterator true body)
    touches : Parts.Some (touched s) (touched body)
    tells : Parts.Some (S s) (S body)
    reads : Parts.Some (P s) (P body)
    fails : Parts.Some (faults_of ends s) (faults_of ends body)
    pushes : Parts.Some (pushed_properties h.iterator s) (pushed_properties h.iterator body)
    gives : Parts.Some (given_by ds h.iterator s) (given_by ds h.iterator body)

  -- what lists parts of statements lists less, and what tests each statement holds
  abbrev Lists : Stmt → Stmt → Type 1
  Lists s' s = (A : Type 0) (f : Stmt → List A) (g : Key → Expr → List A) → f Skip ≡ [] → ((a b : Stmt) → f (Then a b) ≡ f a ++ f b) → ((k : Key) (c : Expr) (a b : Stmt) → f (If k c a b) ≡ g k c ++ (f a ++ f b)) → Parts.Some (f s') (f s)

  abbrev Tests : Stmt → Stmt → Type 0
  Tests s' s = (f : Stmt → Bool) (asks : Expr → Bool) → f Skip ≡ true → ((a b : Stmt) → f (Then a b) ≡ f a && f b) → ((k : Key) (c : Expr) (a b : Stmt) → f (If k c a b) ≡ asks c && (f a && f b)) →
      ((k : Key) (at : Place) (h : Head) (test : Expr) (a b : Stmt) → (f a ≡ true → f b ≡ true) → f (Foreach k at h test a) ≡ true → f (Foreach k at h test b) ≡ true) → f s ≡ true → f s' ≡ true

  never-each : (k : Key) (at : Place) (h' : Head) (test : Expr) (a b : Stmt) → (never_writes h.iterator a ≡ true → never_writes h.iterator b ≡ true) → never_writes h.iterator (Foreach k at h' test a) ≡ true → never_writes h.iterator (Foreach k at h' test b) ≡ true
  never-each k at h' test a b f e =
      let off = not (nat_eq h'.iterator h.iterator) in
      let r = both-true off (never_writes h.iterator a) e in and-true off (never_writes h.iterator b) r.0 (f r.1)

  less : (s' s : Stmt) → Lists s' s → Tests s' s → (body_in_order ends s ≡ true → body_in_order ends s' ≡ true) → Part s → Part s'
  less s' s lists tests order p = record {
    form = tests (is_inner_body ds its true) (is_flat its true) refl (λ a b. refl) (λ k c a b. refl) (λ k at h test a b f e. e) p.form;
    alike = tests targets_alike (λ c. true) refl (λ a b. refl) (λ k c a b. refl) (λ k at h test a b f e. f e) p.alike;
    local = tests (spares_locals ds) (λ c. true) refl (λ a b. refl) (λ k c a b. refl) (λ k at h test a b f e. e) p.local;
    never = tests (never_writes h.iterator) (λ c. true) refl (λ a b. refl) (λ k c a b. refl) never-each p.never;
    order = order p.order;
    reduces = some-then (R s') (R s) (R body) (lists Reduced R (λ k c. []) refl (λ a b. refl) (λ k c a b. refl)) p.reduces;
    writes = some-then (written ds h.iterator true s') (written ds h.iterator true s) (written ds h.iterator true body) (lists ℕ (written ds h.iterator true) (λ k c. []) refl (λ a b. refl) (λ k c a b. refl)) p.writes;
    touches = some-then (touched s') (touched s) (touched body) (lists ℕ touched (λ k c. []) refl (λ a b. refl) (λ k c a b. refl)) p.touches;
    tells = some-then (S s') (S s) (S body) (lists ℕ S (λ k c. told_in c) refl (λ a b. refl) (λ k c a b. refl)) p.tells;
    reads = some-then (P s') (P s) (P body) (lists Read P (λ k c. reads_in c) refl (λ a b. refl) (λ k c a b. refl)) p.reads;
    fails = some-then (faults_of ends s') (faults_of ends s) (faults_of ends body) (lists Fault (faults_of ends) (λ k c. faults_in c k) refl (λ a b. refl) (λ k c a b. refl)) p.fails;
    pushes = some-then (pushed_properties h.iterator s') (pushed_properties h.iterator s) (pushed_properties h.iterator body) (lists ℕ (pushed_properties h.iterator) (λ k c. []) refl (λ a b. refl) (λ k c a b. refl)) p.pushes;
    gives = some-then (given_by ds h.iterator s') (given_by ds h.iterator s) (given_by ds h.iterator body) (lists ℕ (given_by ds h.iterator) (λ k c. []) refl (λ a b. refl) (λ k c a b. refl)) p.gives;
  }

  opened : (s : Stmt) → Part s → Part (sequence (statements_of s))
  opened s =
      less (sequence (statements_of s)) s (λ A f g p q r. subst (λ l. Parts.Some l (f s)) (sym (listed-opened f g p q r s)) (some-itself (f s))) (λ f asks p q r e h. Kept.opened f asks p q r e s h) (order-opened ds ends s)

  first : (xs ys : List Stmt) → Part (sequence (xs ++ ys)) → Part (sequence xs)
  first xs ys =
      less (sequence xs) (sequence (xs ++ ys)) (λ A f g p q r. subst (Parts.Some (f (sequence xs))) (sym (listed-append f g p q r xs ys)) (some-first (f (sequence xs)) (f (sequence ys))))
      (λ f asks p q r e h. (Kept.parts f asks p q r e xs ys h).0) (λ o. (order-parts ds ends xs ys o).0)

  second : (xs ys : List Stmt) → Part (sequence (xs ++ ys)) → Part (sequence ys)
  second xs ys =
      less (sequence ys) (sequence (xs ++ ys)) (λ A f g p q r. subst (Parts.Some (f (sequence ys))) (sym (listed-append f g p q r xs ys)) (some-second (f (sequence xs)) (f (sequence ys))))
      (λ f asks p q r e h. (Kept.parts f asks p q r e xs ys h).1) (λ o. (order-parts ds ends xs ys o).1)

  two : (xs ys : List Stmt) → Part (sequence (xs ++ ys)) → Part (Then (sequence xs) (sequence ys))
  two xs ys =
      less (Then (sequence xs) (sequence ys)) (sequence (xs ++ ys))
      (λ A f g p q r. subst (λ l. Parts.Some l (f (sequence (xs ++ ys)))) (sym (q (sequence xs) (sequence ys))) (subst (Parts.Some (f (sequence xs) ++ f (sequence ys))) (sym (listed-append f g p q r xs ys)) (some-itself (f (sequence xs) ++ f (sequence ys)))))
      (λ f asks p q r e h. let o = Kept.parts f asks p q r e xs ys h in q (sequence xs) (sequence ys) ∙ and-true (f (sequence xs)) (f (sequence ys)) o.0 o.1)
      (λ o. let u = order-parts ds ends xs ys o in order-then ds ends (sequence xs) (sequence ys) u.0 u.1 u.2)

  trimmed : (new : Bool) (s : Stmt) (xs : List ℕ) → Part s → Part (kept ds its h.iterator new s xs)
  trimmed new s xs =
      less (kept ds its h.iterator new s xs) s (λ A f g p q r. listed-kept f g p q r ds its h.iterator new s xs) (λ f asks p q r e u. Kept.resumed-keeps f asks p q r e ds its h.iterator new s xs u) (order-kept ds ends its h.iterator new s xs)

  going-on : (xs ys : List Stmt) → Part (sequence (xs ++ ys)) → Part (resumed ds its h.iterator (sequence xs) (sequence ys))
  going-on xs ys p =
      let ka = kept ds its h.iterator false (sequence xs) (needs ds its h.iterator true (sequence ys) []) in
      let kb = kept ds its h.iterator true (sequence ys) [] in
      let a = trimmed false (sequence xs) (needs ds its h.iterator true (sequence ys) []) (first xs ys p) in
      let b = trimmed true (sequence ys) [] (second xs ys p) in
      less (resumed ds its h.iterator (sequence xs) (sequence ys)) (sequence (xs ++ ys)) (λ A f g p q r. listed-resumed f g p q r ds h.iterator inner.iterator xs ys)
      (λ f asks p q r e u. let o = Kept.parts f asks p q r e xs ys u in q ka kb ∙ and-true (f ka) (f kb) (Kept.resumed-keeps f asks p q r e ds its h.iterator false (sequence xs) (needs ds its h.iterator true (sequence ys) []) o.0) (Kept.resumed-keeps f asks p q r e ds its h.iterator true (sequence ys) [] o.1))
      (λ o. let u = order-parts ds ends xs ys o in
      order-then ds ends ka kb a.order b.order
      (lies-some (faults_of ends ka) (faults_of ends kb) (faults_of ends (sequence xs)) (faults_of ends (sequence ys)) (F-kept ds ends its h.iterator false (sequence xs) (needs ds its h.iterator true (sequence ys) [])) (F-kept ds ends its h.iterator true (sequence ys) []) u.2)) p

  slice : (xs ys : List Stmt) → Part (sequence (xs ++ ys)) → Part (lean_slice ds h.iterator inner.iterator xs ys)
  slice xs ys p = opened (resumed ds its h.iterator (sequence xs) (sequence ys)) (going-on xs ys p)

  other : (x : ℕ) → x ≢ h.iterator → not (nat_eq x h.iterator) ≡ true
  other x o = ap not (nat_eq-apart x h.iterator o)

  never-written : (s : Stmt) → is_inner_body ds its true s ≡ true → (IsIn h.iterator (touched s) → ⊥) → never_writes h.iterator s ≡ true
  never-written (Then a b) g o =
      let r = both-true (is_inner_body ds its true a) (is_inner_body ds its true b) g in
      and-true (never_writes h.iterator a) (never_writes h.iterator b) (never-written a r.0 (λ i. o (in-left h.iterator (touched a) (touched b) i))) (never-written b r.1 (λ i. o (in-right h.iterator (touched a) (touched b) i)))
  never-written (Declare k x e) g o = other x (λ q. o (inl (sym q)))
  never-written (Assign k (T.Scalar x at) e) g o = other x (λ q. o (inl (sym q)))
  never-written (Assign k (T.Property x p at) e) g o = refl
  never-written (Combine k total r ts es) g o = targets ts o
    where
      targets : (ts : List Target) → (IsIn h.iterator (variables_of ts) → ⊥) → list_all (is_other h.iterator) ts ≡ true
      targets [] o = refl
      targets (T.Scalar x at ∷ ts) o = and-true (not (nat_eq x h.iterator)) (list_all (is_other h.iterator) ts) (other x (λ q. o (inl (sym q)))) (targets ts (λ i. o (inr i)))
      targets (T.Property x p at ∷ ts) o = targets ts (λ i. o (inr i))
  never-written (If k c a b) g o =
      let q = both-true (is_flat its true c) (is_inner_body ds its true a && is_inner_body ds its true b) g in
      let r = both-true (is_inner_body ds its true a) (is_inner_body ds its true b) q.1 in
      and-true (never_writes h.iterator a) (never_writes h.iterator b) (never-written a r.0 (λ i. o (in-left h.iterator (touched a) (touched b) i))) (never-written b r.1 (λ i. o (in-right h.iterator (touched a) (touched b) i)))
  never-written (Foreach k at hd test body) g o = absurd (both_ways false refl g)
  never-written s g o = refl

  -- ---- what is known of the loop

  pub record Facts : Type 0 where
    pub names : NamesBelow (length ds) body
    pub range : is_nodes h.domain ≡ true
    pub masked : is_mask h.iterator mask ≡ true
    pub form : is_flat_loop ds false h.iterator mask (the body) ≡ true
    pub order : loops_in_order (Foreach k at h mask (the body)) ≡ true
    pub share : shares ds h.iterator mask (the body) ≡ true
    pub edges : stands_at_edges ds h.iterator mask inner test body ≡ true
    pub apart : reads_no_given ds h.iterator test body ≡ true

  module _ (f : Facts) where
    forms : (is_flat (h.iterator ∷ []) false mask ≡ true) × (is_inner_head false h.iterator inner ≡ true) × (is_flat its true test ≡ true) × (is_inner_body ds its true body ≡ true)
    forms =
        let a = both-true (is_flat (n ∷ []) false mask) (is_outer_body ds false n (the body)) f.form in
        let b = both-true (is_inner_head false n inner) (is_flat its true test && is_inner_body ds its true body) a.1 in
        let c = both-true (is_flat its true test) (is_inner_body ds its true body) b.1 in
        (a.0, b.0, c.0, c.1)

    edge-facts : (knows_no_locals ds h.iterator inner.iterator mask test body ≡ true) × (mask_stays h.iterator mask inner body ≡ true) × (has_plain_locals ds h.iterator test body ≡ true) × (all_one (R body) ≡ true)
    edge-facts =
        let a = both-true (knows_no_locals ds n t mask test body) (mask_stays n mask inner body && (has_plain_locals ds n test body && all_one (R body))) f.edges in
        let b = both-true (mask_stays n mask inner body) (has_plain_locals ds n test body && all_one (R body)) a.1 in
        let c = both-true (has_plain_locals ds n test body) (all_one (R body)) b.1 in
        (a.0, b.0, c.0, c.1)

    abbrev mask-reads : List ℕ
    mask-reads = h.iterator ∷ (inner.iterator ∷ (read_anywhere (reads_in mask) ++ told_in mask))

    off : (disjoint (touched body) mask-reads ≡ true) × (not (is_in (told_in mask) inner.iterator) ≡ true)
    off = both-true (disjoint (touched body) mask-reads) (not (is_in (told_in mask) inner.iterator)) edge-facts.1

    off-touched : (s : Stmt) → Part s → (v : ℕ) → IsIn v (touched s) → IsIn v mask-reads → ⊥
    off-touched s p v i = disjoint-apart (touched body) mask-reads v off.0 (some-in (touched s) (touched body) p.touches v i)

    keeps : (s : Stmt) → Part s → not (is_in (touched s) inner.iterator) ≡ true
    keeps s p = not-in (touched s) inner.iterator (λ i. off-touched s p inner.iterator i (inr (inl refl)))

    outer : (s : Stmt) → Part s → is_outer_body ds false h.iterator (the s) ≡ true
    outer s p = and-true (is_inner_head false n inner) (is_flat its true test && is_inner_body ds its true s) forms.1 (and-true (is_flat its true test) (is_inner_body ds its true s) forms.2 p.form)

    one : (s : Stmt) → Part s → all_one (R s) ≡ true
    one s p = all-some (λ a b. disjoint a.variables b.variables || does_same a b) is_one all_one (λ a. refl) (λ a b bs. refl) refl (λ a rest. refl) (R s) (R body) p.reduces edge-facts.3

    alone : (some : List ℕ) (s : Stmt) → Under (pushed_properties h.iterator s) some → Part s → stands_alone ds some h.iterator s ≡ true
    alone some s u p =
        let last = not (is_in (written ds n true s) n) in
        and-true (list_all (is_in some) (pushed_properties n s)) (all_one (R s) && (targets_alike s && last)) (all-in (pushed_properties n s) some u)
        (and-true (all_one (R s)) (targets_alike s && last) (one s p) (and-true (targets_alike s) last p.alike (not-in (written ds n true s) n (λ i. off-touched s p n (written-touched ds n s n i) (inl refl)))))

    alone-here : (s : Stmt) → Part s → stands_alone ds pushed h.iterator s ≡ true
    alone-here s p = alone pushed s (some-in (pushed_properties n s) pushed p.pushes) p

    lone : (s : Stmt) → Part s → is_lone ds pushed h.iterator (the s) ≡ true
    lone s p = and-true (stands_alone ds pushed n s) (stands_alone ds (pushed_properties n s) n s) (alone-here s p) (alone (pushed_properties n s) s (λ v i. i) p)

    abbrev FB : List Fault
    FB = faults_of ends body

    order-facts : (lie_before (fault_of k h.place ∷ []) (fault_of j inner.place ∷ (faults_in test j ++ faults_of ends body)) ≡ true) × (are_numbered (hoisted_in mask ++ (fault_of j inner.place ∷ (faults_in test j ++ faults_of ends body))) ≡ true) × (nat_lt 0 k.statement || cannot_fail mask ≡ true) × (in_order mask k ≡ true)
        × (lie_before (fault_of j inner.place ∷ []) (faults_of ends body) ≡ true) × (in_order test j ≡ true) × (body_in_order ends body ≡ true) × (lie_before (faults_in test j) (faults_of ends body) ≡ true) × (lie_before (faults_in mask k) (fault_of j inner.place ∷ (faults_in test j ++ faults_of ends body)) ≡ true)
    order-facts =
        let fs = fault_of j inner.place ∷ (faults_in test j ++ FB) in
        let lead = lie_before (fault_of k h.place ∷ []) fs in
        let number = are_numbered (hoisted_in mask ++ fs) in
        let some = nat_lt 0 k.statement || cannot_fail mask in
        let within = lie_before (fault_of j inner.place ∷ []) FB && (in_order test j && (body_in_order ends body && lie_before (faults_in test j) FB)) in
        let masks = lie_before (faults_in mask k) fs in
        let a = both-true (lead && (number && some)) (in_order mask k && (within && masks)) f.order in
        let b = both-true lead (number && some) a.0 in
        let c = both-true number some b.1 in
        let d = both-true (in_order mask k) (within && masks) a.1 in
        let e = both-true within masks d.1 in
        let g = both-true (lie_before (fault_of j inner.place ∷ []) FB) (in_order test j && (body_in_order ends body && lie_before (faults_in test j) FB)) e.0 in
        let i = both-true (in_order test j) (body_in_order ends body && lie_before (faults_in test j) FB) g.1 in
        let l = both-true (body_in_order ends body) (lie_before (faults_in test j) FB) i.1 in
        (b.0, c.0, c.1, d.0, g.0, i.0, l.0, l.1, e.1)

    -- the whole is a part
    itself : Part body
    itself = record {
      form = forms.3;
      alike = shares-alike ds n mask (the body) f.share;
      local = (both-true (list_all (is_no_local ds (n ∷ t ∷ [])) (told_in mask ++ (told_in test ++ S body))) (spares_locals ds body) edge-facts.0).1;
      never = never-written body forms.3 (λ i. disjoint-apart (touched body) mask-reads n off.0 i (inl refl));
      order = order-facts.6;
      reduces = some-itself (R body);
      writes = some-itself (written ds n true body);
      touches = some-itself (touched body);
      tells = some-itself (S body);
      reads = some-itself (P body);
      fails = some-itself (faults_of ends body);
      pushes = some-itself pushed;
      gives = some-itself (given_by ds n body);
    }

    -- ---- the loop is cut

    -- what a part reads and gives
    free : (s u : Stmt) → Part s → Part u → Off (given_by ds h.iterator s) (told_in test ++ S u)
    free s u p q v i g =
        let seen = (told_in test ++ S body) ++ read_anywhere (reads_in test ++ P body) in
        disjoint-apart (given_by ds n body) seen v f.apart (some-in (given_by ds n s) (given_by ds n body) p.gives v g)
        (in-left v (told_in test ++ S body) (read_anywhere (reads_in test ++ P body)) (some-in (told_in test ++ S u) (told_in test ++ S body) (some-both (told_in test) (S u) (told_in test) (S body) (some-itself (told_in test)) q.tells) v i))

    free-reads : (s u : Stmt) → Part s → Part u → Off (given_by ds h.iterator s) (read_anywhere (reads_in test ++ P u))
    free-reads s u p q v i g =
        let seen = (told_in test ++ S body) ++ read_anywhere (reads_in test ++ P body) in
        disjoint-apart (given_by ds n body) seen v f.apart (some-in (given_by ds n s) (given_by ds n body) p.gives v g)
        (in-right v (told_in test ++ S body) (read_anywhere (reads_in test ++ P body))
        (anywhere-under (reads_in test ++ P u) (reads_in test ++ P body) (some-both (reads_in test) (P u) (reads_in test) (P body) (some-itself (reads_in test)) q.reads) v i))

    -- what is given is touched, and declared
    given-outside : (s : Stmt) → Part s → (IsIn h.iterator (given_by ds h.iterator s) → ⊥) × (IsIn (length ds) (given_by ds h.iterator s) → ⊥)
    given-outside s p =
        let there = λ (v : ℕ) (g : IsIn v (given_by ds n s)). gives-touched ds n body v (some-in (given_by ds n s) (given_by ds n body) p.gives v g) in
        (λ g. disjoint-apart (touched body) mask-reads n off.0 (there n g) (inl refl), λ g. let l = touched-below (length ds) body f.names (length ds) (there (length ds) g) in absurd (omega arith))

    spared : (s : Stmt) → Part s → spares (given_by ds h.iterator s) (Both (Property h.iterator (length ds) h.place) test) ≡ true
    spared s p =
        let given = given_by ds n s in
        let o = given-outside s p in
        and-true (not (is_in given n) && not (is_in given (length ds))) (spares given test) (and-true (not (is_in given n)) (not (is_in given (length ds))) (not-in given n o.0) (not-in given (length ds) o.1))
        (spares-from its true given test forms.2 (off-left given (told_in test) (S s) (free s s p p)) (off-first given (reads_in test) (P s) (free-reads s s p p)))

    test-first : (s : Stmt) → Part s → lie_before (faults_in test j) (faults_of ends s) ≡ true
    test-first s p = lies-some (faults_in test j) (faults_of ends s) (faults_in test j) FB (some-itself (faults_in test j)) p.fails order-facts.7

    -- reductions of two parts stand in order
    agree-facts : all_agree (R body) ≡ true
    agree-facts =
        let seen = read_anywhere (reads_in mask ++ ([] ++ (reads_in test ++ P body))) ++ ((told_in mask ++ (inner.owner ∷ (told_in test ++ S body))) ++ written ds n true body) in
        let else = read_elsewhere n (reads_in mask ++ ([] ++ (reads_in test ++ P body))) in
        let rest = all_agree (R body) && (inners_share ds n (the body) && targets_alike body) in
        let a = both-true (disjoint (shared_in (R body)) seen) (disjoint (written ds n true body ++ kept_in (R body)) else && (true && rest)) f.share in
        let b = both-true (disjoint (written ds n true body ++ kept_in (R body)) else) (true && rest) a.1 in
        (both-true (all_agree (R body)) (inners_share ds n (the body) && targets_alike body) b.1).0

    two-agree : (x y : Reduced) → (disjoint x.variables y.variables || (nat_lt x.number y.number && ((disjoint x.shared y.variables && disjoint y.shared x.variables) || does_same x y))) ≡ true → disjoint x.variables y.variables || nat_lt x.number y.number ≡ true
    two-agree x y = by (disjoint x.variables y.variables) (nat_lt x.number y.number) ((disjoint x.shared y.variables && disjoint y.shared x.variables) || does_same x y)
      where
        by : (a b c : Bool) → a || (b && c) ≡ true → a || b ≡ true
        by true b c h = refl
        by false true c h = refl
        by false false c h = h

    stands-from : (x : Reduced) (ys : List Reduced) → ((y : Reduced) → IsIn y ys → disjoint x.variables y.variables || nat_lt x.number y.number ≡ true) → stands_before x ys ≡ true
    stands-from x [] g = refl
    stands-from x (y ∷ ys) g = and-true (disjoint x.variables y.variables || nat_lt x.number y.number) (stands_before x ys) (g y (inl refl)) (stands-from x ys (λ z i. g z (inr i)))

    all-from : (xs ys : List Reduced) → ((x y : Reduced) → IsIn x xs → IsIn y ys → disjoint x.variables y.variables || nat_lt x.number y.number ≡ true) → all_stand_before xs ys ≡ true
    all-from [] ys g = refl
    all-from (x ∷ xs) ys g = and-true (stands_before x ys) (all_stand_before xs ys) (stands-from x ys (λ y i. g x y (inl refl) i)) (all-from xs ys (λ z y i l. g z y (inr i) l))

    before : (xs ys : List Stmt) → Part (sequence (xs ++ ys)) → all_stand_before (R (sequence xs)) (R (sequence ys)) ≡ true
    before xs ys p =
        let test-of = λ (a b : Reduced). disjoint a.variables b.variables || (nat_lt a.number b.number && ((disjoint a.shared b.variables && disjoint b.shared a.variables) || does_same a b)) in
        let both : all_agree (R (sequence xs) ++ R (sequence ys)) ≡ true =
        subst (λ l. all_agree l ≡ true) (listed-append R (λ k c. []) refl (λ a b. refl) (λ k c a b. refl) xs ys) (all-some test-of agrees all_agree (λ a. refl) (λ a b bs. refl) refl (λ a rest. refl) (R (sequence (xs ++ ys))) (R body) p.reduces agree-facts) in
        all-from (R (sequence xs)) (R (sequence ys)) (λ a b i l. two-agree a b (all-apart test-of agrees all_agree (λ a. refl) (λ a b bs. refl) refl (λ a rest. refl) (R (sequence xs)) (R (sequence ys)) a b both i l))

    goes-on : (xs ys : List Stmt) → Part (sequence (xs ++ ys)) → may_resume ds pushed h.iterator (length ds) h.place j here inner test (sequence xs) (sequence ys) ≡ true
    goes-on xs ys p =
        let a = sequence xs in
        let b = sequence ys in
        let whole = Then a b in
        let rest = resumed ds its n a b in
        let given = given_by ds n a in
        let pw = two xs ys p in
        let pa = first xs ys p in
        let pb = second xs ys p in
        let pr = going-on xs ys p in
        let xs' = needs ds its n false a (needs ds its n true b []) in
        let told = λ (v : ℕ) (i : IsIn v xs'). ⊎_elim (λ l. some-in (S a) (S body) pa.tells v l) (λ l. ⊎_elim (λ q. some-in (S b) (S body) pb.tells v q) (λ (q : IsIn v []). absurd q) (needs-told ds its n true b [] v pb.form l)) (needs-told ds its n false a (needs ds its n true b []) v pa.form i) in
        let away : (v : ℕ) → IsIn v given → IsIn v (xs' ++ read_anywhere (P rest)) → ⊥ =
        λ v g i.
        ⊎_elim (λ l. free a body pa itself v (in-right v (told_in test) (S body) (told v l)) g)
        (λ l. free-reads a rest pa pr v (anywhere-under (P rest) (reads_in test ++ P rest) (some-second (reads_in test) (P rest)) v l) g)
        (in-either v xs' (read_anywhere (P rest)) i) in
        let early : lie_before (faults_in test j ++ faults_of ends a) (faults_of ends b) ≡ true =
        lie-first (faults_in test j) (faults_of ends a) (faults_of ends b) ∙ and-true (lie_before (faults_in test j) (faults_of ends b)) (lie_before (faults_of ends a) (faults_of ends b)) (test-first b pb) (order-parts ds ends xs ys p.order).2 in
        and-true (is_outer_body ds false n (the whole)) _ (outer whole pw)
        (and-true (is_outer_body ds false n (the rest)) _ (outer rest pr)
        (and-true (stands_alone ds pushed n whole) _ (alone-here whole pw)
        (and-true (stands_alone ds pushed n a) _ (alone-here a pa)
        (and-true (stands_alone ds pushed n rest) _ (alone-here rest pr)
        (and-true (spares_locals ds whole) _ pw.local
        (and-true (spares_locals ds rest) _ pr.local
        (and-true (never_writes n whole) _ pw.never
        (and-true (lie_before (faults_in test j ++ faults_of ends a) (faults_of ends b)) _ early
        (and-true (all_stand_before (R a) (R b)) _ (before xs ys p)
        (and-true (spares given (Both (Property n (length ds) h.place) test)) _ (spared a pa)
        (and-true (disjoint given (xs' ++ read_anywhere (P rest))) (not (is_in (touched whole) t)) (apart-disjoint given (xs' ++ read_anywhere (P rest)) away) (keeps whole pw))))))))))))

    trims : (xs : List Stmt) → Part (sequence xs) → may_trim ds pushed h.iterator j here inner test (sequence xs) ≡ true
    trims xs p =
        let s = sequence xs in
        let r = kept ds its n true s [] in
        let q = trimmed true s [] p in
        and-true (is_outer_body ds false n (the s)) _ (outer s p)
        (and-true (is_outer_body ds false n (the r)) _ (outer r q)
        (and-true (stands_alone ds pushed n s) _ (alone-here s p)
        (and-true (stands_alone ds pushed n r) _ (alone-here r q)
        (and-true (spares_locals ds s) _ p.local (and-true (spares_locals ds r) _ q.local (and-true (never_writes n s) (not (is_in (touched s) t)) p.never (keeps s p)))))))

    -- the mask stays
    stays : (s : Stmt) → Part s → is_stable h.iterator (the s) mask ≡ true
    stays s p =
        let m = both-true (cannot_fail mask) (is_flat (n ∷ []) false mask) f.masked in
        and-true (is_certain (n ∷ []) mask) (not (is_in (touched s) n) && spares (touched s) mask) (mask-certain n mask m.0 m.1)
        (and-true (not (is_in (touched s) n)) (spares (touched s) mask) (not-in (touched s) n (λ i. off-touched s p n i (inl refl)))
        (spares-from (n ∷ []) false (touched s) mask m.1 (λ v i g. off-touched s p v g (inr (inr (in-right v (read_anywhere (reads_in mask)) (told_in mask) i)))) (λ v i g. off-touched s p v g (inr (inr (in-left v (read_anywhere (reads_in mask)) (told_in mask) i))))))

    -- ---- a slice is sound

    in-order : (s : Stmt) → Part s → loops_in_order (Foreach k at h mask (the s)) ≡ true
    in-order s p =
        let fs = fault_of j inner.place ∷ (faults_in test j ++ faults_of ends s) in
        let fb = fault_of j inner.place ∷ (faults_in test j ++ FB) in
        let less-faults : Parts.Some fs fb = inl (refl, some-both (faults_in test j) (faults_of ends s) (faults_in test j) FB (some-itself (faults_in test j)) p.fails) in
        let lead = lie_before (fault_of k h.place ∷ []) fs in
        let number = are_numbered (hoisted_in mask ++ fs) in
        let some = nat_lt 0 k.statement || cannot_fail mask in
        let within = lie_before (fault_of j inner.place ∷ []) (faults_of ends s) && (in_order test j && (body_in_order ends s && lie_before (faults_in test j) (faults_of ends s))) in
        let masks = lie_before (faults_in mask k) fs in
        let one-lead = fault_of k h.place ∷ [] in
        let inner-lead = fault_of j inner.place ∷ [] in
        and-true (lead && (number && some)) (in_order mask k && (within && masks))
        (and-true lead (number && some) (lies-some one-lead fs one-lead fb (some-itself one-lead) less-faults order-facts.0)
        (and-true number some (numbered-some (hoisted_in mask ++ fs) (hoisted_in mask ++ fb) (some-both (hoisted_in mask) fs (hoisted_in mask) fb (some-itself (hoisted_in mask)) less-faults) order-facts.1) order-facts.2))
        (and-true (in_order mask k) (within && masks) order-facts.3
        (and-true within masks
        (and-true (lie_before inner-lead (faults_of ends s)) (in_order test j && (body_in_order ends s && lie_before (faults_in test j) (faults_of ends s))) (lies-some inner-lead (faults_of ends s) inner-lead FB (some-itself inner-lead) p.fails order-facts.4)
        (and-true (in_order test j) (body_in_order ends s && lie_before (faults_in test j) (faults_of ends s)) order-facts.5 (and-true (body_in_order ends s) (lie_before (faults_in test j) (faults_of ends s)) p.order (test-first s p))))
        (lies-some (faults_in mask k) fs (faults_in mask k) fb (some-itself (faults_in mask k)) less-faults order-facts.8)))

    share-inner : (s : Stmt) → Part s → inner_shares ds h.iterator test body ≡ true → inner_shares ds h.iterator test s ≡ true
    share-inner s p e =
        let ks = kept_in (R s) in
        let kb = kept_in (R body) in
        let us = read_at n (reads_in test ++ P s) ++ (told_in test ++ S s) in
        let ub = read_at n (reads_in test ++ P body) ++ (told_in test ++ S body) in
        let r = both-true (disjoint kb ub) (all_last_one_way (R body)) e in
        and-true (disjoint ks us) (all_last_one_way (R s))
        (fewer-apart ks us kb ub (kept-under (R s) (R body) p.reduces)
        (under-both (read_at n (reads_in test ++ P s)) (told_in test ++ S s) (read_at n (reads_in test ++ P body)) (told_in test ++ S body)
        (at-under n (reads_in test ++ P s) (reads_in test ++ P body) (some-both (reads_in test) (P s) (reads_in test) (P body) (some-itself (reads_in test)) p.reads))
        (under (told_in test ++ S s) (told_in test ++ S body) (some-both (told_in test) (S s) (told_in test) (S body) (some-itself (told_in test)) p.tells))) r.0)
        (all-some (λ a b. disjoint (lasting a) (lasting b) || does_same a b) lasts_one_way all_last_one_way (λ a. refl) (λ a b bs. refl) refl (λ a rest. refl) (R s) (R body) p.reduces r.1)

    shared : (s : Stmt) → Part s → loops_share ds (Foreach k at h mask (the s)) ≡ true
    shared s p =
        let reads = some-both (reads_in mask) ([] ++ (reads_in test ++ P s)) (reads_in mask) ([] ++ (reads_in test ++ P body)) (some-itself (reads_in mask)) (some-both (reads_in test) (P s) (reads_in test) (P body) (some-itself (reads_in test)) p.reads) in
        let ms = reads_in mask ++ ([] ++ (reads_in test ++ P s)) in
        let mb = reads_in mask ++ ([] ++ (reads_in test ++ P body)) in
        let ts = told_in mask ++ (inner.owner ∷ (told_in test ++ S s)) in
        let tb = told_in mask ++ (inner.owner ∷ (told_in test ++ S body)) in
        let tells : Parts.Some ts tb =
        some-both (told_in mask) (inner.owner ∷ (told_in test ++ S s)) (told_in mask) (inner.owner ∷ (told_in test ++ S body)) (some-itself (told_in mask)) (inl (refl, some-both (told_in test) (S s) (told_in test) (S body) (some-itself (told_in test)) p.tells)) in
        fewer-share ds n mask mask (the body) (the s)
        (record {
          anywhere = anywhere-under ms mb reads;
          elsewhere = elsewhere-under n ms mb reads;
          scalars = under ts tb tells;
          changes = under (written ds n true s) (written ds n true body) p.writes;
          delays = λ v i. i;
          shared = shared-under (R s) (R body) p.reduces;
          kept = kept-under (R s) (R body) p.reduces;
        })
        (λ a. all-some (λ a b. disjoint a.variables b.variables || (nat_lt a.number b.number && ((disjoint a.shared b.variables && disjoint b.shared a.variables) || does_same a b))) agrees all_agree (λ a. refl) (λ a b bs. refl) refl (λ a rest. refl) (R s) (R body) p.reduces a)
        (λ e. share-inner s p e) (λ e. p.alike) f.share

    edges-of : (s : Stmt) → Part s → stands_at_edges ds h.iterator mask inner test s ≡ true
    edges-of s p =
        let a = both-true (list_all (is_no_local ds (n ∷ t ∷ [])) (told_in mask ++ (told_in test ++ S body))) (spares_locals ds body) edge-facts.0 in
        let told = told_in mask ++ (told_in test ++ S s) in
        let told-body = told_in mask ++ (told_in test ++ S body) in
        let some-told : Parts.Some told told-body = some-both (told_in mask) (told_in test ++ S s) (told_in mask) (told_in test ++ S body) (some-itself (told_in mask)) (some-both (told_in test) (S s) (told_in test) (S body) (some-itself (told_in test)) p.tells) in
        let knows = list_all (is_no_local ds (n ∷ t ∷ [])) told && spares_locals ds s in
        let stay = mask_stays n mask inner s in
        let plain = has_plain_locals ds n test s in
        and-true knows (stay && (plain && all_one (R s))) (and-true (list_all (is_no_local ds (n ∷ t ∷ [])) told) (spares_locals ds s) (all-members (is_no_local ds (n ∷ t ∷ [])) told told-body some-told a.0) p.local)
        (and-true stay (plain && all_one (R s))
        (and-true (disjoint (touched s) mask-reads) (not (is_in (told_in mask) t)) (fewer-apart (touched s) mask-reads (touched body) mask-reads (under (touched s) (touched body) p.touches) (λ v i. i) off.0) off.1)
        (and-true plain (all_one (R s))
        (fewer-apart (written ds n true s) (read_anywhere (reads_in test ++ P s) ++ kept_in (R s)) (written ds n true body) (read_anywhere (reads_in test ++ P body) ++ kept_in (R body)) (under (written ds n true s) (written ds n true body) p.writes)
        (under-both (read_anywhere (reads_in test ++ P s)) (kept_in (R s)) (read_anywhere (reads_in test ++ P body)) (kept_in (R body))
        (anywhere-under (reads_in test ++ P s) (reads_in test ++ P body) (some-both (reads_in test) (P s) (reads_in test) (P body) (some-itself (reads_in test)) p.reads)) (kept-under (R s) (R body) p.reduces)) edge-facts.2)
        (one s p)))

    sound : (s : Stmt) → Part s → goes_one_way ds h.iterator inner test s ≡ true → is_sound ds k at h mask j here inner test (Foreach k at h mask (the s)) ≡ true
    sound s p g =
        let loop = Foreach k at h mask (the s) in
        let way = both-true (has_a_way ds n inner test s) (adds_last (n ∷ t ∷ []) s) g in
        let flat = is_flat_loop ds false n mask (the s) in
        let along = has_a_way ds n inner test s && is_edge_loop ds n mask inner test s in
        and-true (loops_in_order loop) (loops_share ds loop && is_phase (is_cut has_a_way ds) no_loop ds loop) (in-order s p)
        (and-true (loops_share ds loop) (is_phase (is_cut has_a_way ds) no_loop ds loop) (shared s p)
        (and-true (is_nodes h.domain) (is_cut has_a_way ds n mask (the s)) f.range
        (and-true flat (is_mask n mask && along) (and-true (is_flat (n ∷ []) false mask) (is_outer_body ds false n (the s)) forms.0 (outer s p))
        (and-true (is_mask n mask) along f.masked (and-true (has_a_way ds n inner test s) (is_edge_loop ds n mask inner test s) way.0 (edge-of ds n mask inner test s (edges-of s p) way.1))))))

    stands : (xs ys : List Stmt) → Part (sequence (xs ++ ys)) → goes_one_way ds h.iterator inner test (lean_slice ds h.iterator inner.iterator xs ys) ≡ true → lean_stands ds k at h mask j here inner test pushed xs ys ≡ true
    stands xs ys p g =
        let s = lean_slice ds n t xs ys in
        let q = slice xs ys p in
        and-true (is_lone ds pushed n (the s)) (is_sound ds k at h mask j here inner test (Foreach k at h mask (the s))) (lone s q) (sound s q g)

    -- ---- all groups

    abbrev Go : List Stmt → List (List Stmt) → Type 0
    Go done gs = list_all (goes_one_way ds h.iterator inner test) (lean_slices ds h.iterator inner.iterator done gs) ≡ true

    rest-goes : (gs : List (List Stmt)) (done : List Stmt) → Part (sequence (done ++ joined gs)) → Go done gs → may_go_on ds k at h mask j here inner test pushed done gs ≡ true
    rest-goes [] done p g = refl
    rest-goes (x ∷ gs) done p g =
        let s = lean_slice ds n t done x in
        let r = both-true (goes_one_way ds n inner test s) (list_all (goes_one_way ds n inner test) (lean_slices ds n t (done ++ x) gs)) g in
        let q = subst (λ xs. Part (sequence xs)) (sym (append_assoc done x (joined gs))) p in
        let two-parts = first (done ++ x) (joined gs) q in
        let rest = may_go_on ds k at h mask j here inner test pushed (done ++ x) gs in
        and-true (may_resume ds pushed n (length ds) h.place j here inner test (sequence done) (sequence x)) (is_stable n (the (sequence done)) mask && (lean_stands ds k at h mask j here inner test pushed done x && rest)) (goes-on done x two-parts)
        (and-true (is_stable n (the (sequence done)) mask) (lean_stands ds k at h mask j here inner test pushed done x && rest) (stays (sequence done) (first done x two-parts))
        (and-true (lean_stands ds k at h mask j here inner test pushed done x) rest (stands done x two-parts r.0) (rest-goes gs (done ++ x) q r.1)))

    pub all-go : (gs : List (List Stmt)) → joined gs ≡ statements_of body → Go [] gs → may_lean ds k at h mask j here inner test pushed gs ≡ true
    all-go [] e g = refl
    all-go (x ∷ gs) e g =
        let s = lean_slice ds n t [] x in
        let r = both-true (goes_one_way ds n inner test s) (list_all (goes_one_way ds n inner test) (lean_slices ds n t x gs)) g in
        let p : Part (sequence (x ++ joined gs)) = subst (λ xs. Part (sequence xs)) (sym e) (opened body itself) in
        let q = first x (joined gs) p in
        and-true (may_trim ds pushed n j here inner test (sequence x)) (lean_stands ds k at h mask j here inner test pushed [] x && may_go_on ds k at h mask j here inner test pushed x gs) (trims x q)
        (and-true (lean_stands ds k at h mask j here inner test pushed [] x) (may_go_on ds k at h mask j here inner test pushed x gs) (stands [] x q r.0) (rest-goes gs x p r.1))

-- ---- all loops of a phase

module _ (ds : List Declaration) where
  -- what is known of a phase
  record Known (s : Stmt) : Type 0 where
    named : list_all (suits ds) (uses_of s) ≡ true
    order : loops_in_order s ≡ true
    share : loops_share ds s ≡ true
    form : is_phase (is_parted goes_any_way ds) no_loop ds s ≡ true

  loop-leans : (k : Key) (at : Place) (h : Head) (mask : Expr) (body : Stmt) → Known (Foreach k at h mask body) → gives_apart ds k at h mask body ≡ true → slices_go ds k at h mask body ≡ true → can_lean ds k at h mask body ≡ true
  loop-leans k at h mask (Foreach j here inner test body) w u g = by (goes_one_way ds h.iterator inner test body) u g
    where
      n : ℕ
      n = h.iterator

      gs : List (List Stmt)
      gs = lean_groups_of ds h.iterator inner test body

      loop : Stmt
      loop = Foreach j here inner test body

      by : (o : Bool) → o || reads_no_given ds h.iterator test body ≡ true → o || list_all (goes_one_way ds h.iterator inner test) (lean_slices ds h.iterator inner.iterator [] (lean_groups_of ds h.iterator inner test body)) ≡ true →
          o || (is_mask h.iterator mask && may_lean ds k at h mask j here inner test (pushed_properties h.iterator body) (lean_groups_of ds h.iterator inner test body)) ≡ true
      by true u q = refl
      by false u q =
          let b = both-true (is_nodes h.domain) (is_parted goes_any_way ds n mask loop) w.form in
          let c = both-true (is_flat_loop ds false n mask loop) (is_mask n mask && stands_at_edges ds n mask inner test body) b.1 in
          let d = both-true (is_mask n mask) (stands_at_edges ds n mask inner test body) c.1 in
          let below = names-below ds (Foreach k at h mask loop) w.named in
          let facts : Facts ds k at h mask j here inner test body = record { names = below.3.3; range = b.0; masked = d.0; form = c.0; order = w.order; share = w.share; edges = d.1; apart = u } in
          and-true (is_mask n mask) (may_lean ds k at h mask j here inner test (pushed_properties n body) gs) d.0
          (all-go ds k at h mask j here inner test body facts gs (lean-whole ds n inner.iterator (goes_one_way ds n inner test) [] [] [] (statements_of body)) q)
  loop-leans k at h mask body w u g = refl

  phase-leans : (s : Stmt) → Known s → each_passes (gives_apart ds) s ≡ true → each_passes (slices_go ds) s ≡ true → each_passes (can_lean ds) s ≡ true
  phase-leans (Then a b) w v g =
      let q = both-true (each_passes (slices_go ds) a) (each_passes (slices_go ds) b) g in
      let z = both-true (each_passes (gives_apart ds) a) (each_passes (gives_apart ds) b) v in
      let m = all-append (suits ds) (uses_of a) (uses_of b) w.named in
      let o = both-true (loops_in_order a) (loops_in_order b) w.order in
      let u = both-true (loops_share ds a) (loops_share ds b) w.share in
      let r = both-true (phase a) (phase b) w.form in
      and-true (each_passes (can_lean ds) a) (each_passes (can_lean ds) b) (phase-leans a (record { named = m.0; order = o.0; share = u.0; form = r.0 }) z.0 q.0) (phase-leans b (record { named = m.1; order = o.1; share = u.1; form = r.1 }) z.1 q.1)
    where
      phase : Stmt → Bool
      phase s = is_phase (is_parted goes_any_way ds) no_loop ds s
  phase-leans (Foreach k at h mask body) w v g = loop-leans k at h mask body w v g
  phase-leans (For k at h test body) w v g =
      let m = all-append (suits ds) (uses_of_head h) (uses_in test ++ uses_of body) w.named in
      let l = all-append (suits ds) (uses_in test) (uses_of body) m.1 in
      let o = both-true (folds_in_order test) (loops_in_order body) w.order in
      let r = both-true (is_told test) (is_phase (is_parted goes_any_way ds) no_loop ds body) w.form in
      phase-leans body (record { named = l.1; order = o.1; share = w.share; form = r.1 }) v g
  phase-leans (If k c a b) w v g =
      let q = both-true (each_passes (slices_go ds) a) (each_passes (slices_go ds) b) g in
      let z = both-true (each_passes (gives_apart ds) a) (each_passes (gives_apart ds) b) v in
      let m = all-append (suits ds) (uses_in c) (uses_of a ++ uses_of b) w.named in
      let l = all-append (suits ds) (uses_of a) (uses_of b) m.1 in
      let o = both-true (folds_in_order c) (loops_in_order a && loops_in_order b) w.order in
      let e = both-true (loops_in_order a) (loops_in_order b) o.1 in
      let u = both-true (loops_share ds a) (loops_share ds b) w.share in
      let r = both-true (is_told c) (is_phase (is_parted goes_any_way ds) no_loop ds a && is_phase (is_parted goes_any_way ds) no_loop ds b) w.form in
      let x = both-true (is_phase (is_parted goes_any_way ds) no_loop ds a) (is_phase (is_parted goes_any_way ds) no_loop ds b) r.1 in
      and-true (each_passes (can_lean ds) a) (each_passes (can_lean ds) b) (phase-leans a (record { named = l.0; order = e.0; share = u.0; form = x.0 }) z.0 q.0) (phase-leans b (record { named = l.1; order = e.1; share = u.1; form = x.1 }) z.1 q.1)
  phase-leans (While k at c body) w v g =
      let m = all-append (suits ds) (uses_in c) (uses_of body) w.named in
      let o = both-true (folds_in_order c) (loops_in_order body) w.order in
      let r = both-true (is_told c) (is_phase (is_parted goes_any_way ds) no_loop ds body) w.form in
      phase-leans body (record { named = m.1; order = o.1; share = w.share; form = r.1 }) v g
  phase-leans (Do k at body c) w v g =
      let m = all-append (suits ds) (uses_of body) (uses_in c) w.named in
      let o = both-true (loops_in_order body) (folds_in_order c) w.order in
      let r = both-true (is_phase (is_parted goes_any_way ds) no_loop ds body) (is_told c) w.form in
      phase-leans body (record { named = m.0; order = o.0; share = w.share; form = r.0 }) v g
  phase-leans s w v g = refl

-- a parted program may have its inner loops in slices, where each of these goes one way
pub parted-leans : (p : Program) → IsPartedBy goes_any_way p → has_givens_apart p ≡ true → has_slices_that_go p ≡ true → can_be_lean p ≡ true
parted-leans p r v g =
    let ds = p.declarations in
    let m = both-true (nat_le (p.inputs + p.outputs) (length ds)) (list_all (suits ds) (uses_of p.body)) r.sane.named in
    phase-leans ds p.body (record { named = m.1; order = r.sane.ordered; share = r.sane.race_free; form = r.form }) v g
