-- A body that falls apart may be cut into its pieces.
use Rattle.std.proofs.Common.{◌≡◌, ◌<◌, arith, ℕ, Bool, true, false, cond, List, [], ◌∷◌, ◌++◌, length, refl, sym, ap, subst, ◌∙◌, ⊎_elim, inl, inr}
use Rattle.std.specs.Prelude.{◌&&◌, ◌||◌, not, nat_eq, nat_lt}
use Rattle.std.specs.List.{list_all}
use Rattle.std.proofs.lemmas.Bool.{both_ways, eq-eqb}
use Rattle.gm_base.specs.declared.places.Place.{Place}
use Rattle.gm_value.specs.Bag.{IsIn}
use Rattle.gm_value.specs.declared.operations.Op1.TheVariants.{Not}
use Rattle.gm_ast.specs.declared.tree.Declaration.{Declaration}
use Rattle.gm_ast.specs.declared.tree.Key.{Key}
use Rattle.gm_ast.specs.declared.tree.Head.{Head}
use Rattle.gm_ast.specs.declared.tree.Target.{Target}
use Rattle.gm_ast.specs.declared.tree.Target.TheVariants as T
use Rattle.gm_ast.specs.Program.{Expr, Const, Var, Property, EdgeProperty, Degree, NodeCount, EdgeCount, Live, Unary, Binary, Both, Either, Choose, Folded, Stmt, Skip, Then, Declare, Assign, Combine, Foreach, If}
use Rattle.gm_ast.specs.Ways.{is_in}
use Rattle.gm_semantics.specs.Frames.{NamesBelow}
use Rattle.gm_forms.specs.Cut.{is_mask, touched, is_own_body, is_own_code, is_own_loop, knows_no_locals, mask_stays, has_plain_locals, adds_last, keeps_iterators}
use Rattle.gm_forms.specs.Fission.{left, changed, reduced_locals, elsewhere_of, pushed_properties, agrees_with, all_agree_with, reduces_whole, is_nil, can_cut}
use Rattle.gm_forms.specs.Forms.{depth_at, is_flat, is_outer_body, is_flat_loop}
use Rattle.gm_forms.specs.Order.{fault_of, cannot_fail, lie_before, faults_in, in_order, faults_of, leads, body_in_order, loop_in_order, can_fail1, can_fail2}
use Rattle.gm_forms.specs.Sharing.{Read, Reduced, reads_in, told_in, sights_of, written, written_at_once, are_at_once, variables_of, reduced, reduced_by, deferred, read_anywhere, read_elsewhere, pushed_in, owned_in, disjoint, all_one, targets_alike}
use Rattle.gm_forms.proofs.CutTests.{found, finds}
use Rattle.gm_forms.proofs.Doings.{in-left, in-right, in-either}
use Rattle.gm_forms.proofs.Named.{both-true, all-append}
use Rattle.gm_forms.proofs.Weaker.{and-true}
use Rattle.gm_loop_laws.specs.Alone.{stands_alone}
use Rattle.gm_loop_laws.specs.Masks.{is_certain, spares, is_stable}
use Rattle.gm_loop_laws.specs.Pieces.{no_inner, is_lone, Piece, piece, pieces_of, stands, may_part}
use Rattle.gm_loop_laws.proofs.Chosen.{disjoint-apart, apart-disjoint}
use Rattle.gm_loop_laws.proofs.Kept.{touched-below}
use Rattle.gm_cut.specs.Parts.{Kind, locals_stay, falls_apart, is_parted, stands_along, piece_is_parted}
use Rattle.gm_cut.proofs.Grouped.{append-assoc, lie-second}
use Rattle.gm_cut.proofs.Shared.{Under, under-both, fewer-apart, listed-first, listed-second, anywhere-split, elsewhere-split}

-- ---- a mask is certain

pub mask-certain : (n : ℕ) (e : Expr) → cannot_fail e ≡ true → is_flat (n ∷ []) false e ≡ true → is_certain (n ∷ []) e ≡ true
mask-certain n (Const v) c f = refl
mask-certain n (Var x at) c f = refl
mask-certain n (Property x p at) c f = f
mask-certain n (EdgeProperty x p at) c f = refl
mask-certain n (Degree d x at) c f = f
mask-certain n NodeCount c f = refl
mask-certain n EdgeCount c f = refl
mask-certain n (Live x at) c f = absurd (both_ways false refl c)
mask-certain n (Unary op at e) c f = let r = both-true (not (can_fail1 op)) (cannot_fail e) c in and-true (not (can_fail1 op)) (is_certain (n ∷ []) e) r.0 (mask-certain n e r.1 f)
mask-certain n (Binary op at a b) c f =
    let r = both-true (not (can_fail2 op)) (cannot_fail a && cannot_fail b) c in
    let q = both-true (cannot_fail a) (cannot_fail b) r.1 in
    let g = both-true (is_flat (n ∷ []) false a) (is_flat (n ∷ []) false b) f in
    and-true (not (can_fail2 op)) (is_certain (n ∷ []) a && is_certain (n ∷ []) b) r.0 (and-true (is_certain (n ∷ []) a) (is_certain (n ∷ []) b) (mask-certain n a q.0 g.0) (mask-certain n b q.1 g.1))
mask-certain n (Both a b) c f =
    let q = both-true (cannot_fail a) (cannot_fail b) c in
    let g = both-true (is_flat (n ∷ []) false a) (is_flat (n ∷ []) false b) f in
    and-true (is_certain (n ∷ []) a) (is_certain (n ∷ []) b) (mask-certain n a q.0 g.0) (mask-certain n b q.1 g.1)
mask-certain n (Either a b) c f =
    let q = both-true (cannot_fail a) (cannot_fail b) c in
    let g = both-true (is_flat (n ∷ []) false a) (is_flat (n ∷ []) false b) f in
    and-true (is_certain (n ∷ []) a) (is_certain (n ∷ []) b) (mask-certain n a q.0 g.0) (mask-certain n b q.1 g.1)
mask-certain n (Choose d a b) c f =
    let r = both-true (cannot_fail d) (cannot_fail a && cannot_fail b) c in
    let q = both-true (cannot_fail a) (cannot_fail b) r.1 in
    let h = both-true (is_flat (n ∷ []) false d) (is_flat (n ∷ []) false a && is_flat (n ∷ []) false b) f in
    let g = both-true (is_flat (n ∷ []) false a) (is_flat (n ∷ []) false b) h.1 in
    and-true (is_certain (n ∷ []) d) (is_certain (n ∷ []) a && is_certain (n ∷ []) b) (mask-certain n d r.0 h.0) (and-true (is_certain (n ∷ []) a) (is_certain (n ∷ []) b) (mask-certain n a q.0 g.0) (mask-certain n b q.1 g.1))
mask-certain n (Folded f hd test e) c g = absurd (both_ways false refl c)

-- ---- lists

pub all-in : (xs ys : List ℕ) → Under xs ys → list_all (is_in ys) xs ≡ true
all-in [] ys u = refl
all-in (x ∷ xs) ys u = and-true (is_in ys x) (list_all (is_in ys) xs) (finds ys x (u x (inl refl))) (all-in xs ys (λ y i. u y (inr i)))

nil-both : (xs ys : List ℕ) → is_nil (xs ++ ys) ≡ true → (is_nil xs ≡ true) × (is_nil ys ≡ true)
nil-both [] ys h = (refl, h)
nil-both (x ∷ xs) ys h = absurd (both_ways false refl h)

pub not-in : (xs : List ℕ) (y : ℕ) → (IsIn y xs → ⊥) → not (is_in xs y) ≡ true
not-in xs y out = by (is_in xs y) refl
  where
    by : (b : Bool) → is_in xs y ≡ b → not b ≡ true
    by true e = absurd (out (found xs y e))
    by false e = refl

pushed-split : (xs ys : List Reduced) → pushed_in (xs ++ ys) ≡ pushed_in xs ++ pushed_in ys
pushed-split [] ys = refl
pushed-split (r ∷ xs) ys = by r.own (pushed-split xs ys)
  where
    by : (b : Bool) → pushed_in (xs ++ ys) ≡ pushed_in xs ++ pushed_in ys → cond b (pushed_in (xs ++ ys)) (r.variables ++ pushed_in (xs ++ ys)) ≡ cond b (pushed_in xs) (r.variables ++ pushed_in xs) ++ pushed_in ys
    by true h = h
    by false h = ap (λ l. r.variables ++ l) h ∙ sym (append-assoc r.variables (pushed_in xs) (pushed_in ys))

owned-split : (xs ys : List Reduced) → owned_in (xs ++ ys) ≡ owned_in xs ++ owned_in ys
owned-split [] ys = refl
owned-split (r ∷ xs) ys = by r.own (owned-split xs ys)
  where
    by : (b : Bool) → owned_in (xs ++ ys) ≡ owned_in xs ++ owned_in ys → cond b (r.variables ++ owned_in (xs ++ ys)) (owned_in (xs ++ ys)) ≡ cond b (r.variables ++ owned_in xs) (owned_in xs) ++ owned_in ys
    by true h = ap (λ l. r.variables ++ l) h ∙ sym (append-assoc r.variables (owned_in xs) (owned_in ys))
    by false h = h

with-first : (pushed : List ℕ) (a : Reduced) (xs ys : List Reduced) → agrees_with pushed a (xs ++ ys) ≡ true → agrees_with pushed a xs ≡ true
with-first pushed a [] ys h = refl
with-first pushed a (x ∷ xs) ys h = let r = both-true _ (agrees_with pushed a (xs ++ ys)) h in and-true _ (agrees_with pushed a xs) r.0 (with-first pushed a xs ys r.1)

agree-first : (pushed : List ℕ) (xs ys : List Reduced) → all_agree_with pushed (xs ++ ys) ≡ true → all_agree_with pushed xs ≡ true
agree-first pushed [] ys h = refl
agree-first pushed (x ∷ xs) ys h =
    let r = both-true (agrees_with pushed x (xs ++ ys)) (all_agree_with pushed (xs ++ ys)) h in
    and-true (agrees_with pushed x xs) (all_agree_with pushed xs) (with-first pushed x xs ys r.0) (agree-first pushed xs ys r.1)

agree-second : (pushed : List ℕ) (xs ys : List Reduced) → all_agree_with pushed (xs ++ ys) ≡ true → all_agree_with pushed ys ≡ true
agree-second pushed [] ys h = h
agree-second pushed (x ∷ xs) ys h = agree-second pushed xs ys (both-true (agrees_with pushed x (xs ++ ys)) (all_agree_with pushed (xs ++ ys)) h).1

-- ---- own statements have no inner loop

body-plain : (n : ℕ) (s : Stmt) → is_own_body n s ≡ true → no_inner s ≡ true
body-plain n (Then a b) h = let r = both-true (is_own_body n a) (is_own_body n b) h in and-true (no_inner a) (no_inner b) (body-plain n a r.0) (body-plain n b r.1)
body-plain n (If k c a b) h = let r = both-true (is_own_body n a) (is_own_body n b) h in and-true (no_inner a) (no_inner b) (body-plain n a r.0) (body-plain n b r.1)
body-plain n (Foreach k at hd test body) h = absurd (both_ways false refl h)
body-plain n s h = refl

own-plain : (n : ℕ) (s : Stmt) → is_own_code n s ≡ true → no_inner s ≡ true
own-plain n (Then a b) h = let r = both-true (is_own_code n a) (is_own_code n b) h in and-true (no_inner a) (no_inner b) (own-plain n a r.0) (own-plain n b r.1)
own-plain n (If k c a b) h = body-plain n (If k c a b) h
own-plain n (Foreach k at hd test body) h = absurd (both_ways false refl h)
own-plain n s h = refl

module _ (ds : List Declaration) (n : ℕ) where
  -- ---- what is changed and given is touched

  once-touched : (inner : Bool) (ts : List Target) → Under (written_at_once ds n inner ts) (variables_of ts)
  once-touched inner ts = by (are_at_once ds n inner ts)
    where
      by : (b : Bool) → Under (cond b (variables_of ts) []) (variables_of ts)
      by true x i = i
      by false x i = absurd i

  left-touched : (s : Stmt) → Under (left ds n s) (touched s)
  left-touched (Then a b) = under-both (left ds n a) (left ds n b) (touched a) (touched b) (left-touched a) (left-touched b)
  left-touched (If k c a b) = under-both (left ds n a) (left ds n b) (touched a) (touched b) (left-touched a) (left-touched b)
  left-touched (Declare k x e) = λ y i. i
  left-touched (Assign k t e) = λ y i. i
  left-touched (Combine k total r ts es) = once-touched false ts
  left-touched s = λ y i. absurd i

  pub written-touched : (s : Stmt) → Under (written ds n true s) (touched s)
  written-touched (Then a b) = under-both (written ds n true a) (written ds n true b) (touched a) (touched b) (written-touched a) (written-touched b)
  written-touched (If k c a b) = under-both (written ds n true a) (written ds n true b) (touched a) (touched b) (written-touched a) (written-touched b)
  written-touched (Declare k x e) = λ y i. i
  written-touched (Assign k t e) = λ y i. i
  written-touched (Combine k total r ts es) = once-touched true ts
  written-touched (Foreach k at hd test body) = written-touched body
  written-touched s = λ y i. absurd i

  -- f: the variables of some reductions
  module _ (f : List Reduced → List ℕ) (nothing : f [] ≡ []) (one : (r : Reduced) → Under (f (r ∷ [])) r.variables) (split : (xs ys : List Reduced) → f (xs ++ ys) ≡ f xs ++ f ys) where
    none : (x : ℕ) → IsIn x (f []) → ⊥
    none x i = subst (IsIn x) nothing i

    both : (a b : List Reduced) (ys zs : List ℕ) → Under (f a) ys → Under (f b) zs → Under (f (a ++ b)) (ys ++ zs)
    both a b ys zs u w x i = under-both (f a) (f b) ys zs u w x (subst (IsIn x) (split a b) i)

    given-touched : (inner : Bool) (s : Stmt) → Under (f (reduced ds n inner s)) (touched s)
    given-touched inner (Then a b) = both (reduced ds n inner a) (reduced ds n inner b) (touched a) (touched b) (given-touched inner a) (given-touched inner b)
    given-touched inner (If k c a b) = both (reduced ds n inner a) (reduced ds n inner b) (touched a) (touched b) (given-touched inner a) (given-touched inner b)
    given-touched inner (Foreach k at hd test body) = given-touched true body
    given-touched inner (Combine k total r ts es) = by (are_at_once ds n inner ts)
      where
        by : (b : Bool) → Under (f (cond b [] (reduced_by ds n total.key.statement r ts ∷ []))) (variables_of ts)
        by true x i = absurd (none x i)
        by false x i = one (reduced_by ds n total.key.statement r ts) x i
    given-touched inner s = λ x i. absurd (none x i)

  alone : (b : Bool) (xs : List ℕ) → Under (cond b [] (xs ++ [])) xs
  alone true xs x i = absurd i
  alone false xs x i = ⊎_elim (λ j. j) (λ j. absurd j) (in-either x xs [] i)

  other : (b : Bool) (xs : List ℕ) → Under (cond b (xs ++ []) []) xs
  other false xs x i = absurd i
  other true xs x i = ⊎_elim (λ j. j) (λ j. absurd j) (in-either x xs [] i)

  pushed-touched : (s : Stmt) → Under (pushed_in (reduced ds n false s)) (touched s)
  pushed-touched = given-touched pushed_in refl (λ r. alone r.own r.variables) pushed-split false

  owned-touched : (s : Stmt) → Under (owned_in (reduced ds n false s)) (touched s)
  owned-touched = given-touched owned_in refl (λ r. other r.own r.variables) owned-split false

  changed-touched : (s : Stmt) → Under (changed ds n s) (touched s)
  changed-touched s x i = ⊎_elim (λ j. left-touched s x j) (λ j. owned-touched s x j) (in-either x (left ds n s) (owned_in (reduced ds n false s)) i)

  elsewhere-touched : (ts : List Target) → Under (elsewhere_of n ts) (variables_of ts)
  elsewhere-touched [] = λ y i. absurd i
  elsewhere-touched (T.Scalar x at ∷ ts) = λ y i. inr (elsewhere-touched ts y i)
  elsewhere-touched (T.Property x p at ∷ ts) = by (nat_eq x n) (elsewhere-touched ts)
    where
      by : (b : Bool) → Under (elsewhere_of n ts) (variables_of ts) → Under (cond b (elsewhere_of n ts) (p ∷ elsewhere_of n ts)) (p ∷ variables_of ts)
      by true u y i = inr (u y i)
      by false u y i = ⊎_elim (λ (e : y ≡ p). inl e) (λ j. inr (u y j)) i

  pub properties-touched : (s : Stmt) → Under (pushed_properties n s) (touched s)
  properties-touched (Then a b) = under-both (pushed_properties n a) (pushed_properties n b) (touched a) (touched b) (properties-touched a) (properties-touched b)
  properties-touched (If k c a b) = under-both (pushed_properties n a) (pushed_properties n b) (touched a) (touched b) (properties-touched a) (properties-touched b)
  properties-touched (Combine k total r ts es) = elsewhere-touched ts
  properties-touched (Foreach k at hd test body) = properties-touched body
  properties-touched s = λ y i. absurd i

  -- ---- what is known of parts

  abbrev P : Stmt → List Read
  P s = (sights_of ds n false s).properties

  abbrev S : Stmt → List ℕ
  S s = (sights_of ds n false s).scalars

  abbrev R : Stmt → List Reduced
  R s = reduced ds n false s

  abbrev its : List ℕ
  its = n ∷ []

  -- k: the loop's key; at: the place of its head; pushed: what the whole pushes
  module _ (k : Key) (at : Place) (pushed : List ℕ) (low : (y : ℕ) → IsIn y pushed → y < length ds) (away : IsIn n pushed → ⊥) (deep : nat_lt (depth_at ds n) 2 ≡ true) where
    pub record Facts (s : Stmt) : Type 0 where
      pub form : is_outer_body ds false n s ≡ true
      pub below : NamesBelow (length ds) s
      pub order : body_in_order its s ≡ true
      pub ahead : leads its k at s ≡ true
      pub nothing : is_nil (deferred s) ≡ true
      pub keeps : keeps_iterators s ≡ true
      pub off : IsIn n (touched s) → ⊥
      pub agree : all_agree_with pushed (R s) ≡ true
      pub mine : list_all (is_in pushed) (pushed_properties n s) ≡ true
      pub spare : disjoint (pushed_in (R s) ++ pushed) (read_anywhere (P s) ++ (S s ++ left ds n s)) ≡ true
      pub apart : disjoint (changed ds n s) (read_elsewhere n (P s)) ≡ true
      pub whole : reduces_whole ds n pushed false s ≡ true
      pub alike : targets_alike s ≡ true

    -- what an outer part reads, gives and leaves is at most what the whole does
    record Part (s t : Stmt) : Type 0 where
      anywhere : Under (read_anywhere (P t)) (read_anywhere (P s))
      elsewhere : Under (read_elsewhere n (P t)) (read_elsewhere n (P s))
      scalars : Under (S t) (S s)
      leaves : Under (left ds n t) (left ds n s)
      pushes : Under (pushed_in (R t)) (pushed_in (R s))
      owns : Under (owned_in (R t)) (owned_in (R s))

    more-spare : (s t : Stmt) → Part s t → disjoint (pushed_in (R s) ++ pushed) (read_anywhere (P s) ++ (S s ++ left ds n s)) ≡ true → disjoint (pushed_in (R t) ++ pushed) (read_anywhere (P t) ++ (S t ++ left ds n t)) ≡ true
    more-spare s t p h =
        fewer-apart (pushed_in (R t) ++ pushed) (read_anywhere (P t) ++ (S t ++ left ds n t)) (pushed_in (R s) ++ pushed) (read_anywhere (P s) ++ (S s ++ left ds n s))
        (under-both (pushed_in (R t)) pushed (pushed_in (R s)) pushed p.pushes (λ y i. i))
        (under-both (read_anywhere (P t)) (S t ++ left ds n t) (read_anywhere (P s)) (S s ++ left ds n s) p.anywhere
        (under-both (S t) (left ds n t) (S s) (left ds n s) p.scalars p.leaves)) h

    more-apart : (s t : Stmt) → Part s t → disjoint (changed ds n s) (read_elsewhere n (P s)) ≡ true → disjoint (changed ds n t) (read_elsewhere n (P t)) ≡ true
    more-apart s t p h =
        fewer-apart (changed ds n t) (read_elsewhere n (P t)) (changed ds n s) (read_elsewhere n (P s))
        (under-both (left ds n t) (owned_in (R t)) (left ds n s) (owned_in (R s)) p.leaves p.owns)
        p.elsewhere h

    itself : (xs ys : List ℕ) → xs ++ ys ≡ xs ++ ys
    itself xs ys = refl

    first-part : (a b : Stmt) → Part (Then a b) a
    first-part a b = record {
      anywhere = listed-first read_anywhere anywhere-split (P a) (P b);
      elsewhere = listed-first (read_elsewhere n) (elsewhere-split n) (P a) (P b);
      scalars = listed-first (λ l. l) itself (S a) (S b);
      leaves = listed-first (λ l. l) itself (left ds n a) (left ds n b);
      pushes = listed-first pushed_in pushed-split (R a) (R b);
      owns = listed-first owned_in owned-split (R a) (R b);
    }

    second-part : (a b : Stmt) → Part (Then a b) b
    second-part a b = record {
      anywhere = listed-second read_anywhere anywhere-split (P a) (P b);
      elsewhere = listed-second (read_elsewhere n) (elsewhere-split n) (P a) (P b);
      scalars = listed-second (λ l. l) itself (S a) (S b);
      leaves = listed-second (λ l. l) itself (left ds n a) (left ds n b);
      pushes = listed-second pushed_in pushed-split (R a) (R b);
      owns = listed-second owned_in owned-split (R a) (R b);
    }

    -- both branches of an If, as a block
    branches-part : (j : Key) (c : Expr) (a b : Stmt) → Part (If j c a b) (Then a b)
    branches-part j c a b = record {
      anywhere = listed-second read_anywhere anywhere-split (reads_in c) (P a ++ P b);
      elsewhere = listed-second (read_elsewhere n) (elsewhere-split n) (reads_in c) (P a ++ P b);
      scalars = listed-second (λ l. l) itself (told_in c) (S a ++ S b);
      leaves = λ y i. i;
      pushes = λ y i. i;
      owns = λ y i. i;
    }

    facts-both : (a b : Stmt) → Facts (Then a b) → Facts a × Facts b
    facts-both a b f =
        let o = both-true (is_outer_body ds false n a) (is_outer_body ds false n b) f.form in
        let q = both-true (body_in_order its a) (body_in_order its b && lie_before (faults_of its a) (faults_of its b)) f.order in
        let l = both-true (leads its k at a) (leads its k at b) (sym (lie-second (fault_of k at ∷ []) (faults_of its a) (faults_of its b)) ∙ f.ahead) in
        let d = nil-both (deferred a) (deferred b) f.nothing in
        let i = both-true (keeps_iterators a) (keeps_iterators b) f.keeps in
        let m = all-append (is_in pushed) (pushed_properties n a) (pushed_properties n b) f.mine in
        let w = both-true (reduces_whole ds n pushed false a) (reduces_whole ds n pushed false b) f.whole in
        let t = both-true (targets_alike a) (targets_alike b) f.alike in (
          record {
            form = o.0;
            below = f.below.0;
            order = q.0;
            ahead = l.0;
            nothing = d.0;
            keeps = i.0;
            off = λ j. f.off (in-left n (touched a) (touched b) j);
            agree = agree-first pushed (R a) (R b) f.agree;
            mine = m.0;
            spare = more-spare (Then a b) a (first-part a b) f.spare;
            apart = more-apart (Then a b) a (first-part a b) f.apart;
            whole = w.0;
            alike = t.0;
          },
          record {
            form = o.1;
            below = f.below.1;
            order = (both-true (body_in_order its b) (lie_before (faults_of its a) (faults_of its b)) q.1).0;
            ahead = l.1;
            nothing = d.1;
            keeps = i.1;
            off = λ j. f.off (in-right n (touched a) (touched b) j);
            agree = agree-second pushed (R a) (R b) f.agree;
            mine = m.1;
            spare = more-spare (Then a b) b (second-part a b) f.spare;
            apart = more-apart (Then a b) b (second-part a b) f.apart;
            whole = w.1;
            alike = t.1;
          },
        )

    facts-branches : (j : Key) (c : Expr) (a b : Stmt) → Facts (If j c a b) → Facts (Then a b)
    facts-branches j c a b f =
        let lies = lie_before (faults_in c j) (faults_of its a ++ faults_of its b) && lie_before (faults_of its a) (faults_of its b) in
        let o = both-true (in_order c j) (body_in_order its a && (body_in_order its b && lies)) f.order in
        let q = both-true (body_in_order its a) (body_in_order its b && lies) o.1 in
        let r = both-true (body_in_order its b) lies q.1 in
        let u = both-true (lie_before (faults_in c j) (faults_of its a ++ faults_of its b)) (lie_before (faults_of its a) (faults_of its b)) r.1 in
        let l = both-true (lie_before (fault_of k at ∷ []) (faults_in c j)) (lie_before (fault_of k at ∷ []) (faults_of its a ++ faults_of its b)) (sym (lie-second (fault_of k at ∷ []) (faults_in c j) (faults_of its a ++ faults_of its b)) ∙ f.ahead) in
        record {
          form = (both-true (is_flat (n ∷ []) false c) (is_outer_body ds false n a && is_outer_body ds false n b) f.form).1;
          below = (f.below.1, f.below.2);
          order = and-true (body_in_order its a) (body_in_order its b && lie_before (faults_of its a) (faults_of its b)) q.0 (and-true (body_in_order its b) (lie_before (faults_of its a) (faults_of its b)) r.0 u.1);
          ahead = l.1;
          nothing = f.nothing;
          keeps = f.keeps;
          off = f.off;
          agree = f.agree;
          mine = f.mine;
          spare = more-spare (If j c a b) (Then a b) (branches-part j c a b) f.spare;
          apart = more-apart (If j c a b) (Then a b) (branches-part j c a b) f.apart;
          whole = f.whole;
          alike = f.alike;
        }

    -- a cut between two parts
    cut-there : (a b : Stmt) → Facts (Then a b) → locals_stay ds n a b ≡ true → can_cut ds n (length ds) k at pushed a b ≡ true
    cut-there a b f stay =
        let s = Then a b in
        let m = length ds in
        let mask = Property n m at in
        let given = pushed_in (R s) ++ pushed in
        let seen = read_anywhere (P s) ++ (S s ++ left ds n s) in
        let fresh : (y : ℕ) → IsIn y (touched s) → y < m = touched-below m s f.below in
        let given-low : (y : ℕ) → IsIn y given → y < m = λ y i. ⊎_elim (λ j. fresh y (pushed-touched s y j)) (λ j. low y j) (in-either y (pushed_in (R s)) pushed i) in
        let itself-out : (y : ℕ) → y < m → y ≡ m → ⊥ = λ y l e. omega (arith, l, e) in
        let given-off : IsIn n given → ⊥ = λ i. ⊎_elim (λ j. f.off (pushed-touched s n j)) (λ j. away j) (in-either n (pushed_in (R s)) pushed i) in
        let tail = S s ++ left ds n s in
        let seen' = read_anywhere (P s) ++ (n ∷ tail) in
        let c6 : disjoint given (m ∷ seen') ≡ true =
        apart-disjoint given (m ∷ seen') (λ y i j. ⊎_elim (λ e. itself-out y (given-low y i) e)
        (λ r. ⊎_elim (λ x. disjoint-apart given seen y f.spare i (in-left y (read_anywhere (P s)) tail x))
        (λ x. ⊎_elim (λ (e : y ≡ n). given-off (subst (λ z. IsIn z given) e i)) (λ z. disjoint-apart given seen y f.spare i (in-right y (read_anywhere (P s)) tail z)) x)
        (in-either y (read_anywhere (P s)) (n ∷ tail) r)) j) in
        let c7 : disjoint (changed ds n s) (read_elsewhere n (record { owner = n; property = m } ∷ P s)) ≡ true =
        ap (λ x. disjoint (changed ds n s) (cond x (read_elsewhere n (P s)) (m ∷ read_elsewhere n (P s)))) (eq-eqb n n refl) ∙ f.apart in
        let c9 : not (is_in (changed ds n s) n) ≡ true = not-in (changed ds n s) n (λ i. f.off (changed-touched s n i)) in
        let c10 : not (is_in (changed ds n a) m) ≡ true = not-in (changed ds n a) m (λ i. itself-out m (fresh m (in-left m (touched a) (touched b) (changed-touched a m i))) refl) in
        let order : loop_in_order its k mask s ≡ true = and-true true (body_in_order its s && lie_before [] (faults_of its s)) refl (and-true (body_in_order its s) (lie_before [] (faults_of its s)) f.order (empty-first (faults_of its s))) in
        let keeps = f.keeps in
        let t12 = and-true (reduces_whole ds n pushed false s) (keeps_iterators s) f.whole keeps in
        let t11 = and-true (disjoint (changed ds n a) (S b ++ reduced_locals ds b)) (reduces_whole ds n pushed false s && keeps_iterators s) stay t12 in
        let t10 = and-true (not (is_in (changed ds n a) m)) _ c10 t11 in
        let t9 = and-true (not (is_in (changed ds n s) n)) _ c9 t10 in
        let t8 = and-true (nat_lt (depth_at ds n) 2) _ deep t9 in
        let t7 = and-true (disjoint (changed ds n s) (read_elsewhere n (record { owner = n; property = m } ∷ P s))) _ c7 t8 in
        let t6 = and-true (disjoint given (m ∷ seen')) _ c6 t7 in
        let t5 = and-true (list_all (is_in pushed) (pushed_properties n s)) _ f.mine t6 in
        let t4 = and-true (all_agree_with pushed (R s)) _ f.agree t5 in
        let t3 = and-true (loop_in_order its k mask s) _ order t4 in
        let t2 = and-true (is_nil (deferred s)) _ f.nothing t3 in
        and-true (is_outer_body ds false n s) _ f.form t2
      where
        empty-first : (xs : List _) → lie_before [] xs ≡ true
        empty-first [] = refl
        empty-first (x ∷ xs) = empty-first xs

    -- ---- parts that stand

    abbrev own : Stmt → Bool
    own s = is_own_loop n s

    -- kind: which inner loops are let; here: the place of the other side of a condition
    module _ (kind : Kind) (here : Place) where
      abbrev Stands : Expr → Stmt → Type 0
      Stands mask s = stands own here ds pushed n mask s ≡ true

      plain-stands : (mask : Expr) (s : Stmt) → is_certain (n ∷ []) mask ≡ true → Facts s → no_inner s ≡ true → Stands mask s
      plain-stands mask s sure f plain =
          and-true (is_certain (n ∷ []) mask) (is_outer_body ds false n s && (no_inner s || is_lone ds pushed n s)) sure
          (and-true (is_outer_body ds false n s) (no_inner s || is_lone ds pushed n s) f.form (ap (λ b. b || is_lone ds pushed n s) plain))

      own-stands : (mask : Expr) (s : Stmt) → is_certain (n ∷ []) mask ≡ true → Facts s → own s ≡ true → Stands mask s
      own-stands mask s sure f o = plain-stands mask s sure f (own-plain n s (both-true (is_own_code n s) (adds_last (n ∷ []) s) o).0)

      lone-stands : (mask : Expr) (j : Key) (p : Place) (hd : Head) (test : Expr) (body : Stmt) → is_certain (n ∷ []) mask ≡ true → Facts (Foreach j p hd test body) → list_all (piece_is_parted kind ds n) (piece mask (Foreach j p hd test body)) ≡ true → Stands mask (Foreach j p hd test body)
      lone-stands mask j p hd test body sure f c =
          let s = Foreach j p hd test body in
          let a = both-true (piece_is_parted kind ds n (record { mask = mask; part = s })) true c in
          let b = both-true (is_mask n mask) (is_parted kind ds n mask s) a.0 in
          let d = both-true (is_flat_loop ds false n mask s) (is_own_loop n s || (is_mask n mask && stands_along kind ds n mask s)) b.1 in
          let e = both-true (is_mask n mask) (stands_along kind ds n mask s) d.1 in
          let edge = knows_no_locals ds n hd.iterator mask test body && (mask_stays n mask hd body && (has_plain_locals ds n test body && all_one (reduced ds n true body))) in
          let g = both-true (kind ds n hd test body) edge e.1 in
          let i = both-true (knows_no_locals ds n hd.iterator mask test body) (mask_stays n mask hd body && (has_plain_locals ds n test body && all_one (reduced ds n true body))) g.1 in
          let l = both-true (mask_stays n mask hd body) (has_plain_locals ds n test body && all_one (reduced ds n true body)) i.1 in
          let q = both-true (has_plain_locals ds n test body) (all_one (reduced ds n true body)) l.1 in
          let reads = n ∷ (hd.iterator ∷ (read_anywhere (reads_in mask) ++ told_in mask)) in
          let off = both-true (disjoint (touched body) reads) (not (is_in (told_in mask) hd.iterator)) l.0 in
          let kept : not (is_in (written ds n true body) n) ≡ true = not-in (written ds n true body) n (λ w. disjoint-apart (touched body) reads n off.0 (written-touched body n w) (inl refl)) in
          let rest : all_one (reduced ds n true body) && (targets_alike body && not (is_in (written ds n true body) n)) ≡ true =
          and-true (all_one (reduced ds n true body)) (targets_alike body && not (is_in (written ds n true body) n)) q.1 (and-true (targets_alike body) (not (is_in (written ds n true body) n)) f.alike kept) in
          let ours : stands_alone ds pushed n body ≡ true = and-true (list_all (is_in pushed) (pushed_properties n body)) _ f.mine rest in
          let mine : stands_alone ds (pushed_properties n body) n body ≡ true = and-true (list_all (is_in (pushed_properties n body)) (pushed_properties n body)) _ (all-in (pushed_properties n body) (pushed_properties n body) (λ y z. z)) rest in
          and-true (is_certain (n ∷ []) mask) (is_outer_body ds false n s && is_lone ds pushed n s) sure
          (and-true (is_outer_body ds false n s) (is_lone ds pushed n s) f.form (and-true (stands_alone ds pushed n body) (stands_alone ds (pushed_properties n body) n body) ours mine))

      abbrev pieces : Expr → Stmt → List Piece
      pieces mask s = pieces_of own here mask s

      abbrev may : Expr → Stmt → Bool
      may mask s = may_part own here ds n (length ds) k at pushed mask s

      abbrev Goal : Expr → Stmt → Type 0
      Goal mask s = is_certain (n ∷ []) mask ≡ true → Facts s → falls_apart ds n here mask s ≡ true → list_all (piece_is_parted kind ds n) (pieces mask s) ≡ true → may mask s ≡ true

      pub parts-may : (s : Stmt) (mask : Expr) → Goal mask s
      parts-may Skip mask sure f h c = sure
      parts-may (Then a b) mask sure f h c = by (own (Then a b)) refl h c (parts-may a mask) (parts-may b mask)
        where
          by : (o : Bool) → own (Then a b) ≡ o → o || (locals_stay ds n a b && (is_stable n a mask && (falls_apart ds n here mask a && falls_apart ds n here mask b))) ≡ true →
              list_all (piece_is_parted kind ds n) (cond o (piece mask (Then a b)) (pieces mask a ++ pieces mask b)) ≡ true → Goal mask a → Goal mask b →
              cond o (stands own here ds pushed n mask (Then a b)) (can_cut ds n (length ds) k at pushed a b && (is_stable n a mask && (may mask a && may mask b))) ≡ true
          by true o h c first second = own-stands mask (Then a b) sure f o
          by false o h c first second =
              let r = both-true (locals_stay ds n a b) (is_stable n a mask && (falls_apart ds n here mask a && falls_apart ds n here mask b)) h in
              let q = both-true (is_stable n a mask) (falls_apart ds n here mask a && falls_apart ds n here mask b) r.1 in
              let t = both-true (falls_apart ds n here mask a) (falls_apart ds n here mask b) q.1 in
              let d = all-append (piece_is_parted kind ds n) (pieces mask a) (pieces mask b) c in
              let g = facts-both a b f in
              and-true (can_cut ds n (length ds) k at pushed a b) (is_stable n a mask && (may mask a && may mask b)) (cut-there a b f r.0)
              (and-true (is_stable n a mask) (may mask a && may mask b) q.0 (and-true (may mask a) (may mask b) (first sure g.0 t.0 d.0) (second sure g.1 t.1 d.1)))
      parts-may (If j e a b) mask sure f h c = by (own (If j e a b)) refl h c (parts-may a (Both mask e)) (parts-may b (Both mask (Unary Not here e)))
        where
          by : (o : Bool) → own (If j e a b) ≡ o →
              o || (locals_stay ds n a b && (is_stable n a mask && (is_stable n a e && (falls_apart ds n here (Both mask e) a && falls_apart ds n here (Both mask (Unary Not here e)) b)))) ≡ true →
              list_all (piece_is_parted kind ds n) (cond o (piece mask (If j e a b)) (pieces (Both mask e) a ++ pieces (Both mask (Unary Not here e)) b)) ≡ true → Goal (Both mask e) a → Goal (Both mask (Unary Not here e)) b →
              cond o (stands own here ds pushed n mask (If j e a b)) (can_cut ds n (length ds) k at pushed a b && (is_stable n a mask && (is_stable n a e && (may (Both mask e) a && may (Both mask (Unary Not here e)) b)))) ≡ true
          by true o h c first second = own-stands mask (If j e a b) sure f o
          by false o h c first second =
              let x = falls_apart ds n here (Both mask e) a in
              let y = falls_apart ds n here (Both mask (Unary Not here e)) b in
              let r = both-true (locals_stay ds n a b) (is_stable n a mask && (is_stable n a e && (x && y))) h in
              let q = both-true (is_stable n a mask) (is_stable n a e && (x && y)) r.1 in
              let u = both-true (is_stable n a e) (x && y) q.1 in
              let t = both-true x y u.1 in
              let certain = both-true (is_certain (n ∷ []) e) (not (is_in (touched a) n) && spares (touched a) e) u.0 in
              let yes : is_certain (n ∷ []) (Both mask e) ≡ true = and-true (is_certain (n ∷ []) mask) (is_certain (n ∷ []) e) sure certain.0 in
              let d = all-append (piece_is_parted kind ds n) (pieces (Both mask e) a) (pieces (Both mask (Unary Not here e)) b) c in
              let z = facts-branches j e a b f in
              let g = facts-both a b z in
              and-true (can_cut ds n (length ds) k at pushed a b) (is_stable n a mask && (is_stable n a e && (may (Both mask e) a && may (Both mask (Unary Not here e)) b))) (cut-there a b z r.0)
              (and-true (is_stable n a mask) (is_stable n a e && (may (Both mask e) a && may (Both mask (Unary Not here e)) b)) q.0
              (and-true (is_stable n a e) (may (Both mask e) a && may (Both mask (Unary Not here e)) b) u.0
              (and-true (may (Both mask e) a) (may (Both mask (Unary Not here e)) b) (first yes g.0 t.0 d.0) (second yes g.1 t.1 d.1))))
      parts-may (Foreach j p hd test body) mask sure f h c = lone-stands mask j p hd test body sure f c
      parts-may s mask sure f h c = plain-stands mask s sure f refl
