-- What messages carry is what their receivers read of the sender, and senders can read it; and what is asked at the outer node of an edge is at hand there.
use Rattle.std.proofs.Common.{◌≡◌, ◌⊎◌, inl, inr, ℕ, ◌+◌, Bool, true, false, Some, None, List, [], ◌∷◌, ◌++◌, length, refl, ap, ◌∙◌, sym, ⊎_elim}
use Rattle.std.specs.Prelude.{◌&&◌, not, nat_eq, nat_lt, if◌then◌else◌}
use Rattle.std.specs.List.{list_all, list_any}
use Rattle.std.proofs.lemmas.Bool.{both_ways, and_from, or_left, or_right, eqb-true, eq-eqb}
use Rattle.gm_value.specs.Bag.{IsIn}
use Rattle.gm_ast.specs.declared.tree.Declaration.{Declaration}
use Rattle.gm_ast.specs.declared.tree.Direction.TheVariants as D
use Rattle.gm_ast.specs.declared.tree.Sort.TheVariants as Sorts
use Rattle.gm_ast.specs.Names.{is}
use Rattle.gm_ast.specs.Program as S
use Rattle.gm_ast.specs.Program.{Expr, Stmt, Program}
use Rattle.gm_ast.specs.Ways.{is_in}
use Rattle.gm_forms.proofs.Named.{both-true, all-append}
use Rattle.gm_forms.specs.Forms.{depth_at, is_flat, is_within, are_reduced, is_inner_given, is_inner_body, is_inner_local as is_deep}
use Rattle.gm_forms.specs.Uses.{Written, Owner, NodeValue, EdgeName, EdgeValue, use_as, uses_in, uses_in_all, uses_of_target, uses_of_targets, uses_of}
use Rattle.gm_semantics.specs.Statements.{variable_at}
use Rattle.gm_lowering.specs.Layouts.{Layout, layout}
use Rattle.gm_lowering.specs.Plans.{Load, SenderItself, SenderProperty, SenderDegree, same_load, load_if, loads_in, loads_in_all, loads_of, first_loads, carried, EdgeValue as TheEdge}
use Rattle.gm_lowering.specs.Sites.{finds}
use Rattle.gm_lowering.specs.MessageLoops.{has_load, receiver_finds}
use Rattle.gm_lowering.specs.HomeTurns.{is_at_edge, home_finds}
use Rattle.gm_lowering.specs.TwoSupersteps.{is_readable}
use Rattle.gm_plain_loops.specs.Tests.{asks_inside, end_together, total_follows, suits_body, goes_well}
use Rattle.gm_plain_loops.proofs.Names.{Fine, split, role-of, below, has-field, found, or-split}
use Rattle.gm_plain_loops.proofs.Inners.{exprs_pass}

-- ---- what messages carry

itself : (x : Load) → same_load x x ≡ true
itself SenderItself = refl
itself (SenderProperty q) = eq-eqb q q refl
itself (SenderDegree D.Out) = refl
itself (SenderDegree D.In) = refl
itself (TheEdge q) = eq-eqb q q refl

-- a load is carried, if it is not among some before
carries-first : (before xs : List Load) (x : Load) → IsIn x xs → (has_load before x ≡ true) ⊎ (has_load (first_loads before xs) x ≡ true)
carries-first before [] x i = absurd i
carries-first before (y ∷ ys) x i = by (list_any (same_load y) before) refl (carries-first before ys x) (carries-first (y ∷ before) ys x) i where
  by : (b : Bool) → list_any (same_load y) before ≡ b
      → (IsIn x ys → (has_load before x ≡ true) ⊎ (has_load (first_loads before ys) x ≡ true))
      → (IsIn x ys → (has_load (y ∷ before) x ≡ true) ⊎ (has_load (first_loads (y ∷ before) ys) x ≡ true))
      → IsIn x (y ∷ ys)
      → (has_load before x ≡ true) ⊎ (has_load (if b then first_loads before ys else y ∷ first_loads (y ∷ before) ys) x ≡ true)
  by true e same more j = ⊎_elim (λ (k : x ≡ y). inl (ap (λ z. list_any (same_load z) before) k ∙ e)) (λ (k : IsIn x ys). same k) j
  by false e same more j =
      ⊎_elim
      (λ (k : x ≡ y). inr (or_left (same_load x y) (has_load (first_loads (y ∷ before) ys) x) (ap (same_load x) (sym k) ∙ itself x)))
      (λ (k : IsIn x ys).
      ⊎_elim
      (λ (q : has_load (y ∷ before) x ≡ true). or-split (same_load x y) (has_load before x) q (λ s. inr (or_left (same_load x y) (has_load (first_loads (y ∷ before) ys) x) s)) (λ s. inl s))
      (λ (q : has_load (first_loads (y ∷ before) ys) x ≡ true). inr (or_right (same_load x y) (has_load (first_loads (y ∷ before) ys) x) q))
      (more k))
      j

carries-all : (xs ys : List Load) → ((x : Load) → IsIn x ys → IsIn x xs) → list_all (has_load (first_loads [] xs)) ys ≡ true
carries-all xs [] h = refl
carries-all xs (y ∷ ys) h =
    and_from (has_load (first_loads [] xs) y) (list_all (has_load (first_loads [] xs)) ys)
    (⊎_elim (λ (q : has_load [] y ≡ true). absurd (both_ways false refl q)) (λ (q : has_load (first_loads [] xs) y ≡ true). q) (carries-first [] xs y (h y (inl refl))))
    (carries-all xs ys (λ x i. h x (inr i)))

pub all-carried : (n : ℕ) (test : Expr) (body : Stmt) → list_all (has_load (carried n test body)) (loads_in n test ++ loads_of n body) ≡ true
all-carried n test body = carries-all (loads_in n test ++ loads_of n body) (loads_in n test ++ loads_of n body) (λ x i. i)

-- what is asked of some loads is asked of those that are carried
first-kept : (f : Load → Bool) (before xs : List Load) → list_all f xs ≡ true → list_all f (first_loads before xs) ≡ true
first-kept f before [] h = refl
first-kept f before (x ∷ xs) h =
    let q = both-true (f x) (list_all f xs) h in
    by (list_any (same_load x) before) q.0 (first-kept f before xs q.1) (first-kept f (x ∷ before) xs q.1) where
      by : (b : Bool) → f x ≡ true → list_all f (first_loads before xs) ≡ true → list_all f (first_loads (x ∷ before) xs) ≡ true → list_all f (if b then first_loads before xs else x ∷ first_loads (x ∷ before) xs) ≡ true
      by true e same more = same
      by false e same more = and_from (f x) (list_all f (first_loads (x ∷ before) xs)) e more

join-all : (f : Load → Bool) (xs ys : List Load) → list_all f xs ≡ true → list_all f ys ≡ true → list_all f (xs ++ ys) ≡ true
join-all f [] ys h k = k
join-all f (x ∷ xs) ys h k = let q = both-true (f x) (list_all f xs) h in and_from (f x) (list_all f (xs ++ ys)) q.0 (join-all f xs ys q.1 k)

if-all : (f : Load → Bool) (n x : ℕ) (l : Load) → f l ≡ true → list_all f (load_if n x l) ≡ true
if-all f n x l h = by (nat_eq x n) where
  by : (b : Bool) → list_all f (if b then l ∷ [] else []) ≡ true
  by true = and_from (f l) true h refl
  by false = refl

module _ (p : Program) where
  abbrev ds : List Declaration
  ds = p.declarations

  abbrev c : Layout
  c = layout p

  module _ (n : ℕ) where
    abbrev Readable : List Load → Type 0
    Readable xs = list_all (is_readable c) xs ≡ true

    readable-in : (e : Expr) → Fine p (uses_in e) → Readable (loads_in n e)
    readable-in (S.Const v) u = refl
    readable-in (S.Var x at) u = if-all (is_readable c) n x SenderItself refl
    readable-in (S.Property x q at) u = if-all (is_readable c) n x (SenderProperty q) (has-field p q (split p (use_as Owner x) (use_as NodeValue q) u).1)
    readable-in (S.EdgeProperty x q at) u =
        let v = (split p (use_as EdgeName x) (use_as EdgeValue q) u).1 in
        and_from (is_readable c (TheEdge q)) true (and_from (nat_lt q (length ds)) (is Sorts.EdgeProperty (variable_at ds q)) (below p EdgeValue q v) (role-of p EdgeValue q v)) refl
    readable-in (S.Degree d x at) u = if-all (is_readable c) n x (SenderDegree d) refl
    readable-in S.NodeCount u = refl
    readable-in S.EdgeCount u = refl
    readable-in (S.Live x at) u = if-all (is_readable c) n x SenderItself refl
    readable-in (S.Unary op at e) u = readable-in e u
    readable-in (S.Binary op at a b) u = let q = split p (uses_in a) (uses_in b) u in join-all (is_readable c) (loads_in n a) (loads_in n b) (readable-in a q.0) (readable-in b q.1)
    readable-in (S.Both a b) u = let q = split p (uses_in a) (uses_in b) u in join-all (is_readable c) (loads_in n a) (loads_in n b) (readable-in a q.0) (readable-in b q.1)
    readable-in (S.Either a b) u = let q = split p (uses_in a) (uses_in b) u in join-all (is_readable c) (loads_in n a) (loads_in n b) (readable-in a q.0) (readable-in b q.1)
    readable-in (S.Choose e a b) u =
        let q = split p (uses_in e) (uses_in a ++ uses_in b) u in
        let r = split p (uses_in a) (uses_in b) q.1 in
        join-all (is_readable c) (loads_in n e) (loads_in n a ++ loads_in n b) (readable-in e q.0) (join-all (is_readable c) (loads_in n a) (loads_in n b) (readable-in a r.0) (readable-in b r.1))
    readable-in (S.Folded f h t e) u = refl

    readable-all : (es : List Expr) → Fine p (uses_in_all es) → Readable (loads_in_all n es)
    readable-all [] u = refl
    readable-all (e ∷ es) u = let q = split p (uses_in e) (uses_in_all es) u in join-all (is_readable c) (loads_in n e) (loads_in_all n es) (readable-in e q.0) (readable-all es q.1)

    readable-of : (st : Stmt) → Fine p (uses_of st) → Readable (loads_of n st)
    readable-of (S.Then a b) u = let q = split p (uses_of a) (uses_of b) u in join-all (is_readable c) (loads_of n a) (loads_of n b) (readable-of a q.0) (readable-of b q.1)
    readable-of (S.Declare k x None) u = refl
    readable-of (S.Declare k x (Some e)) u = readable-in e (split p (use_as Written x) (uses_in e) u).1
    readable-of (S.Assign k t e) u = readable-in e (split p (uses_of_target t) (uses_in e) u).1
    readable-of (S.Combine k total r ts es) u = readable-all es (split p (uses_of_targets ts) (uses_in_all es) u).1
    readable-of (S.If k e a b) u =
        let q = split p (uses_in e) (uses_of a ++ uses_of b) u in
        let r = split p (uses_of a) (uses_of b) q.1 in
        join-all (is_readable c) (loads_in n e) (loads_of n a ++ loads_of n b) (readable-in e q.0) (join-all (is_readable c) (loads_of n a) (loads_of n b) (readable-of a r.0) (readable-of b r.1))
    readable-of S.Skip u = refl
    readable-of (S.DeclareEdge x z at) u = refl
    readable-of (S.Defer k t e) u = refl
    readable-of (S.Group k at g q e) u = refl
    readable-of (S.Foreach k at hd test body) u = refl
    readable-of (S.For k at hd test body) u = refl
    readable-of (S.While k at e body) u = refl
    readable-of (S.Do k at body e) u = refl
    readable-of (S.InBfs k at s test body) u = refl
    readable-of (S.InBfsBoth k at s test body bk bt back) u = refl
    readable-of (S.Return k at e) u = refl

    pub carried-readable : (test : Expr) (body : Stmt) → Fine p (uses_in test) → Fine p (uses_of body) → Readable (carried n test body)
    carried-readable test body u w = first-kept (is_readable c) [] (loads_in n test ++ loads_of n body) (join-all (is_readable c) (loads_in n test) (loads_of n body) (readable-in test u) (readable-of body w))

  -- ---- what a receiver finds

  module _ (n i : ℕ) (loads : List Load) (inner : Bool) where
    abbrev its : List ℕ
    its = n ∷ (i ∷ [])

    abbrev Covered : List Load → Type 0
    Covered xs = list_all (has_load loads) xs ≡ true

    abbrev finds_there : Expr → Bool
    finds_there e = receiver_finds c n i loads e

    pub there : (e : Expr) → is_flat its true e ≡ true → Fine p (uses_in e) → asks_inside ds its e ≡ true → Covered (loads_in n e) → finds_there e ≡ true
    there e f u h l = and_from (finds c its true e) (list_all (has_load loads) (loads_in n e)) (found p its true e f u h) l

    all-there : (es : List Expr) → list_all (is_flat its true) es ≡ true → Fine p (uses_in_all es) → list_all (asks_inside ds its) es ≡ true → Covered (loads_in_all n es) → list_all finds_there es ≡ true
    all-there [] f u h l = refl
    all-there (e ∷ es) f u h l =
        let f2 = both-true (is_flat its true e) (list_all (is_flat its true) es) f in
        let u2 = split p (uses_in e) (uses_in_all es) u in
        let h2 = both-true (asks_inside ds its e) (list_all (asks_inside ds its) es) h in
        let l2 = all-append (has_load loads) (loads_in n e) (loads_in_all n es) l in
        and_from (finds_there e) (list_all finds_there es) (there e f2.0 u2.0 h2.0 l2.0) (all-there es f2.1 u2.1 h2.1 l2.1)

    abbrev suits_it : Stmt → Bool
    suits_it st = suits_body ds inner its st

    abbrev is_inner : Stmt → Bool
    is_inner st = is_inner_body ds its true st

    pub body-there : (st : Stmt) → is_inner st ≡ true → Fine p (uses_of st) → suits_it st ≡ true → Covered (loads_of n st) → exprs_pass p finds_there st ≡ true
    body-there S.Skip f u h l = refl
    body-there (S.Then a b) f u h l =
        let f2 = both-true (is_inner a) (is_inner b) f in
        let u2 = split p (uses_of a) (uses_of b) u in
        let h2 = both-true (suits_it a) (suits_it b) h in
        let l2 = all-append (has_load loads) (loads_of n a) (loads_of n b) l in
        and_from (exprs_pass p finds_there a) (exprs_pass p finds_there b) (body-there a f2.0 u2.0 h2.0 l2.0) (body-there b f2.1 u2.1 h2.1 l2.1)
    body-there (S.Declare k x None) f u h l = refl
    body-there (S.Declare k x (Some e)) f u h l = there e (both-true (nat_eq (depth_at ds x) 2) (is_flat its true e) f).1 (split p (use_as Written x) (uses_in e) u).1 h l
    body-there (S.DeclareEdge x z at) f u h l = refl
    body-there (S.Assign k t e) f u h l = there e (both-true (is_deep ds t) (is_flat its true e) f).1 (split p (uses_of_target t) (uses_in e) u).1 h l
    body-there (S.Combine k total r ts es) f u h l =
        let f2 = both-true (are_reduced (is_inner_given ds) (is_within ds 2) r ts) (list_all (is_flat its true) es) f in
        let h1 = both-true (list_all (asks_inside ds its) es) (list_all (goes_well ds inner its) ts && (end_together ds ts && total_follows its k total ts es)) h in
        all-there es f2.1 (split p (uses_of_targets ts) (uses_in_all es) u).1 h1.0 l
    body-there (S.If k e a b) f u h l =
        let f1 = both-true (is_flat its true e) (is_inner a && is_inner b) f in
        let f2 = both-true (is_inner a) (is_inner b) f1.1 in
        let u1 = split p (uses_in e) (uses_of a ++ uses_of b) u in
        let u2 = split p (uses_of a) (uses_of b) u1.1 in
        let h1 = both-true (asks_inside ds its e) (suits_it a && suits_it b) h in
        let h2 = both-true (suits_it a) (suits_it b) h1.1 in
        let l1 = all-append (has_load loads) (loads_in n e) (loads_of n a ++ loads_of n b) l in
        let l2 = all-append (has_load loads) (loads_of n a) (loads_of n b) l1.1 in
        and_from (finds_there e) (exprs_pass p finds_there a && exprs_pass p finds_there b) (there e f1.0 u1.0 h1.0 l1.0)
        (and_from (exprs_pass p finds_there a) (exprs_pass p finds_there b) (body-there a f2.0 u2.0 h2.0 l2.0) (body-there b f2.1 u2.1 h2.1 l2.1))
    body-there (S.Defer k t e) f u h l = refl
    body-there (S.Group k at g q e) f u h l = refl
    body-there (S.Foreach k at hd test body) f u h l = refl
    body-there (S.For k at hd test body) f u h l = refl
    body-there (S.While k at e body) f u h l = refl
    body-there (S.Do k at body e) f u h l = refl
    body-there (S.InBfs k at s test body) f u h l = refl
    body-there (S.InBfsBoth k at s test body bk bt back) f u h l = refl
    body-there (S.Return k at e) f u h l = refl

  -- ---- what an each finds

  -- an expression that reads through the outer iterator alone reads of the inner one the node itself
  lone : (n i x : ℕ) (l : Load) → nat_eq i n ≡ false → is_in (n ∷ []) x ≡ true → list_all is_at_edge (load_if i x l) ≡ true
  lone n i x l d h = by (nat_eq x i) refl where
    by : (b : Bool) → nat_eq x i ≡ b → list_all is_at_edge (if b then l ∷ [] else []) ≡ true
    by false e = refl
    by true e =
        absurd (both_ways (nat_eq i n) d (ap (λ z. nat_eq z n) (sym (eqb-true x i e)) ∙ or-split (nat_eq x n) false h (λ k. k) (λ k. absurd (both_ways false refl k))))

  at-edges : (n i : ℕ) (edge : Bool) (e : Expr) → nat_eq i n ≡ false → is_flat (n ∷ []) edge e ≡ true → list_all is_at_edge (loads_in i e) ≡ true
  at-edges n i edge (S.Const v) d f = refl
  at-edges n i edge (S.Var x at) d f = if-all is_at_edge i x SenderItself refl
  at-edges n i edge (S.Property x q at) d f = lone n i x (SenderProperty q) d f
  at-edges n i edge (S.EdgeProperty x q at) d f = refl
  at-edges n i edge (S.Degree g x at) d f = lone n i x (SenderDegree g) d f
  at-edges n i edge S.NodeCount d f = refl
  at-edges n i edge S.EdgeCount d f = refl
  at-edges n i edge (S.Live x at) d f = if-all is_at_edge i x SenderItself refl
  at-edges n i edge (S.Unary op at e) d f = at-edges n i edge e d f
  at-edges n i edge (S.Binary op at a b) d f =
      let q = both-true (is_flat (n ∷ []) edge a) (is_flat (n ∷ []) edge b) f in join-all is_at_edge (loads_in i a) (loads_in i b) (at-edges n i edge a d q.0) (at-edges n i edge b d q.1)
  at-edges n i edge (S.Both a b) d f =
      let q = both-true (is_flat (n ∷ []) edge a) (is_flat (n ∷ []) edge b) f in join-all is_at_edge (loads_in i a) (loads_in i b) (at-edges n i edge a d q.0) (at-edges n i edge b d q.1)
  at-edges n i edge (S.Either a b) d f =
      let q = both-true (is_flat (n ∷ []) edge a) (is_flat (n ∷ []) edge b) f in join-all is_at_edge (loads_in i a) (loads_in i b) (at-edges n i edge a d q.0) (at-edges n i edge b d q.1)
  at-edges n i edge (S.Choose e a b) d f =
      let q = both-true (is_flat (n ∷ []) edge e) (is_flat (n ∷ []) edge a && is_flat (n ∷ []) edge b) f in
      let r = both-true (is_flat (n ∷ []) edge a) (is_flat (n ∷ []) edge b) q.1 in
      join-all is_at_edge (loads_in i e) (loads_in i a ++ loads_in i b) (at-edges n i edge e d q.0) (join-all is_at_edge (loads_in i a) (loads_in i b) (at-edges n i edge a d r.0) (at-edges n i edge b d r.1))
  at-edges n i edge (S.Folded w h t e) d f = refl

  module _ (n i : ℕ) (edge inner : Bool) (apart : nat_eq i n ≡ false) where
    abbrev both_its : List ℕ
    both_its = n ∷ (i ∷ [])

    abbrev finds_here : Expr → Bool
    finds_here e = home_finds c n i e

    pub here : (e : Expr) → is_flat both_its true e ≡ true → is_flat (n ∷ []) edge e ≡ true → Fine p (uses_in e) → asks_inside ds both_its e ≡ true → finds_here e ≡ true
    here e f g u h = and_from (finds c both_its true e) (list_all is_at_edge (loads_in i e)) (found p both_its true e f u h) (at-edges n i edge e apart g)

    all-here : (es : List Expr) → list_all (is_flat both_its true) es ≡ true → list_all (is_flat (n ∷ []) edge) es ≡ true → Fine p (uses_in_all es) → list_all (asks_inside ds both_its) es ≡ true → list_all finds_here es ≡ true
    all-here [] f g u h = refl
    all-here (e ∷ es) f g u h =
        let f2 = both-true (is_flat both_its true e) (list_all (is_flat both_its true) es) f in
        let g2 = both-true (is_flat (n ∷ []) edge e) (list_all (is_flat (n ∷ []) edge) es) g in
        let u2 = split p (uses_in e) (uses_in_all es) u in
        let h2 = both-true (asks_inside ds both_its e) (list_all (asks_inside ds both_its) es) h in
        and_from (finds_here e) (list_all finds_here es) (here e f2.0 g2.0 u2.0 h2.0) (all-here es f2.1 g2.1 u2.1 h2.1)

    abbrev suits_here : Stmt → Bool
    suits_here st = suits_body ds inner both_its st

    abbrev is_form : Stmt → Bool
    is_form st = is_inner_body ds both_its true st

    abbrev is_home_form : Stmt → Bool
    is_home_form st = is_inner_body ds (n ∷ []) edge st

    pub body-here : (st : Stmt) → is_form st ≡ true → is_home_form st ≡ true → Fine p (uses_of st) → suits_here st ≡ true → exprs_pass p finds_here st ≡ true
    body-here S.Skip f g u h = refl
    body-here (S.Then a b) f g u h =
        let f2 = both-true (is_form a) (is_form b) f in
        let g2 = both-true (is_home_form a) (is_home_form b) g in
        let u2 = split p (uses_of a) (uses_of b) u in
        let h2 = both-true (suits_here a) (suits_here b) h in
        and_from (exprs_pass p finds_here a) (exprs_pass p finds_here b) (body-here a f2.0 g2.0 u2.0 h2.0) (body-here b f2.1 g2.1 u2.1 h2.1)
    body-here (S.Declare k x None) f g u h = refl
    body-here (S.Declare k x (Some e)) f g u h =
        here e (both-true (nat_eq (depth_at ds x) 2) (is_flat both_its true e) f).1 (both-true (nat_eq (depth_at ds x) 2) (is_flat (n ∷ []) edge e) g).1 (split p (use_as Written x) (uses_in e) u).1 h
    body-here (S.DeclareEdge x z at) f g u h = refl
    body-here (S.Assign k t e) f g u h =
        here e (both-true (is_deep ds t) (is_flat both_its true e) f).1 (both-true (is_deep ds t) (is_flat (n ∷ []) edge e) g).1 (split p (uses_of_target t) (uses_in e) u).1 h
    body-here (S.Combine k total r ts es) f g u h =
        let f2 = both-true (are_reduced (is_inner_given ds) (is_within ds 2) r ts) (list_all (is_flat both_its true) es) f in
        let g2 = both-true (are_reduced (is_inner_given ds) (is_within ds 2) r ts) (list_all (is_flat (n ∷ []) edge) es) g in
        let h1 = both-true (list_all (asks_inside ds both_its) es) (list_all (goes_well ds inner both_its) ts && (end_together ds ts && total_follows both_its k total ts es)) h in
        all-here es f2.1 g2.1 (split p (uses_of_targets ts) (uses_in_all es) u).1 h1.0
    body-here (S.If k e a b) f g u h =
        let f1 = both-true (is_flat both_its true e) (is_form a && is_form b) f in
        let f2 = both-true (is_form a) (is_form b) f1.1 in
        let g1 = both-true (is_flat (n ∷ []) edge e) (is_home_form a && is_home_form b) g in
        let g2 = both-true (is_home_form a) (is_home_form b) g1.1 in
        let u1 = split p (uses_in e) (uses_of a ++ uses_of b) u in
        let u2 = split p (uses_of a) (uses_of b) u1.1 in
        let h1 = both-true (asks_inside ds both_its e) (suits_here a && suits_here b) h in
        let h2 = both-true (suits_here a) (suits_here b) h1.1 in
        and_from (finds_here e) (exprs_pass p finds_here a && exprs_pass p finds_here b) (here e f1.0 g1.0 u1.0 h1.0)
        (and_from (exprs_pass p finds_here a) (exprs_pass p finds_here b) (body-here a f2.0 g2.0 u2.0 h2.0) (body-here b f2.1 g2.1 u2.1 h2.1))
    body-here (S.Defer k t e) f g u h = refl
    body-here (S.Group k at gr q e) f g u h = refl
    body-here (S.Foreach k at hd test body) f g u h = refl
    body-here (S.For k at hd test body) f g u h = refl
    body-here (S.While k at e body) f g u h = refl
    body-here (S.Do k at body e) f g u h = refl
    body-here (S.InBfs k at s test body) f g u h = refl
    body-here (S.InBfsBoth k at s test body bk bt back) f g u h = refl
    body-here (S.Return k at e) f g u h = refl
