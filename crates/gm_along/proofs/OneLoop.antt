-- An inner loop whose support reads no edge against the way of a message: what is marked for it is what C7 counts.
use Rattle.std.proofs.Common.{◌≡◌, ◌⊎◌, ℕ, Bool, true, false, List, [], ◌∷◌, ◌++◌, refl, sym, ap, subst, ◌∙◌, Some, None, inl, inr}
use Rattle.std.specs.Prelude.{◌&&◌, ◌||◌, not, nat_eq, nat_lt, flat_map, if◌then◌else◌}
use Rattle.std.specs.List.{list_all, list_any}
use Rattle.std.proofs.lemmas.Bool.{both_ways, false≢true, or_cases, or_left, or_right, and_from, and_parts, eq-eqb}
use Rattle.gm_ast.specs.declared.tree.Declaration.{Declaration}
use Rattle.gm_ast.specs.declared.tree.Domain.{Domain}
use Rattle.gm_ast.specs.declared.tree.Head.{Head}
use Rattle.gm_ast.specs.declared.tree.Target.{Target}
use Rattle.gm_ast.specs.declared.tree.Target.TheVariants as T
use Rattle.gm_ast.specs.declared.ways.Way.TheVariants.{Push, Pull, Home}
use Rattle.gm_ast.specs.Loops.{any}
use Rattle.gm_ast.specs.Program.{Expr, Stmt, Then, Declare, Assign, Combine, If}
use Rattle.gm_ast.specs.Ways.{Mention, Alone, Through, OfEdge, mentions, variable_of, reads_through, is_edge_read, edge_reads, Action, held_of, actions, locals, is_in, all_local, owner_of, own_mentions, support, ends_with_loop, reductions_of, is_through, pulls_by_range, way_by, way_in, is_against, reads_against, edges_against}
use Rattle.gm_forms.specs.Forms.{depth_at}
use Rattle.gm_forms.specs.Sharing.{are_at_once, variables_of}
use Rattle.gm_ready.proofs.Judging.{append-empty}
use Rattle.gm_push_pull.specs.Tests.{Test, Neighbour, AnyEdge, passes_alone, passes}
use Rattle.gm_push_pull.specs.Sweeps.{compared, written, Demands}
use Rattle.gm_push_pull.proofs.Among.{Among, among-left, among-right, any-among, among-any, among-filter, any-append}
use Rattle.gm_push_pull.proofs.Bodies.{demands-closed}
use Rattle.gm_push_pull.proofs.Ors.{or-nothing}
use Rattle.gm_push_pull.proofs.Supports.{rests_on_such, least-closed, support-passes}
use Rattle.gm_one_way.specs.Along.{tells, told_of, are_marked, marks, parts_tell, goes_along, GoesAlong}

-- ---- tests that some member passes

any-more : {A : Type 0} (f g : A → Bool) → ((x : A) → f x ≡ true → g x ≡ true) → (xs : List A) → any f xs ≡ true → any g xs ≡ true
any-more f g h xs k = let r = among-any f xs k in any-among g r.0 xs r.1 (h r.0 r.2)

any-left : {A : Type 0} (f : A → Bool) (xs ys : List A) → any f xs ≡ true → any f (xs ++ ys) ≡ true
any-left f xs ys h = any-append f xs ys ∙ or_left (any f xs) (any f ys) h

any-right : {A : Type 0} (f : A → Bool) (xs ys : List A) → any f ys ≡ true → any f (xs ++ ys) ≡ true
any-right f xs ys h = any-append f xs ys ∙ or_right (any f xs) (any f ys) h

flat-none : {A B : Type 0} (f : A → List B) (x : A) (xs : List A) → flat_map f xs ≡ [] → Among x xs → f x ≡ []
flat-none f x [] h k = absurd k
flat-none f x (y ∷ ys) h (inl e) = ap f e ∙ (append-empty (f y) (flat_map f ys) h).0
flat-none f x (y ∷ ys) h (inr k) = flat-none f x ys (append-empty (f y) (flat_map f ys) h).1 k

no-edges : (ms : List Mention) → flat_map edge_reads ms ≡ [] → any is_edge_read ms ≡ false
no-edges [] h = refl
no-edges (Alone x ∷ ms) h = no-edges ms h
no-edges (Through x ∷ ms) h = no-edges ms h
no-edges (OfEdge x at ∷ ms) h = absurd (both_ways false refl (ap none h))
  where
    none : {A : Type 0} → List A → Bool
    none [] = true
    none (y ∷ ys) = false

-- ---- an inner body, and the locals that are its own

module _ (ds : List Declaration) (own : ℕ → Bool) where
  -- of scalars those are its own that are declared inside of two loops
  abbrev pub FitTargets : List Target → Type 0
  FitTargets [] = Unit {0}
  FitTargets (T.Scalar x at ∷ ts) = (nat_lt 1 (depth_at ds x) ≡ own x) × FitTargets ts
  FitTargets (T.Property x p at ∷ ts) = FitTargets ts

  -- it declares and assigns its own
  abbrev pub Fits : Stmt → Type 0
  Fits (Then a b) = Fits a × Fits b
  Fits (Declare k x e) = own x ≡ true
  Fits (Assign k (T.Scalar x at) e) = own x ≡ true
  Fits (Assign k (T.Property x p at) e) = false ≡ true
  Fits (Combine k total r ts es) = FitTargets ts
  Fits (If k c a b) = Fits a × Fits b
  Fits s = Unit {0}

-- ---- messages that go along an edge

less : (d : Domain) (th p reads : Bool) → not (is_against d (if th then Push else (if reads || p then Pull else Home))) ≡ true → not (is_against d (if th then Push else (if false || p then Pull else Home))) ≡ true
less d true p reads g = g
less d false true true g = g
less d false true false g = g
less d false false reads g = refl

-- what rests on fewer reads stands too
stands-less : (h : Head) (ts : List Target) (end edge reads reads_edge : Bool) → (end ≡ true → reads ≡ true) → (edge ≡ true → reads_edge ≡ true) → not (reads_edge && is_against h.domain (way_by h ts reads reads_edge)) ≡ true
    → not (edge && is_against h.domain (way_by h ts end edge)) ≡ true
stands-less h ts end false reads reads_edge f g k = refl
stands-less h ts end true reads reads_edge f g k = by end f (subst (λ b. not (b && is_against h.domain (way_by h ts reads b)) ≡ true) (g refl) k)
  where
    by : (end : Bool) → (end ≡ true → reads ≡ true) → not (is_against h.domain (way_by h ts reads true)) ≡ true → not (is_against h.domain (way_by h ts end true)) ≡ true
    by true f k = subst (λ b. not (is_against h.domain (way_by h ts b true)) ≡ true) (f refl) k
    by false f k = less h.domain (any (is_through h.iterator) ts) (pulls_by_range h.domain true) reads k

are-so : (f : ℕ → Bool) (told : Bool) (xs : List ℕ) → (told ≡ true → list_all f xs ≡ true) → not told || list_all f xs ≡ true
are-so f true xs h = h refl
are-so f false xs h = refl

all-so : (f : ℕ → Bool) (xs : List ℕ) → ((x : ℕ) → Among x xs → f x ≡ true) → list_all f xs ≡ true
all-so f [] h = refl
all-so f (x ∷ xs) h = and_from (f x) (list_all f xs) (h x (inl refl)) (all-so f xs (λ y k. h y (inr k)))

module _ (ds : List Declaration) (n i : ℕ) (own : List ℕ) where
  same-once : (ts : List Target) → FitTargets ds (is_in own) ts → are_at_once ds n true ts ≡ all_local own ts
  same-once [] f = refl
  same-once (T.Scalar x at ∷ ts) f = ap (λ b. b && are_at_once ds n true ts) f.0 ∙ ap (λ b. is_in own x && b) (same-once ts f.1)
  same-once (T.Property x p at ∷ ts) f = refl

  -- a scalar among targets that are all locals
  one-local : (ts : List Target) (x : ℕ) → all_local own ts ≡ true → Among x (variables_of ts) → (is_in own x ≡ true) × (written ts x ≡ true)
  one-local [] x h k = absurd k
  one-local (T.Property y p at ∷ ts) x h k = absurd (false≢true h)
  one-local (T.Scalar y at ∷ ts) x h (inl e) =
      let r = and_parts (is_in own y) (all_local own ts) h in (ap (is_in own) e ∙ r.0, or_left (nat_eq y x) (written ts x) (eq-eqb y x (sym e)))
  one-local (T.Scalar y at ∷ ts) x h (inr k) =
      let r = and_parts (is_in own y) (all_local own ts) h in
      let q = one-local ts x r.1 k in (q.0, or_right (nat_eq y x) (written ts x) q.1)

  -- t: which reads are asked of; B: the locals that rest on such
  module _ (t : Test) (B : ℕ → Bool) where
    abbrev told : Expr → Bool
    told e = told_of ds n (passes_alone i t) B e

    abbrev some : List Mention → Bool
    some ms = any (passes i t B) ms

    tells-passes : (m : Mention) → tells ds n (passes_alone i t) B m ≡ true → passes i t B m ≡ true
    tells-passes (Alone x) h = h
    tells-passes (Through x) h = h
    tells-passes (OfEdge x at) h = or_left (passes_alone i t (OfEdge x at)) (B x) (sym (or-nothing (passes_alone i t (OfEdge x at))) ∙ h)

    told-some : (e : Expr) → told e ≡ true → some (mentions e) ≡ true
    told-some e h = any-more (tells ds n (passes_alone i t) B) (passes i t B) tells-passes (mentions e) h

    each-some : (es : List Expr) → list_any told es ≡ true → some (flat_map mentions es) ≡ true
    each-some [] h = h
    each-some (e ∷ es) h = on (each-some es) (or_cases (told e) (list_any told es) h)
      where
        on : (list_any told es ≡ true → some (flat_map mentions es) ≡ true) → ((told e ≡ true) ⊎ (list_any told es ≡ true)) → some (mentions e ++ flat_map mentions es) ≡ true
        on go (inl k) = any-left (passes i t B) (mentions e) (flat_map mentions es) (told-some e k)
        on go (inr k) = any-right (passes i t B) (mentions e) (flat_map mentions es) (go k)

    held-some : (ts : List Target) → all_local own ts ≡ true → list_any B (variables_of ts) ≡ true → some (flat_map held_of ts) ≡ true
    held-some [] h k = k
    held-some (T.Property x p at ∷ ts) h k = absurd (false≢true h)
    held-some (T.Scalar x at ∷ ts) h k = on (held-some ts (and_parts (is_in own x) (all_local own ts) h).1) (or_cases (B x) (list_any B (variables_of ts)) k)
      where
        on : (list_any B (variables_of ts) ≡ true → some (flat_map held_of ts) ≡ true) → ((B x ≡ true) ⊎ (list_any B (variables_of ts) ≡ true)) → passes i t B (Alone x) || some (flat_map held_of ts) ≡ true
        on go (inl q) = or_left (passes i t B (Alone x)) (some (flat_map held_of ts)) (or_right (passes_alone i t (Alone x)) (B x) q)
        on go (inr q) = or_right (passes i t B (Alone x)) (some (flat_map held_of ts)) (go q)

    under : (f g : Bool) (e : Expr) → (f ≡ true → g ≡ true) → f || told e ≡ true → g || some (mentions e) ≡ true
    under f g e k h = on (or_cases f (told e) h)
      where
        on : ((f ≡ true) ⊎ (told e ≡ true)) → g || some (mentions e) ≡ true
        on (inl q) = or_left g (some (mentions e)) (k q)
        on (inr q) = or_right g (some (mentions e)) (told-some e q)

    compared-some : (f g : Bool) (ts : List Target) (es : List Expr) → (f ≡ true → g ≡ true) → all_local own ts ≡ true → f || (list_any B (variables_of ts) || list_any told es) ≡ true → g || some (compared ts es) ≡ true
    compared-some f g ts es k l h = on (or_cases f (list_any B (variables_of ts) || list_any told es) h)
      where
        values : ((list_any B (variables_of ts) ≡ true) ⊎ (list_any told es ≡ true)) → some (compared ts es) ≡ true
        values (inl q) = any-left (passes i t B) (flat_map held_of ts) (flat_map mentions es) (held-some ts l q)
        values (inr q) = any-right (passes i t B) (flat_map held_of ts) (flat_map mentions es) (each-some es q)

        on : ((f ≡ true) ⊎ (list_any B (variables_of ts) || list_any told es ≡ true)) → g || some (compared ts es) ≡ true
        on (inl q) = or_left g (some (compared ts es)) (k q)
        on (inr q) = or_right g (some (compared ts es)) (values (or_cases (list_any B (variables_of ts)) (list_any told es) q))

    -- what is written is marked
    marks-told : (f g : Bool) → (f ≡ true → g ≡ true) → (s : Stmt) → Fits ds (is_in own) s → Demands i (is_in own) t B s g → marks ds n (passes_alone i t) B f s ≡ true
    marks-told f g k (Then a b) l d = and_from (marks ds n (passes_alone i t) B f a) (marks ds n (passes_alone i t) B f b) (marks-told f g k a l.0 d.0) (marks-told f g k b l.1 d.1)
    marks-told f g k (Declare key x None) l d = are-so B f (x ∷ []) (λ q. and_from (B x) true (d x l (eq-eqb x x refl) (k q)) refl)
    marks-told f g k (Declare key x (Some e)) l d = are-so B (f || told e) (x ∷ []) (λ q. and_from (B x) true (d x l (eq-eqb x x refl) (under f g e k q)) refl)
    marks-told f g k (Assign key (T.Scalar x at) e) l d = are-so B (f || told e) (x ∷ []) (λ q. and_from (B x) true (d x l (eq-eqb x x refl) (under f g e k q)) refl)
    marks-told f g k (Assign key (T.Property x p at) e) l d = absurd (false≢true l)
    marks-told f g k (Combine key total r ts es) l d = by (are_at_once ds n true ts) refl
      where
        by : (o : Bool) → are_at_once ds n true ts ≡ o → (let xs : List ℕ = if o then variables_of ts else [] in are_marked ds n (passes_alone i t) B (f || (list_any B xs || list_any told es)) xs) ≡ true
        by true e =
            let all = sym (same-once ts l) ∙ e in
            are-so B (f || (list_any B (variables_of ts) || list_any told es)) (variables_of ts)
            (λ q. all-so B (variables_of ts) (λ x m. let r = one-local ts x all m in d x r.0 r.1 (compared-some f g ts es k all q)))
        by false e = or_right (not (f || (false || list_any told es))) true refl
    marks-told f g k (If key c a b) l d =
        let u = f || told c in
        let v = g || some (mentions c) in
        and_from (marks ds n (passes_alone i t) B u a) (marks ds n (passes_alone i t) B u b) (marks-told u v (under f g c k) a l.0 d.0) (marks-told u v (under f g c k) b l.1 d.1)
    marks-told f g k s l d = refl

    -- a reduction's own parts
    parts-some : (f : Bool) (test : Expr) (cs : List Mention) (ts : List Target) (es : List Expr) → (f ≡ true → some (mentions test) || some cs ≡ true)
        → f || (any (tells ds n (passes_alone i t) B) (flat_map owner_of ts) || list_any told es) ≡ true → some ((flat_map mentions es ++ (flat_map held_of ts ++ cs)) ++ (flat_map owner_of ts ++ mentions test)) ≡ true
    parts-some f test cs ts es k h = on (or_cases f (any (tells ds n (passes_alone i t) B) (flat_map owner_of ts) || list_any told es) h)
      where
        both : List Mention
        both = flat_map mentions es ++ (flat_map held_of ts ++ cs)

        outer : List Mention
        outer = flat_map owner_of ts ++ mentions test

        first : some both ≡ true → some (both ++ outer) ≡ true
        first q = any-left (passes i t B) both outer q

        last : some outer ≡ true → some (both ++ outer) ≡ true
        last q = any-right (passes i t B) both outer q

        around : ((some (mentions test) ≡ true) ⊎ (some cs ≡ true)) → some (both ++ outer) ≡ true
        around (inl q) = last (any-right (passes i t B) (flat_map owner_of ts) (mentions test) q)
        around (inr q) = first (any-right (passes i t B) (flat_map mentions es) (flat_map held_of ts ++ cs) (any-right (passes i t B) (flat_map held_of ts) cs q))

        parts : ((any (tells ds n (passes_alone i t) B) (flat_map owner_of ts) ≡ true) ⊎ (list_any told es ≡ true)) → some (both ++ outer) ≡ true
        parts (inl q) = last (any-left (passes i t B) (flat_map owner_of ts) (mentions test) (any-more (tells ds n (passes_alone i t) B) (passes i t B) tells-passes (flat_map owner_of ts) q))
        parts (inr q) = first (any-left (passes i t B) (flat_map mentions es) (flat_map held_of ts ++ cs) (each-some es q))

        on : ((f ≡ true) ⊎ (any (tells ds n (passes_alone i t) B) (flat_map owner_of ts) || list_any told es ≡ true)) → some (both ++ outer) ≡ true
        on (inl q) = around (or_cases (some (mentions test)) (some cs) (k q))
        on (inr q) = parts (or_cases (any (tells ds n (passes_alone i t) B) (flat_map owner_of ts)) (list_any told es) q)

    -- conditions that are added to those around
    around-some : (f : Bool) (test c : Expr) (cs : List Mention) → (f ≡ true → some (mentions test) || some cs ≡ true) → f || told c ≡ true → some (mentions test) || some (mentions c ++ cs) ≡ true
    around-some f test c cs k h = on (or_cases f (told c) h)
      where
        by : ((some (mentions test) ≡ true) ⊎ (some cs ≡ true)) → some (mentions test) || some (mentions c ++ cs) ≡ true
        by (inl q) = or_left (some (mentions test)) (some (mentions c ++ cs)) q
        by (inr q) = or_right (some (mentions test)) (some (mentions c ++ cs)) (any-right (passes i t B) (mentions c) cs q)

        on : ((f ≡ true) ⊎ (told c ≡ true)) → some (mentions test) || some (mentions c ++ cs) ≡ true
        on (inl q) = by (or_cases (some (mentions test)) (some cs) (k q))
        on (inr q) = or_right (some (mentions test)) (some (mentions c ++ cs)) (any-left (passes i t B) (mentions c) cs (told-some c q))

    filter-some : (test : Expr) → any (passes_alone i t) (mentions test) ≡ true → some (mentions test) || some [] ≡ true
    filter-some test h = or_left (some (mentions test)) false (any-more (passes_alone i t) (passes i t B) (λ m q. or_left (passes_alone i t m) (B (variable_of m)) q) (mentions test) h)

-- ---- a loop

module _ (ds : List Declaration) (n : ℕ) (h : Head) (test : Expr) (body : Stmt) where
  abbrev own : List ℕ
  own = locals body

  abbrev all : List Action
  all = actions body []

  abbrev rests : Test → ℕ → Bool
  rests t = rests_on_such own all (passes_alone h.iterator t)

  abbrev told_by : Test → Action → Bool
  told_by t a = any (passes h.iterator t (rests t)) (own_mentions test a)

  -- a reduction that reads no edge against the way of its message
  abbrev Good : Action → Type 0
  Good a = not (told_by AnyEdge a && is_against h.domain (way_by h a.targets (told_by Neighbour a) (told_by AnyEdge a))) ≡ true

  support-told : (t : Test) (a : Action) → any (passes_alone h.iterator t) (support body test a) ≡ told_by t a
  support-told t a = support-passes own all (passes_alone h.iterator t) (rests t) (least-closed own all (passes_alone h.iterator t)) (λ x k. k) (own_mentions test a)

  good-one : (a : Action) → reads_against h test body a ≡ [] → Good a
  good-one a e =
      let ms = support body test a in
      subst (λ b. not (b && is_against h.domain (way_by h a.targets (told_by Neighbour a) b)) ≡ true) (support-told AnyEdge a)
      (subst (λ b. not (any is_edge_read ms && is_against h.domain (way_by h a.targets b (any is_edge_read ms))) ≡ true) (support-told Neighbour a) (by (is_against h.domain (way_in h test body a)) e))
    where
      none : (b : Bool) → not (b && false) ≡ true
      none true = refl
      none false = refl

      by : (b : Bool) → (if b then flat_map edge_reads (support body test a) else []) ≡ [] → not (any is_edge_read (support body test a) && b) ≡ true
      by true q = ap (λ c. not (c && true)) (no-edges (support body test a) q)
      by false q = none (any is_edge_read (support body test a))

  good-all : edges_against h test body ≡ [] → (a : Action) → Among a all → ends_with_loop own a ≡ true → Good a
  good-all e a k late = good-one a (flat-none (reads_against h test body) a (reductions_of body) e (among-filter (ends_with_loop own) a all k late))

  goes : ((a : Action) → Among a all → ends_with_loop own a ≡ true → Good a) → (end edge : Bool) (cs : List Mention)
      → (end ≡ true → any (passes h.iterator Neighbour (rests Neighbour)) (mentions test) || any (passes h.iterator Neighbour (rests Neighbour)) cs ≡ true)
      → (edge ≡ true → any (passes h.iterator AnyEdge (rests AnyEdge)) (mentions test) || any (passes h.iterator AnyEdge (rests AnyEdge)) cs ≡ true) → (s : Stmt) → Fits ds (is_in own) s
      → ((a : Action) → Among a (actions s cs) → Among a all) → goes_along ds n h (rests AnyEdge) (rests Neighbour) end edge s ≡ true
  goes good end edge cs f g (Then a b) l k =
      and_from (goes_along ds n h (rests AnyEdge) (rests Neighbour) end edge a) (goes_along ds n h (rests AnyEdge) (rests Neighbour) end edge b) (goes good end edge cs f g a l.0 (λ x q. k x (among-left x (actions a cs) (actions b cs) q)))
      (goes good end edge cs f g b l.1 (λ x q. k x (among-right x (actions a cs) (actions b cs) q)))
  goes good end edge cs f g (Combine key total r ts es) l k = by (are_at_once ds n true ts) refl
    where
      a : Action
      a = record { reduces = true; targets = ts; mentioned = flat_map mentions es ++ (flat_map held_of ts ++ cs) }

      ends : Bool
      ends = end || parts_tell ds n h (rests AnyEdge) (rests Neighbour) (reads_through h.iterator) (rests Neighbour) ts es

      edges : Bool
      edges = edge || parts_tell ds n h (rests AnyEdge) (rests Neighbour) is_edge_read (rests AnyEdge) ts es

      by : (o : Bool) → are_at_once ds n true ts ≡ o → o || not (edges && is_against h.domain (way_by h ts ends edges)) ≡ true
      by true e = refl
      by false e =
          let late : ends_with_loop own a ≡ true = ap not (sym (same-once ds n h.iterator own ts l) ∙ e) in
          stands-less h ts ends edges (told_by Neighbour a) (told_by AnyEdge a) (parts-some ds n h.iterator own Neighbour (rests Neighbour) end test cs ts es f) (parts-some ds n h.iterator own AnyEdge (rests AnyEdge) edge test cs ts es g)
          (good a (k a (inl refl)) late)
  goes good end edge cs f g (If key c a b) l k =
      let ms = mentions c ++ cs in
      let u = end || told_of ds n (reads_through h.iterator) (rests Neighbour) c in
      let v = edge || told_of ds n is_edge_read (rests AnyEdge) c in
      let p = around-some ds n h.iterator own Neighbour (rests Neighbour) end test c cs f in
      let q = around-some ds n h.iterator own AnyEdge (rests AnyEdge) edge test c cs g in
      and_from (goes_along ds n h (rests AnyEdge) (rests Neighbour) u v a) (goes_along ds n h (rests AnyEdge) (rests Neighbour) u v b) (goes good u v ms p q a l.0 (λ x q. k x (among-left x (actions a ms) (actions b ms) q)))
      (goes good u v ms p q b l.1 (λ x q. k x (among-right x (actions a ms) (actions b ms) q)))
  goes good end edge cs f g s l k = refl

  -- C7 gives it
  pub loop-goes : edges_against h test body ≡ [] → Fits ds (is_in own) body → GoesAlong ds n h test body
  loop-goes e l = record {
    edges = rests AnyEdge;
    ends = rests Neighbour;
    edges_marked = marked AnyEdge;
    ends_marked = marked Neighbour;
    along = goes (good-all e) (any (reads_through h.iterator) (mentions test)) (any is_edge_read (mentions test)) [] (filter-some ds n h.iterator own Neighbour (rests Neighbour) test) (filter-some ds n h.iterator own AnyEdge (rests AnyEdge) test) body l
        (λ x q. q);
  }
    where
      marked : (t : Test) → marks ds n (passes_alone h.iterator t) (rests t) false body ≡ true
      marked t = marks-told ds n h.iterator own t (rests t) false false (λ q. q) body l (demands-closed h.iterator (is_in own) t (rests t) body [] (least-closed own all (passes_alone h.iterator t)))
