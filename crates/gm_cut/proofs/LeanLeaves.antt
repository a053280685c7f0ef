-- Where each statement that does more than set locals goes one way by itself, each slice does.
use Rattle.std.proofs.Common.{◌≡◌, ◌⊎◌, ℕ, Bool, true, false, cond, List, [], ◌∷◌, ◌++◌, map, refl, sym, ap, subst, ◌∙◌, Some, None, ⊎_elim, inl, inr}
use Rattle.std.specs.Prelude.{◌&&◌, ◌||◌, not}
use Rattle.std.specs.List.{list_all, list_any}
use Rattle.std.proofs.lemmas.Bool.{both_ways}
use Rattle.std.proofs.lemmas.List.{append_assoc}
use Rattle.gm_base.specs.declared.places.Place.{Place}
use Rattle.gm_ast.specs.Ways.{is_in}
use Rattle.gm_ast.specs.declared.tree.Declaration.{Declaration}
use Rattle.gm_ast.specs.declared.tree.Head.{Head}
use Rattle.gm_ast.specs.declared.tree.Key.{Key}
use Rattle.gm_ast.specs.declared.tree.Target.TheVariants as T
use Rattle.gm_ast.specs.Program.{Expr, Stmt, Skip, Then, Declare, DeclareEdge, Assign, Defer, Combine, Group, Foreach, For, If, While, Do, InBfs, InBfsBoth, Return, Program, sequence}
use Rattle.gm_forms.specs.Cut.{is_calm, adds_elsewhere, adds_last}
use Rattle.gm_forms.specs.Forms.{is_flat, is_inner_body, avoids, is_home, is_push, is_pull, is_along, is_against, has_a_way}
use Rattle.gm_forms.specs.Sharing.{told_in, sights_of, written}
use Rattle.gm_forms.proofs.Named.{both-true}
use Rattle.gm_forms.proofs.Weaker.{and-true}
use Rattle.gm_loop_laws.proofs.Joins.{map-append}
use Rattle.gm_loop_laws.specs.Resumed.{is_still, serves, needs, kept}
use Rattle.gm_cut.specs.Lean.{lean_slice, lean_groups, lean_slices, leaves_go, lean_groups_of, slices_go, has_slices_that_go, statements_go, has_statements_that_go}
use Rattle.gm_cut.specs.Parts.{each_passes}
use Rattle.gm_cut.specs.Slices.{statements_of, is_new, goes_one_way}

-- ---- statements that wait, behind the last that does more

abbrev Edge : Type 0
Edge = ℕ × ℕ × Place

abbrev edge : Edge → Stmt
edge q = DeclareEdge q.0 q.1 q.2

-- statements that declare edges, and nothing else
record Edges (ss : List Stmt) : Type 0 where
  edges : List Edge
  are : ss ≡ map edge edges

no-edges : (ss : List Stmt) → ss ≡ [] → Edges ss
no-edges ss e = record { edges = []; are = e }

both-edges : (xs ys : List Stmt) → Edges xs → Edges ys → Edges (xs ++ ys)
both-edges xs ys p q = record { edges = p.edges ++ q.edges; are = ap (λ l. l ++ ys) p.are ∙ ap (λ l. map edge p.edges ++ l) q.are ∙ sym (map-append edge p.edges q.edges) }

all-join : {A : Type 0} (p : A → Bool) (xs ys : List A) → list_all p xs ≡ true → list_all p ys ≡ true → list_all p (xs ++ ys) ≡ true
all-join p [] ys a b = b
all-join p (x ∷ xs) ys a b = let r = both-true (p x) (list_all p xs) a in and-true (p x) (list_all p (xs ++ ys)) r.0 (all-join p xs ys r.1 b)

none-of : (ys : List ℕ) → list_any (is_in []) ys ≡ false
none-of [] = refl
none-of (y ∷ ys) = none-of ys

module _ (ds : List Declaration) (n t : ℕ) where
  abbrev its : List ℕ
  its = n ∷ t ∷ []

  abbrev N : Stmt → List ℕ → List ℕ
  N s xs = needs ds (n ∷ t ∷ []) n true s xs

  abbrev K : Stmt → List ℕ → Stmt
  K s xs = kept ds (n ∷ t ∷ []) n true s xs

  -- what only sets locals serves nothing
  idle : (s : Stmt) → is_still its s ≡ true → serves ds its n true [] s ≡ false
  idle s h = ap (λ b. b || (true && not (is_still its s))) (none-of (written ds n true s)) ∙ ap not h

  Idle : Stmt → Type 0
  Idle s = (N s [] ≡ []) × Edges (statements_of (K s []))

  still-kept : (s : Stmt) → is_still its s ≡ true → (N s [] ≡ []) × Edges (statements_of (K s []))
  still-kept Skip h = (refl, no-edges [] refl)
  still-kept (Then a b) h =
      let r = both-true (is_still its a) (is_still its b) h in
      let p = still-kept a r.0 in
      let q = still-kept b r.1 in
      let none : N a (N b []) ≡ [] = ap (N a) q.0 ∙ p.0 in
      let first : Edges (statements_of (K a (N b []))) = subst (λ xs. Edges (statements_of (K a xs))) (sym q.0) p.1 in
      (none, both-edges (statements_of (K a (N b []))) (statements_of (K b [])) first q.1)
  still-kept (Declare k x None) h = (refl, no-edges [] refl)
  still-kept (Declare k x (Some e)) h =
      let off = idle (Declare k x (Some e)) h in
      (ap (λ b. cond b ((sights_of ds n true (Declare k x (Some e))).scalars ++ []) []) off, no-edges (statements_of (K (Declare k x (Some e)) [])) (ap (λ b. statements_of (cond b (Declare k x (Some e)) Skip)) off))
  still-kept (DeclareEdge x y at) h = (refl, record { edges = (x, y, at) ∷ []; are = refl })
  still-kept (Assign k (T.Scalar x at) e) h =
      let off = idle (Assign k (T.Scalar x at) e) h in
      (ap (λ b. cond b ((sights_of ds n true (Assign k (T.Scalar x at) e)).scalars ++ []) []) off, no-edges (statements_of (K (Assign k (T.Scalar x at) e) [])) (ap (λ b. statements_of (cond b (Assign k (T.Scalar x at) e) Skip)) off))
  still-kept (Assign k (T.Property x p at) e) h = absurd (both_ways false refl h)
  still-kept (Defer k u e) h = absurd (both_ways false refl h)
  still-kept (Combine k total r ts es) h = absurd (both_ways false refl h)
  still-kept (Group k at g p e) h = absurd (both_ways false refl h)
  still-kept (Foreach k at hd test body) h = absurd (both_ways false refl h)
  still-kept (For k at hd test body) h = absurd (both_ways false refl h)
  still-kept (If k c a b) h =
      let off = idle (If k c a b) h in
      (ap (λ d. cond d (told_in c ++ (N a [] ++ N b [])) []) off, no-edges (statements_of (K (If k c a b) [])) (ap (λ d. statements_of (cond d (If k c (K a []) (K b [])) Skip)) off))
  still-kept (While k at c body) h = absurd (both_ways false refl h)
  still-kept (Do k at body c) h = absurd (both_ways false refl h)
  still-kept (InBfs k at hd c body) h = absurd (both_ways false refl h)
  still-kept (InBfsBoth k at hd c body bk d back) h = absurd (both_ways false refl h)
  still-kept (Return k at e) h = absurd (both_ways false refl h)

  -- some statements, and then others
  needs-both : (xs ys : List Stmt) (zs : List ℕ) → N (sequence (xs ++ ys)) zs ≡ N (sequence xs) (N (sequence ys) zs)
  needs-both [] ys zs = refl
  needs-both (x ∷ xs) ys zs = ap (N x) (needs-both xs ys zs)

  kept-both : (xs ys : List Stmt) (zs : List ℕ) → statements_of (K (sequence (xs ++ ys)) zs) ≡ statements_of (K (sequence xs) (N (sequence ys) zs)) ++ statements_of (K (sequence ys) zs)
  kept-both [] ys zs = refl
  kept-both (x ∷ xs) ys zs =
      let u = statements_of (K x (N (sequence xs) (N (sequence ys) zs))) in
      let v = statements_of (K (sequence xs) (N (sequence ys) zs)) in
      let w = statements_of (K (sequence ys) zs) in
      ap (λ l. statements_of (K x l) ++ statements_of (K (sequence (xs ++ ys)) zs)) (needs-both xs ys zs) ∙ ap (λ l. u ++ l) (kept-both xs ys zs) ∙ sym (append_assoc u v w)

  abbrev still : List Stmt → Bool
  still wait = list_all (is_still (n ∷ t ∷ [])) wait

  all-still : (wait : List Stmt) → list_all (is_still (n ∷ t ∷ [])) wait ≡ true → is_still (n ∷ t ∷ []) (sequence wait) ≡ true
  all-still [] h = refl
  all-still (s ∷ wait) h = let r = both-true (is_still its s) (list_all (is_still its) wait) h in and-true (is_still its s) (is_still its (sequence wait)) r.0 (all-still wait r.1)

  -- a slice with statements that wait is the slice, and edges
  edges-of : List Stmt → List Stmt
  edges-of wait = statements_of (K (sequence wait) [])

  abbrev before : List Stmt → List ℕ → List Stmt
  before done xs = statements_of (kept ds (n ∷ t ∷ []) n false (sequence done) xs)

  slice-waits : (done group wait : List Stmt) → list_all (is_still (n ∷ t ∷ [])) wait ≡ true →
      lean_slice ds n t done (group ++ wait) ≡ sequence ((before done (N (sequence group) []) ++ statements_of (K (sequence group) [])) ++ statements_of (K (sequence wait) []))
  slice-waits done group wait h =
      let idle-wait = still-kept (sequence wait) (all-still wait h) in
      let a = before done (N (sequence group) []) in
      let b = statements_of (K (sequence group) []) in
      let e = statements_of (K (sequence wait) []) in
      ap (λ xs. sequence (before done xs ++ statements_of (K (sequence (group ++ wait)) []))) (needs-both group wait [] ∙ ap (N (sequence group)) idle-wait.0)
      ∙ ap (λ l. sequence (a ++ l)) (kept-both group wait [] ∙ ap (λ xs. statements_of (K (sequence group) xs) ++ e) idle-wait.0) ∙ ap sequence (sym (append_assoc a b e))

-- ---- edges change no way

module _ (ds : List Declaration) (n : ℕ) (h : Head) (test : Expr) where
  hom-edges : (f : Stmt → Bool) → f Skip ≡ true → ((a b : Stmt) → f (Then a b) ≡ f a && f b) → ((x y : ℕ) (at : Place) → f (DeclareEdge x y at) ≡ true) → (es : List Edge) → f (sequence (map edge es)) ≡ true
  hom-edges f z th ed [] = z
  hom-edges f z th ed (q ∷ es) = th (edge q) (sequence (map edge es)) ∙ and-true (f (edge q)) (f (sequence (map edge es))) (ed q.0 q.1 q.2) (hom-edges f z th ed es)

  hom-both : (f : Stmt → Bool) → f Skip ≡ true → ((a b : Stmt) → f (Then a b) ≡ f a && f b) → (xs ys : List Stmt) → f (sequence xs) ≡ true → f (sequence ys) ≡ true → f (sequence (xs ++ ys)) ≡ true
  hom-both f z th [] ys p q = q
  hom-both f z th (x ∷ xs) ys p q =
      let r = both-true (f x) (f (sequence xs)) (sym (th x (sequence xs)) ∙ p) in th x (sequence (xs ++ ys)) ∙ and-true (f x) (f (sequence (xs ++ ys))) r.0 (hom-both f z th xs ys r.1 q)

  -- a test of each statement holds with edges behind
  with-edges : (f : Stmt → Bool) → f Skip ≡ true → ((a b : Stmt) → f (Then a b) ≡ f a && f b) → ((x y : ℕ) (at : Place) → f (DeclareEdge x y at) ≡ true) → (xs : List Stmt) (es : List Edge) → f (sequence xs) ≡ true → f (sequence (xs ++ map edge es)) ≡ true
  with-edges f z th ed xs es p = hom-both f z th xs (map edge es) p (hom-edges f z th ed es)

  way-edges : (flat : Bool) (its : List ℕ) (with_edge : Bool) (x : ℕ) (xs : List Stmt) (es : List Edge) → flat && (is_inner_body ds its with_edge (sequence xs) && avoids x (sequence xs)) ≡ true → flat && (is_inner_body ds its with_edge (sequence (xs ++ map edge es)) && avoids x (sequence (xs ++ map edge es))) ≡ true
  way-edges true js with_edge x xs es p =
      let r = both-true (is_inner_body ds js with_edge (sequence xs)) (avoids x (sequence xs)) p in
      and-true (is_inner_body ds js with_edge (sequence (xs ++ map edge es))) (avoids x (sequence (xs ++ map edge es))) (with-edges (is_inner_body ds js with_edge) refl (λ a b. refl) (λ u v at. refl) xs es r.0) (with-edges (avoids x) refl (λ a b. refl) (λ u v at. refl) xs es r.1)
  way-edges false js with_edge x xs es p = p

  or-more : (a b c a' b' c' : Bool) → (a ≡ true → a' ≡ true) → (b ≡ true → b' ≡ true) → (c ≡ true → c' ≡ true) → a || (b || c) ≡ true → a' || (b' || c') ≡ true
  or-more true b c a' b' c' f g k p = ap (λ z. z || (b' || c')) (f refl)
  or-more false true c a' b' c' f g k p = ap (λ z. a' || (z || c')) (g refl) ∙ any a'
    where
      any : (z : Bool) → z || true ≡ true
      any true = refl
      any false = refl
  or-more false false true a' b' c' f g k p = ap (λ z. a' || (b' || z)) (k refl) ∙ last a' b'
    where
      last : (y z : Bool) → y || (z || true) ≡ true
      last true z = refl
      last false true = refl
      last false false = refl
  or-more false false false a' b' c' f g k p = absurd (both_ways false refl p)

  has-edges : (xs : List Stmt) (es : List Edge) → has_a_way ds n h test (sequence xs) ≡ true → has_a_way ds n h test (sequence (xs ++ map edge es)) ≡ true
  has-edges xs es p =
      let a = sequence xs in
      let b = sequence (xs ++ map edge es) in
      or-more (is_home ds n h test a) (is_push ds n h test a) (is_pull ds n h test a) (is_home ds n h test b) (is_push ds n h test b) (is_pull ds n h test b)
      (way-edges (is_flat (n ∷ []) (is_along h.domain) test) (n ∷ []) (is_along h.domain) h.iterator xs es) (way-edges (is_flat (n ∷ h.iterator ∷ []) (is_along h.domain) test) (n ∷ h.iterator ∷ []) (is_along h.domain) n xs es)
      (way-edges (is_flat (n ∷ h.iterator ∷ []) (is_against h.domain) test) (n ∷ h.iterator ∷ []) (is_against h.domain) h.iterator xs es) p

  -- nothing that can fault stands behind
  last-edges : (its : List ℕ) (xs : List Stmt) (es : List Edge) → adds_last its (sequence xs) ≡ true → adds_last its (sequence (xs ++ map edge es)) ≡ true
  last-edges js [] [] p = refl
  last-edges js [] (q ∷ es) p = and-true (adds_last js (sequence (map edge es))) true (last-edges js [] es refl) refl
  last-edges js (x ∷ xs) es p =
      let rest = sequence (xs ++ map edge es) in
      let r = both-true (adds_last js x) (adds_last js (sequence xs) && (not (adds_elsewhere js x) || is_calm js (sequence xs))) p in
      let q = both-true (adds_last js (sequence xs)) (not (adds_elsewhere js x) || is_calm js (sequence xs)) r.1 in
      and-true (adds_last js x) (adds_last js rest && (not (adds_elsewhere js x) || is_calm js rest)) r.0
      (and-true (adds_last js rest) (not (adds_elsewhere js x) || is_calm js rest) (last-edges js xs es q.0) (or-calm (not (adds_elsewhere js x)) (is_calm js (sequence xs)) (is_calm js rest) (with-edges (is_calm js) refl (λ a b. refl) (λ u v at. refl) xs es) q.1))
    where
      or-calm : (a b c : Bool) → (b ≡ true → c ≡ true) → a || b ≡ true → a || c ≡ true
      or-calm true b c f p = refl
      or-calm false b c f p = f p

  goes-edges : (xs es : List Stmt) → Edges es → goes_one_way ds n h test (sequence xs) ≡ true → goes_one_way ds n h test (sequence (xs ++ es)) ≡ true
  goes-edges xs es e p =
      let r = both-true (has_a_way ds n h test (sequence xs)) (adds_last (n ∷ h.iterator ∷ []) (sequence xs)) p in
      let all = xs ++ map edge e.edges in
      ap (λ l. goes_one_way ds n h test (sequence (xs ++ l))) e.are ∙ and-true (has_a_way ds n h test (sequence all)) (adds_last (n ∷ h.iterator ∷ []) (sequence all)) (has-edges xs e.edges r.0) (last-edges (n ∷ h.iterator ∷ []) xs e.edges r.1)

-- ---- groups

module _ (ds : List Declaration) (n : ℕ) (h : Head) (test : Expr) where
  abbrev t : ℕ
  t = h.iterator

  abbrev goes : Stmt → Bool
  goes s = goes_one_way ds n h test s

  abbrev slice : List Stmt → List Stmt → Stmt
  slice done g = lean_slice ds n h.iterator done g

  -- statements that wait change no way of a slice
  waits-go : (done group wait : List Stmt) → list_all (is_still (n ∷ h.iterator ∷ [])) wait ≡ true → goes (lean_slice ds n h.iterator done group) ≡ true → goes (lean_slice ds n h.iterator done (group ++ wait)) ≡ true
  waits-go done group wait still g =
      let xs = before ds n t done (needs ds (n ∷ t ∷ []) n true (sequence group) []) ++ statements_of (kept ds (n ∷ t ∷ []) n true (sequence group) []) in
      ap goes (slice-waits ds n t done group wait still) ∙ goes-edges ds n h test xs (statements_of (kept ds (n ∷ t ∷ []) n true (sequence wait) [])) (still-kept ds n t (sequence wait) (all-still ds n t wait still)).1 g

  -- where a walk stands: at the beginning, or behind a group that goes one way
  abbrev At : List Stmt → List Stmt → Type 0
  At done group = ((done ≡ []) × (group ≡ [])) ⊎ ((is_new ds n h.iterator group ≡ false) × (goes (lean_slice ds n h.iterator done group) ≡ true))

  leaves : List Stmt → List Stmt → List Stmt → Bool
  leaves before wait ss = leaves_go ds n h.iterator (goes_one_way ds n h test) before wait ss

  still-more : (wait : List Stmt) (s : Stmt) → list_all (is_still (n ∷ h.iterator ∷ [])) wait ≡ true → is_still (n ∷ h.iterator ∷ []) s ≡ true → list_all (is_still (n ∷ h.iterator ∷ [])) (wait ++ (s ∷ [])) ≡ true
  still-more wait s p q = all-join (is_still (n ∷ t ∷ [])) wait (s ∷ []) p (and-true (is_still (n ∷ t ∷ []) s) true q refl)

  new-more : (group wait : List Stmt) (s : Stmt) → is_new ds n h.iterator (group ++ (wait ++ (s ∷ []))) ≡ false
  new-more [] [] s = refl
  new-more [] (w ∷ wait) s = refl
  new-more (g ∷ group) wait s = refl

  abbrev All : List Stmt → List (List Stmt) → Type 0
  All done gs = list_all (goes_one_way ds n h test) (lean_slices ds n h.iterator done gs) ≡ true

  -- one more statement
  one-more : (done group wait : List Stmt) (s : Stmt) (ss : List Stmt) (o c : Bool) → is_still (n ∷ h.iterator ∷ []) s ≡ o → is_new ds n h.iterator group || goes (lean_slice ds n h.iterator done (group ++ (wait ++ (s ∷ [])))) ≡ c → At done group →
      cond o (leaves_go ds n h.iterator (goes_one_way ds n h test) (done ++ group) (wait ++ (s ∷ [])) ss) (goes (lean_slice ds n h.iterator (done ++ group) (wait ++ (s ∷ []))) && leaves_go ds n h.iterator (goes_one_way ds n h test) ((done ++ group) ++ (wait ++ (s ∷ []))) [] ss) ≡ true →
      (is_still (n ∷ h.iterator ∷ []) s ≡ true → leaves_go ds n h.iterator (goes_one_way ds n h test) (done ++ group) (wait ++ (s ∷ [])) ss ≡ true → All done (lean_groups ds n h.iterator (goes_one_way ds n h test) done group (wait ++ (s ∷ [])) ss)) →
      (At done (group ++ (wait ++ (s ∷ []))) → leaves_go ds n h.iterator (goes_one_way ds n h test) (done ++ (group ++ (wait ++ (s ∷ [])))) [] ss ≡ true → All done (lean_groups ds n h.iterator (goes_one_way ds n h test) done (group ++ (wait ++ (s ∷ []))) [] ss)) →
      (At (done ++ group) (wait ++ (s ∷ [])) → leaves_go ds n h.iterator (goes_one_way ds n h test) ((done ++ group) ++ (wait ++ (s ∷ []))) [] ss ≡ true → All (done ++ group) (lean_groups ds n h.iterator (goes_one_way ds n h test) (done ++ group) (wait ++ (s ∷ [])) [] ss)) →
      All done (cond o (lean_groups ds n h.iterator (goes_one_way ds n h test) done group (wait ++ (s ∷ [])) ss)
      (cond c (lean_groups ds n h.iterator (goes_one_way ds n h test) done (group ++ (wait ++ (s ∷ []))) [] ss) (group ∷ lean_groups ds n h.iterator (goes_one_way ds n h test) (done ++ group) (wait ++ (s ∷ [])) [] ss)))
  one-more done group wait s ss true c is cs at l waits on begins = waits is l
  one-more done group wait s ss false c is cs at l waits on begins = by c cs
    where
      next : List Stmt
      next = wait ++ (s ∷ [])

      parts : (goes (lean_slice ds n h.iterator (done ++ group) (wait ++ (s ∷ []))) ≡ true) × (leaves_go ds n h.iterator (goes_one_way ds n h test) ((done ++ group) ++ (wait ++ (s ∷ []))) [] ss ≡ true)
      parts = both-true (goes (lean_slice ds n h.iterator (done ++ group) (wait ++ (s ∷ [])))) (leaves_go ds n h.iterator (goes_one_way ds n h test) ((done ++ group) ++ (wait ++ (s ∷ []))) [] ss) l

      joins : is_new ds n h.iterator group || goes (lean_slice ds n h.iterator done (group ++ (wait ++ (s ∷ [])))) ≡ true → goes (lean_slice ds n h.iterator done (group ++ (wait ++ (s ∷ [])))) ≡ true
      joins e =
          ⊎_elim (λ (z : (done ≡ []) × (group ≡ [])). ap (λ d. goes (lean_slice ds n t d (group ++ next))) z.0 ∙ ap (λ g. goes (lean_slice ds n t [] (g ++ next))) z.1 ∙ sym (ap (λ d. goes (lean_slice ds n t d next)) (ap (λ d. d ++ group) z.0 ∙ z.1)) ∙ parts.0)
          (λ (z : (is_new ds n h.iterator group ≡ false) × (goes (lean_slice ds n h.iterator done group) ≡ true)). sym (ap (λ b. b || goes (lean_slice ds n t done (group ++ next))) z.0) ∙ e) at

      behind : (b : Bool) → is_new ds n h.iterator group || b ≡ false → (is_new ds n h.iterator group ≡ false) × (goes (lean_slice ds n h.iterator done group) ≡ true)
      behind b e =
          ⊎_elim (λ (z : (done ≡ []) × (group ≡ [])). absurd (both_ways (is_new ds n t group || b) e (ap (λ g. is_new ds n t g || b) z.1)))
          (λ (z : (is_new ds n h.iterator group ≡ false) × (goes (lean_slice ds n h.iterator done group) ≡ true)). z) at

      by : (c : Bool) → is_new ds n h.iterator group || goes (lean_slice ds n h.iterator done (group ++ (wait ++ (s ∷ [])))) ≡ c →
          All done (cond c (lean_groups ds n h.iterator (goes_one_way ds n h test) done (group ++ (wait ++ (s ∷ []))) [] ss) (group ∷ lean_groups ds n h.iterator (goes_one_way ds n h test) (done ++ group) (wait ++ (s ∷ [])) [] ss))
      by true e = on (inr (new-more group wait s, joins e)) (subst (λ d. leaves_go ds n t (goes_one_way ds n h test) d [] ss ≡ true) (append_assoc done group next) parts.1)
      by false e =
          let z = behind (goes (lean_slice ds n t done (group ++ next))) e in
          and-true (goes (lean_slice ds n t done group)) (list_all (goes_one_way ds n h test) (lean_slices ds n t (done ++ group) (lean_groups ds n t (goes_one_way ds n h test) (done ++ group) next [] ss))) z.1 (begins (inr (new-more [] wait s, parts.0)) parts.1)

  -- what is asked of the statements that are left
  unfolded : (d wait : List Stmt) (s : Stmt) (ss : List Stmt) → leaves_go ds n h.iterator (goes_one_way ds n h test) d wait (s ∷ ss) ≡ true →
      cond (is_still (n ∷ h.iterator ∷ []) s) (leaves_go ds n h.iterator (goes_one_way ds n h test) d (wait ++ (s ∷ [])) ss) (goes (lean_slice ds n h.iterator d (wait ++ (s ∷ []))) && leaves_go ds n h.iterator (goes_one_way ds n h test) (d ++ (wait ++ (s ∷ []))) [] ss) ≡ true
  unfolded [] wait s ss l = l
  unfolded (x ∷ d) wait s ss l = l

  groups-go : (done group wait ss : List Stmt) → list_all (is_still (n ∷ h.iterator ∷ [])) wait ≡ true → At done group → leaves_go ds n h.iterator (goes_one_way ds n h test) (done ++ group) wait ss ≡ true →
      All done (lean_groups ds n h.iterator (goes_one_way ds n h test) done group wait ss)
  groups-go done group wait [] still at l = and-true (goes (lean_slice ds n t done (group ++ wait))) true last refl
    where
      last : goes (lean_slice ds n h.iterator done (group ++ wait)) ≡ true
      last =
          ⊎_elim (λ (z : (done ≡ []) × (group ≡ [])). ap (λ d. goes (lean_slice ds n t d (group ++ wait))) z.0 ∙ ap (λ g. goes (lean_slice ds n t [] (g ++ wait))) z.1 ∙ subst (λ d. leaves_go ds n t (goes_one_way ds n h test) d wait [] ≡ true) (ap (λ d. d ++ group) z.0 ∙ z.1) l)
          (λ (z : (is_new ds n h.iterator group ≡ false) × (goes (lean_slice ds n h.iterator done group) ≡ true)). waits-go done group wait still z.1) at
  groups-go done group wait (s ∷ ss) still at l =
      let next = wait ++ (s ∷ []) in
      one-more done group wait s ss (is_still (n ∷ t ∷ []) s) (is_new ds n t group || goes (lean_slice ds n t done (group ++ next))) refl refl at (unfolded (done ++ group) wait s ss l)
      (λ e m. groups-go done group next ss (still-more wait s still e) at m) (λ a m. groups-go done (group ++ next) [] ss refl a m) (λ a m. groups-go (done ++ group) next [] ss refl a m)

-- ---- programs

loop-goes : (ds : List Declaration) (k : Key) (at : Place) (h : Head) (mask : Expr) (body : Stmt) → statements_go ds k at h mask body ≡ true → slices_go ds k at h mask body ≡ true
loop-goes ds k at h mask (Foreach j here inner test body) g = by (goes_one_way ds h.iterator inner test body) g
  where
    by : (o : Bool) → o || leaves_go ds h.iterator inner.iterator (goes_one_way ds h.iterator inner test) [] [] (statements_of body) ≡ true →
        o || list_all (goes_one_way ds h.iterator inner test) (lean_slices ds h.iterator inner.iterator [] (lean_groups_of ds h.iterator inner test body)) ≡ true
    by true g = refl
    by false g = groups-go ds h.iterator inner test [] [] [] (statements_of body) refl (inl (refl, refl)) g
loop-goes ds k at h mask body g = refl

phase-goes : (ds : List Declaration) (s : Stmt) → each_passes (statements_go ds) s ≡ true → each_passes (slices_go ds) s ≡ true
phase-goes ds (Then a b) g = let r = both-true (each_passes (statements_go ds) a) (each_passes (statements_go ds) b) g in and-true (each_passes (slices_go ds) a) (each_passes (slices_go ds) b) (phase-goes ds a r.0) (phase-goes ds b r.1)
phase-goes ds (Foreach k at h mask body) g = loop-goes ds k at h mask body g
phase-goes ds (For k at h test body) g = phase-goes ds body g
phase-goes ds (If k c a b) g = let r = both-true (each_passes (statements_go ds) a) (each_passes (statements_go ds) b) g in and-true (each_passes (slices_go ds) a) (each_passes (slices_go ds) b) (phase-goes ds a r.0) (phase-goes ds b r.1)
phase-goes ds (While k at c body) g = phase-goes ds body g
phase-goes ds (Do k at body c) g = phase-goes ds body g
phase-goes ds s g = refl

-- where each statement that does more than set locals goes one way by itself, each slice does
pub statements-go : (p : Program) → has_statements_that_go p ≡ true → has_slices_that_go p ≡ true
statements-go p g = phase-goes p.declarations p.body g
