-- Where an inner loop reads no edge property, each statement goes one way by itself that gives to one end of its edges.
use Rattle.std.proofs.Common.{◌≡◌, ◌⊎◌, ℕ, Bool, true, false, cond, List, [], ◌∷◌, ◌++◌, append-nil, refl, sym, ap, subst, ◌∙◌, Option, Some, None, ⊎_elim, inl, inr}
use Rattle.std.specs.Prelude.{◌&&◌, ◌||◌, not}
use Rattle.std.specs.List.{list_all, list_any}
use Rattle.std.proofs.lemmas.Bool.{both_ways}
use Rattle.std.proofs.lemmas.List.{append_assoc}
use Rattle.gm_base.specs.declared.places.Place.{Place}
use Rattle.gm_value.specs.declared.reductions.Reduce.{Reduce}
use Rattle.gm_ast.specs.Ways.{is_in}
use Rattle.gm_ast.specs.declared.tree.Declaration.{Declaration}
use Rattle.gm_ast.specs.declared.tree.Head.{Head}
use Rattle.gm_ast.specs.declared.tree.Key.{Key}
use Rattle.gm_ast.specs.declared.tree.Target.{Target}
use Rattle.gm_ast.specs.declared.tree.Target.TheVariants as T
use Rattle.gm_ast.specs.declared.tree.TotalKey.{TotalKey}
use Rattle.gm_ast.specs.Program.{Expr, Const, Var, Property, EdgeProperty, Degree, NodeCount, EdgeCount, Live, Unary, Binary, Both, Either, Choose, Folded, Stmt, Skip, Then, Declare, DeclareEdge, Assign, Defer, Combine, Group, Foreach, For, If, While, Do, InBfs, InBfsBoth, Return, Program, sequence}
use Rattle.gm_forms.specs.Cut.{can_overflow, is_there, is_calm, adds_elsewhere, adds_last}
use Rattle.gm_forms.specs.Forms.{is_flat, is_inner_body, is_off, avoids, is_home, is_push, is_pull, is_along, is_against, has_a_way}
use Rattle.gm_forms.specs.Sharing.{is_at_once, are_at_once, variables_of}
use Rattle.gm_forms.proofs.Named.{both-true}
use Rattle.gm_forms.proofs.Weaker.{and-true}
use Rattle.gm_loop_laws.specs.Masks.{is_certain}
use Rattle.gm_loop_laws.specs.Resumed.{is_still, serves, needs, kept}
use Rattle.gm_cut.specs.Lean.{lean_slice, leaves_go, is_plain, goes_plainly, has_plain_statements, statements_go, has_statements_that_go}
use Rattle.gm_cut.specs.Parts.{each_passes}
use Rattle.gm_cut.specs.Slices.{statements_of, goes_one_way}
use Rattle.gm_cut.proofs.SlicesKept as Kept

-- what reads no edge property may stand where one may be read
flat-any : (its : List ℕ) (b : Bool) (e : Expr) → is_flat its false e ≡ true → is_flat its b e ≡ true
flat-any its b (Const v) h = refl
flat-any its b (Var x at) h = refl
flat-any its b (Property x p at) h = h
flat-any its b (EdgeProperty x p at) h = absurd (both_ways false refl h)
flat-any its b (Degree d x at) h = h
flat-any its b NodeCount h = refl
flat-any its b EdgeCount h = refl
flat-any its b (Live x at) h = refl
flat-any its b (Unary op at e) h = flat-any its b e h
flat-any its b (Binary op at e f) h = let r = both-true (is_flat its false e) (is_flat its false f) h in and-true (is_flat its b e) (is_flat its b f) (flat-any its b e r.0) (flat-any its b f r.1)
flat-any its b (Both e f) h = let r = both-true (is_flat its false e) (is_flat its false f) h in and-true (is_flat its b e) (is_flat its b f) (flat-any its b e r.0) (flat-any its b f r.1)
flat-any its b (Either e f) h = let r = both-true (is_flat its false e) (is_flat its false f) h in and-true (is_flat its b e) (is_flat its b f) (flat-any its b e r.0) (flat-any its b f r.1)
flat-any its b (Choose c e f) h =
    let r = both-true (is_flat its false c) (is_flat its false e && is_flat its false f) h in
    let q = both-true (is_flat its false e) (is_flat its false f) r.1 in
    and-true (is_flat its b c) (is_flat its b e && is_flat its b f) (flat-any its b c r.0) (and-true (is_flat its b e) (is_flat its b f) (flat-any its b e q.0) (flat-any its b f q.1))
flat-any its b (Folded f hd test e) h = absurd (both_ways false refl h)

all-flat-any : (its : List ℕ) (b : Bool) (es : List Expr) → list_all (is_flat its false) es ≡ true → list_all (is_flat its b) es ≡ true
all-flat-any its b [] h = refl
all-flat-any its b (e ∷ es) h = let r = both-true (is_flat its false e) (list_all (is_flat its false) es) h in and-true (is_flat its b e) (list_all (is_flat its b) es) (flat-any its b e r.0) (all-flat-any its b es r.1)

body-any : (ds : List Declaration) (its : List ℕ) (b : Bool) (s : Stmt) → is_inner_body ds its false s ≡ true → is_inner_body ds its b s ≡ true
body-any ds its b Skip h = refl
body-any ds its b (Then x y) h = let r = both-true (is_inner_body ds its false x) (is_inner_body ds its false y) h in and-true (is_inner_body ds its b x) (is_inner_body ds its b y) (body-any ds its b x r.0) (body-any ds its b y r.1)
body-any ds its b (Declare k x None) h = h
body-any ds its b (Declare k x (Some e)) h = let r = both-true _ (is_flat its false e) h in and-true _ (is_flat its b e) r.0 (flat-any its b e r.1)
body-any ds its b (DeclareEdge x y at) h = refl
body-any ds its b (Assign k t e) h = let r = both-true _ (is_flat its false e) h in and-true _ (is_flat its b e) r.0 (flat-any its b e r.1)
body-any ds its b (Defer k t e) h = absurd (both_ways false refl h)
body-any ds its b (Combine k total r ts es) h = let q = both-true _ (list_all (is_flat its false) es) h in and-true _ (list_all (is_flat its b) es) q.0 (all-flat-any its b es q.1)
body-any ds its b (Group k at g p e) h = absurd (both_ways false refl h)
body-any ds its b (Foreach k at hd test body) h = absurd (both_ways false refl h)
body-any ds its b (For k at hd test body) h = absurd (both_ways false refl h)
body-any ds its b (If k c x y) h =
    let r = both-true (is_flat its false c) (is_inner_body ds its false x && is_inner_body ds its false y) h in
    let q = both-true (is_inner_body ds its false x) (is_inner_body ds its false y) r.1 in
    and-true (is_flat its b c) (is_inner_body ds its b x && is_inner_body ds its b y) (flat-any its b c r.0) (and-true (is_inner_body ds its b x) (is_inner_body ds its b y) (body-any ds its b x q.0) (body-any ds its b y q.1))
body-any ds its b (While k at c body) h = absurd (both_ways false refl h)
body-any ds its b (Do k at body c) h = absurd (both_ways false refl h)
body-any ds its b (InBfs k at hd c body) h = absurd (both_ways false refl h)
body-any ds its b (InBfsBoth k at hd c body bk d back) h = absurd (both_ways false refl h)
body-any ds its b (Return k at e) h = absurd (both_ways false refl h)

-- ---- tests of what is given late

not-or : (a b : Bool) → not (a || b) ≡ not a && not b
not-or true b = refl
not-or false b = refl

off-once : (ds : List Declaration) (n y : ℕ) (ts : List Target) → are_at_once ds n true ts ≡ true → list_all (is_off y) ts ≡ true
off-once ds n y [] h = refl
off-once ds n y (T.Scalar x at ∷ ts) h = off-once ds n y ts (both-true (is_at_once ds n true (T.Scalar x at)) (are_at_once ds n true ts) h).1
off-once ds n y (T.Property x p at ∷ ts) h = absurd (both_ways false refl h)

there-once : (ds : List Declaration) (n : ℕ) (its : List ℕ) (ts : List Target) → are_at_once ds n true ts ≡ true → list_all (is_there its) ts ≡ true
there-once ds n its [] h = refl
there-once ds n its (T.Scalar x at ∷ ts) h = there-once ds n its ts (both-true (is_at_once ds n true (T.Scalar x at)) (are_at_once ds n true ts) h).1
there-once ds n its (T.Property x p at ∷ ts) h = absurd (both_ways false refl h)

-- f: a test of a body that only a reduction can fail that ends with a loop
module _ (ds : List Declaration) (n t : ℕ) (f : Stmt → Bool) (f-skip : f Skip ≡ true) (f-then : (a b : Stmt) → f (Then a b) ≡ f a && f b) (f-if : (k : Key) (c : Expr) (a b : Stmt) → f (If k c a b) ≡ f a && f b)
    (f-declare : (k : Key) (x : ℕ) (e : Option Expr) → f (Declare k x e) ≡ true) (f-edge : (x y : ℕ) (at : Place) → f (DeclareEdge x y at) ≡ true) (f-assign : (k : Key) (u : Target) (e : Expr) → f (Assign k u e) ≡ true)
    (f-once : (k : Key) (total : TotalKey) (r : Reduce) (ts : List Target) (es : List Expr) → are_at_once ds n true ts ≡ true → f (Combine k total r ts es) ≡ true) where
  abbrev its : List ℕ
  its = n ∷ t ∷ []

  both : (a b : Stmt) → f a ≡ true → f b ≡ true → f (Then a b) ≡ true
  both a b p q = f-then a b ∙ and-true (f a) (f b) p q

  either : (d : Bool) (s : Stmt) → f s ≡ true → f (cond d s Skip) ≡ true
  either true s p = p
  either false s p = f-skip

  -- what only sets locals
  still-passes : (s : Stmt) → is_still (n ∷ t ∷ []) s ≡ true → f s ≡ true
  still-passes Skip h = f-skip
  still-passes (Then a b) h = let r = both-true (is_still its a) (is_still its b) h in both a b (still-passes a r.0) (still-passes b r.1)
  still-passes (Declare k x e) h = f-declare k x e
  still-passes (DeclareEdge x y at) h = f-edge x y at
  still-passes (Assign k u e) h = f-assign k u e
  still-passes (Defer k u e) h = absurd (both_ways false refl h)
  still-passes (Combine k total r ts es) h = absurd (both_ways false refl h)
  still-passes (Group k at g p e) h = absurd (both_ways false refl h)
  still-passes (Foreach k at hd test body) h = absurd (both_ways false refl h)
  still-passes (For k at hd test body) h = absurd (both_ways false refl h)
  still-passes (If k c a b) h =
      let r = both-true (is_certain its c) (is_still its a && is_still its b) h in
      let q = both-true (is_still its a) (is_still its b) r.1 in
      f-if k c a b ∙ and-true (f a) (f b) (still-passes a q.0) (still-passes b q.1)
  still-passes (While k at c body) h = absurd (both_ways false refl h)
  still-passes (Do k at body c) h = absurd (both_ways false refl h)
  still-passes (InBfs k at hd c body) h = absurd (both_ways false refl h)
  still-passes (InBfsBoth k at hd c body bk d back) h = absurd (both_ways false refl h)
  still-passes (Return k at e) h = absurd (both_ways false refl h)

  all-still : (ss : List Stmt) → list_all (is_still (n ∷ t ∷ [])) ss ≡ true → f (sequence ss) ≡ true
  all-still [] h = f-skip
  all-still (s ∷ ss) h = let r = both-true (is_still its s) (list_all (is_still its) ss) h in both s (sequence ss) (still-passes s r.0) (all-still ss r.1)

  -- what is evaluated again
  again : (s : Stmt) (xs : List ℕ) → is_inner_body ds (n ∷ t ∷ []) true s ≡ true → f (kept ds (n ∷ t ∷ []) n false s xs) ≡ true
  again Skip xs g = f-skip
  again (Then a b) xs g =
      let r = both-true (is_inner_body ds its true a) (is_inner_body ds its true b) g in
      let ys = needs ds its n false b xs in
      both (kept ds its n false a ys) (kept ds its n false b xs) (again a ys r.0) (again b xs r.1)
  again (Declare k x e) xs g = either (serves ds its n false xs (Declare k x e)) (Declare k x e) (f-declare k x e)
  again (DeclareEdge x y at) xs g = f-edge x y at
  again (Assign k u e) xs g = either (serves ds its n false xs (Assign k u e)) (Assign k u e) (f-assign k u e)
  again (Defer k u e) xs g = absurd (both_ways false refl g)
  again (Combine k total r ts es) xs g = by (are_at_once ds n true ts) refl (serves ds its n false xs (Combine k total r ts es)) refl
    where
      by : (b : Bool) → are_at_once ds n true ts ≡ b → (d : Bool) → serves ds (n ∷ t ∷ []) n false xs (Combine k total r ts es) ≡ d → f (cond d (Combine k total r ts es) Skip) ≡ true
      by b e false q = f-skip
      by true e true q = f-once k total r ts es e
      by false e true q = absurd (both_ways (serves ds (n ∷ t ∷ []) n false xs (Combine k total r ts es)) (ap (λ b. list_any (is_in xs) (cond b (variables_of ts) []) || false) e) q)
  again (Group k at g' p e) xs g = absurd (both_ways false refl g)
  again (Foreach k at hd test body) xs g = absurd (both_ways false refl g)
  again (For k at hd test body) xs g = absurd (both_ways false refl g)
  again (If k c a b) xs g =
      let o = both-true (is_flat its true c) (is_inner_body ds its true a && is_inner_body ds its true b) g in
      let r = both-true (is_inner_body ds its true a) (is_inner_body ds its true b) o.1 in
      let ka = kept ds its n false a xs in
      let kb = kept ds its n false b xs in
      either (serves ds its n false xs (If k c a b)) (If k c ka kb) (f-if k c ka kb ∙ and-true (f ka) (f kb) (again a xs r.0) (again b xs r.1))
  again (While k at c body) xs g = absurd (both_ways false refl g)
  again (Do k at body c) xs g = absurd (both_ways false refl g)
  again (InBfs k at hd c body) xs g = absurd (both_ways false refl g)
  again (InBfsBoth k at hd c body bk d back) xs g = absurd (both_ways false refl g)
  again (Return k at e) xs g = absurd (both_ways false refl g)

  -- so of a slice, where the group passes
  slice-passes : (f-each : (k : Key) (at : Place) (h : Head) (test : Expr) (a b : Stmt) → (f a ≡ true → f b ≡ true) → f (Foreach k at h test a) ≡ true → f (Foreach k at h test b) ≡ true) (done group : List Stmt) →
      is_inner_body ds (n ∷ t ∷ []) true (sequence done) ≡ true → f (sequence group) ≡ true → f (lean_slice ds n t done group) ≡ true
  slice-passes f-each done group g p =
      let ka = kept ds its n false (sequence done) (needs ds its n true (sequence group) []) in
      let kb = kept ds its n true (sequence group) [] in
      Kept.opened f (λ c. true) f-skip f-then (λ k c a b. f-if k c a b) f-each (Then ka kb)
      (both ka kb (again (sequence done) (needs ds its n true (sequence group) []) g) (Kept.resumed-keeps f (λ c. true) f-skip f-then (λ k c a b. f-if k c a b) f-each ds its n true (sequence group) [] p))

-- nothing reduces so: nothing can fault behind
last-of : (js : List ℕ) (s : Stmt) → not (adds_elsewhere js s) ≡ true → adds_last js s ≡ true
last-of js (Then a b) h =
    let r = both-true (not (adds_elsewhere js a)) (not (adds_elsewhere js b)) (sym (not-or (adds_elsewhere js a) (adds_elsewhere js b)) ∙ h) in
    let behind = not (adds_elsewhere js a) || is_calm js b in
    and-true (adds_last js a) (adds_last js b && behind) (last-of js a r.0) (and-true (adds_last js b) behind (last-of js b r.1) (ap (λ z. z || is_calm js b) r.0))
last-of js (If k c a b) h =
    let r = both-true (not (adds_elsewhere js a)) (not (adds_elsewhere js b)) (sym (not-or (adds_elsewhere js a) (adds_elsewhere js b)) ∙ h) in and-true (adds_last js a) (adds_last js b) (last-of js a r.0) (last-of js b r.1)
last-of js s h = refl

-- ---- statements of a loop

module _ (ds : List Declaration) (n : ℕ) (h : Head) (test : Expr) (test-plain : is_flat (n ∷ h.iterator ∷ []) false test ≡ true) where
  abbrev t : ℕ
  t = h.iterator

  abbrev around : List ℕ
  around = n ∷ h.iterator ∷ []

  avoids-once : (y : ℕ) (k : Key) (total : TotalKey) (r : Reduce) (ts : List Target) (es : List Expr) → are_at_once ds n true ts ≡ true → avoids y (Combine k total r ts es) ≡ true
  avoids-once y k total r ts es o = off-once ds n y ts o

  calm-once : (k : Key) (total : TotalKey) (r : Reduce) (ts : List Target) (es : List Expr) → are_at_once ds n true ts ≡ true → not (adds_elsewhere (n ∷ h.iterator ∷ []) (Combine k total r ts es)) ≡ true
  calm-once k total r ts es o = ap (λ b. not (can_overflow r && not b)) (there-once ds n around ts o) ∙ none (can_overflow r)
    where
      none : (b : Bool) → not (b && false) ≡ true
      none true = refl
      none false = refl

  -- what reads no edge property, and gives to one end, goes one way
  goes : (s : Stmt) → is_inner_body ds (n ∷ h.iterator ∷ []) false s ≡ true → (avoids n s ≡ true) ⊎ (avoids h.iterator s ≡ true) → not (adds_elsewhere (n ∷ h.iterator ∷ []) s) ≡ true → goes_one_way ds n h test s ≡ true
  goes s g o c = and-true (has_a_way ds n h test s) (adds_last around s) (⊎_elim push pull o) (last-of around s c)
    where
      some : (a b c : Bool) → b ≡ true → a || (b || c) ≡ true
      some true b c e = refl
      some false b c e = ap (λ z. z || c) e

      last : (a b c : Bool) → c ≡ true → a || (b || c) ≡ true
      last true b c e = refl
      last false true c e = refl
      last false false c e = e

      push : avoids n s ≡ true → has_a_way ds n h test s ≡ true
      push a =
          some (is_home ds n h test s) (is_push ds n h test s) (is_pull ds n h test s)
          (and-true (is_flat around (is_along h.domain) test) (is_inner_body ds around (is_along h.domain) s && avoids n s) (flat-any around (is_along h.domain) test test-plain) (and-true (is_inner_body ds around (is_along h.domain) s) (avoids n s) (body-any ds around (is_along h.domain) s g) a))

      pull : avoids h.iterator s ≡ true → has_a_way ds n h test s ≡ true
      pull a =
          last (is_home ds n h test s) (is_push ds n h test s) (is_pull ds n h test s)
          (and-true (is_flat around (is_against h.domain) test) (is_inner_body ds around (is_against h.domain) s && avoids t s) (flat-any around (is_against h.domain) test test-plain) (and-true (is_inner_body ds around (is_against h.domain) s) (avoids t s) (body-any ds around (is_against h.domain) s g) a))

  -- a slice of a group that does
  slice-goes : (done group : List Stmt) → is_inner_body ds (n ∷ h.iterator ∷ []) false (sequence done) ≡ true → is_inner_body ds (n ∷ h.iterator ∷ []) false (sequence group) ≡ true → (avoids n (sequence group) ≡ true) ⊎ (avoids h.iterator (sequence group) ≡ true) → not (adds_elsewhere (n ∷ h.iterator ∷ []) (sequence group)) ≡ true →
      goes_one_way ds n h test (lean_slice ds n h.iterator done group) ≡ true
  slice-goes done group gd gg o c =
      goes (lean_slice ds n t done group) (Kept.lean-keeps (is_inner_body ds around false) (is_flat around false) refl (λ a b. refl) (λ k c a b. refl) (λ k at h test a b f e. e) ds n t done group gd gg)
      (⊎_elim (λ a. inl (avoid n a)) (λ a. inr (avoid t a)) o)
      (slice-passes ds n t (λ s. not (adds_elsewhere around s)) refl (λ a b. not-or (adds_elsewhere around a) (adds_elsewhere around b)) (λ k c a b. not-or (adds_elsewhere around a) (adds_elsewhere around b)) (λ k x e. refl) (λ x y at. refl) (λ k u e. refl) calm-once
      (λ k at h test a b f e. refl) done group (body-any ds around true (sequence done) gd) c)
    where
      avoid : (y : ℕ) → avoids y (sequence group) ≡ true → avoids y (lean_slice ds n h.iterator done group) ≡ true
      avoid y a =
          slice-passes ds n t (avoids y) refl (λ a b. refl) (λ k c a b. refl) (λ k x e. refl) (λ x y at. refl) (λ k u e. refl) (avoids-once y) (λ k at h test a b f e. refl) done group (body-any ds around true (sequence done) gd) a

  -- statements that wait, and one that is plain
  next-goes : (done wait : List Stmt) (s : Stmt) → is_inner_body ds (n ∷ h.iterator ∷ []) false (sequence done) ≡ true → is_inner_body ds (n ∷ h.iterator ∷ []) false (sequence (wait ++ (s ∷ []))) ≡ true → list_all (is_still (n ∷ h.iterator ∷ [])) wait ≡ true → is_plain n h.iterator s ≡ true →
      goes_one_way ds n h test (lean_slice ds n h.iterator done (wait ++ (s ∷ []))) ≡ true
  next-goes done wait s gd gn still plain =
      let r = both-true (avoids n s || avoids t s) (not (adds_elsewhere around s)) plain in
      slice-goes done (wait ++ (s ∷ [])) gd gn (ends (avoids n s) (avoids t s) refl refl r.0)
      (Kept.append (λ s. not (adds_elsewhere around s)) (λ c. true) refl (λ a b. not-or (adds_elsewhere around a) (adds_elsewhere around b)) (λ k c a b. not-or (adds_elsewhere around a) (adds_elsewhere around b)) (λ k at h test a b f e. refl) wait (s ∷ [])
      (all-still ds n t (λ s. not (adds_elsewhere around s)) refl (λ a b. not-or (adds_elsewhere around a) (adds_elsewhere around b)) (λ k c a b. not-or (adds_elsewhere around a) (adds_elsewhere around b)) (λ k x e. refl) (λ x y at. refl) (λ k u e. refl) calm-once wait still)
      (not-or (adds_elsewhere around s) false ∙ and-true (not (adds_elsewhere around s)) true r.1 refl))
    where
      avoid : (y : ℕ) → avoids y s ≡ true → avoids y (sequence (wait ++ (s ∷ []))) ≡ true
      avoid y a =
          Kept.append (avoids y) (λ c. true) refl (λ a b. refl) (λ k c a b. refl) (λ k at h test a b f e. refl) wait (s ∷ [])
          (all-still ds n t (avoids y) refl (λ a b. refl) (λ k c a b. refl) (λ k x e. refl) (λ x y at. refl) (λ k u e. refl) (avoids-once y) wait still) (and-true (avoids y s) true a refl)

      ends : (a b : Bool) → avoids n s ≡ a → avoids h.iterator s ≡ b → a || b ≡ true → (avoids n (sequence (wait ++ (s ∷ []))) ≡ true) ⊎ (avoids h.iterator (sequence (wait ++ (s ∷ []))) ≡ true)
      ends true b p q o = inl (avoid n p)
      ends false b p q o = inr (avoid h.iterator (q ∙ o))

  parts : (xs ys : List Stmt) → is_inner_body ds (n ∷ h.iterator ∷ []) false (sequence (xs ++ ys)) ≡ true → (is_inner_body ds (n ∷ h.iterator ∷ []) false (sequence xs) ≡ true) × (is_inner_body ds (n ∷ h.iterator ∷ []) false (sequence ys) ≡ true)
  parts = Kept.parts (is_inner_body ds around false) (is_flat around false) refl (λ a b. refl) (λ k c a b. refl) (λ k at h test a b f e. e)

  -- one more statement
  step : (done wait : List Stmt) (s : Stmt) (ss : List Stmt) → is_inner_body ds (n ∷ h.iterator ∷ []) false (sequence (done ++ (wait ++ (s ∷ ss)))) ≡ true → list_all (is_still (n ∷ h.iterator ∷ [])) wait ≡ true → list_all (is_plain n h.iterator) (s ∷ ss) ≡ true →
      (is_inner_body ds (n ∷ h.iterator ∷ []) false (sequence (done ++ ((wait ++ (s ∷ [])) ++ ss))) ≡ true → list_all (is_still (n ∷ h.iterator ∷ [])) (wait ++ (s ∷ [])) ≡ true → leaves_go ds n h.iterator (goes_one_way ds n h test) done (wait ++ (s ∷ [])) ss ≡ true) →
      (is_inner_body ds (n ∷ h.iterator ∷ []) false (sequence ((done ++ (wait ++ (s ∷ []))) ++ ss)) ≡ true → leaves_go ds n h.iterator (goes_one_way ds n h test) (done ++ (wait ++ (s ∷ []))) [] ss ≡ true) →
      cond (is_still (n ∷ h.iterator ∷ []) s) (leaves_go ds n h.iterator (goes_one_way ds n h test) done (wait ++ (s ∷ [])) ss)
      (goes_one_way ds n h test (lean_slice ds n h.iterator done (wait ++ (s ∷ []))) && leaves_go ds n h.iterator (goes_one_way ds n h test) (done ++ (wait ++ (s ∷ []))) [] ss) ≡ true
  step done wait s ss g still plain waits counts = by (is_still around s) refl
    where
      next : List Stmt
      next = wait ++ (s ∷ [])

      moved : is_inner_body ds (n ∷ h.iterator ∷ []) false (sequence (done ++ ((wait ++ (s ∷ [])) ++ ss))) ≡ true
      moved = subst (λ l. is_inner_body ds (n ∷ h.iterator ∷ []) false (sequence (done ++ l)) ≡ true) (sym (append_assoc wait (s ∷ []) ss)) g

      grouped : is_inner_body ds (n ∷ h.iterator ∷ []) false (sequence ((done ++ (wait ++ (s ∷ []))) ++ ss)) ≡ true
      grouped = subst (λ l. is_inner_body ds (n ∷ h.iterator ∷ []) false (sequence l) ≡ true) (sym (append_assoc done (wait ++ (s ∷ [])) ss)) moved

      by : (o : Bool) → is_still (n ∷ h.iterator ∷ []) s ≡ o → cond o (leaves_go ds n h.iterator (goes_one_way ds n h test) done (wait ++ (s ∷ [])) ss)
          (goes_one_way ds n h test (lean_slice ds n h.iterator done (wait ++ (s ∷ []))) && leaves_go ds n h.iterator (goes_one_way ds n h test) (done ++ (wait ++ (s ∷ []))) [] ss) ≡ true
      by true e = waits moved (join wait still)
        where
          join : (wait : List Stmt) → list_all (is_still (n ∷ h.iterator ∷ [])) wait ≡ true → list_all (is_still (n ∷ h.iterator ∷ [])) (wait ++ (s ∷ [])) ≡ true
          join [] q = and-true (is_still (n ∷ h.iterator ∷ []) s) true e refl
          join (w ∷ wait) q = let r = both-true (is_still (n ∷ h.iterator ∷ []) w) (list_all (is_still (n ∷ h.iterator ∷ [])) wait) q in and-true (is_still (n ∷ h.iterator ∷ []) w) (list_all (is_still (n ∷ h.iterator ∷ [])) (wait ++ (s ∷ []))) r.0 (join wait r.1)
      by false e =
          let u = parts (done ++ next) ss grouped in
          let v = parts done next u.0 in
          and-true (goes_one_way ds n h test (lean_slice ds n t done next)) (leaves_go ds n t (goes_one_way ds n h test) (done ++ next) [] ss) (next-goes done wait s v.0 v.1 still (both-true (is_plain n t s) (list_all (is_plain n t) ss) plain).0) (counts grouped)

  -- all statements of a body
  leaves-plain : (done wait ss : List Stmt) → is_inner_body ds (n ∷ h.iterator ∷ []) false (sequence (done ++ (wait ++ ss))) ≡ true → list_all (is_still (n ∷ h.iterator ∷ [])) wait ≡ true → list_all (is_plain n h.iterator) ss ≡ true →
      leaves_go ds n h.iterator (goes_one_way ds n h test) done wait ss ≡ true
  leaves-plain [] wait [] g still plain =
      slice-goes [] wait refl (subst (λ l. is_inner_body ds around false (sequence l) ≡ true) (append-nil wait) g)
      (inl (all-still ds n t (avoids n) refl (λ a b. refl) (λ k c a b. refl) (λ k x e. refl) (λ x y at. refl) (λ k u e. refl) (avoids-once n) wait still))
      (all-still ds n t (λ s. not (adds_elsewhere around s)) refl (λ a b. not-or (adds_elsewhere around a) (adds_elsewhere around b)) (λ k c a b. not-or (adds_elsewhere around a) (adds_elsewhere around b)) (λ k x e. refl) (λ x y at. refl) (λ k u e. refl) calm-once wait still)
  leaves-plain (d ∷ done) wait [] g still plain = refl
  leaves-plain [] wait (s ∷ ss) g still plain = step [] wait s ss g still plain (λ m e. leaves-plain [] (wait ++ (s ∷ [])) ss m e (both-true (is_plain n t s) (list_all (is_plain n t) ss) plain).1) (λ m. leaves-plain (wait ++ (s ∷ [])) [] ss m refl (both-true (is_plain n t s) (list_all (is_plain n t) ss) plain).1)
  leaves-plain (d ∷ done) wait (s ∷ ss) g still plain =
      step (d ∷ done) wait s ss g still plain (λ m e. leaves-plain (d ∷ done) (wait ++ (s ∷ [])) ss m e (both-true (is_plain n t s) (list_all (is_plain n t) ss) plain).1) (λ m. leaves-plain ((d ∷ done) ++ (wait ++ (s ∷ []))) [] ss m refl (both-true (is_plain n t s) (list_all (is_plain n t) ss) plain).1)

-- ---- programs

loop-plain : (ds : List Declaration) (k : Key) (at : Place) (h : Head) (mask : Expr) (body : Stmt) → goes_plainly ds k at h mask body ≡ true → statements_go ds k at h mask body ≡ true
loop-plain ds k at h mask (Foreach j here inner test body) g = by (goes_one_way ds h.iterator inner test body) g
  where
    js : List ℕ
    js = h.iterator ∷ inner.iterator ∷ []

    by : (o : Bool) → o || (is_flat (h.iterator ∷ inner.iterator ∷ []) false test && (is_inner_body ds (h.iterator ∷ inner.iterator ∷ []) false body && list_all (is_plain h.iterator inner.iterator) (statements_of body))) ≡ true →
        o || leaves_go ds h.iterator inner.iterator (goes_one_way ds h.iterator inner test) [] [] (statements_of body) ≡ true
    by true g = refl
    by false g =
        let a = both-true (is_flat js false test) (is_inner_body ds js false body && list_all (is_plain h.iterator inner.iterator) (statements_of body)) g in
        let b = both-true (is_inner_body ds js false body) (list_all (is_plain h.iterator inner.iterator) (statements_of body)) a.1 in
        leaves-plain ds h.iterator inner test a.0 [] [] (statements_of body) (Kept.opened (is_inner_body ds js false) (is_flat js false) refl (λ a b. refl) (λ k c a b. refl) (λ k at h test a b f e. e) body b.0) refl b.1
loop-plain ds k at h mask body g = refl

phase-plain : (ds : List Declaration) (s : Stmt) → each_passes (goes_plainly ds) s ≡ true → each_passes (statements_go ds) s ≡ true
phase-plain ds (Then a b) g = let r = both-true (each_passes (goes_plainly ds) a) (each_passes (goes_plainly ds) b) g in and-true (each_passes (statements_go ds) a) (each_passes (statements_go ds) b) (phase-plain ds a r.0) (phase-plain ds b r.1)
phase-plain ds (Foreach k at h mask body) g = loop-plain ds k at h mask body g
phase-plain ds (For k at h test body) g = phase-plain ds body g
phase-plain ds (If k c a b) g = let r = both-true (each_passes (goes_plainly ds) a) (each_passes (goes_plainly ds) b) g in and-true (each_passes (statements_go ds) a) (each_passes (statements_go ds) b) (phase-plain ds a r.0) (phase-plain ds b r.1)
phase-plain ds (While k at c body) g = phase-plain ds body g
phase-plain ds (Do k at body c) g = phase-plain ds body g
phase-plain ds s g = refl

-- where inner loops read no edge property, each statement goes one way by itself
pub plain-goes : (p : Program) → has_plain_statements p ≡ true → has_statements_that_go p ≡ true
plain-goes p g = phase-plain p.declarations p.body g
