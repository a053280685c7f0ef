-- What only a reduction can fail that ends with a loop: what is evaluated again passes, and a slice ends where its last statement does.
use Rattle.std.proofs.Common.{◌≡◌, ℕ, Bool, true, false, cond, List, [], ◌∷◌, ◌++◌, append-nil, refl, sym, ap, ◌∙◌, Option}
use Rattle.std.specs.Prelude.{◌&&◌, ◌||◌, not}
use Rattle.std.specs.List.{list_all, list_any}
use Rattle.std.proofs.lemmas.Bool.{both_ways}
use Rattle.gm_base.specs.declared.places.Place.{Place}
use Rattle.gm_value.specs.declared.reductions.Reduce.{Reduce}
use Rattle.gm_ast.specs.Ways.{is_in}
use Rattle.gm_ast.specs.declared.tree.Declaration.{Declaration}
use Rattle.gm_ast.specs.declared.tree.Head.{Head}
use Rattle.gm_ast.specs.declared.tree.Key.{Key}
use Rattle.gm_ast.specs.declared.tree.Target.{Target}
use Rattle.gm_ast.specs.declared.tree.Target.TheVariants as T
use Rattle.gm_ast.specs.declared.tree.TotalKey.{TotalKey}
use Rattle.gm_ast.specs.Program.{Expr, Stmt, Skip, Then, Declare, DeclareEdge, Assign, Defer, Combine, Group, Foreach, For, If, While, Do, InBfs, InBfsBoth, Return, sequence}
use Rattle.gm_forms.specs.Cut.{can_overflow, is_there, is_calm, adds_elsewhere, adds_last}
use Rattle.gm_forms.specs.Forms.{is_flat, is_inner_body, is_off, avoids}
use Rattle.gm_forms.specs.Sharing.{is_at_once, are_at_once, variables_of}
use Rattle.gm_forms.proofs.Named.{both-true}
use Rattle.gm_forms.proofs.Weaker.{and-true}
use Rattle.gm_loop_laws.specs.Masks.{is_certain}
use Rattle.gm_loop_laws.specs.Resumed.{is_still, serves, needs, kept}
use Rattle.gm_cut.specs.Lean.{lean_slice}
use Rattle.gm_cut.specs.Slices.{statements_of}
use Rattle.gm_cut.proofs.SlicesKept as Kept
use Rattle.gm_one_way.specs.Along.{is_lone}

-- ---- tests that only a reduction can fail that ends with its loop

pub not-or : (a b : Bool) → not (a || b) ≡ not a && not b
not-or true b = refl
not-or false b = refl

pub off-once : (ds : List Declaration) (n y : ℕ) (ts : List Target) → are_at_once ds n true ts ≡ true → list_all (is_off y) ts ≡ true
off-once ds n y [] h = refl
off-once ds n y (T.Scalar x at ∷ ts) h = off-once ds n y ts (both-true (is_at_once ds n true (T.Scalar x at)) (are_at_once ds n true ts) h).1
off-once ds n y (T.Property x p at ∷ ts) h = absurd (both_ways false refl h)

pub there-once : (ds : List Declaration) (n : ℕ) (its : List ℕ) (ts : List Target) → are_at_once ds n true ts ≡ true → list_all (is_there its) ts ≡ true
there-once ds n its [] h = refl
there-once ds n its (T.Scalar x at ∷ ts) h = there-once ds n its ts (both-true (is_at_once ds n true (T.Scalar x at)) (are_at_once ds n true ts) h).1
there-once ds n its (T.Property x p at ∷ ts) h = absurd (both_ways false refl h)

-- f: a test of a body that only a reduction can fail that ends with a loop
module _ (ds : List Declaration) (n t : ℕ) (f : Stmt → Bool) (f-skip : f Skip ≡ true) (f-then : (a b : Stmt) → f (Then a b) ≡ f a && f b) (f-if : (k : Key) (c : Expr) (a b : Stmt) → f (If k c a b) ≡ f a && f b)
    (f-declare : (k : Key) (x : ℕ) (e : Option Expr) → f (Declare k x e) ≡ true) (f-edge : (x y : ℕ) (at : Place) → f (DeclareEdge x y at) ≡ true) (f-assign : (k : Key) (u : Target) (e : Expr) → f (Assign k u e) ≡ true)
    (f-once : (k : Key) (total : TotalKey) (r : Reduce) (ts : List Target) (es : List Expr) → are_at_once ds n true ts ≡ true → f (Combine k total r ts es) ≡ true) where
  abbrev its : List ℕ
  its = n ∷ t ∷ []

  both : (a b : Stmt) → f a ≡ true → f b ≡ true → f (Then a b) ≡ true
  both a b p q = f-then a b ∙ and-true (f a) (f b) p q

  either : (d : Bool) (s : Stmt) → f s ≡ true → f (cond d s Skip) ≡ true
  either true s p = p
  either false s p = f-skip

  -- what only sets locals
  pub still-passes : (s : Stmt) → is_still (n ∷ t ∷ []) s ≡ true → f s ≡ true
  still-passes Skip h = f-skip
  still-passes (Then a b) h = let r = both-true (is_still its a) (is_still its b) h in both a b (still-passes a r.0) (still-passes b r.1)
  still-passes (Declare k x e) h = f-declare k x e
  still-passes (DeclareEdge x y at) h = f-edge x y at
  still-passes (Assign k u e) h = f-assign k u e
  still-passes (Defer k u e) h = absurd (both_ways false refl h)
  still-passes (Combine k total r ts es) h = absurd (both_ways false refl h)
  still-passes (Group k at g p e) h = absurd (both_ways false refl h)
  still-passes (Foreach k at hd test body) h = absurd (both_ways false refl h)
  still-passes (For k at hd test body) h = absurd (both_ways false refl h)
  still-passes (If k c a b) h =
      let r = both-true (is_certain its c) (is_still its a && is_still its b) h in
      let q = both-true (is_still its a) (is_still its b) r.1 in
      f-if k c a b ∙ and-true (f a) (f b) (still-passes a q.0) (still-passes b q.1)
  still-passes (While k at c body) h = absurd (both_ways false refl h)
  still-passes (Do k at body c) h = absurd (both_ways false refl h)
  still-passes (InBfs k at hd c body) h = absurd (both_ways false refl h)
  still-passes (InBfsBoth k at hd c body bk d back) h = absurd (both_ways false refl h)
  still-passes (Return k at e) h = absurd (both_ways false refl h)

  pub all-still : (ss : List Stmt) → list_all (is_still (n ∷ t ∷ [])) ss ≡ true → f (sequence ss) ≡ true
  all-still [] h = f-skip
  all-still (s ∷ ss) h = let r = both-true (is_still its s) (list_all (is_still its) ss) h in both s (sequence ss) (still-passes s r.0) (all-still ss r.1)

  -- what is evaluated again
  pub again : (s : Stmt) (xs : List ℕ) → is_inner_body ds (n ∷ t ∷ []) true s ≡ true → f (kept ds (n ∷ t ∷ []) n false s xs) ≡ true
  again Skip xs g = f-skip
  again (Then a b) xs g =
      let r = both-true (is_inner_body ds its true a) (is_inner_body ds its true b) g in
      let ys = needs ds its n false b xs in
      both (kept ds its n false a ys) (kept ds its n false b xs) (again a ys r.0) (again b xs r.1)
  again (Declare k x e) xs g = either (serves ds its n false xs (Declare k x e)) (Declare k x e) (f-declare k x e)
  again (DeclareEdge x y at) xs g = f-edge x y at
  again (Assign k u e) xs g = either (serves ds its n false xs (Assign k u e)) (Assign k u e) (f-assign k u e)
  again (Defer k u e) xs g = absurd (both_ways false refl g)
  again (Combine k total r ts es) xs g = by (are_at_once ds n true ts) refl (serves ds its n false xs (Combine k total r ts es)) refl
    where
      by : (b : Bool) → are_at_once ds n true ts ≡ b → (d : Bool) → serves ds (n ∷ t ∷ []) n false xs (Combine k total r ts es) ≡ d → f (cond d (Combine k total r ts es) Skip) ≡ true
      by b e false q = f-skip
      by true e true q = f-once k total r ts es e
      by false e true q = absurd (both_ways (serves ds (n ∷ t ∷ []) n false xs (Combine k total r ts es)) (ap (λ b. list_any (is_in xs) (cond b (variables_of ts) []) || false) e) q)
  again (Group k at g' p e) xs g = absurd (both_ways false refl g)
  again (Foreach k at hd test body) xs g = absurd (both_ways false refl g)
  again (For k at hd test body) xs g = absurd (both_ways false refl g)
  again (If k c a b) xs g =
      let o = both-true (is_flat its true c) (is_inner_body ds its true a && is_inner_body ds its true b) g in
      let r = both-true (is_inner_body ds its true a) (is_inner_body ds its true b) o.1 in
      let ka = kept ds its n false a xs in
      let kb = kept ds its n false b xs in
      either (serves ds its n false xs (If k c a b)) (If k c ka kb) (f-if k c ka kb ∙ and-true (f ka) (f kb) (again a xs r.0) (again b xs r.1))
  again (While k at c body) xs g = absurd (both_ways false refl g)
  again (Do k at body c) xs g = absurd (both_ways false refl g)
  again (InBfs k at hd c body) xs g = absurd (both_ways false refl g)
  again (InBfsBoth k at hd c body bk d back) xs g = absurd (both_ways false refl g)
  again (Return k at e) xs g = absurd (both_ways false refl g)

  -- so of a slice, where the group passes
  pub slice-passes : (f-each : (k : Key) (at : Place) (h : Head) (test : Expr) (a b : Stmt) → (f a ≡ true → f b ≡ true) → f (Foreach k at h test a) ≡ true → f (Foreach k at h test b) ≡ true) (done group : List Stmt) →
      is_inner_body ds (n ∷ t ∷ []) true (sequence done) ≡ true → f (sequence group) ≡ true → f (lean_slice ds n t done group) ≡ true
  slice-passes f-each done group g p =
      let ka = kept ds its n false (sequence done) (needs ds its n true (sequence group) []) in
      let kb = kept ds its n true (sequence group) [] in
      Kept.opened f (λ c. true) f-skip f-then (λ k c a b. f-if k c a b) f-each (Then ka kb)
      (both ka kb (again (sequence done) (needs ds its n true (sequence group) []) g) (Kept.resumed-keeps f (λ c. true) f-skip f-then (λ k c a b. f-if k c a b) f-each ds its n true (sequence group) [] p))

-- ---- nothing can fault behind the last statement

last-of : (js : List ℕ) (s : Stmt) → not (adds_elsewhere js s) ≡ true → adds_last js s ≡ true
last-of js (Then a b) h =
    let r = both-true (not (adds_elsewhere js a)) (not (adds_elsewhere js b)) (sym (not-or (adds_elsewhere js a) (adds_elsewhere js b)) ∙ h) in
    let behind = not (adds_elsewhere js a) || is_calm js b in
    and-true (adds_last js a) (adds_last js b && behind) (last-of js a r.0) (and-true (adds_last js b) behind (last-of js b r.1) (ap (λ z. z || is_calm js b) r.0))
last-of js (If k c a b) h =
    let r = both-true (not (adds_elsewhere js a)) (not (adds_elsewhere js b)) (sym (not-or (adds_elsewhere js a) (adds_elsewhere js b)) ∙ h) in and-true (adds_last js a) (adds_last js b) (last-of js a r.0) (last-of js b r.1)
last-of js s h = refl

or-true : (b : Bool) → b || true ≡ true
or-true true = refl
or-true false = refl

module _ (js : List ℕ) where
  -- one part behind which nothing can fault, and then another
  behind : (a b : Stmt) → adds_last js a ≡ true → adds_last js b ≡ true → not (adds_elsewhere js a) || is_calm js b ≡ true → adds_last js (Then a b) ≡ true
  behind a b p q r = and-true (adds_last js a) (adds_last js b && (not (adds_elsewhere js a) || is_calm js b)) p (and-true (adds_last js b) (not (adds_elsewhere js a) || is_calm js b) q r)

  -- statements that do not add elsewhere, and then others
  last-behind : (xs ys : List Stmt) → not (adds_elsewhere js (sequence xs)) ≡ true → adds_last js (sequence ys) ≡ true → adds_last js (sequence (xs ++ ys)) ≡ true
  last-behind [] ys p q = q
  last-behind (x ∷ xs) ys p q =
      let r = both-true (not (adds_elsewhere js x)) (not (adds_elsewhere js (sequence xs))) (sym (not-or (adds_elsewhere js x) (adds_elsewhere js (sequence xs))) ∙ p) in
      behind x (sequence (xs ++ ys)) (last-of js x r.0) (last-behind xs ys r.1 q) (ap (λ z. z || is_calm js (sequence (xs ++ ys))) r.0)

  alone : (s : Stmt) → adds_last js s ≡ true → adds_last js (sequence (s ∷ [])) ≡ true
  alone s p = behind s Skip p refl (or-true (not (adds_elsewhere js s)))

  -- the statements of a lone one
  pub last-lone : (s : Stmt) → is_lone s ≡ true → adds_last js (sequence (statements_of s)) ≡ true
  last-lone Skip l = refl
  last-lone (Then a Skip) l = ap (λ xs. adds_last js (sequence xs)) (append-nil (statements_of a)) ∙ last-lone a l
  last-lone (Then a b) l = absurd (both_ways false refl l)
  last-lone (If k c a Skip) l = alone (If k c (sequence (statements_of a)) Skip) (and-true (adds_last js (sequence (statements_of a))) true (last-lone a l) refl)
  last-lone (If k c a b) l = absurd (both_ways false refl l)
  last-lone s l = alone s refl

either-lone : (o : Bool) (s : Stmt) → is_lone s ≡ true → is_lone (cond o s Skip) ≡ true
either-lone true s l = l
either-lone false s l = refl

-- ds: the table; n, t: the outer and the inner iterator
module _ (ds : List Declaration) (n t : ℕ) where
  abbrev js : List ℕ
  js = n ∷ t ∷ []

  abbrev K : Bool → Stmt → List ℕ → Stmt
  K new s xs = kept ds (n ∷ t ∷ []) n new s xs

  pub avoids-once : (y : ℕ) (k : Key) (total : TotalKey) (r : Reduce) (ts : List Target) (es : List Expr) → are_at_once ds n true ts ≡ true → avoids y (Combine k total r ts es) ≡ true
  avoids-once y k total r ts es o = off-once ds n y ts o

  calm-once : (k : Key) (total : TotalKey) (r : Reduce) (ts : List Target) (es : List Expr) → are_at_once ds n true ts ≡ true → not (adds_elsewhere (n ∷ t ∷ []) (Combine k total r ts es)) ≡ true
  calm-once k total r ts es o = ap (λ b. not (can_overflow r && not b)) (there-once ds n js ts o) ∙ none (can_overflow r)
    where
      none : (b : Bool) → not (b && false) ≡ true
      none true = refl
      none false = refl

  abbrev calm : Stmt → Bool
  calm s = not (adds_elsewhere (n ∷ t ∷ []) s)

  calm-then : (a b : Stmt) → not (adds_elsewhere (n ∷ t ∷ []) (Then a b)) ≡ not (adds_elsewhere (n ∷ t ∷ []) a) && not (adds_elsewhere (n ∷ t ∷ []) b)
  calm-then a b = not-or (adds_elsewhere js a) (adds_elsewhere js b)

  calm-if : (k : Key) (c : Expr) (a b : Stmt) → not (adds_elsewhere (n ∷ t ∷ []) (If k c a b)) ≡ not (adds_elsewhere (n ∷ t ∷ []) a) && not (adds_elsewhere (n ∷ t ∷ []) b)
  calm-if k c a b = not-or (adds_elsewhere js a) (adds_elsewhere js b)

  calm-opened : (s : Stmt) → not (adds_elsewhere (n ∷ t ∷ []) s) ≡ true → not (adds_elsewhere (n ∷ t ∷ []) (sequence (statements_of s))) ≡ true
  calm-opened s p = Kept.opened (λ s. not (adds_elsewhere (n ∷ t ∷ []) s)) (λ c. true) refl calm-then calm-if (λ k at h test a b f e. refl) s p

  -- what is kept of a lone statement is one
  lone-kept : (new : Bool) (s : Stmt) (xs : List ℕ) → is_lone s ≡ true → is_lone (kept ds (n ∷ t ∷ []) n new s xs) ≡ true
  lone-kept new Skip xs l = refl
  lone-kept new (Then a Skip) xs l = lone-kept new a xs l
  lone-kept new (Then a b) xs l = absurd (both_ways false refl l)
  lone-kept new (If k c a Skip) xs l = by (serves ds js n new xs (If k c a Skip)) (lone-kept new a xs l)
    where
      by : (o : Bool) → is_lone (kept ds (n ∷ t ∷ []) n new a xs) ≡ true → is_lone (cond o (If k c (kept ds (n ∷ t ∷ []) n new a xs) Skip) Skip) ≡ true
      by true e = e
      by false e = refl
  lone-kept new (If k c a b) xs l = absurd (both_ways false refl l)
  lone-kept new (DeclareEdge x y at) xs l = refl
  lone-kept new (Declare k x e) xs l = either-lone (serves ds js n new xs (Declare k x e)) (Declare k x e) refl
  lone-kept new (Assign k u e) xs l = either-lone (serves ds js n new xs (Assign k u e)) (Assign k u e) refl
  lone-kept new (Combine k total r ts es) xs l = either-lone (serves ds js n new xs (Combine k total r ts es)) (Combine k total r ts es) refl
  lone-kept new s xs l = either-lone (serves ds js n new xs s) s refl

  -- statements that wait, and a lone one
  last-next : (wait : List Stmt) (s : Stmt) (xs : List ℕ) → list_all (is_still (n ∷ t ∷ [])) wait ≡ true → is_lone s ≡ true → adds_last (n ∷ t ∷ []) (sequence (statements_of (kept ds (n ∷ t ∷ []) n true (sequence (wait ++ (s ∷ []))) xs))) ≡ true
  last-next [] s xs w l = ap (λ ys. adds_last js (sequence ys)) (append-nil (statements_of (K true s xs))) ∙ last-lone js (K true s xs) (lone-kept true s xs l)
  last-next (x ∷ wait) s xs w l =
      let r = both-true (is_still js x) (list_all (is_still js) wait) w in
      let ys = needs ds js n true (sequence (wait ++ (s ∷ []))) xs in
      last-behind js (statements_of (K true x ys)) (statements_of (K true (sequence (wait ++ (s ∷ []))) xs))
      (calm-opened (K true x ys)
      (Kept.resumed-keeps (λ s. not (adds_elsewhere (n ∷ t ∷ []) s)) (λ c. true) refl calm-then calm-if (λ k at h test a b f e. refl) ds js n true x ys
      (still-passes ds n t (λ s. not (adds_elsewhere (n ∷ t ∷ []) s)) refl calm-then calm-if (λ k x e. refl) (λ x y at. refl) (λ k u e. refl) calm-once x r.0)))
      (last-next wait s xs r.1 l)

  -- a slice ends there
  pub slice-last : (done wait : List Stmt) (s : Stmt) → is_inner_body ds (n ∷ t ∷ []) true (sequence done) ≡ true → list_all (is_still (n ∷ t ∷ [])) wait ≡ true → is_lone s ≡ true → adds_last (n ∷ t ∷ []) (lean_slice ds n t done (wait ++ (s ∷ []))) ≡ true
  slice-last done wait s g w l =
      let ys = needs ds js n true (sequence (wait ++ (s ∷ []))) [] in
      last-behind js (statements_of (K false (sequence done) ys)) (statements_of (K true (sequence (wait ++ (s ∷ []))) []))
      (calm-opened (K false (sequence done) ys) (again ds n t (λ s. not (adds_elsewhere (n ∷ t ∷ []) s)) refl calm-then calm-if (λ k x e. refl) (λ x y at. refl) (λ k u e. refl) calm-once (sequence done) ys g)) (last-next wait s [] w l)

  -- of statements that wait too
  pub still-last : (wait : List Stmt) → list_all (is_still (n ∷ t ∷ [])) wait ≡ true → adds_last (n ∷ t ∷ []) (lean_slice ds n t [] wait) ≡ true
  still-last wait w =
      last-of js (lean_slice ds n t [] wait)
      (slice-passes ds n t (λ s. not (adds_elsewhere (n ∷ t ∷ []) s)) refl calm-then calm-if (λ k x e. refl) (λ x y at. refl) (λ k u e. refl) calm-once (λ k at h test a b f e. refl) [] wait refl
      (all-still ds n t (λ s. not (adds_elsewhere (n ∷ t ∷ []) s)) refl calm-then calm-if (λ k x e. refl) (λ x y at. refl) (λ k u e. refl) calm-once wait w))

  -- statements that wait give nothing, and what is evaluated again neither
  pub slice-avoids : (y : ℕ) (done wait : List Stmt) (s : Stmt) → is_inner_body ds (n ∷ t ∷ []) true (sequence done) ≡ true → list_all (is_still (n ∷ t ∷ [])) wait ≡ true → avoids y s ≡ true → avoids y (lean_slice ds n t done (wait ++ (s ∷ []))) ≡ true
  slice-avoids y done wait s g w a =
      slice-passes ds n t (avoids y) refl (λ a b. refl) (λ k c a b. refl) (λ k x e. refl) (λ x y at. refl) (λ k u e. refl) (avoids-once y) (λ k at h test a b f e. refl) done (wait ++ (s ∷ [])) g
      (Kept.append (avoids y) (λ c. true) refl (λ a b. refl) (λ k c a b. refl) (λ k at h test a b f e. refl) wait (s ∷ [])
      (all-still ds n t (avoids y) refl (λ a b. refl) (λ k c a b. refl) (λ k x e. refl) (λ x y at. refl) (λ k u e. refl) (avoids-once y) wait w) (and-true (avoids y s) true a refl))

  pub still-avoids : (y : ℕ) (wait : List Stmt) → list_all (is_still (n ∷ t ∷ [])) wait ≡ true → avoids y (lean_slice ds n t [] wait) ≡ true
  still-avoids y wait w =
      slice-passes ds n t (avoids y) refl (λ a b. refl) (λ k c a b. refl) (λ k x e. refl) (λ x y at. refl) (λ k u e. refl) (avoids-once y) (λ k at h test a b f e. refl) [] wait refl
      (all-still ds n t (avoids y) refl (λ a b. refl) (λ k c a b. refl) (λ k x e. refl) (λ x y at. refl) (λ k u e. refl) (avoids-once y) wait w)
