-- Where each statement stands alone, and none reads an edge against the way of its message, each slice goes one way.
use Rattle.std.proofs.Common.{◌≡◌, ℕ, Bool, true, false, cond, List, [], ◌∷◌, ◌++◌, append-nil, refl, sym, ap, subst, ◌∙◌, inl, inr}
use Rattle.std.specs.Prelude.{◌&&◌, ◌||◌, nat_eq}
use Rattle.std.specs.List.{list_all}
use Rattle.std.proofs.lemmas.Bool.{both_ways}
use Rattle.std.proofs.lemmas.List.{append_assoc}
use Rattle.gm_ast.specs.Loops.{any}
use Rattle.gm_ast.specs.Ways.{Mention, mentions, reads_through, is_edge_read}
use Rattle.gm_ast.specs.declared.tree.Declaration.{Declaration}
use Rattle.gm_ast.specs.declared.tree.Domain.{Domain}
use Rattle.gm_ast.specs.declared.tree.Domain.TheVariants.{Nodes, OutNbrs, InNbrs, UpNbrs, DownNbrs}
use Rattle.gm_ast.specs.declared.tree.Head.{Head}
use Rattle.gm_ast.specs.Program.{Expr, Stmt, Skip, Then, sequence}
use Rattle.gm_forms.specs.Cut.{adds_last}
use Rattle.gm_forms.specs.Forms as Forms
use Rattle.gm_forms.specs.Forms.{is_flat, is_inner_body, is_range, avoids, is_home, is_push, is_pull, is_along, has_a_way}
use Rattle.gm_forms.specs.Sharing.{targets_alike}
use Rattle.gm_forms.proofs.Named.{both-true}
use Rattle.gm_forms.proofs.Weaker.{and-true}
use Rattle.gm_loop_laws.specs.Resumed.{is_still, needs, kept}
use Rattle.gm_cut.specs.Lean.{lean_slice, leaves_go}
use Rattle.gm_cut.specs.Slices.{goes_one_way}
use Rattle.gm_cut.proofs.SlicesKept as Kept
use Rattle.gm_one_way.specs.Along.{marks, is_lone, goes_along}
use Rattle.gm_one_way.proofs.Late.{slice-last, still-last, slice-avoids, still-avoids}
use Rattle.gm_one_way.proofs.Silent.{quiet, silent, no-false, clear, keeps-silent}
use Rattle.gm_one_way.proofs.Ways.{flat-edges, body-edges, flat-home, body-home, Untold, Outcome, gives, pushes, pulls, outcome}

some-first : (a b : Bool) → a ≡ true → a || b ≡ true
some-first true b h = refl
some-first false b h = absurd (both_ways false refl h)

some-second : (a b c : Bool) → b ≡ true → a || (b || c) ≡ true
some-second true b c e = refl
some-second false b c e = ap (λ z. z || c) e

some-third : (a b c : Bool) → c ≡ true → a || (b || c) ≡ true
some-third true b c e = refl
some-third false true c e = refl
some-third false false c e = e

-- ---- a test of statements one after another

-- f: such a test
module _ (f : Stmt → Bool) (f-skip : f Skip ≡ true) (f-then : (a b : Stmt) → f (Then a b) ≡ f a && f b) where
  both : (a b : Stmt) → f a ≡ true → f b ≡ true → f (Then a b) ≡ true
  both a b p q = f-then a b ∙ and-true (f a) (f b) p q

  each : (a b : Stmt) → f (Then a b) ≡ true → (f a ≡ true) × (f b ≡ true)
  each a b h = both-true (f a) (f b) (sym (f-then a b) ∙ h)

  pub parts : (xs ys : List Stmt) → f (sequence (xs ++ ys)) ≡ true → (f (sequence xs) ≡ true) × (f (sequence ys) ≡ true)
  parts [] ys h = (f-skip, h)
  parts (x ∷ xs) ys h =
      let r = each x (sequence (xs ++ ys)) h in
      let q = parts xs ys r.1 in
      (both x (sequence xs) r.0 q.0, q.1)

  pub joined : (xs ys : List Stmt) → f (sequence xs) ≡ true → f (sequence ys) ≡ true → f (sequence (xs ++ ys)) ≡ true
  joined [] ys p q = q
  joined (x ∷ xs) ys p q = let r = each x (sequence xs) p in both x (sequence (xs ++ ys)) r.0 (joined xs ys r.1 q)

  pub one : (s : Stmt) → f s ≡ true → f (sequence (s ∷ [])) ≡ true
  one s h = both s Skip h f-skip

  pub of-all : (ss : List Stmt) → f (sequence ss) ≡ true → list_all f ss ≡ true
  of-all [] h = refl
  of-all (s ∷ ss) h = let r = each s (sequence ss) h in and-true (f s) (list_all f ss) r.0 (of-all ss r.1)

-- n: the outer iterator; h: the inner loop with its filter; edges, ends: the variables that rest on reads of an edge, and on those at the inner node
module _ (ds : List Declaration) (n : ℕ) (h : Head) (test : Expr) (edges ends : ℕ → Bool) (rg : is_range false h.domain ≡ true) (ne : nat_eq h.iterator n ≡ false) (flat : is_flat (n ∷ h.iterator ∷ []) true test ≡ true) where
  abbrev t : ℕ
  t = h.iterator

  abbrev its : List ℕ
  its = n ∷ h.iterator ∷ []

  -- ---- what is read in a slice

  -- what is kept of statements that wait, and of one behind them
  next-silent : (reads : Mention → Bool) (marked : ℕ → Bool) (around : Bool) (wait : List Stmt) (s : Stmt) → is_inner_body ds (n ∷ h.iterator ∷ []) true (sequence wait) ≡ true → marks ds n reads marked false (sequence wait) ≡ true → list_all (is_still (n ∷ h.iterator ∷ [])) wait ≡ true → Untold ds n h edges ends reads marked around s →
      (silent reads (kept ds (n ∷ h.iterator ∷ []) n true (sequence (wait ++ (s ∷ []))) []) ≡ true) × (clear marked (needs ds (n ∷ h.iterator ∷ []) n true (sequence (wait ++ (s ∷ []))) []) ≡ true)
  next-silent reads marked around [] s g m w u = (and-true (silent reads (kept ds its n true s [])) true u.reads_none refl, u.needs_none)
  next-silent reads marked around (x ∷ wait) s g m w u =
      let p = both-true (is_inner_body ds its true x) (is_inner_body ds its true (sequence wait)) g in
      let q = both-true (marks ds n reads marked false x) (marks ds n reads marked false (sequence wait)) m in
      let o = both-true (is_still its x) (list_all (is_still its) wait) w in
      let rest = next-silent reads marked around wait s p.1 q.1 o.1 u in
      let ys = needs ds its n true (sequence (wait ++ (s ∷ []))) [] in
      let first = keeps-silent ds n t reads marked true x ys false q.0 (λ e. o.0) rest.1 p.0 in
      (and-true (silent reads (kept ds its n true x ys)) (silent reads (kept ds its n true (sequence (wait ++ (s ∷ []))) [])) first.0 rest.0, first.1)

  slice-silent : (reads : Mention → Bool) (marked : ℕ → Bool) (around : Bool) (done wait : List Stmt) (s : Stmt) → is_inner_body ds (n ∷ h.iterator ∷ []) true (sequence done) ≡ true → is_inner_body ds (n ∷ h.iterator ∷ []) true (sequence wait) ≡ true → marks ds n reads marked false (sequence done) ≡ true →
      marks ds n reads marked false (sequence wait) ≡ true → list_all (is_still (n ∷ h.iterator ∷ [])) wait ≡ true → Untold ds n h edges ends reads marked around s → silent reads (lean_slice ds n h.iterator done (wait ++ (s ∷ []))) ≡ true
  slice-silent reads marked around done wait s gd gw md mw w u =
      let next = next-silent reads marked around wait s gw mw w u in
      let ys = needs ds its n true (sequence (wait ++ (s ∷ []))) [] in
      let k0 = kept ds its n false (sequence done) ys in
      let k1 = kept ds its n true (sequence (wait ++ (s ∷ []))) [] in
      let first = keeps-silent ds n t reads marked false (sequence done) ys false md (λ e. absurd (both_ways false refl e)) next.1 gd in
      Kept.opened (silent reads) (quiet reads) refl (λ a b. refl) (λ k c a b. refl) (λ k at h test a b f e. refl) (Then k0 k1) (and-true (silent reads k0) (silent reads k1) first.0 next.0)

  -- ---- the ways of a part

  home-way : (s : Stmt) → h.domain ≡ OutNbrs → is_flat (n ∷ []) true test ≡ true → is_inner_body ds (n ∷ []) true s ≡ true → avoids h.iterator s ≡ true → has_a_way ds n h test s ≡ true
  home-way s d f g a =
      some-first (is_home ds n h test s) (is_push ds n h test s || is_pull ds n h test s)
      (ap (λ d. is_flat (n ∷ []) (is_along d) test && (is_inner_body ds (n ∷ []) (is_along d) s && avoids h.iterator s)) d ∙ and-true (is_flat (n ∷ []) true test) (is_inner_body ds (n ∷ []) true s && avoids h.iterator s) f (and-true (is_inner_body ds (n ∷ []) true s) (avoids h.iterator s) g a))

  push-way : (s : Stmt) → is_flat (n ∷ h.iterator ∷ []) (is_along h.domain) test ≡ true → is_inner_body ds (n ∷ h.iterator ∷ []) (is_along h.domain) s ≡ true → avoids n s ≡ true → has_a_way ds n h test s ≡ true
  push-way s f g a =
      some-second (is_home ds n h test s) (is_push ds n h test s) (is_pull ds n h test s)
      (and-true (is_flat its (is_along h.domain) test) (is_inner_body ds its (is_along h.domain) s && avoids n s) f (and-true (is_inner_body ds its (is_along h.domain) s) (avoids n s) g a))

  pull-way : (s : Stmt) → is_flat (n ∷ h.iterator ∷ []) (Forms.is_against h.domain) test ≡ true → is_inner_body ds (n ∷ h.iterator ∷ []) (Forms.is_against h.domain) s ≡ true → avoids h.iterator s ≡ true → has_a_way ds n h test s ≡ true
  pull-way s f g a =
      some-third (is_home ds n h test s) (is_push ds n h test s) (is_pull ds n h test s)
      (and-true (is_flat its (Forms.is_against h.domain) test) (is_inner_body ds its (Forms.is_against h.domain) s && avoids t s) f (and-true (is_inner_body ds its (Forms.is_against h.domain) s) (avoids t s) g a))

  out-push : (s : Stmt) → h.domain ≡ OutNbrs → is_inner_body ds (n ∷ h.iterator ∷ []) true s ≡ true → avoids n s ≡ true → has_a_way ds n h test s ≡ true
  out-push s d g a = push-way s (ap (λ d. is_flat its (is_along d) test) d ∙ flat) (ap (λ d. is_inner_body ds its (is_along d) s) d ∙ g) a

  in-pull : (s : Stmt) → h.domain ≡ InNbrs → is_inner_body ds (n ∷ h.iterator ∷ []) true s ≡ true → avoids h.iterator s ≡ true → has_a_way ds n h test s ≡ true
  in-pull s d g a = pull-way s (ap (λ d. is_flat its (Forms.is_against d) test) d ∙ flat) (ap (λ d. is_inner_body ds its (Forms.is_against d) s) d ∙ g) a

  -- what gives to no end
  either-way : (s : Stmt) → is_inner_body ds (n ∷ h.iterator ∷ []) true s ≡ true → avoids n s ≡ true → avoids h.iterator s ≡ true → has_a_way ds n h test s ≡ true
  either-way s g a b = by h.domain refl rg
    where
      by : (d : Domain) → h.domain ≡ d → is_range false d ≡ true → has_a_way ds n h test s ≡ true
      by Nodes e r = absurd (both_ways false refl r)
      by OutNbrs e r = out-push s e g a
      by InNbrs e r = in-pull s e g b
      by UpNbrs e r = absurd (both_ways false refl r)
      by DownNbrs e r = absurd (both_ways false refl r)

  -- ---- slices

  -- what is known of statements
  pub record Body (s : Stmt) : Type 0 where
    pub form : is_inner_body ds (n ∷ h.iterator ∷ []) true s ≡ true
    pub edges_marked : marks ds n is_edge_read edges false s ≡ true
    pub ends_marked : marks ds n (reads_through h.iterator) ends false s ≡ true

  body-parts : (xs ys : List Stmt) → Body (sequence (xs ++ ys)) → Body (sequence xs) × Body (sequence ys)
  body-parts xs ys b =
      let f = parts (is_inner_body ds its true) refl (λ a b. refl) xs ys b.form in
      let e = parts (marks ds n is_edge_read edges false) refl (λ a b. refl) xs ys b.edges_marked in
      let d = parts (marks ds n (reads_through t) ends false) refl (λ a b. refl) xs ys b.ends_marked in
      (record { form = f.0; edges_marked = e.0; ends_marked = d.0 }, record { form = f.1; edges_marked = e.1; ends_marked = d.1 })

  abbrev end : Bool
  end = any (reads_through h.iterator) (mentions test)

  abbrev edge : Bool
  edge = any is_edge_read (mentions test)

  -- of a statement by itself
  abbrev pub is_fit : Stmt → Bool
  is_fit s = is_lone s && (targets_alike s && goes_along ds n h edges ends (any (reads_through h.iterator) (mentions test)) (any is_edge_read (mentions test)) s)

  -- a slice of which one statement does more than set locals
  next-goes : (done wait : List Stmt) (s : Stmt) → Body (sequence done) → Body (sequence (wait ++ (s ∷ []))) → list_all (is_still (n ∷ h.iterator ∷ [])) wait ≡ true → is_fit s ≡ true → goes_one_way ds n h test (lean_slice ds n h.iterator done (wait ++ (s ∷ []))) ≡ true
  next-goes done wait s bd bn w fit = and-true (has_a_way ds n h test slice) (adds_last its slice) (by (outcome ds n h edges ends rg ne s end edge lone alike one along)) (slice-last ds n t done wait s bd.form w lone)
    where
      slice : Stmt
      slice = lean_slice ds n h.iterator done (wait ++ (s ∷ []))

      lone : is_lone s ≡ true
      lone = (both-true (is_lone s) (targets_alike s && goes_along ds n h edges ends (any (reads_through h.iterator) (mentions test)) (any is_edge_read (mentions test)) s) fit).0

      more : (targets_alike s ≡ true) × (goes_along ds n h edges ends (any (reads_through h.iterator) (mentions test)) (any is_edge_read (mentions test)) s ≡ true)
      more = both-true (targets_alike s) _ (both-true (is_lone s) (targets_alike s && goes_along ds n h edges ends (any (reads_through h.iterator) (mentions test)) (any is_edge_read (mentions test)) s) fit).1

      alike : targets_alike s ≡ true
      alike = more.0

      along : goes_along ds n h edges ends (any (reads_through h.iterator) (mentions test)) (any is_edge_read (mentions test)) s ≡ true
      along = more.1

      split : Body (sequence wait) × Body (sequence (s ∷ []))
      split = body-parts wait (s ∷ []) bn

      one : is_inner_body ds (n ∷ h.iterator ∷ []) true s ≡ true
      one = (both-true (is_inner_body ds (n ∷ h.iterator ∷ []) true s) true split.1.form).0

      form : is_inner_body ds (n ∷ h.iterator ∷ []) true slice ≡ true
      form = Kept.lean-keeps (is_inner_body ds (n ∷ h.iterator ∷ []) true) (is_flat (n ∷ h.iterator ∷ []) true) refl (λ a b. refl) (λ k c a b. refl) (λ k at h test a b f e. e) ds n h.iterator done (wait ++ (s ∷ [])) bd.form bn.form

      avoid : (y : ℕ) → avoids y s ≡ true → avoids y slice ≡ true
      avoid y a = slice-avoids ds n h.iterator y done wait s bd.form w a

      no-edges : Untold ds n h edges ends is_edge_read edges (any is_edge_read (mentions test)) s → silent is_edge_read slice ≡ true
      no-edges u = slice-silent is_edge_read edges (any is_edge_read (mentions test)) done wait s bd.form split.0.form bd.edges_marked split.0.edges_marked w u

      by : Outcome ds n h edges ends (any (reads_through h.iterator) (mentions test)) (any is_edge_read (mentions test)) s → has_a_way ds n h test slice ≡ true
      by (gives p q) = either-way slice form (avoid n p) (avoid h.iterator q)
      by (pushes p (inl d)) = out-push slice d form (avoid n p)
      by (pushes p (inr u)) = push-way slice (flat-edges (n ∷ h.iterator ∷ []) (is_along h.domain) test flat (no-false (any is_edge_read (mentions test)) u.none)) (body-edges (n ∷ h.iterator ∷ []) (is_along h.domain) ds slice form (no-edges u)) (avoid n p)
      by (pulls p (inl d)) = in-pull slice d form (avoid h.iterator p)
      by (pulls p (inr (inl u))) =
          pull-way slice (flat-edges (n ∷ h.iterator ∷ []) (Forms.is_against h.domain) test flat (no-false (any is_edge_read (mentions test)) u.none)) (body-edges (n ∷ h.iterator ∷ []) (Forms.is_against h.domain) ds slice form (no-edges u)) (avoid h.iterator p)
      by (pulls p (inr (inr u))) =
          home-way slice u.0 (flat-home n h.iterator test flat (no-false (any (reads_through h.iterator) (mentions test)) u.1.none))
          (body-home n h.iterator ds slice form (slice-silent (reads_through h.iterator) ends (any (reads_through h.iterator) (mentions test)) done wait s bd.form split.0.form bd.ends_marked split.0.ends_marked w u.1)) (avoid h.iterator p)

  -- statements that only set locals
  still-goes : (wait : List Stmt) → Body (sequence wait) → list_all (is_still (n ∷ h.iterator ∷ [])) wait ≡ true → goes_one_way ds n h test (lean_slice ds n h.iterator [] wait) ≡ true
  still-goes wait b w =
      let slice = lean_slice ds n t [] wait in
      and-true (has_a_way ds n h test slice) (adds_last its slice)
      (either-way slice (Kept.lean-keeps (is_inner_body ds its true) (is_flat its true) refl (λ a b. refl) (λ k c a b. refl) (λ k at h test a b f e. e) ds n t [] wait refl b.form) (still-avoids ds n t n wait w) (still-avoids ds n t t wait w)) (still-last ds n t wait w)

  -- one more statement
  step : (done wait : List Stmt) (s : Stmt) (ss : List Stmt) → Body (sequence (done ++ (wait ++ (s ∷ ss)))) → list_all (is_still (n ∷ h.iterator ∷ [])) wait ≡ true → is_fit s ≡ true →
      (Body (sequence (done ++ ((wait ++ (s ∷ [])) ++ ss))) → list_all (is_still (n ∷ h.iterator ∷ [])) (wait ++ (s ∷ [])) ≡ true → leaves_go ds n h.iterator (goes_one_way ds n h test) done (wait ++ (s ∷ [])) ss ≡ true) →
      (Body (sequence ((done ++ (wait ++ (s ∷ []))) ++ ss)) → leaves_go ds n h.iterator (goes_one_way ds n h test) (done ++ (wait ++ (s ∷ []))) [] ss ≡ true) →
      cond (is_still (n ∷ h.iterator ∷ []) s) (leaves_go ds n h.iterator (goes_one_way ds n h test) done (wait ++ (s ∷ [])) ss)
      (goes_one_way ds n h test (lean_slice ds n h.iterator done (wait ++ (s ∷ []))) && leaves_go ds n h.iterator (goes_one_way ds n h test) (done ++ (wait ++ (s ∷ []))) [] ss) ≡ true
  step done wait s ss b still fit waits counts = by (is_still its s) refl
    where
      moved : Body (sequence (done ++ ((wait ++ (s ∷ [])) ++ ss)))
      moved = subst (λ l. Body (sequence (done ++ l))) (sym (append_assoc wait (s ∷ []) ss)) b

      grouped : Body (sequence ((done ++ (wait ++ (s ∷ []))) ++ ss))
      grouped = subst (λ l. Body (sequence l)) (sym (append_assoc done (wait ++ (s ∷ [])) ss)) moved

      join : is_still (n ∷ h.iterator ∷ []) s ≡ true → (wait : List Stmt) → list_all (is_still (n ∷ h.iterator ∷ [])) wait ≡ true → list_all (is_still (n ∷ h.iterator ∷ [])) (wait ++ (s ∷ [])) ≡ true
      join e [] q = and-true (is_still (n ∷ h.iterator ∷ []) s) true e refl
      join e (w ∷ wait) q = let r = both-true (is_still (n ∷ h.iterator ∷ []) w) (list_all (is_still (n ∷ h.iterator ∷ [])) wait) q in and-true (is_still (n ∷ h.iterator ∷ []) w) (list_all (is_still (n ∷ h.iterator ∷ [])) (wait ++ (s ∷ []))) r.0 (join e wait r.1)

      by : (o : Bool) → is_still (n ∷ h.iterator ∷ []) s ≡ o → cond o (leaves_go ds n h.iterator (goes_one_way ds n h test) done (wait ++ (s ∷ [])) ss)
          (goes_one_way ds n h test (lean_slice ds n h.iterator done (wait ++ (s ∷ []))) && leaves_go ds n h.iterator (goes_one_way ds n h test) (done ++ (wait ++ (s ∷ []))) [] ss) ≡ true
      by true e = waits moved (join e wait still)
      by false e =
          let u = body-parts (done ++ (wait ++ (s ∷ []))) ss grouped in
          let v = body-parts done (wait ++ (s ∷ [])) u.0 in
          and-true (goes_one_way ds n h test (lean_slice ds n h.iterator done (wait ++ (s ∷ [])))) (leaves_go ds n h.iterator (goes_one_way ds n h test) (done ++ (wait ++ (s ∷ []))) [] ss) (next-goes done wait s v.0 v.1 still fit) (counts grouped)

  -- all statements of a body
  pub leaves : (done wait ss : List Stmt) → Body (sequence (done ++ (wait ++ ss))) → list_all (is_still (n ∷ h.iterator ∷ [])) wait ≡ true → list_all is_fit ss ≡ true → leaves_go ds n h.iterator (goes_one_way ds n h test) done wait ss ≡ true
  leaves [] wait [] b still fit = still-goes wait (subst (λ l. Body (sequence l)) (append-nil wait) b) still
  leaves (d ∷ done) wait [] b still fit = refl
  leaves [] wait (s ∷ ss) b still fit =
      let r = both-true (is_fit s) (list_all is_fit ss) fit in step [] wait s ss b still r.0 (λ m e. leaves [] (wait ++ (s ∷ [])) ss m e r.1) (λ m. leaves (wait ++ (s ∷ [])) [] ss m refl r.1)
  leaves (d ∷ done) wait (s ∷ ss) b still fit =
      let r = both-true (is_fit s) (list_all is_fit ss) fit in
      step (d ∷ done) wait s ss b still r.0 (λ m e. leaves (d ∷ done) (wait ++ (s ∷ [])) ss m e r.1) (λ m. leaves ((d ∷ done) ++ (wait ++ (s ∷ []))) [] ss m refl r.1)
