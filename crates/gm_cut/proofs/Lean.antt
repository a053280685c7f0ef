-- An inner loop that is the body of a loop runs as its slices that evaluate only what they need, one after another.
use Rattle.std.proofs.Common.{◌≡◌, ◌≤◌, ℕ, Bool, true, false, cond, List, [], ◌∷◌, ◌++◌, map, append-nil, length, refl, sym, ap, subst, ◌∙◌, Result, Ok, Err}
use Rattle.std.specs.Prelude.{◌&&◌, ◌||◌}
use Rattle.std.proofs.lemmas.List.{append_assoc}
use Rattle.gm_base.specs.declared.places.Place.{Place}
use Rattle.gm_model.specs.Graphs.{IsGraph}
use Rattle.gm_ast.specs.declared.tree.Declaration.{Declaration}
use Rattle.gm_ast.specs.declared.tree.Head.{Head}
use Rattle.gm_ast.specs.declared.tree.Key.{Key}
use Rattle.gm_ast.specs.Program.{Expr, Stmt, Then, Foreach, sequence}
use Rattle.gm_semantics.specs.declared.faults.Fault as F
use Rattle.gm_semantics.specs.Stores.{Store}
use Rattle.gm_semantics.specs.Faults.{then_with, joined}
use Rattle.gm_semantics.specs.Frames.{ReadsBelow, NamesBelow, AlikeStores, AlikeStates, AlikeCourses}
use Rattle.gm_semantics.specs.Levels.{no_levels}
use Rattle.gm_semantics.specs.Iterations.{Loop, AtEdge}
use Rattle.gm_semantics.specs.Statements.{Run, State, loop_of, sequential}
use Rattle.gm_forms.specs.Cut.{is_mask}
use Rattle.gm_forms.specs.Fission.{pushed_properties, Knows}
use Rattle.gm_forms.specs.Forms.{is_flat}
use Rattle.gm_forms.specs.Order.{cannot_fail}
use Rattle.gm_forms.proofs.Named.{both-true}
use Rattle.gm_loop_laws.specs.Masks.{Change, in_turn, SameChange, is_certain, is_stable}
use Rattle.gm_loop_laws.specs.Pieces.{is_lone}
use Rattle.gm_loop_laws.specs.Resumed.{is_still, needs, kept, resumed, may_resume, may_trim}
use Rattle.gm_loop_laws.proofs.MaskedCuts.{kept-names, masked-resume, masked-trim}
use Rattle.gm_loop_laws.proofs.Masks.{same-trans, same-turns, loop-same}
use Rattle.gm_loop_laws.proofs.Pieces.{pushed-listed, all_in_turn, courses-alike}
use Rattle.gm_cut.specs.Lean.{lean_slice, lean_groups, lean_slices, lean_stands, may_go_on, may_lean}
use Rattle.gm_cut.specs.Slices.{statements_of, is_new, is_sound}
use Rattle.gm_cut.proofs.Apart.{mask-certain}
use Rattle.gm_cut.proofs.Sliced.{parted, opened, names-append, names-parts, names-opened, bodies-same, same-if, by-itself, in-sequence, sound-form, inside, mine, change}

-- ---- groups

module _ (ds : List Declaration) (n t : ℕ) (goes : Stmt → Bool) where
  -- groups hold all statements
  pub lean-whole : (done group wait rest : List Stmt) → joined (lean_groups ds n t goes done group wait rest) ≡ group ++ (wait ++ rest)
  lean-whole done group wait [] = append-nil (group ++ wait) ∙ ap (λ l. group ++ l) (sym (append-nil wait))
  lean-whole done group wait (s ∷ ss) =
      by (is_still (n ∷ t ∷ []) s) (is_new ds n t group || goes (lean_slice ds n t done (group ++ next)))
      (lean-whole done group next ss ∙ more)
      (lean-whole done (group ++ next) [] ss ∙ append_assoc group next ss ∙ more)
      (ap (λ l. group ++ l) (lean-whole (done ++ group) next [] ss) ∙ more)
    where
      next : List Stmt
      next = wait ++ (s ∷ [])

      more : group ++ ((wait ++ (s ∷ [])) ++ ss) ≡ group ++ (wait ++ (s ∷ ss))
      more = ap (λ l. group ++ l) (append_assoc wait (s ∷ []) ss)

      by : (b c : Bool) → joined (lean_groups ds n t goes done group next ss) ≡ group ++ (wait ++ (s ∷ ss)) → joined (lean_groups ds n t goes done (group ++ next) [] ss) ≡ group ++ (wait ++ (s ∷ ss)) →
          joined (group ∷ lean_groups ds n t goes (done ++ group) next [] ss) ≡ group ++ (wait ++ (s ∷ ss)) →
          joined (cond b (lean_groups ds n t goes done group next ss) (cond c (lean_groups ds n t goes done (group ++ next) [] ss) (group ∷ lean_groups ds n t goes (done ++ group) next [] ss))) ≡ group ++ (wait ++ (s ∷ ss))
      by true c x y z = x
      by false true x y z = y
      by false false x y z = z

  -- there is one
  abbrev Some_ : List (List Stmt) → Type 0
  Some_ gs = (g : List Stmt) × (rest : List (List Stmt)) × (gs ≡ g ∷ rest)

  first-group : (done group wait rest : List Stmt) → Some_ (lean_groups ds n t goes done group wait rest)
  first-group done group wait [] = (group ++ wait, [], refl)
  first-group done group wait (s ∷ ss) =
      by (is_still (n ∷ t ∷ []) s) (is_new ds n t group || goes (lean_slice ds n t done (group ++ next))) (first-group done group next ss) (first-group done (group ++ next) [] ss)
    where
      next : List Stmt
      next = wait ++ (s ∷ [])

      by : (b c : Bool) → Some_ (lean_groups ds n t goes done group next ss) → Some_ (lean_groups ds n t goes done (group ++ next) [] ss) →
          Some_ (cond b (lean_groups ds n t goes done group next ss) (cond c (lean_groups ds n t goes done (group ++ next) [] ss) (group ∷ lean_groups ds n t goes (done ++ group) next [] ss)))
      by true c x y = x
      by false true x y = y
      by false false x y = (group, lean_groups ds n t goes (done ++ group) next [] ss, refl)

-- changes in turn, put together otherwise
turns-again : (f g e : Change) (s : Store) → in_turn (in_turn f g) e s ≡ in_turn f (in_turn g e) s
turns-again f g e s = by (f s)
  where
    by : (r : Result Store F.Fault) → then_with (then_with r g) e ≡ then_with r (λ t. then_with (g t) e)
    by (Ok t) = refl
    by (Err d) = refl

-- a change, and then none
nothing-more : (f : Change) (s : Store) → f s ≡ in_turn f (all_in_turn []) s
nothing-more f s = by (f s)
  where
    by : (r : Result Store F.Fault) → r ≡ then_with r (λ t. Ok t)
    by (Ok t) = refl
    by (Err d) = refl

same-behind : (j : ℕ) (f g g' : Change) → ((s : Store) → g s ≡ g' s) → SameChange j f g → SameChange j f g'
same-behind j f g g' e h = λ s t a. subst (λ x. AlikeStores j (f s) x) (e t) (h s t a)

-- ---- the loops of slices

module _ (j : ℕ) (run : Run) (key : Key) (at : Place) (h : Head) (mask : Expr) (k : Key) (here : Place) (inner : Head) (test : Expr) (body : Stmt)
    (graph : IsGraph run.graph) (fresh : j ≤ length run.declarations) (reads : ReadsBelow j mask) (names : NamesBelow j (Foreach k here inner test body)) (masked : is_mask h.iterator mask ≡ true) where
  abbrev ds : List Declaration
  ds = run.declarations

  abbrev n : ℕ
  n = h.iterator

  abbrev t : ℕ
  t = inner.iterator

  abbrev its : List ℕ
  its = h.iterator ∷ inner.iterator ∷ []

  abbrev m : ℕ
  m = length run.declarations

  abbrev loop : Loop
  loop = loop_of run no_levels h.iterator (Foreach k here inner test body)

  abbrev pushed : List ℕ
  pushed = pushed_properties h.iterator body

  knows : Knows ds pushed loop
  knows = record { graph = graph; depth = λ x. refl; pushed_is = λ p. pushed-listed h.iterator p body }

  sure : is_certain (n ∷ []) mask ≡ true
  sure = let r = both-true (cannot_fail mask) (is_flat (n ∷ []) false mask) masked in mask-certain n mask r.0 r.1

  -- a loop by what the whole pushes, and by what it pushes itself
  abbrev doing : Stmt → Change
  doing s = inside j run key at h mask k here inner test body graph fresh reads names masked s

  abbrev alone : Stmt → Change
  alone s = change j run key at h mask k here inner test body graph fresh reads names masked s

  abbrev slice : List Stmt → List Stmt → Stmt
  slice done g = lean_slice ds h.iterator inner.iterator done g

  abbrev stands : List Stmt → List Stmt → Bool
  stands done g = lean_stands ds key at h mask k here inner test pushed done g

  abbrev on : List Stmt → List (List Stmt) → Bool
  on done gs = may_go_on ds key at h mask k here inner test pushed done gs

  abbrev after : List Stmt → List (List Stmt) → Change
  after done gs = all_in_turn (map alone (lean_slices ds h.iterator inner.iterator done gs))

  named : (s : Stmt) → NamesBelow j s → NamesBelow j (Foreach k here inner test s)
  named s b = (names.0, names.1, names.2, b)

  names-resumed : (done g : List Stmt) → NamesBelow j (sequence done) → NamesBelow j (sequence g) → NamesBelow j (resumed ds its n (sequence done) (sequence g))
  names-resumed done g a b = (kept-names j ds its n false (sequence done) (needs ds its n true (sequence g) []) a, kept-names j ds its n true (sequence g) [] b)

  -- a slice that stands alone
  slice-alone : (done g : List Stmt) → NamesBelow j (sequence done) → NamesBelow j (sequence g) → stands done g ≡ true → SameChange j (doing (resumed ds its n (sequence done) (sequence g))) (alone (slice done g))
  slice-alone done g a b e =
      let whole = resumed ds its n (sequence done) (sequence g) in
      let lone = is_lone ds pushed n (Foreach k here inner test (slice done g)) in
      let r = both-true lone (is_sound ds key at h mask k here inner test (Foreach key at h mask (Foreach k here inner test (slice done g)))) e in
      same-if j (doing whole) (doing (slice done g)) (alone (slice done g)) (λ u. sym (bodies-same loop key mask k here inner test (slice done g) whole (λ z. opened (AtEdge z) loop whole) u))
      (by-itself j run key at h mask k here inner test body graph fresh reads names masked (slice done g) (names-opened j whole (names-resumed done g a b))
      (sound-form j run key at h mask k here inner test body graph fresh reads names masked (slice done g) r.1) r.0)

  -- slices do the same from stores that agree
  after-same : (gs : List (List Stmt)) (done : List Stmt) → NamesBelow j (sequence done) → NamesBelow j (sequence (joined gs)) → SameChange j (after done gs) (after done gs)
  after-same [] done a b = λ u v agree. agree
  after-same (g ∷ gs) done a b =
      let r = names-parts j g (joined gs) b in
      let s = slice done g in
      let below = names-opened j (resumed ds its n (sequence done) (sequence g)) (names-resumed done g a r.0) in
      same-turns j (alone s) (alone s) (after (done ++ g) gs) (after (done ++ g) gs)
      (loop-same j (mine j run key at h mask k here inner test body graph fresh reads names masked (Foreach k here inner test s)) key mask (Foreach k here inner test s) reads (named s below))
      (after-same gs (done ++ g) (names-append j done g a r.0) r.1)

  -- what is left behind some statements
  rest-slices : (gs : List (List Stmt)) (done : List Stmt) → NamesBelow j (sequence (done ++ joined gs)) → on done gs ≡ true → SameChange j (doing (sequence (done ++ joined gs))) (in_turn (doing (sequence done)) (after done gs))
  rest-slices [] done b e =
      let below : NamesBelow j (sequence done) = subst (λ xs. NamesBelow j (sequence xs)) (append-nil done) b in
      same-if j (doing (sequence (done ++ []))) (doing (sequence done)) (in_turn (doing (sequence done)) (all_in_turn [])) (λ u. ap (λ xs. doing (sequence xs) u) (append-nil done))
      (same-behind j (doing (sequence done)) (doing (sequence done)) (in_turn (doing (sequence done)) (all_in_turn [])) (nothing-more (doing (sequence done)))
      (loop-same j loop key mask (Foreach k here inner test (sequence done)) reads (named (sequence done) below)))
  rest-slices (g ∷ gs) done b e =
      let left = joined gs in
      let cuts = may_resume ds pushed n m h.place k here inner test (sequence done) (sequence g) in
      let stable = is_stable n (Foreach k here inner test (sequence done)) mask in
      let c = both-true cuts (stable && (stands done g && on (done ++ g) gs)) e in
      let d = both-true stable (stands done g && on (done ++ g) gs) c.1 in
      let f = both-true (stands done g) (on (done ++ g) gs) d.1 in
      let whole = resumed ds its n (sequence done) (sequence g) in
      let moved : done ++ (g ++ left) ≡ (done ++ g) ++ left = sym (append_assoc done g left) in
      let all = names-parts j (done ++ g) left (subst (λ xs. NamesBelow j (sequence xs)) moved b) in
      let below = names-parts j done g all.0 in
      let two : SameChange j (doing (sequence (done ++ g))) (in_turn (doing (sequence done)) (alone (slice done g))) =
      same-if j (doing (sequence (done ++ g))) (doing (Then (sequence done) (sequence g))) (in_turn (doing (sequence done)) (alone (slice done g)))
      (λ u. bodies-same loop key mask k here inner test (sequence (done ++ g)) (Then (sequence done) (sequence g)) (λ z. parted (AtEdge z) loop done g) u)
      (same-trans j (doing (Then (sequence done) (sequence g))) (in_turn (doing (sequence done)) (doing whole)) (in_turn (doing (sequence done)) (alone (slice done g)))
      (masked-resume j ds pushed loop m key k h.place here inner mask test (sequence done) (sequence g) knows fresh reads (named (Then (sequence done) (sequence g)) below) c.0 d.0)
      (same-turns j (doing (sequence done)) (doing (sequence done)) (doing whole) (alone (slice done g))
      (loop-same j loop key mask (Foreach k here inner test (sequence done)) reads (named (sequence done) below.0)) (slice-alone done g below.0 below.1 f.0))) in
      same-if j (doing (sequence (done ++ (g ++ left)))) (doing (sequence ((done ++ g) ++ left))) (in_turn (doing (sequence done)) (after done (g ∷ gs))) (λ u. ap (λ xs. doing (sequence xs) u) moved)
      (same-trans j (doing (sequence ((done ++ g) ++ left))) (in_turn (doing (sequence (done ++ g))) (after (done ++ g) gs)) (in_turn (doing (sequence done)) (after done (g ∷ gs)))
      (rest-slices gs (done ++ g) (names-append j (done ++ g) left all.0 all.1) f.1)
      (same-behind j (in_turn (doing (sequence (done ++ g))) (after (done ++ g) gs)) (in_turn (in_turn (doing (sequence done)) (alone (slice done g))) (after (done ++ g) gs)) (in_turn (doing (sequence done)) (after done (g ∷ gs)))
      (turns-again (doing (sequence done)) (alone (slice done g)) (after (done ++ g) gs))
      (same-turns j (doing (sequence (done ++ g))) (in_turn (doing (sequence done)) (alone (slice done g))) (after (done ++ g) gs) (after (done ++ g) gs) two (after-same gs (done ++ g) all.0 all.1))))

  abbrev grouped : (Stmt → Bool) → List (List Stmt)
  grouped goes = lean_groups ds h.iterator inner.iterator goes [] [] [] (statements_of body)

  -- all slices
  all-slices : (gs : List (List Stmt)) (g : List Stmt) → NamesBelow j (sequence (joined (g ∷ gs))) → may_lean ds key at h mask k here inner test pushed (g ∷ gs) ≡ true → SameChange j (doing (sequence (joined (g ∷ gs)))) (after [] (g ∷ gs))
  all-slices gs g b e =
      let trims = may_trim ds pushed n k here inner test (sequence g) in
      let c = both-true trims (stands [] g && on g gs) e in
      let d = both-true (stands [] g) (on g gs) c.1 in
      let below = names-parts j g (joined gs) b in
      let s = kept ds its n true (sequence g) [] in
      let first : SameChange j (doing (sequence g)) (alone (slice [] g)) =
      same-trans j (doing (sequence g)) (doing s) (alone (slice [] g)) (masked-trim j ds pushed loop m key k h.place here inner mask test (sequence g) knows fresh reads (named (sequence g) below.0) c.0 sure)
      (same-if j (doing s) (doing (resumed ds its n (sequence []) (sequence g))) (alone (slice [] g))
      (λ u. bodies-same loop key mask k here inner test s (resumed ds its n (sequence []) (sequence g)) (λ z. sym (opened (AtEdge z) loop s) ∙ opened (AtEdge z) loop (resumed ds its n (sequence []) (sequence g))) u)
      (slice-alone [] g tt below.0 d.0)) in
      same-trans j (doing (sequence (g ++ joined gs))) (in_turn (doing (sequence g)) (after g gs)) (after [] (g ∷ gs)) (rest-slices gs g b d.1)
      (same-turns j (doing (sequence g)) (alone (slice [] g)) (after g gs) (after g gs) first (after-same gs g below.0 below.1))

  -- the loops of the slices do what the loop does
  pub lean-run : (goes : Stmt → Bool) → may_lean ds key at h mask k here inner test pushed (grouped goes) ≡ true → (u v : State) → AlikeStates j u v →
      AlikeCourses j (sequential (Foreach key at h mask (Foreach k here inner test body)) run u) (sequential (sequence (map (λ s. Foreach key at h mask (Foreach k here inner test s)) (lean_slices ds h.iterator inner.iterator [] (grouped goes)))) run v)
  lean-run goes e u v alike =
      let gs = grouped goes in
      let f = first-group ds n t goes [] [] [] (statements_of body) in
      let whole : joined gs ≡ statements_of body = lean-whole ds n t goes [] [] [] (statements_of body) in
      let below : NamesBelow j (sequence (joined gs)) = subst (λ xs. NamesBelow j (sequence xs)) (sym whole) (names-opened j body names.3) in
      let same : SameChange j (doing body) (after [] gs) =
      same-if j (doing body) (doing (sequence (joined gs))) (after [] gs)
      (λ s. sym (bodies-same loop key mask k here inner test (sequence (statements_of body)) body (λ z. opened (AtEdge z) loop body) s) ∙ ap (λ xs. doing (sequence xs) s) (sym whole))
      (subst (λ l. SameChange j (doing (sequence (joined l))) (after [] l)) (sym f.2)
      (all-slices f.1 f.0 (subst (λ l. NamesBelow j (sequence (joined l))) f.2 below) (subst (λ l. may_lean ds key at h mask k here inner test pushed l ≡ true) f.2 e))) in
      subst (AlikeCourses j (sequential (Foreach key at h mask (Foreach k here inner test body)) run u))
      (sym (in-sequence j run key at h mask k here inner test body graph fresh reads names masked (lean_slices ds n t [] gs) v.turns v.store))
      (courses-alike j u v (doing body u.store) (after [] gs v.store) (same u.store v.store alike.store) alike.turns)
