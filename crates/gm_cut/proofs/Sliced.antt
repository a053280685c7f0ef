-- An inner loop that is the body of a loop runs as its slices, one after another.
use Rattle.std.proofs.Common.{◌≡◌, ◌≤◌, ℕ, Bool, true, false, cond, List, [], ◌∷◌, ◌++◌, map, append-nil, length, refl, sym, ap, subst, ◌∙◌, Some, Result, Ok, Err}
use Rattle.std.proofs.Math.Path.{fun_ext}
use Rattle.std.specs.Prelude.{◌&&◌, ◌||◌, not}
use Rattle.std.proofs.lemmas.List.{append_assoc}
use Rattle.gm_base.specs.declared.places.Place.{Place}
use Rattle.gm_value.specs.declared.values.Value.{Value}
use Rattle.gm_value.specs.declared.values.Value.TheVariants.{At}
use Rattle.gm_value.specs.Operations.{is_true}
use Rattle.gm_model.specs.Graphs.{IsGraph, Step}
use Rattle.gm_ast.specs.declared.tree.Declaration.{Declaration}
use Rattle.gm_ast.specs.declared.tree.Head.{Head}
use Rattle.gm_ast.specs.declared.tree.Key.{Key}
use Rattle.gm_ast.specs.Program.{Expr, Property, Stmt, Skip, Then, Declare, Assign, Combine, Foreach, If, sequence}
use Rattle.gm_semantics.specs.declared.faults.Fault as F
use Rattle.gm_semantics.specs.declared.slots.Slot.TheVariants.{Scalar}
use Rattle.gm_semantics.specs.Stores.{Store, write}
use Rattle.gm_semantics.specs.Expressions.{value, steps_in}
use Rattle.gm_semantics.specs.Faults.{then_with, joined}
use Rattle.gm_semantics.specs.Frames.{ReadsBelow, NamesBelow, AlikeStores, AlikeStates, AlikeCourses}
use Rattle.gm_semantics.specs.Levels.{nodes, no_levels}
use Rattle.gm_semantics.specs.Iterations.{Loop, Mode, Outermost, AtEdge, Iteration, begun, with_ok, one_way, as_it_is, view_in, turn_at, inner_done, does}
use Rattle.gm_semantics.specs.Loops.{pushes, loop_done}
use Rattle.gm_semantics.specs.Statements.{Run, State, loop_of, with_value, then_do, with_store, sequential}
use Rattle.gm_ast.specs.Loops.{is_nodes}
use Rattle.gm_forms.specs.Cut.{is_mask, is_own_loop, is_along_edges, is_cut}
use Rattle.gm_forms.specs.Fission.{pushed_properties, Knows}
use Rattle.gm_forms.specs.Forms.{is_flat, is_outer_body, is_flat_loop, has_a_way, is_phase, no_loop}
use Rattle.gm_forms.specs.Order.{cannot_fail, loops_in_order}
use Rattle.gm_forms.specs.Sharing.{are_at_once, loops_share}
use Rattle.gm_forms.proofs.Named.{both-true}
use Rattle.gm_loop_laws.specs.Alone.{stands_alone}
use Rattle.gm_loop_laws.specs.Inner.{quiet, may_cut_inner}
use Rattle.gm_loop_laws.specs.Masks.{Change, looped, in_turn, SameChange, is_certain, is_stable}
use Rattle.gm_loop_laws.specs.Pieces.{is_lone}
use Rattle.gm_loop_laws.specs.Slices.{is_idle, sliced, knows_none}
use Rattle.gm_loop_laws.proofs.Flips.{ends-anywhere}
use Rattle.gm_loop_laws.proofs.MaskedCuts.{masked-cut}
use Rattle.gm_loop_laws.proofs.Masks.{same-trans, same-turns, same-by, loop-same, filters-same}
use Rattle.gm_loop_laws.proofs.Parting.{saved_mask, mask-agrees, mask-shown}
use Rattle.gm_loop_laws.proofs.Pieces.{pushed-listed, all_in_turn, courses-alike}
use Rattle.gm_loop_laws.proofs.Slicing.{slices-hold}
use Rattle.gm_cut.specs.Slices.{statements_of, counts, unneeded, slice, behind, all_quiet, is_new, groups, slices, slice_stands, is_sound, may_slice}
use Rattle.gm_cut.proofs.Apart.{mask-certain}
use Rattle.gm_cut.proofs.Grouped as Grouped
use Rattle.gm_cut.proofs.Grouped.{skips, thens, ifs}

-- ---- statements one after another

abbrev none : Stmt → Bool
none s = false

abbrev never : List Stmt → Stmt → Bool
never run s = false

module _ (m : Mode) (loop : Loop) where
  -- what a statement does where nothing has failed
  abbrev Goes : Stmt → Iteration → Iteration
  Goes s = Grouped.Goes none never m loop s

  skip : Goes Skip ≡ (λ it. it)
  skip = skips none never m loop

  two : (a b : Stmt) → Goes (Then a b) ≡ (λ it. Goes b (Goes a it))
  two a b = thens none never m loop a b

  one : (s : Stmt) → Goes (sequence (s ∷ [])) ≡ Goes s
  one s = two s Skip ∙ ap (λ (f : Iteration → Iteration). λ it. f (Goes s it)) skip

  parts : (xs ys : List Stmt) → Goes (sequence (xs ++ ys)) ≡ (λ it. Goes (sequence ys) (Goes (sequence xs) it))
  parts [] ys = ap (λ (f : Iteration → Iteration). λ it. Goes (sequence ys) (f it)) (sym skip)
  parts (x ∷ xs) ys =
      two x (sequence (xs ++ ys)) ∙ ap (λ (f : Iteration → Iteration). λ it. f (Goes x it)) (parts xs ys) ∙ ap (λ (f : Iteration → Iteration). λ it. Goes (sequence ys) (f it)) (sym (two x (sequence xs)))

  pub parted : (xs ys : List Stmt) → Goes (sequence (xs ++ ys)) ≡ Goes (Then (sequence xs) (sequence ys))
  parted xs ys = parts xs ys ∙ sym (two (sequence xs) (sequence ys))

  -- blocks within blocks may be opened
  pub opened : (s : Stmt) → Goes (sequence (statements_of s)) ≡ Goes s
  opened Skip = refl
  opened (Then a b) =
      parts (statements_of a) (statements_of b) ∙ ap (λ (f : Iteration → Iteration). λ it. f (Goes (sequence (statements_of a)) it)) (opened b) ∙ ap (λ (f : Iteration → Iteration). λ it. Goes b (f it)) (opened a) ∙ sym (two a b)
  opened (If k c a b) = one (If k c (sequence (statements_of a)) (sequence (statements_of b))) ∙ ifs none never m loop k c (sequence (statements_of a)) (sequence (statements_of b)) a b (opened a) (opened b)
  opened s = one s

-- ---- names stay

module _ (j : ℕ) where
  pub names-append : (xs ys : List Stmt) → NamesBelow j (sequence xs) → NamesBelow j (sequence ys) → NamesBelow j (sequence (xs ++ ys))
  names-append [] ys a b = b
  names-append (x ∷ xs) ys a b = (a.0, names-append xs ys a.1 b)

  pub names-parts : (xs ys : List Stmt) → NamesBelow j (sequence (xs ++ ys)) → NamesBelow j (sequence xs) × NamesBelow j (sequence ys)
  names-parts [] ys h = (tt, h)
  names-parts (x ∷ xs) ys h = let r = names-parts xs ys h.1 in ((h.0, r.0), r.1)

  pub names-opened : (s : Stmt) → NamesBelow j s → NamesBelow j (sequence (statements_of s))
  names-opened Skip h = tt
  names-opened (Then a b) h = names-append (statements_of a) (statements_of b) (names-opened a h.0) (names-opened b h.1)
  names-opened (If k c a b) h = ((h.0, names-opened a h.1, names-opened b h.2), tt)
  names-opened s h = (h, tt)

  names-cond : (b : Bool) (s t : Stmt) → NamesBelow j s → NamesBelow j t → NamesBelow j (cond b s t)
  names-cond true s t a b = a
  names-cond false s t a b = b

  names-quiet : (ds : List Declaration) (n : ℕ) (s : Stmt) → NamesBelow j s → NamesBelow j (quiet ds n s)
  names-quiet ds n (Then a b) h = (names-quiet ds n a h.0, names-quiet ds n b h.1)
  names-quiet ds n (Combine k total r ts es) h = names-cond (are_at_once ds n true ts) (Combine k total r ts es) Skip h tt
  names-quiet ds n (If k c a b) h = (h.0, names-quiet ds n a h.1, names-quiet ds n b h.2)
  names-quiet ds n s h = h

  names-all-quiet : (ds : List Declaration) (n : ℕ) (xs : List Stmt) → NamesBelow j (sequence xs) → NamesBelow j (sequence (map (quiet ds n) xs))
  names-all-quiet ds n [] h = tt
  names-all-quiet ds n (x ∷ xs) h = (names-quiet ds n x h.0, names-all-quiet ds n xs h.1)

  names-sliced : (gone its : List ℕ) (s : Stmt) → NamesBelow j s → NamesBelow j (sliced gone its s)
  names-sliced gone its (Then a b) h = (names-sliced gone its a h.0, names-sliced gone its b h.1)
  names-sliced gone its (Declare k x e) h = names-cond (is_idle gone its (Declare k x e)) Skip (Declare k x e) tt h
  names-sliced gone its (Assign k t e) h = names-cond (is_idle gone its (Assign k t e)) Skip (Assign k t e) tt h
  names-sliced gone its (If k c a b) h =
      names-cond (is_idle gone its (If k c a b)) Skip (If k c (sliced gone its a) (sliced gone its b)) tt (h.0, names-sliced gone its a h.1, names-sliced gone its b h.2)
  names-sliced gone its (Foreach k at h test body) b = (b.0, b.1, b.2, names-sliced gone (h.iterator ∷ its) body b.3)
  names-sliced gone its s h = h

-- ---- inner loops

module _ (loop : Loop) (key : Key) (mask : Expr) (k : Key) (here : Place) (inner : Head) (test : Expr) where
  abbrev alone : Stmt → Stmt
  alone s = Foreach k here inner test s

  -- the loop around an inner loop
  abbrev pub around : Stmt → Change
  around s = looped loop key mask (alone s)

  abbrev SameBody : Stmt → Stmt → Type 0
  SameBody a b = (e : ℕ) → Goes (AtEdge e) loop a ≡ Goes (AtEdge e) loop b

  turn-same : (a b : Stmt) → SameBody a b → (e x : ℕ) (s : Store) → turn_at loop (AtEdge e) k test (does a (AtEdge e) loop) inner.iterator x s ≡ turn_at loop (AtEdge e) k test (does b (AtEdge e) loop) inner.iterator x s
  turn-same a b h e x s = by (value test (view_in loop (AtEdge e) start k))
    where
      start : Iteration
      start = begun (write s (Scalar inner.iterator) (At (Some x)))

      by : (r : Result Value F.Fault) → with_ok start r (λ v. one_way (is_true v) (does a (AtEdge e) loop) as_it_is start) ≡ with_ok start r (λ v. one_way (is_true v) (does b (AtEdge e) loop) as_it_is start)
      by (Err f) = refl
      by (Ok v) = way (is_true v)
        where
          way : (c : Bool) → one_way c (does a (AtEdge e) loop) as_it_is start ≡ one_way c (does b (AtEdge e) loop) as_it_is start
          way true = ap (λ (f : Iteration → Iteration). f start) (h e)
          way false = refl

  inner-same : (a b : Stmt) → SameBody a b → does (alone a) Outermost loop ≡ does (alone b) Outermost loop
  inner-same a b h = fun_ext (λ it. ap (λ (f : Step → Iteration). inner_done it (map f (steps_in (view_in loop Outermost it k) inner))) (fun_ext (λ step. turn-same a b h step.edge step.node it.store)))

  pub bodies-same : (a b : Stmt) → SameBody a b → (s : Store) → around a s ≡ around b s
  bodies-same a b h s = ap (λ (d : Iteration → Iteration). loop_done s (nodes loop.graph) (map (λ x. turn_at loop Outermost key mask d loop.outer x s) (nodes loop.graph))) (inner-same a b h)

  -- a slice does what the body does
  slice-same : (ds : List Declaration) (whole : Stmt) → IsGraph loop.graph →
      knows_none (unneeded ds loop.outer inner.iterator whole) (loop.outer ∷ []) (sliced (unneeded ds loop.outer inner.iterator whole) (loop.outer ∷ []) (alone whole)) ≡ true →
      (s : Store) → around (slice ds loop.outer inner.iterator whole) s ≡ around whole s
  slice-same ds whole graph h s =
      let gone = unneeded ds loop.outer inner.iterator whole in
      let kept = sliced gone (inner.iterator ∷ loop.outer ∷ []) whole in
      bodies-same (sequence (statements_of kept)) kept (λ e. opened (AtEdge e) loop kept) s ∙ slices-hold loop gone key mask (alone whole) s graph h

-- changes that are the same at each store
pub same-if : (j : ℕ) (f f' g : Change) → ((s : Store) → f s ≡ f' s) → SameChange j f' g → SameChange j f g
same-if j f f' g e h = λ s t a. subst (λ x. AlikeStores j x (g t)) (sym (e s)) (h s t a)

same-then : (j : ℕ) (f g g' : Change) → SameChange j f g → ((s : Store) → g s ≡ g' s) → SameChange j f g'
same-then j f g g' h e = λ s t a. subst (λ x. AlikeStores j (f s) x) (e t) (h s t a)

-- one change alone
one-change : (f : Change) (s : Store) → f s ≡ all_in_turn (f ∷ []) s
one-change f s = by (f s)
  where
    by : (r : Result Store F.Fault) → r ≡ then_with r (λ t. Ok t)
    by (Ok t) = refl
    by (Err e) = refl

quiet-sequence : (ds : List Declaration) (n : ℕ) (xs : List Stmt) → quiet ds n (sequence xs) ≡ sequence (map (quiet ds n) xs)
quiet-sequence ds n [] = refl
quiet-sequence ds n (x ∷ xs) = ap (Then (quiet ds n x)) (quiet-sequence ds n xs)

-- ---- groups

module _ (ds : List Declaration) (n t : ℕ) (goes : Stmt → Bool) where
  -- groups hold all statements
  pub groups-whole : (done group wait rest : List Stmt) → joined (groups ds n t goes done group wait rest) ≡ group ++ (wait ++ rest)
  groups-whole done group wait [] = append-nil (group ++ wait) ∙ ap (λ l. group ++ l) (sym (append-nil wait))
  groups-whole done group wait (s ∷ ss) =
      by (not (counts ds n t s)) (is_new ds n t group || goes (behind ds n t done (group ++ next)))
      (groups-whole done group next ss ∙ more)
      (groups-whole done (group ++ next) [] ss ∙ append_assoc group next ss ∙ more)
      (ap (λ l. group ++ l) (groups-whole (all_quiet ds n t (done ++ group)) next [] ss) ∙ more)
    where
      next : List Stmt
      next = wait ++ (s ∷ [])

      more : group ++ ((wait ++ (s ∷ [])) ++ ss) ≡ group ++ (wait ++ (s ∷ ss))
      more = ap (λ l. group ++ l) (append_assoc wait (s ∷ []) ss)

      by : (b c : Bool) → joined (groups ds n t goes done group next ss) ≡ group ++ (wait ++ (s ∷ ss)) → joined (groups ds n t goes done (group ++ next) [] ss) ≡ group ++ (wait ++ (s ∷ ss)) →
          joined (group ∷ groups ds n t goes (all_quiet ds n t (done ++ group)) next [] ss) ≡ group ++ (wait ++ (s ∷ ss)) →
          joined (cond b (groups ds n t goes done group next ss) (cond c (groups ds n t goes done (group ++ next) [] ss) (group ∷ groups ds n t goes (all_quiet ds n t (done ++ group)) next [] ss))) ≡ group ++ (wait ++ (s ∷ ss))
      by true c x y z = x
      by false true x y z = y
      by false false x y z = z

  -- there is one
  abbrev Some_ : List (List Stmt) → Type 0
  Some_ gs = (g : List Stmt) × (rest : List (List Stmt)) × (gs ≡ g ∷ rest)

  first-group : (done group wait rest : List Stmt) → Some_ (groups ds n t goes done group wait rest)
  first-group done group wait [] = (group ++ wait, [], refl)
  first-group done group wait (s ∷ ss) =
      by (not (counts ds n t s)) (is_new ds n t group || goes (behind ds n t done (group ++ next))) (first-group done group next ss) (first-group done (group ++ next) [] ss)
    where
      next : List Stmt
      next = wait ++ (s ∷ [])

      by : (b c : Bool) → Some_ (groups ds n t goes done group next ss) → Some_ (groups ds n t goes done (group ++ next) [] ss) →
          Some_ (cond b (groups ds n t goes done group next ss) (cond c (groups ds n t goes done (group ++ next) [] ss) (group ∷ groups ds n t goes (all_quiet ds n t (done ++ group)) next [] ss)))
      by true c x y = x
      by false true x y = y
      by false false x y = (group, groups ds n t goes (all_quiet ds n t (done ++ group)) next [] ss, refl)

-- ---- the loops of slices

module _ (j : ℕ) (run : Run) (key : Key) (at : Place) (h : Head) (mask : Expr) (k : Key) (here : Place) (inner : Head) (test : Expr) (body : Stmt)
    (graph : IsGraph run.graph) (fresh : j ≤ length run.declarations) (reads : ReadsBelow j mask) (names : NamesBelow j (Foreach k here inner test body)) (masked : is_mask h.iterator mask ≡ true) where
  abbrev ds : List Declaration
  ds = run.declarations

  abbrev n : ℕ
  n = h.iterator

  abbrev t : ℕ
  t = inner.iterator

  abbrev m : ℕ
  m = length run.declarations

  abbrev pub the : Stmt → Stmt
  the s = Foreach k here inner test s

  abbrev loop : Loop
  loop = loop_of run no_levels h.iterator (Foreach k here inner test body)

  abbrev pushed : List ℕ
  pushed = pushed_properties h.iterator body

  knows : Knows ds pushed loop
  knows = record { graph = graph; depth = λ x. refl; pushed_is = λ p. pushed-listed h.iterator p body }

  sure : is_certain (n ∷ []) mask ≡ true
  sure = let r = both-true (cannot_fail mask) (is_flat (n ∷ []) false mask) masked in mask-certain n mask r.0 r.1

  abbrev pub inside : Stmt → Change
  inside s = around loop key mask k here inner test s

  -- a loop by what it pushes itself
  abbrev pub mine : Stmt → Loop
  mine s = record (loop_of run no_levels h.iterator (Foreach k here inner test body)) { pushed = λ p. pushes s h.iterator p }

  abbrev pub change : Stmt → Change
  change s = looped (mine (the s)) key mask (the s)

  named : (s : Stmt) → NamesBelow j s → NamesBelow j (the s)
  named s b = (names.0, names.1, names.2, b)

  pub by-itself : (s : Stmt) → NamesBelow j s → is_outer_body ds false n (the s) ≡ true → is_lone ds pushed n (the s) ≡ true → SameChange j (inside s) (change s)
  by-itself s below form l =
      let r = both-true (stands_alone ds pushed n s) (stands_alone ds (pushed_properties n s) n s) l in
      let b = named s below in
      same-by j (inside s) (change s) (loop-same j loop key mask (the s) reads b) (loop-same j (mine (the s)) key mask (the s) reads b) (λ u.
      let v = saved_mask j ds pushed loop m key h.place mask (the s) knows fresh reads b sure form u in
      let shown = mask-shown j ds pushed loop m key h.place mask (the s) knows fresh reads b sure form u in (
        v,
        mask-agrees j ds pushed loop m key h.place mask (the s) knows fresh reads b sure form u,
        sym (filters-same loop key (Property n m h.place) mask (the s) v shown)
            ∙ sym (ends-anywhere ds pushed (pushed_properties n s) loop (λ p. pushes s n p) m key k h.place here inner test s v knows (record { graph = graph; depth = λ x. refl; pushed_is = λ p. pushed-listed n p s }) form r.0 r.1)
            ∙ filters-same (mine (the s)) key (Property n m h.place) mask (the s) v shown,
      ))

  abbrev stands : Stmt → Bool
  stands s = slice_stands ds key at h mask k here inner test pushed s

  abbrev may : List Stmt → List (List Stmt) → Bool
  may done gs = may_slice ds key at h mask k here inner test pushed done gs

  abbrev sound : Stmt → Bool
  sound s = is_sound ds key at h mask k here inner test (Foreach key at h mask (the s))

  pub sound-form : (s : Stmt) → sound s ≡ true → is_outer_body ds false n (the s) ≡ true
  sound-form s e =
      let loop = Foreach key at h mask (the s) in
      let c = both-true (loops_in_order loop) (loops_share ds loop && is_phase (is_cut has_a_way ds) no_loop ds loop) e in
      let d = both-true (loops_share ds loop) (is_phase (is_cut has_a_way ds) no_loop ds loop) c.1 in
      let f = both-true (is_nodes h.domain) (is_cut has_a_way ds n mask (the s)) d.1 in
      let g = both-true (is_flat_loop ds false n mask (the s)) (is_own_loop n (the s) || (is_mask n mask && is_along_edges (has_a_way ds) ds n mask (the s))) f.1 in
      (both-true (is_flat (n ∷ []) false mask) (is_outer_body ds false n (the s)) g.0).1

  abbrev part : Stmt → Stmt
  part whole = slice ds h.iterator inner.iterator whole

  names-slice : (whole : Stmt) → NamesBelow j whole → NamesBelow j (part whole)
  names-slice whole b = names-opened j (sliced (unneeded ds n t whole) (t ∷ n ∷ []) whole) (names-sliced j (unneeded ds n t whole) (t ∷ n ∷ []) whole b)

  one-slice : (whole : Stmt) → NamesBelow j whole → stands whole ≡ true → SameChange j (inside whole) (change (part whole))
  one-slice whole b e =
      let gone = unneeded ds n t whole in
      let a = both-true (knows_none gone (n ∷ []) (sliced gone (n ∷ []) (the whole))) (is_lone ds pushed n (the (part whole)) && sound (part whole)) e in
      let c = both-true (is_lone ds pushed n (the (part whole))) (sound (part whole)) a.1 in
      same-if j (inside whole) (inside (part whole)) (change (part whole)) (λ u. sym (slice-same loop key mask k here inner test ds whole graph a.0 u))
      (by-itself (part whole) (names-slice whole b) (sound-form (part whole) c.1) c.0)

  abbrev after : List Stmt → List (List Stmt) → Change
  after done gs = all_in_turn (map change (slices ds h.iterator inner.iterator done gs))

  all-slices : (gs : List (List Stmt)) (g done : List Stmt) → NamesBelow j (sequence (done ++ joined (g ∷ gs))) → may done (g ∷ gs) ≡ true → SameChange j (inside (sequence (done ++ joined (g ∷ gs)))) (after done (g ∷ gs))
  all-slices [] g done b e =
      let whole = sequence (done ++ g) in
      let r = both-true (stands whole) true e in
      same-if j (inside (sequence (done ++ (g ++ [])))) (inside whole) (after done (g ∷ [])) (λ u. ap (λ xs. inside (sequence (done ++ xs)) u) (append-nil g))
      (same-then j (inside whole) (change (part whole)) (after done (g ∷ [])) (one-slice whole (subst (λ xs. NamesBelow j (sequence (done ++ xs))) (append-nil g) b) r.0) (one-change (change (part whole))))
  all-slices (f ∷ gs) g done b e =
      let whole = sequence (done ++ g) in
      let left = joined (f ∷ gs) in
      let rest = sequence left in
      let quiets = all_quiet ds n t (done ++ g) in
      let cuts = may_cut_inner ds pushed n m h.place k here inner test whole rest in
      let stable = is_stable n (the whole) mask in
      let r = both-true (stands whole) (cuts && (stable && may quiets (f ∷ gs))) e in
      let c = both-true cuts (stable && may quiets (f ∷ gs)) r.1 in
      let d = both-true stable (may quiets (f ∷ gs)) c.1 in
      let where_ : done ++ (g ++ left) ≡ (done ++ g) ++ left = sym (append_assoc done g left) in
      let below = names-parts j (done ++ g) left (subst (λ xs. NamesBelow j (sequence xs)) where_ b) in
      let again = names-append j quiets left (names-all-quiet j ds n (done ++ g) below.0) below.1 in
      same-if j (inside (sequence (done ++ (g ++ left)))) (inside (Then whole rest)) (after done (g ∷ f ∷ gs))
      (λ u. ap (λ xs. inside (sequence xs) u) where_ ∙ bodies-same loop key mask k here inner test (sequence ((done ++ g) ++ left)) (Then whole rest) (λ z. parted (AtEdge z) loop (done ++ g) left) u)
      (same-trans j (inside (Then whole rest)) (in_turn (inside whole) (inside (Then (quiet ds n whole) rest))) (after done (g ∷ f ∷ gs))
      (masked-cut j ds pushed loop m key k h.place here inner mask test whole rest knows fresh reads (named (Then whole rest) (below.0, below.1)) c.0 d.0)
      (same-turns j (inside whole) (change (part whole)) (inside (Then (quiet ds n whole) rest)) (after quiets (f ∷ gs)) (one-slice whole below.0 r.0)
      (same-if j (inside (Then (quiet ds n whole) rest)) (inside (sequence (quiets ++ left))) (after quiets (f ∷ gs))
      (λ u. ap (λ q. inside (Then q rest) u) (quiet-sequence ds n (done ++ g)) ∙ sym (bodies-same loop key mask k here inner test (sequence (quiets ++ left)) (Then (sequence quiets) rest) (λ z. parted (AtEdge z) loop quiets left) u))
      (all-slices gs f quiets again d.1))))

  -- as statements of a sequential phase
  pub in-sequence : (xs : List Stmt) (turns : ℕ) (u : Store) → sequential (sequence (map (λ s. Foreach key at h mask (the s)) xs)) run (record { store = u; turns = turns }) ≡ with_value (all_in_turn (map change xs) u) (with_store (record { store = u; turns = turns }))
  in-sequence [] turns u = refl
  in-sequence (x ∷ xs) turns u = by (λ v. in-sequence xs turns v) (change x u)
    where
      by : ((v : Store) → sequential (sequence (map (λ s. Foreach key at h mask (the s)) xs)) run (record { store = v; turns = turns }) ≡ with_value (all_in_turn (map change xs) v) (with_store (record { store = v; turns = turns }))) → (r : Result Store F.Fault) →
          then_do (with_value r (with_store (record { store = u; turns = turns }))) (sequential (sequence (map (λ s. Foreach key at h mask (the s)) xs)) run) ≡ with_value (then_with r (all_in_turn (map change xs))) (with_store (record { store = u; turns = turns }))
      by more (Ok v) = more v
      by more (Err f) = refl

  abbrev grouped : (Stmt → Bool) → List (List Stmt)
  grouped goes = groups ds h.iterator inner.iterator goes [] [] [] (statements_of body)

  -- the loops of the slices do what the loop does
  pub slices-run : (goes : Stmt → Bool) → may [] (grouped goes) ≡ true → (u v : State) → AlikeStates j u v →
      AlikeCourses j (sequential (Foreach key at h mask (the body)) run u) (sequential (sequence (map (λ s. Foreach key at h mask (the s)) (slices ds h.iterator inner.iterator [] (grouped goes)))) run v)
  slices-run goes e u v alike =
      let gs = grouped goes in
      let f = first-group ds n t goes [] [] [] (statements_of body) in
      let whole : joined gs ≡ statements_of body = groups-whole ds n t goes [] [] [] (statements_of body) in
      let below : NamesBelow j (sequence (joined gs)) = subst (λ xs. NamesBelow j (sequence xs)) (sym whole) (names-opened j body names.3) in
      let same : SameChange j (inside body) (after [] gs) =
      same-if j (inside body) (inside (sequence (joined gs))) (after [] gs)
      (λ s. sym (bodies-same loop key mask k here inner test (sequence (statements_of body)) body (λ z. opened (AtEdge z) loop body) s) ∙ ap (λ xs. inside (sequence xs) s) (sym whole))
      (subst (λ l. SameChange j (inside (sequence (joined l))) (after [] l)) (sym f.2)
      (all-slices f.1 f.0 [] (subst (λ l. NamesBelow j (sequence (joined l))) f.2 below) (subst (λ l. may [] l ≡ true) f.2 e))) in
      subst (AlikeCourses j (sequential (Foreach key at h mask (the body)) run u)) (sym (in-sequence (slices ds n t [] gs) v.turns v.store))
      (courses-alike j u v (inside body u.store) (after [] gs v.store) (same u.store v.store alike.store) alike.turns)
