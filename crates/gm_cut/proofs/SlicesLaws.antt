-- A program whose inner loops are in slices means the same, keeps what every pass keeps, and is cut.
use Rattle.std.proofs.Common.{◌≡◌, arith, ℕ, Bool, true, false, cond, List, [], ◌∷◌, ◌++◌, append-nil, length, map, refl, sym, subst, Option, None}
use Rattle.std.specs.Prelude.{◌+◌, ◌&&◌, ◌||◌}
use Rattle.std.specs.List.{list_all}
use Rattle.std.proofs.lemmas.List.{append_assoc}
use Rattle.gm_base.specs.declared.places.Place.{Place}
use Rattle.gm_value.specs.declared.values.VType.{VType}
use Rattle.gm_value.specs.declared.values.VType.TheVariants.{Flag}
use Rattle.gm_model.specs.Graphs.{IsGraph}
use Rattle.gm_ast.specs.declared.tree.Declaration.{Declaration}
use Rattle.gm_ast.specs.declared.tree.Head.{Head}
use Rattle.gm_ast.specs.declared.tree.Key.{Key}
use Rattle.gm_ast.specs.Loops.{is_nodes}
use Rattle.gm_ast.specs.Program.{Expr, Stmt, Skip, Then, Foreach, Program, sequence}
use Rattle.gm_semantics.specs.Statements.{Run, State, sequential}
use Rattle.gm_semantics.specs.Frames.{AlikeStates, AlikeCourses}
use Rattle.gm_forms.specs.Cut.{is_mask, is_own_loop, is_edge_loop, is_along_edges, is_cut, adds_last}
use Rattle.gm_forms.specs.Fission.{pushed_properties}
use Rattle.gm_forms.specs.Forms.{is_flat_loop, is_phase, no_loop, has_a_way}
use Rattle.gm_forms.specs.Meanings.{SameMeaning}
use Rattle.gm_forms.specs.Order.{loops_in_order}
use Rattle.gm_forms.specs.Ready.{Ready3}
use Rattle.gm_forms.specs.Sharing.{loops_share}
use Rattle.gm_forms.specs.Typing.{has_type, is_typed_in}
use Rattle.gm_forms.specs.Uses.{Use, suits, uses_in, uses_of_head, uses_of}
use Rattle.gm_forms.proofs.Named.{both-true, all-append, names-below}
use Rattle.gm_forms.proofs.Weaker.{and-true, weaker}
use Rattle.gm_dissect.proofs.Kept.{Sound, sound-then, sound-skip}
use Rattle.gm_dissect.proofs.Phases.{KnownLoop}
use Rattle.gm_cut.specs.Parts.{goes_any_way, stands_at_edges, is_parted, IsPartedBy}
use Rattle.gm_semantics.specs.Faults.{joined}
use Rattle.gm_loop_laws.specs.Inner.{may_cut_inner}
use Rattle.gm_loop_laws.specs.Masks.{is_stable}
use Rattle.gm_loop_laws.specs.Pieces.{is_lone}
use Rattle.gm_loop_laws.specs.Slices.{sliced, knows_none}
use Rattle.gm_cut.specs.Slices.{statements_of, unneeded, slice, slices, goes_one_way, groups_of, sliced_loop, in_slices, is_sound, slice_stands, all_quiet, may_slice, can_slice, can_be_sliced}
use Rattle.gm_cut.proofs.LoopLaws.{itself, same-rewritten, ready-rewritten}
use Rattle.gm_cut.proofs.PartLaws.{edge-of}
use Rattle.gm_cut.proofs.Sliced.{groups-whole, slices-run}
use Rattle.gm_cut.proofs.SlicesKept.{Fits, fits-slice, fits-parts, fits-again, fits-opened}
use Rattle.gm_dissect.proofs.Undeferred.{append-true}

-- ---- slices are sound

module _ (ds : List Declaration) (res : Option VType) (k : Key) (at : Place) (h : Head) (mask : Expr) (j : Key) (here : Place) (inner : Head) (test : Expr) (pushed : List ℕ) (around : (s : Stmt) → Fits ds res s → Fits ds res (Foreach k at h mask (Foreach j here inner test s))) where
  abbrev loop_of_slice : Stmt → Stmt
  loop_of_slice s = Foreach k at h mask (Foreach j here inner test s)

  abbrev sound : Stmt → Bool
  sound s = is_sound ds k at h mask j here inner test (loop_of_slice s)

  -- a loop that is sound, in one
  record Good (s : Stmt) : Type 0 where
    is : Sound ds res s
    cut : is_phase (is_cut has_a_way ds) no_loop ds s ≡ true

  flat : (s : Stmt) → is_phase (is_cut has_a_way ds) no_loop ds s ≡ true → is_phase (is_flat_loop ds false) no_loop ds s ≡ true
  flat s e =
      weaker (is_cut has_a_way ds) (is_flat_loop ds false) no_loop no_loop
      (λ n e s k. (both-true (is_flat_loop ds false n e s) (is_own_loop n s || (is_mask n e && is_along_edges (has_a_way ds) ds n e s)) k).0) (λ n e s k. k) ds s e

  abbrev inside : Stmt → Stmt
  inside s = Foreach j here inner test s

  good-one : (s : Stmt) → sound s ≡ true → Fits ds res (loop_of_slice s) → Good (loop_of_slice s)
  good-one s e f =
      let loop = loop_of_slice s in
      let cut = is_phase (is_cut has_a_way ds) no_loop ds loop in
      let c = both-true (loops_in_order loop) (loops_share ds loop && cut) e in
      let d = both-true (loops_share ds loop) cut c.1 in
      record { is = record { named = f.named; typed = f.typed; order = c.0; share = d.0; form = flat loop d.1 }; cut = d.1 }

  good-then : (a b : Stmt) → Good a → Good b → Good (Then a b)
  good-then a b p q = record { is = sound-then ds res a b p.is q.is; cut = and-true (is_phase (is_cut has_a_way ds) no_loop ds a) (is_phase (is_cut has_a_way ds) no_loop ds b) p.cut q.cut }

  good-skip : Good Skip
  good-skip = record { is = sound-skip ds res; cut = refl }

  abbrev n : ℕ
  n = h.iterator

  abbrev t : ℕ
  t = inner.iterator

  abbrev stands : Stmt → Bool
  stands s = slice_stands ds k at h mask j here inner test pushed s

  sound-part : (whole : Stmt) → stands whole ≡ true → sound (slice ds n t whole) ≡ true
  sound-part whole e =
      let gone = unneeded ds n t whole in
      let lone = is_lone ds pushed n (Foreach j here inner test (slice ds n t whole)) in
      let a = both-true (knows_none gone (n ∷ []) (sliced gone (n ∷ []) (Foreach j here inner test whole))) (lone && sound (slice ds n t whole)) e in
      (both-true lone (sound (slice ds n t whole)) a.1).1

  abbrev may : List Stmt → List (List Stmt) → Bool
  may done gs = may_slice ds k at h mask j here inner test pushed done gs

  abbrev loops : List Stmt → List (List Stmt) → Stmt
  loops done gs = sequence (map loop_of_slice (slices ds n t done gs))

  part : (whole : Stmt) → stands whole ≡ true → Fits ds res whole → Good (loop_of_slice (slice ds n t whole))
  part whole e f = good-one (slice ds n t whole) (sound-part whole e) (around (slice ds n t whole) (fits-slice ds res n t whole f))

  good-slices : (gs : List (List Stmt)) (g done : List Stmt) → may done (g ∷ gs) ≡ true → Fits ds res (sequence (done ++ joined (g ∷ gs))) → Good (loops done (g ∷ gs))
  good-slices [] g done e f =
      let whole = sequence (done ++ g) in
      good-then (loop_of_slice (slice ds n t whole)) Skip (part whole (both-true (stands whole) true e).0 (subst (λ xs. Fits ds res (sequence (done ++ xs))) (append-nil g) f)) good-skip
  good-slices (l ∷ gs) g done e f =
      let whole = sequence (done ++ g) in
      let left = joined (l ∷ gs) in
      let quiets = all_quiet ds n t (done ++ g) in
      let cuts = may_cut_inner ds pushed n (length ds) h.place j here inner test whole (sequence left) in
      let stable = is_stable n (inside whole) mask in
      let a = both-true (stands whole) (cuts && (stable && may quiets (l ∷ gs))) e in
      let b = both-true cuts (stable && may quiets (l ∷ gs)) a.1 in
      let c = both-true stable (may quiets (l ∷ gs)) b.1 in
      let p = fits-parts ds res (done ++ g) left (subst (λ xs. Fits ds res (sequence xs)) (sym (append_assoc done g left)) f) in
      good-then (loop_of_slice (slice ds n t whole)) (loops quiets (l ∷ gs)) (part whole a.0 p.0) (good-slices gs l quiets c.1 (fits-again ds res n t (done ++ g) left p.0 p.1))

  pub good-all : (gs : List (List Stmt)) → may [] gs ≡ true → Fits ds res (sequence (joined gs)) → Sound ds res (loops [] gs) × (is_phase (is_cut has_a_way ds) no_loop ds (loops [] gs) ≡ true)
  good-all [] e f = (sound-skip ds res, refl)
  good-all (g ∷ gs) e f = let all = good-slices gs g [] e f in (all.is, all.cut)

-- an inner loop in its loop, and its body
module _ (ds : List Declaration) (res : Option VType) (k : Key) (at : Place) (h : Head) (mask : Expr) (j : Key) (here : Place) (inner : Head) (test : Expr) (body : Stmt) (s : Fits ds res (Foreach k at h mask (Foreach j here inner test body))) where
  abbrev all : List Use → Bool
  all us = list_all (suits ds) us

  named : (all (uses_of_head h) ≡ true) × (all (uses_in mask) ≡ true) × (all (uses_of_head inner) ≡ true) × (all (uses_in test) ≡ true) × (all (uses_of body) ≡ true)
  named =
      let a = all-append (suits ds) (uses_of_head h) (uses_in mask ++ (uses_of_head inner ++ (uses_in test ++ uses_of body))) s.named in
      let b = all-append (suits ds) (uses_in mask) (uses_of_head inner ++ (uses_in test ++ uses_of body)) a.1 in
      let c = all-append (suits ds) (uses_of_head inner) (uses_in test ++ uses_of body) b.1 in
      let d = all-append (suits ds) (uses_in test) (uses_of body) c.1 in
      (a.0, b.0, c.0, d.0, d.1)

  typed : (has_type ds Flag mask ≡ true) × (has_type ds Flag test ≡ true) × (is_typed_in ds res body ≡ true)
  typed =
      let a = both-true (has_type ds Flag mask) (has_type ds Flag test && is_typed_in ds res body) s.typed in
      let b = both-true (has_type ds Flag test) (is_typed_in ds res body) a.1 in
      (a.0, b.0, b.1)

  fits-around : (x : Stmt) → Fits ds res x → Fits ds res (Foreach k at h mask (Foreach j here inner test x))
  fits-around x f = record {
    named = append-true (suits ds) (uses_of_head h) (uses_in mask ++ (uses_of_head inner ++ (uses_in test ++ uses_of x))) named.0
        (append-true (suits ds) (uses_in mask) (uses_of_head inner ++ (uses_in test ++ uses_of x)) named.1
        (append-true (suits ds) (uses_of_head inner) (uses_in test ++ uses_of x) named.2 (append-true (suits ds) (uses_in test) (uses_of x) named.3 f.named)));
    typed = and-true (has_type ds Flag mask) (has_type ds Flag test && is_typed_in ds res x) typed.0 (and-true (has_type ds Flag test) (is_typed_in ds res x) typed.1 f.typed);
  }

  abbrev grouped : List (List Stmt)
  grouped = groups_of ds h.iterator inner test body

  pub good-inner : may_slice ds k at h mask j here inner test (pushed_properties h.iterator body) [] (groups_of ds h.iterator inner test body) ≡ true →
      Sound ds res (sequence (map (λ x. Foreach k at h mask (Foreach j here inner test x)) (slices ds h.iterator inner.iterator [] (groups_of ds h.iterator inner test body))))
      × (is_phase (is_cut has_a_way ds) no_loop ds (sequence (map (λ x. Foreach k at h mask (Foreach j here inner test x)) (slices ds h.iterator inner.iterator [] (groups_of ds h.iterator inner test body)))) ≡ true)
  good-inner e =
      let body_fits : Fits ds res body = record { named = named.4; typed = typed.2 } in
      good-all ds res k at h mask j here inner test (pushed_properties h.iterator body) fits-around grouped e
      (subst (λ xs. Fits ds res (sequence xs)) (sym (groups-whole ds h.iterator inner.iterator (goes_one_way ds h.iterator inner test) [] [] [] (statements_of body))) (fits-opened ds res body body_fits))

-- ---- loops of a phase

-- such a loop goes alike
module _ (run : Run) (graph : IsGraph run.graph) (k : Key) (at : Place) (hd : Head) (mask : Expr) where
  abbrev size : ℕ
  size = length run.declarations

  abbrev loop : Stmt → Stmt
  loop body = Foreach k at hd mask body

  in-slices : (body : Stmt) → KnownLoop run.declarations k at hd mask body → can_slice run.declarations k at hd mask body ≡ true → (u v : State) → AlikeStates size u v →
      AlikeCourses size (sequential (loop body) run u) (sequential (sliced_loop run.declarations k at hd mask body) run v)
  in-slices (Foreach j here inner test body) known asks u v alike = by (goes_one_way run.declarations hd.iterator inner test body) asks
    where
      may : Bool
      may = may_slice run.declarations k at hd mask j here inner test (pushed_properties hd.iterator body) [] (groups_of run.declarations hd.iterator inner test body)

      by : (o : Bool) → o || (is_mask hd.iterator mask && may_slice run.declarations k at hd mask j here inner test (pushed_properties hd.iterator body) [] (groups_of run.declarations hd.iterator inner test body)) ≡ true →
          AlikeCourses size (sequential (loop (Foreach j here inner test body)) run u)
          (sequential (cond o (loop (Foreach j here inner test body)) (sequence (map (λ s. Foreach k at hd mask (Foreach j here inner test s)) (slices run.declarations hd.iterator inner.iterator [] (groups_of run.declarations hd.iterator inner test body))))) run v)
      by true h = itself None run graph k at hd mask (Foreach j here inner test body) known u v alike
      by false h =
          let r = both-true (is_mask hd.iterator mask) may h in
          let below = names-below run.declarations (loop (Foreach j here inner test body)) known.named in
          slices-run size run k at hd mask j here inner test body graph (omega arith) below.2 below.3 r.0 (goes_one_way run.declarations hd.iterator inner test) r.1 u v alike
  in-slices body known asks u v alike = itself None run graph k at hd mask body known u v alike

-- and keeps what every pass keeps
module _ (ds : List Declaration) (res : Option VType) (k : Key) (at : Place) (hd : Head) (mask : Expr) where
  slices-kept : (body : Stmt) → can_slice ds k at hd mask body ≡ true → Sound ds res (Foreach k at hd mask body) → Sound ds res (sliced_loop ds k at hd mask body)
  slices-kept (Foreach j here inner test body) asks s = by (goes_one_way ds hd.iterator inner test body) asks
    where
      by : (o : Bool) → o || (is_mask hd.iterator mask && may_slice ds k at hd mask j here inner test (pushed_properties hd.iterator body) [] (groups_of ds hd.iterator inner test body)) ≡ true →
          Sound ds res (cond o (Foreach k at hd mask (Foreach j here inner test body)) (sequence (map (λ s. Foreach k at hd mask (Foreach j here inner test s)) (slices ds hd.iterator inner.iterator [] (groups_of ds hd.iterator inner test body)))))
      by true h = s
      by false h =
          let may = may_slice ds k at hd mask j here inner test (pushed_properties hd.iterator body) [] (groups_of ds hd.iterator inner test body) in
          (good-inner ds res k at hd mask j here inner test body (record { named = s.named; typed = s.typed }) (both-true (is_mask hd.iterator mask) may h).1).0
  slices-kept body asks s = s

  -- and it is cut
  slices-cut : (body : Stmt) → can_slice ds k at hd mask body ≡ true → Fits ds res (Foreach k at hd mask body) → is_nodes hd.domain ≡ true → is_parted goes_any_way ds hd.iterator mask body ≡ true → is_phase (is_cut has_a_way ds) no_loop ds (sliced_loop ds k at hd mask body) ≡ true
  slices-cut (Foreach j here inner test body) asks s range form = by (goes_one_way ds n inner test body) refl asks
    where
      n : ℕ
      n = hd.iterator

      inside : Stmt
      inside = Foreach j here inner test body

      by : (o : Bool) → goes_one_way ds hd.iterator inner test body ≡ o → o || (is_mask hd.iterator mask && may_slice ds k at hd mask j here inner test (pushed_properties hd.iterator body) [] (groups_of ds hd.iterator inner test body)) ≡ true →
          is_phase (is_cut has_a_way ds) no_loop ds
          (cond o (Foreach k at hd mask (Foreach j here inner test body)) (sequence (map (λ s. Foreach k at hd mask (Foreach j here inner test s)) (slices ds hd.iterator inner.iterator [] (groups_of ds hd.iterator inner test body))))) ≡ true
      by true w h =
          let way = both-true (has_a_way ds n inner test body) (adds_last (n ∷ inner.iterator ∷ []) body) w in
          let edge = is_edge_loop ds n mask inner test body in
          let stood = stands_at_edges ds n mask inner test body in
          let a = both-true (is_flat_loop ds false n mask inside) (is_mask n mask && stood) form in
          let b = both-true (is_mask n mask) stood a.1 in
          and-true (is_nodes hd.domain) (is_cut has_a_way ds n mask inside) range
          (and-true (is_flat_loop ds false n mask inside) (is_mask n mask && (has_a_way ds n inner test body && edge)) a.0
          (and-true (is_mask n mask) (has_a_way ds n inner test body && edge) b.0 (and-true (has_a_way ds n inner test body) edge way.0 (edge-of ds n mask inner test body b.1 way.1))))
      by false w h =
          let may = may_slice ds k at hd mask j here inner test (pushed_properties hd.iterator body) [] (groups_of ds hd.iterator inner test body) in
          (good-inner ds res k at hd mask j here inner test body s (both-true (is_mask hd.iterator mask) may h).1).1
  slices-cut body asks s range form = and-true (is_nodes hd.domain) (is_cut has_a_way ds hd.iterator mask body) range form

-- the program means the same
pub same-sliced : (p : Program) → IsPartedBy goes_any_way p → can_be_sliced p ≡ true → SameMeaning p (in_slices p)
same-sliced = same-rewritten can_slice sliced_loop in-slices slices-kept slices-cut

-- it is ready for what comes next
pub ready-sliced : (p : Program) → IsPartedBy goes_any_way p → can_be_sliced p ≡ true → Ready3 (in_slices p)
ready-sliced = ready-rewritten can_slice sliced_loop in-slices slices-kept slices-cut
