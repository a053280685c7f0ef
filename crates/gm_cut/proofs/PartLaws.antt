-- A program whose bodies are in pieces means the same, keeps what every pass keeps, and is cut.
use Rattle.std.proofs.Common.{◌≡◌, ◌<◌, arith, ℕ, Bool, true, false, cond, List, [], ◌∷◌, ◌++◌, length, map, refl, sym, ap, subst, ◌∙◌, Option, Some, None}
use Rattle.std.specs.Prelude.{◌+◌, ◌&&◌, ◌||◌, nat_le, nat_lt}
use Rattle.std.specs.List.{list_all}
use Rattle.std.proofs.lemmas.Bool.{leb-true, both_ways}
use Rattle.gm_base.specs.declared.places.Place.{Place}
use Rattle.gm_value.specs.Bag.{IsIn}
use Rattle.gm_value.specs.declared.values.VType.{VType}
use Rattle.gm_model.specs.Graphs.{IsGraph}
use Rattle.gm_ast.specs.declared.tree.Declaration.{Declaration}
use Rattle.gm_ast.specs.declared.tree.Head.{Head}
use Rattle.gm_ast.specs.declared.tree.Key.{Key}
use Rattle.gm_ast.specs.declared.tree.Target.TheVariants as T
use Rattle.gm_ast.specs.Loops.{is_nodes}
use Rattle.gm_ast.specs.Program.{Expr, Stmt, Skip, Then, Declare, DeclareEdge, Assign, Defer, Combine, Group, Foreach, For, If, While, Do, InBfs, InBfsBoth, Return, Program, sequence}
use Rattle.gm_semantics.specs.Statements.{Run, sequential}
use Rattle.gm_semantics.specs.Frames.{NamesBelow, AlikeCourses}
use Rattle.gm_semantics.proofs.StatementFrames.{sequential-alike}
use Rattle.gm_forms.specs.Cut.{is_mask, is_own_loop, knows_no_locals, mask_stays, has_plain_locals, is_edge_loop, is_along_edges, is_cut, adds_last, touched}
use Rattle.gm_forms.specs.Extends.{Extends, run_of, start_of}
use Rattle.gm_forms.specs.Fission.{pushed_properties, left, changed, all_agree_with, reduces_whole, is_nil}
use Rattle.gm_forms.specs.Forms.{depth_at, is_flat, is_outer_body, is_flat_loop, is_phase, no_loop, is_told, has_a_way}
use Rattle.gm_forms.specs.Meanings.{SameMeaning}
use Rattle.gm_forms.specs.Order.{fault_of, are_numbered, cannot_fail, hoisted_in, lie_before, faults_in, in_order, faults_of, leads, body_in_order, loop_in_order, begins, folds_in_order, loops_in_order}
use Rattle.gm_forms.specs.Ready.{Ready2, Ready3}
use Rattle.gm_forms.specs.Sharing.{sights_of, read_anywhere, read_elsewhere, deferred, reduced, pushed_in, disjoint, all_one}
use Rattle.gm_forms.specs.Uses.{suits, uses_in, uses_of_head, uses_of}
use Rattle.gm_forms.proofs.Named.{both-true, all-append, names-below}
use Rattle.gm_forms.proofs.Tables.{same-alike}
use Rattle.gm_forms.proofs.Weaker.{and-true, weaker}
use Rattle.gm_loop_laws.specs.Pieces.{may_part}
use Rattle.gm_loop_laws.proofs.Kept.{touched-below}
use Rattle.gm_loop_laws.proofs.Parting.{pieces-hold}
use Rattle.gm_dissect.specs.Loops.{each_loop}
use Rattle.gm_dissect.proofs.Kept.{Sound, phase-kept}
use Rattle.gm_dissect.proofs.Phases.{KnownLoop, KnownPhase, Rewrites, phase-alike}
use Rattle.gm_cut.specs.Runs.{joins_run, with_runs}
use Rattle.gm_cut.specs.Slices.{goes_one_way}
use Rattle.gm_cut.specs.Parts.{Kind, IsPartedBy, parts_of, piece_loop, parted_loop, in_pieces, stands_at_edges, stands_along, is_parted, piece_is_parted, falls_apart, is_separable, can_part, each_passes, can_be_parted}
use Rattle.gm_cut.proofs.Apart.{mask-certain, all-in, properties-touched, Facts, parts-may}
use Rattle.gm_cut.proofs.Grouped.{uses-same, order-same, form-same, alike-same, runs-same}
use Rattle.gm_cut.proofs.PartKept.{pieces-sound, pieces-cut, good-loop}
use Rattle.gm_cut.proofs.Roles.{touched-apart, iterates-of, keeps-named}
use Rattle.gm_cut.proofs.Shared.{shares-alike}

-- kind: which inner loops are let; ds: the table
module _ (kind : Kind) (ds : List Declaration) where
  -- what is asked of a loop
  abbrev asked : Key → Place → Head → Expr → Stmt → Bool
  asked k at h mask body = is_own_loop h.iterator body || can_part kind ds at h mask body

  -- a loop in pieces, where it stands in order and may be written so
  abbrev allowed : Key → Place → Head → Expr → Stmt → Bool
  allowed k at h mask body = loops_in_order (Foreach k at h mask body) && can_part kind ds at h mask body

  abbrev tried : Key → Place → Head → Expr → Stmt → Stmt
  tried k at h mask body = cond (allowed k at h mask body) (parted_loop k at h mask body) (Foreach k at h mask body)

  -- where each loop does, that is each loop in pieces
  tried-all : (s : Stmt) → loops_in_order s ≡ true → each_passes asked s ≡ true → each_loop parted_loop s ≡ each_loop tried s
  tried-all (Then a b) g h =
      let q = both-true (loops_in_order a) (loops_in_order b) g in
      let r = both-true (each_passes asked a) (each_passes asked b) h in
      ap (λ x. Then x (each_loop parted_loop b)) (tried-all a q.0 r.0) ∙ ap (Then (each_loop tried a)) (tried-all b q.1 r.1)
  tried-all (Foreach k at hd mask body) g h = by (is_own_loop hd.iterator body) (loops_in_order (Foreach k at hd mask body)) (can_part kind ds at hd mask body) g h
    where
      by : (o f c : Bool) → f ≡ true → o || c ≡ true → cond o (Foreach k at hd mask body) (sequence (map (piece_loop k at hd) (parts_of hd.iterator at mask body)))
          ≡ cond (f && c) (cond o (Foreach k at hd mask body) (sequence (map (piece_loop k at hd) (parts_of hd.iterator at mask body)))) (Foreach k at hd mask body)
      by true true true f e = refl
      by true true false f e = refl
      by true false c f e = refl
      by false true true f e = refl
      by false true false f e = absurd (both_ways false refl e)
      by false false c f e = absurd (both_ways false refl f)
  tried-all (For k at hd test body) g h = ap (For k at hd test) (tried-all body (both-true (folds_in_order test) (loops_in_order body) g).1 h)
  tried-all (If k c a b) g h =
      let q = both-true (folds_in_order c) (loops_in_order a && loops_in_order b) g in
      let u = both-true (loops_in_order a) (loops_in_order b) q.1 in
      let r = both-true (each_passes asked a) (each_passes asked b) h in
      ap (λ x. If k c x (each_loop parted_loop b)) (tried-all a u.0 r.0) ∙ ap (If k c (each_loop tried a)) (tried-all b u.1 r.1)
  tried-all (While k at c body) g h = ap (While k at c) (tried-all body (both-true (folds_in_order c) (loops_in_order body) g).1 h)
  tried-all (Do k at body c) g h = ap (λ s. Do k at s c) (tried-all body (both-true (loops_in_order body) (folds_in_order c) g).0 h)
  tried-all s g h = refl

  -- the tests of a loop that may be written so
  record Tests (at : Place) (hd : Head) (mask : Expr) (body : Stmt) : Type 0 where
    masked : is_mask hd.iterator mask ≡ true
    separable : is_separable ds hd.iterator (with_runs hd.iterator body) ≡ true
    falls : falls_apart ds hd.iterator at mask (with_runs hd.iterator body) ≡ true
    cut : list_all (piece_is_parted kind ds hd.iterator) (parts_of hd.iterator at mask body) ≡ true

  tests-of : (at : Place) (hd : Head) (mask : Expr) (body : Stmt) → can_part kind ds at hd mask body ≡ true → Tests at hd mask body
  tests-of at hd mask body h =
      let n = hd.iterator in
      let whole = with_runs n body in
      let all = list_all (piece_is_parted kind ds n) (parts_of n at mask body) in
      let a = both-true (is_mask n mask) (is_separable ds n whole && (falls_apart ds n at mask whole && all)) h in
      let b = both-true (is_separable ds n whole) (falls_apart ds n at mask whole && all) a.1 in
      let c = both-true (falls_apart ds n at mask whole) all b.1 in
      record { masked = a.0; separable = b.0; falls = c.0; cut = c.1 }

  -- the parts of its body may be cut
  may-be : (k : Key) (at : Place) (hd : Head) (mask : Expr) (body : Stmt) → KnownLoop ds k at hd mask body → loops_in_order (Foreach k at hd mask body) ≡ true → Tests at hd mask body → NamesBelow (length ds) (with_runs hd.iterator body) →
      may_part (is_own_loop hd.iterator) at ds hd.iterator (length ds) k hd.place (pushed_properties hd.iterator (with_runs hd.iterator body)) mask (with_runs hd.iterator body) ≡ true
  may-be k at hd mask body known order t below =
      let n = hd.iterator in
      let its = n ∷ [] in
      let own = is_own_loop n in
      let joins = joins_run n in
      let whole = with_runs n body in
      let pushed = pushed_properties n whole in
      let all = reduced ds n false whole in
      let seen = sights_of ds n false whole in
      let spare = disjoint (pushed_in all ++ pushed) (read_anywhere seen.properties ++ (seen.scalars ++ left ds n whole)) in
      let apart = disjoint (changed ds n whole) (read_elsewhere n seen.properties) in
      let o = both-true (begins its k hd.place mask body) (loop_in_order its k mask body) order in
      let b = both-true (leads its k hd.place body) (are_numbered (hoisted_in mask ++ faults_of its body) && (nat_lt 0 k.statement || cannot_fail mask)) o.0 in
      let d = both-true (in_order mask k) (body_in_order its body && lie_before (faults_in mask k) (faults_of its body)) o.1 in
      let e = both-true (body_in_order its body) (lie_before (faults_in mask k) (faults_of its body)) d.1 in
      let f = order-same own joins its body in
      let s1 = both-true (is_nil (deferred whole)) (nat_lt (depth_at ds n) 2 && (all_agree_with pushed all && (reduces_whole ds n pushed false whole && (spare && apart)))) t.separable in
      let s2 = both-true (nat_lt (depth_at ds n) 2) (all_agree_with pushed all && (reduces_whole ds n pushed false whole && (spare && apart))) s1.1 in
      let s4 = both-true (all_agree_with pushed all) (reduces_whole ds n pushed false whole && (spare && apart)) s2.1 in
      let s5 = both-true (reduces_whole ds n pushed false whole) (spare && apart) s4.1 in
      let s6 = both-true spare apart s5.1 in
      let m = both-true (cannot_fail mask) (is_flat its false mask) t.masked in
      let low : (y : ℕ) → IsIn y pushed → y < length ds = λ y i. touched-below (length ds) whole below y (properties-touched ds n whole y i) in
      let heads = all-append (suits ds) (uses_of_head hd) (uses_in mask ++ uses_of body) known.named in
      let uses : list_all (suits ds) (uses_of whole) ≡ true = ap (list_all (suits ds)) (uses-same own joins body) ∙ (all-append (suits ds) (uses_in mask) (uses_of body) heads.1).1 in
      let off : IsIn n (touched whole) → ⊥ = touched-apart ds n (iterates-of ds k at hd mask body known.named) whole uses in
      let away : IsIn n pushed → ⊥ = λ i. off (properties-touched ds n whole n i) in
      let facts : Facts ds n k hd.place pushed low away s2.0 whole = record {
        form = form-same own joins ds n body ∙ (both-true (is_flat its false mask) (is_outer_body ds false n body) known.form).1;
        below = below;
        order = f.1 ∙ e.0;
        ahead = ap (lie_before (fault_of k hd.place ∷ [])) f.0 ∙ b.0;
        nothing = s1.0;
        keeps = keeps-named ds whole uses;
        off = off;
        agree = s4.0;
        mine = all-in pushed pushed (λ y i. i);
        spare = s6.0;
        apart = s6.1;
        whole = s5.0;
        alike = alike-same own joins body ∙ shares-alike ds n mask body known.share;
      } in
      parts-may ds n k hd.place pushed low away s2.0 kind at whole mask (mask-certain n mask m.0 m.1) facts t.falls t.cut

  -- such a loop goes alike
  loop-alike : (run : Run) → IsGraph run.graph → run.declarations ≡ ds → Rewrites ds run tried
  loop-alike run graph e k at hd mask body known u v alike = by (allowed k at hd mask body) refl (is_own_loop hd.iterator body)
    where
      itself : AlikeCourses (length ds) (sequential (Foreach k at hd mask body) run u) (sequential (Foreach k at hd mask body) run v)
      itself = sequential-alike (length ds) (Foreach k at hd mask body) run u v (names-below ds (Foreach k at hd mask body) known.named) alike

      parted : allowed k at hd mask body ≡ true → AlikeCourses (length ds) (sequential (Foreach k at hd mask body) run u) (sequential (sequence (map (piece_loop k at hd) (parts_of hd.iterator at mask body))) run v)
      parted c =
          let n = hd.iterator in
          let own = is_own_loop n in
          let whole = with_runs n body in
          let uses : list_all (suits ds) (uses_of (Foreach k at hd mask whole)) ≡ true = ap (λ l. list_all (suits ds) (uses_of_head hd ++ (uses_in mask ++ l))) (uses-same own (joins_run n) body) ∙ known.named in
          let below = names-below ds (Foreach k at hd mask whole) uses in
          let test = both-true (loops_in_order (Foreach k at hd mask body)) (can_part kind ds at hd mask body) c in
          let may = may-be k at hd mask body known test.0 (tests-of at hd mask body test.1) below.3 in
          subst (λ (x : _). AlikeCourses (length ds) x (sequential (sequence (map (piece_loop k at hd) (parts_of n at mask body))) run v)) (runs-same own (joins_run n) run k at hd mask body u)
          (pieces-hold (length ds) run (length ds) k hd.place at at hd own mask whole u v graph (omega arith) below.2 below.3
          (subst (λ (d : List Declaration). may_part own at d n (length ds) k hd.place (pushed_properties n whole) mask whole ≡ true) (sym e) may) alike)

      by : (c : Bool) → allowed k at hd mask body ≡ c → (o : Bool) →
          AlikeCourses (length ds) (sequential (Foreach k at hd mask body) run u) (sequential (cond c (cond o (Foreach k at hd mask body) (sequence (map (piece_loop k at hd) (parts_of hd.iterator at mask body)))) (Foreach k at hd mask body)) run v)
      by false h o = itself
      by true h true = itself
      by true h false = parted h

  -- and keeps what every pass keeps
  loop-kept : (res : Option VType) (k : Key) (at : Place) (hd : Head) (mask : Expr) (body : Stmt) → Sound ds res (Foreach k at hd mask body) → Sound ds res (tried k at hd mask body)
  loop-kept res k at hd mask body s = by (allowed k at hd mask body) refl (is_own_loop hd.iterator body)
    where
      parted : allowed k at hd mask body ≡ true → Sound ds res (sequence (map (piece_loop k at hd) (parts_of hd.iterator at mask body)))
      parted c =
          let n = hd.iterator in
          let test = both-true (loops_in_order (Foreach k at hd mask body)) (can_part kind ds at hd mask body) c in
          let f = both-true (is_nodes hd.domain) (is_flat_loop ds false n mask body) s.form in
          let u = all-append (suits ds) (uses_of_head hd) (uses_in mask ++ uses_of body) s.named in
          pieces-sound kind ds res k at hd f.0 u.0 (with_runs n body) mask (good-loop kind ds res k at hd mask body s) (tests-of at hd mask body test.1).cut

      by : (c : Bool) → allowed k at hd mask body ≡ c → (o : Bool) → Sound ds res (cond c (cond o (Foreach k at hd mask body) (sequence (map (piece_loop k at hd) (parts_of hd.iterator at mask body)))) (Foreach k at hd mask body))
      by false h o = s
      by true h true = s
      by true h false = parted h

  -- the phase is cut
  abbrev phase : Stmt → Bool
  phase s = is_phase (is_flat_loop ds false) no_loop ds s

  abbrev cut : Stmt → Bool
  cut s = is_phase (is_parted kind ds) no_loop ds s

  phase-cut : (s : Stmt) → phase s ≡ true → each_passes asked s ≡ true → cut (each_loop parted_loop s) ≡ true
  phase-cut Skip f h = refl
  phase-cut (Then a b) f h =
      let r = both-true (phase a) (phase b) f in
      let q = both-true (each_passes asked a) (each_passes asked b) h in
      and-true (cut (each_loop parted_loop a)) (cut (each_loop parted_loop b)) (phase-cut a r.0 q.0) (phase-cut b r.1 q.1)
  phase-cut (Declare k x None) f h = f
  phase-cut (Declare k x (Some e)) f h = f
  phase-cut (DeclareEdge x y at) f h = f
  phase-cut (Assign k (T.Scalar x at) e) f h = f
  phase-cut (Assign k (T.Property x p at) e) f h = f
  phase-cut (Defer k t e) f h = f
  phase-cut (Combine k total r ts es) f h = f
  phase-cut (Group k at g p e) f h = f
  phase-cut (Foreach k at hd mask body) f h = by (is_own_loop n body) refl h
    where
      n : ℕ
      n = hd.iterator

      r : (is_nodes hd.domain ≡ true) × (is_flat_loop ds false n mask body ≡ true)
      r = both-true (is_nodes hd.domain) (is_flat_loop ds false hd.iterator mask body) f

      by : (o : Bool) → is_own_loop hd.iterator body ≡ o → o || can_part kind ds at hd mask body ≡ true → cut (cond o (Foreach k at hd mask body) (sequence (map (piece_loop k at hd) (parts_of hd.iterator at mask body)))) ≡ true
      by true e g =
          and-true (is_nodes hd.domain) (is_parted kind ds hd.iterator mask body) r.0
          (and-true (is_flat_loop ds false hd.iterator mask body) (is_own_loop hd.iterator body || (is_mask hd.iterator mask && stands_along kind ds hd.iterator mask body)) r.1
          (ap (λ o. o || (is_mask hd.iterator mask && stands_along kind ds hd.iterator mask body)) e))
      by false e g = pieces-cut kind ds None k at hd r.0 (parts_of hd.iterator at mask body) (tests-of at hd mask body g).cut
  phase-cut (For k at hd test body) f h = let r = both-true (is_told test) (phase body) f in and-true (is_told test) (cut (each_loop parted_loop body)) r.0 (phase-cut body r.1 h)
  phase-cut (If k c a b) f h =
      let r = both-true (is_told c) (phase a && phase b) f in
      let t = both-true (phase a) (phase b) r.1 in
      let q = both-true (each_passes asked a) (each_passes asked b) h in
      and-true (is_told c) (cut (each_loop parted_loop a) && cut (each_loop parted_loop b)) r.0 (and-true (cut (each_loop parted_loop a)) (cut (each_loop parted_loop b)) (phase-cut a t.0 q.0) (phase-cut b t.1 q.1))
  phase-cut (While k at c body) f h = let r = both-true (is_told c) (phase body) f in and-true (is_told c) (cut (each_loop parted_loop body)) r.0 (phase-cut body r.1 h)
  phase-cut (Do k at body c) f h = let r = both-true (phase body) (is_told c) f in and-true (cut (each_loop parted_loop body)) (is_told c) (phase-cut body r.0 h) r.1
  phase-cut (InBfs k at s test body) f h = absurd (both_ways false refl f)
  phase-cut (InBfsBoth k at s test body back_key back_test back) f h = absurd (both_ways false refl f)
  phase-cut (Return k at e) f h = f

-- the program means the same
pub same-parted : (kind : Kind) (p : Program) → Ready2 p → can_be_parted kind p ≡ true → SameMeaning p (in_pieces p)
same-parted kind p r asks =
    let ds = p.declarations in
    let q = in_pieces p in
    let m = both-true (nat_le (p.inputs + p.outputs) (length ds)) (list_all (suits ds) (uses_of p.body)) r.sane.named in
    let known : KnownPhase ds p.body = record { named = m.1; form = r.form; share = r.sane.race_free } in
    let itself : Extends (length ds) p q = record { inputs = refl; outputs = refl; result = refl; within = leb-true (p.inputs + p.outputs) (length ds) m.0; variables = λ x b. refl } in
    same-alike (length ds) p q itself (names-below ds p.body known.named)
    (λ g args bound fits.
    let run = run_of q g bound in
    let start = start_of q g args in
    subst (λ (s : Stmt). AlikeCourses (length ds) (sequential p.body run start) (sequential s run start)) (sym (tried-all kind ds p.body r.sane.ordered asks))
    (phase-alike ds run (tried kind ds) (loop-alike kind ds run fits.graph refl) p.body known start start
    (record { store = record { scalar = λ y b. refl; node = λ y n b. refl; edge = λ y n b. refl }; turns = refl })))

-- it is ready for what comes next
pub ready-parted : (kind : Kind) (p : Program) → Ready2 p → can_be_parted kind p ≡ true → IsPartedBy kind (in_pieces p)
ready-parted kind p r asks =
    let ds = p.declarations in
    let m = both-true (nat_le (p.inputs + p.outputs) (length ds)) (list_all (suits ds) (uses_of p.body)) r.sane.named in
    let sound : Sound ds p.result p.body = record { named = m.1; typed = r.sane.typed; order = r.sane.ordered; share = r.sane.race_free; form = r.form } in
    let kept : Sound ds p.result (each_loop parted_loop p.body) = subst (Sound ds p.result) (sym (tried-all kind ds p.body r.sane.ordered asks)) (phase-kept ds ds (λ x b. refl) (omega arith) p.result (tried kind ds) (loop-kept kind ds p.result) p.body sound) in
    record {
      sane = record {
        named = and-true (nat_le (p.inputs + p.outputs) (length ds)) (list_all (suits ds) (uses_of (each_loop parted_loop p.body))) m.0 kept.named;
        typed = kept.typed;
        ordered = kept.order;
        race_free = kept.share;
      };
      form = phase-cut kind ds p.body r.form asks;
    }

-- ---- inner loops that go one way

-- an inner loop that stands alone, and in which nothing can fault behind a Sum or Product through a node variable
pub edge-of : (ds : List Declaration) (n : ℕ) (mask : Expr) (hd : Head) (test : Expr) (body : Stmt) → stands_at_edges ds n mask hd test body ≡ true → adds_last (n ∷ hd.iterator ∷ []) body ≡ true → is_edge_loop ds n mask hd test body ≡ true
edge-of ds n mask hd test body e l =
    let knows = knows_no_locals ds n hd.iterator mask test body in
    let stays = mask_stays n mask hd body in
    let plain = has_plain_locals ds n test body in
    let one = all_one (reduced ds n true body) in
    let last = adds_last (n ∷ hd.iterator ∷ []) body in
    let a = both-true knows (stays && (plain && one)) e in
    let b = both-true stays (plain && one) a.1 in
    let c = both-true plain one b.1 in
    and-true knows (stays && (plain && (one && last))) a.0 (and-true stays (plain && (one && last)) b.0 (and-true plain (one && last) c.0 (and-true one last c.1 l)))

-- so its loop is cut, where it goes one way
along-cut : (ds : List Declaration) (n : ℕ) (mask : Expr) (s : Stmt) → stands_along goes_one_way ds n mask s ≡ true → is_along_edges (has_a_way ds) ds n mask s ≡ true
along-cut ds n mask (Foreach k at hd test body) e =
    let a = both-true (goes_one_way ds n hd test body) (stands_at_edges ds n mask hd test body) e in
    let b = both-true (has_a_way ds n hd test body) (adds_last (n ∷ hd.iterator ∷ []) body) a.0 in
    and-true (has_a_way ds n hd test body) (is_edge_loop ds n mask hd test body) b.0 (edge-of ds n mask hd test body a.1 b.1)
along-cut ds n mask s e = absurd (both_ways false refl e)

loop-cut : (ds : List Declaration) (n : ℕ) (mask : Expr) (s : Stmt) → is_parted goes_one_way ds n mask s ≡ true → is_cut has_a_way ds n mask s ≡ true
loop-cut ds n mask s e =
    let along = stands_along goes_one_way ds n mask s in
    let edges = is_along_edges (has_a_way ds) ds n mask s in
    let a = both-true (is_flat_loop ds false n mask s) (is_own_loop n s || (is_mask n mask && along)) e in
    and-true (is_flat_loop ds false n mask s) (is_own_loop n s || (is_mask n mask && edges)) a.0 (by (is_own_loop n s) (is_mask n mask) along edges a.1 (along-cut ds n mask s))
  where
    by : (o m x y : Bool) → o || (m && x) ≡ true → (x ≡ true → y ≡ true) → o || (m && y) ≡ true
    by true m x y h f = refl
    by false true x y h f = f h
    by false false x y h f = h

-- with inner loops that go one way, the program is ready for flipping
pub flippable-parted : (p : Program) → Ready2 p → can_be_parted goes_one_way p ≡ true → Ready3 (in_pieces p)
flippable-parted p r asks =
    let q = in_pieces p in
    let cut = ready-parted goes_one_way p r asks in
    record { sane = cut.sane; form = weaker (is_parted goes_one_way q.declarations) (is_cut has_a_way q.declarations) no_loop no_loop (loop-cut q.declarations) (λ n e s k. k) q.declarations q.body cut.form }
