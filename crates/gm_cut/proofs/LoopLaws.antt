-- A program each of whose loops may be rewritten as others that are cut means the same, keeps what every pass keeps, and is cut.
use Rattle.std.proofs.Common.{◌≡◌, arith, ℕ, Bool, true, false, cond, List, ◌++◌, length, refl, sym, ap, subst, ◌∙◌, Option, Some, None}
use Rattle.std.specs.Prelude.{◌+◌, ◌&&◌, ◌||◌, nat_le}
use Rattle.std.specs.List.{list_all}
use Rattle.std.proofs.lemmas.Bool.{leb-true, both_ways}
use Rattle.gm_base.specs.declared.places.Place.{Place}
use Rattle.gm_value.specs.declared.values.VType.{VType}
use Rattle.gm_value.specs.declared.values.VType.TheVariants.{Flag}
use Rattle.gm_model.specs.Graphs.{IsGraph}
use Rattle.gm_ast.specs.declared.tree.Declaration.{Declaration}
use Rattle.gm_ast.specs.declared.tree.Head.{Head}
use Rattle.gm_ast.specs.declared.tree.Key.{Key}
use Rattle.gm_ast.specs.declared.tree.Target.TheVariants as T
use Rattle.gm_ast.specs.Loops.{is_nodes}
use Rattle.gm_ast.specs.Program.{Expr, Stmt, Skip, Then, Declare, DeclareEdge, Assign, Defer, Combine, Group, Foreach, For, If, While, Do, InBfs, InBfsBoth, Return, Program}
use Rattle.gm_semantics.specs.Statements.{Run, State, sequential}
use Rattle.gm_semantics.specs.Frames.{AlikeStates, AlikeCourses}
use Rattle.gm_forms.specs.Cut.{is_mask, is_own_loop, is_cut}
use Rattle.gm_forms.specs.Extends.{Extends, run_of, start_of}
use Rattle.gm_forms.specs.Forms.{is_flat_loop, is_phase, no_loop, is_told, has_a_way}
use Rattle.gm_forms.specs.Meanings.{SameMeaning}
use Rattle.gm_forms.specs.Ready.{Ready3}
use Rattle.gm_forms.specs.Typing.{has_type, is_typed_in}
use Rattle.gm_forms.specs.Uses.{suits, uses_in, uses_of_head, uses_of}
use Rattle.gm_forms.proofs.Named.{both-true, all-append, names-below}
use Rattle.gm_forms.proofs.Tables.{same-alike}
use Rattle.gm_forms.proofs.Weaker.{and-true, weaker}
use Rattle.gm_dissect.specs.Loops.{each_loop}
use Rattle.gm_dissect.proofs.Kept.{Sound, phase-kept}
use Rattle.gm_dissect.proofs.Phases.{KnownLoop, KnownPhase, Rewrites, phase-alike}
use Rattle.gm_cut.specs.Parts.{goes_any_way, stands_along, is_parted, IsPartedBy, each_passes}
use Rattle.gm_semantics.proofs.StatementFrames.{sequential-alike}
use Rattle.gm_cut.proofs.SlicesKept.{Fits}

-- a loop goes alike from states that are alike
module _ (res : Option VType) (run : Run) (graph : IsGraph run.graph) (k : Key) (at : Place) (hd : Head) (mask : Expr) where
  abbrev size : ℕ
  size = length run.declarations

  abbrev loop : Stmt → Stmt
  loop body = Foreach k at hd mask body

  pub itself : (body : Stmt) → KnownLoop run.declarations k at hd mask body → (u v : State) → AlikeStates size u v → AlikeCourses size (sequential (loop body) run u) (sequential (loop body) run v)
  itself body known u v alike = sequential-alike size (loop body) run u v (names-below run.declarations (loop body) known.named) alike

-- loops that are parted are flat
pub parted-flat : (ds : List Declaration) (res : Option VType) (s : Stmt) → is_phase (is_parted goes_any_way ds) no_loop ds s ≡ true → is_phase (is_flat_loop ds false) no_loop ds s ≡ true
parted-flat ds res s e =
    weaker (is_parted goes_any_way ds) (is_flat_loop ds false) no_loop no_loop
    (λ n e s k. (both-true (is_flat_loop ds false n e s) (is_own_loop n s || (is_mask n e && stands_along goes_any_way ds n e s)) k).0) (λ n e s k. k) ds s e

-- can: which loops may be rewritten; rewrite: as what. Such a loop goes alike, keeps what every pass keeps, and is cut
module _ (can : List Declaration → Key → Place → Head → Expr → Stmt → Bool) (rewrite : List Declaration → Key → Place → Head → Expr → Stmt → Stmt)
    (runs : (run : Run) → IsGraph run.graph → (k : Key) (at : Place) (hd : Head) (mask : Expr) (body : Stmt) → KnownLoop run.declarations k at hd mask body → can run.declarations k at hd mask body ≡ true → (u v : State) → AlikeStates (length run.declarations) u v →
    AlikeCourses (length run.declarations) (sequential (Foreach k at hd mask body) run u) (sequential (rewrite run.declarations k at hd mask body) run v))
    (keeps : (ds : List Declaration) (res : Option VType) (k : Key) (at : Place) (hd : Head) (mask : Expr) (body : Stmt) → can ds k at hd mask body ≡ true → Sound ds res (Foreach k at hd mask body) → Sound ds res (rewrite ds k at hd mask body))
    (cuts : (ds : List Declaration) (res : Option VType) (k : Key) (at : Place) (hd : Head) (mask : Expr) (body : Stmt) → can ds k at hd mask body ≡ true → Fits ds res (Foreach k at hd mask body) → is_nodes hd.domain ≡ true → is_parted goes_any_way ds hd.iterator mask body ≡ true →
    is_phase (is_cut has_a_way ds) no_loop ds (rewrite ds k at hd mask body) ≡ true) where
  module _ (ds : List Declaration) (res : Option VType) where
    abbrev allowed : Key → Place → Head → Expr → Stmt → Bool
    allowed k at h mask body = can ds k at h mask body

    abbrev tried : Key → Place → Head → Expr → Stmt → Stmt
    tried k at h mask body = cond (allowed k at h mask body) (rewrite ds k at h mask body) (Foreach k at h mask body)

    -- where each loop may be written so, that is each loop in slices
    tried-all : (s : Stmt) → each_passes allowed s ≡ true → each_loop (rewrite ds) s ≡ each_loop tried s
    tried-all (Then a b) h =
        let r = both-true (each_passes allowed a) (each_passes allowed b) h in
        ap (λ x. Then x (each_loop (rewrite ds) b)) (tried-all a r.0) ∙ ap (Then (each_loop tried a)) (tried-all b r.1)
    tried-all (Foreach k at hd mask body) h = ap (λ b. cond b (rewrite ds k at hd mask body) (Foreach k at hd mask body)) (sym h)
    tried-all (For k at hd test body) h = ap (For k at hd test) (tried-all body h)
    tried-all (If k c a b) h =
        let r = both-true (each_passes allowed a) (each_passes allowed b) h in
        ap (λ x. If k c x (each_loop (rewrite ds) b)) (tried-all a r.0) ∙ ap (If k c (each_loop tried a)) (tried-all b r.1)
    tried-all (While k at c body) h = ap (While k at c) (tried-all body h)
    tried-all (Do k at body c) h = ap (λ s. Do k at s c) (tried-all body h)
    tried-all s h = refl

  loop-alike : (res : Option VType) (run : Run) → IsGraph run.graph → Rewrites run.declarations run (tried run.declarations res)
  loop-alike res run graph k at hd mask body known u v alike = by (can run.declarations k at hd mask body) refl
    where
      by : (c : Bool) → can run.declarations k at hd mask body ≡ c →
          AlikeCourses (length run.declarations) (sequential (Foreach k at hd mask body) run u) (sequential (cond c (rewrite run.declarations k at hd mask body) (Foreach k at hd mask body)) run v)
      by false h = itself res run graph k at hd mask body known u v alike
      by true h = runs run graph k at hd mask body known h u v alike

  loop-kept : (ds : List Declaration) (res : Option VType) (k : Key) (at : Place) (hd : Head) (mask : Expr) (body : Stmt) → Sound ds res (Foreach k at hd mask body) → Sound ds res (tried ds res k at hd mask body)
  loop-kept ds res k at hd mask body s = by (can ds k at hd mask body) refl
    where
      by : (c : Bool) → can ds k at hd mask body ≡ c → Sound ds res (cond c (rewrite ds k at hd mask body) (Foreach k at hd mask body))
      by false h = s
      by true h = keeps ds res k at hd mask body h s

  -- the phase is cut
  module _ (ds : List Declaration) (res : Option VType) where
    abbrev before : Stmt → Bool
    before s = is_phase (is_parted goes_any_way ds) no_loop ds s

    abbrev cut : Stmt → Bool
    cut s = is_phase (is_cut has_a_way ds) no_loop ds s

    abbrev asked : Stmt → Bool
    asked s = each_passes (can ds) s

    phase-cut : (s : Stmt) → Fits ds res s → before s ≡ true → asked s ≡ true → cut (each_loop (rewrite ds) s) ≡ true
    phase-cut Skip w f h = refl
    phase-cut (Then a b) w f h =
        let r = both-true (before a) (before b) f in
        let q = both-true (asked a) (asked b) h in
        let n = all-append (suits ds) (uses_of a) (uses_of b) w.named in
        let t = both-true (is_typed_in ds res a) (is_typed_in ds res b) w.typed in
        and-true (cut (each_loop (rewrite ds) a)) (cut (each_loop (rewrite ds) b)) (phase-cut a (record { named = n.0; typed = t.0 }) r.0 q.0) (phase-cut b (record { named = n.1; typed = t.1 }) r.1 q.1)
    phase-cut (Declare k x None) w f h = f
    phase-cut (Declare k x (Some e)) w f h = f
    phase-cut (DeclareEdge x y at) w f h = f
    phase-cut (Assign k (T.Scalar x at) e) w f h = f
    phase-cut (Assign k (T.Property x p at) e) w f h = f
    phase-cut (Defer k t e) w f h = f
    phase-cut (Combine k total r ts es) w f h = f
    phase-cut (Group k at g p e) w f h = f
    phase-cut (Foreach k at hd mask body) w f h = let r = both-true (is_nodes hd.domain) (is_parted goes_any_way ds hd.iterator mask body) f in cuts ds res k at hd mask body h w r.0 r.1
    phase-cut (For k at hd test body) w f h =
        let r = both-true (is_told test) (before body) f in
        let n = all-append (suits ds) (uses_of_head hd) (uses_in test ++ uses_of body) w.named in
        let m = all-append (suits ds) (uses_in test) (uses_of body) n.1 in
        let t = both-true (has_type ds Flag test) (is_typed_in ds res body) w.typed in
        and-true (is_told test) (cut (each_loop (rewrite ds) body)) r.0 (phase-cut body (record { named = m.1; typed = t.1 }) r.1 h)
    phase-cut (If k c a b) w f h =
        let r = both-true (is_told c) (before a && before b) f in
        let t = both-true (before a) (before b) r.1 in
        let q = both-true (asked a) (asked b) h in
        let n = all-append (suits ds) (uses_in c) (uses_of a ++ uses_of b) w.named in
        let m = all-append (suits ds) (uses_of a) (uses_of b) n.1 in
        let x = both-true (has_type ds Flag c) (is_typed_in ds res a && is_typed_in ds res b) w.typed in
        let y = both-true (is_typed_in ds res a) (is_typed_in ds res b) x.1 in
        and-true (is_told c) (cut (each_loop (rewrite ds) a) && cut (each_loop (rewrite ds) b)) r.0
        (and-true (cut (each_loop (rewrite ds) a)) (cut (each_loop (rewrite ds) b)) (phase-cut a (record { named = m.0; typed = y.0 }) t.0 q.0) (phase-cut b (record { named = m.1; typed = y.1 }) t.1 q.1))
    phase-cut (While k at c body) w f h =
        let r = both-true (is_told c) (before body) f in
        let n = all-append (suits ds) (uses_in c) (uses_of body) w.named in
        let t = both-true (has_type ds Flag c) (is_typed_in ds res body) w.typed in
        and-true (is_told c) (cut (each_loop (rewrite ds) body)) r.0 (phase-cut body (record { named = n.1; typed = t.1 }) r.1 h)
    phase-cut (Do k at body c) w f h =
        let r = both-true (before body) (is_told c) f in
        let n = all-append (suits ds) (uses_of body) (uses_in c) w.named in
        let t = both-true (is_typed_in ds res body) (has_type ds Flag c) w.typed in
        and-true (cut (each_loop (rewrite ds) body)) (is_told c) (phase-cut body (record { named = n.0; typed = t.0 }) r.0 h) r.1
    phase-cut (InBfs k at s test body) w f h = absurd (both_ways false refl f)
    phase-cut (InBfsBoth k at s test body back_key back_test back) w f h = absurd (both_ways false refl f)
    phase-cut (Return k at e) w f h = f

  -- the program means the same
  pub same-rewritten : (p : Program) → IsPartedBy goes_any_way p → each_passes (can p.declarations) p.body ≡ true → SameMeaning p (record p { body = each_loop (rewrite p.declarations) p.body })
  same-rewritten p r asks =
      let ds = p.declarations in
      let q : Program = record p { body = each_loop (rewrite p.declarations) p.body } in
      let m = both-true (nat_le (p.inputs + p.outputs) (length ds)) (list_all (suits ds) (uses_of p.body)) r.sane.named in
      let known : KnownPhase ds p.body = record { named = m.1; form = parted-flat ds p.result p.body r.form; share = r.sane.race_free } in
      let itself : Extends (length ds) p q = record { inputs = refl; outputs = refl; result = refl; within = leb-true (p.inputs + p.outputs) (length ds) m.0; variables = λ x b. refl } in
      same-alike (length ds) p q itself (names-below ds p.body known.named)
      (λ g args bound fits.
      let run = run_of q g bound in
      let start = start_of q g args in
      subst (λ (s : Stmt). AlikeCourses (length ds) (sequential p.body run start) (sequential s run start)) (sym (tried-all ds p.result p.body asks))
      (phase-alike ds run (tried ds p.result) (loop-alike p.result run fits.graph) p.body known start start
      (record { store = record { scalar = λ y b. refl; node = λ y n b. refl; edge = λ y n b. refl }; turns = refl })))

  -- it is ready for what comes next
  pub ready-rewritten : (p : Program) → IsPartedBy goes_any_way p → each_passes (can p.declarations) p.body ≡ true → Ready3 (record p { body = each_loop (rewrite p.declarations) p.body })
  ready-rewritten p r asks =
      let ds = p.declarations in
      let m = both-true (nat_le (p.inputs + p.outputs) (length ds)) (list_all (suits ds) (uses_of p.body)) r.sane.named in
      let sound : Sound ds p.result p.body = record { named = m.1; typed = r.sane.typed; order = r.sane.ordered; share = r.sane.race_free; form = parted-flat ds p.result p.body r.form } in
      let kept : Sound ds p.result (each_loop (rewrite ds) p.body) = subst (Sound ds p.result) (sym (tried-all ds p.result p.body asks)) (phase-kept ds ds (λ x b. refl) (omega arith) p.result (tried ds p.result) (loop-kept ds p.result) p.body sound) in
      record {
        sane = record {
          named = and-true (nat_le (p.inputs + p.outputs) (length ds)) (list_all (suits ds) (uses_of (each_loop (rewrite ds) p.body))) m.0 kept.named;
          typed = kept.typed;
          ordered = kept.order;
          race_free = kept.share;
        };
        form = phase-cut ds p.result p.body (record { named = m.1; typed = r.sane.typed }) r.form asks;
      }
