-- A loop that saves its filter goes alike.
use Rattle.std.proofs.Common.{◌≡◌, arith, ℕ, Bool, true, false, cond, List, [], ◌∷◌, ◌++◌, length, refl, sym, ap, subst, ◌∙◌, inl}
use Rattle.std.proofs.Math.Path.{fun_ext}
use Rattle.std.specs.Prelude.{◌&&◌, not, nat_eq}
use Rattle.std.specs.List.{list_all}
use Rattle.std.proofs.lemmas.Bool.{both_ways, eqb-true}
use Rattle.gm_base.specs.declared.places.Place.{Place}
use Rattle.gm_value.specs.Bag.{IsIn}
use Rattle.gm_model.specs.Graphs.{IsGraph}
use Rattle.gm_ast.specs.declared.tree.Declaration.{Declaration}
use Rattle.gm_ast.specs.declared.tree.Head.{Head}
use Rattle.gm_ast.specs.declared.tree.Key.{Key}
use Rattle.gm_ast.specs.declared.tree.Target.{Target}
use Rattle.gm_ast.specs.declared.tree.Target.TheVariants as T
use Rattle.gm_ast.specs.Loops.{is_nodes}
use Rattle.gm_ast.specs.Program.{Expr, Property, always, Stmt, Then, Declare, Assign, Combine, Foreach, For, If, While, Do, sequence}
use Rattle.gm_semantics.specs.Levels.{no_levels}
use Rattle.gm_semantics.specs.Iterations.{Loop}
use Rattle.gm_semantics.specs.Loops.{pushes}
use Rattle.gm_semantics.specs.Statements.{Run, State, loop_of, sequential}
use Rattle.gm_semantics.specs.Frames.{AlikeStates, AlikeCourses}
use Rattle.gm_semantics.proofs.StatementFrames.{sequential-alike}
use Rattle.gm_forms.specs.Cut.{touched, keeps_iterators}
use Rattle.gm_forms.specs.Fission.{is_nil}
use Rattle.gm_forms.specs.Forms.{is_flat, is_inner_head, is_range, is_inner_body, is_outer_body, is_flat_loop, is_phase, is_told, no_loop}
use Rattle.gm_forms.specs.Order.{first_key, lie_before, faults_in, faults_of, in_order, body_in_order, loop_in_order, begins, folds_in_order, loops_in_order}
use Rattle.gm_forms.specs.Sharing.{deferred, written_by, variables_of}
use Rattle.gm_forms.specs.Uses.{suits, uses_in, uses_of_head, uses_of}
use Rattle.gm_forms.proofs.Doings.{in-left, in-right}
use Rattle.gm_forms.proofs.Named.{both-true, all-append, names-below}
use Rattle.gm_forms.proofs.Weaker.{and-true}
use Rattle.gm_loop_laws.specs.Masks.{Change, looped, in_turn, SameChange}
use Rattle.gm_loop_laws.specs.Saved.{is_other, never_writes, saves}
use Rattle.gm_loop_laws.proofs.Pieces.{own-loop, courses-alike}
use Rattle.gm_loop_laws.proofs.Saves.{saving-holds}
use Rattle.gm_dissect.specs.AllDeferred.{deferred_of, deferred_in, is_empty}
use Rattle.gm_dissect.specs.Loops.{each_loop}
use Rattle.gm_dissect.proofs.DeferredLoops.{turns-do, last-do}
use Rattle.gm_dissect.proofs.Phases.{KnownLoop, Rewrites}
use Rattle.gm_cut.proofs.Roles.{touched-apart, iterates-of, keeps-named}
use Rattle.gm_parting.specs.Filters.{saves_filter, filter_saved, filtered_loop}
use Rattle.gm_parting.proofs.Programs.{nothing-deferred, empty-parts}

-- ---- what is not touched is not written

module _ (ds : List Declaration) (n : ℕ) where
  target-other : (t : Target) → (IsIn n (written_by t) → ⊥) → is_other n t ≡ true
  target-other (T.Scalar x at) off = by (nat_eq x n) refl
    where
      by : (b : Bool) → nat_eq x n ≡ b → not b ≡ true
      by true e = absurd (off (inl (sym (eqb-true x n e))))
      by false e = refl
  target-other (T.Property x p at) off = refl

  targets-other : (ts : List Target) → (IsIn n (variables_of ts) → ⊥) → list_all (is_other n) ts ≡ true
  targets-other [] off = refl
  targets-other (t ∷ ts) off =
      and-true (is_other n t) (list_all (is_other n) ts) (target-other t (λ i. off (in-left n (written_by t) (variables_of ts) i))) (targets-other ts (λ i. off (in-right n (written_by t) (variables_of ts) i)))

  declared-other : (x : ℕ) → (IsIn n (x ∷ []) → ⊥) → not (nat_eq x n) ≡ true
  declared-other x off = by (nat_eq x n) refl
    where
      by : (b : Bool) → nat_eq x n ≡ b → not b ≡ true
      by true e = absurd (off (inl (sym (eqb-true x n e))))
      by false e = refl

  inner-never : (its : List ℕ) (s : Stmt) → is_inner_body ds its true s ≡ true → (IsIn n (touched s) → ⊥) → never_writes n s ≡ true
  inner-never its (Then a b) f off =
      let g = both-true (is_inner_body ds its true a) (is_inner_body ds its true b) f in
      and-true (never_writes n a) (never_writes n b) (inner-never its a g.0 (λ i. off (in-left n (touched a) (touched b) i))) (inner-never its b g.1 (λ i. off (in-right n (touched a) (touched b) i)))
  inner-never its (If k c a b) f off =
      let h = both-true (is_flat its true c) (is_inner_body ds its true a && is_inner_body ds its true b) f in
      let g = both-true (is_inner_body ds its true a) (is_inner_body ds its true b) h.1 in
      and-true (never_writes n a) (never_writes n b) (inner-never its a g.0 (λ i. off (in-left n (touched a) (touched b) i))) (inner-never its b g.1 (λ i. off (in-right n (touched a) (touched b) i)))
  inner-never its (Declare k x e) f off = declared-other x off
  inner-never its (Assign k t e) f off = target-other t off
  inner-never its (Combine k total r ts es) f off = targets-other ts off
  inner-never its (Foreach k at h test body) f off = absurd (both_ways false refl f)
  inner-never its s f off = refl

  pub outer-never : (s : Stmt) → is_outer_body ds false n s ≡ true → (IsIn n (touched s) → ⊥) → never_writes n s ≡ true
  outer-never (Then a b) f off =
      let g = both-true (is_outer_body ds false n a) (is_outer_body ds false n b) f in
      and-true (never_writes n a) (never_writes n b) (outer-never a g.0 (λ i. off (in-left n (touched a) (touched b) i))) (outer-never b g.1 (λ i. off (in-right n (touched a) (touched b) i)))
  outer-never (If k c a b) f off =
      let h = both-true (is_flat (n ∷ []) false c) (is_outer_body ds false n a && is_outer_body ds false n b) f in
      let g = both-true (is_outer_body ds false n a) (is_outer_body ds false n b) h.1 in
      and-true (never_writes n a) (never_writes n b) (outer-never a g.0 (λ i. off (in-left n (touched a) (touched b) i))) (outer-never b g.1 (λ i. off (in-right n (touched a) (touched b) i)))
  outer-never (Declare k x e) f off = declared-other x off
  outer-never (Assign k t e) f off = target-other t off
  outer-never (Combine k total r ts es) f off = targets-other ts off
  outer-never (Foreach k at h test body) f off =
      let its = n ∷ (h.iterator ∷ []) in
      let g = both-true (is_inner_head false n h) (is_flat its true test && is_inner_body ds its true body) f in
      let i = both-true (is_range false h.domain) (nat_eq h.owner n && not (nat_eq h.iterator n)) g.0 in
      let j = both-true (nat_eq h.owner n) (not (nat_eq h.iterator n)) i.1 in
      and-true (not (nat_eq h.iterator n)) (never_writes n body) j.1 (inner-never its body (both-true (is_flat its true test) (is_inner_body ds its true body) g.1).1 off)
  outer-never s f off = refl

module _ (ds : List Declaration) where
  -- a loop that stands in order and defers nothing may save its filter
  pub may-save : (k : Key) (at : Place) (hd : Head) (test : Expr) (body : Stmt) → list_all (suits ds) (uses_of (Foreach k at hd test body)) ≡ true → is_flat_loop ds false hd.iterator test body ≡ true → loops_in_order (Foreach k at hd test body) ≡ true →
      is_empty (deferred_of body) ≡ true → saves ds hd.iterator k test body ≡ true
  may-save k at hd test body named form order none =
      let n = hd.iterator in
      let its = n ∷ [] in
      let f = both-true (is_flat its false test) (is_outer_body ds false n body) form in
      let u = all-append (suits ds) (uses_of_head hd) (uses_in test ++ uses_of body) named in
      let v = all-append (suits ds) (uses_in test) (uses_of body) u.1 in
      let o = both-true (begins its k hd.place test body) (loop_in_order its k test body) order in
      let p = both-true (in_order test k) (body_in_order its body && lie_before (faults_in test k) (faults_of its body)) o.1 in
      let q = both-true (body_in_order its body) (lie_before (faults_in test k) (faults_of its body)) p.1 in
      let off : IsIn n (touched body) → ⊥ = touched-apart ds n (iterates-of ds k at hd test body named) body v.1 in
      and-true (is_flat its false test) _ f.0
      (and-true (is_outer_body ds false n body) _ f.1
      (and-true (is_nil (deferred body)) _ (nothing-deferred ds n body f.1 none)
      (and-true (lie_before (faults_in test k) (faults_of its body)) _ q.1
      (and-true (never_writes n body) (keeps_iterators body) (outer-never ds n body f.1 off) (keeps-named ds body v.1)))))

  -- loops written so where that is known
  abbrev pub tried : Key → Place → Head → Expr → Stmt → Stmt
  tried k at h test body = cond (saves ds h.iterator k test body) (filtered_loop ds (length ds) k at h test body) (Foreach k at h test body)

  pub tried-all : (s : Stmt) → list_all (suits ds) (uses_of s) ≡ true → is_phase (is_flat_loop ds false) no_loop ds s ≡ true → loops_in_order s ≡ true → is_empty (deferred_in s) ≡ true → each_loop (filtered_loop ds (length ds)) s ≡ each_loop tried s
  tried-all (Then a b) u f o d =
      let v = all-append (suits ds) (uses_of a) (uses_of b) u in
      let g = both-true (is_phase (is_flat_loop ds false) no_loop ds a) (is_phase (is_flat_loop ds false) no_loop ds b) f in
      let q = both-true (loops_in_order a) (loops_in_order b) o in
      let e = empty-parts (deferred_in a) (deferred_in b) d in
      ap (λ x. Then x (each_loop (filtered_loop ds (length ds)) b)) (tried-all a v.0 g.0 q.0 e.0) ∙ ap (Then (each_loop tried a)) (tried-all b v.1 g.1 q.1 e.1)
  tried-all (Foreach k at hd test body) u f o d =
      sym (ap (λ c. cond c (filtered_loop ds (length ds) k at hd test body) (Foreach k at hd test body)) (may-save k at hd test body u (both-true (is_nodes hd.domain) (is_flat_loop ds false hd.iterator test body) f).1 o d))
  tried-all (For k at hd test body) u f o d =
      ap (For k at hd test) (tried-all body (all-append (suits ds) (uses_in test) (uses_of body) (all-append (suits ds) (uses_of_head hd) (uses_in test ++ uses_of body) u).1).1
      (both-true (is_told test) (is_phase (is_flat_loop ds false) no_loop ds body) f).1 (both-true (folds_in_order test) (loops_in_order body) o).1 d)
  tried-all (If k c a b) u f o d =
      let w = all-append (suits ds) (uses_in c) (uses_of a ++ uses_of b) u in
      let v = all-append (suits ds) (uses_of a) (uses_of b) w.1 in
      let h = both-true (is_told c) (is_phase (is_flat_loop ds false) no_loop ds a && is_phase (is_flat_loop ds false) no_loop ds b) f in
      let g = both-true (is_phase (is_flat_loop ds false) no_loop ds a) (is_phase (is_flat_loop ds false) no_loop ds b) h.1 in
      let p = both-true (folds_in_order c) (loops_in_order a && loops_in_order b) o in
      let q = both-true (loops_in_order a) (loops_in_order b) p.1 in
      let e = empty-parts (deferred_in a) (deferred_in b) d in
      ap (λ x. If k c x (each_loop (filtered_loop ds (length ds)) b)) (tried-all a v.0 g.0 q.0 e.0) ∙ ap (If k c (each_loop tried a)) (tried-all b v.1 g.1 q.1 e.1)
  tried-all (While k at c body) u f o d =
      ap (While k at c) (tried-all body (all-append (suits ds) (uses_in c) (uses_of body) u).1 (both-true (is_told c) (is_phase (is_flat_loop ds false) no_loop ds body) f).1 (both-true (folds_in_order c) (loops_in_order body) o).1 d)
  tried-all (Do k at body c) u f o d =
      ap (λ s. Do k at s c) (tried-all body (all-append (suits ds) (uses_of body) (uses_in c) u).0 (both-true (is_phase (is_flat_loop ds false) no_loop ds body) (is_told c) f).0 (both-true (loops_in_order body) (folds_in_order c) o).0 d)
  tried-all s u f o d = refl

  module _ (run : Run) (graph : IsGraph run.graph) where
    abbrev fresh : ℕ
    fresh = length ds

    module _ (key : Key) (at : Place) (h : Head) (test : Expr) (body : Stmt) (known : KnownLoop ds key at h test body) (may : saves ds h.iterator key test body ≡ true) (u v : State) (alike : AlikeStates fresh u v) where
      abbrev n : ℕ
      n = h.iterator

      abbrev loop : Loop
      loop = loop_of run no_levels n body

      abbrev into : Stmt
      into = Assign key (T.Property n fresh at) test

      abbrev asked : Expr
      asked = Property n fresh at

      -- the key of a loop without a filter does not matter
      any-key : looped loop key always into ≡ looped loop first_key always into
      any-key = refl

      law : SameChange fresh (looped loop key test body) (in_turn (looped loop first_key always into) (looped loop key asked body))
      law s t agree =
          let below = names-below ds (Foreach key at h test body) known.named in
          saving-holds fresh ds loop fresh key at test body s t graph (omega arith) below.2 below.3 may agree

      abbrev setting : Change
      setting = looped (loop_of run no_levels n into) first_key always into

      abbrev rest : Change
      rest = looped loop key asked body

      into-same : looped loop first_key always into ≡ setting
      into-same = fun_ext (λ s. own-loop loop (pushes into n) first_key always into refl s)

      two : SameChange fresh (looped loop key test body) (in_turn setting rest)
      two = subst (λ f. SameChange fresh (looped loop key test body) (in_turn f rest)) into-same law

      saved-alike : AlikeCourses fresh (sequential (Foreach key at h test body) run u) (sequential (filter_saved fresh key at h test body) run v)
      saved-alike =
          subst (AlikeCourses fresh (sequential (Foreach key at h test body) run u))
          (turns-do setting rest (sequential (sequence (Foreach key at h asked body ∷ [])) run) v
          (λ w. last-do run (record v { store = w }) (rest w)))
          (courses-alike fresh u v (looped loop key test body u.store) (in_turn setting rest v.store) (two u.store v.store alike.store) alike.turns)

    -- loops that save their filters are written so
    pub tried-alike : Rewrites ds run tried
    tried-alike key at h test body known u v alike = by (saves ds h.iterator key test body) refl (saves_filter ds h.iterator test body)
      where
        itself : AlikeCourses fresh (sequential (Foreach key at h test body) run u) (sequential (Foreach key at h test body) run v)
        itself = sequential-alike fresh (Foreach key at h test body) run u v (names-below ds (Foreach key at h test body) known.named) alike

        by : (b : Bool) → saves ds h.iterator key test body ≡ b → (c : Bool) →
            AlikeCourses fresh (sequential (Foreach key at h test body) run u) (sequential (cond b (cond c (filter_saved fresh key at h test body) (Foreach key at h test body)) (Foreach key at h test body)) run v)
        by true e true = saved-alike key at h test body known e u v alike
        by true e false = itself
        by false e c = itself
