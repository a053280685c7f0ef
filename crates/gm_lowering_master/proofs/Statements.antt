-- The master list follows a statement.
use Rattle.std.proofs.Common.{◌≡◌, ◌<◌, ◌≤◌, inr, ℕ, suc, true, false, Some, None, List, [], ◌∷◌, ◌++◌, length, refl, ap, ◌∙◌, sym, subst, arith, length-append, ⊎_elim}
use Rattle.std.specs.Prelude.{◌+◌, ◌&&◌, not, nat_lt}
use Rattle.std.proofs.lemmas.Bool.{both_ways, not-true}
use Rattle.gm_base.specs.declared.places.Place.{Place}
use Rattle.gm_value.specs.Bag.{IsIn}
use Rattle.gm_model.specs.declared.outcomes.RunEnd.{RunEnd}
use Rattle.gm_ast.specs.declared.tree.Key.{Key}
use Rattle.gm_ast.specs.declared.tree.Target.TheVariants as T
use Rattle.gm_ast.specs.Program as S
use Rattle.gm_ast.specs.Program.{Expr, Stmt}
use Rattle.gm_forms.proofs.Named.{both-true}
use Rattle.gm_semantics.specs.declared.slots.Slot.TheVariants.{Scalar}
use Rattle.gm_semantics.specs.Expressions.{evaluated, value}
use Rattle.gm_semantics.specs.Levels.{nodes, no_levels}
use Rattle.gm_semantics.specs.Loops.{parallel}
use Rattle.gm_semantics.specs.Statements.{State, view_of, with_value, with_store, declared, variable_at, loop_of, sequential}
use Rattle.gm_semantics.specs.Stores.{write}
use Rattle.gm_typed_stores.specs.Points as P
use Rattle.gm_image.specs.Term.{Term}
use Rattle.gm_image.specs.Program.{Command, SetGlobal, Jump, Back}
use Rattle.gm_lowering.specs.Blocks.{loop}
use Rattle.gm_lowering.specs.Layouts.{Layout, is_register, nesting}
use Rattle.gm_lowering.specs.Lowered as L
use Rattle.gm_lowering.specs.Lowered.{part, past, lines_on, places_on, deeper, choice, test_lines}
use Rattle.gm_lowering.specs.Places.{Spot, segment, spot_at, spots_in, shown_places, place_index}
use Rattle.gm_lowering.specs.Terms.{Env, master_env, term}
use Rattle.gm_lowering_master.specs.Runs.{Moment, ends_from, StandsAt}
use Rattle.gm_lowering_master.specs.Cells.{Setting, IsSetting, is_scalar, IsAt}
use Rattle.gm_lowering_master.specs.Follows.{tells, is_told_value, is_followed, CourseIs, Stands, LoopsGo, ArePoints, StatementsAreFollowed}
use Rattle.gm_lowering_master.proofs.Counting.{tests-long, for-course}
use Rattle.gm_lowering_master.proofs.Courses.{assign-course, course-then, course-same, scalar-set}
use Rattle.gm_lowering_master.proofs.Empty.{empty-stays}
use Rattle.gm_lowering_master.proofs.Singles.{loop-course, course-stays, declare-course}
use Rattle.gm_lowering_master.proofs.Standing.{stands-left, stands-right}
use Rattle.gm_lowering_master.proofs.Supersteps.{steps-long}
use Rattle.gm_lowering_master.proofs.Told.{Told, AreOwn, own-spots, told, told-value}
use Rattle.gm_lowering_master.proofs.Turns.{at-index, course-line, return-none, return-some, if-course, while-course, do-course}

choice-first : (all : List Command) (line : ℕ) (t : Term) (behind : ℕ) (xs ys : List Command) → StandsAt all line (choice t behind xs ys) → StandsAt all (suc line) xs
choice-first all line t behind xs [] h = h.1
choice-first all line t behind xs (y ∷ ys) h = stands-left all (suc line) xs (Jump (suc behind + length (y ∷ ys)) ∷ (y ∷ ys)) h.1

choice-second : (all : List Command) (line : ℕ) (t : Term) (behind : ℕ) (xs ys : List Command) → StandsAt all line (choice t behind xs ys) → StandsAt all (suc (suc line + length xs)) ys
choice-second all line t behind xs [] h = tt
choice-second all line t behind xs (y ∷ ys) h = (stands-right all (suc line) xs (Jump (suc behind + length (y ∷ ys)) ∷ (y ∷ ys)) h.1).1

choice-long : (t : Term) (behind : ℕ) (xs ys : List Command) → suc (length xs) ≤ length (choice t behind xs ys)
choice-long t behind xs [] = omega arith
choice-long t behind xs (y ∷ ys) = let l : length (xs ++ Jump (suc behind + length (y ∷ ys)) ∷ (y ∷ ys)) ≡ length xs + suc (length (y ∷ ys)) = length-append xs (Jump (suc behind + length (y ∷ ys)) ∷ (y ∷ ys)) in omega (arith, l)

choice-longer : (t : Term) (behind : ℕ) (xs ys : List Command) → 0 < length ys → length (choice t behind xs ys) ≡ suc (length xs + suc (length ys))
choice-longer t behind xs [] h = absurd (omega arith)
choice-longer t behind xs (y ∷ ys) h = ap suc (length-append xs (Jump (suc behind + length (y ∷ ys)) ∷ (y ∷ ys)))

own-more : (k : Key) (place : Place) (xs : List Spot) → AreOwn xs → AreOwn (spot_at k place ∷ xs)
own-more k place xs h z i = ⊎_elim (λ (e : z ≡ spot_at k place). ap (λ y. y.shown) e ∙ ap (λ y. y.fault.place) (sym e)) (λ (j : IsIn z xs). h z j) i

module _ (s : Setting) (is' : IsSetting s) where
  abbrev c : Layout
  c = s.frame.layout

  abbrev run : ℕ → Moment → RunEnd
  run = ends_from s.image s.run.graph

  abbrev at-env : L.At → Expr → Key → Env
  at-env at e k = master_env c (segment at.place (spots_in e k))

  -- a condition at a moment
  asks : (at : L.At) (k : Key) (e : Expr) → tells c e ≡ true → StandsAt s.image.places at.place (shown_places (segment at.place (spots_in e k))) → (m : Moment) (state : State) → IsAt s m state
      → (v : Env) × Told s v m.control.globals (term (at-env at e k) k e) (value e (view_of s.run state k))
  asks at k e h stands m state here =
      (at-env at e k, told s m.control.globals m.nodes state here.between at.place (spots_in e k) stands (own-spots e k) k e h (λ f i. i))

  -- a scalar is set
  set-course : (at : L.At) (k : Key) (x : ℕ) (e : Expr) (m : Moment) (state : State) (its : List ℕ) (st : Stmt) → is_scalar c x && is_told_value c e ≡ true → at.depth + 0 ≤ s.depth
      → Stands s at (L.told s.frame at k e (λ t. SetGlobal (c.global x) t ∷ [])) → ArePoints s its st state → IsAt s m state
      → CourseIs s at.depth (at.line + 1) m (run at.line m) (with_value (value e (view_of s.run state k)) (λ v. with_store state (write state.store (Scalar x) v)))
  set-course at k x e m state its st h deep stands reach here =
      let q = both-true (is_scalar c x) (is_told_value c e) h in
      scalar-set s is' at.line at.depth x m state (term (at-env at e k) k e) (at-env at e k) (value e (view_of s.run state k)) (omega (arith, deep)) here q.0 stands.commands.0
      (told-value s m.control.globals m.nodes state here.between at.place (spots_in e k) stands.places (own-spots e k) k e q.1 (reach its st state P.here).in_graph (λ f i. i))

  -- each statement
  pub follow : (st : Stmt) (at : L.At) (its : List ℕ) (m : Moment) (state : State) → is_followed c s.returns st ≡ true → at.depth + nesting st ≤ s.depth → Stands s at (part s.frame st at)
      → LoopsGo s st at → ArePoints s its st state → IsAt s m state
      → CourseIs s at.depth (at.line + length (part s.frame st at).commands) m (run at.line m) (sequential st s.run state)
  follow S.Skip at its m state h deep stands loops reach here = course-stays s is' at.depth at.line m state here
  follow (S.Then a b) at its m state h deep stands loops reach here =
      let q = both-true (is_followed c s.returns a) (is_followed c s.returns b) h in
      let x = part s.frame a at in
      let behind = past s.frame at a x in
      let y = part s.frame b behind in
      let l : length (x.commands ++ y.commands) ≡ length x.commands + length y.commands = length-append x.commands y.commands in
      let within : at.line + length (x.commands ++ y.commands) ≤ s.frame.finish = stands.within in
      let first : Stands s at x = record {
        within = omega (arith, l, within);
        commands = stands-left s.image.master at.line x.commands y.commands stands.commands;
        blocks = stands-left s.image.blocks at.block x.blocks y.blocks stands.blocks;
        places = stands-left s.image.places at.place x.places y.places stands.places;
      } in
      let second : Stands s behind y = record {
        within = omega (arith, l, within);
        commands = stands-right s.image.master at.line x.commands y.commands stands.commands;
        blocks = stands-right s.image.blocks at.block x.blocks y.blocks stands.blocks;
        places = stands-right s.image.places at.place x.places y.places stands.places;
      } in
      course-then s is' at.depth (at.line + length x.commands) (at.line + length (x.commands ++ y.commands)) m (run at.line m) (sequential a s.run state) (sequential b s.run)
      (follow a at its m state q.0 (omega (arith, deep)) first loops.0 (λ others u t r. reach others u t (P.first r)) here)
      (λ m' state' here' e.
      course-line s is' at.depth ((at.line + length x.commands) + length y.commands) (at.line + length (x.commands ++ y.commands)) m' (run (at.line + length x.commands) m') (sequential b s.run state')
      (let z : (at.line + length x.commands) + length y.commands ≡ at.line + length (x.commands ++ y.commands) = omega (arith, l) in z)
      (follow b behind its m' state' q.1 (omega (arith, deep)) second loops.1 (λ others u t r. reach others u t (P.rest e r)) here'))
  follow (S.Declare k x None) at its m state h deep stands loops reach here =
      let v = variable_at c.declarations x in
      let q = both-true (nat_lt x (length c.declarations)) (not (is_register v)) h in
      subst (λ course. CourseIs s at.depth (at.line + length (part s.frame (S.Declare k x None) at).commands) m (run at.line m) course)
      (sym (ap (λ ds. with_store state (declared (variable_at ds x).sort (variable_at ds x).vtype x state.store)) is'.declarations))
      (declare-course s is' at.depth at x v.vtype v.sort m state (omega (arith, deep)) here q.0 (not-true (is_register v) q.1) refl stands)
  follow (S.Declare k x (Some e)) at its m state h deep stands loops reach here = set-course at k x e m state its (S.Declare k x (Some e)) h deep stands reach here
  follow (S.DeclareEdge x y place) at its m state h deep stands loops reach here = absurd (both_ways false refl h)
  follow (S.Assign k (T.Scalar x place) e) at its m state h deep stands loops reach here =
      subst (λ course. CourseIs s at.depth (at.line + 1) m (run at.line m) course) (sym (assign-course (view_of s.run state k) x place state (evaluated e (view_of s.run state k))))
      (set-course at k x e m state its (S.Assign k (T.Scalar x place) e) h deep stands reach here)
  follow (S.Assign k (T.Property x p place) e) at its m state h deep stands loops reach here = absurd (both_ways false refl h)
  follow (S.Combine k total r ts es) at its m state h deep stands loops reach here = loops (omega (arith, deep)) stands m its state here (reach its (S.Combine k total r ts es) state P.here)
  follow (S.Foreach k place f test body) at its m state h deep stands loops reach here =
      let l = loop c at.place at.kind f.iterator k test body in
      let n : ℕ = length l.blocks in
      course-line s is' at.depth (at.line + n) (at.line + length (L.steps_from at.block n)) m (run at.line m) (sequential (S.Foreach k place f test body) s.run state)
      (ap (λ i. at.line + i) (sym (steps-long at.block n)))
      (loop-course s is' at.depth at.line at.block n m state (parallel (loop_of s.run no_levels f.iterator body) k test body (nodes s.run.graph) state.store) (omega (arith, deep)) here stands.commands
      (loops stands.blocks stands.places m.control.globals m.nodes its state here.between (reach its (S.Foreach k place f test body) state P.here)))
  follow (S.For k place f test body) at its m state h deep stands loops reach here =
      let q = both-true (is_scalar c f.iterator) (tells c test && is_followed c s.returns body) h in
      let o = both-true (tells c test) (is_followed c s.returns body) q.1 in
      let spots = spot_at k place ∷ spots_in test k in
      let g = segment at.place spots in
      let t = term (master_env c g) k test in
      let tests : ℕ = length (test_lines 0 t) in
      let start = lines_on (4 + tests) (deeper (places_on (shown_places g) at)) in
      let x = part s.frame body start in
      let end : ℕ = start.line + length x.commands in
      let rest : List Command = test_lines end t ++ (x.commands ++ Back (suc at.line) ∷ []) in
      let long : length (test_lines end t) ≡ tests = tests-long t end in
      let l1 : length rest ≡ length (test_lines end t) + length (x.commands ++ Back (suc at.line) ∷ []) = length-append (test_lines end t) (x.commands ++ Back (suc at.line) ∷ []) in
      let l2 : length (x.commands ++ Back (suc at.line) ∷ []) ≡ length x.commands + 1 = length-append x.commands (Back (suc at.line) ∷ []) in
      let within : at.line + suc (suc (suc (suc (length rest)))) ≤ s.frame.finish = stands.within in
      let four : ℕ = suc (suc (suc (suc at.line))) in
      let last : StandsAt s.image.master (four + length (test_lines end t)) (x.commands ++ Back (suc at.line) ∷ []) = stands-right s.image.master four (test_lines end t) (x.commands ++ Back (suc at.line) ∷ []) stands.commands.1.1.1.1 in
      let placed = stands-left s.image.places at.place (shown_places g) x.places stands.places in
      let inner : Stands s start x = record {
        within = omega (arith, within, l1, l2, long);
        commands = subst (λ i. StandsAt s.image.master i x.commands) (let z : four + length (test_lines end t) ≡ at.line + (4 + tests) = omega (arith, long) in z) (stands-left s.image.master (four + length (test_lines end t)) x.commands (Back (suc at.line) ∷ []) last);
        blocks = stands.blocks;
        places = stands-right s.image.places at.place (shown_places g) x.places stands.places;
      } in
      for-course s is' at.depth at.line end (place_index g k place) k f test body t (omega (arith, deep)) q.0 stands.commands.1.0
      (at-index s.image.master ((four + length (test_lines end t)) + length x.commands) end (Back (suc at.line)) (stands-right s.image.master (four + length (test_lines end t)) x.commands (Back (suc at.line) ∷ []) last).0 (omega (arith, long)))
      (at-index s.image.master (suc (suc at.line)) (suc at.line + 1) _ stands.commands.1.1.0 (omega arith))
      (at-index s.image.master (suc (suc (suc at.line))) (at.line + 3) _ stands.commands.1.1.1.0 (omega arith))
      (subst (λ i. StandsAt s.image.master i (test_lines end t)) (let z : four ≡ at.line + 4 = omega arith in z) (stands-left s.image.master four (test_lines end t) (x.commands ++ Back (suc at.line) ∷ []) stands.commands.1.1.1.1))
      (let z : (at.line + 4) + tests ≤ end = omega arith in z)
      (at.line + suc (suc (suc (suc (length rest))))) m state here stands.commands.0 (omega arith) (omega (arith, l1, l2, long))
      (λ m' state' here'. (master_env c g, told s m'.control.globals m'.nodes state' here'.between at.place spots placed (own-more k place (spots_in test k) (own-spots test k)) k test o.0 (λ fault i. inr i)))
      (λ j m' state' v items here' e y.
      course-same s is' (suc at.depth) end m' (run ((at.line + 4) + tests) m') (run start.line m') (sequential body s.run (P.at_node state' f.iterator j)) (ap (λ i. run i m') (let z : (at.line + 4) + tests ≡ at.line + (4 + tests) = omega arith in z))
      (follow body start (f.iterator ∷ its) m' (P.at_node state' f.iterator j) o.1 (omega (arith, deep)) inner loops (λ others u w r. reach others u w (P.node_turn items e y r)) here'))
  follow (S.If k test a b) at its m state h deep stands loops reach here =
      let q = both-true (tells c test) (is_followed c s.returns a && is_followed c s.returns b) h in
      let o = both-true (is_followed c s.returns a) (is_followed c s.returns b) q.1 in
      let g = segment at.place (spots_in test k) in
      let start = lines_on 1 (places_on (shown_places g) at) in
      let x = part s.frame a start in
      let behind = past s.frame start a x in
      let y = part s.frame b (lines_on 1 behind) in
      let t = term (master_env c g) k test in
      let within : at.line + length (choice t behind.line x.commands y.commands) ≤ s.frame.finish = stands.within in
      let placed = stands-left s.image.places at.place (shown_places g) (x.places ++ y.places) stands.places in
      let more = stands-right s.image.places at.place (shown_places g) (x.places ++ y.places) stands.places in
      let long = choice-long t behind.line x.commands y.commands in
      let ask = asks at k test q.0 placed m state here in
      let first : Stands s start x = record {
        within = omega (arith, within, long);
        commands = subst (λ i. StandsAt s.image.master i x.commands) (let z : suc at.line ≡ at.line + 1 = omega arith in z) (choice-first s.image.master at.line t behind.line x.commands y.commands stands.commands);
        blocks = stands-left s.image.blocks at.block x.blocks y.blocks stands.blocks;
        places = stands-left s.image.places start.place x.places y.places more;
      } in
      if-course s is' at.depth at.line (at.line + length (choice t behind.line x.commands y.commands)) behind.line m state t ask.0 (value test (view_of s.run state k)) (sequential a s.run) (sequential b s.run) x.commands y.commands here ask.1 stands.commands refl refl
      (λ v e i. follow a start its m state o.0 (omega (arith, deep)) first loops.0 (λ others u w r. reach others u w (P.yes e i r)) here)
      (λ some v e i. follow b (lines_on 1 behind) its m state o.1 (omega (arith, deep)) (record {
        within = let longer = choice-longer t behind.line x.commands y.commands some in omega (arith, within, longer);
        commands = subst (λ i. StandsAt s.image.master i y.commands) (let z : suc (suc at.line + length x.commands) ≡ behind.line + 1 = omega arith in z) (choice-second s.image.master at.line t behind.line x.commands y.commands stands.commands);
        blocks = stands-right s.image.blocks at.block x.blocks y.blocks stands.blocks;
        places = stands-right s.image.places start.place x.places y.places more;
      }) loops.1 (λ others u w r. reach others u w (P.no e i r)) here)
      (λ none. empty-stays s is' b (lines_on 1 behind) m state o.1 none here)
  follow (S.While k place test body) at its m state h deep stands loops reach here =
      let q = both-true (tells c test) (is_followed c s.returns body) h in
      let g = segment at.place (spots_in test k) in
      let start = lines_on 1 (places_on (shown_places g) at) in
      let x = part s.frame body start in
      let end : ℕ = start.line + length x.commands in
      let l : length (x.commands ++ Back at.line ∷ []) ≡ length x.commands + 1 = length-append x.commands (Back at.line ∷ []) in
      let within : at.line + suc (length (x.commands ++ Back at.line ∷ [])) ≤ s.frame.finish = stands.within in
      let placed = stands-left s.image.places at.place (shown_places g) x.places stands.places in
      let inner : Stands s start x = record {
        within = omega (arith, within, l);
        commands = subst (λ i. StandsAt s.image.master i x.commands) (let z : suc at.line ≡ at.line + 1 = omega arith in z) (stands-left s.image.master (suc at.line) x.commands (Back at.line ∷ []) stands.commands.1);
        blocks = stands.blocks;
        places = stands-right s.image.places at.place (shown_places g) x.places stands.places;
      } in
      while-course s is' at.depth at.line end (at.line + suc (length (x.commands ++ Back at.line ∷ []))) m state (term (master_env c g) k test) (λ u. value test (view_of s.run u k)) (sequential body s.run) here stands.commands.0
      (at-index s.image.master (suc at.line + length x.commands) end (Back at.line) (stands-right s.image.master (suc at.line) x.commands (Back at.line ∷ []) stands.commands.1).0 (omega arith))
      (omega arith) (omega (arith, l)) (asks at k test q.0 placed)
      (λ m' state' here' rounds. follow body start its m' state' q.1 (omega (arith, deep)) inner loops (λ others u w r. reach others u w (P.turn rounds r)) here')
  follow (S.Do k place body test) at its m state h deep stands loops reach here =
      let q = both-true (tells c test) (is_followed c s.returns body) h in
      let g = segment at.place (spots_in test k) in
      let start = lines_on 3 (deeper (places_on (shown_places g) at)) in
      let x = part s.frame body start in
      let end : ℕ = start.line + length x.commands in
      let three : ℕ = suc (suc (suc at.line)) in
      let l : length (x.commands ++ Back (suc at.line) ∷ []) ≡ length x.commands + 1 = length-append x.commands (Back (suc at.line) ∷ []) in
      let within : at.line + suc (suc (suc (length (x.commands ++ Back (suc at.line) ∷ [])))) ≤ s.frame.finish = stands.within in
      let placed = stands-left s.image.places at.place (shown_places g) x.places stands.places in
      let inner : Stands s start x = record {
        within = omega (arith, within, l);
        commands = subst (λ i. StandsAt s.image.master i x.commands) (let z : three ≡ at.line + 3 = omega arith in z) (stands-left s.image.master three x.commands (Back (suc at.line) ∷ []) stands.commands.1.1.1);
        blocks = stands.blocks;
        places = stands-right s.image.places at.place (shown_places g) x.places stands.places;
      } in
      do-course s is' at.depth at.line end (term (master_env c g) k test) (sequential body s.run) (omega (arith, deep)) stands.commands.1.0
      (at-index s.image.master (three + length x.commands) end (Back (suc at.line)) (stands-right s.image.master three x.commands (Back (suc at.line) ∷ []) stands.commands.1.1.1).0 (omega arith))
      (at-index s.image.master (suc (suc at.line)) (suc at.line + 1) _ stands.commands.1.1.0 (omega arith))
      (at.line + suc (suc (suc (length (x.commands ++ Back (suc at.line) ∷ []))))) m state (λ u. value test (view_of s.run u k)) here stands.commands.0 (omega arith) (omega (arith, l)) (asks at k test q.0 placed)
      (λ more m' here'. follow body start its m' (P.next_turn state) q.1 (omega (arith, deep)) inner loops (λ others u w r. reach others u w (P.first_turn more r)) here')
      (λ state1 more e m' state' here' rounds. follow body start its m' state' q.1 (omega (arith, deep)) inner loops (λ others u w r. reach others u w (P.later_turn more e rounds r)) here')
  follow (S.Return k place None) at its m state h deep stands loops reach here = return-none s is' at.depth at.line (at.line + 1) m state here stands.commands.0 stands.within
  follow (S.Return k place (Some e)) at its m state h deep stands loops reach here =
      let q = both-true s.returns (tells c e) h in
      let within : at.line + 2 ≤ s.frame.finish = stands.within in
      let ask = asks at k e q.1 stands.places m state here in
      return-some s is' at.depth at.line (at.line + 2) m state (term (at-env at e k) k e) ask.0 (value e (view_of s.run state k)) here q.0 stands.commands.0
      (at-index s.image.master (suc at.line) (at.line + 1) (Jump s.frame.finish) stands.commands.1.0 (omega arith)) (omega (arith, within)) ask.1
  follow _ at its m state h deep stands loops reach here = absurd (both_ways false refl h)

pub statements-are-followed : StatementsAreFollowed
statements-are-followed s st at its m state is' h deep stands loops reach here = follow s is' st at its m state h deep stands loops reach here
