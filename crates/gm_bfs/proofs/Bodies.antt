-- What a search's body does in an iteration of the loop over the active nodes is what it does in the search.
use Rattle.std.proofs.Common.{◌≡◌, ◌<◌, ℕ, Bool, true, false, cond, List, map, refl, sym, ap, ◌∙◌, Option, Some, None}
use Rattle.std.proofs.Math.Path.{fun_ext}
use Rattle.std.proofs.lemmas.Bool.{lt-ltb}
use Rattle.gm_base.specs.declared.places.Place.{Place}
use Rattle.gm_value.specs.declared.values.Value.TheVariants.{At}
use Rattle.gm_value.specs.Operations.{is_true}
use Rattle.gm_model.specs.Graphs.{Step, IsGraph, node_count, in_steps, out_steps}
use Rattle.gm_ast.specs.declared.tree.Domain.{Domain}
use Rattle.gm_ast.specs.declared.tree.Domain.TheVariants as D
use Rattle.gm_ast.specs.declared.tree.Head.{Head}
use Rattle.gm_ast.specs.declared.tree.Key.{Key}
use Rattle.gm_ast.specs.Program.{Expr, Stmt, Skip, Then, Declare, DeclareEdge, Assign, Defer, Combine, Group, Foreach, For, If, While, Do, InBfs, InBfsBoth, Return}
use Rattle.gm_semantics.specs.declared.slots.Slot.TheVariants.{Scalar}
use Rattle.gm_semantics.specs.Levels.{node_in, no_levels, is_next}
use Rattle.gm_semantics.specs.Stores.{Store, write}
use Rattle.gm_semantics.specs.Expressions.{value, steps_of}
use Rattle.gm_semantics.specs.Iterations.{Loop, Iteration, begun, go_on, with_ok, one_way, as_it_is, Outermost, AtEdge, view_in, deferred_to, inner_done, turn_at, does}
use Rattle.gm_semantics.specs.Frames.{NamesBelow}
use Rattle.gm_forms.specs.Doing.{IsFlat}
use Rattle.gm_bfs.specs.declared.fresh.Fresh.{Fresh}
use Rattle.gm_bfs.specs.Copies.{is_upward, is_downward, has_range, reading, inner_reading}
use Rattle.gm_bfs.specs.Searches.{conjunction, is_on, inner_loop, by_levels}
use Rattle.gm_bfs.proofs.LevelFacts.{in-within, out-within}
use Rattle.gm_bfs.proofs.Expressions.{assign-levels, Copied}
use Rattle.gm_bfs.proofs.Kept.{MayWrite, Kept, kept-holds, keeps}
use Rattle.gm_bfs.proofs.Ranges.{Inner, Outer, High, Tells, go_on-same, one_way-same, with_ok-same, value-levels, declare-levels, assign-stays, combine-levels, inner-levels, not-next, or-left, or-right, level-loop}

module _ (P Q : ℕ → Type 0) (k : ℕ) (P-below : (y : ℕ) → P y → y < k) (Q-below : (p : ℕ) → Q p → p < k) (f : Fresh) (high : High k f) (marks : List Bool) (n : ℕ)
    (loop : Loop) (off : P loop.outer → ⊥) (ok : IsGraph loop.graph) (within : n < node_count loop.graph) (s : Store) (holds : s.scalar loop.outer ≡ At (Some n))
    (copied : (m : ℕ) → m < node_count loop.graph → Copied f marks k s m) where
  abbrev without : Loop
  without = record loop { levels = no_levels }

  -- the levels that a range asks for are told where it stands
  abbrev Up : Type 0
  Up = Tells P Q k P-below Q-below f high marks n loop off ok within s holds f.up (λ m. is_next (loop.levels m) (loop.levels n))

  abbrev Down : Type 0
  Down = Tells P Q k P-below Q-below f high marks n loop off ok within s holds f.down (λ m. is_next (loop.levels n) (loop.levels m))

  -- a range that asks for no levels
  plain-loop : (key : Key) (at : Place) (h : Head) (test : Expr) (body : Stmt) (it : Iteration) → IsFlat test → Inner body → ((o : Option ℕ) → steps_of (view_in without Outermost it key) h.domain o ≡ steps_of (view_in loop Outermost it key) h.domain o) →
      does (Foreach key at h test body) Outermost without it ≡ does (Foreach key at h test body) Outermost loop it
  plain-loop key at h test body it flat inner steps =
      ap (λ xs. inner_done it (map (λ step. turn_at without (AtEdge step.edge) key test (does body (AtEdge step.edge) without) h.iterator step.node it.store) xs)) (steps (node_in loop.graph (it.store.scalar h.owner)))
      ∙ ap (λ (g : Step → Iteration). inner_done it (map g (steps_of (view_in loop Outermost it key) h.domain (node_in loop.graph (it.store.scalar h.owner)))))
      (fun_ext (λ step.
      let start = begun (write it.store (Scalar h.iterator) (At (Some step.node))) in
      ap (λ r. with_ok start r (λ v. one_way (is_true v) (does body (AtEdge step.edge) without) as_it_is start)) (value-levels loop no_levels (AtEdge step.edge) start key test flat)
      ∙ with_ok-same start (value test (view_in loop (AtEdge step.edge) start key)) _ _ (λ v. one_way-same (is_true v) (does body (AtEdge step.edge) without) as_it_is (does body (AtEdge step.edge) loop) as_it_is start (inner-levels loop no_levels body step.edge start inner) refl)))

  -- an inner loop
  range-same : (key : Key) (at : Place) (h : Head) (test : Expr) (body : Stmt) (it : Iteration) → (is_upward h.domain ≡ true → Up) → (is_downward h.domain ≡ true → Down) → Outer loop.outer (Foreach key at h test body) → NamesBelow k (Foreach key at h test body) → MayWrite P Q loop.outer (Foreach key at h test body) →
      Kept P Q loop.outer n s it → (d : Domain) → h.domain ≡ d → does (inner_loop f marks key at h test body d) Outermost without it ≡ does (Foreach key at h test body) Outermost loop it
  range-same key at h test body it up down outer names may kept D.Nodes e = plain-loop key at h test body it outer.2 outer.3 (λ o. ap (λ d. steps_of (view_in without Outermost it key) d o) e ∙ sym (ap (λ d. steps_of (view_in loop Outermost it key) d o) e))
  range-same key at h test body it up down outer names may kept D.OutNbrs e = plain-loop key at h test body it outer.2 outer.3 (λ o. ap (λ d. steps_of (view_in without Outermost it key) d o) e ∙ sym (ap (λ d. steps_of (view_in loop Outermost it key) d o) e))
  range-same key at h test body it up down outer names may kept D.InNbrs e = plain-loop key at h test body it outer.2 outer.3 (λ o. ap (λ d. steps_of (view_in without Outermost it key) d o) e ∙ sym (ap (λ d. steps_of (view_in loop Outermost it key) d o) e))
  range-same key at h test body it up down outer names may kept D.UpNbrs e =
      let here : node_in loop.graph (it.store.scalar h.owner) ≡ Some n =
      ap (node_in loop.graph) (ap it.store.scalar outer.1 ∙ kept-holds P Q loop.outer n off s holds it kept) ∙ ap (λ c. cond c (Some n) None) (lt-ltb n (node_count loop.graph) within) in
      let itself : is_next (loop.levels n) (loop.levels n) ≡ false = no-next (loop.levels n) in
      let old : Step → Iteration = λ step. turn_at loop (AtEdge step.edge) key test (does body (AtEdge step.edge) loop) h.iterator step.node it.store in
      let new : Step → Iteration = λ step. turn_at without (AtEdge step.edge) key (conjunction (is_on f h f.up) (reading f marks h.iterator test)) (does (inner_reading f marks h.iterator body) (AtEdge step.edge) without) h.iterator step.node it.store in
      ap (λ o. inner_done it (map new (steps_of (view_in without Outermost it key) D.InNbrs o))) here
      ∙ level-loop P Q k P-below Q-below f high marks n loop off ok within s holds copied key h test body f.up (λ m. is_next (loop.levels m) (loop.levels n)) (up (ap is_upward e)) itself high.up may.0 may.1 names.0 names.2 outer.2 names.3 outer.3 may.2 it kept
      (in_steps loop.graph n) (in-within loop.graph ok n)
      ∙ sym (ap (λ o. inner_done it (map old (steps_of (view_in loop Outermost it key) D.UpNbrs o))) here)
      ∙ sym (ap (λ d. inner_done it (map old (steps_of (view_in loop Outermost it key) d (node_in loop.graph (it.store.scalar h.owner))))) e)
    where
      no-next : (o : Option ℕ) → is_next o o ≡ false
      no-next o = by (is_next o o) refl
        where
          by : (b : Bool) → is_next o o ≡ b → b ≡ false
          by true h = absurd (not-next o h)
          by false h = refl
  range-same key at h test body it up down outer names may kept D.DownNbrs e =
      let here : node_in loop.graph (it.store.scalar h.owner) ≡ Some n =
      ap (node_in loop.graph) (ap it.store.scalar outer.1 ∙ kept-holds P Q loop.outer n off s holds it kept) ∙ ap (λ c. cond c (Some n) None) (lt-ltb n (node_count loop.graph) within) in
      let itself : is_next (loop.levels n) (loop.levels n) ≡ false = no-next (loop.levels n) in
      let old : Step → Iteration = λ step. turn_at loop (AtEdge step.edge) key test (does body (AtEdge step.edge) loop) h.iterator step.node it.store in
      let new : Step → Iteration = λ step. turn_at without (AtEdge step.edge) key (conjunction (is_on f h f.down) (reading f marks h.iterator test)) (does (inner_reading f marks h.iterator body) (AtEdge step.edge) without) h.iterator step.node it.store in
      ap (λ o. inner_done it (map new (steps_of (view_in without Outermost it key) D.OutNbrs o))) here
      ∙ level-loop P Q k P-below Q-below f high marks n loop off ok within s holds copied key h test body f.down (λ m. is_next (loop.levels n) (loop.levels m)) (down (ap is_downward e)) itself high.down may.0 may.1 names.0 names.2 outer.2 names.3 outer.3 may.2 it kept
      (out_steps loop.graph n) (out-within loop.graph ok n)
      ∙ sym (ap (λ o. inner_done it (map old (steps_of (view_in loop Outermost it key) D.DownNbrs o))) here)
      ∙ sym (ap (λ d. inner_done it (map old (steps_of (view_in loop Outermost it key) d (node_in loop.graph (it.store.scalar h.owner))))) e)
    where
      no-next : (o : Option ℕ) → is_next o o ≡ false
      no-next o = by (is_next o o) refl
        where
          by : (b : Bool) → is_next o o ≡ b → b ≡ false
          by true h = absurd (not-next o h)
          by false h = refl

  pub body-same : (b : Stmt) → (has_range is_upward b ≡ true → Up) → (has_range is_downward b ≡ true → Down) → Outer loop.outer b → NamesBelow k b → MayWrite P Q loop.outer b → (it : Iteration) → Kept P Q loop.outer n s it →
      does (by_levels f marks b) Outermost without it ≡ does b Outermost loop it
  body-same Skip up down outer names may it kept = refl
  body-same (Then a b) up down outer names may it kept =
      ap (λ i. go_on i (does (by_levels f marks b) Outermost without)) (body-same a (λ e. up (or-left (has_range is_upward a) (has_range is_upward b) e)) (λ e. down (or-left (has_range is_downward a) (has_range is_downward b) e)) outer.0 names.0 may.0 it kept)
      ∙ go_on-same (does a Outermost loop it) (does (by_levels f marks b) Outermost without) (does b Outermost loop)
      (body-same b (λ e. up (or-right (has_range is_upward a) (has_range is_upward b) e)) (λ e. down (or-right (has_range is_downward a) (has_range is_downward b) e)) outer.1 names.1 may.1 (does a Outermost loop it)
      (keeps P Q loop.outer n off loop refl a Outermost s it holds may.0 kept))
  body-same (Declare key y e) up down outer names may it kept = declare-levels loop no_levels Outermost it key y e outer
  body-same (DeclareEdge y z at) up down outer names may it kept = refl
  body-same (Assign key t e) up down outer names may it kept = assign-stays loop no_levels Outermost it key t e outer
  body-same (Defer key t e) up down outer names may it kept = ap (λ a. with_ok it a (deferred_to it)) (assign-levels (view_in loop Outermost it key) no_levels t e outer)
  body-same (Combine key total r ts es) up down outer names may it kept = combine-levels loop no_levels Outermost it key total r ts es outer
  body-same (Group key at y p e) up down outer names may it kept = refl
  body-same (Foreach key at head test body) up down outer names may it kept = range-same key at head test body it up down outer names may kept head.domain refl
  body-same (For key at head test body) up down outer names may it kept = refl
  body-same (If key c a b) up down outer names may it kept =
      ap (λ r. with_ok it r (λ v. one_way (is_true v) (does (by_levels f marks a) Outermost without) (does (by_levels f marks b) Outermost without) it)) (value-levels loop no_levels Outermost it key c outer.0)
      ∙ with_ok-same it (value c (view_in loop Outermost it key)) _ _
      (λ v. one_way-same (is_true v) (does (by_levels f marks a) Outermost without) (does (by_levels f marks b) Outermost without) (does a Outermost loop) (does b Outermost loop) it
      (body-same a (λ e. up (or-left (has_range is_upward a) (has_range is_upward b) e)) (λ e. down (or-left (has_range is_downward a) (has_range is_downward b) e)) outer.1 names.1 may.0 it kept)
      (body-same b (λ e. up (or-right (has_range is_upward a) (has_range is_upward b) e)) (λ e. down (or-right (has_range is_downward a) (has_range is_downward b) e)) outer.2 names.2 may.1 it kept))
  body-same (While key at c body) up down outer names may it kept = refl
  body-same (Do key at body c) up down outer names may it kept = refl
  body-same (InBfs key at search c body) up down outer names may it kept = refl
  body-same (InBfsBoth key at search c body back_key d back) up down outer names may it kept = refl
  body-same (Return key at e) up down outer names may it kept = refl
