-- A sequential phase goes alike where its loops do.
use Rattle.std.proofs.Common.{◌≡◌, ℕ, zero, suc, Bool, true, false, List, [], ◌∷◌, ◌++◌, length, refl, sym, ap, subst, ◌∙◌, Some, Result, Ok, Err}
use Rattle.std.specs.Prelude.{◌&&◌, nat_lt}
use Rattle.std.specs.List.{list_all}
use Rattle.gm_base.specs.declared.places.Place.{Place}
use Rattle.gm_value.specs.declared.values.Value.TheVariants.{At}
use Rattle.gm_value.specs.Operations.{is_true}
use Rattle.gm_ast.specs.declared.tree.Declaration.{Declaration}
use Rattle.gm_ast.specs.declared.tree.Head.{Head}
use Rattle.gm_ast.specs.declared.tree.Key.{Key}
use Rattle.gm_ast.specs.Loops.{is_nodes}
use Rattle.gm_ast.specs.Program.{Expr, Stmt, Skip, Then, Foreach, For, If, While, Do}
use Rattle.gm_semantics.specs.declared.faults.Fault.{Fault}
use Rattle.gm_semantics.specs.declared.slots.Slot.TheVariants.{Scalar}
use Rattle.gm_semantics.specs.Levels.{nodes}
use Rattle.gm_semantics.specs.Stores.{write}
use Rattle.gm_semantics.specs.Expressions.{Answer, value, settled}
use Rattle.gm_semantics.specs.Statements.{Run, State, Course, Goes, Returns, Faults, Stops, view_of, with_value, then_do, either_way, stopped, begin_turn, repeated, in_turns, sequential}
use Rattle.gm_semantics.specs.Frames.{ReadsBelow, AlikeStates, AlikeCourses}
use Rattle.gm_semantics.proofs.ExpressionFrames.{agree-write, evaluated-frame}
use Rattle.gm_semantics.proofs.StatementFrames.{sequential-alike}
use Rattle.gm_forms.specs.Forms.{is_flat_loop, is_phase, is_told, no_loop}
use Rattle.gm_forms.specs.Sharing.{shares, loops_share}
use Rattle.gm_forms.specs.Uses.{suits, uses_in, uses_of_head, uses_of}
use Rattle.gm_forms.proofs.Named.{both-true, all-append, names-below}
use Rattle.gm_dissect.specs.Loops.{each_loop}

-- courses of parts that go alike
module _ (k : ℕ) where
  courses-with : {A : Type 0} (r q : Result A Fault) (f g : A → Course) → q ≡ r → ((x : A) → AlikeCourses k (f x) (g x)) → AlikeCourses k (with_value r f) (with_value q g)
  courses-with {A = A} r q f g e each = subst (λ q. AlikeCourses k (with_value r f) (with_value q g)) (sym e) (same r)
    where
      same : (r : Result A Fault) → AlikeCourses k (with_value r f) (with_value r g)
      same (Ok x) = each x
      same (Err f) = refl

  courses-then : (c d : Course) (f g : State → Course) → AlikeCourses k c d → ((s t : State) → AlikeStates k s t → AlikeCourses k (f s) (g t)) → AlikeCourses k (then_do c f) (then_do d g)
  courses-then (Goes s) (Goes t) f g h each = each s t h
  courses-then (Goes s) (Returns u t) f g h each = absurd h
  courses-then (Goes s) (Faults e) f g h each = absurd h
  courses-then (Goes s) Stops f g h each = absurd h
  courses-then (Returns v s) (Goes t) f g h each = absurd h
  courses-then (Returns v s) (Returns u t) f g h each = h
  courses-then (Returns v s) (Faults e) f g h each = absurd h
  courses-then (Returns v s) Stops f g h each = absurd h
  courses-then (Faults e) (Goes t) f g h each = absurd h
  courses-then (Faults e) (Returns u t) f g h each = absurd h
  courses-then (Faults e) (Faults e') f g h each = h
  courses-then (Faults e) Stops f g h each = absurd h
  courses-then Stops (Goes t) f g h each = absurd h
  courses-then Stops (Returns u t) f g h each = absurd h
  courses-then Stops (Faults e) f g h each = absurd h
  courses-then Stops Stops f g h each = tt

  courses-either : (b : Bool) (f g f' g' : State → Course) (s t : State) → AlikeCourses k (f s) (f' t) → AlikeCourses k (g s) (g' t) → AlikeCourses k (either_way b f g s) (either_way b f' g' t)
  courses-either true f g f' g' s t h i = h
  courses-either false f g f' g' s t h i = i

  -- a turn of each
  courses-turn : (run : Run) (f g : State → Course) (s t : State) → AlikeStates k s t → ((a b : State) → AlikeStates k a b → AlikeCourses k (f a) (g b)) → AlikeCourses k (begin_turn run f s) (begin_turn run g t)
  courses-turn run f g s t h each =
      subst (λ n. AlikeCourses k (begin_turn run f s) (either_way (nat_lt n run.bound) g stopped (record { store = t.store; turns = suc n }))) (sym h.turns)
      (courses-either (nat_lt s.turns run.bound) f stopped g stopped _ _ (each _ _ (record { store = h.store; turns = refl })) tt)

  value-same : (e : Expr) (run : Run) (key : Key) (s t : State) → ReadsBelow k e → AlikeStates k s t → value e (view_of run t key) ≡ value e (view_of run s key)
  value-same e run key s t b h = ap settled (evaluated-frame k e (view_of run s key) t.store b h.store)

  courses-repeated : (n : ℕ) (run : Run) (test : State → Answer) (f g : State → Course) (s t : State) → AlikeStates k s t →
      ((a b : State) → AlikeStates k a b → test b ≡ test a) → ((a b : State) → AlikeStates k a b → AlikeCourses k (f a) (g b)) →
      AlikeCourses k (repeated n run test f s) (repeated n run test g t)
  courses-repeated zero run test f g s t h asks does = tt
  courses-repeated (suc n) run test f g s t h asks does =
      courses-with (test s) (test t) _ _ (asks s t h)
      (λ v. courses-either (is_true v) _ Goes _ Goes s t
      (courses-turn run _ _ s t h (λ a b i. courses-then (f a) (g b) _ _ (does a b i) (λ c d j. courses-repeated n run test f g c d j asks does))) h)

  courses-in_turns : {A : Type 0} (run : Run) (xs : List A) (f g : A → State → Course) (s t : State) → AlikeStates k s t →
      ((x : A) (a b : State) → AlikeStates k a b → AlikeCourses k (f x a) (g x b)) → AlikeCourses k (in_turns run xs f s) (in_turns run xs g t)
  courses-in_turns run [] f g s t h does = h
  courses-in_turns run (x ∷ xs) f g s t h does =
      courses-turn run _ _ s t h (λ a b i. courses-then (f x a) (g x b) _ _ (does x a b i) (λ c d j. courses-in_turns run xs f g c d j does))

-- what is known of a loop of a program that is ready for cutting
pub record KnownLoop (ds : List Declaration) (key : Key) (at : Place) (h : Head) (test : Expr) (body : Stmt) : Type 0 where
  pub named : list_all (suits ds) (uses_of (Foreach key at h test body)) ≡ true
  pub range : is_nodes h.domain ≡ true
  pub form : is_flat_loop ds false h.iterator test body ≡ true
  pub share : shares ds h.iterator test body ≡ true

-- the same of a phase
pub record KnownPhase (ds : List Declaration) (s : Stmt) : Type 0 where
  pub named : list_all (suits ds) (uses_of s) ≡ true
  pub form : is_phase (is_flat_loop ds false) no_loop ds s ≡ true
  pub share : loops_share ds s ≡ true

-- a way to write loops that go alike, in whatever table the run has
abbrev pub Rewrites : List Declaration → Run → (Key → Place → Head → Expr → Stmt → Stmt) → Type 0
Rewrites ds run f = (key : Key) (at : Place) (h : Head) (test : Expr) (body : Stmt) → KnownLoop ds key at h test body → (u v : State) → AlikeStates (length ds) u v →
    AlikeCourses (length ds) (sequential (Foreach key at h test body) run u) (sequential (f key at h test body) run v)

module _ (ds : List Declaration) (run : Run) (f : Key → Place → Head → Expr → Stmt → Stmt) (rewrites : Rewrites ds run f) where
  abbrev k : ℕ
  k = length ds

  abbrev pub Goal : Stmt → Type 0
  Goal s = KnownPhase ds s → (u v : State) → AlikeStates k u v → AlikeCourses k (sequential s run u) (sequential (each_loop f s) run v)

  as-it-is : (s : Stmt) → KnownPhase ds s → (u v : State) → AlikeStates k u v → AlikeCourses k (sequential s run u) (sequential s run v)
  as-it-is s known u v h = sequential-alike k s run u v (names-below ds s known.named) h

  pub phase-alike : (s : Stmt) → Goal s
  phase-alike (Then a b) known u v h =
      let n = all-append (suits ds) (uses_of a) (uses_of b) known.named in
      let o = both-true (is_phase (is_flat_loop ds false) no_loop ds a) (is_phase (is_flat_loop ds false) no_loop ds b) known.form in
      let r = both-true (loops_share ds a) (loops_share ds b) known.share in
      courses-then k _ _ _ _ (phase-alike a (record { named = n.0; form = o.0; share = r.0 }) u v h)
      (λ c d i. phase-alike b (record { named = n.1; form = o.1; share = r.1 }) c d i)
  phase-alike (Foreach key at hd test body) known u v h =
      let o = both-true (is_nodes hd.domain) (is_flat_loop ds false hd.iterator test body) known.form in
      rewrites key at hd test body (record { named = known.named; range = o.0; form = o.1; share = known.share }) u v h
  phase-alike (For key at hd test body) known u v h =
      let below = names-below ds (For key at hd test body) known.named in
      let n = all-append (suits ds) (uses_of_head hd) (uses_in test ++ uses_of body) known.named in
      let m = all-append (suits ds) (uses_in test) (uses_of body) n.1 in
      let o = both-true (is_told test) (is_phase (is_flat_loop ds false) no_loop ds body) known.form in
      courses-in_turns k run (nodes run.graph) _ _ u v h (λ i c d g.
      let w : AlikeStates k (record c { store = write c.store (Scalar hd.iterator) (At (Some i)) }) (record d { store = write d.store (Scalar hd.iterator) (At (Some i)) }) =
      record { store = agree-write k c.store d.store (Scalar hd.iterator) (At (Some i)) g.store; turns = g.turns } in
      courses-with k _ _ _ _ (value-same k test run key _ _ below.2 w)
      (λ x. courses-either k (is_true x) _ Goes _ Goes _ _ (phase-alike body (record { named = m.1; form = o.1; share = known.share }) _ _ w) w))
  phase-alike (If key c a b) known u v h =
      let below = names-below ds (If key c a b) known.named in
      let n = all-append (suits ds) (uses_in c) (uses_of a ++ uses_of b) known.named in
      let m = all-append (suits ds) (uses_of a) (uses_of b) n.1 in
      let o = both-true (is_told c) (is_phase (is_flat_loop ds false) no_loop ds a && is_phase (is_flat_loop ds false) no_loop ds b) known.form in
      let p = both-true (is_phase (is_flat_loop ds false) no_loop ds a) (is_phase (is_flat_loop ds false) no_loop ds b) o.1 in
      let r = both-true (loops_share ds a) (loops_share ds b) known.share in
      courses-with k _ _ _ _ (value-same k c run key u v below.0 h)
      (λ x. courses-either k (is_true x) _ _ _ _ u v (phase-alike a (record { named = m.0; form = p.0; share = r.0 }) u v h) (phase-alike b (record { named = m.1; form = p.1; share = r.1 }) u v h))
  phase-alike (While key at c body) known u v h =
      let below = names-below ds (While key at c body) known.named in
      let n = all-append (suits ds) (uses_in c) (uses_of body) known.named in
      let o = both-true (is_told c) (is_phase (is_flat_loop ds false) no_loop ds body) known.form in
      courses-repeated k (suc run.bound) run _ _ _ u v h (λ s t g. value-same k c run key s t below.0 g) (phase-alike body (record { named = n.1; form = o.1; share = known.share }))
  phase-alike (Do key at body c) known u v h =
      let below = names-below ds (Do key at body c) known.named in
      let n = all-append (suits ds) (uses_of body) (uses_in c) known.named in
      let o = both-true (is_phase (is_flat_loop ds false) no_loop ds body) (is_told c) known.form in
      let inside : KnownPhase ds body = record { named = n.0; form = o.0; share = known.share } in
      courses-turn k run _ _ u v h (λ s t g. courses-then k _ _ _ _ (phase-alike body inside s t g)
      (λ a b i. courses-repeated k (suc run.bound) run _ _ _ a b i (λ s t g. value-same k c run key s t below.1 g) (phase-alike body inside)))
  phase-alike s known u v h = as-it-is s known u v h
