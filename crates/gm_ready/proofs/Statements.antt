-- Statements that have types name variables as they are declared.
use Rattle.std.proofs.Common.{◌≡◌, ◌+◌, ℕ, Bool, true, false, List, [], ◌∷◌, ◌++◌, map, refl, ap, Option, Some, None}
use Rattle.std.specs.Prelude.{◌&&◌, ◌||◌, not, if◌then◌else◌, Ok, Err}
use Rattle.gm_base.specs.declared.places.Place.{Place}
use Rattle.gm_base.specs.declared.rules.Rule.{Rule}
use Rattle.gm_base.specs.declared.rules.Rule.TheVariants.{T7, T9, T11, T12, T13}
use Rattle.gm_value.specs.declared.values.VType.{VType}
use Rattle.gm_value.specs.declared.values.VType.TheVariants.{I32, I64, Flag, Node}
use Rattle.gm_value.specs.declared.reductions.Reduce.{Reduce}
use Rattle.gm_value.specs.declared.reductions.Reduce.TheVariants.{Sum}
use Rattle.gm_ast.specs.declared.tree.Declaration.{Declaration}
use Rattle.gm_ast.specs.declared.tree.Key.{Key}
use Rattle.gm_ast.specs.declared.tree.Sort.{Sort}
use Rattle.gm_ast.specs.declared.tree.Sort.TheVariants as Sorts
use Rattle.gm_ast.specs.declared.kinds.Binding.{Binding}
use Rattle.gm_ast.specs.declared.kinds.Goal.{Goal}
use Rattle.gm_ast.specs.Surface.{SurfaceName, SurfaceTarget, SurfaceExpr}
use Rattle.gm_ast.specs.Program as P
use Rattle.gm_ast.specs.Program.{Expr, Stmt}
use Rattle.gm_ast.specs.Judged.{Judged, Answer, judge, beside, ok_of, refused, refused_unless, then_answer, noted}
use Rattle.gm_ast.specs.Names.{Env, is, is_node, sort_eq, used, known_as, both, judged_each}
use Rattle.gm_ast.specs.Kinds.{Part, fitted}
use Rattle.gm_ast.specs.Typing.{typed}
use Rattle.gm_ast.specs.Statements.{scalar_goal_as, scalar_goal, property_goal, goal_at, fits_goal, reduces, first_wanted, total_at, fits_each, answers_with, all_answers, combined, one_of, incremented, goals, typed_all, apart_from_first, goals_together, reduced, names_graph, group_goal, group_target, in_group, grouped, assigned, deferred, assignment, at_iterator, is_among}
use Rattle.gm_forms.proofs.Named.{both-true}
use Rattle.gm_forms.specs.Uses as Uses
use Rattle.gm_forms.specs.Uses.{Role, Use, use_as, uses_in, uses_in_all, uses_of_target, uses_of_targets, uses_of}
use Rattle.gm_ready.proofs.Tables.{Binds, Suit, join, suit-as, AllKnown}
use Rattle.gm_ready.proofs.Judging.{IfPart, if-good, if-then, if-else, if-known, Gives, Good, gives-judge, gives-beside, gives-both, gives-if, good-both, good-used, known-binds}
use Rattle.gm_ready.proofs.Expressions.{IsNamed, IsNamedPart, fitted-named, typed-named}

module _ (ds : List Declaration) where
  abbrev pub IsNamedStmt : Stmt → Type 0
  IsNamedStmt s = Suit ds (uses_of s)

  abbrev IfNamedStmt : Answer Stmt → Type 0
  IfNamedStmt a = IfPart IsNamedStmt (ok_of a)

  -- ---- targets

  -- a target that takes values is one that may be written
  abbrev pub IsNamedGoal : Goal → Type 0
  IsNamedGoal g = IfPart (λ t. Suit ds (uses_of_target g.target)) g.wanted

  scalar-goal : (s : Sort) (deferred : Bool) (at : Place) (b : Binding) → b.variable.sort ≡ s → Binds ds b → IfPart IsNamedGoal (ok_of (scalar_goal_as s deferred at b))
  scalar-goal Sorts.Scalar deferred at b e h = if-good IsNamedGoal (not deferred) T12 at _ (λ _. suit-as ds Uses.Written b h (ap (sort_eq Sorts.Scalar) e))
  scalar-goal Sorts.NodeProperty deferred at b e h = tt
  scalar-goal Sorts.Graph deferred at b e h = tt
  scalar-goal Sorts.Iterator deferred at b e h = tt
  scalar-goal Sorts.Edge deferred at b e h = tt
  scalar-goal Sorts.EdgeProperty deferred at b e h = tt

  property-goal : (at : Place) (bs : Binding × Binding) → Binds ds bs.0 × Binds ds bs.1 → IfPart IsNamedGoal (ok_of (property_goal at bs))
  property-goal at bs h =
      let x = bs.0 in
      let p = bs.1 in
      if-else IsNamedGoal (is_node x.variable && is Sorts.NodeProperty p.variable) _ (if is Sorts.Edge x.variable && is Sorts.EdgeProperty p.variable then refused T12 at else refused T7 at)
      (λ t. let s = both-true (is_node x.variable) (is Sorts.NodeProperty p.variable) t in
      join ds (use_as Uses.Owner x.index) (use_as Uses.NodeValue p.index)
      (suit-as ds Uses.Owner x h.0 (ap (λ n. n || is Sorts.Graph x.variable) s.0)) (suit-as ds Uses.NodeValue p h.1 s.1))
      (λ _. if-else IsNamedGoal (is Sorts.Edge x.variable && is Sorts.EdgeProperty p.variable) (refused T12 at) (refused T7 at) (λ _. tt) (λ _. tt))

  pub goal-named : (deferred : Bool) (x : SurfaceName) (p : Option SurfaceName) → Good ds IsNamedGoal (goal_at deferred x p)
  goal-named deferred x None env known = gives-judge ds (Binds ds) IsNamedGoal env.next (used x env) (scalar_goal deferred x.place)
      (good-used ds x env known) (λ b h. scalar-goal b.variable.sort deferred x.place b refl h)
  goal-named deferred x (Some p) env known = gives-judge ds (λ bs. Binds ds bs.0 × Binds ds bs.1) IsNamedGoal env.next (both (used x) (used p) env) (property_goal x.place)
      (good-both ds (Binds ds) (Binds ds) (used x) (used p) (good-used ds x) (good-used ds p) env known) (λ bs h. property-goal x.place bs h)

  -- a value that goes to its target, and the target
  abbrev GoesTo : Goal → Expr → Type 0
  GoesTo g e = Suit ds (uses_of_target g.target) × IsNamed ds e

  and-goes : (g : Goal) (a : Answer Expr) → Suit ds (uses_of_target g.target) → IfPart (IsNamed ds) (ok_of a) → IfPart (GoesTo g) (ok_of a)
  and-goes g (Ok e) h k = (h, k)
  and-goes g (Err rs) h k = tt

  fits-goal : (w : Option VType) (g : Goal) (rule : Rule) (at : Place) (p : Part) → IfPart (λ t. Suit ds (uses_of_target g.target)) w → IsNamedPart ds p → IfPart (GoesTo g) (ok_of (fits_goal w rule at p))
  fits-goal None g rule at p h n = tt
  fits-goal (Some t) g rule at p h n = and-goes g (fitted t rule at p) h (fitted-named ds t rule at p n)

  goes : (g : Goal) (e : Expr) → GoesTo g e → Suit ds (uses_of_target g.target ++ uses_in e)
  goes g e h = join ds (uses_of_target g.target) (uses_in e) h.0 h.1

  pub assigned-named : (t : SurfaceTarget) (at : Place) (e : SurfaceExpr) → Good ds IsNamedStmt (assigned t at e)
  assigned-named t at e env known =
      gives-judge ds (λ p. IsNamedGoal p.0 × IsNamedPart ds p.1) IsNamedStmt env.next (both (goal_at false t.owner t.property) (typed e) env)
      (λ p. then_answer (fits_goal p.0.wanted T9 at p.1) (P.Assign env.key p.0.target))
      (good-both ds IsNamedGoal (IsNamedPart ds) (goal_at false t.owner t.property) (typed e) (goal-named false t.owner t.property) (typed-named ds e) env known)
      (λ p h. if-then (GoesTo p.0) IsNamedStmt (fits_goal p.0.wanted T9 at p.1) (P.Assign env.key p.0.target) (fits-goal p.0.wanted p.0 T9 at p.1 h.0 h.1) (λ e n. goes p.0 e n))

  pub deferred-named : (t : SurfaceTarget) (at : Place) (e : SurfaceExpr) → Good ds IsNamedStmt (deferred t at e)
  deferred-named t at e env known =
      gives-judge ds (λ p. IsNamedGoal p.0 × IsNamedPart ds p.1) IsNamedStmt env.next (both (goal_at true t.owner t.property) (typed e) env)
      (λ p. then_answer (fits_goal p.0.wanted T9 at p.1) (P.Defer env.key p.0.target))
      (good-both ds IsNamedGoal (IsNamedPart ds) (goal_at true t.owner t.property) (typed e) (goal-named true t.owner t.property) (typed-named ds e) env known)
      (λ p h. if-then (GoesTo p.0) IsNamedStmt (fits_goal p.0.wanted T9 at p.1) (P.Defer env.key p.0.target) (fits-goal p.0.wanted p.0 T9 at p.1 h.0 h.1) (λ e n. goes p.0 e n))

  -- ---- reductions

  abbrev AllGoals : List Goal → Type 0
  AllGoals [] = Unit {0}
  AllGoals (g ∷ gs) = IsNamedGoal g × AllGoals gs

  abbrev AllParts : List Part → Type 0
  AllParts [] = Unit {0}
  AllParts (p ∷ ps) = IsNamedPart ds p × AllParts ps

  pub each-good : {X A : Type 0} (Q : A → Type 0) (R : List A → Type 0) (one : X → Env → Judged A) → R [] → ((a : A) (as' : List A) → Q a → R as' → R (a ∷ as'))
      → ((x : X) → Good ds Q (one x)) → (xs : List X) → Good ds R (judged_each one xs)
  each-good Q R one none more good [] env known = λ has clean. none
  each-good Q R one none more good (x ∷ xs) env known =
      gives-judge ds (λ p. Q p.0 × R p.1) R env.next (both (one x) (judged_each one xs) env) (λ p. Ok (p.0 ∷ p.1))
      (good-both ds Q R (one x) (judged_each one xs) (good x) (each-good Q R one none more good xs) env known) (λ p h. more p.0 p.1 h.0 h.1)

  abbrev All : List Goal → List Expr → Type 0
  All gs es = Suit ds (uses_of_targets (map (λ g. g.target) gs)) × Suit ds (uses_in_all es)

  pub if-with : {A B C : Type 0} (Q : A → Type 0) (R : B → Type 0) (S : C → Type 0) (f : A → B → C) (a : Answer A) (b : Answer B)
      → IfPart Q (ok_of a) → IfPart R (ok_of b) → ((x : A) (y : B) → Q x → R y → S (f x y)) → IfPart S (ok_of (answers_with f a b))
  if-with Q R S f (Ok a) (Ok b) h k m = m a b h k
  if-with Q R S f (Ok a) (Err rs) h k m = tt
  if-with Q R S f (Err es) (Ok b) h k m = tt
  if-with Q R S f (Err es) (Err rs) h k m = tt

  fits-all : (at : Place) (gs : List Goal) (ps : List Part) → AllGoals gs → AllParts ps → IfPart (All gs) (ok_of (all_answers (fits_each at gs ps)))
  fits-all at [] [] h k = (refl, refl)
  fits-all at [] (p ∷ ps) h k = tt
  fits-all at (g ∷ gs) [] h k = tt
  fits-all at (g ∷ gs) (p ∷ ps) h k =
      if-with (GoesTo g) (All gs) (All (g ∷ gs)) (λ x xs. x ∷ xs) (fits_goal g.wanted T9 at p) (all_answers (fits_each at gs ps))
      (fits-goal g.wanted g T9 at p h.0 k.0) (fits-all at gs ps h.1 k.1)
      (λ e es n m. (join ds (uses_of_target g.target) (uses_of_targets (map (λ g. g.target) gs)) n.0 m.0, join ds (uses_in e) (uses_in_all es) n.1 m.1))

  combined-named : (k : Key) (at : Place) (r : Reduce) (ps : List Goal × List Part) → AllGoals ps.0 × AllParts ps.1 → IfNamedStmt (combined k at r ps)
  combined-named k at r ps h =
      if-with (λ u. Unit {0}) (All ps.0) IsNamedStmt (λ u es. P.Combine k (total_at k at) r (map (λ g. g.target) ps.0) es)
      (refused_unless (reduces r (first_wanted ps.0)) T11 at (tt {0})) (all_answers (fits_each at ps.0 ps.1))
      (if-good (λ u. Unit {0}) (reduces r (first_wanted ps.0)) T11 at (tt {0}) (λ _. tt)) (fits-all at ps.0 ps.1 h.0 h.1)
      (λ u es _ n. join ds (uses_of_targets (map (λ g. g.target) ps.0)) (uses_in_all es) n.0 n.1)

  together-named : (ts : List SurfaceTarget) → Good ds AllGoals (goals_together ts)
  together-named ts env known =
      gives-judge ds (λ p. AllGoals p.0 × Unit {0}) AllGoals env.next (beside (goals ts env) (noted (tt {0}) (apart_from_first ts))) (λ p. Ok p.0)
      (gives-beside ds AllGoals (λ u. Unit {0}) env.next (goals ts env) (noted (tt {0}) (apart_from_first ts))
      (each-good IsNamedGoal AllGoals (λ t. goal_at false t.owner t.property) tt (λ a as' h k. (h, k)) (λ t. goal-named false t.owner t.property) ts env known) (λ has clean. tt))
      (λ p h. h.0)

  pub reduced-named : (ts : List SurfaceTarget) (r : Reduce) (at : Place) (es : List SurfaceExpr) → Good ds IsNamedStmt (reduced ts r at es)
  reduced-named ts r at es env known =
      gives-judge ds (λ p. AllGoals p.0 × AllParts p.1) IsNamedStmt env.next (both (goals_together ts) (typed_all es) env) (combined env.key at r)
      (good-both ds AllGoals AllParts (goals_together ts) (typed_all es) (together-named ts)
      (each-good (IsNamedPart ds) AllParts typed tt (λ a as' h k. (h, k)) (λ e. typed-named ds e) es) env known)
      (λ p h. combined-named env.key at r p h)

  one-goes : (w : Option VType) (g : Goal) (at : Place) → IfPart (λ t. Suit ds (uses_of_target g.target)) w → IfPart (GoesTo g) (ok_of (one_of w at))
  one-goes None g at h = tt
  one-goes (Some I32) g at h = (h, refl)
  one-goes (Some I64) g at h = (h, refl)
  one-goes (Some Flag) g at h = tt
  one-goes (Some Node) g at h = tt

  incremented-named : (k : Key) (at : Place) (g : Goal) → IsNamedGoal g → IfNamedStmt (incremented k at g)
  incremented-named k at g h =
      if-then (GoesTo g) IsNamedStmt (one_of g.wanted at) (λ e. P.Combine k (total_at k at) Sum (g.target ∷ []) (e ∷ [])) (one-goes g.wanted g at h)
      (λ e n. join ds (uses_of_targets (g.target ∷ [])) (uses_in_all (e ∷ [])) (join ds (uses_of_target g.target) [] n.0 refl) (join ds (uses_in e) [] n.1 refl))

  pub increment-named : (t : SurfaceTarget) (at : Place) (env : Env) → AllKnown ds env.known → Gives ds IsNamedStmt env.next (judge (goal_at false t.owner t.property env) (incremented env.key at))
  increment-named t at env known = gives-judge ds IsNamedGoal IsNamedStmt env.next (goal_at false t.owner t.property env) (incremented env.key at)
      (goal-named false t.owner t.property env known) (λ g h. incremented-named env.key at g h)

  pub at-iterator : (x : Option SurfaceName) → Good ds (λ i. Unit {0}) (at_iterator x)
  at-iterator None env known = λ has clean. tt
  at-iterator (Some x) env known = gives-judge ds (Binds ds) (λ i. Unit {0}) env.next (used x env) (λ b. refused_unless (is_among b.index env.iterators) T13 x.place b.index)
      (good-used ds x env known) (λ b h. if-good (λ i. Unit {0}) (is_among b.index env.iterators) T13 x.place b.index (λ _. tt))

  -- what an iterator is named after does not matter
  pub beside-iterator : (part : Env → Judged Stmt) (x : Option SurfaceName) → Good ds IsNamedStmt part → (env : Env) → AllKnown ds env.known
      → Gives ds IsNamedStmt env.next (judge (both part (at_iterator x) env) (λ p. Ok p.0))
  beside-iterator part x good env known = gives-judge ds (λ p. IsNamedStmt p.0 × Unit {0}) IsNamedStmt env.next (both part (at_iterator x) env) (λ p. Ok p.0)
      (good-both ds IsNamedStmt (λ i. Unit {0}) part (at_iterator x) good (at-iterator x) env known) (λ p h. h.0)

  -- ---- group assignments

  abbrev IsGraph : Binding → Type 0
  IsGraph b = Binds ds b × (is Sorts.Graph b.variable ≡ true)

  graph-known : (o : Option Binding) → IfPart (Binds ds) o → names_graph o ≡ true → IfPart IsGraph o
  graph-known None h g = tt
  graph-known (Some b) h g = (h, g)

  abbrev IsGroupGoal : ℕ × (ℕ × VType) → Type 0
  IsGroupGoal g = Suit ds (use_as Uses.Iterates g.0) × Suit ds (use_as Uses.NodeValue g.1.0)

  group-goal : (at : Place) (bs : Binding × Binding) → IsGraph bs.0 × Binds ds bs.1 → IfPart IsGroupGoal (ok_of (group_goal at bs))
  group-goal at bs h = if-good IsGroupGoal (is Sorts.NodeProperty bs.1.variable) T7 at _
      (λ p. (suit-as ds Uses.Iterates bs.0 h.0.0 (graph-iterates (is Sorts.Iterator bs.0.variable) (is Sorts.Graph bs.0.variable) h.0.1), suit-as ds Uses.NodeValue bs.1 h.1 p))
    where
      graph-iterates : (a b : Bool) → b ≡ true → a || b ≡ true
      graph-iterates true b h = refl
      graph-iterates false b h = h

  grouped-named : (x p : SurfaceName) (at : Place) (e : SurfaceExpr) (env : Env) → AllKnown ds env.known → names_graph (known_as env.known x.text) ≡ true → Gives ds IsNamedStmt env.next (grouped x p at e env)
  grouped-named x p at e env known graph =
      let target = both (used x) (used p) env in
      gives-judge ds (λ ps. IsGroupGoal ps.0 × IsNamedPart ds ps.1) IsNamedStmt env.next (both (group_target x p) (in_group (typed e)) env)
      (λ ps. then_answer (fitted ps.0.1.1 T9 at ps.1) (P.Group env.key x.place ps.0.0 ps.0.1.0))
      (gives-both ds IsGroupGoal (IsNamedPart ds) (group_target x p) (in_group (typed e)) env known
      (gives-judge ds (λ bs. IsGraph bs.0 × Binds ds bs.1) IsGroupGoal env.next target (group_goal x.place)
      (gives-both ds IsGraph (Binds ds) (used x) (used p) env known
      (λ has clean. if-known ds IsGraph x (known_as env.known x.text) (graph-known (known_as env.known x.text) (known-binds ds env.known x.text known) graph)) (good-used ds p))
      (λ bs h. group-goal x.place bs h))
      (λ env known. typed-named ds e (record env { group = true; depth = env.depth + 1 }) known))
      (λ ps h. if-then (IsNamed ds) IsNamedStmt (fitted ps.0.1.1 T9 at ps.1) (P.Group env.key x.place ps.0.0 ps.0.1.0) (fitted-named ds ps.0.1.1 T9 at ps.1 h.1)
      (λ v n. join ds (use_as Uses.Iterates ps.0.0) (use_as Uses.NodeValue ps.0.1.0 ++ uses_in v) h.0.0 (join ds (use_as Uses.NodeValue ps.0.1.0) (uses_in v) h.0.1 n)))

  pub assignment-named : (o : Option SurfaceName) (t : SurfaceTarget) (at : Place) (e : SurfaceExpr) → Good ds IsNamedStmt (assignment o t at e)
  assignment-named None t at e env known = assigned-named t at e env known
  assignment-named (Some p) t at e env known = gives-if ds IsNamedStmt env.next (names_graph (known_as env.known t.owner.text)) (grouped t.owner p at e env) (assigned t at e env)
      (λ g. grouped-named t.owner p at e env known g) (λ _. assigned-named t at e env known)
