-- The body of a typed procedure writes, of the locals of a parallel loop, those that its body declares.
use Rattle.std.proofs.Common.{◌≡◌, ◌+◌, ◌≤◌, ℕ, Bool, true, false, List, [], ◌∷◌, ◌++◌, map, length, refl, sym, ap, subst, ◌∙◌, arith, Option, Some, None}
use Rattle.std.specs.Prelude.{◌&&◌, not, is_none, nat_eq, option_map, slice_get, if◌then◌else◌, Ok}
use Rattle.std.specs.Str.{bytes_eq}
use Rattle.std.proofs.lemmas.Bool.{both_ways, or_left, or_right, eq-eqb}
use Rattle.gm_base.specs.declared.places.Place.{Place}
use Rattle.gm_base.specs.declared.rules.Rule.{Rule}
use Rattle.gm_base.specs.declared.rules.Rule.TheVariants.{T2, T7, T9, T11, T12, T14}
use Rattle.gm_value.specs.declared.values.VType.{VType}
use Rattle.gm_value.specs.declared.values.VType.TheVariants.{I32, I64, Flag, Node}
use Rattle.gm_value.specs.declared.reductions.Reduce.{Reduce}
use Rattle.gm_value.specs.declared.reductions.Reduce.TheVariants as R
use Rattle.gm_ast.specs.declared.tree.Declaration.{Declaration}
use Rattle.gm_ast.specs.declared.tree.Key.{Key}
use Rattle.gm_ast.specs.declared.tree.Sort.{Sort}
use Rattle.gm_ast.specs.declared.tree.Sort.TheVariants as Sorts
use Rattle.gm_ast.specs.declared.tree.Variable.{Variable}
use Rattle.gm_ast.specs.declared.kinds.Binding.{Binding}
use Rattle.gm_ast.specs.declared.kinds.Goal.{Goal}
use Rattle.gm_ast.specs.declared.kinds.Role.TheVariants.{Local}
use Rattle.gm_ast.specs.declared.surface.LoopWord.TheVariants as Loop
use Rattle.gm_ast.specs.Surface.{SurfaceName, SurfaceGroup, SurfaceProcedure, SurfaceType, SurfaceTarget, SurfaceExpr, SurfaceStmt}
use Rattle.gm_ast.specs.Surface as S
use Rattle.gm_ast.specs.Program as P
use Rattle.gm_ast.specs.Program.{Expr, Stmt}
use Rattle.gm_ast.specs.Judged.{Judged, judge, beside, both_of, ok_of, refused, refused_unless, then_answer, noted, unless}
use Rattle.gm_ast.specs.Loops.{declared_at}
use Rattle.gm_ast.specs.Names.{Known, Env, known_as, known_with, is, is_node, sort_eq, used, declared_as, with_name, both, later, an_iterator, inside, iterated, operators_of, numbered}
use Rattle.gm_ast.specs.Kinds.{Part, fitted}
use Rattle.gm_ast.specs.Typing.{typed, ranged, head_with}
use Rattle.gm_ast.specs.Statements.{scalar_goal_as, scalar_goal, property_goal, goal_at, fits_goal, reduces, first_wanted, total_at, fits_each, all_answers, combined, one_of, incremented, goals, typed_all, apart_from_first, goals_together, reduced, names_graph, grouped, group_target, in_group, assigned, deferred, assignment, returned, at_iterator, type_broken, sort_of, vtype_of, variable_of, declared_all, with_names, known_after, plain_declarations, declarations_as, declared_plainly, edge_declared, edge_owner, declared_value, declared_typed, declared_with, following, test, graph_searched, rooted, search_of, searched, checked}
use Rattle.gm_ast.specs.Ways.{locals, is_in}
use Rattle.gm_ast.specs.Procedures.{IsTyped, nothing_known, parameters, with_parameters, count_names, result_of, env_of_outputs, parts_of, elaborated, env_of_body}
use Rattle.gm_ast.specs.Program.{Program}
use Rattle.gm_semantics.specs.Statements.{variable_or}
use Rattle.gm_forms.specs.Forms.{depth_at}
use Rattle.gm_ready.proofs.Tables.{Has, has-append}
use Rattle.gm_ready.proofs.Judging.{IfPart, if-by, if-both, if-good, if-then, if-else, Gives, gives-judge, gives-beside, gives-if, if-known, append-empty}
use Rattle.gm_ready.proofs.Statements.{if-with}
use Rattle.gm_ready.proofs.Procedures.{names-next, names-declared, parameters-next, parameters-declared, has-behind, body-in}
use Rattle.gm_push_pull.proofs.Among.{any-append}
use Rattle.gm_along.specs.Scopes.{OwnTarget, OwnTargets, anyone, Scoped, IsScoped}

-- ---- parts that may be absent

whatever : {A : Type 0} (o : Option A) → IfPart (λ a. Unit {0}) o
whatever None = tt
whatever (Some a) = tt

always : {A : Type 0} (F : Type 0) (o : Option A) → F → IfPart (λ a. F) o
always F None h = tt
always F (Some a) h = h

if-and : {A : Type 0} (P Q : A → Type 0) (o : Option A) → IfPart P o → IfPart Q o → IfPart (λ a. P a × Q a) o
if-and P Q None h k = tt
if-and P Q (Some a) h k = (h, k)

if-given : {A : Type 0} (F : Type 0) (P : A → Type 0) (o : Option A) → (F → IfPart P o) → IfPart (λ a. F → P a) o
if-given F P None h = tt
if-given F P (Some a) h = h

if-each : {A : Type 0} (P : (ℕ → Bool) → A → Type 0) (o : Option A) → ((own : ℕ → Bool) → IfPart (P own) o) → IfPart (λ a. (own : ℕ → Bool) → P own a) o
if-each P None h = tt
if-each P (Some a) h = h

if-second : {A B : Type 0} (P : B → Type 0) (o : Option A) (q : Option B) → IfPart P q → IfPart (λ p. P p.1) (both_of o q)
if-second P None q h = tt
if-second P (Some a) None h = tt
if-second P (Some a) (Some b) h = h

-- what follows whatever is covered
free : (M : Type 0) (own : ℕ → Bool) (o : Option Stmt) → M → IfPart (λ p. ((x : ℕ) → is_in (locals p) x ≡ true → own x ≡ true) → M) o
free M own None h = tt
free M own (Some p) h = λ c. h

-- ---- the locals of a body

-- all that a statement declares are among a body's own
abbrev Covers : (ℕ → Bool) → Stmt → Type 0
Covers own s = (x : ℕ) → is_in (locals s) x ≡ true → own x ≡ true

in-left : (xs ys : List ℕ) (x : ℕ) → is_in xs x ≡ true → is_in (xs ++ ys) x ≡ true
in-left xs ys x h = any-append (nat_eq x) xs ys ∙ or_left (is_in xs x) (is_in ys x) h

in-right : (xs ys : List ℕ) (x : ℕ) → is_in ys x ≡ true → is_in (xs ++ ys) x ≡ true
in-right xs ys x h = any-append (nat_eq x) xs ys ∙ or_right (is_in xs x) (is_in ys x) h

in-first : (x : ℕ) (xs : List ℕ) → is_in (x ∷ xs) x ≡ true
in-first x xs = or_left (nat_eq x x) (is_in xs x) (eq-eqb x x refl)

module _ (ds : List Declaration) where
  -- ---- known names

  -- what a name means is declared inside no more parallel loops, and is one of the body's own if it is a scalar that is declared inside as many
  abbrev Mine : ℕ → (ℕ → Bool) → Binding → Type 0
  Mine d own b = (declared_at ds b.index ≡ Some b.variable) × ((b.variable.depth ≤ d) × (is Sorts.Scalar b.variable ≡ true → d ≤ b.variable.depth → own b.index ≡ true))

  abbrev Mines : ℕ → (ℕ → Bool) → List Known → Type 0
  Mines d own [] = Unit {0}
  Mines d own (k ∷ ks) = Mine d own k.binding × Mines d own ks

  mines-any : (d : ℕ) (own : ℕ → Bool) (ks : List Known) → Mines d own ks → Mines d anyone ks
  mines-any d own [] h = tt
  mines-any d own (k ∷ ks) h = ((h.0.0, (h.0.1.0, λ s l. refl)), mines-any d own ks h.1)

  mines-deeper : (d : ℕ) (own other : ℕ → Bool) (ks : List Known) → Mines d own ks → Mines (d + 1) other ks
  mines-deeper d own other [] h = tt
  mines-deeper d own other (k ∷ ks) h =
      let low : k.binding.variable.depth ≤ d = h.0.1.0 in
      ((h.0.0, (omega (arith, low), λ s l. absurd (omega (arith, low, l)))), mines-deeper d own other ks h.1)

  mines-append : (d : ℕ) (own : ℕ → Bool) (ks : List Known) (k : Known) → Mines d own ks → Mine d own k.binding → Mines d own (ks ++ (k ∷ []))
  mines-append d own [] k h b = (b, tt)
  mines-append d own (x ∷ ks) k h b = (h.0, mines-append d own ks k h.1 b)

  mines-with : (d : ℕ) (own : ℕ → Bool) (ks : List Known) (text : List ℕ) (b : Binding) → Mines d own ks → Mine d own b → Mines d own (known_with ks text b)
  mines-with d own ks text b h bound = by (is_none (known_as ks text))
    where
      by : (new : Bool) → Mines d own (if new then ks ++ (record { text = text; binding = b } ∷ []) else ks)
      by true = mines-append d own ks (record { text = text; binding = b }) h bound
      by false = h

  mines-bound : (d : ℕ) (own : ℕ → Bool) (ks : List Known) (text : List ℕ) → Mines d own ks → IfPart (Mine d own) (known_as ks text)
  mines-bound d own [] text h = tt
  mines-bound d own (k ∷ ks) text h = by (bytes_eq text k.text) (mines-bound d own ks text h.1)
    where
      by : (same : Bool) → IfPart (Mine d own) (known_as ks text) → IfPart (Mine d own) (if same then Some k.binding else known_as ks text)
      by true rest = h.0
      by false rest = rest

  depth-is : (x : ℕ) (v : Variable) → declared_at ds x ≡ Some v → depth_at ds x ≡ v.depth
  depth-is x v h = ap (λ o. (variable_or o).depth) h

  -- ---- judged parts

  abbrev At : {A : Type 0} → ℕ → (ℕ → Bool) → (A → Type 0) → (Env → Judged A) → Type 0
  At d own P part = (env : Env) → Mines d own env.known → env.depth ≡ d → Gives ds P env.next (part env)

  at-both : {A B : Type 0} (d : ℕ) (own : ℕ → Bool) (P : A → Type 0) (Q : B → Type 0) (first : Env → Judged A) (second : Env → Judged B) → At d own P first → At d own Q second → At d own (λ p. P p.0 × Q p.1) (both first second)
  at-both d own P Q first second f g env known is = gives-beside ds P Q env.next (first env) (second (later env (first env))) (f env known is) (g (later env (first env)) known is)

  anything : {A : Type 0} (d : ℕ) (own : ℕ → Bool) (part : Env → Judged A) → At d own (λ a. Unit {0}) part
  anything d own part env known is has clean = whatever (part env).part

  at-used : (d : ℕ) (own : ℕ → Bool) (name : SurfaceName) → At d own (Mine d own) (used name)
  at-used d own name env known is has clean = if-known ds (Mine d own) name (known_as env.known name.text) (mines-bound d own env.known name.text known)

  at-numbered : {A : Type 0} (d : ℕ) (own : ℕ → Bool) (P : A → Type 0) (part : Env → Judged A) → At d own P part → At d own P (numbered part)
  at-numbered d own P part good env known is has clean = good (record env { number = env.number + 1; key = operators_of env.number }) known is has clean

  -- own: what the code around writes; other: what that within does
  at-iterated : {A : Type 0} (d loops : ℕ) (own other : ℕ → Bool) (P : A → Type 0) (name : SurfaceName) (part : Env → Judged A) → ((ks : List Known) → Mines d own ks → Mines (d + loops) other ks) → At (d + loops) other P part
      → At d own (λ p. P p.1) (iterated name loops part)
  at-iterated d loops own other P name part goes good env known is has clean =
      let v = an_iterator (env.depth + loops) in
      let inner = inside env name loops in
      let none = append-empty (unless (is_none (known_as env.known name.text)) T2 name.place) (part inner).broken clean in
      let low : env.depth + loops ≤ d + loops = omega (arith, is) in
      let bound : Mine (d + loops) other (record { index = env.next; variable = v }) = (ap (λ o. option_map (λ (x : Declaration). x.variable) o) has.0, (low, λ s l. absurd (both_ways false refl s))) in
      let held = good inner (mines-with (d + loops) other env.known name.text (record { index = env.next; variable = v }) (goes env.known known) bound) (ap (λ n. n + loops) is) has.1 none.1 in
      if-second P (Some env.next) (part inner).part held

  -- ---- targets

  abbrev FitsGoal : ℕ → (ℕ → Bool) → Goal → Type 0
  FitsGoal d own g = IfPart (λ t. OwnTarget ds d own g.target) g.wanted

  scalar-goal : (d : ℕ) (own : ℕ → Bool) (s : Sort) (deferred : Bool) (at : Place) (b : Binding) → b.variable.sort ≡ s → Mine d own b → IfPart (FitsGoal d own) (ok_of (scalar_goal_as s deferred at b))
  scalar-goal d own Sorts.Scalar deferred at b e h =
      if-good (FitsGoal d own) (not deferred) T12 at _ (λ n. λ low. h.1.1 (ap (sort_eq Sorts.Scalar) e) (subst (λ n. d ≤ n) (depth-is b.index b.variable h.0) low))
  scalar-goal d own Sorts.NodeProperty deferred at b e h = tt
  scalar-goal d own Sorts.Graph deferred at b e h = tt
  scalar-goal d own Sorts.Iterator deferred at b e h = tt
  scalar-goal d own Sorts.Edge deferred at b e h = tt
  scalar-goal d own Sorts.EdgeProperty deferred at b e h = tt

  property-goal-own : (d : ℕ) (own : ℕ → Bool) (at : Place) (bs : Binding × Binding) → IfPart (FitsGoal d own) (ok_of (property_goal at bs))
  property-goal-own d own at bs =
      let x = bs.0 in
      let p = bs.1 in
      if-else (FitsGoal d own) (is_node x.variable && is Sorts.NodeProperty p.variable) _ (if is Sorts.Edge x.variable && is Sorts.EdgeProperty p.variable then refused T12 at else refused T7 at) (λ t. tt)
      (λ _. if-else (FitsGoal d own) (is Sorts.Edge x.variable && is Sorts.EdgeProperty p.variable) (refused T12 at) (refused T7 at) (λ _. tt) (λ _. tt))

  goal-own : (d : ℕ) (own : ℕ → Bool) (deferred : Bool) (x : SurfaceName) (p : Option SurfaceName) → At d own (FitsGoal d own) (goal_at deferred x p)
  goal-own d own deferred x None env known is = gives-judge ds (Mine d own) (FitsGoal d own) env.next (used x env) (scalar_goal deferred x.place) (at-used d own x env known is) (λ b h. scalar-goal d own b.variable.sort deferred x.place b refl h)
  goal-own d own deferred x (Some p) env known is =
      gives-judge ds (λ bs. Unit {0}) (FitsGoal d own) env.next (both (used x) (used p) env) (property_goal x.place) (anything d own (both (used x) (used p)) env known is) (λ bs h. property-goal-own d own x.place bs)

  fits-own : (F : Type 0) (w : Option VType) (rule : Rule) (at : Place) (p : Part) → IfPart (λ t. F) w → IfPart (λ (e : Expr). F) (ok_of (fits_goal w rule at p))
  fits-own F None rule at p h = tt
  fits-own F (Some t) rule at p h = always F (ok_of (fitted t rule at p)) h

  -- a statement that is scoped, where all that it declares are the body's own
  abbrev IsOwn : ℕ → (ℕ → Bool) → Stmt → Type 0
  IsOwn d own s = Covers own s → Scoped ds d own s

  assigned-own : (d : ℕ) (own : ℕ → Bool) (t : SurfaceTarget) (at : Place) (e : SurfaceExpr) → At d own (IsOwn d own) (assigned t at e)
  assigned-own d own t at e env known is =
      gives-judge ds (λ p. FitsGoal d own p.0 × Unit {0}) (IsOwn d own) env.next (both (goal_at false t.owner t.property) (typed e) env) (λ p. then_answer (fits_goal p.0.wanted T9 at p.1) (P.Assign env.key p.0.target))
      (at-both d own (FitsGoal d own) (λ a. Unit {0}) (goal_at false t.owner t.property) (typed e) (goal-own d own false t.owner t.property) (anything d own (typed e)) env known is)
      (λ p h. if-then (λ e. OwnTarget ds d own p.0.target) (IsOwn d own) (fits_goal p.0.wanted T9 at p.1) (P.Assign env.key p.0.target) (fits-own (OwnTarget ds d own p.0.target) p.0.wanted T9 at p.1 h.0) (λ e n c. n))

  deferred-own : (d : ℕ) (own : ℕ → Bool) (t : SurfaceTarget) (at : Place) (e : SurfaceExpr) → At d own (IsOwn d own) (deferred t at e)
  deferred-own d own t at e env known is =
      gives-judge ds (λ p. Unit {0}) (IsOwn d own) env.next (both (goal_at true t.owner t.property) (typed e) env) (λ p. then_answer (fits_goal p.0.wanted T9 at p.1) (P.Defer env.key p.0.target))
      (anything d own (both (goal_at true t.owner t.property) (typed e)) env known is)
      (λ p h. if-then (λ e. Unit {0}) (IsOwn d own) (fits_goal p.0.wanted T9 at p.1) (P.Defer env.key p.0.target) (whatever (ok_of (fits_goal p.0.wanted T9 at p.1))) (λ e n c. tt))

  -- ---- reductions

  abbrev AllGoals : ℕ → (ℕ → Bool) → List Goal → Type 0
  AllGoals d own [] = Unit {0}
  AllGoals d own (g ∷ gs) = FitsGoal d own g × AllGoals d own gs

  goals-own : (d : ℕ) (own : ℕ → Bool) (ts : List SurfaceTarget) → At d own (AllGoals d own) (goals ts)
  goals-own d own [] env known is = λ has clean. tt
  goals-own d own (t ∷ ts) env known is =
      gives-judge ds (λ p. FitsGoal d own p.0 × AllGoals d own p.1) (AllGoals d own) env.next (both (goal_at false t.owner t.property) (goals ts) env) (λ p. Ok (p.0 ∷ p.1))
      (at-both d own (FitsGoal d own) (AllGoals d own) (goal_at false t.owner t.property) (goals ts) (goal-own d own false t.owner t.property) (goals-own d own ts) env known is) (λ p h. h)

  abbrev All : ℕ → (ℕ → Bool) → List Goal → Type 0
  All d own gs = OwnTargets ds d own (map (λ g. g.target) gs)

  fits-all : (d : ℕ) (own : ℕ → Bool) (at : Place) (gs : List Goal) (ps : List Part) → AllGoals d own gs → IfPart (λ (es : List Expr). All d own gs) (ok_of (all_answers (fits_each at gs ps)))
  fits-all d own at [] [] h = tt
  fits-all d own at [] (p ∷ ps) h = tt
  fits-all d own at (g ∷ gs) [] h = tt
  fits-all d own at (g ∷ gs) (p ∷ ps) h =
      if-with ds (λ e. OwnTarget ds d own g.target) (λ es. All d own gs) (λ es. All d own (g ∷ gs)) (λ x xs. x ∷ xs) (fits_goal g.wanted T9 at p) (all_answers (fits_each at gs ps))
      (fits-own (OwnTarget ds d own g.target) g.wanted T9 at p h.0) (fits-all d own at gs ps h.1) (λ e es n m. (n, m))

  combined-own : (d : ℕ) (own : ℕ → Bool) (k : Key) (at : Place) (r : Reduce) (ps : List Goal × List Part) → AllGoals d own ps.0 → IfPart (IsOwn d own) (ok_of (combined k at r ps))
  combined-own d own k at r ps h =
      if-with ds (λ u. Unit {0}) (λ es. All d own ps.0) (IsOwn d own) (λ u es. P.Combine k (total_at k at) r (map (λ g. g.target) ps.0) es) (refused_unless (reduces r (first_wanted ps.0)) T11 at (tt {0})) (all_answers (fits_each at ps.0 ps.1))
      (whatever (ok_of (refused_unless (reduces r (first_wanted ps.0)) T11 at (tt {0})))) (fits-all d own at ps.0 ps.1 h) (λ u es _ n c. n)

  together-own : (d : ℕ) (own : ℕ → Bool) (ts : List SurfaceTarget) → At d own (AllGoals d own) (goals_together ts)
  together-own d own ts env known is =
      gives-judge ds (λ p. AllGoals d own p.0 × Unit {0}) (AllGoals d own) env.next (beside (goals ts env) (noted (tt {0}) (apart_from_first ts))) (λ p. Ok p.0)
      (gives-beside ds (AllGoals d own) (λ u. Unit {0}) env.next (goals ts env) (noted (tt {0}) (apart_from_first ts)) (goals-own d own ts env known is) (λ has clean. tt)) (λ p h. h.0)

  reduced-own : (d : ℕ) (own : ℕ → Bool) (ts : List SurfaceTarget) (r : Reduce) (at : Place) (es : List SurfaceExpr) → At d own (IsOwn d own) (reduced ts r at es)
  reduced-own d own ts r at es env known is =
      gives-judge ds (λ p. AllGoals d own p.0 × Unit {0}) (IsOwn d own) env.next (both (goals_together ts) (typed_all es) env) (combined env.key at r)
      (at-both d own (AllGoals d own) (λ a. Unit {0}) (goals_together ts) (typed_all es) (together-own d own ts) (anything d own (typed_all es)) env known is) (λ p h. combined-own d own env.key at r p h.0)

  one-own : (F : Type 0) (w : Option VType) (at : Place) → IfPart (λ t. F) w → IfPart (λ (e : Expr). F) (ok_of (one_of w at))
  one-own F None at h = tt
  one-own F (Some I32) at h = h
  one-own F (Some I64) at h = h
  one-own F (Some Flag) at h = tt
  one-own F (Some Node) at h = tt

  increment-own : (d : ℕ) (own : ℕ → Bool) (t : SurfaceTarget) (at : Place) (env : Env) → Mines d own env.known → env.depth ≡ d → Gives ds (IsOwn d own) env.next (judge (goal_at false t.owner t.property env) (incremented env.key at))
  increment-own d own t at env known is = gives-judge ds (FitsGoal d own) (IsOwn d own) env.next (goal_at false t.owner t.property env) (incremented env.key at) (goal-own d own false t.owner t.property env known is)
      (λ g h. if-then (λ e. OwnTarget ds d own g.target) (IsOwn d own) (one_of g.wanted at) (λ e. P.Combine env.key (total_at env.key at) R.Sum (g.target ∷ []) (e ∷ [])) (one-own (OwnTarget ds d own g.target) g.wanted at h) (λ e n c. (n, tt)))

  beside-iterator : (d : ℕ) (own : ℕ → Bool) (part : Env → Judged Stmt) (x : Option SurfaceName) → At d own (IsOwn d own) part → (env : Env) → Mines d own env.known → env.depth ≡ d
      → Gives ds (IsOwn d own) env.next (judge (both part (at_iterator x) env) (λ p. Ok p.0))
  beside-iterator d own part x good env known is = gives-judge ds (λ p. IsOwn d own p.0 × Unit {0}) (IsOwn d own) env.next (both part (at_iterator x) env) (λ p. Ok p.0)
      (at-both d own (IsOwn d own) (λ i. Unit {0}) part (at_iterator x) good (anything d own (at_iterator x)) env known is) (λ p h. h.0)

  grouped-own : (d : ℕ) (own : ℕ → Bool) (x p : SurfaceName) (at : Place) (e : SurfaceExpr) → At d own (IsOwn d own) (grouped x p at e)
  grouped-own d own x p at e env known is =
      gives-judge ds (λ ps. Unit {0}) (IsOwn d own) env.next (both (group_target x p) (in_group (typed e)) env) (λ ps. then_answer (fitted ps.0.1.1 T9 at ps.1) (P.Group env.key x.place ps.0.0 ps.0.1.0))
      (anything d own (both (group_target x p) (in_group (typed e))) env known is)
      (λ ps h. if-then (λ e. Unit {0}) (IsOwn d own) (fitted ps.0.1.1 T9 at ps.1) (P.Group env.key x.place ps.0.0 ps.0.1.0) (whatever (ok_of (fitted ps.0.1.1 T9 at ps.1))) (λ v n c. tt))

  assignment-own : (d : ℕ) (own : ℕ → Bool) (o : Option SurfaceName) (t : SurfaceTarget) (at : Place) (e : SurfaceExpr) → At d own (IsOwn d own) (assignment o t at e)
  assignment-own d own None t at e env known is = assigned-own d own t at e env known is
  assignment-own d own (Some p) t at e env known is = gives-if ds (IsOwn d own) env.next (names_graph (known_as env.known t.owner.text)) (grouped t.owner p at e env) (assigned t at e env)
      (λ g. grouped-own d own t.owner p at e env known is) (λ _. assigned-own d own t at e env known is)

  -- ---- declarations

  abbrev Is : Variable → ℕ → Type 0
  Is v n = declared_at ds n ≡ Some v

  abbrev AllAre : Variable → List ℕ → Type 0
  AllAre v [] = Unit {0}
  AllAre v (n ∷ ns) = Is v n × AllAre v ns

  abbrev AllOwn : (ℕ → Bool) → List ℕ → Type 0
  AllOwn own [] = Unit {0}
  AllOwn own (n ∷ ns) = (own n ≡ true) × AllOwn own ns

  is-first : (n : ℕ) (x : SurfaceName) (v : Variable) → slice_get ds n ≡ Some (record { name = x.text; variable = v }) → Is v n
  is-first n x v h = ap (λ o. option_map (λ (x : Declaration). x.variable) o) h

  all-declared : (v : Variable) (xs : List SurfaceName) (env : Env) → Gives ds (AllAre v) env.next (declared_all v xs env)
  all-declared v [] env = λ has clean. tt
  all-declared v (x ∷ xs) env =
      gives-judge ds (λ p. Is v p.0 × AllAre v p.1) (AllAre v) env.next (beside (declared_as env x v) (declared_all v xs (with_name env x v))) (λ p. Ok (p.0 ∷ p.1))
      (gives-beside ds (Is v) (AllAre v) env.next (declared_as env x v) (declared_all v xs (with_name env x v)) (λ has clean. is-first env.next x v has.0) (all-declared v xs (with_name env x v)))
      (λ p h. h)

  plain-scoped : (d : ℕ) (own : ℕ → Bool) (k : Key) (v : Variable) (ns : List ℕ) → v.depth ≡ d → AllAre v ns → Scoped ds d own (plain_declarations k ns)
  plain-scoped d own k v [] e h = tt
  plain-scoped d own k v (n ∷ ns) e h = (depth-is n v h.0 ∙ e, plain-scoped d own k v ns e h.1)

  declarations-own : (s : Sort) (d : ℕ) (own : ℕ → Bool) (k : Key) (v : Variable) (xs : List SurfaceName) (ns : List ℕ) → v.depth ≡ d → AllAre v ns → IfPart (IsOwn d own) (ok_of (declarations_as s k xs ns))
  declarations-own Sorts.Edge d own k v xs ns e h = tt
  declarations-own Sorts.Scalar d own k v xs ns e h = λ c. plain-scoped d own k v ns e h
  declarations-own Sorts.NodeProperty d own k v xs ns e h = λ c. plain-scoped d own k v ns e h
  declarations-own Sorts.Graph d own k v xs ns e h = λ c. plain-scoped d own k v ns e h
  declarations-own Sorts.Iterator d own k v xs ns e h = λ c. plain-scoped d own k v ns e h
  declarations-own Sorts.EdgeProperty d own k v xs ns e h = λ c. plain-scoped d own k v ns e h

  plain-own : (d : ℕ) (own : ℕ → Bool) (t : SurfaceType) (xs : List SurfaceName) → At d own (IsOwn d own) (declared_plainly t xs)
  plain-own d own t xs env known is =
      let v = variable_of t env.depth in
      let parts = beside (noted (tt {0}) (type_broken t Local env)) (declared_all v xs env) in
      gives-judge ds (λ p. Unit {0} × AllAre v p.1) (IsOwn d own) env.next parts (λ p. declarations_as (sort_of t) env.key xs p.1)
      (λ has clean. if-both (λ u. Unit {0}) (AllAre v) (Some (tt {0})) (declared_all v xs env).part tt (all-declared v xs env has (append-empty (type_broken t Local env) (declared_all v xs env).broken clean).1))
      (λ p h. declarations-own (sort_of t) d own env.key v xs p.1 is h.1)

  -- a name that is declared with a value has the next index
  abbrev IsNext : Env → Variable → ℕ → Type 0
  IsNext env v n = Is v n × (n ≡ env.next)

  typed-next : (t : SurfaceType) (x : SurfaceName) (env : Env) → Gives ds (IsNext env (variable_of t env.depth)) env.next (declared_typed t x env)
  typed-next t x env has clean = (ap (λ o. option_map (λ (x : Declaration). x.variable) o) has.0, refl)

  value-own : (s : Sort) (d : ℕ) (own : ℕ → Bool) (k : Key) (x : SurfaceName) (at : Place) (t : VType) (v : Variable) (p : ℕ × Part) → v.depth ≡ d → Is v p.0 → IfPart (IsOwn d own) (ok_of (declared_value k x at t s p))
  value-own Sorts.Scalar d own k x at t v p e h =
      if-then (λ e. Unit {0}) (IsOwn d own) (fitted t T9 at p.1) (λ e. P.Declare k p.0 (Some e)) (whatever (ok_of (fitted t T9 at p.1))) (λ a m c. depth-is p.0 v h ∙ e)
  value-own Sorts.Edge d own k x at t v p e h = tt
  value-own Sorts.Graph d own k x at t v p e h = tt
  value-own Sorts.Iterator d own k x at t v p e h = tt
  value-own Sorts.NodeProperty d own k x at t v p e h = tt
  value-own Sorts.EdgeProperty d own k x at t v p e h = tt

  with-own : (d : ℕ) (own : ℕ → Bool) (o : Option SurfaceName) (t : SurfaceType) (x : SurfaceName) (at : Place) (e : SurfaceExpr) → At d own (IsOwn d own) (declared_with o t x at e)
  with-own d own (Some y) t x at e env known is =
      let v = variable_of t env.depth in
      gives-judge ds (λ p. IsNext env v p.0 × Unit {0}) (IsOwn d own) env.next (both (declared_typed t x) (edge_owner y) env) (λ p. Ok (P.DeclareEdge p.0 p.1.index y.place))
      (gives-beside ds (IsNext env v) (λ b. Unit {0}) env.next (declared_typed t x env) (edge_owner y (later env (declared_typed t x env))) (typed-next t x env) (λ has clean. whatever (edge_owner y (later env (declared_typed t x env))).part))
      (λ p h c. depth-is p.0 v h.0.0 ∙ is)
  with-own d own None t x at e env known is =
      let v = variable_of t env.depth in
      gives-judge ds (λ p. IsNext env v p.0 × Unit {0}) (IsOwn d own) env.next (both (declared_typed t x) (typed e) env) (declared_value env.key x at (vtype_of t) (sort_of t))
      (gives-beside ds (IsNext env v) (λ b. Unit {0}) env.next (declared_typed t x env) (typed e (later env (declared_typed t x env))) (typed-next t x env) (λ has clean. whatever (typed e (later env (declared_typed t x env))).part))
      (λ p h. value-own (sort_of t) d own env.key x at (vtype_of t) v p is h.0.0)

  -- ---- the names that are known after a statement

  plain-covers : (own : ℕ → Bool) (k : Key) (ns : List ℕ) → Covers own (plain_declarations k ns) → AllOwn own ns
  plain-covers own k [] c = tt
  plain-covers own k (n ∷ ns) c = (c n (in-first n (locals (plain_declarations k ns))), plain-covers own k ns (λ x h. c x (in-right (n ∷ []) (locals (plain_declarations k ns)) x h)))

  next-mine : (d : ℕ) (own : ℕ → Bool) (env : Env) (x : SurfaceName) (v : Variable) → v.depth ≤ d → Mines d own env.known → Is v env.next → own env.next ≡ true → Mines d own (with_name env x v).known
  next-mine d own env x v low known is o = mines-with d own env.known x.text (record { index = env.next; variable = v }) known (is, (low, λ s l. o))

  -- other: what stands around the declarations themselves
  names-mine : (d : ℕ) (own : ℕ → Bool) (v : Variable) (xs : List SurfaceName) (env other : Env) → v.depth ≤ d → other.next ≡ env.next → Mines d own env.known → Gives ds (λ ns. AllOwn own ns → Mines d own (with_names v xs env).known) other.next (declared_all v xs other)
  names-mine d own v [] env other low same known = λ has clean. λ o. known
  names-mine d own v (x ∷ xs) env other low same known =
      gives-judge ds (λ p. IsNext other v p.0 × ((own env.next ≡ true) → AllOwn own p.1 → Mines d own (with_names v xs (with_name env x v)).known)) (λ ns. AllOwn own ns → Mines d own (with_names v (x ∷ xs) env).known) other.next
      (beside (declared_as other x v) (declared_all v xs (with_name other x v))) (λ p. Ok (p.0 ∷ p.1))
      (λ has clean. gives-beside ds (IsNext other v) (λ ns. (own env.next ≡ true) → AllOwn own ns → Mines d own (with_names v xs (with_name env x v)).known) other.next (declared_as other x v) (declared_all v xs (with_name other x v))
      (λ has clean. (is-first other.next x v has.0, refl))
      (λ more clean. if-given (own env.next ≡ true) (λ ns. AllOwn own ns → Mines d own (with_names v xs (with_name env x v)).known) (declared_all v xs (with_name other x v)).part
      (λ o. names-mine d own v xs (with_name env x v) (with_name other x v) low (ap (λ n. n + 1) same) (next-mine d own env x v low known (subst (Is v) same (is-first other.next x v has.0)) o) more clean))
      has clean)
      (λ p h o. h.1 (ap own (sym (h.0.1 ∙ same)) ∙ o.0) o.1)

  abbrev After : ℕ → (ℕ → Bool) → SurfaceStmt → Env → Stmt → Type 0
  After d own a env s = Covers own s → Mines d own (known_after a env)

  plain-after : (s : Sort) (d : ℕ) (own : ℕ → Bool) (k : Key) (xs : List SurfaceName) (ns : List ℕ) (M : Type 0) → (AllOwn own ns → M) → IfPart (λ p. Covers own p → M) (ok_of (declarations_as s k xs ns))
  plain-after Sorts.Edge d own k xs ns M h = tt
  plain-after Sorts.Scalar d own k xs ns M h = λ c. h (plain-covers own k ns c)
  plain-after Sorts.NodeProperty d own k xs ns M h = λ c. h (plain-covers own k ns c)
  plain-after Sorts.Graph d own k xs ns M h = λ c. h (plain-covers own k ns c)
  plain-after Sorts.Iterator d own k xs ns M h = λ c. h (plain-covers own k ns c)
  plain-after Sorts.EdgeProperty d own k xs ns M h = λ c. h (plain-covers own k ns c)

  value-after : (s : Sort) (own : ℕ → Bool) (k : Key) (x : SurfaceName) (at : Place) (t : VType) (p : ℕ × Part) (M : Type 0) → (own p.0 ≡ true → M) → IfPart (λ q. Covers own q → M) (ok_of (declared_value k x at t s p))
  value-after Sorts.Scalar own k x at t p M h =
      if-then (λ e. Unit {0}) (λ q. Covers own q → M) (fitted t T9 at p.1) (λ e. P.Declare k p.0 (Some e)) (whatever (ok_of (fitted t T9 at p.1))) (λ a m c. h (c p.0 (in-first p.0 [])))
  value-after Sorts.Edge own k x at t p M h = tt
  value-after Sorts.Graph own k x at t p M h = tt
  value-after Sorts.Iterator own k x at t p M h = tt
  value-after Sorts.NodeProperty own k x at t p M h = tt
  value-after Sorts.EdgeProperty own k x at t p M h = tt

  with-after : (d : ℕ) (own : ℕ → Bool) (o : Option SurfaceName) (t : SurfaceType) (x : SurfaceName) (at : Place) (e : SurfaceExpr) (env other : Env) → other.next ≡ env.next → other.depth ≡ env.depth → env.depth ≡ d → Mines d own env.known
      → Gives ds (λ q. Covers own q → Mines d own (with_name env x (variable_of t env.depth)).known) other.next (declared_with o t x at e other)
  with-after d own (Some y) t x at e env other same deep is known =
      let v = variable_of t other.depth in
      let low : env.depth ≤ d = omega (arith, is) in
      gives-judge ds (λ p. IsNext other v p.0 × Unit {0}) (λ q. Covers own q → Mines d own (with_name env x (variable_of t env.depth)).known) other.next (both (declared_typed t x) (edge_owner y) other) (λ p. Ok (P.DeclareEdge p.0 p.1.index y.place))
      (gives-beside ds (IsNext other v) (λ b. Unit {0}) other.next (declared_typed t x other) (edge_owner y (later other (declared_typed t x other))) (typed-next t x other) (λ has clean. whatever (edge_owner y (later other (declared_typed t x other))).part))
      (λ p h c. next-mine d own env x (variable_of t env.depth) low known (subst (Is (variable_of t env.depth)) (h.0.1 ∙ same) (subst (λ n. Is (variable_of t n) p.0) deep h.0.0)) (ap own (sym (h.0.1 ∙ same)) ∙ c p.0 (in-first p.0 [])))
  with-after d own None t x at e env other same deep is known =
      let v = variable_of t other.depth in
      let low : env.depth ≤ d = omega (arith, is) in
      gives-judge ds (λ p. IsNext other v p.0 × Unit {0}) (λ q. Covers own q → Mines d own (with_name env x (variable_of t env.depth)).known) other.next (both (declared_typed t x) (typed e) other) (declared_value other.key x at (vtype_of t) (sort_of t))
      (gives-beside ds (IsNext other v) (λ b. Unit {0}) other.next (declared_typed t x other) (typed e (later other (declared_typed t x other))) (typed-next t x other) (λ has clean. whatever (typed e (later other (declared_typed t x other))).part))
      (λ p h. value-after (sort_of t) own other.key x at (vtype_of t) p (Mines d own (with_name env x (variable_of t env.depth)).known)
      (λ o. next-mine d own env x (variable_of t env.depth) low known (subst (Is (variable_of t env.depth)) (h.0.1 ∙ same) (subst (λ n. Is (variable_of t n) p.0) deep h.0.0)) (ap own (sym (h.0.1 ∙ same)) ∙ o)))

  -- other: what stands around the statement itself, which has its number
  after-own : (d : ℕ) (own : ℕ → Bool) (a : SurfaceStmt) (env : Env) → Mines d own env.known → env.depth ≡ d → Gives ds (After d own a env) env.next (numbered (checked a) env)
  after-own d own a env known is = by a
    where
      other : Env
      other = record env { number = env.number + 1; key = operators_of env.number }

      low : env.depth ≤ d
      low = omega (arith, is)

      by : (a : SurfaceStmt) → Gives ds (After d own a env) env.next (numbered (checked a) env)
      by (S.Declare t xs) has clean =
          let v = variable_of t env.depth in
          let parts = beside (noted (tt {0}) (type_broken t Local other)) (declared_all v xs other) in
          gives-judge ds (λ p. Unit {0} × (AllOwn own p.1 → Mines d own (with_names v xs env).known)) (After d own (S.Declare t xs) env) env.next parts (λ p. declarations_as (sort_of t) other.key xs p.1)
          (λ has clean. if-both (λ u. Unit {0}) (λ ns. AllOwn own ns → Mines d own (with_names v xs env).known) (Some (tt {0})) (declared_all v xs other).part tt
          (names-mine d own v xs env other low refl known has (append-empty (type_broken t Local other) (declared_all v xs other).broken clean).1))
          (λ p h. plain-after (sort_of t) d own other.key xs p.1 (Mines d own (with_names v xs env).known) h.1) has clean
      by (S.DeclareAs t x at e) has clean = with-after d own (edge_declared t e) t x at e env other refl refl is known has clean
      by s has clean = free (Mines d own env.known) own (numbered (checked s) env).part known

  -- ---- a statement

  abbrev nobody : ℕ → Bool
  nobody x = false

  mines-all : (d : ℕ) (own : ℕ → Bool) (ks : List Known) → Mines d nobody ks → Mines d own ks
  mines-all d own [] h = tt
  mines-all d own (k ∷ ks) h = ((h.0.0, (h.0.1.0, λ s l. absurd (both_ways false refl (h.0.1.1 s l)))), mines-all d own ks h.1)

  mines-far : (d e : ℕ) (own : ℕ → Bool) (ks : List Known) → d ≤ e → Mines d own ks → Mines e anyone ks
  mines-far d e own [] l h = tt
  mines-far d e own (k ∷ ks) l h =
      let low : k.binding.variable.depth ≤ d = h.0.1.0 in
      ((h.0.0, (omega (arith, low, l), λ s l. refl)), mines-far d e own ks l h.1)

  -- whatever is the body's own, what it declares is
  abbrev AtAll : ℕ → (Env → Judged Stmt) → Type 0
  AtAll d part = (own : ℕ → Bool) → At d own (IsOwn d own) part

  -- a body of a parallel loop, and one of a sequential loop
  abbrev InLoop : ℕ → Stmt → Type 0
  InLoop d s = Scoped ds (d + 1) (is_in (locals s)) s

  abbrev Around : ℕ → Stmt → Type 0
  Around d s = Scoped ds d anyone s

  covered : (d : ℕ) (o : Option Stmt) → IfPart (λ s. (own : ℕ → Bool) → IsOwn (d + 1) own s) o → IfPart (InLoop d) o
  covered d None h = tt
  covered d (Some s) h = h (is_in (locals s)) (λ x k. k)

  loop-body : (d : ℕ) (body : SurfaceStmt) → AtAll (d + 1) (checked body) → At (d + 1) nobody (InLoop d) (numbered (checked body))
  loop-body d body good env known is has clean = covered d (numbered (checked body) env).part
      (if-each (λ own s. IsOwn (d + 1) own s) (numbered (checked body) env).part (λ own. at-numbered (d + 1) own (IsOwn (d + 1) own) (checked body) (good own) env (mines-all (d + 1) own env.known known) is has clean))

  loop-code : (d : ℕ) (filter : SurfaceExpr) (body : SurfaceStmt) → AtAll (d + 1) (checked body) → At (d + 1) nobody (λ p. Unit {0} × InLoop d p.1) (both (test filter) (numbered (checked body)))
  loop-code d filter body good = at-both (d + 1) nobody (λ e. Unit {0}) (InLoop d) (test filter) (numbered (checked body)) (anything (d + 1) nobody (test filter)) (loop-body d body good)

  around-all : (d : ℕ) (o : Option Stmt) → IfPart (IsOwn d anyone) o → IfPart (Around d) o
  around-all d None h = tt
  around-all d (Some s) h = h (λ x k. refl)

  around-body : (d e : ℕ) (own : ℕ → Bool) (body : SurfaceStmt) → d ≤ e → At e anyone (IsOwn e anyone) (checked body) → (env : Env) → Mines d own env.known → env.depth ≡ e → Gives ds (Around e) env.next (numbered (checked body) env)
  around-body d e own body l good env known is has clean =
      around-all e (numbered (checked body) env).part (at-numbered e anyone (IsOwn e anyone) (checked body) good env (mines-far d e own env.known l known) is has clean)

  same : (d : ℕ) → d ≤ d
  same d = omega arith

  returned-own : (d : ℕ) (own : ℕ → Bool) (k : Key) (at : Place) (o : Option VType) (p : Part) → IfPart (IsOwn d own) (ok_of (returned k at o p))
  returned-own d own k at None p = tt
  returned-own d own k at (Some t) p = if-then (λ e. Unit {0}) (IsOwn d own) (fitted t T14 at p) (λ e. P.Return k at (Some e)) (whatever (ok_of (fitted t T14 at p))) (λ e n c. tt)

  pub checked-own : (s : SurfaceStmt) (d : ℕ) → AtAll d (checked s)
  checked-own S.Skip d own env known is = λ has clean. λ c. tt
  checked-own (S.Then a b) d own env known is =
      let x = numbered (checked a) env in
      let y = checked b (following a env x) in
      gives-judge ds (λ p. (IsOwn d own p.0 × After d own a env p.0) × (Mines d own (known_after a env) → IsOwn d own p.1)) (IsOwn d own) env.next (beside x y) (λ p. Ok (P.Then p.0 p.1))
      (gives-beside ds (λ s. IsOwn d own s × After d own a env s) (λ s. Mines d own (known_after a env) → IsOwn d own s) env.next x y
      (λ has clean. if-and (IsOwn d own) (After d own a env) x.part (at-numbered d own (IsOwn d own) (checked a) (checked-own a d own) env known is has clean) (after-own d own a env known is has clean))
      (λ has clean. if-given (Mines d own (known_after a env)) (IsOwn d own) y.part (λ m. checked-own b d own (following a env x) m is has clean)))
      (λ p h c.
      let left : Covers own p.0 = λ z k. c z (in-left (locals p.0) (locals p.1) z k) in
      let right : Covers own p.1 = λ z k. c z (in-right (locals p.0) (locals p.1) z k) in
      (h.0.0 left, h.1 (h.0.1 left) right))
  checked-own (S.Declare t xs) d own env known is = plain-own d own t xs env known is
  checked-own (S.DeclareAs t x at e) d own env known is = with-own d own (edge_declared t e) t x at e env known is
  checked-own (S.Assign t at e) d own env known is = assignment-own d own t.property t at e env known is
  checked-own (S.Defer t at e iterator) d own env known is = beside-iterator d own (deferred t at e) iterator (deferred-own d own t at e) env known is
  checked-own (S.Combine ts op at es iterator) d own env known is = beside-iterator d own (reduced ts op at es) iterator (reduced-own d own ts op at es) env known is
  checked-own (S.Increment t at) d own env known is = increment-own d own t at env known is
  checked-own (S.Call op f es xs) d own env known is = λ has clean. tt
  checked-own (S.Loop at Loop.Foreach h filter body) d own env known is =
      let inner = both (test filter) (numbered (checked body)) in
      gives-judge ds (λ p. Unit {0} × (Unit {0} × InLoop d p.1.1.1)) (IsOwn d own) env.next (both (ranged h) (iterated h.iterator 1 inner) env) (λ p. Ok (P.Foreach env.key at (head_with h p.0 p.1.0) p.1.1.0 p.1.1.1))
      (at-both d own (λ b. Unit {0}) (λ p. Unit {0} × InLoop d p.1.1) (ranged h) (iterated h.iterator 1 inner) (anything d own (ranged h))
      (at-iterated d 1 own nobody (λ p. Unit {0} × InLoop d p.1) h.iterator inner (λ ks m. mines-deeper d own nobody ks m) (loop-code d filter body (checked-own body (d + 1)))) env known is)
      (λ p n c. n.1.1)
  checked-own (S.Loop at Loop.For h filter body) d own env known is =
      let inner = both (test filter) (numbered (checked body)) in
      let none : d + 0 ≡ d = omega arith in
      gives-judge ds (λ p. Unit {0} × (Unit {0} × Around (d + 0) p.1.1.1)) (IsOwn d own) env.next (both (ranged h) (iterated h.iterator 0 inner) env) (λ p. Ok (P.For env.key at (head_with h p.0 p.1.0) p.1.1.0 p.1.1.1))
      (at-both d own (λ b. Unit {0}) (λ p. Unit {0} × Around (d + 0) p.1.1) (ranged h) (iterated h.iterator 0 inner) (anything d own (ranged h))
      (at-iterated d 0 own anyone (λ p. Unit {0} × Around (d + 0) p.1) h.iterator inner (λ ks m. mines-far d (d + 0) own ks (omega arith) m)
      (at-both (d + 0) anyone (λ e. Unit {0}) (Around (d + 0)) (test filter) (numbered (checked body)) (anything (d + 0) anyone (test filter)) (around-body (d + 0) (d + 0) anyone body (same (d + 0)) (checked-own body (d + 0) anyone)))) env known is)
      (λ p n c. subst (λ m. Around m p.1.1.1) none n.1.1)
  checked-own (S.If at t a b) d own env known is =
      let branches = both (numbered (checked a)) (numbered (checked b)) in
      gives-judge ds (λ p. Unit {0} × (IsOwn d own p.1.0 × IsOwn d own p.1.1)) (IsOwn d own) env.next (both (test t) branches env) (λ p. Ok (P.If env.key p.0 p.1.0 p.1.1))
      (at-both d own (λ e. Unit {0}) (λ p. IsOwn d own p.0 × IsOwn d own p.1) (test t) branches (anything d own (test t))
      (at-both d own (IsOwn d own) (IsOwn d own) (numbered (checked a)) (numbered (checked b)) (at-numbered d own (IsOwn d own) (checked a) (checked-own a d own)) (at-numbered d own (IsOwn d own) (checked b) (checked-own b d own))) env known is)
      (λ p h c. (h.1.0 (λ z k. c z (in-left (locals p.1.0) (locals p.1.1) z k)), h.1.1 (λ z k. c z (in-right (locals p.1.0) (locals p.1.1) z k))))
  checked-own (S.While at t body) d own env known is =
      gives-judge ds (λ p. Unit {0} × Around d p.1) (IsOwn d own) env.next (both (test t) (numbered (checked body)) env) (λ p. Ok (P.While env.key at p.0 p.1))
      (at-both d own (λ e. Unit {0}) (Around d) (test t) (numbered (checked body)) (anything d own (test t)) (around-body d d own body (same d) (checked-own body d anyone)) env known is) (λ p h c. h.1)
  checked-own (S.Do at body t) d own env known is =
      gives-judge ds (λ p. Around d p.0 × Unit {0}) (IsOwn d own) env.next (both (numbered (checked body)) (test t) env) (λ p. Ok (P.Do env.key at p.0 p.1))
      (at-both d own (Around d) (λ e. Unit {0}) (numbered (checked body)) (test t) (around-body d d own body (same d) (checked-own body d anyone)) (anything d own (test t)) env known is) (λ p h c. h.0)
  checked-own (S.InBfs at v g root filter body) d own env known is =
      let ends = both (graph_searched g) (rooted root) in
      let inner = both (test filter) (numbered (checked body)) in
      gives-judge ds (λ p. Unit {0} × (Unit {0} × InLoop d p.1.1.1)) (IsOwn d own) env.next (both ends (iterated v 1 inner) env) (λ p. Ok (P.InBfs env.key at (search_of root p.0 p.1.0) p.1.1.0 p.1.1.1))
      (at-both d own (λ b. Unit {0}) (λ p. Unit {0} × InLoop d p.1.1) ends (iterated v 1 inner) (anything d own ends)
      (at-iterated d 1 own nobody (λ p. Unit {0} × InLoop d p.1) v inner (λ ks m. mines-deeper d own nobody ks m) (loop-code d filter body (checked-own body (d + 1)))) env known is)
      (λ p n c. n.1.1)
  checked-own (S.InBfsBoth at v g root filter body reverse back_filter back) d own env known is =
      let ends = both (graph_searched g) (rooted root) in
      let there = both (test filter) (numbered (checked body)) in
      let back_part = searched (test back_filter) (numbered (checked back)) in
      let inner = both there (numbered back_part) in
      gives-judge ds (λ p. Unit {0} × ((Unit {0} × InLoop d p.1.1.0.1) × InLoop d p.1.1.1.1.1)) (IsOwn d own) env.next (both ends (iterated v 1 inner) env)
      (λ p. Ok (P.InBfsBoth env.key at (search_of root p.0 p.1.0) p.1.1.0.0 p.1.1.0.1 p.1.1.1.0 p.1.1.1.1.0 p.1.1.1.1.1))
      (at-both d own (λ b. Unit {0}) (λ p. (Unit {0} × InLoop d p.1.0.1) × InLoop d p.1.1.1.1) ends (iterated v 1 inner) (anything d own ends)
      (at-iterated d 1 own nobody (λ p. (Unit {0} × InLoop d p.0.1) × InLoop d p.1.1.1) v inner (λ ks m. mines-deeper d own nobody ks m)
      (at-both (d + 1) nobody (λ p. Unit {0} × InLoop d p.1) (λ q. InLoop d q.1.1) there (numbered back_part) (loop-code d filter body (checked-own body (d + 1)))
      (at-numbered (d + 1) nobody (λ q. InLoop d q.1.1) back_part
      (λ env known is. gives-judge ds (λ p. Unit {0} × InLoop d p.1) (λ q. InLoop d q.1.1) env.next (both (test back_filter) (numbered (checked back)) env) (λ p. Ok (env.key, p))
      (loop-code d back_filter back (checked-own back (d + 1)) env known is) (λ p h. h.1))))) env known is)
      (λ p n c. (n.1.0.1, n.1.1))
  checked-own (S.Return at None) d own env known is = λ has clean. if-good (IsOwn d own) (is_none env.result) T14 at (P.Return env.key at None) (λ _ c. tt)
  checked-own (S.Return at (Some e)) d own env known is =
      gives-judge ds (λ p. Unit {0}) (IsOwn d own) env.next (typed e env) (returned env.key at env.result) (anything d own (typed e) env known is) (λ p h. returned-own d own env.key at env.result p)

-- ---- the body of a procedure

module _ (ds : List Declaration) where
  names-around : (v : Variable) (xs : List SurfaceName) (env other : Env) → v.depth ≤ 0 → Mines ds 0 anyone env.known → Has ds env.next (declared_all v xs other).declared → Mines ds 0 anyone (with_names v xs env).known
  names-around v [] env other low known has = known
  names-around v (x ∷ xs) env other low known has =
      names-around v xs (with_name env x v) (with_name other x v) low
      (mines-with ds 0 anyone env.known x.text (record { index = env.next; variable = v }) known (ap (λ o. option_map (λ (x : Declaration). x.variable) o) has.0, (low, λ s l. refl))) has.1

  parameters-around : (gs : List SurfaceGroup) (env : Env) → Mines ds 0 anyone env.known → Has ds env.next (parameters gs env).declared → Mines ds 0 anyone (with_parameters gs env).known
  parameters-around [] env known has = known
  parameters-around (g ∷ gs) env known has =
      let v = variable_of g.vtype 0 in
      let inner = with_names v g.names env in
      let one = (declared_all v g.names env).declared in
      let parts = has-append ds env.next one (parameters gs inner).declared has in
      let at : env.next + length one ≡ inner.next = ap (λ n. env.next + n) (names-declared v g.names env) ∙ sym (names-next v g.names env) in
      let low : v.depth ≤ 0 = omega arith in
      parameters-around gs inner (names-around v g.names env env low known parts.0) (subst (λ n. Has ds n (parameters gs inner).declared) at parts.1)

-- it stands in a sequential phase
names-depth : (v : Variable) (xs : List SurfaceName) (env : Env) → (with_names v xs env).depth ≡ env.depth
names-depth v [] env = refl
names-depth v (x ∷ xs) env = names-depth v xs (with_name env x v)

parameters-depth : (gs : List SurfaceGroup) (env : Env) → (with_parameters gs env).depth ≡ env.depth
parameters-depth [] env = refl
parameters-depth (g ∷ gs) env = parameters-depth gs (with_names (variable_of g.vtype 0) g.names env) ∙ names-depth (variable_of g.vtype 0) g.names env

body-depth : (p : SurfaceProcedure) → (env_of_body p).depth ≡ 0
body-depth p = parameters-depth p.outputs (env_of_outputs p) ∙ parameters-depth p.inputs (nothing_known (result_of p))

-- the names that are known in it
mines-body : (p : SurfaceProcedure) → Mines (parts_of p).declared 0 anyone (env_of_body p).known
mines-body p =
    let ds = (parts_of p).declared in
    let ins = (parameters p.inputs (nothing_known (result_of p))).declared in
    let outs = (parameters p.outputs (env_of_outputs p)).declared in
    let body = numbered (checked p.body) (env_of_body p) in
    let heads = has-append ds 0 (ins ++ outs) body.declared (has-behind ds [] ds refl) in
    let inputs = has-append ds 0 ins outs heads.0 in
    let ins_next : (env_of_outputs p).next ≡ 0 + count_names p.inputs = parameters-next p.inputs (nothing_known (result_of p)) in
    let ins_size : length ins ≡ count_names p.inputs = parameters-declared p.inputs (nothing_known (result_of p)) in
    let at_outs : 0 + length ins ≡ (env_of_outputs p).next = omega (arith, ins_next, ins_size) in
    let known_inputs : Mines ds 0 anyone (env_of_outputs p).known = parameters-around ds p.inputs (nothing_known (result_of p)) tt inputs.0 in
    parameters-around ds p.outputs (env_of_outputs p) known_inputs (subst (λ n. Has ds n outs) at_outs inputs.1)

pub program-scoped : (p : Program) → IsTyped p → IsScoped p
program-scoped p typed =
    let source = typed.source in
    let parts = parts_of source in
    let ds = parts.declared in
    let none = append-empty parts.broken _ typed.clean in
    let env = env_of_body source in
    let body = numbered (checked source.body) env in
    let gives : Gives ds (Around ds 0) env.next body =
    around-body ds 0 0 anyone source.body (omega arith) (checked-own ds source.body 0 anyone) env (mines-body source) (body-depth source) in
    let held : IfPart (λ p. IsScoped p) (elaborated source).part =
    if-by (λ q. Unit {0} × (Unit {0} × Around ds 0 q.1.1)) (λ p. IsScoped p) parts.part _ (body-in source (Around ds 0) gives none.0) (λ q h. h.1.1) in
    subst (λ o. IfPart (λ p. IsScoped p) o) typed.is held
