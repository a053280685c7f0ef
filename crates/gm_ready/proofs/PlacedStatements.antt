-- Typed statements stand as deep as they are judged, and know edges only where one was declared.
use Rattle.std.proofs.Common.{◌≡◌, ◌+◌, ◌≤◌, ℕ, Bool, true, false, List, [], ◌∷◌, ◌++◌, map, refl, sym, ap, ◌∙◌, arith, Option, Some, None}
use Rattle.std.specs.Prelude.{◌&&◌, ◌||◌, not, is_none, nat_eq, option_map, slice_get, if◌then◌else◌, Ok}
use Rattle.std.proofs.lemmas.Bool.{both_ways, eqb-true}
use Rattle.gm_base.specs.declared.places.Place.{Place}
use Rattle.gm_base.specs.declared.rules.Rule.{Rule}
use Rattle.gm_base.specs.declared.rules.Rule.TheVariants.{T4, T7, T9, T11, T12, T14}
use Rattle.gm_base.specs.declared.rules.Refusal.{Refusal}
use Rattle.gm_value.specs.declared.values.VType.{VType}
use Rattle.gm_value.specs.declared.values.VType.TheVariants.{I32, I64, Flag, Node}
use Rattle.gm_value.specs.declared.reductions.Reduce.{Reduce}
use Rattle.gm_value.specs.declared.reductions.Reduce.TheVariants as R
use Rattle.gm_ast.specs.declared.tree.Declaration.{Declaration}
use Rattle.gm_ast.specs.declared.tree.Head.{Head}
use Rattle.gm_ast.specs.declared.tree.Key.{Key}
use Rattle.gm_ast.specs.declared.tree.Stage.TheVariants.{Operator}
use Rattle.gm_ast.specs.declared.tree.Sort.{Sort}
use Rattle.gm_ast.specs.declared.tree.Sort.TheVariants as Sorts
use Rattle.gm_ast.specs.declared.tree.Target.{Target}
use Rattle.gm_ast.specs.declared.tree.Target.TheVariants as T
use Rattle.gm_ast.specs.declared.tree.Variable.{Variable}
use Rattle.gm_ast.specs.declared.kinds.Binding.{Binding}
use Rattle.gm_ast.specs.declared.kinds.Goal.{Goal}
use Rattle.gm_ast.specs.declared.kinds.Role.TheVariants.{Local}
use Rattle.gm_ast.specs.declared.surface.LoopWord.{LoopWord}
use Rattle.gm_ast.specs.declared.surface.LoopWord.TheVariants as Loop
use Rattle.gm_ast.specs.declared.surface.TypeWord.TheVariants as Word
use Rattle.gm_ast.specs.declared.surface.Bearer.TheVariants.{Nodes, Edges}
use Rattle.gm_ast.specs.Surface.{SurfaceName, SurfaceType, Plain, Property, SurfaceTarget, SurfaceExpr, SurfaceStmt}
use Rattle.gm_ast.specs.Surface as S
use Rattle.gm_ast.specs.Program as P
use Rattle.gm_ast.specs.Program.{Expr, Stmt}
use Rattle.gm_ast.specs.Judged.{Judged, Answer, judge, beside, broken_by, ok_of, refused, refused_unless, then_answer, noted, unless}
use Rattle.gm_ast.specs.Loops.{declared_at, is_property}
use Rattle.gm_ast.specs.Names.{Env, known_answer, is, is_node, sort_eq, used, known_as, declared_as, with_name, both, judged_each, later, iterated, operators_of, numbered}
use Rattle.gm_ast.specs.Kinds.{Part, fitted}
use Rattle.gm_ast.specs.Typing.{typed, start_of, ranged, head_with}
use Rattle.gm_ast.specs.Statements.{scalar_goal_as, scalar_goal, property_goal, goal_at, fits_goal, reduces, first_wanted, total_at, fits_each, all_answers, combined, one_of, incremented, goals, typed_all, apart_from_first, goals_together, reduced, names_graph, group_goal, group_target, in_group, grouped, assigned, deferred, assignment, returned, at_iterator, property_fits, holds_node, graph_named, type_broken, sort_of, vtype_of, variable_of, declared_all, with_names, known_after, plain_declarations, declarations_as, declared_plainly, edge_declared, edge_owner, declared_value, declared_typed, declared_with, following, loops_of, loop_of, test, graph_searched, rooted, search_of, searched, checked}
use Rattle.gm_ready.proofs.Tables.{Has, has-append}
use Rattle.gm_ready.proofs.Judging.{IfPart, if-by, if-both, if-good, if-then, if-else, Gives, gives-judge, gives-beside, gives-if, append-empty}
use Rattle.gm_ready.proofs.Statements.{if-with}
use Rattle.gm_ready.proofs.Alike.{AllSpell, goals-spell, alike}
use Rattle.gm_ready.proofs.Placing.{Alike, is_through_one, declares_edge, IsIteratorAt, PlacedIn, AllPlaced, PlacedTarget, PlacedTargets, PlacedGraph, Placed, IsKnown, Knows, IsBound, knows-more, knows-with, knows-bound, At, at-both, at-used, AtKey, any-key, key-both, key-iterated, key-numbered}
use Rattle.gm_ready.proofs.PlacedExpressions.{PlacedPart, fitted-placed, condition-placed, typed-placed}

-- ---- small facts

or-left : (a b : Bool) → a ≡ true → a || b ≡ true
or-left a b h = ap (λ c. c || b) h

or-right : (a b : Bool) → b ≡ true → a || b ≡ true
or-right true b h = refl
or-right false b h = h

or-maps : (a b c : Bool) → (b ≡ true → c ≡ true) → a || b ≡ true → a || c ≡ true
or-maps true b c f h = refl
or-maps false b c f h = f h

broken-not : {A : Type 0} (x : Refusal) (xs : List Refusal) → x ∷ xs ≡ [] → A
broken-not x xs h = absurd (both_ways false refl (ap none_in h))
  where
    none_in : List Refusal → Bool
    none_in [] = true
    none_in (x ∷ xs) = false

pub from-unless : (b : Bool) (r : Rule) (at : Place) → unless b r at ≡ [] → b ≡ true
from-unless true r at h = refl
from-unless false r at h = broken-not _ _ h

whatever : {A : Type 0} (o : Option A) → IfPart (λ a. Unit {0}) o
whatever None = tt
whatever (Some a) = tt

if-and : {A : Type 0} (P Q : A → Type 0) (o : Option A) → IfPart P o → IfPart Q o → IfPart (λ a. P a × Q a) o
if-and P Q None h k = tt
if-and P Q (Some a) h k = (h, k)

if-under : {A : Type 0} (Q : A → Type 0) (c : Bool) (o : Option A) → (c ≡ true → IfPart Q o) → IfPart (λ a. c ≡ true → Q a) o
if-under Q c None h = tt
if-under Q c (Some a) h = h

-- what is declared in sequential phases alone, if at all
abbrev in_phases : Sort → Bool
in_phases Sorts.Scalar = false
in_phases Sorts.Edge = false
in_phases _ = true

local-depth : (t : SurfaceType) (env : Env) → type_broken t Local env ≡ [] → in_phases (sort_of t) ≡ true → env.depth ≡ 0
local-depth (Plain at Word.Graph g) env h s = broken-not _ _ h
local-depth (Plain at Word.Edge g) env h s = absurd (both_ways false refl s)
local-depth (Plain at Word.Int g) env h s = absurd (both_ways false refl s)
local-depth (Plain at Word.Long g) env h s = absurd (both_ways false refl s)
local-depth (Plain at Word.Bool g) env h s = absurd (both_ways false refl s)
local-depth (Plain at Word.Node g) env h s = absurd (both_ways false refl s)
local-depth (Property at Nodes inner g) env h s =
    let one = append-empty (unless (property_fits Local env.depth Nodes (holds_node inner)) T4 at ++ graph_named env g) _ h in
    let two = append-empty (unless (property_fits Local env.depth Nodes (holds_node inner)) T4 at) (graph_named env g) one.0 in
    eqb-true env.depth 0 (from-unless (nat_eq env.depth 0) T4 at two.0)
local-depth (Property at Edges inner g) env h s = broken-not _ _ h

one-alike : (t : Target) → Alike (t ∷ [])
one-alike (T.Scalar x at) = refl
one-alike (T.Property x p at) = refl

-- whether a statement may declare an edge
abbrev surface_edge : SurfaceStmt → Bool
surface_edge (S.Declare t xs) = sort_eq Sorts.Edge (sort_of t)
surface_edge (S.DeclareAs t x at e) = sort_eq Sorts.Edge (sort_of t)
surface_edge _ = false

abbrev DeclaresEdge : Stmt → Type 0
DeclaresEdge s = declares_edge s ≡ true

plain-edge : (s : Sort) (k : Key) (xs : List SurfaceName) (ns : List ℕ) → sort_eq Sorts.Edge s ≡ true → IfPart DeclaresEdge (ok_of (declarations_as s k xs ns))
plain-edge Sorts.Edge k xs ns h = tt
plain-edge Sorts.Scalar k xs ns h = absurd (both_ways false refl h)
plain-edge Sorts.NodeProperty k xs ns h = absurd (both_ways false refl h)
plain-edge Sorts.Graph k xs ns h = absurd (both_ways false refl h)
plain-edge Sorts.Iterator k xs ns h = absurd (both_ways false refl h)
plain-edge Sorts.EdgeProperty k xs ns h = absurd (both_ways false refl h)

value-edge : (s : Sort) (k : Key) (x : SurfaceName) (at : Place) (t : VType) (p : ℕ × Part) → sort_eq Sorts.Edge s ≡ true → IfPart DeclaresEdge (ok_of (declared_value k x at t s p))
value-edge Sorts.Edge k x at t p h = tt
value-edge Sorts.Scalar k x at t p h = absurd (both_ways false refl h)
value-edge Sorts.NodeProperty k x at t p h = absurd (both_ways false refl h)
value-edge Sorts.Graph k x at t p h = absurd (both_ways false refl h)
value-edge Sorts.Iterator k x at t p h = absurd (both_ways false refl h)
value-edge Sorts.EdgeProperty k x at t p h = absurd (both_ways false refl h)

with-edge : (o : Option SurfaceName) (t : SurfaceType) (x : SurfaceName) (at : Place) (e : SurfaceExpr) (env : Env) → sort_eq Sorts.Edge (sort_of t) ≡ true → IfPart DeclaresEdge (declared_with o t x at e env).part
with-edge (Some y) t x at e env h =
    let parts = both (declared_typed t x) (edge_owner y) env in
    if-by (λ p. Unit {0}) DeclaresEdge parts.part (λ p. Ok (P.DeclareEdge p.0 p.1.index y.place)) (whatever parts.part) (λ p _. refl)
with-edge None t x at e env h =
    let parts = both (declared_typed t x) (typed e) env in
    if-by (λ p. Unit {0}) DeclaresEdge parts.part (declared_value env.key x at (vtype_of t) (sort_of t)) (whatever parts.part) (λ p _. value-edge (sort_of t) env.key x at (vtype_of t) p h)

edge-declared : (a : SurfaceStmt) (env : Env) → surface_edge a ≡ true → IfPart DeclaresEdge (checked a env).part
edge-declared (S.Declare t xs) env h =
    let parts = beside (noted (tt {0}) (type_broken t Local env)) (declared_all (variable_of t env.depth) xs env) in
    if-by (λ p. Unit {0}) DeclaresEdge parts.part (λ p. declarations_as (sort_of t) env.key xs p.1) (whatever parts.part) (λ p _. plain-edge (sort_of t) env.key xs p.1 h)
edge-declared (S.DeclareAs t x at e) env h = with-edge (edge_declared t e) t x at e env h
edge-declared _ env h = absurd (both_ways false refl h)

module _ (ds : List Declaration) where
  -- ---- targets

  abbrev FitsTarget : ℕ → Bool → Goal → Type 0
  FitsTarget d deferred g = PlacedTarget ds d g.target × (deferred ≡ true → is_through_one g.target ≡ true)

  -- a target that takes values
  abbrev PlacedGoal : ℕ → Bool → Goal → Type 0
  PlacedGoal d deferred g = IfPart (λ t. FitsTarget d deferred g) g.wanted

  scalar-goal : (d : ℕ) (edge : Bool) (s : Sort) (deferred : Bool) (at : Place) (b : Binding) → b.variable.sort ≡ s → IsBound ds d edge b → IfPart (PlacedGoal d deferred) (ok_of (scalar_goal_as s deferred at b))
  scalar-goal d edge Sorts.Scalar deferred at b e h =
      if-good (PlacedGoal d deferred) (not deferred) T12 at _ (λ n. ((b.variable, (h.0, (ap (sort_eq Sorts.Scalar) e, h.1.0))), λ is. absurd (not-both deferred n is)))
    where
      not-both : (b : Bool) → not b ≡ true → b ≡ true → ⊥
      not-both true n is = both_ways false refl n
      not-both false n is = both_ways false refl is
  scalar-goal d edge Sorts.NodeProperty deferred at b e h = tt
  scalar-goal d edge Sorts.Graph deferred at b e h = tt
  scalar-goal d edge Sorts.Iterator deferred at b e h = tt
  scalar-goal d edge Sorts.Edge deferred at b e h = tt
  scalar-goal d edge Sorts.EdgeProperty deferred at b e h = tt

  property-goal : (d : ℕ) (edge deferred : Bool) (at : Place) (bs : Binding × Binding) → IsBound ds d edge bs.1 → IfPart (PlacedGoal d deferred) (ok_of (property_goal at bs))
  property-goal d edge deferred at bs h =
      let x = bs.0 in
      let p = bs.1 in
      if-else (PlacedGoal d deferred) (is_node x.variable && is Sorts.NodeProperty p.variable) _ (if is Sorts.Edge x.variable && is Sorts.EdgeProperty p.variable then refused T12 at else refused T7 at)
      (λ t. ((p.variable, (h.0, (second (is_node x.variable) (is Sorts.NodeProperty p.variable) t))), λ _. refl))
      (λ _. if-else (PlacedGoal d deferred) (is Sorts.Edge x.variable && is Sorts.EdgeProperty p.variable) (refused T12 at) (refused T7 at) (λ _. tt) (λ _. tt))
    where
      second : (a b : Bool) → a && b ≡ true → b ≡ true
      second true b h = h
      second false b h = absurd (both_ways false refl h)

  goal-placed : (d : ℕ) (edge deferred : Bool) (x : SurfaceName) (p : Option SurfaceName) → At ds d edge (PlacedGoal d deferred) (goal_at deferred x p)
  goal-placed d edge deferred x None env known is = gives-judge ds (IsBound ds d edge) (PlacedGoal d deferred) env.next (used x env) (scalar_goal deferred x.place)
      (at-used ds d edge x env known is) (λ b h. scalar-goal d edge b.variable.sort deferred x.place b refl h)
  goal-placed d edge deferred x (Some p) env known is = gives-judge ds (λ bs. IsBound ds d edge bs.0 × IsBound ds d edge bs.1) (PlacedGoal d deferred) env.next (both (used x) (used p) env) (property_goal x.place)
      (at-both ds d edge (IsBound ds d edge) (IsBound ds d edge) (used x) (used p) (at-used ds d edge x) (at-used ds d edge p) env known is) (λ bs h. property-goal d edge deferred x.place bs h.1)

  -- a value, and the target to which it goes
  abbrev GoesTo : ℕ → Bool → Bool → Goal → Expr → Type 0
  GoesTo d edge deferred g e = FitsTarget d deferred g × PlacedIn ds d edge e

  and-goes : (F : Type 0) (Q : Expr → Type 0) (a : Answer Expr) → F → IfPart Q (ok_of a) → IfPart (λ e. F × Q e) (ok_of a)
  and-goes F Q a h k = if-and (λ e. F) Q (ok_of a) (always F (ok_of a) h) k
    where
      always : (F : Type 0) (o : Option Expr) → F → IfPart (λ e. F) o
      always F None h = tt
      always F (Some e) h = h

  fits-goal : (d : ℕ) (edge deferred : Bool) (w : Option VType) (g : Goal) (rule : Rule) (at : Place) (p : Part) → IfPart (λ t. FitsTarget d deferred g) w → PlacedPart ds d edge p → IfPart (GoesTo d edge deferred g) (ok_of (fits_goal w rule at p))
  fits-goal d edge deferred None g rule at p h n = tt
  fits-goal d edge deferred (Some t) g rule at p h n = and-goes (FitsTarget d deferred g) (PlacedIn ds d edge) (fitted t rule at p) h (fitted-placed ds d edge t rule at p n)

  assigned-placed : (d : ℕ) (edge : Bool) (t : SurfaceTarget) (at : Place) (e : SurfaceExpr) → At ds d edge (Placed ds d edge) (assigned t at e)
  assigned-placed d edge t at e env known is =
      gives-judge ds (λ p. PlacedGoal d false p.0 × PlacedPart ds d edge p.1) (Placed ds d edge) env.next (both (goal_at false t.owner t.property) (typed e) env)
      (λ p. then_answer (fits_goal p.0.wanted T9 at p.1) (P.Assign env.key p.0.target))
      (at-both ds d edge (PlacedGoal d false) (PlacedPart ds d edge) (goal_at false t.owner t.property) (typed e) (goal-placed d edge false t.owner t.property) (typed-placed ds e d edge) env known is)
      (λ p h. if-then (GoesTo d edge false p.0) (Placed ds d edge) (fits_goal p.0.wanted T9 at p.1) (P.Assign env.key p.0.target) (fits-goal d edge false p.0.wanted p.0 T9 at p.1 h.0 h.1) (λ e n. (n.0.0, n.1)))

  deferred-placed : (d : ℕ) (edge : Bool) (t : SurfaceTarget) (at : Place) (e : SurfaceExpr) → At ds d edge (Placed ds d edge) (deferred t at e)
  deferred-placed d edge t at e env known is =
      gives-judge ds (λ p. PlacedGoal d true p.0 × PlacedPart ds d edge p.1) (Placed ds d edge) env.next (both (goal_at true t.owner t.property) (typed e) env)
      (λ p. then_answer (fits_goal p.0.wanted T9 at p.1) (P.Defer env.key p.0.target))
      (at-both ds d edge (PlacedGoal d true) (PlacedPart ds d edge) (goal_at true t.owner t.property) (typed e) (goal-placed d edge true t.owner t.property) (typed-placed ds e d edge) env known is)
      (λ p h. if-then (GoesTo d edge true p.0) (Placed ds d edge) (fits_goal p.0.wanted T9 at p.1) (P.Defer env.key p.0.target) (fits-goal d edge true p.0.wanted p.0 T9 at p.1 h.0 h.1) (λ e n. ((n.0.0, n.0.1 refl), n.1)))

  -- ---- reductions

  abbrev AllGoals : ℕ → List Goal → Type 0
  AllGoals d [] = Unit {0}
  AllGoals d (g ∷ gs) = PlacedGoal d false g × AllGoals d gs

  abbrev AllParts : ℕ → Bool → List Part → Type 0
  AllParts d edge [] = Unit {0}
  AllParts d edge (p ∷ ps) = PlacedPart ds d edge p × AllParts d edge ps

  each-placed : {X A : Type 0} (d : ℕ) (edge : Bool) (Q : A → Type 0) (R : List A → Type 0) (one : X → Env → Judged A) → R [] → ((a : A) (as' : List A) → Q a → R as' → R (a ∷ as'))
      → ((x : X) → At ds d edge Q (one x)) → (xs : List X) → At ds d edge R (judged_each one xs)
  each-placed d edge Q R one none more good [] env known is = λ has clean. none
  each-placed d edge Q R one none more good (x ∷ xs) env known is =
      gives-judge ds (λ p. Q p.0 × R p.1) R env.next (both (one x) (judged_each one xs) env) (λ p. Ok (p.0 ∷ p.1))
      (at-both ds d edge Q R (one x) (judged_each one xs) (good x) (each-placed d edge Q R one none more good xs) env known is) (λ p h. more p.0 p.1 h.0 h.1)

  abbrev All : ℕ → Bool → List Goal → List Expr → Type 0
  All d edge gs es = PlacedTargets ds d (map (λ g. g.target) gs) × AllPlaced ds d edge es

  fits-all : (d : ℕ) (edge : Bool) (at : Place) (gs : List Goal) (ps : List Part) → AllGoals d gs → AllParts d edge ps → IfPart (All d edge gs) (ok_of (all_answers (fits_each at gs ps)))
  fits-all d edge at [] [] h k = (tt, tt)
  fits-all d edge at [] (p ∷ ps) h k = tt
  fits-all d edge at (g ∷ gs) [] h k = tt
  fits-all d edge at (g ∷ gs) (p ∷ ps) h k =
      if-with ds (GoesTo d edge false g) (All d edge gs) (All d edge (g ∷ gs)) (λ x xs. x ∷ xs) (fits_goal g.wanted T9 at p) (all_answers (fits_each at gs ps))
      (fits-goal d edge false g.wanted g T9 at p h.0 k.0) (fits-all d edge at gs ps h.1 k.1)
      (λ e es n m. ((n.0.0, m.0), (n.1, m.1)))

  -- goals that belong together
  abbrev Together : ℕ → List Goal → Type 0
  Together d gs = AllGoals d gs × Alike (map (λ g. g.target) gs)

  combined-placed : (d : ℕ) (edge : Bool) (k : Key) (at : Place) (r : Reduce) (ps : List Goal × List Part) → k.stage ≡ Operator → Together d ps.0 × AllParts d edge ps.1 → IfPart (Placed ds d edge) (ok_of (combined k at r ps))
  combined-placed d edge k at r ps key h =
      if-with ds (λ u. Unit {0}) (All d edge ps.0) (Placed ds d edge) (λ u es. P.Combine k (total_at k at) r (map (λ g. g.target) ps.0) es)
      (refused_unless (reduces r (first_wanted ps.0)) T11 at (tt {0})) (all_answers (fits_each at ps.0 ps.1))
      (whatever (ok_of (refused_unless (reduces r (first_wanted ps.0)) T11 at (tt {0})))) (fits-all d edge at ps.0 ps.1 h.0.0 h.1)
      (λ u es _ n. (n, ((key, refl), h.0.1)))

  together-placed : (d : ℕ) (edge : Bool) (ts : List SurfaceTarget) → At ds d edge (Together d) (goals_together ts)
  together-placed d edge ts env known is has clean =
      let parts = beside (goals ts env) (noted (tt {0}) (apart_from_first ts)) in
      let none = append-empty (goals ts env).broken (apart_from_first ts) (append-empty parts.broken (broken_by parts.part (λ p. Ok p.0)) clean).0 in
      gives-judge ds (λ p. (AllGoals d p.0 × AllSpell env.known ts p.0) × Unit {0}) (Together d) env.next parts (λ p. Ok p.0)
      (gives-beside ds (λ gs. AllGoals d gs × AllSpell env.known ts gs) (λ u. Unit {0}) env.next (goals ts env) (noted (tt {0}) (apart_from_first ts))
      (λ has clean. if-and (AllGoals d) (AllSpell env.known ts) (goals ts env).part
      (each-placed d edge (PlacedGoal d false) (AllGoals d) (λ t. goal_at false t.owner t.property) tt (λ a as' h k. (h, k)) (λ t. goal-placed d edge false t.owner t.property) ts env known is has clean) (goals-spell ts env))
      (λ has clean. tt))
      (λ p h. (h.0.0, alike ds d edge env.known known ts p.0 h.0.1 none.1)) has clean

  reduced-placed : (d : ℕ) (edge : Bool) (ts : List SurfaceTarget) (r : Reduce) (at : Place) (es : List SurfaceExpr) → AtKey ds d edge (Placed ds d edge) (reduced ts r at es)
  reduced-placed d edge ts r at es env known is key =
      gives-judge ds (λ p. Together d p.0 × AllParts d edge p.1) (Placed ds d edge) env.next (both (goals_together ts) (typed_all es) env) (combined env.key at r)
      (at-both ds d edge (Together d) (AllParts d edge) (goals_together ts) (typed_all es) (together-placed d edge ts)
      (each-placed d edge (PlacedPart ds d edge) (AllParts d edge) typed tt (λ a as' h k. (h, k)) (λ e. typed-placed ds e d edge) es) env known is)
      (λ p h. combined-placed d edge env.key at r p key h)

  one-goes : (d : ℕ) (edge : Bool) (w : Option VType) (g : Goal) (at : Place) → IfPart (λ t. FitsTarget d false g) w → IfPart (GoesTo d edge false g) (ok_of (one_of w at))
  one-goes d edge None g at h = tt
  one-goes d edge (Some I32) g at h = (h, tt)
  one-goes d edge (Some I64) g at h = (h, tt)
  one-goes d edge (Some Flag) g at h = tt
  one-goes d edge (Some Node) g at h = tt

  increment-placed : (d : ℕ) (edge : Bool) (t : SurfaceTarget) (at : Place) (env : Env) → Knows ds d edge env.known → env.depth ≡ d → env.key.stage ≡ Operator
      → Gives ds (Placed ds d edge) env.next (judge (goal_at false t.owner t.property env) (incremented env.key at))
  increment-placed d edge t at env known is key = gives-judge ds (PlacedGoal d false) (Placed ds d edge) env.next (goal_at false t.owner t.property env) (incremented env.key at)
      (goal-placed d edge false t.owner t.property env known is)
      (λ g h. if-then (GoesTo d edge false g) (Placed ds d edge) (one_of g.wanted at) (λ e. P.Combine env.key (total_at env.key at) R.Sum (g.target ∷ []) (e ∷ [])) (one-goes d edge g.wanted g at h)
      (λ e n. (((n.0.0, tt), (n.1, tt)), ((key, refl), one-alike g.target))))

  beside-iterator : (d : ℕ) (edge : Bool) (part : Env → Judged Stmt) (x : Option SurfaceName) → AtKey ds d edge (Placed ds d edge) part → (env : Env) → Knows ds d edge env.known → env.depth ≡ d → env.key.stage ≡ Operator
      → Gives ds (Placed ds d edge) env.next (judge (both part (at_iterator x) env) (λ p. Ok p.0))
  beside-iterator d edge part x good env known is key = gives-judge ds (λ p. Placed ds d edge p.0 × Unit {0}) (Placed ds d edge) env.next (both part (at_iterator x) env) (λ p. Ok p.0)
      (key-both ds d edge (Placed ds d edge) (λ i. Unit {0}) part (at_iterator x) good (λ env known is key. λ has clean. whatever (at_iterator x env).part) env known is key) (λ p h. h.0)

  -- ---- group assignments

  abbrev IsGraph : ℕ → Bool → Binding → Type 0
  IsGraph d edge b = IsBound ds d edge b × (is Sorts.Graph b.variable ≡ true)

  graph-known : (d : ℕ) (edge : Bool) (o : Option Binding) → IfPart (IsBound ds d edge) o → names_graph o ≡ true → IfPart (IsGraph d edge) o
  graph-known d edge None h g = tt
  graph-known d edge (Some b) h g = (h, g)

  abbrev IsGroupGoal : ℕ → ℕ × (ℕ × VType) → Type 0
  IsGroupGoal d g = PlacedGraph ds d g.0 × (is_property (declared_at ds g.1.0) ≡ true)

  grouped-placed : (d : ℕ) (edge : Bool) (x p : SurfaceName) (at : Place) (e : SurfaceExpr) (env : Env) → Knows ds d edge env.known → env.depth ≡ d → names_graph (known_as env.known x.text) ≡ true
      → Gives ds (Placed ds d edge) env.next (grouped x p at e env)
  grouped-placed d edge x p at e env known deep graph =
      gives-judge ds (λ ps. IsGroupGoal d ps.0 × PlacedPart ds (d + 1) edge ps.1) (Placed ds d edge) env.next (both (group_target x p) (in_group (typed e)) env)
      (λ ps. then_answer (fitted ps.0.1.1 T9 at ps.1) (P.Group env.key x.place ps.0.0 ps.0.1.0))
      (gives-beside ds (IsGroupGoal d) (PlacedPart ds (d + 1) edge) env.next (group_target x p env) (in_group (typed e) (later env (group_target x p env)))
      (gives-judge ds (λ bs. IsGraph d edge bs.0 × IsBound ds d edge bs.1) (IsGroupGoal d) env.next (both (used x) (used p) env) (group_goal x.place)
      (gives-beside ds (IsGraph d edge) (IsBound ds d edge) env.next (used x env) (used p (later env (used x env)))
      (λ has clean. if-known' (known_as env.known x.text) (graph-known d edge (known_as env.known x.text) (knows-bound ds d edge env.known x.text known) graph)) (at-used ds d edge p (later env (used x env)) known deep))
      (λ bs h. if-good (IsGroupGoal d) (is Sorts.NodeProperty bs.1.variable) T7 x.place _
      (λ n. ((bs.0.variable, (h.0.0.0, (h.0.1, h.0.0.1.0))), ap is_property h.1.0 ∙ ap (λ c. c || is Sorts.EdgeProperty bs.1.variable) n))))
      (typed-placed ds e (d + 1) edge (record (later env (group_target x p env)) { group = true; depth = env.depth + 1 }) (knows-more ds d (d + 1) edge edge env.known (omega arith) (λ h. h) known) (ap (λ n. n + 1) deep)))
      (λ ps h. if-then (PlacedIn ds (d + 1) edge) (Placed ds d edge) (fitted ps.0.1.1 T9 at ps.1) (P.Group env.key x.place ps.0.0 ps.0.1.0) (fitted-placed ds (d + 1) edge ps.0.1.1 T9 at ps.1 h.1) (λ v n. (h.0, n)))
    where
      if-known' : (o : Option Binding) → IfPart (IsGraph d edge) o → IfPart (IsGraph d edge) (ok_of (known_answer x o))
      if-known' None h = tt
      if-known' (Some b) h = h

  assignment-placed : (d : ℕ) (edge : Bool) (o : Option SurfaceName) (t : SurfaceTarget) (at : Place) (e : SurfaceExpr) → At ds d edge (Placed ds d edge) (assignment o t at e)
  assignment-placed d edge None t at e env known is = assigned-placed d edge t at e env known is
  assignment-placed d edge (Some p) t at e env known is = gives-if ds (Placed ds d edge) env.next (names_graph (known_as env.known t.owner.text)) (grouped t.owner p at e env) (assigned t at e env)
      (λ g. grouped-placed d edge t.owner p at e env known is g) (λ _. assigned-placed d edge t at e env known is)

  -- ---- declarations

  -- what stands in the table as this variable
  abbrev Is : Variable → ℕ → Type 0
  Is v n = declared_at ds n ≡ Some v

  abbrev AllAre : Variable → List ℕ → Type 0
  AllAre v [] = Unit {0}
  AllAre v (n ∷ ns) = Is v n × AllAre v ns

  declared-is : (env : Env) (x : SurfaceName) (v : Variable) → Gives ds (Is v) env.next (declared_as env x v)
  declared-is env x v has clean = ap (λ o. option_map (λ (x : Declaration). x.variable) o) has.0

  all-declared : (v : Variable) (xs : List SurfaceName) (env : Env) → Gives ds (AllAre v) env.next (declared_all v xs env)
  all-declared v [] env = λ has clean. tt
  all-declared v (x ∷ xs) env =
      gives-judge ds (λ p. Is v p.0 × AllAre v p.1) (AllAre v) env.next (beside (declared_as env x v) (declared_all v xs (with_name env x v))) (λ p. Ok (p.0 ∷ p.1))
      (gives-beside ds (Is v) (AllAre v) env.next (declared_as env x v) (declared_all v xs (with_name env x v)) (declared-is env x v) (all-declared v xs (with_name env x v)))
      (λ p h. h)

  plainly-placed : (d : ℕ) (edge : Bool) (k : Key) (v : Variable) (ns : List ℕ) → v.depth ≡ d → (is Sorts.Scalar v ≡ false → d ≡ 0) → AllAre v ns → Placed ds d edge (plain_declarations k ns)
  plainly-placed d edge k v [] deep low h = tt
  plainly-placed d edge k v (n ∷ ns) deep low h = (((v, (h.0, (deep, low))), tt), (edge, (λ e. or-left edge false e, plainly-placed d edge k v ns deep low h.1)))

  declarations-placed : (s : Sort) (d : ℕ) (edge : Bool) (k : Key) (v : Variable) (xs : List SurfaceName) (ns : List ℕ) → v.sort ≡ s → v.depth ≡ d → (in_phases s ≡ true → d ≡ 0) → AllAre v ns
      → IfPart (Placed ds d edge) (ok_of (declarations_as s k xs ns))
  declarations-placed Sorts.Scalar d edge k v xs ns e deep low h = plainly-placed d edge k v ns deep (λ n. absurd (both_ways (is Sorts.Scalar v) n (ap (sort_eq Sorts.Scalar) e))) h
  declarations-placed Sorts.NodeProperty d edge k v xs ns e deep low h = plainly-placed d edge k v ns deep (λ _. low refl) h
  declarations-placed Sorts.Edge d edge k v xs ns e deep low h = tt
  declarations-placed Sorts.Graph d edge k v xs ns e deep low h = plainly-placed d edge k v ns deep (λ _. low refl) h
  declarations-placed Sorts.Iterator d edge k v xs ns e deep low h = plainly-placed d edge k v ns deep (λ _. low refl) h
  declarations-placed Sorts.EdgeProperty d edge k v xs ns e deep low h = plainly-placed d edge k v ns deep (λ _. low refl) h

  plain-placed : (d : ℕ) (edge : Bool) (t : SurfaceType) (xs : List SurfaceName) → At ds d edge (Placed ds d edge) (declared_plainly t xs)
  plain-placed d edge t xs env known is has clean =
      let v = variable_of t env.depth in
      let parts = beside (noted (tt {0}) (type_broken t Local env)) (declared_all v xs env) in
      let all = append-empty parts.broken (broken_by parts.part (λ p. declarations_as (sort_of t) env.key xs p.1)) clean in
      let none = append-empty (type_broken t Local env) (declared_all v xs env).broken all.0 in
      gives-judge ds (λ p. Unit {0} × AllAre v p.1) (Placed ds d edge) env.next parts (λ p. declarations_as (sort_of t) env.key xs p.1)
      (λ has clean. if-both (λ u. Unit {0}) (AllAre v) (Some (tt {0})) (declared_all v xs env).part tt (all-declared v xs env has none.1))
      (λ p h. declarations-placed (sort_of t) d edge env.key v xs p.1 refl is (λ s. sym is ∙ local-depth t env none.0 s) h.1) has clean

  typed-declared : (t : SurfaceType) (x : SurfaceName) (env : Env) → Gives ds (Is (variable_of t env.depth)) env.next (declared_typed t x env)
  typed-declared t x env has clean = ap (λ o. option_map (λ (x : Declaration). x.variable) o) has.0

  value-placed : (s : Sort) (d : ℕ) (edge : Bool) (k : Key) (x : SurfaceName) (at : Place) (t : VType) (v : Variable) (p : ℕ × Part) → v.sort ≡ s → v.depth ≡ d → Is v p.0 → PlacedPart ds d edge p.1
      → IfPart (Placed ds d edge) (ok_of (declared_value k x at t s p))
  value-placed Sorts.Scalar d edge k x at t v p e deep h n =
      if-then (PlacedIn ds d edge) (Placed ds d edge) (fitted t T9 at p.1) (λ e. P.Declare k p.0 (Some e)) (fitted-placed ds d edge t T9 at p.1 n)
      (λ a m. ((v, (h, (deep, λ no. absurd (both_ways (is Sorts.Scalar v) no (ap (sort_eq Sorts.Scalar) e))))), m))
  value-placed Sorts.Edge d edge k x at t v p e deep h n = tt
  value-placed Sorts.Graph d edge k x at t v p e deep h n = tt
  value-placed Sorts.Iterator d edge k x at t v p e deep h n = tt
  value-placed Sorts.NodeProperty d edge k x at t v p e deep h n = tt
  value-placed Sorts.EdgeProperty d edge k x at t v p e deep h n = tt

  with-placed : (d : ℕ) (edge : Bool) (o : Option SurfaceName) (t : SurfaceType) (x : SurfaceName) (at : Place) (e : SurfaceExpr) → At ds d edge (Placed ds d edge) (declared_with o t x at e)
  with-placed d edge (Some y) t x at e env known is =
      let parts = both (declared_typed t x) (edge_owner y) env in
      gives-judge ds (λ p. Unit {0}) (Placed ds d edge) env.next parts (λ p. Ok (P.DeclareEdge p.0 p.1.index y.place)) (λ has clean. whatever parts.part) (λ p h. tt)
  with-placed d edge None t x at e env known is =
      let v = variable_of t env.depth in
      let first = declared_typed t x env in
      gives-judge ds (λ p. Is v p.0 × PlacedPart ds d edge p.1) (Placed ds d edge) env.next (both (declared_typed t x) (typed e) env) (declared_value env.key x at (vtype_of t) (sort_of t))
      (gives-beside ds (Is v) (PlacedPart ds d edge) env.next first (typed e (later env first)) (typed-declared t x env) (typed-placed ds e d edge (later env first) known is))
      (λ p h. value-placed (sort_of t) d edge env.key x at (vtype_of t) v p refl is h.0 h.1)

  -- ---- the names that are known after a statement

  known-next : (d : ℕ) (edge : Bool) (env : Env) (x : SurfaceName) (v : Variable) → Knows ds d edge env.known → IsKnown ds d edge (record { text = x.text; binding = record { index = env.next; variable = v } }) → Knows ds d edge (with_name env x v).known
  known-next d edge env x v known is = knows-with ds d edge env.known x.text (record { index = env.next; variable = v }) known is

  pub names-known : (d : ℕ) (edge : Bool) (v : Variable) (xs : List SurfaceName) (env other : Env) → v.depth ≤ d → (is Sorts.Edge v ≡ true → edge ≡ true) → Knows ds d edge env.known → Has ds env.next (declared_all v xs other).declared
      → Knows ds d edge (with_names v xs env).known
  names-known d edge v [] env other low e known has = known
  names-known d edge v (x ∷ xs) env other low e known has =
      names-known d edge v xs (with_name env x v) (with_name other x v) low e (known-next d edge env x v known (has.0, (low, e))) has.1

  declares-first : (o : Option SurfaceName) (t : SurfaceType) (x : SurfaceName) (at : Place) (e : SurfaceExpr) (env : Env) (n : ℕ)
      → Has ds n (declared_with o t x at e env).declared → slice_get ds n ≡ Some (record { name = x.text; variable = variable_of t env.depth })
  declares-first (Some y) t x at e env n has = has.0
  declares-first None t x at e env n has = has.0

  known-behind : (d : ℕ) (edge : Bool) (a : SurfaceStmt) (env : Env) → Knows ds d edge env.known → env.depth ≡ d → Has ds env.next (numbered (checked a) env).declared → Knows ds d (edge || surface_edge a) (known_after a env)
  known-behind d edge a env known is has = by a (knows-more ds d d edge (edge || surface_edge a) env.known (omega arith) (λ h. or-left edge (surface_edge a) h) known) has
    where
      low : env.depth ≤ d
      low = omega (arith, is)

      by : (a : SurfaceStmt) → Knows ds d (edge || surface_edge a) env.known → Has ds env.next (numbered (checked a) env).declared → Knows ds d (edge || surface_edge a) (known_after a env)
      by (S.Declare t xs) known has =
          names-known d (edge || sort_eq Sorts.Edge (sort_of t)) (variable_of t env.depth) xs env (record env { number = env.number + 1; key = operators_of env.number }) low (λ h. or-right edge (sort_eq Sorts.Edge (sort_of t)) h) known has
      by (S.DeclareAs t x at e) known has =
          known-next d (edge || sort_eq Sorts.Edge (sort_of t)) env x (variable_of t env.depth) known
          (declares-first (edge_declared t e) t x at e (record env { number = env.number + 1; key = operators_of env.number }) env.next has, (low, λ h. or-right edge (sort_eq Sorts.Edge (sort_of t)) h))
      by _ known has = known

  -- ---- a statement

  test-placed : (d : ℕ) (edge : Bool) (e : SurfaceExpr) → AtKey ds d edge (PlacedIn ds d edge) (test e)
  test-placed d edge e = any-key ds d edge (PlacedIn ds d edge) (test e) (condition-placed ds d edge (start_of e) (typed e) (typed-placed ds e d edge))

  abbrev AreCode : ℕ → Bool → Expr × Stmt → Type 0
  AreCode d edge p = PlacedIn ds d edge p.0 × Placed ds d edge p.1

  loop-placed : (word : LoopWord) (d : ℕ) (edge : Bool) (k : Key) (at : Place) (h : Head) (p : Expr × Stmt) → IsIteratorAt ds (d + loops_of word) h.iterator → AreCode (d + loops_of word) edge p → Placed ds d edge (loop_of word k at h p.0 p.1)
  loop-placed Loop.Foreach d edge k at h p i c = (i, c)
  loop-placed Loop.For d edge k at h p i c = (i, c)

  returned-placed : (d : ℕ) (edge : Bool) (k : Key) (at : Place) (o : Option VType) (p : Part) → PlacedPart ds d edge p → IfPart (Placed ds d edge) (ok_of (returned k at o p))
  returned-placed d edge k at None p h = tt
  returned-placed d edge k at (Some t) p h = if-then (PlacedIn ds d edge) (Placed ds d edge) (fitted t T14 at p) (λ e. P.Return k at (Some e)) (fitted-placed ds d edge t T14 at p h) (λ e n. n)

  code-placed : (d : ℕ) (edge : Bool) (filter : SurfaceExpr) (body : SurfaceStmt) → AtKey ds d edge (Placed ds d edge) (checked body) → AtKey ds d edge (AreCode d edge) (both (test filter) (numbered (checked body)))
  code-placed d edge filter body good =
      key-both ds d edge (PlacedIn ds d edge) (Placed ds d edge) (test filter) (numbered (checked body)) (test-placed d edge filter) (key-numbered ds d edge (Placed ds d edge) (checked body) good)

  anything : {A : Type 0} (d : ℕ) (edge : Bool) (part : Env → Judged A) → AtKey ds d edge (λ a. Unit {0}) part
  anything d edge part env known is key has clean = whatever (part env).part

  pub checked-placed : (s : SurfaceStmt) (d : ℕ) (edge : Bool) → AtKey ds d edge (Placed ds d edge) (checked s)
  checked-placed S.Skip d edge env known is key = λ has clean. tt
  checked-placed (S.Then a b) d edge env known is key =
      let x = numbered (checked a) env in
      let y = checked b (following a env x) in
      let more = edge || surface_edge a in
      let inner = record env { number = env.number + 1; key = operators_of env.number } in
      gives-judge ds (λ p. (Placed ds d edge p.0 × (surface_edge a ≡ true → DeclaresEdge p.0)) × Placed ds d more p.1) (Placed ds d edge) env.next (beside x y) (λ p. Ok (P.Then p.0 p.1))
      (λ has clean. gives-beside ds (λ s. Placed ds d edge s × (surface_edge a ≡ true → DeclaresEdge s)) (Placed ds d more) env.next x y
      (λ has clean. if-and (Placed ds d edge) (λ s. surface_edge a ≡ true → DeclaresEdge s) x.part (key-numbered ds d edge (Placed ds d edge) (checked a) (checked-placed a d edge) env known is key has clean)
      (if-under DeclaresEdge (surface_edge a) x.part (edge-declared a inner)))
      (checked-placed b d more (following a env x) (known-behind d edge a env known is (has-append ds env.next x.declared y.declared has).0) is key) has clean)
      (λ p h. (h.0.0, (more, (or-maps edge (surface_edge a) (declares_edge p.0) h.0.1, h.1))))
  checked-placed (S.Declare t xs) d edge env known is key = plain-placed d edge t xs env known is
  checked-placed (S.DeclareAs t x at e) d edge env known is key = with-placed d edge (edge_declared t e) t x at e env known is
  checked-placed (S.Assign t at e) d edge env known is key = assignment-placed d edge t.property t at e env known is
  checked-placed (S.Defer t at e iterator) d edge env known is key = beside-iterator d edge (deferred t at e) iterator (any-key ds d edge (Placed ds d edge) (deferred t at e) (deferred-placed d edge t at e)) env known is key
  checked-placed (S.Combine ts op at es iterator) d edge env known is key = beside-iterator d edge (reduced ts op at es) iterator (reduced-placed d edge ts op at es) env known is key
  checked-placed (S.Increment t at) d edge env known is key = increment-placed d edge t at env known is key
  checked-placed (S.Call op f es xs) d edge env known is key = λ has clean. tt
  checked-placed (S.Loop at word h filter body) d edge env known is key =
      let deep = d + loops_of word in
      let inner = both (test filter) (numbered (checked body)) in
      gives-judge ds (λ p. Unit {0} × (IsIteratorAt ds (d + loops_of word) p.1.0 × AreCode (d + loops_of word) edge p.1.1)) (Placed ds d edge) env.next (both (ranged h) (iterated h.iterator (loops_of word) inner) env)
      (λ p. Ok (loop_of word env.key at (head_with h p.0 p.1.0) p.1.1.0 p.1.1.1))
      (key-both ds d edge (λ b. Unit {0}) (λ p. IsIteratorAt ds (d + loops_of word) p.0 × AreCode (d + loops_of word) edge p.1) (ranged h) (iterated h.iterator (loops_of word) inner) (anything d edge (ranged h))
      (key-iterated ds d (loops_of word) edge (AreCode deep edge) h.iterator inner (code-placed deep edge filter body (checked-placed body deep edge))) env known is key)
      (λ p n. loop-placed word d edge env.key at (head_with h p.0 p.1.0) p.1.1 n.1.0 n.1.1)
  checked-placed (S.If at c a b) d edge env known is key =
      let branches = both (numbered (checked a)) (numbered (checked b)) in
      gives-judge ds (λ p. PlacedIn ds d edge p.0 × (Placed ds d edge p.1.0 × Placed ds d edge p.1.1)) (Placed ds d edge) env.next (both (test c) branches env) (λ p. Ok (P.If env.key p.0 p.1.0 p.1.1))
      (key-both ds d edge (PlacedIn ds d edge) (λ p. Placed ds d edge p.0 × Placed ds d edge p.1) (test c) branches (test-placed d edge c)
      (key-both ds d edge (Placed ds d edge) (Placed ds d edge) (numbered (checked a)) (numbered (checked b))
      (key-numbered ds d edge (Placed ds d edge) (checked a) (checked-placed a d edge)) (key-numbered ds d edge (Placed ds d edge) (checked b) (checked-placed b d edge))) env known is key)
      (λ p h. h)
  checked-placed (S.While at c body) d edge env known is key =
      gives-judge ds (AreCode d edge) (Placed ds d edge) env.next (both (test c) (numbered (checked body)) env) (λ p. Ok (P.While env.key at p.0 p.1))
      (code-placed d edge c body (checked-placed body d edge) env known is key) (λ p h. h)
  checked-placed (S.Do at body c) d edge env known is key =
      gives-judge ds (λ p. Placed ds d edge p.0 × PlacedIn ds d edge p.1) (Placed ds d edge) env.next (both (numbered (checked body)) (test c) env) (λ p. Ok (P.Do env.key at p.0 p.1))
      (key-both ds d edge (Placed ds d edge) (PlacedIn ds d edge) (numbered (checked body)) (test c) (key-numbered ds d edge (Placed ds d edge) (checked body) (checked-placed body d edge)) (test-placed d edge c) env known is key)
      (λ p h. h)
  checked-placed (S.InBfs at v g root filter body) d edge env known is key =
      let ends = both (graph_searched g) (rooted root) in
      let inner = both (test filter) (numbered (checked body)) in
      gives-judge ds (λ p. Unit {0} × (IsIteratorAt ds (d + 1) p.1.0 × AreCode (d + 1) edge p.1.1)) (Placed ds d edge) env.next (both ends (iterated v 1 inner) env)
      (λ p. Ok (P.InBfs env.key at (search_of root p.0 p.1.0) p.1.1.0 p.1.1.1))
      (key-both ds d edge (λ b. Unit {0}) (λ p. IsIteratorAt ds (d + 1) p.0 × AreCode (d + 1) edge p.1) ends (iterated v 1 inner) (anything d edge ends)
      (key-iterated ds d 1 edge (AreCode (d + 1) edge) v inner (code-placed (d + 1) edge filter body (checked-placed body (d + 1) edge))) env known is key)
      (λ p n. n.1)
  checked-placed (S.InBfsBoth at v g root filter body reverse back_filter back) d edge env known is key =
      let ends = both (graph_searched g) (rooted root) in
      let there = both (test filter) (numbered (checked body)) in
      let back_part = searched (test back_filter) (numbered (checked back)) in
      let inner = both there (numbered back_part) in
      gives-judge ds (λ p. Unit {0} × (IsIteratorAt ds (d + 1) p.1.0 × (AreCode (d + 1) edge p.1.1.0 × AreCode (d + 1) edge p.1.1.1.1))) (Placed ds d edge) env.next (both ends (iterated v 1 inner) env)
      (λ p. Ok (P.InBfsBoth env.key at (search_of root p.0 p.1.0) p.1.1.0.0 p.1.1.0.1 p.1.1.1.0 p.1.1.1.1.0 p.1.1.1.1.1))
      (key-both ds d edge (λ b. Unit {0}) (λ p. IsIteratorAt ds (d + 1) p.0 × (AreCode (d + 1) edge p.1.0 × AreCode (d + 1) edge p.1.1.1)) ends (iterated v 1 inner) (anything d edge ends)
      (key-iterated ds d 1 edge (λ p. AreCode (d + 1) edge p.0 × AreCode (d + 1) edge p.1.1) v inner
      (key-both ds (d + 1) edge (AreCode (d + 1) edge) (λ q. AreCode (d + 1) edge q.1) there (numbered back_part) (code-placed (d + 1) edge filter body (checked-placed body (d + 1) edge))
      (key-numbered ds (d + 1) edge (λ q. AreCode (d + 1) edge q.1) back_part
      (λ env known is key. gives-judge ds (AreCode (d + 1) edge) (λ q. AreCode (d + 1) edge q.1) env.next (both (test back_filter) (numbered (checked back)) env) (λ p. Ok (env.key, p))
      (code-placed (d + 1) edge back_filter back (checked-placed back (d + 1) edge) env known is key) (λ p h. h))))) env known is key)
      (λ p n. n.1)
  checked-placed (S.Return at None) d edge env known is key = λ has clean. if-good (Placed ds d edge) (is_none env.result) T14 at (P.Return env.key at None) (λ _. tt)
  checked-placed (S.Return at (Some e)) d edge env known is key = gives-judge ds (PlacedPart ds d edge) (Placed ds d edge) env.next (typed e env) (returned env.key at env.result)
      (typed-placed ds e d edge env known is) (λ p h. returned-placed d edge env.key at env.result p h)
