-- Statements that were judged have types.
use Rattle.std.proofs.Common.{◌≡◌, ◌+◌, ℕ, Bool, true, false, List, [], ◌∷◌, map, refl, sym, ap, subst, ◌∙◌, Option, Some, None}
use Rattle.std.specs.Prelude.{◌&&◌, not, is_none, if◌then◌else◌, Ok}
use Rattle.std.specs.Cmp.Derive.{both_true}
use Rattle.std.proofs.lemmas.Bool.{both_ways}
use Rattle.gm_base.specs.declared.places.Place.{Place}
use Rattle.gm_base.specs.declared.rules.Rule.{Rule}
use Rattle.gm_base.specs.declared.rules.Rule.TheVariants.{T7, T9, T11, T12, T14}
use Rattle.gm_value.specs.declared.values.VType.{VType}
use Rattle.gm_value.specs.declared.values.VType.TheVariants.{I32, I64, Flag, Node}
use Rattle.gm_value.specs.declared.reductions.Reduce.{Reduce}
use Rattle.gm_value.specs.declared.reductions.Reduce.TheVariants as R
use Rattle.gm_value.specs.Operations.{is_numeric, same_type}
use Rattle.gm_value.specs.Reductions as Reductions
use Rattle.gm_ast.specs.declared.tree.Declaration.{Declaration}
use Rattle.gm_ast.specs.declared.tree.Head.{Head}
use Rattle.gm_ast.specs.declared.tree.Key.{Key}
use Rattle.gm_ast.specs.declared.tree.Sort.{Sort}
use Rattle.gm_ast.specs.declared.tree.Sort.TheVariants as Sorts
use Rattle.gm_ast.specs.declared.kinds.Binding.{Binding}
use Rattle.gm_ast.specs.declared.kinds.Goal.{Goal}
use Rattle.gm_ast.specs.declared.surface.LoopWord.{LoopWord}
use Rattle.gm_ast.specs.declared.surface.LoopWord.TheVariants as Loop
use Rattle.gm_ast.specs.Surface.{SurfaceName, SurfaceType, SurfaceTarget, SurfaceExpr, SurfaceStmt}
use Rattle.gm_ast.specs.Surface as S
use Rattle.gm_ast.specs.Program as P
use Rattle.gm_ast.specs.Program.{Expr, Stmt}
use Rattle.gm_ast.specs.Judged.{Judged, Answer, judge, beside, ok_of, refused, refused_unless, then_answer, noted}
use Rattle.gm_ast.specs.Names.{Env, is, is_node, used, known_as, both, later, iterated, inside, operators_of, numbered}
use Rattle.gm_ast.specs.Kinds.{Part, fitted}
use Rattle.gm_ast.specs.Typing.{typed, start_of, ranged, head_with}
use Rattle.gm_ast.specs.Statements.{scalar_goal_as, scalar_goal, property_goal, goal_at, fits_goal, reduces, reduces_type, first_wanted, total_at, fits_each, all_answers, combined, one_of, incremented, goals, typed_all, apart_from_first, goals_together, reduced, names_graph, group_goal, group_target, in_group, grouped, assigned, deferred, assignment, returned, at_iterator, type_broken, sort_of, vtype_of, variable_of, declared_all, plain_declarations, declarations_as, declared_plainly, edge_declared, edge_owner, declared_value, declared_typed, declared_with, following, loops_of, loop_of, test, graph_searched, rooted, search_of, searched, checked}
use Rattle.gm_ast.specs.declared.kinds.Role.TheVariants.{Local}
use Rattle.gm_forms.proofs.Named.{both-true}
use Rattle.gm_forms.specs.Typing.{type_at, has_type, target_type, all_have_types, keeps_tuples, fits_targets, returns_type, is_typed_in}
use Rattle.gm_ready.specs.Spelled.{constants_fit, all_fit, may_reduce, is_spelled_in}
use Rattle.gm_ready.proofs.Tables.{has-append, Binds, AllKnown}
use Rattle.gm_ready.proofs.Judging.{IfPart, if-good, if-then, if-else, Gives, Good, gives-judge, gives-beside, gives-both, gives-if, good-both, good-used, IsIterator, gives-iterated}
use Rattle.gm_ready.proofs.Statements.{each-good, if-with}
use Rattle.gm_ready.proofs.Declarations.{Is, typed-declared, known-behind}
use Rattle.gm_ready.proofs.Types.{IsOf, IsTypedPart, is-type, bound-type, fitted-typed, condition-typed, typed-typed, flag-type, numeric-number}

-- ---- reductions and the types that they take

reduces-what : (r : Reduce) (t : VType) → reduces_type r t ≡ true → Reductions.reduces r t ≡ true
reduces-what R.Sum t h = numeric-number t h
reduces-what R.Product t h = numeric-number t h
reduces-what R.Min t h = numeric-number t h
reduces-what R.Max I32 h = refl
reduces-what R.Max I64 h = refl
reduces-what R.Max Flag h = h
reduces-what R.Max Node h = refl
reduces-what R.And t h = ap (λ u. Reductions.reduces R.And u) (flag-type t h)
reduces-what R.Or t h = ap (λ u. Reductions.reduces R.Or u) (flag-type t h)

keeps-numbers : (r : Reduce) (t : VType) → keeps_tuples r ≡ true → reduces_type r t ≡ true → is_numeric t ≡ true
keeps-numbers R.Min t k h = numeric-number t h
keeps-numbers R.Max t k h = numeric-number t h
keeps-numbers R.Sum t k h = absurd (both_ways false refl k)
keeps-numbers R.Product t k h = absurd (both_ways false refl k)
keeps-numbers R.And t k h = absurd (both_ways false refl k)
keeps-numbers R.Or t k h = absurd (both_ways false refl k)

module _ (ds : List Declaration) where
  -- ---- targets

  -- a target that takes values has their type in the table
  abbrev IsTypedGoal : Goal → Type 0
  IsTypedGoal g = IfPart (λ t. target_type ds g.target ≡ t) g.wanted

  scalar-goal : (s : Sort) (deferred : Bool) (at : Place) (b : Binding) → Binds ds b → IfPart IsTypedGoal (ok_of (scalar_goal_as s deferred at b))
  scalar-goal Sorts.Scalar deferred at b h = if-good IsTypedGoal (not deferred) T12 at _ (λ _. bound-type ds b h)
  scalar-goal Sorts.NodeProperty deferred at b h = tt
  scalar-goal Sorts.Graph deferred at b h = tt
  scalar-goal Sorts.Iterator deferred at b h = tt
  scalar-goal Sorts.Edge deferred at b h = tt
  scalar-goal Sorts.EdgeProperty deferred at b h = tt

  property-goal : (at : Place) (bs : Binding × Binding) → Binds ds bs.1 → IfPart IsTypedGoal (ok_of (property_goal at bs))
  property-goal at bs h =
      let x = bs.0 in
      let p = bs.1 in
      if-else IsTypedGoal (is_node x.variable && is Sorts.NodeProperty p.variable) _ (if is Sorts.Edge x.variable && is Sorts.EdgeProperty p.variable then refused T12 at else refused T7 at)
      (λ _. bound-type ds p h)
      (λ _. if-else IsTypedGoal (is Sorts.Edge x.variable && is Sorts.EdgeProperty p.variable) (refused T12 at) (refused T7 at) (λ _. tt) (λ _. tt))

  goal-typed : (deferred : Bool) (x : SurfaceName) (p : Option SurfaceName) → Good ds IsTypedGoal (goal_at deferred x p)
  goal-typed deferred x None env known = gives-judge ds (Binds ds) IsTypedGoal env.next (used x env) (scalar_goal deferred x.place)
      (good-used ds x env known) (λ b h. scalar-goal b.variable.sort deferred x.place b h)
  goal-typed deferred x (Some p) env known = gives-judge ds (λ bs. Binds ds bs.0 × Binds ds bs.1) IsTypedGoal env.next (both (used x) (used p) env) (property_goal x.place)
      (good-both ds (Binds ds) (Binds ds) (used x) (used p) (good-used ds x) (good-used ds p) env known) (λ bs h. property-goal x.place bs h.1)

  -- a value of its target's type
  abbrev GoesTo : Goal → Expr → Type 0
  GoesTo g e = IsOf ds (target_type ds g.target) e

  at-type : (t u : VType) (a : Answer Expr) → u ≡ t → IfPart (IsOf ds t) (ok_of a) → IfPart (IsOf ds u) (ok_of a)
  at-type t u a e h = subst (λ v. IfPart (IsOf ds v) (ok_of a)) (sym e) h

  fits-goal : (w : Option VType) (g : Goal) (rule : Rule) (at : Place) (p : Part) → IfPart (λ t. target_type ds g.target ≡ t) w → IsTypedPart ds p → IfPart (GoesTo g) (ok_of (fits_goal w rule at p))
  fits-goal None g rule at p h n = tt
  fits-goal (Some t) g rule at p h n = at-type t (target_type ds g.target) (fitted t rule at p) h (fitted-typed ds t rule at p n)

  has-type : (t : VType) (e : Expr) → IsOf ds t e → constants_fit e ≡ true → has_type ds t e ≡ true
  has-type t e h fit = is-type ds t e (h fit)

  module _ (r : Option VType) where
    abbrev pub IsTypedStmt : Stmt → Type 0
    IsTypedStmt s = is_spelled_in s ≡ true → is_typed_in ds r s ≡ true

    abbrev IfTypedStmt : Answer Stmt → Type 0
    IfTypedStmt a = IfPart IsTypedStmt (ok_of a)

    assigned-typed : (t : SurfaceTarget) (at : Place) (e : SurfaceExpr) → Good ds IsTypedStmt (assigned t at e)
    assigned-typed t at e env known =
        gives-judge ds (λ p. IsTypedGoal p.0 × IsTypedPart ds p.1) IsTypedStmt env.next (both (goal_at false t.owner t.property) (typed e) env)
        (λ p. then_answer (fits_goal p.0.wanted T9 at p.1) (P.Assign env.key p.0.target))
        (good-both ds IsTypedGoal (IsTypedPart ds) (goal_at false t.owner t.property) (typed e) (goal-typed false t.owner t.property) (typed-typed ds e) env known)
        (λ p h. if-then (GoesTo p.0) IsTypedStmt (fits_goal p.0.wanted T9 at p.1) (P.Assign env.key p.0.target) (fits-goal p.0.wanted p.0 T9 at p.1 h.0 h.1) (λ e n. has-type (target_type ds p.0.target) e n))

    deferred-typed : (t : SurfaceTarget) (at : Place) (e : SurfaceExpr) → Good ds IsTypedStmt (deferred t at e)
    deferred-typed t at e env known =
        gives-judge ds (λ p. IsTypedGoal p.0 × IsTypedPart ds p.1) IsTypedStmt env.next (both (goal_at true t.owner t.property) (typed e) env)
        (λ p. then_answer (fits_goal p.0.wanted T9 at p.1) (P.Defer env.key p.0.target))
        (good-both ds IsTypedGoal (IsTypedPart ds) (goal_at true t.owner t.property) (typed e) (goal-typed true t.owner t.property) (typed-typed ds e) env known)
        (λ p h. if-then (GoesTo p.0) IsTypedStmt (fits_goal p.0.wanted T9 at p.1) (P.Defer env.key p.0.target) (fits-goal p.0.wanted p.0 T9 at p.1 h.0 h.1) (λ e n. has-type (target_type ds p.0.target) e n))

    -- ---- reductions

    abbrev AllGoals : List Goal → Type 0
    AllGoals [] = Unit {0}
    AllGoals (g ∷ gs) = IsTypedGoal g × AllGoals gs

    abbrev AllParts : List Part → Type 0
    AllParts [] = Unit {0}
    AllParts (p ∷ ps) = IsTypedPart ds p × AllParts ps

    abbrev AllTyped : List Goal → List Expr → Type 0
    AllTyped gs es = all_fit es ≡ true → all_have_types ds (map (λ g. g.target) gs) es ≡ true

    fits-all : (at : Place) (gs : List Goal) (ps : List Part) → AllGoals gs → AllParts ps → IfPart (AllTyped gs) (ok_of (all_answers (fits_each at gs ps)))
    fits-all at [] [] h k = λ _. refl
    fits-all at [] (p ∷ ps) h k = tt
    fits-all at (g ∷ gs) [] h k = tt
    fits-all at (g ∷ gs) (p ∷ ps) h k =
        if-with ds (GoesTo g) (AllTyped gs) (AllTyped (g ∷ gs)) (λ x xs. x ∷ xs) (fits_goal g.wanted T9 at p) (all_answers (fits_each at gs ps))
        (fits-goal g.wanted g T9 at p h.0 k.0) (fits-all at gs ps h.1 k.1)
        (λ e es n m. λ fit. let s = both-true (constants_fit e) (all_fit es) fit in both_true (has-type (target_type ds g.target) e n s.0) (m s.1))

    one-fits : (op : Reduce) (g : Goal) (w : Option VType) → IfPart (λ t. target_type ds g.target ≡ t) w → reduces op w ≡ true → reduces_type op (target_type ds g.target) ≡ true
    one-fits op g None h red = absurd (both_ways false refl red)
    one-fits op g (Some t) h red = ap (reduces_type op) h ∙ red

    targets-fit : (op : Reduce) (gs : List Goal) → AllGoals gs → reduces op (first_wanted gs) ≡ true → may_reduce op (map (λ g. g.target) gs) ≡ true → fits_targets ds op (map (λ g. g.target) gs) ≡ true
    targets-fit op [] h red may = absurd (both_ways false refl red)
    targets-fit op (g ∷ []) h red may = reduces-what op (target_type ds g.target) (one-fits op g g.wanted h.0 red)
    targets-fit op (g ∷ (u ∷ gs)) h red may = both_true may (keeps-numbers op (target_type ds g.target) may (one-fits op g g.wanted h.0 red))

    combined-typed : (k : Key) (at : Place) (op : Reduce) (ps : List Goal × List Part) → AllGoals ps.0 × AllParts ps.1 → IfTypedStmt (combined k at op ps)
    combined-typed k at op ps h =
        if-with ds (λ u. reduces op (first_wanted ps.0) ≡ true) (AllTyped ps.0) IsTypedStmt (λ u es. P.Combine k (total_at k at) op (map (λ g. g.target) ps.0) es)
        (refused_unless (reduces op (first_wanted ps.0)) T11 at (tt {0})) (all_answers (fits_each at ps.0 ps.1))
        (if-good (λ u. reduces op (first_wanted ps.0) ≡ true) (reduces op (first_wanted ps.0)) T11 at (tt {0}) (λ e. e)) (fits-all at ps.0 ps.1 h.0 h.1)
        (λ u es red n. λ fit. let s = both-true (may_reduce op (map (λ g. g.target) ps.0)) (all_fit es) fit in both_true (n s.1) (targets-fit op ps.0 h.0 red s.0))

    together-typed : (ts : List SurfaceTarget) → Good ds AllGoals (goals_together ts)
    together-typed ts env known =
        gives-judge ds (λ p. AllGoals p.0 × Unit {0}) AllGoals env.next (beside (goals ts env) (noted (tt {0}) (apart_from_first ts))) (λ p. Ok p.0)
        (gives-beside ds AllGoals (λ u. Unit {0}) env.next (goals ts env) (noted (tt {0}) (apart_from_first ts))
        (each-good ds IsTypedGoal AllGoals (λ t. goal_at false t.owner t.property) tt (λ a as' h k. (h, k)) (λ t. goal-typed false t.owner t.property) ts env known) (λ has clean. tt))
        (λ p h. h.0)

    reduced-typed : (ts : List SurfaceTarget) (op : Reduce) (at : Place) (es : List SurfaceExpr) → Good ds IsTypedStmt (reduced ts op at es)
    reduced-typed ts op at es env known =
        gives-judge ds (λ p. AllGoals p.0 × AllParts p.1) IsTypedStmt env.next (both (goals_together ts) (typed_all es) env) (combined env.key at op)
        (good-both ds AllGoals AllParts (goals_together ts) (typed_all es) (together-typed ts)
        (each-good ds (IsTypedPart ds) AllParts typed tt (λ a as' h k. (h, k)) (λ e. typed-typed ds e) es) env known)
        (λ p h. combined-typed env.key at op p h)

    increment-typed : (t : SurfaceTarget) (at : Place) (env : Env) → AllKnown ds env.known → Gives ds IsTypedStmt env.next (judge (goal_at false t.owner t.property env) (incremented env.key at))
    increment-typed t at env known = gives-judge ds IsTypedGoal IsTypedStmt env.next (goal_at false t.owner t.property env) (incremented env.key at)
        (goal-typed false t.owner t.property env known) (λ g h. incremented-typed g g.wanted h)
      where
        incremented-typed : (g : Goal) (w : Option VType) → IfPart (λ t. target_type ds g.target ≡ t) w → IfTypedStmt (then_answer (one_of w at) (λ e. P.Combine env.key (total_at env.key at) R.Sum (g.target ∷ []) (e ∷ [])))
        incremented-typed g None h = tt
        incremented-typed g (Some I32) h = λ _. ap (λ u. (same_type u I32 && true) && Reductions.reduces R.Sum u) h
        incremented-typed g (Some I64) h = λ _. ap (λ u. (same_type u I64 && true) && Reductions.reduces R.Sum u) h
        incremented-typed g (Some Flag) h = tt
        incremented-typed g (Some Node) h = tt

    -- ---- group assignments

    abbrev IsTypedGroup : ℕ × (ℕ × VType) → Type 0
    IsTypedGroup g = type_at ds g.1.0 ≡ g.1.1

    grouped-typed : (x p : SurfaceName) (at : Place) (e : SurfaceExpr) → Good ds IsTypedStmt (grouped x p at e)
    grouped-typed x p at e env known =
        gives-judge ds (λ ps. IsTypedGroup ps.0 × IsTypedPart ds ps.1) IsTypedStmt env.next (both (group_target x p) (in_group (typed e)) env)
        (λ ps. then_answer (fitted ps.0.1.1 T9 at ps.1) (P.Group env.key x.place ps.0.0 ps.0.1.0))
        (good-both ds IsTypedGroup (IsTypedPart ds) (group_target x p) (in_group (typed e))
        (λ env known. gives-judge ds (λ bs. Binds ds bs.0 × Binds ds bs.1) IsTypedGroup env.next (both (used x) (used p) env) (group_goal x.place)
        (good-both ds (Binds ds) (Binds ds) (used x) (used p) (good-used ds x) (good-used ds p) env known)
        (λ bs h. if-good IsTypedGroup (is Sorts.NodeProperty bs.1.variable) T7 x.place _ (λ _. bound-type ds bs.1 h.1)))
        (λ env known. typed-typed ds e (record env { group = true; depth = env.depth + 1 }) known) env known)
        (λ ps h. if-then (IsOf ds ps.0.1.1) IsTypedStmt (fitted ps.0.1.1 T9 at ps.1) (P.Group env.key x.place ps.0.0 ps.0.1.0) (fitted-typed ds ps.0.1.1 T9 at ps.1 h.1)
        (λ v n. has-type (type_at ds ps.0.1.0) v (subst (λ u. IsOf ds u v) (sym h.0) n)))

    assignment-typed : (o : Option SurfaceName) (t : SurfaceTarget) (at : Place) (e : SurfaceExpr) → Good ds IsTypedStmt (assignment o t at e)
    assignment-typed None t at e env known = assigned-typed t at e env known
    assignment-typed (Some p) t at e env known = gives-if ds IsTypedStmt env.next (names_graph (known_as env.known t.owner.text)) (grouped t.owner p at e env) (assigned t at e env)
        (λ _. grouped-typed t.owner p at e env known) (λ _. assigned-typed t at e env known)

    -- ---- declarations

    plainly-typed : (k : Key) (ns : List ℕ) → is_typed_in ds r (plain_declarations k ns) ≡ true
    plainly-typed k [] = refl
    plainly-typed k (n ∷ ns) = both_true refl (plainly-typed k ns)

    declarations-typed : (s : Sort) (k : Key) (xs : List SurfaceName) (ns : List ℕ) → IfTypedStmt (declarations_as s k xs ns)
    declarations-typed Sorts.Edge k xs ns = tt
    declarations-typed Sorts.Scalar k xs ns = λ _. plainly-typed k ns
    declarations-typed Sorts.NodeProperty k xs ns = λ _. plainly-typed k ns
    declarations-typed Sorts.Graph k xs ns = λ _. plainly-typed k ns
    declarations-typed Sorts.Iterator k xs ns = λ _. plainly-typed k ns
    declarations-typed Sorts.EdgeProperty k xs ns = λ _. plainly-typed k ns

    anything : {A : Type 0} (o : Option A) → IfPart (λ a. Unit {0}) o
    anything None = tt
    anything (Some a) = tt

    plain-typed : (t : SurfaceType) (xs : List SurfaceName) → Good ds IsTypedStmt (declared_plainly t xs)
    plain-typed t xs env known =
        let parts = beside (noted (tt {0}) (type_broken t Local env)) (declared_all (variable_of t env.depth) xs env) in
        gives-judge ds (λ p. Unit {0}) IsTypedStmt env.next parts (λ p. declarations_as (sort_of t) env.key xs p.1)
        (λ has clean. anything parts.part) (λ p h. declarations-typed (sort_of t) env.key xs p.1)

    value-typed : (s : Sort) (k : Key) (x : SurfaceName) (at : Place) (t : VType) (p : ℕ × Part) → type_at ds p.0 ≡ t → IsTypedPart ds p.1 → IfTypedStmt (declared_value k x at t s p)
    value-typed Sorts.Scalar k x at t p h n =
        if-then (IsOf ds t) IsTypedStmt (fitted t T9 at p.1) (λ e. P.Declare k p.0 (Some e)) (fitted-typed ds t T9 at p.1 n)
        (λ a m. has-type (type_at ds p.0) a (subst (λ u. IsOf ds u a) (sym h) m))
    value-typed Sorts.Edge k x at t p h n = tt
    value-typed Sorts.Graph k x at t p h n = tt
    value-typed Sorts.Iterator k x at t p h n = tt
    value-typed Sorts.NodeProperty k x at t p h n = tt
    value-typed Sorts.EdgeProperty k x at t p h n = tt

    with-typed : (o : Option SurfaceName) (t : SurfaceType) (x : SurfaceName) (at : Place) (e : SurfaceExpr) → Good ds IsTypedStmt (declared_with o t x at e)
    with-typed (Some y) t x at e env known =
        let parts = both (declared_typed t x) (edge_owner y) env in
        gives-judge ds (λ p. Unit {0}) IsTypedStmt env.next parts (λ p. Ok (P.DeclareEdge p.0 p.1.index y.place)) (λ has clean. anything parts.part) (λ p h. λ _. refl)
    with-typed None t x at e env known =
        let v = variable_of t env.depth in
        gives-judge ds (λ p. Is ds v p.0 × IsTypedPart ds p.1) IsTypedStmt env.next (both (declared_typed t x) (typed e) env) (declared_value env.key x at (vtype_of t) (sort_of t))
        (gives-both ds (Is ds v) (IsTypedPart ds) (declared_typed t x) (typed e) env known (typed-declared ds t x env) (typed-typed ds e))
        (λ p h. value-typed (sort_of t) env.key x at (vtype_of t) p (bound-type ds (record { index = p.0; variable = v }) h.0) h.1)

    -- ---- whole statements, in a procedure with this result

    abbrev pub GoodIn : {A : Type 0} → (A → Type 0) → (Env → Judged A) → Type 0
    GoodIn P part = (env : Env) → AllKnown ds env.known → env.result ≡ r → Gives ds P env.next (part env)

    anywhere : {A : Type 0} (P : A → Type 0) (part : Env → Judged A) → Good ds P part → GoodIn P part
    anywhere P part good env known is = good env known

    in-both : {A B : Type 0} (P : A → Type 0) (Q : B → Type 0) (first : Env → Judged A) (second : Env → Judged B) → GoodIn P first → GoodIn Q second → GoodIn (λ p. P p.0 × Q p.1) (both first second)
    in-both P Q first second f g env known is =
        gives-beside ds P Q env.next (first env) (second (later env (first env))) (f env known is) (g (later env (first env)) known is)

    in-numbered : {A : Type 0} (P : A → Type 0) (part : Env → Judged A) → GoodIn P part → GoodIn P (numbered part)
    in-numbered P part good env known is has clean = good (record env { number = env.number + 1; key = operators_of env.number }) known is has clean

    in-iterated : {A : Type 0} (P : A → Type 0) (name : SurfaceName) (loops : ℕ) (part : Env → Judged A) → GoodIn P part → GoodIn (λ p. IsIterator ds p.0 × P p.1) (iterated name loops part)
    in-iterated P name loops part good env known is = gives-iterated ds P name loops part env known (λ inner. good (inside env name loops) inner is)

    beside-iterator : (part : Env → Judged Stmt) (x : Option SurfaceName) → Good ds IsTypedStmt part → (env : Env) → AllKnown ds env.known
        → Gives ds IsTypedStmt env.next (judge (both part (at_iterator x) env) (λ p. Ok p.0))
    beside-iterator part x good env known = gives-judge ds (λ p. IsTypedStmt p.0 × Unit {0}) IsTypedStmt env.next (both part (at_iterator x) env) (λ p. Ok p.0)
        (good-both ds IsTypedStmt (λ i. Unit {0}) part (at_iterator x) good (λ env known. λ has clean. anything (at_iterator x env).part) env known) (λ p h. h.0)

    returned-typed : (k : Key) (at : Place) (o : Option VType) (p : Part) → o ≡ r → IsTypedPart ds p → IfTypedStmt (returned k at o p)
    returned-typed k at None p is h = tt
    returned-typed k at (Some t) p is h = if-then (IsOf ds t) IsTypedStmt (fitted t T14 at p) (λ e. P.Return k at (Some e)) (fitted-typed ds t T14 at p h)
        (λ e n. λ fit. ap (λ o. returns_type ds o (Some e)) (sym is) ∙ has-type t e n fit)

    nothing-returned : (o : Option VType) → o ≡ r → is_none o ≡ true → returns_type ds r None ≡ true
    nothing-returned None is h = ap (λ o. returns_type ds o None) (sym is)
    nothing-returned (Some t) is h = absurd (both_ways false refl h)

    test-typed : (e : SurfaceExpr) → GoodIn (IsOf ds Flag) (test e)
    test-typed e = anywhere (IsOf ds Flag) (test e) (condition-typed ds (start_of e) (typed e) (typed-typed ds e))

    abbrev AreCode : Expr × Stmt → Type 0
    AreCode p = IsOf ds Flag p.0 × IsTypedStmt p.1

    code : (p : Expr × Stmt) → AreCode p → constants_fit p.0 && is_spelled_in p.1 ≡ true → has_type ds Flag p.0 && is_typed_in ds r p.1 ≡ true
    code p h fit = let s = both-true (constants_fit p.0) (is_spelled_in p.1) fit in both_true (has-type Flag p.0 h.0 s.0) (h.1 s.1)

    loop-typed : (word : LoopWord) (k : Key) (at : Place) (h : Head) (p : Expr × Stmt) → AreCode p → IsTypedStmt (loop_of word k at h p.0 p.1)
    loop-typed Loop.Foreach k at h p c = λ fit. code p c fit
    loop-typed Loop.For k at h p c = λ fit. code p c fit

    whatever : {A : Type 0} (part : Env → Judged A) → GoodIn (λ a. Unit {0}) part
    whatever part env known is has clean = anything (part env).part

    code-typed : (filter : SurfaceExpr) (body : SurfaceStmt) → GoodIn IsTypedStmt (checked body) → GoodIn AreCode (both (test filter) (numbered (checked body)))
    code-typed filter body good = in-both (IsOf ds Flag) IsTypedStmt (test filter) (numbered (checked body)) (test-typed filter) (in-numbered IsTypedStmt (checked body) good)

    pub checked-typed : (s : SurfaceStmt) → GoodIn IsTypedStmt (checked s)
    checked-typed S.Skip env known is = λ has clean. λ _. refl
    checked-typed (S.Then a b) env known is =
        let x = numbered (checked a) env in
        let y = checked b (following a env x) in
        gives-judge ds (λ p. IsTypedStmt p.0 × IsTypedStmt p.1) IsTypedStmt env.next (beside x y) (λ p. Ok (P.Then p.0 p.1))
        (λ has clean. gives-beside ds IsTypedStmt IsTypedStmt env.next x y (in-numbered IsTypedStmt (checked a) (checked-typed a) env known is)
        (checked-typed b (following a env x) (known-behind ds a env known (has-append ds env.next x.declared y.declared has).0) is) has clean)
        (λ p h. λ fit. let s = both-true (is_spelled_in p.0) (is_spelled_in p.1) fit in both_true (h.0 s.0) (h.1 s.1))
    checked-typed (S.Declare t xs) env known is = plain-typed t xs env known
    checked-typed (S.DeclareAs t x at e) env known is = with-typed (edge_declared t e) t x at e env known
    checked-typed (S.Assign t at e) env known is = assignment-typed t.property t at e env known
    checked-typed (S.Defer t at e iterator) env known is = beside-iterator (deferred t at e) iterator (deferred-typed t at e) env known
    checked-typed (S.Combine ts op at es iterator) env known is = beside-iterator (reduced ts op at es) iterator (reduced-typed ts op at es) env known
    checked-typed (S.Increment t at) env known is = increment-typed t at env known
    checked-typed (S.Call op f es xs) env known is = λ has clean. tt
    checked-typed (S.Loop at word h filter body) env known is =
        let inner = both (test filter) (numbered (checked body)) in
        gives-judge ds (λ p. Unit {0} × (IsIterator ds p.1.0 × AreCode p.1.1)) IsTypedStmt env.next (both (ranged h) (iterated h.iterator (loops_of word) inner) env)
        (λ p. Ok (loop_of word env.key at (head_with h p.0 p.1.0) p.1.1.0 p.1.1.1))
        (in-both (λ b. Unit {0}) (λ p. IsIterator ds p.0 × AreCode p.1) (ranged h) (iterated h.iterator (loops_of word) inner) (whatever (ranged h))
        (in-iterated AreCode h.iterator (loops_of word) inner (code-typed filter body (checked-typed body))) env known is)
        (λ p n. loop-typed word env.key at (head_with h p.0 p.1.0) p.1.1 n.1.1)
    checked-typed (S.If at c a b) env known is =
        let branches = both (numbered (checked a)) (numbered (checked b)) in
        gives-judge ds (λ p. IsOf ds Flag p.0 × (IsTypedStmt p.1.0 × IsTypedStmt p.1.1)) IsTypedStmt env.next (both (test c) branches env) (λ p. Ok (P.If env.key p.0 p.1.0 p.1.1))
        (in-both (IsOf ds Flag) (λ p. IsTypedStmt p.0 × IsTypedStmt p.1) (test c) branches (test-typed c)
        (in-both IsTypedStmt IsTypedStmt (numbered (checked a)) (numbered (checked b)) (in-numbered IsTypedStmt (checked a) (checked-typed a)) (in-numbered IsTypedStmt (checked b) (checked-typed b))) env known is)
        (λ p h. λ fit. let s = both-true (constants_fit p.0) (is_spelled_in p.1.0 && is_spelled_in p.1.1) fit in
        let t = both-true (is_spelled_in p.1.0) (is_spelled_in p.1.1) s.1 in
        both_true (has-type Flag p.0 h.0 s.0) (both_true (h.1.0 t.0) (h.1.1 t.1)))
    checked-typed (S.While at c body) env known is =
        gives-judge ds AreCode IsTypedStmt env.next (both (test c) (numbered (checked body)) env) (λ p. Ok (P.While env.key at p.0 p.1))
        (code-typed c body (checked-typed body) env known is) (λ p h. λ fit. code p h fit)
    checked-typed (S.Do at body c) env known is =
        gives-judge ds (λ p. IsTypedStmt p.0 × IsOf ds Flag p.1) IsTypedStmt env.next (both (numbered (checked body)) (test c) env) (λ p. Ok (P.Do env.key at p.0 p.1))
        (in-both IsTypedStmt (IsOf ds Flag) (numbered (checked body)) (test c) (in-numbered IsTypedStmt (checked body) (checked-typed body)) (test-typed c) env known is)
        (λ p h. λ fit. let s = both-true (is_spelled_in p.0) (constants_fit p.1) fit in both_true (h.0 s.0) (has-type Flag p.1 h.1 s.1))
    checked-typed (S.InBfs at v g root filter body) env known is =
        let ends = both (graph_searched g) (rooted root) in
        let inner = both (test filter) (numbered (checked body)) in
        gives-judge ds (λ p. Unit {0} × (IsIterator ds p.1.0 × AreCode p.1.1)) IsTypedStmt env.next (both ends (iterated v 1 inner) env)
        (λ p. Ok (P.InBfs env.key at (search_of root p.0 p.1.0) p.1.1.0 p.1.1.1))
        (in-both (λ b. Unit {0}) (λ p. IsIterator ds p.0 × AreCode p.1) ends (iterated v 1 inner) (whatever ends) (in-iterated AreCode v 1 inner (code-typed filter body (checked-typed body))) env known is)
        (λ p n. λ fit. code p.1.1 n.1.1 fit)
    checked-typed (S.InBfsBoth at v g root filter body reverse back_filter back) env known is =
        let ends = both (graph_searched g) (rooted root) in
        let there = both (test filter) (numbered (checked body)) in
        let back_part = searched (test back_filter) (numbered (checked back)) in
        let inner = both there (numbered back_part) in
        gives-judge ds (λ p. Unit {0} × (IsIterator ds p.1.0 × (AreCode p.1.1.0 × AreCode p.1.1.1.1))) IsTypedStmt env.next (both ends (iterated v 1 inner) env)
        (λ p. Ok (P.InBfsBoth env.key at (search_of root p.0 p.1.0) p.1.1.0.0 p.1.1.0.1 p.1.1.1.0 p.1.1.1.1.0 p.1.1.1.1.1))
        (in-both (λ b. Unit {0}) (λ p. IsIterator ds p.0 × (AreCode p.1.0 × AreCode p.1.1.1)) ends (iterated v 1 inner) (whatever ends)
        (in-iterated (λ p. AreCode p.0 × AreCode p.1.1) v 1 inner
        (in-both AreCode (λ q. AreCode q.1) there (numbered back_part) (code-typed filter body (checked-typed body))
        (in-numbered (λ q. AreCode q.1) back_part
        (λ env known is. gives-judge ds AreCode (λ q. AreCode q.1) env.next (both (test back_filter) (numbered (checked back)) env) (λ p. Ok (env.key, p))
        (code-typed back_filter back (checked-typed back) env known is) (λ p h. h))))) env known is)
        (λ p n. λ fit. let s = both-true (constants_fit p.1.1.0.0) (is_spelled_in p.1.1.0.1 && (constants_fit p.1.1.1.1.0 && is_spelled_in p.1.1.1.1.1)) fit in
        let t = both-true (is_spelled_in p.1.1.0.1) (constants_fit p.1.1.1.1.0 && is_spelled_in p.1.1.1.1.1) s.1 in
        both_true (has-type Flag p.1.1.0.0 n.1.1.0.0 s.0) (both_true (n.1.1.0.1 t.0) (code p.1.1.1.1 n.1.1.1 t.1)))
    checked-typed (S.Return at None) env known is = λ has clean. if-good IsTypedStmt (is_none env.result) T14 at (P.Return env.key at None) (λ n. λ _. nothing-returned env.result is n)
    checked-typed (S.Return at (Some e)) env known is = gives-judge ds (IsTypedPart ds) IsTypedStmt env.next (typed e env) (returned env.key at env.result)
        (typed-typed ds e env known) (λ p h. returned-typed env.key at env.result p is h)
