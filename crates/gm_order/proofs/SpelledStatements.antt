-- Typing keeps constants in range and tuples under Min and Max, where the tree of the text does.
use Rattle.std.proofs.Common.{◌≡◌, ◌+◌, ℕ, true, false, List, [], ◌∷◌, map, refl, Option, Some, None}
use Rattle.std.specs.Prelude.{◌&&◌, is_none, Ok}
use Rattle.std.specs.Cmp.Derive.{both_true}
use Rattle.gm_base.specs.declared.places.Place.{Place}
use Rattle.gm_base.specs.declared.rules.Rule.{Rule}
use Rattle.gm_base.specs.declared.rules.Rule.TheVariants.{T9, T11, T14}
use Rattle.gm_value.specs.declared.values.VType.{VType}
use Rattle.gm_value.specs.declared.values.VType.TheVariants.{I32, I64, Flag, Node}
use Rattle.gm_value.specs.declared.reductions.Reduce.{Reduce}
use Rattle.gm_value.specs.declared.reductions.Reduce.TheVariants as R
use Rattle.gm_ast.specs.declared.tree.Head.{Head}
use Rattle.gm_ast.specs.declared.tree.Key.{Key}
use Rattle.gm_ast.specs.declared.tree.Sort.{Sort}
use Rattle.gm_ast.specs.declared.tree.Sort.TheVariants as Sorts
use Rattle.gm_ast.specs.declared.kinds.Goal.{Goal}
use Rattle.gm_ast.specs.declared.kinds.Role.TheVariants.{Local}
use Rattle.gm_ast.specs.declared.surface.LoopWord.{LoopWord}
use Rattle.gm_ast.specs.declared.surface.LoopWord.TheVariants as Loop
use Rattle.gm_ast.specs.Surface.{SurfaceName, SurfaceType, SurfaceTarget, SurfaceExpr, SurfaceStmt, SurfaceProcedure}
use Rattle.gm_ast.specs.Surface as S
use Rattle.gm_ast.specs.Program as P
use Rattle.gm_ast.specs.Program.{Expr, Stmt, Program}
use Rattle.gm_ast.specs.Judged.{Judged, Answer, judge, beside, noted, ok_of, refused_unless, then_answer}
use Rattle.gm_ast.specs.Names.{Env, known_as, both, judged_each, iterated, inside, later, operators_of, numbered, declared_as, an_iterator}
use Rattle.gm_ast.specs.Kinds.{Part, fitted}
use Rattle.gm_ast.specs.Typing.{typed, start_of, ranged, head_with}
use Rattle.gm_ast.specs.Statements.{goal, fits_goal, reduces, first_wanted, total_at, fits_each, all_answers, combined, one_of, incremented, goals, typed_all, apart_from_first, goals_together, reduced, names_graph, group_target, in_group, grouped, assigned, deferred, assignment, returned, at_iterator, type_broken, sort_of, vtype_of, variable_of, declared_all, plain_declarations, declarations_as, declared_plainly, edge_declared, edge_owner, declared_value, declared_typed, declared_with, following, loops_of, loop_of, test, graph_searched, rooted, search_of, searched, checked}
use Rattle.gm_ast.specs.Procedures.{elaborated, all_parameters, env_of_body, head_broken}
use Rattle.gm_forms.proofs.Named.{both-true}
use Rattle.gm_ready.specs.Spelled.{all_fit, may_reduce, is_spelled_in, is_spelled}
use Rattle.gm_ready.proofs.Judging.{IfPart, if-by, if-both, if-good, if-then}
use Rattle.gm_order.specs.Spelling.{numbers_fit, all_numbers_fit, may_assign, is_within_limits}
use Rattle.gm_order.proofs.Parts.{anything, if-with, if-judged}
use Rattle.gm_order.proofs.Constants.{Fit, FitPart, fitted-fits, condition-fits, typed-fits}

abbrev IsSpelled : Stmt → Type 0
IsSpelled s = is_spelled_in s ≡ true

abbrev IfSpelled : Answer Stmt → Type 0
IfSpelled a = IfPart IsSpelled (ok_of a)

fits-goal : (w : Option VType) (rule : Rule) (at : Place) (p : Part) → FitPart p → IfPart Fit (ok_of (fits_goal w rule at p))
fits-goal None rule at p h = tt
fits-goal (Some t) rule at p h = fitted-fits t rule at p h

test-fits : (e : SurfaceExpr) → numbers_fit e ≡ true → (env : Env) → IfPart Fit (test e env).part
test-fits e h env = condition-fits (start_of e) (typed e env) (typed-fits e h env)

-- ---- assignments

module _ (e : SurfaceExpr) (h : numbers_fit e ≡ true) where
  beside-goal : {A : Type 0} (o : Judged A) (env : Env) → IfPart (λ p. Unit {0} × FitPart p.1) (beside o (typed e (later env o))).part
  beside-goal o env = if-both (λ a. Unit {0}) FitPart o.part (typed e (later env o)).part (anything o.part) (typed-fits e h (later env o))

  assigned-spelled : (t : SurfaceTarget) (at : Place) (env : Env) → IfPart IsSpelled (assigned t at e env).part
  assigned-spelled t at env =
      if-by (λ p. Unit {0} × FitPart p.1) IsSpelled (both (goal false t) (typed e) env).part (λ p. then_answer (fits_goal p.0.wanted T9 at p.1) (P.Assign env.key p.0.target))
      (beside-goal (goal false t env) env) (λ p k. if-then Fit IsSpelled (fits_goal p.0.wanted T9 at p.1) (P.Assign env.key p.0.target) (fits-goal p.0.wanted T9 at p.1 k.1) (λ a n. n))

  deferred-spelled : (t : SurfaceTarget) (at : Place) (env : Env) → IfPart IsSpelled (deferred t at e env).part
  deferred-spelled t at env =
      if-by (λ p. Unit {0} × FitPart p.1) IsSpelled (both (goal true t) (typed e) env).part (λ p. then_answer (fits_goal p.0.wanted T9 at p.1) (P.Defer env.key p.0.target))
      (beside-goal (goal true t env) env) (λ p k. if-then Fit IsSpelled (fits_goal p.0.wanted T9 at p.1) (P.Defer env.key p.0.target) (fits-goal p.0.wanted T9 at p.1 k.1) (λ a n. n))

  grouped-spelled : (x p : SurfaceName) (at : Place) (env : Env) → IfPart IsSpelled (grouped x p at e env).part
  grouped-spelled x p at env =
      let target = group_target x p env in
      let inner : Env = record (later env target) { group = true; depth = env.depth + 1 } in
      if-by (λ ps. Unit {0} × FitPart ps.1) IsSpelled (both (group_target x p) (in_group (typed e)) env).part (λ ps. then_answer (fitted ps.0.1.1 T9 at ps.1) (P.Group env.key x.place ps.0.0 ps.0.1.0))
      (if-both (λ a. Unit {0}) FitPart target.part (typed e inner).part (anything target.part) (typed-fits e h inner))
      (λ ps k. if-then Fit IsSpelled (fitted ps.0.1.1 T9 at ps.1) (P.Group env.key x.place ps.0.0 ps.0.1.0) (fitted-fits ps.0.1.1 T9 at ps.1 k.1) (λ a n. n))

  assignment-spelled : (o : Option SurfaceName) (t : SurfaceTarget) (at : Place) (env : Env) → IfPart IsSpelled (assignment o t at e env).part
  assignment-spelled None t at env = assigned-spelled t at env
  assignment-spelled (Some p) t at env =
      if-judged IsSpelled (names_graph (known_as env.known t.owner.text)) (grouped t.owner p at e env) (assigned t at e env) (grouped-spelled t.owner p at env) (assigned-spelled t at env)

  value-spelled : (s : Sort) (k : Key) (x : SurfaceName) (at : Place) (t : VType) (p : ℕ × Part) → FitPart p.1 → IfSpelled (declared_value k x at t s p)
  value-spelled Sorts.Scalar k x at t p n = if-then Fit IsSpelled (fitted t T9 at p.1) (λ a. P.Declare k p.0 (Some a)) (fitted-fits t T9 at p.1 n) (λ a m. m)
  value-spelled Sorts.Edge k x at t p n = tt
  value-spelled Sorts.Graph k x at t p n = tt
  value-spelled Sorts.Iterator k x at t p n = tt
  value-spelled Sorts.NodeProperty k x at t p n = tt
  value-spelled Sorts.EdgeProperty k x at t p n = tt

  with-spelled : (o : Option SurfaceName) (t : SurfaceType) (x : SurfaceName) (at : Place) (env : Env) → IfPart IsSpelled (declared_with o t x at e env).part
  with-spelled (Some y) t x at env =
      let parts = both (declared_typed t x) (edge_owner y) env in
      if-by (λ p. Unit {0}) IsSpelled parts.part (λ p. Ok (P.DeclareEdge p.0 p.1.index y.place)) (anything parts.part) (λ p _. refl)
  with-spelled None t x at env =
      if-by (λ p. Unit {0} × FitPart p.1) IsSpelled (both (declared_typed t x) (typed e) env).part (declared_value env.key x at (vtype_of t) (sort_of t))
      (beside-goal (declared_typed t x env) env) (λ p k. value-spelled (sort_of t) env.key x at (vtype_of t) p k.1)

-- ---- declarations

plainly-spelled : (k : Key) (ns : List ℕ) → IsSpelled (plain_declarations k ns)
plainly-spelled k [] = refl
plainly-spelled k (n ∷ ns) = plainly-spelled k ns

declarations-spelled : (s : Sort) (k : Key) (xs : List SurfaceName) (ns : List ℕ) → IfSpelled (declarations_as s k xs ns)
declarations-spelled Sorts.Edge k xs ns = tt
declarations-spelled Sorts.Graph k xs ns = plainly-spelled k ns
declarations-spelled Sorts.Iterator k xs ns = plainly-spelled k ns
declarations-spelled Sorts.Scalar k xs ns = plainly-spelled k ns
declarations-spelled Sorts.NodeProperty k xs ns = plainly-spelled k ns
declarations-spelled Sorts.EdgeProperty k xs ns = plainly-spelled k ns

plain-spelled : (t : SurfaceType) (xs : List SurfaceName) (env : Env) → IfPart IsSpelled (declared_plainly t xs env).part
plain-spelled t xs env =
    let parts = beside (noted (tt {0}) (type_broken t Local env)) (declared_all (variable_of t env.depth) xs env) in
    if-by (λ p. Unit {0}) IsSpelled parts.part (λ p. declarations_as (sort_of t) env.key xs p.1) (anything parts.part) (λ p _. declarations-spelled (sort_of t) env.key xs p.1)

-- ---- reductions

-- lists of one length
abbrev AsLong : {A B : Type 0} → List A → List B → Type 0
AsLong [] [] = Unit {0}
AsLong (x ∷ xs) (y ∷ ys) = AsLong xs ys
AsLong _ _ = ⊥

each-long : {X A : Type 0} (one : X → Env → Judged A) (xs : List X) (env : Env) → IfPart (AsLong xs) (judged_each one xs env).part
each-long one [] env = tt
each-long one (x ∷ xs) env =
    let a = one x env in
    let as' = judged_each one xs (later env a) in
    if-by (λ p. Unit {0} × AsLong xs p.1) (AsLong (x ∷ xs)) (beside a as').part (λ p. Ok (p.0 ∷ p.1))
    (if-both (λ y. Unit {0}) (AsLong xs) a.part as'.part (anything a.part) (each-long one xs (later env a))) (λ p h. h.1)

may-reduce : (r : Reduce) (ts : List SurfaceTarget) (gs : List Goal) → AsLong ts gs → may_assign r ts ≡ true → may_reduce r (map (λ g. g.target) gs) ≡ true
may-reduce r ts [] l h = refl
may-reduce r ts (g ∷ []) l h = refl
may-reduce r [] (g ∷ (u ∷ gs)) l h = absurd l
may-reduce r (t ∷ []) (g ∷ (u ∷ gs)) l h = absurd l
may-reduce r (t ∷ (v ∷ ts)) (g ∷ (u ∷ gs)) l h = h

abbrev AllFitParts : List Part → Type 0
AllFitParts [] = Unit {0}
AllFitParts (p ∷ ps) = FitPart p × AllFitParts ps

all-typed : (es : List SurfaceExpr) → all_numbers_fit es ≡ true → (env : Env) → IfPart AllFitParts (typed_all es env).part
all-typed [] h env = tt
all-typed (e ∷ es) h env =
    let s = both-true (numbers_fit e) (all_numbers_fit es) h in
    let p = typed e env in
    let ps = typed_all es (later env p) in
    if-by (λ p. FitPart p.0 × AllFitParts p.1) AllFitParts (beside p ps).part (λ p. Ok (p.0 ∷ p.1))
    (if-both FitPart AllFitParts p.part ps.part (typed-fits e s.0 env) (all-typed es s.1 (later env p))) (λ p h. h)

abbrev AllFit : List Expr → Type 0
AllFit es = all_fit es ≡ true

fits-all : (at : Place) (gs : List Goal) (ps : List Part) → AllFitParts ps → IfPart AllFit (ok_of (all_answers (fits_each at gs ps)))
fits-all at [] [] h = refl
fits-all at [] (p ∷ ps) h = tt
fits-all at (g ∷ gs) [] h = tt
fits-all at (g ∷ gs) (p ∷ ps) h =
    if-with Fit AllFit AllFit (λ x xs. x ∷ xs) (fits_goal g.wanted T9 at p) (all_answers (fits_each at gs ps))
    (fits-goal g.wanted T9 at p h.0) (fits-all at gs ps h.1) (λ a as' n m. both_true n m)

reduced-spelled : (ts : List SurfaceTarget) (r : Reduce) (at : Place) (es : List SurfaceExpr) → may_assign r ts ≡ true → all_numbers_fit es ≡ true → (env : Env) → IfPart IsSpelled (reduced ts r at es env).part
reduced-spelled ts r at es m h env =
    let gs = goals ts env in
    let apart = noted (tt {0}) (apart_from_first ts) in
    let together = goals_together ts env in
    if-by (λ ps. AsLong ts ps.0 × AllFitParts ps.1) IsSpelled (both (goals_together ts) (typed_all es) env).part (combined env.key at r)
    (if-both (AsLong ts) AllFitParts together.part (typed_all es (later env together)).part
    (if-by (λ p. AsLong ts p.0 × Unit {0}) (AsLong ts) (beside gs apart).part (λ p. Ok p.0) (if-both (AsLong ts) (λ u. Unit {0}) gs.part apart.part (each-long (goal false) ts env) tt) (λ p k. k.0))
    (all-typed es h (later env together)))
    (λ ps k. if-with (λ u. Unit {0}) AllFit IsSpelled (λ u xs. P.Combine env.key (total_at env.key at) r (map (λ g. g.target) ps.0) xs)
    (refused_unless (reduces r (first_wanted ps.0)) T11 at (tt {0})) (all_answers (fits_each at ps.0 ps.1))
    (anything (ok_of (refused_unless (reduces r (first_wanted ps.0)) T11 at (tt {0})))) (fits-all at ps.0 ps.1 k.1)
    (λ u xs _ n. both_true (may-reduce r ts ps.0 k.0 m) n))

incremented-spelled : (k : Key) (at : Place) (g : Goal) (w : Option VType) → IfSpelled (then_answer (one_of w at) (λ e. P.Combine k (total_at k at) R.Sum (g.target ∷ []) (e ∷ [])))
incremented-spelled k at g None = tt
incremented-spelled k at g (Some I32) = refl
incremented-spelled k at g (Some I64) = refl
incremented-spelled k at g (Some Flag) = tt
incremented-spelled k at g (Some Node) = tt

-- ---- whole statements

beside-iterator : (part : Env → Judged Stmt) (x : Option SurfaceName) (env : Env) → IfPart IsSpelled (part env).part → IfPart IsSpelled (judge (both part (at_iterator x) env) (λ p. Ok p.0)).part
beside-iterator part x env h =
    let i = at_iterator x (later env (part env)) in
    if-by (λ p. IsSpelled p.0 × Unit {0}) IsSpelled (both part (at_iterator x) env).part (λ p. Ok p.0) (if-both IsSpelled (λ n. Unit {0}) (part env).part i.part h (anything i.part)) (λ p k. k.0)

returned-spelled : (k : Key) (at : Place) (o : Option VType) (p : Part) → FitPart p → IfSpelled (returned k at o p)
returned-spelled k at None p h = tt
returned-spelled k at (Some t) p h = if-then Fit IsSpelled (fitted t T14 at p) (λ e. P.Return k at (Some e)) (fitted-fits t T14 at p h) (λ e n. n)

loop-spelled : (word : LoopWord) (k : Key) (at : Place) (h : Head) (p : Expr × Stmt) → Fit p.0 × IsSpelled p.1 → IsSpelled (loop_of word k at h p.0 p.1)
loop-spelled Loop.Foreach k at h p c = both_true c.0 c.1
loop-spelled Loop.For k at h p c = both_true c.0 c.1

-- what stands around a statement with a number of its own
abbrev numbered_env : Env → Env
numbered_env env = record env { number = env.number + 1; key = operators_of env.number }

code-spelled : (filter : SurfaceExpr) (body : SurfaceStmt) → numbers_fit filter ≡ true → ((env : Env) → IfPart IsSpelled (checked body env).part) → (env : Env)
    → IfPart (λ p. Fit p.0 × IsSpelled p.1) (both (test filter) (numbered (checked body)) env).part
code-spelled filter body h good env =
    let x = test filter env in
    if-both Fit IsSpelled x.part (numbered (checked body) (later env x)).part (test-fits filter h env) (good (numbered_env (later env x)))

pub checked-spelled : (s : SurfaceStmt) → is_within_limits s ≡ true → (env : Env) → IfPart IsSpelled (checked s env).part
checked-spelled S.Skip h env = refl
checked-spelled (S.Then a b) h env =
    let s = both-true (is_within_limits a) (is_within_limits b) h in
    let x = numbered (checked a) env in
    let y = checked b (following a env x) in
    if-by (λ p. IsSpelled p.0 × IsSpelled p.1) IsSpelled (beside x y).part (λ p. Ok (P.Then p.0 p.1))
    (if-both IsSpelled IsSpelled x.part y.part (checked-spelled a s.0 (numbered_env env)) (checked-spelled b s.1 (following a env x))) (λ p k. both_true k.0 k.1)
checked-spelled (S.Declare t xs) h env = plain-spelled t xs env
checked-spelled (S.DeclareAs t x at e) h env = with-spelled e h (edge_declared t e) t x at env
checked-spelled (S.Assign t at e) h env = assignment-spelled e h t.property t at env
checked-spelled (S.Defer t at e iterator) h env = beside-iterator (deferred t at e) iterator env (deferred-spelled e h t at env)
checked-spelled (S.Combine ts r at es iterator) h env =
    let s = both-true (may_assign r ts) (all_numbers_fit es) h in
    beside-iterator (reduced ts r at es) iterator env (reduced-spelled ts r at es s.0 s.1 env)
checked-spelled (S.Increment t at) h env =
    if-by (λ g. Unit {0}) IsSpelled (goal false t env).part (incremented env.key at) (anything (goal false t env).part) (λ g _. incremented-spelled env.key at g g.wanted)
checked-spelled (S.Call r f es xs) h env = tt
checked-spelled (S.Loop at word head filter body) h env =
    let s = both-true (numbers_fit filter) (is_within_limits body) h in
    let inner = both (test filter) (numbered (checked body)) in
    let x = ranged head env in
    let env1 = later env x in
    let i = declared_as env1 head.iterator (an_iterator (env1.depth + loops_of word)) in
    let env2 = inside env1 head.iterator (loops_of word) in
    if-by (λ p. Unit {0} × (Unit {0} × (Fit p.1.1.0 × IsSpelled p.1.1.1))) IsSpelled (both (ranged head) (iterated head.iterator (loops_of word) inner) env).part
    (λ p. Ok (loop_of word env.key at (head_with head p.0 p.1.0) p.1.1.0 p.1.1.1))
    (if-both (λ b. Unit {0}) (λ p. Unit {0} × (Fit p.1.0 × IsSpelled p.1.1)) x.part (iterated head.iterator (loops_of word) inner env1).part (anything x.part)
    (if-both (λ n. Unit {0}) (λ p. Fit p.0 × IsSpelled p.1) i.part (inner env2).part tt (code-spelled filter body s.0 (checked-spelled body s.1) env2)))
    (λ p k. loop-spelled word env.key at (head_with head p.0 p.1.0) p.1.1 k.1.1)
checked-spelled (S.If at c a b) h env =
    let s = both-true (numbers_fit c) (is_within_limits a && is_within_limits b) h in
    let t = both-true (is_within_limits a) (is_within_limits b) s.1 in
    let x = test c env in
    let y = numbered (checked a) (later env x) in
    let z = numbered (checked b) (later (later env x) y) in
    if-by (λ p. Fit p.0 × (IsSpelled p.1.0 × IsSpelled p.1.1)) IsSpelled (beside x (beside y z)).part (λ p. Ok (P.If env.key p.0 p.1.0 p.1.1))
    (if-both Fit (λ p. IsSpelled p.0 × IsSpelled p.1) x.part (beside y z).part (test-fits c s.0 env)
    (if-both IsSpelled IsSpelled y.part z.part (checked-spelled a t.0 (numbered_env (later env x))) (checked-spelled b t.1 (numbered_env (later (later env x) y)))))
    (λ p k. both_true k.0 (both_true k.1.0 k.1.1))
checked-spelled (S.While at c body) h env =
    let s = both-true (numbers_fit c) (is_within_limits body) h in
    if-by (λ p. Fit p.0 × IsSpelled p.1) IsSpelled (both (test c) (numbered (checked body)) env).part (λ p. Ok (P.While env.key at p.0 p.1)) (code-spelled c body s.0 (checked-spelled body s.1) env) (λ p k. both_true k.0 k.1)
checked-spelled (S.Do at body c) h env =
    let s = both-true (is_within_limits body) (numbers_fit c) h in
    let x = numbered (checked body) env in
    let y = test c (later env x) in
    if-by (λ p. IsSpelled p.0 × Fit p.1) IsSpelled (beside x y).part (λ p. Ok (P.Do env.key at p.0 p.1))
    (if-both IsSpelled Fit x.part y.part (checked-spelled body s.0 (numbered_env env)) (test-fits c s.1 (later env x))) (λ p k. both_true k.0 k.1)
checked-spelled (S.InBfs at v g root filter body) h env =
    let s = both-true (numbers_fit filter) (is_within_limits body) h in
    let inner = both (test filter) (numbered (checked body)) in
    let x = both (graph_searched g) (rooted root) env in
    let env1 = later env x in
    let i = declared_as env1 v (an_iterator (env1.depth + 1)) in
    let env2 = inside env1 v 1 in
    if-by (λ p. Unit {0} × (Unit {0} × (Fit p.1.1.0 × IsSpelled p.1.1.1))) IsSpelled (beside x (iterated v 1 inner env1)).part
    (λ p. Ok (P.InBfs env.key at (search_of root p.0 p.1.0) p.1.1.0 p.1.1.1))
    (if-both (λ b. Unit {0}) (λ p. Unit {0} × (Fit p.1.0 × IsSpelled p.1.1)) x.part (iterated v 1 inner env1).part (anything x.part)
    (if-both (λ n. Unit {0}) (λ p. Fit p.0 × IsSpelled p.1) i.part (inner env2).part tt (code-spelled filter body s.0 (checked-spelled body s.1) env2)))
    (λ p k. both_true k.1.1.0 k.1.1.1)
checked-spelled (S.InBfsBoth at v g root filter body reverse back_filter back) h env =
    let s = both-true (numbers_fit filter) (is_within_limits body && (numbers_fit back_filter && is_within_limits back)) h in
    let t = both-true (is_within_limits body) (numbers_fit back_filter && is_within_limits back) s.1 in
    let u = both-true (numbers_fit back_filter) (is_within_limits back) t.1 in
    let there = both (test filter) (numbered (checked body)) in
    let back_part = searched (test back_filter) (numbered (checked back)) in
    let inner = both there (numbered back_part) in
    let x = both (graph_searched g) (rooted root) env in
    let env1 = later env x in
    let i = declared_as env1 v (an_iterator (env1.depth + 1)) in
    let env2 = inside env1 v 1 in
    let y = there env2 in
    let env3 = numbered_env (later env2 y) in
    let code = both (test back_filter) (numbered (checked back)) env3 in
    if-by (λ p. Unit {0} × (Unit {0} × ((Fit p.1.1.0.0 × IsSpelled p.1.1.0.1) × (Fit p.1.1.1.1.0 × IsSpelled p.1.1.1.1.1)))) IsSpelled (beside x (iterated v 1 inner env1)).part
    (λ p. Ok (P.InBfsBoth env.key at (search_of root p.0 p.1.0) p.1.1.0.0 p.1.1.0.1 p.1.1.1.0 p.1.1.1.1.0 p.1.1.1.1.1))
    (if-both (λ b. Unit {0}) (λ p. Unit {0} × ((Fit p.1.0.0 × IsSpelled p.1.0.1) × (Fit p.1.1.1.0 × IsSpelled p.1.1.1.1))) x.part (iterated v 1 inner env1).part (anything x.part)
    (if-both (λ n. Unit {0}) (λ p. (Fit p.0.0 × IsSpelled p.0.1) × (Fit p.1.1.0 × IsSpelled p.1.1.1)) i.part (inner env2).part tt
    (if-both (λ p. Fit p.0 × IsSpelled p.1) (λ q. Fit q.1.0 × IsSpelled q.1.1) y.part (numbered back_part (later env2 y)).part
    (code-spelled filter body s.0 (checked-spelled body t.0) env2)
    (if-by (λ p. Fit p.0 × IsSpelled p.1) (λ q. Fit q.1.0 × IsSpelled q.1.1) code.part (λ p. Ok (env3.key, p)) (code-spelled back_filter back u.0 (checked-spelled back u.1) env3) (λ p k. k)))))
    (λ p k. both_true k.1.1.0.0 (both_true k.1.1.0.1 (both_true k.1.1.1.0 k.1.1.1.1)))
checked-spelled (S.Return at None) h env = if-good IsSpelled (is_none env.result) T14 at (P.Return env.key at None) (λ _. refl)
checked-spelled (S.Return at (Some e)) h env = if-by FitPart IsSpelled (typed e env).part (returned env.key at env.result) (typed-fits e h env) (λ p k. returned-spelled env.key at env.result p k)

pub elaborated-spelled : (p : SurfaceProcedure) → is_within_limits p.body ≡ true → IfPart (λ q. is_spelled q ≡ true) (elaborated p).part
elaborated-spelled p h =
    let params = all_parameters p in
    let env = env_of_body p in
    let note = noted (tt {0}) (head_broken p) in
    let body = numbered (checked p.body) env in
    if-by (λ q. Unit {0} × (Unit {0} × IsSpelled q.1.1)) (λ q. is_spelled q ≡ true) (beside params (beside note body)).part _
    (if-both (λ u. Unit {0}) (λ q. Unit {0} × IsSpelled q.1) params.part (beside note body).part (anything params.part)
    (if-both (λ u. Unit {0}) IsSpelled note.part body.part tt (checked-spelled p.body h (numbered_env env))))
    (λ q k. k.1.1)
