-- In the parallel bodies of a text's program no more Ifs stand within one another than in its tree.
use Rattle.std.proofs.Common.{◌≡◌, ◌≤◌, ℕ, suc, max, List, [], ◌∷◌, map, subst, arith, Option, Some, None}
use Rattle.std.specs.Prelude.{true, false, is_none, Ok}
use Rattle.gm_base.specs.declared.places.Place.{Place}
use Rattle.gm_base.specs.declared.rules.Rule.TheVariants.{T9, T11, T14}
use Rattle.gm_value.specs.declared.values.VType.{VType}
use Rattle.gm_value.specs.declared.values.VType.TheVariants.{I32, I64, Flag, Node}
use Rattle.gm_value.specs.declared.reductions.Reduce.{Reduce}
use Rattle.gm_value.specs.declared.reductions.Reduce.TheVariants.{Sum}
use Rattle.gm_ast.specs.declared.tree.Key.{Key}
use Rattle.gm_ast.specs.declared.tree.Head.{Head}
use Rattle.gm_ast.specs.declared.tree.Sort.{Sort}
use Rattle.gm_ast.specs.declared.tree.Sort.TheVariants as Sorts
use Rattle.gm_ast.specs.declared.kinds.Goal.{Goal}
use Rattle.gm_ast.specs.declared.kinds.Binding.{Binding}
use Rattle.gm_ast.specs.declared.kinds.Role.TheVariants.{Local}
use Rattle.gm_ast.specs.declared.surface.LoopWord.{LoopWord}
use Rattle.gm_ast.specs.declared.surface.LoopWord.TheVariants as Loops
use Rattle.gm_ast.specs.Surface.{SurfaceName, SurfaceType, SurfaceTarget, SurfaceExpr, SurfaceStmt, SurfaceProcedure, Skip, Then, Declare, DeclareAs, Assign, Defer, Combine, Increment, Call, Loop, If, While, Do, InBfs, InBfsBoth, Return}
use Rattle.gm_ast.specs.Program as P
use Rattle.gm_ast.specs.Program.{Expr, Stmt, Program}
use Rattle.gm_ast.specs.Judged.{Judged, beside, noted, ok_of, refused_unless, then_answer}
use Rattle.gm_ast.specs.Names.{Env, known_as, later, inside, both, iterated, numbered}
use Rattle.gm_ast.specs.Kinds.{Part, fitted}
use Rattle.gm_ast.specs.Typing.{typed, ranged, head_with}
use Rattle.gm_ast.specs.Statements.{type_broken, sort_of, vtype_of, variable_of, declared_all, following, goal, fits_goal, at_iterator, total_at, reduces, first_wanted, fits_each, all_answers, combined, one_of, incremented, goals_together, typed_all, reduced, plain_declarations, declarations_as, edge_declared, edge_owner, declared_value, declared_typed, declared_with, names_graph, group_target, in_group, grouped, assigned, deferred, assignment, returned, rooted, graph_searched, search_of, loops_of, loop_of, test, searched, checked}
use Rattle.gm_ast.specs.Procedures.{env_of_body, all_parameters, head_broken, parts_of, elaborated}
use Rattle.gm_depth.specs.Nesting.{body_nesting, nesting, tree_nesting}
use Rattle.gm_depth.proofs.Checking.{inner}
use Rattle.gm_depth.proofs.Parts.{IfPart, anything, if-by, if-both, if-good, if-then, if-with, if-judged}

-- in a statement no more Ifs stand within one another than a limit, be it of a parallel body or of a sequential phase
abbrev Nests : ℕ → Stmt → Type 0
Nests m s = (body_nesting s ≤ m) × (nesting s ≤ m)

-- none does, in one without others in it
abbrev Plain : Stmt → Type 0
Plain s = Nests 0 s

plain : (0 ≤ 0) × (0 ≤ 0)
plain = (omega arith, omega arith)

-- ---- statements without others in them

combined-plain : (k : Key) (at : Place) (r : Reduce) (ps : List Goal × List Part) → IfPart Plain (ok_of (combined k at r ps))
combined-plain k at r ps =
    if-with (λ u. Unit {0}) (λ es. Unit {0}) Plain (λ u es. P.Combine k (total_at k at) r (map (λ g. g.target) ps.0) es)
    (refused_unless (reduces r (first_wanted ps.0)) T11 at (tt {0})) (all_answers (fits_each at ps.0 ps.1))
    (anything (ok_of (refused_unless (reduces r (first_wanted ps.0)) T11 at (tt {0})))) (anything (ok_of (all_answers (fits_each at ps.0 ps.1)))) (λ u es a f. plain)

reduced-plain : (ts : List SurfaceTarget) (r : Reduce) (at : Place) (es : List SurfaceExpr) (env : Env) → IfPart Plain (reduced ts r at es env).part
reduced-plain ts r at es env =
    if-by (λ p. Unit {0}) Plain (both (goals_together ts) (typed_all es) env).part (combined env.key at r) (anything (both (goals_together ts) (typed_all es) env).part) (λ p g. combined-plain env.key at r p)

one-plain : (k : Key) (at : Place) (g : Goal) (wanted : Option VType) → IfPart Plain (ok_of (then_answer (one_of wanted at) (λ e. P.Combine k (total_at k at) Sum (g.target ∷ []) (e ∷ []))))
one-plain k at g None = tt
one-plain k at g (Some I32) = plain
one-plain k at g (Some I64) = plain
one-plain k at g (Some Flag) = tt
one-plain k at g (Some Node) = tt

declarations : (k : Key) (ns : List ℕ) → Plain (plain_declarations k ns)
declarations k [] = plain
declarations k (n ∷ ns) =
    let x : body_nesting (plain_declarations k ns) ≤ 0 = (declarations k ns).0 in
    let y : nesting (plain_declarations k ns) ≤ 0 = (declarations k ns).1 in
    (omega arith, omega arith)

declarations-plain : (s : Sort) (k : Key) (xs : List SurfaceName) (ns : List ℕ) → IfPart Plain (ok_of (declarations_as s k xs ns))
declarations-plain Sorts.Edge k xs ns = tt
declarations-plain Sorts.Graph k xs ns = declarations k ns
declarations-plain Sorts.Iterator k xs ns = declarations k ns
declarations-plain Sorts.Scalar k xs ns = declarations k ns
declarations-plain Sorts.NodeProperty k xs ns = declarations k ns
declarations-plain Sorts.EdgeProperty k xs ns = declarations k ns

declared-plain : (k : Key) (x : SurfaceName) (at : Place) (t : VType) (s : Sort) (p : ℕ × Part) → IfPart Plain (ok_of (declared_value k x at t s p))
declared-plain k x at t Sorts.Scalar p = if-then (λ e. Unit {0}) Plain (fitted t T9 at p.1) (λ e. P.Declare k p.0 (Some e)) (anything (ok_of (fitted t T9 at p.1))) (λ e f. plain)
declared-plain k x at t Sorts.Edge p = tt
declared-plain k x at t Sorts.Graph p = tt
declared-plain k x at t Sorts.Iterator p = tt
declared-plain k x at t Sorts.NodeProperty p = tt
declared-plain k x at t Sorts.EdgeProperty p = tt

with-plain : (o : Option SurfaceName) (t : SurfaceType) (x : SurfaceName) (at : Place) (e : SurfaceExpr) (env : Env) → IfPart Plain (declared_with o t x at e env).part
with-plain (Some y) t x at e env = if-by (λ p. Unit {0}) Plain (both (declared_typed t x) (edge_owner y) env).part _ (anything (both (declared_typed t x) (edge_owner y) env).part) (λ p u. plain)
with-plain None t x at e env =
    if-by (λ p. Unit {0}) Plain (both (declared_typed t x) (typed e) env).part (declared_value env.key x at (vtype_of t) (sort_of t)) (anything (both (declared_typed t x) (typed e) env).part)
    (λ p g. declared-plain env.key x at (vtype_of t) (sort_of t) p)

assigned-plain : (t : SurfaceTarget) (at : Place) (e : SurfaceExpr) (env : Env) → IfPart Plain (assigned t at e env).part
assigned-plain t at e env =
    if-by (λ p. Unit {0}) Plain (both (goal false t) (typed e) env).part _ (anything (both (goal false t) (typed e) env).part)
    (λ p g. if-then (λ x. Unit {0}) Plain (fits_goal p.0.wanted T9 at p.1) (P.Assign env.key p.0.target) (anything (ok_of (fits_goal p.0.wanted T9 at p.1))) (λ x f. plain))

deferred-plain : (t : SurfaceTarget) (at : Place) (e : SurfaceExpr) (env : Env) → IfPart Plain (deferred t at e env).part
deferred-plain t at e env =
    if-by (λ p. Unit {0}) Plain (both (goal true t) (typed e) env).part _ (anything (both (goal true t) (typed e) env).part)
    (λ p g. if-then (λ x. Unit {0}) Plain (fits_goal p.0.wanted T9 at p.1) (P.Defer env.key p.0.target) (anything (ok_of (fits_goal p.0.wanted T9 at p.1))) (λ x f. plain))

grouped-plain : (x p : SurfaceName) (at : Place) (e : SurfaceExpr) (env : Env) → IfPart Plain (grouped x p at e env).part
grouped-plain x p at e env =
    if-by (λ q. Unit {0}) Plain (both (group_target x p) (in_group (typed e)) env).part _ (anything (both (group_target x p) (in_group (typed e)) env).part)
    (λ q g. if-then (λ y. Unit {0}) Plain (fitted q.0.1.1 T9 at q.1) (P.Group env.key x.place q.0.0 q.0.1.0) (anything (ok_of (fitted q.0.1.1 T9 at q.1))) (λ y f. plain))

assignment-plain : (o : Option SurfaceName) (t : SurfaceTarget) (at : Place) (e : SurfaceExpr) (env : Env) → IfPart Plain (assignment o t at e env).part
assignment-plain None t at e env = assigned-plain t at e env
assignment-plain (Some p) t at e env =
    if-judged Plain (names_graph (known_as env.known t.owner.text)) (grouped t.owner p at e env) (assigned t at e env) (grouped-plain t.owner p at e env) (assigned-plain t at e env)

returned-plain : (k : Key) (at : Place) (o : Option VType) (p : Part) → IfPart Plain (ok_of (returned k at o p))
returned-plain k at None p = tt
returned-plain k at (Some t) p = if-then (λ e. Unit {0}) Plain (fitted t T14 at p) (λ e. P.Return k at (Some e)) (anything (ok_of (fitted t T14 at p))) (λ e f. plain)

-- ---- statements

loop-nests : (m : ℕ) (word : LoopWord) (k : Key) (at : Place) (h : Head) (e : Expr) (s : Stmt) → Nests m s → Nests m (loop_of word k at h e s)
loop-nests m Loops.Foreach k at h e s g = (omega arith, g.0)
loop-nests m Loops.For k at h e s g = (omega arith, g.1)

then-nests : (m n : ℕ) (a b : Stmt) → Nests m a → Nests n b → Nests (max m n) (P.Then a b)
then-nests m n a b h k =
    let x : body_nesting a ≤ m = h.0 in
    let y : body_nesting b ≤ n = k.0 in
    let z : nesting a ≤ m = h.1 in
    let w : nesting b ≤ n = k.1 in
    (omega arith, omega arith)

if-nests : (m n : ℕ) (key : Key) (c : Expr) (a b : Stmt) → Nests m a → Nests n b → Nests (suc (max m n)) (P.If key c a b)
if-nests m n key c a b h k =
    let x : body_nesting a ≤ m = h.0 in
    let y : body_nesting b ≤ n = k.0 in
    let z : nesting a ≤ m = h.1 in
    let w : nesting b ≤ n = k.1 in
    (omega arith, omega arith)

both-bodies : (m n : ℕ) (a b : Stmt) → Nests m a → Nests n b → (0 ≤ max m n) × (max (body_nesting a) (body_nesting b) ≤ max m n)
both-bodies m n a b h k = let x : body_nesting a ≤ m = h.0 in let y : body_nesting b ≤ n = k.0 in (omega arith, omega arith)

abbrev BodyNests : ℕ → Expr × Stmt → Type 0
BodyNests m p = Unit {0} × Nests m p.1

-- a condition and a body behind it
body-nests : (m : ℕ) (e : SurfaceExpr) (part : Env → Judged Stmt) (env : Env) → ((env : Env) → IfPart (Nests m) (part env).part) → IfPart (BodyNests m) (both (test e) (numbered part) env).part
body-nests m e part env h =
    let after = later env (test e env) in
    if-both (λ c. Unit {0}) (Nests m) (test e env).part (part (inner after)).part (anything (test e env).part) (h (inner after))

checked-nests : (s : SurfaceStmt) (env : Env) → IfPart (Nests (tree_nesting s)) (checked s env).part
checked-nests Skip env = plain
checked-nests (Then a b) env =
    let x = numbered (checked a) env in
    let after = following a env x in
    let m = tree_nesting a in
    let n = tree_nesting b in
    if-by (λ (p : Stmt × Stmt). Nests m p.0 × Nests n p.1) (Nests (max m n)) (beside x (checked b after)).part (λ p. Ok (P.Then p.0 p.1))
    (if-both (Nests m) (Nests n) x.part (checked b after).part (checked-nests a (inner env)) (checked-nests b after)) (λ p g. then-nests m n p.0 p.1 g.0 g.1)
checked-nests (Declare t xs) env =
    let x = beside (noted (tt {0}) (type_broken t Local env)) (declared_all (variable_of t env.depth) xs env) in
    if-by (λ p. Unit {0}) Plain x.part (λ p. declarations_as (sort_of t) env.key xs p.1) (anything x.part) (λ p u. declarations-plain (sort_of t) env.key xs p.1)
checked-nests (DeclareAs t x at e) env = with-plain (edge_declared t e) t x at e env
checked-nests (Assign t at e) env = assignment-plain t.property t at e env
checked-nests (Defer t at e iterator) env =
    let after = later env (deferred t at e env) in
    if-by (λ (p : Stmt × ℕ). Plain p.0 × Unit {0}) Plain (both (deferred t at e) (at_iterator iterator) env).part (λ p. Ok p.0)
    (if-both Plain (λ i. Unit {0}) (deferred t at e env).part (at_iterator iterator after).part (deferred-plain t at e env) (anything (at_iterator iterator after).part)) (λ p g. g.0)
checked-nests (Combine ts r at es iterator) env =
    let after = later env (reduced ts r at es env) in
    if-by (λ (p : Stmt × ℕ). Plain p.0 × Unit {0}) Plain (both (reduced ts r at es) (at_iterator iterator) env).part (λ p. Ok p.0)
    (if-both Plain (λ i. Unit {0}) (reduced ts r at es env).part (at_iterator iterator after).part (reduced-plain ts r at es env) (anything (at_iterator iterator after).part)) (λ p g. g.0)
checked-nests (Increment t at) env =
    if-by (λ g. Unit {0}) Plain (goal false t env).part (incremented env.key at) (anything (goal false t env).part) (λ g u. one-plain env.key at g g.wanted)
checked-nests (Call r f es xs) env = tt
checked-nests (Loop at word h filter body) env =
    let m = tree_nesting body in
    let parts = both (test filter) (numbered (checked body)) in
    let after = later env (ranged h env) in
    let env1 = inside after h.iterator (loops_of word) in
    if-by (λ (p : Binding × (ℕ × (Expr × Stmt))). Unit {0} × (Unit {0} × BodyNests m p.1.1)) (Nests m) (both (ranged h) (iterated h.iterator (loops_of word) parts) env).part
    (λ p. Ok (loop_of word env.key at (head_with h p.0 p.1.0) p.1.1.0 p.1.1.1))
    (if-both (λ b. Unit {0}) (λ (p : ℕ × (Expr × Stmt)). Unit {0} × BodyNests m p.1) (ranged h env).part (iterated h.iterator (loops_of word) parts after).part (anything (ranged h env).part)
    (if-both (λ i. Unit {0}) (BodyNests m) (Some after.next) (parts env1).part tt (body-nests m filter (checked body) env1 (λ env. checked-nests body env))))
    (λ p g. loop-nests m word env.key at (head_with h p.0 p.1.0) p.1.1.0 p.1.1.1 g.1.1.1)
checked-nests (If at c a b) env =
    let m = tree_nesting a in
    let n = tree_nesting b in
    let first = numbered (checked a) in
    let second = numbered (checked b) in
    let env1 = later env (test c env) in
    let env2 = later env1 (first env1) in
    if-by (λ (p : Expr × (Stmt × Stmt)). Unit {0} × (Nests m p.1.0 × Nests n p.1.1)) (Nests (suc (max m n))) (both (test c) (both first second) env).part (λ p. Ok (P.If env.key p.0 p.1.0 p.1.1))
    (if-both (λ e. Unit {0}) (λ (p : Stmt × Stmt). Nests m p.0 × Nests n p.1) (test c env).part (both first second env1).part (anything (test c env).part)
    (if-both (Nests m) (Nests n) (first env1).part (second env2).part (checked-nests a (inner env1)) (checked-nests b (inner env2))))
    (λ p g. if-nests m n env.key p.0 p.1.0 p.1.1 g.1.0 g.1.1)
checked-nests (While at c body) env =
    let m = tree_nesting body in
    if-by (BodyNests m) (Nests m) (both (test c) (numbered (checked body)) env).part (λ p. Ok (P.While env.key at p.0 p.1)) (body-nests m c (checked body) env (λ env. checked-nests body env)) (λ p g. (omega arith, g.1.1))
checked-nests (Do at body c) env =
    let m = tree_nesting body in
    let first = numbered (checked body) in
    let env1 = later env (first env) in
    if-by (λ (p : Stmt × Expr). Nests m p.0 × Unit {0}) (Nests m) (both first (test c) env).part (λ p. Ok (P.Do env.key at p.0 p.1))
    (if-both (Nests m) (λ e. Unit {0}) (first env).part (test c env1).part (checked-nests body (inner env)) (anything (test c env1).part)) (λ p g. (omega arith, g.0.1))
checked-nests (InBfs at v g root filter body) env =
    let m = tree_nesting body in
    let names = both (graph_searched g) (rooted root) in
    let parts = both (test filter) (numbered (checked body)) in
    let env1 = later env (names env) in
    let env2 = inside env1 v 1 in
    if-by (λ (p : (Binding × Binding) × (ℕ × (Expr × Stmt))). Unit {0} × (Unit {0} × BodyNests m p.1.1)) (Nests m) (both names (iterated v 1 parts) env).part
    (λ p. Ok (P.InBfs env.key at (search_of root p.0 p.1.0) p.1.1.0 p.1.1.1))
    (if-both (λ b. Unit {0}) (λ (p : ℕ × (Expr × Stmt)). Unit {0} × BodyNests m p.1) (names env).part (iterated v 1 parts env1).part (anything (names env).part)
    (if-both (λ i. Unit {0}) (BodyNests m) (Some env1.next) (parts env2).part tt (body-nests m filter (checked body) env2 (λ env. checked-nests body env))))
    (λ p g. (omega arith, g.1.1.1.0))
checked-nests (InBfsBoth at v g root filter body reverse back_filter back) env =
    let m = tree_nesting body in
    let n = tree_nesting back in
    let names = both (graph_searched g) (rooted root) in
    let forth = both (test filter) (numbered (checked body)) in
    let behind = numbered (searched (test back_filter) (numbered (checked back))) in
    let parts = both forth behind in
    let env1 = later env (names env) in
    let env2 = inside env1 v 1 in
    let env3 = later env2 (forth env2) in
    let env4 = inner env3 in
    let Back = λ (p : Key × (Expr × Stmt)). BodyNests n p.1 in
    let Both = λ (p : (Expr × Stmt) × (Key × (Expr × Stmt))). BodyNests m p.0 × BodyNests n p.1.1 in
    if-by (λ (p : (Binding × Binding) × (ℕ × ((Expr × Stmt) × (Key × (Expr × Stmt))))). Unit {0} × (Unit {0} × Both p.1.1)) (Nests (max m n)) (both names (iterated v 1 parts) env).part
    (λ p. Ok (P.InBfsBoth env.key at (search_of root p.0 p.1.0) p.1.1.0.0 p.1.1.0.1 p.1.1.1.0 p.1.1.1.1.0 p.1.1.1.1.1))
    (if-both (λ b. Unit {0}) (λ (p : ℕ × ((Expr × Stmt) × (Key × (Expr × Stmt)))). Unit {0} × Both p.1) (names env).part (iterated v 1 parts env1).part (anything (names env).part)
    (if-both (λ i. Unit {0}) Both (Some env1.next) (parts env2).part tt
    (if-both (BodyNests m) Back (forth env2).part (behind env3).part (body-nests m filter (checked body) env2 (λ env. checked-nests body env))
    (if-by (BodyNests n) Back (both (test back_filter) (numbered (checked back)) env4).part (λ p. Ok (env4.key, p)) (body-nests n back_filter (checked back) env4 (λ env. checked-nests back env)) (λ p g. g)))))
    (λ p g. both-bodies m n p.1.1.0.1 p.1.1.1.1.1 g.1.1.0.1 g.1.1.1.1)
checked-nests (Return at None) env = if-good Plain (is_none env.result) T14 at (P.Return env.key at None) plain
checked-nests (Return at (Some e)) env = if-by (λ p. Unit {0}) Plain (typed e env).part (returned env.key at env.result) (anything (typed e env).part) (λ p h. returned-plain env.key at env.result p)

-- ---- a procedure

elaborated-nests : (p : SurfaceProcedure) → IfPart (λ q. nesting q.body ≤ tree_nesting p.body) (elaborated p).part
elaborated-nests p =
    let m = tree_nesting p.body in
    let env1 = later (env_of_body p) (noted (tt {0}) (head_broken p)) in
    let body = numbered (checked p.body) (env_of_body p) in
    if-by (λ (q : (Unit {0} × Unit {0}) × (Unit {0} × Stmt)). Unit {0} × (Unit {0} × Nests m q.1.1)) (λ q. nesting q.body ≤ m) (parts_of p).part _
    (if-both (λ u. Unit {0}) (λ (q : Unit {0} × Stmt). Unit {0} × Nests m q.1) (all_parameters p).part (beside (noted (tt {0}) (head_broken p)) body).part (anything (all_parameters p).part)
    (if-both (λ u. Unit {0}) (Nests m) (Some (tt {0})) body.part tt (checked-nests p.body (inner (env_of_body p)))))
    (λ q g. g.1.1.1)

pub program-nests : (tree : SurfaceProcedure) (p : Program) → (elaborated tree).part ≡ Some p → nesting p.body ≤ tree_nesting tree.body
program-nests tree p e = subst (IfPart (λ (q : Program). nesting q.body ≤ tree_nesting tree.body)) e (elaborated-nests tree)
