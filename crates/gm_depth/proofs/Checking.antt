-- The statements that a tree stands for have no expression of more than 257 levels, where those of the tree have none of more than 256.
use Rattle.std.proofs.Common.{◌≡◌, ◌≤◌, ◌+◌, ℕ, suc, true, false, List, [], ◌∷◌, map, refl, subst, arith, Option, Some, None}
use Rattle.std.specs.Prelude.{◌&&◌, is_none, Ok}
use Rattle.std.specs.Cmp.Derive.{both_true}
use Rattle.std.proofs.lemmas.Bool.{leb-true, le-leb, and_parts}
use Rattle.gm_base.specs.declared.places.Place.{Place}
use Rattle.gm_base.specs.declared.rules.Rule.{Rule}
use Rattle.gm_base.specs.declared.rules.Rule.TheVariants.{T9, T11, T14}
use Rattle.gm_value.specs.declared.values.VType.{VType}
use Rattle.gm_value.specs.declared.values.VType.TheVariants.{I32, I64, Flag, Node}
use Rattle.gm_value.specs.declared.reductions.Reduce.{Reduce}
use Rattle.gm_value.specs.declared.reductions.Reduce.TheVariants.{Sum}
use Rattle.gm_ast.specs.declared.tree.Key.{Key}
use Rattle.gm_ast.specs.declared.tree.Head.{Head}
use Rattle.gm_ast.specs.declared.tree.Sort.{Sort}
use Rattle.gm_ast.specs.declared.tree.Sort.TheVariants as Sorts
use Rattle.gm_ast.specs.declared.kinds.Goal.{Goal}
use Rattle.gm_ast.specs.declared.kinds.Binding.{Binding}
use Rattle.gm_ast.specs.declared.kinds.Role.TheVariants.{Local}
use Rattle.gm_ast.specs.declared.surface.LoopWord.{LoopWord}
use Rattle.gm_ast.specs.declared.surface.LoopWord.TheVariants as Loops
use Rattle.gm_ast.specs.Surface.{SurfaceName, SurfaceType, SurfaceTarget, SurfaceExpr, SurfaceStmt, SurfaceProcedure, Skip, Then, Declare, DeclareAs, Assign, Defer, Combine, Increment, Call, Loop, If, While, Do, InBfs, InBfsBoth, Return}
use Rattle.gm_ast.specs.Program as P
use Rattle.gm_ast.specs.Program.{Expr, Stmt, Program}
use Rattle.gm_ast.specs.Judged.{Judged, beside, noted, ok_of, refused_unless, then_answer}
use Rattle.gm_ast.specs.Names.{Env, known_as, later, inside, both, iterated, numbered, operators_of}
use Rattle.gm_ast.specs.Kinds.{Part, fitted}
use Rattle.gm_ast.specs.Typing.{typed, start_of, ranged, head_with}
use Rattle.gm_ast.specs.Statements.{type_broken, sort_of, vtype_of, variable_of, declared_all, following, goal, fits_goal, at_iterator, total_at, reduces, first_wanted, fits_each, all_answers, combined, one_of, incremented, goals_together, typed_all, reduced, plain_declarations, declarations_as, edge_declared, edge_owner, declared_value, declared_typed, declared_with, names_graph, group_target, in_group, grouped, assigned, deferred, assignment, returned, rooted, graph_searched, search_of, loops_of, loop_of, test, searched, checked}
use Rattle.gm_ast.specs.Procedures.{env_of_body, all_parameters, head_broken, parts_of, elaborated}
use Rattle.gm_depth.specs.Depths.{depth, is_within, are_within, all_within, is_shallow_text}
use Rattle.gm_depth.specs.Trees.{tree_depth, is_tree_within, are_trees_within, trees_within, is_shallow_tree}
use Rattle.gm_depth.proofs.Parts.{IfPart, anything, if-weaker, if-by, if-both, if-good, if-then, if-with, if-judged}
use Rattle.gm_depth.proofs.Typing.{LowPart, Low, fitted-more, condition-low, typed-low}

-- an expression, and a statement, with no more than 257 levels
abbrev Fine : Expr → Type 0
Fine e = is_within 257 e ≡ true

abbrev FineStmt : Stmt → Type 0
FineStmt s = all_within 257 s ≡ true

-- a part with fewer
abbrev FinePart : Part → Type 0
FinePart p = suc (depth p.core) ≤ 257

abbrev Few : SurfaceExpr → Type 0
Few e = is_tree_within 256 e ≡ true

-- ---- expressions

typed-fine : (e : SurfaceExpr) (env : Env) → Few e → IfPart FinePart (typed e env).part
typed-fine e env few =
    let low : tree_depth e ≤ 256 = leb-true (tree_depth e) 256 few in
    if-weaker (LowPart (tree_depth e)) FinePart (typed e env).part (λ p h. omega arith) (typed-low e env)

test-fine : (e : SurfaceExpr) (env : Env) → Few e → IfPart Fine (test e env).part
test-fine e env few =
    let low : tree_depth e ≤ 256 = leb-true (tree_depth e) 256 few in
    if-weaker (Low (tree_depth e)) Fine (test e env).part (λ c h. le-leb (depth c) 257 (omega arith)) (condition-low (tree_depth e) (start_of e) (typed e) env (typed-low e env))

fitted-fine : (t : VType) (rule : Rule) (at : Place) (p : Part) → FinePart p → IfPart Fine (ok_of (fitted t rule at p))
fitted-fine t rule at p h = if-weaker (λ e. depth e ≤ suc (depth p.core)) Fine (ok_of (fitted t rule at p)) (λ e g. le-leb (depth e) 257 (omega arith)) (fitted-more t rule at p)

fits_goal-fine : (wanted : Option VType) (rule : Rule) (at : Place) (p : Part) → FinePart p → IfPart Fine (ok_of (fits_goal wanted rule at p))
fits_goal-fine None rule at p h = tt
fits_goal-fine (Some t) rule at p h = fitted-fine t rule at p h

-- ---- reduction assignments

abbrev EachFine : List Part → Type 0
EachFine [] = Unit {0}
EachFine (p ∷ ps) = FinePart p × EachFine ps

typed_all-fine : (es : List SurfaceExpr) (env : Env) → are_trees_within 256 es ≡ true → IfPart EachFine (typed_all es env).part
typed_all-fine [] env few = tt
typed_all-fine (e ∷ es) env few =
    let h = and_parts (is_tree_within 256 e) (are_trees_within 256 es) few in
    if-by (λ (p : Part × List Part). FinePart p.0 × EachFine p.1) EachFine (both (typed e) (typed_all es) env).part (λ p. Ok (p.0 ∷ p.1))
    (if-both FinePart EachFine (typed e env).part (typed_all es (later env (typed e env))).part (typed-fine e env h.0) (typed_all-fine es (later env (typed e env)) h.1)) (λ p g. g)

all-fine : (at : Place) (gs : List Goal) (ps : List Part) → EachFine ps → IfPart (λ es. are_within 257 es ≡ true) (ok_of (all_answers (fits_each at gs ps)))
all-fine at [] [] h = refl
all-fine at [] (p ∷ ps) h = tt
all-fine at (g ∷ gs) [] h = tt
all-fine at (g ∷ gs) (p ∷ ps) h =
    if-with Fine (λ es. are_within 257 es ≡ true) (λ es. are_within 257 es ≡ true) (λ x xs. x ∷ xs) (fits_goal g.wanted T9 at p) (all_answers (fits_each at gs ps))
    (fits_goal-fine g.wanted T9 at p h.0) (all-fine at gs ps h.1) (λ x xs f k. both_true f k)

combined-fine : (k : Key) (at : Place) (r : Reduce) (ps : List Goal × List Part) → EachFine ps.1 → IfPart FineStmt (ok_of (combined k at r ps))
combined-fine k at r ps h =
    if-with (λ u. Unit {0}) (λ es. are_within 257 es ≡ true) FineStmt (λ u es. P.Combine k (total_at k at) r (map (λ g. g.target) ps.0) es)
    (refused_unless (reduces r (first_wanted ps.0)) T11 at (tt {0})) (all_answers (fits_each at ps.0 ps.1))
    (anything (ok_of (refused_unless (reduces r (first_wanted ps.0)) T11 at (tt {0})))) (all-fine at ps.0 ps.1 h) (λ u es a f. f)

reduced-fine : (ts : List SurfaceTarget) (r : Reduce) (at : Place) (es : List SurfaceExpr) (env : Env) → are_trees_within 256 es ≡ true → IfPart FineStmt (reduced ts r at es env).part
reduced-fine ts r at es env few =
    let after = later env (goals_together ts env) in
    if-by (λ (p : List Goal × List Part). Unit {0} × EachFine p.1) FineStmt (both (goals_together ts) (typed_all es) env).part (combined env.key at r)
    (if-both (λ g. Unit {0}) EachFine (goals_together ts env).part (typed_all es after).part (anything (goals_together ts env).part) (typed_all-fine es after few))
    (λ p g. combined-fine env.key at r p g.1)

one-fine : (k : Key) (at : Place) (g : Goal) (wanted : Option VType) → IfPart FineStmt (ok_of (then_answer (one_of wanted at) (λ e. P.Combine k (total_at k at) Sum (g.target ∷ []) (e ∷ []))))
one-fine k at g None = tt
one-fine k at g (Some I32) = refl
one-fine k at g (Some I64) = refl
one-fine k at g (Some Flag) = tt
one-fine k at g (Some Node) = tt

-- ---- declarations

plain-fine : (k : Key) (ns : List ℕ) → FineStmt (plain_declarations k ns)
plain-fine k [] = refl
plain-fine k (n ∷ ns) = plain-fine k ns

declarations-fine : (s : Sort) (k : Key) (xs : List SurfaceName) (ns : List ℕ) → IfPart FineStmt (ok_of (declarations_as s k xs ns))
declarations-fine Sorts.Edge k xs ns = tt
declarations-fine Sorts.Graph k xs ns = plain-fine k ns
declarations-fine Sorts.Iterator k xs ns = plain-fine k ns
declarations-fine Sorts.Scalar k xs ns = plain-fine k ns
declarations-fine Sorts.NodeProperty k xs ns = plain-fine k ns
declarations-fine Sorts.EdgeProperty k xs ns = plain-fine k ns

declared-fine : (k : Key) (x : SurfaceName) (at : Place) (t : VType) (s : Sort) (p : ℕ × Part) → FinePart p.1 → IfPart FineStmt (ok_of (declared_value k x at t s p))
declared-fine k x at t Sorts.Scalar p h = if-then Fine FineStmt (fitted t T9 at p.1) (λ e. P.Declare k p.0 (Some e)) (fitted-fine t T9 at p.1 h) (λ e f. f)
declared-fine k x at t Sorts.Edge p h = tt
declared-fine k x at t Sorts.Graph p h = tt
declared-fine k x at t Sorts.Iterator p h = tt
declared-fine k x at t Sorts.NodeProperty p h = tt
declared-fine k x at t Sorts.EdgeProperty p h = tt

with-fine : (o : Option SurfaceName) (t : SurfaceType) (x : SurfaceName) (at : Place) (e : SurfaceExpr) (env : Env) → Few e → IfPart FineStmt (declared_with o t x at e env).part
with-fine (Some y) t x at e env few =
    if-by (λ p. Unit {0}) FineStmt (both (declared_typed t x) (edge_owner y) env).part _ (anything (both (declared_typed t x) (edge_owner y) env).part) (λ p u. refl)
with-fine None t x at e env few =
    let after = later env (declared_typed t x env) in
    if-by (λ (p : ℕ × Part). Unit {0} × FinePart p.1) FineStmt (both (declared_typed t x) (typed e) env).part (declared_value env.key x at (vtype_of t) (sort_of t))
    (if-both (λ n. Unit {0}) FinePart (declared_typed t x env).part (typed e after).part (anything (declared_typed t x env).part) (typed-fine e after few))
    (λ p g. declared-fine env.key x at (vtype_of t) (sort_of t) p g.1)

-- ---- assignments

assigned-fine : (t : SurfaceTarget) (at : Place) (e : SurfaceExpr) (env : Env) → Few e → IfPart FineStmt (assigned t at e env).part
assigned-fine t at e env few =
    let after = later env (goal false t env) in
    if-by (λ (p : Goal × Part). Unit {0} × FinePart p.1) FineStmt (both (goal false t) (typed e) env).part _
    (if-both (λ g. Unit {0}) FinePart (goal false t env).part (typed e after).part (anything (goal false t env).part) (typed-fine e after few))
    (λ p g. if-then Fine FineStmt (fits_goal p.0.wanted T9 at p.1) (P.Assign env.key p.0.target) (fits_goal-fine p.0.wanted T9 at p.1 g.1) (λ x f. f))

deferred-fine : (t : SurfaceTarget) (at : Place) (e : SurfaceExpr) (env : Env) → Few e → IfPart FineStmt (deferred t at e env).part
deferred-fine t at e env few =
    let after = later env (goal true t env) in
    if-by (λ (p : Goal × Part). Unit {0} × FinePart p.1) FineStmt (both (goal true t) (typed e) env).part _
    (if-both (λ g. Unit {0}) FinePart (goal true t env).part (typed e after).part (anything (goal true t env).part) (typed-fine e after few))
    (λ p g. if-then Fine FineStmt (fits_goal p.0.wanted T9 at p.1) (P.Defer env.key p.0.target) (fits_goal-fine p.0.wanted T9 at p.1 g.1) (λ x f. f))

grouped-fine : (x p : SurfaceName) (at : Place) (e : SurfaceExpr) (env : Env) → Few e → IfPart FineStmt (grouped x p at e env).part
grouped-fine x p at e env few =
    let env1 = later env (group_target x p env) in
    let env2 : Env = record env1 { group = true; depth = env1.depth + 1 } in
    if-by (λ (q : (ℕ × (ℕ × VType)) × Part). Unit {0} × FinePart q.1) FineStmt (both (group_target x p) (in_group (typed e)) env).part _
    (if-both (λ g. Unit {0}) FinePart (group_target x p env).part (typed e env2).part (anything (group_target x p env).part) (typed-fine e env2 few))
    (λ q g. if-then Fine FineStmt (fitted q.0.1.1 T9 at q.1) (P.Group env.key x.place q.0.0 q.0.1.0) (fitted-fine q.0.1.1 T9 at q.1 g.1) (λ y f. f))

assignment-fine : (o : Option SurfaceName) (t : SurfaceTarget) (at : Place) (e : SurfaceExpr) (env : Env) → Few e → IfPart FineStmt (assignment o t at e env).part
assignment-fine None t at e env few = assigned-fine t at e env few
assignment-fine (Some p) t at e env few =
    if-judged FineStmt (names_graph (known_as env.known t.owner.text)) (grouped t.owner p at e env) (assigned t at e env) (grouped-fine t.owner p at e env few) (assigned-fine t at e env few)

returned-fine : (k : Key) (at : Place) (o : Option VType) (p : Part) → FinePart p → IfPart FineStmt (ok_of (returned k at o p))
returned-fine k at None p h = tt
returned-fine k at (Some t) p h = if-then Fine FineStmt (fitted t T14 at p) (λ e. P.Return k at (Some e)) (fitted-fine t T14 at p h) (λ e f. f)

loop-fine : (word : LoopWord) (k : Key) (at : Place) (h : Head) (e : Expr) (s : Stmt) → Fine e → FineStmt s → FineStmt (loop_of word k at h e s)
loop-fine Loops.Foreach k at h e s f g = both_true f g
loop-fine Loops.For k at h e s f g = both_true f g

-- ---- statements

-- what stands around a numbered statement
abbrev pub inner : Env → Env
inner env = record env { number = env.number + 1; key = operators_of env.number }

abbrev FineBody : Expr × Stmt → Type 0
FineBody p = Fine p.0 × FineStmt p.1

-- a condition and a body behind it
body-fine : (e : SurfaceExpr) (part : Env → Judged Stmt) (env : Env) → Few e → ((env : Env) → IfPart FineStmt (part env).part) → IfPart FineBody (both (test e) (numbered part) env).part
body-fine e part env few h =
    let after = later env (test e env) in
    if-both Fine FineStmt (test e env).part (part (inner after)).part (test-fine e env few) (h (inner after))

pub checked-fine : (s : SurfaceStmt) (env : Env) → trees_within 256 s ≡ true → IfPart FineStmt (checked s env).part
checked-fine Skip env few = refl
checked-fine (Then a b) env few =
    let h = and_parts (trees_within 256 a) (trees_within 256 b) few in
    let x = numbered (checked a) env in
    let after = following a env x in
    if-by (λ (p : Stmt × Stmt). FineStmt p.0 × FineStmt p.1) FineStmt (beside x (checked b after)).part (λ p. Ok (P.Then p.0 p.1))
    (if-both FineStmt FineStmt x.part (checked b after).part (checked-fine a (inner env) h.0) (checked-fine b after h.1)) (λ p g. both_true g.0 g.1)
checked-fine (Declare t xs) env few =
    let x = beside (noted (tt {0}) (type_broken t Local env)) (declared_all (variable_of t env.depth) xs env) in
    if-by (λ p. Unit {0}) FineStmt x.part (λ p. declarations_as (sort_of t) env.key xs p.1) (anything x.part) (λ p u. declarations-fine (sort_of t) env.key xs p.1)
checked-fine (DeclareAs t x at e) env few = with-fine (edge_declared t e) t x at e env few
checked-fine (Assign t at e) env few = assignment-fine t.property t at e env few
checked-fine (Defer t at e iterator) env few =
    let after = later env (deferred t at e env) in
    if-by (λ (p : Stmt × ℕ). FineStmt p.0 × Unit {0}) FineStmt (both (deferred t at e) (at_iterator iterator) env).part (λ p. Ok p.0)
    (if-both FineStmt (λ i. Unit {0}) (deferred t at e env).part (at_iterator iterator after).part (deferred-fine t at e env few) (anything (at_iterator iterator after).part)) (λ p g. g.0)
checked-fine (Combine ts r at es iterator) env few =
    let after = later env (reduced ts r at es env) in
    if-by (λ (p : Stmt × ℕ). FineStmt p.0 × Unit {0}) FineStmt (both (reduced ts r at es) (at_iterator iterator) env).part (λ p. Ok p.0)
    (if-both FineStmt (λ i. Unit {0}) (reduced ts r at es env).part (at_iterator iterator after).part (reduced-fine ts r at es env few) (anything (at_iterator iterator after).part)) (λ p g. g.0)
checked-fine (Increment t at) env few =
    if-by (λ g. Unit {0}) FineStmt (goal false t env).part (incremented env.key at) (anything (goal false t env).part) (λ g u. one-fine env.key at g g.wanted)
checked-fine (Call r f es xs) env few = tt
checked-fine (Loop at word h filter body) env few =
    let k = and_parts (is_tree_within 256 filter) (trees_within 256 body) few in
    let parts = both (test filter) (numbered (checked body)) in
    let after = later env (ranged h env) in
    let env1 = inside after h.iterator (loops_of word) in
    if-by (λ (p : Binding × (ℕ × (Expr × Stmt))). Unit {0} × (Unit {0} × FineBody p.1.1)) FineStmt (both (ranged h) (iterated h.iterator (loops_of word) parts) env).part
    (λ p. Ok (loop_of word env.key at (head_with h p.0 p.1.0) p.1.1.0 p.1.1.1))
    (if-both (λ b. Unit {0}) (λ (p : ℕ × (Expr × Stmt)). Unit {0} × FineBody p.1) (ranged h env).part (iterated h.iterator (loops_of word) parts after).part (anything (ranged h env).part)
    (if-both (λ i. Unit {0}) FineBody (Some after.next) (parts env1).part tt (body-fine filter (checked body) env1 k.0 (λ env. checked-fine body env k.1))))
    (λ p g. loop-fine word env.key at (head_with h p.0 p.1.0) p.1.1.0 p.1.1.1 g.1.1.0 g.1.1.1)
checked-fine (If at c a b) env few =
    let k = and_parts (is_tree_within 256 c) (trees_within 256 a && trees_within 256 b) few in
    let l = and_parts (trees_within 256 a) (trees_within 256 b) k.1 in
    let first = numbered (checked a) in
    let second = numbered (checked b) in
    let env1 = later env (test c env) in
    let env2 = later env1 (first env1) in
    if-by (λ (p : Expr × (Stmt × Stmt)). Fine p.0 × (FineStmt p.1.0 × FineStmt p.1.1)) FineStmt (both (test c) (both first second) env).part (λ p. Ok (P.If env.key p.0 p.1.0 p.1.1))
    (if-both Fine (λ (p : Stmt × Stmt). FineStmt p.0 × FineStmt p.1) (test c env).part (both first second env1).part (test-fine c env k.0)
    (if-both FineStmt FineStmt (first env1).part (second env2).part (checked-fine a (inner env1) l.0) (checked-fine b (inner env2) l.1)))
    (λ p g. both_true g.0 (both_true g.1.0 g.1.1))
checked-fine (While at c body) env few =
    let k = and_parts (is_tree_within 256 c) (trees_within 256 body) few in
    if-by FineBody FineStmt (both (test c) (numbered (checked body)) env).part (λ p. Ok (P.While env.key at p.0 p.1)) (body-fine c (checked body) env k.0 (λ env. checked-fine body env k.1)) (λ p g. both_true g.0 g.1)
checked-fine (Do at body c) env few =
    let k = and_parts (trees_within 256 body) (is_tree_within 256 c) few in
    let first = numbered (checked body) in
    let env1 = later env (first env) in
    if-by (λ (p : Stmt × Expr). FineStmt p.0 × Fine p.1) FineStmt (both first (test c) env).part (λ p. Ok (P.Do env.key at p.0 p.1))
    (if-both FineStmt Fine (first env).part (test c env1).part (checked-fine body (inner env) k.0) (test-fine c env1 k.1)) (λ p g. both_true g.0 g.1)
checked-fine (InBfs at v g root filter body) env few =
    let k = and_parts (is_tree_within 256 filter) (trees_within 256 body) few in
    let names = both (graph_searched g) (rooted root) in
    let parts = both (test filter) (numbered (checked body)) in
    let env1 = later env (names env) in
    let env2 = inside env1 v 1 in
    if-by (λ (p : (Binding × Binding) × (ℕ × (Expr × Stmt))). Unit {0} × (Unit {0} × FineBody p.1.1)) FineStmt (both names (iterated v 1 parts) env).part
    (λ p. Ok (P.InBfs env.key at (search_of root p.0 p.1.0) p.1.1.0 p.1.1.1))
    (if-both (λ b. Unit {0}) (λ (p : ℕ × (Expr × Stmt)). Unit {0} × FineBody p.1) (names env).part (iterated v 1 parts env1).part (anything (names env).part)
    (if-both (λ i. Unit {0}) FineBody (Some env1.next) (parts env2).part tt (body-fine filter (checked body) env2 k.0 (λ env. checked-fine body env k.1))))
    (λ p g. both_true g.1.1.0 g.1.1.1)
checked-fine (InBfsBoth at v g root filter body reverse back_filter back) env few =
    let k = and_parts (is_tree_within 256 filter) (trees_within 256 body && (is_tree_within 256 back_filter && trees_within 256 back)) few in
    let l = and_parts (trees_within 256 body) (is_tree_within 256 back_filter && trees_within 256 back) k.1 in
    let m = and_parts (is_tree_within 256 back_filter) (trees_within 256 back) l.1 in
    let names = both (graph_searched g) (rooted root) in
    let forth = both (test filter) (numbered (checked body)) in
    let behind = numbered (searched (test back_filter) (numbered (checked back))) in
    let parts = both forth behind in
    let env1 = later env (names env) in
    let env2 = inside env1 v 1 in
    let env3 = later env2 (forth env2) in
    let env4 = inner env3 in
    let FineBack = λ (p : Key × (Expr × Stmt)). FineBody p.1 in
    let FineBoth = λ (p : (Expr × Stmt) × (Key × (Expr × Stmt))). FineBody p.0 × FineBody p.1.1 in
    if-by (λ (p : (Binding × Binding) × (ℕ × ((Expr × Stmt) × (Key × (Expr × Stmt))))). Unit {0} × (Unit {0} × FineBoth p.1.1)) FineStmt (both names (iterated v 1 parts) env).part
    (λ p. Ok (P.InBfsBoth env.key at (search_of root p.0 p.1.0) p.1.1.0.0 p.1.1.0.1 p.1.1.1.0 p.1.1.1.1.0 p.1.1.1.1.1))
    (if-both (λ b. Unit {0}) (λ (p : ℕ × ((Expr × Stmt) × (Key × (Expr × Stmt)))). Unit {0} × FineBoth p.1) (names env).part (iterated v 1 parts env1).part (anything (names env).part)
    (if-both (λ i. Unit {0}) FineBoth (Some env1.next) (parts env2).part tt
    (if-both FineBody FineBack (forth env2).part (behind env3).part (body-fine filter (checked body) env2 k.0 (λ env. checked-fine body env l.0))
    (if-by FineBody FineBack (both (test back_filter) (numbered (checked back)) env4).part (λ p. Ok (env4.key, p)) (body-fine back_filter (checked back) env4 m.0 (λ env. checked-fine back env m.1)) (λ p g. g)))))
    (λ p g. both_true g.1.1.0.0 (both_true g.1.1.0.1 (both_true g.1.1.1.0 g.1.1.1.1)))
checked-fine (Return at None) env few = if-good FineStmt (is_none env.result) T14 at (P.Return env.key at None) refl
checked-fine (Return at (Some e)) env few =
    if-by FinePart FineStmt (typed e env).part (returned env.key at env.result) (typed-fine e env few) (λ p h. returned-fine env.key at env.result p h)

-- ---- a procedure

elaborated-fine : (p : SurfaceProcedure) → is_shallow_tree p ≡ true → IfPart (λ q. is_shallow_text q ≡ true) (elaborated p).part
elaborated-fine p few =
    let env1 = later (env_of_body p) (noted (tt {0}) (head_broken p)) in
    let body = numbered (checked p.body) (env_of_body p) in
    if-by (λ (q : (Unit {0} × Unit {0}) × (Unit {0} × Stmt)). Unit {0} × (Unit {0} × FineStmt q.1.1)) (λ q. is_shallow_text q ≡ true) (parts_of p).part _
    (if-both (λ u. Unit {0}) (λ (q : Unit {0} × Stmt). Unit {0} × FineStmt q.1) (all_parameters p).part (beside (noted (tt {0}) (head_broken p)) body).part (anything (all_parameters p).part)
    (if-both (λ u. Unit {0}) FineStmt (Some (tt {0})) body.part tt (checked-fine p.body (inner (env_of_body p)) few)))
    (λ q g. g.1.1)

pub program-fine : (tree : SurfaceProcedure) (p : Program) → is_shallow_tree tree ≡ true → (elaborated tree).part ≡ Some p → is_shallow_text p ≡ true
program-fine tree p few e = subst (IfPart (λ (q : Program). is_shallow_text q ≡ true)) e (elaborated-fine tree few)
