-- The statements that a tree stands for check no node variable.
use Rattle.std.proofs.Common.{◌≡◌, ◌+◌, ℕ, true, false, List, [], ◌∷◌, map, subst, Option, Some, None}
use Rattle.std.specs.Prelude.{is_none, Ok}
use Rattle.gm_base.specs.declared.places.Place.{Place}
use Rattle.gm_base.specs.declared.rules.Rule.{Rule}
use Rattle.gm_base.specs.declared.rules.Rule.TheVariants.{T9, T11, T14}
use Rattle.gm_value.specs.declared.values.VType.{VType}
use Rattle.gm_value.specs.declared.values.VType.TheVariants.{I32, I64, Flag, Node}
use Rattle.gm_value.specs.declared.reductions.Reduce.{Reduce}
use Rattle.gm_value.specs.declared.reductions.Reduce.TheVariants.{Sum}
use Rattle.gm_ast.specs.declared.tree.Key.{Key}
use Rattle.gm_ast.specs.declared.tree.Head.{Head}
use Rattle.gm_ast.specs.declared.tree.Sort.{Sort}
use Rattle.gm_ast.specs.declared.tree.Sort.TheVariants as Sorts
use Rattle.gm_ast.specs.declared.kinds.Goal.{Goal}
use Rattle.gm_ast.specs.declared.kinds.Binding.{Binding}
use Rattle.gm_ast.specs.declared.kinds.Role.TheVariants.{Local}
use Rattle.gm_ast.specs.declared.surface.LoopWord.{LoopWord}
use Rattle.gm_ast.specs.declared.surface.LoopWord.TheVariants as Loops
use Rattle.gm_ast.specs.Surface.{SurfaceName, SurfaceType, SurfaceTarget, SurfaceExpr, SurfaceStmt, SurfaceProcedure, Skip, Then, Declare, DeclareAs, Assign, Defer, Combine, Increment, Call, Loop, If, While, Do, InBfs, InBfsBoth, Return}
use Rattle.gm_ast.specs.Program as P
use Rattle.gm_ast.specs.Program.{Expr, Stmt, Program}
use Rattle.gm_ast.specs.Judged.{Judged, beside, noted, ok_of, refused_unless, then_answer}
use Rattle.gm_ast.specs.Names.{Env, known_as, later, inside, both, iterated, numbered}
use Rattle.gm_ast.specs.Kinds.{Part, fitted}
use Rattle.gm_ast.specs.Typing.{typed, start_of, ranged, head_with}
use Rattle.gm_ast.specs.Statements.{type_broken, sort_of, vtype_of, variable_of, declared_all, following, goal, fits_goal, at_iterator, total_at, reduces, first_wanted, fits_each, all_answers, combined, one_of, incremented, goals_together, typed_all, reduced, plain_declarations, declarations_as, edge_declared, edge_owner, declared_value, declared_typed, declared_with, names_graph, group_target, in_group, grouped, assigned, deferred, assignment, returned, rooted, graph_searched, search_of, loops_of, loop_of, test, searched, checked}
use Rattle.gm_ast.specs.Procedures.{env_of_body, all_parameters, head_broken, parts_of, elaborated}
use Rattle.gm_depth.proofs.Parts.{IfPart, anything, if-by, if-both, if-good, if-then, if-with, if-judged}
use Rattle.gm_depth.proofs.Checking.{inner}
use Rattle.gm_preparable.proofs.Unchecked.{Unchecked, UncheckedPart, fitted-unchecked, condition-unchecked, typed-unchecked}

abbrev pub MayBeUnchecked : Option Expr → Type 0
MayBeUnchecked None = Unit {0}
MayBeUnchecked (Some e) = Unchecked e

abbrev pub AllUnchecked : List Expr → Type 0
AllUnchecked [] = Unit {0}
AllUnchecked (e ∷ es) = Unchecked e × AllUnchecked es

-- a statement in which no node variable is checked
abbrev pub UncheckedIn : Stmt → Type 0
UncheckedIn (P.Then a b) = UncheckedIn a × UncheckedIn b
UncheckedIn (P.Declare k x e) = MayBeUnchecked e
UncheckedIn (P.Assign k t e) = Unchecked e
UncheckedIn (P.Defer k t e) = Unchecked e
UncheckedIn (P.Combine k total r ts es) = AllUnchecked es
UncheckedIn (P.Group k at g p e) = Unchecked e
UncheckedIn (P.Foreach k at h test body) = Unchecked test × UncheckedIn body
UncheckedIn (P.For k at h test body) = Unchecked test × UncheckedIn body
UncheckedIn (P.If k c a b) = Unchecked c × (UncheckedIn a × UncheckedIn b)
UncheckedIn (P.While k at c body) = Unchecked c × UncheckedIn body
UncheckedIn (P.Do k at body c) = UncheckedIn body × Unchecked c
UncheckedIn (P.InBfs k at s test body) = Unchecked test × UncheckedIn body
UncheckedIn (P.InBfsBoth k at s test body back_key back_test back) = Unchecked test × (UncheckedIn body × (Unchecked back_test × UncheckedIn back))
UncheckedIn (P.Return k at e) = MayBeUnchecked e
UncheckedIn s = Unit {0}

-- ---- expressions

test-unchecked : (e : SurfaceExpr) (env : Env) → IfPart Unchecked (test e env).part
test-unchecked e env = condition-unchecked (start_of e) (typed e) env (typed-unchecked e env)

fits_goal-unchecked : (wanted : Option VType) (rule : Rule) (at : Place) (p : Part) → UncheckedPart p → IfPart Unchecked (ok_of (fits_goal wanted rule at p))
fits_goal-unchecked None rule at p h = tt
fits_goal-unchecked (Some t) rule at p h = fitted-unchecked t rule at p h

-- ---- reduction assignments

abbrev EachUnchecked : List Part → Type 0
EachUnchecked [] = Unit {0}
EachUnchecked (p ∷ ps) = UncheckedPart p × EachUnchecked ps

typed_all-unchecked : (es : List SurfaceExpr) (env : Env) → IfPart EachUnchecked (typed_all es env).part
typed_all-unchecked [] env = tt
typed_all-unchecked (e ∷ es) env =
    if-by (λ (p : Part × List Part). UncheckedPart p.0 × EachUnchecked p.1) EachUnchecked (both (typed e) (typed_all es) env).part (λ p. Ok (p.0 ∷ p.1))
    (if-both UncheckedPart EachUnchecked (typed e env).part (typed_all es (later env (typed e env))).part (typed-unchecked e env) (typed_all-unchecked es (later env (typed e env)))) (λ p g. g)

all-unchecked : (at : Place) (gs : List Goal) (ps : List Part) → EachUnchecked ps → IfPart AllUnchecked (ok_of (all_answers (fits_each at gs ps)))
all-unchecked at [] [] h = tt
all-unchecked at [] (p ∷ ps) h = tt
all-unchecked at (g ∷ gs) [] h = tt
all-unchecked at (g ∷ gs) (p ∷ ps) h =
    if-with Unchecked AllUnchecked AllUnchecked (λ x xs. x ∷ xs) (fits_goal g.wanted T9 at p) (all_answers (fits_each at gs ps))
    (fits_goal-unchecked g.wanted T9 at p h.0) (all-unchecked at gs ps h.1) (λ x xs f k. (f, k))

combined-unchecked : (k : Key) (at : Place) (r : Reduce) (ps : List Goal × List Part) → EachUnchecked ps.1 → IfPart UncheckedIn (ok_of (combined k at r ps))
combined-unchecked k at r ps h =
    if-with (λ u. Unit {0}) AllUnchecked UncheckedIn (λ u es. P.Combine k (total_at k at) r (map (λ g. g.target) ps.0) es)
    (refused_unless (reduces r (first_wanted ps.0)) T11 at (tt {0})) (all_answers (fits_each at ps.0 ps.1))
    (anything (ok_of (refused_unless (reduces r (first_wanted ps.0)) T11 at (tt {0})))) (all-unchecked at ps.0 ps.1 h) (λ u es a f. f)

reduced-unchecked : (ts : List SurfaceTarget) (r : Reduce) (at : Place) (es : List SurfaceExpr) (env : Env) → IfPart UncheckedIn (reduced ts r at es env).part
reduced-unchecked ts r at es env =
    let after = later env (goals_together ts env) in
    if-by (λ (p : List Goal × List Part). Unit {0} × EachUnchecked p.1) UncheckedIn (both (goals_together ts) (typed_all es) env).part (combined env.key at r)
    (if-both (λ g. Unit {0}) EachUnchecked (goals_together ts env).part (typed_all es after).part (anything (goals_together ts env).part) (typed_all-unchecked es after))
    (λ p g. combined-unchecked env.key at r p g.1)

one-unchecked : (k : Key) (at : Place) (g : Goal) (wanted : Option VType) → IfPart UncheckedIn (ok_of (then_answer (one_of wanted at) (λ e. P.Combine k (total_at k at) Sum (g.target ∷ []) (e ∷ []))))
one-unchecked k at g None = tt
one-unchecked k at g (Some I32) = (tt, tt)
one-unchecked k at g (Some I64) = (tt, tt)
one-unchecked k at g (Some Flag) = tt
one-unchecked k at g (Some Node) = tt

-- ---- declarations

plain-unchecked : (k : Key) (ns : List ℕ) → UncheckedIn (plain_declarations k ns)
plain-unchecked k [] = tt
plain-unchecked k (n ∷ ns) = (tt, plain-unchecked k ns)

declarations-unchecked : (s : Sort) (k : Key) (xs : List SurfaceName) (ns : List ℕ) → IfPart UncheckedIn (ok_of (declarations_as s k xs ns))
declarations-unchecked Sorts.Edge k xs ns = tt
declarations-unchecked Sorts.Graph k xs ns = plain-unchecked k ns
declarations-unchecked Sorts.Iterator k xs ns = plain-unchecked k ns
declarations-unchecked Sorts.Scalar k xs ns = plain-unchecked k ns
declarations-unchecked Sorts.NodeProperty k xs ns = plain-unchecked k ns
declarations-unchecked Sorts.EdgeProperty k xs ns = plain-unchecked k ns

declared-unchecked : (k : Key) (x : SurfaceName) (at : Place) (t : VType) (s : Sort) (p : ℕ × Part) → UncheckedPart p.1 → IfPart UncheckedIn (ok_of (declared_value k x at t s p))
declared-unchecked k x at t Sorts.Scalar p h = if-then Unchecked UncheckedIn (fitted t T9 at p.1) (λ e. P.Declare k p.0 (Some e)) (fitted-unchecked t T9 at p.1 h) (λ e f. f)
declared-unchecked k x at t Sorts.Edge p h = tt
declared-unchecked k x at t Sorts.Graph p h = tt
declared-unchecked k x at t Sorts.Iterator p h = tt
declared-unchecked k x at t Sorts.NodeProperty p h = tt
declared-unchecked k x at t Sorts.EdgeProperty p h = tt

with-unchecked : (o : Option SurfaceName) (t : SurfaceType) (x : SurfaceName) (at : Place) (e : SurfaceExpr) (env : Env) → IfPart UncheckedIn (declared_with o t x at e env).part
with-unchecked (Some y) t x at e env =
    if-by (λ p. Unit {0}) UncheckedIn (both (declared_typed t x) (edge_owner y) env).part _ (anything (both (declared_typed t x) (edge_owner y) env).part) (λ p u. tt)
with-unchecked None t x at e env =
    let after = later env (declared_typed t x env) in
    if-by (λ (p : ℕ × Part). Unit {0} × UncheckedPart p.1) UncheckedIn (both (declared_typed t x) (typed e) env).part (declared_value env.key x at (vtype_of t) (sort_of t))
    (if-both (λ n. Unit {0}) UncheckedPart (declared_typed t x env).part (typed e after).part (anything (declared_typed t x env).part) (typed-unchecked e after))
    (λ p g. declared-unchecked env.key x at (vtype_of t) (sort_of t) p g.1)

-- ---- assignments

assigned-unchecked : (t : SurfaceTarget) (at : Place) (e : SurfaceExpr) (env : Env) → IfPart UncheckedIn (assigned t at e env).part
assigned-unchecked t at e env =
    let after = later env (goal false t env) in
    if-by (λ (p : Goal × Part). Unit {0} × UncheckedPart p.1) UncheckedIn (both (goal false t) (typed e) env).part _
    (if-both (λ g. Unit {0}) UncheckedPart (goal false t env).part (typed e after).part (anything (goal false t env).part) (typed-unchecked e after))
    (λ p g. if-then Unchecked UncheckedIn (fits_goal p.0.wanted T9 at p.1) (P.Assign env.key p.0.target) (fits_goal-unchecked p.0.wanted T9 at p.1 g.1) (λ x f. f))

deferred-unchecked : (t : SurfaceTarget) (at : Place) (e : SurfaceExpr) (env : Env) → IfPart UncheckedIn (deferred t at e env).part
deferred-unchecked t at e env =
    let after = later env (goal true t env) in
    if-by (λ (p : Goal × Part). Unit {0} × UncheckedPart p.1) UncheckedIn (both (goal true t) (typed e) env).part _
    (if-both (λ g. Unit {0}) UncheckedPart (goal true t env).part (typed e after).part (anything (goal true t env).part) (typed-unchecked e after))
    (λ p g. if-then Unchecked UncheckedIn (fits_goal p.0.wanted T9 at p.1) (P.Defer env.key p.0.target) (fits_goal-unchecked p.0.wanted T9 at p.1 g.1) (λ x f. f))

grouped-unchecked : (x p : SurfaceName) (at : Place) (e : SurfaceExpr) (env : Env) → IfPart UncheckedIn (grouped x p at e env).part
grouped-unchecked x p at e env =
    let env1 = later env (group_target x p env) in
    let env2 : Env = record env1 { group = true; depth = env1.depth + 1 } in
    if-by (λ (q : (ℕ × (ℕ × VType)) × Part). Unit {0} × UncheckedPart q.1) UncheckedIn (both (group_target x p) (in_group (typed e)) env).part _
    (if-both (λ g. Unit {0}) UncheckedPart (group_target x p env).part (typed e env2).part (anything (group_target x p env).part) (typed-unchecked e env2))
    (λ q g. if-then Unchecked UncheckedIn (fitted q.0.1.1 T9 at q.1) (P.Group env.key x.place q.0.0 q.0.1.0) (fitted-unchecked q.0.1.1 T9 at q.1 g.1) (λ y f. f))

assignment-unchecked : (o : Option SurfaceName) (t : SurfaceTarget) (at : Place) (e : SurfaceExpr) (env : Env) → IfPart UncheckedIn (assignment o t at e env).part
assignment-unchecked None t at e env = assigned-unchecked t at e env
assignment-unchecked (Some p) t at e env =
    if-judged UncheckedIn (names_graph (known_as env.known t.owner.text)) (grouped t.owner p at e env) (assigned t at e env) (grouped-unchecked t.owner p at e env) (assigned-unchecked t at e env)

returned-unchecked : (k : Key) (at : Place) (o : Option VType) (p : Part) → UncheckedPart p → IfPart UncheckedIn (ok_of (returned k at o p))
returned-unchecked k at None p h = tt
returned-unchecked k at (Some t) p h = if-then Unchecked UncheckedIn (fitted t T14 at p) (λ e. P.Return k at (Some e)) (fitted-unchecked t T14 at p h) (λ e f. f)

loop-unchecked : (word : LoopWord) (k : Key) (at : Place) (h : Head) (e : Expr) (s : Stmt) → Unchecked e → UncheckedIn s → UncheckedIn (loop_of word k at h e s)
loop-unchecked Loops.Foreach k at h e s f g = (f, g)
loop-unchecked Loops.For k at h e s f g = (f, g)

-- ---- statements

abbrev UncheckedBody : Expr × Stmt → Type 0
UncheckedBody p = Unchecked p.0 × UncheckedIn p.1

-- a condition and a body behind it
body-unchecked : (e : SurfaceExpr) (part : Env → Judged Stmt) (env : Env) → ((env : Env) → IfPart UncheckedIn (part env).part) → IfPart UncheckedBody (both (test e) (numbered part) env).part
body-unchecked e part env h =
    let after = later env (test e env) in
    if-both Unchecked UncheckedIn (test e env).part (part (inner after)).part (test-unchecked e env) (h (inner after))

pub checked-unchecked : (s : SurfaceStmt) (env : Env) → IfPart UncheckedIn (checked s env).part
checked-unchecked Skip env = tt
checked-unchecked (Then a b) env =
    let x = numbered (checked a) env in
    let after = following a env x in
    if-by (λ (p : Stmt × Stmt). UncheckedIn p.0 × UncheckedIn p.1) UncheckedIn (beside x (checked b after)).part (λ p. Ok (P.Then p.0 p.1))
    (if-both UncheckedIn UncheckedIn x.part (checked b after).part (checked-unchecked a (inner env)) (checked-unchecked b after)) (λ p g. (g.0, g.1))
checked-unchecked (Declare t xs) env =
    let x = beside (noted (tt {0}) (type_broken t Local env)) (declared_all (variable_of t env.depth) xs env) in
    if-by (λ p. Unit {0}) UncheckedIn x.part (λ p. declarations_as (sort_of t) env.key xs p.1) (anything x.part) (λ p u. declarations-unchecked (sort_of t) env.key xs p.1)
checked-unchecked (DeclareAs t x at e) env = with-unchecked (edge_declared t e) t x at e env
checked-unchecked (Assign t at e) env = assignment-unchecked t.property t at e env
checked-unchecked (Defer t at e iterator) env =
    let after = later env (deferred t at e env) in
    if-by (λ (p : Stmt × ℕ). UncheckedIn p.0 × Unit {0}) UncheckedIn (both (deferred t at e) (at_iterator iterator) env).part (λ p. Ok p.0)
    (if-both UncheckedIn (λ i. Unit {0}) (deferred t at e env).part (at_iterator iterator after).part (deferred-unchecked t at e env) (anything (at_iterator iterator after).part)) (λ p g. g.0)
checked-unchecked (Combine ts r at es iterator) env =
    let after = later env (reduced ts r at es env) in
    if-by (λ (p : Stmt × ℕ). UncheckedIn p.0 × Unit {0}) UncheckedIn (both (reduced ts r at es) (at_iterator iterator) env).part (λ p. Ok p.0)
    (if-both UncheckedIn (λ i. Unit {0}) (reduced ts r at es env).part (at_iterator iterator after).part (reduced-unchecked ts r at es env) (anything (at_iterator iterator after).part)) (λ p g. g.0)
checked-unchecked (Increment t at) env =
    if-by (λ g. Unit {0}) UncheckedIn (goal false t env).part (incremented env.key at) (anything (goal false t env).part) (λ g u. one-unchecked env.key at g g.wanted)
checked-unchecked (Call r f es xs) env = tt
checked-unchecked (Loop at word h filter body) env =
    let parts = both (test filter) (numbered (checked body)) in
    let after = later env (ranged h env) in
    let env1 = inside after h.iterator (loops_of word) in
    if-by (λ (p : Binding × (ℕ × (Expr × Stmt))). Unit {0} × (Unit {0} × UncheckedBody p.1.1)) UncheckedIn (both (ranged h) (iterated h.iterator (loops_of word) parts) env).part
    (λ p. Ok (loop_of word env.key at (head_with h p.0 p.1.0) p.1.1.0 p.1.1.1))
    (if-both (λ b. Unit {0}) (λ (p : ℕ × (Expr × Stmt)). Unit {0} × UncheckedBody p.1) (ranged h env).part (iterated h.iterator (loops_of word) parts after).part (anything (ranged h env).part)
    (if-both (λ i. Unit {0}) UncheckedBody (Some after.next) (parts env1).part tt (body-unchecked filter (checked body) env1 (λ env. checked-unchecked body env))))
    (λ p g. loop-unchecked word env.key at (head_with h p.0 p.1.0) p.1.1.0 p.1.1.1 g.1.1.0 g.1.1.1)
checked-unchecked (If at c a b) env =
    let first = numbered (checked a) in
    let second = numbered (checked b) in
    let env1 = later env (test c env) in
    let env2 = later env1 (first env1) in
    if-by (λ (p : Expr × (Stmt × Stmt)). Unchecked p.0 × (UncheckedIn p.1.0 × UncheckedIn p.1.1)) UncheckedIn (both (test c) (both first second) env).part (λ p. Ok (P.If env.key p.0 p.1.0 p.1.1))
    (if-both Unchecked (λ (p : Stmt × Stmt). UncheckedIn p.0 × UncheckedIn p.1) (test c env).part (both first second env1).part (test-unchecked c env)
    (if-both UncheckedIn UncheckedIn (first env1).part (second env2).part (checked-unchecked a (inner env1)) (checked-unchecked b (inner env2))))
    (λ p g. (g.0, (g.1.0, g.1.1)))
checked-unchecked (While at c body) env =
    if-by UncheckedBody UncheckedIn (both (test c) (numbered (checked body)) env).part (λ p. Ok (P.While env.key at p.0 p.1)) (body-unchecked c (checked body) env (λ env. checked-unchecked body env)) (λ p g. (g.0, g.1))
checked-unchecked (Do at body c) env =
    let first = numbered (checked body) in
    let env1 = later env (first env) in
    if-by (λ (p : Stmt × Expr). UncheckedIn p.0 × Unchecked p.1) UncheckedIn (both first (test c) env).part (λ p. Ok (P.Do env.key at p.0 p.1))
    (if-both UncheckedIn Unchecked (first env).part (test c env1).part (checked-unchecked body (inner env)) (test-unchecked c env1)) (λ p g. (g.0, g.1))
checked-unchecked (InBfs at v g root filter body) env =
    let names = both (graph_searched g) (rooted root) in
    let parts = both (test filter) (numbered (checked body)) in
    let env1 = later env (names env) in
    let env2 = inside env1 v 1 in
    if-by (λ (p : (Binding × Binding) × (ℕ × (Expr × Stmt))). Unit {0} × (Unit {0} × UncheckedBody p.1.1)) UncheckedIn (both names (iterated v 1 parts) env).part
    (λ p. Ok (P.InBfs env.key at (search_of root p.0 p.1.0) p.1.1.0 p.1.1.1))
    (if-both (λ b. Unit {0}) (λ (p : ℕ × (Expr × Stmt)). Unit {0} × UncheckedBody p.1) (names env).part (iterated v 1 parts env1).part (anything (names env).part)
    (if-both (λ i. Unit {0}) UncheckedBody (Some env1.next) (parts env2).part tt (body-unchecked filter (checked body) env2 (λ env. checked-unchecked body env))))
    (λ p g. (g.1.1.0, g.1.1.1))
checked-unchecked (InBfsBoth at v g root filter body reverse back_filter back) env =
    let names = both (graph_searched g) (rooted root) in
    let forth = both (test filter) (numbered (checked body)) in
    let behind = numbered (searched (test back_filter) (numbered (checked back))) in
    let parts = both forth behind in
    let env1 = later env (names env) in
    let env2 = inside env1 v 1 in
    let env3 = later env2 (forth env2) in
    let env4 = inner env3 in
    let UncheckedBack = λ (p : Key × (Expr × Stmt)). UncheckedBody p.1 in
    let UncheckedBoth = λ (p : (Expr × Stmt) × (Key × (Expr × Stmt))). UncheckedBody p.0 × UncheckedBody p.1.1 in
    if-by (λ (p : (Binding × Binding) × (ℕ × ((Expr × Stmt) × (Key × (Expr × Stmt))))). Unit {0} × (Unit {0} × UncheckedBoth p.1.1)) UncheckedIn (both names (iterated v 1 parts) env).part
    (λ p. Ok (P.InBfsBoth env.key at (search_of root p.0 p.1.0) p.1.1.0.0 p.1.1.0.1 p.1.1.1.0 p.1.1.1.1.0 p.1.1.1.1.1))
    (if-both (λ b. Unit {0}) (λ (p : ℕ × ((Expr × Stmt) × (Key × (Expr × Stmt)))). Unit {0} × UncheckedBoth p.1) (names env).part (iterated v 1 parts env1).part (anything (names env).part)
    (if-both (λ i. Unit {0}) UncheckedBoth (Some env1.next) (parts env2).part tt
    (if-both UncheckedBody UncheckedBack (forth env2).part (behind env3).part (body-unchecked filter (checked body) env2 (λ env. checked-unchecked body env))
    (if-by UncheckedBody UncheckedBack (both (test back_filter) (numbered (checked back)) env4).part (λ p. Ok (env4.key, p)) (body-unchecked back_filter (checked back) env4 (λ env. checked-unchecked back env)) (λ p g. g)))))
    (λ p g. (g.1.1.0.0, (g.1.1.0.1, (g.1.1.1.0, g.1.1.1.1))))
checked-unchecked (Return at None) env = if-good UncheckedIn (is_none env.result) T14 at (P.Return env.key at None) tt
checked-unchecked (Return at (Some e)) env =
    if-by UncheckedPart UncheckedIn (typed e env).part (returned env.key at env.result) (typed-unchecked e env) (λ p h. returned-unchecked env.key at env.result p h)

-- ---- a procedure

elaborated-unchecked : (p : SurfaceProcedure) → IfPart (λ q. UncheckedIn q.body) (elaborated p).part
elaborated-unchecked p =
    let env1 = later (env_of_body p) (noted (tt {0}) (head_broken p)) in
    let body = numbered (checked p.body) (env_of_body p) in
    if-by (λ (q : (Unit {0} × Unit {0}) × (Unit {0} × Stmt)). Unit {0} × (Unit {0} × UncheckedIn q.1.1)) (λ q. UncheckedIn q.body) (parts_of p).part _
    (if-both (λ u. Unit {0}) (λ (q : Unit {0} × Stmt). Unit {0} × UncheckedIn q.1) (all_parameters p).part (beside (noted (tt {0}) (head_broken p)) body).part (anything (all_parameters p).part)
    (if-both (λ u. Unit {0}) UncheckedIn (Some (tt {0})) body.part tt (checked-unchecked p.body (inner (env_of_body p)))))
    (λ q g. g.1.1)

pub program-unchecked : (tree : SurfaceProcedure) (p : Program) → (elaborated tree).part ≡ Some p → UncheckedIn p.body
program-unchecked tree p e = subst (IfPart (λ (q : Program). UncheckedIn q.body)) e (elaborated-unchecked tree)
