-- What the rules of types let a program declare.
use Rattle.std.proofs.Common.{◌≡◌, ◌<◌, inl, inr, ℕ, zero, suc, Bool, true, false, Option, Some, None, List, [], ◌∷◌, ◌++◌, length, refl, ap, ◌∙◌, sym, subst, arith, ⊎_elim}
use Rattle.std.specs.Prelude.{◌+◌, ◌⊎◌, ◌&&◌, ◌||◌, not, nat_eq, if◌then◌else◌}
use Rattle.std.specs.List.{list_all}
use Rattle.std.proofs.lemmas.Bool.{both_ways, and_from, eqb-true, not-true}
use Rattle.std.proofs.lemmas.List.{length-append}
use Rattle.gm_base.specs.declared.places.Place.{Place}
use Rattle.gm_value.specs.declared.values.VType.TheVariants as V
use Rattle.gm_ast.specs.declared.kinds.Role.{Role}
use Rattle.gm_ast.specs.declared.kinds.Role.TheVariants.{Input, Output, Local}
use Rattle.gm_ast.specs.declared.surface.Bearer.TheVariants.{Nodes, Edges}
use Rattle.gm_ast.specs.declared.surface.TypeWord.TheVariants as Word
use Rattle.gm_ast.specs.declared.tree.Declaration.{Declaration}
use Rattle.gm_ast.specs.declared.tree.Sort.TheVariants as Sorts
use Rattle.gm_ast.specs.declared.tree.Variable.{Variable}
use Rattle.gm_ast.specs.Judged.{Judged, Answer, beside, judge, noted}
use Rattle.gm_ast.specs.Names.{Env, is, is_node_type, used, declared_as, with_name, both, judged_each, an_iterator, inside, iterated, keyed, counted, numbered, later, operators_of, known_as}
use Rattle.gm_ast.specs.Surface as Surface
use Rattle.gm_ast.specs.Surface.{SurfaceName, SurfaceType, Plain, Property, SurfaceHead, SurfaceTarget, SurfaceExpr, SurfaceStmt, SurfaceGroup, SurfaceProcedure}
use Rattle.gm_ast.specs.Statements.{type_broken, variable_of, declared_all, with_names, checked, declared_plainly, declared_typed, declared_with, edge_declared, edge_owner, grouped, group_target, in_group, assigned, deferred, assignment, names_graph, goal, goal_at, goals, goals_together, typed_all, reduced, at_iterator, rooted, graph_searched, loops_of, test, searched, following}
use Rattle.gm_ast.specs.Typing.{typed, condition, start_of, ranged, reducer_at, fold_numbers}
use Rattle.gm_ast.specs.Procedures.{parameters, count_names, types_broken, head_broken, all_parameters, parts_of, elaborated, env_of_outputs, env_of_body, nothing_known, result_of}
use Rattle.gm_ast.specs.Program.{Program, Stmt}
use Rattle.gm_forms.proofs.Named.{both-true}
use Rattle.gm_semantics.specs.Statements.{variable_at}
use Rattle.gm_ready.proofs.Judging.{IfPart, if-by, append-empty}
use Rattle.gm_ready.proofs.Procedures.{parameters-declared}
use Rattle.gm_interface.specs.Laws.{TypedHasTable}
use Rattle.gm_interface.specs.Tables.{HasTable}
use Rattle.gm_interface.proofs.Widened.{is_added, all_added, node-type, added-node, added-inside}

-- ---- parts that declare what passes may add too, where they break no rule

abbrev pub Well : {A : Type 0} → Judged A → Type 0
Well x = x.broken ≡ [] → all_added x.declared ≡ true

abbrev pub Good : {A : Type 0} → (Env → Judged A) → Type 0
Good part = (env : Env) → Well (part env)

pub added-both : (xs ys : List Declaration) → all_added xs ≡ true → all_added ys ≡ true → all_added (xs ++ ys) ≡ true
added-both [] ys h k = k
added-both (d ∷ xs) ys h k = let b = both-true (is_added d.variable) (all_added xs) h in and_from (is_added d.variable) (all_added (xs ++ ys)) b.0 (added-both xs ys b.1 k)

well-judge : {A B : Type 0} (x : Judged A) (rule : A → Answer B) → Well x → Well (judge x rule)
well-judge x rule h e = h (append-empty x.broken _ e).0

well-beside : {A B : Type 0} (x : Judged A) (y : Judged B) → Well x → Well y → Well (beside x y)
well-beside x y h k e = let b = append-empty x.broken y.broken e in added-both x.declared y.declared (h b.0) (k b.1)

good-both : {A B : Type 0} (f : Env → Judged A) (g : Env → Judged B) → Good f → Good g → Good (both f g)
good-both f g h k env = well-beside (f env) (g (later env (f env))) (h env) (k (later env (f env)))

good-iterated : {A : Type 0} (name : SurfaceName) (loops : ℕ) (f : Env → Judged A) → Good f → Good (iterated name loops f)
good-iterated name loops f h env = well-beside (declared_as env name (an_iterator (env.depth + loops))) (f (inside env name loops)) (λ e. refl) (h (inside env name loops))

good-used : (x : SurfaceName) → Good (used x)
good-used x env e = refl

good-each : {X A : Type 0} (one : X → Env → Judged A) → ((x : X) → Good (one x)) → (xs : List X) → Good (judged_each one xs)
good-each one h [] env e = refl
good-each one h (x ∷ xs) env e = well-judge (both (one x) (judged_each one xs) env) _ (good-both (one x) (judged_each one xs) (h x) (good-each one h xs) env) e

good-condition : (at : Place) (part : Env → Judged _) → Good part → Good (condition at part)
good-condition at part h env e = well-judge (part env) _ (h env) e

good-ranged : (h : SurfaceHead) → Good (ranged h)
good-ranged h env e = refl

-- ---- expressions

good-typed : (x : SurfaceExpr) → Good (typed x)
good-typed Surface.Always env e = refl
good-typed (Surface.Number at n) env e = refl
good-typed (Surface.Truth at b) env e = refl
good-typed (Surface.Nil at) env e = refl
good-typed (Surface.Greatest at) env e = refl
good-typed (Surface.Least at) env e = refl
good-typed (Surface.Named x) env e = refl
good-typed (Surface.Member x p) env e = refl
good-typed (Surface.Method x m) env e = refl
good-typed (Surface.Paren at x) env e = good-typed x env e
good-typed (Surface.Prefixed at op x) env e = well-judge (typed x env) _ (good-typed x env) e
good-typed (Surface.Infixed at op a b) env e = well-judge (both (typed a) (typed b) env) _ (good-both (typed a) (typed b) (good-typed a) (good-typed b) env) e
good-typed (Surface.Choose at c a b) env e =
    well-judge (both (condition (start_of c) (typed c)) (both (typed a) (typed b)) env) _
    (good-both (condition (start_of c) (typed c)) (both (typed a) (typed b)) (good-condition (start_of c) (typed c) (good-typed c)) (good-both (typed a) (typed b) (good-typed a) (good-typed b)) env) e
good-typed (Surface.Reduction at word h filter body close) env e =
    let r = reducer_at env at word close in
    let f = keyed r.filter (condition (start_of filter) (typed filter)) in
    let b = keyed r.body (typed body) in
    let it = iterated h.iterator 1 (both f b) in
    let inner : Good it = good-iterated h.iterator 1 (both f b) (good-both f b (λ env. good-condition (start_of filter) (typed filter) (good-typed filter) (record env { key = r.filter })) (λ env. good-typed body (record env { key = r.body }))) in
    well-judge (both (ranged h) (counted (fold_numbers env) it) env) _
    (good-both (ranged h) (counted (fold_numbers env) it) (good-ranged h) (λ env2. inner (record env2 { number = env2.number + fold_numbers env })) env) e

-- ---- declarations

pub names-all : (test : Variable → Bool) (v : Variable) (xs : List SurfaceName) (env : Env) → test v ≡ true → list_all (λ d. test d.variable) (declared_all v xs env).declared ≡ true
names-all test v [] env h = refl
names-all test v (x ∷ xs) env h = and_from (test v) _ h (names-all test v xs (with_name env x v) h)

abbrev pub is_empty : {A : Type 0} → List A → Bool
is_empty [] = true
is_empty (x ∷ xs) = false

-- a type that breaks no rule as that of a local or an output declares no property of edges, and none that iterates but nodes
local-added : (t : SurfaceType) (env around : Env) → type_broken t Local env ≡ [] → is_added (variable_of t around.depth) ≡ true
local-added (Plain at Word.Graph g) env around h = refl
local-added (Plain at Word.Edge g) env around h = refl
local-added (Plain at Word.Int g) env around h = refl
local-added (Plain at Word.Long g) env around h = refl
local-added (Plain at Word.Bool g) env around h = refl
local-added (Plain at Word.Node g) env around h = refl
local-added (Property at Nodes inner g) env around h = refl
local-added (Property at Edges inner g) env around h = absurd (both_ways false refl (ap is_empty h))

output-added : (t : SurfaceType) (env : Env) (depth : ℕ) → type_broken t Output env ≡ [] → is_added (variable_of t depth) ≡ true
output-added (Plain at Word.Graph g) env depth h = refl
output-added (Plain at Word.Edge g) env depth h = refl
output-added (Plain at Word.Int g) env depth h = refl
output-added (Plain at Word.Long g) env depth h = refl
output-added (Plain at Word.Bool g) env depth h = refl
output-added (Plain at Word.Node g) env depth h = refl
output-added (Property at Nodes inner g) env depth h = refl
output-added (Property at Edges inner g) env depth h = absurd (both_ways false refl (ap is_empty h))

good-plainly : (t : SurfaceType) (xs : List SurfaceName) → Good (declared_plainly t xs)
good-plainly t xs env e =
    let n = noted (tt {0}) (type_broken t Local env) in
    let a = append-empty (n.broken ++ (declared_all (variable_of t env.depth) xs env).broken) _ e in
    let b = append-empty n.broken (declared_all (variable_of t env.depth) xs env).broken a.0 in
    names-all is_added (variable_of t env.depth) xs env (local-added t env env b.0)

good-valued : (t : SurfaceType) (x : SurfaceName) → Good (declared_typed t x)
good-valued t x env e =
    let n = noted (tt {0}) (type_broken t Local env ++ _) in
    let d = declared_as env x (variable_of t env.depth) in
    let a = append-empty (n.broken ++ d.broken) _ e in
    let b = append-empty n.broken d.broken a.0 in
    let c = append-empty (type_broken t Local env) _ b.0 in
    and_from (is_added (variable_of t env.depth)) true (local-added t env env c.0) refl

good-with : (o : Option SurfaceName) (t : SurfaceType) (x : SurfaceName) (at : Place) (v : SurfaceExpr) → Good (declared_with o t x at v)
good-with (Some y) t x at v env e = well-judge (both (declared_typed t x) (edge_owner y) env) _ (good-both (declared_typed t x) (edge_owner y) (good-valued t x) (λ env e. refl) env) e
good-with None t x at v env e = well-judge (both (declared_typed t x) (typed v) env) _ (good-both (declared_typed t x) (typed v) (good-valued t x) (good-typed v) env) e

-- ---- statements

good-goal : (d : Bool) (t : SurfaceTarget) → Good (goal d t)
good-goal d t env = by t.property where
  by : (p : Option SurfaceName) → Well (goal_at d t.owner p env)
  by None e = refl
  by (Some p) e = refl

good-group : (x p : SurfaceName) (at : Place) (v : SurfaceExpr) → Good (grouped x p at v)
good-group x p at v env e =
    well-judge (both (group_target x p) (in_group (typed v)) env) _ (good-both (group_target x p) (in_group (typed v)) (λ env e. refl) (λ env. good-typed v (record env { group = true; depth = env.depth + 1 })) env) e

good-assigned : (t : SurfaceTarget) (at : Place) (v : SurfaceExpr) → Good (assigned t at v)
good-assigned t at v env e = well-judge (both (goal false t) (typed v) env) _ (good-both (goal false t) (typed v) (good-goal false t) (good-typed v) env) e

good-deferred : (t : SurfaceTarget) (at : Place) (v : SurfaceExpr) → Good (deferred t at v)
good-deferred t at v env e = well-judge (both (goal true t) (typed v) env) _ (good-both (goal true t) (typed v) (good-goal true t) (good-typed v) env) e

good-assignment : (p : Option SurfaceName) (t : SurfaceTarget) (at : Place) (v : SurfaceExpr) → Good (assignment p t at v)
good-assignment None t at v env = good-assigned t at v env
good-assignment (Some p) t at v env = by (names_graph (known_as env.known t.owner.text)) where
  by : (b : Bool) → Well (if b then grouped t.owner p at v env else assigned t at v env)
  by true = good-group t.owner p at v env
  by false = good-assigned t at v env

good-reduced : (ts : List SurfaceTarget) (r : _) (at : Place) (es : List SurfaceExpr) → Good (reduced ts r at es)
good-reduced ts r at es env e =
    let together : Good (goals_together ts) = λ env e. well-judge (beside (goals ts env) (noted (tt {0}) _)) _ (well-beside (goals ts env) (noted (tt {0}) _) (good-each (goal false) (good-goal false) ts env) (λ e. refl)) e in
    well-judge (both (goals_together ts) (typed_all es) env) _ (good-both (goals_together ts) (typed_all es) together (good-each typed good-typed es) env) e

good-at : (o : Option SurfaceName) → Good (at_iterator o)
good-at None env e = refl
good-at (Some x) env e = refl

good-test : (x : SurfaceExpr) → Good (test x)
good-test x env = good-condition (start_of x) (typed x) (good-typed x) env

good-numbered : {A : Type 0} (f : Env → Judged A) → Good f → Good (numbered f)
good-numbered f h env = h (record env { number = env.number + 1; key = operators_of env.number })

good-head : (g root : SurfaceName) → Good (both (graph_searched g) (rooted root))
good-head g root env e = refl

good-checked : (s : SurfaceStmt) → Good (checked s)
good-checked Surface.Skip env e = refl
good-checked (Surface.Then a b) env e =
    let x = numbered (checked a) env in
    well-judge (beside x (checked b (following a env x))) _ (well-beside x (checked b (following a env x)) (good-numbered (checked a) (good-checked a) env) (good-checked b (following a env x))) e
good-checked (Surface.Declare t xs) env e = good-plainly t xs env e
good-checked (Surface.DeclareAs t x at v) env e = good-with (edge_declared t v) t x at v env e
good-checked (Surface.Assign t at v) env e = good-assignment t.property t at v env e
good-checked (Surface.Defer t at v it) env e = well-judge (both (deferred t at v) (at_iterator it) env) _ (good-both (deferred t at v) (at_iterator it) (good-deferred t at v) (good-at it) env) e
good-checked (Surface.Combine ts r at es it) env e = well-judge (both (reduced ts r at es) (at_iterator it) env) _ (good-both (reduced ts r at es) (at_iterator it) (good-reduced ts r at es) (good-at it) env) e
good-checked (Surface.Increment t at) env e = well-judge (goal false t env) _ (good-goal false t env) e
good-checked (Surface.Call r f es xs) env e = refl
good-checked (Surface.Loop at word h filter body) env e =
    let inner = both (test filter) (numbered (checked body)) in
    let it = iterated h.iterator (loops_of word) inner in
    well-judge (both (ranged h) it env) _
    (good-both (ranged h) it (good-ranged h) (good-iterated h.iterator (loops_of word) inner (good-both (test filter) (numbered (checked body)) (good-test filter) (good-numbered (checked body) (good-checked body)))) env) e
good-checked (Surface.If at c a b) env e =
    let two = both (numbered (checked a)) (numbered (checked b)) in
    well-judge (both (test c) two env) _
    (good-both (test c) two (good-test c) (good-both (numbered (checked a)) (numbered (checked b)) (good-numbered (checked a) (good-checked a)) (good-numbered (checked b) (good-checked b))) env) e
good-checked (Surface.While at c body) env e = well-judge (both (test c) (numbered (checked body)) env) _ (good-both (test c) (numbered (checked body)) (good-test c) (good-numbered (checked body) (good-checked body)) env) e
good-checked (Surface.Do at body c) env e = well-judge (both (numbered (checked body)) (test c) env) _ (good-both (numbered (checked body)) (test c) (good-numbered (checked body) (good-checked body)) (good-test c) env) e
good-checked (Surface.InBfs at v g root filter body) env e =
    let head = both (graph_searched g) (rooted root) in
    let inner = both (test filter) (numbered (checked body)) in
    let it = iterated v 1 inner in
    well-judge (both head it env) _ (good-both head it (good-head g root) (good-iterated v 1 inner (good-both (test filter) (numbered (checked body)) (good-test filter) (good-numbered (checked body) (good-checked body)))) env) e
good-checked (Surface.InBfsBoth at v g root filter body reverse back_filter back) env e =
    let head = both (graph_searched g) (rooted root) in
    let forth = both (test filter) (numbered (checked body)) in
    let found = searched (test back_filter) (numbered (checked back)) in
    let inner = both forth (numbered found) in
    let it = iterated v 1 inner in
    let back_good : Good found = λ env e. well-judge (both (test back_filter) (numbered (checked back)) env) _ (good-both (test back_filter) (numbered (checked back)) (good-test back_filter) (good-numbered (checked back) (good-checked back)) env) e in
    well-judge (both head it env) _
    (good-both head it (good-head g root)
    (good-iterated v 1 inner (good-both forth (numbered found) (good-both (test filter) (numbered (checked body)) (good-test filter) (good-numbered (checked body) (good-checked body))) (good-numbered found back_good))) env) e
good-checked (Surface.Return at None) env e = refl
good-checked (Surface.Return at (Some v)) env e = well-judge (typed v env) _ (good-typed v env) e

-- ---- parameters

-- what an input is: declared outside of loops, a node where it iterates as the graph does, and never an iterator
abbrev is_parameter : Variable → Bool
is_parameter v = nat_eq v.depth 0 && (not (is Sorts.Iterator v) && (not (is Sorts.Graph v) || is_node_type v.vtype))

input-fits : (t : SurfaceType) → is_parameter (variable_of t 0) ≡ true
input-fits (Plain at Word.Graph g) = refl
input-fits (Plain at Word.Edge g) = refl
input-fits (Plain at Word.Int g) = refl
input-fits (Plain at Word.Long g) = refl
input-fits (Plain at Word.Bool g) = refl
input-fits (Plain at Word.Node g) = refl
input-fits (Property at Nodes inner g) = refl
input-fits (Property at Edges inner g) = refl

pub all-parameters : (test : Variable → Bool) (role : Role) (around : Env) → ((t : SurfaceType) → type_broken t role around ≡ [] → test (variable_of t 0) ≡ true) → (gs : List SurfaceGroup) (env : Env) → types_broken role around gs ≡ []
    → list_all (λ d. test d.variable) (parameters gs env).declared ≡ true
all-parameters test role around h [] env e = refl
all-parameters test role around h (g ∷ gs) env e =
    let b = append-empty (type_broken g.vtype role around) (types_broken role around gs) e in
    let v = variable_of g.vtype 0 in
    let inner = with_names v g.names env in
    all-append (λ d. test d.variable) (declared_all v g.names env).declared (parameters gs inner).declared (names-all test v g.names env (h g.vtype b.0)) (all-parameters test role around h gs inner b.1) where
      all-append : {A : Type 0} (f : A → Bool) (xs ys : List A) → list_all f xs ≡ true → list_all f ys ≡ true → list_all f (xs ++ ys) ≡ true
      all-append f [] ys h k = k
      all-append f (x ∷ xs) ys h k = let b = both-true (f x) (list_all f xs) h in and_from (f x) (list_all f (xs ++ ys)) b.0 (all-append f xs ys b.1 k)

-- ---- the table of a procedure

pub all-at : (test : Variable → Bool) (xs : List Declaration) (x : ℕ) → list_all (λ d. test d.variable) xs ≡ true → x < length xs → test (variable_at xs x) ≡ true
all-at test [] x h lt = absurd (omega (arith, lt))
all-at test (d ∷ xs) zero h lt = (both-true (test d.variable) (list_all (λ d. test d.variable) xs) h).0
all-at test (d ∷ xs) (suc x) h lt = all-at test xs x (both-true (test d.variable) (list_all (λ d. test d.variable) xs) h).1 (omega (arith, lt))

-- where a variable of two tables stands
split-at : (xs ys : List Declaration) (x : ℕ) → ((x < length xs) × (variable_at (xs ++ ys) x ≡ variable_at xs x)) ⊎ ((i : ℕ) × (length xs + i ≡ x) × (variable_at (xs ++ ys) x ≡ variable_at ys i))
split-at [] ys x = inr (x, (let e : 0 + x ≡ x = omega arith in e), refl)
split-at (d ∷ xs) ys zero = inl (omega arith, refl)
split-at (d ∷ xs) ys (suc x) =
    ⊎_elim (λ (h : (x < length xs) × (variable_at (xs ++ ys) x ≡ variable_at xs x)). let l = h.0 in inl (omega (arith, l), h.1))
    (λ (h : (i : ℕ) × (length xs + i ≡ x) × (variable_at (xs ++ ys) x ≡ variable_at ys i)). let e = h.1 in inr (h.0, (let f : suc (length xs) + h.0 ≡ suc x = omega (arith, e) in f), h.2)) (split-at xs ys x)

-- a variable that is no property of edges, beyond a table too
behind-added : (xs : List Declaration) (x : ℕ) → all_added xs ≡ true → is_added (variable_at xs x) ≡ true
behind-added [] x h = refl
behind-added (d ∷ xs) zero h = (both-true (is_added d.variable) (all_added xs) h).0
behind-added (d ∷ xs) (suc x) h = behind-added xs x (both-true (is_added d.variable) (all_added xs) h).1

parameter-parts : (v : Variable) → is_parameter v ≡ true → (v.depth ≡ 0) × (is Sorts.Iterator v ≡ false) × (is Sorts.Graph v ≡ true → v.vtype ≡ V.Node)
parameter-parts v h =
    let a = both-true (nat_eq v.depth 0) (not (is Sorts.Iterator v) && (not (is Sorts.Graph v) || is_node_type v.vtype)) h in
    let b = both-true (not (is Sorts.Iterator v)) (not (is Sorts.Graph v) || is_node_type v.vtype) a.1 in
    (eqb-true v.depth 0 a.0, not-true (is Sorts.Iterator v) b.0, λ e. node-type v.vtype (by (is Sorts.Graph v) (is_node_type v.vtype) e b.1)) where
      by : (g n : Bool) → g ≡ true → not g || n ≡ true → n ≡ true
      by true n e h = h
      by false n e h = absurd (both_ways false refl e)

module _ (s : SurfaceProcedure) where
  abbrev pub ins : List Declaration
  ins = (parameters s.inputs (nothing_known (result_of s))).declared

  abbrev pub outs : List Declaration
  outs = (parameters s.outputs (env_of_outputs s)).declared

  abbrev pub body : Judged Stmt
  body = numbered (checked s.body) (env_of_body s)

  abbrev made : Program → Type 0
  made p = (p.declarations ≡ (ins ++ outs) ++ body.declared) × (p.inputs ≡ count_names s.inputs) × (p.outputs ≡ count_names s.outputs)

  pub parts-clean : (parts_of s).broken ≡ [] → (types_broken Input (env_of_body s) s.inputs ≡ []) × (types_broken Output (env_of_body s) s.outputs ≡ []) × (body.broken ≡ [])
  parts-clean none =
      let a = append-empty (all_parameters s).broken (head_broken s ++ body.broken) none in
      let b = append-empty (head_broken s) body.broken a.1 in
      let c = append-empty _ (types_broken Input (env_of_body s) s.inputs ++ _) b.0 in
      let d = append-empty (types_broken Input (env_of_body s) s.inputs) _ c.1 in
      let e = append-empty (types_broken Output (env_of_body s) s.outputs) _ d.1 in (d.0, e.0, b.1)

  all-both : (test : Declaration → Bool) (xs ys : List Declaration) → list_all test xs ≡ true → list_all test ys ≡ true → list_all test (xs ++ ys) ≡ true
  all-both test [] ys h k = k
  all-both test (x ∷ xs) ys h k = let b = both-true (test x) (list_all test xs) h in and_from (test x) (list_all test (xs ++ ys)) b.0 (all-both test xs ys b.1 k)

  abbrev pub all : List Declaration
  all = (ins ++ outs) ++ body.declared

  module _ (none : (parts_of s).broken ≡ []) where
    heads : list_all (λ d. is_parameter d.variable) (ins ++ outs) ≡ true
    heads =
        let c = parts-clean none in
        all-both (λ d. is_parameter d.variable) ins outs
        (all-parameters is_parameter Input (env_of_body s) (λ t e. input-fits t) s.inputs (nothing_known (result_of s)) c.0)
        (all-parameters is_parameter Output (env_of_body s) (λ t e. input-fits t) s.outputs (env_of_outputs s) c.1)

    outs-added : all_added outs ≡ true
    outs-added = all-parameters is_added Output (env_of_body s) (λ t e. output-added t (env_of_body s) 0 e) s.outputs (env_of_outputs s) (parts-clean none).1

    body-added : all_added body.declared ≡ true
    body-added = good-numbered (checked s.body) (good-checked s.body) (env_of_body s) (parts-clean none).2

    pub sizes : (length ins ≡ count_names s.inputs) × (length outs ≡ count_names s.outputs)
    sizes = (parameters-declared s.inputs (nothing_known (result_of s)), parameters-declared s.outputs (env_of_outputs s))

    -- a variable is a parameter, or one that passes may add, which is behind the inputs
    place : (x : ℕ) → (is_parameter (variable_at all x) ≡ true) × (x < count_names s.inputs) ⊎ (is_added (variable_at all x) ≡ true)
    place x =
        ⊎_elim
        (λ (h : (x < length (ins ++ outs)) × (variable_at all x ≡ variable_at (ins ++ outs) x)).
        ⊎_elim
        (λ (k : (x < length ins) × (variable_at (ins ++ outs) x ≡ variable_at ins x)).
        inl (ap is_parameter h.1 ∙ all-at is_parameter (ins ++ outs) x heads h.0, subst (λ n. x < n) sizes.0 k.0))
        (λ (k : (i : ℕ) × (length ins + i ≡ x) × (variable_at (ins ++ outs) x ≡ variable_at outs i)). inr (ap is_added (h.1 ∙ k.2) ∙ behind-added outs k.0 outs-added)) (split-at ins outs x))
        (λ (h : (i : ℕ) × (length (ins ++ outs) + i ≡ x) × (variable_at all x ≡ variable_at body.declared i)). inr (ap is_added h.2 ∙ behind-added body.declared h.0 body-added)) (split-at (ins ++ outs) body.declared x)

    parameter : (x : ℕ) → x < count_names s.inputs + count_names s.outputs → is_parameter (variable_at all x) ≡ true
    parameter x lt =
        let both : length (ins ++ outs) ≡ length ins + length outs = length-append ins outs in
        let i = sizes.0 in
        let o = sizes.1 in
        ⊎_elim (λ (h : (x < length (ins ++ outs)) × (variable_at all x ≡ variable_at (ins ++ outs) x)). ap is_parameter h.1 ∙ all-at is_parameter (ins ++ outs) x heads h.0)
        (λ (h : (j : ℕ) × (length (ins ++ outs) + j ≡ x) × (variable_at all x ≡ variable_at body.declared j)). let e = h.1 in absurd (omega (arith, e, both, i, o, lt))) (split-at (ins ++ outs) body.declared x)

    pub source-table : (p : Program) → p.declarations ≡ all → p.inputs ≡ count_names s.inputs → p.outputs ≡ count_names s.outputs → HasTable p
    source-table p e i o = record {
      nodes = λ x lt h. ap (λ ds. (variable_at ds x).vtype) e ∙ node x (sym (ap (λ ds. is Sorts.Iterator (variable_at ds x) || is Sorts.Graph (variable_at ds x)) e) ∙ h) (place x);
      interface = record {
        declared =
            let a : length p.declarations ≡ length all = ap length e in
            let b : length all ≡ length (ins ++ outs) + length body.declared = length-append (ins ++ outs) body.declared in
            let c : length (ins ++ outs) ≡ length ins + length outs = length-append ins outs in
            let d = sizes.0 in
            let f = sizes.1 in
            omega (arith, a, b, c, d, f, i, o);
        outside = λ x lt. ap (λ ds. (variable_at ds x).depth) e ∙ (parameter-parts (variable_at all x) (parameter x (within x lt))).0;
        no_iterator = λ x lt. let k : x < count_names s.inputs + count_names s.outputs = omega (arith, lt, i) in ap (λ ds. is Sorts.Iterator (variable_at ds x)) e ∙ (parameter-parts (variable_at all x) (parameter x k)).1;
        edges = λ x h.
            ⊎_elim (λ (k : (is_parameter (variable_at all x) ≡ true) × (x < count_names s.inputs)). subst (λ n. x < n) (sym i) k.1)
            (λ (k : is_added (variable_at all x) ≡ true). absurd (both_ways (is Sorts.EdgeProperty (variable_at all x)) (added-inside (variable_at all x) k) (sym (ap (λ ds. is Sorts.EdgeProperty (variable_at ds x)) e) ∙ h))) (place x);
      };
    } where
      within : (x : ℕ) → x < p.inputs + p.outputs → x < count_names s.inputs + count_names s.outputs
      within x lt = omega (arith, lt, i, o)

      graph : (v : Variable) → is Sorts.Iterator v ≡ false → is Sorts.Iterator v || is Sorts.Graph v ≡ true → is Sorts.Graph v ≡ true
      graph v a h = by (is Sorts.Iterator v) a h where
        by : (b : Bool) → b ≡ false → b || is Sorts.Graph v ≡ true → is Sorts.Graph v ≡ true
        by true e h = absurd (both_ways true e refl)
        by false e h = h

      node : (x : ℕ) → is Sorts.Iterator (variable_at all x) || is Sorts.Graph (variable_at all x) ≡ true → (is_parameter (variable_at all x) ≡ true) × (x < count_names s.inputs) ⊎ (is_added (variable_at all x) ≡ true) → (variable_at all x).vtype ≡ V.Node
      node x h q =
          let v = variable_at all x in
          ⊎_elim (λ (k : (is_parameter v ≡ true) × (x < count_names s.inputs)). let b = parameter-parts v k.0 in b.2 (graph v b.1 h)) (λ (k : is_added v ≡ true). added-node v k h) q

pub typed-table : TypedHasTable
typed-table p typed =
    let s = typed.source in
    let none = append-empty (parts_of s).broken _ typed.clean in
    let held : IfPart HasTable (elaborated s).part = if-by (λ q. Unit {0}) HasTable (parts_of s).part _ (any (parts_of s).part) (λ q h. source-table s none.0 _ refl refl refl) in
    subst (λ o. IfPart HasTable o) typed.is held where
      any : {A : Type 0} (o : Option A) → IfPart (λ (q : A). Unit {0}) o
      any None = tt
      any (Some q) = tt
