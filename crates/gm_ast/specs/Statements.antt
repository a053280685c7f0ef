-- The types of declarations and statements, and the rules that they break.
use Rattle.std.specs.Prelude.{ℕ, ◌+◌, nat_eq, Bool, true, false, ◌&&◌, ◌||◌, not, if◌then◌else◌, pos, List, [], ◌∷◌, ◌++◌, map, Option, Some, None, Ok, Err, is_none, is_some}
use Rattle.std.specs.Str.{bytes_eq}
use Rattle.gm_base.specs.declared.places.Place.{Place}
use Rattle.gm_base.specs.declared.rules.Rule.{Rule}
use Rattle.gm_base.specs.declared.rules.Rule.TheVariants.{T4, T5, T6, T7, T9, T11, T12, T13, T14, T15}
use Rattle.gm_base.specs.declared.rules.Refusal.{Refusal}
use Rattle.gm_base.specs.Rules.{broken_at}
use Rattle.gm_value.specs.declared.values.VType.{VType}
use Rattle.gm_value.specs.declared.values.VType.TheVariants.{I32, I64, Flag, Node}
use Rattle.gm_value.specs.declared.values.Value.TheVariants as Value
use Rattle.gm_value.specs.declared.reductions.Reduce.{Reduce}
use Rattle.gm_value.specs.declared.reductions.Reduce.TheVariants.{Sum, Product, Min, Max, And, Or}
use Rattle.gm_ast.specs.declared.tree.Variable.{Variable}
use Rattle.gm_ast.specs.declared.tree.Sort.{Sort}
use Rattle.gm_ast.specs.declared.tree.Sort.TheVariants.{Graph, Iterator, Scalar, Edge, NodeProperty, EdgeProperty}
use Rattle.gm_ast.specs.declared.tree.Target.TheVariants as Target
use Rattle.gm_ast.specs.declared.tree.Head.{Head}
use Rattle.gm_ast.specs.declared.tree.Search.{Search}
use Rattle.gm_ast.specs.declared.tree.Key.{Key}
use Rattle.gm_ast.specs.declared.tree.TotalKey.{TotalKey}
use Rattle.gm_ast.specs.declared.tree.Stage.TheVariants as Stage
use Rattle.gm_ast.specs.declared.kinds.Binding.{Binding}
use Rattle.gm_ast.specs.declared.kinds.Goal.{Goal}
use Rattle.gm_ast.specs.declared.kinds.Role.{Role}
use Rattle.gm_ast.specs.declared.kinds.Role.TheVariants.{Input, Output, Returned, Local, Inside}
use Rattle.gm_ast.specs.declared.kinds.Query.{Query}
use Rattle.gm_ast.specs.declared.kinds.Query.TheVariants.{ToEdge}
use Rattle.gm_ast.specs.declared.surface.TypeWord.{TypeWord}
use Rattle.gm_ast.specs.declared.surface.TypeWord.TheVariants as Word
use Rattle.gm_ast.specs.declared.surface.Bearer.{Bearer}
use Rattle.gm_ast.specs.declared.surface.Bearer.TheVariants.{Nodes, Edges}
use Rattle.gm_ast.specs.declared.surface.LoopWord.{LoopWord}
use Rattle.gm_ast.specs.declared.surface.LoopWord.TheVariants as Loop
use Rattle.gm_ast.specs.Surface.{SurfaceName, SurfaceType, Plain, Property, SurfaceTarget, SurfaceExpr, Method, Paren, SurfaceStmt, Skip, Then, Declare, DeclareAs, Assign, Defer, Combine, Increment, Call, Loop, If, While, Do, InBfs, InBfsBoth, Return}
use Rattle.gm_ast.specs.Program as P
use Rattle.gm_ast.specs.Program.{Expr, Stmt}
use Rattle.gm_ast.specs.Judged.{Judged, Answer, alone, beside, judge, noted, refused, refused_unless, unless, then_answer}
use Rattle.gm_ast.specs.Names.{Known, known_as, Env, used, declared_as, with_name, both, judged_each, iterated, later, numbered, is, is_node}
use Rattle.gm_ast.specs.Kinds.{Part, fitted, is_number_type, is_flag_type}
use Rattle.gm_ast.specs.Typing.{typed, condition, start_of, ranged, head_with, query_of}

-- whether a type is that of an input
abbrev pub is_input : Role → Bool
is_input Input = true
is_input _ = false

-- whether a type is that of a local
abbrev pub is_local : Role → Bool
is_local Local = true
is_local _ = false

-- whether a type is Node
abbrev pub holds_node : SurfaceType → Bool
holds_node (Plain at Word.Node g) = true
holds_node _ = false

-- whether a type that holds no other may be used so
abbrev pub plain_fits : Role → TypeWord → Bool
plain_fits role Word.Graph = is_input role
plain_fits role Word.Edge = is_local role
plain_fits role Word.Int = true
plain_fits role Word.Long = true
plain_fits role Word.Bool = true
plain_fits role Word.Node = true

-- whether a property of such values may be used so, inside so many parallel loops
abbrev pub property_fits : Role → ℕ → Bearer → Bool → Bool
property_fits Input depth Nodes of_nodes = not of_nodes
property_fits Input depth Edges of_nodes = not of_nodes
property_fits Output depth Nodes of_nodes = true
property_fits Output depth Edges of_nodes = false
property_fits Local depth Nodes of_nodes = nat_eq depth 0
property_fits Local depth Edges of_nodes = false
property_fits Returned depth b of_nodes = false
property_fits Inside depth b of_nodes = false

-- the name of a graph beside a type
abbrev pub graph_named : Env → Option SurfaceName → List Refusal
graph_named env None = []
graph_named env (Some x) = (judge (used x env) (λ k. refused_unless (is Graph k.variable) T5 x.place k)).broken

-- what a type breaks
abbrev pub type_broken : SurfaceType → Role → Env → List Refusal
type_broken (Plain at word g) role env = unless (plain_fits role word) T4 at ++ graph_named env g
type_broken (Property at b inner g) role env =
    (unless (property_fits role env.depth b (holds_node inner)) T4 at ++ graph_named env g) ++ type_broken inner Inside env

-- what a word declares
abbrev pub sort_of_word : TypeWord → Sort
sort_of_word Word.Graph = Graph
sort_of_word Word.Edge = Edge
sort_of_word Word.Int = Scalar
sort_of_word Word.Long = Scalar
sort_of_word Word.Bool = Scalar
sort_of_word Word.Node = Scalar

-- what a property of its bearer is
abbrev pub sort_of_bearer : Bearer → Sort
sort_of_bearer Nodes = NodeProperty
sort_of_bearer Edges = EdgeProperty

-- what a type declares
abbrev pub sort_of : SurfaceType → Sort
sort_of (Plain at word g) = sort_of_word word
sort_of (Property at b inner g) = sort_of_bearer b

-- the type of the values of a word; what T4 refuses counts as Node
abbrev pub vtype_of_word : TypeWord → VType
vtype_of_word Word.Int = I32
vtype_of_word Word.Long = I64
vtype_of_word Word.Bool = Flag
vtype_of_word Word.Node = Node
vtype_of_word Word.Edge = Node
vtype_of_word Word.Graph = Node

-- the type of a scalar's values or a property's
abbrev pub vtype_of : SurfaceType → VType
vtype_of (Plain at word g) = vtype_of_word word
vtype_of (Property at b inner g) = vtype_of inner

-- the declaration that a type makes
abbrev pub variable_of : SurfaceType → ℕ → Variable
variable_of t depth = record { sort = sort_of t; vtype = vtype_of t; depth = depth }

-- declarations of several names, one after another
abbrev pub declared_all : Variable → List SurfaceName → Env → Judged (List ℕ)
declared_all v [] env = alone (Ok [])
declared_all v (x ∷ xs) env = judge (beside (declared_as env x v) (declared_all v xs (with_name env x v))) (λ p. Ok (p.0 ∷ p.1))

-- the same names, after declarations of several more
abbrev pub with_names : Variable → List SurfaceName → Env → Env
with_names v [] env = env
with_names v (x ∷ xs) env = with_names v xs (with_name env x v)

-- the names that are known after a statement in its block
abbrev pub known_after : SurfaceStmt → Env → List Known
known_after (Declare t xs) env = (with_names (variable_of t env.depth) xs env).known
known_after (DeclareAs t x at e) env = (with_name env x (variable_of t env.depth)).known
known_after _ env = env.known

-- what stands around the rest of a block after a statement
abbrev pub following : {A : Type 0} → SurfaceStmt → Env → Judged A → Env
following s env x = later (record env { known = known_after s env }) x

-- a name alone as a target; a node property takes no value, and only a property may be deferred
abbrev pub scalar_goal_as : Sort → Bool → Place → Binding → Answer Goal
scalar_goal_as Scalar deferred at b = refused_unless (not deferred) T12 at (record { wanted = Some b.variable.vtype; target = Target.Scalar b.index at })
scalar_goal_as NodeProperty deferred at b = Ok (record { wanted = None; target = Target.Scalar b.index at })
scalar_goal_as Graph deferred at b = refused T12 at
scalar_goal_as Iterator deferred at b = refused T12 at
scalar_goal_as Edge deferred at b = refused T12 at
scalar_goal_as EdgeProperty deferred at b = refused T12 at

-- a name alone as a target, by the sort of what it means
abbrev pub scalar_goal : Bool → Place → Binding → Answer Goal
scalar_goal deferred at b = scalar_goal_as b.variable.sort deferred at b

-- a property as a target
abbrev pub property_goal : Place → Binding × Binding → Answer Goal
property_goal at bs =
    let x = bs.0 in
    let p = bs.1 in
    if is_node x.variable && is NodeProperty p.variable then Ok (record { wanted = Some p.variable.vtype; target = Target.Property x.index p.index at })
    else (if is Edge x.variable && is EdgeProperty p.variable then refused T12 at
    else refused T7 at)

-- the target that names spell
abbrev pub goal_at : Bool → SurfaceName → Option SurfaceName → Env → Judged Goal
goal_at deferred x None env = judge (used x env) (scalar_goal deferred x.place)
goal_at deferred x (Some p) env = judge (both (used x) (used p) env) (property_goal x.place)

-- the left side of an assignment that is no group assignment
abbrev pub goal : Bool → SurfaceTarget → Env → Judged Goal
goal deferred t env = goal_at deferred t.owner t.property env

-- whether a name is that of the graph
abbrev pub names_graph : Option Binding → Bool
names_graph None = false
names_graph (Some b) = is Graph b.variable

-- a value against its target
abbrev pub fits_goal : Option VType → Rule → Place → Part → Answer Expr
fits_goal None rule at p = refused rule at
fits_goal (Some t) rule at p = fitted t rule at p

-- whether an index is among some
abbrev pub is_among : ℕ → List ℕ → Bool
is_among n [] = false
is_among n (m ∷ ms) = nat_eq n m || is_among n ms

-- an enclosing iterator after `@`
abbrev pub at_iterator : Option SurfaceName → Env → Judged ℕ
at_iterator None env = alone (Ok 0)
at_iterator (Some x) env = judge (used x env) (λ b. refused_unless (is_among b.index env.iterators) T13 x.place b.index)

-- whether a reduction takes values of a type
abbrev pub reduces_type : Reduce → VType → Bool
reduces_type Sum t = is_number_type t
reduces_type Product t = is_number_type t
reduces_type Min t = is_number_type t
reduces_type Max t = is_number_type t
reduces_type And t = is_flag_type t
reduces_type Or t = is_flag_type t

-- whether a reduction may go to a target that takes such values
abbrev pub reduces : Reduce → Option VType → Bool
reduces r None = false
reduces r (Some t) = reduces_type r t

-- the key of a reduction assignment's total, which stands at its token
abbrev pub total_at : Key → Place → TotalKey
total_at k at = record { key = record { statement = k.statement; stage = Stage.Total }; place = at; shown = at }

-- the type of the first target
abbrev pub first_wanted : List Goal → Option VType
first_wanted [] = None
first_wanted (g ∷ gs) = g.wanted

-- the values of a reduction against its targets, one by one
abbrev pub fits_each : Place → List Goal → List Part → List (Answer Expr)
fits_each at [] [] = []
fits_each at [] (p ∷ ps) = refused T9 at ∷ []
fits_each at (g ∷ gs) [] = refused T9 at ∷ []
fits_each at (g ∷ gs) (p ∷ ps) = fits_goal g.wanted T9 at p ∷ fits_each at gs ps

-- two answers as one, with everything that is broken in both
abbrev pub answers_with : {A B C : Type 0} → (A → B → C) → Answer A → Answer B → Answer C
answers_with f (Ok a) (Ok b) = Ok (f a b)
answers_with f (Ok a) (Err rs) = Err rs
answers_with f (Err es) (Ok b) = Err es
answers_with f (Err es) (Err rs) = Err (es ++ rs)

-- all parts, or everything that is broken in them
abbrev pub all_answers : {A : Type 0} → List (Answer A) → Answer (List A)
all_answers [] = Ok []
all_answers (a ∷ rest) = answers_with (λ x xs. x ∷ xs) a (all_answers rest)

-- a reduction assignment whose targets and values have types
abbrev pub combined : Key → Place → Reduce → List Goal × List Part → Answer Stmt
combined k at r ps =
    answers_with (λ u es. P.Combine k (total_at k at) r (map (λ g. g.target) ps.0) es)
    (refused_unless (reduces r (first_wanted ps.0)) T11 at (tt {0})) (all_answers (fits_each at ps.0 ps.1))

-- the 1 that `++` adds to a target
abbrev pub one_of : Option VType → Place → Answer Expr
one_of None at = refused T11 at
one_of (Some I32) at = Ok (P.Const (Value.I32 (pos 1)))
one_of (Some I64) at = Ok (P.Const (Value.I64 (pos 1)))
one_of (Some Flag) at = refused T11 at
one_of (Some Node) at = refused T11 at

-- `++`, which adds 1
abbrev pub incremented : Key → Place → Goal → Answer Stmt
incremented k at g = then_answer (one_of g.wanted at) (λ e. P.Combine k (total_at k at) Sum (g.target ∷ []) (e ∷ []))

-- whether two names have the same letters
abbrev pub name_eq : SurfaceName → SurfaceName → Bool
name_eq x y = bytes_eq x.text y.text

-- whether two properties are spelled alike
abbrev pub properties_eq : Option SurfaceName → Option SurfaceName → Bool
properties_eq None None = true
properties_eq None (Some q) = false
properties_eq (Some p) None = false
properties_eq (Some p) (Some q) = name_eq p q

-- whether two targets are spelled alike
abbrev pub target_eq : SurfaceTarget → SurfaceTarget → Bool
target_eq t u = name_eq t.owner u.owner && properties_eq t.property u.property

-- whether a target may stand beside the first: scalars together, or properties through one name
abbrev pub goes_with : SurfaceTarget → SurfaceTarget → Bool
goes_with first t = if is_some first.property then is_some t.property && name_eq first.owner t.owner else is_none t.property

-- whether a target is spelled like one of some
abbrev pub is_repeated : SurfaceTarget → List SurfaceTarget → Bool
is_repeated t [] = false
is_repeated t (u ∷ us) = target_eq t u || is_repeated t us

-- the targets of one reduction that do not belong together
abbrev pub apart : SurfaceTarget → List SurfaceTarget → List SurfaceTarget → List Refusal
apart first seen [] = []
apart first seen (t ∷ ts) = unless (goes_with first t && not (is_repeated t seen)) T12 t.owner.place ++ apart first (seen ++ (t ∷ [])) ts

-- the targets that do not belong with the first
abbrev pub apart_from_first : List SurfaceTarget → List Refusal
apart_from_first [] = []
apart_from_first (t ∷ ts) = apart t (t ∷ []) ts

-- several targets
abbrev pub goals : List SurfaceTarget → Env → Judged (List Goal)
goals = judged_each (goal false)

-- the types of several expressions
abbrev pub typed_all : List SurfaceExpr → Env → Judged (List Part)
typed_all = judged_each typed

-- the targets of a reduction assignment, which belong together
abbrev pub goals_together : List SurfaceTarget → Env → Judged (List Goal)
goals_together ts env = judge (beside (goals ts env) (noted (tt {0}) (apart_from_first ts))) (λ p. Ok p.0)

-- a reduction assignment
abbrev pub reduced : List SurfaceTarget → Reduce → Place → List SurfaceExpr → Env → Judged Stmt
reduced ts r at es env = judge (both (goals_together ts) (typed_all es) env) (combined env.key at r)

-- declarations without values
abbrev pub plain_declarations : Key → List ℕ → Stmt
plain_declarations k [] = P.Skip
plain_declarations k (n ∷ ns) = P.Then (P.Declare k n None) (plain_declarations k ns)

-- declarations without values; an edge wants one
abbrev pub declarations_as : Sort → Key → List SurfaceName → List ℕ → Answer Stmt
declarations_as Edge k xs ns = Err (map (λ x. broken_at T9 x.place) xs)
declarations_as _ k xs ns = Ok (plain_declarations k ns)

-- declarations of several names without values
abbrev pub declared_plainly : SurfaceType → List SurfaceName → Env → Judged Stmt
declared_plainly t xs env =
    judge (beside (noted (tt {0}) (type_broken t Local env)) (declared_all (variable_of t env.depth) xs env)) (λ p. declarations_as (sort_of t) env.key xs p.1)

-- an expression without the parentheses around it
abbrev pub bare : SurfaceExpr → SurfaceExpr
bare (Paren at e) = bare e
bare e = e

-- whether a call asks for the edge
abbrev pub asks_edge : Query → Bool
asks_edge ToEdge = true
asks_edge _ = false

-- the name whose edge an expression asks for, if it does
abbrev pub edge_asked : SurfaceExpr → Option SurfaceName
edge_asked (Method x m) = if asks_edge (query_of m.text) then Some x else None
edge_asked _ = None

-- the node whose edge is asked for
abbrev pub edge_owner : SurfaceName → Env → Judged Binding
edge_owner x env = judge (used x env) (λ b. refused_unless (is_node b.variable) T7 x.place b)

-- an initial value on a property, whatever the value is
abbrev pub initial_broken : Sort → SurfaceName → List Refusal
initial_broken NodeProperty x = broken_at T12 x.place ∷ []
initial_broken EdgeProperty x = broken_at T12 x.place ∷ []
initial_broken _ x = []

-- a value given at a declaration, by the sort of what is declared; that a property takes none is said of the property
abbrev pub declared_value : Key → SurfaceName → Place → VType → Sort → ℕ × Part → Answer Stmt
declared_value k x at t Scalar p = then_answer (fitted t T9 at p.1) (λ e. P.Declare k p.0 (Some e))
declared_value k x at t Edge p = refused T9 at
declared_value k x at t Graph p = refused T9 at
declared_value k x at t Iterator p = refused T9 at
declared_value k x at t NodeProperty p = Err []
declared_value k x at t EdgeProperty p = Err []

-- whether a type is Edge
abbrev pub is_edge_type : SurfaceType → Bool
is_edge_type (Plain at Word.Edge g) = true
is_edge_type _ = false

-- the name whose edge a declaration asks for, if it declares one
abbrev pub edge_declared : SurfaceType → SurfaceExpr → Option SurfaceName
edge_declared t e = if is_edge_type t then edge_asked (bare e) else None

-- a name that is declared with a value, whose type is judged with it
abbrev pub declared_typed : SurfaceType → SurfaceName → Env → Judged ℕ
declared_typed t x env =
    judge (beside (noted (tt {0}) (type_broken t Local env ++ initial_broken (sort_of t) x)) (declared_as env x (variable_of t env.depth))) (λ p. Ok p.1)

-- a declaration with the edge of a node, or with another value, in which the name is not known yet
abbrev pub declared_with : Option SurfaceName → SurfaceType → SurfaceName → Place → SurfaceExpr → Env → Judged Stmt
declared_with (Some y) t x at e env = judge (both (declared_typed t x) (edge_owner y) env) (λ p. Ok (P.DeclareEdge p.0 p.1.index y.place))
declared_with None t x at e env = judge (both (declared_typed t x) (typed e) env) (declared_value env.key x at (vtype_of t) (sort_of t))

-- what a group assignment writes: the graph, the property, and its type
abbrev pub group_goal : Place → Binding × Binding → Answer (ℕ × (ℕ × VType))
group_goal at bs = refused_unless (is NodeProperty bs.1.variable) T7 at (bs.0.index, (bs.1.index, bs.1.variable.vtype))

-- the left side of a group assignment
abbrev pub group_target : SurfaceName → SurfaceName → Env → Judged (ℕ × (ℕ × VType))
group_target x p env = judge (both (used x) (used p) env) (group_goal x.place)

-- the right side of a group assignment, which is parallel code
abbrev pub in_group : {A : Type 0} → (Env → Judged A) → Env → Judged A
in_group part env = part (record env { group = true; depth = env.depth + 1 })

-- a property's values at all nodes
abbrev pub grouped : SurfaceName → SurfaceName → Place → SurfaceExpr → Env → Judged Stmt
grouped x p at e env =
    judge (both (group_target x p) (in_group (typed e)) env)
    (λ ps. then_answer (fitted ps.0.1.1 T9 at ps.1) (P.Group env.key x.place ps.0.0 ps.0.1.0))

-- an assignment that is no group assignment
abbrev pub assigned : SurfaceTarget → Place → SurfaceExpr → Env → Judged Stmt
assigned t at e env = judge (both (goal false t) (typed e) env) (λ p. then_answer (fits_goal p.0.wanted T9 at p.1) (P.Assign env.key p.0.target))

-- a deferred assignment
abbrev pub deferred : SurfaceTarget → Place → SurfaceExpr → Env → Judged Stmt
deferred t at e env = judge (both (goal true t) (typed e) env) (λ p. then_answer (fits_goal p.0.wanted T9 at p.1) (P.Defer env.key p.0.target))

-- an assignment to a property or a scalar, which is a group assignment where it is to a property of the graph
abbrev pub assignment : Option SurfaceName → SurfaceTarget → Place → SurfaceExpr → Env → Judged Stmt
assignment None t at e env = assigned t at e env
assignment (Some p) t at e env =
    if names_graph (known_as env.known t.owner.text) then grouped t.owner p at e env else assigned t at e env

-- a value that is returned
abbrev pub returned : Key → Place → Option VType → Part → Answer Stmt
returned k at None p = refused T14 at
returned k at (Some t) p = then_answer (fitted t T14 at p) (λ e. P.Return k at (Some e))

-- the root of a search
abbrev pub rooted : SurfaceName → Env → Judged Binding
rooted x env = judge (used x env) (λ b. refused_unless (is_node b.variable) T6 x.place b)

-- the graph of a search
abbrev pub graph_searched : SurfaceName → Env → Judged Binding
graph_searched x env = judge (used x env) (λ b. refused_unless (is Graph b.variable) T6 x.place b)

-- a search with its names resolved
abbrev pub search_of : SurfaceName → Binding × Binding → ℕ → Search
search_of root bs iterator = record { iterator = iterator; graph = bs.0.index; root = bs.1.index; place = root.place }

-- how many parallel loops a loop is
abbrev pub loops_of : LoopWord → ℕ
loops_of Loop.Foreach = 1
loops_of Loop.For = 0

-- the loop of a word
abbrev pub loop_of : LoopWord → Key → Place → Head → Expr → Stmt → Stmt
loop_of Loop.Foreach = P.Foreach
loop_of Loop.For = P.For

-- a filter or a condition, judged at its first token
abbrev pub test : SurfaceExpr → Env → Judged Expr
test e env = condition (start_of e) (typed e) env

-- the part of a search after InReverse, with the key of its filter
abbrev pub searched : (Env → Judged Expr) → (Env → Judged Stmt) → Env → Judged (Key × (Expr × Stmt))
searched filter body env = judge (both filter body env) (λ p. Ok (env.key, p))

-- a statement among the names that are known; each statement in it takes a number, and the statements of a block stand one after another
abbrev pub checked : SurfaceStmt → Env → Judged Stmt
checked Skip env = alone (Ok P.Skip)
checked (Then a b) env =
    let x = numbered (checked a) env in
    judge (beside x (checked b (following a env x))) (λ p. Ok (P.Then p.0 p.1))
checked (Declare t xs) env = declared_plainly t xs env
checked (DeclareAs t x at e) env = declared_with (edge_declared t e) t x at e env
checked (Assign t at e) env = assignment t.property t at e env
checked (Defer t at e iterator) env = judge (both (deferred t at e) (at_iterator iterator) env) (λ p. Ok p.0)
checked (Combine ts r at es iterator) env = judge (both (reduced ts r at es) (at_iterator iterator) env) (λ p. Ok p.0)
checked (Increment t at) env = judge (goal false t env) (incremented env.key at)
checked (Call r f es xs) env = alone (refused T15 f.place)
checked (Loop at word h filter body) env =
    judge (both (ranged h) (iterated h.iterator (loops_of word) (both (test filter) (numbered (checked body)))) env)
    (λ p. Ok (loop_of word env.key at (head_with h p.0 p.1.0) p.1.1.0 p.1.1.1))
checked (If at c a b) env = judge (both (test c) (both (numbered (checked a)) (numbered (checked b))) env) (λ p. Ok (P.If env.key p.0 p.1.0 p.1.1))
checked (While at c body) env = judge (both (test c) (numbered (checked body)) env) (λ p. Ok (P.While env.key at p.0 p.1))
checked (Do at body c) env = judge (both (numbered (checked body)) (test c) env) (λ p. Ok (P.Do env.key at p.0 p.1))
checked (InBfs at v g root filter body) env =
    judge (both (both (graph_searched g) (rooted root)) (iterated v 1 (both (test filter) (numbered (checked body)))) env)
    (λ p. Ok (P.InBfs env.key at (search_of root p.0 p.1.0) p.1.1.0 p.1.1.1))
checked (InBfsBoth at v g root filter body reverse back_filter back) env =
    judge (both (both (graph_searched g) (rooted root)) (iterated v 1 (both
    (both (test filter) (numbered (checked body)))
    (numbered (searched (test back_filter) (numbered (checked back)))))) env)
    (λ p. Ok (P.InBfsBoth env.key at (search_of root p.0 p.1.0) p.1.1.0.0 p.1.1.0.1 p.1.1.1.0 p.1.1.1.1.0 p.1.1.1.1.1))
checked (Return at None) env = alone (refused_unless (is_none env.result) T14 at (P.Return env.key at None))
checked (Return at (Some e)) env = judge (typed e env) (returned env.key at env.result)
