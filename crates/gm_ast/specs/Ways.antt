-- Push, pull and home: where the reductions of an inner loop are evaluated, and which reads of edges that forbids.
use Rattle.std.specs.Prelude.{ℕ, nat_eq, Bool, true, false, ◌&&◌, ◌||◌, not, if◌then◌else◌, List, [], ◌∷◌, ◌++◌, map, flat_map, filter, Some, None}
use Rattle.gm_base.specs.declared.places.Place.{Place}
use Rattle.gm_ast.specs.declared.tree.Domain.{Domain}
use Rattle.gm_ast.specs.declared.tree.Domain.TheVariants.{Nodes, OutNbrs, InNbrs, UpNbrs, DownNbrs}
use Rattle.gm_ast.specs.declared.tree.Head.{Head}
use Rattle.gm_ast.specs.declared.tree.Target.{Target}
use Rattle.gm_ast.specs.declared.ways.Way.{Way}
use Rattle.gm_ast.specs.declared.ways.Way.TheVariants.{Push, Pull, Home}
use Rattle.gm_ast.specs.Program.{Expr, Const, Var, Property, EdgeProperty, Degree, NodeCount, EdgeCount, Live, Unary, Binary, Both, Either, Choose, Folded, Stmt, Then, Declare, DeclareEdge, Assign, Combine, If}
use Rattle.gm_ast.specs.Loops.{any}

-- what an expression mentions: a variable alone, a variable whose node's property or degree is read, or one whose edge's property is read, with the place of that read
pub data Mention : Type 0 where
  Alone : (variable : ℕ) → Mention
  Through : (variable : ℕ) → Mention
  OfEdge : (variable : ℕ) (place : Place) → Mention

-- everything that an expression mentions
abbrev pub mentions : Expr → List Mention
mentions (Const v) = []
mentions (Var x at) = Alone x ∷ []
mentions (Property x p at) = Through x ∷ []
mentions (EdgeProperty x p at) = OfEdge x at ∷ []
mentions (Degree d x at) = Through x ∷ []
mentions NodeCount = []
mentions EdgeCount = []
mentions (Live x at) = Alone x ∷ []
mentions (Unary op at e) = mentions e
mentions (Binary op at a b) = mentions a ++ mentions b
mentions (Both a b) = mentions a ++ mentions b
mentions (Either a b) = mentions a ++ mentions b
mentions (Choose c a b) = mentions c ++ (mentions a ++ mentions b)
mentions (Folded f h test body) = mentions test ++ mentions body

-- the variable that is mentioned
abbrev pub variable_of : Mention → ℕ
variable_of (Alone x) = x
variable_of (Through x) = x
variable_of (OfEdge x at) = x

-- whether a mention reads a property or degree of a variable's node
abbrev pub reads_through : ℕ → Mention → Bool
reads_through t (Alone x) = false
reads_through t (Through x) = nat_eq x t
reads_through t (OfEdge x at) = false

-- whether a mention reads an edge's property
abbrev pub is_edge_read : Mention → Bool
is_edge_read (Alone x) = false
is_edge_read (Through x) = false
is_edge_read (OfEdge x at) = true

-- the place of a read of an edge's property
abbrev pub edge_reads : Mention → List Place
edge_reads (Alone x) = []
edge_reads (Through x) = []
edge_reads (OfEdge x at) = at ∷ []

-- an assignment or a reduction in an inner body, with what its values and the conditions around it mention
pub record Action : Type 0 where
  pub reduces : Bool
  pub targets : List Target
  pub mentioned : List Mention

-- one action, under conditions that mention these
abbrev pub action : Bool → List Target → List Expr → List Mention → List Action
action r ts es conditions = record { reduces = r; targets = ts; mentioned = flat_map mentions es ++ conditions } ∷ []

-- what a reduction mentions by a target: a scalar, since what it holds is compared or added to, and with a tuple of scalars decides what each of them holds then
abbrev pub held_of : Target → List Mention
held_of (Target.Scalar x at) = Alone x ∷ []
held_of (Target.Property x p at) = []

-- what an inner body does, under conditions that mention these; a declaration without a value sets its local too
abbrev pub actions : Stmt → List Mention → List Action
actions (Then a b) cs = actions a cs ++ actions b cs
actions (If k c a b) cs = actions a (mentions c ++ cs) ++ actions b (mentions c ++ cs)
actions (Declare k x None) cs = action false (Target.Scalar x (record { line = 0; col = 0 }) ∷ []) [] cs
actions (Declare k x (Some e)) cs = action false (Target.Scalar x (record { line = 0; col = 0 }) ∷ []) (e ∷ []) cs
actions (Assign k t e) cs = action false (t ∷ []) (e ∷ []) cs
actions (Combine k total r ts es) cs = action true ts es (flat_map held_of ts ++ cs)
actions _ cs = []

-- the variables that an inner body declares
abbrev pub locals : Stmt → List ℕ
locals (Then a b) = locals a ++ locals b
locals (If k c a b) = locals a ++ locals b
locals (Declare k x e) = x ∷ []
locals (DeclareEdge x y at) = x ∷ []
locals _ = []

-- whether a variable is one of some
abbrev pub is_in : List ℕ → ℕ → Bool
is_in xs x = any (nat_eq x) xs

-- whether a target is one of some locals
abbrev pub is_local : List ℕ → Target → Bool
is_local xs (Target.Scalar x at) = is_in xs x
is_local xs (Target.Property x p at) = false

-- whether all targets are among some locals
abbrev pub all_local : List ℕ → List Target → Bool
all_local own [] = true
all_local own (t ∷ ts) = is_local own t && all_local own ts

-- the locals among what is mentioned
abbrev pub locals_among : List ℕ → List Mention → List ℕ
locals_among own ms = filter (is_in own) (map variable_of ms)

-- the actions that write one of some locals
abbrev pub writers : List Action → List ℕ → List Action
writers all xs = filter (λ a. any (is_local xs) a.targets) all

-- some locals, and those that what is written to them mentions
abbrev pub grown : List ℕ → List Action → List ℕ → List ℕ
grown own all xs = xs ++ flat_map (λ a. locals_among own a.mentioned) (writers all xs)

-- some locals, and all on which their values rest: those that are mentioned in what is written to them, and so on, round by round, as often as there are locals
abbrev pub grown_by : List ℕ → List Action → List ℕ → List ℕ → List ℕ
grown_by own all [] xs = xs
grown_by own all (round ∷ rounds) xs = grown_by own all rounds (grown own all xs)

-- the node variable of a target
abbrev pub owner_of : Target → List Mention
owner_of (Target.Scalar x at) = []
owner_of (Target.Property x p at) = Alone x ∷ []

-- what a reduction's own parts mention: its values and the conditions around it, its node variable, and the filter
abbrev pub own_mentions : Expr → Action → List Mention
own_mentions test r = r.mentioned ++ (flat_map owner_of r.targets ++ mentions test)

-- what the support of a reduction mentions: its own parts, and each assignment to a local on which these rest, with its conditions
abbrev pub support : Stmt → Expr → Action → List Mention
support body test r =
    let own = locals body in
    let all = actions body [] in
    let ms = own_mentions test r in
    ms ++ flat_map (λ a. a.mentioned) (writers all (grown_by own all own (locals_among own ms)))

-- whether an action is a reduction that ends with a loop; one to locals of the inner body alone is done at once
abbrev pub ends_with_loop : List ℕ → Action → Bool
ends_with_loop own a = a.reduces && not (all_local own a.targets)

-- the reductions of an inner body that end with a loop, in the order of the text
abbrev pub reductions_of : Stmt → List Action
reductions_of body = filter (ends_with_loop (locals body)) (actions body [])

-- whether a target is a property through a variable
abbrev pub is_through : ℕ → Target → Bool
is_through t (Target.Scalar x at) = false
is_through t (Target.Property x p at) = nat_eq x t

-- whether a range alone makes a reduction a pull
abbrev pub pulls_by_range : Domain → Bool → Bool
pulls_by_range UpNbrs reads_edge = true
pulls_by_range DownNbrs reads_edge = true
pulls_by_range InNbrs reads_edge = reads_edge
pulls_by_range OutNbrs reads_edge = false
pulls_by_range Nodes reads_edge = false

-- the way of a reduction in a loop with an iterator and a range, by its targets, by whether its support reads through the iterator, and by whether that reads an edge
abbrev pub way_by : Head → List Target → Bool → Bool → Way
way_by h ts reads_neighbour reads_edge =
    if any (is_through h.iterator) ts then Push
    else (if reads_neighbour || pulls_by_range h.domain reads_edge then Pull else Home)

-- the way of a reduction in a loop, by what its support mentions
abbrev pub way_of : Head → List Target → List Mention → Way
way_of h ts ms = way_by h ts (any (reads_through h.iterator) ms) (any is_edge_read ms)

-- whether a message of push travels along the edge
abbrev pub push_along : Domain → Bool
push_along OutNbrs = true
push_along DownNbrs = true
push_along InNbrs = false
push_along UpNbrs = false
push_along Nodes = false

-- whether an edge's properties are not at hand where a message of this way is made
abbrev pub is_against : Domain → Way → Bool
is_against d Push = not (push_along d)
is_against d Pull = push_along d
is_against d Home = false

-- the way of a reduction in a loop
abbrev pub way_in : Head → Expr → Stmt → Action → Way
way_in h test body a = way_of h a.targets (support body test a)

-- the ways of a loop's reductions, in the order of the text
abbrev pub ways_of : Head → Expr → Stmt → List Way
ways_of h test body = map (way_in h test body) (reductions_of body)

-- the reads of edges in the support of a reduction whose message goes against the edge
abbrev pub reads_against : Head → Expr → Stmt → Action → List Place
reads_against h test body a = if is_against h.domain (way_in h test body a) then flat_map edge_reads (support body test a) else []

-- the reads of edges in a loop that go against the way of a message
abbrev pub edges_against : Head → Expr → Stmt → List Place
edges_against h test body = flat_map (reads_against h test body) (reductions_of body)
