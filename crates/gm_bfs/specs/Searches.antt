-- A search as loops over levels: each node's level is found from those of the level before.
use Rattle.std.specs.Prelude.{ℕ, zero, suc, nat_eq, Bool, true, false, ◌&&◌, ◌||◌, not, if◌then◌else◌, pos, List, [], ◌∷◌}
use Rattle.gm_base.specs.declared.places.Place.{Place}
use Rattle.gm_value.specs.declared.operations.Op2.TheVariants.{Add, Sub, Eq, Ge}
use Rattle.gm_value.specs.declared.reductions.Reduce.TheVariants.{Min, Or}
use Rattle.gm_value.specs.declared.values.Value.TheVariants.{I32, Flag}
use Rattle.gm_value.specs.declared.values.Value.{Value}
use Rattle.gm_ast.specs.declared.tree.Domain.{Domain}
use Rattle.gm_ast.specs.declared.tree.Domain.TheVariants.{Nodes, OutNbrs, InNbrs, UpNbrs, DownNbrs}
use Rattle.gm_ast.specs.declared.tree.Head.{Head}
use Rattle.gm_ast.specs.declared.tree.Key.{Key}
use Rattle.gm_ast.specs.declared.tree.Search.{Search}
use Rattle.gm_ast.specs.declared.tree.Target.TheVariants as T
use Rattle.gm_ast.specs.Program.{Expr, always, Const, Var, Property, EdgeProperty, Degree, NodeCount, EdgeCount, Live, Unary, Binary, Both, Either, Choose, Folded, Stmt, Skip, Then, Assign, Combine, Foreach, If, While, sequence}
use Rattle.gm_forms.specs.Order.{first_key, can_fail1, can_fail2}
use Rattle.gm_bfs.specs.declared.fresh.Fresh.{Fresh}
use Rattle.gm_bfs.specs.declared.fresh.Site.{Site}
use Rattle.gm_bfs.specs.Variables.{copy_of, filter_key, body_key, total_of}
use Rattle.gm_bfs.specs.Copies.{copied, asks_up, asks_down, reading, inner_reading}

-- a number that cannot be out of range
abbrev pub number : ℕ → Expr
number n = Const (I32 (pos n))

-- the level of a node that is not reached: greater than any level, since levels are below the number of nodes
abbrev pub unreached : Expr
unreached = number 2147483647

-- a fresh scalar, and a property through a variable
abbrev pub scalar : Site → ℕ → Expr
scalar s x = Var x s.place

abbrev pub at_node : Site → ℕ → ℕ → Expr
at_node s x p = Property x p s.place

-- assignments to them
abbrev pub set : Site → ℕ → Expr → Stmt
set s x e = Assign (body_key s) (T.Scalar x s.place) e

abbrev pub set_at : Site → ℕ → ℕ → Expr → Stmt
set_at s x p e = Assign (body_key s) (T.Property x p s.place) e

-- whether two values are equal
abbrev pub equal : Site → Expr → Expr → Expr
equal s a b = Binary Eq s.place a b

-- the nodes of the graph, and the ends of the edges from a node
abbrev pub over_nodes : Site → ℕ → Head
over_nodes s x = record { iterator = x; domain = Nodes; owner = s.graph; place = s.place }

abbrev pub along_edges : Site → Fresh → Head
along_edges s f = record { iterator = f.neighbour; domain = OutNbrs; owner = f.node; place = s.place }

-- A loop over all nodes that pass a filter, which cannot fault: so its key may come before all others
abbrev pub each_node : Site → Fresh → Expr → Stmt → Stmt
each_node s f test body = Foreach first_key s.place (over_nodes s f.node) test body

-- the root has level 0, and no other node is reached
abbrev pub first_levels : Site → Fresh → Stmt
first_levels s f = each_node s f always
    (set_at s f.node f.level (Choose (equal s (scalar s f.node) (scalar s f.root)) (number 0) unreached))

-- Before the first level: the root is looked up, which faults as the search does; then levels begin, and the turn is that of level 0
abbrev pub begin : Site → Fresh → Key → ℕ → Stmt
begin s f key root = sequence (
    Assign key (T.Scalar f.root s.place) (Live root s.place) ∷
    first_levels s f ∷
    set s f.current (number 0) ∷
    set s f.more always ∷ [])

-- the levels beside the current one
abbrev pub next_level : Site → Fresh → Stmt
next_level s f = set s f.down (Binary Add s.place (scalar s f.current) (number 1))

abbrev pub level_before : Site → Fresh → ℕ → Stmt
level_before s f x = set s x (Binary Sub s.place (scalar s f.current) (number 1))

-- the nodes on the current level are active
abbrev pub activate : Site → Fresh → Stmt
activate s f = each_node s f always (set_at s f.node f.active (equal s (at_node s f.node f.level) (scalar s f.current)))

-- the ends of their edges are reached. A node that was reached has a lesser level, and keeps it
abbrev pub reach : Site → Fresh → Stmt
reach s f = each_node s f (at_node s f.node f.active)
    (Foreach (filter_key s) s.place (along_edges s f) always
    (Combine (body_key s) (total_of s) Min (T.Property f.neighbour f.level s.place ∷ []) (scalar s f.down ∷ [])))

-- whether a node is on the next level
abbrev pub look : Site → Fresh → Stmt
look s f = each_node s f always
    (Combine (body_key s) (total_of s) Or (T.Scalar f.found s.place ∷ []) (equal s (at_node s f.node f.level) (scalar s f.down) ∷ []))

-- an assignment to the copy of a property
abbrev pub copy_property : Site → Fresh → ℕ → Stmt
copy_property s f p = set_at s f.node (copy_of f p) (at_node s f.node p)

-- assignments to the copies of marked properties, the first of which has the index p
abbrev pub copies_from : Site → Fresh → ℕ → List Bool → List Stmt
copies_from s f p [] = []
copies_from s f p (true ∷ marks) = copy_property s f p ∷ copies_from s f (suc p) marks
copies_from s f p (false ∷ marks) = copies_from s f (suc p) marks

-- a loop over all nodes that does something
abbrev pub unless_empty : Site → Fresh → List Stmt → Stmt
unless_empty s f [] = Skip
unless_empty s f (c ∷ cs) = each_node s f always (sequence (c ∷ cs))

-- the copies of a part
abbrev pub copy : Site → Fresh → List Bool → Stmt
copy s f marks = unless_empty s f (copies_from s f 0 marks)

-- whether a value is True
abbrev pub is_yes : Value → Bool
is_yes (Flag b) = b
is_yes _ = false

-- whether a condition is the one that always holds
abbrev pub is_always : Expr → Bool
is_always (Const v) = is_yes v
is_always _ = false

-- two conditions, of which the second may be absent
abbrev pub conjunction : Expr → Expr → Expr
conjunction a b = if is_always b then a else Both a b

-- whether the end of an inner loop's edge is on a level
abbrev pub is_on : Fresh → Head → ℕ → Expr
is_on f h x = Binary Eq h.place (Property h.iterator f.level h.place) (Var x h.place)

-- an inner loop over the edges of a node in a direction whose other ends are on a level
abbrev pub ranged : Fresh → List Bool → Key → Place → Head → Expr → Stmt → Domain → ℕ → Stmt
ranged f marks k at h test body domain x =
    Foreach k at (record h { domain = domain }) (conjunction (is_on f h x) (reading f marks h.iterator test)) (inner_reading f marks h.iterator body)

-- an inner loop: over neighbours on the level above it is over the starts of edges on that level, and on the level below over the ends of edges there
abbrev pub inner_loop : Fresh → List Bool → Key → Place → Head → Expr → Stmt → Domain → Stmt
inner_loop f marks k at h test body UpNbrs = ranged f marks k at h test body InNbrs f.up
inner_loop f marks k at h test body DownNbrs = ranged f marks k at h test body OutNbrs f.down
inner_loop f marks k at h test body Nodes = Foreach k at h test body
inner_loop f marks k at h test body OutNbrs = Foreach k at h test body
inner_loop f marks k at h test body InNbrs = Foreach k at h test body

-- the body of a part
abbrev pub by_levels : Fresh → List Bool → Stmt → Stmt
by_levels f marks (Then a b) = Then (by_levels f marks a) (by_levels f marks b)
by_levels f marks (If k c a b) = If k c (by_levels f marks a) (by_levels f marks b)
by_levels f marks (Foreach k at h test body) = inner_loop f marks k at h test body h.domain
by_levels f marks s = s

-- whether a body does nothing
abbrev pub is_idle : Stmt → Bool
is_idle Skip = true
is_idle (Then a b) = is_idle a && is_idle b
is_idle _ = false

-- whether an expression cannot fault in an iteration at a node
abbrev pub is_safe : ℕ → Expr → Bool
is_safe n (Const v) = true
is_safe n (Var x at) = true
is_safe n (Property x p at) = nat_eq x n
is_safe n (EdgeProperty x p at) = true
is_safe n (Degree d x at) = nat_eq x n
is_safe n NodeCount = true
is_safe n EdgeCount = true
is_safe n (Live x at) = false
is_safe n (Unary op at e) = not (can_fail1 op) && is_safe n e
is_safe n (Binary op at a b) = not (can_fail2 op) && (is_safe n a && is_safe n b)
is_safe n (Both a b) = is_safe n a && is_safe n b
is_safe n (Either a b) = is_safe n a && is_safe n b
is_safe n (Choose c a b) = is_safe n c && (is_safe n a && is_safe n b)
is_safe n (Folded f h test e) = false

-- the loop of a part over the active nodes, or nothing where it does nothing and cannot fault
abbrev pub visit : Site → Fresh → List Bool → Key → ℕ → Expr → Stmt → Stmt
visit s f marks key x test body =
    if is_idle body && is_safe x test then Skip
    else Foreach key s.place (over_nodes s x) (conjunction (at_node s x f.active) test) (by_levels f marks body)

-- a statement where a test holds, else nothing
abbrev pub where_asked : Bool → Stmt → Stmt
where_asked test a = if test then a else Skip

-- one statement before another where a test holds, else behind it
abbrev pub first_where : Bool → Stmt → Stmt → Stmt
first_where true a b = sequence (a ∷ b ∷ [])
first_where false a b = sequence (b ∷ a ∷ [])

-- the turn of a level: its nodes are visited, and the next level is found. Where the part asks for the level below, that is found first
abbrev pub forward_turn : Site → Fresh → ℕ → Key → ℕ → Expr → Stmt → Stmt
forward_turn s f count key x test body =
    let marks = copied count body in
    sequence (
    next_level s f ∷
    where_asked (asks_up body) (level_before s f f.up) ∷
    set s f.found (Const (Flag false)) ∷
    activate s f ∷
    copy s f marks ∷
    first_where (asks_down body) (reach s f) (visit s f marks key x test body) ∷
    look s f ∷
    set s f.more (scalar s f.found) ∷
    set s f.current (scalar s f.down) ∷ [])

-- the levels from that of the root on, until the next one is empty: so each level has one turn, and there is none for the empty one
abbrev pub forward : Site → Fresh → ℕ → Key → ℕ → Expr → Stmt → Stmt
forward s f count key x test body = While (filter_key s) s.place (scalar s f.more) (forward_turn s f count key x test body)

-- the turn of a level on the way back, when all levels are known
abbrev pub back_turn : Site → Fresh → ℕ → Key → ℕ → Expr → Stmt → Stmt
back_turn s f count key x test body =
    let marks = copied count body in
    sequence (
    where_asked (asks_down body) (next_level s f) ∷
    where_asked (asks_up body) (level_before s f f.up) ∷
    activate s f ∷
    copy s f marks ∷
    visit s f marks key x test body ∷
    level_before s f f.current ∷ [])

-- the levels from the last one back to the root's
abbrev pub backward : Site → Fresh → ℕ → Key → ℕ → Expr → Stmt → Stmt
backward s f count key x test body = sequence (
    level_before s f f.current ∷
    While (filter_key s) s.place (Binary Ge s.place (scalar s f.current) (number 0)) (back_turn s f count key x test body) ∷ [])

-- where a search stands
abbrev pub site_of : Key → Search → Site
site_of key search = record { number = key.statement; graph = search.graph; place = search.place }

-- a search without a way back, and one with it
abbrev pub search_out : Fresh → ℕ → Key → Search → Expr → Stmt → Stmt
search_out f count key search test body =
    let s = site_of key search in
    sequence (begin s f key search.root ∷ forward s f count key search.iterator test body ∷ [])

abbrev pub search_both : Fresh → ℕ → Key → Search → Expr → Stmt → Key → Expr → Stmt → Stmt
search_both f count key search test body back_key back_test back =
    let s = site_of key search in
    sequence (
    begin s f key search.root ∷
    forward s f count key search.iterator test body ∷
    backward s f count back_key search.iterator back_test back ∷ [])
