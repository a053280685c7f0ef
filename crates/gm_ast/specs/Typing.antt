-- The types of expressions, and the rules that they break.
use Rattle.std.specs.Prelude.{ℕ, ◌+◌, ℤ, int_le, nat_eq, Bool, true, false, ◌&&◌, ◌||◌, if◌then◌else◌, pos, negsuc, List, [], ◌∷◌, ◌++◌, Option, Some, None, Ok, Err, codes}
use Rattle.std.specs.Str.{bytes_eq}
use Rattle.gm_base.specs.declared.places.Place.{Place}
use Rattle.gm_base.specs.declared.rules.Rule.TheVariants.{T6, T7, T8, T10}
use Rattle.gm_value.specs.declared.values.VType.{VType}
use Rattle.gm_value.specs.declared.values.VType.TheVariants.{I32, I64, Flag, Node}
use Rattle.gm_value.specs.declared.values.Value.TheVariants as Value
use Rattle.gm_value.specs.declared.operations.Op1.TheVariants as Op1
use Rattle.gm_value.specs.declared.operations.Op2.{Op2}
use Rattle.gm_value.specs.declared.operations.Op2.TheVariants.{Add, Sub, Mul, Div, Rem, Eq, Ne}
use Rattle.gm_ast.specs.declared.tree.Variable.{Variable}
use Rattle.gm_ast.specs.declared.tree.Key.{Key}
use Rattle.gm_ast.specs.declared.tree.Stage.{Stage}
use Rattle.gm_ast.specs.declared.tree.Stage.TheVariants.{Inner, Operator, Total}
use Rattle.gm_ast.specs.declared.tree.Head.{Head}
use Rattle.gm_ast.specs.declared.tree.Fold.{Fold}
use Rattle.gm_ast.specs.declared.tree.Sort.{Sort}
use Rattle.gm_ast.specs.declared.tree.Sort.TheVariants.{Graph, Iterator, Scalar, Edge, NodeProperty, EdgeProperty}
use Rattle.gm_ast.specs.declared.tree.Domain.{Domain}
use Rattle.gm_ast.specs.declared.tree.Direction.TheVariants.{Out, In}
use Rattle.gm_ast.specs.declared.kinds.Kind.{Kind}
use Rattle.gm_ast.specs.declared.kinds.Kind.TheVariants.{Flexible, Of}
use Rattle.gm_ast.specs.declared.kinds.Query.{Query}
use Rattle.gm_ast.specs.declared.kinds.Query.TheVariants.{Degree, NodeCount, EdgeCount, ToEdge, Unknown}
use Rattle.gm_ast.specs.declared.kinds.Binding.{Binding}
use Rattle.gm_ast.specs.declared.kinds.Reducer.{Reducer}
use Rattle.gm_ast.specs.declared.surface.Range.{Range}
use Rattle.gm_ast.specs.declared.surface.Range.TheVariants.{Nodes, Nbrs, OutNbrs, InNbrs, UpNbrs, DownNbrs}
use Rattle.gm_ast.specs.declared.surface.ReductionWord.{ReductionWord}
use Rattle.gm_ast.specs.declared.surface.ReductionWord.TheVariants.{Sum, Product, Min, Max, Count, Exist, All}
use Rattle.gm_ast.specs.declared.surface.Prefix.{Prefix}
use Rattle.gm_ast.specs.declared.surface.Prefix.TheVariants.{Minus, Not, Cast}
use Rattle.gm_ast.specs.declared.surface.Infix.{Infix}
use Rattle.gm_ast.specs.declared.surface.Infix.TheVariants.{Op, And, Or}
use Rattle.gm_ast.specs.Surface.{SurfaceHead, SurfaceExpr, Always, Number, Truth, Nil, Greatest, Least, Named, Member, Method, Paren, Prefixed, Infixed, Choose, Reduction}
use Rattle.gm_ast.specs.Program as P
use Rattle.gm_ast.specs.Program.{Expr}
use Rattle.gm_ast.specs.Judged.{Judged, Answer, alone, judge, refused, refused_unless, then_answer}
use Rattle.gm_ast.specs.Names.{Env, used, both, iterated, keyed, counted, is, is_node}
use Rattle.gm_ast.specs.Kinds.{Part, part_of, taken, joint, settled, default_of, is_number, is_flag}

-- the first token of an expression
abbrev pub start_of : SurfaceExpr → Place
start_of Always = record { line = 0; col = 0 }
start_of (Number at n) = at
start_of (Truth at b) = at
start_of (Nil at) = at
start_of (Greatest at) = at
start_of (Least at) = at
start_of (Named x) = x.place
start_of (Member x p) = x.place
start_of (Method x m) = x.place
start_of (Paren at e) = at
start_of (Prefixed at op e) = at
start_of (Infixed at op a b) = start_of a
start_of (Choose at c a b) = start_of c
start_of (Reduction at word head filter body close) = at

-- a number; Int holds those up to 2,147,483,647
abbrev pub number : Place → ℤ → Part
number at n = record { kind = Flexible; core = P.Const (Value.I64 n); large = if int_le n (pos 2147483647) then [] else at ∷ [] }

-- a name alone: a scalar, an iterator or an edge, or in a group assignment the node for which the graph stands
abbrev pub named_as : Sort → Bool → Place → Binding → Answer Part
named_as Scalar group at b = Ok (part_of (Of b.variable.vtype) (P.Var b.index at))
named_as Iterator group at b = Ok (part_of (Of Node) (P.Var b.index at))
named_as Edge group at b = Ok (part_of Kind.Edge (P.Var b.index at))
named_as Graph group at b = refused_unless group T7 at (part_of (Of Node) (P.Var b.index at))
named_as NodeProperty group at b = refused T7 at
named_as EdgeProperty group at b = refused T7 at

-- a name alone, by the sort of what it means
abbrev pub named_part : Bool → Place → Binding → Answer Part
named_part group at b = named_as b.variable.sort group at b

-- whether a variable stands for a node here
abbrev pub stands_for_node : Bool → Variable → Bool
stands_for_node group v = is_node v || (group && is Graph v)

-- a property of a node or an edge
abbrev pub member_part : Bool → Place → Binding × Binding → Answer Part
member_part group at bs =
    let x = bs.0 in
    let p = bs.1 in
    if stands_for_node group x.variable && is NodeProperty p.variable then Ok (part_of (Of p.variable.vtype) (P.Property x.index p.index at))
    else (if is Edge x.variable && is EdgeProperty p.variable then Ok (part_of (Of p.variable.vtype) (P.EdgeProperty x.index p.index at))
    else refused T7 at)

-- what a call without arguments asks
abbrev pub query_of : List ℕ → Query
query_of name =
    if bytes_eq name (codes "Degree") || bytes_eq name (codes "NumNbrs") || bytes_eq name (codes "OutDegree") then Degree Out
    else (if bytes_eq name (codes "InDegree") then Degree In
    else (if bytes_eq name (codes "NumNodes") then NodeCount
    else (if bytes_eq name (codes "NumEdges") then EdgeCount
    else (if bytes_eq name (codes "ToEdge") then ToEdge
    else Unknown))))

-- a call without arguments
abbrev pub method_part : Bool → Place → Query → Binding → Answer Part
method_part group at (Degree d) b = refused_unless (stands_for_node group b.variable) T7 at (part_of (Of I32) (P.Degree d b.index at))
method_part group at NodeCount b = refused_unless (is Graph b.variable) T7 at (part_of (Of I32) P.NodeCount)
method_part group at EdgeCount b = refused_unless (is Graph b.variable) T7 at (part_of (Of I32) P.EdgeCount)
method_part group at ToEdge b = refused T7 at
method_part group at Unknown b = refused T7 at

-- whether a kind is this type of numbers already
abbrev pub is_already : VType → Kind → Bool
is_already I32 (Of I32) = true
is_already I64 (Of I64) = true
is_already _ _ = false

-- a number as one of another type
abbrev pub changed_part : VType → Place → Part → Part
changed_part I32 at p = part_of (Of I32) (P.Unary Op1.ToI32 at p.core)
changed_part I64 at p = part_of (Of I64) (P.Unary Op1.ToI64 at p.core)
changed_part Flag at p = p
changed_part Node at p = p

-- a number as one of a type; a number of that type stays as it is
abbrev pub cast_part : VType → Place → Part → Part
cast_part t at p = if is_already t p.kind then p else changed_part t at p

-- an operator before its operand
abbrev pub prefix_part : Place → Prefix → Part → Answer Part
prefix_part at Minus p = refused_unless (is_number p.kind) T8 at (record p { core = P.Unary Op1.Neg at p.core })
prefix_part at Not p = refused_unless (is_flag p.kind) T8 at (record p { core = P.Unary Op1.Not at p.core })
prefix_part at (Cast t) p = refused_unless (is_number p.kind) T8 at (cast_part t at (settled p))

-- the second of two parts beside the first
abbrev pub with_first : Expr → Answer Expr → Answer (Expr × Expr)
with_first a b = then_answer b (λ y. (a, y))

-- two parts as parts of one kind, of which the second is judged only where the first fits
abbrev pub paired_after : Answer Expr → Answer Expr → Answer (Expr × Expr)
paired_after (Err rs) b = Err rs
paired_after (Ok a) b = with_first a b

-- two parts as parts of one kind
abbrev pub paired : Place → Kind → Part → Part → Answer (Expr × Expr)
paired at k a b = paired_after (taken k at a) (taken k at b)

-- the large numbers of a part of a kind
abbrev pub large_of : Kind → List Place → List Place
large_of Flexible large = large
large_of (Of t) large = []
large_of Kind.Edge large = []

-- whether an operation also takes two Bools or two Nodes
abbrev pub compares_any : Op2 → Bool
compares_any Eq = true
compares_any Ne = true
compares_any _ = false

-- whether an operation gives a number
abbrev pub is_arithmetic : Op2 → Bool
is_arithmetic Add = true
is_arithmetic Sub = true
is_arithmetic Mul = true
is_arithmetic Div = true
is_arithmetic Rem = true
is_arithmetic _ = false

-- whether a kind is one of values
abbrev pub is_value : Kind → Bool
is_value Flexible = true
is_value (Of t) = true
is_value Kind.Edge = false

-- the kind that flexible parts take where they are compared
abbrev pub compared_as : Kind → List Place → Kind
compared_as Flexible large = Of (default_of large)
compared_as (Of t) large = Of t
compared_as Kind.Edge large = Kind.Edge

-- an operation whose operands have a kind in common
abbrev pub operation : Place → Op2 → Kind → Part → Part → Answer Part
operation at op k a b =
    if is_arithmetic op
    then (if is_number k
    then then_answer (paired at k a b) (λ p. record { kind = k; core = P.Binary op at p.0 p.1; large = large_of k (a.large ++ b.large) })
    else refused T8 at)
    else (if is_number k || (compares_any op && is_value k)
    then then_answer (paired at (compared_as k (large_of k (a.large ++ b.large))) a b) (λ p. part_of (Of Flag) (P.Binary op at p.0 p.1))
    else refused T8 at)

-- an operation on operands that may have a kind in common
abbrev pub operation_by : Place → Op2 → Option Kind → Part → Part → Answer Part
operation_by at op None a b = refused T8 at
operation_by at op (Some k) a b = operation at op k a b

-- an operator between its operands
abbrev pub infix_part : Place → Infix → Part × Part → Answer Part
infix_part at (Op op) ps = operation_by at op (joint ps.0.kind ps.1.kind) ps.0 ps.1
infix_part at And ps = refused_unless (is_flag ps.0.kind && is_flag ps.1.kind) T8 at (part_of (Of Flag) (P.Both ps.0.core ps.1.core))
infix_part at Or ps = refused_unless (is_flag ps.0.kind && is_flag ps.1.kind) T8 at (part_of (Of Flag) (P.Either ps.0.core ps.1.core))

-- a condition, judged at its first token
abbrev pub condition : Place → (Env → Judged Part) → Env → Judged Expr
condition at part env = judge (part env) (λ p. refused_unless (is_flag p.kind) T10 at p.core)

-- a choice between branches that may have a kind in common; a flexible choice stays flexible
abbrev pub choice_by : Place → Option Kind → Expr → Part → Part → Answer Part
choice_by at None c a b = refused T8 at
choice_by at (Some k) c a b = then_answer (paired at k a b) (λ p. record { kind = k; core = P.Choose c p.0 p.1; large = large_of k (a.large ++ b.large) })

-- a choice between two branches
abbrev pub choice_part : Place → Expr × (Part × Part) → Answer Part
choice_part at ps = choice_by at (joint ps.1.0.kind ps.1.1.kind) ps.0 ps.1.0 ps.1.1

-- the domain of a range; Nbrs are the out-neighbours
abbrev pub domain_of : Range → Domain
domain_of Nodes = Domain.Nodes
domain_of Nbrs = Domain.OutNbrs
domain_of OutNbrs = Domain.OutNbrs
domain_of InNbrs = Domain.InNbrs
domain_of UpNbrs = Domain.UpNbrs
domain_of DownNbrs = Domain.DownNbrs

-- whether a domain is all nodes
abbrev pub is_nodes : Domain → Bool
is_nodes Domain.Nodes = true
is_nodes Domain.OutNbrs = false
is_nodes Domain.InNbrs = false
is_nodes Domain.UpNbrs = false
is_nodes Domain.DownNbrs = false

-- what a loop may run over: all nodes of the graph, or the neighbours of a node
abbrev pub range_rule : Domain → Place → Binding → Answer Binding
range_rule d at b = refused_unless (if is_nodes d then is Graph b.variable else is_node b.variable) T6 at b

-- the variable over whose nodes or neighbours a loop runs
abbrev pub ranged : SurfaceHead → Env → Judged Binding
ranged h env = judge (used h.owner env) (range_rule (domain_of h.range) h.owner.place)

-- a loop's head with its names resolved
abbrev pub head_with : SurfaceHead → Binding → ℕ → Head
head_with h owner iterator = record { iterator = iterator; domain = domain_of h.range; owner = owner.index; place = h.owner.place }

-- whether a part stands in a sequential phase
abbrev pub is_sequential : Env → Bool
is_sequential env = nat_eq env.depth 0

-- the key of what stands in an inner reduction
abbrev pub inner_key : Env → Key
inner_key env = record { statement = env.key.statement; stage = Inner }

-- the key of what stands under a number of its own in a sequential phase, and otherwise in an inner reduction
abbrev pub fold_key : Env → ℕ → Stage → Key
fold_key env n stage = if is_sequential env then record { statement = env.number + n; stage = stage } else inner_key env

-- how many statement numbers a reduction takes: in a sequential phase one for its filter and one for its braces
abbrev pub fold_numbers : Env → ℕ
fold_numbers env = if is_sequential env then 2 else 0

-- a reduction at its place, with its closing brace
abbrev pub reducer_at : Env → Place → ReductionWord → Place → Reducer
reducer_at env at word close = record {
  word = word;
  place = at;
  close = close;
  filter = fold_key env 0 Operator;
  body = fold_key env 1 Operator;
  total = fold_key env 1 Total;
}

-- a reduction with the type of its value; its total stands at the closing brace, and its fault shows the word
abbrev pub fold_of : Reducer → VType → Fold
fold_of r t = record {
  word = r.word;
  vtype = t;
  filter = r.filter;
  body = r.body;
  total = record { key = r.total; place = r.close; shown = r.place };
}

-- a reduction with a value of a type
abbrev pub folded : Reducer → VType → Head → Expr → Expr → Part
folded r t head filter body = part_of (Of t) (P.Folded (fold_of r t) head filter body)

-- a reduction of numbers, whose value has the type of the braces, by the kind of these
abbrev pub of_numbers_as : Kind → Reducer → Head → Expr → Expr → Answer Part
of_numbers_as (Of t) r head filter body = refused_unless (is_number (Of t)) T8 r.place (folded r t head filter body)
of_numbers_as Flexible r head filter body = refused T8 r.place
of_numbers_as Kind.Edge r head filter body = refused T8 r.place

-- a reduction of numbers
abbrev pub of_numbers : Reducer → Head → Expr → Part → Answer Part
of_numbers r head filter p = of_numbers_as (settled p).kind r head filter (settled p).core

-- a reduction of conditions, of which the braces begin at a place
abbrev pub of_conditions : Place → VType → Reducer → Head → Expr → Part → Answer Part
of_conditions start t r head filter p = refused_unless (is_flag p.kind) T10 start (folded r t head filter p.core)

-- a reduction by its word
abbrev pub reduction_part : ReductionWord → Place → Reducer → Head → Expr → Part → Answer Part
reduction_part Sum start r head filter p = of_numbers r head filter p
reduction_part Product start r head filter p = of_numbers r head filter p
reduction_part Min start r head filter p = of_numbers r head filter p
reduction_part Max start r head filter p = of_numbers r head filter p
reduction_part Count start r head filter p = of_conditions start I32 r head filter p
reduction_part Exist start r head filter p = of_conditions start Flag r head filter p
reduction_part All start r head filter p = of_conditions start Flag r head filter p

-- a reduction whose range, iterator, filter and braces have types
abbrev pub reduction_rule : Reducer → Place → SurfaceHead → Binding × (ℕ × (Expr × Part)) → Answer Part
reduction_rule r start h ps = reduction_part r.word start r (head_with h ps.0 ps.1.0) ps.1.1.0 ps.1.1.1

-- an expression among the names that are known
abbrev pub typed : SurfaceExpr → Env → Judged Part
typed Always env = alone (Ok (part_of (Of Flag) P.always))
typed (Number at n) env = alone (Ok (number at n))
typed (Truth at b) env = alone (Ok (part_of (Of Flag) (P.Const (Value.Flag b))))
typed (Nil at) env = alone (Ok (part_of (Of Node) (P.Const (Value.At None))))
typed (Greatest at) env = alone (Ok (part_of Flexible (P.Const (Value.I64 (pos 9223372036854775807)))))
typed (Least at) env = alone (Ok (part_of Flexible (P.Const (Value.I64 (negsuc 9223372036854775807)))))
typed (Named x) env = judge (used x env) (named_part env.group x.place)
typed (Member x p) env = judge (both (used x) (used p) env) (member_part env.group x.place)
typed (Method x m) env = judge (used x env) (method_part env.group x.place (query_of m.text))
typed (Paren at e) env = typed e env
typed (Prefixed at op e) env = judge (typed e env) (prefix_part at op)
typed (Infixed at op a b) env = judge (both (typed a) (typed b) env) (infix_part at op)
typed (Choose at c a b) env = judge (both (condition (start_of c) (typed c)) (both (typed a) (typed b)) env) (choice_part at)
typed (Reduction at word h filter body close) env =
    let r = reducer_at env at word close in
    judge (both (ranged h)
    (counted (fold_numbers env) (iterated h.iterator 1 (both
    (keyed r.filter (condition (start_of filter) (typed filter)))
    (keyed r.body (typed body)))))
    env) (reduction_rule r (start_of body) h)
