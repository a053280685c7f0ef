-- Typing gives an expression no check of a node variable.
use Rattle.std.proofs.Common.{◌≡◌, ◌+◌, ℕ, Bool, true, false, List, [], ◌∷◌, ◌++◌, Option, Some, None}
use Rattle.std.specs.Prelude.{◌&&◌, ◌||◌, if◌then◌else◌, Ok, Err}
use Rattle.gm_base.specs.declared.places.Place.{Place}
use Rattle.gm_base.specs.declared.rules.Rule.{Rule}
use Rattle.gm_base.specs.declared.rules.Rule.TheVariants.{T7, T8, T10}
use Rattle.gm_value.specs.declared.values.VType.{VType}
use Rattle.gm_value.specs.declared.values.VType.TheVariants.{I32, I64, Flag, Node}
use Rattle.gm_value.specs.declared.operations.Op2.{Op2}
use Rattle.gm_ast.specs.declared.tree.Head.{Head}
use Rattle.gm_ast.specs.declared.tree.Sort.{Sort}
use Rattle.gm_ast.specs.declared.tree.Sort.TheVariants as Sorts
use Rattle.gm_ast.specs.declared.kinds.Binding.{Binding}
use Rattle.gm_ast.specs.declared.kinds.Kind.{Kind}
use Rattle.gm_ast.specs.declared.kinds.Kind.TheVariants as Kinds
use Rattle.gm_ast.specs.declared.kinds.Query.{Query}
use Rattle.gm_ast.specs.declared.kinds.Query.TheVariants as Queries
use Rattle.gm_ast.specs.declared.kinds.Reducer.{Reducer}
use Rattle.gm_ast.specs.declared.surface.ReductionWord.{ReductionWord}
use Rattle.gm_ast.specs.declared.surface.ReductionWord.TheVariants as Words
use Rattle.gm_ast.specs.declared.surface.Prefix.{Prefix}
use Rattle.gm_ast.specs.declared.surface.Prefix.TheVariants as Prefixes
use Rattle.gm_ast.specs.declared.surface.Infix.{Infix}
use Rattle.gm_ast.specs.declared.surface.Infix.TheVariants as Infixes
use Rattle.gm_ast.specs.Surface.{SurfaceExpr, Always, Number, Truth, Nil, Greatest, Least, Named, Member, Method, Paren, Prefixed, Infixed, Choose, Reduction}
use Rattle.gm_ast.specs.Program as P
use Rattle.gm_ast.specs.Program.{Expr}
use Rattle.gm_ast.specs.Judged.{Judged, Answer, ok_of, refused, refused_unless, then_answer}
use Rattle.gm_ast.specs.Names.{Env, is, later, inside, used, both, iterated, keyed, counted}
use Rattle.gm_ast.specs.Kinds.{Part, part_of, narrowed, as_int, as_long, int_of, taken, joint, settled, settled_as, is_empty, is_number, is_flag, accepts, fitted}
use Rattle.gm_ast.specs.Typing.{typed, condition, start_of, ranged, head_with, named_as, member_part, method_part, query_of, stands_for_node, is_already, changed_part, cast_part, prefix_part, paired_after, paired, large_of, compares_any, is_arithmetic, is_value, compared_as, operation, operation_by, infix_part, choice_by, choice_part, fold_numbers, reducer_at, folded, of_numbers_as, of_conditions, reduction_part, reduction_rule}
use Rattle.gm_depth.proofs.Parts.{IfPart, anything, if-by, if-both, if-good, if-then, if-else}

-- an expression in which no node variable is checked, in its reductions too
abbrev pub Unchecked : Expr → Type 0
Unchecked (P.Live x at) = false ≡ true
Unchecked (P.Unary op at e) = Unchecked e
Unchecked (P.Binary op at a b) = Unchecked a × Unchecked b
Unchecked (P.Both a b) = Unchecked a × Unchecked b
Unchecked (P.Either a b) = Unchecked a × Unchecked b
Unchecked (P.Choose c a b) = Unchecked c × (Unchecked a × Unchecked b)
Unchecked (P.Folded f h test e) = Unchecked test × Unchecked e
Unchecked e = Unit {0}

abbrev pub UncheckedPart : Part → Type 0
UncheckedPart p = Unchecked p.core

abbrev IfUnchecked : Answer Expr → Type 0
IfUnchecked a = IfPart Unchecked (ok_of a)

abbrev IfPartUnchecked : Answer Part → Type 0
IfPartUnchecked a = IfPart UncheckedPart (ok_of a)

-- ---- a value of a type

narrowed-unchecked : (e : Expr) → Unchecked e → Unchecked (narrowed e)
narrowed-unchecked (P.Const v) h = tt
narrowed-unchecked (P.Unary op at e) h = narrowed-unchecked e h
narrowed-unchecked (P.Binary op at a b) h = (narrowed-unchecked a h.0, narrowed-unchecked b h.1)
narrowed-unchecked (P.Choose c a b) h = (h.0, (narrowed-unchecked a h.1.0, narrowed-unchecked b h.1.1))
narrowed-unchecked _ h = h

as_int-unchecked : (large : List Place) (e : Expr) → Unchecked e → IfUnchecked (as_int (record { kind = Kinds.Flexible; core = e; large = large }))
as_int-unchecked [] e h = narrowed-unchecked e h
as_int-unchecked (x ∷ xs) e h = tt

int_of-unchecked : (k : Kind) (p : Part) → UncheckedPart p → IfUnchecked (int_of k p)
int_of-unchecked Kinds.Flexible p h = as_int-unchecked p.large p.core h
int_of-unchecked (Kinds.Of t) p h = h
int_of-unchecked Kinds.Edge p h = h

as_long-unchecked : (at : Place) (k : Kind) (e : Expr) → Unchecked e → Unchecked (as_long at k e)
as_long-unchecked at (Kinds.Of I32) e h = h
as_long-unchecked at (Kinds.Of I64) e h = h
as_long-unchecked at (Kinds.Of Flag) e h = h
as_long-unchecked at (Kinds.Of Node) e h = h
as_long-unchecked at Kinds.Flexible e h = h
as_long-unchecked at Kinds.Edge e h = h

taken-unchecked : (k : Kind) (at : Place) (p : Part) → UncheckedPart p → IfUnchecked (taken k at p)
taken-unchecked (Kinds.Of I32) at p h = int_of-unchecked p.kind p h
taken-unchecked (Kinds.Of I64) at p h = as_long-unchecked at p.kind p.core h
taken-unchecked (Kinds.Of Flag) at p h = h
taken-unchecked (Kinds.Of Node) at p h = h
taken-unchecked Kinds.Flexible at p h = h
taken-unchecked Kinds.Edge at p h = h

pub fitted-unchecked : (t : VType) (rule : Rule) (at : Place) (p : Part) → UncheckedPart p → IfUnchecked (fitted t rule at p)
fitted-unchecked t rule at p h = if-else Unchecked (accepts t p.kind) (taken (Kinds.Of t) at p) (refused rule at) (taken-unchecked (Kinds.Of t) at p h) tt

settled-unchecked : (k : Kind) (p : Part) → UncheckedPart p → UncheckedPart (settled_as k p)
settled-unchecked Kinds.Flexible p h = by (is_empty p.large)
  where
    by : (none : Bool) → UncheckedPart (if none then part_of (Kinds.Of I32) (narrowed p.core) else part_of (Kinds.Of I64) p.core)
    by true = narrowed-unchecked p.core h
    by false = h
settled-unchecked (Kinds.Of t) p h = h
settled-unchecked Kinds.Edge p h = h

-- ---- operators

abbrev AreUnchecked : Expr × Expr → Type 0
AreUnchecked p = Unchecked p.0 × Unchecked p.1

pairs-unchecked : (a b : Answer Expr) → IfUnchecked a → IfUnchecked b → IfPart AreUnchecked (ok_of (paired_after a b))
pairs-unchecked (Err rs) b h g = tt
pairs-unchecked (Ok a) (Err rs) h g = tt
pairs-unchecked (Ok a) (Ok b) h g = (h, g)

paired-unchecked : (at : Place) (k : Kind) (a b : Part) → UncheckedPart a → UncheckedPart b → IfPart AreUnchecked (ok_of (paired at k a b))
paired-unchecked at k a b h g = pairs-unchecked (taken k at a) (taken k at b) (taken-unchecked k at a h) (taken-unchecked k at b g)

changed-unchecked : (t : VType) (at : Place) (p : Part) → UncheckedPart p → UncheckedPart (changed_part t at p)
changed-unchecked I32 at p h = h
changed-unchecked I64 at p h = h
changed-unchecked Flag at p h = h
changed-unchecked Node at p h = h

cast-unchecked : (t : VType) (at : Place) (p : Part) → UncheckedPart p → UncheckedPart (cast_part t at p)
cast-unchecked t at p h = by (is_already t p.kind)
  where
    by : (same : Bool) → UncheckedPart (if same then p else changed_part t at p)
    by true = h
    by false = changed-unchecked t at p h

prefix-unchecked : (at : Place) (op : Prefix) (p : Part) → UncheckedPart p → IfPartUnchecked (prefix_part at op p)
prefix-unchecked at Prefixes.Minus p h = if-good UncheckedPart (is_number p.kind) T8 at _ h
prefix-unchecked at Prefixes.Not p h = if-good UncheckedPart (is_flag p.kind) T8 at _ h
prefix-unchecked at (Prefixes.Cast t) p h = if-good UncheckedPart (is_number p.kind) T8 at _ (cast-unchecked t at (settled p) (settled-unchecked p.kind p h))

operation-unchecked : (at : Place) (op : Op2) (k : Kind) (a b : Part) → UncheckedPart a → UncheckedPart b → IfPartUnchecked (operation at op k a b)
operation-unchecked at op k a b h g =
    let large = large_of k (a.large ++ b.large) in
    let c = compared_as k large in
    if-else UncheckedPart (is_arithmetic op)
    (if is_number k then then_answer (paired at k a b) (λ p. record { kind = k; core = P.Binary op at p.0 p.1; large = large }) else refused T8 at)
    (if is_number k || (compares_any op && is_value k) then then_answer (paired at c a b) (λ p. part_of (Kinds.Of Flag) (P.Binary op at p.0 p.1)) else refused T8 at)
    (if-else UncheckedPart (is_number k) (then_answer (paired at k a b) (λ p. record { kind = k; core = P.Binary op at p.0 p.1; large = large })) (refused T8 at)
    (if-then AreUnchecked UncheckedPart (paired at k a b) (λ p. record { kind = k; core = P.Binary op at p.0 p.1; large = large }) (paired-unchecked at k a b h g) (λ p n. n)) tt)
    (if-else UncheckedPart (is_number k || (compares_any op && is_value k)) (then_answer (paired at c a b) (λ p. part_of (Kinds.Of Flag) (P.Binary op at p.0 p.1))) (refused T8 at)
    (if-then AreUnchecked UncheckedPart (paired at c a b) (λ p. part_of (Kinds.Of Flag) (P.Binary op at p.0 p.1)) (paired-unchecked at c a b h g) (λ p n. n)) tt)

operation_by-unchecked : (at : Place) (op : Op2) (o : Option Kind) (a b : Part) → UncheckedPart a → UncheckedPart b → IfPartUnchecked (operation_by at op o a b)
operation_by-unchecked at op None a b h g = tt
operation_by-unchecked at op (Some k) a b h g = operation-unchecked at op k a b h g

infix-unchecked : (at : Place) (op : Infix) (ps : Part × Part) → UncheckedPart ps.0 × UncheckedPart ps.1 → IfPartUnchecked (infix_part at op ps)
infix-unchecked at (Infixes.Op op) ps h = operation_by-unchecked at op (joint ps.0.kind ps.1.kind) ps.0 ps.1 h.0 h.1
infix-unchecked at Infixes.And ps h = if-good UncheckedPart (is_flag ps.0.kind && is_flag ps.1.kind) T8 at _ h
infix-unchecked at Infixes.Or ps h = if-good UncheckedPart (is_flag ps.0.kind && is_flag ps.1.kind) T8 at _ h

choice_by-unchecked : (at : Place) (o : Option Kind) (c : Expr) (a b : Part) → Unchecked c → UncheckedPart a → UncheckedPart b → IfPartUnchecked (choice_by at o c a b)
choice_by-unchecked at None c a b n h g = tt
choice_by-unchecked at (Some k) c a b n h g =
    if-then AreUnchecked UncheckedPart (paired at k a b) (λ p. record { kind = k; core = P.Choose c p.0 p.1; large = large_of k (a.large ++ b.large) }) (paired-unchecked at k a b h g) (λ p m. (n, m))

-- ---- reductions

module _ (r : Reducer) (head : Head) (filter : Expr) (h : Unchecked filter) where
  numbers-unchecked : (k : Kind) (e : Expr) → Unchecked e → IfPartUnchecked (of_numbers_as k r head filter e)
  numbers-unchecked (Kinds.Of t) e g = if-good UncheckedPart (is_number (Kinds.Of t)) T8 r.place (folded r t head filter e) (h, g)
  numbers-unchecked Kinds.Flexible e g = tt
  numbers-unchecked Kinds.Edge e g = tt

  conditions-unchecked : (start : Place) (t : VType) (p : Part) → UncheckedPart p → IfPartUnchecked (of_conditions start t r head filter p)
  conditions-unchecked start t p g = if-good UncheckedPart (is_flag p.kind) T10 start (folded r t head filter p.core) (h, g)

  reduction-unchecked : (word : ReductionWord) (start : Place) (p : Part) → UncheckedPart p → IfPartUnchecked (reduction_part word start r head filter p)
  reduction-unchecked Words.Sum start p g = numbers-unchecked (settled p).kind (settled p).core (settled-unchecked p.kind p g)
  reduction-unchecked Words.Product start p g = numbers-unchecked (settled p).kind (settled p).core (settled-unchecked p.kind p g)
  reduction-unchecked Words.Min start p g = numbers-unchecked (settled p).kind (settled p).core (settled-unchecked p.kind p g)
  reduction-unchecked Words.Max start p g = numbers-unchecked (settled p).kind (settled p).core (settled-unchecked p.kind p g)
  reduction-unchecked Words.Count start p g = conditions-unchecked start I32 p g
  reduction-unchecked Words.Exist start p g = conditions-unchecked start Flag p g
  reduction-unchecked Words.All start p g = conditions-unchecked start Flag p g

-- ---- names

named-unchecked : (s : Sort) (group : Bool) (at : Place) (b : Binding) → IfPartUnchecked (named_as s group at b)
named-unchecked Sorts.Scalar group at b = tt
named-unchecked Sorts.Iterator group at b = tt
named-unchecked Sorts.Edge group at b = tt
named-unchecked Sorts.Graph group at b = if-good UncheckedPart group T7 at (part_of (Kinds.Of Node) (P.Var b.index at)) tt
named-unchecked Sorts.NodeProperty group at b = tt
named-unchecked Sorts.EdgeProperty group at b = tt

member-unchecked : (group : Bool) (at : Place) (bs : Binding × Binding) → IfPartUnchecked (member_part group at bs)
member-unchecked group at bs =
    let x = bs.0 in
    let p = bs.1 in
    if-else UncheckedPart (stands_for_node group x.variable && is Sorts.NodeProperty p.variable) (Ok (part_of (Kinds.Of p.variable.vtype) (P.Property x.index p.index at)))
    (if is Sorts.Edge x.variable && is Sorts.EdgeProperty p.variable then Ok (part_of (Kinds.Of p.variable.vtype) (P.EdgeProperty x.index p.index at)) else refused T7 at) tt
    (if-else UncheckedPart (is Sorts.Edge x.variable && is Sorts.EdgeProperty p.variable) (Ok (part_of (Kinds.Of p.variable.vtype) (P.EdgeProperty x.index p.index at))) (refused T7 at) tt tt)

method-unchecked : (group : Bool) (at : Place) (q : Query) (b : Binding) → IfPartUnchecked (method_part group at q b)
method-unchecked group at (Queries.Degree d) b = if-good UncheckedPart (stands_for_node group b.variable) T7 at (part_of (Kinds.Of I32) (P.Degree d b.index at)) tt
method-unchecked group at Queries.NodeCount b = if-good UncheckedPart (is Sorts.Graph b.variable) T7 at (part_of (Kinds.Of I32) P.NodeCount) tt
method-unchecked group at Queries.EdgeCount b = if-good UncheckedPart (is Sorts.Graph b.variable) T7 at (part_of (Kinds.Of I32) P.EdgeCount) tt
method-unchecked group at Queries.ToEdge b = tt
method-unchecked group at Queries.Unknown b = tt

-- ---- expressions

pub condition-unchecked : (at : Place) (part : Env → Judged Part) (env : Env) → IfPart UncheckedPart (part env).part → IfPart Unchecked (condition at part env).part
condition-unchecked at part env h = if-by UncheckedPart Unchecked (part env).part (λ p. refused_unless (is_flag p.kind) T10 at p.core) h (λ p g. if-good Unchecked (is_flag p.kind) T10 at p.core g)

pub typed-unchecked : (e : SurfaceExpr) (env : Env) → IfPart UncheckedPart (typed e env).part
typed-unchecked Always env = tt
typed-unchecked (Number at n) env = tt
typed-unchecked (Truth at b) env = tt
typed-unchecked (Nil at) env = tt
typed-unchecked (Greatest at) env = tt
typed-unchecked (Least at) env = tt
typed-unchecked (Named x) env = if-by (λ b. Unit {0}) UncheckedPart (used x env).part _ (anything (used x env).part) (λ b u. named-unchecked b.variable.sort env.group x.place b)
typed-unchecked (Member x p) env = if-by (λ b. Unit {0}) UncheckedPart (both (used x) (used p) env).part _ (anything (both (used x) (used p) env).part) (λ b u. member-unchecked env.group x.place b)
typed-unchecked (Method x m) env = if-by (λ b. Unit {0}) UncheckedPart (used x env).part _ (anything (used x env).part) (λ b u. method-unchecked env.group x.place (query_of m.text) b)
typed-unchecked (Paren at e) env = typed-unchecked e env
typed-unchecked (Prefixed at op e) env = if-by UncheckedPart UncheckedPart (typed e env).part (prefix_part at op) (typed-unchecked e env) (λ p h. prefix-unchecked at op p h)
typed-unchecked (Infixed at op a b) env =
    let after = later env (typed a env) in
    if-by (λ (p : Part × Part). UncheckedPart p.0 × UncheckedPart p.1) UncheckedPart (both (typed a) (typed b) env).part (infix_part at op)
    (if-both UncheckedPart UncheckedPart (typed a env).part (typed b after).part (typed-unchecked a env) (typed-unchecked b after)) (λ p h. infix-unchecked at op p h)
typed-unchecked (Choose at c a b) env =
    let test = condition (start_of c) (typed c) in
    let after = later env (test env) in
    let last = later after (typed a after) in
    if-by (λ (p : Expr × (Part × Part)). Unchecked p.0 × (UncheckedPart p.1.0 × UncheckedPart p.1.1)) UncheckedPart (both test (both (typed a) (typed b)) env).part (choice_part at)
    (if-both Unchecked (λ (p : Part × Part). UncheckedPart p.0 × UncheckedPart p.1) (test env).part (both (typed a) (typed b) after).part (condition-unchecked (start_of c) (typed c) env (typed-unchecked c env))
    (if-both UncheckedPart UncheckedPart (typed a after).part (typed b last).part (typed-unchecked a after) (typed-unchecked b last)))
    (λ p h. choice_by-unchecked at (joint p.1.0.kind p.1.1.kind) p.0 p.1.0 p.1.1 h.0 h.1.0 h.1.1)
typed-unchecked (Reduction at word h filter body close) env =
    let r = reducer_at env at word close in
    let test = keyed r.filter (condition (start_of filter) (typed filter)) in
    let inner = both test (keyed r.body (typed body)) in
    let outer = counted (fold_numbers env) (iterated h.iterator 1 inner) in
    let P1 = λ (p : Expr × Part). Unchecked p.0 × UncheckedPart p.1 in
    let P2 = λ (p : ℕ × (Expr × Part)). Unit {0} × P1 p.1 in
    let env1 = later env (ranged h env) in
    let env2 : Env = record env1 { number = env1.number + fold_numbers env } in
    let env3 = inside env2 h.iterator 1 in
    let env4 : Env = record env3 { key = r.filter } in
    let env5 = later env3 (test env3) in
    let env6 : Env = record env5 { key = r.body } in
    if-by (λ (p : Binding × (ℕ × (Expr × Part))). Unit {0} × P2 p.1) UncheckedPart (both (ranged h) outer env).part (reduction_rule r (start_of body) h)
    (if-both (λ b. Unit {0}) P2 (ranged h env).part (outer env1).part (anything (ranged h env).part)
    (if-both (λ i. Unit {0}) P1 (Some env2.next) (inner env3).part tt
    (if-both Unchecked UncheckedPart (test env3).part (keyed r.body (typed body) env5).part (condition-unchecked (start_of filter) (typed filter) env4 (typed-unchecked filter env4)) (typed-unchecked body env6))))
    (λ p g. reduction-unchecked r (head_with h p.0 p.1.0) p.1.1.0 g.1.1.0 r.word (start_of body) p.1.1.1 g.1.1.1)
