-- Typing keeps constants in range where the numbers of the text are.
use Rattle.std.proofs.Common.{◌≡◌, ◌<◌, ℤ, pos, negsuc, Bool, true, false, List, [], ◌∷◌, refl, arith, Option, Some, None, Ok, Err}
use Rattle.std.specs.Prelude.{◌+◌, nat_lt, ◌&&◌, ◌||◌, ◌++◌, if◌then◌else◌}
use Rattle.std.specs.Int.{int_min, int_max}
use Rattle.std.specs.Cmp.Derive.{both_true}
use Rattle.std.proofs.lemmas.Bool.{ltb-true, ltb-false, le-leb}
use Rattle.gm_base.specs.declared.places.Place.{Place}
use Rattle.gm_base.specs.declared.rules.Rule.{Rule}
use Rattle.gm_base.specs.declared.rules.Rule.TheVariants.{T7, T8, T10}
use Rattle.gm_value.specs.declared.values.VType.{VType}
use Rattle.gm_value.specs.declared.values.VType.TheVariants.{I32, I64, Flag, Node}
use Rattle.gm_value.specs.declared.values.Value.{Value}
use Rattle.gm_value.specs.declared.values.Value.TheVariants as V
use Rattle.gm_value.specs.declared.operations.Op2.{Op2}
use Rattle.gm_value.specs.Numbers.{type_of, number_of, fits, least_of, greatest_of}
use Rattle.gm_ast.specs.declared.tree.Head.{Head}
use Rattle.gm_ast.specs.declared.tree.Sort.{Sort}
use Rattle.gm_ast.specs.declared.tree.Sort.TheVariants as Sorts
use Rattle.gm_ast.specs.declared.kinds.Binding.{Binding}
use Rattle.gm_ast.specs.declared.kinds.Kind.{Kind}
use Rattle.gm_ast.specs.declared.kinds.Kind.TheVariants as Kinds
use Rattle.gm_ast.specs.declared.kinds.Query.{Query}
use Rattle.gm_ast.specs.declared.kinds.Query.TheVariants as Queries
use Rattle.gm_ast.specs.declared.kinds.Reducer.{Reducer}
use Rattle.gm_ast.specs.declared.surface.ReductionWord.{ReductionWord}
use Rattle.gm_ast.specs.declared.surface.ReductionWord.TheVariants.{Sum, Product, Min, Max, Count, Exist, All}
use Rattle.gm_ast.specs.declared.surface.Prefix.{Prefix}
use Rattle.gm_ast.specs.declared.surface.Prefix.TheVariants as Prefixes
use Rattle.gm_ast.specs.declared.surface.Infix.{Infix}
use Rattle.gm_ast.specs.declared.surface.Infix.TheVariants as Infixes
use Rattle.gm_ast.specs.Surface.{SurfaceExpr, Always, Number, Truth, Nil, Greatest, Least, Named, Member, Method, Paren, Prefixed, Infixed, Choose, Reduction}
use Rattle.gm_ast.specs.Program as P
use Rattle.gm_ast.specs.Program.{Expr}
use Rattle.gm_ast.specs.Judged.{Judged, Answer, judge, ok_of, refused, refused_unless, then_answer}
use Rattle.gm_ast.specs.Names.{Env, is, used, both, iterated, inside, keyed, counted, later, declared_as, an_iterator}
use Rattle.gm_ast.specs.Kinds.{Part, part_of, narrow, narrowed, as_int, as_long, int_of, taken, joint, settled, settled_as, is_empty, is_number, is_flag, accepts, fitted}
use Rattle.gm_ast.specs.Typing.{typed, condition, start_of, ranged, named_as, named_part, member_part, method_part, query_of, stands_for_node, is_already, changed_part, cast_part, prefix_part, paired, paired_after, large_of, compares_any, is_arithmetic, is_value, compared_as, operation, operation_by, infix_part, choice_by, choice_part, folded, of_numbers_as, of_conditions, reduction_part, reduction_rule, reducer_at, fold_numbers, head_with}
use Rattle.gm_forms.proofs.Named.{both-true}
use Rattle.gm_ready.specs.Spelled.{constants_fit}
use Rattle.gm_ready.proofs.Judging.{IfPart, if-by, if-both, if-good, if-then, if-else}
use Rattle.gm_order.specs.Spelling.{numbers_fit}
use Rattle.gm_order.proofs.Parts.{anything}

abbrev pub Fit : Expr → Type 0
Fit e = constants_fit e ≡ true

abbrev pub FitPart : Part → Type 0
FitPart p = Fit p.core

abbrev IfFit : Answer Expr → Type 0
IfFit a = IfPart Fit (ok_of a)

abbrev IfFitPart : Answer Part → Type 0
IfFitPart a = IfPart FitPart (ok_of a)

-- ---- numbers as Int

clamped : (z : ℤ) → fits I32 (int_max (least_of I32) (int_min (greatest_of I32) z)) ≡ true
clamped (pos n) = by (nat_lt n 2147483647) refl
  where
    by : (b : Bool) → nat_lt n 2147483647 ≡ b → fits I32 (int_max (negsuc 2147483647) (if b then pos n else pos 2147483647)) ≡ true
    by true e = le-leb n 2147483647 (let l : n < 2147483647 = ltb-true n 2147483647 e in omega (arith, l))
    by false e = refl
clamped (negsuc n) = by (nat_lt 2147483647 n) refl
  where
    by : (b : Bool) → nat_lt 2147483647 n ≡ b → fits I32 (if b then negsuc 2147483647 else negsuc n) ≡ true
    by true e = refl
    by false e = both_true (le-leb n 2147483647 (ltb-false 2147483647 n e)) refl

narrow-fits : (v : Value) → fits (type_of v) (number_of v) ≡ true → fits (type_of (narrow v)) (number_of (narrow v)) ≡ true
narrow-fits (V.I64 z) h = clamped z
narrow-fits (V.I32 z) h = h
narrow-fits (V.Flag b) h = h
narrow-fits (V.At n) h = h

narrowed-fits : (e : Expr) → Fit e → Fit (narrowed e)
narrowed-fits (P.Const v) h = narrow-fits v h
narrowed-fits (P.Unary op at e) h = narrowed-fits e h
narrowed-fits (P.Binary op at a b) h = let s = both-true (constants_fit a) (constants_fit b) h in both_true (narrowed-fits a s.0) (narrowed-fits b s.1)
narrowed-fits (P.Choose c a b) h =
    let s = both-true (constants_fit c) (constants_fit a && constants_fit b) h in
    let t = both-true (constants_fit a) (constants_fit b) s.1 in
    both_true s.0 (both_true (narrowed-fits a t.0) (narrowed-fits b t.1))
narrowed-fits (P.Var x at) h = h
narrowed-fits (P.Property x p at) h = h
narrowed-fits (P.EdgeProperty x p at) h = h
narrowed-fits (P.Degree d x at) h = h
narrowed-fits P.NodeCount h = h
narrowed-fits P.EdgeCount h = h
narrowed-fits (P.Live x at) h = h
narrowed-fits (P.Both a b) h = h
narrowed-fits (P.Either a b) h = h
narrowed-fits (P.Folded f h' test e) h = h

-- ---- how a part fits where it is wanted

as_int-fits : (large : List Place) (e : Expr) → Fit e → IfFit (as_int (record { kind = Kinds.Flexible; core = e; large = large }))
as_int-fits [] e h = narrowed-fits e h
as_int-fits (x ∷ xs) e h = tt

int_of-fits : (k : Kind) (p : Part) → FitPart p → IfFit (int_of k p)
int_of-fits Kinds.Flexible p h = as_int-fits p.large p.core h
int_of-fits (Kinds.Of t) p h = h
int_of-fits Kinds.Edge p h = h

as_long-fits : (at : Place) (k : Kind) (e : Expr) → Fit e → Fit (as_long at k e)
as_long-fits at Kinds.Flexible e h = h
as_long-fits at (Kinds.Of I32) e h = h
as_long-fits at (Kinds.Of I64) e h = h
as_long-fits at (Kinds.Of Flag) e h = h
as_long-fits at (Kinds.Of Node) e h = h
as_long-fits at Kinds.Edge e h = h

taken-fits : (k : Kind) (at : Place) (p : Part) → FitPart p → IfFit (taken k at p)
taken-fits (Kinds.Of I32) at p h = int_of-fits p.kind p h
taken-fits (Kinds.Of I64) at p h = as_long-fits at p.kind p.core h
taken-fits (Kinds.Of Flag) at p h = h
taken-fits (Kinds.Of Node) at p h = h
taken-fits Kinds.Flexible at p h = h
taken-fits Kinds.Edge at p h = h

pub fitted-fits : (t : VType) (rule : Rule) (at : Place) (p : Part) → FitPart p → IfFit (fitted t rule at p)
fitted-fits t rule at p h = if-else Fit (accepts t p.kind) (taken (Kinds.Of t) at p) (refused rule at) (λ _. taken-fits (Kinds.Of t) at p h) (λ _. tt)

settled-fits : (k : Kind) (p : Part) → FitPart p → FitPart (settled_as k p)
settled-fits Kinds.Flexible p h = by (is_empty p.large)
  where
    by : (none : Bool) → FitPart (if none then part_of (Kinds.Of I32) (narrowed p.core) else part_of (Kinds.Of I64) p.core)
    by true = narrowed-fits p.core h
    by false = h
settled-fits (Kinds.Of t) p h = h
settled-fits Kinds.Edge p h = h

abbrev FitPair : Expr × Expr → Type 0
FitPair p = Fit p.0 × Fit p.1

pairs-fit : (a b : Answer Expr) → IfFit a → IfFit b → IfPart FitPair (ok_of (paired_after a b))
pairs-fit (Err rs) b h g = tt
pairs-fit (Ok a) (Err rs) h g = tt
pairs-fit (Ok a) (Ok b) h g = (h, g)

paired-fits : (at : Place) (k : Kind) (a b : Part) → FitPart a → FitPart b → IfPart FitPair (ok_of (paired at k a b))
paired-fits at k a b h g = pairs-fit (taken k at a) (taken k at b) (taken-fits k at a h) (taken-fits k at b g)

-- ---- names

named-fits : (s : Sort) (group : Bool) (at : Place) (b : Binding) → IfFitPart (named_as s group at b)
named-fits Sorts.Scalar group at b = refl
named-fits Sorts.Iterator group at b = refl
named-fits Sorts.Edge group at b = refl
named-fits Sorts.Graph group at b = if-good FitPart group T7 at _ (λ _. refl)
named-fits Sorts.NodeProperty group at b = tt
named-fits Sorts.EdgeProperty group at b = tt

member-fits : (group : Bool) (at : Place) (bs : Binding × Binding) → IfFitPart (member_part group at bs)
member-fits group at bs =
    let x = bs.0 in
    let p = bs.1 in
    let edge = if is Sorts.Edge x.variable && is Sorts.EdgeProperty p.variable then Ok (part_of (Kinds.Of p.variable.vtype) (P.EdgeProperty x.index p.index at)) else refused T7 at in
    if-else FitPart (stands_for_node group x.variable && is Sorts.NodeProperty p.variable) (Ok (part_of (Kinds.Of p.variable.vtype) (P.Property x.index p.index at))) edge
    (λ _. refl)
    (λ _. if-else FitPart (is Sorts.Edge x.variable && is Sorts.EdgeProperty p.variable) (Ok (part_of (Kinds.Of p.variable.vtype) (P.EdgeProperty x.index p.index at))) (refused T7 at) (λ _. refl) (λ _. tt))

method-fits : (group : Bool) (at : Place) (q : Query) (b : Binding) → IfFitPart (method_part group at q b)
method-fits group at (Queries.Degree d) b = if-good FitPart (stands_for_node group b.variable) T7 at _ (λ _. refl)
method-fits group at Queries.NodeCount b = if-good FitPart (is Sorts.Graph b.variable) T7 at _ (λ _. refl)
method-fits group at Queries.EdgeCount b = if-good FitPart (is Sorts.Graph b.variable) T7 at _ (λ _. refl)
method-fits group at Queries.ToEdge b = tt
method-fits group at Queries.Unknown b = tt

-- ---- operators

changed-fits : (t : VType) (at : Place) (p : Part) → FitPart p → FitPart (changed_part t at p)
changed-fits I32 at p h = h
changed-fits I64 at p h = h
changed-fits Flag at p h = h
changed-fits Node at p h = h

cast-fits : (t : VType) (at : Place) (p : Part) → FitPart p → FitPart (cast_part t at p)
cast-fits t at p h = by (is_already t p.kind)
  where
    by : (same : Bool) → FitPart (if same then p else changed_part t at p)
    by true = h
    by false = changed-fits t at p h

prefix-fits : (at : Place) (op : Prefix) (p : Part) → FitPart p → IfFitPart (prefix_part at op p)
prefix-fits at Prefixes.Minus p h = if-good FitPart (is_number p.kind) T8 at _ (λ _. h)
prefix-fits at Prefixes.Not p h = if-good FitPart (is_flag p.kind) T8 at _ (λ _. h)
prefix-fits at (Prefixes.Cast t) p h = if-good FitPart (is_number p.kind) T8 at _ (λ _. cast-fits t at (settled p) (settled-fits p.kind p h))

operation-fits : (at : Place) (op : Op2) (k : Kind) (a b : Part) → FitPart a → FitPart b → IfFitPart (operation at op k a b)
operation-fits at op k a b h g =
    let large = large_of k (a.large ++ b.large) in
    let c = compared_as k large in
    let number = if is_number k then then_answer (paired at k a b) (λ p. record { kind = k; core = P.Binary op at p.0 p.1; large = large }) else refused T8 at in
    let compared = if is_number k || (compares_any op && is_value k) then then_answer (paired at c a b) (λ p. part_of (Kinds.Of Flag) (P.Binary op at p.0 p.1)) else refused T8 at in
    if-else FitPart (is_arithmetic op) number compared
    (λ _. if-else FitPart (is_number k) (then_answer (paired at k a b) (λ p. record { kind = k; core = P.Binary op at p.0 p.1; large = large })) (refused T8 at)
    (λ _. if-then FitPair FitPart (paired at k a b) (λ p. record { kind = k; core = P.Binary op at p.0 p.1; large = large }) (paired-fits at k a b h g) (λ p m. both_true m.0 m.1)) (λ _. tt))
    (λ _. if-else FitPart (is_number k || (compares_any op && is_value k)) (then_answer (paired at c a b) (λ p. part_of (Kinds.Of Flag) (P.Binary op at p.0 p.1))) (refused T8 at)
    (λ _. if-then FitPair FitPart (paired at c a b) (λ p. part_of (Kinds.Of Flag) (P.Binary op at p.0 p.1)) (paired-fits at c a b h g) (λ p m. both_true m.0 m.1)) (λ _. tt))

operation_by-fits : (at : Place) (op : Op2) (o : Option Kind) (a b : Part) → FitPart a → FitPart b → IfFitPart (operation_by at op o a b)
operation_by-fits at op None a b h g = tt
operation_by-fits at op (Some k) a b h g = operation-fits at op k a b h g

infix-fits : (at : Place) (op : Infix) (ps : Part × Part) → FitPart ps.0 × FitPart ps.1 → IfFitPart (infix_part at op ps)
infix-fits at (Infixes.Op op) ps h = operation_by-fits at op (joint ps.0.kind ps.1.kind) ps.0 ps.1 h.0 h.1
infix-fits at Infixes.And ps h = if-good FitPart (is_flag ps.0.kind && is_flag ps.1.kind) T8 at _ (λ _. both_true h.0 h.1)
infix-fits at Infixes.Or ps h = if-good FitPart (is_flag ps.0.kind && is_flag ps.1.kind) T8 at _ (λ _. both_true h.0 h.1)

choice_by-fits : (at : Place) (o : Option Kind) (c : Expr) (a b : Part) → Fit c → FitPart a → FitPart b → IfFitPart (choice_by at o c a b)
choice_by-fits at None c a b f h g = tt
choice_by-fits at (Some k) c a b f h g =
    if-then FitPair FitPart (paired at k a b) (λ p. record { kind = k; core = P.Choose c p.0 p.1; large = large_of k (a.large ++ b.large) })
    (paired-fits at k a b h g) (λ p m. both_true f (both_true m.0 m.1))

-- ---- reductions

numbers-fit : (k : Kind) (r : Reducer) (h : Head) (filter e : Expr) → Fit filter → Fit e → IfFitPart (of_numbers_as k r h filter e)
numbers-fit (Kinds.Of t) r h filter e f g = if-good FitPart (is_number (Kinds.Of t)) T8 r.place (folded r t h filter e) (λ _. both_true f g)
numbers-fit Kinds.Flexible r h filter e f g = tt
numbers-fit Kinds.Edge r h filter e f g = tt

conditions-fit : (start : Place) (t : VType) (r : Reducer) (h : Head) (filter : Expr) (p : Part) → Fit filter → FitPart p → IfFitPart (of_conditions start t r h filter p)
conditions-fit start t r h filter p f g = if-good FitPart (is_flag p.kind) T10 start (folded r t h filter p.core) (λ _. both_true f g)

reduction-fits : (word : ReductionWord) (start : Place) (r : Reducer) (h : Head) (filter : Expr) (p : Part) → Fit filter → FitPart p → IfFitPart (reduction_part word start r h filter p)
reduction-fits Sum start r h filter p f g = numbers-fit (settled p).kind r h filter (settled p).core f (settled-fits p.kind p g)
reduction-fits Product start r h filter p f g = numbers-fit (settled p).kind r h filter (settled p).core f (settled-fits p.kind p g)
reduction-fits Min start r h filter p f g = numbers-fit (settled p).kind r h filter (settled p).core f (settled-fits p.kind p g)
reduction-fits Max start r h filter p f g = numbers-fit (settled p).kind r h filter (settled p).core f (settled-fits p.kind p g)
reduction-fits Count start r h filter p f g = conditions-fit start I32 r h filter p f g
reduction-fits Exist start r h filter p f g = conditions-fit start Flag r h filter p f g
reduction-fits All start r h filter p f g = conditions-fit start Flag r h filter p f g

-- ---- an expression

pub condition-fits : (at : Place) (o : Judged Part) → IfPart FitPart o.part → IfPart Fit (judge o (λ p. refused_unless (is_flag p.kind) T10 at p.core)).part
condition-fits at o h = if-by FitPart Fit o.part (λ p. refused_unless (is_flag p.kind) T10 at p.core) h (λ p k. if-good Fit (is_flag p.kind) T10 at p.core (λ _. k))

flag-fits : (b : Bool) → constants_fit (P.Const (V.Flag b)) ≡ true
flag-fits true = refl
flag-fits false = refl

pub typed-fits : (e : SurfaceExpr) → numbers_fit e ≡ true → (env : Env) → IfPart FitPart (typed e env).part
typed-fits Always h env = refl
typed-fits (Number at n) h env = h
typed-fits (Truth at b) h env = flag-fits b
typed-fits (Nil at) h env = refl
typed-fits (Greatest at) h env = refl
typed-fits (Least at) h env = refl
typed-fits (Named x) h env = if-by (λ b. Unit {0}) FitPart (used x env).part (named_part env.group x.place) (anything (used x env).part) (λ b _. named-fits b.variable.sort env.group x.place b)
typed-fits (Member x p) h env = if-by (λ b. Unit {0}) FitPart (both (used x) (used p) env).part (member_part env.group x.place) (anything (both (used x) (used p) env).part) (λ bs _. member-fits env.group x.place bs)
typed-fits (Method x m) h env = if-by (λ b. Unit {0}) FitPart (used x env).part (method_part env.group x.place (query_of m.text)) (anything (used x env).part) (λ b _. method-fits env.group x.place (query_of m.text) b)
typed-fits (Paren at e) h env = typed-fits e h env
typed-fits (Prefixed at op e) h env = if-by FitPart FitPart (typed e env).part (prefix_part at op) (typed-fits e h env) (λ p k. prefix-fits at op p k)
typed-fits (Infixed at op a b) h env =
    let s = both-true (numbers_fit a) (numbers_fit b) h in
    let x = typed a env in
    let y = typed b (later env x) in
    if-by (λ ps. FitPart ps.0 × FitPart ps.1) FitPart (both (typed a) (typed b) env).part (infix_part at op)
    (if-both FitPart FitPart x.part y.part (typed-fits a s.0 env) (typed-fits b s.1 (later env x))) (λ ps k. infix-fits at op ps k)
typed-fits (Choose at c a b) h env =
    let s = both-true (numbers_fit c) (numbers_fit a && numbers_fit b) h in
    let t = both-true (numbers_fit a) (numbers_fit b) s.1 in
    let z = condition (start_of c) (typed c) env in
    let x = typed a (later env z) in
    let y = typed b (later (later env z) x) in
    if-by (λ ps. Fit ps.0 × (FitPart ps.1.0 × FitPart ps.1.1)) FitPart (both (condition (start_of c) (typed c)) (both (typed a) (typed b)) env).part (choice_part at)
    (if-both Fit (λ ps. FitPart ps.0 × FitPart ps.1) z.part (both (typed a) (typed b) (later env z)).part (condition-fits (start_of c) (typed c env) (typed-fits c s.0 env))
    (if-both FitPart FitPart x.part y.part (typed-fits a t.0 (later env z)) (typed-fits b t.1 (later (later env z) x))))
    (λ ps k. choice_by-fits at (joint ps.1.0.kind ps.1.1.kind) ps.0 ps.1.0 ps.1.1 k.0 k.1.0 k.1.1)
typed-fits (Reduction at word head filter body close) h env =
    let s = both-true (numbers_fit filter) (numbers_fit body) h in
    let r = reducer_at env at word close in
    let test = keyed r.filter (condition (start_of filter) (typed filter)) in
    let braces = keyed r.body (typed body) in
    let inner = both test braces in
    let all = both (ranged head) (counted (fold_numbers env) (iterated head.iterator 1 inner)) in
    let owner = ranged head env in
    let env1 = later env owner in
    let env2 : Env = record env1 { number = env1.number + fold_numbers env } in
    let env3 = inside env2 head.iterator 1 in
    let x = test env3 in
    if-by (λ ps. Unit {0} × (Unit {0} × (Fit ps.1.1.0 × FitPart ps.1.1.1))) FitPart (all env).part (reduction_rule r (start_of body) head)
    (if-both (λ b. Unit {0}) (λ ps. Unit {0} × (Fit ps.1.0 × FitPart ps.1.1)) owner.part (counted (fold_numbers env) (iterated head.iterator 1 inner) env1).part (anything owner.part)
    (if-both (λ n. Unit {0}) (λ ps. Fit ps.0 × FitPart ps.1) (declared_as env2 head.iterator (an_iterator (env2.depth + 1))).part (inner env3).part tt
    (if-both Fit FitPart x.part (braces (later env3 x)).part
    (condition-fits (start_of filter) (typed filter (record env3 { key = r.filter })) (typed-fits filter s.0 (record env3 { key = r.filter })))
    (typed-fits body s.1 (record (later env3 x) { key = r.body })))))
    (λ ps n. reduction-fits word (start_of body) r (head_with head ps.0 ps.1.0) ps.1.1.0 ps.1.1.1 n.1.1.0 n.1.1.1)
