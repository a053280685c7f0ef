-- Typing gives an expression no more levels than the tree's count, and one more where its value becomes a Long.
use Rattle.std.proofs.Common.{◌≡◌, ◌≤◌, ◌+◌, ℕ, suc, max, Bool, true, false, List, [], ◌∷◌, ◌++◌, refl, ap, ◌∙◌, arith, Option, Some, None}
use Rattle.std.specs.Prelude.{◌&&◌, ◌||◌, if◌then◌else◌, Ok, Err}
use Rattle.gm_base.specs.declared.places.Place.{Place}
use Rattle.gm_base.specs.declared.rules.Rule.{Rule}
use Rattle.gm_base.specs.declared.rules.Rule.TheVariants.{T7, T8, T10}
use Rattle.gm_value.specs.declared.values.VType.{VType}
use Rattle.gm_value.specs.declared.values.VType.TheVariants.{I32, I64, Flag, Node}
use Rattle.gm_value.specs.declared.operations.Op1.TheVariants as Op1
use Rattle.gm_value.specs.declared.operations.Op2.{Op2}
use Rattle.gm_ast.specs.declared.tree.Head.{Head}
use Rattle.gm_ast.specs.declared.tree.Sort.{Sort}
use Rattle.gm_ast.specs.declared.tree.Sort.TheVariants as Sorts
use Rattle.gm_ast.specs.declared.kinds.Binding.{Binding}
use Rattle.gm_ast.specs.declared.kinds.Kind.{Kind}
use Rattle.gm_ast.specs.declared.kinds.Kind.TheVariants as Kinds
use Rattle.gm_ast.specs.declared.kinds.Query.{Query}
use Rattle.gm_ast.specs.declared.kinds.Query.TheVariants as Queries
use Rattle.gm_ast.specs.declared.kinds.Reducer.{Reducer}
use Rattle.gm_ast.specs.declared.surface.ReductionWord.{ReductionWord}
use Rattle.gm_ast.specs.declared.surface.ReductionWord.TheVariants as Words
use Rattle.gm_ast.specs.declared.surface.Prefix.{Prefix}
use Rattle.gm_ast.specs.declared.surface.Prefix.TheVariants as Prefixes
use Rattle.gm_ast.specs.declared.surface.Infix.{Infix}
use Rattle.gm_ast.specs.declared.surface.Infix.TheVariants as Infixes
use Rattle.gm_ast.specs.Surface.{SurfaceExpr, Always, Number, Truth, Nil, Greatest, Least, Named, Member, Method, Paren, Prefixed, Infixed, Choose, Reduction}
use Rattle.gm_ast.specs.Program as P
use Rattle.gm_ast.specs.Program.{Expr}
use Rattle.gm_ast.specs.Judged.{Judged, Answer, ok_of, refused, refused_unless, then_answer}
use Rattle.gm_ast.specs.Names.{Env, is, later, inside, used, both, iterated, keyed, counted}
use Rattle.gm_ast.specs.Kinds.{Part, part_of, narrowed, as_int, as_long, int_of, taken, joint, settled, settled_as, is_empty, is_number, is_flag, accepts, fitted}
use Rattle.gm_ast.specs.Typing.{typed, condition, start_of, ranged, head_with, named_as, member_part, method_part, query_of, stands_for_node, is_already, changed_part, cast_part, prefix_part, paired_after, paired, large_of, compares_any, is_arithmetic, is_value, compared_as, operation, operation_by, infix_part, choice_by, choice_part, fold_numbers, reducer_at, folded, of_numbers_as, of_numbers, of_conditions, reduction_part, reduction_rule}
use Rattle.gm_depth.specs.Depths.{depth}
use Rattle.gm_depth.specs.Trees.{tree_depth}
use Rattle.gm_depth.proofs.Parts.{IfPart, anything, if-weaker, if-by, if-both, if-good, if-then, if-else}

-- numbers as Int are as deep as they were
pub depth-narrowed : (e : Expr) → depth (narrowed e) ≡ depth e
depth-narrowed (P.Unary op at e) = ap suc (depth-narrowed e)
depth-narrowed (P.Binary op at a b) = ap (λ n. suc (max n (depth (narrowed b)))) (depth-narrowed a) ∙ ap (λ n. suc (max (depth a) n)) (depth-narrowed b)
depth-narrowed (P.Choose c a b) =
    ap (λ n. suc (max (depth c) (max n (depth (narrowed b))))) (depth-narrowed a) ∙ ap (λ n. suc (max (depth c) (max (depth a) n))) (depth-narrowed b)
depth-narrowed _ = refl

-- an expression of no more levels than a number
abbrev pub Low : ℕ → Expr → Type 0
Low t e = depth e ≤ t

abbrev pub LowPart : ℕ → Part → Type 0
LowPart t p = Low t p.core

-- one level more than a part has
abbrev OneMore : ℕ → Expr → Type 0
OneMore d e = depth e ≤ suc d

int-more : (large : List Place) (e : Expr) → IfPart (OneMore (depth e)) (ok_of (as_int (record { kind = Kinds.Flexible; core = e; large = large })))
int-more [] e = let same : depth (narrowed e) ≡ depth e = depth-narrowed e in omega arith
int-more (x ∷ xs) e = tt

int_of-more : (k : Kind) (p : Part) → IfPart (OneMore (depth p.core)) (ok_of (int_of k p))
int_of-more Kinds.Flexible p = int-more p.large p.core
int_of-more (Kinds.Of t) p = omega arith
int_of-more Kinds.Edge p = omega arith

long-more : (at : Place) (k : Kind) (e : Expr) → OneMore (depth e) (as_long at k e)
long-more at (Kinds.Of I32) e = omega arith
long-more at (Kinds.Of I64) e = omega arith
long-more at (Kinds.Of Flag) e = omega arith
long-more at (Kinds.Of Node) e = omega arith
long-more at Kinds.Flexible e = omega arith
long-more at Kinds.Edge e = omega arith

pub taken-more : (k : Kind) (at : Place) (p : Part) → IfPart (OneMore (depth p.core)) (ok_of (taken k at p))
taken-more (Kinds.Of I32) at p = int_of-more p.kind p
taken-more (Kinds.Of I64) at p = long-more at p.kind p.core
taken-more (Kinds.Of Flag) at p = omega arith
taken-more (Kinds.Of Node) at p = omega arith
taken-more Kinds.Flexible at p = omega arith
taken-more Kinds.Edge at p = omega arith

pub fitted-more : (t : VType) (rule : Rule) (at : Place) (p : Part) → IfPart (OneMore (depth p.core)) (ok_of (fitted t rule at p))
fitted-more t rule at p = if-else (OneMore (depth p.core)) (accepts t p.kind) (taken (Kinds.Of t) at p) (refused rule at) (taken-more (Kinds.Of t) at p) tt

settled-same : (k : Kind) (p : Part) → depth (settled_as k p).core ≡ depth p.core
settled-same Kinds.Flexible p = by (is_empty p.large)
  where
    by : (none : Bool) → depth (if none then part_of (Kinds.Of I32) (narrowed p.core) else part_of (Kinds.Of I64) p.core).core ≡ depth p.core
    by true = depth-narrowed p.core
    by false = refl
settled-same (Kinds.Of t) p = refl
settled-same Kinds.Edge p = refl

-- two parts as parts of one kind
abbrev TwoMore : ℕ → ℕ → Expr × Expr → Type 0
TwoMore a b p = OneMore a p.0 × OneMore b p.1

after-more : (x y : ℕ) (a b : Answer Expr) → IfPart (OneMore x) (ok_of a) → IfPart (OneMore y) (ok_of b) → IfPart (TwoMore x y) (ok_of (paired_after a b))
after-more x y (Err rs) b h k = tt
after-more x y (Ok a) (Err rs) h k = tt
after-more x y (Ok a) (Ok b) h k = (h, k)

paired-more : (at : Place) (k : Kind) (a b : Part) → IfPart (TwoMore (depth a.core) (depth b.core)) (ok_of (paired at k a b))
paired-more at k a b = after-more (depth a.core) (depth b.core) (taken k at a) (taken k at b) (taken-more k at a) (taken-more k at b)

-- ---- operators

changed-low : (n : ℕ) (t : VType) (at : Place) (p : Part) → LowPart n p → LowPart (suc n) (changed_part t at p)
changed-low n I32 at p h = omega arith
changed-low n I64 at p h = omega arith
changed-low n Flag at p h = omega arith
changed-low n Node at p h = omega arith

cast-low : (n : ℕ) (t : VType) (at : Place) (p : Part) → LowPart n p → LowPart (suc n) (cast_part t at p)
cast-low n t at p h = by (is_already t p.kind)
  where
    by : (same : Bool) → LowPart (suc n) (if same then p else changed_part t at p)
    by true = omega arith
    by false = changed-low n t at p h

prefix-low : (n : ℕ) (at : Place) (op : Prefix) (p : Part) → LowPart n p → IfPart (LowPart (suc n)) (ok_of (prefix_part at op p))
prefix-low n at Prefixes.Minus p h = if-good (LowPart (suc n)) (is_number p.kind) T8 at (record p { core = P.Unary Op1.Neg at p.core }) (omega arith)
prefix-low n at Prefixes.Not p h = if-good (LowPart (suc n)) (is_flag p.kind) T8 at (record p { core = P.Unary Op1.Not at p.core }) (omega arith)
prefix-low n at (Prefixes.Cast t) p h =
    let same : depth (settled p).core ≡ depth p.core = settled-same p.kind p in
    let low : LowPart n (settled p) = omega arith in
    if-good (LowPart (suc n)) (is_number p.kind) T8 at (cast_part t at (settled p)) (cast-low n t at (settled p) low)

module _ (m n : ℕ) (at : Place) (a b : Part) (h : LowPart m a) (k : LowPart n b) where
  pair-low : (p : Expr × Expr) → TwoMore (depth a.core) (depth b.core) p → suc (max (depth p.0) (depth p.1)) ≤ suc (suc (max m n))
  pair-low p g =
      let x : depth p.0 ≤ suc (depth a.core) = g.0 in
      let y : depth p.1 ≤ suc (depth b.core) = g.1 in
      omega arith

  operation-low : (op : Op2) (k : Kind) → IfPart (LowPart (suc (suc (max m n)))) (ok_of (operation at op k a b))
  operation-low op k =
      let Q = LowPart (suc (suc (max m n))) in
      let T = TwoMore (depth a.core) (depth b.core) in
      let j = compared_as k (large_of k (a.large ++ b.large)) in
      if-else Q (is_arithmetic op)
      (if is_number k then then_answer (paired at k a b) (λ p. record { kind = k; core = P.Binary op at p.0 p.1; large = large_of k (a.large ++ b.large) }) else refused T8 at)
      (if is_number k || (compares_any op && is_value k) then then_answer (paired at j a b) (λ p. part_of (Kinds.Of Flag) (P.Binary op at p.0 p.1)) else refused T8 at)
      (if-else Q (is_number k) (then_answer (paired at k a b) (λ p. record { kind = k; core = P.Binary op at p.0 p.1; large = large_of k (a.large ++ b.large) })) (refused T8 at)
      (if-then T Q (paired at k a b) (λ p. record { kind = k; core = P.Binary op at p.0 p.1; large = large_of k (a.large ++ b.large) }) (paired-more at k a b) (λ p g. pair-low p g)) tt)
      (if-else Q (is_number k || (compares_any op && is_value k)) (then_answer (paired at j a b) (λ p. part_of (Kinds.Of Flag) (P.Binary op at p.0 p.1))) (refused T8 at)
      (if-then T Q (paired at j a b) (λ p. part_of (Kinds.Of Flag) (P.Binary op at p.0 p.1)) (paired-more at j a b) (λ p g. pair-low p g)) tt)

  by-low : (op : Op2) (o : Option Kind) → IfPart (LowPart (suc (suc (max m n)))) (ok_of (operation_by at op o a b))
  by-low op None = tt
  by-low op (Some k) = operation-low op k

  infix-low : (o : Infix) → IfPart (LowPart (suc (suc (max m n)))) (ok_of (infix_part at o (a, b)))
  infix-low (Infixes.Op op) = by-low op (joint a.kind b.kind)
  infix-low Infixes.And = if-good (LowPart (suc (suc (max m n)))) (is_flag a.kind && is_flag b.kind) T8 at (part_of (Kinds.Of Flag) (P.Both a.core b.core)) (omega arith)
  infix-low Infixes.Or = if-good (LowPart (suc (suc (max m n)))) (is_flag a.kind && is_flag b.kind) T8 at (part_of (Kinds.Of Flag) (P.Either a.core b.core)) (omega arith)

  choice-low : (l : ℕ) (c : Expr) (o : Option Kind) → Low l c → IfPart (LowPart (suc (suc (max l (max m n))))) (ok_of (choice_by at o c a b))
  choice-low l c None g = tt
  choice-low l c (Some j) g =
      if-then (TwoMore (depth a.core) (depth b.core)) (LowPart (suc (suc (max l (max m n))))) (paired at j a b) (λ p. record { kind = j; core = P.Choose c p.0 p.1; large = large_of j (a.large ++ b.large) }) (paired-more at j a b)
      (λ p t. let x : depth p.0 ≤ suc (depth a.core) = t.0 in let y : depth p.1 ≤ suc (depth b.core) = t.1 in omega arith)

-- ---- reductions

module _ (m n : ℕ) (r : Reducer) (head : Head) (filter : Expr) (h : Low m filter) where
  numbers-low : (k : Kind) (e : Expr) → Low n e → IfPart (LowPart (suc (max m n))) (ok_of (of_numbers_as k r head filter e))
  numbers-low (Kinds.Of t) e g = if-good (LowPart (suc (max m n))) (is_number (Kinds.Of t)) T8 r.place (folded r t head filter e) (omega arith)
  numbers-low Kinds.Flexible e g = tt
  numbers-low Kinds.Edge e g = tt

  of-numbers-low : (p : Part) → LowPart n p → IfPart (LowPart (suc (max m n))) (ok_of (of_numbers r head filter p))
  of-numbers-low p g = let same : depth (settled p).core ≡ depth p.core = settled-same p.kind p in numbers-low (settled p).kind (settled p).core (omega arith)

  conditions-low : (start : Place) (t : VType) (p : Part) → LowPart n p → IfPart (LowPart (suc (max m n))) (ok_of (of_conditions start t r head filter p))
  conditions-low start t p g = if-good (LowPart (suc (max m n))) (is_flag p.kind) T10 start (folded r t head filter p.core) (omega arith)

  reduction-low : (word : ReductionWord) (start : Place) (p : Part) → LowPart n p → IfPart (LowPart (suc (max m n))) (ok_of (reduction_part word start r head filter p))
  reduction-low Words.Sum start p g = of-numbers-low p g
  reduction-low Words.Product start p g = of-numbers-low p g
  reduction-low Words.Min start p g = of-numbers-low p g
  reduction-low Words.Max start p g = of-numbers-low p g
  reduction-low Words.Count start p g = conditions-low start I32 p g
  reduction-low Words.Exist start p g = conditions-low start Flag p g
  reduction-low Words.All start p g = conditions-low start Flag p g

-- ---- names

named-low : (s : Sort) (group : Bool) (at : Place) (b : Binding) → IfPart (LowPart 1) (ok_of (named_as s group at b))
named-low Sorts.Scalar group at b = omega arith
named-low Sorts.Iterator group at b = omega arith
named-low Sorts.Edge group at b = omega arith
named-low Sorts.Graph group at b = if-good (LowPart 1) group T7 at (part_of (Kinds.Of Node) (P.Var b.index at)) (omega arith)
named-low Sorts.NodeProperty group at b = tt
named-low Sorts.EdgeProperty group at b = tt

member-low : (group : Bool) (at : Place) (bs : Binding × Binding) → IfPart (LowPart 1) (ok_of (member_part group at bs))
member-low group at bs =
    let x = bs.0 in
    let p = bs.1 in
    if-else (LowPart 1) (stands_for_node group x.variable && is Sorts.NodeProperty p.variable) (Ok (part_of (Kinds.Of p.variable.vtype) (P.Property x.index p.index at)))
    (if is Sorts.Edge x.variable && is Sorts.EdgeProperty p.variable then Ok (part_of (Kinds.Of p.variable.vtype) (P.EdgeProperty x.index p.index at)) else refused T7 at) (omega arith)
    (if-else (LowPart 1) (is Sorts.Edge x.variable && is Sorts.EdgeProperty p.variable) (Ok (part_of (Kinds.Of p.variable.vtype) (P.EdgeProperty x.index p.index at))) (refused T7 at) (omega arith) tt)

method-low : (group : Bool) (at : Place) (q : Query) (b : Binding) → IfPart (LowPart 1) (ok_of (method_part group at q b))
method-low group at (Queries.Degree d) b = if-good (LowPart 1) (stands_for_node group b.variable) T7 at (part_of (Kinds.Of I32) (P.Degree d b.index at)) (omega arith)
method-low group at Queries.NodeCount b = if-good (LowPart 1) (is Sorts.Graph b.variable) T7 at (part_of (Kinds.Of I32) P.NodeCount) (omega arith)
method-low group at Queries.EdgeCount b = if-good (LowPart 1) (is Sorts.Graph b.variable) T7 at (part_of (Kinds.Of I32) P.EdgeCount) (omega arith)
method-low group at Queries.ToEdge b = tt
method-low group at Queries.Unknown b = tt

-- ---- expressions

-- a condition is as deep as its part
pub condition-low : (t : ℕ) (at : Place) (part : Env → Judged Part) (env : Env) → IfPart (LowPart t) (part env).part → IfPart (Low t) (condition at part env).part
condition-low t at part env h = if-by (LowPart t) (Low t) (part env).part (λ p. refused_unless (is_flag p.kind) T10 at p.core) h (λ p g. if-good (Low t) (is_flag p.kind) T10 at p.core g)

pub typed-low : (e : SurfaceExpr) (env : Env) → IfPart (LowPart (tree_depth e)) (typed e env).part
typed-low Always env = omega arith
typed-low (Number at n) env = omega arith
typed-low (Truth at b) env = omega arith
typed-low (Nil at) env = omega arith
typed-low (Greatest at) env = omega arith
typed-low (Least at) env = omega arith
typed-low (Named x) env = if-by (λ b. Unit {0}) (LowPart 1) (used x env).part _ (anything (used x env).part) (λ b u. named-low b.variable.sort env.group x.place b)
typed-low (Member x p) env = if-by (λ b. Unit {0}) (LowPart 1) (both (used x) (used p) env).part _ (anything (both (used x) (used p) env).part) (λ b u. member-low env.group x.place b)
typed-low (Method x m) env = if-by (λ b. Unit {0}) (LowPart 1) (used x env).part _ (anything (used x env).part) (λ b u. method-low env.group x.place (query_of m.text) b)
typed-low (Paren at e) env = if-weaker (LowPart (tree_depth e)) (LowPart (suc (tree_depth e))) (typed e env).part (λ p h. omega arith) (typed-low e env)
typed-low (Prefixed at op e) env =
    if-by (LowPart (tree_depth e)) (LowPart (suc (tree_depth e))) (typed e env).part (prefix_part at op) (typed-low e env) (λ p h. prefix-low (tree_depth e) at op p h)
typed-low (Infixed at op a b) env =
    let m = tree_depth a in
    let n = tree_depth b in
    if-by (λ (p : Part × Part). LowPart m p.0 × LowPart n p.1) (LowPart (suc (suc (max m n)))) (both (typed a) (typed b) env).part (infix_part at op)
    (if-both (LowPart m) (LowPart n) (typed a env).part (typed b (later env (typed a env))).part (typed-low a env) (typed-low b (later env (typed a env))))
    (λ p h. infix-low m n at p.0 p.1 h.0 h.1 op)
typed-low (Choose at c a b) env =
    let l = tree_depth c in
    let m = tree_depth a in
    let n = tree_depth b in
    let test = condition (start_of c) (typed c) in
    let after = later env (test env) in
    if-by (λ (p : Expr × (Part × Part)). Low l p.0 × (LowPart m p.1.0 × LowPart n p.1.1)) (LowPart (suc (suc (max l (max m n))))) (both test (both (typed a) (typed b)) env).part (choice_part at)
    (if-both (Low l) (λ (p : Part × Part). LowPart m p.0 × LowPart n p.1) (test env).part (both (typed a) (typed b) after).part (condition-low l (start_of c) (typed c) env (typed-low c env))
    (if-both (LowPart m) (LowPart n) (typed a after).part (typed b (later after (typed a after))).part (typed-low a after) (typed-low b (later after (typed a after)))))
    (λ p h. choice-low m n at p.1.0 p.1.1 h.1.0 h.1.1 l p.0 (joint p.1.0.kind p.1.1.kind) h.0)
typed-low (Reduction at word h filter body close) env =
    let m = tree_depth filter in
    let n = tree_depth body in
    let r = reducer_at env at word close in
    let test = keyed r.filter (condition (start_of filter) (typed filter)) in
    let inner = both test (keyed r.body (typed body)) in
    let outer = counted (fold_numbers env) (iterated h.iterator 1 inner) in
    let P1 = λ (p : Expr × Part). Low m p.0 × LowPart n p.1 in
    let P2 = λ (p : ℕ × (Expr × Part)). Unit {0} × P1 p.1 in
    let env1 = later env (ranged h env) in
    let env2 : Env = record env1 { number = env1.number + fold_numbers env } in
    let env3 = inside env2 h.iterator 1 in
    let env4 : Env = record env3 { key = r.filter } in
    let env5 = later env3 (test env3) in
    let env6 : Env = record env5 { key = r.body } in
    if-by (λ (p : Binding × (ℕ × (Expr × Part))). Unit {0} × P2 p.1) (LowPart (suc (max m n))) (both (ranged h) outer env).part (reduction_rule r (start_of body) h)
    (if-both (λ b. Unit {0}) P2 (ranged h env).part (outer env1).part (anything (ranged h env).part)
    (if-both (λ i. Unit {0}) P1 (Some env2.next) (inner env3).part tt
    (if-both (Low m) (LowPart n) (test env3).part (keyed r.body (typed body) env5).part (condition-low m (start_of filter) (typed filter) env4 (typed-low filter env4)) (typed-low body env6))))
    (λ p g. reduction-low m n r (head_with h p.0 p.1.0) p.1.1.0 g.1.1.0 r.word (start_of body) p.1.1.1 g.1.1.1)
