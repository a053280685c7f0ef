-- What typing keeps of expressions, where their parts have it.
use Rattle.std.proofs.Common.{ℕ, Bool, true, false, List, [], ◌∷◌, ◌++◌, Option, Some, None, Ok, Err}
use Rattle.std.specs.Prelude.{◌&&◌, ◌||◌, if◌then◌else◌}
use Rattle.gm_base.specs.declared.places.Place.{Place}
use Rattle.gm_base.specs.declared.rules.Rule.{Rule}
use Rattle.gm_base.specs.declared.rules.Rule.TheVariants.{T7, T8, T10}
use Rattle.gm_value.specs.declared.values.VType.{VType}
use Rattle.gm_value.specs.declared.values.VType.TheVariants.{I32, I64, Flag, Node}
use Rattle.gm_value.specs.declared.operations.Op1.{Op1}
use Rattle.gm_value.specs.declared.operations.Op1.TheVariants as Ops
use Rattle.gm_value.specs.declared.operations.Op2.{Op2}
use Rattle.gm_value.specs.declared.values.Value.{Value}
use Rattle.gm_ast.specs.declared.tree.Direction.{Direction}
use Rattle.gm_ast.specs.declared.tree.Sort.{Sort}
use Rattle.gm_ast.specs.declared.tree.Sort.TheVariants as Sorts
use Rattle.gm_ast.specs.declared.kinds.Binding.{Binding}
use Rattle.gm_ast.specs.declared.kinds.Kind.{Kind}
use Rattle.gm_ast.specs.declared.kinds.Kind.TheVariants as Kinds
use Rattle.gm_ast.specs.declared.kinds.Query.{Query}
use Rattle.gm_ast.specs.declared.kinds.Query.TheVariants as Queries
use Rattle.gm_ast.specs.declared.surface.ReductionWord.{ReductionWord}
use Rattle.gm_ast.specs.declared.surface.Prefix.{Prefix}
use Rattle.gm_ast.specs.declared.surface.Prefix.TheVariants as Prefixes
use Rattle.gm_ast.specs.declared.surface.Infix.{Infix}
use Rattle.gm_ast.specs.declared.surface.Infix.TheVariants as Infixes
use Rattle.gm_ast.specs.Surface.{SurfaceHead, SurfaceExpr, Always, Number, Truth, Nil, Greatest, Least, Named, Member, Method, Paren, Prefixed, Infixed, Choose, Reduction}
use Rattle.gm_ast.specs.Program as P
use Rattle.gm_ast.specs.Program.{Expr}
use Rattle.gm_ast.specs.Judged.{Judged, Answer, judge, ok_of, refused, refused_unless, then_answer}
use Rattle.gm_ast.specs.Names.{Env, is, used, both, later}
use Rattle.gm_ast.specs.Kinds.{Part, part_of, narrowed, as_int, as_long, int_of, taken, joint, settled, settled_as, is_empty, is_number, is_flag, accepts, fitted}
use Rattle.gm_ast.specs.Typing.{typed, condition, start_of, named_as, named_part, member_part, method_part, query_of, stands_for_node, is_already, changed_part, cast_part, prefix_part, paired, paired_after, large_of, compares_any, is_arithmetic, is_value, compared_as, operation, operation_by, infix_part, choice_by, choice_part}
use Rattle.gm_ready.proofs.Judging.{IfPart, if-by, if-both, if-good, if-then, if-else}

pub anything : {A : Type 0} (o : Option A) → IfPart (λ a. Unit {0}) o
anything None = tt
anything (Some a) = tt

-- a fact on expressions that goes from parts to what is made of them
pub record IsKept (Q : Expr → Type 0) : Type 0 where
  pub constant : (v : Value) → Q (P.Const v)
  pub variable : (x : ℕ) (at : Place) → Q (P.Var x at)
  pub property : (x p : ℕ) (at : Place) → Q (P.Property x p at)
  pub edge : (x p : ℕ) (at : Place) → Q (P.EdgeProperty x p at)
  pub degree : (d : Direction) (x : ℕ) (at : Place) → Q (P.Degree d x at)
  pub nodes : Q P.NodeCount
  pub edges : Q P.EdgeCount
  pub unary : (op : Op1) (at : Place) (e : Expr) → Q e → Q (P.Unary op at e)
  pub binary : (op : Op2) (at : Place) (a b : Expr) → Q a → Q b → Q (P.Binary op at a b)
  pub both : (a b : Expr) → Q a → Q b → Q (P.Both a b)
  pub either : (a b : Expr) → Q a → Q b → Q (P.Either a b)
  pub choose : (c a b : Expr) → Q c → Q a → Q b → Q (P.Choose c a b)
  pub narrow : (e : Expr) → Q e → Q (narrowed e)

module _ (Q : Expr → Type 0) (kept : IsKept Q) where
  abbrev pub KeptPart : Part → Type 0
  KeptPart p = Q p.core

  abbrev IfKept : Answer Expr → Type 0
  IfKept a = IfPart Q (ok_of a)

  abbrev IfKeptPart : Answer Part → Type 0
  IfKeptPart a = IfPart KeptPart (ok_of a)

  -- ---- how a part fits where it is wanted

  as_int-kept : (large : List Place) (e : Expr) → Q e → IfKept (as_int (record { kind = Kinds.Flexible; core = e; large = large }))
  as_int-kept [] e h = kept.narrow e h
  as_int-kept (x ∷ xs) e h = tt

  int_of-kept : (k : Kind) (p : Part) → KeptPart p → IfKept (int_of k p)
  int_of-kept Kinds.Flexible p h = as_int-kept p.large p.core h
  int_of-kept (Kinds.Of t) p h = h
  int_of-kept Kinds.Edge p h = h

  as_long-kept : (at : Place) (k : Kind) (e : Expr) → Q e → Q (as_long at k e)
  as_long-kept at Kinds.Flexible e h = h
  as_long-kept at (Kinds.Of I32) e h = kept.unary Ops.ToI64 at e h
  as_long-kept at (Kinds.Of I64) e h = h
  as_long-kept at (Kinds.Of Flag) e h = h
  as_long-kept at (Kinds.Of Node) e h = h
  as_long-kept at Kinds.Edge e h = h

  taken-kept : (k : Kind) (at : Place) (p : Part) → KeptPart p → IfKept (taken k at p)
  taken-kept (Kinds.Of I32) at p h = int_of-kept p.kind p h
  taken-kept (Kinds.Of I64) at p h = as_long-kept at p.kind p.core h
  taken-kept (Kinds.Of Flag) at p h = h
  taken-kept (Kinds.Of Node) at p h = h
  taken-kept Kinds.Flexible at p h = h
  taken-kept Kinds.Edge at p h = h

  pub fitted-kept : (t : VType) (rule : Rule) (at : Place) (p : Part) → KeptPart p → IfKept (fitted t rule at p)
  fitted-kept t rule at p h = if-else Q (accepts t p.kind) (taken (Kinds.Of t) at p) (refused rule at) (λ _. taken-kept (Kinds.Of t) at p h) (λ _. tt)

  pub settled-kept : (k : Kind) (p : Part) → KeptPart p → KeptPart (settled_as k p)
  settled-kept Kinds.Flexible p h = by (is_empty p.large)
    where
      by : (none : Bool) → KeptPart (if none then part_of (Kinds.Of I32) (narrowed p.core) else part_of (Kinds.Of I64) p.core)
      by true = kept.narrow p.core h
      by false = h
  settled-kept (Kinds.Of t) p h = h
  settled-kept Kinds.Edge p h = h

  abbrev KeptPair : Expr × Expr → Type 0
  KeptPair p = Q p.0 × Q p.1

  pairs-kept : (a b : Answer Expr) → IfKept a → IfKept b → IfPart KeptPair (ok_of (paired_after a b))
  pairs-kept (Err rs) b h g = tt
  pairs-kept (Ok a) (Err rs) h g = tt
  pairs-kept (Ok a) (Ok b) h g = (h, g)

  paired-kept : (at : Place) (k : Kind) (a b : Part) → KeptPart a → KeptPart b → IfPart KeptPair (ok_of (paired at k a b))
  paired-kept at k a b h g = pairs-kept (taken k at a) (taken k at b) (taken-kept k at a h) (taken-kept k at b g)

  -- ---- names

  named-kept : (s : Sort) (group : Bool) (at : Place) (b : Binding) → IfKeptPart (named_as s group at b)
  named-kept Sorts.Scalar group at b = kept.variable b.index at
  named-kept Sorts.Iterator group at b = kept.variable b.index at
  named-kept Sorts.Edge group at b = kept.variable b.index at
  named-kept Sorts.Graph group at b = if-good KeptPart group T7 at _ (λ _. kept.variable b.index at)
  named-kept Sorts.NodeProperty group at b = tt
  named-kept Sorts.EdgeProperty group at b = tt

  member-kept : (group : Bool) (at : Place) (bs : Binding × Binding) → IfKeptPart (member_part group at bs)
  member-kept group at bs =
      let x = bs.0 in
      let p = bs.1 in
      let edge = if is Sorts.Edge x.variable && is Sorts.EdgeProperty p.variable then Ok (part_of (Kinds.Of p.variable.vtype) (P.EdgeProperty x.index p.index at)) else refused T7 at in
      if-else KeptPart (stands_for_node group x.variable && is Sorts.NodeProperty p.variable) (Ok (part_of (Kinds.Of p.variable.vtype) (P.Property x.index p.index at))) edge
      (λ _. kept.property x.index p.index at)
      (λ _. if-else KeptPart (is Sorts.Edge x.variable && is Sorts.EdgeProperty p.variable) (Ok (part_of (Kinds.Of p.variable.vtype) (P.EdgeProperty x.index p.index at))) (refused T7 at) (λ _. kept.edge x.index p.index at) (λ _. tt))

  method-kept : (group : Bool) (at : Place) (q : Query) (b : Binding) → IfKeptPart (method_part group at q b)
  method-kept group at (Queries.Degree d) b = if-good KeptPart (stands_for_node group b.variable) T7 at _ (λ _. kept.degree d b.index at)
  method-kept group at Queries.NodeCount b = if-good KeptPart (is Sorts.Graph b.variable) T7 at _ (λ _. kept.nodes)
  method-kept group at Queries.EdgeCount b = if-good KeptPart (is Sorts.Graph b.variable) T7 at _ (λ _. kept.edges)
  method-kept group at Queries.ToEdge b = tt
  method-kept group at Queries.Unknown b = tt

  -- ---- operators

  changed-kept : (t : VType) (at : Place) (p : Part) → KeptPart p → KeptPart (changed_part t at p)
  changed-kept I32 at p h = kept.unary Ops.ToI32 at p.core h
  changed-kept I64 at p h = kept.unary Ops.ToI64 at p.core h
  changed-kept Flag at p h = h
  changed-kept Node at p h = h

  cast-kept : (t : VType) (at : Place) (p : Part) → KeptPart p → KeptPart (cast_part t at p)
  cast-kept t at p h = by (is_already t p.kind)
    where
      by : (same : Bool) → KeptPart (if same then p else changed_part t at p)
      by true = h
      by false = changed-kept t at p h

  prefix-kept : (at : Place) (op : Prefix) (p : Part) → KeptPart p → IfKeptPart (prefix_part at op p)
  prefix-kept at Prefixes.Minus p h = if-good KeptPart (is_number p.kind) T8 at _ (λ _. kept.unary Ops.Neg at p.core h)
  prefix-kept at Prefixes.Not p h = if-good KeptPart (is_flag p.kind) T8 at _ (λ _. kept.unary Ops.Not at p.core h)
  prefix-kept at (Prefixes.Cast t) p h = if-good KeptPart (is_number p.kind) T8 at _ (λ _. cast-kept t at (settled p) (settled-kept p.kind p h))

  operation-kept : (at : Place) (op : Op2) (k : Kind) (a b : Part) → KeptPart a → KeptPart b → IfKeptPart (operation at op k a b)
  operation-kept at op k a b h g =
      let large = large_of k (a.large ++ b.large) in
      let c = compared_as k large in
      let number = if is_number k then then_answer (paired at k a b) (λ p. record { kind = k; core = P.Binary op at p.0 p.1; large = large }) else refused T8 at in
      let compared = if is_number k || (compares_any op && is_value k) then then_answer (paired at c a b) (λ p. part_of (Kinds.Of Flag) (P.Binary op at p.0 p.1)) else refused T8 at in
      if-else KeptPart (is_arithmetic op) number compared
      (λ _. if-else KeptPart (is_number k) (then_answer (paired at k a b) (λ p. record { kind = k; core = P.Binary op at p.0 p.1; large = large })) (refused T8 at)
      (λ _. if-then KeptPair KeptPart (paired at k a b) (λ p. record { kind = k; core = P.Binary op at p.0 p.1; large = large }) (paired-kept at k a b h g) (λ p m. kept.binary op at p.0 p.1 m.0 m.1)) (λ _. tt))
      (λ _. if-else KeptPart (is_number k || (compares_any op && is_value k)) (then_answer (paired at c a b) (λ p. part_of (Kinds.Of Flag) (P.Binary op at p.0 p.1))) (refused T8 at)
      (λ _. if-then KeptPair KeptPart (paired at c a b) (λ p. part_of (Kinds.Of Flag) (P.Binary op at p.0 p.1)) (paired-kept at c a b h g) (λ p m. kept.binary op at p.0 p.1 m.0 m.1)) (λ _. tt))

  operation_by-kept : (at : Place) (op : Op2) (o : Option Kind) (a b : Part) → KeptPart a → KeptPart b → IfKeptPart (operation_by at op o a b)
  operation_by-kept at op None a b h g = tt
  operation_by-kept at op (Some k) a b h g = operation-kept at op k a b h g

  infix-kept : (at : Place) (op : Infix) (xs : Part × Part) → KeptPart xs.0 × KeptPart xs.1 → IfKeptPart (infix_part at op xs)
  infix-kept at (Infixes.Op op) xs h = operation_by-kept at op (joint xs.0.kind xs.1.kind) xs.0 xs.1 h.0 h.1
  infix-kept at Infixes.And xs h = if-good KeptPart (is_flag xs.0.kind && is_flag xs.1.kind) T8 at _ (λ _. kept.both xs.0.core xs.1.core h.0 h.1)
  infix-kept at Infixes.Or xs h = if-good KeptPart (is_flag xs.0.kind && is_flag xs.1.kind) T8 at _ (λ _. kept.either xs.0.core xs.1.core h.0 h.1)

  choice_by-kept : (at : Place) (o : Option Kind) (c : Expr) (a b : Part) → Q c → KeptPart a → KeptPart b → IfKeptPart (choice_by at o c a b)
  choice_by-kept at None c a b f h g = tt
  choice_by-kept at (Some k) c a b f h g =
      if-then KeptPair KeptPart (paired at k a b) (λ p. record { kind = k; core = P.Choose c p.0 p.1; large = large_of k (a.large ++ b.large) }) (paired-kept at k a b h g) (λ p m. kept.choose c p.0 p.1 f m.0 m.1)

  -- ---- an expression, where what stands around it is of a mode, which goes on behind a part

  pub condition-kept : (at : Place) (o : Judged Part) → IfPart KeptPart o.part → IfPart Q (judge o (λ p. refused_unless (is_flag p.kind) T10 at p.core)).part
  condition-kept at o h = if-by KeptPart Q o.part (λ p. refused_unless (is_flag p.kind) T10 at p.core) h (λ p k. if-good Q (is_flag p.kind) T10 at p.core (λ _. k))

  module _ (Mode : Env → Type 0) where
    abbrev pub Keeps : SurfaceExpr → Type 0
    Keeps e = (env : Env) → Mode env → IfPart KeptPart (typed e env).part

    module _ (goes-on : (A : Type 0) (env : Env) (x : Judged A) → Mode env → Mode (later env x))
        (folds : (at : Place) (word : ReductionWord) (h : SurfaceHead) (filter body : SurfaceExpr) (close : Place) → Keeps filter → Keeps body → Keeps (Reduction at word h filter body close)) where
      pub typed-kept : (e : SurfaceExpr) → Keeps e
      typed-kept Always env m = kept.constant _
      typed-kept (Number at n) env m = kept.constant _
      typed-kept (Truth at b) env m = kept.constant _
      typed-kept (Nil at) env m = kept.constant _
      typed-kept (Greatest at) env m = kept.constant _
      typed-kept (Least at) env m = kept.constant _
      typed-kept (Named x) env m = if-by (λ b. Unit {0}) KeptPart (used x env).part (named_part env.group x.place) (anything (used x env).part) (λ b _. named-kept b.variable.sort env.group x.place b)
      typed-kept (Member x p) env m = if-by (λ b. Unit {0}) KeptPart (both (used x) (used p) env).part (member_part env.group x.place) (anything (both (used x) (used p) env).part) (λ bs _. member-kept env.group x.place bs)
      typed-kept (Method x n) env m = if-by (λ b. Unit {0}) KeptPart (used x env).part (method_part env.group x.place (query_of n.text)) (anything (used x env).part) (λ b _. method-kept env.group x.place (query_of n.text) b)
      typed-kept (Paren at e) env m = typed-kept e env m
      typed-kept (Prefixed at op e) env m = if-by KeptPart KeptPart (typed e env).part (prefix_part at op) (typed-kept e env m) (λ p k. prefix-kept at op p k)
      typed-kept (Infixed at op a b) env m =
          let x = typed a env in
          let y = typed b (later env x) in
          if-by (λ xs. KeptPart xs.0 × KeptPart xs.1) KeptPart (both (typed a) (typed b) env).part (infix_part at op)
          (if-both KeptPart KeptPart x.part y.part (typed-kept a env m) (typed-kept b (later env x) (goes-on Part env x m))) (λ xs k. infix-kept at op xs k)
      typed-kept (Choose at c a b) env m =
          let z = condition (start_of c) (typed c) env in
          let x = typed a (later env z) in
          let y = typed b (later (later env z) x) in
          if-by (λ xs. Q xs.0 × (KeptPart xs.1.0 × KeptPart xs.1.1)) KeptPart (both (condition (start_of c) (typed c)) (both (typed a) (typed b)) env).part (choice_part at)
          (if-both Q (λ xs. KeptPart xs.0 × KeptPart xs.1) z.part (both (typed a) (typed b) (later env z)).part (condition-kept (start_of c) (typed c env) (typed-kept c env m))
          (if-both KeptPart KeptPart x.part y.part (typed-kept a (later env z) (goes-on Expr env z m)) (typed-kept b (later (later env z) x) (goes-on Part (later env z) x (goes-on Expr env z m)))))
          (λ xs k. choice_by-kept at (joint xs.1.0.kind xs.1.1.kind) xs.0 xs.1.0 xs.1.1 k.0 k.1.0 k.1.1)
      typed-kept (Reduction at word h filter body close) env m = folds at word h filter body close (typed-kept filter) (typed-kept body) env m
