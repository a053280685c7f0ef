-- What typing keeps of expressions, where their parts have it.
use Rattle.std.proofs.Common.{◌≡◌, ℕ, Bool, true, false, List, [], ◌∷◌, ◌++◌, inl, inr, refl, sym, ◌∙◌, Option, Some, None, Ok, Err}
use Rattle.std.specs.Prelude.{◌&&◌, ◌||◌, if◌then◌else◌}
use Rattle.std.proofs.lemmas.Bool.{false≢true}
use Rattle.gm_base.specs.declared.places.Place.{Place}
use Rattle.gm_base.specs.declared.rules.Rule.{Rule}
use Rattle.gm_base.specs.declared.rules.Rule.TheVariants.{T7, T8, T10}
use Rattle.gm_value.specs.declared.values.VType.{VType}
use Rattle.gm_value.specs.declared.values.VType.TheVariants.{I32, I64, Flag, Node}
use Rattle.gm_value.specs.declared.operations.Op1.{Op1}
use Rattle.gm_value.specs.declared.operations.Op2.{Op2}
use Rattle.gm_value.specs.declared.operations.Op2.TheVariants as Ops
use Rattle.gm_value.specs.declared.values.Value.{Value}
use Rattle.gm_ast.specs.declared.tree.Direction.{Direction}
use Rattle.gm_ast.specs.declared.tree.Sort.{Sort}
use Rattle.gm_ast.specs.declared.tree.Sort.TheVariants as Sorts
use Rattle.gm_ast.specs.declared.kinds.Binding.{Binding}
use Rattle.gm_ast.specs.declared.kinds.Kind.{Kind}
use Rattle.gm_ast.specs.declared.kinds.Kind.TheVariants as Kinds
use Rattle.gm_ast.specs.declared.kinds.Query.{Query}
use Rattle.gm_ast.specs.declared.kinds.Query.TheVariants as Queries
use Rattle.gm_ast.specs.declared.surface.ReductionWord.{ReductionWord}
use Rattle.gm_ast.specs.declared.surface.Prefix.{Prefix}
use Rattle.gm_ast.specs.declared.surface.Prefix.TheVariants as Prefixes
use Rattle.gm_ast.specs.declared.surface.Infix.{Infix}
use Rattle.gm_ast.specs.declared.surface.Infix.TheVariants as Infixes
use Rattle.gm_ast.specs.Surface.{SurfaceHead, SurfaceExpr, Always, Number, Truth, Nil, Greatest, Least, Named, Member, Method, Paren, Prefixed, Infixed, Choose, Reduction}
use Rattle.gm_ast.specs.Program as P
use Rattle.gm_ast.specs.Program.{Expr}
use Rattle.gm_ast.specs.Judged.{Judged, Answer, judge, ok_of, refused, refused_unless, then_answer}
use Rattle.gm_ast.specs.Names.{Env, is, used, both, later}
use Rattle.gm_ast.specs.Kinds.{Part, part_of, narrowed, as_int, as_long, int_of, taken, flexible_beside, joint_type, joint, is_number_type, settled, settled_as, is_empty, is_number, is_flag, accepts, fitted}
use Rattle.gm_ast.specs.Typing.{typed, condition, start_of, named_as, named_part, member_part, method_part, query_of, stands_for_node, is_already, changed_part, cast_part, prefix_part, paired, paired_after, large_of, compares_any, is_arithmetic, is_value, compared_as, operation, operation_by, infix_part, choice_by, choice_part}
use Rattle.gm_ready.proofs.Judging.{IfPart, if-by, if-both, if-good, if-then, if-else}
use Rattle.gm_order.proofs.Parts.{anything}
use Rattle.gm_forms.specs.Order.{can_fail1, can_fail2}
use Rattle.gm_order.specs.Places.{ascend, is_absent, closing, right_behind, places_in}
use Rattle.gm_order.proofs.Befores.{Among, among-right, HasPlace, Followed, follows, ascend-tail, ascend-left, ascend-right}

-- ---- where numbers stand

pub if-and : {A : Type 0} (P Q : A → Type 0) (o : Option A) → IfPart P o → IfPart Q o → IfPart (λ a. P a × Q a) o
if-and P Q None h k = tt
if-and P Q (Some a) h k = (h, k)

if-map : {A : Type 0} (P Q : A → Type 0) (o : Option A) → ((a : A) → P a → Q a) → IfPart P o → IfPart Q o
if-map P Q None f h = tt
if-map P Q (Some a) f h = f a h

-- a number beside another kind, as one of both
flexible-number : (k : Kind) → IfPart (λ m. is_number m ≡ true → is_number k ≡ true) (flexible_beside k)
flexible-number k = by (is_number k) refl
  where
    by : (b : Bool) → is_number k ≡ b → IfPart (λ m. is_number m ≡ true → is_number k ≡ true) (if b then Some k else None)
    by true e = λ _. e
    by false e = tt

number-flexible : (k : Kind) → IfPart (λ m. is_number m ≡ true → is_number Kinds.Flexible ≡ true) (flexible_beside k)
number-flexible k = by (is_number k)
  where
    by : (b : Bool) → IfPart (λ m. is_number m ≡ true → is_number Kinds.Flexible ≡ true) (if b then Some k else None)
    by true = λ _. refl
    by false = tt

types-number : (t u : VType) → IfPart (λ m. is_number m ≡ true → is_number_type u ≡ true) (joint_type t u)
types-number I32 I32 = λ h. refl
types-number I32 I64 = λ h. refl
types-number I32 Flag = tt
types-number I32 Node = tt
types-number I64 I32 = λ h. refl
types-number I64 I64 = λ h. refl
types-number I64 Flag = tt
types-number I64 Node = tt
types-number Flag I32 = tt
types-number Flag I64 = tt
types-number Flag Flag = λ h. h
types-number Flag Node = tt
types-number Node I32 = tt
types-number Node I64 = tt
types-number Node Flag = tt
types-number Node Node = λ h. h

joint-number : (j k : Kind) → IfPart (λ m. is_number m ≡ true → is_number k ≡ true) (joint j k)
joint-number Kinds.Flexible k = flexible-number k
joint-number (Kinds.Of t) Kinds.Flexible = number-flexible (Kinds.Of t)
joint-number (Kinds.Of t) (Kinds.Of u) = types-number t u
joint-number (Kinds.Of t) Kinds.Edge = tt
joint-number Kinds.Edge Kinds.Flexible = tt
joint-number Kinds.Edge (Kinds.Of u) = tt
joint-number Kinds.Edge Kinds.Edge = λ h. h

-- an operator that may fail is one of arithmetic
fails-alike : (op : Op2) → can_fail2 op ≡ is_arithmetic op
fails-alike Ops.Add = refl
fails-alike Ops.Sub = refl
fails-alike Ops.Mul = refl
fails-alike Ops.Div = refl
fails-alike Ops.Rem = refl
fails-alike Ops.Eq = refl
fails-alike Ops.Ne = refl
fails-alike Ops.Lt = refl
fails-alike Ops.Le = refl
fails-alike Ops.Gt = refl
fails-alike Ops.Ge = refl

-- what is absent is no number, and all else has a place
abbrev NumberHasPlace : SurfaceExpr → Part → Type 0
NumberHasPlace e p = is_number p.kind ≡ true → HasPlace (places_in e)

stands : (e : SurfaceExpr) (o : Option Part) → HasPlace (places_in e) → IfPart (NumberHasPlace e) o
stands e None h = tt
stands e (Some p) h = λ _. h

number-place : (e : SurfaceExpr) (env : Env) → IfPart (NumberHasPlace e) (typed e env).part
number-place Always env = λ h. absurd (false≢true h)
number-place (Number at n) env = stands (Number at n) (typed (Number at n) env).part (at, inl refl)
number-place (Truth at b) env = stands (Truth at b) (typed (Truth at b) env).part (at, inl refl)
number-place (Nil at) env = stands (Nil at) (typed (Nil at) env).part (at, inl refl)
number-place (Greatest at) env = stands (Greatest at) (typed (Greatest at) env).part (at, inl refl)
number-place (Least at) env = stands (Least at) (typed (Least at) env).part (at, inl refl)
number-place (Named x) env = stands (Named x) (typed (Named x) env).part (x.place, inl refl)
number-place (Member x p) env = stands (Member x p) (typed (Member x p) env).part (x.place, inl refl)
number-place (Method x m) env = stands (Method x m) (typed (Method x m) env).part (x.place, inl refl)
number-place (Paren at e) env = stands (Paren at e) (typed (Paren at e) env).part (at, inl refl)
number-place (Prefixed at op e) env = stands (Prefixed at op e) (typed (Prefixed at op e) env).part (at, inl refl)
number-place (Infixed at op a b) env = stands (Infixed at op a b) (typed (Infixed at op a b) env).part (at, among-right (places_in a) (at ∷ places_in b) at (inl refl))
number-place (Choose at c a b) env = stands (Choose at c a b) (typed (Choose at c a b) env).part (at, among-right (places_in c) (at ∷ (places_in a ++ places_in b)) at (inl refl))
number-place (Reduction at word h filter body close) env = stands (Reduction at word h filter body close) (typed (Reduction at word h filter body close) env).part (at, inl refl)

-- what is absent is True
abbrev pub AbsentIsTrue : SurfaceExpr → Part → Type 0
AbsentIsTrue e p = is_absent e ≡ true → p.core ≡ P.always

present : (e : SurfaceExpr) (o : Option Part) → is_absent e ≡ false → IfPart (AbsentIsTrue e) o
present e None h = tt
present e (Some p) h = λ k. absurd (false≢true (sym h ∙ k))

pub absent-core : (e : SurfaceExpr) (env : Env) → IfPart (AbsentIsTrue e) (typed e env).part
absent-core Always env = λ _. refl
absent-core (Number at n) env = present (Number at n) (typed (Number at n) env).part refl
absent-core (Truth at b) env = present (Truth at b) (typed (Truth at b) env).part refl
absent-core (Nil at) env = present (Nil at) (typed (Nil at) env).part refl
absent-core (Greatest at) env = present (Greatest at) (typed (Greatest at) env).part refl
absent-core (Least at) env = present (Least at) (typed (Least at) env).part refl
absent-core (Named x) env = present (Named x) (typed (Named x) env).part refl
absent-core (Member x p) env = present (Member x p) (typed (Member x p) env).part refl
absent-core (Method x m) env = present (Method x m) (typed (Method x m) env).part refl
absent-core (Paren at e) env = present (Paren at e) (typed (Paren at e) env).part refl
absent-core (Prefixed at op e) env = present (Prefixed at op e) (typed (Prefixed at op e) env).part refl
absent-core (Infixed at op a b) env = present (Infixed at op a b) (typed (Infixed at op a b) env).part refl
absent-core (Choose at c a b) env = present (Choose at c a b) (typed (Choose at c a b) env).part refl
absent-core (Reduction at word h filter body close) env = present (Reduction at word h filter body close) (typed (Reduction at word h filter body close) env).part refl

-- a fact on expressions at some places that goes from parts to what is made of them
pub record IsKept (Q : List Place → Expr → Type 0) : Type 0 where
  pub constant : (ps : List Place) (v : Value) → Q ps (P.Const v)
  pub variable : (ps : List Place) (x : ℕ) (at : Place) → Q ps (P.Var x at)
  pub property : (ps : List Place) (x p : ℕ) (at : Place) → Among ps at → Q ps (P.Property x p at)
  pub edge : (ps : List Place) (x p : ℕ) (at : Place) → Q ps (P.EdgeProperty x p at)
  pub degree : (ps : List Place) (d : Direction) (x : ℕ) (at : Place) → Among ps at → Q ps (P.Degree d x at)
  pub nodes : (ps : List Place) → Q ps P.NodeCount
  pub edges : (ps : List Place) → Q ps P.EdgeCount
  pub unary : (ps : List Place) (op : Op1) (at : Place) (e : Expr) → Among ps at → (can_fail1 op ≡ true → Followed ps at) → Q ps e → Q ps (P.Unary op at e)
  pub long : (ps : List Place) (at : Place) (e : Expr) → Q ps e → Q ps (P.Unary Op1.ToI64 at e)
  pub wide : (ps qs : List Place) (e : Expr) → ((p : Place) → Among ps p → Among qs p) → Q ps e → Q qs e
  pub binary : (ps qs : List Place) (op : Op2) (at : Place) (a b : Expr) → ascend (ps ++ (at ∷ qs)) ≡ true → (can_fail2 op ≡ true → HasPlace qs) → Q ps a → Q qs b → Q (ps ++ (at ∷ qs)) (P.Binary op at a b)
  pub both : (ps qs : List Place) (at : Place) (a b : Expr) → ascend (ps ++ (at ∷ qs)) ≡ true → Q ps a → Q qs b → Q (ps ++ (at ∷ qs)) (P.Both a b)
  pub either : (ps qs : List Place) (at : Place) (a b : Expr) → ascend (ps ++ (at ∷ qs)) ≡ true → Q ps a → Q qs b → Q (ps ++ (at ∷ qs)) (P.Either a b)
  pub choose : (ps qs rs : List Place) (at : Place) (c a b : Expr) → ascend (ps ++ (at ∷ (qs ++ rs))) ≡ true → Q ps c → Q qs a → Q rs b → Q (ps ++ (at ∷ (qs ++ rs))) (P.Choose c a b)
  pub narrow : (ps : List Place) (e : Expr) → Q ps e → Q ps (narrowed e)

module _ (Q : List Place → Expr → Type 0) (kept : IsKept Q) where
  abbrev pub KeptPart : List Place → Part → Type 0
  KeptPart ps p = Q ps p.core

  abbrev IfKept : List Place → Answer Expr → Type 0
  IfKept ps a = IfPart (Q ps) (ok_of a)

  abbrev IfKeptPart : List Place → Answer Part → Type 0
  IfKeptPart ps a = IfPart (KeptPart ps) (ok_of a)

  -- ---- how a part fits where it is wanted

  as_int-kept : (ps : List Place) (large : List Place) (e : Expr) → Q ps e → IfKept ps (as_int (record { kind = Kinds.Flexible; core = e; large = large }))
  as_int-kept ps [] e h = kept.narrow ps e h
  as_int-kept ps (x ∷ xs) e h = tt

  int_of-kept : (ps : List Place) (k : Kind) (p : Part) → KeptPart ps p → IfKept ps (int_of k p)
  int_of-kept ps Kinds.Flexible p h = as_int-kept ps p.large p.core h
  int_of-kept ps (Kinds.Of t) p h = h
  int_of-kept ps Kinds.Edge p h = h

  as_long-kept : (ps : List Place) (at : Place) (k : Kind) (e : Expr) → Q ps e → Q ps (as_long at k e)
  as_long-kept ps at Kinds.Flexible e h = h
  as_long-kept ps at (Kinds.Of I32) e h = kept.long ps at e h
  as_long-kept ps at (Kinds.Of I64) e h = h
  as_long-kept ps at (Kinds.Of Flag) e h = h
  as_long-kept ps at (Kinds.Of Node) e h = h
  as_long-kept ps at Kinds.Edge e h = h

  taken-kept : (ps : List Place) (k : Kind) (at : Place) (p : Part) → KeptPart ps p → IfKept ps (taken k at p)
  taken-kept ps (Kinds.Of I32) at p h = int_of-kept ps p.kind p h
  taken-kept ps (Kinds.Of I64) at p h = as_long-kept ps at p.kind p.core h
  taken-kept ps (Kinds.Of Flag) at p h = h
  taken-kept ps (Kinds.Of Node) at p h = h
  taken-kept ps Kinds.Flexible at p h = h
  taken-kept ps Kinds.Edge at p h = h

  pub fitted-kept : (ps : List Place) (t : VType) (rule : Rule) (at : Place) (p : Part) → KeptPart ps p → IfKept ps (fitted t rule at p)
  fitted-kept ps t rule at p h = if-else (Q ps) (accepts t p.kind) (taken (Kinds.Of t) at p) (refused rule at) (λ _. taken-kept ps (Kinds.Of t) at p h) (λ _. tt)

  pub settled-kept : (ps : List Place) (k : Kind) (p : Part) → KeptPart ps p → KeptPart ps (settled_as k p)
  settled-kept ps Kinds.Flexible p h = by (is_empty p.large)
    where
      by : (none : Bool) → KeptPart ps (if none then part_of (Kinds.Of I32) (narrowed p.core) else part_of (Kinds.Of I64) p.core)
      by true = kept.narrow ps p.core h
      by false = h
  settled-kept ps (Kinds.Of t) p h = h
  settled-kept ps Kinds.Edge p h = h

  abbrev KeptPair : List Place → List Place → Expr × Expr → Type 0
  KeptPair ps qs p = Q ps p.0 × Q qs p.1

  pairs-kept : (ps qs : List Place) (a b : Answer Expr) → IfKept ps a → IfKept qs b → IfPart (KeptPair ps qs) (ok_of (paired_after a b))
  pairs-kept ps qs (Err rs) b h g = tt
  pairs-kept ps qs (Ok a) (Err rs) h g = tt
  pairs-kept ps qs (Ok a) (Ok b) h g = (h, g)

  paired-kept : (ps qs : List Place) (at : Place) (k : Kind) (a b : Part) → KeptPart ps a → KeptPart qs b → IfPart (KeptPair ps qs) (ok_of (paired at k a b))
  paired-kept ps qs at k a b h g = pairs-kept ps qs (taken k at a) (taken k at b) (taken-kept ps k at a h) (taken-kept qs k at b g)

  -- ---- names

  named-kept : (ps : List Place) (s : Sort) (group : Bool) (at : Place) (b : Binding) → IfKeptPart ps (named_as s group at b)
  named-kept ps Sorts.Scalar group at b = kept.variable ps b.index at
  named-kept ps Sorts.Iterator group at b = kept.variable ps b.index at
  named-kept ps Sorts.Edge group at b = kept.variable ps b.index at
  named-kept ps Sorts.Graph group at b = if-good (KeptPart ps) group T7 at _ (λ _. kept.variable ps b.index at)
  named-kept ps Sorts.NodeProperty group at b = tt
  named-kept ps Sorts.EdgeProperty group at b = tt

  member-kept : (ps : List Place) (group : Bool) (at : Place) (bs : Binding × Binding) → Among ps at → IfKeptPart ps (member_part group at bs)
  member-kept ps group at bs here =
      let x = bs.0 in
      let p = bs.1 in
      let edge = if is Sorts.Edge x.variable && is Sorts.EdgeProperty p.variable then Ok (part_of (Kinds.Of p.variable.vtype) (P.EdgeProperty x.index p.index at)) else refused T7 at in
      if-else (KeptPart ps) (stands_for_node group x.variable && is Sorts.NodeProperty p.variable) (Ok (part_of (Kinds.Of p.variable.vtype) (P.Property x.index p.index at))) edge
      (λ _. kept.property ps x.index p.index at here)
      (λ _. if-else (KeptPart ps) (is Sorts.Edge x.variable && is Sorts.EdgeProperty p.variable) (Ok (part_of (Kinds.Of p.variable.vtype) (P.EdgeProperty x.index p.index at))) (refused T7 at) (λ _. kept.edge ps x.index p.index at) (λ _. tt))

  method-kept : (ps : List Place) (group : Bool) (at : Place) (q : Query) (b : Binding) → Among ps at → IfKeptPart ps (method_part group at q b)
  method-kept ps group at (Queries.Degree d) b here = if-good (KeptPart ps) (stands_for_node group b.variable) T7 at _ (λ _. kept.degree ps d b.index at here)
  method-kept ps group at Queries.NodeCount b here = if-good (KeptPart ps) (is Sorts.Graph b.variable) T7 at _ (λ _. kept.nodes ps)
  method-kept ps group at Queries.EdgeCount b here = if-good (KeptPart ps) (is Sorts.Graph b.variable) T7 at _ (λ _. kept.edges ps)
  method-kept ps group at Queries.ToEdge b here = tt
  method-kept ps group at Queries.Unknown b here = tt

  -- ---- operators

  changed-kept : (ps : List Place) (t : VType) (at : Place) (p : Part) → Among ps at → Followed ps at → KeptPart ps p → KeptPart ps (changed_part t at p)
  changed-kept ps I32 at p here f h = kept.unary ps Op1.ToI32 at p.core here (λ _. f) h
  changed-kept ps I64 at p here f h = kept.unary ps Op1.ToI64 at p.core here (λ _. f) h
  changed-kept ps Flag at p here f h = h
  changed-kept ps Node at p here f h = h

  cast-kept : (ps : List Place) (t : VType) (at : Place) (p : Part) → Among ps at → Followed ps at → KeptPart ps p → KeptPart ps (cast_part t at p)
  cast-kept ps t at p here f h = by (is_already t p.kind)
    where
      by : (same : Bool) → KeptPart ps (if same then p else changed_part t at p)
      by true = h
      by false = changed-kept ps t at p here f h

  prefix-kept : (ps : List Place) (at : Place) (op : Prefix) (p : Part) → Among ps at → (is_number p.kind ≡ true → Followed ps at) → KeptPart ps p → IfKeptPart ps (prefix_part at op p)
  prefix-kept ps at Prefixes.Minus p here f h = if-good (KeptPart ps) (is_number p.kind) T8 at _ (λ g. kept.unary ps Op1.Neg at p.core here (λ _. f g) h)
  prefix-kept ps at Prefixes.Not p here f h = if-good (KeptPart ps) (is_flag p.kind) T8 at _ (λ _. kept.unary ps Op1.Not at p.core here (λ c. absurd (false≢true c)) h)
  prefix-kept ps at (Prefixes.Cast t) p here f h = if-good (KeptPart ps) (is_number p.kind) T8 at _ (λ g. cast-kept ps t at (settled p) here (f g) (settled-kept ps p.kind p h))

  module _ (ps qs : List Place) (at : Place) (up : ascend (ps ++ (at ∷ qs)) ≡ true) where
    operation-kept : (op : Op2) (k : Kind) (a b : Part) → (is_number k ≡ true → HasPlace qs) → KeptPart ps a → KeptPart qs b → IfKeptPart (ps ++ (at ∷ qs)) (operation at op k a b)
    operation-kept op k a b more h g =
        let all = ps ++ (at ∷ qs) in
        let large = large_of k (a.large ++ b.large) in
        let c = compared_as k large in
        let number = if is_number k then then_answer (paired at k a b) (λ p. record { kind = k; core = P.Binary op at p.0 p.1; large = large }) else refused T8 at in
        let compared = if is_number k || (compares_any op && is_value k) then then_answer (paired at c a b) (λ p. part_of (Kinds.Of Flag) (P.Binary op at p.0 p.1)) else refused T8 at in
        if-else (KeptPart all) (is_arithmetic op) number compared
        (λ _. if-else (KeptPart all) (is_number k) (then_answer (paired at k a b) (λ p. record { kind = k; core = P.Binary op at p.0 p.1; large = large })) (refused T8 at)
        (λ n. if-then (KeptPair ps qs) (KeptPart all) (paired at k a b) (λ p. record { kind = k; core = P.Binary op at p.0 p.1; large = large }) (paired-kept ps qs at k a b h g) (λ p m. kept.binary ps qs op at p.0 p.1 up (λ _. more n) m.0 m.1)) (λ _. tt))
        (λ plain. if-else (KeptPart all) (is_number k || (compares_any op && is_value k)) (then_answer (paired at c a b) (λ p. part_of (Kinds.Of Flag) (P.Binary op at p.0 p.1))) (refused T8 at)
        (λ _. if-then (KeptPair ps qs) (KeptPart all) (paired at c a b) (λ p. part_of (Kinds.Of Flag) (P.Binary op at p.0 p.1)) (paired-kept ps qs at c a b h g) (λ p m. kept.binary ps qs op at p.0 p.1 up (λ c. absurd (false≢true (sym plain ∙ sym (fails-alike op) ∙ c))) m.0 m.1)) (λ _. tt))

    operation_by-kept : (op : Op2) (o : Option Kind) (a b : Part) → IfPart (λ k. is_number k ≡ true → HasPlace qs) o → KeptPart ps a → KeptPart qs b → IfKeptPart (ps ++ (at ∷ qs)) (operation_by at op o a b)
    operation_by-kept op None a b more h g = tt
    operation_by-kept op (Some k) a b more h g = operation-kept op k a b more h g

    infix-kept : (op : Infix) (xs : Part × Part) → (is_number xs.1.kind ≡ true → HasPlace qs) → KeptPart ps xs.0 × KeptPart qs xs.1 → IfKeptPart (ps ++ (at ∷ qs)) (infix_part at op xs)
    infix-kept (Infixes.Op op) xs more h =
        operation_by-kept op (joint xs.0.kind xs.1.kind) xs.0 xs.1
        (if-map (λ m. is_number m ≡ true → is_number xs.1.kind ≡ true) (λ m. is_number m ≡ true → HasPlace qs) (joint xs.0.kind xs.1.kind) (λ m f n. more (f n)) (joint-number xs.0.kind xs.1.kind)) h.0 h.1
    infix-kept Infixes.And xs more h = if-good (KeptPart (ps ++ (at ∷ qs))) (is_flag xs.0.kind && is_flag xs.1.kind) T8 at _ (λ _. kept.both ps qs at xs.0.core xs.1.core up h.0 h.1)
    infix-kept Infixes.Or xs more h = if-good (KeptPart (ps ++ (at ∷ qs))) (is_flag xs.0.kind && is_flag xs.1.kind) T8 at _ (λ _. kept.either ps qs at xs.0.core xs.1.core up h.0 h.1)

  choice_by-kept : (ps qs rs : List Place) (at : Place) → ascend (ps ++ (at ∷ (qs ++ rs))) ≡ true → (o : Option Kind) (c : Expr) (a b : Part) → Q ps c → KeptPart qs a → KeptPart rs b
      → IfKeptPart (ps ++ (at ∷ (qs ++ rs))) (choice_by at o c a b)
  choice_by-kept ps qs rs at up None c a b f h g = tt
  choice_by-kept ps qs rs at up (Some k) c a b f h g =
      if-then (KeptPair qs rs) (KeptPart (ps ++ (at ∷ (qs ++ rs)))) (paired at k a b) (λ p. record { kind = k; core = P.Choose c p.0 p.1; large = large_of k (a.large ++ b.large) })
      (paired-kept qs rs at k a b h g) (λ p m. kept.choose ps qs rs at c p.0 p.1 up f m.0 m.1)

  -- ---- an expression, where what stands around it is of a mode, which goes on behind a part

  pub condition-kept : (ps : List Place) (at : Place) (o : Judged Part) → IfPart (KeptPart ps) o.part → IfPart (Q ps) (judge o (λ p. refused_unless (is_flag p.kind) T10 at p.core)).part
  condition-kept ps at o h = if-by (KeptPart ps) (Q ps) o.part (λ p. refused_unless (is_flag p.kind) T10 at p.core) h (λ p k. if-good (Q ps) (is_flag p.kind) T10 at p.core (λ _. k))

  module _ (Mode : Env → Type 0) where
    abbrev pub Keeps : SurfaceExpr → Type 0
    Keeps e = (env : Env) → Mode env → IfPart (KeptPart (places_in e)) (typed e env).part

    module _ (goes-on : (A : Type 0) (env : Env) (x : Judged A) → Mode env → Mode (later env x)) (folds : (at : Place) (word : ReductionWord) (h : SurfaceHead) (filter body : SurfaceExpr) (close : Place) → ascend (places_in (Reduction at word h filter body close)) ≡ true
        → Keeps filter → Keeps body → Keeps (Reduction at word h filter body close)) where
      pub typed-kept : (e : SurfaceExpr) → ascend (places_in e) ≡ true → Keeps e
      typed-kept Always up env m = kept.constant [] _
      typed-kept (Number at n) up env m = kept.constant (at ∷ []) _
      typed-kept (Truth at b) up env m = kept.constant (at ∷ []) _
      typed-kept (Nil at) up env m = kept.constant (at ∷ []) _
      typed-kept (Greatest at) up env m = kept.constant (at ∷ []) _
      typed-kept (Least at) up env m = kept.constant (at ∷ []) _
      typed-kept (Named x) up env m = let ps = x.place ∷ [] in if-by (λ b. Unit {0}) (KeptPart ps) (used x env).part (named_part env.group x.place) (anything (used x env).part) (λ b _. named-kept ps b.variable.sort env.group x.place b)
      typed-kept (Member x p) up env m = let ps = x.place ∷ (p.place ∷ []) in if-by (λ b. Unit {0}) (KeptPart ps) (both (used x) (used p) env).part (member_part env.group x.place) (anything (both (used x) (used p) env).part) (λ bs _. member-kept ps env.group x.place bs (inl refl))
      typed-kept (Method x n) up env m = let ps = x.place ∷ (n.place ∷ []) in if-by (λ b. Unit {0}) (KeptPart ps) (used x env).part (method_part env.group x.place (query_of n.text)) (anything (used x env).part) (λ b _. method-kept ps env.group x.place (query_of n.text) b (inl refl))
      typed-kept (Paren at e) up env m = widened (places_in e) (at ∷ places_in e) (typed e env).part (λ p a. inr a) (typed-kept e (ascend-tail at (places_in e) up) env m)
        where
          widened : (ps qs : List Place) (o : Option Part) → ((p : Place) → Among ps p → Among qs p) → IfPart (KeptPart ps) o → IfPart (KeptPart qs) o
          widened ps qs None w h = tt
          widened ps qs (Some p) w h = kept.wide ps qs p.core w h
      typed-kept (Prefixed at op e) up env m =
          let ps = at ∷ places_in e in
          if-by (λ p. KeptPart (places_in e) p × NumberHasPlace e p) (KeptPart ps) (typed e env).part (prefix_part at op)
          (if-and (KeptPart (places_in e)) (NumberHasPlace e) (typed e env).part (typed-kept e (ascend-tail at (places_in e) up) env m) (number-place e env))
          (λ p k. prefix-kept ps at op p (inl refl) (λ n. follows at (places_in e) up (k.1 n)) (kept.wide (places_in e) ps p.core (λ q a. inr a) k.0))
      typed-kept (Infixed at op a b) up env m =
          let ps = places_in a in
          let qs = places_in b in
          let x = typed a env in
          let y = typed b (later env x) in
          if-by (λ xs. KeptPart ps xs.0 × (KeptPart qs xs.1 × NumberHasPlace b xs.1)) (KeptPart (ps ++ (at ∷ qs))) (both (typed a) (typed b) env).part (infix_part at op)
          (if-both (KeptPart ps) (λ p. KeptPart qs p × NumberHasPlace b p) x.part y.part (typed-kept a (ascend-left ps (at ∷ qs) up) env m)
          (if-and (KeptPart qs) (NumberHasPlace b) y.part (typed-kept b (ascend-tail at qs (ascend-right ps (at ∷ qs) up)) (later env x) (goes-on Part env x m)) (number-place b (later env x))))
          (λ xs k. infix-kept ps qs at up op xs k.1.1 (k.0, k.1.0))
      typed-kept (Choose at c a b) up env m =
          let ps = places_in c in
          let qs = places_in a in
          let rs = places_in b in
          let back = ascend-tail at (qs ++ rs) (ascend-right ps (at ∷ (qs ++ rs)) up) in
          let z = condition (start_of c) (typed c) env in
          let x = typed a (later env z) in
          let y = typed b (later (later env z) x) in
          if-by (λ xs. Q ps xs.0 × (KeptPart qs xs.1.0 × KeptPart rs xs.1.1)) (KeptPart (ps ++ (at ∷ (qs ++ rs)))) (both (condition (start_of c) (typed c)) (both (typed a) (typed b)) env).part (choice_part at)
          (if-both (Q ps) (λ xs. KeptPart qs xs.0 × KeptPart rs xs.1) z.part (both (typed a) (typed b) (later env z)).part
          (condition-kept ps (start_of c) (typed c env) (typed-kept c (ascend-left ps (at ∷ (qs ++ rs)) up) env m))
          (if-both (KeptPart qs) (KeptPart rs) x.part y.part (typed-kept a (ascend-left qs rs back) (later env z) (goes-on Expr env z m)) (typed-kept b (ascend-right qs rs back) (later (later env z) x) (goes-on Part (later env z) x (goes-on Expr env z m)))))
          (λ xs k. choice_by-kept ps qs rs at up (joint xs.1.0.kind xs.1.1.kind) xs.0 xs.1.0 xs.1.1 k.0 k.1.0 k.1.1)
      typed-kept (Reduction at word h filter body close) up env m =
          let ps = places_in filter in
          let qs = places_in body in
          let ends = closing word body at close in
          let o = h.owner.place in
          let rest = ps ++ (qs ++ ends) in
          let back = ascend-tail (right_behind o) rest (ascend-tail o (right_behind o ∷ rest) (ascend-tail h.iterator.place (o ∷ (right_behind o ∷ rest)) (ascend-tail at (h.iterator.place ∷ (o ∷ (right_behind o ∷ rest))) up))) in
          folds at word h filter body close up (typed-kept filter (ascend-left ps (qs ++ ends) back))
          (typed-kept body (ascend-left qs ends (ascend-right ps (qs ++ ends) back))) env m
