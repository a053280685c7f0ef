-- Expressions that have types tell values alone.
use Rattle.std.proofs.Common.{◌≡◌, ℕ, Bool, true, false, List, [], ◌∷◌, ◌++◌, refl, sym, ap, subst, ◌∙◌, Option, Some, None}
use Rattle.std.specs.Prelude.{◌&&◌, ◌||◌, not, nat_eq, nat_le, if◌then◌else◌, unwrap_or, Ok, Err}
use Rattle.std.specs.Cmp.Derive.{both_true}
use Rattle.std.proofs.lemmas.Bool.{both_ways, or_left, or_right}
use Rattle.std.proofs.lemmas.Option.{none-some}
use Rattle.gm_base.specs.declared.places.Place.{Place}
use Rattle.gm_base.specs.declared.rules.Rule.{Rule}
use Rattle.gm_base.specs.declared.rules.Rule.TheVariants.{T6, T7, T8, T10}
use Rattle.gm_value.specs.declared.values.VType.{VType}
use Rattle.gm_value.specs.declared.values.VType.TheVariants.{I32, I64, Flag, Node}
use Rattle.gm_value.specs.declared.values.Value.{Value}
use Rattle.gm_value.specs.declared.values.Value.TheVariants as Values
use Rattle.gm_value.specs.declared.operations.Op2.{Op2}
use Rattle.gm_value.specs.Operations.{same_type}
use Rattle.gm_ast.specs.declared.tree.Declaration.{Declaration}
use Rattle.gm_ast.specs.declared.tree.Head.{Head}
use Rattle.gm_ast.specs.declared.tree.Sort.{Sort}
use Rattle.gm_ast.specs.declared.tree.Sort.TheVariants as Sorts
use Rattle.gm_ast.specs.declared.tree.Variable.{Variable}
use Rattle.gm_ast.specs.declared.kinds.Binding.{Binding}
use Rattle.gm_ast.specs.declared.kinds.Kind.{Kind}
use Rattle.gm_ast.specs.declared.kinds.Kind.TheVariants as Kinds
use Rattle.gm_ast.specs.declared.kinds.Query.{Query}
use Rattle.gm_ast.specs.declared.kinds.Query.TheVariants as Queries
use Rattle.gm_ast.specs.declared.kinds.Reducer.{Reducer}
use Rattle.gm_ast.specs.declared.surface.ReductionWord.{ReductionWord}
use Rattle.gm_ast.specs.declared.surface.ReductionWord.TheVariants.{Sum, Product, Min, Max, Count, Exist, All}
use Rattle.gm_ast.specs.declared.surface.Prefix.{Prefix}
use Rattle.gm_ast.specs.declared.surface.Prefix.TheVariants as Prefixes
use Rattle.gm_ast.specs.declared.surface.Infix.{Infix}
use Rattle.gm_ast.specs.declared.surface.Infix.TheVariants as Infixes
use Rattle.gm_ast.specs.Surface.{SurfaceHead, SurfaceExpr, Always, Number, Truth, Nil, Greatest, Least, Named, Member, Method, Paren, Prefixed, Infixed, Choose, Reduction}
use Rattle.gm_ast.specs.Program as P
use Rattle.gm_ast.specs.Program.{Expr}
use Rattle.gm_ast.specs.Judged.{Judged, Answer, ok_of, refused, refused_unless, then_answer}
use Rattle.gm_ast.specs.Names.{Env, is, is_node_type, sort_eq, an_iterator, used, both, iterated, keyed, counted}
use Rattle.gm_ast.specs.Kinds.{Part, part_of, narrow, narrowed, as_int, as_long, int_of, taken, joint, settled, settled_as, is_empty, is_number, is_flag, accepts, fitted}
use Rattle.gm_ast.specs.Typing.{typed, condition, start_of, ranged, range_rule, domain_of, head_with, named_part, named_as, member_part, method_part, query_of, stands_for_node, is_already, changed_part, cast_part, prefix_part, paired, paired_after, large_of, compares_any, is_arithmetic, is_value, compared_as, operation, operation_by, infix_part, choice_by, choice_part, fold_numbers, reducer_at, folded, of_numbers_as, of_conditions, reduction_part, reduction_rule}
use Rattle.gm_ast.specs.Ways.{is_in}
use Rattle.gm_semantics.specs.Outcomes.{is_of}
use Rattle.gm_semantics.specs.Statements.{variable_at}
use Rattle.gm_forms.proofs.Named.{both-true}
use Rattle.gm_ready.proofs.Tables.{Binds, variable-is}
use Rattle.gm_ready.proofs.Judging.{IfPart, if-good, if-then, if-else, gives-judge, IsIterator}
use Rattle.gm_typed_stores.specs.Tells.{TypeTable, holds, takes_nodes, is_below, tells}
use Rattle.gm_well_typed.proofs.Known.{IsKnown, Told, told-both, told-used, told-iterated, told-keyed, told-counted}

-- ---- parts as they are wanted

narrow-below : (limit : ℕ) (v : Value) → is_below limit (narrow v) ≡ is_below limit v
narrow-below limit (Values.I32 z) = refl
narrow-below limit (Values.I64 z) = refl
narrow-below limit (Values.Flag b) = refl
narrow-below limit (Values.At n) = refl

tells-narrowed : (table : TypeTable) (its : List ℕ) (e : Expr) → tells table its (narrowed e) ≡ tells table its e
tells-narrowed table its (P.Const v) = narrow-below table.limit v
tells-narrowed table its (P.Unary op at e) = tells-narrowed table its e
tells-narrowed table its (P.Binary op at a b) = ap (λ c. c && tells table its (narrowed b)) (tells-narrowed table its a) ∙ ap (λ c. tells table its a && c) (tells-narrowed table its b)
tells-narrowed table its (P.Choose c a b) =
    ap (λ d. tells table its c && (d && tells table its (narrowed b))) (tells-narrowed table its a) ∙ ap (λ d. tells table its c && (tells table its a && d)) (tells-narrowed table its b)
tells-narrowed table its _ = refl

-- of two kinds that have one of values in common each is one of values
joint-values : (j k o : Kind) → joint j k ≡ Some o → is_value o ≡ true → (is_value j ≡ true) × (is_value k ≡ true)
joint-values Kinds.Flexible Kinds.Flexible o e v = (refl, refl)
joint-values Kinds.Flexible (Kinds.Of u) o e v = (refl, refl)
joint-values Kinds.Flexible Kinds.Edge o e v = absurd (none-some o e)
joint-values (Kinds.Of t) Kinds.Flexible o e v = (refl, refl)
joint-values (Kinds.Of t) (Kinds.Of u) o e v = (refl, refl)
joint-values (Kinds.Of t) Kinds.Edge o e v = absurd (none-some o e)
joint-values Kinds.Edge Kinds.Flexible o e v = absurd (none-some o e)
joint-values Kinds.Edge (Kinds.Of u) o e v = absurd (none-some o e)
joint-values Kinds.Edge Kinds.Edge o e v = let f : false ≡ true = ap (λ x. is_value (unwrap_or x Kinds.Edge)) e ∙ v in absurd (both_ways false refl f)

accepted-value : (t : VType) (k : Kind) → accepts t k ≡ true → is_value k ≡ true
accepted-value t Kinds.Flexible h = refl
accepted-value t (Kinds.Of u) h = refl
accepted-value I32 Kinds.Edge h = absurd (both_ways false refl h)
accepted-value I64 Kinds.Edge h = absurd (both_ways false refl h)
accepted-value Flag Kinds.Edge h = absurd (both_ways false refl h)
accepted-value Node Kinds.Edge h = absurd (both_ways false refl h)

is_number-value : (k : Kind) → is_number k ≡ true → is_value k ≡ true
is_number-value Kinds.Flexible h = refl
is_number-value (Kinds.Of t) h = refl
is_number-value Kinds.Edge h = h

is_flag-value : (k : Kind) → is_flag k ≡ true → is_value k ≡ true
is_flag-value Kinds.Flexible h = refl
is_flag-value (Kinds.Of t) h = refl
is_flag-value Kinds.Edge h = h

node-type : (t : VType) → is_node_type t ≡ true → same_type Node t ≡ true
node-type Node h = refl
node-type I32 h = h
node-type I64 h = h
node-type Flag h = h

-- in a table what iterates takes nodes
pub nodes-taken : (table : TypeTable) (b : Binding) → Binds table.declarations b → is Sorts.Iterator b.variable || is Sorts.Graph b.variable ≡ true → takes_nodes table b.index ≡ true
nodes-taken table b h it =
    let e : variable_at table.declarations b.index ≡ b.variable = variable-is table.declarations b h in
    let n : is_node_type b.variable.vtype ≡ true = by (is Sorts.Iterator b.variable || is Sorts.Graph b.variable) (is_node_type b.variable.vtype) it h.1 in
    ap (λ (v : Variable). same_type Node v.vtype) e ∙ node-type b.variable.vtype n
  where
    by : (a n : Bool) → a ≡ true → not a || n ≡ true → n ≡ true
    by true n e h = h
    by false n e h = absurd (both_ways false refl e)

module _ (table : TypeTable) (g : ℕ) (group : Bool) where
  abbrev ds : List Declaration
  ds = table.declarations

  -- an expression tells values alone, in a group assignment among iterators of which the graph is one
  abbrev pub Tells : Expr → Type 0
  Tells e = (its : List ℕ) → (group ≡ true → is_in its g ≡ true) → tells table its e ≡ true

  -- a value among parts does; an edge is no value
  abbrev pub TellsPart : Part → Type 0
  TellsPart p = is_value p.kind ≡ true → Tells p.core

  abbrev TellsAs : Kind → Expr → Type 0
  TellsAs k e = is_value k ≡ true → Tells e

  abbrev TellPair : Kind → Expr × Expr → Type 0
  TellPair k p = TellsAs k p.0 × TellsAs k p.1

  abbrev IfPartTells : Answer Part → Type 0
  IfPartTells a = IfPart TellsPart (ok_of a)

  abbrev IfTells : Answer Expr → Type 0
  IfTells a = IfPart Tells (ok_of a)

  narrowed-tells : (e : Expr) → Tells e → Tells (narrowed e)
  narrowed-tells e h its in_group = tells-narrowed table its e ∙ h its in_group

  as_int-tells : (large : List Place) (e : Expr) → Tells e → IfTells (as_int (record { kind = Kinds.Flexible; core = e; large = large }))
  as_int-tells [] e h = narrowed-tells e h
  as_int-tells (x ∷ xs) e h = tt

  int_of-tells : (k : Kind) (p : Part) → Tells p.core → IfTells (int_of k p)
  int_of-tells Kinds.Flexible p h = as_int-tells p.large p.core h
  int_of-tells (Kinds.Of t) p h = h
  int_of-tells Kinds.Edge p h = h

  as_long-tells : (at : Place) (k : Kind) (e : Expr) → Tells e → Tells (as_long at k e)
  as_long-tells at (Kinds.Of I32) e h = h
  as_long-tells at (Kinds.Of I64) e h = h
  as_long-tells at (Kinds.Of Flag) e h = h
  as_long-tells at (Kinds.Of Node) e h = h
  as_long-tells at Kinds.Flexible e h = h
  as_long-tells at Kinds.Edge e h = h

  taken-value : (t : VType) (at : Place) (p : Part) → Tells p.core → IfTells (taken (Kinds.Of t) at p)
  taken-value I32 at p h = int_of-tells p.kind p h
  taken-value I64 at p h = as_long-tells at p.kind p.core h
  taken-value Flag at p h = h
  taken-value Node at p h = h

  if-value : (k : Kind) (a : Answer Expr) → IfTells a → IfPart (TellsAs k) (ok_of a)
  if-value k (Ok e) h = λ _. h
  if-value k (Err rs) h = tt

  taken-tells : (k : Kind) (at : Place) (p : Part) → (is_value k ≡ true → is_value p.kind ≡ true) → TellsPart p → IfPart (TellsAs k) (ok_of (taken k at p))
  taken-tells (Kinds.Of t) at p v h = if-value (Kinds.Of t) (taken (Kinds.Of t) at p) (taken-value t at p (h (v refl)))
  taken-tells Kinds.Flexible at p v h = λ w. h (v w)
  taken-tells Kinds.Edge at p v h = λ w. absurd (both_ways false refl w)

  pub fitted-tells : (t : VType) (rule : Rule) (at : Place) (p : Part) → TellsPart p → IfTells (fitted t rule at p)
  fitted-tells t rule at p h = if-else Tells (accepts t p.kind) (taken (Kinds.Of t) at p) (refused rule at) (λ a. taken-value t at p (h (accepted-value t p.kind a))) (λ _. tt)

  settled-tells : (k : Kind) (p : Part) → p.kind ≡ k → TellsPart p → TellsPart (settled_as k p)
  settled-tells Kinds.Flexible p e h = by (is_empty p.large) (h (ap is_value e))
    where
      by : (none : Bool) → Tells p.core → TellsPart (if none then part_of (Kinds.Of I32) (narrowed p.core) else part_of (Kinds.Of I64) p.core)
      by true told = λ _. narrowed-tells p.core told
      by false told = λ _. told
  settled-tells (Kinds.Of t) p e h = h
  settled-tells Kinds.Edge p e h = h

  pairs-tell : (k : Kind) (a b : Answer Expr) → IfPart (TellsAs k) (ok_of a) → IfPart (TellsAs k) (ok_of b) → IfPart (TellPair k) (ok_of (paired_after a b))
  pairs-tell k (Err rs) b h i = tt
  pairs-tell k (Ok a) (Err rs) h i = tt
  pairs-tell k (Ok a) (Ok b) h i = (h, i)

  abbrev AreValues : Kind → Part → Part → Type 0
  AreValues k a b = (is_value k ≡ true → is_value a.kind ≡ true) × (is_value k ≡ true → is_value b.kind ≡ true)

  paired-tells : (at : Place) (k : Kind) (a b : Part) → AreValues k a b → TellsPart a → TellsPart b → IfPart (TellPair k) (ok_of (paired at k a b))
  paired-tells at k a b v h i = pairs-tell k (taken k at a) (taken k at b) (taken-tells k at a v.0 h) (taken-tells k at b v.1 i)

  -- ---- names

  scalar-holds : (b : Binding) → Binds ds b → b.variable.sort ≡ Sorts.Scalar → (its : List ℕ) → holds table its b.index ≡ true
  scalar-holds b h e its =
      or_left (is_of ds Sorts.Scalar b.index) (nat_le table.inputs b.index || is_in its b.index)
      (ap (λ (v : Variable). is Sorts.Scalar v) (variable-is ds b h) ∙ ap (sort_eq Sorts.Scalar) e)

  named-tells : (s : Sort) (at : Place) (b : Binding) → b.variable.sort ≡ s → IsKnown ds table.inputs g b → IfPartTells (named_as s group at b)
  named-tells Sorts.Scalar at b e h = λ v its in_group. scalar-holds b h.bound e its
  named-tells Sorts.Iterator at b e h =
      λ v its in_group.
      or_right (is_of ds Sorts.Scalar b.index) (nat_le table.inputs b.index || is_in its b.index)
      (or_left (nat_le table.inputs b.index) (is_in its b.index) (h.iterator (ap (sort_eq Sorts.Iterator) e)))
  named-tells Sorts.Edge at b e h = λ w. absurd (both_ways false refl w)
  named-tells Sorts.Graph at b e h =
      if-good TellsPart group T7 at (part_of (Kinds.Of Node) (P.Var b.index at))
      (λ grouped v its in_group.
      or_right (is_of ds Sorts.Scalar b.index) (nat_le table.inputs b.index || is_in its b.index)
      (or_right (nat_le table.inputs b.index) (is_in its b.index) (ap (is_in its) (h.graph (ap (sort_eq Sorts.Graph) e)) ∙ in_group grouped)))
  named-tells Sorts.NodeProperty at b e h = tt
  named-tells Sorts.EdgeProperty at b e h = tt

  member-tells : (at : Place) (bs : Binding × Binding) → IfPartTells (member_part group at bs)
  member-tells at bs =
      let x = bs.0 in
      let p = bs.1 in
      if-else TellsPart (stands_for_node group x.variable && is Sorts.NodeProperty p.variable) (Ok (part_of (Kinds.Of p.variable.vtype) (P.Property x.index p.index at)))
      (if is Sorts.Edge x.variable && is Sorts.EdgeProperty p.variable then Ok (part_of (Kinds.Of p.variable.vtype) (P.EdgeProperty x.index p.index at)) else refused T7 at)
      (λ _. λ v its i. refl)
      (λ _. if-else TellsPart (is Sorts.Edge x.variable && is Sorts.EdgeProperty p.variable) (Ok (part_of (Kinds.Of p.variable.vtype) (P.EdgeProperty x.index p.index at))) (refused T7 at) (λ _. λ v its i. refl) (λ _. tt))

  method-tells : (at : Place) (q : Query) (b : Binding) → IfPartTells (method_part group at q b)
  method-tells at (Queries.Degree d) b = if-good TellsPart (stands_for_node group b.variable) T7 at (part_of (Kinds.Of I32) (P.Degree d b.index at)) (λ _. λ v its i. refl)
  method-tells at Queries.NodeCount b = if-good TellsPart (is Sorts.Graph b.variable) T7 at (part_of (Kinds.Of I32) P.NodeCount) (λ _. λ v its i. refl)
  method-tells at Queries.EdgeCount b = if-good TellsPart (is Sorts.Graph b.variable) T7 at (part_of (Kinds.Of I32) P.EdgeCount) (λ _. λ v its i. refl)
  method-tells at Queries.ToEdge b = tt
  method-tells at Queries.Unknown b = tt

  -- ---- operators

  changed-tells : (t : VType) (at : Place) (p : Part) → TellsPart p → is_value p.kind ≡ true → TellsPart (changed_part t at p)
  changed-tells I32 at p h v = λ _. h v
  changed-tells I64 at p h v = λ _. h v
  changed-tells Flag at p h v = h
  changed-tells Node at p h v = h

  cast-tells : (t : VType) (at : Place) (p : Part) → TellsPart p → is_value p.kind ≡ true → TellsPart (cast_part t at p)
  cast-tells t at p h v = by (is_already t p.kind)
    where
      by : (same : Bool) → TellsPart (if same then p else changed_part t at p)
      by true = h
      by false = changed-tells t at p h v

  settled-value : (k : Kind) (p : Part) → is_value p.kind ≡ true → is_value (settled_as k p).kind ≡ true
  settled-value Kinds.Flexible p v = by (is_empty p.large)
    where
      by : (none : Bool) → is_value (if none then part_of (Kinds.Of I32) (narrowed p.core) else part_of (Kinds.Of I64) p.core).kind ≡ true
      by true = refl
      by false = refl
  settled-value (Kinds.Of t) p v = v
  settled-value Kinds.Edge p v = v

  prefix-tells : (at : Place) (op : Prefix) (p : Part) → TellsPart p → IfPartTells (prefix_part at op p)
  prefix-tells at Prefixes.Minus p h = if-good TellsPart (is_number p.kind) T8 at _ (λ _. h)
  prefix-tells at Prefixes.Not p h = if-good TellsPart (is_flag p.kind) T8 at _ (λ _. h)
  prefix-tells at (Prefixes.Cast t) p h =
      if-good TellsPart (is_number p.kind) T8 at _ (λ n. cast-tells t at (settled p) (settled-tells p.kind p refl h) (settled-value p.kind p (is_number-value p.kind n)))

  are-values : (k : Kind) (a b : Part) → joint a.kind b.kind ≡ Some k → AreValues k a b
  are-values k a b e = (λ v. (joint-values a.kind b.kind k e v).0, λ v. (joint-values a.kind b.kind k e v).1)

  compared-value : (k : Kind) (large : List Place) → is_value (compared_as k large) ≡ true → is_value k ≡ true
  compared-value Kinds.Flexible large v = refl
  compared-value (Kinds.Of t) large v = refl
  compared-value Kinds.Edge large v = v

  value-compared : (k : Kind) (large : List Place) → is_value k ≡ true → is_value (compared_as k large) ≡ true
  value-compared Kinds.Flexible large v = refl
  value-compared (Kinds.Of t) large v = refl
  value-compared Kinds.Edge large v = v

  numbered-or-compared : (n any v : Bool) → (n ≡ true → v ≡ true) → n || (any && v) ≡ true → v ≡ true
  numbered-or-compared true any v h e = h refl
  numbered-or-compared false true v h e = e
  numbered-or-compared false false v h e = absurd (both_ways false refl e)

  operation-tells : (at : Place) (op : Op2) (k : Kind) (a b : Part) → AreValues k a b → TellsPart a → TellsPart b → IfPartTells (operation at op k a b)
  operation-tells at op k a b v h i =
      let large = large_of k (a.large ++ b.large) in
      let c = compared_as k large in
      let number = if is_number k then then_answer (paired at k a b) (λ p. record { kind = k; core = P.Binary op at p.0 p.1; large = large }) else refused T8 at in
      let compared = if is_number k || (compares_any op && is_value k) then then_answer (paired at c a b) (λ p. part_of (Kinds.Of Flag) (P.Binary op at p.0 p.1)) else refused T8 at in
      let values : AreValues c a b = (λ w. v.0 (compared-value k large w), λ w. v.1 (compared-value k large w)) in
      if-else TellsPart (is_arithmetic op) number compared
      (λ _. if-else TellsPart (is_number k) (then_answer (paired at k a b) (λ p. record { kind = k; core = P.Binary op at p.0 p.1; large = large })) (refused T8 at)
      (λ _. if-then (TellPair k) TellsPart (paired at k a b) (λ p. record { kind = k; core = P.Binary op at p.0 p.1; large = large }) (paired-tells at k a b v h i)
      (λ p n. λ w its q. both_true (n.0 w its q) (n.1 w its q))) (λ _. tt))
      (λ _. if-else TellsPart (is_number k || (compares_any op && is_value k)) (then_answer (paired at c a b) (λ p. part_of (Kinds.Of Flag) (P.Binary op at p.0 p.1))) (refused T8 at)
      (λ t. let w = value-compared k large (numbered-or-compared (is_number k) (compares_any op) (is_value k) (is_number-value k) t) in
      if-then (TellPair c) TellsPart (paired at c a b) (λ p. part_of (Kinds.Of Flag) (P.Binary op at p.0 p.1)) (paired-tells at c a b values h i)
      (λ p n. λ _ its q. both_true (n.0 w its q) (n.1 w its q))) (λ _. tt))

  by-tells : (at : Place) (op : Op2) (o : Option Kind) (a b : Part) → joint a.kind b.kind ≡ o → TellsPart a → TellsPart b → IfPartTells (operation_by at op o a b)
  by-tells at op None a b e h i = tt
  by-tells at op (Some k) a b e h i = operation-tells at op k a b (are-values k a b e) h i

  flags-tell : (a b : Part) → TellsPart a → TellsPart b → is_flag a.kind && is_flag b.kind ≡ true → Tells a.core × Tells b.core
  flags-tell a b h i t = let s = both-true (is_flag a.kind) (is_flag b.kind) t in (h (is_flag-value a.kind s.0), i (is_flag-value b.kind s.1))

  infix-tells : (at : Place) (op : Infix) (ps : Part × Part) → TellsPart ps.0 × TellsPart ps.1 → IfPartTells (infix_part at op ps)
  infix-tells at (Infixes.Op op) ps h = by-tells at op (joint ps.0.kind ps.1.kind) ps.0 ps.1 refl h.0 h.1
  infix-tells at Infixes.And ps h = if-good TellsPart (is_flag ps.0.kind && is_flag ps.1.kind) T8 at _ (λ t. λ _ its q. let f = flags-tell ps.0 ps.1 h.0 h.1 t in both_true (f.0 its q) (f.1 its q))
  infix-tells at Infixes.Or ps h = if-good TellsPart (is_flag ps.0.kind && is_flag ps.1.kind) T8 at _ (λ t. λ _ its q. let f = flags-tell ps.0 ps.1 h.0 h.1 t in both_true (f.0 its q) (f.1 its q))

  choice_by-tells : (at : Place) (o : Option Kind) (c : Expr) (a b : Part) → joint a.kind b.kind ≡ o → Tells c → TellsPart a → TellsPart b → IfPartTells (choice_by at o c a b)
  choice_by-tells at None c a b e n h i = tt
  choice_by-tells at (Some k) c a b e n h i =
      if-then (TellPair k) TellsPart (paired at k a b) (λ p. record { kind = k; core = P.Choose c p.0 p.1; large = large_of k (a.large ++ b.large) }) (paired-tells at k a b (are-values k a b e) h i)
      (λ p m. λ w its q. both_true (n its q) (both_true (m.0 w its q) (m.1 w its q)))

  -- ---- reductions

  more-in : (its : List ℕ) (i : ℕ) → (group ≡ true → is_in its g ≡ true) → group ≡ true → is_in (i ∷ its) g ≡ true
  more-in its i h e = or_right (nat_eq g i) (is_in its g) (h e)

  pub iterator-takes : (i : ℕ) → IsIterator ds i → takes_nodes table i ≡ true
  iterator-takes i it = nodes-taken table (record { index = i; variable = an_iterator it.0 }) it.1 refl

  folded-tells : (r : Reducer) (t : VType) (h : Head) (filter e : Expr) → takes_nodes table h.iterator ≡ true → Tells filter → Tells e → TellsPart (folded r t h filter e)
  folded-tells r t h filter e takes f k = λ _ its q. both_true takes (both_true (f (h.iterator ∷ its) (more-in its h.iterator q)) (k (h.iterator ∷ its) (more-in its h.iterator q)))

  numbers-tell : (k : Kind) (r : Reducer) (h : Head) (filter e : Expr) → takes_nodes table h.iterator ≡ true → Tells filter → TellsAs k e → IfPartTells (of_numbers_as k r h filter e)
  numbers-tell (Kinds.Of t) r h filter e takes f i = if-good TellsPart (is_number (Kinds.Of t)) T8 r.place (folded r t h filter e) (λ _. folded-tells r t h filter e takes f (i refl))
  numbers-tell Kinds.Flexible r h filter e takes f i = tt
  numbers-tell Kinds.Edge r h filter e takes f i = tt

  conditions-tell : (start : Place) (t : VType) (r : Reducer) (h : Head) (filter : Expr) (p : Part) → takes_nodes table h.iterator ≡ true → Tells filter → TellsPart p → IfPartTells (of_conditions start t r h filter p)
  conditions-tell start t r h filter p takes f i = if-good TellsPart (is_flag p.kind) T10 start (folded r t h filter p.core) (λ v. folded-tells r t h filter p.core takes f (i (is_flag-value p.kind v)))

  reduction-tells : (word : ReductionWord) (start : Place) (r : Reducer) (h : Head) (filter : Expr) (p : Part) → takes_nodes table h.iterator ≡ true → Tells filter → TellsPart p → IfPartTells (reduction_part word start r h filter p)
  reduction-tells Sum start r h filter p takes f i = numbers-tell (settled p).kind r h filter (settled p).core takes f (settled-tells p.kind p refl i)
  reduction-tells Product start r h filter p takes f i = numbers-tell (settled p).kind r h filter (settled p).core takes f (settled-tells p.kind p refl i)
  reduction-tells Min start r h filter p takes f i = numbers-tell (settled p).kind r h filter (settled p).core takes f (settled-tells p.kind p refl i)
  reduction-tells Max start r h filter p takes f i = numbers-tell (settled p).kind r h filter (settled p).core takes f (settled-tells p.kind p refl i)
  reduction-tells Count start r h filter p takes f i = conditions-tell start I32 r h filter p takes f i
  reduction-tells Exist start r h filter p takes f i = conditions-tell start Flag r h filter p takes f i
  reduction-tells All start r h filter p takes f i = conditions-tell start Flag r h filter p takes f i

  -- ---- an expression

  abbrev TellsIn : {A : Type 0} → (A → Type 0) → (Env → Judged A) → Type 0
  TellsIn P part = Told ds table.inputs g P group part

  abbrev Nothing : {A : Type 0} → A → Type 0
  Nothing a = Unit {0}

  pub condition-tells : (at : Place) (part : Env → Judged Part) → TellsIn TellsPart part → TellsIn Tells (condition at part)
  condition-tells at part good env e known = gives-judge ds TellsPart Tells env.next (part env) (λ p. refused_unless (is_flag p.kind) T10 at p.core)
      (good env e known) (λ p h. if-good Tells (is_flag p.kind) T10 at p.core (λ v. h (is_flag-value p.kind v)))

  pub ranged-known : (h : SurfaceHead) → TellsIn Nothing (ranged h)
  ranged-known h env e known = gives-judge ds (IsKnown ds table.inputs g) Nothing env.next (used h.owner env) (range_rule (domain_of h.range) h.owner.place)
      (told-used ds table.inputs g h.owner group env e known) (λ b k. if-good Nothing _ T6 h.owner.place b (λ _. tt))

  pub typed-tells : (e : SurfaceExpr) → TellsIn TellsPart (typed e)
  typed-tells Always env e known = λ has clean. λ _ its q. refl
  typed-tells (Number at n) env e known = λ has clean. λ _ its q. refl
  typed-tells (Truth at b) env e known = λ has clean. λ _ its q. refl
  typed-tells (Nil at) env e known = λ has clean. λ _ its q. refl
  typed-tells (Greatest at) env e known = λ has clean. λ _ its q. refl
  typed-tells (Least at) env e known = λ has clean. λ _ its q. refl
  typed-tells (Named x) env e known = gives-judge ds (IsKnown ds table.inputs g) TellsPart env.next (used x env) (named_part env.group x.place)
      (told-used ds table.inputs g x group env e known)
      (λ b h. subst (λ (c : Bool). IfPart TellsPart (ok_of (named_as b.variable.sort c x.place b))) (sym e) (named-tells b.variable.sort x.place b refl h))
  typed-tells (Member x p) env e known = gives-judge ds (λ bs. IsKnown ds table.inputs g bs.0 × IsKnown ds table.inputs g bs.1) TellsPart env.next (both (used x) (used p) env) (member_part env.group x.place)
      (told-both ds table.inputs g (IsKnown ds table.inputs g) (IsKnown ds table.inputs g) group (used x) (used p) (told-used ds table.inputs g x group) (told-used ds table.inputs g p group) env e known)
      (λ bs h. subst (λ (c : Bool). IfPart TellsPart (ok_of (member_part c x.place bs))) (sym e) (member-tells x.place bs))
  typed-tells (Method x m) env e known = gives-judge ds (IsKnown ds table.inputs g) TellsPart env.next (used x env) (method_part env.group x.place (query_of m.text))
      (told-used ds table.inputs g x group env e known)
      (λ b h. subst (λ (c : Bool). IfPart TellsPart (ok_of (method_part c x.place (query_of m.text) b))) (sym e) (method-tells x.place (query_of m.text) b))
  typed-tells (Paren at a) env e known = typed-tells a env e known
  typed-tells (Prefixed at op a) env e known = gives-judge ds TellsPart TellsPart env.next (typed a env) (prefix_part at op) (typed-tells a env e known) (λ p h. prefix-tells at op p h)
  typed-tells (Infixed at op a b) env e known = gives-judge ds (λ ps. TellsPart ps.0 × TellsPart ps.1) TellsPart env.next (both (typed a) (typed b) env) (infix_part at op)
      (told-both ds table.inputs g TellsPart TellsPart group (typed a) (typed b) (typed-tells a) (typed-tells b) env e known) (λ ps h. infix-tells at op ps h)
  typed-tells (Choose at c a b) env e known =
      gives-judge ds (λ ps. Tells ps.0 × (TellsPart ps.1.0 × TellsPart ps.1.1)) TellsPart env.next (both (condition (start_of c) (typed c)) (both (typed a) (typed b)) env) (choice_part at)
      (told-both ds table.inputs g Tells (λ ps. TellsPart ps.0 × TellsPart ps.1) group (condition (start_of c) (typed c)) (both (typed a) (typed b))
      (condition-tells (start_of c) (typed c) (typed-tells c)) (told-both ds table.inputs g TellsPart TellsPart group (typed a) (typed b) (typed-tells a) (typed-tells b)) env e known)
      (λ ps h. choice_by-tells at (joint ps.1.0.kind ps.1.1.kind) ps.0 ps.1.0 ps.1.1 refl h.0 h.1.0 h.1.1)
  typed-tells (Reduction at word h filter body close) env e known =
      let r = reducer_at env at word close in
      let test = keyed r.filter (condition (start_of filter) (typed filter)) in
      let braces = keyed r.body (typed body) in
      let inner = iterated h.iterator 1 (both test braces) in
      let Q = λ (ps : ℕ × (Expr × Part)). IsIterator ds ps.0 × (Tells ps.1.0 × TellsPart ps.1.1) in
      gives-judge ds (λ ps. Unit {0} × Q ps.1) TellsPart env.next (both (ranged h) (counted (fold_numbers env) inner) env) (reduction_rule r (start_of body) h)
      (told-both ds table.inputs g Nothing Q group (ranged h) (counted (fold_numbers env) inner) (ranged-known h)
      (told-counted ds table.inputs g Q group (fold_numbers env) inner
      (told-iterated ds table.inputs g (λ ps. Tells ps.0 × TellsPart ps.1) group h.iterator 1 (both test braces)
      (told-both ds table.inputs g Tells TellsPart group test braces
      (told-keyed ds table.inputs g Tells group r.filter (condition (start_of filter) (typed filter)) (condition-tells (start_of filter) (typed filter) (typed-tells filter)))
      (told-keyed ds table.inputs g TellsPart group r.body (typed body) (typed-tells body)))))
      env e known)
      (λ ps n. reduction-tells word (start_of body) r (head_with h ps.0 ps.1.0) ps.1.1.0 ps.1.1.1 (iterator-takes ps.1.0 n.1.0) n.1.1.0 n.1.1.1)
