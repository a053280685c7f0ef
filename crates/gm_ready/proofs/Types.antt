-- Expressions that were judged to have a kind have its type.
use Rattle.std.proofs.Common.{◌≡◌, Bool, true, false, List, [], ◌∷◌, ◌++◌, refl, sym, ap, subst, ◌∙◌, Option, Some, None}
use Rattle.std.specs.Prelude.{◌&&◌, ◌||◌, not, if◌then◌else◌, Ok, Err}
use Rattle.std.specs.Cmp.Derive.{both_true}
use Rattle.std.proofs.lemmas.Bool.{both_ways}
use Rattle.gm_base.specs.declared.places.Place.{Place}
use Rattle.gm_base.specs.declared.rules.Rule.{Rule}
use Rattle.gm_base.specs.declared.rules.Rule.TheVariants.{T6, T7, T8, T10}
use Rattle.gm_value.specs.declared.values.VType.{VType}
use Rattle.gm_value.specs.declared.values.VType.TheVariants.{I32, I64, Flag, Node}
use Rattle.gm_value.specs.declared.operations.Op1.{Op1}
use Rattle.gm_value.specs.declared.operations.Op1.TheVariants.{ToI64, ToI32, Neg, Not}
use Rattle.gm_value.specs.declared.operations.Op2.{Op2}
use Rattle.gm_value.specs.declared.operations.Op2.TheVariants as Ops
use Rattle.gm_value.specs.Operations.{same_type, fits2, type1, type2, is_numeric}
use Rattle.gm_value.specs.Reductions.{reduces}
use Rattle.gm_ast.specs.declared.tree.Declaration.{Declaration}
use Rattle.gm_ast.specs.declared.tree.Head.{Head}
use Rattle.gm_ast.specs.declared.tree.Sort.{Sort}
use Rattle.gm_ast.specs.declared.tree.Sort.TheVariants as Sorts
use Rattle.gm_ast.specs.declared.tree.Variable.{Variable}
use Rattle.gm_ast.specs.declared.kinds.Binding.{Binding}
use Rattle.gm_ast.specs.declared.kinds.Kind.{Kind}
use Rattle.gm_ast.specs.declared.kinds.Kind.TheVariants as Kinds
use Rattle.gm_ast.specs.declared.kinds.Query.{Query}
use Rattle.gm_ast.specs.declared.kinds.Query.TheVariants as Queries
use Rattle.gm_ast.specs.declared.kinds.Reducer.{Reducer}
use Rattle.gm_ast.specs.declared.surface.ReductionWord.{ReductionWord}
use Rattle.gm_ast.specs.declared.surface.ReductionWord.TheVariants.{Sum, Product, Min, Max, Count, Exist, All}
use Rattle.gm_ast.specs.declared.surface.Prefix.{Prefix}
use Rattle.gm_ast.specs.declared.surface.Prefix.TheVariants as Prefixes
use Rattle.gm_ast.specs.declared.surface.Infix.{Infix}
use Rattle.gm_ast.specs.declared.surface.Infix.TheVariants as Infixes
use Rattle.gm_ast.specs.Surface.{SurfaceExpr, Always, Number, Truth, Nil, Greatest, Least, Named, Member, Method, Paren, Prefixed, Infixed, Choose, Reduction}
use Rattle.gm_ast.specs.Program as P
use Rattle.gm_ast.specs.Program.{Expr}
use Rattle.gm_ast.specs.Judged.{Judged, Answer, ok_of, refused, refused_unless, then_answer}
use Rattle.gm_ast.specs.Names.{Env, is, is_node, is_node_type, sort_eq, used, both, iterated, keyed, counted}
use Rattle.gm_ast.specs.Kinds.{Part, part_of, narrowed, as_int, as_long, int_of, taken, joint, settled, settled_as, default_of, is_empty, is_number, is_number_type, is_flag, is_flag_type, accepts, fitted}
use Rattle.gm_ast.specs.Typing as Typing
use Rattle.gm_ast.specs.Typing.{typed, condition, start_of, ranged, range_rule, domain_of, head_with, named_as, member_part, method_part, query_of, stands_for_node, is_already, changed_part, cast_part, prefix_part, paired, paired_after, large_of, compares_any, is_arithmetic, is_value, compared_as, operation, operation_by, infix_part, choice_by, choice_part, fold_of, folded, of_numbers_as, of_conditions, reduction_part, reduction_rule, reducer_at, fold_numbers}
use Rattle.gm_semantics.specs.Expressions.{reduce_of}
use Rattle.gm_forms.proofs.Named.{both-true}
use Rattle.gm_forms.specs.Typing.{type_at, type_if, by_one, is_type, takes, takes1, type_in}
use Rattle.gm_ready.specs.Spelled.{constants_fit}
use Rattle.gm_ready.proofs.Tables.{iterates_nodes, Binds, variable-is}
use Rattle.gm_ready.proofs.Judging.{IfPart, if-good, if-then, if-else, Good, gives-judge, good-both, good-used, IsIterator, good-iterated, good-keyed, good-counted}

-- ---- types

same-self : (t : VType) → same_type t t ≡ true
same-self I32 = refl
same-self I64 = refl
same-self Flag = refl
same-self Node = refl

pub numeric-number : (t : VType) → is_number_type t ≡ true → is_numeric t ≡ true
numeric-number I32 h = refl
numeric-number I64 h = refl
numeric-number Flag h = h
numeric-number Node h = h

pub flag-type : (t : VType) → is_flag_type t ≡ true → t ≡ Flag
flag-type I32 h = absurd (both_ways false refl h)
flag-type I64 h = absurd (both_ways false refl h)
flag-type Flag h = refl
flag-type Node h = absurd (both_ways false refl h)

node-type : (t : VType) → is_node_type t ≡ true → t ≡ Node
node-type I32 h = absurd (both_ways false refl h)
node-type I64 h = absurd (both_ways false refl h)
node-type Flag h = absurd (both_ways false refl h)
node-type Node h = refl

-- what an operation of numbers takes and gives
arithmetic-type : (op : Op2) (t : VType) → is_arithmetic op ≡ true → is_number_type t ≡ true → (fits2 op t t ≡ true) × (type2 op t ≡ t)
arithmetic-type op I32 a n = by op a
  where
    by : (op : Op2) → is_arithmetic op ≡ true → (fits2 op I32 I32 ≡ true) × (type2 op I32 ≡ I32)
    by Ops.Add a = (refl, refl)
    by Ops.Sub a = (refl, refl)
    by Ops.Mul a = (refl, refl)
    by Ops.Div a = (refl, refl)
    by Ops.Rem a = (refl, refl)
    by Ops.Eq a = absurd (both_ways false refl a)
    by Ops.Ne a = absurd (both_ways false refl a)
    by Ops.Lt a = absurd (both_ways false refl a)
    by Ops.Le a = absurd (both_ways false refl a)
    by Ops.Gt a = absurd (both_ways false refl a)
    by Ops.Ge a = absurd (both_ways false refl a)
arithmetic-type op I64 a n = by op a
  where
    by : (op : Op2) → is_arithmetic op ≡ true → (fits2 op I64 I64 ≡ true) × (type2 op I64 ≡ I64)
    by Ops.Add a = (refl, refl)
    by Ops.Sub a = (refl, refl)
    by Ops.Mul a = (refl, refl)
    by Ops.Div a = (refl, refl)
    by Ops.Rem a = (refl, refl)
    by Ops.Eq a = absurd (both_ways false refl a)
    by Ops.Ne a = absurd (both_ways false refl a)
    by Ops.Lt a = absurd (both_ways false refl a)
    by Ops.Le a = absurd (both_ways false refl a)
    by Ops.Gt a = absurd (both_ways false refl a)
    by Ops.Ge a = absurd (both_ways false refl a)
arithmetic-type op Flag a n = absurd (both_ways false refl n)
arithmetic-type op Node a n = absurd (both_ways false refl n)

compared-number : (op : Op2) → is_arithmetic op ≡ false → (fits2 op I32 I32 ≡ true) × ((fits2 op I64 I64 ≡ true) × (type2 op I32 ≡ Flag) × (type2 op I64 ≡ Flag))
compared-number Ops.Add a = absurd (both_ways true a refl)
compared-number Ops.Sub a = absurd (both_ways true a refl)
compared-number Ops.Mul a = absurd (both_ways true a refl)
compared-number Ops.Div a = absurd (both_ways true a refl)
compared-number Ops.Rem a = absurd (both_ways true a refl)
compared-number Ops.Eq a = (refl, (refl, refl, refl))
compared-number Ops.Ne a = (refl, (refl, refl, refl))
compared-number Ops.Lt a = (refl, (refl, refl, refl))
compared-number Ops.Le a = (refl, (refl, refl, refl))
compared-number Ops.Gt a = (refl, (refl, refl, refl))
compared-number Ops.Ge a = (refl, (refl, refl, refl))

-- what a comparison takes and gives
comparison-type : (op : Op2) (t : VType) → is_arithmetic op ≡ false → is_number_type t || (compares_any op && true) ≡ true → (fits2 op t t ≡ true) × (type2 op t ≡ Flag)
comparison-type op I32 a n = let c = compared-number op a in (c.0, c.1.1)
comparison-type op I64 a n = let c = compared-number op a in (c.1.0, c.1.2)
comparison-type Ops.Eq Flag a n = (refl, refl)
comparison-type Ops.Ne Flag a n = (refl, refl)
comparison-type Ops.Eq Node a n = (refl, refl)
comparison-type Ops.Ne Node a n = (refl, refl)
comparison-type _ Flag a n = absurd (both_ways false refl n)
comparison-type _ Node a n = absurd (both_ways false refl n)

module _ (ds : List Declaration) where
  -- an expression whose constants are in range has this type
  abbrev pub IsOf : VType → Expr → Type 0
  IsOf t e = constants_fit e ≡ true → type_in ds e ≡ Some t

  -- what a part of a kind is: a flexible one may be a Long or an Int, and an edge is no value
  abbrev pub HasKind : Kind → Expr → Type 0
  HasKind Kinds.Flexible e = IsOf I64 e × IsOf I32 (narrowed e)
  HasKind (Kinds.Of t) e = IsOf t e
  HasKind Kinds.Edge e = Unit {0}

  abbrev pub IsTypedPart : Part → Type 0
  IsTypedPart p = HasKind p.kind p.core

  abbrev IfPartTyped : Answer Part → Type 0
  IfPartTyped a = IfPart IsTypedPart (ok_of a)

  typed-if : (b : Bool) (t : VType) → b ≡ true → type_if b t ≡ Some t
  typed-if b t h = ap (λ c. type_if c t) h

  -- ---- how a part fits where it is wanted

  -- the kinds of parts that a kind takes
  abbrev Takes : Kind → Kind → Type 0
  Takes (Kinds.Of t) k = accepts t k ≡ true
  Takes Kinds.Flexible k = k ≡ Kinds.Flexible
  Takes Kinds.Edge k = Unit {0}

  as_int-typed : (large : List Place) (e : Expr) → IsOf I32 (narrowed e) → IfPart (IsOf I32) (ok_of (as_int (record { kind = Kinds.Flexible; core = e; large = large })))
  as_int-typed [] e h = h
  as_int-typed (x ∷ xs) e h = tt

  int_of-typed : (k : Kind) (p : Part) → accepts I32 k ≡ true → HasKind k p.core → IfPart (IsOf I32) (ok_of (int_of k p))
  int_of-typed Kinds.Flexible p a h = as_int-typed p.large p.core h.1
  int_of-typed (Kinds.Of I32) p a h = h
  int_of-typed (Kinds.Of I64) p a h = absurd (both_ways false refl a)
  int_of-typed (Kinds.Of Flag) p a h = absurd (both_ways false refl a)
  int_of-typed (Kinds.Of Node) p a h = absurd (both_ways false refl a)
  int_of-typed Kinds.Edge p a h = absurd (both_ways false refl a)

  as_long-typed : (at : Place) (k : Kind) (e : Expr) → accepts I64 k ≡ true → HasKind k e → IsOf I64 (as_long at k e)
  as_long-typed at Kinds.Flexible e a h = h.0
  as_long-typed at (Kinds.Of I32) e a h = λ fit. ap (λ o. by_one o (λ t. type_if (takes1 ToI64 t) (type1 ToI64 t))) (h fit)
  as_long-typed at (Kinds.Of I64) e a h = h
  as_long-typed at (Kinds.Of Flag) e a h = absurd (both_ways false refl a)
  as_long-typed at (Kinds.Of Node) e a h = absurd (both_ways false refl a)
  as_long-typed at Kinds.Edge e a h = absurd (both_ways false refl a)

  plain-typed : (t : VType) (k : Kind) (e : Expr) → accepts t k ≡ true → is_number_type t ≡ false → HasKind k e → IsOf t e
  plain-typed I32 k e a n h = absurd (both_ways true n refl)
  plain-typed I64 k e a n h = absurd (both_ways true n refl)
  plain-typed Flag Kinds.Flexible e a n h = absurd (both_ways false refl a)
  plain-typed Flag (Kinds.Of I32) e a n h = absurd (both_ways false refl a)
  plain-typed Flag (Kinds.Of I64) e a n h = absurd (both_ways false refl a)
  plain-typed Flag (Kinds.Of Flag) e a n h = h
  plain-typed Flag (Kinds.Of Node) e a n h = absurd (both_ways false refl a)
  plain-typed Flag Kinds.Edge e a n h = absurd (both_ways false refl a)
  plain-typed Node Kinds.Flexible e a n h = absurd (both_ways false refl a)
  plain-typed Node (Kinds.Of I32) e a n h = absurd (both_ways false refl a)
  plain-typed Node (Kinds.Of I64) e a n h = absurd (both_ways false refl a)
  plain-typed Node (Kinds.Of Flag) e a n h = absurd (both_ways false refl a)
  plain-typed Node (Kinds.Of Node) e a n h = h
  plain-typed Node Kinds.Edge e a n h = absurd (both_ways false refl a)

  taken-typed : (k : Kind) (at : Place) (p : Part) → Takes k p.kind → IsTypedPart p → IfPart (HasKind k) (ok_of (taken k at p))
  taken-typed (Kinds.Of I32) at p a h = int_of-typed p.kind p a h
  taken-typed (Kinds.Of I64) at p a h = as_long-typed at p.kind p.core a h
  taken-typed (Kinds.Of Flag) at p a h = plain-typed Flag p.kind p.core a refl h
  taken-typed (Kinds.Of Node) at p a h = plain-typed Node p.kind p.core a refl h
  taken-typed Kinds.Flexible at p a h = subst (λ k. HasKind k p.core) a h
  taken-typed Kinds.Edge at p a h = tt

  pub fitted-typed : (t : VType) (rule : Rule) (at : Place) (p : Part) → IsTypedPart p → IfPart (IsOf t) (ok_of (fitted t rule at p))
  fitted-typed t rule at p h = if-else (IsOf t) (accepts t p.kind) (taken (Kinds.Of t) at p) (refused rule at) (λ a. taken-typed (Kinds.Of t) at p a h) (λ _. tt)

  settled-typed : (k : Kind) (p : Part) → p.kind ≡ k → HasKind k p.core → IsTypedPart (settled_as k p)
  settled-typed Kinds.Flexible p e h = by (is_empty p.large)
    where
      by : (none : Bool) → IsTypedPart (if none then part_of (Kinds.Of I32) (narrowed p.core) else part_of (Kinds.Of I64) p.core)
      by true = h.1
      by false = h.0
  settled-typed (Kinds.Of t) p e h = subst (λ k. HasKind k p.core) (sym e) h
  settled-typed Kinds.Edge p e h = subst (λ k. HasKind k p.core) (sym e) tt

  abbrev HavePair : Kind → Expr × Expr → Type 0
  HavePair k p = HasKind k p.0 × HasKind k p.1

  pairs-typed : (k : Kind) (a b : Answer Expr) → IfPart (HasKind k) (ok_of a) → IfPart (HasKind k) (ok_of b) → IfPart (HavePair k) (ok_of (paired_after a b))
  pairs-typed k (Err rs) b h g = tt
  pairs-typed k (Ok a) (Err rs) h g = tt
  pairs-typed k (Ok a) (Ok b) h g = (h, g)

  paired-typed : (at : Place) (k : Kind) (a b : Part) → Takes k a.kind → Takes k b.kind → IsTypedPart a → IsTypedPart b → IfPart (HavePair k) (ok_of (paired at k a b))
  paired-typed at k a b u v h g = pairs-typed k (taken k at a) (taken k at b) (taken-typed k at a u h) (taken-typed k at b v g)

  -- the kind that two kinds have in common takes both
  abbrev TakesBoth : Kind → Kind → Kind → Type 0
  TakesBoth j k o = Takes o j × Takes o k

  joint-takes : (j k : Kind) → IfPart (TakesBoth j k) (joint j k)
  joint-takes Kinds.Flexible Kinds.Flexible = (refl, refl)
  joint-takes Kinds.Flexible (Kinds.Of I32) = (refl, refl)
  joint-takes Kinds.Flexible (Kinds.Of I64) = (refl, refl)
  joint-takes Kinds.Flexible (Kinds.Of Flag) = tt
  joint-takes Kinds.Flexible (Kinds.Of Node) = tt
  joint-takes Kinds.Flexible Kinds.Edge = tt
  joint-takes (Kinds.Of I32) Kinds.Flexible = (refl, refl)
  joint-takes (Kinds.Of I64) Kinds.Flexible = (refl, refl)
  joint-takes (Kinds.Of Flag) Kinds.Flexible = tt
  joint-takes (Kinds.Of Node) Kinds.Flexible = tt
  joint-takes (Kinds.Of I32) (Kinds.Of I32) = (refl, refl)
  joint-takes (Kinds.Of I32) (Kinds.Of I64) = (refl, refl)
  joint-takes (Kinds.Of I32) (Kinds.Of Flag) = tt
  joint-takes (Kinds.Of I32) (Kinds.Of Node) = tt
  joint-takes (Kinds.Of I64) (Kinds.Of I32) = (refl, refl)
  joint-takes (Kinds.Of I64) (Kinds.Of I64) = (refl, refl)
  joint-takes (Kinds.Of I64) (Kinds.Of Flag) = tt
  joint-takes (Kinds.Of I64) (Kinds.Of Node) = tt
  joint-takes (Kinds.Of Flag) (Kinds.Of I32) = tt
  joint-takes (Kinds.Of Flag) (Kinds.Of I64) = tt
  joint-takes (Kinds.Of Flag) (Kinds.Of Flag) = (refl, refl)
  joint-takes (Kinds.Of Flag) (Kinds.Of Node) = tt
  joint-takes (Kinds.Of Node) (Kinds.Of I32) = tt
  joint-takes (Kinds.Of Node) (Kinds.Of I64) = tt
  joint-takes (Kinds.Of Node) (Kinds.Of Flag) = tt
  joint-takes (Kinds.Of Node) (Kinds.Of Node) = (refl, refl)
  joint-takes (Kinds.Of t) Kinds.Edge = tt
  joint-takes Kinds.Edge Kinds.Flexible = tt
  joint-takes Kinds.Edge (Kinds.Of u) = tt
  joint-takes Kinds.Edge Kinds.Edge = (tt, tt)

  -- ---- names

  pub bound-type : (b : Binding) → Binds ds b → type_at ds b.index ≡ b.variable.vtype
  bound-type b h = ap (λ (v : Variable). v.vtype) (variable-is ds b h)

  node-of : (v : Variable) → is Sorts.Iterator v || is Sorts.Graph v ≡ true → iterates_nodes v ≡ true → v.vtype ≡ Node
  node-of v i h = node-type v.vtype (by (is Sorts.Iterator v || is Sorts.Graph v) (is_node_type v.vtype) i h)
    where
      by : (a b : Bool) → a ≡ true → not a || b ≡ true → b ≡ true
      by true b i h = h
      by false b i h = absurd (both_ways false refl i)

  iterates : Sort → Bool
  iterates s = sort_eq Sorts.Iterator s || sort_eq Sorts.Graph s

  names-typed : (s : Sort) (group : Bool) (at : Place) (b : Binding) → b.variable.sort ≡ s → Binds ds b → IfPartTyped (named_as s group at b)
  names-typed Sorts.Scalar group at b e h = λ _. ap Some (bound-type b h)
  names-typed Sorts.Iterator group at b e h = λ _. ap Some (bound-type b h ∙ node-of b.variable (ap (λ s. sort_eq Sorts.Iterator s || sort_eq Sorts.Graph s) e) h.1)
  names-typed Sorts.Edge group at b e h = tt
  names-typed Sorts.Graph group at b e h = if-good IsTypedPart group T7 at _ (λ _. λ _. ap Some (bound-type b h ∙ node-of b.variable (ap (λ s. sort_eq Sorts.Iterator s || sort_eq Sorts.Graph s) e) h.1))
  names-typed Sorts.NodeProperty group at b e h = tt
  names-typed Sorts.EdgeProperty group at b e h = tt

  member-typed : (group : Bool) (at : Place) (bs : Binding × Binding) → Binds ds bs.0 × Binds ds bs.1 → IfPartTyped (member_part group at bs)
  member-typed group at bs h =
      let x = bs.0 in
      let p = bs.1 in
      if-else IsTypedPart (stands_for_node group x.variable && is Sorts.NodeProperty p.variable) (Ok (part_of (Kinds.Of p.variable.vtype) (P.Property x.index p.index at)))
      (if is Sorts.Edge x.variable && is Sorts.EdgeProperty p.variable then Ok (part_of (Kinds.Of p.variable.vtype) (P.EdgeProperty x.index p.index at)) else refused T7 at)
      (λ _. λ _. ap Some (bound-type p h.1))
      (λ _. if-else IsTypedPart (is Sorts.Edge x.variable && is Sorts.EdgeProperty p.variable) (Ok (part_of (Kinds.Of p.variable.vtype) (P.EdgeProperty x.index p.index at))) (refused T7 at)
      (λ _. λ _. ap Some (bound-type p h.1)) (λ _. tt))

  method-typed : (group : Bool) (at : Place) (q : Query) (b : Binding) → IfPartTyped (method_part group at q b)
  method-typed group at (Queries.Degree d) b = if-good IsTypedPart (stands_for_node group b.variable) T7 at _ (λ _. λ _. refl)
  method-typed group at Queries.NodeCount b = if-good IsTypedPart (is Sorts.Graph b.variable) T7 at _ (λ _. λ _. refl)
  method-typed group at Queries.EdgeCount b = if-good IsTypedPart (is Sorts.Graph b.variable) T7 at _ (λ _. λ _. refl)
  method-typed group at Queries.ToEdge b = tt
  method-typed group at Queries.Unknown b = tt

  -- ---- operators

  -- an operator before an operand of a type that it takes
  unary-typed : (op : Op1) (at : Place) (e : Expr) (t u : VType) → takes1 op t ≡ true → type1 op t ≡ u → IsOf t e → IsOf u (P.Unary op at e)
  unary-typed op at e t u f is h = λ fit. ap (λ o. by_one o (λ t. type_if (takes1 op t) (type1 op t))) (h fit) ∙ typed-if (takes1 op t) (type1 op t) f ∙ ap Some is

  minus-typed : (at : Place) (k : Kind) (e : Expr) → is_number k ≡ true → HasKind k e → HasKind k (P.Unary Neg at e)
  minus-typed at Kinds.Flexible e n h = (unary-typed Neg at e I64 I64 refl refl h.0, unary-typed Neg at (narrowed e) I32 I32 refl refl h.1)
  minus-typed at (Kinds.Of t) e n h = unary-typed Neg at e t t (numeric-number t n) refl h
  minus-typed at Kinds.Edge e n h = tt

  not-typed : (at : Place) (k : Kind) (e : Expr) → is_flag k ≡ true → HasKind k e → HasKind k (P.Unary Not at e)
  not-typed at Kinds.Flexible e n h = absurd (both_ways false refl n)
  not-typed at (Kinds.Of t) e n h =
      let same : t ≡ Flag = flag-type t n in
      subst (λ u. IsOf u (P.Unary Not at e)) (sym same) (unary-typed Not at e Flag Flag refl refl (subst (λ u. IsOf u e) same h))
  not-typed at Kinds.Edge e n h = tt

  -- a number of a type, as one of a type
  cast-number : (t u : VType) (at : Place) (p : Part) → p.kind ≡ Kinds.Of u → is_number_type u ≡ true → IsOf u p.core → IsTypedPart (if is_already t (Kinds.Of u) then p else changed_part t at p)
  cast-number I32 I32 at p e n h = subst (λ k. HasKind k p.core) (sym e) h
  cast-number I32 I64 at p e n h = unary-typed ToI32 at p.core I64 I32 refl refl h
  cast-number I64 I32 at p e n h = unary-typed ToI64 at p.core I32 I64 refl refl h
  cast-number I64 I64 at p e n h = subst (λ k. HasKind k p.core) (sym e) h
  cast-number Flag u at p e n h = subst (λ k. HasKind k p.core) (sym e) h
  cast-number Node u at p e n h = subst (λ k. HasKind k p.core) (sym e) h
  cast-number t Flag at p e n h = absurd (both_ways false refl n)
  cast-number t Node at p e n h = absurd (both_ways false refl n)

  cast-typed : (t : VType) (at : Place) (k : Kind) (p : Part) → p.kind ≡ k → is_number k ≡ true → HasKind k p.core → IsTypedPart (cast_part t at (settled_as k p))
  cast-typed t at Kinds.Flexible p e n h = by (is_empty p.large)
    where
      by : (none : Bool) → IsTypedPart (cast_part t at (if none then part_of (Kinds.Of I32) (narrowed p.core) else part_of (Kinds.Of I64) p.core))
      by true = cast-number t I32 at (part_of (Kinds.Of I32) (narrowed p.core)) refl refl h.1
      by false = cast-number t I64 at (part_of (Kinds.Of I64) p.core) refl refl h.0
  cast-typed t at (Kinds.Of u) p e n h = subst (λ k. IsTypedPart (if is_already t k then p else changed_part t at p)) (sym e) (cast-number t u at p e n h)
  cast-typed t at Kinds.Edge p e n h = absurd (both_ways false refl n)

  prefix-typed : (at : Place) (op : Prefix) (p : Part) → IsTypedPart p → IfPartTyped (prefix_part at op p)
  prefix-typed at Prefixes.Minus p h = if-good IsTypedPart (is_number p.kind) T8 at _ (λ n. minus-typed at p.kind p.core n h)
  prefix-typed at Prefixes.Not p h = if-good IsTypedPart (is_flag p.kind) T8 at _ (λ n. not-typed at p.kind p.core n h)
  prefix-typed at (Prefixes.Cast t) p h = if-good IsTypedPart (is_number p.kind) T8 at _ (λ n. cast-typed t at p.kind p refl n h)

  -- an operation of two parts of one type
  binary-typed : (op : Op2) (at : Place) (a b : Expr) (t u : VType) → fits2 op t t ≡ true → type2 op t ≡ u → IsOf t a → IsOf t b → IsOf u (P.Binary op at a b)
  binary-typed op at a b t u f is h g = λ fit.
      let s = both-true (constants_fit a) (constants_fit b) fit in
      ap (λ o. by_one o (λ t. by_one (type_in ds b) (λ u. type_if (fits2 op t u) (type2 op t)))) (h s.0)
      ∙ ap (λ o. by_one o (λ u. type_if (fits2 op t u) (type2 op t))) (g s.1) ∙ typed-if (fits2 op t t) (type2 op t) f ∙ ap Some is

  arithmetic-typed : (op : Op2) (at : Place) (k : Kind) (a b : Expr) → is_arithmetic op ≡ true → is_number k ≡ true → HasKind k a → HasKind k b → HasKind k (P.Binary op at a b)
  arithmetic-typed op at Kinds.Flexible a b r n h g =
      let long = arithmetic-type op I64 r refl in
      let int = arithmetic-type op I32 r refl in
      (binary-typed op at a b I64 I64 long.0 long.1 h.0 g.0, binary-typed op at (narrowed a) (narrowed b) I32 I32 int.0 int.1 h.1 g.1)
  arithmetic-typed op at (Kinds.Of t) a b r n h g = let s = arithmetic-type op t r n in binary-typed op at a b t t s.0 s.1 h g
  arithmetic-typed op at Kinds.Edge a b r n h g = tt

  -- what two kinds are compared as takes what their kind takes
  compared-takes : (k : Kind) (large : List Place) (j : Kind) → Takes k j → Takes (compared_as k large) j
  compared-takes Kinds.Flexible large j h = subst (λ j. Takes (compared_as Kinds.Flexible large) j) (sym h) (by large)
    where
      by : (large : List Place) → accepts (default_of large) Kinds.Flexible ≡ true
      by [] = refl
      by (x ∷ xs) = refl
  compared-takes (Kinds.Of t) large j h = h
  compared-takes Kinds.Edge large j h = tt

  comparison-typed : (op : Op2) (at : Place) (k : Kind) (large : List Place) (a b : Expr) → is_arithmetic op ≡ false → is_number k || (compares_any op && is_value k) ≡ true
      → HasKind (compared_as k large) a → HasKind (compared_as k large) b → IsOf Flag (P.Binary op at a b)
  comparison-typed op at Kinds.Flexible [] a b r n h g = let s = comparison-type op I32 r refl in binary-typed op at a b I32 Flag s.0 s.1 h g
  comparison-typed op at Kinds.Flexible (x ∷ xs) a b r n h g = let s = comparison-type op I64 r refl in binary-typed op at a b I64 Flag s.0 s.1 h g
  comparison-typed op at (Kinds.Of t) large a b r n h g = let s = comparison-type op t r n in binary-typed op at a b t Flag s.0 s.1 h g
  comparison-typed op at Kinds.Edge large a b r n h g = absurd (both_ways (compares_any op && false) (by (compares_any op)) n)
    where
      by : (c : Bool) → c && false ≡ false
      by true = refl
      by false = refl

  operation-typed : (at : Place) (op : Op2) (k : Kind) (a b : Part) → TakesBoth a.kind b.kind k → IsTypedPart a → IsTypedPart b → IfPartTyped (operation at op k a b)
  operation-typed at op k a b v h g =
      let large = large_of k (a.large ++ b.large) in
      let c = compared_as k large in
      let number = if is_number k then then_answer (paired at k a b) (λ p. record { kind = k; core = P.Binary op at p.0 p.1; large = large }) else refused T8 at in
      let compared = if is_number k || (compares_any op && is_value k) then then_answer (paired at c a b) (λ p. part_of (Kinds.Of Flag) (P.Binary op at p.0 p.1)) else refused T8 at in
      by (is_arithmetic op) refl number compared
      (λ r. if-else IsTypedPart (is_number k) (then_answer (paired at k a b) (λ p. record { kind = k; core = P.Binary op at p.0 p.1; large = large })) (refused T8 at)
      (λ n. if-then (HavePair k) IsTypedPart (paired at k a b) (λ p. record { kind = k; core = P.Binary op at p.0 p.1; large = large }) (paired-typed at k a b v.0 v.1 h g) (λ p m. arithmetic-typed op at k p.0 p.1 r n m.0 m.1)) (λ _. tt))
      (λ r. if-else IsTypedPart (is_number k || (compares_any op && is_value k)) (then_answer (paired at c a b) (λ p. part_of (Kinds.Of Flag) (P.Binary op at p.0 p.1))) (refused T8 at)
      (λ n. if-then (HavePair c) IsTypedPart (paired at c a b) (λ p. part_of (Kinds.Of Flag) (P.Binary op at p.0 p.1))
      (paired-typed at c a b (compared-takes k large a.kind v.0) (compared-takes k large b.kind v.1) h g) (λ p m. comparison-typed op at k large p.0 p.1 r n m.0 m.1)) (λ _. tt))
    where
      by : (r : Bool) → is_arithmetic op ≡ r → (x y : Answer Part) → (is_arithmetic op ≡ true → IfPartTyped x) → (is_arithmetic op ≡ false → IfPartTyped y) → IfPartTyped (if r then x else y)
      by true e x y h k = h e
      by false e x y h k = k e

  operation_by-typed : (at : Place) (op : Op2) (o : Option Kind) (a b : Part) → IfPart (TakesBoth a.kind b.kind) o → IsTypedPart a → IsTypedPart b → IfPartTyped (operation_by at op o a b)
  operation_by-typed at op None a b v h g = tt
  operation_by-typed at op (Some k) a b v h g = operation-typed at op k a b v h g

  -- a part that is a Bool
  flag-typed : (k : Kind) (e : Expr) → is_flag k ≡ true → HasKind k e → IsOf Flag e
  flag-typed Kinds.Flexible e f h = absurd (both_ways false refl f)
  flag-typed (Kinds.Of t) e f h = subst (λ u. IsOf u e) (flag-type t f) h
  flag-typed Kinds.Edge e f h = absurd (both_ways false refl f)

  pub is-type : (t : VType) (e : Expr) → type_in ds e ≡ Some t → is_type t (type_in ds e) ≡ true
  is-type t e h = ap (is_type t) h ∙ same-self t

  both-flags : (a b : Expr) → IsOf Flag a → IsOf Flag b → constants_fit a && constants_fit b ≡ true → is_type Flag (type_in ds a) && is_type Flag (type_in ds b) ≡ true
  both-flags a b h g fit = let s = both-true (constants_fit a) (constants_fit b) fit in both_true (is-type Flag a (h s.0)) (is-type Flag b (g s.1))

  infix-typed : (at : Place) (op : Infix) (ps : Part × Part) → IsTypedPart ps.0 × IsTypedPart ps.1 → IfPartTyped (infix_part at op ps)
  infix-typed at (Infixes.Op op) ps h = operation_by-typed at op (joint ps.0.kind ps.1.kind) ps.0 ps.1 (joint-takes ps.0.kind ps.1.kind) h.0 h.1
  infix-typed at Infixes.And ps h = if-good IsTypedPart (is_flag ps.0.kind && is_flag ps.1.kind) T8 at _
      (λ t. let s = both-true (is_flag ps.0.kind) (is_flag ps.1.kind) t in
      λ fit. typed-if _ Flag (both-flags ps.0.core ps.1.core (flag-typed ps.0.kind ps.0.core s.0 h.0) (flag-typed ps.1.kind ps.1.core s.1 h.1) fit))
  infix-typed at Infixes.Or ps h = if-good IsTypedPart (is_flag ps.0.kind && is_flag ps.1.kind) T8 at _
      (λ t. let s = both-true (is_flag ps.0.kind) (is_flag ps.1.kind) t in
      λ fit. typed-if _ Flag (both-flags ps.0.core ps.1.core (flag-typed ps.0.kind ps.0.core s.0 h.0) (flag-typed ps.1.kind ps.1.core s.1 h.1) fit))

  choose-typed : (c a b : Expr) (t : VType) → IsOf Flag c → IsOf t a → IsOf t b → IsOf t (P.Choose c a b)
  choose-typed c a b t f h g = λ fit.
      let s = both-true (constants_fit c) (constants_fit a && constants_fit b) fit in
      let r = both-true (constants_fit a) (constants_fit b) s.1 in
      ap (λ o. by_one o (λ t. type_if (is_type Flag (type_in ds c) && is_type t (type_in ds b)) t)) (h r.0)
      ∙ typed-if (is_type Flag (type_in ds c) && is_type t (type_in ds b)) t (both_true (is-type Flag c (f s.0)) (is-type t b (g r.1)))

  chosen-typed : (k : Kind) (c a b : Expr) → IsOf Flag c → HasKind k a → HasKind k b → HasKind k (P.Choose c a b)
  chosen-typed Kinds.Flexible c a b f h g = (choose-typed c a b I64 f h.0 g.0, choose-typed c (narrowed a) (narrowed b) I32 f h.1 g.1)
  chosen-typed (Kinds.Of t) c a b f h g = choose-typed c a b t f h g
  chosen-typed Kinds.Edge c a b f h g = tt

  choice_by-typed : (at : Place) (o : Option Kind) (c : Expr) (a b : Part) → IfPart (TakesBoth a.kind b.kind) o → IsOf Flag c → IsTypedPart a → IsTypedPart b → IfPartTyped (choice_by at o c a b)
  choice_by-typed at None c a b v f h g = tt
  choice_by-typed at (Some k) c a b v f h g =
      if-then (HavePair k) IsTypedPart (paired at k a b) (λ p. record { kind = k; core = P.Choose c p.0 p.1; large = large_of k (a.large ++ b.large) })
      (paired-typed at k a b v.0 v.1 h g) (λ p m. chosen-typed k c p.0 p.1 f m.0 m.1)

  choice-typed : (at : Place) (ps : Expr × (Part × Part)) → IsOf Flag ps.0 × (IsTypedPart ps.1.0 × IsTypedPart ps.1.1) → IfPartTyped (choice_part at ps)
  choice-typed at ps h = choice_by-typed at (joint ps.1.0.kind ps.1.1.kind) ps.0 ps.1.0 ps.1.1 (joint-takes ps.1.0.kind ps.1.1.kind) h.0 h.1.0 h.1.1

  -- ---- reductions

  folded-typed : (r : Reducer) (t u : VType) (h : Head) (filter e : Expr) → takes r.word t ≡ u → reduces (reduce_of r.word) t ≡ true → IsOf Flag filter → IsOf u e → IsOf t (P.Folded (fold_of r t) h filter e)
  folded-typed r t u h filter e is red f g = λ fit.
      let s = both-true (constants_fit filter) (constants_fit e) fit in
      let value : is_type (takes r.word t) (type_in ds e) ≡ true = ap (λ v. is_type v (type_in ds e)) is ∙ is-type u e (g s.1) in
      typed-if _ t (both_true (is-type Flag filter (f s.0)) (both_true value red))

  -- a reduction of numbers, by its word
  abbrev TakesNumbers : ReductionWord → Type 0
  TakesNumbers w = (t : VType) → is_number_type t ≡ true → (takes w t ≡ t) × (reduces (reduce_of w) t ≡ true)

  not-flag : (t : VType) → is_number_type t ≡ true → reduces (reduce_of Max) t ≡ true
  not-flag I32 n = refl
  not-flag I64 n = refl
  not-flag Flag n = n
  not-flag Node n = absurd (both_ways false refl n)

  sums : TakesNumbers Sum
  sums t n = (refl, numeric-number t n)

  products : TakesNumbers Product
  products t n = (refl, numeric-number t n)

  leasts : TakesNumbers Min
  leasts t n = (refl, numeric-number t n)

  greatests : TakesNumbers Max
  greatests t n = (refl, not-flag t n)

  numbers-typed : (w : ReductionWord) (k : Kind) (r : Reducer) (h : Head) (filter e : Expr) → r.word ≡ w → TakesNumbers w → IsOf Flag filter → HasKind k e → IfPartTyped (of_numbers_as k r h filter e)
  numbers-typed w (Kinds.Of t) r h filter e is ok f g = if-good IsTypedPart (is_number_type t) T8 r.place (folded r t h filter e)
      (λ n. let o = subst TakesNumbers (sym is) ok t n in folded-typed r t t h filter e o.0 o.1 f g)
  numbers-typed w Kinds.Flexible r h filter e is ok f g = tt
  numbers-typed w Kinds.Edge r h filter e is ok f g = tt

  conditions-typed : (start : Place) (t : VType) (r : Reducer) (h : Head) (filter : Expr) (p : Part) → takes r.word t ≡ Flag → reduces (reduce_of r.word) t ≡ true → IsOf Flag filter → IsTypedPart p → IfPartTyped (of_conditions start t r h filter p)
  conditions-typed start t r h filter p is red f g = if-good IsTypedPart (is_flag p.kind) T10 start (folded r t h filter p.core)
      (λ v. folded-typed r t Flag h filter p.core is red f (flag-typed p.kind p.core v g))

  settled-kind : (p : Part) → IsTypedPart p → HasKind (settled p).kind (settled p).core
  settled-kind p h = settled-typed p.kind p refl h

  reduction-typed : (word : ReductionWord) (start : Place) (r : Reducer) (h : Head) (filter : Expr) (p : Part) → r.word ≡ word → IsOf Flag filter → IsTypedPart p → IfPartTyped (reduction_part word start r h filter p)
  reduction-typed Sum start r h filter p is f g = numbers-typed Sum (settled p).kind r h filter (settled p).core is sums f (settled-kind p g)
  reduction-typed Product start r h filter p is f g = numbers-typed Product (settled p).kind r h filter (settled p).core is products f (settled-kind p g)
  reduction-typed Min start r h filter p is f g = numbers-typed Min (settled p).kind r h filter (settled p).core is leasts f (settled-kind p g)
  reduction-typed Max start r h filter p is f g = numbers-typed Max (settled p).kind r h filter (settled p).core is greatests f (settled-kind p g)
  reduction-typed Count start r h filter p is f g = conditions-typed start I32 r h filter p (ap (λ w. takes w I32) is) (ap (λ w. reduces (reduce_of w) I32) is) f g
  reduction-typed Exist start r h filter p is f g = conditions-typed start Flag r h filter p (ap (λ w. takes w Flag) is) (ap (λ w. reduces (reduce_of w) Flag) is) f g
  reduction-typed All start r h filter p is f g = conditions-typed start Flag r h filter p (ap (λ w. takes w Flag) is) (ap (λ w. reduces (reduce_of w) Flag) is) f g

  -- ---- an expression

  pub condition-typed : (at : Place) (part : Env → Judged Part) → Good ds IsTypedPart part → Good ds (IsOf Flag) (condition at part)
  condition-typed at part good env known = gives-judge ds IsTypedPart (IsOf Flag) env.next (part env) (λ p. refused_unless (is_flag p.kind) T10 at p.core)
      (good env known) (λ p h. if-good (IsOf Flag) (is_flag p.kind) T10 at p.core (λ v. flag-typed p.kind p.core v h))

  constant-typed : (b : Bool) (t : VType) → b ≡ true → type_if b t ≡ Some t
  constant-typed b t h = typed-if b t h

  pub typed-typed : (e : SurfaceExpr) → Good ds IsTypedPart (typed e)
  typed-typed Always env known = λ has clean. λ fit. typed-if _ Flag fit
  typed-typed (Number at n) env known = λ has clean. (λ fit. typed-if _ I64 fit, λ fit. typed-if _ I32 fit)
  typed-typed (Truth at b) env known = λ has clean. λ fit. typed-if _ Flag fit
  typed-typed (Nil at) env known = λ has clean. λ fit. typed-if _ Node fit
  typed-typed (Greatest at) env known = λ has clean. (λ fit. typed-if _ I64 fit, λ fit. typed-if _ I32 fit)
  typed-typed (Least at) env known = λ has clean. (λ fit. typed-if _ I64 fit, λ fit. typed-if _ I32 fit)
  typed-typed (Named x) env known = gives-judge ds (Binds ds) IsTypedPart env.next (used x env) (Typing.named_part env.group x.place)
      (good-used ds x env known) (λ b h. names-typed b.variable.sort env.group x.place b refl h)
  typed-typed (Member x p) env known = gives-judge ds (λ bs. Binds ds bs.0 × Binds ds bs.1) IsTypedPart env.next (both (used x) (used p) env) (member_part env.group x.place)
      (good-both ds (Binds ds) (Binds ds) (used x) (used p) (good-used ds x) (good-used ds p) env known) (λ bs h. member-typed env.group x.place bs h)
  typed-typed (Method x m) env known = gives-judge ds (Binds ds) IsTypedPart env.next (used x env) (method_part env.group x.place (query_of m.text))
      (good-used ds x env known) (λ b h. method-typed env.group x.place (query_of m.text) b)
  typed-typed (Paren at e) env known = typed-typed e env known
  typed-typed (Prefixed at op e) env known = gives-judge ds IsTypedPart IsTypedPart env.next (typed e env) (prefix_part at op) (typed-typed e env known) (λ p h. prefix-typed at op p h)
  typed-typed (Infixed at op a b) env known = gives-judge ds (λ ps. IsTypedPart ps.0 × IsTypedPart ps.1) IsTypedPart env.next (both (typed a) (typed b) env) (infix_part at op)
      (good-both ds IsTypedPart IsTypedPart (typed a) (typed b) (typed-typed a) (typed-typed b) env known) (λ ps h. infix-typed at op ps h)
  typed-typed (Choose at c a b) env known =
      gives-judge ds (λ ps. IsOf Flag ps.0 × (IsTypedPart ps.1.0 × IsTypedPart ps.1.1)) IsTypedPart env.next (both (condition (start_of c) (typed c)) (both (typed a) (typed b)) env) (choice_part at)
      (good-both ds (IsOf Flag) (λ ps. IsTypedPart ps.0 × IsTypedPart ps.1) (condition (start_of c) (typed c)) (both (typed a) (typed b))
      (condition-typed (start_of c) (typed c) (typed-typed c)) (good-both ds IsTypedPart IsTypedPart (typed a) (typed b) (typed-typed a) (typed-typed b)) env known)
      (λ ps h. choice-typed at ps h)
  typed-typed (Reduction at word h filter body close) env known =
      let r = reducer_at env at word close in
      let test = keyed r.filter (condition (start_of filter) (typed filter)) in
      let braces = keyed r.body (typed body) in
      let inner = iterated h.iterator 1 (both test braces) in
      gives-judge ds (λ ps. Binds ds ps.0 × (IsIterator ds ps.1.0 × (IsOf Flag ps.1.1.0 × IsTypedPart ps.1.1.1))) IsTypedPart env.next
      (both (ranged h) (counted (fold_numbers env) inner) env) (reduction_rule r (start_of body) h)
      (good-both ds (Binds ds) (λ ps. IsIterator ds ps.0 × (IsOf Flag ps.1.0 × IsTypedPart ps.1.1)) (ranged h) (counted (fold_numbers env) inner)
      (λ env known. gives-judge ds (Binds ds) (Binds ds) env.next (used h.owner env) (range_rule (domain_of h.range) h.owner.place) (good-used ds h.owner env known)
      (λ b bound. if-good (Binds ds) (if Typing.is_nodes (domain_of h.range) then is Sorts.Graph b.variable else is_node b.variable) T6 h.owner.place b (λ _. bound)))
      (good-counted ds (λ ps. IsIterator ds ps.0 × (IsOf Flag ps.1.0 × IsTypedPart ps.1.1)) (fold_numbers env) inner
      (good-iterated ds (λ ps. IsOf Flag ps.0 × IsTypedPart ps.1) h.iterator 1 (both test braces)
      (good-both ds (IsOf Flag) IsTypedPart test braces
      (good-keyed ds (IsOf Flag) r.filter (condition (start_of filter) (typed filter)) (condition-typed (start_of filter) (typed filter) (typed-typed filter)))
      (good-keyed ds IsTypedPart r.body (typed body) (typed-typed body)))))
      env known)
      (λ ps n. reduction-typed word (start_of body) r (head_with h ps.0 ps.1.0) ps.1.1.0 ps.1.1.1 refl n.1.1.0 n.1.1.1)
