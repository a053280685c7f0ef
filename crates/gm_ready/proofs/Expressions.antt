-- Expressions that have types name variables as they are declared.
use Rattle.std.proofs.Common.{◌≡◌, ℕ, Bool, true, false, List, [], ◌∷◌, ◌++◌, refl, sym, ap, subst, ◌∙◌, Option, Some, None}
use Rattle.std.specs.Prelude.{◌&&◌, ◌||◌, if◌then◌else◌, unwrap_or, Ok, Err}
use Rattle.std.proofs.lemmas.Bool.{both_ways}
use Rattle.std.proofs.lemmas.Option.{none-some}
use Rattle.gm_base.specs.declared.places.Place.{Place}
use Rattle.gm_base.specs.declared.rules.Rule.{Rule}
use Rattle.gm_base.specs.declared.rules.Rule.TheVariants.{T6, T7, T8, T10}
use Rattle.gm_value.specs.declared.values.VType.{VType}
use Rattle.gm_value.specs.declared.values.VType.TheVariants.{I32, I64, Flag, Node}
use Rattle.gm_value.specs.declared.operations.Op2.{Op2}
use Rattle.gm_ast.specs.declared.tree.Declaration.{Declaration}
use Rattle.gm_ast.specs.declared.tree.Domain.{Domain}
use Rattle.gm_ast.specs.declared.tree.Domain.TheVariants as Domains
use Rattle.gm_ast.specs.declared.tree.Head.{Head}
use Rattle.gm_ast.specs.declared.tree.Sort.{Sort}
use Rattle.gm_ast.specs.declared.tree.Sort.TheVariants as Sorts
use Rattle.gm_ast.specs.declared.tree.Variable.{Variable}
use Rattle.gm_ast.specs.declared.kinds.Binding.{Binding}
use Rattle.gm_ast.specs.declared.kinds.Kind.{Kind}
use Rattle.gm_ast.specs.declared.kinds.Kind.TheVariants as Kinds
use Rattle.gm_ast.specs.declared.kinds.Query.{Query}
use Rattle.gm_ast.specs.declared.kinds.Query.TheVariants as Queries
use Rattle.gm_ast.specs.declared.kinds.Reducer.{Reducer}
use Rattle.gm_ast.specs.declared.surface.ReductionWord.{ReductionWord}
use Rattle.gm_ast.specs.declared.surface.ReductionWord.TheVariants.{Sum, Product, Min, Max, Count, Exist, All}
use Rattle.gm_ast.specs.declared.surface.Prefix.{Prefix}
use Rattle.gm_ast.specs.declared.surface.Prefix.TheVariants as Prefixes
use Rattle.gm_ast.specs.declared.surface.Infix.{Infix}
use Rattle.gm_ast.specs.declared.surface.Infix.TheVariants as Infixes
use Rattle.gm_ast.specs.Surface.{SurfaceHead, SurfaceExpr, Always, Number, Truth, Nil, Greatest, Least, Named, Member, Method, Paren, Prefixed, Infixed, Choose, Reduction}
use Rattle.gm_ast.specs.Program as P
use Rattle.gm_ast.specs.Program.{Expr}
use Rattle.gm_ast.specs.Judged.{Judged, Answer, ok_of, refused, refused_unless, then_answer}
use Rattle.gm_ast.specs.Names.{Env, is, is_node, sort_eq, an_iterator, used, both, iterated, keyed, counted}
use Rattle.gm_ast.specs.Kinds.{Part, part_of, narrowed, as_int, as_long, int_of, taken, joint, settled, settled_as, is_empty, is_number, is_flag, accepts, fitted}
use Rattle.gm_ast.specs.Typing as Typing
use Rattle.gm_ast.specs.Typing.{typed, condition, start_of, ranged, range_rule, domain_of, head_with, named_as, member_part, method_part, query_of, stands_for_node, is_already, changed_part, cast_part, prefix_part, paired, paired_after, large_of, compares_any, is_arithmetic, is_value, compared_as, operation, operation_by, infix_part, choice_by, choice_part, folded, of_numbers_as, of_conditions, reduction_part, reduction_rule, reducer_at, fold_numbers}
use Rattle.gm_forms.proofs.Named.{both-true}
use Rattle.gm_forms.specs.Uses as Uses
use Rattle.gm_forms.specs.Uses.{use_as, owner_role, uses_of_head, uses_in}
use Rattle.gm_ready.proofs.Tables.{Binds, Suit, join, suit-as}
use Rattle.gm_ready.proofs.Judging.{IfPart, if-good, if-then, if-else, Good, gives-judge, good-both, good-used, IsIterator, good-iterated, good-keyed, good-counted}

-- a flexible expression with its numbers as Int uses what it did
pub uses-narrowed : (e : Expr) → uses_in (narrowed e) ≡ uses_in e
uses-narrowed (P.Unary op at e) = uses-narrowed e
uses-narrowed (P.Binary op at a b) = ap (λ us. us ++ uses_in (narrowed b)) (uses-narrowed a) ∙ ap (λ us. uses_in a ++ us) (uses-narrowed b)
uses-narrowed (P.Choose c a b) = ap (λ us. uses_in c ++ us) (ap (λ us. us ++ uses_in (narrowed b)) (uses-narrowed a) ∙ ap (λ us. uses_in a ++ us) (uses-narrowed b))
uses-narrowed _ = refl

-- a variable that stands for a node may be one through which something is read
owner-of : (group : Bool) (v : Variable) → stands_for_node group v ≡ true → Uses.has_role v Uses.Owner ≡ true
owner-of group v h = by (is_node v) group (is Sorts.Graph v) h
  where
    by : (node group graph : Bool) → node || (group && graph) ≡ true → node || graph ≡ true
    by true group graph h = refl
    by false true graph h = h
    by false false graph h = absurd (both_ways false refl h)

module _ (ds : List Declaration) where
  abbrev pub IsNamed : Expr → Type 0
  IsNamed e = Suit ds (uses_in e)

  -- a value among them; an edge is no value
  abbrev pub IsNamedPart : Part → Type 0
  IsNamedPart p = is_value p.kind ≡ true → IsNamed p.core

  abbrev pub IsNamedAs : Kind → Expr → Type 0
  IsNamedAs k e = is_value k ≡ true → IsNamed e

  abbrev pub ArePair : Kind → Expr × Expr → Type 0
  ArePair k p = IsNamedAs k p.0 × IsNamedAs k p.1

  abbrev IfPartNamed : Answer Part → Type 0
  IfPartNamed a = IfPart IsNamedPart (ok_of a)

  abbrev IfNamed : Answer Expr → Type 0
  IfNamed a = IfPart IsNamed (ok_of a)

  narrowed-named : (e : Expr) → IsNamed e → IsNamed (narrowed e)
  narrowed-named e h = subst (λ us. Suit ds us) (sym (uses-narrowed e)) h

  -- ---- how a part fits where it is wanted

  as_int-named : (large : List Place) (e : Expr) → IsNamed e → IfNamed (as_int (record { kind = Kinds.Flexible; core = e; large = large }))
  as_int-named [] e h = narrowed-named e h
  as_int-named (x ∷ xs) e h = tt

  int_of-named : (k : Kind) (p : Part) → IsNamed p.core → IfNamed (int_of k p)
  int_of-named Kinds.Flexible p h = as_int-named p.large p.core h
  int_of-named (Kinds.Of t) p h = h
  int_of-named Kinds.Edge p h = h

  as_long-named : (at : Place) (k : Kind) (e : Expr) → IsNamed e → IsNamed (as_long at k e)
  as_long-named at (Kinds.Of I32) e h = h
  as_long-named at (Kinds.Of I64) e h = h
  as_long-named at (Kinds.Of Flag) e h = h
  as_long-named at (Kinds.Of Node) e h = h
  as_long-named at Kinds.Flexible e h = h
  as_long-named at Kinds.Edge e h = h

  taken-value : (t : VType) (at : Place) (p : Part) → IsNamed p.core → IfNamed (taken (Kinds.Of t) at p)
  taken-value I32 at p h = int_of-named p.kind p h
  taken-value I64 at p h = as_long-named at p.kind p.core h
  taken-value Flag at p h = h
  taken-value Node at p h = h

  -- a part that is a value where the kind is one
  if-value : (k : Kind) (a : Answer Expr) → IfNamed a → IfPart (IsNamedAs k) (ok_of a)
  if-value k (Ok e) h = λ _. h
  if-value k (Err rs) h = tt

  taken-named : (k : Kind) (at : Place) (p : Part) → (is_value k ≡ true → is_value p.kind ≡ true) → IsNamedPart p → IfPart (IsNamedAs k) (ok_of (taken k at p))
  taken-named (Kinds.Of t) at p v h = if-value (Kinds.Of t) (taken (Kinds.Of t) at p) (taken-value t at p (h (v refl)))
  taken-named Kinds.Flexible at p v h = λ w. h (v w)
  taken-named Kinds.Edge at p v h = λ w. absurd (both_ways false refl w)

  accepted-value : (t : VType) (k : Kind) → accepts t k ≡ true → is_value k ≡ true
  accepted-value t Kinds.Flexible h = refl
  accepted-value t (Kinds.Of u) h = refl
  accepted-value I32 Kinds.Edge h = absurd (both_ways false refl h)
  accepted-value I64 Kinds.Edge h = absurd (both_ways false refl h)
  accepted-value Flag Kinds.Edge h = absurd (both_ways false refl h)
  accepted-value Node Kinds.Edge h = absurd (both_ways false refl h)

  pub fitted-named : (t : VType) (rule : Rule) (at : Place) (p : Part) → IsNamedPart p → IfNamed (fitted t rule at p)
  fitted-named t rule at p h = if-else IsNamed (accepts t p.kind) (taken (Kinds.Of t) at p) (refused rule at) (λ a. taken-value t at p (h (accepted-value t p.kind a))) (λ _. tt)

  settled-named : (k : Kind) (p : Part) → p.kind ≡ k → IsNamedPart p → IsNamedPart (settled_as k p)
  settled-named Kinds.Flexible p e h = by (is_empty p.large) (h (ap is_value e))
    where
      by : (none : Bool) → IsNamed p.core → IsNamedPart (if none then part_of (Kinds.Of I32) (narrowed p.core) else part_of (Kinds.Of I64) p.core)
      by true named = λ _. narrowed-named p.core named
      by false named = λ _. named
  settled-named (Kinds.Of t) p e h = h
  settled-named Kinds.Edge p e h = h

  pairs-named : (k : Kind) (a b : Answer Expr) → IfPart (IsNamedAs k) (ok_of a) → IfPart (IsNamedAs k) (ok_of b) → IfPart (ArePair k) (ok_of (paired_after a b))
  pairs-named k (Err rs) b h g = tt
  pairs-named k (Ok a) (Err rs) h g = tt
  pairs-named k (Ok a) (Ok b) h g = (h, g)

  -- a kind of two parts that is one of values
  abbrev AreValues : Kind → Part → Part → Type 0
  AreValues k a b = (is_value k ≡ true → is_value a.kind ≡ true) × (is_value k ≡ true → is_value b.kind ≡ true)

  paired-named : (at : Place) (k : Kind) (a b : Part) → AreValues k a b → IsNamedPart a → IsNamedPart b → IfPart (ArePair k) (ok_of (paired at k a b))
  paired-named at k a b v h g = pairs-named k (taken k at a) (taken k at b) (taken-named k at a v.0 h) (taken-named k at b v.1 g)

  -- ---- names

  abbrev told : Sort → Bool
  told s = sort_eq Sorts.Scalar s || (sort_eq Sorts.Iterator s || sort_eq Sorts.Graph s)

  named-named : (s : Sort) (group : Bool) (at : Place) (b : Binding) → b.variable.sort ≡ s → Binds ds b → IfPartNamed (named_as s group at b)
  named-named Sorts.Scalar group at b e h = λ _. suit-as ds Uses.Told b h (ap told e)
  named-named Sorts.Iterator group at b e h = λ _. suit-as ds Uses.Told b h (ap told e)
  named-named Sorts.Edge group at b e h = λ w. absurd (both_ways false refl w)
  named-named Sorts.Graph group at b e h = if-good IsNamedPart group T7 at (part_of (Kinds.Of Node) (P.Var b.index at)) (λ _. λ _. suit-as ds Uses.Told b h (ap told e))
  named-named Sorts.NodeProperty group at b e h = tt
  named-named Sorts.EdgeProperty group at b e h = tt

  member-named : (group : Bool) (at : Place) (bs : Binding × Binding) → Binds ds bs.0 × Binds ds bs.1 → IfPartNamed (member_part group at bs)
  member-named group at bs h =
      let x = bs.0 in
      let p = bs.1 in
      if-else IsNamedPart (stands_for_node group x.variable && is Sorts.NodeProperty p.variable) (Ok (part_of (Kinds.Of p.variable.vtype) (P.Property x.index p.index at)))
      (if is Sorts.Edge x.variable && is Sorts.EdgeProperty p.variable then Ok (part_of (Kinds.Of p.variable.vtype) (P.EdgeProperty x.index p.index at)) else refused T7 at)
      (λ t. let s = both-true (stands_for_node group x.variable) (is Sorts.NodeProperty p.variable) t in
      λ _. join ds (use_as Uses.Owner x.index) (use_as Uses.NodeValue p.index) (suit-as ds Uses.Owner x h.0 (owner-of group x.variable s.0)) (suit-as ds Uses.NodeValue p h.1 s.1))
      (λ _. if-else IsNamedPart (is Sorts.Edge x.variable && is Sorts.EdgeProperty p.variable) (Ok (part_of (Kinds.Of p.variable.vtype) (P.EdgeProperty x.index p.index at))) (refused T7 at)
      (λ t. let s = both-true (is Sorts.Edge x.variable) (is Sorts.EdgeProperty p.variable) t in
      λ _. join ds (use_as Uses.EdgeName x.index) (use_as Uses.EdgeValue p.index) (suit-as ds Uses.EdgeName x h.0 s.0) (suit-as ds Uses.EdgeValue p h.1 s.1))
      (λ _. tt))

  method-named : (group : Bool) (at : Place) (q : Query) (b : Binding) → Binds ds b → IfPartNamed (method_part group at q b)
  method-named group at (Queries.Degree d) b h =
      if-good IsNamedPart (stands_for_node group b.variable) T7 at (part_of (Kinds.Of I32) (P.Degree d b.index at)) (λ t. λ _. suit-as ds Uses.Owner b h (owner-of group b.variable t))
  method-named group at Queries.NodeCount b h = if-good IsNamedPart (is Sorts.Graph b.variable) T7 at (part_of (Kinds.Of I32) P.NodeCount) (λ _. λ _. refl)
  method-named group at Queries.EdgeCount b h = if-good IsNamedPart (is Sorts.Graph b.variable) T7 at (part_of (Kinds.Of I32) P.EdgeCount) (λ _. λ _. refl)
  method-named group at Queries.ToEdge b h = tt
  method-named group at Queries.Unknown b h = tt

  -- ---- operators

  is_number-value : (k : Kind) → is_number k ≡ true → is_value k ≡ true
  is_number-value Kinds.Flexible h = refl
  is_number-value (Kinds.Of t) h = refl
  is_number-value Kinds.Edge h = h

  changed-named : (t : VType) (at : Place) (p : Part) → IsNamedPart p → is_value p.kind ≡ true → IsNamedPart (changed_part t at p)
  changed-named I32 at p h v = λ _. h v
  changed-named I64 at p h v = λ _. h v
  changed-named Flag at p h v = h
  changed-named Node at p h v = h

  cast-named : (t : VType) (at : Place) (p : Part) → IsNamedPart p → is_value p.kind ≡ true → IsNamedPart (cast_part t at p)
  cast-named t at p h v = by (is_already t p.kind)
    where
      by : (same : Bool) → IsNamedPart (if same then p else changed_part t at p)
      by true = h
      by false = changed-named t at p h v

  settled-value : (k : Kind) (p : Part) → p.kind ≡ k → is_value p.kind ≡ true → is_value (settled_as k p).kind ≡ true
  settled-value Kinds.Flexible p e v = by (is_empty p.large)
    where
      by : (none : Bool) → is_value (if none then part_of (Kinds.Of I32) (narrowed p.core) else part_of (Kinds.Of I64) p.core).kind ≡ true
      by true = refl
      by false = refl
  settled-value (Kinds.Of t) p e v = v
  settled-value Kinds.Edge p e v = v

  prefix-named : (at : Place) (op : Prefix) (p : Part) → IsNamedPart p → IfPartNamed (prefix_part at op p)
  prefix-named at Prefixes.Minus p h = if-good IsNamedPart (is_number p.kind) T8 at _ (λ _. h)
  prefix-named at Prefixes.Not p h = if-good IsNamedPart (is_flag p.kind) T8 at _ (λ _. h)
  prefix-named at (Prefixes.Cast t) p h = if-good IsNamedPart (is_number p.kind) T8 at _
      (λ n. cast-named t at (settled p) (settled-named p.kind p refl h) (settled-value p.kind p refl (is_number-value p.kind n)))

  -- of two kinds that have one of values in common each is one of values
  joint-values : (j k : Kind) (o : Kind) → joint j k ≡ Some o → is_value o ≡ true → (is_value j ≡ true) × (is_value k ≡ true)
  joint-values Kinds.Flexible Kinds.Flexible o e v = (refl, refl)
  joint-values Kinds.Flexible (Kinds.Of u) o e v = (refl, refl)
  joint-values Kinds.Flexible Kinds.Edge o e v = absurd (none-some o e)
  joint-values (Kinds.Of t) Kinds.Flexible o e v = (refl, refl)
  joint-values (Kinds.Of t) (Kinds.Of u) o e v = (refl, refl)
  joint-values (Kinds.Of t) Kinds.Edge o e v = absurd (none-some o e)
  joint-values Kinds.Edge Kinds.Flexible o e v = absurd (none-some o e)
  joint-values Kinds.Edge (Kinds.Of u) o e v = absurd (none-some o e)
  joint-values Kinds.Edge Kinds.Edge o e v = let f : false ≡ true = ap (λ x. is_value (unwrap_or x Kinds.Edge)) e ∙ v in absurd (both_ways false refl f)

  are-values : (k : Kind) (a b : Part) → joint a.kind b.kind ≡ Some k → AreValues k a b
  are-values k a b e = (λ v. (joint-values a.kind b.kind k e v).0, λ v. (joint-values a.kind b.kind k e v).1)

  compared-value : (k : Kind) (large : List Place) → is_value (compared_as k large) ≡ true → is_value k ≡ true
  compared-value Kinds.Flexible large v = refl
  compared-value (Kinds.Of t) large v = refl
  compared-value Kinds.Edge large v = v

  joined : (k : Kind) (a b : Expr) → IsNamedAs k a → IsNamedAs k b → is_value k ≡ true → Suit ds (uses_in a ++ uses_in b)
  joined k a b h g v = join ds (uses_in a) (uses_in b) (h v) (g v)

  numbered-or-compared : (n any v : Bool) → (n ≡ true → v ≡ true) → n || (any && v) ≡ true → v ≡ true
  numbered-or-compared true any v h e = h refl
  numbered-or-compared false true v h e = e
  numbered-or-compared false false v h e = absurd (both_ways false refl e)

  -- the kind that two parts are compared as is one of values where theirs is
  value-compared : (k : Kind) (large : List Place) → is_value k ≡ true → is_value (compared_as k large) ≡ true
  value-compared Kinds.Flexible large v = refl
  value-compared (Kinds.Of t) large v = refl
  value-compared Kinds.Edge large v = v

  operation-named : (at : Place) (op : Op2) (k : Kind) (a b : Part) → AreValues k a b → IsNamedPart a → IsNamedPart b → IfPartNamed (operation at op k a b)
  operation-named at op k a b v h g =
      let large = large_of k (a.large ++ b.large) in
      let c = compared_as k large in
      let number = if is_number k then then_answer (paired at k a b) (λ p. record { kind = k; core = P.Binary op at p.0 p.1; large = large }) else refused T8 at in
      let compared = if is_number k || (compares_any op && is_value k) then then_answer (paired at c a b) (λ p. part_of (Kinds.Of Flag) (P.Binary op at p.0 p.1)) else refused T8 at in
      let pair = paired-named at k a b v h g in
      let values : AreValues c a b = (λ w. v.0 (compared-value k large w), λ w. v.1 (compared-value k large w)) in
      if-else IsNamedPart (is_arithmetic op) number compared
      (λ _. if-else IsNamedPart (is_number k) (then_answer (paired at k a b) (λ p. record { kind = k; core = P.Binary op at p.0 p.1; large = large })) (refused T8 at)
      (λ _. if-then (ArePair k) IsNamedPart (paired at k a b) (λ p. record { kind = k; core = P.Binary op at p.0 p.1; large = large }) pair (λ p n. λ w. joined k p.0 p.1 n.0 n.1 w)) (λ _. tt))
      (λ _. if-else IsNamedPart (is_number k || (compares_any op && is_value k)) (then_answer (paired at c a b) (λ p. part_of (Kinds.Of Flag) (P.Binary op at p.0 p.1))) (refused T8 at)
      (λ t. if-then (ArePair c) IsNamedPart (paired at c a b) (λ p. part_of (Kinds.Of Flag) (P.Binary op at p.0 p.1)) (paired-named at c a b values h g)
      (λ p n. λ _. joined c p.0 p.1 n.0 n.1 (value-compared k large (numbered-or-compared (is_number k) (compares_any op) (is_value k) (is_number-value k) t)))) (λ _. tt))

  operation_by-named : (at : Place) (op : Op2) (o : Option Kind) (a b : Part) → joint a.kind b.kind ≡ o → IsNamedPart a → IsNamedPart b → IfPartNamed (operation_by at op o a b)
  operation_by-named at op None a b e h g = tt
  operation_by-named at op (Some k) a b e h g = operation-named at op k a b (are-values k a b e) h g

  is_flag-value : (k : Kind) → is_flag k ≡ true → is_value k ≡ true
  is_flag-value Kinds.Flexible h = refl
  is_flag-value (Kinds.Of t) h = refl
  is_flag-value Kinds.Edge h = h

  flags-joined : (a b : Part) → IsNamedPart a → IsNamedPart b → is_flag a.kind && is_flag b.kind ≡ true → Suit ds (uses_in a.core ++ uses_in b.core)
  flags-joined a b h g t =
      let s = both-true (is_flag a.kind) (is_flag b.kind) t in
      join ds (uses_in a.core) (uses_in b.core) (h (is_flag-value a.kind s.0)) (g (is_flag-value b.kind s.1))

  infix-named : (at : Place) (op : Infix) (ps : Part × Part) → IsNamedPart ps.0 × IsNamedPart ps.1 → IfPartNamed (infix_part at op ps)
  infix-named at (Infixes.Op op) ps h = operation_by-named at op (joint ps.0.kind ps.1.kind) ps.0 ps.1 refl h.0 h.1
  infix-named at Infixes.And ps h = if-good IsNamedPart (is_flag ps.0.kind && is_flag ps.1.kind) T8 at _ (λ t. λ _. flags-joined ps.0 ps.1 h.0 h.1 t)
  infix-named at Infixes.Or ps h = if-good IsNamedPart (is_flag ps.0.kind && is_flag ps.1.kind) T8 at _ (λ t. λ _. flags-joined ps.0 ps.1 h.0 h.1 t)

  choice_by-named : (at : Place) (o : Option Kind) (c : Expr) (a b : Part) → joint a.kind b.kind ≡ o → IsNamed c → IsNamedPart a → IsNamedPart b → IfPartNamed (choice_by at o c a b)
  choice_by-named at None c a b e n h g = tt
  choice_by-named at (Some k) c a b e n h g =
      if-then (ArePair k) IsNamedPart (paired at k a b) (λ p. record { kind = k; core = P.Choose c p.0 p.1; large = large_of k (a.large ++ b.large) }) (paired-named at k a b (are-values k a b e) h g)
      (λ p m. λ w. join ds (uses_in c) (uses_in p.0 ++ uses_in p.1) n (joined k p.0 p.1 m.0 m.1 w))

  choice-named : (at : Place) (ps : Expr × (Part × Part)) → IsNamed ps.0 × (IsNamedPart ps.1.0 × IsNamedPart ps.1.1) → IfPartNamed (choice_part at ps)
  choice-named at ps h = choice_by-named at (joint ps.1.0.kind ps.1.1.kind) ps.0 ps.1.0 ps.1.1 refl h.0 h.1.0 h.1.1

  -- ---- ranges and reductions

  -- a variable over whose nodes or neighbours a loop runs
  abbrev pub IsOwner : Domain → Binding → Type 0
  IsOwner d b = Suit ds (use_as (owner_role d) b.index)

  near-owner : (b : Binding) → Binds ds b → is_node b.variable ≡ true → Suit ds (use_as Uses.Owner b.index)
  near-owner b h n = suit-as ds Uses.Owner b h (ap (λ t. t || is Sorts.Graph b.variable) n)

  range-named : (d : Domain) (at : Place) (b : Binding) → Binds ds b → IfPart (IsOwner d) (ok_of (range_rule d at b))
  range-named Domains.Nodes at b h = if-good (IsOwner Domains.Nodes) (is Sorts.Graph b.variable) T6 at b (λ _. suit-as ds Uses.Anything b h refl)
  range-named Domains.OutNbrs at b h = if-good (IsOwner Domains.OutNbrs) (is_node b.variable) T6 at b (λ n. near-owner b h n)
  range-named Domains.InNbrs at b h = if-good (IsOwner Domains.InNbrs) (is_node b.variable) T6 at b (λ n. near-owner b h n)
  range-named Domains.UpNbrs at b h = if-good (IsOwner Domains.UpNbrs) (is_node b.variable) T6 at b (λ n. near-owner b h n)
  range-named Domains.DownNbrs at b h = if-good (IsOwner Domains.DownNbrs) (is_node b.variable) T6 at b (λ n. near-owner b h n)

  pub ranged-named : (h : SurfaceHead) → Good ds (IsOwner (domain_of h.range)) (ranged h)
  ranged-named h env known = gives-judge ds (Binds ds) (IsOwner (domain_of h.range)) env.next (used h.owner env) (range_rule (domain_of h.range) h.owner.place)
      (good-used ds h.owner env known) (λ b bound. range-named (domain_of h.range) h.owner.place b bound)

  pub iterates : (i : ℕ) → IsIterator ds i → Suit ds (use_as Uses.Iterates i)
  iterates i it = suit-as ds Uses.Iterates (record { index = i; variable = an_iterator it.0 }) it.1 refl

  pub head-named : (h : SurfaceHead) (owner : Binding) (i : ℕ) → IsOwner (domain_of h.range) owner → IsIterator ds i → Suit ds (uses_of_head (head_with h owner i))
  head-named h owner i o it = join ds (use_as Uses.Iterates i) (use_as (owner_role (domain_of h.range)) owner.index) (iterates i it) o

  folded-named : (r : Reducer) (t : VType) (h : Head) (filter e : Expr) → Suit ds (uses_of_head h) → IsNamed filter → IsNamed e → IsNamedPart (folded r t h filter e)
  folded-named r t h filter e head f g = λ _. join ds (uses_of_head h) (uses_in filter ++ uses_in e) head (join ds (uses_in filter) (uses_in e) f g)

  numbers-named : (k : Kind) (r : Reducer) (h : Head) (filter e : Expr) → Suit ds (uses_of_head h) → IsNamed filter → IsNamedAs k e → IfPartNamed (of_numbers_as k r h filter e)
  numbers-named (Kinds.Of t) r h filter e head f g = if-good IsNamedPart (is_number (Kinds.Of t)) T8 r.place (folded r t h filter e) (λ _. folded-named r t h filter e head f (g refl))
  numbers-named Kinds.Flexible r h filter e head f g = tt
  numbers-named Kinds.Edge r h filter e head f g = tt

  conditions-named : (start : Place) (t : VType) (r : Reducer) (h : Head) (filter : Expr) (p : Part) → Suit ds (uses_of_head h) → IsNamed filter → IsNamedPart p → IfPartNamed (of_conditions start t r h filter p)
  conditions-named start t r h filter p head f g = if-good IsNamedPart (is_flag p.kind) T10 start (folded r t h filter p.core) (λ v. folded-named r t h filter p.core head f (g (is_flag-value p.kind v)))

  reduction-named : (word : ReductionWord) (start : Place) (r : Reducer) (h : Head) (filter : Expr) (p : Part) → Suit ds (uses_of_head h) → IsNamed filter → IsNamedPart p → IfPartNamed (reduction_part word start r h filter p)
  reduction-named Sum start r h filter p head f g = numbers-named (settled p).kind r h filter (settled p).core head f (settled-named p.kind p refl g)
  reduction-named Product start r h filter p head f g = numbers-named (settled p).kind r h filter (settled p).core head f (settled-named p.kind p refl g)
  reduction-named Min start r h filter p head f g = numbers-named (settled p).kind r h filter (settled p).core head f (settled-named p.kind p refl g)
  reduction-named Max start r h filter p head f g = numbers-named (settled p).kind r h filter (settled p).core head f (settled-named p.kind p refl g)
  reduction-named Count start r h filter p head f g = conditions-named start I32 r h filter p head f g
  reduction-named Exist start r h filter p head f g = conditions-named start Flag r h filter p head f g
  reduction-named All start r h filter p head f g = conditions-named start Flag r h filter p head f g

  -- ---- an expression

  pub condition-named : (at : Place) (part : Env → Judged Part) → Good ds IsNamedPart part → Good ds IsNamed (condition at part)
  condition-named at part good env known = gives-judge ds IsNamedPart IsNamed env.next (part env) (λ p. refused_unless (is_flag p.kind) T10 at p.core)
      (good env known) (λ p h. if-good IsNamed (is_flag p.kind) T10 at p.core (λ v. h (is_flag-value p.kind v)))

  pub typed-named : (e : SurfaceExpr) → Good ds IsNamedPart (typed e)
  typed-named Always env known = λ has clean. λ _. refl
  typed-named (Number at n) env known = λ has clean. λ _. refl
  typed-named (Truth at b) env known = λ has clean. λ _. refl
  typed-named (Nil at) env known = λ has clean. λ _. refl
  typed-named (Greatest at) env known = λ has clean. λ _. refl
  typed-named (Least at) env known = λ has clean. λ _. refl
  typed-named (Named x) env known = gives-judge ds (Binds ds) IsNamedPart env.next (used x env) (Typing.named_part env.group x.place)
      (good-used ds x env known) (λ b h. named-named b.variable.sort env.group x.place b refl h)
  typed-named (Member x p) env known = gives-judge ds (λ bs. Binds ds bs.0 × Binds ds bs.1) IsNamedPart env.next (both (used x) (used p) env) (member_part env.group x.place)
      (good-both ds (Binds ds) (Binds ds) (used x) (used p) (good-used ds x) (good-used ds p) env known) (λ bs h. member-named env.group x.place bs h)
  typed-named (Method x m) env known = gives-judge ds (Binds ds) IsNamedPart env.next (used x env) (method_part env.group x.place (query_of m.text))
      (good-used ds x env known) (λ b h. method-named env.group x.place (query_of m.text) b h)
  typed-named (Paren at e) env known = typed-named e env known
  typed-named (Prefixed at op e) env known = gives-judge ds IsNamedPart IsNamedPart env.next (typed e env) (prefix_part at op) (typed-named e env known) (λ p h. prefix-named at op p h)
  typed-named (Infixed at op a b) env known = gives-judge ds (λ ps. IsNamedPart ps.0 × IsNamedPart ps.1) IsNamedPart env.next (both (typed a) (typed b) env) (infix_part at op)
      (good-both ds IsNamedPart IsNamedPart (typed a) (typed b) (typed-named a) (typed-named b) env known) (λ ps h. infix-named at op ps h)
  typed-named (Choose at c a b) env known =
      gives-judge ds (λ ps. IsNamed ps.0 × (IsNamedPart ps.1.0 × IsNamedPart ps.1.1)) IsNamedPart env.next (both (condition (start_of c) (typed c)) (both (typed a) (typed b)) env) (choice_part at)
      (good-both ds IsNamed (λ ps. IsNamedPart ps.0 × IsNamedPart ps.1) (condition (start_of c) (typed c)) (both (typed a) (typed b))
      (condition-named (start_of c) (typed c) (typed-named c)) (good-both ds IsNamedPart IsNamedPart (typed a) (typed b) (typed-named a) (typed-named b)) env known)
      (λ ps h. choice-named at ps h)
  typed-named (Reduction at word h filter body close) env known =
      let r = reducer_at env at word close in
      let test = keyed r.filter (condition (start_of filter) (typed filter)) in
      let braces = keyed r.body (typed body) in
      let inner = iterated h.iterator 1 (both test braces) in
      gives-judge ds (λ ps. IsOwner (domain_of h.range) ps.0 × (IsIterator ds ps.1.0 × (IsNamed ps.1.1.0 × IsNamedPart ps.1.1.1))) IsNamedPart env.next
      (both (ranged h) (counted (fold_numbers env) inner) env) (reduction_rule r (start_of body) h)
      (good-both ds (IsOwner (domain_of h.range)) (λ ps. IsIterator ds ps.0 × (IsNamed ps.1.0 × IsNamedPart ps.1.1)) (ranged h) (counted (fold_numbers env) inner)
      (ranged-named h)
      (good-counted ds (λ ps. IsIterator ds ps.0 × (IsNamed ps.1.0 × IsNamedPart ps.1.1)) (fold_numbers env) inner
      (good-iterated ds (λ ps. IsNamed ps.0 × IsNamedPart ps.1) h.iterator 1 (both test braces)
      (good-both ds IsNamed IsNamedPart test braces
      (good-keyed ds IsNamed r.filter (condition (start_of filter) (typed filter)) (condition-named (start_of filter) (typed filter) (typed-named filter)))
      (good-keyed ds IsNamedPart r.body (typed body) (typed-named body)))))
      env known)
      (λ ps n. reduction-named word (start_of body) r (head_with h ps.0 ps.1.0) ps.1.1.0 ps.1.1.1 (head-named h ps.0 ps.1.0 n.0 n.1.0) n.1.1.0 n.1.1.1)
