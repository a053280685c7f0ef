-- Expressions of a type give values of the type, or faults.
use Rattle.std.proofs.Common.{◌≡◌, ◌<◌, ◌≤◌, ℕ, Bool, true, false, List, [], ◌∷◌, ◌++◌, length, map, refl, sym, ap, subst, arith, pos, Option, Some, None, Result, Ok, Err, IfOk}
use Rattle.std.specs.Prelude.{◌&&◌, nat_lt, IsTrue, if◌then◌else◌}
use Rattle.std.specs.List.{list_all}
use Rattle.std.proofs.lemmas.Bool.{both_ways, ltb-true}
use Rattle.std.proofs.lemmas.Option.{none-some}
use Rattle.gm_base.specs.declared.places.Place.{Place}
use Rattle.gm_value.specs.declared.values.VType.{VType}
use Rattle.gm_value.specs.declared.values.VType.TheVariants as V
use Rattle.gm_value.specs.declared.values.Value.{Value}
use Rattle.gm_value.specs.declared.values.Value.TheVariants.{I32, I64, Flag, At}
use Rattle.gm_value.specs.declared.faults.FaultKind.{FaultKind}
use Rattle.gm_value.specs.Numbers.{type_of, number_of, value_at, fits}
use Rattle.gm_value.specs.declared.operations.Op1.{Op1}
use Rattle.gm_value.specs.declared.operations.Op1.TheVariants.{Neg, Not, ToI32, ToI64}
use Rattle.gm_value.specs.Operations.{is_true, fits1, fits2, type1, type2, result1, result2}
use Rattle.gm_value.specs.Reductions.{unit_of, close, reduces}
use Rattle.gm_value.proofs.NumberLaws.{type_of-value_at}
use Rattle.gm_model.specs.Graphs.{Step, node_count, edge_count, out_steps, in_steps}
use Rattle.gm_ast.specs.declared.surface.ReductionWord.{ReductionWord}
use Rattle.gm_ast.specs.declared.surface.ReductionWord.TheVariants as W
use Rattle.gm_ast.specs.declared.tree.Declaration.{Declaration}
use Rattle.gm_ast.specs.declared.tree.Direction.{Direction}
use Rattle.gm_ast.specs.declared.tree.Direction.TheVariants.{Out, In}
use Rattle.gm_ast.specs.declared.tree.Fold.{Fold}
use Rattle.gm_ast.specs.declared.tree.Key.{Key}
use Rattle.gm_ast.specs.declared.tree.Target.{Target}
use Rattle.gm_ast.specs.declared.tree.TotalKey.{TotalKey}
use Rattle.gm_ast.specs.Program.{Expr, Const, Var, Property, EdgeProperty, Degree, NodeCount, EdgeCount, Live, Unary, Binary, Both, Either, Choose, Folded}
use Rattle.gm_semantics.specs.declared.faults.Fault.{Fault}
use Rattle.gm_semantics.specs.Faults.{least, then_with, oks, errs, joined, of_total}
use Rattle.gm_semantics.specs.Expressions.{View, Answer, Evaluated, located, node_of, at_node, degree_of, steps_in, entered, reduce_of, members_of, element, closed, reduction, settled, plain, early, node_read, two_of, both, either, choice, evaluated, value, evaluated_all}
use Rattle.gm_semantics.specs.Statements.{variable_at}
use Rattle.gm_forms.specs.Typing.{type_at, type_if, by_one, is_type, takes, type_in, has_type, target_type, all_have_types, takes1}
use Rattle.gm_forms.specs.Uses.{Use, Owner, NodeValue, EdgeName, EdgeValue, use_as, suits, has_role, uses_of_head, uses_in, uses_in_all}
use Rattle.gm_forms.proofs.Named.{both-true, all-append}
use Rattle.gm_typed_stores.specs.Values.{NodeBelow, IsValue, AreValues, Each}
use Rattle.gm_typed_stores.specs.Tells.{TypeTable, takes_nodes, is_below, tells, all_tell}
use Rattle.gm_typed_stores.specs.Stores.{IsGraphBelow, IsTypedView}
use Rattle.gm_typed_stores.proofs.Eaches.{each-map, each-weaker, each-joined, each-oks, if-then, if-unless}
use Rattle.gm_typed_stores.proofs.Values.{same_type-true, NumberBelow, NumbersBelow, value-number, result1-value, result2-value, held-below, close-value}
use Rattle.gm_typed_stores.proofs.Kept.{steps-within, node_of-within, out-few, in-few, node-value, count-value, enter}

-- ---- types that follow from those of parts

type-some : (t u : VType) → Some t ≡ Some u → t ≡ u
type-some t u e = cc

if-some : (b : Bool) (t u : VType) → type_if b t ≡ Some u → (b ≡ true) × (t ≡ u)
if-some true t u h = (refl, type-some t u h)
if-some false t u h = absurd (none-some u h)

abbrev Parted : Option VType → (VType → Option VType) → VType → Type 0
Parted o f u = (t : VType) × (o ≡ Some t) × (f t ≡ Some u)

one-some : (o : Option VType) (f : VType → Option VType) (u : VType) → by_one o f ≡ Some u → Parted o f u
one-some None f u h = absurd (none-some u h)
one-some (Some t) f u h = (t, refl, h)

-- an operation that takes a type fits it
takes-fits : (op : Op1) (t : VType) → takes1 op t ≡ true → fits1 op t ≡ true
takes-fits Neg t h = h
takes-fits Not t h = h
takes-fits ToI32 V.I32 h = refl
takes-fits ToI32 V.I64 h = refl
takes-fits ToI32 V.Flag h = h
takes-fits ToI32 V.Node h = h
takes-fits ToI64 V.I32 h = refl
takes-fits ToI64 V.I64 h = refl
takes-fits ToI64 V.Flag h = h
takes-fits ToI64 V.Node h = h

pub is-type : (t : VType) (o : Option VType) → is_type t o ≡ true → o ≡ Some t
is-type t None h = absurd (both_ways false refl h)
is-type t (Some u) h = ap Some (sym (same_type-true t u h))

module _ (ds : List Declaration) where
  abbrev pub Suit : List Use → Type 0
  Suit us = list_all (suits ds) us ≡ true

  pub split : (us vs : List Use) → Suit (us ++ vs) → Suit us × Suit vs
  split us vs h = all-append (suits ds) us vs h

-- ---- parts of a meaning

module _ (table : TypeTable) where
  abbrev limit : ℕ
  limit = table.limit

  abbrev ds : List Declaration
  ds = table.declarations

  -- what is evaluated is a value of a type, or a fault
  abbrev pub Gives : VType → Evaluated → Type 0
  Gives t e = IfOk e.rest (IsValue limit t)

  pub settled-gives : (t : VType) (e : Evaluated) → Gives t e → IfOk (settled e) (IsValue limit t)
  settled-gives t e h = if-unless (IsValue limit t) e.hoisted e.rest h

  pub read-gives : (t : VType) (w : View) (a : Answer) → IfOk a (IsValue limit t) → Gives t (node_read w a)
  read-gives t w a h = by w.parallel
    where
      by : (b : Bool) → Gives t (if b then plain a else early a)
      by true = h
      by false = h

  pub at_node-gives : (t : VType) (w : View) (x : ℕ) (at : Place) (f : ℕ → Value) → ((n : ℕ) → n < node_count w.graph → IsValue limit t (f n)) → IfOk (at_node w x at f) (IsValue limit t)
  at_node-gives t w x at f h = if-then (λ n. n < node_count w.graph) (IsValue limit t) (node_of w x at) (λ n. Ok (f n)) (node_of-within w x at) h

  pub located-gives : (t : VType) (w : View) (at : Place) (r : Result Value FaultKind) → IfOk r (IsValue limit t) → IfOk (located w at r) (IsValue limit t)
  located-gives t w at (Ok v) h = h
  located-gives t w at (Err k) h = tt

  both-gives : (t : VType) (a b : Evaluated) → Gives t a → Gives t b → Gives t (both a b)
  both-gives t a b h k = if-then (IsValue limit t) (IsValue limit t) a.rest (λ x. if is_true x then b.rest else Ok x) h (λ x g. by (is_true x) x g)
    where
      by : (c : Bool) (x : Value) → IsValue limit t x → IfOk (if c then b.rest else Ok x) (IsValue limit t)
      by true x g = k
      by false x g = g

  either-gives : (t : VType) (a b : Evaluated) → Gives t a → Gives t b → Gives t (either a b)
  either-gives t a b h k = if-then (IsValue limit t) (IsValue limit t) a.rest (λ x. if is_true x then Ok x else b.rest) h (λ x g. by (is_true x) x g)
    where
      by : (c : Bool) (x : Value) → IsValue limit t x → IfOk (if c then Ok x else b.rest) (IsValue limit t)
      by true x g = g
      by false x g = k

  choice-gives : (t : VType) (c a b : Evaluated) → Gives V.Flag c → Gives t a → Gives t b → Gives t (choice c a b)
  choice-gives t c a b i h k = if-then (IsValue limit V.Flag) (IsValue limit t) c.rest (λ x. if is_true x then a.rest else b.rest) i (λ x g. by (is_true x))
    where
      by : (d : Bool) → IfOk (if d then a.rest else b.rest) (IsValue limit t)
      by true = h
      by false = k

  pub two-gives : (s t u : VType) (a b : Evaluated) (f : Value → Value → Answer) → Gives s a → Gives t b → ((x y : Value) → IsValue limit s x → IsValue limit t y → IfOk (f x y) (IsValue limit u)) → Gives u (two_of a b f)
  two-gives s t u a b f h k g =
      if-then (IsValue limit s) (IsValue limit u) a.rest (λ x. then_with b.rest (f x)) h
      (λ x i. if-then (IsValue limit t) (IsValue limit u) b.rest (f x) k (λ y j. g x y i j))

  pub both-or-either : (t : VType) (a b : Evaluated) → Gives t a → Gives t b → Gives t (both a b) × Gives t (either a b)
  both-or-either t a b h k = (both-gives t a b h k, either-gives t a b h k)

  -- ---- reductions

  members-below : (word : ReductionWord) (t : VType) (v : Value) → reduces (reduce_of word) t ≡ true → IsValue limit (takes word t) v → NumbersBelow limit t (members_of word v)
  members-below W.Sum t v e h = (value-number limit t v h, tt)
  members-below W.Product t v e h = (value-number limit t v h, tt)
  members-below W.Min t v e h = (value-number limit t v h, tt)
  members-below W.Max t v e h = (value-number limit t v h, tt)
  members-below W.Count t v e h = by (is_true v) t e
    where
      one : (t : VType) → reduces (reduce_of W.Count) t ≡ true → NumberBelow limit t (pos 1)
      one V.I32 e = tt
      one V.I64 e = tt
      one V.Flag e = tt
      one V.Node e = absurd (both_ways false refl e)

      by : (b : Bool) (t : VType) → reduces (reduce_of W.Count) t ≡ true → NumbersBelow limit t (if b then I32 (pos 1) ∷ [] else [])
      by true t e = (one t e, tt)
      by false t e = tt
  members-below W.Exist V.I32 v e h = (tt, tt)
  members-below W.Exist V.I64 v e h = (tt, tt)
  members-below W.Exist V.Flag v e h = (tt, tt)
  members-below W.Exist V.Node v e h = absurd (both_ways false refl e)
  members-below W.All V.I32 v e h = (tt, tt)
  members-below W.All V.I64 v e h = (tt, tt)
  members-below W.All V.Flag v e h = (tt, tt)
  members-below W.All V.Node v e h = absurd (both_ways false refl e)

  element-below : (word : ReductionWord) (t : VType) (passed body : Answer) → reduces (reduce_of word) t ≡ true → IfOk passed (IsValue limit V.Flag) → IfOk body (IsValue limit (takes word t)) → IfOk (element word passed body) (NumbersBelow limit t)
  element-below word t passed body e h k =
      if-then (IsValue limit V.Flag) (NumbersBelow limit t) passed (λ p. if is_true p then then_with body (λ v. Ok (members_of word v)) else Ok []) h (λ p g. by (is_true p))
    where
      by : (b : Bool) → IfOk (if b then then_with body (λ v. Ok (members_of word v)) else Ok []) (NumbersBelow limit t)
      by true = if-then (IsValue limit (takes word t)) (NumbersBelow limit t) body (λ v. Ok (members_of word v)) k (λ v g. members-below word t v e g)
      by false = tt

  total-gives : (t : VType) (total : TotalKey) (r : Result Value FaultKind) → IfOk r (IsValue limit t) → IfOk (of_total total r) (IsValue limit t)
  total-gives t total (Ok v) h = h
  total-gives t total (Err k) h = tt

  reduction-gives : (f : Fold) (elements : List (Result (List Value) Fault)) → reduces (reduce_of f.word) f.vtype ≡ true → Each (λ r. IfOk r (NumbersBelow limit f.vtype)) elements → IfOk (reduction f elements) (IsValue limit f.vtype)
  reduction-gives f elements e each =
      let r = reduce_of f.word in
      let t = f.vtype in
      if-unless (IsValue limit t) (least (errs elements)) (closed f (joined (oks elements)))
      (total-gives t f.total (close r (value_at t (unit_of r t)) (joined (oks elements)))
      (close-value limit r t (value_at t (unit_of r t)) (joined (oks elements)) e (type_of-value_at t (unit_of r t)) (held-below limit r t e)
      (each-joined (λ (v : Value). NumberBelow limit t (number_of v)) (oks elements) (each-oks (NumbersBelow limit t) elements each))))

  -- ---- expressions

  const-below : (v : Value) → is_below limit v ≡ true → NodeBelow limit v
  const-below (I32 z) h = tt
  const-below (I64 z) h = tt
  const-below (Flag b) h = tt
  const-below (At None) h = tt
  const-below (At (Some k)) h = ltb-true k limit h

  pub suit-role : (u : Use) → Suit ds (u ∷ []) → has_role (variable_at ds u.variable) u.role ≡ true
  suit-role u h = (both-true (nat_lt u.variable (length ds)) _ (both-true (suits ds u) true h).0).1

  degree-gives : (w : View) (d : Direction) (n : ℕ) → IsGraphBelow limit w.graph → IsValue limit V.I32 (degree_of w d n)
  degree-gives w Out n is =
      let few : edge_count w.graph ≤ 2147483647 = is.graph.few_edges in
      let low : length (out_steps w.graph n) ≤ edge_count w.graph = out-few w.graph n in
      count-value limit (length (out_steps w.graph n)) (omega arith)
  degree-gives w In n is =
      let few : edge_count w.graph ≤ 2147483647 = is.graph.few_edges in
      let low : length (in_steps w.graph n) ≤ edge_count w.graph = in-few w.graph n in
      count-value limit (length (in_steps w.graph n)) (omega arith)

  pub evaluated-gives : (e : Expr) (its : List ℕ) (w : View) (t : VType) → IsTypedView table its w → type_in ds e ≡ Some t → Suit ds (uses_in e) → tells table its e ≡ true → Gives t (evaluated e w)
  evaluated-gives (Const v) its w t h e s k =
      let q = if-some (fits (type_of v) (number_of v)) (type_of v) t e in
      record { of_type = (q.1, subst (λ (u : VType). IsTrue (fits u (number_of v))) q.1 q.0); below = const-below v k }
  evaluated-gives (Var x at) its w t h e s k = subst (λ (u : VType). IsValue limit u (w.store.scalar x)) (type-some (type_at ds x) t e) (h.store.scalar x k)
  evaluated-gives (Property x p at) its w t h e s k =
      let r = split ds (use_as Owner x) (use_as NodeValue p) s in
      read-gives t w (at_node w x at (w.store.node p))
      (at_node-gives t w x at (w.store.node p) (λ n low. subst (λ (u : VType). IsValue limit u (w.store.node p n)) (type-some (type_at ds p) t e) (h.store.node p n (suit-role (record { variable = p; role = NodeValue }) r.1))))
  evaluated-gives (EdgeProperty x p at) its w t h e s k =
      let r = split ds (use_as EdgeName x) (use_as EdgeValue p) s in
      subst (λ (u : VType). IsValue limit u (w.store.edge p w.edge)) (type-some (type_at ds p) t e) (h.store.edge p w.edge (suit-role (record { variable = p; role = EdgeValue }) r.1))
  evaluated-gives (Degree d x at) its w t h e s k =
      read-gives t w (at_node w x at (degree_of w d))
      (at_node-gives t w x at (degree_of w d) (λ n low. subst (λ (u : VType). IsValue limit u (degree_of w d n)) (type-some V.I32 t e) (degree-gives w d n h.graph)))
  evaluated-gives NodeCount its w t h e s k = subst (λ (u : VType). IsValue limit u (I32 (pos (node_count w.graph)))) (type-some V.I32 t e) (count-value limit (node_count w.graph) h.graph.graph.few_nodes)
  evaluated-gives EdgeCount its w t h e s k = subst (λ (u : VType). IsValue limit u (I32 (pos (edge_count w.graph)))) (type-some V.I32 t e) (count-value limit (edge_count w.graph) h.graph.graph.few_edges)
  evaluated-gives (Live x at) its w t h e s k =
      read-gives t w (at_node w x at (λ n. At (Some n)))
      (at_node-gives t w x at (λ n. At (Some n)) (λ n low. subst (λ (u : VType). IsValue limit u (At (Some n))) (type-some V.Node t e) (node-value limit w.graph n h.graph low)))
  evaluated-gives (Unary op at a) its w t h e s k =
      let q = one-some (type_in ds a) (λ t. type_if (takes1 op t) (type1 op t)) t e in
      let i = if-some (takes1 op q.0) (type1 op q.0) t q.2 in
      if-then (IsValue limit q.0) (IsValue limit t) (evaluated a w).rest (λ v. located w at (result1 op v)) (evaluated-gives a its w q.0 h q.1 s k)
      (λ v g. located-gives t w at (result1 op v) (subst (λ (u : VType). IfOk (result1 op v) (IsValue limit u)) i.1 (result1-value limit op q.0 v (takes-fits op q.0 i.0) g)))
  evaluated-gives (Binary op at a b) its w t h e s k =
      let q = one-some (type_in ds a) (λ t. by_one (type_in ds b) (λ u. type_if (fits2 op t u) (type2 op t))) t e in
      let p = one-some (type_in ds b) (λ u. type_if (fits2 op q.0 u) (type2 op q.0)) t q.2 in
      let i = if-some (fits2 op q.0 p.0) (type2 op q.0) t p.2 in
      let r = split ds (uses_in a) (uses_in b) s in
      let l = both-true (tells table its a) (tells table its b) k in
      two-gives q.0 p.0 t (evaluated a w) (evaluated b w) (λ x y. located w at (result2 op x y)) (evaluated-gives a its w q.0 h q.1 r.0 l.0) (evaluated-gives b its w p.0 h p.1 r.1 l.1)
      (λ x y g j. located-gives t w at (result2 op x y) (subst (λ (u : VType). IfOk (result2 op x y) (IsValue limit u)) i.1 (result2-value limit op q.0 p.0 x y i.0 g)))
  evaluated-gives (Both a b) its w t h e s k =
      let q = if-some (is_type V.Flag (type_in ds a) && is_type V.Flag (type_in ds b)) V.Flag t e in
      let i = both-true (is_type V.Flag (type_in ds a)) (is_type V.Flag (type_in ds b)) q.0 in
      let r = split ds (uses_in a) (uses_in b) s in
      let l = both-true (tells table its a) (tells table its b) k in
      subst (λ (u : VType). Gives u (both (evaluated a w) (evaluated b w))) q.1
      (both-gives V.Flag (evaluated a w) (evaluated b w) (evaluated-gives a its w V.Flag h (is-type V.Flag (type_in ds a) i.0) r.0 l.0) (evaluated-gives b its w V.Flag h (is-type V.Flag (type_in ds b) i.1) r.1 l.1))
  evaluated-gives (Either a b) its w t h e s k =
      let q = if-some (is_type V.Flag (type_in ds a) && is_type V.Flag (type_in ds b)) V.Flag t e in
      let i = both-true (is_type V.Flag (type_in ds a)) (is_type V.Flag (type_in ds b)) q.0 in
      let r = split ds (uses_in a) (uses_in b) s in
      let l = both-true (tells table its a) (tells table its b) k in
      subst (λ (u : VType). Gives u (either (evaluated a w) (evaluated b w))) q.1
      (either-gives V.Flag (evaluated a w) (evaluated b w) (evaluated-gives a its w V.Flag h (is-type V.Flag (type_in ds a) i.0) r.0 l.0) (evaluated-gives b its w V.Flag h (is-type V.Flag (type_in ds b) i.1) r.1 l.1))
  evaluated-gives (Choose c a b) its w t h e s k =
      let q = one-some (type_in ds a) (λ t. type_if (is_type V.Flag (type_in ds c) && is_type t (type_in ds b)) t) t e in
      let p = if-some (is_type V.Flag (type_in ds c) && is_type q.0 (type_in ds b)) q.0 t q.2 in
      let i = both-true (is_type V.Flag (type_in ds c)) (is_type q.0 (type_in ds b)) p.0 in
      let r = split ds (uses_in c) (uses_in a ++ uses_in b) s in
      let r' = split ds (uses_in a) (uses_in b) r.1 in
      let l = both-true (tells table its c) (tells table its a && tells table its b) k in
      let l' = both-true (tells table its a) (tells table its b) l.1 in
      subst (λ (u : VType). Gives u (choice (evaluated c w) (evaluated a w) (evaluated b w))) p.1
      (choice-gives q.0 (evaluated c w) (evaluated a w) (evaluated b w) (evaluated-gives c its w V.Flag h (is-type V.Flag (type_in ds c) i.0) r.0 l.0)
      (evaluated-gives a its w q.0 h q.1 r'.0 l'.0) (evaluated-gives b its w q.0 h (is-type q.0 (type_in ds b) i.1) r'.1 l'.1))
  evaluated-gives (Folded f head test a) its w t h e s k =
      let takes_a = is_type (takes f.word f.vtype) (type_in ds a) in
      let q = if-some (is_type V.Flag (type_in ds test) && (takes_a && reduces (reduce_of f.word) f.vtype)) f.vtype t e in
      let i = both-true (is_type V.Flag (type_in ds test)) (takes_a && reduces (reduce_of f.word) f.vtype) q.0 in
      let j = both-true takes_a (reduces (reduce_of f.word) f.vtype) i.1 in
      let r = split ds (uses_of_head head) (uses_in test ++ uses_in a) s in
      let r' = split ds (uses_in test) (uses_in a) r.1 in
      let inner = head.iterator ∷ its in
      let l = both-true (takes_nodes table head.iterator) (tells table inner test && tells table inner a) k in
      let l' = both-true (tells table inner test) (tells table inner a) l.1 in
      let one = λ (s : Step). element f.word (settled (evaluated test (entered w head s f.filter))) (settled (evaluated a (entered w head s f.body))) in
      let seen : (s : Step) → s.node < node_count w.graph → (key : Key) → IsTypedView table inner (entered w head s key) =
      λ s low key. record { graph = h.graph; store = enter table its head.iterator s.node w.graph w.store h.graph l.0 low h.store } in
      subst (λ (u : VType). IfOk (reduction f (map one (steps_in w head))) (IsValue limit u)) q.1
      (reduction-gives f (map one (steps_in w head)) j.1
      (each-map (λ r. IfOk r (NumbersBelow limit f.vtype)) one (steps_in w head)
      (each-weaker (λ (s : Step). s.node < node_count w.graph) (λ s. IfOk (one s) (NumbersBelow limit f.vtype)) (steps_in w head)
      (λ s low. element-below f.word f.vtype (settled (evaluated test (entered w head s f.filter))) (settled (evaluated a (entered w head s f.body))) j.1
      (settled-gives V.Flag (evaluated test (entered w head s f.filter)) (evaluated-gives test inner (entered w head s f.filter) V.Flag (seen s low f.filter) (is-type V.Flag (type_in ds test) i.0) r'.0 l'.0))
      (settled-gives (takes f.word f.vtype) (evaluated a (entered w head s f.body)) (evaluated-gives a inner (entered w head s f.body) (takes f.word f.vtype) (seen s low f.body) (is-type (takes f.word f.vtype) (type_in ds a) j.0) r'.1 l'.1)))
      (steps-within w head h.graph.graph))))

  -- the same of an expression's value
  pub value-gives : (e : Expr) (its : List ℕ) (w : View) (t : VType) → IsTypedView table its w → type_in ds e ≡ Some t → Suit ds (uses_in e) → tells table its e ≡ true → IfOk (value e w) (IsValue limit t)
  value-gives e its w t h is s k = settled-gives t (evaluated e w) (evaluated-gives e its w t h is s k)

  -- and of several expressions with the types of targets
  pub all-give : (ts : List Target) (es : List Expr) (its : List ℕ) (w : View) → IsTypedView table its w → all_have_types ds ts es ≡ true → Suit ds (uses_in_all es) → all_tell table its es ≡ true → IfOk (evaluated_all es w).rest (AreValues limit (map (target_type ds) ts))
  all-give [] [] its w h e s k = tt
  all-give [] (a ∷ es) its w h e s k = absurd (both_ways false refl e)
  all-give (t ∷ ts) [] its w h e s k = absurd (both_ways false refl e)
  all-give (t ∷ ts) (a ∷ es) its w h e s k =
      let u = target_type ds t in
      let q = both-true (has_type ds u a) (all_have_types ds ts es) e in
      let r = split ds (uses_in a) (uses_in_all es) s in
      let l = both-true (tells table its a) (all_tell table its es) k in
      let P = AreValues limit (map (target_type ds) (t ∷ ts)) in
      if-then (IsValue limit u) P (evaluated a w).rest (λ x. then_with (evaluated_all es w).rest (λ xs. Ok (x ∷ xs))) (evaluated-gives a its w u h (is-type u (type_in ds a) q.0) r.0 l.0)
      (λ x g. if-then (AreValues limit (map (target_type ds) ts)) P (evaluated_all es w).rest (λ xs. Ok (x ∷ xs)) (all-give ts es its w h q.1 r.1 l.1) (λ xs j. (g, j)))
