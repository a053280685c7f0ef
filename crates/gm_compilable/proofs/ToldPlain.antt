-- The passes up to plain loops keep what may be told, and make no constant that is a node.
use Rattle.std.proofs.Common.{◌≡◌, ◌≤◌, ◌+◌, ℕ, Bool, true, false, cond, List, [], ◌∷◌, ◌++◌, map, refl, ap, ◌∙◌, sym, subst, arith, Option, Some, None}
use Rattle.std.specs.Prelude.{◌||◌, nat_lt, nat_eq, neg_ℤ, option_map, IfOk, Result, Ok, Err, if◌then◌else◌}
use Rattle.std.specs.List.{list_all}
use Rattle.std.proofs.lemmas.Bool.{both_ways, eqb-true}
use Rattle.gm_base.specs.declared.places.Place.{Place}
use Rattle.gm_value.specs.declared.faults.FaultKind.{FaultKind}
use Rattle.gm_value.specs.declared.faults.FaultKind.TheVariants.{Overflow}
use Rattle.gm_value.specs.declared.operations.Op1.{Op1}
use Rattle.gm_value.specs.declared.operations.Op1.TheVariants.{Neg, Not, ToI32, ToI64}
use Rattle.gm_value.specs.declared.reductions.Reduce.{Reduce}
use Rattle.gm_value.specs.declared.reductions.Reduce.TheVariants as R
use Rattle.gm_value.specs.declared.values.VType.{VType}
use Rattle.gm_value.specs.declared.values.VType.TheVariants as V
use Rattle.gm_value.specs.declared.values.Value.{Value}
use Rattle.gm_value.specs.declared.values.Value.TheVariants as Values
use Rattle.gm_value.specs.Numbers.{value_at, fits, type_of, number_of, IsOf}
use Rattle.gm_value.specs.Operations.{result1, is_numeric, type1}
use Rattle.gm_value.specs.Reductions.{reduces}
use Rattle.gm_ast.specs.declared.tree.Declaration.{Declaration}
use Rattle.gm_ast.specs.declared.tree.Head.{Head}
use Rattle.gm_ast.specs.declared.tree.Key.{Key}
use Rattle.gm_ast.specs.declared.tree.Sort.TheVariants as Sorts
use Rattle.gm_ast.specs.declared.tree.Target.{Target}
use Rattle.gm_ast.specs.declared.tree.Target.TheVariants as T
use Rattle.gm_ast.specs.declared.tree.TotalKey.{TotalKey}
use Rattle.gm_ast.specs.Program.{Expr, Const, Var, Property, EdgeProperty, Degree, NodeCount, EdgeCount, Live, Unary, Binary, Both, Either, Choose, Folded, Stmt, Then, Declare, Assign, Defer, Combine, Group, Foreach, For, If, While, Do, InBfs, InBfsBoth, Return, sequence}
use Rattle.gm_ast.specs.Ways.{is_in}
use Rattle.gm_semantics.specs.Expressions.{reduce_of}
use Rattle.gm_semantics.specs.Iterations.{target_value}
use Rattle.gm_semantics.specs.Outcomes.{is_of}
use Rattle.gm_semantics.specs.Statements.{variable_at}
use Rattle.gm_forms.specs.Forms.{is_told}
use Rattle.gm_forms.specs.Sharing.{are_at_once}
use Rattle.gm_forms.specs.Typing.{keeps_tuples, type_at, type_if, takes1, type_in}
use Rattle.gm_forms.specs.Uses.{Written, Use, has_role, suits, uses_of_head, uses_of_search, uses_in, uses_in_all, uses_of_target, uses_of_targets, uses_of}
use Rattle.gm_forms.proofs.Named.{both-true, all-append}
use Rattle.gm_value.proofs.NumberLaws.{checked-typed}
use Rattle.gm_ready.proofs.ReadFacts.{Every}
use Rattle.gm_desugar.specs.Compounds.{operated, assignment_of, expanded_in, expanded}
use Rattle.gm_desugar.specs.Conditions.{set_to, if_hoisted, for_hoisted, while_hoisted, do_hoisted, hoisted}
use Rattle.gm_desugar.specs.Groups.{ungrouped}
use Rattle.gm_desugar.specs.Literals.{constant_or, negated, applied, with_literals, each_expr_in, each_expr}
use Rattle.gm_desugar.specs.Reads as Reads
use Rattle.gm_desugar.specs.Reads.{count_read, reads_set, is_single, after_reads, stays_alone, count_reads, apart}
use Rattle.gm_picks.specs.Picks as Picks
use Rattle.gm_picks.specs.Picks.{taken, property_set, count_held, held_set, held, value_variable, written_back, picked, count_picks, onto_scalars}
use Rattle.gm_reductions.specs.Accesses.{word_for, holder, compared, checks, after_check, write_there, declared_by_loops, assigned_by_loops, by_loops}
use Rattle.gm_reductions.specs.declared.accesses.Fresh.{Fresh}
use Rattle.gm_sound_lowering.specs.Asked.{is_plain_constant}
use Rattle.gm_compilable.proofs.Typed.{Has, MayHave, AllHave, HasIn, if-type, one-some}
use Rattle.gm_compilable.proofs.Telling.{Tells, MayTell, AllTell, Body, Phase, Phases, phases-both, sequence-phase}

-- ---- negative literals

negative-plain : (v : Value) → is_numeric (type_of v) ≡ true → IfOk (result1 Neg v) (λ n. is_plain_constant n ≡ true)
negative-plain (Values.I32 z) h = by (fits V.I32 (neg_ℤ z))
  where
    by : (b : Bool) → IfOk (if b then Ok (value_at V.I32 (neg_ℤ z)) else Err Overflow) (λ n. is_plain_constant n ≡ true)
    by true = refl
    by false = tt
negative-plain (Values.I64 z) h = by (fits V.I64 (neg_ℤ z))
  where
    by : (b : Bool) → IfOk (if b then Ok (value_at V.I64 (neg_ℤ z)) else Err Overflow) (λ n. is_plain_constant n ≡ true)
    by true = refl
    by false = tt
negative-plain (Values.Flag b) h = absurd (both_ways false refl h)
negative-plain (Values.At n) h = absurd (both_ways false refl h)

-- a constant of a type
abbrev OfType : VType → Expr → Type 0
OfType t (Const v) = type_of v ≡ t
OfType t e = Unit {0}

module _ (told : ℕ → Type 0) (ds : List Declaration) where
  constant-tells : (at : Place) (v : Value) (r : Result Value FaultKind) → is_plain_constant v ≡ true → IfOk r (λ n. is_plain_constant n ≡ true) → Tells told (constant_or at v r)
  constant-tells at v (Ok n) h k = k
  constant-tells at v (Err f) h k = h

  negated-tells : (at : Place) (u : VType) (e : Expr) → takes1 Neg u ≡ true → OfType u e → Tells told e → Tells told (negated at e)
  negated-tells at u (Const v) n o h = constant-tells at v (result1 Neg v) h (negative-plain v (ap is_numeric o ∙ n))
  negated-tells at u (Var x p) n o h = h
  negated-tells at u (Property x p a) n o h = h
  negated-tells at u (EdgeProperty x p a) n o h = h
  negated-tells at u (Degree d x a) n o h = h
  negated-tells at u NodeCount n o h = h
  negated-tells at u EdgeCount n o h = h
  negated-tells at u (Live x a) n o h = h
  negated-tells at u (Unary op a e) n o h = h
  negated-tells at u (Binary op a x y) n o h = h
  negated-tells at u (Both x y) n o h = h
  negated-tells at u (Either x y) n o h = h
  negated-tells at u (Choose c x y) n o h = h
  negated-tells at u (Folded f hd test e) n o h = h

  applied-tells : (op : Op1) (at : Place) (u : VType) (e : Expr) → takes1 op u ≡ true → OfType u e → Tells told e → Tells told (applied op at e)
  applied-tells Neg at u e n o h = negated-tells at u e n o h
  applied-tells Not at u e n o h = h
  applied-tells ToI32 at u e n o h = h
  applied-tells ToI64 at u e n o h = h

  constant-type : (at : Place) (v : Value) (r : Result Value FaultKind) → IfOk r (IsOf (type_of v)) → OfType (type_of v) (constant_or at v r)
  constant-type at v (Ok n) k = k.0
  constant-type at v (Err f) k = tt

  negated-type : (at : Place) (u : VType) (e : Expr) → OfType u e → OfType u (negated at e)
  negated-type at u (Const v) o = subst (λ t. OfType t (negated at (Const v))) o (constant-type at v (result1 Neg v) (checked-typed (type_of v) (neg_ℤ (number_of v))))
  negated-type at u (Var x p) o = tt
  negated-type at u (Property x p a) o = tt
  negated-type at u (EdgeProperty x p a) o = tt
  negated-type at u (Degree d x a) o = tt
  negated-type at u NodeCount o = tt
  negated-type at u EdgeCount o = tt
  negated-type at u (Live x a) o = tt
  negated-type at u (Unary op a e) o = tt
  negated-type at u (Binary op a x y) o = tt
  negated-type at u (Both x y) o = tt
  negated-type at u (Either x y) o = tt
  negated-type at u (Choose c x y) o = tt
  negated-type at u (Folded f hd test e) o = tt

  applied-type : (op : Op1) (at : Place) (u t : VType) (e : Expr) → OfType u e → type_if (takes1 op u) (type1 op u) ≡ Some t → OfType t (applied op at e)
  applied-type Neg at u t e o h = subst (λ s. OfType s (negated at e)) (if-type (takes1 Neg u) u t h) (negated-type at u e o)
  applied-type Not at u t e o h = tt
  applied-type ToI32 at u t e o h = tt
  applied-type ToI64 at u t e o h = tt

  literal-type : (e : Expr) (t : VType) → type_in ds e ≡ Some t → OfType t (with_literals e)
  literal-type (Const v) t h = if-type (fits (type_of v) (number_of v)) (type_of v) t h
  literal-type (Unary op at e) t h =
      let p = one-some (type_in ds e) (λ u. type_if (takes1 op u) (type1 op u)) t h in applied-type op at p.0 t (with_literals e) (literal-type e p.0 p.1) p.2
  literal-type e t h = tt

  literals-tell : (e : Expr) → Has ds e → Tells told e → Tells told (with_literals e)
  literals-tell (Unary op at e) n h = applied-tells op at n.0 (with_literals e) n.2 (literal-type e n.0 n.1) (literals-tell e n.3 h)
  literals-tell (Binary op at a b) n h = (literals-tell a n.0 h.0, literals-tell b n.1 h.1)
  literals-tell (Both a b) n h = (literals-tell a n.0 h.0, literals-tell b n.1 h.1)
  literals-tell (Either a b) n h = (literals-tell a n.0 h.0, literals-tell b n.1 h.1)
  literals-tell (Choose c a b) n h = (literals-tell c n.0 h.0, (literals-tell a n.1.0 h.1.0, literals-tell b n.1.1 h.1.1))
  literals-tell (Folded f hd test e) n h = (h.0, (literals-tell test n.1.0 h.1.0, literals-tell e n.1.1 h.1.1))
  literals-tell e n h = h

  may-literals : (o : Option Expr) → MayHave ds o → MayTell told o → MayTell told (option_map with_literals o)
  may-literals None n h = tt
  may-literals (Some e) n h = literals-tell e n h

  all-literals : (es : List Expr) → AllHave ds es → AllTell told es → AllTell told (map with_literals es)
  all-literals [] n h = tt
  all-literals (e ∷ es) n h = (literals-tell e n.0 h.0, all-literals es n.1 h.1)

  body-literals : (s : Stmt) → HasIn ds s → Body told s → Body told (each_expr_in with_literals s)
  body-literals (Then a b) n h = (body-literals a n.0 h.0, body-literals b n.1 h.1)
  body-literals (Declare k x e) n h = may-literals e n h
  body-literals (Assign k t e) n h = literals-tell e n h
  body-literals (Defer k t e) n h = literals-tell e n h
  body-literals (Combine k total r ts es) n h = all-literals es n h
  body-literals (If k c a b) n h = (literals-tell c n.0 h.0, (body-literals a n.1.0 h.1.0, body-literals b n.1.1 h.1.1))
  body-literals (Foreach k at hd test s) n h = (literals-tell test n.0 h.0, body-literals s n.1 h.1)
  body-literals s n h = h

-- ---- reads of one node

word-reduces : (t : VType) → reduces (reduce_of (word_for t)) t ≡ true
word-reduces V.I32 = refl
word-reduces V.I64 = refl
word-reduces V.Flag = refl
word-reduces V.Node = refl

-- ---- compound assignments

module _ (told : ℕ → Type 0) (ds : List Declaration) (scalar : (x : ℕ) → is_of ds Sorts.Scalar x ≡ true → told x) where
  abbrev Suit : List Use → Type 0
  Suit us = list_all (suits ds) us ≡ true

  value-tells : (t : Target) → Suit (uses_of_target t) → Tells told (target_value t)
  value-tells (T.Scalar x at) n =
      let s = both-true (suits ds (record { variable = x; role = Written })) true n in
      scalar x (both-true (nat_lt x _) (has_role (variable_at ds x) Written) s.0).1
  value-tells (T.Property x p at) n = tt

  operated-tells : (r : Reduce) (at : Place) (t : Target) (e : Expr) → Suit (uses_of_target t) → Tells told e → Tells told (operated r at (target_value t) e)
  operated-tells R.Sum at t e n h = (value-tells t n, h)
  operated-tells R.Product at t e n h = (value-tells t n, h)
  operated-tells R.And at t e n h = (value-tells t n, h)
  operated-tells R.Or at t e n h = (value-tells t n, h)
  operated-tells R.Min at t e n h = (value-tells t n, h)
  operated-tells R.Max at t e n h = (value-tells t n, h)

  -- S: what is said of a statement, which says of an assignment what it tells, and of a reduction too
  assignment-tells : (S : Stmt → Type 0) → ((k : Key) (t : Target) (e : Expr) → Tells told e → S (Assign k t e)) → ((k : Key) (total : TotalKey) (r : Reduce) (ts : List Target) (es : List Expr) → AllTell told es → S (Combine k total r ts es))
      → (k : Key) (total : TotalKey) (r : Reduce) (ts : List Target) (es : List Expr) → Suit (uses_of_targets ts) → AllTell told es → S (assignment_of k total r ts es)
  assignment-tells S a c k total r [] es n h = c k total r [] es h
  assignment-tells S a c k total r (t ∷ []) [] n h = c k total r (t ∷ []) [] h
  assignment-tells S a c k total r (t ∷ []) (e ∷ []) n h = by (keeps_tuples r)
    where
      by : (b : Bool) → S (cond b (Combine k total r (t ∷ []) (e ∷ [])) (Assign k t (operated r total.place (target_value t) e)))
      by true = c k total r (t ∷ []) (e ∷ []) h
      by false = a k t (operated r total.place (target_value t) e) (operated-tells r total.place t e (all-append (suits ds) (uses_of_target t) [] n).0 h.0)
  assignment-tells S a c k total r (t ∷ []) (e ∷ (d ∷ es)) n h = c k total r (t ∷ []) (e ∷ (d ∷ es)) h
  assignment-tells S a c k total r (t ∷ (u ∷ ts)) es n h = c k total r (t ∷ (u ∷ ts)) es h

  body-of : (hd : Head) (test : Expr) (s : Stmt) → Suit (uses_of_head hd ++ (uses_in test ++ uses_of s)) → Suit (uses_of s)
  body-of hd test s n = (all-append (suits ds) (uses_in test) (uses_of s) (all-append (suits ds) (uses_of_head hd) (uses_in test ++ uses_of s) n).1).1

  body-compounds : (m : ℕ) (deep : Bool) (s : Stmt) → Suit (uses_of s) → Body told s → Body told (expanded_in ds m deep s)
  body-compounds m deep (Then a b) n h = let u = all-append (suits ds) (uses_of a) (uses_of b) n in (body-compounds m deep a u.0 h.0, body-compounds m deep b u.1 h.1)
  body-compounds m deep (Combine k total r ts es) n h = by (are_at_once ds m deep ts)
    where
      by : (b : Bool) → Body told (cond b (assignment_of k total r ts es) (Combine k total r ts es))
      by true = assignment-tells (Body told) (λ k t e h. h) (λ k total r ts es h. h) k total r ts es (all-append (suits ds) (uses_of_targets ts) (uses_in_all es) n).0 h
      by false = h
  body-compounds m deep (If k c a b) n h =
      let u = all-append (suits ds) (uses_in c) (uses_of a ++ uses_of b) n in
      let v = all-append (suits ds) (uses_of a) (uses_of b) u.1 in
      (h.0, (body-compounds m deep a v.0 h.1.0, body-compounds m deep b v.1 h.1.1))
  body-compounds m deep (Foreach k at hd test s) n h = (h.0, body-compounds m true s (body-of hd test s n) h.1)
  body-compounds m deep s n h = h

-- ---- sequential phases

module _ (fors out : ℕ → Type 0) (inn : ℕ → ℕ → Type 0) where
  pub groups-told : (s : Stmt) → Phase fors out inn s → Phase fors out inn (ungrouped s)
  groups-told (Then a b) h = (groups-told a h.0, groups-told b h.1)
  groups-told (Group k at g p e) h = (refl, h)
  groups-told (For k at hd test s) h = (h.0, (h.1.0, groups-told s h.1.1))
  groups-told (If k c a b) h = (h.0, (groups-told a h.1.0, groups-told b h.1.1))
  groups-told (While k at c s) h = (h.0, groups-told s h.1)
  groups-told (Do k at s c) h = (groups-told s h.0, h.1)
  groups-told s h = h

  pub literals-told : (ds : List Declaration) (s : Stmt) → HasIn ds s → Phase fors out inn s → Phase fors out inn (each_expr with_literals s)
  literals-told ds (Then a b) n h = (literals-told ds a n.0 h.0, literals-told ds b n.1 h.1)
  literals-told ds (Declare k x e) n h = may-literals out ds e n h
  literals-told ds (Assign k t e) n h = literals-tell out ds e n h
  literals-told ds (Combine k total r ts es) n h = all-literals out ds es n h
  literals-told ds (Group k at g p e) n h = literals-tell (inn g) ds e n h
  literals-told ds (Foreach k at hd test s) n h = let t = inn hd.iterator in (literals-tell t ds test n.0 h.0, body-literals t ds s n.1 h.1)
  literals-told ds (For k at hd test s) n h = (h.0, (literals-tell out ds test n.0 h.1.0, literals-told ds s n.1 h.1.1))
  literals-told ds (If k c a b) n h = (literals-tell out ds c n.0 h.0, (literals-told ds a n.1.0 h.1.0, literals-told ds b n.1.1 h.1.1))
  literals-told ds (While k at c s) n h = (literals-tell out ds c n.0 h.0, literals-told ds s n.1 h.1)
  literals-told ds (Do k at s c) n h = (literals-told ds s n.0 h.0, literals-tell out ds c n.1 h.1)
  literals-told ds (InBfs k at search test s) n h = let t = inn search.iterator in (literals-tell t ds test n.0 h.0, body-literals t ds s n.1 h.1)
  literals-told ds (InBfsBoth k at search test s back_key back_test back) n h =
      let t = inn search.iterator in ((literals-tell t ds test n.0.0 h.0.0, body-literals t ds s n.0.1 h.0.1), (literals-tell t ds back_test n.1.0 h.1.0, body-literals t ds back n.1.1 h.1.1))
  literals-told ds (Return k at e) n h = may-literals out ds e n h
  literals-told ds s n h = h

  module _ (ds : List Declaration) (scalar : (x : ℕ) → is_of ds Sorts.Scalar x ≡ true → out x) (wider : (n x : ℕ) → out x → inn n x) where
    inside : (n x : ℕ) → is_of ds Sorts.Scalar x ≡ true → inn n x
    inside n x e = wider n x (scalar x e)

    pub compounds-told : (s : Stmt) → list_all (suits ds) (uses_of s) ≡ true → Phase fors out inn s → Phase fors out inn (expanded ds s)
    compounds-told (Then a b) n h = let u = all-append (suits ds) (uses_of a) (uses_of b) n in (compounds-told a u.0 h.0, compounds-told b u.1 h.1)
    compounds-told (Combine k total r ts es) n h = assignment-tells out ds scalar (Phase fors out inn) (λ k t e h. h) (λ k total r ts es h. h) k total r ts es (all-append (suits ds) (uses_of_targets ts) (uses_in_all es) n).0 h
    compounds-told (Foreach k at hd test s) n h = let i = hd.iterator in (h.0, body-compounds (inn i) ds (inside i) i false s (body-of out ds scalar hd test s n) h.1)
    compounds-told (For k at hd test s) n h = (h.0, (h.1.0, compounds-told s (body-of out ds scalar hd test s n) h.1.1))
    compounds-told (If k c a b) n h =
        let u = all-append (suits ds) (uses_in c) (uses_of a ++ uses_of b) n in
        let v = all-append (suits ds) (uses_of a) (uses_of b) u.1 in
        (h.0, (compounds-told a v.0 h.1.0, compounds-told b v.1 h.1.1))
    compounds-told (While k at c s) n h = (h.0, compounds-told s (all-append (suits ds) (uses_in c) (uses_of s) n).1 h.1)
    compounds-told (Do k at s c) n h = (compounds-told s (all-append (suits ds) (uses_of s) (uses_in c) n).0 h.0, h.1)
    compounds-told (InBfs k at search test s) n h =
        let i = search.iterator in
        let u = all-append (suits ds) (uses_of_search search) (uses_in test ++ uses_of s) n in
        (h.0, body-compounds (inn i) ds (inside i) i false s (all-append (suits ds) (uses_in test) (uses_of s) u.1).1 h.1)
    compounds-told (InBfsBoth k at search test s back_key back_test back) n h =
        let i = search.iterator in
        let u = all-append (suits ds) (uses_of_search search) (uses_in test ++ (uses_of s ++ (uses_in back_test ++ uses_of back))) n in
        let v = all-append (suits ds) (uses_in test) (uses_of s ++ (uses_in back_test ++ uses_of back)) u.1 in
        let w = all-append (suits ds) (uses_of s) (uses_in back_test ++ uses_of back) v.1 in
        let x = all-append (suits ds) (uses_in back_test) (uses_of back) w.1 in
        ((h.0.0, body-compounds (inn i) ds (inside i) i false s w.0 h.0.1), (h.1.0, body-compounds (inn i) ds (inside i) i false back x.1 h.1.1))
    compounds-told s n h = h

  -- ---- conditions

  module _ (c : ℕ) (told : out c) where
    if-told : (b : Bool) (k : Key) (e : Expr) (s t : Stmt) → Tells out e → Phase fors out inn s → Phase fors out inn t → Phase fors out inn (if_hoisted b c k e s t)
    if-told true k e s t h x y = (h, (x, y))
    if-told false k e s t h x y = (h, ((told, (x, y)), tt))

    for-told : (b : Bool) (k : Key) (at : Place) (hd : Head) (e : Expr) (s : Stmt) → fors hd.iterator → Tells out e → Phase fors out inn s → Phase fors out inn (for_hoisted b c k at hd e s)
    for-told true k at hd e s i h x = (i, (h, x))
    for-told false k at hd e s i h x = (i, (refl, (h, ((told, (x, tt)), tt))))

    while-told : (b : Bool) (k : Key) (at : Place) (e : Expr) (s : Stmt) → Tells out e → Phase fors out inn s → Phase fors out inn (while_hoisted b c k at e s)
    while-told true k at e s h x = (h, x)
    while-told false k at e s h x = (h, ((told, (x, (h, tt))), tt))

    do-told : (b : Bool) (k : Key) (at : Place) (s : Stmt) (e : Expr) → Tells out e → Phase fors out inn s → Phase fors out inn (do_hoisted b c k at s e)
    do-told true k at s e h x = (x, h)
    do-told false k at s e h x = ((x, (h, tt)), told)

    pub conditions-told : (s : Stmt) → Phase fors out inn s → Phase fors out inn (hoisted c s)
    conditions-told (Then a b) h = (conditions-told a h.0, conditions-told b h.1)
    conditions-told (For k at hd e s) h = for-told (is_told e) k at hd e (hoisted c s) h.0 h.1.0 (conditions-told s h.1.1)
    conditions-told (If k e a b) h = if-told (is_told e) k e (hoisted c a) (hoisted c b) h.0 (conditions-told a h.1.0) (conditions-told b h.1.1)
    conditions-told (While k at e s) h = while-told (is_told e) k at e (hoisted c s) h.0 (conditions-told s h.1)
    conditions-told (Do k at s e) h = do-told (is_told e) k at (hoisted c s) e h.1 (conditions-told s h.0)
    conditions-told s h = h

  -- ---- reads, whose variables stand behind the inputs

  module _ (bound : ℕ) (far : (x : ℕ) → bound ≤ x → out x) where
    two-reads : (a b : Expr) (n m : ℕ) (k : Key) → Phases fors out inn (reads_set n k a) → Phases fors out inn (reads_set m k b) → Phases fors out inn (reads_set n k a ++ reads_set m k b)
    two-reads a b n m k x y = phases-both fors out inn (reads_set n k a) (reads_set m k b) x y

    reads-phases : (e : Expr) (n : ℕ) (k : Key) → Tells out e → Phases fors out inn (reads_set n k e)
    reads-phases (Const v) n k h = tt
    reads-phases (Var x at) n k h = tt
    reads-phases (Property x p at) n k h = (h, tt)
    reads-phases (EdgeProperty x p at) n k h = tt
    reads-phases (Degree d x at) n k h = (h, tt)
    reads-phases NodeCount n k h = tt
    reads-phases EdgeCount n k h = tt
    reads-phases (Live x at) n k h = (h, tt)
    reads-phases (Unary op at e) n k h = reads-phases e n k h
    reads-phases (Binary op at a b) n k h = two-reads a b n (n + count_read a) k (reads-phases a n k h.0) (reads-phases b (n + count_read a) k h.1)
    reads-phases (Both a b) n k h = two-reads a b n (n + count_read a) k (reads-phases a n k h.0) (reads-phases b (n + count_read a) k h.1)
    reads-phases (Either a b) n k h = two-reads a b n (n + count_read a) k (reads-phases a n k h.0) (reads-phases b (n + count_read a) k h.1)
    reads-phases (Choose c a b) n k h =
        let m = n + count_read c in
        phases-both fors out inn (reads_set n k c) (reads_set m k a ++ reads_set (m + count_read a) k b) (reads-phases c n k h.0)
        (two-reads a b m (m + count_read a) k (reads-phases a m k h.1.0) (reads-phases b (m + count_read a) k h.1.1))
    reads-phases (Folded f hd test e) n k h = (h, tt)

    told-reads : (e : Expr) (n : ℕ) → bound ≤ n → Tells out e → Tells out (Reads.told_from n e)
    told-reads (Const v) n low h = h
    told-reads (Var x at) n low h = h
    told-reads (Property x p at) n low h = far n low
    told-reads (EdgeProperty x p at) n low h = tt
    told-reads (Degree d x at) n low h = far n low
    told-reads NodeCount n low h = tt
    told-reads EdgeCount n low h = tt
    told-reads (Live x at) n low h = far n low
    told-reads (Unary op at e) n low h = told-reads e n low h
    told-reads (Binary op at a b) n low h = (told-reads a n low h.0, told-reads b (n + count_read a) (omega (arith, low)) h.1)
    told-reads (Both a b) n low h = (told-reads a n low h.0, told-reads b (n + count_read a) (omega (arith, low)) h.1)
    told-reads (Either a b) n low h = (told-reads a n low h.0, told-reads b (n + count_read a) (omega (arith, low)) h.1)
    told-reads (Choose c a b) n low h =
        (told-reads c n low h.0, (told-reads a (n + count_read c) (omega (arith, low)) h.1.0, told-reads b ((n + count_read c) + count_read a) (omega (arith, low)) h.1.1))
    told-reads (Folded f hd test e) n low h = far n low

    after-told : (alone : Bool) (n : ℕ) (k : Key) (e : Expr) (s : Expr → Stmt) → bound ≤ n → ((d : Expr) → Tells out d → Phase fors out inn (s d)) → Tells out e → Phase fors out inn (after_reads alone n k e s)
    after-told true n k e s low each h = each e h
    after-told false n k e s low each h =
        sequence-phase fors out inn (reads_set n k e ++ (s (Reads.told_from n e) ∷ []))
        (phases-both fors out inn (reads_set n k e) (s (Reads.told_from n e) ∷ []) (reads-phases e n k h) (each (Reads.told_from n e) (told-reads e n low h), tt))

    pub reads-told : (s : Stmt) (n : ℕ) → bound ≤ n → Phase fors out inn s → Phase fors out inn (apart n s)
    reads-told (Then a b) n low h = (reads-told a n low h.0, reads-told b (n + count_reads a) (omega (arith, low)) h.1)
    reads-told (Declare k x (Some e)) n low h = after-told (is_single x e) n k e (λ d. Declare k x (Some d)) low (λ d f. f) h
    reads-told (Assign k t e) n low h = after-told (stays_alone t e) n k e (Assign k t) low (λ d f. f) h
    reads-told (For k at hd e s) n low h = (h.0, (h.1.0, reads-told s n low h.1.1))
    reads-told (If k e a b) n low h = (h.0, (reads-told a n low h.1.0, reads-told b (n + count_reads a) (omega (arith, low)) h.1.1))
    reads-told (While k at e s) n low h = (h.0, reads-told s n low h.1)
    reads-told (Do k at s e) n low h = (reads-told s n low h.0, h.1)
    reads-told (Return k at (Some e)) n low h = after-told (is_told e) n k e (λ d. Return k at (Some d)) low (λ d f. f) h
    reads-told s n low h = h

    -- ---- picks

    property-told : (i : Bool) (n : ℕ) (k : Key) (y p : ℕ) (at : Place) (rest : List Stmt) → Phases fors out inn rest → Phases fors out inn (property_set i n k y p at ++ rest)
    property-told true n k y p at rest h = (tt, h)
    property-told false n k y p at rest h = (tt, (tt, h))

    held-told : (its : List ℕ) (n : ℕ) (k : Key) (ts : List Target) → Phases fors out inn (held_set its n k ts)
    held-told its n k [] = tt
    held-told its n k (T.Scalar x at ∷ ts) = held-told its n k ts
    held-told its n k (T.Property y p at ∷ ts) = let i = is_in its y in property-told i n k y p at (held_set its (n + taken i) k ts) (held-told its (n + taken i) k ts)

    value-far : (i : Bool) (n : ℕ) → bound ≤ n → out (value_variable i n)
    value-far true n low = far n low
    value-far false n low = far (n + 1) (omega (arith, low))

    written-told : (its : List ℕ) (n : ℕ) (k : Key) (ts : List Target) → bound ≤ n → Phases fors out inn (written_back its n k ts)
    written-told its n k [] low = tt
    written-told its n k (T.Scalar x at ∷ ts) low = written-told its n k ts low
    written-told its n k (T.Property y p at ∷ ts) low = (value-far (is_in its y) n low, written-told its (n + taken (is_in its y)) k ts (omega (arith, low)))

    set-told : (n : ℕ) (k : Key) (es : List Expr) → AllTell out es → Phases fors out inn (Picks.all_set n k es)
    set-told n k [] h = tt
    set-told n k (e ∷ es) h = phases-both fors out inn (reads_set n k e) (Picks.all_set (n + count_read e) k es) (reads-phases e n k h.0) (set-told (n + count_read e) k es h.1)

    all-told : (n : ℕ) (es : List Expr) → bound ≤ n → AllTell out es → AllTell out (Picks.all_told n es)
    all-told n [] low h = tt
    all-told n (e ∷ es) low h = (told-reads e n low h.0, all-told (n + count_read e) es (omega (arith, low)) h.1)

    picked-told : (its : List ℕ) (n : ℕ) (k : Key) (total : TotalKey) (r : Reduce) (ts : List Target) (es : List Expr) → bound ≤ n → AllTell out es → Phase fors out inn (picked its n k total r ts es)
    picked-told its n k total r ts es low h =
        let m = n + count_held its ts in
        let pick = Combine k total r (held its n ts) (Picks.all_told m es) in
        sequence-phase fors out inn (held_set its n k ts ++ (Picks.all_set m k es ++ (pick ∷ written_back its n k ts)))
        (phases-both fors out inn (held_set its n k ts) (Picks.all_set m k es ++ (pick ∷ written_back its n k ts)) (held-told its n k ts)
        (phases-both fors out inn (Picks.all_set m k es) (pick ∷ written_back its n k ts) (set-told m k es h) (all-told m es (omega (arith, low)) h, written-told its n k ts low)))

    pub picks-told : (s : Stmt) (its : List ℕ) (n : ℕ) → bound ≤ n → Phase fors out inn s → Phase fors out inn (onto_scalars its n s)
    picks-told (Then a b) its n low h = (picks-told a its n low h.0, picks-told b its (n + count_picks its a) (omega (arith, low)) h.1)
    picks-told (Combine k total r ts es) its n low h = picked-told its n k total r ts es low h
    picks-told (For k at hd e s) its n low h = (h.0, (h.1.0, picks-told s (hd.iterator ∷ its) n low h.1.1))
    picks-told (If k e a b) its n low h = (h.0, (picks-told a its n low h.1.0, picks-told b its (n + count_picks its a) (omega (arith, low)) h.1.1))
    picks-told (While k at e s) its n low h = (h.0, picks-told s its n low h.1)
    picks-told (Do k at s e) its n low h = (picks-told s its n low h.0, h.1)
    picks-told s its n low h = h

  -- ---- accesses

  among : (its : List ℕ) (y : ℕ) → Every out its → is_in its y ≡ true → out y
  among [] y h e = absurd (both_ways false refl e)
  among (x ∷ its) y h e = by (nat_eq y x) refl e (among its y h.1)
    where
      by : (b : Bool) → nat_eq y x ≡ b → b || is_in its y ≡ true → (is_in its y ≡ true → out y) → out y
      by true q e rest = subst out (sym (eqb-true y x q)) h.0
      by false q e rest = rest e

  module _ (ds : List Declaration) (f : Fresh) (wider : (n x : ℕ) → out x → inn n x) (checked : out f.checked) (iterator : out f.iterator) (holds : (x : ℕ) → out (holder f (type_at ds x))) (keeps : (x : ℕ) → fors x → out x) where
    compared-told : (its : List ℕ) (y : ℕ) → Every out its → out (compared (is_in its y) f y)
    compared-told its y h = by (is_in its y) refl
      where
        by : (b : Bool) → is_in its y ≡ b → out (compared b f y)
        by true e = among its y h e
        by false e = checked

    after-check : (it : Bool) (k : Key) (y : ℕ) (at : Place) (s : Stmt) → Phase fors out inn s → Phase fors out inn (after_check it f k y at s)
    after-check true k y at s h = h
    after-check false k y at s h = (tt, (h, tt))

    checks-told : (it : Bool) (k : Key) (y : ℕ) (at : Place) (ss : List Stmt) → Phase fors out inn (sequence ss) → Phase fors out inn (sequence (checks it f k y at ++ ss))
    checks-told true k y at ss h = h
    checks-told false k y at ss h = (tt, h)

    declared-told : (its : List ℕ) (k : Key) (x : ℕ) (e : Option Expr) → Every out its → MayTell out e → Phase fors out inn (declared_by_loops ds f its k x e)
    declared-told its k x (Some (Property y p at)) v h = after-check (is_in its y) k y at _ (word-reduces (type_at ds p), ((iterator, compared-told its y v), tt))
    declared-told its k x (Some (Degree d y at)) v h = after-check (is_in its y) k y at _ (word-reduces (V.I32), ((iterator, compared-told its y v), tt))
    declared-told its k x e v h = h

    assigned-told : (its : List ℕ) (k : Key) (t : Target) (e : Expr) → Every out its → Tells out e → Phase fors out inn (assigned_by_loops ds f its k t e)
    assigned-told its k (T.Scalar x a) (Property y p at) v h = after-check (is_in its y) k y at _ (word-reduces (type_at ds p), ((iterator, compared-told its y v), tt))
    assigned-told its k (T.Scalar x a) (Degree d y at) v h = after-check (is_in its y) k y at _ (word-reduces (V.I32), ((iterator, compared-told its y v), tt))
    assigned-told its k (T.Scalar x a) e v h = h
    assigned-told its k (T.Property y p at) e v h =
        let x = holder f (type_at ds p) in
        let i = f.iterator in
        checks-told (is_in its y) k y at (set_to x k e ∷ write_there f (compared (is_in its y) f y) p x ∷ [])
        (h, (((wider i i iterator, wider i (compared (is_in its y) f y) (compared-told its y v)), wider i x (holds p)), tt))

    pub accesses-told : (s : Stmt) (its : List ℕ) → Every out its → Phase fors out inn s → Phase fors out inn (by_loops ds f its s)
    accesses-told (Then a b) its v h = (accesses-told a its v h.0, accesses-told b its v h.1)
    accesses-told (Declare k x e) its v h = declared-told its k x e v h
    accesses-told (Assign k t e) its v h = assigned-told its k t e v h
    accesses-told (For k at hd test s) its v h = (h.0, (h.1.0, accesses-told s (hd.iterator ∷ its) (keeps hd.iterator h.0, v) h.1.1))
    accesses-told (If k c a b) its v h = (h.0, (accesses-told a its v h.1.0, accesses-told b its v h.1.1))
    accesses-told (While k at c s) its v h = (h.0, accesses-told s its v h.1)
    accesses-told (Do k at s c) its v h = (accesses-told s its v h.0, h.1)
    accesses-told s its v h = h
