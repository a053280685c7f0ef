-- A pick onto scalars goes as the pick did.
use Rattle.std.proofs.Common.{◌≡◌, ◌≤◌, ◌<◌, ◌+◌, ◌++◌, ℕ, suc, Bool, true, false, cond, List, [], ◌∷◌, length, map, refl, sym, ap, subst, ◌∙◌, arith, Option, Some, None, Result, Ok, Err}
use Rattle.std.specs.Prelude.{ℤ, ◌||◌, nat_eq, nat_lt, nat_le, if◌then◌else◌}
use Rattle.std.specs.List.{list_all}
use Rattle.std.proofs.lemmas.Bool.{both_ways, eq-eqb, eqb-true, ne_eqb, leb-true}
use Rattle.std.proofs.lemmas.Option.{none-some}
use Rattle.gm_base.specs.declared.places.Place.{Place}
use Rattle.gm_value.specs.declared.values.VType.{VType}
use Rattle.gm_value.specs.declared.values.Value.{Value}
use Rattle.gm_value.specs.declared.values.Value.TheVariants as Values
use Rattle.gm_value.specs.declared.faults.FaultKind.{FaultKind}
use Rattle.gm_value.specs.declared.faults.FaultKind.TheVariants.{Overflow}
use Rattle.gm_value.specs.declared.reductions.Reduce.{Reduce}
use Rattle.gm_value.specs.declared.reductions.Reduce.TheVariants as R
use Rattle.gm_value.specs.Numbers.{type_of, number_of, value_at, fits, checked}
use Rattle.gm_value.specs.Reductions.{combined, total, close}
use Rattle.gm_value.specs.Tuples as Tuples
use Rattle.gm_value.specs.Tuples.{values_at, best, first_or, close_slots}
use Rattle.gm_model.specs.Graphs.{NumberedGraph, node_count}
use Rattle.gm_value.specs.Operations.{is_true}
use Rattle.gm_ast.specs.declared.tree.Declaration.{Declaration}
use Rattle.gm_ast.specs.declared.tree.Head.{Head}
use Rattle.gm_ast.specs.declared.tree.Key.{Key}
use Rattle.gm_ast.specs.declared.tree.Sort.{Sort}
use Rattle.gm_ast.specs.declared.tree.Sort.TheVariants as Sorts
use Rattle.gm_ast.specs.declared.tree.Target.{Target}
use Rattle.gm_ast.specs.declared.tree.Target.TheVariants as T
use Rattle.gm_ast.specs.declared.tree.TotalKey.{TotalKey}
use Rattle.gm_ast.specs.declared.tree.Variable.{Variable}
use Rattle.gm_ast.specs.Names.{is, sort_eq}
use Rattle.gm_ast.specs.Ways.{is_in}
use Rattle.gm_ast.specs.Program.{Expr, Const, Var, Property, EdgeProperty, Degree, NodeCount, EdgeCount, Live, Unary, Binary, Both, Either, Choose, Folded, Stmt, Then, Assign, Combine, For, If, While, Do, Program, sequence}
use Rattle.gm_semantics.specs.declared.faults.Fault.{Fault}
use Rattle.gm_semantics.specs.declared.slots.Slot.{Slot}
use Rattle.gm_semantics.specs.declared.slots.Slot.TheVariants.{Scalar, Node}
use Rattle.gm_semantics.specs.Levels.{node_in, nodes}
use Rattle.gm_semantics.specs.Stores.{Store, write, write_all}
use Rattle.gm_semantics.specs.Faults.{first, then_with, unless_fault, fault_of}
use Rattle.gm_semantics.specs.Expressions.{Answer, View, Evaluated, AllEvaluated, evaluated, evaluated_all, and_all, plain, early, node_of, node_held, located, value}
use Rattle.gm_semantics.specs.Frames.{ReadsBelow, AllReadBelow, TargetsBelow, NamesBelow, AlikeStates, AlikeCourses}
use Rattle.gm_semantics.specs.Iterations.{slots_of, target_value, tuple_held, alone, together, at_once}
use Rattle.gm_semantics.specs.Statements.{Run, State, Course, Goes, Returns, Faults, Stops, variable_at, view_of, then_do, either_way, with_value, with_store, writes, writes_all, sequential}
use Rattle.gm_semantics.proofs.ExpressionFrames.{agree-write, node_of-frame, evaluated-frame}
use Rattle.gm_semantics.proofs.StatementFrames.{sequential-alike}
use Rattle.gm_forms.specs.Doing.{IsNode, Held}
use Rattle.gm_forms.specs.Extends.{Extends, run_of, start_of}
use Rattle.gm_forms.specs.Meanings.{SameMeaning}
use Rattle.gm_forms.specs.Typing.{keeps_tuples}
use Rattle.gm_forms.specs.Uses.{Iterates, Written, Owner, NodeValue, owner_role, suits, has_role, use_as, uses_in, uses_in_all, uses_of_head, uses_of_targets, uses_of, is_named}
use Rattle.gm_forms.proofs.Held.{is-node}
use Rattle.gm_forms.proofs.Named.{both-true, all-append, names-below}
use Rattle.gm_forms.proofs.Tables.{same-alike}
use Rattle.gm_typed_stores.proofs.Kept.{nodes-within}
use Rattle.gm_desugar.specs.Compounds.{has_no_compounds}
use Rattle.gm_desugar.specs.Conditions.{nowhere, fresh, asked}
use Rattle.gm_desugar.specs.Reads.{count_read, reads_set, told_from}
use Rattle.gm_desugar.proofs.Alike.{then-then, with-alike, either-alike, value-alike}
use Rattle.gm_desugar.proofs.Appended.{variable-appended, all-suit-appended}
use Rattle.gm_desugar.proofs.ConditionsLaws.{set-alike}
use Rattle.gm_desugar.proofs.ReadsLaws.{told, sequence-both, agree-itself, reads-alike}
use Rattle.gm_reductions.proofs.Iterators.{Leads, turn-leads, sequential-leads}
use Rattle.gm_reductions.proofs.Known.{enter-held}
use Rattle.gm_reductions.proofs.TypedAlike.{Led, then-typed, turn-typed, repeated-typed, in_turns-typed}
use Rattle.gm_picks.specs.Picks.{taken, node_variable, value_variable, property_set, all_set, all_told, count_held, held_set, held, written_back, picked, count_picks, types_picked, onto_scalars, with_plain_picks}

-- ---- variables of an expression whose reads are set from a number on are below the next

below-more : (m n : ℕ) (e : Expr) → m ≤ n → ReadsBelow m e → ReadsBelow n e
below-more m n (Const v) l b = tt
below-more m n (Var x at) l b = omega arith
below-more m n (Property x p at) l b = (let q = b.0 in omega arith, let q = b.1 in omega arith)
below-more m n (EdgeProperty x p at) l b = omega arith
below-more m n (Degree d x at) l b = omega arith
below-more m n NodeCount l b = tt
below-more m n EdgeCount l b = tt
below-more m n (Live x at) l b = omega arith
below-more m n (Unary op at e) l b = below-more m n e l b
below-more m n (Binary op at a c) l b = (below-more m n a l b.0, below-more m n c l b.1)
below-more m n (Both a c) l b = (below-more m n a l b.0, below-more m n c l b.1)
below-more m n (Either a c) l b = (below-more m n a l b.0, below-more m n c l b.1)
below-more m n (Choose a c d) l b = (below-more m n a l b.0, below-more m n c l b.1, below-more m n d l b.2)
below-more m n (Folded f h test e) l b = (let q = b.0 in omega arith, below-more m n test l b.1, below-more m n e l b.2)

two-below : (k n : ℕ) (a c : Expr) → ReadsBelow (n + count_read a) (told_from n a) → ReadsBelow ((n + count_read a) + count_read c) (told_from (n + count_read a) c) → ReadsBelow (n + (count_read a + count_read c)) (told_from n a) × ReadsBelow (n + (count_read a + count_read c)) (told_from (n + count_read a) c)
two-below k n a c p q = (
  below-more (n + count_read a) (n + (count_read a + count_read c)) (told_from n a) (omega arith) p,
  below-more ((n + count_read a) + count_read c) (n + (count_read a + count_read c)) (told_from (n + count_read a) c) (omega arith) q,
)

told-below : (k n : ℕ) (e : Expr) → k ≤ n → ReadsBelow k e → ReadsBelow (n + count_read e) (told_from n e)
told-below k n (Const v) l b = tt
told-below k n (Var x at) l b = omega arith
told-below k n (Property x p at) l b = omega arith
told-below k n (EdgeProperty x p at) l b = omega arith
told-below k n (Degree d x at) l b = omega arith
told-below k n NodeCount l b = tt
told-below k n EdgeCount l b = tt
told-below k n (Live x at) l b = omega arith
told-below k n (Unary op at e) l b = told-below k n e l b
told-below k n (Binary op at a c) l b = two-below k n a c (told-below k n a l b.0) (told-below k (n + count_read a) c (omega arith) b.1)
told-below k n (Both a c) l b = two-below k n a c (told-below k n a l b.0) (told-below k (n + count_read a) c (omega arith) b.1)
told-below k n (Either a c) l b = two-below k n a c (told-below k n a l b.0) (told-below k (n + count_read a) c (omega arith) b.1)
told-below k n (Choose c a d) l b =
    let m = n + (count_read c + (count_read a + count_read d)) in
    let n1 = n + count_read c in
    let n2 = (n + count_read c) + count_read a in (
      below-more n1 m (told_from n c) (omega arith) (told-below k n c l b.0),
      below-more n2 m (told_from n1 a) (omega arith) (told-below k n1 a (omega arith) b.1),
      below-more (n2 + count_read d) m (told_from n2 d) (omega arith) (told-below k n2 d (omega arith) b.2),
    )
told-below k n (Folded f h test e) l b = omega arith

agree-less : (m n : ℕ) (s t : State) → m ≤ n → AlikeStates n s t → AlikeStates m s t
agree-less m n s t l h = record {
  store = record { scalar = λ x b. h.store.scalar x (omega arith); node = λ p i b. h.store.node p i (omega arith); edge = λ p e b. h.store.edge p e (omega arith) };
  turns = h.turns;
}

agree-on : (n : ℕ) (s t u : State) → AlikeStates n s t → AlikeStates n t u → AlikeStates n s u
agree-on n s t u h i = record {
  store = record { scalar = λ x b. i.store.scalar x b ∙ h.store.scalar x b; node = λ p m b. i.store.node p m b ∙ h.store.node p m b; edge = λ p e b. i.store.edge p e b ∙ h.store.edge p e b };
  turns = i.turns ∙ h.turns;
}

-- ---- a pick of one value is one of a tuple of one

one-held : (c : Bool) (w : View) (at : Place) (s : Slot) (t : VType) (z : ℤ)
    → alone (then_with (located w at (if c then Ok (value_at t z) else Err Overflow)) (λ x. Ok (s, x))) ≡ then_with (tuple_held w at (Tuples.with_value (if c then Ok (value_at t z) else Err Overflow) (Some []))) (λ xs. Ok (s ∷ [], xs))
one-held true w at s t z = refl
one-held false w at s t z = refl

-- one value behind others
abbrev cons : Answer → Result (List Value) Fault → Result (List Value) Fault
cons x xs = then_with x (λ v. then_with xs (λ vs. Ok (v ∷ vs)))

one-as-tuple : (w : View) (at : Place) (r : Reduce) (h g : Option Fault) (q : Result Slot Fault) (x y : Answer)
    → alone (unless_fault (first h g) (then_with q (λ s. then_with (then_with x (λ v. then_with y (λ u. located w at (close r v (u ∷ []))))) (λ z. Ok (s, z)))))
    ≡ unless_fault (first (first h None) (first g None)) (then_with (then_with q (λ s. then_with (Ok []) (λ ss. Ok (s ∷ ss)))) (λ ss. then_with (then_with (cons x (Ok [])) (λ vs. then_with (cons y (Ok [])) (λ us. tuple_held w at (close_slots r vs (us ∷ []))))) (λ xs. Ok (ss, xs))))
one-as-tuple w at r (Some f) g q x y = refl
one-as-tuple w at r None (Some f) q x y = refl
one-as-tuple w at r None None (Err f) x y = refl
one-as-tuple w at r None None (Ok s) (Err f) y = refl
one-as-tuple w at r None None (Ok s) (Ok v) (Err f) = refl
one-as-tuple w at r None None (Ok s) (Ok v) (Ok u) = let z = combined r (number_of v) (total r (type_of v) (u ∷ [])) in one-held (fits (type_of v) z) w at s (type_of v) z

at-once-together : (w : View) (at : Place) (r : Reduce) (ts : List Target) (es : List Expr) → keeps_tuples r ≡ true → at_once w at r ts es ≡ together w at r ts es
at-once-together w at r [] es h = refl
at-once-together w at r (t ∷ []) [] h = refl
at-once-together w at R.Min (t ∷ []) (e ∷ []) h = one-as-tuple w at R.Min (evaluated (target_value t) w).hoisted (evaluated e w).hoisted _ (evaluated (target_value t) w).rest (evaluated e w).rest
at-once-together w at R.Max (t ∷ []) (e ∷ []) h = one-as-tuple w at R.Max (evaluated (target_value t) w).hoisted (evaluated e w).hoisted _ (evaluated (target_value t) w).rest (evaluated e w).rest
at-once-together w at R.Sum (t ∷ []) (e ∷ []) h = absurd (both_ways false refl h)
at-once-together w at R.Product (t ∷ []) (e ∷ []) h = absurd (both_ways false refl h)
at-once-together w at R.And (t ∷ []) (e ∷ []) h = absurd (both_ways false refl h)
at-once-together w at R.Or (t ∷ []) (e ∷ []) h = absurd (both_ways false refl h)
at-once-together w at r (t ∷ []) (e ∷ (d ∷ es)) h = refl
at-once-together w at r (t ∷ (u ∷ ts)) es h = refl

-- ---- as many values as targets

abbrev ok_or : {A : Type 0} → A → Result A Fault → A
ok_or a (Ok b) = b
ok_or a (Err f) = a

abbrev is_ok : {A : Type 0} → Result A Fault → Bool
is_ok (Ok a) = true
is_ok (Err f) = false

abbrev some_or : {A : Type 0} → A → Option A → A
some_or a (Some b) = b
some_or a None = a

cons-length : (x : Answer) (q : Result (List Value) Fault) (n : ℕ) (xs : List Value) → cons x q ≡ Ok xs → ((ys : List Value) → q ≡ Ok ys → length ys ≡ n) → length xs ≡ suc n
cons-length (Ok v) (Ok ys) n xs h f = sym (ap length (ap (ok_or []) h)) ∙ ap suc (f ys refl)
cons-length (Ok v) (Err e) n xs h f = absurd (both_ways false refl (ap is_ok h))
cons-length (Err e) q n xs h f = absurd (both_ways false refl (ap is_ok h))

targets-length : (ts : List Target) (w : View) (xs : List Value) → (evaluated_all (map target_value ts) w).rest ≡ Ok xs → length xs ≡ length ts
targets-length [] w xs h = sym (ap length (ap (ok_or []) h))
targets-length (t ∷ ts) w xs h = cons-length (evaluated (target_value t) w).rest (evaluated_all (map target_value ts) w).rest (length ts) xs h (λ ys e. targets-length ts w ys e)

with-length : (x : Result Value FaultKind) (o : Option (List Value)) (n : ℕ) (vs : List Value) → Tuples.with_value x o ≡ Some vs → ((us : List Value) → o ≡ Some us → length us ≡ n) → length vs ≡ suc n
with-length (Ok v) (Some us) n vs h f = sym (ap length (ap (some_or []) h)) ∙ ap suc (f us refl)
with-length (Ok v) None n vs h f = absurd (none-some vs h)
with-length (Err e) o n vs h f = absurd (none-some vs h)

values-length : (xs : List Value) (tuple : List ℤ) (vs : List Value) → values_at xs tuple ≡ Some vs → length vs ≡ length xs
values-length [] tuple vs h = sym (ap length (ap (some_or []) h))
values-length (v ∷ xs) [] vs h = sym (ap length (ap (some_or []) h))
values-length (v ∷ xs) (n ∷ tuple) vs h = with-length (checked (type_of v) n) (values_at xs tuple) (length xs) vs h (λ us e. values-length xs tuple us e)

close-length : (r : Reduce) (xs : List Value) (bag : List (List Value)) (vs : List Value) → close_slots r xs bag ≡ Some vs → length vs ≡ length xs
close-length r [] bag vs h = sym (ap length (ap (some_or []) h))
close-length r (v ∷ []) bag vs h = with-length (close r v (map (first_or v) bag)) (Some []) 0 vs h (λ us e. sym (ap length (ap (some_or []) e)))
close-length r (v ∷ (u ∷ xs)) bag vs h = values-length (v ∷ (u ∷ xs)) (best r (map number_of (v ∷ (u ∷ xs))) (map (map number_of) bag)) vs h

-- ---- a node that is held again is the same

held-some : (w : View) (at : Place) (o : Option ℕ) (m : ℕ) → node_held w at o ≡ Ok m → o ≡ Some m
held-some w at (Some j) m h = ap (λ r. Some (ok_or 0 r)) h
held-some w at None m h = absurd (both_ways false refl (ap is_ok h))

node-again : (g : NumberedGraph) (v : Value) (m : ℕ) → node_in g v ≡ Some m → node_in g (Values.At (Some m)) ≡ Some m
node-again g (Values.I32 z) m h = absurd (none-some m h)
node-again g (Values.I64 z) m h = absurd (none-some m h)
node-again g (Values.Flag b) m h = absurd (none-some m h)
node-again g (Values.At None) m h = absurd (none-some m h)
node-again g (Values.At (Some j)) m h = by (nat_lt j (node_count g)) refl h
  where
    by : (b : Bool) → nat_lt j (node_count g) ≡ b → (if b then Some j else None) ≡ Some m → node_in g (Values.At (Some m)) ≡ Some m
    by true lt e = subst (λ i. (if nat_lt i (node_count g) then Some i else None) ≡ Some i) (ap (some_or 0) e) (ap (λ b. if b then Some j else None) lt)
    by false lt e = absurd (none-some m e)

-- ---- courses

abbrev all_told_of : Result (List Value) Fault → AllEvaluated
all_told_of r = record { hoisted = None; rest = r }

-- what follows expressions faults as they do where they are hoisted
abbrev StrictAll : (AllEvaluated → Course) → Type 0
StrictAll f = (e : Fault) (r : Result (List Value) Fault) → f (record { hoisted = Some e; rest = r }) ≡ Faults e

-- the slots of the scalars that take a pick
abbrev held_slots : List ℕ → ℕ → List Target → List Slot
held_slots its n [] = []
held_slots its n (T.Scalar x at ∷ ts) = Scalar x ∷ held_slots its n ts
held_slots its n (T.Property y p at ∷ ts) = Scalar (value_variable (is_in its y) n) ∷ held_slots its (n + taken (is_in its y)) ts

-- the variable of a value is among those that are taken
value-above : (i : Bool) (n : ℕ) → n ≤ value_variable i n
value-above true n = omega arith
value-above false n = omega arith

value-below : (i : Bool) (n : ℕ) → value_variable i n < n + taken i
value-below true n = omega arith
value-below false n = omega arith

taken-some : (i : Bool) → 1 ≤ taken i
taken-some true = omega arith
taken-some false = omega arith

-- no target is one of some variables
abbrev Unwritten : List ℕ → List Target → Type 0
Unwritten its [] = Unit {0}
Unwritten its (T.Scalar x at ∷ ts) = (is_in its x ≡ false) × Unwritten its ts
Unwritten its (T.Property y p at ∷ ts) = Unwritten its ts

apart-from : (its : List ℕ) (x y : ℕ) → is_in its x ≡ false → is_in its y ≡ true → nat_eq x y ≡ false
apart-from its x y off i = ne_eqb x y (λ e. both_ways (is_in its x) off (ap (is_in its) e ∙ i))

module _ (k : ℕ) (its : List ℕ) (run : Run) (key : Key) where
  abbrev sees : State → View
  sees u = view_of run u key

  -- ---- several expressions

  all-frame : (m : ℕ) (es : List Expr) (u w : State) → AllReadBelow m es → AlikeStates m u w → evaluated_all es (sees w) ≡ evaluated_all es (sees u)
  all-frame m [] u w b h = refl
  all-frame m (e ∷ es) u w b h =
      ap (λ ev. and_all ev (evaluated_all es (sees w))) (evaluated-frame m e (sees u) w.store b.0 h.store) ∙ ap (and_all (evaluated e (sees u))) (all-frame m es u w b.1 h)

  abbrev AllTold : ℕ → List Expr → State → Type 0
  AllTold n es u = evaluated_all (all_told n es) (sees u) ≡ all_told_of (evaluated_all es (sees u)).rest

  keep-told : (n m : ℕ) (e : Expr) (u w : State) → AlikeStates m u w → ReadsBelow m (told_from n e) → ReadsBelow m e → evaluated (told_from n e) (sees u) ≡ told (evaluated e (sees u)).rest → evaluated (told_from n e) (sees w) ≡ told (evaluated e (sees w)).rest
  keep-told n m e u w h b c p =
      evaluated-frame m (told_from n e) (sees u) w.store b h.store ∙ p ∙ sym (ap (λ (ev : Evaluated). told ev.rest) (evaluated-frame m e (sees u) w.store c h.store))

  all-alike : (es : List Expr) (n : ℕ) (a b : State) → AlikeStates k a b → k ≤ n → AllReadBelow k es → (f : AllEvaluated → Course) → StrictAll f → (g : State → Course)
      → ((u : State) → AlikeStates k a u → AlikeStates n b u → AllTold n es u → AlikeCourses k (f (all_told_of (evaluated_all es (sees a)).rest)) (g u))
      → AlikeCourses k (f (evaluated_all es (sees a))) (then_do (sequential (sequence (all_set n key es)) run b) g)
  all-alike [] n a b h l s f strict g each = each b h (agree-itself n b) refl
  all-alike (e ∷ es) n a b h l s f strict g each =
      let m = n + count_read e in
      let more : k ≤ m = omega (arith, l) in
      let on : n ≤ m = omega arith in
      let x = evaluated e (sees a) in
      let y = evaluated_all es (sees a) in
      subst (λ c. AlikeCourses k (f (and_all x y)) (then_do c g)) (sym (sequence-both (reads_set n key e) (all_set m key es) run b))
      (subst (AlikeCourses k (f (and_all x y))) (sym (then-then (sequential (sequence (reads_set n key e)) run b) (sequential (sequence (all_set m key es)) run) g))
      (reads-alike k run key e n a b h l s.0 (λ ev. f (and_all ev y)) (λ i r. strict i (cons r y.rest)) (λ u. then_do (sequential (sequence (all_set m key es)) run u) g)
      (λ u i j t. all-alike es m a u i more s.1 (λ ys. f (and_all (told x.rest) ys)) (λ i r. strict i (cons x.rest r)) g
      (λ w v o z. each w v (agree-on n b u w j (agree-less n m u w on o))
      (ap (λ ev. and_all ev (evaluated_all (all_told m es) (sees w))) (keep-told n m e u w o (told-below k n e l s.0) (below-more k m e more s.0) t) ∙ ap (and_all (told (evaluated e (sees w)).rest)) z)))))

  -- ---- the slots of targets, whose nodes stand in scalars

  -- a property's slot, and the variable with its node
  abbrev AtNode : Bool → ℕ → (ℕ → Value) → ℕ → ℕ → Slot → Type 0
  AtNode i n sc y p s = (m : ℕ) × ((s ≡ Node p m) × (node_in run.graph (sc (node_variable i n y)) ≡ Some m))

  abbrev Stand : ℕ → (ℕ → Value) → List Target → List Slot → Type 0
  Stand n sc [] [] = Unit {0}
  Stand n sc [] (s ∷ ss) = ⊥
  Stand n sc (T.Scalar x at ∷ ts) [] = ⊥
  Stand n sc (T.Scalar x at ∷ ts) (s ∷ ss) = (s ≡ Scalar x) × Stand n sc ts ss
  Stand n sc (T.Property y p at ∷ ts) [] = ⊥
  Stand n sc (T.Property y p at ∷ ts) (s ∷ ss) = AtNode (is_in its y) n sc y p s × Stand (n + taken (is_in its y)) sc ts ss

  stand-moved : (ts : List Target) (ss : List Slot) (n : ℕ) (sc sd : ℕ → Value) → TargetsBelow k ts → ((z : ℕ) → n ≤ z → z < n + count_held its ts → sd z ≡ sc z) → ((y : ℕ) → is_in its y ≡ true → y < k → sd y ≡ sc y) → Stand n sc ts ss → Stand n sd ts ss
  stand-moved [] [] n sc sd b e f h = tt
  stand-moved [] (s ∷ ss) n sc sd b e f h = absurd h
  stand-moved (T.Scalar x at ∷ ts) [] n sc sd b e f h = absurd h
  stand-moved (T.Scalar x at ∷ ts) (s ∷ ss) n sc sd b e f h = (h.0, stand-moved ts ss n sc sd b.1 e f h.1)
  stand-moved (T.Property y p at ∷ ts) [] n sc sd b e f h = absurd h
  stand-moved (T.Property y p at ∷ ts) (s ∷ ss) n sc sd b e f h = (
    (h.0.0, (h.0.1.0, ap (node_in run.graph) (moved (is_in its y) refl) ∙ h.0.1.1)),
    stand-moved ts ss (n + taken (is_in its y)) sc sd b.1 (λ z low high. e z (omega (arith, low)) (omega (arith, high))) f h.1,
  )
    where
      moved : (i : Bool) → is_in its y ≡ i → sd (node_variable i n y) ≡ sc (node_variable i n y)
      moved true q = f y q b.0.0
      moved false q = e n (omega arith) (omega (arith, taken-some (is_in its y)))

  -- targets together
  abbrev values_of : List Target → State → AllEvaluated
  values_of ts u = evaluated_all (map target_value ts) (sees u)

  -- what setting a scalar to an answer that is hoisted does
  set-early : (n : ℕ) (u : State) (q : Answer) → writes u (unless_fault (fault_of q) (then_with q (λ x. Ok (Scalar n, x)))) ≡ with_value q (λ v. with_store u (write u.store (Scalar n) v))
  set-early n u (Ok v) = refl
  set-early n u (Err e) = refl

  abbrev HeldAlike : List Target → ℕ → Type 0
  HeldAlike ts n = (a b : State) → AlikeStates k a b → k ≤ n → TargetsBelow k ts → Held run.graph its a.store → (f : AllEvaluated → Course) → StrictAll f → (g : State → Course)
      → ((u : State) → AlikeStates k a u → AlikeStates n b u → ((ss : List Slot) × ((slots_of (sees a) ts ≡ Ok ss) × Stand n u.store.scalar ts ss)) → values_of (held its n ts) u ≡ all_told_of (values_of ts a).rest
      → AlikeCourses k (f (all_told_of (values_of ts a).rest)) (g u))
      → AlikeCourses k (f (values_of ts a)) (then_do (sequential (sequence (held_set its n key ts)) run b) g)

  -- the same of a property before others
  abbrev PropertyAlike : Bool → ℕ → ℕ → Place → List Target → ℕ → Type 0
  PropertyAlike i y p at ts n = (a b : State) → AlikeStates k a b → k ≤ n → y < k → p < k → TargetsBelow k ts → (i ≡ true → IsNode run.graph (a.store.scalar y)) → Held run.graph its a.store → (f : AllEvaluated → Course) → StrictAll f → (g : State → Course)
      → ((u : State) → AlikeStates k a u → AlikeStates n b u → (s : Slot) (ss : List Slot) → slots_of (sees a) (T.Property y p at ∷ ts) ≡ Ok (s ∷ ss) → AtNode i n u.store.scalar y p s → Stand (n + taken i) u.store.scalar ts ss
      → values_of (T.Scalar (value_variable i n) nowhere ∷ held its (n + taken i) ts) u ≡ all_told_of (values_of (T.Property y p at ∷ ts) a).rest
      → AlikeCourses k (f (all_told_of (values_of (T.Property y p at ∷ ts) a).rest)) (g u))
      → AlikeCourses k (f (values_of (T.Property y p at ∷ ts) a)) (then_do (sequential (sequence (property_set i n key y p at ++ held_set its (n + taken i) key ts)) run b) g)

  -- all values by the node of the first
  abbrev whole : State → ℕ → List Target → Result ℕ Fault → AllEvaluated
  whole a p ts o = and_all (early (then_with o (λ m. Ok (a.store.node p m)))) (values_of ts a)

  -- the check and the read, set to a variable
  abbrev check : ℕ → State → Result ℕ Fault → Course
  check z u o = let q = then_with o (λ m. Ok (Values.At (Some m))) in writes u (unless_fault (fault_of q) (then_with q (λ x. Ok (Scalar z, x))))

  abbrev reading : ℕ → ℕ → State → Result ℕ Fault → Course
  reading p z u o = let q = then_with o (λ m. Ok (u.store.node p m)) in writes u (unless_fault (fault_of q) (then_with q (λ x. Ok (Scalar z, x))))

  -- what is left to set
  abbrev left : ℕ → List Target → State → Course
  left n ts u = sequential (sequence (held_set its n key ts)) run u

  slots-both : (a : State) (y p m : ℕ) (at : Place) (ts : List Target) (ss : List Slot) → node_of (sees a) y at ≡ Ok m → slots_of (sees a) ts ≡ Ok ss → slots_of (sees a) (T.Property y p at ∷ ts) ≡ Ok (Node p m ∷ ss)
  slots-both a y p m at ts ss q e =
      ap (λ c. then_with (then_with c (λ j. Ok (Node p j))) (λ z. then_with (slots_of (sees a) ts) (λ ss. Ok (z ∷ ss)))) q ∙ ap (λ c. then_with c (λ ss. Ok (Node p m ∷ ss))) e

  values-both : (a u : State) (y p m z : ℕ) (at : Place) (ts us : List Target) → node_of (sees a) y at ≡ Ok m → u.store.scalar z ≡ a.store.node p m → values_of us u ≡ all_told_of (values_of ts a).rest
      → values_of (T.Scalar z nowhere ∷ us) u ≡ all_told_of (values_of (T.Property y p at ∷ ts) a).rest
  values-both a u y p m z at ts us q e values = ap (λ c. and_all (plain (Ok c)) (values_of us u)) e ∙ ap (and_all (plain (Ok (a.store.node p m)))) values ∙ sym (ap (λ c. all_told_of (whole a p ts c).rest) q)

  -- a property through an iterator is read alone, since that holds a node; any other node variable is checked first
  held-property : (i : Bool) (y p : ℕ) (at : Place) (ts : List Target) (n : ℕ) → HeldAlike ts (n + taken i) → PropertyAlike i y p at ts n
  held-property true y p at ts n others a b h l low lowp below holds held' f strict g each =
      let node = holds refl in
      let m = node.0 in
      let found = is-node run.graph (a.store.scalar y) node in
      let q : node_of (sees a) y at ≡ Ok m = ap (node_held (sees a) at) found in
      let v = a.store.node p m in
      let u2 : State = record b { store = write b.store (Scalar n) (b.store.node p m) } in
      let further : k ≤ n + 1 = omega (arith, l) in
      let least : n ≤ n = omega arith in
      let upto : n ≤ n + 1 = omega arith in
      let below0 : n < n + 1 = omega arith in
      let h2 : AlikeStates k a u2 = set-alike k n l run a b (b.store.node p m) h in
      let b2 : AlikeStates n b u2 = set-alike n n least run b b (b.store.node p m) (agree-itself n b) in
      subst (λ c. AlikeCourses k (f (whole a p ts c)) (then_do (then_do (reading p n b (node_of (sees b) y at)) (left (n + 1) ts)) g)) (sym q)
      (subst (λ c. AlikeCourses k (f (whole a p ts (Ok m))) (then_do (then_do (reading p n b c) (left (n + 1) ts)) g)) (sym (node_of-frame k (sees a) b.store y at low h.store ∙ q))
      (others a u2 h2 further below held' (λ ys. f (and_all (told (Ok v)) ys)) (λ i r. strict i (cons (Ok v) r)) g
      (λ u i j slots values.
      let at1 : u.store.scalar n ≡ v = j.store.scalar n below0 ∙ ap (λ c. cond c (b.store.node p m) (b.store.scalar n)) (eq-eqb n n refl) ∙ h.store.node p m lowp in
      subst (λ c. AlikeCourses k (f (all_told_of (whole a p ts c).rest)) (g u)) q
      (each u i (agree-on n b u2 u b2 (agree-less n (n + 1) u2 u upto j)) (Node p m) slots.0 (slots-both a y p m at ts slots.0 q slots.1.0)
      (m, (refl, ap (node_in run.graph) (i.store.scalar y low) ∙ found)) slots.1.1 (values-both a u y p m n at ts (held its (n + 1) ts) q at1 values)))))
  held-property false y p at ts n others a b h l low lowp below holds held' f strict g each = by (node_of (sees a) y at) refl
    where
      after : State → Course
      after u = then_do (reading p (n + 1) u (node_of (sees u) y at)) (left (n + 2) ts)

      by : (o : Result ℕ Fault) → node_of (sees a) y at ≡ o → AlikeCourses k (f (values_of (T.Property y p at ∷ ts) a)) (then_do (then_do (check n b (node_of (sees b) y at)) after) g)
      by o q = subst (λ c. AlikeCourses k (f (whole a p ts c)) (then_do (then_do (check n b (node_of (sees b) y at)) after) g)) (sym q)
          (subst (λ c. AlikeCourses k (f (whole a p ts o)) (then_do (then_do (check n b c) after) g)) (sym (node_of-frame k (sees a) b.store y at low h.store ∙ q)) (go o q))
        where
          go : (o : Result ℕ Fault) → node_of (sees a) y at ≡ o → AlikeCourses k (f (whole a p ts o)) (then_do (then_do (check n b o) after) g)
          go (Err e) q = subst (λ c. AlikeCourses k c (Faults e)) (sym (strict e (cons (Err e) (values_of ts a).rest))) refl
          go (Ok m) q =
              let v = a.store.node p m in
              let u1 : State = record b { store = write b.store (Scalar n) (Values.At (Some m)) } in
              let u2 : State = record u1 { store = write u1.store (Scalar (n + 1)) (u1.store.node p m) } in
              let next : k ≤ n + 1 = omega (arith, l) in
              let further : k ≤ n + 2 = omega (arith, l) in
              let h1 : AlikeStates k a u1 = set-alike k n l run a b (Values.At (Some m)) h in
              let h2 : AlikeStates k a u2 = set-alike k (n + 1) next run a u1 (u1.store.node p m) h1 in
              let least : n ≤ n = omega arith in
              let over : n ≤ n + 1 = omega arith in
              let upto : n ≤ n + 2 = omega arith in
              let b1 : AlikeStates n b u1 = set-alike n n least run b b (Values.At (Some m)) (agree-itself n b) in
              let b2 : AlikeStates n b u2 = set-alike n (n + 1) over run b u1 (u1.store.node p m) b1 in
              subst (λ c. AlikeCourses k (f (whole a p ts (Ok m))) (then_do (then_do (reading p (n + 1) u1 c) (left (n + 2) ts)) g)) (sym (node_of-frame k (sees a) u1.store y at low h1.store ∙ q))
              (others a u2 h2 further below held' (λ ys. f (and_all (told (Ok v)) ys)) (λ i r. strict i (cons (Ok v) r)) g
              (λ u i j slots values.
              let below0 : n < n + 2 = omega arith in
              let below1 : n + 1 < n + 2 = omega arith in
              let at0 : u.store.scalar n ≡ Values.At (Some m) = j.store.scalar n below0 ∙ ap (λ c. cond c (u1.store.node p m) (u1.store.scalar n)) (ne_eqb (n + 1) n (λ e. omega (arith, e))) ∙ ap (λ c. cond c (Values.At (Some m)) (b.store.scalar n)) (eq-eqb n n refl) in
              let at1 : u.store.scalar (n + 1) ≡ v = j.store.scalar (n + 1) below1 ∙ ap (λ c. cond c (b.store.node p m) (u1.store.scalar (n + 1))) (eq-eqb (n + 1) (n + 1) refl) ∙ h.store.node p m lowp in
              let node : node_in run.graph (u.store.scalar n) ≡ Some m = ap (node_in run.graph) at0 ∙ node-again run.graph (a.store.scalar y) m (held-some (sees a) at (node_in run.graph (a.store.scalar y)) m q) in
              subst (λ c. AlikeCourses k (f (all_told_of (whole a p ts c).rest)) (g u)) q
              (each u i (agree-on n b u2 u b2 (agree-less n (n + 2) u2 u upto j)) (Node p m) slots.0 (slots-both a y p m at ts slots.0 q slots.1.0)
              (m, (refl, node)) slots.1.1 (values-both a u y p m (n + 1) at ts (held its (n + 2) ts) q at1 values))))

  held-alike : (ts : List Target) (n : ℕ) → HeldAlike ts n
  held-alike [] n a b h l s holds f strict g each = each b h (agree-itself n b) ([], (refl, tt)) refl
  held-alike (T.Scalar x at ∷ ts) n a b h l s holds f strict g each =
      let v = a.store.scalar x in
      held-alike ts n a b h l s.1 holds (λ ys. f (and_all (plain (Ok v)) ys)) (λ i r. strict i (cons (Ok v) r)) g
      (λ u i j slots values. each u i j
      (Scalar x ∷ slots.0, (ap (λ q. then_with q (λ ss. Ok (Scalar x ∷ ss))) slots.1.0, (refl, slots.1.1)))
      (ap (λ c. and_all (plain (Ok c)) (values_of (held its n ts) u)) (i.store.scalar x s.0) ∙ ap (and_all (plain (Ok v))) values))
  held-alike (T.Property y p at ∷ ts) n a b h l s holds f strict g each =
      held-property (is_in its y) y p at ts n (held-alike ts (n + taken (is_in its y))) a b h l s.0.0 s.0.1 s.1 (holds y) holds f strict g
      (λ u i j z ss slots node stand values. each u i j (z ∷ ss, (slots, (node, stand))) values)

  -- ---- what the scalars hold is written back

  -- writes to the scalars that take a pick leave the ones before them as they are
  spared : (ts : List Target) (j : ℕ) (vs : List Value) (s : Store) (z : ℕ) → TargetsBelow k ts → k ≤ z → z < j → (write_all s (held_slots its j ts) vs).scalar z ≡ s.scalar z
  spared [] j vs s z b l h = refl
  spared (T.Scalar x at ∷ ts) j [] s z b l h = refl
  spared (T.Scalar x at ∷ ts) j (v ∷ vs) s z b l h =
      let low : x < k = b.0 in
      spared ts j vs (write s (Scalar x) v) z b.1 l h ∙ ap (λ c. cond c v (s.scalar z)) (ne_eqb x z (λ e. omega (arith, e, low, l)))
  spared (T.Property y p at ∷ ts) j [] s z b l h = refl
  spared (T.Property y p at ∷ ts) j (v ∷ vs) s z b l h =
      let i = is_in its y in
      spared ts (j + taken i) vs (write s (Scalar (value_variable i j)) v) z b.1 l (omega (arith, h)) ∙ ap (λ c. cond c v (s.scalar z)) (ne_eqb (value_variable i j) z (λ e. omega (arith, e, h, value-above i j)))

  -- and iterators
  iterator-spared : (ts : List Target) (j : ℕ) (vs : List Value) (s : Store) (y : ℕ) → is_in its y ≡ true → y < k → Unwritten its ts → k ≤ j → (write_all s (held_slots its j ts) vs).scalar y ≡ s.scalar y
  iterator-spared [] j vs s y i low off l = refl
  iterator-spared (T.Scalar x at ∷ ts) j [] s y i low off l = refl
  iterator-spared (T.Scalar x at ∷ ts) j (v ∷ vs) s y i low off l = iterator-spared ts j vs (write s (Scalar x) v) y i low off.1 l ∙ ap (λ c. cond c v (s.scalar y)) (apart-from its x y off.0 i)
  iterator-spared (T.Property z p at ∷ ts) j [] s y i low off l = refl
  iterator-spared (T.Property z p at ∷ ts) j (v ∷ vs) s y i low off l =
      let o = is_in its z in
      iterator-spared ts (j + taken o) vs (write s (Scalar (value_variable o j)) v) y i low off (omega (arith, l)) ∙ ap (λ c. cond c v (s.scalar y)) (ne_eqb (value_variable o j) y (λ e. omega (arith, e, low, l, value-above o j)))

  -- and come before or after a write to a property alike
  commute : (ts : List Target) (j : ℕ) (vs : List Value) (s : Store) (p m : ℕ) (v : Value) → write (write_all s (held_slots its j ts) vs) (Node p m) v ≡ write_all (write s (Node p m) v) (held_slots its j ts) vs
  commute [] j vs s p m v = refl
  commute (T.Scalar x at ∷ ts) j [] s p m v = refl
  commute (T.Scalar x at ∷ ts) j (u ∷ vs) s p m v = commute ts j vs (write s (Scalar x) u) p m v
  commute (T.Property y q at ∷ ts) j [] s p m v = refl
  commute (T.Property y q at ∷ ts) j (u ∷ vs) s p m v = commute ts (j + taken (is_in its y)) vs (write s (Scalar (value_variable (is_in its y) j)) u) p m v

  written-there : (c z p m : ℕ) (at : Place) (v : Value) (u : State) → node_in run.graph (u.store.scalar c) ≡ Some m → u.store.scalar z ≡ v → sequential (Assign key (T.Property c p at) (asked z)) run u ≡ with_store u (write u.store (Node p m) v)
  written-there c z p m at v u e d = ap (λ o. course o (u.store.scalar z)) e ∙ ap (course (Some m)) d
    where
      course : Option ℕ → Value → Course
      course o y = writes u (unless_fault None (then_with (then_with (node_held (sees u) at o) (λ q. Ok (Node p q))) (λ s. then_with (Ok y) (λ x. Ok (s, x)))))

  back-alike : (ts : List Target) (ss : List Slot) (n : ℕ) (vs : List Value) (a b : State) → AlikeStates k a b → k ≤ n → TargetsBelow k ts → Unwritten its ts → Stand n b.store.scalar ts ss → length vs ≡ length ts
      → AlikeCourses k (Goes (record a { store = write_all a.store ss vs })) (sequential (sequence (written_back its n key ts)) run (record b { store = write_all b.store (held_slots its n ts) vs }))
  back-alike [] [] n vs a b h l t off st e = h
  back-alike [] (s ∷ ss) n vs a b h l t off st e = absurd st
  back-alike (T.Scalar x at ∷ ts) [] n vs a b h l t off st e = absurd st
  back-alike (T.Scalar x at ∷ ts) (s ∷ ss) n [] a b h l t off st e = absurd (omega (arith, e))
  back-alike (T.Scalar x at ∷ ts) (s ∷ ss) n (v ∷ vs) a b h l t off st e =
      let a1 : State = record a { store = write a.store (Scalar x) v } in
      let b1 : State = record b { store = write b.store (Scalar x) v } in
      let low : x < k = t.0 in
      let next : State → Course = sequential (sequence (written_back its n key ts)) run in
      subst (λ z. AlikeCourses k (Goes (record a { store = write_all (write a.store z v) ss vs })) (next (record b1 { store = write_all b1.store (held_slots its n ts) vs }))) (sym st.0)
      (back-alike ts ss n vs a1 b1 (record { store = agree-write k a.store b.store (Scalar x) v h.store; turns = h.turns }) l t.1 off.1
      (stand-moved ts ss n b.store.scalar b1.store.scalar t.1 (λ z from _. ap (λ c. cond c v (b.store.scalar z)) (ne_eqb x z (λ i. omega (arith, i, low, l, from))))
      (λ y i _. ap (λ c. cond c v (b.store.scalar y)) (apart-from its x y off.0 i)) st.1) (omega (arith, e)))
  back-alike (T.Property y p at ∷ ts) [] n vs a b h l t off st e = absurd st
  back-alike (T.Property y p at ∷ ts) (s ∷ ss) n [] a b h l t off st e = absurd (omega (arith, e))
  back-alike (T.Property y p at ∷ ts) (s ∷ ss) n (v ∷ vs) a b h l t off st e =
      let at0 : node_in run.graph (u1.store.scalar c) ≡ Some m = ap (node_in run.graph) (node-left i refl) ∙ st.0.1.1 in
      let at1 : u1.store.scalar z ≡ v = spared ts n' vs c0 z t.1 over (value-below i n) ∙ ap (λ c. cond c v (b.store.scalar z)) (eq-eqb z z refl) in
      let held' : AlikeStates k a (record b { store = c0 }) = set-alike k z over run a b v h in
      subst (λ z. AlikeCourses k (Goes (record a { store = write_all (write a.store z v) ss vs })) (then_do (sequential (Assign key (T.Property c p at) (asked (value_variable i n))) run u1) next)) (sym st.0.1.0)
      (subst (λ c. AlikeCourses k (Goes (record a1 { store = write_all a1.store ss vs })) (then_do c next)) (sym (written-there c z p m at v u1 at0 at1))
      (subst (λ c. AlikeCourses k (Goes (record a1 { store = write_all a1.store ss vs })) (next (record b { store = c }))) (sym (commute ts n' vs c0 p m v))
      (back-alike ts ss n' vs a1 b1 (record { store = agree-write k a.store c0 (Node p m) v held'.store; turns = h.turns }) further t.1 off
      (stand-moved ts ss n' b.store.scalar b1.store.scalar t.1 (λ w from _. ap (λ c. cond c v (b.store.scalar w)) (ne_eqb z w (λ j. omega (arith, j, from, value-below i n))))
      (λ w _ low. ap (λ c. cond c v (b.store.scalar w)) (ne_eqb z w (λ j. omega (arith, j, low, over)))) st.1) (omega (arith, e)))))
    where
      i : Bool
      i = is_in its y

      m : ℕ
      m = st.0.0

      c : ℕ
      c = node_variable i n y

      z : ℕ
      z = value_variable i n

      n' : ℕ
      n' = n + taken i

      c0 : Store
      c0 = write b.store (Scalar z) v

      u1 : State
      u1 = record b { store = write_all c0 (held_slots its n' ts) vs }

      a1 : State
      a1 = record a { store = write a.store (Node p m) v }

      b1 : State
      b1 = record b { store = write c0 (Node p m) v }

      next : State → Course
      next = sequential (sequence (written_back its n' key ts)) run

      over : k ≤ z
      over = let o = value-above i n in omega (arith, l, o)

      further : k ≤ n'
      further = omega (arith, l)

      -- the variable with the node is left as it was
      node-left : (j : Bool) → is_in its y ≡ j → u1.store.scalar (node_variable j n y) ≡ b.store.scalar (node_variable j n y)
      node-left true q =
          let low : y < k = t.0.0 in
          let o = over in
          iterator-spared ts n' vs c0 y q low off further ∙ ap (λ c. cond c v (b.store.scalar y)) (ne_eqb z y (λ e. omega (arith, e, low, o)))
      node-left false q =
          let same : z ≡ n + 1 = ap (λ j. value_variable j n) q in
          spared ts n' vs c0 n t.1 l (let some = taken-some i in omega (arith, some)) ∙ ap (λ c. cond c v (b.store.scalar n)) (ne_eqb z n (λ e. omega (arith, e, same)))

  -- ---- the pick

  slots-held : (n : ℕ) (ts : List Target) (u : State) → slots_of (sees u) (held its n ts) ≡ Ok (held_slots its n ts)
  slots-held n [] u = refl
  slots-held n (T.Scalar x at ∷ ts) u = ap (λ q. then_with q (λ ss. Ok (Scalar x ∷ ss))) (slots-held n ts u)
  slots-held n (T.Property y p at ∷ ts) u = let i = is_in its y in ap (λ q. then_with q (λ ss. Ok (Scalar (value_variable i n) ∷ ss))) (slots-held (n + taken i) ts u)

  held-below : (ts : List Target) (n : ℕ) → TargetsBelow k ts → k ≤ n → AllReadBelow (n + count_held its ts) (map target_value (held its n ts))
  held-below [] n t l = tt
  held-below (T.Scalar x at ∷ ts) n t l = (let low : x < k = t.0 in omega (arith, low, l), held-below ts n t.1 l)
  held-below (T.Property y p at ∷ ts) n t l =
      let i = is_in its y in
      let c = count_held its ts in
      let e : (n + taken i) + c ≡ n + (taken i + c) = omega arith in
      let there = value-below i n in
      (omega (arith, there), subst (λ z. AllReadBelow z (map target_value (held its (n + taken i) ts))) e (held-below ts (n + taken i) t.1 (omega (arith, l))))

  -- what a pick does by its parts
  abbrev pick : Place → Reduce → State → Result (List Slot) Fault → AllEvaluated → AllEvaluated → Course
  pick at r u q x y = writes_all u (unless_fault (first x.hoisted y.hoisted) (then_with q (λ ss. then_with (then_with x.rest (λ vs. then_with y.rest (λ us. tuple_held (sees u) at (close_slots r vs (us ∷ []))))) (λ xs. Ok (ss, xs)))))

  pub pick-alike : (total : TotalKey) (r : Reduce) (ts : List Target) (es : List Expr) (n : ℕ) → keeps_tuples r ≡ true → k ≤ n → TargetsBelow k ts → AllReadBelow k es → Unwritten its ts
      → (a b : State) → Held run.graph its a.store → AlikeStates k a b → AlikeCourses k (sequential (Combine key total r ts es) run a) (sequential (picked its n key total r ts es) run b)
  pick-alike total r ts es n keeps l tb eb off a b holds h =
      subst (λ c. AlikeCourses k c (sequential (picked its n key total r ts es) run b)) (sym (ap (writes_all a) (at-once-together (sees a) at r ts es keeps)))
      (subst (AlikeCourses k (pick at r a q x y)) (sym (sequence-both (held_set its n key ts) (all_set m key es ++ (Combine key total r (held its n ts) (all_told m es) ∷ written_back its n key ts)) run b))
      (held-alike ts n a b h l tb holds (λ z. pick at r a q z y) (λ e r. refl) (sequential (sequence (all_set m key es ++ (Combine key total r (held its n ts) (all_told m es) ∷ written_back its n key ts))) run)
      (λ u i j slots values.
      subst (AlikeCourses k (pick at r a q (all_told_of x.rest) y)) (sym (sequence-both (all_set m key es) (Combine key total r (held its n ts) (all_told m es) ∷ written_back its n key ts) run u))
      (all-alike es m a u i (omega (arith, l)) eb (λ z. pick at r a q (all_told_of x.rest) z) (λ e r. refl) (sequential (sequence (Combine key total r (held its n ts) (all_told m es) ∷ written_back its n key ts)) run)
      (λ w v o told'. finish w v slots.0 slots.1.0
      (stand-moved ts slots.0 n u.store.scalar w.store.scalar tb (λ z _ below. o.store.scalar z below) (λ y _ low. o.store.scalar y (omega (arith, low, l))) slots.1.1)
      (all-frame m (map target_value (held its n ts)) u w (held-below ts n tb l) o ∙ values)
      (told' ∙ ap (λ (z : AllEvaluated). all_told_of z.rest) (all-frame k es a w eb v)))))))
    where
      at : Place
      at = total.place

      m : ℕ
      m = n + count_held its ts

      x : AllEvaluated
      x = values_of ts a

      y : AllEvaluated
      y = evaluated_all es (sees a)

      q : Result (List Slot) Fault
      q = slots_of (sees a) ts

      next : State → Course
      next u = sequential (sequence (written_back its n key ts)) run u

      -- the tuple is chosen alike
      chosen : (w : State) → AlikeStates k a w → (ss : List Slot) → Stand n w.store.scalar ts ss → (vs us : Result (List Value) Fault) → x.rest ≡ vs
          → AlikeCourses k (pick at r a (Ok ss) (all_told_of vs) (all_told_of us)) (then_do (pick at r w (Ok (held_slots its n ts)) (all_told_of vs) (all_told_of us)) next)
      chosen w v ss st (Err e) us is = refl
      chosen w v ss st (Ok vs) (Err e) is = refl
      chosen w v ss st (Ok vs) (Ok us) is = by (close_slots r vs (us ∷ [])) refl
        where
          by : (o : Option (List Value)) → close_slots r vs (us ∷ []) ≡ o
              → AlikeCourses k (writes_all a (then_with (tuple_held (sees a) at o) (λ xs. Ok (ss, xs)))) (then_do (writes_all w (then_with (tuple_held (sees w) at o) (λ xs. Ok (held_slots its n ts, xs)))) next)
          by None e = refl
          by (Some xs) e = back-alike ts ss n xs a w v l tb off st (close-length r vs (us ∷ []) xs e ∙ targets-length ts (sees a) vs is)

      finish : (w : State) → AlikeStates k a w → (ss : List Slot) → q ≡ Ok ss → Stand n w.store.scalar ts ss → values_of (held its n ts) w ≡ all_told_of x.rest → evaluated_all (all_told m es) (sees w) ≡ all_told_of y.rest
          → AlikeCourses k (pick at r a q (all_told_of x.rest) (all_told_of y.rest)) (then_do (sequential (Combine key total r (held its n ts) (all_told m es)) run w) next)
      finish w v ss is st values told' =
          subst (λ c. AlikeCourses k (pick at r a c (all_told_of x.rest) (all_told_of y.rest)) (then_do (sequential (Combine key total r (held its n ts) (all_told m es)) run w) next)) (sym is)
          (subst (λ c. AlikeCourses k (pick at r a (Ok ss) (all_told_of x.rest) (all_told_of y.rest)) (then_do c next))
          (sym (ap (writes_all w) (at-once-together (sees w) at r (held its n ts) (all_told m es) keeps)
          ∙ ap (λ c. pick at r w c (values_of (held its n ts) w) (evaluated_all (all_told m es) (sees w))) (slots-held n ts w)
          ∙ ap (λ c. pick at r w (Ok (held_slots its n ts)) c (evaluated_all (all_told m es) (sees w))) values
          ∙ ap (pick at r w (Ok (held_slots its n ts)) (all_told_of x.rest)) told'))
          (chosen w v ss st x.rest y.rest refl))

-- ---- a sequential phase, and a program

-- what may be iterated is no scalar
no-scalar : (v : Variable) → has_role v Iterates ≡ true → is Sorts.Scalar v ≡ false
no-scalar v h = by v.sort h
  where
    by : (s : Sort) → sort_eq Sorts.Iterator s || sort_eq Sorts.Graph s ≡ true → sort_eq Sorts.Scalar s ≡ false
    by Sorts.Graph h = refl
    by Sorts.Iterator h = refl
    by Sorts.Scalar h = absurd (both_ways false refl h)
    by Sorts.Edge h = refl
    by Sorts.NodeProperty h = refl
    by Sorts.EdgeProperty h = refl

module _ (k : ℕ) (run : Run) (ds es : List Declaration) (same : run.declarations ≡ es) where
  -- variables that no statement writes
  abbrev NoScalars : List ℕ → Type 0
  NoScalars its = (y : ℕ) → is_in its y ≡ true → is Sorts.Scalar (variable_at es y) ≡ false

  one-more : (n : ℕ) (its : List ℕ) → list_all (suits es) (use_as Iterates n) ≡ true → NoScalars its → NoScalars (n ∷ its)
  one-more n its new known y i = by (nat_eq y n) refl i
    where
      by : (b : Bool) → nat_eq y n ≡ b → b || is_in its y ≡ true → is Sorts.Scalar (variable_at es y) ≡ false
      by true e i =
          let s = both-true (suits es (record { variable = n; role = Iterates })) true new in
          let r = both-true (nat_lt n (length es)) (has_role (variable_at es n) Iterates) s.0 in
          subst (λ z. is Sorts.Scalar (variable_at es z) ≡ false) (sym (eqb-true y n e)) (no-scalar (variable_at es n) r.1)
      by false e i = known y i

  -- what is known of a statement inside some Fors
  record Fine (its : List ℕ) (s : Stmt) : Type 0 where
    below : NamesBelow k s
    plain : has_no_compounds ds s ≡ true
    named : list_all (suits es) (uses_of s) ≡ true
    iterators : NoScalars its

  unwritten : (its : List ℕ) (ts : List Target) → NoScalars its → list_all (suits es) (uses_of_targets ts) ≡ true → Unwritten its ts
  unwritten its [] off h = tt
  unwritten its (T.Scalar x at ∷ ts) off h = let r = all-append (suits es) (use_as Written x) (uses_of_targets ts) h in (by (is_in its x) refl r.0, unwritten its ts off r.1)
    where
      by : (b : Bool) → is_in its x ≡ b → list_all (suits es) (use_as Written x) ≡ true → b ≡ false
      by true q w =
          let s = both-true (suits es (record { variable = x; role = Written })) true w in
          absurd (both_ways (is Sorts.Scalar (variable_at es x)) (off x q) (both-true (nat_lt x (length es)) (has_role (variable_at es x) Written) s.0).1)
      by false q w = refl
  unwritten its (T.Property y p at ∷ ts) off h = unwritten its ts off (all-append (suits es) (use_as Owner y ++ use_as NodeValue p) (uses_of_targets ts) h).1

  -- iterators go on to hold nodes
  led : (its : List ℕ) (off : NoScalars its) (c : Course) → ((y : ℕ) (i : is_in its y ≡ true) → Leads es y (off y i) run same c) → Led (Held run.graph its) k c
  led its off (Goes s) h = h
  led its off (Returns v s) h = tt
  led its off (Faults e) h = tt
  led its off Stops h = tt

  holds-on : (its : List ℕ) (s : Stmt) (a : State) → Fine its s → Held run.graph its a.store → Led (Held run.graph its) k (sequential s run a)
  holds-on its s a h t = led its h.iterators (sequential s run a) (λ y i. sequential-leads es y (h.iterators y i) run same s a h.named (t y i))

  -- a turn of a For
  abbrev turn : Key → Head → Expr → Stmt → ℕ → State → Course
  turn key head e s n t =
      let v : State = record t { store = write t.store (Scalar head.iterator) (Values.At (Some n)) } in
      with_value (value e (view_of run v key)) (λ x. either_way (is_true x) (sequential s run) Goes v)

  onto-alike : (s : Stmt) (its : List ℕ) (n : ℕ) → k ≤ n → Fine its s → (a b : State) → Held run.graph its a.store → AlikeStates k a b → AlikeCourses k (sequential s run a) (sequential (onto_scalars its n s) run b)
  onto-alike (Then s t) its n l h a b holds i =
      let more : k ≤ n + count_picks its s = omega (arith, l) in
      let q = both-true (has_no_compounds ds s) (has_no_compounds ds t) h.plain in
      let r = all-append (suits es) (uses_of s) (uses_of t) h.named in
      let left : Fine its s = record { below = h.below.0; plain = q.0; named = r.0; iterators = h.iterators } in
      let right : Fine its t = record { below = h.below.1; plain = q.1; named = r.1; iterators = h.iterators } in
      then-typed (Held run.graph its) k (sequential s run a) (sequential (onto_scalars its n s) run b) _ _ (holds-on its s a left holds) (onto-alike s its n l left a b holds i) (λ c d p m. onto-alike t its (n + count_picks its s) more right c d p m)
  onto-alike (Combine key total r ts vs) its n l h a b holds i =
      let named = all-append (suits es) (uses_of_targets ts) (uses_in_all vs) h.named in
      pick-alike k its run key total r ts vs n h.plain l h.below.0 h.below.1 (unwritten its ts h.iterators named.0) a b holds i
  onto-alike (For key at hd e s) its n l h a b holds i =
      let x = hd.iterator in
      let r = all-append (suits es) (uses_of_head hd) (uses_in e ++ uses_of s) h.named in
      let r' = all-append (suits es) (uses_in e) (uses_of s) r.1 in
      let g = all-append (suits es) (use_as Iterates x) (use_as (owner_role hd.domain) hd.owner) r.0 in
      let inside : Fine (x ∷ its) s = record { below = h.below.3; plain = h.plain; named = r'.1; iterators = one-more x its g.0 h.iterators } in
      in_turns-typed (Held run.graph its) k (λ m. m < node_count run.graph) run (nodes run.graph) (turn key hd e s) (turn key hd e (onto_scalars (x ∷ its) n s)) a b (nodes-within run.graph) holds i
      (λ m low c d p i.
      let u : State = record c { store = write c.store (Scalar x) (Values.At (Some m)) } in
      let w : State = record d { store = write d.store (Scalar x) (Values.At (Some m)) } in
      let o : AlikeStates k u w = record { store = agree-write k c.store d.store (Scalar x) (Values.At (Some m)) i.store; turns = i.turns } in (
        led its h.iterators (turn key hd e s m c) (λ y v. turn-leads es y (h.iterators y v) run same x m key e (sequential s run) c low (λ z j. sequential-leads es y (h.iterators y v) run same s z r'.1 j) (p y v)),
        with-alike k _ _ _ _ (value-alike k e run key u w h.below.2 o)
            (λ v. either-alike k (is_true v) (sequential s run) Goes (sequential (onto_scalars (x ∷ its) n s) run) Goes u w (onto-alike s (x ∷ its) n l inside u w (enter-held run.graph x m its c.store low p) o) o),
      ))
  onto-alike (If key e s t) its n l h a b holds i =
      let more : k ≤ n + count_picks its s = omega (arith, l) in
      let q = both-true (has_no_compounds ds s) (has_no_compounds ds t) h.plain in
      let r = all-append (suits es) (uses_in e) (uses_of s ++ uses_of t) h.named in
      let r' = all-append (suits es) (uses_of s) (uses_of t) r.1 in
      let left : Fine its s = record { below = h.below.1; plain = q.0; named = r'.0; iterators = h.iterators } in
      let right : Fine its t = record { below = h.below.2; plain = q.1; named = r'.1; iterators = h.iterators } in
      with-alike k _ _ _ _ (value-alike k e run key a b h.below.0 i)
      (λ z. either-alike k (is_true z) (sequential s run) (sequential t run) (sequential (onto_scalars its n s) run) (sequential (onto_scalars its (n + count_picks its s) t) run) a b
      (onto-alike s its n l left a b holds i) (onto-alike t its (n + count_picks its s) more right a b holds i))
  onto-alike (While key at e s) its n l h a b holds i =
      let r = all-append (suits es) (uses_in e) (uses_of s) h.named in
      let inside : Fine its s = record { below = h.below.1; plain = h.plain; named = r.1; iterators = h.iterators } in
      repeated-typed (Held run.graph its) k (suc run.bound) run (λ u. value e (view_of run u key)) (sequential s run) (sequential (onto_scalars its n s) run) a b holds i
      (λ c d i. value-alike k e run key c d h.below.0 i) (λ c d p i. (holds-on its s c inside p, onto-alike s its n l inside c d p i))
  onto-alike (Do key at s e) its n l h a b holds i =
      let r = all-append (suits es) (uses_of s) (uses_in e) h.named in
      let inside : Fine its s = record { below = h.below.0; plain = h.plain; named = r.0; iterators = h.iterators } in
      turn-typed (Held run.graph its) k run _ _ a b holds i
      (λ c d p m. then-typed (Held run.graph its) k (sequential s run c) (sequential (onto_scalars its n s) run d) _ _ (holds-on its s c inside p) (onto-alike s its n l inside c d p m)
      (λ u w g o. repeated-typed (Held run.graph its) k (suc run.bound) run (λ u. value e (view_of run u key)) (sequential s run) (sequential (onto_scalars its n s) run) u w g o
      (λ c d i. value-alike k e run key c d h.below.1 i) (λ c d p i. (holds-on its s c inside p, onto-alike s its n l inside c d p i))))
  onto-alike s its n l h a b holds i = sequential-alike k s run a b h.below i

pub same-with_plain_picks : (p : Program) → is_named p ≡ true → has_no_compounds p.declarations p.body ≡ true → SameMeaning p (with_plain_picks p)
same-with_plain_picks p named none =
    let ds = p.declarations in
    let others = map fresh (types_picked ds [] p.body) in
    let es = ds ++ others in
    let k = length ds in
    let parts = both-true (nat_le (p.inputs + p.outputs) k) (list_all (suits ds) (uses_of p.body)) named in
    let names = names-below ds p.body parts.1 in
    let q = with_plain_picks p in
    let least : k ≤ k = omega arith in
    let more : Extends k p q = record {
      inputs = refl;
      outputs = refl;
      result = refl;
      within = leb-true (p.inputs + p.outputs) k parts.0;
      variables = variable-appended ds others;
    } in
    same-alike k p q more names
    (λ g args bound fits.
    let run = run_of q g bound in
    let start = start_of q g args in
    onto-alike k run ds es refl p.body [] k least
    (record { below = names; plain = none; named = all-suit-appended ds others (uses_of p.body) parts.1; iterators = λ y i. absurd (both_ways false refl i) })
    start start (λ y i. absurd (both_ways false refl i)) (agree-itself k start))
