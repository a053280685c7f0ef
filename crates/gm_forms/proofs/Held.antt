-- An inner body keeps an iterator that it does not write.
use Rattle.std.proofs.Common.{◌≡◌, ◌≢◌, ◌<◌, ℕ, Bool, true, false, cond, List, [], ◌∷◌, ◌++◌, refl, sym, ap, ◌∙◌, Option, Some, None, Result, Ok, Err, ⊎_elim, inl, inr}
use Rattle.std.specs.Prelude.{◌⊎◌, ◌||◌, not, nat_eq, IfOk}
use Rattle.std.proofs.lemmas.Bool.{eqb-true, eq-eqb, lt-ltb, both_ways}
use Rattle.gm_value.specs.declared.values.Value.{Value}
use Rattle.gm_value.specs.declared.values.Value.TheVariants.{At}
use Rattle.gm_value.specs.declared.reductions.Reduce.{Reduce}
use Rattle.gm_value.specs.Numbers.{zero_of}
use Rattle.gm_value.specs.Operations.{is_true}
use Rattle.gm_model.specs.Graphs.{NumberedGraph, IsGraph, node_count}
use Rattle.gm_ast.specs.declared.tree.Target.{Target}
use Rattle.gm_ast.specs.declared.tree.Target.TheVariants as T
use Rattle.gm_ast.specs.declared.tree.TotalKey.{TotalKey}
use Rattle.gm_ast.specs.Ways.{is_in}
use Rattle.gm_ast.specs.Program.{Expr, Stmt, Skip, Then, Declare, DeclareEdge, Assign, Defer, Combine, Group, Foreach, For, If, While, Do, InBfs, InBfsBoth, Return}
use Rattle.gm_semantics.specs.declared.faults.Fault.{Fault}
use Rattle.gm_semantics.specs.declared.slots.Slot.{Slot}
use Rattle.gm_semantics.specs.declared.slots.Slot.TheVariants.{Scalar, Node}
use Rattle.gm_semantics.specs.Stores.{Store, slot_eq, write, write_all}
use Rattle.gm_semantics.specs.Levels.{node_in}
use Rattle.gm_semantics.specs.Faults.{then_with}
use Rattle.gm_semantics.specs.Expressions.{View, node_held, evaluated, evaluated_all, value}
use Rattle.gm_semantics.specs.Iterations.{Ends, AtOnce, WithInner, WithOutermost, Loop, Iteration, unless_failed, go_on, with_ok, one_way, Outermost, AtEdge, view_in, slot_of, slots_of, assigned, assigned_all, at_once, ends_of_all, wrote, wrote_all, contribution, gave_inner, gave_outermost, reduced, does}
use Rattle.gm_forms.specs.Cut.{touched, keeps_iterators}
use Rattle.gm_forms.specs.Sharing.{written_by, variables_of}
use Rattle.gm_forms.specs.Doing.{EachSlot, IsNode, Held, Sure}
use Rattle.gm_forms.proofs.ReadingFrames.{read-write, nat_eq-apart, assigned-all, once-assigned}

-- a node of a graph is found there
pub node-held : (g : NumberedGraph) (k : ℕ) → k < node_count g → node_in g (At (Some k)) ≡ Some k
node-held g k h = ap (λ c. cond c (Some k) None) (lt-ltb k (node_count g) h)

pub is-node : (g : NumberedGraph) (v : Value) (h : IsNode g v) → node_in g v ≡ Some h.0
is-node g v h = ap (node_in g) h.1 ∙ node-held g h.0 h.2

or-false : (a b : Bool) → a || b ≡ false → (a ≡ false) × (b ≡ false)
or-false true b h = absurd (both_ways true h refl)
or-false false b h = (refl, h)

pub from-not : (b : Bool) → not b ≡ true → b ≡ false
from-not true h = absurd (both_ways false refl h)
from-not false h = refl

-- what is in no list of two is in neither
pub in-append : (t : ℕ) (xs ys : List ℕ) → is_in (xs ++ ys) t ≡ false → (is_in xs t ≡ false) × (is_in ys t ≡ false)
in-append t [] ys h = (refl, h)
in-append t (x ∷ xs) ys h =
    let r = or-false (nat_eq t x) (is_in (xs ++ ys) t) h in let q = in-append t xs ys r.1 in (ap (λ b. b || is_in xs t) r.0 ∙ q.0, q.1)

module _ (t n : ℕ) where
  abbrev Keeps : Iteration → Type 0
  Keeps i = i.store.scalar t ≡ At (Some n)

  abbrev Off : Slot → Type 0
  Off s = slot_eq s (Scalar t) ≡ false

  scalar-off : (y : ℕ) → nat_eq t y ≡ false → Off (Scalar y)
  scalar-off y h = nat_eq-apart y t (λ e. both_ways (nat_eq t y) h (eq-eqb t y (sym e)))

  slot-off : (w : View) (u : Target) → is_in (written_by u) t ≡ false → IfOk (slot_of w u) Off
  slot-off w (T.Scalar y at) h = scalar-off y (or-false (nat_eq t y) false h).0
  slot-off w (T.Property y p at) h = by (node_in w.graph (w.store.scalar y))
    where
      by : (o : Option ℕ) → IfOk (then_with (node_held w at o) (λ k. Ok (Node p k))) Off
      by None = tt
      by (Some k) = refl

  slots-off : (w : View) (ts : List Target) → is_in (variables_of ts) t ≡ false → IfOk (slots_of w ts) (EachSlot Off)
  slots-off w [] h = tt
  slots-off w (u ∷ ts) h = let r = in-append t (written_by u) (variables_of ts) h in by (slot_of w u) (slots_of w ts) (slot-off w u r.0) (slots-off w ts r.1)
    where
      by : (a : Result Slot Fault) (b : Result (List Slot) Fault) → IfOk a Off → IfOk b (EachSlot Off) → IfOk {T = List Slot} (then_with a (λ s. then_with b (λ ss. Ok (s ∷ ss)))) (EachSlot Off)
      by (Ok s) (Ok ss) x y = (x, y)
      by (Ok s) (Err f) x y = tt
      by (Err f) b x y = tt

  keeps-with_ok : {A : Type 0} (S : A → Type 0) (i : Iteration) (r : Result A Fault) (f : A → Iteration) → Keeps i → IfOk r S → ((a : A) → S a → Keeps (f a)) → Keeps (with_ok i r f)
  keeps-with_ok S i (Ok a) f k ok each = each a ok
  keeps-with_ok S i (Err e) f k ok each = k

  any-ok : {A : Type 0} (r : Result A Fault) → IfOk r (λ a. Unit {0})
  any-ok (Ok a) = tt
  any-ok (Err f) = tt

  keeps-go_on : (j : Iteration) (f : Iteration → Iteration) → Keeps j → Keeps (f j) → Keeps (go_on j f)
  keeps-go_on j f h k = by j.fault
    where
      by : (o : Option Fault) → Keeps (unless_failed o j f)
      by None = k
      by (Some e) = h

  keeps-one_way : (b : Bool) (f g : Iteration → Iteration) (i : Iteration) → Keeps (f i) → Keeps (g i) → Keeps (one_way b f g i)
  keeps-one_way true f g i h k = h
  keeps-one_way false f g i h k = k

  keeps-wrote : (i : Iteration) (p : Slot × Value) → Keeps i → Off p.0 → Keeps (wrote i p)
  keeps-wrote i p k off = read-write i.store p.0 (Scalar t) p.1 ∙ ap (λ b. cond b p.1 (i.store.scalar t)) off ∙ k

  keeps-all : (s : Store) (slots : List Slot) (values : List Value) → EachSlot Off slots → s.scalar t ≡ At (Some n) → (write_all s slots values).scalar t ≡ At (Some n)
  keeps-all s [] values off k = k
  keeps-all s (at ∷ slots) [] off k = k
  keeps-all s (at ∷ slots) (y ∷ ys) off k = keeps-all (write s at y) slots ys off.1 (read-write s at (Scalar t) y ∙ ap (λ b. cond b y (s.scalar t)) off.0 ∙ k)

  keeps-reduced : (ends : Ends) (w : View) (i : Iteration) (total : TotalKey) (r : Reduce) (ts : List Target) (es : List Expr) → w.store.scalar t ≡ At (Some n) → is_in (variables_of ts) t ≡ false → Keeps i → Keeps (reduced ends w i total r ts es)
  keeps-reduced AtOnce w i total r ts es holds h k =
      keeps-with_ok (λ q. EachSlot Off q.0) i (at_once w total.place r ts es) (wrote_all i) k
      (once-assigned (λ s. Unit {0}) t n w w.store (record { at = λ slot u. refl; edge = refl }) holds Off total.place r ts es (slots-off w ts h)) (λ q off. keeps-all i.store q.0 q.1 off k)
  keeps-reduced WithInner w i total r ts es holds h k = keeps-with_ok (λ q. Unit {0}) i (assigned_all w ts (evaluated_all es w)) (λ p. gave_inner i (contribution total r p)) k (any-ok _) (λ q u. k)
  keeps-reduced WithOutermost w i total r ts es holds h k = keeps-with_ok (λ q. Unit {0}) i (assigned_all w ts (evaluated_all es w)) (λ p. gave_outermost i (contribution total r p)) k (any-ok _) (λ q u. k)

  target-off : (w : View) (u : Target) → is_in (written_by u) t ≡ false → (s : Slot) → slot_of w u ≡ Ok s → Off s
  target-off w u h s e = by (slot_of w u) (slot-off w u h) e
    where
      by : (r : Result Slot Fault) → IfOk r Off → r ≡ Ok s → Off s
      by (Ok z) off e = let same : z ≡ s = cc in ap (λ z. slot_eq z (Scalar t)) (sym same) ∙ off
      by (Err f) off e = absurd (cc)

  pub stays : (s : Stmt) (loop : Loop) (e : ℕ) (i : Iteration) → is_in (touched s) t ≡ false → Keeps i → Keeps (does s (AtEdge e) loop i)
  stays Skip loop e i h k = k
  stays (Then a b) loop e i h k =
      let r = in-append t (touched a) (touched b) h in
      let first = stays a loop e i r.0 k in
      keeps-go_on (does a (AtEdge e) loop i) (does b (AtEdge e) loop) first (stays b loop e (does a (AtEdge e) loop i) r.1 first)
  stays (Declare key y None) loop e i h k = keeps-wrote i (Scalar y, zero_of (loop.vtype y)) k (scalar-off y (or-false (nat_eq t y) false h).0)
  stays (Declare key y (Some v)) loop e i h k =
      keeps-with_ok (λ v. Unit {0}) i (value v (view_in loop (AtEdge e) i key)) (λ v. wrote i (Scalar y, v)) k (any-ok _) (λ v u. keeps-wrote i (Scalar y, v) k (scalar-off y (or-false (nat_eq t y) false h).0))
  stays (DeclareEdge y z at) loop e i h k = k
  stays (Assign key u v) loop e i h k =
      let w = view_in loop (AtEdge e) i key in
      keeps-with_ok (λ q. Off q.0) i (assigned w u (evaluated v w)) (wrote i) k (assigned-all (λ s. Unit {0}) t n w w.store (record { at = λ slot u. refl; edge = refl }) k Off u (evaluated v w) (target-off w u h)) (λ q off. keeps-wrote i q k off)
  stays (Defer key u v) loop e i h k = k
  stays (Combine key total r ts es) loop e i h k = keeps-reduced (ends_of_all (AtEdge e) loop ts) (view_in loop (AtEdge e) i key) i total r ts es k h k
  stays (Group key at y p v) loop e i h k = k
  stays (Foreach key at head test body) loop e i h k = k
  stays (For key at head test body) loop e i h k = k
  stays (If key c a b) loop e i h k =
      let r = in-append t (touched a) (touched b) h in
      keeps-with_ok (λ v. Unit {0}) i (value c (view_in loop (AtEdge e) i key)) (λ v. one_way (is_true v) (does a (AtEdge e) loop) (does b (AtEdge e) loop) i) k (any-ok _)
      (λ v u. keeps-one_way (is_true v) (does a (AtEdge e) loop) (does b (AtEdge e) loop) i (stays a loop e i r.0 k) (stays b loop e i r.1 k))
  stays (While key at c body) loop e i h k = k
  stays (Do key at body c) loop e i h k = k
  stays (InBfs key at s c body) loop e i h k = k
  stays (InBfsBoth key at s c body back_key d back) loop e i h k = k
  stays (Return key at v) loop e i h k = k

-- so iterators go on to hold nodes: the outer one in an outer body
pub outer-sure : (g : NumberedGraph) (n : ℕ) (s : Stmt) (store : Store) (x : ℕ) → IsGraph g → store.scalar n ≡ At (Some x) → x < node_count g → keeps_iterators s ≡ true → Sure n (n ∷ []) s Outermost g store
outer-sure g n s store x graph holds below keeps = record { graph = graph; held = held; leaves = (only, keeps) }
  where
    by : (y : ℕ) (b : Bool) → nat_eq y n ≡ b → b || false ≡ true → y ≡ n
    by y true e h = eqb-true y n e
    by y false e h = absurd (both_ways false refl h)

    only : (y : ℕ) → is_in (n ∷ []) y ≡ true → y ≡ n
    only y h = by y (nat_eq y n) refl h

    held : Held g (n ∷ []) store
    held y h = (x, ap store.scalar (only y h) ∙ holds, below)

-- and both in an inner one
pub edge-sure : (g : NumberedGraph) (n t : ℕ) (s : Stmt) (e : ℕ) (store : Store) (x y : ℕ) → IsGraph g → store.scalar n ≡ At (Some x) → x < node_count g → store.scalar t ≡ At (Some y) → y < node_count g → is_in (touched s) t ≡ false →
    Sure n (t ∷ n ∷ []) s (AtEdge e) g store
edge-sure g n t s e store x y graph outer x_below inner y_below off = record { graph = graph; held = held; leaves = leaves }
  where
    which : (z : ℕ) (b c : Bool) → nat_eq z t ≡ b → nat_eq z n ≡ c → b || (c || false) ≡ true → (z ≡ t) ⊎ (z ≡ n)
    which z true c d e h = inl (eqb-true z t d)
    which z false true d e h = inr (eqb-true z n e)
    which z false false d e h = absurd (both_ways false refl h)

    held : Held g (t ∷ n ∷ []) store
    held z h = ⊎_elim (λ (e : z ≡ t). (y, ap store.scalar e ∙ inner, y_below)) (λ (e : z ≡ n). (x, ap store.scalar e ∙ outer, x_below)) (which z (nat_eq z t) (nat_eq z n) refl refl h)

    leaves : (z : ℕ) → is_in (t ∷ n ∷ []) z ≡ true → (z ≡ n) ⊎ (is_in (touched s) z ≡ false)
    leaves z h = ⊎_elim (λ (e : z ≡ t). inr (ap (is_in (touched s)) e ∙ off)) (λ (e : z ≡ n). inl e) (which z (nat_eq z t) (nat_eq z n) refl refl h)
