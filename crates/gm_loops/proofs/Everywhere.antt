-- The values of an expression at all nodes.
use Rattle.std.proofs.Common.{◌≡◌, ◌∙◌, ◌<◌, ◌≤◌, ◌+◌, ℕ, zero, suc, nat_eq, Bool, true, false, if◌then◌else◌, List, [], ◌∷◌, ◌++◌, length, map, get_or, replicate, Option, Some, None, Result, Ok, Err, refl, ap, sym, subst, arith}
use Rattle.std.proofs.lemmas.Bool.{eq-eqb, eqb-true, eqb-false, lt-ltb}
use Rattle.std.proofs.lemmas.List.{length-map, get_or-map, get_or_push, get_or_append_left, get_or-replicate, length_push, length-replicate}
use Rattle.std.specs.Prelude.{IfOk, IfSome}
use Rattle.gm_base.specs.declared.places.Place.{Place}
use Rattle.gm_value.specs.declared.values.Value.{Value}
use Rattle.gm_value.specs.declared.values.Value.TheVariants.{At}
use Rattle.gm_value.specs.declared.operations.Op1.{Op1}
use Rattle.gm_value.specs.declared.operations.Op2.{Op2}
use Rattle.gm_value.specs.declared.faults.FaultKind.{FaultKind}
use Rattle.gm_value.specs.Operations.{result1, result2}
use Rattle.gm_model.specs.Graphs.{node_count}
use Rattle.gm_columns.specs.Cells.{node_in as cell_node}
use Rattle.gm_ast.specs.Program.{Expr, Var, Property, Unary, Binary}
use Rattle.gm_semantics.specs.declared.faults.Fault.{Fault}
use Rattle.gm_semantics.specs.Faults.{then_with}
use Rattle.gm_semantics.specs.Levels.{node_in, numbers_from}
use Rattle.gm_semantics.specs.Expressions.{Evaluated, View, at_node, evaluated, located, node_held, node_of, node_read, one_of, plain, two_of}
use Rattle.gm_columns.specs.declared.cells.Cells.{Cells}
use Rattle.gm_columns.specs.Cells.{values_of}
use Rattle.gm_loops.specs.Columns.{here, Applies1, Applies2, Each, IsColumn}
use Rattle.gm_loops.proofs.Looping.{get-numbers, length-numbers}

-- no value yet, and one more
pub each-none : (P : ℕ → Value → Type 0) (cells : Cells) → values_of cells ≡ [] → Each 0 P cells
each-none P cells e = record { full = ap length e; values = λ k d lt. absurd (omega arith) }

pub each-push : (n : ℕ) (P : ℕ → Value → Type 0) (a b : Cells) (v : Value) → Each n P a → values_of b ≡ values_of a ++ v ∷ [] → P n v → Each (n + 1) P b
each-push n P a b v h e p = record {
  full = ap length e ∙ length_push (values_of a) v ∙ ap (λ (m : ℕ). m + 1) h.full;
  values = λ k d lt. subst (λ (vs : List Value). P k (get_or vs k d)) (sym e) (by k d (nat_eq k n) lt refl);
} where
  by : (k : ℕ) (d : Value) (b : Bool) → k < n + 1 → nat_eq k n ≡ b → P k (get_or (values_of a ++ v ∷ []) k d)
  by k d true lt same =
      let at : k ≡ n = eqb-true k n same in
      subst (λ (u : Value). P k u) (sym (get_or_push (values_of a) v d k (h.full ∙ sym at))) (subst (λ (m : ℕ). P m v) (sym at) p)
  by k d false lt other =
      let away : k ≡ n → ⊥ = eqb-false k n other in
      let below : k < n = omega arith in
      let within : k < length (values_of a) = omega (arith, h.full) in
      subst (λ (u : Value). P k u) (sym (get_or_append_left (values_of a) (v ∷ []) d k within)) (h.values k d below)

-- the same, of other values
pub each-as : (n m : ℕ) (P Q : ℕ → Value → Type 0) (cells : Cells) → m ≡ n → ((k : ℕ) (v : Value) → k < n → P k v → Q k v) → Each m P cells → Each n Q cells
each-as n m P Q cells same f h = record {
  full = h.full ∙ same;
  values = λ k d lt. f k (get_or (values_of cells) k d) lt (h.values k d (omega (arith, same)));
}

-- one value everywhere
pub each-uniform : (n : ℕ) (P : ℕ → Value → Type 0) (cells : Cells) (v : Value) → values_of cells ≡ replicate n v → ((k : ℕ) → k < n → P k v) → Each n P cells
each-uniform n P cells v e f = record {
  full = ap length e ∙ length-replicate n v;
  values = λ k d lt. subst (λ (u : Value). P k u) (sym (ap (λ (vs : List Value). get_or vs k d) e ∙ get_or-replicate n k v d lt)) (f k lt);
}

-- the node that the iterator holds, and what stands there
pub node-here : (w : View) (i k : ℕ) (at : Place) → k < node_count w.graph → node_of (here w i k) i at ≡ Ok k
node-here w i k at lt =
    ap (λ (b : Bool). node_held (here w i k) at (node_in w.graph (if b then At (Some k) else w.store.scalar i))) (eq-eqb i i refl)
    ∙ ap (λ (b : Bool). node_held (here w i k) at (if b then Some k else None)) (lt-ltb k (node_count w.graph) lt)

pub held-here : (w : View) (i k : ℕ) (at : Place) (f : ℕ → Value) → k < node_count w.graph → at_node (here w i k) i at f ≡ Ok (f k)
held-here w i k at f lt = ap (λ (r : Result ℕ Fault). then_with r (λ n. Ok (f n))) (node-here w i k at lt)

read-here : (w : View) (v : Value) → node_read w (Ok v) ≡ plain (Ok v)
read-here w v = by w.parallel where
  by : (b : Bool) → (if b then plain (Ok v) else record { hoisted = None; rest = Ok v }) ≡ plain (Ok v)
  by true = refl
  by false = refl

-- a property of the iterator
pub property-here : (w : View) (i k p : ℕ) (at : Place) → k < node_count w.graph → evaluated (Property i p at) (here w i k) ≡ plain (Ok (w.store.node p k))
property-here w i k p at lt = ap (node_read (here w i k)) (held-here w i k at (w.store.node p) lt) ∙ read-here (here w i k) (w.store.node p k)

-- a variable, which is the iterator or another one
pub iterator-here : (w : View) (i k : ℕ) (at : Place) → evaluated (Var i at) (here w i k) ≡ plain (Ok (At (Some k)))
iterator-here w i k at = ap (λ (b : Bool). plain (Ok (if b then At (Some k) else w.store.scalar i))) (eq-eqb i i refl)

pub other-here : (w : View) (i k x : ℕ) (at : Place) → nat_eq i x ≡ false → evaluated (Var x at) (here w i k) ≡ plain (Ok (w.store.scalar x))
other-here w i k x at e = ap (λ (b : Bool). plain (Ok (if b then At (Some k) else w.store.scalar x))) e

-- an operation on one column
pub column-one : (op : Op1) (at : Place) (e : Expr) (w : View) (i : ℕ) (inner cells : Cells) → IsColumn e w i inner → Applies1 op (values_of inner) cells → IsColumn (Unary op at e) w i cells
column-one op at e w i inner cells column applied =
    each-as (node_count w.graph) (length (values_of inner)) _ _ cells column.full
    (λ k v lt found. ap (λ (x : Evaluated). one_of x (λ u. located (here w i k) at (result1 op u))) (column.values k v lt) ∙ ap (λ (r : Result Value FaultKind). plain (located (here w i k) at r)) (found v))
    applied

-- an operation on two columns
pub column-two : (op : Op2) (at : Place) (a b : Expr) (w : View) (i : ℕ) (first second cells : Cells)
    → IsColumn a w i first → IsColumn b w i second → Applies2 op (values_of first) (values_of second) cells → IsColumn (Binary op at a b) w i cells
column-two op at a b w i first second cells left right applied =
    each-as (node_count w.graph) (length (values_of first)) _ _ cells left.full
    (λ k v lt found.
    ap (λ (x : Evaluated). two_of x (evaluated b (here w i k)) (λ u t. located (here w i k) at (result2 op u t))) (left.values k v lt)
    ∙ ap (λ (y : Evaluated). two_of (plain (Ok (get_or (values_of first) k v))) y (λ u t. located (here w i k) at (result2 op u t))) (right.values k v lt)
    ∙ ap (λ (r : Result Value FaultKind). plain (located (here w i k) at r)) (found v))
    applied

-- all nodes, each with its own index
pub column-nodes : (n : ℕ) (ns : List ℕ) (k : ℕ) (d : Value) → ns ≡ numbers_from 0 n → n ≤ 2147483647 → k < n → get_or (map cell_node ns) k d ≡ At (Some k)
column-nodes n ns k d e few lt =
    let all : length ns ≡ n = ap length e ∙ length-numbers 0 n in
    let within : k < length ns = omega (arith, all) in
    let number : get_or ns k 0 ≡ k = ap (λ (ms : List ℕ). get_or ms k 0) e ∙ get-numbers 0 n k 0 lt ∙ omega arith in
    let small : k < 4294967295 = omega arith in
    get_or-map cell_node ns k 0 d within
    ∙ ap cell_node number
    ∙ ap (λ (b : Bool). if b then At (Some k) else At None) (lt-ltb k 4294967295 small)

-- one number more
numbers-push : (a n : ℕ) → numbers_from a (suc n) ≡ numbers_from a n ++ (a + n) ∷ []
numbers-push a zero = ap (λ (m : ℕ). m ∷ []) (omega arith)
numbers-push a (suc n) = ap (λ (ms : List ℕ). a ∷ ms) (numbers-push (suc a) n ∙ ap (λ (m : ℕ). numbers_from (suc a) n ++ m ∷ []) (omega arith))

pub numbers-next : (n : ℕ) → numbers_from 0 (n + 1) ≡ numbers_from 0 n ++ n ∷ []
numbers-next n =
    let one : n + 1 ≡ suc n = omega arith in
    ap (numbers_from 0) one ∙ numbers-push 0 n ∙ ap (λ (m : ℕ). numbers_from 0 n ++ m ∷ []) (omega arith)

-- the iterator's own values
pub column-iterator : (w : View) (i x : ℕ) (at : Place) (n : ℕ) (cells : Cells) (ns : List ℕ) → values_of cells ≡ map cell_node ns → ns ≡ numbers_from 0 n → n ≡ node_count w.graph → node_count w.graph ≤ 2147483647 → x ≡ i
    → IsColumn (Var x at) w i cells
column-iterator w i x at n cells ns e all count few own = record {
  full = ap length e ∙ length-map ns cell_node ∙ ap length all ∙ length-numbers 0 n ∙ count;
  values = λ k d lt.
      ap (λ (y : ℕ). evaluated (Var y at) (here w i k)) own ∙ iterator-here w i k at
      ∙ ap (λ (v : Value). plain (Ok v)) (sym (ap (λ (vs : List Value). get_or vs k d) e ∙ column-nodes n ns k d all (omega (arith, few, count)) (omega (arith, lt, count))));
}

-- what holds of an answer, if there is one, by what holds of another way
pub found-then : {A E : Type 0} (P Q : A → Type 0) (r : Result (Option A) E) → ((a : A) → P a → Q a) → IfOk r (λ found. IfSome found P) → IfOk r (λ found. IfSome found Q)
found-then P Q (Ok (Some a)) f h = f a h
found-then P Q (Ok None) f h = h
found-then P Q (Err e) f h = h

-- cells with the same values
pub column-copied : (e : Expr) (w : View) (i : ℕ) (a b : Cells) → values_of b ≡ values_of a → IsColumn e w i a → IsColumn e w i b
column-copied e w i a b same h = record {
  full = ap length same ∙ h.full;
  values = λ k d lt. h.values k d lt ∙ ap (λ (vs : List Value). plain (Ok (get_or vs k d))) (sym same);
}
