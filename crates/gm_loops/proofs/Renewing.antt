-- Loops that give a property its values at all nodes at once.
use Rattle.std.proofs.Common.{◌≡◌, ◌∙◌, ◌<◌, ◌≤◌, ◌+◌, ℕ, zero, suc, nat_eq, nat_lt, ◌&&◌, Bool, true, false, if◌then◌else◌, List, [], ◌∷◌, ◌++◌, length, map, get_or, Option, Some, None, Result, Ok, refl, ap, sym, subst, arith}
use Rattle.std.proofs.Math.Path.{fun_ext}
use Rattle.std.proofs.lemmas.Bool.{eq-eqb, eqb-true, eqb-false, ltb-true, ltb-false}
use Rattle.std.proofs.lemmas.List.{get_or_past}
use Rattle.gm_value.specs.declared.values.Value.{Value}
use Rattle.gm_value.specs.declared.values.Value.TheVariants.{At}
use Rattle.gm_model.specs.Graphs.{node_count}
use Rattle.gm_ast.specs.declared.tree.Key.{Key}
use Rattle.gm_ast.specs.declared.tree.Target.TheVariants as T
use Rattle.gm_ast.specs.Program.{Expr, Stmt}
use Rattle.gm_semantics.specs.declared.faults.Fault.{Fault}
use Rattle.gm_semantics.specs.declared.slots.Slot.TheVariants.{Scalar, Node}
use Rattle.gm_semantics.specs.declared.slots.Write.{Write}
use Rattle.gm_semantics.specs.Contributions.{Contribution, settled_store, total_faults}
use Rattle.gm_semantics.specs.Faults.{joined, least, somes, then_with, unless_fault}
use Rattle.gm_semantics.specs.Expressions.{Evaluated, View, settled}
use Rattle.gm_semantics.specs.Iterations.{Iteration, Loop, Outermost, as_it_is, assigned, begun, does, one_way, view_in, with_ok, wrote}
use Rattle.gm_semantics.specs.Levels.{numbers_from}
use Rattle.gm_semantics.specs.Loops.{iteration, left_at, loop_done, own_left, parallel}
use Rattle.gm_semantics.specs.Stores.{Store, overlaid, write}
use Rattle.gm_columns.specs.Cells.{values_of}
use Rattle.gm_store.specs.Held.{replaced, shape_of}
use Rattle.gm_totals.specs.declared.totals.Totals.{Totals}
use Rattle.gm_totals.specs.Standing.{StandsFor}
use Rattle.gm_loops.specs.declared.goings.Going.{Going}
use Rattle.gm_loops.specs.declared.renewals.Renewal.{Renewal}
use Rattle.gm_loops.specs.declared.sights.Setting.{Setting}
use Rattle.gm_loops.specs.LoopEnds.{AtRest}
use Rattle.gm_loops.specs.Renewals.{Renews}
use Rattle.gm_loops.proofs.Deeds.{turn-filtered}
use Rattle.gm_loops.proofs.Everywhere.{node-here}
use Rattle.gm_loops.proofs.Keeping.{same-store, settled-nothing}
use Rattle.gm_loops.proofs.Turning.{ready-same}

-- an iteration writes its own node's value, and does nothing else
pub renewed-turn : (loop : Loop) (key : Key) (test : Expr) (body : Stmt) (ks : List ℕ) (s : Store) (r : Renewal) → Renews loop test body ks s r
    → (k : ℕ) (d : Value) → k < node_count loop.graph
    → iteration loop key test body s k ≡ wrote (begun (write s (Scalar loop.outer) (At (Some k)))) (Node r.property k, get_or (values_of r.cells) k d)
renewed-turn loop key test body ks s r h k d lt =
    let start : Iteration = begun (write s (Scalar loop.outer) (At (Some k))) in
    let w : View = view_in loop Outermost start h.key in
    let v : Value = get_or (values_of r.cells) k d in
    turn-filtered loop Outermost key test (does body Outermost loop) loop.outer k s h.passes.value (ap settled (h.passes.found (view_in loop Outermost start key)))
    ∙ ap (λ (b : Bool). one_way b (does body Outermost loop) as_it_is start) h.passes.holds
    ∙ h.assigns start refl
    ∙ ap (λ (x : Evaluated). with_ok start (assigned w (T.Property loop.outer r.property h.at) x) (wrote start)) (h.column.values k d lt)
    ∙ ap (λ (n : Result ℕ Fault). with_ok start (then_with (then_with n (λ m. Ok (Node r.property m))) (λ slot. Ok (slot, v))) (wrote start))
    (node-here (view_in loop Outermost (begun s) h.key) loop.outer k h.at lt)

-- what the iterations at some numbers leave at one of them, and at another node
left-in : (turn : ℕ → Iteration) (s : Store) (q m a n : ℕ) → a ≤ m → m < a + n → left_at (numbers_from a n) (map turn (numbers_from a n)) s q m ≡ (turn m).store.node q m
left-in turn s q m a zero le lt = absurd (omega arith)
left-in turn s q m a (suc n) le lt = by (nat_eq a m) refl (λ away. left-in turn s q m (suc a) n (omega arith) (omega arith)) where
  by : (b : Bool) → nat_eq a m ≡ b
      → ((a ≡ m → ⊥) → left_at (numbers_from (suc a) n) (map turn (numbers_from (suc a) n)) s q m ≡ (turn m).store.node q m)
      → (if b then (turn a).store.node q m else left_at (numbers_from (suc a) n) (map turn (numbers_from (suc a) n)) s q m) ≡ (turn m).store.node q m
  by true e rest = ap (λ (j : ℕ). (turn j).store.node q m) (eqb-true a m e)
  by false e rest = rest (eqb-false a m e)

left-out : (turn : ℕ → Iteration) (s : Store) (q m a n : ℕ) → a + n ≤ m → left_at (numbers_from a n) (map turn (numbers_from a n)) s q m ≡ s.node q m
left-out turn s q m a zero le = refl
left-out turn s q m a (suc n) le = by (nat_eq a m) refl (left-out turn s q m (suc a) n (omega arith)) where
  by : (b : Bool) → nat_eq a m ≡ b
      → left_at (numbers_from (suc a) n) (map turn (numbers_from (suc a) n)) s q m ≡ s.node q m
      → (if b then (turn a).store.node q m else left_at (numbers_from (suc a) n) (map turn (numbers_from (suc a) n)) s q m) ≡ s.node q m
  by true e rest = let at : a ≡ m = eqb-true a m e in absurd (omega arith)
  by false e rest = rest

-- what no iteration has, all together have not
none-joined : {A : Type 0} (f : Iteration → List A) (turn : ℕ → Iteration) (a n : ℕ) → ((k : ℕ) → k < a + n → f (turn k) ≡ []) → joined (map f (map turn (numbers_from a n))) ≡ []
none-joined f turn a zero h = refl
none-joined f turn a (suc n) h =
    ap (λ l. l ++ joined (map f (map turn (numbers_from (suc a) n)))) (h a (omega arith))
    ∙ none-joined f turn (suc a) n (λ k lt. h k (omega arith))

none-faults : (turn : ℕ → Iteration) (a n : ℕ) → ((k : ℕ) → k < a + n → (turn k).fault ≡ None) → somes (map (λ (it : Iteration). it.fault) (map turn (numbers_from a n))) ≡ []
none-faults turn a zero h = refl
none-faults turn a (suc n) h =
    ap (λ (o : Option Fault). somes (o ∷ map (λ (it : Iteration). it.fault) (map turn (numbers_from (suc a) n)))) (h a (omega arith))
    ∙ none-faults turn (suc a) n (λ k lt. h k (omega arith))

-- a loop of which nothing is left but what its iterations wrote at their own nodes
own-alone : (s own : Store) (ks : List ℕ) (its : List Iteration) → own_left s ks its ≡ own
    → joined (map (λ (it : Iteration). it.with_outermost) its) ≡ [] → joined (map (λ (it : Iteration). it.deferred) its) ≡ [] → somes (map (λ (it : Iteration). it.fault) its) ≡ []
    → loop_done s ks its ≡ Ok own
own-alone s own ks its left contributions deferred faults =
    ap (λ (o : Store). unless_fault (least (somes (map (λ (it : Iteration). it.fault) its) ++ total_faults o (joined (map (λ (it : Iteration). it.with_outermost) its)))) (Ok (overlaid (settled_store o (joined (map (λ (it : Iteration). it.with_outermost) its))) (joined (map (λ (it : Iteration). it.deferred) its))))) left
    ∙ ap (λ (cs : List Contribution). unless_fault (least (somes (map (λ (it : Iteration). it.fault) its) ++ total_faults own cs)) (Ok (overlaid (settled_store own cs) (joined (map (λ (it : Iteration). it.deferred) its))))) contributions
    ∙ ap (λ (o : Store). unless_fault (least (somes (map (λ (it : Iteration). it.fault) its) ++ [])) (Ok (overlaid o (joined (map (λ (it : Iteration). it.deferred) its))))) (settled-nothing own)
    ∙ ap (λ (fs : List Fault). unless_fault (least (fs ++ [])) (Ok (overlaid own (joined (map (λ (it : Iteration). it.deferred) its))))) faults
    ∙ ap (λ (ws : List Write). let r : Result Store Fault = Ok (overlaid own ws) in r) deferred

-- such a loop replaces the property's values
pub renewed : (loop : Loop) (key : Key) (test : Expr) (body : Stmt) (ks : List ℕ) (s : Store) (r : Renewal) → Renews loop test body ks s r
    → parallel loop key test body ks s ≡ Ok (replaced s r.property (values_of r.cells))
renewed loop key test body ks s r h =
    ap (λ (ms : List ℕ). loop_done s ms (map turn ms)) h.all
    ∙ own-alone s (replaced s p vs) (numbers_from 0 n) (map turn (numbers_from 0 n))
    (same-store (own_left s (numbers_from 0 n) (map turn (numbers_from 0 n))) (replaced s p vs) refl (fun_ext (λ q. fun_ext (λ m. by q m (nat_lt m n) refl))) refl)
    (none-joined (λ it. it.with_outermost) turn 0 n (λ k lt. ap (λ (it : Iteration). it.with_outermost) (one k (s.node 0 0) (omega arith))))
    (none-joined (λ it. it.deferred) turn 0 n (λ k lt. ap (λ (it : Iteration). it.deferred) (one k (s.node 0 0) (omega arith))))
    (none-faults turn 0 n (λ k lt. ap (λ (it : Iteration). it.fault) (one k (s.node 0 0) (omega arith))))
  where
    n : ℕ
    n = node_count loop.graph

    p : ℕ
    p = r.property

    vs : List Value
    vs = values_of r.cells

    turn : ℕ → Iteration
    turn = iteration loop key test body s

    one : (k : ℕ) (d : Value) → k < n → turn k ≡ wrote (begun (write s (Scalar loop.outer) (At (Some k)))) (Node p k, get_or vs k d)
    one k d lt = renewed-turn loop key test body ks s r h k d lt

    own : (v u : Value) (a b : Bool) → b ≡ true → (if a && b then v else u) ≡ (if a then v else u)
    own v u true b e = ap (λ (c : Bool). if c then v else u) e
    own v u false b e = refl

    past : (u : Value) (m : ℕ) (a : Bool) → length vs ≤ m → u ≡ (if a then get_or vs m u else u)
    past u m true le = sym (get_or_past vs m u le)
    past u m false le = refl

    by : (q m : ℕ) (b : Bool) → nat_lt m n ≡ b → left_at (numbers_from 0 n) (map turn (numbers_from 0 n)) s q m ≡ (if nat_eq p q then get_or vs m (s.node q m) else s.node q m)
    by q m true e =
        let lt : m < n = ltb-true m n e in
        left-in turn s q m 0 n (omega arith) (omega arith)
        ∙ ap (λ (it : Iteration). it.store.node q m) (one m (s.node q m) lt)
        ∙ own (get_or vs m (s.node q m)) (s.node q m) (nat_eq p q) (nat_eq m m) (eq-eqb m m refl)
    by q m false e =
        let le : n ≤ m = ltb-false m n e in
        left-out turn s q m 0 n (omega arith)
        ∙ past (s.node q m) m (nat_eq p q) (omega (arith, h.column.full))

-- no loop is going on after that either
pub rest-renewed : (f : Setting) (old new : Going) → shape_of new.store ≡ shape_of old.store → new.store.undo ≡ old.store.undo → new.inner ≡ old.inner → new.outermost ≡ old.outermost → new.deferred ≡ old.deferred
    → AtRest f old → AtRest f new
rest-renewed f old new shape undo inner outermost deferred h = record {
  ready = ready-same f old new shape inner outermost deferred h.ready;
  quiet = undo ∙ h.quiet;
  inner = subst (λ (t : Totals). StandsFor t []) (sym inner) h.inner;
  outermost = subst (λ (t : Totals). StandsFor t []) (sym outermost) h.outermost;
  deferred = ap (λ v. v.items) deferred ∙ h.deferred;
}
