-- Writes to several slots, and reduction assignments to several targets.
use Rattle.std.proofs.Common.{◌≡◌, ◌+◌, ◌<◌, ◌≤◌, ◌∙◌, ℕ, zero, suc, List, [], ◌∷◌, length, get_or, take, map, Result, Ok, Err, refl, ap, sym, arith}
use Rattle.std.specs.Prelude.{All, min}
use Rattle.gm_base.specs.declared.places.Place.{Place}
use Rattle.gm_value.specs.declared.reductions.Reduce.{Reduce}
use Rattle.gm_value.specs.declared.values.Value.{Value}
use Rattle.gm_model.specs.Graphs.{node_count}
use Rattle.gm_ast.specs.declared.tree.Expr as E
use Rattle.gm_ast.specs.declared.tree.Target.{Target}
use Rattle.gm_ast.specs.Tree.{expr_of}
use Rattle.gm_semantics.specs.declared.faults.Fault.{Fault}
use Rattle.gm_semantics.specs.declared.slots.Slot.{Slot}
use Rattle.gm_semantics.specs.Stores.{Store, write, write_all}
use Rattle.gm_semantics.specs.Expressions.{View}
use Rattle.gm_semantics.specs.Iterations.{alone, at_once, together}
use Rattle.gm_semantics.specs.Statements.{State, writes, writes_all}
use Rattle.gm_store.specs.Held.{Held, HasSlot, shape_of}
use Rattle.gm_loops.specs.declared.sights.Setting.{Setting}
use Rattle.gm_loops.specs.Sights.{Fits}
use Rattle.gm_loops.specs.Targets.{room, AreSeveral}
use Rattle.gm_loops.proofs.Effects.{slot-fits}

-- one write more
write-one : (s : Store) (xs : List Slot) (vs : List Value) (k : ℕ) (x : Slot) (v : Value) → k < length xs → k < length vs
    → write_all s (take (suc k) xs) (take (suc k) vs) ≡ write (write_all s (take k xs) (take k vs)) (get_or xs k x) (get_or vs k v)
write-one s [] vs k x v p q = absurd (omega arith)
write-one s (y ∷ ys) [] k x v p q = absurd (omega arith)
write-one s (y ∷ ys) (u ∷ us) zero x v p q = refl
write-one s (y ∷ ys) (u ∷ us) (suc k) x v p q = write-one (write s y u) ys us k x v (omega arith) (omega arith)

pub write-next : (s t new : Store) (xs : List Slot) (vs : List Value) (k : ℕ) (x : Slot) (v : Value) → k < length xs → k < length vs
    → t ≡ write_all s (take k xs) (take k vs) → new ≡ write t (get_or xs k x) (get_or vs k v) → new ≡ write_all s (take (k + 1) xs) (take (k + 1) vs)
write-next s t new xs vs k x v p q so_far next =
    let more : suc k ≡ k + 1 = omega arith in
    next ∙ ap (λ (u : Store). write u (get_or xs k x) (get_or vs k v)) so_far ∙ sym (write-one s xs vs k x v p q) ∙ ap (λ (n : ℕ). write_all s (take n xs) (take n vs)) more

-- all are written where the slots or the values end
pub write-end : (s : Store) (xs : List Slot) (vs : List Value) (k : ℕ) → min (length xs) (length vs) ≤ k → write_all s (take k xs) (take k vs) ≡ write_all s xs vs
write-end s [] vs zero le = refl
write-end s [] vs (suc k) le = refl
write-end s (x ∷ xs) [] zero le = refl
write-end s (x ∷ xs) [] (suc k) le = refl
write-end s (x ∷ xs) (v ∷ vs) zero le = absurd (omega arith)
write-end s (x ∷ xs) (v ∷ vs) (suc k) le = write-end (write s x v) xs vs k (omega arith)

-- one slot is written as it is alone
pub writes-alone : (s : State) (a : Result (Slot × Value) Fault) → writes s a ≡ writes_all s (alone a)
writes-alone s (Ok p) = refl
writes-alone s (Err f) = refl

-- several targets take their values together
pub several-together : (w : View) (at : Place) (r : Reduce) (ts : List Target) (es : List E.Expr) → AreSeveral ts es → together w at r ts (map expr_of es) ≡ at_once w at r ts (map expr_of es)
several-together w at r [] es h = refl
several-together w at r (t ∷ []) [] h = refl
several-together w at r (t ∷ []) (e ∷ []) h = absurd h
several-together w at r (t ∷ []) (e ∷ d ∷ es) h = refl
several-together w at r (t ∷ u ∷ ts) es h = refl

-- slots within a bound are slots of a store with at least that room
pub slots-fit : (f : Setting) (h : Held) (bound : ℕ) (slots : List Slot) → Fits f h → bound ≤ f.variables → All (HasSlot (room (node_count f.graph.now) bound)) slots → All (HasSlot (shape_of h)) slots
slots-fit f h bound slots fits le known = λ i d lt. slot-fits f h bound (get_or slots i d) fits le (known i d lt)
