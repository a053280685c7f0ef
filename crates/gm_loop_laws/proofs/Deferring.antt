-- Deferred writes go to a property of their own.
use Rattle.std.proofs.Common.{◌≡◌, ◌≢◌, ◌<◌, ◌≤◌, arith, ℕ, zero, suc, Bool, true, false, cond, List, [], ◌∷◌, ◌++◌, map, filter, refl, sym, ap, subst, ◌∙◌, append-nil, Option, Some, None, Result, Ok, Err, ⊎_elim, inl, inr}
use Rattle.std.specs.Prelude.{◌&&◌, not, nat_eq}
use Rattle.std.proofs.lemmas.Bool.{cases_Bool, eq-eqb, eqb-true, ne_eqb, both_ways}
use Rattle.gm_base.specs.declared.places.Place.{Place}
use Rattle.gm_value.specs.declared.values.Value.{Value}
use Rattle.gm_value.specs.declared.values.Value.TheVariants.{At}
use Rattle.gm_value.specs.Bag.{IsIn}
use Rattle.gm_value.specs.Operations.{is_true}
use Rattle.gm_model.specs.Graphs.{node_count}
use Rattle.gm_ast.specs.declared.tree.Declaration.{Declaration}
use Rattle.gm_ast.specs.declared.tree.Key.{Key}
use Rattle.gm_ast.specs.declared.tree.TotalKey.{TotalKey}
use Rattle.gm_value.specs.declared.reductions.Reduce.{Reduce}
use Rattle.gm_ast.specs.declared.tree.Target.{Target}
use Rattle.gm_ast.specs.declared.tree.Target.TheVariants as T
use Rattle.gm_ast.specs.Ways.{is_in}
use Rattle.gm_ast.specs.Program.{Expr, Stmt, Skip, Then, Declare, DeclareEdge, Assign, Defer, Combine, Group, Foreach, For, If, While, Do, InBfs, InBfsBoth, Return}
use Rattle.gm_semantics.specs.declared.faults.Fault.{Fault}
use Rattle.gm_semantics.specs.declared.slots.Slot.{Slot}
use Rattle.gm_semantics.specs.declared.slots.Slot.TheVariants.{Scalar, Node}
use Rattle.gm_semantics.specs.declared.slots.Write.{Write}
use Rattle.gm_semantics.specs.Stores.{Store, slot_eq, has_slot, read, write, overlaid}
use Rattle.gm_semantics.specs.Levels.{numbers_from}
use Rattle.gm_semantics.specs.Faults.{then_with, unless_fault, joined}
use Rattle.gm_semantics.specs.Expressions.{View, Answer, Evaluated, node_of, settled, evaluated, evaluated_all, value}
use Rattle.gm_semantics.specs.Contributions.{Contribution}
use Rattle.gm_semantics.specs.Iterations.{Ends, AtOnce, WithInner, WithOutermost, Loop, Outermost, Iteration, begun, failed, unless_failed, go_on, with_ok, one_way, as_it_is, view_in, assigned, assigned_all, at_once, wrote, wrote_all, contribution, gave_inner, gave_outermost, deferred_to, reduced, ends_of_all, does}
use Rattle.gm_semantics.specs.Loops.{iteration}
use Rattle.gm_semantics.specs.Laws.{IsAt, Away}
use Rattle.gm_semantics.specs.Frames.{Agree, ReadsBelow, NamesBelow, SlotBelow, GivesBelow, Alike}
use Rattle.gm_semantics.proofs.ExpressionFrames.{agree-write, evaluated-frame}
use Rattle.gm_semantics.proofs.BodyFrames.{does-alike}
use Rattle.gm_forms.specs.Cut.{touched}
use Rattle.gm_forms.specs.Forms.{is_flat, is_outer_body}
use Rattle.gm_forms.specs.Sharing.{deferred}
use Rattle.gm_forms.specs.Fission.{is_nil}
use Rattle.gm_forms.specs.Doing.{EachSlot}
use Rattle.gm_forms.proofs.Named.{both-true}
use Rattle.gm_forms.proofs.Doings.{in-either, each-in}
use Rattle.gm_forms.proofs.Targets.{each-slot}
use Rattle.gm_forms.proofs.Takings.{filter-append}
use Rattle.gm_forms.proofs.ReadingFrames.{read-write, edge-write}
use Rattle.gm_loop_laws.specs.Deferring.{undeferred_to, undeferred, only_defers}
use Rattle.gm_loop_laws.proofs.Kept.{touched-below, Touch, body-did}
use Rattle.gm_loop_laws.proofs.Masks.{outer-held, not-in}

-- writes to other slots than those of a property
abbrev pub is_of : ℕ → Slot → Bool
is_of p (Scalar y) = false
is_of p (Node r k) = nat_eq r p

abbrev pub other : ℕ → Write → Bool
other p w = not (is_of p w.slot)

-- writes laid over a store
pub overlaid-append : (s : Store) (xs ys : List Write) → overlaid s (xs ++ ys) ≡ overlaid (overlaid s xs) ys
overlaid-append s [] ys = refl
overlaid-append s (x ∷ xs) ys = overlaid-append (write s x.slot x.value) xs ys

pub overlaid-edge : (s : Store) (ws : List Write) → (overlaid s ws).edge ≡ s.edge
overlaid-edge s [] = refl
overlaid-edge s (w ∷ ws) = overlaid-edge (write s w.slot w.value) ws ∙ edge-write s w.slot w.value

pub overlaid-base : (s t : Store) (ws : List Write) (slot : Slot) → read s slot ≡ read t slot → read (overlaid s ws) slot ≡ read (overlaid t ws) slot
overlaid-base s t [] slot h = h
overlaid-base s t (w ∷ ws) slot h =
    overlaid-base (write s w.slot w.value) (write t w.slot w.value) ws slot
    (read-write s w.slot slot w.value ∙ ap (λ v. cond (slot_eq w.slot slot) w.value v) h ∙ sym (read-write t w.slot slot w.value))

pub overlaid-away : (s : Store) (ws : List Write) (slot : Slot) → ((w : Write) → IsIn w ws → slot_eq w.slot slot ≡ false) → read (overlaid s ws) slot ≡ read s slot
overlaid-away s [] slot h = refl
overlaid-away s (w ∷ ws) slot h =
    overlaid-away (write s w.slot w.value) ws slot (λ z i. h z (inr i)) ∙ read-write s w.slot slot w.value ∙ ap (λ c. cond c w.value (read s slot)) (h w (inl refl))

-- without the writes to a property all else is the same
of-apart : (p : ℕ) (a b : Slot) → is_of p a ≡ true → is_of p b ≡ false → slot_eq a b ≡ false
of-apart p (Scalar y) b h g = absurd (both_ways false refl h)
of-apart p (Node r k) (Scalar y) h g = refl
of-apart p (Node r k) (Node o l) h g = ap (λ c. c && nat_eq k l) (ne_eqb r o (λ e. both_ways (nat_eq o p) g (ap (λ z. nat_eq z p) (sym e) ∙ h)))

pub overlaid-rest : (p : ℕ) (s t : Store) (ws : List Write) (slot : Slot) → is_of p slot ≡ false → read s slot ≡ read t slot → read (overlaid s (filter (other p) ws)) slot ≡ read (overlaid t ws) slot
overlaid-rest p s t [] slot h g = g
overlaid-rest p s t (w ∷ ws) slot h g = by (is_of p w.slot) refl (λ s' t' k. overlaid-rest p s' t' ws slot h k)
  where
    by : (c : Bool) → is_of p w.slot ≡ c → ((s' t' : Store) → read s' slot ≡ read t' slot → read (overlaid s' (filter (other p) ws)) slot ≡ read (overlaid t' ws) slot) →
        read (overlaid s (cond (not c) (w ∷ filter (other p) ws) (filter (other p) ws))) slot ≡ read (overlaid (write t w.slot w.value) ws) slot
    by true e more = more s (write t w.slot w.value) (g ∙ sym (read-write t w.slot slot w.value ∙ ap (λ c. cond c w.value (read t slot)) (of-apart p w.slot slot e h)))
    by false e more = more (write s w.slot w.value) (write t w.slot w.value) (read-write s w.slot slot w.value ∙ ap (λ v. cond (slot_eq w.slot slot) w.value v) g ∙ sym (read-write t w.slot slot w.value))

-- and nothing is written to it
pub overlaid-none : (p k : ℕ) (s : Store) (ws : List Write) → (overlaid s (filter (other p) ws)).node p k ≡ s.node p k
overlaid-none p k s [] = refl
overlaid-none p k s (w ∷ ws) = by (is_of p w.slot) refl (λ s'. overlaid-none p k s' ws)
  where
    apart : (slot : Slot) → is_of p slot ≡ false → slot_eq slot (Node p k) ≡ false
    apart (Scalar y) h = refl
    apart (Node r l) h = ap (λ c. c && nat_eq l k) h

    by : (c : Bool) → is_of p w.slot ≡ c → ((s' : Store) → (overlaid s' (filter (other p) ws)).node p k ≡ s'.node p k) → (overlaid s (cond (not c) (w ∷ filter (other p) ws) (filter (other p) ws))).node p k ≡ s.node p k
    by true e more = more s
    by false e more = more (write s w.slot w.value) ∙ read-write s w.slot (Node p k) w.value ∙ ap (λ c. cond c w.value (s.node p k)) (apart w.slot e)

-- writes at another node
at-apart : (x k p : ℕ) (slot : Slot) → IsAt x slot → x ≢ k → slot_eq slot (Node p k) ≡ false
at-apart x k p (Scalar y) h apart = absurd h
at-apart x k p (Node r l) h apart = by (nat_eq r p) (ne_eqb l k (λ e. apart (sym h ∙ e)))
  where
    by : (c : Bool) → nat_eq l k ≡ false → c && nat_eq l k ≡ false
    by true e = e
    by false e = refl

-- each node's writes are at that node
module _ (D : ℕ → List Write) (p k : ℕ) where
  abbrev Home : List ℕ → Type 0
  Home ks = (x : ℕ) → IsIn x ks → (w : Write) → IsIn w (D x) → IsAt x w.slot

  pub written-away : (ks : List ℕ) (s : Store) → Home ks → (IsIn k ks → ⊥) → (overlaid s (joined (map D ks))).node p k ≡ s.node p k
  written-away [] s home h = refl
  written-away (x ∷ ks) s home h =
      ap (λ (z : Store). z.node p k) (overlaid-append s (D x) (joined (map D ks)))
      ∙ written-away ks (overlaid s (D x)) (λ y i. home y (inr i)) (λ i. h (inr i))
      ∙ overlaid-away s (D x) (Node p k) (λ w i. at-apart x k p w.slot (home x (inl refl) w i) (λ e. h (inl (sym e))))

  on-from : (a c x : ℕ) → IsIn x (numbers_from a c) → a ≤ x
  on-from a zero x i = absurd i
  on-from a (suc c) x i = ⊎_elim (λ (e : x ≡ a). omega arith) (λ r. let b = on-from (suc a) c x r in omega arith) i

  pub written-at : (a c : ℕ) (s : Store) → Home (numbers_from a c) → IsIn k (numbers_from a c) → (overlaid s (joined (map D (numbers_from a c)))).node p k ≡ (overlaid s (D k)).node p k
  written-at a zero s home i = absurd i
  written-at a (suc c) s home i =
      ap (λ (z : Store). z.node p k) (overlaid-append s (D a) (joined (map D (numbers_from (suc a) c))))
      ∙ ⊎_elim
      (λ (e : k ≡ a).
      written-away (numbers_from (suc a) c) (overlaid s (D a)) (λ y m. home y (inr m)) (λ r. let b = on-from (suc a) c k r in let z : ⊥ = omega arith in z) ∙ ap (λ z. (overlaid s (D z)).node p k) (sym e))
      (λ r.
      let b = on-from (suc a) c k r in
      written-at (suc a) c (overlaid s (D a)) (λ y m. home y (inr m)) r
      ∙ overlaid-base (overlaid s (D a)) s (D k) (Node p k) (overlaid-away s (D a) (Node p k) (λ w m. at-apart a k p w.slot (home a (inl refl) w m) (λ e. omega arith))))
      i

-- what an iteration deferred before is no part of what a single statement does
abbrev with_deferred : List Write → Iteration → Iteration
with_deferred d it = record it { deferred = d }

carried-ok : {A : Type 0} (d : List Write) (it : Iteration) (r : Result A Fault) (f g : A → Iteration) → ((a : A) → f a ≡ with_deferred d (g a)) → with_ok (with_deferred d it) r f ≡ with_deferred d (with_ok it r g)
carried-ok d it (Ok a) f g h = h a
carried-ok d it (Err e) f g h = refl

-- an iteration and one that does not defer, at a node
module _ (j : ℕ) (ds : List Declaration) (loop : Loop) (p q x : ℕ) (t : Store) (iterates : loop.outer < j) (named : p < j) (fresh : j ≤ q) (less : x < node_count loop.graph) where
  abbrev n : ℕ
  n = loop.outer

  pub record Delayed (a b : Iteration) : Type 0 where
    pub store : Agree j a.store b.store
    pub with_inner : b.with_inner ≡ a.with_inner
    pub with_outermost : b.with_outermost ≡ a.with_outermost
    pub fault : b.fault ≡ a.fault
    pub inner_below : GivesBelow j a.with_inner
    pub outer_below : GivesBelow j a.with_outermost
    pub deferred : b.deferred ≡ filter (other p) a.deferred
    pub pending : b.store.node q x ≡ (overlaid t a.deferred).node p x
    pub now : a.store.node p x ≡ t.node p x
    pub home : (w : Write) → IsIn w a.deferred → IsAt x w.slot × SlotBelow j w.slot
    pub held : a.store.scalar n ≡ At (Some x)
    pub away : (y : ℕ) → Away (Node p y) a.with_outermost

  delayed-failed : (a b : Iteration) (f : Fault) → Delayed a b → Delayed (failed a f) (failed b f)
  delayed-failed a b f l = record { store = l.store; with_inner = l.with_inner; with_outermost = l.with_outermost; fault = refl; inner_below = l.inner_below; outer_below = l.outer_below; deferred = l.deferred; pending = l.pending; now = l.now; home = l.home; held = l.held; away = l.away }

  held-too : (a b : Iteration) → Delayed a b → b.store.scalar n ≡ At (Some x)
  held-too a b l = l.store.scalar n iterates ∙ l.held

  -- a statement by itself, which does not defer
  module _ (s : Stmt) (names : NamesBelow j s) (form : is_outer_body ds false n s ≡ true) (none : is_nil (deferred s) ≡ true) (quiet : not (is_in (touched s) n) && not (is_in (touched s) p) ≡ true)
      (carried : (d : List Write) (it : Iteration) → does s Outermost loop (with_deferred d it) ≡ with_deferred d (does s Outermost loop it)) where
    off-iterator : IsIn n (touched s) → ⊥
    off-iterator = not-in (touched s) n (both-true (not (is_in (touched s) n)) (not (is_in (touched s) p)) quiet).0

    off-property : IsIn p (touched s) → ⊥
    off-property = not-in (touched s) p (both-true (not (is_in (touched s) n)) (not (is_in (touched s) p)) quiet).1

    off-fresh : IsIn q (touched s) → ⊥
    off-fresh i = let b = touched-below j s names q i in omega arith

    leaf-step : (a b : Iteration) → a.fault ≡ None → Delayed a b → Delayed (does s Outermost loop a) (does s Outermost loop b)
    leaf-step a b fine l =
        let da = body-did ds loop x (touched s) off-iterator s a form none (λ y i. i) l.held fine in
        let db = body-did ds loop x (touched s) off-iterator s b form none (λ y i. i) (held-too a b l) (l.fault ∙ fine) in
        let moved : Alike j a (with_deferred a.deferred b) = record { store = l.store; with_inner = l.with_inner; with_outermost = l.with_outermost; deferred = refl; fault = l.fault; inner_below = l.inner_below; outermost_below = l.outer_below } in
        let alike = subst (Alike j (does s Outermost loop a)) (carried a.deferred b) (does-alike j s Outermost loop a (with_deferred a.deferred b) names moved) in
        record {
          store = alike.store;
          with_inner = alike.with_inner;
          with_outermost = alike.with_outermost;
          fault = alike.fault;
          inner_below = alike.inner_below;
          outer_below = alike.outermost_below;
          deferred = db.0.deferred ∙ l.deferred ∙ sym (ap (filter (other p)) da.0.deferred);
          pending = ⊎_elim (λ (e : (does s Outermost loop b).store.node q x ≡ b.store.node q x). e) (λ i. absurd (off-fresh i)) (db.0.slots (Node q x)) ∙ l.pending ∙ sym (ap (λ ws. (overlaid t ws).node p x) da.0.deferred);
          now = ⊎_elim (λ (e : (does s Outermost loop a).store.node p x ≡ a.store.node p x). e) (λ i. absurd (off-property i)) (da.0.slots (Node p x)) ∙ l.now;
          home = λ w i. l.home w (subst (IsIn w) da.0.deferred i);
          held = da.1;
          away = λ y c i. ⊎_elim (λ k. l.away y c k) (λ k. clear y c.slots (each-in (λ (c : Contribution). EachSlot (Touch ds loop x (touched s) off-iterator) c.slots) da.0.outermost.more c da.0.outermost.each k))
              (in-either c a.with_outermost da.0.outermost.more (subst (IsIn c) da.0.outermost.is i));
        }
      where
        clear : (y : ℕ) (slots : List Slot) → EachSlot (Touch ds loop x (touched s) off-iterator) slots → has_slot (Node p y) slots ≡ false
        clear y slots each =
            ⊎_elim (λ (has : has_slot (Node p y) slots ≡ true). absurd (off-property (each-slot (Touch ds loop x (touched s) off-iterator) slots each (Node p y) has))) (λ e. e) (cases_Bool (has_slot (Node p y) slots))

  carried-reduced : (e : Ends) (w : View) (total : TotalKey) (r : Reduce) (ts : List Target) (es : List Expr) (d : List Write) (it : Iteration) →
      reduced e w (with_deferred d it) total r ts es ≡ with_deferred d (reduced e w it total r ts es)
  carried-reduced AtOnce w total r ts es d it = carried-ok d it (at_once w total.place r ts es) (wrote_all (with_deferred d it)) (wrote_all it) (λ v. refl)
  carried-reduced WithInner w total r ts es d it = carried-ok d it (assigned_all w ts (evaluated_all es w)) (λ p. gave_inner (with_deferred d it) (contribution total r p)) (λ p. gave_inner it (contribution total r p)) (λ v. refl)
  carried-reduced WithOutermost w total r ts es d it = carried-ok d it (assigned_all w ts (evaluated_all es w)) (λ p. gave_outermost (with_deferred d it) (contribution total r p)) (λ p. gave_outermost it (contribution total r p)) (λ v. refl)

  -- a write at the node
  home-assigned : (it : Iteration) (key : Key) (y r : ℕ) (at : Place) (v : Evaluated) → it.store.scalar n ≡ At (Some x) → nat_eq y n ≡ true → assigned (view_in loop Outermost it key) (T.Property y r at) v ≡ then_with (settled v) (λ z. Ok (Node r x, z))
  home-assigned it key y r at v holds e =
      let w = view_in loop Outermost it key in
      ap (λ (o : Result ℕ Fault). unless_fault v.hoisted (then_with (then_with o (λ k. Ok (Node r k))) (λ s. then_with v.rest (λ z. Ok (s, z))))) (node (node_of w y at) (outer-held loop Outermost it key x less holds y at (λ k. At (Some k)) e))
      ∙ by v.hoisted v.rest
    where
      node : (o : Result ℕ Fault) → then_with o (λ k. Ok (At (Some k))) ≡ Ok (At (Some x)) → o ≡ Ok x
      node (Ok k) h = let same : k ≡ x = cc in ap Ok same
      node (Err f) h = absurd (cc)

      by : (h : Option Fault) (r' : Answer) → unless_fault h (then_with r' (λ z. let p : Slot × Value = (Node r x, z) in let o : Result (Slot × Value) Fault = Ok p in o)) ≡ then_with (unless_fault h r') (λ z. Ok (Node r x, z))
      by (Some f) r' = refl
      by None (Ok z) = refl
      by None (Err f) = refl

  here : (r : ℕ) (b : Bool) (v o : Value) → nat_eq r p ≡ b → cond (nat_eq r p && nat_eq x x) v o ≡ cond b v o
  here r b v o e = ap (λ c. cond (c && nat_eq x x) v o) e ∙ by b
    where
      by : (b : Bool) → cond (b && nat_eq x x) v o ≡ cond b v o
      by true = ap (λ c. cond c v o) (eq-eqb x x refl)
      by false = refl

  one-more : (a : Iteration) (r : ℕ) (v : Value) (b : Bool) → nat_eq r p ≡ b → (overlaid t (a.deferred ++ record { slot = Node r x; value = v } ∷ [])).node p x ≡ cond b v ((overlaid t a.deferred).node p x)
  one-more a r v b e = ap (λ (s : Store). s.node p x) (overlaid-append t a.deferred (record { slot = Node r x; value = v } ∷ [])) ∙ here r b v ((overlaid t a.deferred).node p x) e

  home-more : (a : Iteration) (r : ℕ) (v : Value) → r < j → ((w : Write) → IsIn w a.deferred → IsAt x w.slot × SlotBelow j w.slot) → (w : Write) → IsIn w (a.deferred ++ record { slot = Node r x; value = v } ∷ []) → IsAt x w.slot × SlotBelow j w.slot
  home-more a r v below h w i =
      ⊎_elim (λ l. h w l)
      (λ m. ⊎_elim (λ (e : w ≡ record { slot = Node r x; value = v }). subst (λ (s : Slot). IsAt x s × SlotBelow j s) (sym (ap (λ (z : Write). z.slot) e)) (refl, below)) (λ n. absurd n) m)
      (in-either w a.deferred (record { slot = Node r x; value = v } ∷ []) i)

  -- a deferred write to the property
  delayed-moved : (a b : Iteration) (r : ℕ) (v : Value) → nat_eq r p ≡ true → Delayed a b → Delayed (deferred_to a (Node r x, v)) (wrote b (Node q x, v))
  delayed-moved a b r v e l = record {
    store = record { scalar = l.store.scalar; node = λ o y c. ap (λ z. cond (z && nat_eq x y) v (b.store.node o y)) (ne_eqb q o (λ h. omega arith)) ∙ l.store.node o y c; edge = l.store.edge };
    with_inner = l.with_inner;
    with_outermost = l.with_outermost;
    fault = l.fault;
    inner_below = l.inner_below;
    outer_below = l.outer_below;
    deferred = l.deferred
        ∙ sym (filter-append (other p) a.deferred (record { slot = Node r x; value = v } ∷ []) ∙ ap (λ c. filter (other p) a.deferred ++ cond (not c) (record { slot = Node r x; value = v } ∷ []) []) e ∙ append-nil (filter (other p) a.deferred));
    pending = ap (λ c. cond (c && nat_eq x x) v (b.store.node q x)) (eq-eqb q q refl) ∙ ap (λ c. cond c v (b.store.node q x)) (eq-eqb x x refl) ∙ sym (one-more a r v true e);
    now = l.now;
    home = home-more a r v (let is = eqb-true r p e in omega arith) l.home;
    held = l.held;
    away = l.away;
  }

  -- and one to another
  delayed-kept : (a b : Iteration) (r : ℕ) (v : Value) → nat_eq r p ≡ false → r < j → Delayed a b → Delayed (deferred_to a (Node r x, v)) (deferred_to b (Node r x, v))
  delayed-kept a b r v e below l = record {
    store = l.store;
    with_inner = l.with_inner;
    with_outermost = l.with_outermost;
    fault = l.fault;
    inner_below = l.inner_below;
    outer_below = l.outer_below;
    deferred = ap (λ ws. ws ++ record { slot = Node r x; value = v } ∷ []) l.deferred
        ∙ sym (filter-append (other p) a.deferred (record { slot = Node r x; value = v } ∷ []) ∙ ap (λ c. filter (other p) a.deferred ++ cond (not c) (record { slot = Node r x; value = v } ∷ []) []) e);
    pending = l.pending ∙ sym (one-more a r v false e);
    now = l.now;
    home = home-more a r v below l.home;
    held = l.held;
    away = l.away;
  }

  same-value : (a b : Iteration) (key : Key) (e : Expr) → ReadsBelow j e → Delayed a b → value e (view_in loop Outermost b key) ≡ value e (view_in loop Outermost a key)
  same-value a b key e r l = ap settled (evaluated-frame j e (view_in loop Outermost a key) b.store r l.store)

  defer-step : (key : Key) (y r : ℕ) (at : Place) (e : Expr) (a b : Iteration) → r < j → ReadsBelow j e → nat_eq y n ≡ true → Delayed a b →
      Delayed (does (Defer key (T.Property y r at) e) Outermost loop a) (does (undeferred_to p q key (T.Property y r at) e) Outermost loop b)
  defer-step key y r at e a b below reads own l = by (nat_eq r p) refl
    where
      moved-way : nat_eq r p ≡ true → (v : Answer) → Delayed (with_ok a (then_with v (λ z. Ok (Node r x, z))) (deferred_to a)) (with_ok b (then_with v (λ z. Ok (Node q x, z))) (wrote b))
      moved-way c (Ok v) = delayed-moved a b r v c l
      moved-way c (Err f) = delayed-failed a b f l

      kept-way : nat_eq r p ≡ false → (v : Answer) → Delayed (with_ok a (then_with v (λ z. Ok (Node r x, z))) (deferred_to a)) (with_ok b (then_with v (λ z. Ok (Node r x, z))) (deferred_to b))
      kept-way c (Ok v) = delayed-kept a b r v c below l
      kept-way c (Err f) = delayed-failed a b f l

      here-a : assigned (view_in loop Outermost a key) (T.Property y r at) (evaluated e (view_in loop Outermost a key)) ≡ then_with (value e (view_in loop Outermost a key)) (λ z. Ok (Node r x, z))
      here-a = home-assigned a key y r at (evaluated e (view_in loop Outermost a key)) l.held own

      here-b : (o : ℕ) → assigned (view_in loop Outermost b key) (T.Property y o at) (evaluated e (view_in loop Outermost b key)) ≡ then_with (value e (view_in loop Outermost a key)) (λ z. Ok (Node o x, z))
      here-b o = home-assigned b key y o at (evaluated e (view_in loop Outermost b key)) (held-too a b l) own ∙ ap (λ v. then_with v (λ z. Ok (Node o x, z))) (same-value a b key e reads l)

      by : (c : Bool) → nat_eq r p ≡ c → Delayed (does (Defer key (T.Property y r at) e) Outermost loop a) (does (cond c (Assign key (T.Property y q at) e) (Defer key (T.Property y r at) e)) Outermost loop b)
      by true c =
          subst (λ z. Delayed (with_ok a z (deferred_to a)) (with_ok b (assigned (view_in loop Outermost b key) (T.Property y q at) (evaluated e (view_in loop Outermost b key))) (wrote b))) (sym here-a)
          (subst (λ z. Delayed (with_ok a (then_with (value e (view_in loop Outermost a key)) (λ z. Ok (Node r x, z))) (deferred_to a)) (with_ok b z (wrote b))) (sym (here-b q)) (moved-way c (value e (view_in loop Outermost a key))))
      by false c =
          subst (λ z. Delayed (with_ok a z (deferred_to a)) (with_ok b (assigned (view_in loop Outermost b key) (T.Property y r at) (evaluated e (view_in loop Outermost b key))) (deferred_to b))) (sym here-a)
          (subst (λ z. Delayed (with_ok a (then_with (value e (view_in loop Outermost a key)) (λ z. Ok (Node r x, z))) (deferred_to a)) (with_ok b z (deferred_to b))) (sym (here-b r)) (kept-way c (value e (view_in loop Outermost a key))))

  delayed-way : (v : Bool) (f g f' g' : Iteration → Iteration) (a b : Iteration) → Delayed (f a) (f' b) → Delayed (g a) (g' b) → Delayed (one_way v f g a) (one_way v f' g' b)
  delayed-way true f g f' g' a b h i = h
  delayed-way false f g f' g' a b h i = i

  pub delayed : (s : Stmt) (a b : Iteration) → NamesBelow j s → is_outer_body ds false n s ≡ true → only_defers n p s ≡ true → a.fault ≡ None → Delayed a b → Delayed (does s Outermost loop a) (does (undeferred p q s) Outermost loop b)
  delayed Skip a b c g h fine l = l
  delayed (Then s r) a b c g h fine l =
      let o = both-true (is_outer_body ds false n s) (is_outer_body ds false n r) g in
      let u = both-true (only_defers n p s) (only_defers n p r) h in
      let first = delayed s a b c.0 o.0 u.0 fine l in
      subst (λ z. Delayed (go_on (does s Outermost loop a) (does r Outermost loop)) (unless_failed z (does (undeferred p q s) Outermost loop b) (does (undeferred p q r) Outermost loop))) (sym first.fault)
      (by (does s Outermost loop a) (does (undeferred p q s) Outermost loop b) (does s Outermost loop a).fault refl first (λ e. delayed r (does s Outermost loop a) (does (undeferred p q s) Outermost loop b) c.1 o.1 u.1 e first))
    where
      by : (i k : Iteration) (z : Option Fault) → i.fault ≡ z → Delayed i k → (i.fault ≡ None → Delayed (does r Outermost loop i) (does (undeferred p q r) Outermost loop k)) → Delayed (unless_failed z i (does r Outermost loop)) (unless_failed z k (does (undeferred p q r) Outermost loop))
      by i k None e first more = more e
      by i k (Some f) e first more = first
  delayed (Declare key y None) a b c g h fine l = leaf-step (Declare key y None) c g refl h (λ d it. refl) a b fine l
  delayed (Declare key y (Some e)) a b c g h fine l =
      leaf-step (Declare key y (Some e)) c g refl h (λ d it. carried-ok d it (value e (view_in loop Outermost it key)) (λ v. wrote (with_deferred d it) (Scalar y, v)) (λ v. wrote it (Scalar y, v)) (λ v. refl)) a b fine l
  delayed (DeclareEdge y z at) a b c g h fine l = l
  delayed (Assign key o e) a b c g h fine l =
      leaf-step (Assign key o e) c g refl h (λ d it. let w = view_in loop Outermost it key in carried-ok d it (assigned w o (evaluated e w)) (wrote (with_deferred d it)) (wrote it) (λ v. refl)) a b fine l
  delayed (Defer key (T.Scalar y at) e) a b c g h fine l = absurd (both_ways false refl g)
  delayed (Defer key (T.Property y r at) e) a b c g h fine l = let o = both-true (nat_eq y n) (is_flat (n ∷ []) false e) g in defer-step key y r at e a b c.0.1 c.1 o.0 l
  delayed (Combine key total r ts es) a b c g h fine l =
      leaf-step (Combine key total r ts es) c g refl h (λ d it. carried-reduced (ends_of_all Outermost loop ts) (view_in loop Outermost it key) total r ts es d it) a b fine l
  delayed (Group key at y o e) a b c g h fine l = l
  delayed (Foreach key at head test body) a b c g h fine l = leaf-step (Foreach key at head test body) c g refl h (λ d it. refl) a b fine l
  delayed (For key at head test body) a b c g h fine l = l
  delayed (If key e s r) a b c g h fine l =
      let o = both-true (is_flat (n ∷ []) false e) (is_outer_body ds false n s && is_outer_body ds false n r) g in
      let v = both-true (is_outer_body ds false n s) (is_outer_body ds false n r) o.1 in
      let u = both-true (only_defers n p s) (only_defers n p r) h in
      subst (λ z. Delayed (does (If key e s r) Outermost loop a) (with_ok b z (λ v. one_way (is_true v) (does (undeferred p q s) Outermost loop) (does (undeferred p q r) Outermost loop) b))) (sym (same-value a b key e c.0 l))
      (by (value e (view_in loop Outermost a key)) (delayed s a b c.1 v.0 u.0 fine l) (delayed r a b c.2 v.1 u.1 fine l))
    where
      by : (z : Answer) → Delayed (does s Outermost loop a) (does (undeferred p q s) Outermost loop b) → Delayed (does r Outermost loop a) (does (undeferred p q r) Outermost loop b) →
          Delayed (with_ok a z (λ v. one_way (is_true v) (does s Outermost loop) (does r Outermost loop) a)) (with_ok b z (λ v. one_way (is_true v) (does (undeferred p q s) Outermost loop) (does (undeferred p q r) Outermost loop) b))
      by (Ok v) one two = delayed-way (is_true v) (does s Outermost loop) (does r Outermost loop) (does (undeferred p q s) Outermost loop) (does (undeferred p q r) Outermost loop) a b one two
      by (Err f) one two = delayed-failed a b f l
  delayed (While key at e body) a b c g h fine l = l
  delayed (Do key at body e) a b c g h fine l = l
  delayed (InBfs key at head e body) a b c g h fine l = l
  delayed (InBfsBoth key at head e body back_key d back) a b c g h fine l = l
  delayed (Return key at e) a b c g h fine l = l

  -- an iteration at the node
  pub delayed-iteration : (key : Key) (test : Expr) (body : Stmt) (u : Store) → ReadsBelow j test → NamesBelow j body → is_outer_body ds false n body ≡ true → only_defers n p body ≡ true → Agree j t u → u.node q x ≡ t.node p x →
      Delayed (iteration loop key test body t x) (iteration loop key test (undeferred p q body) u x)
  delayed-iteration key test body u reads names form alone agree there =
      let a = begun (write t (Scalar n) (At (Some x))) in
      let b = begun (write u (Scalar n) (At (Some x))) in
      let l : Delayed a b = record {
        store = agree-write j t u (Scalar n) (At (Some x)) agree;
        with_inner = refl;
        with_outermost = refl;
        fault = refl;
        inner_below = tt;
        outer_below = tt;
        deferred = refl;
        pending = there;
        now = refl;
        home = λ w i. absurd i;
        held = ap (λ c. cond c (At (Some x)) (t.scalar n)) (eq-eqb n n refl);
        away = λ y c i. absurd i;
      } in
      subst (λ z. Delayed (iteration loop key test body t x) (with_ok b z (λ v. one_way (is_true v) (does (undeferred p q body) Outermost loop) as_it_is b))) (sym (same-value a b key test reads l))
      (by a b (value test (view_in loop Outermost a key)) l (delayed body a b names form alone refl l))
    where
      by : (a b : Iteration) (z : Answer) → Delayed a b → Delayed (does body Outermost loop a) (does (undeferred p q body) Outermost loop b) →
          Delayed (with_ok a z (λ v. one_way (is_true v) (does body Outermost loop) as_it_is a)) (with_ok b z (λ v. one_way (is_true v) (does (undeferred p q body) Outermost loop) as_it_is b))
      by a b (Ok v) l m = delayed-way (is_true v) (does body Outermost loop) as_it_is (does (undeferred p q body) Outermost loop) as_it_is a b m l
      by a b (Err f) l m = delayed-failed a b f l
