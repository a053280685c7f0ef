-- The law of deferred writes.
use Rattle.std.proofs.Common.{◌≡◌, ◌<◌, ◌≤◌, arith, ℕ, Bool, true, false, cond, List, [], ◌∷◌, ◌++◌, map, filter, refl, sym, ap, subst, ◌∙◌, Option, Some, None, Result, Ok, Err, ⊎_elim}
use Rattle.std.proofs.Math.Path.{fun_ext}
use Rattle.std.specs.Prelude.{◌&&◌, ◌||◌, nat_eq}
use Rattle.std.proofs.lemmas.Bool.{eq-eqb, eqb-true, ne_eqb, both_ways}
use Rattle.gm_base.specs.declared.places.Place.{Place}
use Rattle.gm_value.specs.Bag.{IsIn}
use Rattle.gm_model.specs.Graphs.{node_count}
use Rattle.gm_ast.specs.declared.tree.Declaration.{Declaration}
use Rattle.gm_ast.specs.declared.tree.Key.{Key}
use Rattle.gm_ast.specs.declared.tree.Target.TheVariants as T
use Rattle.gm_ast.specs.Ways.{is_in}
use Rattle.gm_ast.specs.Program.{Expr, Property, always, Stmt, Assign}
use Rattle.gm_semantics.specs.declared.faults.Fault.{Fault}
use Rattle.gm_semantics.specs.declared.slots.Slot.{Slot}
use Rattle.gm_semantics.specs.declared.slots.Slot.TheVariants.{Scalar, Node}
use Rattle.gm_semantics.specs.declared.slots.Write.{Write}
use Rattle.gm_semantics.specs.Stores.{Store, slot_eq, has_slot, overlaid}
use Rattle.gm_semantics.specs.Levels.{nodes}
use Rattle.gm_semantics.specs.Faults.{least, then_with, unless_fault, somes, joined}
use Rattle.gm_semantics.specs.Expressions.{evaluated, plain}
use Rattle.gm_semantics.specs.Contributions.{Contribution, settled_store, total_faults}
use Rattle.gm_semantics.specs.Iterations.{Loop, Iteration, begun, Outermost}
use Rattle.gm_semantics.specs.Loops.{iteration, left_at, own_left, loop_done}
use Rattle.gm_semantics.specs.Laws.{IsAt, Away}
use Rattle.gm_semantics.specs.Frames.{Agree, ReadsBelow, NamesBelow, SlotBelow, SlotsBelow, GivesBelow, AlikeStores}
use Rattle.gm_semantics.proofs.ContributionLaws.{IsIn-filter}
use Rattle.gm_semantics.proofs.TargetLaws.{value-away}
use Rattle.gm_forms.specs.Forms.{is_outer_body}
use Rattle.gm_forms.proofs.Cuts.{left_at-in, placed}
use Rattle.gm_forms.proofs.CutTests.{found, finds}
use Rattle.gm_loop_laws.specs.Masks.{looped, in_turn}
use Rattle.gm_loop_laws.specs.Deferring.{undeferred, only_defers, DefersMove}
use Rattle.gm_loop_laws.proofs.Joins.{map-compose, filter-joined}
use Rattle.gm_loop_laws.proofs.LoopEnds.{in-joined}
use Rattle.gm_loop_laws.proofs.Alone.{nodes-below}
use Rattle.gm_loop_laws.proofs.Masks.{alike-trans, loop-same, outer-held, start, start-held, seen}
use Rattle.gm_loop_laws.proofs.Endings.{done-alike}
use Rattle.gm_loop_laws.proofs.Setting.{put, sets, any-keys, put-there, put-other, put-outside}
use Rattle.gm_loop_laws.proofs.Deferring.{other, overlaid-edge, overlaid-base, overlaid-away, overlaid-rest, overlaid-none, written-away, written-at, Delayed, delayed-iteration}

-- a property of the node in the iterator
property-known : (loop : Loop) (key : Key) (r : ℕ) (at : Place) (s : Store) (x : ℕ) → IsIn x (nodes loop.graph) → evaluated (Property loop.outer r at) (seen loop key s x) ≡ plain (Ok (s.node r x))
property-known loop key r at s x i = ap plain (outer-held loop Outermost (begun (start loop key s x)) key x (nodes-below loop.graph x i) (start-held loop key s x) loop.outer at (s.node r) (eq-eqb loop.outer loop.outer refl))

-- slots below a number are not those of a property that is not
off-below : (j q y : ℕ) (slot : Slot) → j ≤ q → SlotBelow j slot → slot_eq slot (Node q y) ≡ false
off-below j q y (Scalar z) h b = refl
off-below j q y (Node p k) h b = ap (λ c. c && nat_eq k y) (ne_eqb p q (λ e. omega arith))

has-below : (j q y : ℕ) (slots : List Slot) → j ≤ q → SlotsBelow j slots → has_slot (Node q y) slots ≡ false
has-below j q y [] h b = refl
has-below j q y (slot ∷ slots) h b = ap (λ c. c || has_slot (Node q y) slots) (turned slot b.0) ∙ has-below j q y slots h b.1
  where
    turned : (slot : Slot) → SlotBelow j slot → slot_eq (Node q y) slot ≡ false
    turned (Scalar z) b = refl
    turned (Node p k) b = ap (λ c. c && nat_eq y k) (ne_eqb q p (λ e. omega arith))

given-away : (j q y : ℕ) (cs : List Contribution) → j ≤ q → GivesBelow j cs → Away (Node q y) cs
given-away j q y [] h b c i = absurd i
given-away j q y (d ∷ cs) h b c i = ⊎_elim (λ (e : c ≡ d). ap (λ (z : Contribution). has_slot (Node q y) z.slots) e ∙ has-below j q y d.slots h b.0) (λ r. given-away j q y cs h b.1 c r) i

unless-ok : (o : Option Fault) (u v : Store) → unless_fault o (Ok u) ≡ Ok v → u ≡ v
unless-ok None u v h = cc
unless-ok (Some f) u v h = absurd (cc)

module _ (j : ℕ) (ds : List Declaration) (loop : Loop) (p q : ℕ) (key : Key) (at : Place) (test : Expr) (body : Stmt) (iterates : loop.outer < j) (named : p < j) (fresh : j ≤ q) (reads : ReadsBelow j test) (names : NamesBelow j body)
    (form : is_outer_body ds false loop.outer body ≡ true) (alone : only_defers loop.outer p body ≡ true) (t : Store) where
  abbrev n : ℕ
  n = loop.outer

  abbrev ks : List ℕ
  ks = nodes loop.graph

  -- the store in which the fresh property is the other
  abbrev u : Store
  u = put loop key q at (Property n p at) t (t.node p) (property-known loop key p at t)

  agree : Agree j t u
  agree = record { scalar = λ y b. refl; node = λ r y b. put-other loop key q at (Property n p at) t (t.node p) (property-known loop key p at t) r y (ne_eqb q r (λ e. omega arith)); edge = λ r e b. refl }

  abbrev f : ℕ → Iteration
  f x = iteration loop key test body t x

  abbrev g : ℕ → Iteration
  g x = iteration loop key test (undeferred p q body) u x

  abbrev i0 : ℕ → Iteration
  i0 x = record (iteration loop key test body t x) { deferred = filter (other p) (iteration loop key test body t x).deferred }

  run : (x : ℕ) (i : IsIn x ks) → Delayed j ds loop p q x t iterates named fresh (nodes-below loop.graph x i) (f x) (g x)
  run x i = delayed-iteration j ds loop p q x t iterates named fresh (nodes-below loop.graph x i) key test body u reads names form alone agree (put-there loop key q at (Property n p at) t (t.node p) (property-known loop key p at t) x i)

  alike : AlikeStores j (loop_done t ks (map i0 ks)) (loop_done u ks (map g ks))
  alike = done-alike j i0 g ks t u (λ x i. let l = run x i in record { node = λ r y b. l.store.node r y b; with_outermost = l.with_outermost; deferred = l.deferred; fault = l.fault; below = l.outer_below }) agree

  -- the loop's own parts
  abbrev own : Store
  own = own_left t ks (map f ks)

  abbrev cs : List Contribution
  cs = joined (map (λ it. it.with_outermost) (map f ks))

  abbrev ws : List Write
  ws = joined (map (λ it. it.deferred) (map f ks))

  abbrev settles : Store
  settles = settled_store own cs

  abbrev o : Option Fault
  o = least (somes (map (λ it. it.fault) (map f ks)) ++ total_faults own cs)

  left-same : (zs : List ℕ) (r y : ℕ) → left_at zs (map i0 zs) t r y ≡ left_at zs (map f zs) t r y
  left-same [] r y = refl
  left-same (z ∷ zs) r y = ap (λ v. cond (nat_eq z y) ((f z).store.node r y) v) (left-same zs r y)

  given-same : (zs : List ℕ) → joined (map (λ (it : Iteration). it.with_outermost) (map i0 zs)) ≡ joined (map (λ (it : Iteration). it.with_outermost) (map f zs))
  given-same [] = refl
  given-same (z ∷ zs) = ap (λ l. (f z).with_outermost ++ l) (given-same zs)

  faults-same : (zs : List ℕ) → map (λ (it : Iteration). it.fault) (map i0 zs) ≡ map (λ (it : Iteration). it.fault) (map f zs)
  faults-same [] = refl
  faults-same (z ∷ zs) = ap (λ l. (f z).fault ∷ l) (faults-same zs)

  deferred-same : joined (map (λ (it : Iteration). it.deferred) (map i0 ks)) ≡ filter (other p) ws
  deferred-same =
      ap joined (map-compose (λ (it : Iteration). it.deferred) i0 ks)
      ∙ sym (filter-joined (other p) (map (λ (it : Iteration). it.deferred) (map f ks))
      ∙ ap (λ l. joined (map (filter (other p)) l)) (map-compose (λ (it : Iteration). it.deferred) f ks)
      ∙ ap joined (map-compose (filter (other p)) (λ x. (f x).deferred) ks))

  without : loop_done t ks (map i0 ks) ≡ unless_fault o (Ok (overlaid settles (filter (other p) ws)))
  without =
      let done : Store → List Contribution → List (Option Fault) → List Write → Result Store Fault = λ s c e w. unless_fault (least (somes e ++ total_faults s c)) (Ok (overlaid (settled_store s c) w)) in
      let c0 = joined (map (λ (it : Iteration). it.with_outermost) (map i0 ks)) in
      let e0 = map (λ (it : Iteration). it.fault) (map i0 ks) in
      let w0 = joined (map (λ (it : Iteration). it.deferred) (map i0 ks)) in
      ap (λ h. done (record t { node = h }) c0 e0 w0) (fun_ext (λ r. fun_ext (λ y. left-same ks r y)))
      ∙ ap (λ c. done own c e0 w0) (given-same ks) ∙ ap (λ e. done own cs e w0) (faults-same ks) ∙ ap (λ w. done own cs (map (λ it. it.fault) (map f ks)) w) deferred-same

  -- the property is settled as it was
  given-off : (y : ℕ) → Away (Node p y) cs
  given-off y c i =
      let r = in-joined c (λ x. (f x).with_outermost) ks (subst (λ l. IsIn c (joined l)) (map-compose (λ (it : Iteration). it.with_outermost) f ks) i) in
      (run r.0 r.1).away y c r.2

  settled-as : (y : ℕ) → settles.node p y ≡ t.node p y
  settled-as y =
      value-away own (Node p y) cs (given-off y)
      ∙ ⊎_elim (λ (i : IsIn y ks). left_at-in f t p y ks i ∙ (run y i).now) (λ (out : (F : ℕ → Iteration) (s : Store) (r : ℕ) → left_at ks (map F ks) s r y ≡ s.node r y). out f t p) (placed y ks)

  home : (x : ℕ) → IsIn x ks → (w : Write) → IsIn w (f x).deferred → IsAt x w.slot
  home x i w m = ((run x i).home w m).0

  deferred-at : (y : ℕ) → IsIn y ks → (overlaid settles ws).node p y ≡ (overlaid t (f y).deferred).node p y
  deferred-at y i =
      ap (λ l. (overlaid settles (joined l)).node p y) (map-compose (λ (it : Iteration). it.deferred) f ks)
      ∙ written-at (λ x. (f x).deferred) p y 0 (node_count loop.graph) settles home i
      ∙ overlaid-base settles t (f y).deferred (Node p y) (settled-as y)

  deferred-off : (y : ℕ) → (IsIn y ks → ⊥) → (overlaid settles ws).node p y ≡ settles.node p y
  deferred-off y off =
      ap (λ l. (overlaid settles (joined l)).node p y) (map-compose (λ (it : Iteration). it.deferred) f ks)
      ∙ written-away (λ x. (f x).deferred) p y ks settles home off

  -- what the fresh property holds behind the loop
  module _ (v : Store) (is : loop_done u ks (map g ks) ≡ Ok v) (same : Agree j (overlaid settles (filter (other p) ws)) v) where
    abbrev own' : Store
    own' = own_left u ks (map g ks)

    abbrev cs' : List Contribution
    cs' = joined (map (λ it. it.with_outermost) (map g ks))

    abbrev ws' : List Write
    ws' = joined (map (λ it. it.deferred) (map g ks))

    left : overlaid (settled_store own' cs') ws' ≡ v
    left = unless-ok (least (somes (map (λ it. it.fault) (map g ks)) ++ total_faults own' cs')) (overlaid (settled_store own' cs') ws') v is

    writes-off : (y : ℕ) (w : Write) → IsIn w ws' → slot_eq w.slot (Node q y) ≡ false
    writes-off y w i =
        let r = in-joined w (λ x. (g x).deferred) ks (subst (λ l. IsIn w (joined l)) (map-compose (λ (it : Iteration). it.deferred) g ks) i) in
        let l = run r.0 r.1 in
        off-below j q y w.slot fresh (l.home w (IsIn-filter (other p) w (f r.0).deferred (subst (IsIn w) l.deferred r.2)).0).1

    gives-off : (y : ℕ) → Away (Node q y) cs'
    gives-off y c i =
        let r = in-joined c (λ x. (g x).with_outermost) ks (subst (λ l. IsIn c (joined l)) (map-compose (λ (it : Iteration). it.with_outermost) g ks) i) in
        let l = run r.0 r.1 in
        given-away j q y (f r.0).with_outermost fresh l.outer_below c (subst (IsIn c) l.with_outermost r.2)

    fresh-at : (y : ℕ) → IsIn y ks → v.node q y ≡ (overlaid t (f y).deferred).node p y
    fresh-at y i =
        ap (λ (s : Store). s.node q y) (sym left)
        ∙ overlaid-away (settled_store own' cs') ws' (Node q y) (writes-off y)
        ∙ value-away own' (Node q y) cs' (gives-off y)
        ∙ left_at-in g u q y ks i
        ∙ (run y i).pending

    abbrev last : Store
    last = put loop key p at (Property n q at) v (v.node q) (property-known loop key q at v)

    at-property : (y : ℕ) → last.node p y ≡ (overlaid settles ws).node p y
    at-property y = by (is_in ks y) refl
      where
        by : (b : Bool) → is_in ks y ≡ b → last.node p y ≡ (overlaid settles ws).node p y
        by true e = let i = found ks y e in put-there loop key p at (Property n q at) v (v.node q) (property-known loop key q at v) y i ∙ fresh-at y i ∙ sym (deferred-at y i)
        by false e =
            let off : IsIn y ks → ⊥ = λ i. both_ways (is_in ks y) e (finds ks y i) in
            ⊎_elim (λ (i : IsIn y ks). absurd (off i))
            (λ (out : (F : ℕ → Iteration) (s : Store) (r : ℕ) → left_at ks (map F ks) s r y ≡ s.node r y).
            put-outside loop key p at (Property n q at) v (v.node q) (property-known loop key q at v) p y out
            ∙ same.node p y named ∙ overlaid-none p y settles ws ∙ sym (deferred-off y off))
            (placed y ks)

    last-agrees : Agree j (overlaid settles ws) last
    last-agrees = record {
      scalar = λ y b. same.scalar y b ∙ overlaid-rest p settles settles ws (Scalar y) refl refl;
      node = λ r y b. by r y b (nat_eq r p) refl;
      edge = λ r e b. same.edge r e b ∙ ap (λ h. h r e) (overlaid-edge settles (filter (other p) ws) ∙ sym (overlaid-edge settles ws));
    }
      where
        by : (r y : ℕ) → r < j → (c : Bool) → nat_eq r p ≡ c → last.node r y ≡ (overlaid settles ws).node r y
        by r y b true e = ap (λ z. last.node z y) (eqb-true r p e) ∙ at-property y ∙ sym (ap (λ z. (overlaid settles ws).node z y) (eqb-true r p e))
        by r y b false e =
            put-other loop key p at (Property n q at) v (v.node q) (property-known loop key q at v) r y (ne_eqb p r (λ h. both_ways (nat_eq r p) e (eq-eqb r p (sym h))))
            ∙ same.node r y b ∙ overlaid-rest p settles settles ws (Node r y) e refl

  abbrev back : Store → Result Store Fault
  back = looped loop key always (Assign key (T.Property n p at) (Property n q at))

  moves : AlikeStores j (looped loop key test body t) (then_with (looped loop key always (Assign key (T.Property n q at) (Property n p at)) t) (in_turn (looped loop key test (undeferred p q body)) back))
  moves =
      subst (λ r. AlikeStores j (looped loop key test body t) (then_with r (in_turn (looped loop key test (undeferred p q body)) back))) (sym (sets loop key q at (Property n p at) t (t.node p) (property-known loop key p at t)))
      (by o (loop_done u ks (map g ks)) refl (subst (λ r. AlikeStores j r (loop_done u ks (map g ks))) without alike))
    where
      by : (e : Option Fault) (r : Result Store Fault) → loop_done u ks (map g ks) ≡ r → AlikeStores j (unless_fault e (Ok (overlaid settles (filter (other p) ws)))) r → AlikeStores j (unless_fault e (Ok (overlaid settles ws))) (then_with r back)
      by (Some f) (Ok v) is h = absurd h
      by (Some f) (Err h') is h = h
      by None (Err h') is h = absurd h
      by None (Ok v) is h = subst (AlikeStores j (Ok (overlaid settles ws))) (sym (sets loop key p at (Property n q at) v (v.node q) (property-known loop key q at v))) (last-agrees v is h)

-- the law of deferred writes
pub defers-move : DefersMove
defers-move = λ j ds loop p q key at test body iterates named fresh reads names form alone s t agree.
    alike-trans j (looped loop key test body s) (looped loop key test body t) _ (loop-same j loop key test body reads names s t agree) (moves j ds loop p q key at test body iterates named fresh reads names form alone t)

-- a loop that copies a property to another does the same under any keys
pub copies-any : (loop : Loop) (first next key : Key) (p q : ℕ) (at : Place) → looped loop first always (Assign next (T.Property loop.outer q at) (Property loop.outer p at)) ≡ looped loop key always (Assign key (T.Property loop.outer q at) (Property loop.outer p at))
copies-any loop first next key p q at = fun_ext (λ t. any-keys loop first next key q at (Property loop.outer p at) t (t.node p) (λ k. property-known loop k p at t))
