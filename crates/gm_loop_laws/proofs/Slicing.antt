-- The law of slices.
use Rattle.std.proofs.Common.{◌≡◌, ◌<◌, ℕ, Bool, true, false, cond, List, [], ◌∷◌, ◌++◌, map, refl, sym, ap, subst, ◌∙◌, Option, Some, None, Result, Ok, Err, ⊎_elim, inl, inr}
use Rattle.std.proofs.Math.Path.{fun_ext}
use Rattle.std.specs.Prelude.{◌&&◌, ◌||◌, not, nat_eq}
use Rattle.std.proofs.lemmas.Bool.{cases_Bool, eq-eqb, eqb-true, ne_eqb, both_ways}
use Rattle.gm_value.specs.declared.values.Value.{Value}
use Rattle.gm_value.specs.declared.values.Value.TheVariants.{At}
use Rattle.gm_value.specs.Bag.{IsIn}
use Rattle.gm_value.specs.Operations.{is_true}
use Rattle.gm_model.specs.Graphs.{Step, IsGraph, node_count}
use Rattle.gm_ast.specs.declared.tree.Domain.{Domain}
use Rattle.gm_ast.specs.declared.tree.Domain.TheVariants as D
use Rattle.gm_ast.specs.declared.tree.Key.{Key}
use Rattle.gm_ast.specs.Ways.{is_in}
use Rattle.gm_ast.specs.Program.{Expr, Stmt, Skip, Then, Declare, DeclareEdge, Assign, Defer, Combine, Group, Foreach, For, If, While, Do, InBfs, InBfsBoth, Return}
use Rattle.gm_semantics.specs.declared.faults.Fault.{Fault}
use Rattle.gm_semantics.specs.declared.slots.Slot.{Slot}
use Rattle.gm_semantics.specs.declared.slots.Slot.TheVariants.{Scalar, Node}
use Rattle.gm_semantics.specs.declared.slots.Write.{Write}
use Rattle.gm_semantics.specs.Stores.{Store, slot_eq, has_slot, read, write, overlaid}
use Rattle.gm_semantics.specs.Levels.{nodes, node_in}
use Rattle.gm_semantics.specs.Faults.{least, somes, joined, unless_fault}
use Rattle.gm_semantics.specs.Expressions.{Answer, steps_of, steps_in, settled, value}
use Rattle.gm_semantics.specs.Contributions.{Contribution, to_target, taken_onto, fault_in, target_fault, settled_store, total_faults}
use Rattle.gm_semantics.specs.Iterations.{Loop, Mode, Outermost, AtEdge, Iteration, begun, failed, unless_failed, go_on, with_ok, one_way, as_it_is, view_in, inner_done, turn_at, does}
use Rattle.gm_semantics.specs.Loops.{iteration, left_at, own_left, loop_done}
use Rattle.gm_semantics.specs.Laws.{Away}
use Rattle.gm_semantics.proofs.ContributionLaws.{slot_eq-true}
use Rattle.gm_semantics.proofs.TargetLaws.{Reaches, reaches?, value-away, read-settled, reads-same}
use Rattle.gm_forms.specs.Reading.{Known, GivesGood, Agrees, Follows}
use Rattle.gm_forms.specs.Doing.{EachSlot}
use Rattle.gm_forms.proofs.Named.{both-true}
use Rattle.gm_forms.proofs.Targets.{each-slot}
use Rattle.gm_forms.proofs.ReadingFrames.{read-write, evaluated-good}
use Rattle.gm_loop_laws.specs.Masks.{spares}
use Rattle.gm_loop_laws.specs.Slices.{is_idle, sliced, knows_none, Slices}
use Rattle.gm_loop_laws.proofs.Joins.{map-each}
use Rattle.gm_loop_laws.proofs.Settling.{target-of, target-alone, value-store}
use Rattle.gm_loop_laws.proofs.Alone.{nodes-below}
use Rattle.gm_loop_laws.proofs.Masks.{not-in}
use Rattle.gm_forms.proofs.Steps.{step-within}
use Rattle.gm_loop_laws.proofs.Slices.{Kept, kept-lift, reads-kept, Alike, kept-does, idle-does}

module _ (gone : List ℕ) (loop : Loop) (graph : IsGraph loop.graph) where
  abbrev Same : List ℕ → Iteration → Iteration → Type 0
  Same its i j = Alike gone loop its i j

  -- contributions to kept slots
  abbrev Good : ℕ → List Contribution → Type 0
  Good y cs = GivesGood (Kept gone) y 0 cs

  good-append : (y : ℕ) (cs ds : List Contribution) → Good y cs → Good y ds → Good y (cs ++ ds)
  good-append y [] ds h g = g
  good-append y (c ∷ cs) ds h g = (h.0, good-append y cs ds h.1 g)

  good-in : (y : ℕ) (cs : List Contribution) (c : Contribution) → Good y cs → IsIn c cs → EachSlot (Known (Kept gone) y 0) c.slots
  good-in y [] c g i = absurd i
  good-in y (d ∷ cs) c g i = ⊎_elim (λ (e : c ≡ d). subst (λ (z : Contribution). EachSlot (Known (Kept gone) y 0) z.slots) (sym e) g.0) (λ r. good-in y cs c g.1 r) i

  off-slots : (y : ℕ) (slots : List Slot) → EachSlot (Known (Kept gone) y 0) slots → has_slot (Scalar y) slots ≡ false
  off-slots y [] g = refl
  off-slots y (slot ∷ slots) g = ap (λ c. c || has_slot (Scalar y) slots) g.0.1 ∙ off-slots y slots g.1

  good-away : (y : ℕ) (cs : List Contribution) → Good y cs → Away (Scalar y) cs
  good-away y cs g c i = off-slots y c.slots (good-in y cs c g i)

  -- what is settled of them
  module _ (s t : Store) (agree : Agrees (Kept gone) s t) (y : ℕ) (cs : List Contribution) (g : Good y cs) where
    slots-same : (c : Contribution) → IsIn c cs → (slot : Slot) → has_slot slot c.slots ≡ true → read t slot ≡ read s slot
    slots-same c i slot has = agree.at slot (each-slot (Known (Kept gone) y 0) c.slots (good-in y cs c g i) slot has).0

    settled-same : (slot : Slot) → Kept gone slot → read (settled_store t cs) slot ≡ read (settled_store s cs) slot
    settled-same slot good =
        read-settled t cs slot
        ∙ value-store t s slot cs (λ o has. ⊎_elim
        (λ (none : Away slot cs). only o (sym (ap (has_slot o) (target-alone slot cs none)) ∙ has))
        (λ (r : Reaches slot cs). let c = target-of slot cs r in slots-same c.0 c.1 o (sym (ap (has_slot o) c.2) ∙ has))
        (reaches? slot cs))
        ∙ sym (read-settled s cs slot)
      where
        only : (o : Slot) → has_slot o (slot ∷ []) ≡ true → read t o ≡ read s o
        only o has = ⊎_elim (λ (e : slot_eq o slot ≡ true). let same = slot_eq-true o slot e in ap (read t) same ∙ agree.at slot good ∙ sym (ap (read s) same))
            (λ (e : slot_eq o slot ≡ false). absurd (both_ways false refl (sym (ap (λ c. c || false) e) ∙ has))) (cases_Bool (slot_eq o slot))

    totals-same : total_faults t cs ≡ total_faults s cs
    totals-same =
        ap somes (map-each (λ (c : Contribution). target_fault t cs c.slots) (λ c. target_fault s cs c.slots) cs
        (λ c i. ap (λ vs. fault_in (to_target c.slots cs) (taken_onto vs (to_target c.slots cs))) (reads-same t s c.slots (λ slot has. slots-same c i slot has))))

  steps-same : (m : Mode) (key : Key) (i j : Iteration) (d : Domain) (o : Option ℕ) → steps_of (view_in loop m j key) d o ≡ steps_of (view_in loop m i key) d o
  steps-same m key i j D.Nodes o = refl
  steps-same m key i j D.OutNbrs o = refl
  steps-same m key i j D.InNbrs o = refl
  steps-same m key i j D.UpNbrs o = refl
  steps-same m key i j D.DownNbrs o = refl

  same-failed : (its : List ℕ) (i j : Iteration) (f : Fault) → Same its i j → Same its (failed i f) (failed j f)
  same-failed its i j f l = record {
    agree = l.agree;
    with_inner = l.with_inner;
    with_outermost = l.with_outermost;
    deferred = l.deferred;
    fault = refl;
    each = λ y o. let h = (l.each y o).2 in ((l.each y o).0, (l.each y o).1, record { slots = h.slots; edge = h.edge; iterator = h.iterator; with_inner = h.with_inner; with_outermost = h.with_outermost; deferred = h.deferred; fault = refl; inner_good = h.inner_good });
  }

  same-way : (its : List ℕ) (v : Bool) (f g f' g' : Iteration → Iteration) (i j : Iteration) → Same its (f i) (f' j) → Same its (g i) (g' j) → Same its (one_way v f g i) (one_way v f' g' j)
  same-way its true f g f' g' i j h k = h
  same-way its false f g f' g' i j h k = k

  same-value : (its : List ℕ) (m : Mode) (key : Key) (i j : Iteration) (e : Expr) → is_in its loop.outer ≡ true → spares gone e ≡ true → Same its i j → value e (view_in loop m j key) ≡ value e (view_in loop m i key)
  same-value its m key i j e here h l =
      let z = l.each loop.outer here in
      ap settled (evaluated-good (Kept gone) loop.outer z.0 (view_in loop m i key) j.store l.agree z.2.iterator e (reads-kept gone (Kept gone) (kept-lift gone) loop.outer z.0 e h))

  -- a part under a value
  same-ok : (its : List ℕ) (i j : Iteration) (r s : Answer) (f g : Value → Iteration) → s ≡ r → Same its i j → ((v : Value) → Same its (f v) (g v)) → Same its (with_ok i r f) (with_ok j s g)
  same-ok its i j r s f g e l each = subst (λ s. Same its (with_ok i r f) (with_ok j s g)) (sym e) (by r)
    where
      by : (r : Answer) → Same its (with_ok i r f) (with_ok j r g)
      by (Ok v) = each v
      by (Err h) = same-failed its i j h l

  -- an inner loop, turn by turn
  module _ (its : List ℕ) (t : ℕ) (here : is_in its loop.outer ≡ true) (i j : Iteration) (l : Same its i j) (f g : Step → Iteration) where
    further : (y : ℕ) → is_in its y ≡ true → is_in (t ∷ its) y ≡ true
    further y o = by (nat_eq y t)
      where
        by : (b : Bool) → b || is_in its y ≡ true
        by true = refl
        by false = o

    abbrev Each : List Step → Type 0
    Each steps = (e : Step) → IsIn e steps → Same (t ∷ its) (f e) (g e)

    inner-same : (steps : List Step) → Each steps → joined (map (λ (z : Iteration). z.with_inner) (map g steps)) ≡ joined (map (λ (z : Iteration). z.with_inner) (map f steps))
    inner-same [] each = refl
    inner-same (s ∷ steps) each = ap (λ cs. cs ++ joined (map (λ (z : Iteration). z.with_inner) (map g steps))) (each s (inl refl)).with_inner ∙ ap (λ cs. (f s).with_inner ++ cs) (inner-same steps (λ e m. each e (inr m)))

    outer-same : (steps : List Step) → Each steps → joined (map (λ (z : Iteration). z.with_outermost) (map g steps)) ≡ joined (map (λ (z : Iteration). z.with_outermost) (map f steps))
    outer-same [] each = refl
    outer-same (s ∷ steps) each = ap (λ cs. cs ++ joined (map (λ (z : Iteration). z.with_outermost) (map g steps))) (each s (inl refl)).with_outermost ∙ ap (λ cs. (f s).with_outermost ++ cs) (outer-same steps (λ e m. each e (inr m)))

    faults-same : (steps : List Step) → Each steps → map (λ (z : Iteration). z.fault) (map g steps) ≡ map (λ (z : Iteration). z.fault) (map f steps)
    faults-same [] each = refl
    faults-same (s ∷ steps) each = ap (λ o. o ∷ map (λ (z : Iteration). z.fault) (map g steps)) (each s (inl refl)).fault ∙ ap (λ os. (f s).fault ∷ os) (faults-same steps (λ e m. each e (inr m)))

    gives-good : (y : ℕ) → is_in its y ≡ true → (steps : List Step) → Each steps → Good y (joined (map (λ (z : Iteration). z.with_inner) (map f steps)))
    gives-good y o [] each = tt
    gives-good y o (s ∷ steps) each = good-append y (f s).with_inner _ ((each s (inl refl)).each y (further y o)).2.inner_good (gives-good y o steps (λ e m. each e (inr m)))

    done-same : (steps : List Step) → Each steps → Same its (inner_done i (map f steps)) (inner_done j (map g steps))
    done-same steps each =
        let cs = joined (map (λ (z : Iteration). z.with_inner) (map f steps)) in
        let ds = joined (map (λ (z : Iteration). z.with_inner) (map g steps)) in
        let same = inner-same steps each in
        let good = gives-good loop.outer here steps each in
        let agrees : Agrees (Kept gone) (settled_store i.store cs) (settled_store j.store ds) =
        record { at = λ slot k. ap (λ c. read (settled_store j.store c) slot) same ∙ settled-same i.store j.store l.agree loop.outer cs good slot k; edge = l.agree.edge } in
        let outer = ap (λ c. c ++ joined (map (λ (z : Iteration). z.with_outermost) (map g steps))) l.with_outermost ∙ ap (λ c. i.with_outermost ++ c) (outer-same steps each) in
        let fault : least (somes (map (λ (z : Iteration). z.fault) (map g steps)) ++ total_faults j.store ds) ≡ least (somes (map (λ (z : Iteration). z.fault) (map f steps)) ++ total_faults i.store cs) =
        ap (λ os. least (somes os ++ total_faults j.store ds)) (faults-same steps each)
        ∙ ap (λ c. least (somes (map (λ (z : Iteration). z.fault) (map f steps)) ++ total_faults j.store c)) same
        ∙ ap (λ fs. least (somes (map (λ (z : Iteration). z.fault) (map f steps)) ++ fs)) (totals-same i.store j.store l.agree loop.outer cs good) in
        record {
          agree = agrees;
          with_inner = l.with_inner;
          with_outermost = outer;
          deferred = l.deferred;
          fault = fault;
          each = λ y o. let h = (l.each y o).2 in (
            (l.each y o).0,
            (l.each y o).1,
            record {
              slots = λ slot. inr (refl, refl);
              edge = l.agree.edge;
              iterator = value-away i.store (Scalar y) cs (good-away y cs (gives-good y o steps each)) ∙ h.iterator;
              with_inner = l.with_inner;
              with_outermost = sym outer;
              deferred = l.deferred;
              fault = fault;
              inner_good = h.inner_good;
            },
          );
        }

  -- where a turn begins
  begun-same : (its : List ℕ) (t y : ℕ) (s u : Store) → y < node_count loop.graph → Agrees (Kept gone) s u → ((o : ℕ) → is_in its o ≡ true → (z : ℕ) × (z < node_count loop.graph) × (s.scalar o ≡ At (Some z))) →
      Same (t ∷ its) (begun (write s (Scalar t) (At (Some y)))) (begun (write u (Scalar t) (At (Some y))))
  begun-same its t y s u less agree known = record {
    agree = record { at = λ slot good. read-write u (Scalar t) slot (At (Some y)) ∙ ap (λ v. cond (slot_eq (Scalar t) slot) (At (Some y)) v) (agree.at slot good) ∙ sym (read-write s (Scalar t) slot (At (Some y))); edge = agree.edge };
    with_inner = refl;
    with_outermost = refl;
    deferred = refl;
    fault = refl;
    each = λ o h. by o (nat_eq o t) refl h;
  }
    where
      begins : (o z : ℕ) → (write s (Scalar t) (At (Some y))).scalar o ≡ At (Some z) → Follows (Kept gone) o z (write s (Scalar t) (At (Some y))) (write u (Scalar t) (At (Some y))) [] (begun (write s (Scalar t) (At (Some y)))) (begun (write u (Scalar t) (At (Some y))))
      begins o z e = record { slots = λ slot. inr (refl, refl); edge = agree.edge; iterator = e; with_inner = refl; with_outermost = refl; deferred = refl; fault = refl; inner_good = tt }

      by : (o : ℕ) (b : Bool) → nat_eq o t ≡ b → b || is_in its o ≡ true → (z : ℕ) × (z < node_count loop.graph) × Follows (Kept gone) o z (write s (Scalar t) (At (Some y))) (write u (Scalar t) (At (Some y))) [] (begun (write s (Scalar t) (At (Some y)))) (begun (write u (Scalar t) (At (Some y))))
      by o true e h = (y, less, begins o y (ap (λ c. cond c (At (Some y)) (s.scalar o)) (eq-eqb t o (sym (eqb-true o t e)))))
      by o false e h = let k = known o h in (k.0, k.1, begins o k.0 (ap (λ c. cond c (At (Some y)) (s.scalar o)) (ne_eqb t o (λ d. both_ways (nat_eq o t) e (eq-eqb o t (sym d)))) ∙ k.2))

  -- a turn
  turn-same : (its : List ℕ) (m : Mode) (key : Key) (test : Expr) (body body' : Stmt) (t y : ℕ) (s u : Store) → is_in (t ∷ its) loop.outer ≡ true → spares gone test ≡ true → Same (t ∷ its) (begun (write s (Scalar t) (At (Some y)))) (begun (write u (Scalar t) (At (Some y)))) →
      Same (t ∷ its) (does body m loop (begun (write s (Scalar t) (At (Some y))))) (does body' m loop (begun (write u (Scalar t) (At (Some y))))) →
      Same (t ∷ its) (turn_at loop m key test (does body m loop) t y s) (turn_at loop m key test (does body' m loop) t y u)
  turn-same its m key test body body' t y s u here free l h =
      let i = begun (write s (Scalar t) (At (Some y))) in
      let j = begun (write u (Scalar t) (At (Some y))) in
      same-ok (t ∷ its) i j (value test (view_in loop m i key)) (value test (view_in loop m j key)) (λ v. one_way (is_true v) (does body m loop) as_it_is i) (λ v. one_way (is_true v) (does body' m loop) as_it_is j)
      (same-value (t ∷ its) m key i j test here free l) l (λ v. same-way (t ∷ its) (is_true v) (does body m loop) as_it_is (does body' m loop) as_it_is i j h l)

  -- a body does the same as its slice
  slice-same : (s : Stmt) (its : List ℕ) (m : Mode) (i j : Iteration) → is_in its loop.outer ≡ true → i.fault ≡ None → knows_none gone its (sliced gone its s) ≡ true → Same its i j → Same its (does s m loop i) (does (sliced gone its s) m loop j)
  slice-same Skip its m i j here fine h l = l
  slice-same (Then a b) its m i j here fine h l =
      let o = both-true (knows_none gone its (sliced gone its a)) (knows_none gone its (sliced gone its b)) h in
      let first = slice-same a its m i j here fine o.0 l in
      subst (λ z. Same its (go_on (does a m loop i) (does b m loop)) (unless_failed z (does (sliced gone its a) m loop j) (does (sliced gone its b) m loop))) (sym first.fault)
      (by (does a m loop i) (does (sliced gone its a) m loop j) (does a m loop i).fault refl first (λ e. slice-same b its m (does a m loop i) (does (sliced gone its a) m loop j) here e o.1 first))
    where
      by : (p q : Iteration) (z : Option Fault) → p.fault ≡ z → Same its p q → (p.fault ≡ None → Same its (does b m loop p) (does (sliced gone its b) m loop q)) → Same its (unless_failed z p (does b m loop)) (unless_failed z q (does (sliced gone its b) m loop))
      by p q None e first more = more e
      by p q (Some f) e first more = first
  slice-same (Declare k y e) its m i j here fine h l = by (is_idle gone its (Declare k y e)) refl h
    where
      by : (b : Bool) → is_idle gone its (Declare k y e) ≡ b → knows_none gone its (cond b Skip (Declare k y e)) ≡ true → Same its (does (Declare k y e) m loop i) (does (cond b Skip (Declare k y e)) m loop j)
      by true c h = (idle-does gone loop (Declare k y e) its m i j fine c l).0
      by false c h = kept-does gone loop (Declare k y e) its m i j here h l
  slice-same (DeclareEdge y w at) its m i j here fine h l = l
  slice-same (Assign k t e) its m i j here fine h l = by (is_idle gone its (Assign k t e)) refl h
    where
      by : (b : Bool) → is_idle gone its (Assign k t e) ≡ b → knows_none gone its (cond b Skip (Assign k t e)) ≡ true → Same its (does (Assign k t e) m loop i) (does (cond b Skip (Assign k t e)) m loop j)
      by true c h = (idle-does gone loop (Assign k t e) its m i j fine c l).0
      by false c h = kept-does gone loop (Assign k t e) its m i j here h l
  slice-same (Defer k t e) its m i j here fine h l = kept-does gone loop (Defer k t e) its m i j here h l
  slice-same (Combine k total r ts es) its m i j here fine h l = kept-does gone loop (Combine k total r ts es) its m i j here h l
  slice-same (Group k at y p e) its m i j here fine h l = l
  slice-same (Foreach k at head test body) its Outermost i j here fine h l =
      let o1 = both-true (not (is_in gone head.owner)) (not (is_in its head.iterator) && (spares gone test && knows_none gone (head.iterator ∷ its) (sliced gone (head.iterator ∷ its) body))) h in
      let o2 = both-true (not (is_in its head.iterator)) (spares gone test && knows_none gone (head.iterator ∷ its) (sliced gone (head.iterator ∷ its) body)) o1.1 in
      let o3 = both-true (spares gone test) (knows_none gone (head.iterator ∷ its) (sliced gone (head.iterator ∷ its) body)) o2.1 in
      let turn : Stmt → Store → Step → Iteration = λ s st step. turn_at loop (AtEdge step.edge) k test (does s (AtEdge step.edge) loop) head.iterator step.node st in
      let steps = steps_in (view_in loop Outermost i k) head in
      let same : steps_in (view_in loop Outermost j k) head ≡ steps =
      steps-same Outermost k i j head.domain (node_in loop.graph (j.store.scalar head.owner))
      ∙ ap (λ v. steps_of (view_in loop Outermost i k) head.domain (node_in loop.graph v)) (l.agree.at (Scalar head.owner) (not-in gone head.owner o1.0)) in
      let on = further its head.iterator here i j l (turn body i.store) (turn (sliced gone (head.iterator ∷ its) body) j.store) loop.outer here in
      subst (λ xs. Same its (inner_done i (map (turn body i.store) steps)) (inner_done j (map (turn (sliced gone (head.iterator ∷ its) body) j.store) xs))) (sym same)
      (done-same its head.iterator here i j l (turn body i.store) (turn (sliced gone (head.iterator ∷ its) body) j.store) steps (λ step member.
      let start = begun-same its head.iterator step.node i.store j.store (step-within (view_in loop Outermost i k) graph head.domain (node_in loop.graph (i.store.scalar head.owner)) step member) l.agree
      (λ y o. ((l.each y o).0, (l.each y o).1, (l.each y o).2.iterator)) in
      turn-same its (AtEdge step.edge) k test body (sliced gone (head.iterator ∷ its) body) head.iterator step.node i.store j.store on o3.0 start
      (slice-same body (head.iterator ∷ its) (AtEdge step.edge) _ _ on refl o3.1 start)))
  slice-same (Foreach k at head test body) its (AtEdge z) i j here fine h l = l
  slice-same (For k at head test body) its m i j here fine h l = l
  slice-same (If k c a b) its m i j here fine h l =
      by (is_idle gone its (If k c a b)) refl h (λ o. slice-same a its m i j here fine o l) (λ o. slice-same b its m i j here fine o l)
    where
      by : (z : Bool) → is_idle gone its (If k c a b) ≡ z → knows_none gone its (cond z Skip (If k c (sliced gone its a) (sliced gone its b))) ≡ true →
          (knows_none gone its (sliced gone its a) ≡ true → Same its (does a m loop i) (does (sliced gone its a) m loop j)) → (knows_none gone its (sliced gone its b) ≡ true → Same its (does b m loop i) (does (sliced gone its b) m loop j)) →
          Same its (does (If k c a b) m loop i) (does (cond z Skip (If k c (sliced gone its a) (sliced gone its b))) m loop j)
      by true e h first second = (idle-does gone loop (If k c a b) its m i j fine e l).0
      by false e h first second =
          let o = both-true (spares gone c) (knows_none gone its (sliced gone its a) && knows_none gone its (sliced gone its b)) h in
          let u = both-true (knows_none gone its (sliced gone its a)) (knows_none gone its (sliced gone its b)) o.1 in
          same-ok its i j (value c (view_in loop m i k)) (value c (view_in loop m j k)) (λ v. one_way (is_true v) (does a m loop) (does b m loop) i) (λ v. one_way (is_true v) (does (sliced gone its a) m loop) (does (sliced gone its b) m loop) j)
          (same-value its m k i j c here o.0 l) l (λ v. same-way its (is_true v) (does a m loop) (does b m loop) (does (sliced gone its a) m loop) (does (sliced gone its b) m loop) i j (first u.0) (second u.1))
  slice-same (While k at c body) its m i j here fine h l = l
  slice-same (Do k at body c) its m i j here fine h l = l
  slice-same (InBfs k at head c body) its m i j here fine h l = l
  slice-same (InBfsBoth k at head c body back_key d back) its m i j here fine h l = l
  slice-same (Return k at e) its m i j here fine h l = l

-- loops whose iterations leave the same
module _ (f g : ℕ → Iteration) (s : Store) where
  abbrev SameEach : List ℕ → Type 0
  SameEach ks = (x : ℕ) → IsIn x ks → ((p : ℕ) → (g x).store.node p x ≡ (f x).store.node p x) × ((g x).with_outermost ≡ (f x).with_outermost) × ((g x).deferred ≡ (f x).deferred) × ((g x).fault ≡ (f x).fault)

  lefts : (ks : List ℕ) → SameEach ks → (p y : ℕ) → left_at ks (map g ks) s p y ≡ left_at ks (map f ks) s p y
  lefts [] h p y = refl
  lefts (k ∷ ks) h p y = by (nat_eq k y) refl (lefts ks (λ x i. h x (inr i)) p y)
    where
      by : (b : Bool) → nat_eq k y ≡ b → left_at ks (map g ks) s p y ≡ left_at ks (map f ks) s p y → cond b ((g k).store.node p y) (left_at ks (map g ks) s p y) ≡ cond b ((f k).store.node p y) (left_at ks (map f ks) s p y)
      by true e r = sym (ap (λ z. (g k).store.node p z) (eqb-true k y e)) ∙ (h k (inl refl)).0 p ∙ ap (λ z. (f k).store.node p z) (eqb-true k y e)
      by false e r = r

  givens : (ks : List ℕ) → SameEach ks → joined (map (λ (z : Iteration). z.with_outermost) (map g ks)) ≡ joined (map (λ (z : Iteration). z.with_outermost) (map f ks))
  givens [] h = refl
  givens (k ∷ ks) h = ap (λ l. l ++ joined (map (λ (z : Iteration). z.with_outermost) (map g ks))) (h k (inl refl)).1 ∙ ap (λ l. (f k).with_outermost ++ l) (givens ks (λ x i. h x (inr i)))

  defers : (ks : List ℕ) → SameEach ks → joined (map (λ (z : Iteration). z.deferred) (map g ks)) ≡ joined (map (λ (z : Iteration). z.deferred) (map f ks))
  defers [] h = refl
  defers (k ∷ ks) h = ap (λ l. l ++ joined (map (λ (z : Iteration). z.deferred) (map g ks))) (h k (inl refl)).2 ∙ ap (λ l. (f k).deferred ++ l) (defers ks (λ x i. h x (inr i)))

  fails : (ks : List ℕ) → SameEach ks → map (λ (z : Iteration). z.fault) (map g ks) ≡ map (λ (z : Iteration). z.fault) (map f ks)
  fails [] h = refl
  fails (k ∷ ks) h = ap (λ o. o ∷ map (λ (z : Iteration). z.fault) (map g ks)) (h k (inl refl)).3 ∙ ap (λ os. (f k).fault ∷ os) (fails ks (λ x i. h x (inr i)))

  pub loops-same : (ks : List ℕ) → SameEach ks → loop_done s ks (map g ks) ≡ loop_done s ks (map f ks)
  loops-same ks h =
      let done : Store → List Contribution → List (Option Fault) → List Write → Result Store Fault = λ t c e w. unless_fault (least (somes e ++ total_faults t c)) (Ok (overlaid (settled_store t c) w)) in
      let c0 = joined (map (λ (z : Iteration). z.with_outermost) (map g ks)) in
      let e0 = map (λ (z : Iteration). z.fault) (map g ks) in
      let w0 = joined (map (λ (z : Iteration). z.deferred) (map g ks)) in
      ap (λ n. done (record s { node = n }) c0 e0 w0) (fun_ext (λ p. fun_ext (λ y. lefts ks h p y)))
      ∙ ap (λ c. done (own_left s ks (map f ks)) c e0 w0) (givens ks h)
      ∙ ap (λ e. done (own_left s ks (map f ks)) (joined (map (λ (z : Iteration). z.with_outermost) (map f ks))) e w0) (fails ks h)
      ∙ ap (λ w. done (own_left s ks (map f ks)) (joined (map (λ (z : Iteration). z.with_outermost) (map f ks))) (map (λ (z : Iteration). z.fault) (map f ks)) w) (defers ks h)

-- an iteration of a loop and of its slice
slice-turn : (loop : Loop) (gone : List ℕ) (key : Key) (test : Expr) (body : Stmt) (s : Store) (graph : IsGraph loop.graph) → knows_none gone (loop.outer ∷ []) (sliced gone (loop.outer ∷ []) body) ≡ true → (x : ℕ) → IsIn x (nodes loop.graph) →
    Same gone loop graph (loop.outer ∷ []) (iteration loop key test body s x) (iteration loop key test (sliced gone (loop.outer ∷ []) body) s x)
slice-turn loop gone key test body s graph h x i =
    let n = loop.outer in
    let begin = begun (write s (Scalar n) (At (Some x))) in
    let here : is_in (n ∷ []) n ≡ true = ap (λ b. b || false) (eq-eqb n n refl) in
    let start = begun-same gone loop graph [] n x s s (nodes-below loop.graph x i) (record { at = λ slot k. refl; edge = refl }) (λ o e. absurd (both_ways false refl e)) in
    same-ok gone loop graph (n ∷ []) begin begin (value test (view_in loop Outermost begin key)) (value test (view_in loop Outermost begin key))
    (λ v. one_way (is_true v) (does body Outermost loop) as_it_is begin) (λ v. one_way (is_true v) (does (sliced gone (n ∷ []) body) Outermost loop) as_it_is begin) refl start
    (λ v. same-way gone loop graph (n ∷ []) (is_true v) (does body Outermost loop) as_it_is (does (sliced gone (n ∷ []) body) Outermost loop) as_it_is begin begin
    (slice-same gone loop graph body (n ∷ []) Outermost begin begin here refl h start) start)

-- the law of slices
pub slices-hold : Slices
slices-hold = λ loop gone key test body s graph h.
    loops-same (iteration loop key test body s) (iteration loop key test (sliced gone (loop.outer ∷ []) body) s) s (nodes loop.graph)
    (λ x i.
    let l = slice-turn loop gone key test body s graph h x i in
    ((λ p. l.agree.at (Node p x) tt), l.with_outermost, l.deferred, l.fault))
