-- The beginning of an iteration, and the end of an inner loop.
use Rattle.std.proofs.Common.{◌≡◌, ◌∙◌, ℕ, Bool, true, false, List, [], ◌++◌, Option, Some, None, Ok, Err, refl, ap, sym, subst, append_assoc}
use Rattle.std.specs.Prelude.{All}
use Rattle.gm_value.specs.declared.values.Value.{Value}
use Rattle.gm_value.specs.declared.values.Value.TheVariants.{At}
use Rattle.gm_value.specs.Operations.{is_true}
use Rattle.gm_ast.specs.declared.tree.Key.{Key}
use Rattle.gm_ast.specs.Program as P
use Rattle.gm_semantics.specs.declared.faults.Fault.{Fault}
use Rattle.gm_semantics.specs.declared.slots.Slot.TheVariants.{Scalar}
use Rattle.gm_semantics.specs.declared.slots.Write.{Write}
use Rattle.gm_semantics.specs.Contributions.{Contribution, settled_store, total_faults}
use Rattle.gm_semantics.specs.Expressions.{View, Answer, value}
use Rattle.gm_semantics.specs.Faults.{least}
use Rattle.gm_semantics.specs.Iterations.{Iteration, Mode, Outermost, AtEdge, as_it_is, begun, failed, inner_done, one_way, turn_at, view_in, with_ok, wrote}
use Rattle.gm_semantics.specs.Stores.{Store, write}
use Rattle.gm_store.specs.Held.{Held, Shape, HasSlot, shape_of, store_of}
use Rattle.gm_store.proofs.Reversing.{Reversible-refl, Reversible-trans}
use Rattle.gm_totals.specs.declared.totals.Totals.{Totals}
use Rattle.gm_totals.specs.declared.totals.Closed.{Closed}
use Rattle.gm_totals.specs.Standing.{StandsFor, Within, Settles}
use Rattle.gm_loops.specs.declared.around.Around.{Around}
use Rattle.gm_loops.specs.declared.goings.Going.{Going}
use Rattle.gm_loops.specs.declared.sights.Setting.{Setting}
use Rattle.gm_loops.specs.declared.around.Mode as C
use Rattle.gm_loops.specs.Around.{loop_of, mode_in, sight_of}
use Rattle.gm_loops.specs.Goings.{Before, Does, Stands}
use Rattle.gm_loops.specs.Parts.{sooner}
use Rattle.gm_loops.specs.Scopes.{no_scope}
use Rattle.gm_loops.specs.Sights.{edges_in, view_of}
use Rattle.gm_loops.specs.Turns.{seen, Begins, Closes, DoesTurns, Follows, Overlays, behind, faults_of, inner_of, outermost_of}
use Rattle.gm_loops.proofs.Effects.{fits-same, view-same}
use Rattle.gm_loops.proofs.Parting.{least-append, sooner_none}
use Rattle.gm_loops.proofs.Turning.{begun-stands}
use Rattle.gm_loops.proofs.Keeping.{settled-nothing}

-- the code of an iteration before its first fault
abbrev pub unfaulted : Going → Going
unfaulted g = record g { fault = None }

-- a write to a slot that was there, of a value, in an iteration's store
abbrev pub in_iterator : ℕ → ℕ → Iteration → Iteration
in_iterator iterator node it = wrote it (Scalar iterator, At (Some node))

-- what the filter's value makes of an iteration
begins-by : (answer : Answer) (start : Iteration) (a : Around) (m : Mode) (key : Key) (test : P.Expr) (iterator node : ℕ) (s : Store) (body : Iteration → Iteration)
    → start ≡ begun (write s (Scalar iterator) (At (Some node))) → value test (view_in (loop_of a) m start key) ≡ answer
    → turn_at (loop_of a) m key test body iterator node s ≡ with_ok start answer (λ v. one_way (is_true v) body as_it_is start)
begins-by answer start a m key test iterator node s body same e =
    ap (λ (i : Iteration). with_ok i (value test (view_in (loop_of a) m i key)) (λ v. one_way (is_true v) body as_it_is i)) (sym same)
    ∙ ap (λ (r : Answer). with_ok start r (λ v. one_way (is_true v) body as_it_is start)) e

-- what a filter's value is in an iteration that has begun
pub seen-by : (answer : Answer) (a : Around) (m : C.Mode) (key : Key) (test : P.Expr) (h : Held) (it : Iteration)
    → answer ≡ value test (view_of (sight_of a m key) no_scope h)
    → store_of (edges_in a.setting.now) h ≡ it.store → value test (view_in (loop_of a) (mode_in a m) it key) ≡ answer
seen-by answer a m key test h it e same = sym (e ∙ ap (λ (w : View). value test w) (view-same a m key h it same))

-- the filter has a value
pub begins-value : (a : Around) (m : C.Mode) (key : Key) (test : P.Expr) (iterator node : ℕ) (old mid : Going) (v : Value) (passed : Bool)
    → Does a.setting.now (mode_in a m) (unfaulted old) mid (in_iterator iterator node)
    → Ok v ≡ value test (view_of (sight_of a m key) no_scope mid.store)
    → passed ≡ is_true v
    → Begins a.setting.now (mode_in a m) old mid passed (λ body s. turn_at (loop_of a) (mode_in a m) key test body iterator node s)
begins-value a m key test iterator node old mid v passed written e same = record {
  ready = λ r. written.ready (record { fits = r.fits; inner = r.inner; outermost = r.outermost; deferred = r.deferred });
  back = written.back;
  stands = λ b h.
      let it : Iteration = in_iterator iterator node (begun (seen a.setting.now old)) in
      let s : Stands (edges_in a.setting.now) (mode_in a m) b mid it = written.stands b (begun (seen a.setting.now old)) (begun-stands a.setting.now (mode_in a m) b old h) in (
        it,
        s,
        λ body.
            begins-by (Ok v) it a (mode_in a m) key test iterator node (seen a.setting.now old) body refl (seen-by (Ok v) a m key test mid.store it e s.store)
            ∙ ap (λ (p : Bool). one_way p body as_it_is it) (sym same),
      );
}

-- the filter faults
pub begins-fault : (a : Around) (m : C.Mode) (key : Key) (test : P.Expr) (iterator node : ℕ) (old mid new : Going) (fault : Fault)
    → Does a.setting.now (mode_in a m) (unfaulted old) mid (in_iterator iterator node)
    → Err fault ≡ value test (view_of (sight_of a m key) no_scope mid.store)
    → Does a.setting.now (mode_in a m) mid new (λ it. failed it fault)
    → Begins a.setting.now (mode_in a m) old new false (λ body s. turn_at (loop_of a) (mode_in a m) key test body iterator node s)
begins-fault a m key test iterator node old mid new fault written e fails = record {
  ready = λ r. fails.ready (written.ready (record { fits = r.fits; inner = r.inner; outermost = r.outermost; deferred = r.deferred }));
  back = Reversible-trans old.store mid.store new.store written.back fails.back;
  stands = λ b h.
      let it : Iteration = in_iterator iterator node (begun (seen a.setting.now old)) in
      let s : Stands (edges_in a.setting.now) (mode_in a m) b mid it = written.stands b (begun (seen a.setting.now old)) (begun-stands a.setting.now (mode_in a m) b old h) in (
        failed it fault,
        fails.stands b it s,
        λ body.
            begins-by (Err fault) it a (mode_in a m) key test iterator node (seen a.setting.now old) body refl (seen-by (Err fault) a m key test mid.store it e s.store),
      );
}

-- the totals of an inner loop are closed and written
pub closes : (f : Setting) (old new : Going) (found : Option Fault) (closed : Closed) → Settles old.store old.inner closed → Overlays old.store new.store closed.writes.items
    → StandsFor new.inner [] → ((shape : Shape) → Within shape new.inner) → new.outermost ≡ old.outermost → new.deferred ≡ old.deferred → new.fault ≡ sooner found closed.fault
    → Closes f old new found
closes f old new found closed settles written empty within outermost deferred fault = record {
  ready = λ r. record {
    fits = fits-same f old.store new.store written.back.shape r.fits;
    inner = within (shape_of new.store);
    outermost = subst (λ (t : Totals). Within (shape_of new.store) t) (sym outermost) (subst (λ (s : Shape). Within s old.outermost) (sym written.back.shape) r.outermost);
    deferred = subst (λ (ws : List Write). All (λ (w : Write). HasSlot (shape_of new.store) w.slot) ws) (ap (λ v. v.items) (sym deferred))
        (subst (λ (s : Shape). All (λ (w : Write). HasSlot s w.slot) old.deferred.items) (sym written.back.shape) r.deferred);
  };
  back = written.back;
  stands = λ b it inner same has_inner has_outermost has_deferred. record {
    store = written.store (edges_in f) ∙ settles.store (edges_in f) inner has_inner ∙ ap (λ (s : Store). settled_store s inner) same;
    inner = empty;
    outermost = subst (λ (t : Totals). StandsFor t (b.with_outermost ++ it.with_outermost)) (sym outermost) has_outermost;
    deferred = ap (λ v. v.items) deferred ∙ has_deferred;
    fault = fault ∙ ap (sooner found) (settles.fault (edges_in f) inner has_inner ∙ ap (λ (s : Store). least (total_faults s inner)) same);
  };
}

-- no totals are closed
pub closes-nothing : (f : Setting) (old : Going) (found : Option Fault) → ((cs : List Contribution) → StandsFor old.inner cs → cs ≡ []) → Closes f old (record old { fault = found }) found
closes-nothing f old found none = record {
  ready = λ r. record { fits = r.fits; inner = r.inner; outermost = r.outermost; deferred = r.deferred };
  back = Reversible-refl old.store;
  stands = λ b it inner same has_inner has_outermost has_deferred.
      let empty : inner ≡ [] = none inner has_inner in
      record {
        store = same ∙ sym (settled-nothing it.store) ∙ ap (λ (cs : List Contribution). settled_store it.store cs) (sym empty);
        inner = subst (λ (cs : List Contribution). StandsFor old.inner cs) empty has_inner;
        outermost = has_outermost;
        deferred = has_deferred;
        fault = sym (sooner_none found) ∙ ap (λ (cs : List Contribution). sooner found (least (total_faults it.store cs))) (sym empty);
      };
}

-- an inner loop, of its iterations and its end
pub inner-done : (a : Around) (old mid new : Going) (found : Option Fault) (turns : Store → List Iteration)
    → DoesTurns a.setting.now (AtEdge 0) old mid found turns → Closes a.setting.now mid new found
    → Does a.setting.now Outermost old new (λ it. inner_done it (turns it.store))
inner-done a old mid new found turns first last = record {
  ready = λ r. last.ready (first.ready r);
  back = record {
    shape = last.back.shape ∙ first.restored.shape;
    more = last.back.more;
    logged = last.back.logged ∙ ap (λ (ws : List Write). ws ++ last.back.more) first.restored.undo;
    back = λ edge. last.back.back edge ∙ first.restored.store edge;
  };
  stands = λ b it h.
      let f = a.setting.now in
      let before : Before = record { with_inner = []; with_outermost = b.with_outermost ++ it.with_outermost; deferred = old.deferred.items } in
      let follows : Follows (AtEdge 0) before old = record { inner = h.inner; outermost = h.outermost; deferred = refl } in
      let ts : List Iteration = turns (seen f old) in
      let after : Follows (AtEdge 0) (behind (AtEdge 0) before ts) mid = first.follows before follows in
      let added : Iteration = record it { with_outermost = it.with_outermost ++ outermost_of ts } in
      let closed = last.stands b added (inner_of ts) (first.restored.store (edges_in f) ∙ h.store) after.inner
      (subst (λ (cs : List Contribution). StandsFor mid.outermost cs) (append_assoc b.with_outermost it.with_outermost (outermost_of ts)) after.outermost)
      (after.deferred ∙ h.deferred) in
      let fault : sooner found (least (total_faults it.store (inner_of ts))) ≡ least (faults_of ts ++ total_faults it.store (inner_of ts)) =
      ap (λ (o : Option Fault). sooner o (least (total_faults it.store (inner_of ts)))) (first.fault before follows) ∙ sym (least-append (faults_of ts) (total_faults it.store (inner_of ts))) in
      let same : turns (seen f old) ≡ turns it.store = ap turns h.store in
      subst (λ (l : List Iteration). Stands (edges_in f) Outermost b new (inner_done it l)) same
      (subst (λ (o : Option Fault). Stands (edges_in f) Outermost b new (record added { store = settled_store it.store (inner_of ts); fault = o })) fault closed);
}
