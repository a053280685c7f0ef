-- What iterations of a loop leave, one after the other.
use Rattle.std.proofs.Common.{◌≡◌, ◌∙◌, ◌<◌, ◌+◌, ℕ, get_or, take, true, false, List, [], ◌∷◌, ◌++◌, length, map, Option, Some, None, refl, ap, sym, subst, append_assoc}
use Rattle.std.proofs.lemmas.List.{append-nil, take_more}
use Rattle.std.specs.Prelude.{All}
use Rattle.std.specs.Option.{is_some}
use Rattle.gm_semantics.specs.Contributions.{Contribution}
use Rattle.gm_semantics.specs.declared.faults.Fault.{Fault}
use Rattle.gm_semantics.specs.declared.slots.Write.{Write}
use Rattle.gm_semantics.specs.Faults.{least, joined}
use Rattle.gm_semantics.specs.Iterations.{Iteration, Mode, Outermost, AtEdge, begun, go_on, unless_failed}
use Rattle.gm_semantics.specs.Stores.{Store, overlaid, write}
use Rattle.gm_store.specs.Held.{Held, Shape, HasSlot, Restored, shape_of, store_of}
use Rattle.gm_store.specs.Laws.{IsLogged, IsRolledBack}
use Rattle.gm_store.proofs.Reversing.{Reversible-refl, Reversible-trans, Reversible-write, Restored-rolled_back}
use Rattle.gm_totals.specs.declared.totals.Totals.{Totals}
use Rattle.gm_totals.specs.Standing.{StandsFor, Within}
use Rattle.gm_loops.specs.declared.goings.Going.{Going}
use Rattle.gm_loops.specs.declared.sights.Setting.{Setting}
use Rattle.gm_loops.specs.Goings.{Before, Does, InnerStands, IsReady, Stands, deferred_after}
use Rattle.gm_loops.specs.Parts.{sooner}
use Rattle.gm_loops.specs.Sights.{edges_in}
use Rattle.gm_loops.specs.Turns.{seen, Follows, Keeps, Overlays, Begins, DoesTurn, DoesTurns, behind, deferred_of, faults_of, inner_of, outermost_of}
use Rattle.gm_loops.proofs.Effects.{fits-same}
use Rattle.gm_loops.proofs.Parting.{faults-append, joined-one, least-one, map-append, parts-append}

-- what is held is as it was, by another name
pub ready-same : (f : Setting) (a b : Going) → shape_of b.store ≡ shape_of a.store → b.inner ≡ a.inner → b.outermost ≡ a.outermost → b.deferred ≡ a.deferred → IsReady f a → IsReady f b
ready-same f a b shape inner outermost deferred r = record {
  fits = fits-same f a.store b.store shape r.fits;
  inner = subst (λ (t : Totals). Within (shape_of b.store) t) (sym inner) (subst (λ (s : Shape). Within s a.inner) (sym shape) r.inner);
  outermost = subst (λ (t : Totals). Within (shape_of b.store) t) (sym outermost) (subst (λ (s : Shape). Within s a.outermost) (sym shape) r.outermost);
  deferred = subst (λ (ws : List Write). All (λ (w : Write). HasSlot (shape_of b.store) w.slot) ws) (ap (λ v. v.items) (sym deferred)) (subst (λ (s : Shape). All (λ (w : Write). HasSlot s w.slot) a.deferred.items) (sym shape) r.deferred);
}

-- nothing is done
pub does-none : (f : Setting) (m : Mode) (g : Going) → Does f m g g (λ it. it)
does-none f m g = record { ready = λ r. r; back = record { shape = refl; more = []; logged = sym (append-nil g.store.undo); back = λ edge. refl }; stands = λ b it h. h }

-- two parts, one after the other
pub does-both : (f : Setting) (m : Mode) (a b c : Going) (next more : Iteration → Iteration) → Does f m a b next → Does f m b c more → Does f m a c (λ it. more (next it))
does-both f m a b c next more first second = record {
  ready = λ r. second.ready (first.ready r);
  back = Reversible-trans a.store b.store c.store first.back second.back;
  stands = λ x it h. second.stands x (next it) (first.stands x it h);
}

goes : (it : Iteration) (next : Iteration → Iteration) (o : Option Fault) → o ≡ None → unless_failed o it next ≡ next it
goes it next None e = refl
goes it next (Some f) e = cc

stays : (it : Iteration) (next : Iteration → Iteration) (f : Fault) (o : Option Fault) → o ≡ Some f → unless_failed o it next ≡ it
stays it next f None e = cc
stays it next f (Some g) e = refl

-- a statement of a block, and the others where it did not fault
pub does-then : (f : Setting) (m : Mode) (a b c : Going) (next more : Iteration → Iteration) → Does f m a b next → b.fault ≡ None → Does f m b c more → Does f m a c (λ it. go_on (next it) more)
does-then f m a b c next more first none second = record {
  ready = λ r. second.ready (first.ready r);
  back = Reversible-trans a.store b.store c.store first.back second.back;
  stands = λ x it h.
      let mid : Stands (edges_in f) m x b (next it) = first.stands x it h in
      subst (λ (i : Iteration). Stands (edges_in f) m x c i) (sym (goes (next it) more (next it).fault (sym mid.fault ∙ none))) (second.stands x (next it) mid);
}

-- a statement of a block that faulted: the others are left out
pub does-stop : (f : Setting) (m : Mode) (a b : Going) (next more : Iteration → Iteration) (fault : Fault) → Does f m a b next → b.fault ≡ Some fault → Does f m a b (λ it. go_on (next it) more)
does-stop f m a b next more fault first some = record {
  ready = first.ready;
  back = first.back;
  stands = λ x it h.
      let mid : Stands (edges_in f) m x b (next it) = first.stands x it h in
      subst (λ (i : Iteration). Stands (edges_in f) m x b i) (sym (stays (next it) more fault (next it).fault (sym mid.fault ∙ some))) mid;
}

-- the last of some writes
overlaid-last : (s : Store) (ws : List Write) (w : Write) → overlaid s (ws ++ w ∷ []) ≡ write (overlaid s ws) w.slot w.value
overlaid-last s [] w = refl
overlaid-last s (v ∷ ws) w = overlaid-last (write s v.slot v.value) ws w

-- no write
pub overlays-none : (h : Held) → Overlays h h []
overlays-none h = record { store = λ edge. refl; back = Reversible-refl h }

-- one write more
pub overlays-more : (old mid new : Held) (ws : List Write) (w : Write) → Overlays old mid ws → IsLogged mid new w.slot w.value → Overlays old new (ws ++ w ∷ [])
overlays-more old mid new ws w first logged = record {
  store = λ edge. logged.store edge ∙ ap (λ (s : Store). write s w.slot w.value) (first.store edge) ∙ sym (overlaid-last (store_of edge old) ws w);
  back = Reversible-trans old mid new first.back (Reversible-write mid new w.slot w.value logged.store logged.undo logged.shape);
}

-- an iteration that begins with what was stands where earlier ones left
pub begun-stands : (f : Setting) (m : Mode) (b : Before) (g : Going) → Follows m b g → Stands (edges_in f) m b (record g { fault = None }) (begun (seen f g))
begun-stands f m b g h = record {
  store = refl;
  inner = by_mode m b.with_inner h.inner;
  outermost = subst (λ (cs : List Contribution). StandsFor g.outermost cs) (sym (append-nil b.with_outermost)) h.outermost;
  deferred = h.deferred ∙ no_more m;
  fault = refl;
}
  where
    by_mode : (m : Mode) (cs : List Contribution) → InnerStands m g.inner cs → InnerStands m g.inner (cs ++ [])
    by_mode Outermost cs s = s
    by_mode (AtEdge e) cs s = subst (λ (k : List Contribution). StandsFor g.inner k) (sym (append-nil cs)) s

    no_more : (m : Mode) → b.deferred ≡ deferred_after m b.deferred []
    no_more Outermost = sym (append-nil b.deferred)
    no_more (AtEdge e) = refl

-- an iteration whose filter passed, and its body
pub turn-passed : (f : Setting) (m : Mode) (a b c : Going) (turn : (Iteration → Iteration) → Store → Iteration) (body : Iteration → Iteration)
    → Begins f m a b true turn → Does f m b c body → DoesTurn f m a c (turn body)
turn-passed f m a b c turn body first second = record {
  ready = λ r. second.ready (first.ready r);
  back = Reversible-trans a.store b.store c.store first.back second.back;
  stands = λ x h.
      let s = first.stands x h in
      subst (λ (i : Iteration). Stands (edges_in f) m x c i) (sym (s.2 body)) (second.stands x s.0 s.1);
}

-- an iteration whose filter did not pass
pub turn-skipped : (f : Setting) (m : Mode) (a b : Going) (turn : (Iteration → Iteration) → Store → Iteration) (body : Iteration → Iteration)
    → Begins f m a b false turn → DoesTurn f m a b (turn body)
turn-skipped f m a b turn body first = record {
  ready = first.ready;
  back = first.back;
  stands = λ x h.
      let s = first.stands x h in
      subst (λ (i : Iteration). Stands (edges_in f) m x b i) (sym (s.2 body)) s.1;
}

-- iterations, of which the store was rolled back to what it was
pub turns-once : (f : Setting) (m : Mode) (a b c : Going) (turn : Store → Iteration)
    → DoesTurn f m a b turn → IsRolledBack (length a.store.undo) b.store c.store → c.inner ≡ b.inner → c.outermost ≡ b.outermost → c.deferred ≡ b.deferred → c.fault ≡ b.fault
    → DoesTurns f m a c c.fault (λ s. turn s ∷ [])
turns-once f m a b c turn done rolled inner outermost deferred fault = record {
  ready = λ r. ready-same f b c rolled.shape inner outermost deferred (done.ready r);
  restored = Restored-rolled_back a.store b.store c.store done.back rolled.store rolled.undo rolled.shape;
  follows = λ x h.
      let s : Stands (edges_in f) m x b (turn (seen f a)) = done.stands x h in
      record {
        inner = by_inner m x (turn (seen f a)) s.inner;
        outermost = subst (λ (t : Totals). StandsFor t (x.with_outermost ++ joined ((turn (seen f a)).with_outermost ∷ []))) (sym outermost)
            (subst (λ (cs : List Contribution). StandsFor b.outermost (x.with_outermost ++ cs)) (sym (joined-one (turn (seen f a)).with_outermost)) s.outermost);
        deferred = ap (λ v. v.items) deferred ∙ s.deferred ∙ ap (deferred_after m x.deferred) (sym (joined-one (turn (seen f a)).deferred));
      };
  fault = λ x h. fault ∙ (done.stands x h).fault ∙ least-one (turn (seen f a)).fault;
}
  where
    by_inner : (m : Mode) (x : Before) (it : Iteration) → InnerStands m b.inner (x.with_inner ++ it.with_inner) → InnerStands m c.inner (x.with_inner ++ inner_of (it ∷ []))
    by_inner Outermost x it s = subst (λ (t : Totals). StandsFor t []) (sym inner) s
    by_inner (AtEdge e) x it s =
        subst (λ (t : Totals). StandsFor t (x.with_inner ++ joined (it.with_inner ∷ []))) (sym inner)
        (subst (λ (cs : List Contribution). StandsFor b.inner (x.with_inner ++ cs)) (sym (joined-one it.with_inner)) s)

-- iterations at one edge wait as those at another
pub turns-anywhere : (f : Setting) (d e : ℕ) (a b : Going) (found : Option Fault) (turns : Store → List Iteration) → DoesTurns f (AtEdge d) a b found turns → DoesTurns f (AtEdge e) a b found turns
turns-anywhere f d e a b found turns h = record {
  ready = h.ready;
  restored = h.restored;
  follows = λ x g. let k = h.follows x (record { inner = g.inner; outermost = g.outermost; deferred = g.deferred }) in record { inner = k.inner; outermost = k.outermost; deferred = k.deferred };
  fault = λ x g. h.fault x (record { inner = g.inner; outermost = g.outermost; deferred = g.deferred });
}

restored-trans : (a b c : Held) → Restored a b → Restored b c → Restored a c
restored-trans a b c h k = record { store = λ edge. k.store edge ∙ h.store edge; undo = k.undo ∙ h.undo; shape = k.shape ∙ h.shape }

-- no iteration
pub turns-none : (f : Setting) (m : Mode) (a : Going) → DoesTurns f m a a None (λ s. [])
turns-none f m a = record {
  ready = λ r. r;
  restored = record { store = λ edge. refl; undo = refl; shape = refl };
  follows = λ x h. record {
    inner = by_inner m x h.inner;
    outermost = subst (λ (cs : List Contribution). StandsFor a.outermost cs) (sym (append-nil x.with_outermost)) h.outermost;
    deferred = h.deferred ∙ by_deferred m x;
  };
  fault = λ x h. refl;
}
  where
    by_inner : (m : Mode) (x : Before) → InnerStands m a.inner x.with_inner → InnerStands m a.inner (x.with_inner ++ [])
    by_inner Outermost x s = s
    by_inner (AtEdge e) x s = subst (λ (cs : List Contribution). StandsFor a.inner cs) (sym (append-nil x.with_inner)) s

    by_deferred : (m : Mode) (x : Before) → x.deferred ≡ deferred_after m x.deferred []
    by_deferred Outermost x = sym (append-nil x.deferred)
    by_deferred (AtEdge e) x = refl

-- iterations after others: each began with the same store
pub turns-more : (f : Setting) (m : Mode) (a b c : Going) (found more : Option Fault) (turns others : Store → List Iteration)
    → DoesTurns f m a b found turns → DoesTurns f m b c more others → DoesTurns f m a c (sooner found more) (λ s. turns s ++ others s)
turns-more f m a b c found more turns others first second = record {
  ready = λ r. second.ready (first.ready r);
  restored = restored-trans a.store b.store c.store first.restored second.restored;
  follows = λ x h.
      let k = second.follows (behind m x (turns (seen f a))) (first.follows x h) in
      let same : seen f b ≡ seen f a = first.restored.store (edges_in f) in
      subst (λ (y : Before). Follows m y c)
      (ap (λ (s : Store). behind m (behind m x (turns (seen f a))) (others s)) same ∙ behind-both m x (turns (seen f a)) (others (seen f a))) k;
  fault = λ x h.
      let same : seen f b ≡ seen f a = first.restored.store (edges_in f) in
      ap (λ (o : Option Fault). sooner o more) (first.fault x h)
      ∙ ap (sooner (least (faults_of (turns (seen f a))))) (second.fault (behind m x (turns (seen f a))) (first.follows x h) ∙ ap (λ (s : Store). least (faults_of (others s))) same)
      ∙ sym (faults-append (λ (t : Iteration). t.fault) (turns (seen f a)) (others (seen f a)));
}
  where
    after_both : (m : Mode) (ws us vs : List Write) → deferred_after m (deferred_after m ws us) vs ≡ deferred_after m ws (us ++ vs)
    after_both Outermost ws us vs = append_assoc ws us vs
    after_both (AtEdge e) ws us vs = refl

    behind-both : (m : Mode) (x : Before) (ts us : List Iteration) → behind m (behind m x ts) us ≡ behind m x (ts ++ us)
    behind-both m x ts us =
        let inner : (x.with_inner ++ inner_of ts) ++ inner_of us ≡ x.with_inner ++ inner_of (ts ++ us) =
        append_assoc x.with_inner (inner_of ts) (inner_of us) ∙ ap (λ (l : List Contribution). x.with_inner ++ l) (sym (parts-append (λ (t : Iteration). t.with_inner) ts us)) in
        let outermost : (x.with_outermost ++ outermost_of ts) ++ outermost_of us ≡ x.with_outermost ++ outermost_of (ts ++ us) =
        append_assoc x.with_outermost (outermost_of ts) (outermost_of us) ∙ ap (λ (l : List Contribution). x.with_outermost ++ l) (sym (parts-append (λ (t : Iteration). t.with_outermost) ts us)) in
        let deferred : deferred_after m (deferred_after m x.deferred (deferred_of ts)) (deferred_of us) ≡ deferred_after m x.deferred (deferred_of (ts ++ us)) =
        after_both m x.deferred (deferred_of ts) (deferred_of us) ∙ ap (deferred_after m x.deferred) (sym (parts-append (λ (t : Iteration). t.deferred) ts us)) in
        cc

-- iterations, after which nothing of what they left is changed
pub turns-kept : (f : Setting) (m : Mode) (a b c : Going) (found : Option Fault) (turns : Store → List Iteration) → Keeps b c → DoesTurns f m a b found turns → DoesTurns f m a c found turns
turns-kept f m a b c found turns k h = record {
  ready = λ r. ready-same f b c (ap shape_of k.store) k.inner k.outermost k.deferred (h.ready r);
  restored = subst (λ (s : Held). Restored a.store s) (sym k.store) h.restored;
  follows = λ x g.
      let w : Follows m (behind m x (turns (seen f a))) b = h.follows x g in
      record {
        inner = subst (λ (t : Totals). InnerStands m t (behind m x (turns (seen f a))).with_inner) (sym k.inner) w.inner;
        outermost = subst (λ (t : Totals). StandsFor t (behind m x (turns (seen f a))).with_outermost) (sym k.outermost) w.outermost;
        deferred = ap (λ v. v.items) k.deferred ∙ w.deferred;
      };
  fault = h.fault;
}

-- the same iterations at the store that was
pub turns-at : (f : Setting) (m : Mode) (a b : Going) (found : Option Fault) (turns others : Store → List Iteration) → turns (seen f a) ≡ others (seen f a)
    → DoesTurns f m a b found turns → DoesTurns f m a b found others
turns-at f m a b found turns others same h = record {
  ready = h.ready;
  restored = h.restored;
  follows = λ x k. subst (λ (l : List Iteration). Follows m (behind m x l) b) same (h.follows x k);
  fault = λ x k. h.fault x k ∙ ap (λ (l : List Iteration). least (faults_of l)) same;
}

-- one iteration more
pub turns-step : {A : Type 0} (f : Setting) (m : Mode) (a b c : Going) (found fault : Option Fault) (turn : A → Store → Iteration) (done : List A) (x : A)
    → DoesTurns f m a b found (λ s. map (λ y. turn y s) done) → DoesTurns f m b c fault (λ s. turn x s ∷ [])
    → DoesTurns f m a c (sooner found fault) (λ s. map (λ y. turn y s) (done ++ x ∷ []))
turns-step f m a b c found fault turn done x first second =
    turns-at f m a c (sooner found fault) (λ s. map (λ y. turn y s) done ++ turn x s ∷ []) (λ s. map (λ y. turn y s) (done ++ x ∷ []))
    (sym (map-append (λ y. turn y (seen f a)) done (x ∷ [])))
    (turns-more f m a b c found fault (λ s. map (λ y. turn y s) done) (λ s. turn x s ∷ []) first second)

-- what the first of a list give, and one more of it
pub taken-more : {A B : Type 0} (g : A → B) (xs : List A) (i : ℕ) (x : A) → i < length xs → map g (take (i + 1) xs) ≡ map g (take i xs) ++ g (get_or xs i x) ∷ []
taken-more g xs i x lt = ap (map g) (take_more xs i x lt) ∙ map-append g (take i xs) (get_or xs i x ∷ [])

-- a test for a fault
pub has-fault : (o : Option Fault) → true ≡ is_some o → (f : Fault) × (o ≡ Some f)
has-fault None e = cc
has-fault (Some f) e = (f, refl)

pub no-fault : (o : Option Fault) → false ≡ is_some o → o ≡ None
no-fault None e = refl
no-fault (Some f) e = cc
