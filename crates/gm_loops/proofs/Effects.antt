-- What the effects of statements do to a loop's iterations.
use Rattle.std.proofs.Common.{zero, suc, nat_eq, Bor, Bool, false, Ok, Err, if◌then◌else◌, ◌≤◌, arith, rules, true, ◌≡◌, ◌∙◌, ℕ, List, [], ◌∷◌, ◌++◌, Some, Result, ◌<◌, refl, ap, sym, subst}
use Rattle.std.specs.Prelude.{All, option_map}
use Rattle.std.proofs.lemmas.List.{append-nil, append_assoc}
use Rattle.std.proofs.lemmas.List.Elements.{All-nil, All-push}
use Rattle.gm_semantics.specs.Contributions.{Contribution}
use Rattle.gm_semantics.specs.declared.faults.Fault.{Fault}
use Rattle.gm_semantics.specs.declared.slots.Write.{Write}
use Rattle.gm_semantics.specs.Stores.{Store, write}
use Rattle.gm_model.specs.Graphs.{NumberedGraph, node_count}
use Rattle.gm_graph.specs.Walks.{edge_at}
use Rattle.gm_ast.specs.declared.tree.Key.{Key}
use Rattle.gm_value.specs.declared.values.Value.{Value}
use Rattle.gm_value.specs.declared.values.Value.TheVariants.{At}
use Rattle.gm_semantics.specs.declared.slots.Slot.{Slot}
use Rattle.gm_semantics.specs.declared.slots.Slot.TheVariants.{Scalar, Node}
use Rattle.gm_ast.specs.declared.tree.Target.{Target}
use Rattle.gm_ast.specs.declared.tree.Target.TheVariants as T
use Rattle.gm_semantics.specs.Faults.{then_with}
use Rattle.gm_semantics.specs.Expressions.{View, Answer}
use Rattle.gm_semantics.specs.Iterations.{Ends, AtOnce, later, alone, wrote_all, Loop, WithInner, WithOutermost, scalar_ends, own_ends, ends_of, with_ok, edge_of, view_in, Iteration, begun, Mode, Outermost, AtEdge, failed, wrote, gave_inner, gave_outermost}
use Rattle.gm_store.specs.Held.{Held, Shape, HasSlot, Reversible, shape_of, store_of}
use Rattle.gm_store.specs.Laws.{IsLogged}
use Rattle.gm_totals.specs.declared.totals.Totals.{Totals}
use Rattle.gm_totals.specs.Standing.{StandsFor, Within}
use Rattle.gm_loops.specs.declared.goings.Going.{Going}
use Rattle.gm_loops.specs.declared.sights.Setting.{Setting}
use Rattle.gm_loops.specs.declared.around.Around.{Around}
use Rattle.gm_loops.specs.declared.scopes.Scope as S
use Rattle.gm_loops.specs.declared.scopes.Scope.{the_lemmas as scope_lemmas}
use Rattle.gm_loops.specs.declared.around.Mode as C
use Rattle.gm_loops.specs.declared.around.Mode.TheVariants as modes
use Rattle.gm_loops.specs.Around.{loop_of, mode_in, mode_of, row_of, sight_of}
use Rattle.gm_loops.specs.Scopes.{inside, no_scope, scalar_in}
use Rattle.gm_loops.specs.Sights.{Fits, edges_in, level_in, view_of}
use Rattle.gm_loops.specs.Targets.{room}
use Rattle.gm_loops.specs.Goings.{Does, Stands}

pub reversible-none : (h : Held) → Reversible h h
reversible-none h = record { shape = refl; more = []; logged = sym (append-nil h.undo); back = λ edge. refl }

pub fits-same : (f : Setting) (old new : Held) → shape_of new ≡ shape_of old → Fits f old → Fits f new
fits-same f old new e h = record {
  in_rows = h.in_rows;
  columns = h.columns;
  scalars = ap (λ (s : Shape). s.scalars) e ∙ h.scalars;
  rows = ap (λ (s : Shape). s.rows) e ∙ h.rows;
  nodes = ap (λ (s : Shape). s.nodes) e ∙ h.nodes;
}

pub does-fail : (f : Setting) (m : Mode) (old : Going) (fault : Fault) → Does f m old (record old { fault = Some fault }) (λ it. failed it fault)
does-fail f m old fault = record {
  ready = λ r. record { fits = r.fits; inner = r.inner; outermost = r.outermost; deferred = r.deferred };
  back = reversible-none old.store;
  stands = λ b it h. record { store = h.store; inner = h.inner; outermost = h.outermost; deferred = h.deferred; fault = refl };
}

pub does-write : (f : Setting) (m : Mode) (old : Going) (new : Held) (w : Write) → IsLogged old.store new w.slot w.value → Reversible old.store new
    → Does f m old (record old { store = new }) (λ it. wrote it (w.slot, w.value))
does-write f m old new w logged back = record {
  ready = λ r. record {
    fits = fits-same f old.store new logged.shape r.fits;
    inner = subst (λ (s : Shape). Within s old.inner) (sym logged.shape) r.inner;
    outermost = subst (λ (s : Shape). Within s old.outermost) (sym logged.shape) r.outermost;
    deferred = subst (λ (s : Shape). All (λ (u : Write). HasSlot s u.slot) old.deferred.items) (sym logged.shape) r.deferred;
  };
  back = back;
  stands = λ b it h. record {
    store = logged.store (edges_in f) ∙ ap (λ (s : Store). write s w.slot w.value) h.store;
    inner = h.inner;
    outermost = h.outermost;
    deferred = h.deferred;
    fault = h.fault;
  };
}

pub does-give_inner : (f : Setting) (edge : ℕ) (old : Going) (new : Totals) (c : Contribution) → All (HasSlot (shape_of old.store)) c.slots
    → ((cs : List Contribution) → StandsFor old.inner cs → StandsFor new (cs ++ c ∷ []))
    → ((shape : Shape) → All (HasSlot shape) c.slots → Within shape old.inner → Within shape new)
    → Does f (AtEdge edge) old (record old { inner = new }) (λ it. gave_inner it c)
does-give_inner f edge old new c slot stands within = record {
  ready = λ r. record { fits = r.fits; inner = within (shape_of old.store) slot r.inner; outermost = r.outermost; deferred = r.deferred };
  back = reversible-none old.store;
  stands = λ b it h. record {
    store = h.store;
    inner = subst (λ (cs : List Contribution). StandsFor new cs) (append_assoc b.with_inner it.with_inner (c ∷ [])) (stands (b.with_inner ++ it.with_inner) h.inner);
    outermost = h.outermost;
    deferred = h.deferred;
    fault = h.fault;
  };
}

pub does-give_outermost : (f : Setting) (m : Mode) (old : Going) (new : Totals) (c : Contribution) → All (HasSlot (shape_of old.store)) c.slots
    → ((cs : List Contribution) → StandsFor old.outermost cs → StandsFor new (cs ++ c ∷ []))
    → ((shape : Shape) → All (HasSlot shape) c.slots → Within shape old.outermost → Within shape new)
    → Does f m old (record old { outermost = new }) (λ it. gave_outermost it c)
does-give_outermost f m old new c slot stands within = record {
  ready = λ r. record { fits = r.fits; inner = r.inner; outermost = within (shape_of old.store) slot r.outermost; deferred = r.deferred };
  back = reversible-none old.store;
  stands = λ b it h. record {
    store = h.store;
    inner = h.inner;
    outermost = subst (λ (cs : List Contribution). StandsFor new cs) (append_assoc b.with_outermost it.with_outermost (c ∷ [])) (stands (b.with_outermost ++ it.with_outermost) h.outermost);
    deferred = h.deferred;
    fault = h.fault;
  };
}

-- a target of one slot has its slot
pub known-one : (shape : Shape) (slot : Slot) → HasSlot shape slot → All (HasSlot shape) (slot ∷ [])
known-one shape slot has = All-push (HasSlot shape) [] slot (All-nil (HasSlot shape)) has

pub one-known : (shape : Shape) (slot : Slot) → All (HasSlot shape) (slot ∷ []) → HasSlot shape slot
one-known shape slot all = let first : 0 < 1 = omega arith in all 0 slot first

-- one target ends as it does alone
pub ends-alone : (e : Ends) → later e AtOnce ≡ e
ends-alone AtOnce = refl
ends-alone WithInner = refl
ends-alone WithOutermost = refl

-- one slot is written as it is alone
pub wrote-alone : (it : Iteration) (a : Result (Slot × Value) Fault) → with_ok it (alone a) (wrote_all it) ≡ with_ok it a (wrote it)
wrote-alone it (Ok p) = refl
wrote-alone it (Err f) = refl

-- outside reductions the store is as it is
pub inside-none : (s : Store) → inside no_scope s ≡ s
inside-none s = search (rules, scope_lemmas)

-- inside a reduction its iterator is a node
pub scalar-bound : (i n : ℕ) (o : Bor S.Scope) (f : ℕ → Value) (y : ℕ) → scalar_in (S.Bound i n o) f y ≡ (if nat_eq i y then At (Some n) else scalar_in o.now f y)
scalar-bound i n o f y = search (rules, scope_lemmas)

-- the edge of the row that a body sees is that at which it stands
row-seen : (g : NumberedGraph) (m : C.Mode) → edge_at g (row_of m) ≡ edge_of (mode_of g m)
row-seen g modes.Outermost = refl
row-seen g (modes.AtEdge row) = refl

-- what a statement of a body sees in a scope is what the code's sight shows
pub view-inside : (a : Around) (m : C.Mode) (key : Key) (scope : S.Scope) (h : Held)
    → view_of (sight_of a m key) scope h ≡ view_in (loop_of a) (mode_in a m) (begun (inside scope (store_of (edges_in a.setting.now) h))) key
view-inside a m key scope h =
    ap (λ (edge : ℕ). let v : View = record {
      graph = a.setting.now.graph.now;
      levels = level_in (option_map (λ l. l.now) a.levels);
      parallel = true;
      store = inside scope (store_of (edges_in a.setting.now) h);
      edge = edge;
      key = key;
    } in v) (row-seen a.setting.now.graph.now m)

-- the same in no scope
pub view-same : (a : Around) (m : C.Mode) (key : Key) (h : Held) (it : Iteration) → store_of (edges_in a.setting.now) h ≡ it.store
    → view_of (sight_of a m key) no_scope h ≡ view_in (loop_of a) (mode_in a m) it key
view-same a m key h it e =
    view-inside a m key no_scope h ∙ ap (λ (s : Store). view_in (loop_of a) (mode_in a m) (begun s) key) (inside-none (store_of (edges_in a.setting.now) h) ∙ e)

-- the same, by another name
pub does-as : (f : Setting) (m : Mode) (old new : Going) (next other : Iteration → Iteration) → Does f m old new next
    → ((it : Iteration) → store_of (edges_in f) old.store ≡ it.store → next it ≡ other it) → Does f m old new other
does-as f m old new next other h same = record {
  ready = h.ready;
  back = h.back;
  stands = λ b it s. subst (λ (x : Iteration). Stands (edges_in f) m b new x) (same it s.store) (h.stands b it s);
}

-- a slot within a bound is one of a store with at least that room
pub slot-fits : (f : Setting) (h : Held) (bound : ℕ) (slot : Slot) → Fits f h → bound ≤ f.variables → HasSlot (room (node_count f.graph.now) bound) slot → HasSlot (shape_of h) slot
slot-fits f h bound (Scalar x) fits le lt = omega (arith, fits.scalars)
slot-fits f h bound (Node p n) fits le lt = (omega (arith, fits.rows, lt.0), omega (arith, fits.nodes, lt.1))

-- a value for a scalar
pub scalar-ok : (it : Iteration) (x : ℕ) (a : Answer) → with_ok it (then_with a (λ v. Ok (Scalar x, v))) (wrote it) ≡ with_ok it a (λ v. wrote it (Scalar x, v))
scalar-ok it x (Ok v) = refl
scalar-ok it x (Err f) = refl

-- in an outer body nothing ends with an inner loop
never-scalar : (k : ℕ) → scalar_ends Outermost k ≡ WithInner → ⊥
never-scalar zero e = cc
never-scalar (suc k) e = cc

never-either : (b pushed : Bool) → (if b then own_ends Outermost pushed else WithOutermost) ≡ WithInner → ⊥
never-either true pushed e = cc
never-either false pushed e = cc

pub never-inner : (loop : Loop) (t : Target) → ends_of Outermost loop t ≡ WithInner → ⊥
never-inner loop (T.Scalar x at) e = never-scalar (loop.depth x) e
never-inner loop (T.Property x p at) e = never-either (nat_eq x loop.outer) (loop.pushed p) e
