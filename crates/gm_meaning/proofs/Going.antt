-- Steps of a run: what stays at rest, and how courses follow one another.
use Rattle.std.proofs.Common.{◌≡◌, ◌∙◌, ℕ, false, Some, None, Result, Ok, Err, refl, ap, sym, subst}
use Rattle.std.specs.Prelude.{All, IfOk}
use Rattle.gm_value.specs.declared.values.VType.{VType}
use Rattle.gm_value.specs.declared.values.Value.{Value}
use Rattle.gm_ast.specs.declared.tree.Key.{Key}
use Rattle.gm_ast.specs.declared.tree.Sort.{Sort}
use Rattle.gm_ast.specs.declared.tree.Sort.TheVariants as Sorts
use Rattle.gm_semantics.specs.declared.faults.Fault.{Fault}
use Rattle.gm_semantics.specs.declared.slots.Write.{Write}
use Rattle.gm_semantics.specs.Stores.{Store}
use Rattle.gm_semantics.specs.Levels.{no_levels}
use Rattle.gm_semantics.specs.Expressions.{View}
use Rattle.gm_semantics.specs.Statements as S
use Rattle.gm_semantics.specs.Statements.{Run, State, with_value, with_store, then_do, declared}
use Rattle.gm_store.specs.Held.{Held, Shape, HasSlot, shape_of, store_of}
use Rattle.gm_totals.specs.Standing.{Within}
use Rattle.gm_loops.specs.declared.goings.Going.{Going}
use Rattle.gm_loops.specs.declared.sights.Setting.{Setting}
use Rattle.gm_loops.specs.LoopEnds.{ended, AtRest}
use Rattle.gm_loops.specs.Sights.{edges_in}
use Rattle.gm_loops.proofs.Effects.{fits-same}
use Rattle.gm_meaning.specs.declared.phases.Course.{Course}
use Rattle.gm_meaning.specs.declared.phases.Course.TheVariants.{Goes, Returns, Faults, Stops}
use Rattle.gm_meaning.specs.declared.phases.Phase.{Phase}
use Rattle.gm_meaning.specs.Phases.{run_of, state_in, state_of, course_of, Runs}

-- what is at rest stays so where what is held keeps its shape and its log
pub rest-store : (f : Setting) (old : Going) (new : Held) → shape_of new ≡ shape_of old.store → new.undo ≡ old.store.undo → AtRest f old → AtRest f (record old { store = new })
rest-store f old new shape undo r = record {
  ready = record {
    fits = fits-same f old.store new shape r.ready.fits;
    inner = subst (λ (s : Shape). Within s old.inner) (sym shape) r.ready.inner;
    outermost = subst (λ (s : Shape). Within s old.outermost) (sym shape) r.ready.outermost;
    deferred = subst (λ (s : Shape). All (λ (u : Write). HasSlot s u.slot) old.deferred.items) (sym shape) r.ready.deferred;
  };
  quiet = undo ∙ r.quiet;
  inner = r.inner;
  outermost = r.outermost;
  deferred = r.deferred;
}

-- a run with another store
abbrev pub with_held : Phase → Held → Phase
with_held p h = record p { going = record p.going { store = h } }

-- a run that goes on with another store, at what it meant before
pub runs-store : (f : Setting) (old : Phase) (new : Held) (next : Store → Store)
    → ((edge : ℕ → ℕ → Value) → store_of edge new ≡ next (store_of edge old.going.store)) → new.undo ≡ old.going.store.undo → shape_of new ≡ shape_of old.going.store
    → AtRest f old.going → Runs f old (with_held old new) Goes (λ s. with_store s (next s.store))
runs-store f old new next store undo shape r = record {
  course = ap (λ (s : Store). S.Goes (let t : State = record { store = s; turns = old.turns } in t)) (store (edges_in f));
  rest = rest-store f old.going new shape undo r;
}

-- a run that stays as it is
pub runs-same : (f : Setting) (old : Phase) (c : Course) (meaning : State → S.Course) → course_of c (state_of f old) ≡ meaning (state_of f old) → AtRest f old.going → Runs f old old c meaning
runs-same f old c meaning e r = record { course = e; rest = r }

-- the same meaning, by another name
pub runs-as : (f : Setting) (old new : Phase) (c : Course) (meaning other : State → S.Course) → Runs f old new c meaning → meaning (state_of f old) ≡ other (state_of f old) → Runs f old new c other
runs-as f old new c meaning other h e = record { course = h.course ∙ e; rest = h.rest }

-- a course that ends the run
abbrev pub IsEnd : Course → Type 0
IsEnd c = c ≡ Goes → ⊥

-- what comes after a course that ends the run does not count
pub end-stays : (c : Course) (s : State) (next : State → S.Course) → IsEnd c → then_do (course_of c s) next ≡ course_of c s
end-stays Goes s next h = absurd (h refl)
end-stays (Returns v) s next h = refl
end-stays (Faults f) s next h = refl
end-stays Stops s next h = refl

-- two parts, one after the other
pub runs-then : (f : Setting) (a b d : Phase) (c : Course) (m next : State → S.Course) → Runs f a b Goes m → Runs f b d c next → Runs f a d c (λ s. then_do (m s) next)
runs-then f a b d c m next g h = record { course = h.course ∙ ap (λ (k : S.Course). then_do k next) g.course; rest = h.rest }

-- the first of two parts ends the run
pub runs-ends : (f : Setting) (a b : Phase) (c : Course) (m next : State → S.Course) → IsEnd c → Runs f a b c m → Runs f a b c (λ s. then_do (m s) next)
runs-ends f a b c m next e g = record { course = sym (end-stays c (state_of f b) next e) ∙ ap (λ (k : S.Course). then_do k next) g.course; rest = g.rest }

-- what a statement sees in a store
pub seen-same : (f : Setting) (key : Key) (h : Held) (s : Store) → s ≡ store_of (edges_in f) h
    → (let w : View = record { graph = f.graph.now; levels = no_levels; parallel = false; store = s; edge = 0; key = key } in w) ≡ S.view_of (run_of f) (state_in f h 0) key
seen-same f key h s e = ap (λ (t : Store). let w : View = record { graph = f.graph.now; levels = no_levels; parallel = false; store = t; edge = 0; key = key } in w) e

-- what holds of a good answer, by what follows from it
pub if-ok : {A E : Type 0} (r : Result A E) (P Q : A → Type 0) → ((a : A) → P a → Q a) → IfOk r P → IfOk r Q
if-ok (Ok a) P Q h p = h a p
if-ok (Err e) P Q h p = tt

-- a parallel loop that ended
pub loops-none : (f : Setting) (old : Phase) (new : Going) (answer : Store → Result Store Fault) → ended None (store_of (edges_in f) new.store) ≡ answer (store_of (edges_in f) old.going.store) → AtRest f new
    → Runs f old (record old { going = new }) Goes (λ s. with_value (answer s.store) (with_store s))
loops-none f old new answer e r = record { course = ap (λ (a : Result Store Fault). with_value a (with_store (state_of f old))) e; rest = r }

pub loops-some : (f : Setting) (old : Phase) (new : Going) (fault : Fault) (answer : Store → Result Store Fault) → ended (Some fault) (store_of (edges_in f) new.store) ≡ answer (store_of (edges_in f) old.going.store) → AtRest f new
    → Runs f old (record old { going = new }) (Faults fault) (λ s. with_value (answer s.store) (with_store s))
loops-some f old new fault answer e r = record { course = ap (λ (a : Result Store Fault). with_value a (with_store (state_of f old))) e; rest = r }

-- a declaration of what holds no value
pub declared-other : (sort : Sort) (t : VType) (x : ℕ) (s : Store) → (sort ≡ Sorts.Scalar → ⊥) → (sort ≡ Sorts.NodeProperty → ⊥) → declared sort t x s ≡ s
declared-other Sorts.Graph t x s a b = refl
declared-other Sorts.Iterator t x s a b = refl
declared-other Sorts.Scalar t x s a b = absurd (a refl)
declared-other Sorts.Edge t x s a b = refl
declared-other Sorts.NodeProperty t x s a b = absurd (b refl)
declared-other Sorts.EdgeProperty t x s a b = refl
