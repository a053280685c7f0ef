-- Outermost loops: their nodes, their iterations and their end.
use Rattle.std.proofs.Common.{◌≡◌, ◌∙◌, ◌<◌, ◌+◌, ℕ, zero, suc, List, [], ◌++◌, length, map, get_or, Option, Some, None, Ok, refl, ap, sym, subst, arith}
use Rattle.std.specs.Prelude.{All}
use Rattle.gm_semantics.specs.declared.faults.Fault.{Fault}
use Rattle.gm_semantics.specs.declared.slots.Write.{Write}
use Rattle.gm_semantics.specs.Contributions.{Contribution, settled_store, total_faults}
use Rattle.gm_semantics.specs.Faults.{least, unless_fault}
use Rattle.gm_semantics.specs.Iterations.{Iteration, Outermost}
use Rattle.gm_semantics.specs.Levels.{numbers_from}
use Rattle.gm_semantics.specs.Loops.{loop_done, own_left}
use Rattle.gm_semantics.specs.Stores.{Store, overlaid}
use Rattle.gm_store.specs.Held.{Shape, HasSlot, shape_of}
use Rattle.gm_totals.specs.declared.totals.Totals.{Totals}
use Rattle.gm_totals.specs.declared.totals.Closed.{Closed}
use Rattle.gm_totals.specs.Standing.{StandsFor, Within, Settles}
use Rattle.gm_loops.specs.declared.goings.Going.{Going}
use Rattle.gm_loops.specs.declared.sights.Setting.{Setting}
use Rattle.gm_loops.specs.Goings.{Before, IsReady}
use Rattle.gm_loops.specs.LoopEnds.{AtRest, Finishes, ended}
use Rattle.gm_loops.specs.Own.{Sets}
use Rattle.gm_loops.specs.Parts.{sooner}
use Rattle.gm_loops.specs.Sights.{edges_in}
use Rattle.gm_loops.specs.Turns.{seen, DoesTurns, Follows, KeepsOwn, deferred_of, faults_of, outermost_of}
use Rattle.gm_loops.proofs.Effects.{fits-same}
use Rattle.gm_loops.proofs.Parting.{least-append}

pub length-numbers : (k n : ℕ) → length (numbers_from k n) ≡ n
length-numbers k zero = refl
length-numbers k (suc n) = ap suc (length-numbers (suc k) n)

pub get-numbers : (k n i d : ℕ) → i < n → get_or (numbers_from k n) i d ≡ k + i
get-numbers k zero i d h = absurd (omega arith)
get-numbers k (suc n) zero d h = omega arith
get-numbers k (suc n) (suc i) d h = let rest : get_or (numbers_from (suc k) n) i d ≡ suc k + i = get-numbers (suc k) n i d (omega arith) in omega (arith, rest)

-- what nothing has left
abbrev pub nothing : Before
nothing = record { with_inner = []; with_outermost = []; deferred = [] }

pub follows-nothing : (f : Setting) (g : Going) → AtRest f g → Follows Outermost nothing g
follows-nothing f g h = record { inner = h.inner; outermost = h.outermost; deferred = h.deferred }

-- the totals of an outermost loop are closed and set, and then the deferred writes are
pub finishes : (old mid new : Going) (found answer : Option Fault) (closed : Closed) → Settles old.store old.outermost closed
    → Sets old.store mid.store closed.writes.items → Sets mid.store new.store old.deferred.items
    → StandsFor new.outermost [] → ((shape : Shape) → Within shape new.outermost) → new.inner ≡ old.inner → new.deferred.items ≡ [] → answer ≡ sooner found closed.fault
    → Finishes old new found answer
finishes old mid new found answer closed settles first second empty within inner deferred fault = record {
  fault = λ edge cs h. fault ∙ ap (sooner found) (settles.fault edge cs h);
  store = λ edge cs h. second.store edge ∙ ap (λ (s : Store). overlaid s old.deferred.items) (first.store edge ∙ settles.store edge cs h);
  undo = second.undo ∙ first.undo;
  shape = second.shape ∙ first.shape;
  inner = inner;
  outermost = empty;
  within = within;
  deferred = deferred;
}

-- how a loop ends, by its fault
ends-by : (o : Option Fault) (s : Store) → ended o s ≡ unless_fault o (Ok s)
ends-by None s = refl
ends-by (Some f) s = refl

-- a whole loop: its iterations, what they left at their own nodes, and its end
pub loop-meaning : (f : Setting) (old mid own_set new : Going) (own : List Write) (found answer : Option Fault) (ks : List ℕ) (turn : Store → ℕ → Iteration)
    → AtRest f old → DoesTurns f Outermost old mid found (λ s. map (turn s) ks) → KeepsOwn (seen f old) own ks (turn (seen f old))
    → Sets mid.store own_set.store own → own_set.outermost ≡ mid.outermost → own_set.deferred ≡ mid.deferred → Finishes own_set new found answer
    → ended answer (seen f new) ≡ loop_done (seen f old) ks (map (turn (seen f old)) ks)
loop-meaning f old mid own_set new own found answer ks turn rest turns keeps sets same_outermost same_deferred last =
    ap (λ (s : Store). ended answer s) store ∙ ap (λ (o : Option Fault). ended o (overlaid (settled_store left cs) (deferred_of its))) fault
    ∙ ends-by (least (faults_of its ++ total_faults left cs)) (overlaid (settled_store left cs) (deferred_of its))
  where
    its : List Iteration
    its = map (turn (seen f old)) ks

    left : Store
    left = own_left (seen f old) ks its

    cs : List Contribution
    cs = outermost_of its

    stands : StandsFor own_set.outermost cs
    stands = subst (λ (t : Totals). StandsFor t cs) (sym same_outermost) (turns.follows nothing (follows-nothing f old rest)).outermost

    waits : own_set.deferred.items ≡ deferred_of its
    waits = ap (λ v. v.items) same_deferred ∙ (turns.follows nothing (follows-nothing f old rest)).deferred

    base : seen f own_set ≡ left
    base = sets.store (edges_in f) ∙ ap (λ (s : Store). overlaid s own) (turns.restored.store (edges_in f)) ∙ keeps

    store : seen f new ≡ overlaid (settled_store left cs) (deferred_of its)
    store =
        last.store (edges_in f) cs stands
        ∙ ap (λ (s : Store). overlaid (settled_store s cs) own_set.deferred.items) base
        ∙ ap (λ (ws : List Write). overlaid (settled_store left cs) ws) waits

    fault : answer ≡ least (faults_of its ++ total_faults left cs)
    fault =
        last.fault (edges_in f) cs stands
        ∙ ap (λ (s : Store). sooner found (least (total_faults s cs))) base
        ∙ ap (λ (o : Option Fault). sooner o (least (total_faults left cs))) (turns.fault nothing (follows-nothing f old rest))
        ∙ sym (least-append (faults_of its) (total_faults left cs))

-- after a loop no loop is going on
pub loop-rest : (f : Setting) (old mid own_set new : Going) (own : List Write) (found answer : Option Fault) (turns : Store → List Iteration)
    → AtRest f old → DoesTurns f Outermost old mid found turns → Sets mid.store own_set.store own → own_set.inner ≡ mid.inner → Finishes own_set new found answer → AtRest f new
loop-rest f old mid own_set new own found answer turns rest did sets same_inner last =
    let ready : IsReady f mid = did.ready rest.ready in
    let shape : shape_of new.store ≡ shape_of mid.store = last.shape ∙ sets.shape in
    let inner : new.inner ≡ mid.inner = last.inner ∙ same_inner in
    record {
      ready = record {
        fits = fits-same f mid.store new.store shape ready.fits;
        inner = subst (λ (t : Totals). Within (shape_of new.store) t) (sym inner) (subst (λ (s : Shape). Within s mid.inner) (sym shape) ready.inner);
        outermost = last.within (shape_of new.store);
        deferred = subst (λ (ws : List Write). All (λ (w : Write). HasSlot (shape_of new.store) w.slot) ws) (sym last.deferred) (λ k d lt. absurd (omega arith));
      };
      quiet = last.undo ∙ sets.undo ∙ did.restored.undo ∙ rest.quiet;
      inner = subst (λ (t : Totals). StandsFor t []) (sym inner) (did.follows nothing (follows-nothing f old rest)).inner;
      outermost = last.outermost;
      deferred = last.deferred;
    }
