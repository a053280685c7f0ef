-- Iterations of one deed, taken without the store.
use Rattle.std.proofs.Common.{◌≡◌, ◌∙◌, List, [], ◌∷◌, ◌++◌, Option, None, ap, subst, sym, refl}
use Rattle.std.proofs.lemmas.List.{append-nil}
use Rattle.std.specs.Prelude.{All}
use Rattle.gm_semantics.specs.Contributions.{Contribution}
use Rattle.gm_semantics.specs.declared.faults.Fault.{Fault}
use Rattle.gm_semantics.specs.declared.slots.Write.{Write}
use Rattle.gm_semantics.specs.Faults.{least, somes}
use Rattle.gm_semantics.specs.Iterations.{Iteration, Mode, Outermost, AtEdge, begun}
use Rattle.gm_semantics.specs.Stores.{Store}
use Rattle.gm_store.specs.Held.{Held, HasSlot, shape_of, store_of}
use Rattle.gm_totals.specs.declared.totals.Totals.{Totals}
use Rattle.gm_totals.specs.declared.contributions.Contribution.{Contribution as Gift}
use Rattle.gm_totals.specs.Given.{single}
use Rattle.gm_totals.specs.Standing.{StandsFor, Within}
use Rattle.gm_loops.specs.declared.goings.Going.{Going}
use Rattle.gm_loops.specs.declared.sights.Setting.{Setting}
use Rattle.gm_loops.specs.declared.shorts.Deed.{Deed}
use Rattle.gm_loops.specs.declared.shorts.Deed.TheVariants.{Nothing, Writes, Gives}
use Rattle.gm_loops.specs.Goings.{Before, InnerStands, IsReady, deferred_after}
use Rattle.gm_loops.specs.Shorts.{after_deed}
use Rattle.gm_loops.specs.Sights.{Fits}
use Rattle.gm_loops.specs.Turns.{DoesTurns, Follows, behind, seen}

-- an iteration leaves contributions to the outermost loop and nothing else that waits
pub record LeavesOnly (cs : List Contribution) (it : Iteration) : Type 0 where
  pub inner : it.with_inner ≡ []
  pub outermost : it.with_outermost ≡ cs
  pub deferred : it.deferred ≡ []
  pub fault : it.fault ≡ None

-- a deed that is no contribution leaves nothing that waits
pub leaves-none : (deed : Deed) → ((c : Gift) → deed ≡ Gives c → ⊥) → (s : Store) → LeavesOnly [] (after_deed deed (begun s))
leaves-none Nothing other s = record { inner = refl; outermost = refl; deferred = refl; fault = refl }
leaves-none (Writes w) other s = record { inner = refl; outermost = refl; deferred = refl; fault = refl }
leaves-none (Gives c) other s = absurd (other c refl)

-- a contribution is all that its iteration leaves
pub leaves-one : (c : Gift) (s : Store) → LeavesOnly (single c ∷ []) (after_deed (Gives c) (begun s))
leaves-one c s = record { inner = refl; outermost = refl; deferred = refl; fault = refl }

deferred-none : (m : Mode) (ds : List Write) → deferred_after m ds [] ≡ ds
deferred-none Outermost ds = append-nil ds
deferred-none (AtEdge e) ds = refl

-- what waits for a loop's end after one more iteration
follows-one : (m : Mode) (b : Before) (old new : Going) (it : Iteration) (cs : List Contribution) → LeavesOnly cs it
    → new.inner ≡ old.inner → StandsFor new.outermost (b.with_outermost ++ cs) → new.deferred.items ≡ old.deferred.items → Follows m b old → Follows m (behind m b (it ∷ [])) new
follows-one m b old new it cs leaves inner outermost deferred follows = record {
  inner =
      let same : b.with_inner ++ (it.with_inner ++ []) ≡ b.with_inner = ap (λ (l : List Contribution). b.with_inner ++ (l ++ [])) leaves.inner ∙ append-nil b.with_inner in
      subst (InnerStands m new.inner) (sym same) (subst (λ (t : Totals). InnerStands m t b.with_inner) (sym inner) follows.inner);
  outermost = subst (λ (l : List Contribution). StandsFor new.outermost (b.with_outermost ++ l)) (sym (append-nil it.with_outermost ∙ leaves.outermost)) outermost;
  deferred = deferred ∙ follows.deferred ∙ sym (ap (λ (l : List Write). deferred_after m b.deferred (l ++ [])) leaves.deferred ∙ deferred-none m b.deferred);
}

-- an iteration that leaves only contributions is done where the totals have them
pub takes-one : (f : Setting) (m : Mode) (old new : Going) (turn : Store → Iteration) (it : Iteration) (cs : List Contribution) → turn (seen f old) ≡ it → LeavesOnly cs it
    → new.store ≡ old.store → new.inner ≡ old.inner → new.deferred ≡ old.deferred
    → ((before : List Contribution) → StandsFor old.outermost before → StandsFor new.outermost (before ++ cs))
    → (IsReady f old → Within (shape_of old.store) new.outermost) → DoesTurns f m old new None (λ s. turn s ∷ [])
takes-one f m old new turn it cs is leaves store inner deferred stands within = record {
  ready = λ r. record {
    fits = subst (λ (h : Held). Fits f h) (sym store) r.fits;
    inner = subst (λ (h : Held). Within (shape_of h) new.inner) (sym store) (subst (Within (shape_of old.store)) (sym inner) r.inner);
    outermost = subst (λ (h : Held). Within (shape_of h) new.outermost) (sym store) (within r);
    deferred = subst (λ (h : Held). All (λ (w : Write). HasSlot (shape_of h) w.slot) new.deferred.items) (sym store)
        (subst (λ (ds : List Write). All (λ (w : Write). HasSlot (shape_of old.store) w.slot) ds) (sym (ap (λ v. v.items) deferred)) r.deferred);
  };
  restored = record {
    store = λ edge. ap (store_of edge) store;
    undo = ap (λ (h : Held). h.undo) store;
    shape = ap shape_of store;
  };
  follows = λ b follows. subst (λ (t : Iteration). Follows m (behind m b (t ∷ [])) new) (sym is)
      (follows-one m b old new it cs leaves inner (stands b.with_outermost follows.outermost) (ap (λ v. v.items) deferred) follows);
  fault = λ b follows. sym (ap (λ (o : Option Fault). least (somes (o ∷ []))) (ap (λ (t : Iteration). t.fault) is ∙ leaves.fault));
}
