-- What loops leave whose iterations leave alike.
use Rattle.std.proofs.Common.{◌≡◌, ◌<◌, ℕ, List, [], ◌∷◌, ◌++◌, map, refl, sym, ap, subst, ◌∙◌, Option, Some, None, Ok, inl, inr}
use Rattle.std.specs.Prelude.{nat_eq, if◌then◌else◌}
use Rattle.gm_value.specs.Bag.{IsIn}
use Rattle.gm_semantics.specs.declared.faults.Fault.{Fault}
use Rattle.gm_semantics.specs.declared.slots.Write.{Write}
use Rattle.gm_semantics.specs.Stores.{Store, overlaid}
use Rattle.gm_semantics.specs.Faults.{least, unless_fault, somes, joined}
use Rattle.gm_semantics.specs.Contributions.{settled_store, total_faults}
use Rattle.gm_semantics.specs.Iterations.{Iteration}
use Rattle.gm_semantics.specs.Loops.{left_at, own_left, loop_done}
use Rattle.gm_semantics.specs.Frames.{Agree, GivesBelow, AlikeStores}
use Rattle.gm_semantics.specs.Contributions.{Contribution}
use Rattle.gm_semantics.proofs.ExpressionFrames.{agree-write}
use Rattle.gm_semantics.proofs.BodyFrames.{settled-agree, total_faults-agree}

-- two iterations leave alike, whatever their locals hold
pub record LeaveAlike (k : ℕ) (a b : Iteration) : Type 0 where
  pub node : (p n : ℕ) → p < k → b.store.node p n ≡ a.store.node p n
  pub with_outermost : b.with_outermost ≡ a.with_outermost
  pub deferred : b.deferred ≡ a.deferred
  pub fault : b.fault ≡ a.fault
  pub below : GivesBelow k a.with_outermost

module _ (k : ℕ) (f g : ℕ → Iteration) where
  pub overlaid-agree : (ws : List Write) (s t : Store) → Agree k s t → Agree k (overlaid s ws) (overlaid t ws)
  overlaid-agree [] s t h = h
  overlaid-agree (w ∷ ws) s t h = overlaid-agree ws _ _ (agree-write k s t w.slot w.value h)

  stores-alike : (o : Option Fault) (s t : Store) → Agree k s t → AlikeStores k (unless_fault o (Ok s)) (unless_fault o (Ok t))
  stores-alike None s t h = h
  stores-alike (Some e) s t h = refl

  abbrev Each : List ℕ → Type 0
  Each ks = (x : ℕ) → IsIn x ks → LeaveAlike k (f x) (g x)

  left-agree : (ks : List ℕ) (s t : Store) → Each ks → Agree k s t → (p n : ℕ) → p < k → left_at ks (map g ks) t p n ≡ left_at ks (map f ks) s p n
  left-agree [] s t each h p n b = h.node p n b
  left-agree (i ∷ ks) s t each h p n b =
      ap (λ v. if nat_eq i n then v else left_at ks (map g ks) t p n) ((each i (inl refl)).node p n b)
      ∙ ap (λ v. if nat_eq i n then (f i).store.node p n else v) (left-agree ks s t (λ x m. each x (inr m)) h p n b)

  given-same : (ks : List ℕ) → Each ks → joined (map (λ (it : Iteration). it.with_outermost) (map g ks)) ≡ joined (map (λ (it : Iteration). it.with_outermost) (map f ks))
  given-same [] each = refl
  given-same (i ∷ ks) each =
      ap (λ l. l ++ joined (map (λ (it : Iteration). it.with_outermost) (map g ks))) ((each i (inl refl)).with_outermost) ∙ ap (λ l. (f i).with_outermost ++ l) (given-same ks (λ x m. each x (inr m)))

  deferred-same : (ks : List ℕ) → Each ks → joined (map (λ (it : Iteration). it.deferred) (map g ks)) ≡ joined (map (λ (it : Iteration). it.deferred) (map f ks))
  deferred-same [] each = refl
  deferred-same (i ∷ ks) each = ap (λ l. l ++ joined (map (λ (it : Iteration). it.deferred) (map g ks))) ((each i (inl refl)).deferred) ∙ ap (λ l. (f i).deferred ++ l) (deferred-same ks (λ x m. each x (inr m)))

  faults-same : (ks : List ℕ) → Each ks → map (λ (it : Iteration). it.fault) (map g ks) ≡ map (λ (it : Iteration). it.fault) (map f ks)
  faults-same [] each = refl
  faults-same (i ∷ ks) each = ap (λ o. o ∷ map (λ (it : Iteration). it.fault) (map g ks)) ((each i (inl refl)).fault) ∙ ap (λ l. (f i).fault ∷ l) (faults-same ks (λ x m. each x (inr m)))

  below-both : (cs ds : List Contribution) → GivesBelow k cs → GivesBelow k ds → GivesBelow k (cs ++ ds)
  below-both [] ds h i = i
  below-both (c ∷ cs) ds h i = (h.0, below-both cs ds h.1 i)

  given-below : (ks : List ℕ) → Each ks → GivesBelow k (joined (map (λ (it : Iteration). it.with_outermost) (map f ks)))
  given-below [] each = tt
  given-below (i ∷ ks) each = below-both (f i).with_outermost _ ((each i (inl refl)).below) (given-below ks (λ x m. each x (inr m)))

  -- so do loops
  pub done-alike : (ks : List ℕ) (s t : Store) → Each ks → Agree k s t → AlikeStores k (loop_done s ks (map f ks)) (loop_done t ks (map g ks))
  done-alike ks s t each h =
      let xs = map f ks in
      let ys = map g ks in
      let own = own_left s ks xs in
      let own' = own_left t ks ys in
      let cs = joined (map (λ (it : Iteration). it.with_outermost) xs) in
      let ds = joined (map (λ (it : Iteration). it.with_outermost) ys) in
      let ws = joined (map (λ (it : Iteration). it.deferred) xs) in
      let us = joined (map (λ (it : Iteration). it.deferred) ys) in
      let o = least (somes (map (λ (it : Iteration). it.fault) xs) ++ total_faults own cs) in
      let agree : Agree k own own' = record { scalar = h.scalar; node = left-agree ks s t each h; edge = h.edge } in
      let faults : least (somes (map (λ (it : Iteration). it.fault) ys) ++ total_faults own' ds) ≡ o =
      ap (λ os. least (somes os ++ total_faults own' ds)) (faults-same ks each)
      ∙ ap (λ ds. least (somes (map (λ (it : Iteration). it.fault) xs) ++ total_faults own' ds)) (given-same ks each)
      ∙ ap (λ fs. least (somes (map (λ (it : Iteration). it.fault) xs) ++ fs)) (total_faults-agree k own own' cs (given-below ks each) agree) in
      subst (λ q. AlikeStores k (unless_fault o (Ok (overlaid (settled_store own cs) ws))) (unless_fault q (Ok (overlaid (settled_store own' ds) us)))) (sym faults)
      (subst (λ ds. AlikeStores k (unless_fault o (Ok (overlaid (settled_store own cs) ws))) (unless_fault o (Ok (overlaid (settled_store own' ds) us)))) (sym (given-same ks each))
      (subst (λ us. AlikeStores k (unless_fault o (Ok (overlaid (settled_store own cs) ws))) (unless_fault o (Ok (overlaid (settled_store own' cs) us)))) (sym (deferred-same ks each))
      (stores-alike o _ _ (overlaid-agree ws _ _ (settled-agree k own own' cs (given-below ks each) agree)))))
