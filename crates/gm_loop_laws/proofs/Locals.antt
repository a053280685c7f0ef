-- What inner loops give to the locals of the outer body ends with them, and leaves nothing but the faults of its totals.
use Rattle.std.proofs.Common.{◌≡◌, ◌≢◌, ℕ, Bool, true, false, List, [], ◌++◌, filter, refl, sym, ap, subst, ◌∙◌, append_assoc, ⊎_elim}
use Rattle.std.specs.Prelude.{not}
use Rattle.std.specs.List.{list_any}
use Rattle.std.proofs.lemmas.Bool.{cases_Bool, both_ways}
use Rattle.gm_value.specs.Bag.{IsIn, SameBag}
use Rattle.gm_semantics.specs.declared.faults.Fault.{Fault}
use Rattle.gm_semantics.specs.declared.slots.Slot.{Slot}
use Rattle.gm_semantics.specs.declared.slots.Slot.TheVariants.{Node}
use Rattle.gm_semantics.specs.Stores.{Store, has_slot}
use Rattle.gm_semantics.specs.Faults.{least}
use Rattle.gm_semantics.specs.Levels.{numbers_from}
use Rattle.gm_semantics.specs.Contributions.{Contribution, value_after, total_faults}
use Rattle.gm_semantics.specs.Iterations.{Iteration}
use Rattle.gm_semantics.specs.Laws.{OneReduction}
use Rattle.gm_semantics.proofs.Leasts.{lesser_of, least-append}
use Rattle.gm_semantics.proofs.ContributionLaws.{IsIn-filter, settled_store-same, total_faults-same}
use Rattle.gm_semantics.proofs.TargetLaws.{never}
use Rattle.gm_loop_laws.proofs.Joins.{parted, filter-implied, filter-commute}
use Rattle.gm_loop_laws.proofs.Settling.{value-right, totals-apart}
use Rattle.gm_loop_laws.proofs.LoopEnds.{Turns}

-- the least fault of parts whose least faults are the same
pub least-parts : (xs ys us vs : List Fault) → least xs ≡ least us → least ys ≡ least vs → least (xs ++ ys) ≡ least (us ++ vs)
least-parts xs ys us vs p q = least-append xs ys ∙ ap (λ o. lesser_of o (least ys)) p ∙ ap (lesser_of (least us)) q ∙ sym (least-append us vs)

module _ (s : Store) (count : ℕ) (late keep : Slot → Bool) (start : ℕ → Store) (G : ℕ → List Contribution) (F : ℕ → List Fault) where
  abbrev ks : List ℕ
  ks = numbers_from 0 count

  abbrev outer : Contribution → Bool
  outer c = list_any late c.slots

  abbrev inner : Contribution → Bool
  inner c = not (outer c)

  abbrev kept : Contribution → Bool
  kept c = list_any keep c.slots

  abbrev dropped : Contribution → Bool
  dropped c = not (kept c)

  -- what is given beside what goes to locals, and the faults of the totals of these
  abbrev pub kept_gives : ℕ → List Contribution
  kept_gives k = filter kept (G k)

  abbrev pub locals : ℕ → List Contribution
  locals k = filter dropped (G k)

  abbrev pub kept_faults : ℕ → List Fault
  kept_faults k = F k ++ total_faults (start k) (locals k)

  -- iterations by all that they give
  pub record Ended (its : ℕ → Iteration) : Type 0 where
    pub node : (k : ℕ) → IsIn k ks → (p : ℕ) → (its k).store.node p k ≡ value_after (start k) (filter inner (G k)) (Node p k)
    pub outermost : (k : ℕ) → IsIn k ks → (its k).with_outermost ≡ filter outer (G k)
    pub deferred : (k : ℕ) → IsIn k ks → (its k).deferred ≡ []
    pub fault : (k : ℕ) → IsIn k ks → (its k).fault ≡ least (F k ++ total_faults (start k) (filter inner (G k)))

  module _ (late_kept : (c : Contribution) → outer c ≡ true → kept c ≡ true) (one : (k : ℕ) → OneReduction (G k)) (off : (k : ℕ) (c : Contribution) → IsIn c (G k) → kept c ≡ false → (p n : ℕ) → has_slot (Node p n) c.slots ≡ false) where
    not-false : (b : Bool) → not b ≡ true → b ≡ false
    not-false true h = absurd (both_ways false refl h)
    not-false false h = refl

    dropped-inner : (c : Contribution) → dropped c ≡ true → inner c ≡ true
    dropped-inner c h = ⊎_elim (λ (o : outer c ≡ true). never (late_kept c o) (not-false (kept c) h)) (λ (o : outer c ≡ false). ap not o) (cases_Bool (outer c))

    abbrev mine : ℕ → List Contribution
    mine k = filter inner (G k)

    abbrev owns : ℕ → List Contribution
    owns k = filter inner (kept_gives k)

    parts : (k : ℕ) → SameBag (mine k) (locals k ++ owns k)
    parts k =
        subst (λ l. SameBag (mine k) (l ++ owns k)) (filter-implied dropped inner (G k) dropped-inner)
        (subst (λ l. SameBag (mine k) (filter dropped (mine k) ++ l)) (filter-commute kept inner (G k)) (parted kept (mine k)))

    one-mine : (k : ℕ) → OneReduction (mine k)
    one-mine k c d slot i j = one k c d slot (IsIn-filter inner c (G k) i).0 (IsIn-filter inner d (G k) j).0

    others : (k : ℕ) (c d : Contribution) → IsIn c (locals k) → IsIn d (owns k) → c.slots ≢ d.slots
    others k c d i j e =
        both_ways (kept c) (not-false (kept c) (IsIn-filter dropped c (G k) i).1) (ap (list_any keep) e ∙ (IsIn-filter kept d (G k) (IsIn-filter inner d (kept_gives k) j).0).1)

    -- they are iterations by what is given beside
    pub without-locals : (its : ℕ → Iteration) → Ended its → Turns s count late start kept_gives kept_faults its
    without-locals its e = record {
      node = λ k i p. e.node k i p
          ∙ ap (λ (t : Store). t.node p k) (settled_store-same (start k) (one-mine k) (parts k))
          ∙ value-right (start k) (Node p k) (locals k) (owns k) (λ c j. let r = IsIn-filter dropped c (G k) j in off k c r.0 (not-false (kept c) r.1) p k);
      outermost = λ k i. e.outermost k i ∙ sym (filter-implied outer kept (G k) late_kept);
      deferred = e.deferred;
      fault = λ k i. e.fault k i
          ∙ least-parts (F k) (total_faults (start k) (mine k)) (F k) (total_faults (start k) (locals k) ++ total_faults (start k) (owns k)) refl
          (total_faults-same (start k) (one-mine k) (parts k) ∙ ap least (totals-apart (start k) (locals k) (owns k) (others k)))
          ∙ ap least (sym (append_assoc (F k) (total_faults (start k) (locals k)) (total_faults (start k) (owns k))));
    }
