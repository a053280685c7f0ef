-- Contributions of two parts are taken together as those of the first one, and then those of the second one.
use Rattle.std.proofs.Common.{◌≡◌, ℕ, Bool, true, false, cond, List, [], ◌∷◌, ◌++◌, map, refl, sym, ap, subst, ◌∙◌, append-nil, Some, None, inr}
use Rattle.std.specs.Prelude.{nat_eq}
use Rattle.gm_value.specs.declared.values.Value.{Value}
use Rattle.gm_value.specs.Bag.{IsIn}
use Rattle.gm_semantics.specs.declared.faults.Fault.{Fault}
use Rattle.gm_semantics.specs.declared.slots.Slot.{Slot}
use Rattle.gm_semantics.specs.declared.slots.Slot.TheVariants.{Scalar, Node}
use Rattle.gm_semantics.specs.Stores.{Store, read}
use Rattle.gm_semantics.specs.Faults.{rank_of, comes_before, least, total_fault}
use Rattle.gm_semantics.specs.Contributions.{Contribution, to_target, settled_store, total_faults}
use Rattle.gm_semantics.specs.Iterations.{Iteration, begun}
use Rattle.gm_semantics.specs.Laws.{OneReduction, Distinct}
use Rattle.gm_semantics.specs.Loops.{own_left}
use Rattle.gm_forms.proofs.Cuts as Cuts
use Rattle.gm_forms.proofs.Takings.{Before}
use Rattle.gm_loop_laws.proofs.Settling.{store-same}

-- an iteration that holds a store, and gave
abbrev gave : Store → List Contribution → ℕ → Iteration
gave s cs n = record (begun s) { with_outermost = cs }

abbrev one-node : List ℕ
one-node = 0 ∷ []

-- what one iteration leaves that writes nothing
own-same : (s : Store) (cs : List Contribution) → own_left s one-node (map (gave s cs) one-node) ≡ s
own-same s cs = store-same (own_left s one-node (map (gave s cs) one-node)) s same refl
  where
    either : (b : Bool) (v : Value) → cond b v v ≡ v
    either true v = refl
    either false v = refl

    same : (slot : Slot) → read (own_left s one-node (map (gave s cs) one-node)) slot ≡ read s slot
    same (Scalar y) = refl
    same (Node p k) = either (nat_eq 0 k) (s.node p k)

-- Early and Late hold of the faults of the totals of the first and of the second part
module _ (s : Store) (cs ds : List Contribution) (Early Late : Fault → Type 0) (order : (a b : Fault) → Early a → Late b → comes_before (rank_of b) (rank_of a) ≡ false)
    (early : (c : Contribution) → IsIn c cs → Early (total_fault c.total)) (late : (c : Contribution) → IsIn c ds → Late (total_fault c.total)) (before : (slots : List Slot) → Before (to_target slots cs) (to_target slots ds))
    (distinct : (c : Contribution) → IsIn c cs → Distinct c.slots) (one : OneReduction (cs ++ ds)) where
  abbrev first : ℕ → Iteration
  first = gave s cs

  abbrev both : ℕ → Iteration
  both = gave s (cs ++ ds)

  abbrev rest : ℕ → List Contribution
  rest n = ds

  -- the store between both parts
  abbrev left : Store
  left = settled_store (own_left s one-node (map first one-node)) (cs ++ [])

  abbrev second : ℕ → Iteration
  second = gave left ds

  cut : Cuts.Cut s one-node first both rest second Early Late
  cut = record {
    on = λ n i. record {
      gives = refl;
      nothing_deferred = refl;
      faulted = λ e k. let bad : None ≡ Some e = k in absurd (cc);
      fault = λ e. refl;
      given_then = λ e. refl;
      deferred_then = λ e. refl;
      slots = λ e p. inr (refl, refl);
      early = λ e k. let bad : None ≡ Some e = k in absurd (cc);
      late = λ e k. let bad : None ≡ Some e = k in absurd (cc);
    };
    order = order;
    early_totals = λ c i. early c (subst (IsIn c) (append-nil cs) i);
    late_totals = λ c i. late c (subst (IsIn c) (append-nil ds) i);
    before = λ slots. subst (λ l. Before (to_target slots l) (to_target slots (ds ++ []))) (sym (append-nil cs)) (subst (λ l. Before (to_target slots cs) (to_target slots l)) (sym (append-nil ds)) (before slots));
    distinct = λ c i. distinct c (subst (IsIn c) (append-nil cs) i);
    one = subst OneReduction (sym (append-nil (cs ++ ds))) one;
  }

  left-is : left ≡ settled_store s cs
  left-is = ap (λ t. settled_store t (cs ++ [])) (own-same s cs) ∙ ap (settled_store s) (append-nil cs)

  totals-first : total_faults (own_left s one-node (map first one-node)) (cs ++ []) ≡ total_faults s cs
  totals-first = ap (λ t. total_faults t (cs ++ [])) (own-same s cs) ∙ ap (total_faults s) (append-nil cs)

  totals-all : total_faults (own_left s one-node (map both one-node)) ((cs ++ ds) ++ []) ≡ total_faults s (cs ++ ds)
  totals-all = ap (λ t. total_faults t ((cs ++ ds) ++ [])) (own-same s (cs ++ ds)) ∙ ap (total_faults s) (append-nil (cs ++ ds))

  totals-second : total_faults (own_left left one-node (map second one-node)) (ds ++ []) ≡ total_faults (settled_store s cs) ds
  totals-second = ap (λ t. total_faults t (ds ++ [])) (own-same left ds) ∙ ap (total_faults left) (append-nil ds) ∙ ap (λ t. total_faults t ds) left-is

  -- where the first part's totals have a fault, both together have that
  pub fault-of_first : (f : Fault) → least (total_faults s cs) ≡ Some f → least (total_faults s (cs ++ ds)) ≡ Some f
  fault-of_first f e = ap least (sym totals-all) ∙ Cuts.faults-first s one-node first both rest second Early Late cut f (ap least totals-first ∙ e)

  -- and else that of the second part
  pub fault-of_second : least (total_faults s cs) ≡ None → least (total_faults s (cs ++ ds)) ≡ least (total_faults (settled_store s cs) ds)
  fault-of_second e = ap least (sym totals-all) ∙ Cuts.faults-second s one-node first both rest second Early Late cut (ap least totals-first ∙ e) ∙ ap least totals-second

  -- where neither has one, both leave one store
  pub store-of_both : least (total_faults s cs) ≡ None → least (total_faults (settled_store s cs) ds) ≡ None → settled_store s (cs ++ ds) ≡ settled_store (settled_store s cs) ds
  store-of_both e f =
      sym (ap (λ t. settled_store t ((cs ++ ds) ++ [])) (own-same s (cs ++ ds)) ∙ ap (settled_store s) (append-nil (cs ++ ds)))
      ∙ Cuts.stores-same s one-node first both rest second Early Late cut (ap least totals-first ∙ e) (ap least totals-second ∙ f)
      ∙ ap (λ t. settled_store t (ds ++ [])) (own-same left ds) ∙ ap (settled_store left) (append-nil ds) ∙ ap (λ t. settled_store t ds) left-is
