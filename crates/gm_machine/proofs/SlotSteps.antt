-- One more slot settled.
use Rattle.std.proofs.Common.{◌≡◌, ◌<◌, ◌≤◌, ◌+◌, ℕ, Option, Some, None, refl, List, [], ◌∷◌, ◌++◌, map, length, drop, get_or, sym, ap, ◌∙◌, arith, append_assoc}
use Rattle.std.specs.Prelude.{zero, suc, slice_index_or}
use Rattle.std.specs.List.{enumerate_from}
use Rattle.std.proofs.lemmas.List.{drop_more, drop_all, append-nil}
use Rattle.gm_value.specs.declared.values.Value.{Value}
use Rattle.gm_value.specs.declared.values.Value.TheVariants.{At}
use Rattle.gm_machine.specs.declared.faults.Fault.{Fault}
use Rattle.gm_machine.specs.Faults.{lesser, least_from}
use Rattle.gm_machine.specs.Taking.{Contribution, value_after, fault_after, settled, Settled}
use Rattle.gm_machine.specs.Vertex.{VertexState, After, ended, folded}

-- the first i slots are settled: the others are left, and their faults
pub record IsSettledTo (places : ℕ) (cs : List Contribution) (held : List Value) (i : ℕ) (done : List Value) (fault : Option Fault) : Type 0 where
  pub values_are : done ++ map (value_after places cs held) (enumerate_from i (drop i held)) ≡ map (value_after places cs held) (enumerate_from 0 held)
  pub fault_is : least_from fault (map (fault_after places cs held) (enumerate_from i (drop i held))) ≡ least_from None (map (fault_after places cs held) (enumerate_from 0 held))

pub settled-more : (places : ℕ) (cs : List Contribution) (held : List Value) (i : ℕ) (done new : List Value) (fault f : Option Fault) (x v : Value) →
    i < length held → x ≡ get_or held i x → v ≡ value_after places cs held (i, x) → f ≡ lesser fault (fault_after places cs held (i, x)) → new ≡ done ++ v ∷ [] →
    IsSettledTo places cs held i done fault → IsSettledTo places cs held (i + 1) new f
settled-more places cs held i done new fault f x v within here value_is faults pushed before =
    let rest : drop i held ≡ x ∷ drop (i + 1) held = drop_more held i x within ∙ ap (λ y. y ∷ drop (i + 1) held) (sym here) in
    let left : List Value = map (value_after places cs held) (enumerate_from (i + 1) (drop (i + 1) held)) in
    record {
      values_are =
          ap (λ vs. vs ++ left) pushed
          ∙ append_assoc done (v ∷ []) left
          ∙ ap (λ w. done ++ w ∷ left) value_is
          ∙ ap (λ vs. done ++ map (value_after places cs held) (enumerate_from i vs)) (sym rest)
          ∙ before.values_are;
      fault_is =
          ap (λ g. least_from g (map (fault_after places cs held) (enumerate_from (i + 1) (drop (i + 1) held)))) faults
          ∙ ap (λ vs. least_from fault (map (fault_after places cs held) (enumerate_from i vs))) (sym rest)
          ∙ before.fault_is;
    }

-- where all slots are settled
pub settled-all : (places : ℕ) (cs : List Contribution) (held : List Value) (i : ℕ) (done : List Value) (fault : Option Fault) → length held ≤ i →
    IsSettledTo places cs held i done fault → record { values = done; fault = fault } ≡ settled places cs held
settled-all places cs held i done fault end to =
    let none : drop i held ≡ [] = drop_all i held end in
    let all : done ≡ map (value_after places cs held) (enumerate_from 0 held) =
    sym (append-nil done)
    ∙ ap (λ vs. done ++ map (value_after places cs held) (enumerate_from i vs)) (sym none)
    ∙ to.values_are in
    let least : fault ≡ least_from None (map (fault_after places cs held) (enumerate_from 0 held)) =
    ap (λ vs. least_from fault (map (fault_after places cs held) (enumerate_from i vs))) (sym none) ∙ to.fault_is in
    let settled_to : List Value → Option Fault → Settled = λ vs f. record { values = vs; fault = f } in
    ap (λ vs. settled_to vs fault) all ∙ ap (settled_to (map (value_after places cs held) (enumerate_from 0 held))) least

-- without contributions the slots hold what they held, and nothing faults
nothing-after : (places : ℕ) (all : List Value) (i : ℕ) (held : List Value) → ((k : ℕ) → slice_index_or all (i + k) (At None) ≡ slice_index_or held k (At None)) →
    map (value_after places [] all) (enumerate_from i held) ≡ held
nothing-after places all i [] at = refl
nothing-after places all i (v ∷ held) at =
    let here : slice_index_or all i (At None) ≡ v = ap (λ n. slice_index_or all n (At None)) (let e : i ≡ i + 0 = omega arith in e) ∙ at 0 in
    ap (λ w. w ∷ map (value_after places [] all) (enumerate_from (i + 1) held)) here
    ∙ ap (λ vs. v ∷ vs) (nothing-after places all (i + 1) held (λ k. ap (λ n. slice_index_or all n (At None)) (let e : (i + 1) + k ≡ i + suc k = omega arith in e) ∙ at (suc k)))

nothing-faults : (places : ℕ) (all : List Value) (i : ℕ) (held : List Value) → least_from None (map (fault_after places [] all) (enumerate_from i held)) ≡ None
nothing-faults places all i [] = refl
nothing-faults places all i (v ∷ held) = nothing-faults places all (i + 1) held

pub settled-nothing : (places : ℕ) (held : List Value) → settled places [] held ≡ record { values = held; fault = None }
settled-nothing places held =
    let settled_to : List Value → Option Fault → Settled = λ vs f. record { values = vs; fault = f } in
    ap (λ vs. settled_to vs (least_from None (map (fault_after places [] held) (enumerate_from 0 held))))
    (nothing-after places held 0 held (λ k. ap (λ n. slice_index_or held n (At None)) (let e : 0 + k ≡ k = omega arith in e)))
    ∙ ap (settled_to held) (nothing-faults places held 0 held)

lesser-none : (f : Option Fault) → lesser f None ≡ f
lesser-none None = refl
lesser-none (Some f) = refl

-- no folds are taken
pub folded-nothing : (places : ℕ) (w : VertexState) (fault : Option Fault) (skip : ℕ) → w.folds ≡ [] →
    folded places (record { state = w; fault = fault; skip = skip }) ≡ ended w fault skip
folded-nothing places w fault skip none =
    let taken_to : Settled → After = λ t. ended (record w { folds = []; fields = t.values }) (lesser fault t.fault) skip in
    ap (λ cs. taken_to (settled places cs w.fields)) none
    ∙ ap taken_to (settled-nothing places w.fields)
    ∙ ap (λ f. ended (record w { folds = [] }) f skip) (lesser-none fault)
    ∙ ap (λ cs. ended (record w { folds = cs }) fault skip) (sym none)
