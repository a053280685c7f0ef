use Rattle.std.proofs.Common.{◌≡◌, ◌+◌, ◌∙◌, ◌++◌, ◌∷◌, [], ℕ, Bool, List, length, take, map, subst, sym, ap}
use Rattle.std.specs.Prelude.{nat_eq, is_some}
use Rattle.std.specs.HashMap.{get}
use Rattle.gm_image.specs.Views.{target}
use Rattle.gm_image.specs.Parts.{slots_of, is_among}
use Rattle.gm_verify.specs.declared.firsts.Reduction.{Reduction}
use Rattle.gm_verify.specs.declared.firsts.Firsts.{Firsts}
use Rattle.gm_verify.proofs.Adding.{index_with, index-kept, index-put, shows-add}
use Rattle.gm_verify.proofs.Slots.{among-all}
use Rattle.gm_verify.proofs.firsts.Firsts.add.Goals.{in-None+in_ok-insert-in-None, in-Some}
use Rattle.gm_verify.proofs.firsts.Firsts.add.Goals as goal

pub loop-target-preserved : goal.loop-target-preserved
loop-target-preserved c =
    let ts = c.args.reduction.targets.now in
    let i = c.loop-target.target-index in
    let t = c.target-item.result in
    let inv = c.loop-target.invariant in
    let old = c.args.self.now in
    let index = length c.as_slice-all.result.now in
    elim c.match-copied.branch [
      | in-Some w ↦
          subst (λ (f : Firsts). ((n : ℕ) → get nat_eq f.indices n ≡ index_with (get nat_eq old.indices n) (is_among n (slots_of (map target (take (i + 1) ts)))) index) × (f.reductions ≡ old.reductions)) (sym w.self-is) (
            index-kept (get nat_eq old.indices) (get nat_eq c.loop-target.self.indices) ts i t index c.loop-target-test.true c.target-item.is inv.0
                (ap is_some (sym c.get.ensures.value ∙ sym c.copied.ensures ∙ w.in-Some.is)),
            inv.1,
          )
      | in-None+in_ok-insert-in-None w ↦
          subst (λ (f : Firsts). ((n : ℕ) → get nat_eq f.indices n ≡ index_with (get nat_eq old.indices n) (is_among n (slots_of (map target (take (i + 1) ts)))) index) × (f.reductions ≡ old.reductions)) (sym w.self-is) (
            index-put (get nat_eq old.indices) (get nat_eq c.loop-target.self.indices) (get nat_eq w.insert.new.self) ts i t index c.loop-target-test.true c.target-item.is inv.0
                (ap is_some (sym c.get.ensures.value ∙ sym c.copied.ensures ∙ w.in-None.is)) (λ n. w.in_ok-insert-in-None.ensures.updates.0 n),
            inv.1,
          )
    ]

pub returns : goal.returns
returns c = λ rs shown.
    let ts = c.args.reduction.targets.now in
    let i = c.loop-target.target-index in
    let inv = c.loop-target.invariant in
    let old = c.args.self.now in
    let new : Firsts = record { reductions = c.push.new.self; indices = c.loop-target.self.indices } in
    shows-add old new rs c.args.reduction shown
    (c.in_ok-push.ensures.items ∙ ap (λ (xs : List Reduction). xs ++ c.args.reduction ∷ []) (ap (λ v. v.items) inv.1))
    (λ n. inv.0 n ∙ ap (λ (b : Bool). index_with (get nat_eq old.indices n) b (length c.as_slice-all.result.now)) (among-all ts i n c.loop-target-test.false)
    ∙ ap (λ (k : ℕ). index_with (get nat_eq old.indices n) (is_among n (slots_of (map target ts))) k) (ap length c.as_slice-all.ensures.value))
