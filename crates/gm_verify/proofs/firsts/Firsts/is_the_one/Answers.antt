use Rattle.std.proofs.Common.{◌+◌, ◌∙◌, ℕ, Option, List, drop, map, subst, sym}
use Rattle.gm_image.specs.Views.{target}
use Rattle.gm_image.specs.Parts.{slots_of}
use Rattle.gm_verify.specs.Firsts.{reduction_of}
use Rattle.gm_verify.proofs.Ones.{Ones, ones-start, ones-new, ones-next, ones-stop, ones-are}
use Rattle.gm_verify.proofs.Slots.{slots-at, slots-end}
use Rattle.gm_verify.proofs.firsts.Firsts.is_the_one.Goals.{in-Some+else-not-is_still, in-None}
use Rattle.gm_verify.proofs.firsts.Firsts.is_the_one.Goals as goal

pub loop-target-init : goal.loop-target-init
loop-target-init c = ones-start c.args.self.now (reduction_of c.args.reduction) (slots_of (map target c.args.reduction.targets.now))

pub loop-target-preserved : goal.loop-target-preserved
loop-target-preserved c =
    let f = c.args.self.now in
    let r = reduction_of c.args.reduction in
    let ts = c.args.reduction.targets.now in
    let i = c.loop-target.target-index in
    let t = c.target-item.result in
    let all = slots_of (map target ts) in
    let rest = slots_of (map target (drop (i + 1) ts)) in
    let same = c.loop-target.same in
    let here = subst (λ (xs : List ℕ). Ones f r all xs same) (slots-at ts i t c.loop-target-test.true c.target-item.is) c.loop-target.invariant in
    elim c.match-copied.branch [
      | in-Some+else-not-is_still w ↦
          subst (λ (s : Option ℕ). Ones f r all rest s) (sym w.same-is)
          (ones-next f r all rest t.0 w.in-Some.index same here (sym c.get.ensures.value ∙ sym c.copied.ensures ∙ w.in-Some.is) (sym w.is_still.ensures ∙ w.if-not-is_still.false))
      | in-None w ↦
          subst (λ (s : Option ℕ). Ones f r all rest s) (sym w.same-is)
          (ones-new f r all rest t.0 same here (sym c.get.ensures.value ∙ sym c.copied.ensures ∙ w.in-None.is))
    ]

pub is_still-requires : goal.is_still-requires
is_still-requires c = c.loop-target.invariant.known

pub returns-then-not-is_still : goal.returns-then-not-is_still
returns-then-not-is_still c = λ rs shown.
    let f = c.args.self.now in
    let r = reduction_of c.args.reduction in
    let ts = c.args.reduction.targets.now in
    let i = c.loop-target.target-index in
    let t = c.target-item.result in
    let all = slots_of (map target ts) in
    let rest = slots_of (map target (drop (i + 1) ts)) in
    let same = c.loop-target.same in
    let here = subst (λ (xs : List ℕ). Ones f r all xs same) (slots-at ts i t c.loop-target-test.true c.target-item.is) c.loop-target.invariant in
    ones-stop f r all rest t.0 c.in-Some.index same here (sym c.get.ensures.value ∙ sym c.copied.ensures ∙ c.in-Some.is) (sym c.is_still.ensures ∙ c.if-not-is_still.true)
    ∙ ones-are f r rs shown

pub returns : goal.returns
returns c = λ rs shown.
    let f = c.args.self.now in
    let r = reduction_of c.args.reduction in
    let ts = c.args.reduction.targets.now in
    let all = slots_of (map target ts) in
    let here = subst (λ (xs : List ℕ). Ones f r all xs c.loop-target.same) (slots-end ts c.loop-target.target-index c.loop-target-test.false) c.loop-target.invariant in
    here.left ∙ ones-are f r rs shown
