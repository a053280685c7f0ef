use Rattle.std.proofs.Common.{◌+◌, ℕ, List, drop, map, subst}
use Rattle.gm_image.specs.Views.{target}
use Rattle.gm_image.specs.Parts.{slots_of}
use Rattle.gm_verify.proofs.Differing.{Differs, differs-start, differs-next, differs-stop, differs-end}
use Rattle.gm_verify.proofs.Slots.{slots-at, slots-end}
use Rattle.gm_verify.proofs.fits.all_differ.Goals as goal

pub loop-target-init : goal.loop-target-init
loop-target-init c = differs-start c.new-seen.result _ c.new-seen.ensures.empty

pub loop-target-preserved : goal.loop-target-preserved
loop-target-preserved c =
    let ts = c.args.targets.now in
    let i = c.loop-target.target-index in
    let all = slots_of (map target ts) in
    let here = subst (λ (xs : List ℕ). Differs c.loop-target.seen all xs) (slots-at ts i c.target-item.result c.loop-target-test.true c.target-item.is) c.loop-target.invariant in
    differs-next c.loop-target.seen c.insert.new.self all (slots_of (map target (drop (i + 1) ts))) c.target-item.result.0 c.in_ok-insert.field-0 here
    (λ n. c.in_ok-insert.ensures.updates.0 n) c.in_ok-insert.ensures.added c.if-not-branch.false

pub returns-then-not-branch : goal.returns-then-not-branch
returns-then-not-branch c =
    let ts = c.args.targets.now in
    let i = c.loop-target.target-index in
    let all = slots_of (map target ts) in
    let here = subst (λ (xs : List ℕ). Differs c.loop-target.seen all xs) (slots-at ts i c.target-item.result c.loop-target-test.true c.target-item.is) c.loop-target.invariant in
    differs-stop c.loop-target.seen all (slots_of (map target (drop (i + 1) ts))) c.target-item.result.0 c.in_ok-insert.field-0 here
    c.in_ok-insert.ensures.added c.if-not-branch.true

pub returns : goal.returns
returns c =
    let ts = c.args.targets.now in
    let all = slots_of (map target ts) in
    differs-end c.loop-target.seen all (subst (λ (xs : List ℕ). Differs c.loop-target.seen all xs) (slots-end ts c.loop-target.target-index c.loop-target-test.false) c.loop-target.invariant)
