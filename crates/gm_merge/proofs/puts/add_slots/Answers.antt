use Rattle.std.proofs.Common.{◌∙◌, ◌||◌, Bool, take, map, sym, refl, ap}
use Rattle.std.specs.Prelude.{nat_eq}
use Rattle.std.specs.HashSet.{contains}
use Rattle.gm_image.specs.Views.{target}
use Rattle.gm_image.specs.Parts.{slots_of, is_among}
use Rattle.gm_verify.proofs.Differing.{cond-or}
use Rattle.gm_verify.proofs.Slots.{among-more, among-all, or-swap, or-assoc}
use Rattle.gm_merge.proofs.puts.add_slots.Goals as goal

pub loop-target-init : goal.loop-target-init
loop-target-init c = λ n. refl

pub loop-target-preserved : goal.loop-target-preserved
loop-target-preserved c = λ n.
    let ts = c.args.targets.now in
    let i = c.loop-target.target-index in
    let t = c.target-item.result in
    let old = contains nat_eq c.args.set.now n in
    c.in_ok-insert.ensures.updates.0 n ∙ cond-or (nat_eq t.0 n) (contains nat_eq c.loop-target.set n)
    ∙ ap (λ (b : Bool). nat_eq t.0 n || b) (c.loop-target.invariant n)
    ∙ sym (or-assoc (nat_eq t.0 n) (is_among n (slots_of (map target (take i ts)))) old)
    ∙ ap (λ (b : Bool). b || old) (sym (among-more ts i t n c.loop-target-test.true c.target-item.is))

pub returns : goal.returns
returns c = λ n.
    let ts = c.args.targets.now in
    let i = c.loop-target.target-index in
    c.loop-target.invariant n ∙ ap (λ (b : Bool). b || contains nat_eq c.args.set.now n) (among-all ts i n c.loop-target-test.false)
    ∙ or-swap (is_among n (slots_of (map target ts))) (contains nat_eq c.args.set.now n)
