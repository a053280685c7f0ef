use Rattle.std.proofs.Common.{◌≡◌, ◌∙◌, ◌||◌, Bool, List, take, map, sym, ap}
use Rattle.gm_verify.proofs.Lists.{taken-all}
use Rattle.gm_verify.proofs.Slots.{or-assoc, or-none}
use Rattle.gm_image.specs.Parts.{is_among, terms_of}
use Rattle.gm_image.specs.Views.{term, target}
use Rattle.gm_merge.specs.Registers.{term_reads, terms_read}
use Rattle.gm_merge.proofs.Restarting.{targets-more}
use Rattle.gm_merge.proofs.registers.add_targets.Goals as goal

pub loop-target-init : goal.loop-target-init
loop-target-init c = λ r. or-none (is_among r c.args.reads.now.items)

pub loop-target-preserved : goal.loop-target-preserved
loop-target-preserved c = λ r.
    let xs = c.args.targets.now in
    let i = c.loop-target.target-index in
    let x = c.target-item.result in
    c.in_ok-add_term.ensures r
    ∙ ap (λ (b : Bool). b || term_reads (term x.1) r) (c.loop-target.invariant r)
    ∙ or-assoc (is_among r c.args.reads.now.items) (terms_read (terms_of (map target (take i xs))) r) (term_reads (term x.1) r)
    ∙ ap (λ (b : Bool). is_among r c.args.reads.now.items || b) (sym (targets-more xs i x r c.loop-target-test.true c.target-item.is))

pub returns : goal.returns
returns c = λ r.
    c.loop-target.invariant r
    ∙ ap (λ xs. is_among r c.args.reads.now.items || terms_read (terms_of (map target xs)) r) (taken-all c.args.targets.now c.loop-target.target-index c.loop-target-test.false)
