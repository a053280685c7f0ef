use Rattle.std.proofs.Common.{◌≡◌, ◌∙◌, ◌||◌, Bool, List, take, map, sym, ap}
use Rattle.gm_verify.proofs.Lists.{taken-all}
use Rattle.gm_verify.proofs.Slots.{or-assoc, or-none}
use Rattle.gm_image.specs.Parts.{is_among}
use Rattle.gm_image.specs.Views.{term}
use Rattle.gm_merge.specs.Registers.{term_reads, terms_read}
use Rattle.gm_merge.proofs.Restarting.{terms-more}
use Rattle.gm_merge.proofs.registers.add_terms.Goals as goal

pub loop-expr-init : goal.loop-expr-init
loop-expr-init c = λ r. or-none (is_among r c.args.reads.now.items)

pub loop-expr-preserved : goal.loop-expr-preserved
loop-expr-preserved c = λ r.
    let xs = c.args.exprs.now in
    let i = c.loop-expr.expr-index in
    let x = c.expr-item.result in
    c.in_ok-add_term.ensures r
    ∙ ap (λ (b : Bool). b || term_reads (term x) r) (c.loop-expr.invariant r)
    ∙ or-assoc (is_among r c.args.reads.now.items) (terms_read (map term (take i xs)) r) (term_reads (term x) r)
    ∙ ap (λ (b : Bool). is_among r c.args.reads.now.items || b) (sym (terms-more xs i x r c.loop-expr-test.true c.expr-item.is))

pub returns : goal.returns
returns c = λ r.
    c.loop-expr.invariant r
    ∙ ap (λ xs. is_among r c.args.reads.now.items || terms_read (map term xs) r) (taken-all c.args.exprs.now c.loop-expr.expr-index c.loop-expr-test.false)
