use Rattle.std.proofs.Common.{rules, ◌∙◌, ap, sym}
use Rattle.gm_kernels.specs.Pointwise.{count_of, merged}
use Rattle.gm_batches.specs.Guards.{flags_in}
use Rattle.gm_batches.proofs.ColumnLaws.{flags_are, choice_column}
use Rattle.gm_batches.proofs.guards.together.Goals as goal

pub merge-requires-clause-some : goal.merge-requires-clause-some
merge-requires-clause-some c = c.requires.some ∙ ap count_of (flags_are c.flags_of.result.now c.args.guard.now.truths.values c.flags_of.ensures)

pub returns : goal.returns
returns c = λ b rs e a d is at so.
    let truths = c.args.guard.now.truths in
    choice_column b rs e a d truths c.args.some.now c.args.others.now c.in_ok-merge.field-0 (flags_in truths)
    c.requires.truths.vtype c.requires.truths.flags (search rules) c.in_ok-merge.ensures.vtype
    (c.in_ok-merge.ensures.values ∙ ap (λ cs. merged cs c.args.some.now.values c.args.others.now.values)
    (sym (flags_are c.flags_of.result.now truths.values c.flags_of.ensures)))
    is at so
