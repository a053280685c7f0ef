use Rattle.std.proofs.Common.{rules, ◌∙◌, ap, sym, map}
use Rattle.gm_value.specs.declared.values.Value.TheVariants.{Flag}
use Rattle.gm_kernels.specs.Pointwise.{held, left_out}
use Rattle.gm_batches.specs.NodeBatches.{rows_in}
use Rattle.gm_batches.proofs.ColumnLaws.{flags_are}
use Rattle.gm_batches.proofs.guards.guard_of.Goals as goal

pub returns-in_ok-parts-in-Some-clause-parts : goal.returns-in_ok-parts-in-Some-clause-parts
returns-in_ok-parts-in-Some-clause-parts c =
    let flags = c.flags_of.result.now in
    let values = c.in-Some.truths.values in
    let rs = rows_in c.args.batch.now c.args.rows in
    let same = flags_are flags values c.flags_of.ensures in
    record {
      truths = record { vtype = search rules; flags = sym c.flags_of.ensures ∙ ap (map (λ b. Flag b)) (sym same) };
      inside_rows = c.in_ok-parts-in-Some.ensures.held ∙ ap (λ cs. held cs rs) (sym same);
      outside_rows = c.in_ok-parts-in-Some.ensures.left_out ∙ ap (λ cs. left_out cs rs) (sym same);
    }
