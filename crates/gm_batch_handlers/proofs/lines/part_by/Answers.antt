use Rattle.std.proofs.Common.{◌≡◌, ◌∙◌, Option, Some, ap, arith, length, map, subst, sym}
use Rattle.std.specs.Prelude.{IfSome}
use Rattle.std.proofs.lemmas.List.{length-map}
use Rattle.gm_columns.specs.Columns.{TypedRow}
use Rattle.gm_value.specs.declared.values.Value.TheVariants.{Flag}
use Rattle.gm_image.specs.Views.{term}
use Rattle.gm_batches.specs.ValuesIn.{values_in}
use Rattle.gm_batch_handlers.specs.RowStates.{view_in}
use Rattle.gm_batch_steps.proofs.BatchLaws.{zip-flags}
use Rattle.gm_batch_steps.proofs.RowLemmas.{row-values, zip-length}
use Rattle.gm_batch_handlers.proofs.lines.part_by.Goals as goal

pub partition-requires : goal.partition-requires
partition-requires c =
    let rows = c.args.chosen.rows.now in
    let view = view_in c.args.context.now c.args.registers.now in
    let is : values_in (map view rows) (term c.args.a.now) ≡ Some c.in-Some.truths.values =
    subst (λ (o : Option TypedRow). IfSome o (λ column. values_in (map view rows) (term c.args.a.now) ≡ Some column.values)) c.in-Some.is c.in_ok-truths.ensures in
    omega (
      arith,
      zip-length _ rows c.in-Some.truths.values (row-values view (term c.args.a.now) rows c.in-Some.truths.values is),
      ap length c.flags_of.ensures,
      length-map c.flags_of.result.now (λ b. Flag b),
    )

pub returns : goal.returns
returns c =
    let rows = c.args.chosen.rows.now in
    let view = view_in c.args.context.now c.args.registers.now in
    let is : values_in (map view rows) (term c.args.a.now) ≡ Some c.in-Some.truths.values =
    subst (λ (o : Option TypedRow). IfSome o (λ column. values_in (map view rows) (term c.args.a.now) ≡ Some column.values)) c.in-Some.is c.in_ok-truths.ensures in
    record {
      flags = c.flags_of.result.now;
      truths = zip-flags _ rows c.flags_of.result.now (row-values view (term c.args.a.now) rows _ (is ∙ ap (λ vs. Some vs) (sym c.flags_of.ensures)));
      are = c.in_ok-parts.ensures.held;
    }
