-- Rows with no cell.
use Rattle.std.proofs.Common.{◌∙◌, ap, map, sym}
use Rattle.gm_columns.specs.TypedRows.{typed_row}
use Rattle.gm_message_columns.specs.MessageTables.{types_of}
use Rattle.gm_message_columns.proofs.TableLemmas.{emptied-types}
use Rattle.gm_message_columns.proofs.GrowthLemmas.{empty-full}
use Rattle.gm_message_columns.proofs.joining.Rows.empty_as.Goals as goal

pub invariant_of-result : goal.invariant_of-result
invariant_of-result c = (
  empty-full c.new.result.items (map typed_row c.in_ok-no_values.field-0.items) c.values.result.now c.new.ensures.items c.in_ok-no_values.ensures,
  ap types_of c.in_ok-no_values.ensures ∙ emptied-types c.values.result.now ∙ ap types_of c.values.ensures.columns ∙ sym c.in_ok-empty_as.ensures.sort.types,
)

pub returns-clause-sort : goal.returns-clause-sort
returns-clause-sort c = record {
  kind = c.in_ok-empty_as.ensures.sort.kind;
  types = ap types_of c.in_ok-no_values.ensures ∙ emptied-types c.values.result.now ∙ ap types_of c.values.ensures.columns;
}
