use Rattle.std.proofs.Common.{◌≡◌, ◌∙◌, Some, map, sym}
use Rattle.gm_columns.specs.Columns.{TypedRow}
use Rattle.gm_image.specs.Views.{term}
use Rattle.gm_batches.specs.ValuesIn.{values_in}
use Rattle.gm_batches.proofs.ColumnLaws.{if_found}
use Rattle.gm_batches.proofs.OperandLaws.{binary_in, rows_of_values, unary_in}
use Rattle.gm_batch_steps.specs.Turns.{turn_view, turns_in}
use Rattle.gm_batch_steps.proofs.TurnLists.{some-is}
use Rattle.gm_batch_steps.proofs.turn_values.+turn_values.Goals as goal

pub unary_of-returns : goal.unary_of-returns
unary_of-returns t c =
    let views = map (turn_view c.args.context.now c.args.state.now) (turns_in c.args.context.now c.args.turns.now) in
    let a = term c.args.a.now in
    let is : values_in views a ≡ Some c.in-Some.operand.values =
    some-is (λ (column : TypedRow). values_in views a ≡ Some column.values) c.in_ok-operand.field-0 c.in-Some.operand c.in-Some.is c.in_ok-operand.ensures in
    if_found c.unary.result (λ column run. unary_in c.args.op c.args.place a views c.in-Some.operand.values is ∙ run) c.unary.ensures

pub binary_of-binary-requires : goal.binary_of-binary-requires
binary_of-binary-requires t c =
    let views = map (turn_view c.args.context.now c.args.state.now) (turns_in c.args.context.now c.args.turns.now) in
    let a = term c.args.a.now in
    let b = term c.args.b.now in
    rows_of_values a views c.in-Some.left.values
    (some-is (λ (column : TypedRow). values_in views a ≡ Some column.values) c.in_ok-left.field-0 c.in-Some.left c.in-Some.is c.in_ok-left.ensures)
    ∙ sym (rows_of_values b views c.in-Some-2.right.values
    (some-is (λ (column : TypedRow). values_in views b ≡ Some column.values) c.in_ok-right.field-0 c.in-Some-2.right c.in-Some-2.is c.in_ok-right.ensures))

pub binary_of-returns : goal.binary_of-returns
binary_of-returns t c =
    let views = map (turn_view c.args.context.now c.args.state.now) (turns_in c.args.context.now c.args.turns.now) in
    let a = term c.args.a.now in
    let b = term c.args.b.now in
    if_found c.binary.result
    (λ column run. binary_in c.args.op c.args.place a b views c.in-Some.left.values c.in-Some-2.right.values
    (some-is (λ (column : TypedRow). values_in views a ≡ Some column.values) c.in_ok-left.field-0 c.in-Some.left c.in-Some.is c.in_ok-left.ensures)
    (some-is (λ (column : TypedRow). values_in views b ≡ Some column.values) c.in_ok-right.field-0 c.in-Some-2.right c.in-Some-2.is c.in_ok-right.ensures)
    ∙ run)
    c.binary.ensures
