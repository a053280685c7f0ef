use Rattle.std.proofs.Common.{◌≡◌, [], Some, arith, map, subst, sym}
use Rattle.std.specs.List.{AllZip}
use Rattle.std.proofs.lemmas.List.{take_all}
use Rattle.gm_columns.specs.Columns.{TypedRow}
use Rattle.gm_image.specs.Term.{Term}
use Rattle.gm_image.specs.Views.{term}
use Rattle.gm_batches.specs.ValuesIn.{values_in}
use Rattle.gm_batch_steps.specs.Turns.{turn_view, turns_in}
use Rattle.gm_batch_steps.proofs.TurnLists.{some-is, zip-more}
use Rattle.gm_batch_steps.proofs.sends.columns_of.Goals as goal

pub loop-i-init : goal.loop-i-init
loop-i-init c =
    let views = map (turn_view c.args.context.now c.args.state.now) (turns_in c.args.context.now c.args.turns.now) in
    subst (λ columns. AllZip (λ a (column : TypedRow). values_in views a ≡ Some column.values) [] columns) (sym c.in_ok-columns.ensures.items) tt

pub loop-i-preserved : goal.loop-i-preserved
loop-i-preserved c =
    let views = map (turn_view c.args.context.now c.args.state.now) (turns_in c.args.context.now c.args.turns.now) in
    let P : Term → TypedRow → Type 0 = λ a column. values_in views a ≡ Some column.values in
    let x = c.index-values-i.result in
    zip-more P term c.args.values.now c.loop-i.columns.items _ c.loop-i.i x c.in-Some.column c.loop-i-test.true c.index-values-i.is c.loop-i.invariant
    (some-is (P (term x)) c.in_ok-column.field-0 c.in-Some.column c.in-Some.is c.in_ok-column.ensures) c.in_ok-push.ensures.items

pub returns : goal.returns
returns c =
    let views = map (turn_view c.args.context.now c.args.state.now) (turns_in c.args.context.now c.args.turns.now) in
    subst (λ l. AllZip (λ a (column : TypedRow). values_in views a ≡ Some column.values) (map term l) c.loop-i.columns.items)
    (take_all c.loop-i.i c.args.values.now (omega (arith, c.loop-i-test.false))) c.loop-i.invariant
