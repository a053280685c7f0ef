-- One more value of the column.
use Rattle.std.proofs.Common.{◌≡◌, ◌<◌, ◌≤◌, ◌∙◌, length, sym, ap, arith}
use Rattle.std.specs.Prelude.{slice_index}
use Rattle.gm_machine.specs.Expressions.{value_at}
use Rattle.gm_machine.proofs.OwnFieldLemmas.{column-more, column-all}
use Rattle.gm_machine.proofs.own_fields.column.Goals as goal

pub value_of-requires : goal.value_of-requires
value_of-requires c = c.requires.each c.loop-node.node c.loop-node-test.true

pub loop-node-preserved : goal.loop-node-preserved
loop-node-preserved c = λ rows are.
    let within : c.loop-node.node < length rows = omega (arith, c.loop-node-test.true, are.long) in
    column-more rows c.args.slot c.loop-node.node c.value_of.result c.loop-node.values.items c.push.new.self.items within
    (c.value_of.ensures ∙ ap (λ r. value_at r c.args.slot) (sym (are.each c.loop-node.node c.loop-node-test.true)))
    c.in_ok-push.ensures.items (c.loop-node.invariant rows are)

pub returns : goal.returns
returns c = λ rows are.
    let end : length rows ≤ c.loop-node.node = omega (arith, c.loop-node-test.false, are.long) in
    c.of_any_type.ensures ∙ column-all rows c.args.slot c.loop-node.node c.loop-node.values.items end (c.loop-node.invariant rows are)
