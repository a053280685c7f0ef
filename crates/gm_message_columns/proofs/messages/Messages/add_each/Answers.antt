-- One more message has come.
use Rattle.std.proofs.Common.{◌∙◌, ◌++◌, ap, map, arith}
use Rattle.std.specs.Prelude.{slice_index_or}
use Rattle.std.proofs.lemmas.List.{take_all}
use Rattle.gm_message_columns.proofs.ListLemmas.{more-come}
use Rattle.gm_message_columns.proofs.messages.Messages.add_each.Goals as goal

pub loop-row-preserved : goal.loop-row-preserved
loop-row-preserved c = λ d.
    more-come (λ row. slice_index_or c.args.other.now row d) c.args.rows.now c.loop-row.row-index c.args.self.now c.loop-row.self c.add_from.new.self c.loop-row-test.true (c.loop-row.invariant d) (c.in_ok-add_from.ensures d)

pub returns : goal.returns
returns c = λ d.
    c.loop-row.invariant d
    ∙ ap (λ l. c.args.self.now ++ map (λ row. slice_index_or c.args.other.now row d) l) (take_all c.loop-row.row-index c.args.rows.now (omega (arith, c.loop-row-test.false)))
