use Rattle.std.proofs.Common.{◌++◌, arith}
use Rattle.gm_loader.proofs.Counting.{count_more, count_begun, count_same}
use Rattle.gm_loader.proofs.counts.NodeCount.add.Goals as goal

pub returns-in_ok-insert-2 : goal.returns-in_ok-insert-2
returns-in_ok-insert-2 c = λ before numbers h same rows.
    count_more c.args.most before numbers c.args.self.now (record c.args.self.now { set = c.insert-then-self.new.self }) c.insert.new.self c.args.ends.0 c.args.ends.1 c.in_ok-insert.field-0 c.in_ok-insert-2.field-0
    c.if-self.true c.if-self.true
    (record { is_new = c.in_ok-insert.ensures.added; members = c.in_ok-insert.ensures.has; count = c.in_ok-insert.ensures.count })
    (record { is_new = c.in_ok-insert-2.ensures.added; members = c.in_ok-insert-2.ensures.has; count = c.in_ok-insert-2.ensures.count }) h same

pub returns-in_ok-begin : goal.returns-in_ok-begin
returns-in_ok-begin c = λ before numbers h same rows.
    count_begun c.args.most before numbers (c.args.from.now ++ c.args.to.now ++ c.args.extra.now) c.args.self.now c.begin.new.self
    c.if-self.false c.in_ok-begin.ensures.counted c.in_ok-begin.ensures.set h rows

pub returns-else-ends-most-2 : goal.returns-else-ends-most-2
returns-else-ends-most-2 c = λ before numbers h same rows.
    count_same c.args.most before numbers c.args.self.now c.args.ends.0 c.args.ends.1 c.if-self.false (omega arith) (omega arith) h same
