use Rattle.gm_input.proofs.Reading.{rest_at_end, gave_at_end, rest_behind, gave_behind}
use Rattle.gm_input.proofs.fronts.read_rest.Goals as goal

pub returns-then-ended-clause-ok : goal.returns-then-ended-clause-ok
returns-then-ended-clause-ok g c =
    rest_at_end (g.S.Source.left c.args.source.now) c.args.ahead.items c.first_of.result.items c.args.ended c.args.most c.if-ended.true c.first_of.ensures

pub returns-then-ended-clause-taken : goal.returns-then-ended-clause-taken
returns-then-ended-clause-taken g c = gave_at_end (g.S.Source.left c.args.source.now) c.args.ahead.items c.args.ended c.args.most c.if-ended.true

pub returns-in_ok-read_behind-clause-ok : goal.returns-in_ok-read_behind-clause-ok
returns-in_ok-read_behind-clause-ok g c =
    rest_behind (g.S.Source.left c.args.source.now) (g.S.Source.left c.read_behind.new.source) c.args.ahead.items c.in_ok-read_behind.field-0.items c.first_of-else-ended.result.items c.args.ended c.args.most
    c.if-ended.false c.in_ok-read_behind.ensures.ok c.first_of-else-ended.ensures

pub returns-in_ok-read_behind-clause-taken : goal.returns-in_ok-read_behind-clause-taken
returns-in_ok-read_behind-clause-taken g c =
    gave_behind (g.S.Source.left c.args.source.now) (g.S.Source.left c.read_behind.new.source) c.args.ahead.items c.in_ok-read_behind.field-0.items c.args.ended c.args.most
    c.if-ended.false c.in_ok-read_behind.ensures.ok
