use Rattle.std.specs.Prelude.{Ok, Err}
use Rattle.std.specs.Str.Lines.{lines}
use Rattle.gm_loader.proofs.Taking.{first_quick}
use Rattle.gm_loader.proofs.tables.Tables.take_first_line.Goals as goal

pub returns-in-Ok-clause-taken : goal.returns-in-Ok-clause-taken
returns-in-Ok-clause-taken c =
    first_quick c.args.limits.now c.args.text.now c.in-Some.ends.rest.now c.cut_line.result.0.now c.cut_line.result.1.now c.in-Some.ends.from c.in-Some.ends.to c.args.self.now c.add_edge.new.self (Ok tt)
    c.in-Some.ensures c.cut_line.ensures.line c.in-Ok.ensures

pub returns-in-Err-clause-stopped : goal.returns-in-Err-clause-stopped
returns-in-Err-clause-stopped c = (
  lines c.cut_line.result.1.now,
  first_quick c.args.limits.now c.args.text.now c.in-Some.ends.rest.now c.cut_line.result.0.now c.cut_line.result.1.now c.in-Some.ends.from c.in-Some.ends.to c.args.self.now c.add_edge.new.self (Err c.in-Err.stop)
      c.in-Some.ensures c.cut_line.ensures.line c.in-Err.ensures,
)
