use Rattle.std.proofs.Common.{[], refl, arith}
use Rattle.gm_mtx.proofs.Reading.{reading_more}
use Rattle.gm_mtx.proofs.tables.read_entries.Goals as goal

pub lines-init : goal.lines-init
lines-init c = record {
  before = [];
  same = refl;
  room = omega arith;
  held = c.in_ok-tables.ensures;
}

pub lines-preserved : goal.lines-preserved
lines-preserved c =
    reading_more c.args.shape.now.edges c.args.kind c.args.size _ c.args.text.now c.lines.rest.now c.cut_line.result.0.now c.cut_line.result.1.now c.lines.number c.lines.tables c.take_line.new.self c.in-Ok.field-0
    c.lines.invariant c.cut_line.ensures.line c.cut_line.ensures.shorter (c.in-Ok.ensures c.args.shape.now.edges c.lines.invariant.before c.lines.invariant.held)
