use Rattle.std.proofs.Common.{◌≡◌, true, [], length, refl, ◌∙◌, arith, rules}
use Rattle.gm_loader.proofs.Reading.{reading_more, reading_stopped, reading_done, empty_is, no_more}
use Rattle.gm_loader.proofs.loads.read_text.Goals as goal

pub lines-init : goal.lines-init
lines-init c = record {
  before = [];
  same = refl;
  count = refl;
  room = omega arith;
  held = c.in_ok-tables.ensures c.args.limits.now;
}

pub lines-preserved : goal.lines-preserved
lines-preserved c =
    reading_more c.args.shape.now c.args.limits.now c.args.text.now c.lines.rest.now c.in-Ok.behind.now c.lines.number c.lines.tables c.take_first_line.new.self tt
    c.lines.invariant c.in-Ok.ensures.shorter c.in-Ok.ensures.taken

pub returns-in-Err-clause-fault : goal.returns-in-Err-clause-fault
returns-in-Err-clause-fault c =
    rw c.at_line.ensures (λ some.
    no_more c.args.shape.now c.args.limits.now c.args.text.now (omega arith)
    ∙ reading_stopped c.args.shape.now c.args.limits.now c.args.text.now c.lines.rest.now c.lines.number c.lines.tables c.take_first_line.new.self c.in-Err.stop c.lines.invariant c.in-Err.ensures.stopped some)

pub returns-clause-ok : goal.returns-clause-ok
returns-clause-ok c =
    let gone : c.is_empty.result ≡ true = search rules in
    reading_done c.args.shape.now c.args.limits.now c.args.text.now c.lines.rest.now c.lines.number c.lines.tables c.lines.invariant
    (empty_is (length c.lines.rest.now) c.is_empty.result c.is_empty.ensures gone) (omega arith)
