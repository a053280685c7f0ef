use Rattle.std.proofs.lemmas.Result.{err_from_is_err_and}
use Rattle.gm_image.specs.Views.{line}
use Rattle.gm_image_text.specs.Sections.{vertex_at}
use Rattle.gm_image_text.proofs.Filling.{goes_none, goes_more, goes_err, goes_end}
use Rattle.gm_image_text.proofs.sections.vertex_lines.Goals as goal

pub loop-number-init : goal.loop-number-init
loop-number-init c = rw c.new-items.ensures.items (goes_none line (vertex_at c.args.version) c.args.count c.args.text.now)

pub loop-number-preserved : goal.loop-number-preserved
loop-number-preserved c =
    goes_more line (vertex_at c.args.version) c.args.count c.loop-number._number c.loop-number.items.items c.push.new.self.items c.in_ok-item.item c.loop-number.rest.now c.in_ok-item.behind.now c.args.text.now
    c.loop-number-test.true c.loop-number.invariant c.in_ok-item.ensures c.in_ok-push.ensures.items

pub returns-in_err-item : goal.returns-in_err-item
returns-in_err-item c =
    let p = err_from_is_err_and c.from_residual.result c.from_residual.ensures.1 in
    rw (p.1, p.2) (goes_err line (vertex_at c.args.version) c.args.count c.loop-number._number c.loop-number.items.items c.loop-number.rest.now c.args.text.now _ c.loop-number-test.true c.loop-number.invariant c.in_err-item.ensures)

pub returns : goal.returns
returns c =
    rw c.new.ensures (goes_end line (vertex_at c.args.version) c.args.count c.loop-number._number c.loop-number.items.items c.loop-number.rest.now c.args.text.now c.loop-number-test.false c.loop-number.invariant)
