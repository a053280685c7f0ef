use Rattle.std.proofs.Common.{◌++◌, ap, sym, ◌∙◌}
use Rattle.gm_image_text.specs.Lines.{text_of}
use Rattle.gm_image_text.proofs.Writing.{writes_none, writes_on, writes_all, text_flat}
use Rattle.gm_image_text.proofs.writes.put_all.Goals as goal

pub returns : goal.returns
returns g c =
    writes_all (λ x. text_of (g.T.Spelled.spelled x)) c.args.text.now.items c.loop-item.text.items c.args.items.now c.loop-item.item-index c.loop-item.invariant c.loop-item-test.false
    ∙ ap (λ v. c.args.text.now.items ++ v) (sym (text_flat g.T.Spelled.spelled c.args.items.now))

pub loop-item-init : goal.loop-item-init
loop-item-init g c = writes_none (λ x. text_of (g.T.Spelled.spelled x)) c.args.text.now.items c.args.items.now

pub loop-item-preserved : goal.loop-item-preserved
loop-item-preserved g c =
    writes_on (λ x. text_of (g.T.Spelled.spelled x)) c.args.text.now.items c.loop-item.text.items c.write.new.text.items c.args.items.now c.loop-item.item-index c.item-item.result
    c.loop-item.invariant c.loop-item-test.true c.item-item.is c.in_ok-write.ensures
