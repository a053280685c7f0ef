use Rattle.std.proofs.Common.{◌++◌, ap, sym, ◌∙◌}
use Rattle.gm_image.specs.Views.{target}
use Rattle.gm_image_text.specs.Lines.{led}
use Rattle.gm_image_text.specs.Spelling.{target_words}
use Rattle.gm_image_text.proofs.Writing.{writes_none, writes_on, writes_all, led_flat}
use Rattle.gm_image_text.proofs.put_expressions.put_slots.Goals as goal

pub returns : goal.returns
returns c =
    writes_all (λ s. led (target_words (target s))) c.args.text.now.items c.loop-slot.text.items c.args.slots.now c.loop-slot.slot-index c.loop-slot.invariant c.loop-slot-test.false
    ∙ ap (λ v. c.args.text.now.items ++ v) (sym (led_flat target target_words c.args.slots.now))

pub loop-slot-init : goal.loop-slot-init
loop-slot-init c = writes_none (λ s. led (target_words (target s))) c.args.text.now.items c.args.slots.now

pub loop-slot-preserved : goal.loop-slot-preserved
loop-slot-preserved c =
    writes_on (λ s. led (target_words (target s))) c.args.text.now.items c.loop-slot.text.items c.put_slot.new.text.items c.args.slots.now c.loop-slot.slot-index c.slot-item.result
    c.loop-slot.invariant c.loop-slot-test.true c.slot-item.is c.in_ok-put_slot.ensures
