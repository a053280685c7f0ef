use Rattle.std.proofs.Common.{◌∙◌, map, sym}
use Rattle.gm_image.specs.Views.{target}
use Rattle.gm_image.specs.Parts.{slots_of}
use Rattle.gm_verify.proofs.Slots.{length-slots, same_numbers-uneven}
use Rattle.gm_verify.proofs.firsts.same_slots.Goals as goal

pub returns-then-some-other : goal.returns-then-some-other
returns-then-some-other c =
    let some = c.args.some.now in
    let other = c.args.other.now in
    same_numbers-uneven (slots_of (map target some)) (slots_of (map target other)) (λ e. c.if-some-other.true (sym (length-slots some) ∙ e ∙ length-slots other))
