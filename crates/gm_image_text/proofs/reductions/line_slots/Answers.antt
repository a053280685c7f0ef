use Rattle.std.proofs.Common.{◌<◌, length, map, sym, ◌∙◌}
use Rattle.std.proofs.lemmas.Result.{err_from_is_err_and}
use Rattle.gm_image.specs.Views.{target}
use Rattle.gm_image_text.specs.Reading.{words_left, target_at}
use Rattle.gm_image_text.proofs.Shorter.{left_some, target_shorter}
use Rattle.gm_image_text.proofs.ToTheEnd.{goes_none, goes_more, goes_refuse}
use Rattle.gm_image_text.proofs.reductions.line_slots.Goals as goal

pub slots-init : goal.slots-init
slots-init c = rw c.new-slots.ensures.items (goes_none target_at (words_left c.args.words))

pub returns-in_err-slot : goal.returns-in_err-slot
returns-in_err-slot c =
    let p = err_from_is_err_and c.from_residual.result c.from_residual.ensures.1 in
    let some : 0 < length (words_left c.slots.rest) = left_some c.slots.rest (sym c.is_some.ensures ∙ c.slots-test.true) in
    rw (p.1, p.2) (goes_refuse target_at (map target c.slots.slots.items) (words_left c.slots.rest) (words_left c.args.words) _ some c.slots.invariant c.in_err-slot.ensures)

pub slots-smaller : goal.slots-smaller
slots-smaller c = target_shorter (words_left c.slots.rest) (target c.in_ok-slot.slot, words_left c.in_ok-slot.behind) c.in_ok-slot.ensures

pub slots-preserved : goal.slots-preserved
slots-preserved c =
    goes_more target_at target c.slots.slots.items c.push.new.self.items c.in_ok-slot.slot (words_left c.slots.rest) (words_left c.in_ok-slot.behind) (words_left c.args.words)
    (target_shorter (words_left c.slots.rest) (target c.in_ok-slot.slot, words_left c.in_ok-slot.behind) c.in_ok-slot.ensures)
    c.slots.invariant c.in_ok-slot.ensures c.in_ok-push.ensures.items
