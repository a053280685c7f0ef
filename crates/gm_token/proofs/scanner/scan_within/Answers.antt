use Rattle.std.proofs.Common.{refl}
use Rattle.gm_token.specs.declared.scanner.Part.TheVariants.{Gap, Token}
use Rattle.gm_token.proofs.Steps.{at_start, part_left, after_gap, after_token}
use Rattle.gm_token.proofs.scanner.scan_within.Goals as goal

pub text-init : goal.text-init
text-init c = at_start c.args.text.now c.new-rows.result.items c.new-rows.ensures.items

pub text-preserved-in-Ok-Gap : goal.text-preserved-in-Ok-Gap
text-preserved-in-Ok-Gap c =
    let text = c.args.text.now in
    let at = c.text.at in
    let n = c.in-Ok-Gap.length in
    after_gap text c.text.rows.items at n c.text.place c.past-place.result c.text.invariant (part_left text at c.in-Ok-Gap.field-0 (Gap n) c.in-Ok-Gap.field-0-is c.in-Ok-Gap.ensures.part)
    c.past-place.ensures.place c.past-place.ensures.line c.past-place.ensures.col

pub text-preserved : goal.text-preserved
text-preserved c =
    let text = c.args.text.now in
    let at = c.text.at in
    let w = c.in-Ok-Token.word in
    let n = c.in-Ok-Token.length in
    after_token text c.text.rows.items c.push.new.self.items (record { word = w; offset = at; length = n; place = c.text.place }) at n w c.text.place c.past-place-in-Ok-Token.result c.text.invariant
    (part_left text at c.in-Ok-Token.field-0 (Token w n) c.in-Ok-Token.field-0-is c.in-Ok-Token.ensures.part) refl c.in_ok-push-in-Ok-Token.ensures.items
    c.past-place-in-Ok-Token.ensures.place c.past-place-in-Ok-Token.ensures.line c.past-place-in-Ok-Token.ensures.col
