use Rattle.std.proofs.Common.{◌++◌, ap, sym, ◌∙◌}
use Rattle.std.specs.Prelude.{[], ◌∷◌}
use Rattle.gm_image_text.specs.Lines.{led}
use Rattle.gm_image_text.specs.Spelling.{type_word}
use Rattle.gm_image_text.proofs.Writing.{writes_none, writes_at, writes_all, led_each}
use Rattle.gm_image_text.proofs.put_words.put_types.Goals as goal

pub returns : goal.returns
returns c =
    writes_all (λ t. led (type_word t ∷ [])) c.args.text.now.items c.loop-vtype.text.items c.args.types.now c.loop-vtype.vtype-index c.loop-vtype.invariant c.loop-vtype-test.false
    ∙ ap (λ v. c.args.text.now.items ++ v) (sym (led_each type_word c.args.types.now))

pub loop-vtype-init : goal.loop-vtype-init
loop-vtype-init c = writes_none (λ t. led (type_word t ∷ [])) c.args.text.now.items c.args.types.now

pub loop-vtype-preserved : goal.loop-vtype-preserved
loop-vtype-preserved c =
    writes_at (λ t. led (type_word t ∷ [])) c.args.text.now.items c.loop-vtype.text.items c.put_type.new.text.items c.args.types.now c.loop-vtype.vtype-index _
    c.loop-vtype.invariant c.loop-vtype-test.true c.in_ok-put_type.ensures
