use Rattle.std.proofs.Common.{length, sym, ◌∙◌, refl}
use Rattle.gm_fields.proofs.Parting.{behind, drop_all, fields_only, fields_some}
use Rattle.gm_fields.proofs.cut_field.Goals as goal

pub returns-in-None : goal.returns-in-None
returns-in-None c =
    let text = c.in_ok-text.text.now in
    sym c.in_ok-text.ensures.0 ∙ fields_only text c.in_ok-text.ensures.1 (sym c.in-None.ensures) ∙ rw (behind (length text) text, drop_all text) refl

pub returns-in-Some : goal.returns-in-Some
returns-in-Some c =
    let text = c.in_ok-text.text.now in
    let end = c.in-Some.end in
    sym c.in_ok-text.ensures.0 ∙ fields_some text end c.in_ok-text.ensures.1 (sym c.in-Some.ensures) ∙ rw (behind end text) refl
