use Rattle.std.proofs.Common.{not, drop, sym, ap, ◌∙◌}
use Rattle.gm_fields.specs.Fields.{is_blank, fields}
use Rattle.gm_fields.proofs.Parting.{position_some, position_none, behind, fields_skip, starts_field, fields_none}
use Rattle.gm_fields.proofs.skip_blanks.Goals as goal

pub returns-in-None : goal.returns-in-None
returns-in-None c =
    let text = c.args.text.now in
    fields_none text (position_none (λ b. not (is_blank b)) text (sym c.in-None.ensures))

pub returns-in-Some : goal.returns-in-Some
returns-in-Some c =
    let text = c.args.text.now in
    let start = c.in-Some.start in
    let at = position_some (λ b. not (is_blank b)) text start (sym c.in-Some.ensures) in
    rw (behind start text) (ap (λ k. fields (drop k text)) at.0 ∙ fields_skip text, starts_field text start at.0 at.1)
