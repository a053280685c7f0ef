use Rattle.std.proofs.Common.{◌+◌, length, sym, ◌∙◌, refl}
use Rattle.gm_fields.proofs.Parting.{lines_some, lines_none, behind, drop_all}
use Rattle.gm_fields.proofs.cut_line.Goals as goal

pub returns-in-None-clause-line : goal.returns-in-None-clause-line
returns-in-None-clause-line c =
    let text = c.args.text.now in
    lines_none text c.requires (sym c.in-None.ensures) ∙ rw (behind (length text) text, drop_all text) refl

pub returns-in-Some-clause-line : goal.returns-in-Some-clause-line
returns-in-Some-clause-line c =
    let text = c.args.text.now in
    lines_some text c.in-Some.end (sym c.in-Some.ensures) ∙ rw (behind (c.in-Some.end + 1) text, c.without_return.ensures) refl
