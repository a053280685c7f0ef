use Rattle.std.proofs.Common.{◌+◌, sym, ap, ◌∙◌, eqb, take, drop, Some}
use Rattle.gm_image_text.specs.Lines.{words_of, lines_of}
use Rattle.gm_image_text.proofs.Cutting.{position_some, position_none, behind, cut_some, cut_none}
use Rattle.gm_image_text.proofs.words.cut_line.Goals as goal

pub returns-in-None-clause-cut : goal.returns-in-None-clause-cut
returns-in-None-clause-cut c = sym (cut_none c.args.text.now (position_none (λ b. eqb b 10) c.args.text.now (sym c.in-None.ensures)))

pub returns-in-Some-clause-cut : goal.returns-in-Some-clause-cut
returns-in-Some-clause-cut c =
    let text = c.args.text.now in
    let end = c.in-Some.end in
    let at = position_some (λ b. eqb b 10) text end (sym c.in-Some.ensures) in
    rw (behind (end + 1) text) (sym (cut_some text at.1 ∙ ap (λ k. Some (words_of (take k text), lines_of (drop (k + 1) text))) (sym at.0)))
