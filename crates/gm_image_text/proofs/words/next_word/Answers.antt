use Rattle.std.proofs.Common.{◌+◌, sym, ap, ◌∙◌, eqb, take, drop, Some}
use Rattle.gm_image_text.specs.Lines.{words_of}
use Rattle.gm_image_text.specs.Reading.{next_at, words_left}
use Rattle.gm_image_text.proofs.Cutting.{position_some, position_none, behind, words_some, words_none}
use Rattle.gm_image_text.proofs.words.next_word.Goals as goal

pub returns-in-None : goal.returns-in-None
returns-in-None c =
    let at = position_none (λ b. eqb b 32) c.in-Some.text.now (sym c.in-None.ensures) in
    ap (λ w. next_at (words_left w)) c.in-Some.is ∙ ap next_at (words_none c.in-Some.text.now at)

pub returns-in-Some-word_end : goal.returns-in-Some-word_end
returns-in-Some-word_end c =
    let text = c.in-Some.text.now in
    let end = c.in-Some-word_end.end in
    let at = position_some (λ b. eqb b 32) text end (sym c.in-Some-word_end.ensures) in
    rw (behind (end + 1) text) (
    ap (λ w. next_at (words_left w)) c.in-Some.is
    ∙ ap next_at (words_some text at.1)
    ∙ ap (λ k. Some (take k text, words_of (drop (k + 1) text))) (sym at.0)
    )
