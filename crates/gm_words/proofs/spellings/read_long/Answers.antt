use Rattle.std.proofs.Common.{◌∙◌, sym}
use Rattle.gm_words.proofs.Numerals.{whole_is}
use Rattle.gm_words.proofs.spellings.read_long.Goals as goal

pub returns : goal.returns
returns c =
    let digits = sym c.are_digits.ensures ∙ c.if-not-are_digits.false in
    c.ok.ensures.value ∙ whole_is c.args.text.now c.parse.result (c.parse.ensures.value.0) (rw (← c.unsigned_part.ensures) digits)
