use Rattle.std.proofs.Common.{◌∙◌, sym}
use Rattle.gm_words.proofs.Numerals.{node_too_large}
use Rattle.gm_words.proofs.spellings.read_node_number.Goals as goal

pub returns-in_default : goal.returns-in_default
returns-in_default c =
    sym (node_too_large c.args.text.now c.parse.result _ (c.parse.ensures.value.0) (sym c.are_digits.ensures ∙ c.if-not-are_digits.false) c.in_default.is)
