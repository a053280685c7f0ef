use Rattle.std.proofs.Common.{◌∙◌, sym, refl, Some, None}
use Rattle.gm_parse.proofs.Paths.{sees_word}
use Rattle.gm_parse.proofs.reading.next_is_type.Goals as goal

pub returns-in-None : goal.returns-in-None
returns-in-None c = sees_word None (sym c.peek.ensures.word ∙ c.in-None.is) refl

pub returns-in-Some : goal.returns-in-Some
returns-in-Some c = sees_word (Some c.in-Some.word) (sym c.peek.ensures.word ∙ c.in-Some.is) (sym c.begins_type.ensures)
