use Rattle.std.proofs.Common.{sym, ◌∙◌, subst, ◌<◌}
use Rattle.gm_token.specs.declared.words.Word.{Word}
use Rattle.gm_token.specs.Fronts.{IsLongestFront}
use Rattle.gm_token.proofs.Longest.{name_there, digit_there, none_in_empty, none_there}
use Rattle.gm_token.proofs.parts.name_or_number.Goals as goal

pub returns-in_err-first-clause-none : goal.returns-in_err-first-clause-none
returns-in_err-first-clause-none c = rw c.from_residual.ensures (none_in_empty c.args.text.now (sym c.in_err-first.ensures.value) c.requires)

pub returns-then-begins_name-clause-found : goal.returns-then-begins_name-clause-found
returns-then-begins_name-clause-found c =
    let n = c.name_run-length.result in
    let There : Word → Type 0 = λ w. (0 < n) × IsLongestFront w n c.args.text.now in
    subst There (sym c.name_word.ensures) (name_there c.args.text.now c.in_ok-first.field-0.now n (sym c.in_ok-first.ensures.value) (sym c.begins_name.ensures ∙ c.if-begins_name.true) c.name_run-length.ensures c.requires)

pub number-requires-clause-digit : goal.number-requires-clause-digit
number-requires-clause-digit c = digit_there c.args.text.now c.in_ok-first.field-0.now (sym c.in_ok-first.ensures.value) (sym c.is_digit.ensures ∙ c.if-is_digit.true)

pub returns-clause-none : goal.returns-clause-none
returns-clause-none c = none_there c.args.text.now c.in_ok-first.field-0.now (sym c.in_ok-first.ensures.value) (sym c.begins_name.ensures ∙ c.if-begins_name.false) (sym c.is_digit.ensures ∙ c.if-is_digit.false) c.requires
