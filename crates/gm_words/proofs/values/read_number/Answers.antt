use Rattle.std.proofs.Common.{rules, sym, ◌∙◌}
use Rattle.gm_words.proofs.Numbers.{parsed_number}
use Rattle.gm_words.proofs.values.read_number.Goals as goal

pub returns-in_default-clause-number : goal.returns-in_default-clause-number
returns-in_default-clause-number c =
    let got = parsed_number c.args.text.now c.parse.result (search rules) (c.parse.ensures.value.0) in
    let other = c.in_default.is in
    let both = sym got ∙ other in
    cc
