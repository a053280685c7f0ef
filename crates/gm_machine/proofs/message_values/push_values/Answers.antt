-- The words before, and what was added to them.
use Rattle.std.proofs.Common.{◌≡◌, ◌++◌, ◌∙◌, List, take, ap, append_assoc, rules}
use Rattle.std.specs.Prelude.{ℤ}
use Rattle.gm_machine.specs.MessageValues.{all_words}
use Rattle.gm_machine.proofs.message_values.push_values.Goals as goal

pub returns-in_err-push_value-clause-part : goal.returns-in_err-push_value-clause-part
returns-in_err-push_value-clause-part c =
    let before : List ℤ = all_words (take c.loop-value.value-index c.args.values.now) in
    let more : List ℤ = c.in_err-push_value.ensures.part.0 in
    let part : (x : List ℤ) × (c.push_value.new.words.items ≡ c.args.words.now.items ++ x) =
    (before ++ more, c.in_err-push_value.ensures.part.1 ∙ ap (λ l. l ++ more) c.loop-value.invariant ∙ append_assoc c.args.words.now.items before more) in
    search (rules, part)
