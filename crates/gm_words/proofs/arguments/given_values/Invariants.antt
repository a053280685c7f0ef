use Rattle.std.proofs.Common.{◌≡◌, [], drop}
use Rattle.gm_words.specs.Arguments.{given_by}
use Rattle.gm_words.specs.Bindings.{bindings, type_in}
use Rattle.gm_words.proofs.arguments.given_values.Given as goal

abbrev pub invariant-loop-text : goal.invariant-loop-text
invariant-loop-text l = given_by (type_in l.types) l.graph.numbers l.words []
    ≡ given_by (type_in l.types) l.graph.numbers (drop l.text-index l.words) (bindings l.given)
