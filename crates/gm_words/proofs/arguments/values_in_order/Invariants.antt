use Rattle.std.proofs.Common.{◌≡◌, ◌++◌, Ok, drop}
use Rattle.gm_words.specs.Arguments.{and_then, in_order}
use Rattle.gm_words.specs.Bindings.{bindings}
use Rattle.gm_words.proofs.arguments.values_in_order.Given as goal

abbrev pub invariant-loop-input : goal.invariant-loop-input
invariant-loop-input l = in_order (bindings l.given) l.inputs
    ≡ and_then (λ rest. Ok (l.values.items ++ rest)) (in_order (bindings l.given) (drop l.input-index l.inputs))
