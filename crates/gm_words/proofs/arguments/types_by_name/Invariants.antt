use Rattle.std.proofs.Common.{◌≡◌, ℕ, List, take}
use Rattle.gm_words.specs.Arguments.{type_named}
use Rattle.gm_words.specs.Bindings.{type_in}
use Rattle.gm_words.proofs.arguments.types_by_name.Given as goal

abbrev pub invariant-loop-input : goal.invariant-loop-input
invariant-loop-input l = (name : List ℕ) → type_in l.types name ≡ type_named (take l.input-index l.inputs) name
