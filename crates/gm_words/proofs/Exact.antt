-- The commands of the program have exact matches and faults.
use Rattle.std.proofs.Common.{refl}
use Rattle.gm_words.specs.declared.verbs.Verb.{Verb}
use Rattle.gm_words.specs.declared.verbs.Verb.TheVariants.{Run, Check, Compile, Exec, Demo}
use Rattle.gm_words.specs.Words.{Text}
use Rattle.gm_words.specs.Commands.{command_app}
use Rattle.gm_words.specs.Jobs.{known_options}
use Rattle.gm_words.proofs.Outcomes.{IsExact}

pub exact : (title : Text) (verb : Verb) → IsExact title (known_options verb) (command_app title verb)
exact title Run = record { command = record { built_is = refl; named = refl }; apart = refl; simple = refl; free = refl }
exact title Check = record { command = record { built_is = refl; named = refl }; apart = refl; simple = refl; free = refl }
exact title Compile = record { command = record { built_is = refl; named = refl }; apart = refl; simple = refl; free = refl }
exact title Exec = record { command = record { built_is = refl; named = refl }; apart = refl; simple = refl; free = refl }
exact title Demo = record { command = record { built_is = refl; named = refl }; apart = refl; simple = refl; free = refl }
