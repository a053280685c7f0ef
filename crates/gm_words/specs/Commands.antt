-- The commands as `clap` takes them.
use Rattle.std.specs.Prelude.{true, Some, codes}
use Rattle.clap.specs.Words.{App, Rule, Text, new_app, new_rule, with_rule}
use Rattle.clap.specs.declared.builder.action.ArgAction.TheVariants.{Append, SetTrue}
use Rattle.gm_words.specs.declared.verbs.Verb.{Verb}
use Rattle.gm_words.specs.declared.verbs.Verb.TheVariants.{Run, Check, Compile, Exec, Demo}

-- the positionals, any number of them
abbrev pub positional : Rule
positional = record (new_rule (codes "WORD")) { action = Some Append }

-- a command without the help option
abbrev pub bare_app : Text → App
bare_app title = record (new_app title) { top = record (new_app title).top { disable_help_flag = true } }

-- an option with a value
abbrev pub valued : Text → Rule
valued name = record (new_rule name) { long = Some name }

-- an option without one
abbrev pub flag : Text → Rule
flag name = record (new_rule name) { long = Some name; action = Some SetTrue }

-- a command that deals nodes out
abbrev pub dealt_app : Text → App
dealt_app title = with_rule (with_rule (bare_app title) (valued (codes "workers"))) (valued (codes "partition"))

-- a command that also reads a graph and runs turns over it
abbrev pub turning_app : Text → App
turning_app title = with_rule (with_rule (with_rule (dealt_app title) (valued (codes "turns"))) (valued (codes "format"))) (flag (codes "observe"))

-- a command with all its options
abbrev pub optioned_app : Text → Verb → App
optioned_app title Run = with_rule (turning_app title) (flag (codes "image"))
optioned_app title Check = bare_app title
optioned_app title Compile = bare_app title
optioned_app title Exec = turning_app title
optioned_app title Demo = dealt_app title

abbrev pub command_app : Text → Verb → App
command_app title verb = with_rule (optioned_app title verb) positional
