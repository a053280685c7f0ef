use Rattle.std.proofs.Common.{sym, ◌∙◌}
use Rattle.gm_words.proofs.Operands.{no_two, some_two}
use Rattle.gm_words.proofs.found.files_of.Goals as goal

pub returns-then-not-are_assignments-clause-usage : goal.returns-then-not-are_assignments-clause-usage
returns-then-not-are_assignments-clause-usage c =
    λ usage. no_two c.args.words.now c.in-len2-up.len_at_least (sym c.are_assignments.ensures ∙ c.if-not-are_assignments.true)

pub returns-clause-files : goal.returns-clause-files
returns-clause-files c =
    let copied = c.in_ok-copied_files.ensures in
    some_two c.args.words.now _ _ _ _ _ c.in-len2-up.len_at_least (sym c.are_assignments.ensures ∙ c.if-not-are_assignments.false) copied.0 copied.1 copied.2
