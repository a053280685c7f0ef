use Rattle.std.proofs.Common.{sym, ◌∙◌}
use Rattle.gm_token.proofs.Gaps.{line_gap}
use Rattle.gm_token.proofs.scanner.front_part.Goals as goal

pub returns-then-starts_with-clause-part : goal.returns-then-starts_with-clause-part
returns-then-starts_with-clause-part c = line_gap c.args.text.now c.line_run.result (sym c.starts_with.ensures.value ∙ c.if-starts_with.true) c.line_run.ensures
