use Rattle.gm_ast.specs.SurfaceTree.{procedure_of}
use Rattle.gm_canon.specs.Verdict.{Spells, IsVerdictOf}
use Rattle.gm_ast.specs.Tree.{program_of}
use Rattle.gm_canon.proofs.Ones.{same-listing, one-program}
use Rattle.gm_canon.proofs.Phases.{passed-on, stop-by_tokens, stop-by_grammar, stop-by_tree}
use Rattle.gm_canon.proofs.verdicts.verdict.Goals as goal

pub returns-in_err-tokens-clause-refused : goal.returns-in_err-tokens-clause-refused
returns-in_err-tokens-clause-refused c =
    passed-on (IsVerdictOf c.args.text.now) c.from_residual.result c.in_err-tokens.field-0.0 c.from_residual.ensures.1
    (stop-by_tokens c.args.text.now c.in_err-tokens.field-0.0 c.in_err-tokens.ensures.stop)

pub returns-in_err-procedure-clause-refused : goal.returns-in_err-procedure-clause-refused
returns-in_err-procedure-clause-refused c =
    passed-on (IsVerdictOf c.args.text.now) c.from_residual-in_err-procedure.result c.in_err-procedure.field-0.0 c.from_residual-in_err-procedure.ensures.1
    (stop-by_grammar c.args.text.now c.in_ok-tokens.tokens c.in_ok-tokens.ensures.tokens c.in_err-procedure.field-0.0 c.in_err-procedure.ensures.refused)

pub returns-in_err-checked-clause-refused : goal.returns-in_err-checked-clause-refused
returns-in_err-checked-clause-refused c =
    let spelled : Spells c.args.text.now (procedure_of c.in_ok-procedure.procedure) = record {
      listing = c.in_ok-tokens.tokens;
      scanned = c.in_ok-tokens.ensures.tokens;
      accepted = c.in_ok-procedure.ensures.accepted;
      spelled = c.in_ok-procedure.ensures.tree;
    } in
    passed-on (IsVerdictOf c.args.text.now) c.from_residual-in_err-checked.result c.in_err-checked.field-0.0 c.from_residual-in_err-checked.ensures.1
    (stop-by_tree c.args.text.now (procedure_of c.in_ok-procedure.procedure) spelled c.in_err-checked.field-0.0 c.in_err-checked.ensures.refused)

pub returns-clause-accepted : goal.returns-clause-accepted
returns-clause-accepted c =
    let spelled : Spells c.args.text.now (procedure_of c.in_ok-procedure.procedure) = record {
      listing = c.in_ok-tokens.tokens;
      scanned = c.in_ok-tokens.ensures.tokens;
      accepted = c.in_ok-procedure.ensures.accepted;
      spelled = c.in_ok-procedure.ensures.tree;
    } in
    record {
      tree = procedure_of c.in_ok-procedure.procedure;
      spelled = spelled;
      stands = c.in_ok-checked.ensures.accepted;
    }

pub returns-clause-only : goal.returns-clause-only
returns-clause-only c =
    λ other stands. one-program c.args.text.now c.in_ok-tokens.tokens (procedure_of c.in_ok-procedure.procedure) (program_of c.in_ok-checked.checked) other
    (λ it scanned. same-listing c.in_ok-tokens.tokens it (c.in_ok-tokens.ensures.accepted it scanned))
    c.texts_have_one_tree.ensures c.in_ok-procedure.ensures.tree c.in_ok-checked.ensures.accepted.typed stands
