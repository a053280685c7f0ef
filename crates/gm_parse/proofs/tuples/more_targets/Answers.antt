use Rattle.std.proofs.Common.{arith}
use Rattle.gm_token.specs.declared.words.Word.TheVariants as words
use Rattle.gm_token.specs.Tokens.{words_of}
use Rattle.gm_ast.specs.SurfaceTree.{target_of}
use Rattle.gm_parse.specs.Grammar.{Of, Target, Many, ◌▸◌, the}
use Rattle.gm_parse.specs.Trees.{ReadsTarget}
use Rattle.gm_parse.proofs.Paths.{goes_first, goes_more, goes_more_first, goes_nowhere, goes_stop, goes_then, sees_then}
use Rattle.gm_parse.proofs.StatementLaws.{at_stop}
use Rattle.gm_parse.proofs.TupleLaws.{entries_more}
use Rattle.gm_parse.proofs.tuples.more_targets.Goals as goal

pub row-init : goal.row-init
row-init c = record { goes = λ r h. h; tree = λ us h. h; begun = omega arith; in_text = c.requires }

pub returns-in_err-start-clause-goes : goal.returns-in_err-start-clause-goes
returns-in_err-start-clause-goes c = at_stop c.from_residual.result c.from_residual.ensures.1 (c.row.invariant.goes _ (goes_more_first (sees_then c.next_is.ensures c.row-test.true) (goes_first c.in_err-start.ensures.goes)))

pub returns-in_err-target-clause-goes : goal.returns-in_err-target-clause-goes
returns-in_err-target-clause-goes c = at_stop c.from_residual-in_err-target.result c.from_residual-in_err-target.ensures.1 (c.row.invariant.goes _ (goes_more_first (sees_then c.next_is.ensures c.row-test.true) (goes_then c.in_ok-start.ensures.goes c.in_err-target.ensures.goes)))

pub returns-in_err-push-clause-goes : goal.returns-in_err-push-clause-goes
returns-in_err-push-clause-goes c = at_stop c.from_residual-in_err-push.result c.from_residual-in_err-push.ensures.1 (goes_nowhere (Many (the words.Comma ▸ Of Target)) c.args.around (words_of c.args.tokens.now) c.args.at)

pub row-preserved : goal.row-preserved
row-preserved c = record { goes = λ r h. c.row.invariant.goes r (goes_more (sees_then c.next_is.ensures c.row-test.true) (goes_then c.in_ok-start.ensures.goes c.in_ok-target.ensures.goes) h); tree = λ us h. entries_more target_of ReadsTarget _ _ c.in_ok-push.ensures.items (c.row.invariant.tree us h) c.in_ok-start.ensures.tree c.in_ok-target.ensures.tree; begun = omega (arith, c.in_ok-start.ensures.next.0, c.in_ok-target.ensures.next.0, c.row.invariant.begun); in_text = c.in_ok-target.ensures.next.1 }

pub returns-clause-goes : goal.returns-clause-goes
returns-clause-goes c = c.row.invariant.goes _ (goes_stop (sees_then c.next_is.ensures c.row-test.false))

pub returns-clause-tree : goal.returns-clause-tree
returns-clause-tree c = λ us h. c.row.invariant.tree us h
