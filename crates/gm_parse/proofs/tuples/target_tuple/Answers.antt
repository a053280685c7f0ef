use Rattle.gm_token.specs.Tokens.{words_of}
use Rattle.gm_ast.specs.SurfaceTree.{target_of}
use Rattle.gm_parse.specs.Grammar.{Of, Target, a_tuple}
use Rattle.gm_parse.specs.Trees.{ReadsTarget, ReadsTuple}
use Rattle.gm_parse.proofs.Paths.{goes_first, goes_nowhere, goes_then}
use Rattle.gm_parse.proofs.StatementLaws.{at_stop}
use Rattle.gm_parse.proofs.TupleLaws.{entries_two}
use Rattle.gm_parse.proofs.tuples.target_tuple.Goals as goal

pub returns-in_err-open-clause-goes : goal.returns-in_err-open-clause-goes
returns-in_err-open-clause-goes c = at_stop c.from_residual.result c.from_residual.ensures.1 (goes_first c.in_err-open.ensures.goes)

pub returns-in_err-first-clause-goes : goal.returns-in_err-first-clause-goes
returns-in_err-first-clause-goes c = at_stop c.from_residual-in_err-first.result c.from_residual-in_err-first.ensures.1 (goes_then c.in_ok-open.ensures.goes (goes_first c.in_err-first.ensures.goes))

pub returns-in_err-push-clause-goes : goal.returns-in_err-push-clause-goes
returns-in_err-push-clause-goes c = at_stop c.from_residual-in_err-push.result c.from_residual-in_err-push.ensures.1 (goes_nowhere (a_tuple (Of Target)) c.args.around (words_of c.args.tokens.now) c.args.at)

pub returns-in_err-semicolon-clause-goes : goal.returns-in_err-semicolon-clause-goes
returns-in_err-semicolon-clause-goes c = at_stop c.from_residual-in_err-semicolon.result c.from_residual-in_err-semicolon.ensures.1 (goes_then c.in_ok-open.ensures.goes (goes_then c.in_ok-first.ensures.goes (goes_first c.in_err-semicolon.ensures.goes)))

pub returns-in_err-second-clause-goes : goal.returns-in_err-second-clause-goes
returns-in_err-second-clause-goes c = at_stop c.from_residual-in_err-second.result c.from_residual-in_err-second.ensures.1 (goes_then c.in_ok-open.ensures.goes (goes_then c.in_ok-first.ensures.goes (goes_then c.in_ok-semicolon.ensures.goes (goes_first c.in_err-second.ensures.goes))))

pub returns-in_err-push-2-clause-goes : goal.returns-in_err-push-2-clause-goes
returns-in_err-push-2-clause-goes c = at_stop c.from_residual-in_err-push-2.result c.from_residual-in_err-push-2.ensures.1 (goes_nowhere (a_tuple (Of Target)) c.args.around (words_of c.args.tokens.now) c.args.at)

pub returns-in_err-end-clause-goes : goal.returns-in_err-end-clause-goes
returns-in_err-end-clause-goes c = at_stop c.from_residual-in_err-end.result c.from_residual-in_err-end.ensures.1 (goes_then c.in_ok-open.ensures.goes (goes_then c.in_ok-first.ensures.goes (goes_then c.in_ok-semicolon.ensures.goes (goes_then c.in_ok-second.ensures.goes (goes_first c.in_err-end.ensures.goes)))))

pub returns-in_err-close-clause-goes : goal.returns-in_err-close-clause-goes
returns-in_err-close-clause-goes c = at_stop c.from_residual-in_err-close.result c.from_residual-in_err-close.ensures.1 (goes_then c.in_ok-open.ensures.goes (goes_then c.in_ok-first.ensures.goes (goes_then c.in_ok-semicolon.ensures.goes (goes_then c.in_ok-second.ensures.goes (goes_then c.in_ok-end.ensures.goes (c.in_err-close.ensures.goes))))))

pub returns-clause-goes : goal.returns-clause-goes
returns-clause-goes c = goes_then c.in_ok-open.ensures.goes (goes_then c.in_ok-first.ensures.goes (goes_then c.in_ok-semicolon.ensures.goes (goes_then c.in_ok-second.ensures.goes (goes_then c.in_ok-end.ensures.goes (c.in_ok-close.ensures.goes)))))

pub returns-clause-tree : goal.returns-clause-tree
returns-clause-tree c = ReadsTuple.tuple c.in_ok-open.ensures.tree (c.in_ok-end.ensures.tree _ (entries_two target_of ReadsTarget _ _ c.requires c.in_ok-push.ensures.items c.in_ok-push-2.ensures.items c.in_ok-first.ensures.tree c.in_ok-semicolon.ensures.tree c.in_ok-second.ensures.tree)) c.in_ok-close.ensures.tree
