use Rattle.std.proofs.Common.{arith}
use Rattle.gm_token.specs.declared.words.Word.TheVariants as words
use Rattle.gm_token.specs.Tokens.{words_of}
use Rattle.gm_parse.specs.Grammar.{◌▸◌, Many, the, a_name, rule}
use Rattle.gm_parse.specs.Factored.{factored}
use Rattle.gm_parse.specs.Trees.{ReadsNames}
use Rattle.gm_parse.proofs.Paths.{at_exit, goes_first, goes_more, goes_more_first, goes_nowhere, goes_stop, goes_then, sees_then}
use Rattle.gm_parse.proofs.TreeLaws.{as_names}
use Rattle.gm_parse.proofs.types.more_names.Goals as goal
use Rattle.gm_parse.proofs.TypeLaws.{names_on}

pub row-init : goal.row-init
unfolding rule factored
row-init c = record { goes = λ r h. h; tree = λ us h. h; begun = omega arith; in_text = c.requires.1 }

pub returns-in_err-start-clause-goes : goal.returns-in_err-start-clause-goes
unfolding rule factored
returns-in_err-start-clause-goes c = at_exit c.from_residual.result c.from_residual.ensures.1 (c.row.invariant.goes _ (goes_more_first (sees_then c.next_is.ensures c.row-test.true) (goes_first c.in_err-start.ensures.goes)))

pub returns-in_err-name-clause-goes : goal.returns-in_err-name-clause-goes
unfolding rule factored
returns-in_err-name-clause-goes c = at_exit c.from_residual-in_err-name.result c.from_residual-in_err-name.ensures.1 (c.row.invariant.goes _ (goes_more_first (sees_then c.next_is.ensures c.row-test.true) (goes_then c.in_ok-start.ensures.goes c.in_err-name.ensures.goes)))

pub returns-in_err-push-clause-goes : goal.returns-in_err-push-clause-goes
unfolding rule factored
returns-in_err-push-clause-goes c = at_exit c.from_residual-in_err-push.result c.from_residual-in_err-push.ensures.1 (goes_nowhere (Many (the words.Comma ▸ a_name)) c.args.around (words_of c.args.tokens.now) c.args.at)

pub row-preserved : goal.row-preserved
unfolding rule factored
row-preserved c = record { goes = λ r h. c.row.invariant.goes r (goes_more (sees_then c.next_is.ensures c.row-test.true) (goes_then c.in_ok-start.ensures.goes c.in_ok-name.ensures.goes) h); tree = λ us h. as_names (names_on _ _ c.in_ok-push.ensures.items) (ReadsNames.more (c.row.invariant.tree us h) c.in_ok-start.ensures.tree c.in_ok-name.ensures.tree); begun = omega (arith, c.in_ok-start.ensures.next.0, c.in_ok-name.ensures.next.0, c.row.invariant.begun); in_text = c.in_ok-name.ensures.next.1 }

pub returns-clause-goes : goal.returns-clause-goes
unfolding rule factored
returns-clause-goes c = c.row.invariant.goes _ (goes_stop (sees_then c.next_is.ensures c.row-test.false))

pub returns-clause-tree : goal.returns-clause-tree
unfolding rule factored
returns-clause-tree c = λ us h. c.row.invariant.tree us h
