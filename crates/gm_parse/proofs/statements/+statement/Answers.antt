use Rattle.std.proofs.Common.{List, refl, ap, ◌∙◌, arith}
use Rattle.std.specs.Option.{option_and_then}
use Rattle.gm_token.specs.Tokens.{words_of}
use Rattle.gm_parse.specs.Grammar.{TypeName, Block, Statement, Target, Reverse, InStatement, Of, a_loop, an_if, a_while, a_do, a_search, a_tuple, loop_word_sign, rule}
use Rattle.gm_parse.specs.Factored.{factored}
use Rattle.gm_parse.specs.Choices.{loop_word}
use Rattle.gm_parse.specs.Trees.{ReadsStmt, ReadsMany, ReadsBlock, ReadsReverse}
use Rattle.gm_parse.proofs.Paths.{at_exit, goes_absent, goes_attached, goes_attached_first, goes_detached, goes_first, goes_left, goes_more, goes_more_first, goes_nowhere, goes_part, goes_present, goes_right, goes_stop, goes_then, goes_within, sees, sees_then}
use Rattle.gm_parse.proofs.ChoiceLaws.{is_loop, sees_first}
use Rattle.gm_parse.proofs.TreeLaws.{as_stmt, as_around, otherwise, as_many}
use Rattle.gm_parse.proofs.statements.+statement.Goals as goal
use Rattle.std.proofs.Common.{map}
use Rattle.gm_ast.specs.declared.surface.SpelledStmt.{SpelledStmt}
use Rattle.gm_ast.specs.Surface.{sequence}
use Rattle.gm_ast.specs.SurfaceTree.{stmt_of}
use Rattle.gm_ast.proofs.SurfaceTrees.{stmt_of-Block}
use Rattle.gm_parse.proofs.TypeLaws.{mapped_on}
use Rattle.gm_parse.proofs.LevelLaws.{sees_block, sees_reverse}
use Rattle.gm_parse.proofs.StatementLaws.{sees_target}

pub statement-returns-in_err-body-clause-goes : goal.statement-returns-in_err-body-clause-goes
unfolding rule factored
statement-returns-in_err-body-clause-goes t c = at_exit c.from_residual.result c.from_residual.ensures.1 (goes_part Statement (goes_within InStatement (as_around (c.in_statement-inside.ensures c.args.at) c.in_err-body.ensures.goes (λ a r h. goes_left (sees_block c.next_is.ensures c.if-next_is.true) h))))

pub statement-returns-in_ok-body-clause-goes : goal.statement-returns-in_ok-body-clause-goes
unfolding rule factored
statement-returns-in_ok-body-clause-goes t c = goes_part Statement (goes_within InStatement (as_around (c.in_statement-inside.ensures c.args.at) c.in_ok-body.ensures.goes (λ a r h. goes_left (sees_block c.next_is.ensures c.if-next_is.true) h)))

pub statement-returns-in_err-empty-clause-goes : goal.statement-returns-in_err-empty-clause-goes
unfolding rule factored
statement-returns-in_err-empty-clause-goes t c = at_exit c.from_residual-in_err-empty.result c.from_residual-in_err-empty.ensures.1 (goes_part Statement (goes_within InStatement (as_around (c.in_statement-inside.ensures c.args.at) c.in_err-empty.ensures.goes (λ a r h. goes_right (sees_block c.next_is.ensures c.if-next_is.false) (goes_left (sees c.next_is-else-next_is.ensures c.if-next_is-2.true) h)))))

pub statement-returns-in_ok-empty-clause-goes : goal.statement-returns-in_ok-empty-clause-goes
unfolding rule factored
statement-returns-in_ok-empty-clause-goes t c = goes_part Statement (goes_within InStatement (as_around (c.in_statement-inside.ensures c.args.at) c.in_ok-empty.ensures.goes (λ a r h. goes_right (sees_block c.next_is.ensures c.if-next_is.false) (goes_left (sees c.next_is-else-next_is.ensures c.if-next_is-2.true) h))))

pub statement-returns-in_err-declared-clause-goes : goal.statement-returns-in_err-declared-clause-goes
unfolding rule factored
statement-returns-in_err-declared-clause-goes t c = at_exit c.from_residual-in_err-declared.result c.from_residual-in_err-declared.ensures.1 (goes_part Statement (goes_within InStatement (as_around (c.in_statement-inside.ensures c.args.at) c.in_err-declared.ensures.goes (λ a r h. goes_right (sees_block c.next_is.ensures c.if-next_is.false) (goes_right (sees c.next_is-else-next_is.ensures c.if-next_is-2.false) (goes_left (sees_first (Of TypeName) _ refl (sees c.next_is_type.ensures c.if-next_is_type.true)) h))))))

pub statement-returns-in_ok-declared-clause-goes : goal.statement-returns-in_ok-declared-clause-goes
unfolding rule factored
statement-returns-in_ok-declared-clause-goes t c = goes_part Statement (goes_within InStatement (as_around (c.in_statement-inside.ensures c.args.at) c.in_ok-declared.ensures.goes (λ a r h. goes_right (sees_block c.next_is.ensures c.if-next_is.false) (goes_right (sees c.next_is-else-next_is.ensures c.if-next_is-2.false) (goes_left (sees_first (Of TypeName) _ refl (sees c.next_is_type.ensures c.if-next_is_type.true)) h)))))

pub statement-returns-in_err-assigned-clause-goes : goal.statement-returns-in_err-assigned-clause-goes
unfolding rule factored
statement-returns-in_err-assigned-clause-goes t c = at_exit c.from_residual-in_err-assigned.result c.from_residual-in_err-assigned.ensures.1 (goes_part Statement (goes_within InStatement (as_around (c.in_statement-inside.ensures c.args.at) c.in_err-assigned.ensures.goes (λ a r h. goes_right (sees_block c.next_is.ensures c.if-next_is.false) (goes_right (sees c.next_is-else-next_is.ensures c.if-next_is-2.false) (goes_right (sees_first (Of TypeName) _ refl (sees c.next_is_type.ensures c.if-next_is_type.false)) (goes_left (sees_first (Of Target) _ refl (sees_target c.next_is_name.ensures c.if-next_is_name.true)) h)))))))

pub statement-returns-in_ok-assigned-clause-goes : goal.statement-returns-in_ok-assigned-clause-goes
unfolding rule factored
statement-returns-in_ok-assigned-clause-goes t c = goes_part Statement (goes_within InStatement (as_around (c.in_statement-inside.ensures c.args.at) c.in_ok-assigned.ensures.goes (λ a r h. goes_right (sees_block c.next_is.ensures c.if-next_is.false) (goes_right (sees c.next_is-else-next_is.ensures c.if-next_is-2.false) (goes_right (sees_first (Of TypeName) _ refl (sees c.next_is_type.ensures c.if-next_is_type.false)) (goes_left (sees_first (Of Target) _ refl (sees_target c.next_is_name.ensures c.if-next_is_name.true)) h))))))

pub statement-returns-in_err-run-clause-goes : goal.statement-returns-in_err-run-clause-goes
unfolding rule factored
statement-returns-in_err-run-clause-goes t c = at_exit c.from_residual-in_err-run.result c.from_residual-in_err-run.ensures.1 (goes_part Statement (goes_within InStatement (as_around (c.in_statement-inside.ensures c.args.at) c.in_err-run.ensures.goes (λ a r h. goes_right (sees_block c.next_is.ensures c.if-next_is.false) (goes_right (sees c.next_is-else-next_is.ensures c.if-next_is-2.false) (goes_right (sees_first (Of TypeName) _ refl (sees c.next_is_type.ensures c.if-next_is_type.false)) (goes_right (sees_first (Of Target) _ refl (sees_target c.next_is_name.ensures c.if-next_is_name.false)) (goes_left (sees_first loop_word_sign _ refl (sees c.next_is_loop.ensures c.if-next_is_loop.true)) h))))))))

pub statement-returns-in_ok-run-clause-goes : goal.statement-returns-in_ok-run-clause-goes
unfolding rule factored
statement-returns-in_ok-run-clause-goes t c = goes_part Statement (goes_within InStatement (as_around (c.in_statement-inside.ensures c.args.at) c.in_ok-run.ensures.goes (λ a r h. goes_right (sees_block c.next_is.ensures c.if-next_is.false) (goes_right (sees c.next_is-else-next_is.ensures c.if-next_is-2.false) (goes_right (sees_first (Of TypeName) _ refl (sees c.next_is_type.ensures c.if-next_is_type.false)) (goes_right (sees_first (Of Target) _ refl (sees_target c.next_is_name.ensures c.if-next_is_name.false)) (goes_left (sees_first loop_word_sign _ refl (sees c.next_is_loop.ensures c.if-next_is_loop.true)) h)))))))

pub statement-returns-in_err-decided-clause-goes : goal.statement-returns-in_err-decided-clause-goes
unfolding rule factored
statement-returns-in_err-decided-clause-goes t c = at_exit c.from_residual-in_err-decided.result c.from_residual-in_err-decided.ensures.1 (goes_part Statement (goes_within InStatement (as_around (c.in_statement-inside.ensures c.args.at) c.in_err-decided.ensures.goes (λ a r h. goes_right (sees_block c.next_is.ensures c.if-next_is.false) (goes_right (sees c.next_is-else-next_is.ensures c.if-next_is-2.false) (goes_right (sees_first (Of TypeName) _ refl (sees c.next_is_type.ensures c.if-next_is_type.false)) (goes_right (sees_first (Of Target) _ refl (sees_target c.next_is_name.ensures c.if-next_is_name.false)) (goes_right (sees_first loop_word_sign _ refl (sees c.next_is_loop.ensures c.if-next_is_loop.false)) (goes_left (sees_then c.next_is-else-next_is_loop.ensures c.if-next_is-3.true) h)))))))))

pub statement-returns-in_ok-decided-clause-goes : goal.statement-returns-in_ok-decided-clause-goes
unfolding rule factored
statement-returns-in_ok-decided-clause-goes t c = goes_part Statement (goes_within InStatement (as_around (c.in_statement-inside.ensures c.args.at) c.in_ok-decided.ensures.goes (λ a r h. goes_right (sees_block c.next_is.ensures c.if-next_is.false) (goes_right (sees c.next_is-else-next_is.ensures c.if-next_is-2.false) (goes_right (sees_first (Of TypeName) _ refl (sees c.next_is_type.ensures c.if-next_is_type.false)) (goes_right (sees_first (Of Target) _ refl (sees_target c.next_is_name.ensures c.if-next_is_name.false)) (goes_right (sees_first loop_word_sign _ refl (sees c.next_is_loop.ensures c.if-next_is_loop.false)) (goes_left (sees_then c.next_is-else-next_is_loop.ensures c.if-next_is-3.true) h))))))))

pub statement-returns-in_err-repeated-clause-goes : goal.statement-returns-in_err-repeated-clause-goes
unfolding rule factored
statement-returns-in_err-repeated-clause-goes t c = at_exit c.from_residual-in_err-repeated.result c.from_residual-in_err-repeated.ensures.1 (goes_part Statement (goes_within InStatement (as_around (c.in_statement-inside.ensures c.args.at) c.in_err-repeated.ensures.goes (λ a r h. goes_right (sees_block c.next_is.ensures c.if-next_is.false) (goes_right (sees c.next_is-else-next_is.ensures c.if-next_is-2.false) (goes_right (sees_first (Of TypeName) _ refl (sees c.next_is_type.ensures c.if-next_is_type.false)) (goes_right (sees_first (Of Target) _ refl (sees_target c.next_is_name.ensures c.if-next_is_name.false)) (goes_right (sees_first loop_word_sign _ refl (sees c.next_is_loop.ensures c.if-next_is_loop.false)) (goes_right (sees_then c.next_is-else-next_is_loop.ensures c.if-next_is-3.false) (goes_left (sees_then c.next_is-else-next_is-3.ensures c.if-next_is-4.true) h))))))))))

pub statement-returns-in_ok-repeated-clause-goes : goal.statement-returns-in_ok-repeated-clause-goes
unfolding rule factored
statement-returns-in_ok-repeated-clause-goes t c = goes_part Statement (goes_within InStatement (as_around (c.in_statement-inside.ensures c.args.at) c.in_ok-repeated.ensures.goes (λ a r h. goes_right (sees_block c.next_is.ensures c.if-next_is.false) (goes_right (sees c.next_is-else-next_is.ensures c.if-next_is-2.false) (goes_right (sees_first (Of TypeName) _ refl (sees c.next_is_type.ensures c.if-next_is_type.false)) (goes_right (sees_first (Of Target) _ refl (sees_target c.next_is_name.ensures c.if-next_is_name.false)) (goes_right (sees_first loop_word_sign _ refl (sees c.next_is_loop.ensures c.if-next_is_loop.false)) (goes_right (sees_then c.next_is-else-next_is_loop.ensures c.if-next_is-3.false) (goes_left (sees_then c.next_is-else-next_is-3.ensures c.if-next_is-4.true) h)))))))))

pub statement-returns-in_err-done-clause-goes : goal.statement-returns-in_err-done-clause-goes
unfolding rule factored
statement-returns-in_err-done-clause-goes t c = at_exit c.from_residual-in_err-done.result c.from_residual-in_err-done.ensures.1 (goes_part Statement (goes_within InStatement (as_around (c.in_statement-inside.ensures c.args.at) c.in_err-done.ensures.goes (λ a r h. goes_right (sees_block c.next_is.ensures c.if-next_is.false) (goes_right (sees c.next_is-else-next_is.ensures c.if-next_is-2.false) (goes_right (sees_first (Of TypeName) _ refl (sees c.next_is_type.ensures c.if-next_is_type.false)) (goes_right (sees_first (Of Target) _ refl (sees_target c.next_is_name.ensures c.if-next_is_name.false)) (goes_right (sees_first loop_word_sign _ refl (sees c.next_is_loop.ensures c.if-next_is_loop.false)) (goes_right (sees_then c.next_is-else-next_is_loop.ensures c.if-next_is-3.false) (goes_right (sees_then c.next_is-else-next_is-3.ensures c.if-next_is-4.false) (goes_left (sees_then c.next_is-else-next_is-4.ensures c.if-next_is-5.true) h)))))))))))

pub statement-returns-in_ok-done-clause-goes : goal.statement-returns-in_ok-done-clause-goes
unfolding rule factored
statement-returns-in_ok-done-clause-goes t c = goes_part Statement (goes_within InStatement (as_around (c.in_statement-inside.ensures c.args.at) c.in_ok-done.ensures.goes (λ a r h. goes_right (sees_block c.next_is.ensures c.if-next_is.false) (goes_right (sees c.next_is-else-next_is.ensures c.if-next_is-2.false) (goes_right (sees_first (Of TypeName) _ refl (sees c.next_is_type.ensures c.if-next_is_type.false)) (goes_right (sees_first (Of Target) _ refl (sees_target c.next_is_name.ensures c.if-next_is_name.false)) (goes_right (sees_first loop_word_sign _ refl (sees c.next_is_loop.ensures c.if-next_is_loop.false)) (goes_right (sees_then c.next_is-else-next_is_loop.ensures c.if-next_is-3.false) (goes_right (sees_then c.next_is-else-next_is-3.ensures c.if-next_is-4.false) (goes_left (sees_then c.next_is-else-next_is-4.ensures c.if-next_is-5.true) h))))))))))

pub statement-returns-in_err-found-clause-goes : goal.statement-returns-in_err-found-clause-goes
unfolding rule factored
statement-returns-in_err-found-clause-goes t c = at_exit c.from_residual-in_err-found.result c.from_residual-in_err-found.ensures.1 (goes_part Statement (goes_within InStatement (as_around (c.in_statement-inside.ensures c.args.at) c.in_err-found.ensures.goes (λ a r h. goes_right (sees_block c.next_is.ensures c.if-next_is.false) (goes_right (sees c.next_is-else-next_is.ensures c.if-next_is-2.false) (goes_right (sees_first (Of TypeName) _ refl (sees c.next_is_type.ensures c.if-next_is_type.false)) (goes_right (sees_first (Of Target) _ refl (sees_target c.next_is_name.ensures c.if-next_is_name.false)) (goes_right (sees_first loop_word_sign _ refl (sees c.next_is_loop.ensures c.if-next_is_loop.false)) (goes_right (sees_then c.next_is-else-next_is_loop.ensures c.if-next_is-3.false) (goes_right (sees_then c.next_is-else-next_is-3.ensures c.if-next_is-4.false) (goes_right (sees_then c.next_is-else-next_is-4.ensures c.if-next_is-5.false) (goes_left (sees_then c.next_is-else-next_is-5.ensures c.if-next_is-6.true) h))))))))))))

pub statement-returns-in_ok-found-clause-goes : goal.statement-returns-in_ok-found-clause-goes
unfolding rule factored
statement-returns-in_ok-found-clause-goes t c = goes_part Statement (goes_within InStatement (as_around (c.in_statement-inside.ensures c.args.at) c.in_ok-found.ensures.goes (λ a r h. goes_right (sees_block c.next_is.ensures c.if-next_is.false) (goes_right (sees c.next_is-else-next_is.ensures c.if-next_is-2.false) (goes_right (sees_first (Of TypeName) _ refl (sees c.next_is_type.ensures c.if-next_is_type.false)) (goes_right (sees_first (Of Target) _ refl (sees_target c.next_is_name.ensures c.if-next_is_name.false)) (goes_right (sees_first loop_word_sign _ refl (sees c.next_is_loop.ensures c.if-next_is_loop.false)) (goes_right (sees_then c.next_is-else-next_is_loop.ensures c.if-next_is-3.false) (goes_right (sees_then c.next_is-else-next_is-3.ensures c.if-next_is-4.false) (goes_right (sees_then c.next_is-else-next_is-4.ensures c.if-next_is-5.false) (goes_left (sees_then c.next_is-else-next_is-5.ensures c.if-next_is-6.true) h)))))))))))

pub statement-returns-in_err-picked-clause-goes : goal.statement-returns-in_err-picked-clause-goes
unfolding rule factored
statement-returns-in_err-picked-clause-goes t c = at_exit c.from_residual-in_err-picked.result c.from_residual-in_err-picked.ensures.1 (goes_part Statement (goes_within InStatement (as_around (c.in_statement-inside.ensures c.args.at) c.in_err-picked.ensures.goes (λ a r h. goes_right (sees_block c.next_is.ensures c.if-next_is.false) (goes_right (sees c.next_is-else-next_is.ensures c.if-next_is-2.false) (goes_right (sees_first (Of TypeName) _ refl (sees c.next_is_type.ensures c.if-next_is_type.false)) (goes_right (sees_first (Of Target) _ refl (sees_target c.next_is_name.ensures c.if-next_is_name.false)) (goes_right (sees_first loop_word_sign _ refl (sees c.next_is_loop.ensures c.if-next_is_loop.false)) (goes_right (sees_then c.next_is-else-next_is_loop.ensures c.if-next_is-3.false) (goes_right (sees_then c.next_is-else-next_is-3.ensures c.if-next_is-4.false) (goes_right (sees_then c.next_is-else-next_is-4.ensures c.if-next_is-5.false) (goes_right (sees_then c.next_is-else-next_is-5.ensures c.if-next_is-6.false) (goes_left (sees_first (a_tuple (Of Target)) _ refl (sees_then c.next_is-else-next_is-6.ensures c.if-next_is-7.true)) h)))))))))))))

pub statement-returns-in_err-returned-clause-goes : goal.statement-returns-in_err-returned-clause-goes
unfolding rule factored
statement-returns-in_err-returned-clause-goes t c = at_exit c.from_residual-in_err-returned.result c.from_residual-in_err-returned.ensures.1 (goes_part Statement (goes_within InStatement (as_around (c.in_statement-inside.ensures c.args.at) c.in_err-returned.ensures.goes (λ a r h. goes_right (sees_block c.next_is.ensures c.if-next_is.false) (goes_right (sees c.next_is-else-next_is.ensures c.if-next_is-2.false) (goes_right (sees_first (Of TypeName) _ refl (sees c.next_is_type.ensures c.if-next_is_type.false)) (goes_right (sees_first (Of Target) _ refl (sees_target c.next_is_name.ensures c.if-next_is_name.false)) (goes_right (sees_first loop_word_sign _ refl (sees c.next_is_loop.ensures c.if-next_is_loop.false)) (goes_right (sees_then c.next_is-else-next_is_loop.ensures c.if-next_is-3.false) (goes_right (sees_then c.next_is-else-next_is-3.ensures c.if-next_is-4.false) (goes_right (sees_then c.next_is-else-next_is-4.ensures c.if-next_is-5.false) (goes_right (sees_then c.next_is-else-next_is-5.ensures c.if-next_is-6.false) (goes_right (sees_first (a_tuple (Of Target)) _ refl (sees_then c.next_is-else-next_is-6.ensures c.if-next_is-7.false)) h)))))))))))))

pub statement-returns-in_ok-picked-clause-goes : goal.statement-returns-in_ok-picked-clause-goes
unfolding rule factored
statement-returns-in_ok-picked-clause-goes t c = goes_part Statement (goes_within InStatement (as_around (c.in_statement-inside.ensures c.args.at) c.in_ok-picked.ensures.goes (λ a r h. goes_right (sees_block c.next_is.ensures c.if-next_is.false) (goes_right (sees c.next_is-else-next_is.ensures c.if-next_is-2.false) (goes_right (sees_first (Of TypeName) _ refl (sees c.next_is_type.ensures c.if-next_is_type.false)) (goes_right (sees_first (Of Target) _ refl (sees_target c.next_is_name.ensures c.if-next_is_name.false)) (goes_right (sees_first loop_word_sign _ refl (sees c.next_is_loop.ensures c.if-next_is_loop.false)) (goes_right (sees_then c.next_is-else-next_is_loop.ensures c.if-next_is-3.false) (goes_right (sees_then c.next_is-else-next_is-3.ensures c.if-next_is-4.false) (goes_right (sees_then c.next_is-else-next_is-4.ensures c.if-next_is-5.false) (goes_right (sees_then c.next_is-else-next_is-5.ensures c.if-next_is-6.false) (goes_left (sees_first (a_tuple (Of Target)) _ refl (sees_then c.next_is-else-next_is-6.ensures c.if-next_is-7.true)) h))))))))))))

pub statement-returns-in_ok-returned-clause-goes : goal.statement-returns-in_ok-returned-clause-goes
unfolding rule factored
statement-returns-in_ok-returned-clause-goes t c = goes_part Statement (goes_within InStatement (as_around (c.in_statement-inside.ensures c.args.at) c.in_ok-returned.ensures.goes (λ a r h. goes_right (sees_block c.next_is.ensures c.if-next_is.false) (goes_right (sees c.next_is-else-next_is.ensures c.if-next_is-2.false) (goes_right (sees_first (Of TypeName) _ refl (sees c.next_is_type.ensures c.if-next_is_type.false)) (goes_right (sees_first (Of Target) _ refl (sees_target c.next_is_name.ensures c.if-next_is_name.false)) (goes_right (sees_first loop_word_sign _ refl (sees c.next_is_loop.ensures c.if-next_is_loop.false)) (goes_right (sees_then c.next_is-else-next_is_loop.ensures c.if-next_is-3.false) (goes_right (sees_then c.next_is-else-next_is-3.ensures c.if-next_is-4.false) (goes_right (sees_then c.next_is-else-next_is-4.ensures c.if-next_is-5.false) (goes_right (sees_then c.next_is-else-next_is-5.ensures c.if-next_is-6.false) (goes_right (sees_first (a_tuple (Of Target)) _ refl (sees_then c.next_is-else-next_is-6.ensures c.if-next_is-7.false)) h))))))))))))

pub statement-returns-in_ok-body-clause-tree : goal.statement-returns-in_ok-body-clause-tree
unfolding rule factored
statement-returns-in_ok-body-clause-tree t c = as_stmt (stmt_of-Block c.in_ok-body.body) (ReadsStmt.block c.in_ok-body.ensures.tree)

pub statement-returns-in_ok-empty-clause-tree : goal.statement-returns-in_ok-empty-clause-tree
unfolding rule factored
statement-returns-in_ok-empty-clause-tree t c = as_stmt (stmt_of-Block c.new-nothing.result ∙ ap (λ (xs : List SpelledStmt). sequence (map stmt_of xs)) c.new-nothing.ensures.items) (ReadsStmt.empty c.in_ok-empty.ensures.tree)

pub block-returns-in_err-first-clause-goes : goal.block-returns-in_err-first-clause-goes
unfolding rule factored
block-returns-in_err-first-clause-goes t c = at_exit c.from_residual.result c.from_residual.ensures.1 (goes_part Block (goes_first c.in_err-first.ensures.goes))

pub block-row-init : goal.block-row-init
unfolding rule factored
block-row-init t c = record { brace = c.in_ok-first.ensures.goes; goes = λ r h. h; word = c.in_ok-first.ensures.tree; trees = as_many (ap (map stmt_of) c.new-body.ensures.items) ReadsMany.none; begun = omega (arith, c.in_ok-first.ensures.next.0); in_text = c.in_ok-first.ensures.next.1; shallow = c.in_ok-first.ensures.next.2 }

pub block-returns-in_err-one-clause-goes : goal.block-returns-in_err-one-clause-goes
unfolding rule factored
block-returns-in_err-one-clause-goes t c = at_exit c.from_residual-in_err-one.result c.from_residual-in_err-one.ensures.1 (goes_part Block (goes_then c.row.invariant.brace (goes_first (c.row.invariant.goes _ (goes_more_first (sees c.next_is_statement.ensures c.row-test.true) c.in_err-one.ensures.goes)))))

pub block-returns-in_err-push-clause-goes : goal.block-returns-in_err-push-clause-goes
unfolding rule factored
block-returns-in_err-push-clause-goes t c = at_exit c.from_residual-in_err-push.result c.from_residual-in_err-push.ensures.1 (goes_nowhere (Of Block) c.args.around (words_of c.args.tokens.now) c.args.at)

pub block-row-preserved : goal.block-row-preserved
unfolding rule factored
block-row-preserved t c = record { brace = c.row.invariant.brace; goes = λ r h. c.row.invariant.goes r (goes_more (sees c.next_is_statement.ensures c.row-test.true) c.in_ok-one.ensures.goes h); word = c.row.invariant.word; trees = as_many (mapped_on stmt_of _ _ c.in_ok-push.ensures.items) (ReadsMany.more c.row.invariant.trees c.in_ok-one.ensures.tree); begun = omega (arith, c.in_ok-one.ensures.next.0, c.row.invariant.begun); in_text = c.in_ok-one.ensures.next.1; shallow = c.row.invariant.shallow }

pub block-returns-in_err-close-clause-goes : goal.block-returns-in_err-close-clause-goes
unfolding rule factored
block-returns-in_err-close-clause-goes t c = at_exit c.from_residual-in_err-close.result c.from_residual-in_err-close.ensures.1 (goes_part Block (goes_then c.row.invariant.brace (goes_then (c.row.invariant.goes _ (goes_stop (sees c.next_is_statement.ensures c.row-test.false))) c.in_err-close.ensures.goes)))

pub block-returns-clause-goes : goal.block-returns-clause-goes
unfolding rule factored
block-returns-clause-goes t c = goes_part Block (goes_then c.row.invariant.brace (goes_then (c.row.invariant.goes _ (goes_stop (sees c.next_is_statement.ensures c.row-test.false))) c.in_ok-close.ensures.goes))

pub block-returns-clause-tree : goal.block-returns-clause-tree
unfolding rule factored
block-returns-clause-tree t c = ReadsBlock.braces c.row.invariant.word c.row.invariant.trees c.in_ok-close.ensures.tree

pub looping-returns-in_err-sign-clause-goes : goal.looping-returns-in_err-sign-clause-goes
unfolding rule factored
looping-returns-in_err-sign-clause-goes t c = at_exit c.from_residual.result c.from_residual.ensures.1 (goes_first (c.in_err-sign.ensures.goes _ (is_loop c.loop_word-found.ensures c.peek-word.ensures.word)))

pub looping-returns-in_err-over-clause-goes : goal.looping-returns-in_err-over-clause-goes
unfolding rule factored
looping-returns-in_err-over-clause-goes t c = at_exit c.from_residual-in_err-over.result c.from_residual-in_err-over.ensures.1 (goes_then (c.in_ok-sign.ensures.goes _ (is_loop c.loop_word-found.ensures c.peek-word.ensures.word)) (goes_first c.in_err-over.ensures.goes))

pub looping-returns-in_err-body-clause-goes : goal.looping-returns-in_err-body-clause-goes
unfolding rule factored
looping-returns-in_err-body-clause-goes t c = at_exit c.from_residual-in_err-body.result c.from_residual-in_err-body.ensures.1 (goes_then (c.in_ok-sign.ensures.goes _ (is_loop c.loop_word-found.ensures c.peek-word.ensures.word)) (goes_then c.in_ok-over.ensures.goes (c.in_err-body.ensures.goes)))

pub looping-returns-in_err-run-clause-goes : goal.looping-returns-in_err-run-clause-goes
unfolding rule factored
looping-returns-in_err-run-clause-goes t c = at_exit c.from_residual-in_err-run.result c.from_residual-in_err-run.ensures.1 (goes_nowhere (a_loop) c.args.around (words_of c.args.tokens.now) c.args.at)

pub looping-returns-clause-goes : goal.looping-returns-clause-goes
unfolding rule factored
looping-returns-clause-goes t c = goes_then (c.in_ok-sign.ensures.goes _ (is_loop c.loop_word-found.ensures c.peek-word.ensures.word)) (goes_then c.in_ok-over.ensures.goes (c.in_ok-body.ensures.goes))

pub looping-returns-clause-tree : goal.looping-returns-clause-tree
unfolding rule factored
looping-returns-clause-tree t c = as_stmt c.in_ok-run.ensures (ReadsStmt.loop (c.in_ok-sign.ensures.tree loop_word (c.loop_word-found.ensures ∙ ap (option_and_then loop_word) c.peek-word.ensures.word)) c.in_ok-over.ensures.tree c.in_ok-body.ensures.tree)

pub conditional-returns-in_err-place-clause-goes : goal.conditional-returns-in_err-place-clause-goes
unfolding rule factored
conditional-returns-in_err-place-clause-goes t c = at_exit c.from_residual.result c.from_residual.ensures.1 (goes_first c.in_err-place.ensures.goes)

pub conditional-returns-in_err-test-clause-goes : goal.conditional-returns-in_err-test-clause-goes
unfolding rule factored
conditional-returns-in_err-test-clause-goes t c = at_exit c.from_residual-in_err-test.result c.from_residual-in_err-test.ensures.1 (goes_then c.in_ok-place.ensures.goes (goes_first c.in_err-test.ensures.goes))

pub conditional-returns-in_err-yes-clause-goes : goal.conditional-returns-in_err-yes-clause-goes
unfolding rule factored
conditional-returns-in_err-yes-clause-goes t c = at_exit c.from_residual-in_err-yes.result c.from_residual-in_err-yes.ensures.1 (goes_then c.in_ok-place.ensures.goes (goes_then c.in_ok-test.ensures.goes (goes_first c.in_err-yes.ensures.goes)))

pub conditional-returns-in_err-alone-clause-goes : goal.conditional-returns-in_err-alone-clause-goes
unfolding rule factored
conditional-returns-in_err-alone-clause-goes t c = at_exit c.from_residual-in_err-alone.result c.from_residual-in_err-alone.ensures.1 (goes_nowhere (an_if) c.args.around (words_of c.args.tokens.now) c.args.at)

pub conditional-returns-then-not-next_is-clause-goes : goal.conditional-returns-then-not-next_is-clause-goes
unfolding rule factored
conditional-returns-then-not-next_is-clause-goes t c = goes_then c.in_ok-place.ensures.goes (goes_then c.in_ok-test.ensures.goes (goes_then c.in_ok-yes.ensures.goes (goes_detached (sees c.next_is.ensures c.if-not-next_is.true))))

pub conditional-returns-then-not-next_is-clause-tree : goal.conditional-returns-then-not-next_is-clause-tree
unfolding rule factored
conditional-returns-then-not-next_is-clause-tree t c = as_stmt c.in_ok-alone.ensures (ReadsStmt.if_then c.in_ok-place.ensures.tree c.in_ok-test.ensures.tree c.in_ok-yes.ensures.tree (otherwise c.args.tokens.now c.next_is.ensures c.if-not-next_is.true))

pub conditional-returns-in_err-other-clause-goes : goal.conditional-returns-in_err-other-clause-goes
unfolding rule factored
conditional-returns-in_err-other-clause-goes t c = at_exit c.from_residual-in_err-other.result c.from_residual-in_err-other.ensures.1 (goes_then c.in_ok-place.ensures.goes (goes_then c.in_ok-test.ensures.goes (goes_then c.in_ok-yes.ensures.goes (goes_attached_first (sees c.next_is.ensures c.if-not-next_is.false) c.in_err-other.ensures.goes))))

pub conditional-returns-in_err-no-clause-goes : goal.conditional-returns-in_err-no-clause-goes
unfolding rule factored
conditional-returns-in_err-no-clause-goes t c = at_exit c.from_residual-in_err-no.result c.from_residual-in_err-no.ensures.1 (goes_then c.in_ok-place.ensures.goes (goes_then c.in_ok-test.ensures.goes (goes_then c.in_ok-yes.ensures.goes (goes_attached (sees c.next_is.ensures c.if-not-next_is.false) c.in_ok-other.ensures.goes c.in_err-no.ensures.goes))))

pub conditional-returns-in_err-decided-clause-goes : goal.conditional-returns-in_err-decided-clause-goes
unfolding rule factored
conditional-returns-in_err-decided-clause-goes t c = at_exit c.from_residual-in_err-decided.result c.from_residual-in_err-decided.ensures.1 (goes_nowhere (an_if) c.args.around (words_of c.args.tokens.now) c.args.at)

pub conditional-returns-clause-goes : goal.conditional-returns-clause-goes
unfolding rule factored
conditional-returns-clause-goes t c = goes_then c.in_ok-place.ensures.goes (goes_then c.in_ok-test.ensures.goes (goes_then c.in_ok-yes.ensures.goes (goes_attached (sees c.next_is.ensures c.if-not-next_is.false) c.in_ok-other.ensures.goes c.in_ok-no.ensures.goes)))

pub conditional-returns-clause-tree : goal.conditional-returns-clause-tree
unfolding rule factored
conditional-returns-clause-tree t c = as_stmt c.in_ok-decided.ensures (ReadsStmt.if_else c.in_ok-place.ensures.tree c.in_ok-test.ensures.tree c.in_ok-yes.ensures.tree c.in_ok-other.ensures.tree c.in_ok-no.ensures.tree)

pub whiling-returns-in_err-place-clause-goes : goal.whiling-returns-in_err-place-clause-goes
unfolding rule factored
whiling-returns-in_err-place-clause-goes t c = at_exit c.from_residual.result c.from_residual.ensures.1 (goes_first c.in_err-place.ensures.goes)

pub whiling-returns-in_err-test-clause-goes : goal.whiling-returns-in_err-test-clause-goes
unfolding rule factored
whiling-returns-in_err-test-clause-goes t c = at_exit c.from_residual-in_err-test.result c.from_residual-in_err-test.ensures.1 (goes_then c.in_ok-place.ensures.goes (goes_first c.in_err-test.ensures.goes))

pub whiling-returns-in_err-body-clause-goes : goal.whiling-returns-in_err-body-clause-goes
unfolding rule factored
whiling-returns-in_err-body-clause-goes t c = at_exit c.from_residual-in_err-body.result c.from_residual-in_err-body.ensures.1 (goes_then c.in_ok-place.ensures.goes (goes_then c.in_ok-test.ensures.goes (c.in_err-body.ensures.goes)))

pub whiling-returns-in_err-repeated-clause-goes : goal.whiling-returns-in_err-repeated-clause-goes
unfolding rule factored
whiling-returns-in_err-repeated-clause-goes t c = at_exit c.from_residual-in_err-repeated.result c.from_residual-in_err-repeated.ensures.1 (goes_nowhere (a_while) c.args.around (words_of c.args.tokens.now) c.args.at)

pub whiling-returns-clause-goes : goal.whiling-returns-clause-goes
unfolding rule factored
whiling-returns-clause-goes t c = goes_then c.in_ok-place.ensures.goes (goes_then c.in_ok-test.ensures.goes (c.in_ok-body.ensures.goes))

pub whiling-returns-clause-tree : goal.whiling-returns-clause-tree
unfolding rule factored
whiling-returns-clause-tree t c = as_stmt c.in_ok-repeated.ensures (ReadsStmt.while c.in_ok-place.ensures.tree c.in_ok-test.ensures.tree c.in_ok-body.ensures.tree)

pub doing-returns-in_err-place-clause-goes : goal.doing-returns-in_err-place-clause-goes
unfolding rule factored
doing-returns-in_err-place-clause-goes t c = at_exit c.from_residual.result c.from_residual.ensures.1 (goes_first c.in_err-place.ensures.goes)

pub doing-returns-in_err-body-clause-goes : goal.doing-returns-in_err-body-clause-goes
unfolding rule factored
doing-returns-in_err-body-clause-goes t c = at_exit c.from_residual-in_err-body.result c.from_residual-in_err-body.ensures.1 (goes_then c.in_ok-place.ensures.goes (goes_first c.in_err-body.ensures.goes))

pub doing-returns-in_err-keyword-clause-goes : goal.doing-returns-in_err-keyword-clause-goes
unfolding rule factored
doing-returns-in_err-keyword-clause-goes t c = at_exit c.from_residual-in_err-keyword.result c.from_residual-in_err-keyword.ensures.1 (goes_then c.in_ok-place.ensures.goes (goes_then c.in_ok-body.ensures.goes (goes_first c.in_err-keyword.ensures.goes)))

pub doing-returns-in_err-test-clause-goes : goal.doing-returns-in_err-test-clause-goes
unfolding rule factored
doing-returns-in_err-test-clause-goes t c = at_exit c.from_residual-in_err-test.result c.from_residual-in_err-test.ensures.1 (goes_then c.in_ok-place.ensures.goes (goes_then c.in_ok-body.ensures.goes (goes_then c.in_ok-keyword.ensures.goes (goes_first c.in_err-test.ensures.goes))))

pub doing-returns-in_err-last-clause-goes : goal.doing-returns-in_err-last-clause-goes
unfolding rule factored
doing-returns-in_err-last-clause-goes t c = at_exit c.from_residual-in_err-last.result c.from_residual-in_err-last.ensures.1 (goes_then c.in_ok-place.ensures.goes (goes_then c.in_ok-body.ensures.goes (goes_then c.in_ok-keyword.ensures.goes (goes_then c.in_ok-test.ensures.goes (c.in_err-last.ensures.goes)))))

pub doing-returns-in_err-done-clause-goes : goal.doing-returns-in_err-done-clause-goes
unfolding rule factored
doing-returns-in_err-done-clause-goes t c = at_exit c.from_residual-in_err-done.result c.from_residual-in_err-done.ensures.1 (goes_nowhere (a_do) c.args.around (words_of c.args.tokens.now) c.args.at)

pub doing-returns-clause-goes : goal.doing-returns-clause-goes
unfolding rule factored
doing-returns-clause-goes t c = goes_then c.in_ok-place.ensures.goes (goes_then c.in_ok-body.ensures.goes (goes_then c.in_ok-keyword.ensures.goes (goes_then c.in_ok-test.ensures.goes (c.in_ok-last.ensures.goes))))

pub doing-returns-clause-tree : goal.doing-returns-clause-tree
unfolding rule factored
doing-returns-clause-tree t c = as_stmt c.in_ok-done.ensures (ReadsStmt.do_while c.in_ok-place.ensures.tree c.in_ok-body.ensures.tree c.in_ok-keyword.ensures.tree c.in_ok-test.ensures.tree c.in_ok-last.ensures.tree)

pub searching-returns-in_err-place-clause-goes : goal.searching-returns-in_err-place-clause-goes
unfolding rule factored
searching-returns-in_err-place-clause-goes t c = at_exit c.from_residual.result c.from_residual.ensures.1 (goes_first c.in_err-place.ensures.goes)

pub searching-returns-in_err-over-clause-goes : goal.searching-returns-in_err-over-clause-goes
unfolding rule factored
searching-returns-in_err-over-clause-goes t c = at_exit c.from_residual-in_err-over.result c.from_residual-in_err-over.ensures.1 (goes_then c.in_ok-place.ensures.goes (goes_first c.in_err-over.ensures.goes))

pub searching-returns-in_err-body-clause-goes : goal.searching-returns-in_err-body-clause-goes
unfolding rule factored
searching-returns-in_err-body-clause-goes t c = at_exit c.from_residual-in_err-body.result c.from_residual-in_err-body.ensures.1 (goes_then c.in_ok-place.ensures.goes (goes_then c.in_ok-over.ensures.goes (goes_first c.in_err-body.ensures.goes)))

pub searching-returns-in_err-out-clause-goes : goal.searching-returns-in_err-out-clause-goes
unfolding rule factored
searching-returns-in_err-out-clause-goes t c = at_exit c.from_residual-in_err-out.result c.from_residual-in_err-out.ensures.1 (goes_nowhere (a_search) c.args.around (words_of c.args.tokens.now) c.args.at)

pub searching-returns-then-not-next_is-clause-goes : goal.searching-returns-then-not-next_is-clause-goes
unfolding rule factored
searching-returns-then-not-next_is-clause-goes t c = goes_then c.in_ok-place.ensures.goes (goes_then c.in_ok-over.ensures.goes (goes_then c.in_ok-body.ensures.goes (goes_absent (sees_reverse c.next_is.ensures c.if-not-next_is.true))))

pub searching-returns-then-not-next_is-clause-tree : goal.searching-returns-then-not-next_is-clause-tree
unfolding rule factored
searching-returns-then-not-next_is-clause-tree t c = as_stmt c.in_ok-out.ensures (ReadsStmt.breadth c.in_ok-place.ensures.tree c.in_ok-over.ensures.tree c.in_ok-body.ensures.tree (otherwise c.args.tokens.now c.next_is.ensures c.if-not-next_is.true))

pub searching-returns-in_err-back-clause-goes : goal.searching-returns-in_err-back-clause-goes
unfolding rule factored
searching-returns-in_err-back-clause-goes t c = at_exit c.from_residual-in_err-back.result c.from_residual-in_err-back.ensures.1 (goes_then c.in_ok-place.ensures.goes (goes_then c.in_ok-over.ensures.goes (goes_then c.in_ok-body.ensures.goes (goes_present (sees_reverse c.next_is.ensures c.if-not-next_is.false) (c.in_err-back.ensures.goes)))))

pub searching-returns-in_err-both-clause-goes : goal.searching-returns-in_err-both-clause-goes
unfolding rule factored
searching-returns-in_err-both-clause-goes t c = at_exit c.from_residual-in_err-both.result c.from_residual-in_err-both.ensures.1 (goes_nowhere (a_search) c.args.around (words_of c.args.tokens.now) c.args.at)

pub searching-returns-clause-goes : goal.searching-returns-clause-goes
unfolding rule factored
searching-returns-clause-goes t c = goes_then c.in_ok-place.ensures.goes (goes_then c.in_ok-over.ensures.goes (goes_then c.in_ok-body.ensures.goes (goes_present (sees_reverse c.next_is.ensures c.if-not-next_is.false) (c.in_ok-back.ensures.goes))))

pub searching-returns-clause-tree : goal.searching-returns-clause-tree
unfolding rule factored
searching-returns-clause-tree t c = as_stmt c.in_ok-both.ensures (ReadsStmt.breadth_both c.in_ok-place.ensures.tree c.in_ok-over.ensures.tree c.in_ok-body.ensures.tree c.in_ok-back.ensures.tree)

pub reverse-returns-in_err-place-clause-goes : goal.reverse-returns-in_err-place-clause-goes
unfolding rule factored
reverse-returns-in_err-place-clause-goes t c = at_exit c.from_residual.result c.from_residual.ensures.1 (goes_part Reverse (goes_first c.in_err-place.ensures.goes))

pub reverse-returns-in_err-test-clause-goes : goal.reverse-returns-in_err-test-clause-goes
unfolding rule factored
reverse-returns-in_err-test-clause-goes t c = at_exit c.from_residual-in_err-test.result c.from_residual-in_err-test.ensures.1 (goes_part Reverse (goes_then c.in_ok-place.ensures.goes (goes_first c.in_err-test.ensures.goes)))

pub reverse-returns-in_err-body-clause-goes : goal.reverse-returns-in_err-body-clause-goes
unfolding rule factored
reverse-returns-in_err-body-clause-goes t c = at_exit c.from_residual-in_err-body.result c.from_residual-in_err-body.ensures.1 (goes_part Reverse (goes_then c.in_ok-place.ensures.goes (goes_then c.in_ok-test.ensures.goes (c.in_err-body.ensures.goes))))

pub reverse-returns-clause-goes : goal.reverse-returns-clause-goes
unfolding rule factored
reverse-returns-clause-goes t c = goes_part Reverse (goes_then c.in_ok-place.ensures.goes (goes_then c.in_ok-test.ensures.goes (c.in_ok-body.ensures.goes)))

pub reverse-returns-clause-tree : goal.reverse-returns-clause-tree
unfolding rule factored
reverse-returns-clause-tree t c = ReadsReverse.reverse c.in_ok-place.ensures.tree c.in_ok-test.ensures.tree c.in_ok-body.ensures.tree
