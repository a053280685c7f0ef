use Rattle.std.proofs.Common.{is_some, refl, sym, ap, ◌∙◌, arith}
use Rattle.std.specs.Option.{option_and_then}
use Rattle.gm_token.specs.Tokens.{words_of}
use Rattle.gm_parse.specs.declared.levels.Level.TheVariants as levels
use Rattle.gm_parse.specs.Grammar.{Condition, Expression, Unary, Reduction, Head, Braces, InExpression, Of, ◌▸◌, Maybe, Many, test_sign, a_choice, rule}
use Rattle.gm_parse.specs.Factored.{factored, in_parentheses}
use Rattle.gm_parse.specs.Levels.{operand_of, signs_of}
use Rattle.gm_parse.specs.Choices.{cast_type, value_reduction, test_reduction, infix_of}
use Rattle.gm_parse.specs.Trees.{ReadsTree, ReadsCondition, ReadsFilter, ReadsBraces, ReadsHead}
use Rattle.gm_parse.proofs.Paths.{at_exit, goes_absent, goes_first, goes_left, goes_more, goes_more_first, goes_nowhere, goes_part, goes_present, goes_right, goes_stop, goes_then, goes_within, sees, sees_then}
use Rattle.gm_parse.proofs.ChoiceLaws.{is_cast, is_value, is_test, is_infix, sees_chosen, goes_inf, no_tighter, tighter_operand, goes_row, goes_operand}
use Rattle.gm_parse.proofs.TreeLaws.{as_tree, as_around, otherwise}
use Rattle.gm_parse.proofs.expressions.+expression.Goals as goal
use Rattle.gm_ast.proofs.SurfaceTrees.{expr_of-Least, expr_of-Greatest}
use Rattle.gm_parse.proofs.LevelLaws.{goes_tight_first, goes_relation, not_relation, as_part, as_relation, of_relation, sees_braces, sees_condition}

pub operand-returns-in_err-first-clause-goes : goal.operand-returns-in_err-first-clause-goes
unfolding rule factored
operand-returns-in_err-first-clause-goes t c = at_exit c.from_residual.result c.from_residual.ensures.1 (goes_operand (no_tighter c.args.level (sym c.tighter.ensures ∙ c.in_default.is)) c.in_err-first.ensures.goes)

pub operand-returns-in_err-left-clause-goes : goal.operand-returns-in_err-left-clause-goes
unfolding rule factored
operand-returns-in_err-left-clause-goes t c = at_exit c.from_residual-in_err-left.result c.from_residual-in_err-left.ensures.1 (goes_operand (tighter_operand c.args.level c.in-Some.tighter (sym c.tighter.ensures ∙ c.in-Some.is)) (goes_tight_first c.in-Some.tighter c.in_err-left.ensures.goes))

pub operand-returns-in_err-compared-clause-goes : goal.operand-returns-in_err-compared-clause-goes
unfolding rule factored
operand-returns-in_err-compared-clause-goes t c = at_exit c.from_residual-in_err-compared.result c.from_residual-in_err-compared.ensures.1 (goes_operand (tighter_operand c.args.level c.in-Some.tighter (sym c.tighter.ensures ∙ c.in-Some.is)) (goes_relation (c.is_relation.ensures.0 c.if-is_relation.true) c.in_ok-left.ensures.goes c.in_err-compared.ensures.goes))

pub operand-returns-in_ok-compared-clause-goes : goal.operand-returns-in_ok-compared-clause-goes
unfolding rule factored
operand-returns-in_ok-compared-clause-goes t c = goes_operand (tighter_operand c.args.level c.in-Some.tighter (sym c.tighter.ensures ∙ c.in-Some.is)) (goes_relation (c.is_relation.ensures.0 c.if-is_relation.true) c.in_ok-left.ensures.goes c.in_ok-compared.ensures.goes)

pub operand-returns-in_err-joined-clause-goes : goal.operand-returns-in_err-joined-clause-goes
unfolding rule factored
operand-returns-in_err-joined-clause-goes t c = at_exit c.from_residual-in_err-joined.result c.from_residual-in_err-joined.ensures.1 (goes_operand (tighter_operand c.args.level c.in-Some.tighter (sym c.tighter.ensures ∙ c.in-Some.is)) (goes_row c.in-Some.tighter (not_relation c.is_relation.ensures c.if-is_relation.false) (goes_then c.in_ok-left.ensures.goes c.in_err-joined.ensures.goes)))

pub operand-returns-in_ok-joined-clause-goes : goal.operand-returns-in_ok-joined-clause-goes
unfolding rule factored
operand-returns-in_ok-joined-clause-goes t c = goes_operand (tighter_operand c.args.level c.in-Some.tighter (sym c.tighter.ensures ∙ c.in-Some.is)) (goes_row c.in-Some.tighter (not_relation c.is_relation.ensures c.if-is_relation.false) (goes_then c.in_ok-left.ensures.goes c.in_ok-joined.ensures.goes))

pub operand-returns-in_ok-compared-clause-tree : goal.operand-returns-in_ok-compared-clause-tree
unfolding rule factored
operand-returns-in_ok-compared-clause-tree t c = as_part (tighter_operand c.args.level c.in-Some.tighter (sym c.tighter.ensures ∙ c.in-Some.is)) (as_relation (c.is_relation.ensures.0 c.if-is_relation.true) (c.in_ok-compared.ensures.tree _ (of_relation (c.is_relation.ensures.0 c.if-is_relation.true) c.in_ok-left.ensures.tree)))

pub operand-returns-in_ok-joined-clause-tree : goal.operand-returns-in_ok-joined-clause-tree
unfolding rule factored
operand-returns-in_ok-joined-clause-tree t c = as_part (tighter_operand c.args.level c.in-Some.tighter (sym c.tighter.ensures ∙ c.in-Some.is)) (c.in_ok-joined.ensures.tree _ c.in_ok-left.ensures.tree)

pub row_rest-returns-in_err-sign-clause-goes : goal.row_rest-returns-in_err-sign-clause-goes
unfolding rule factored
row_rest-returns-in_err-sign-clause-goes t c = at_exit c.from_residual.result c.from_residual.ensures.1 (c.row.invariant.goes _ (goes_more_first (sees_chosen _ (is_infix c.args.level (sym c.in-Some.is ∙ c.infix_of.ensures) c.peek.ensures.word) refl) (goes_first (c.in_err-sign.ensures.goes _ (is_infix c.args.level (sym c.in-Some.is ∙ c.infix_of.ensures) c.peek.ensures.word)))))

pub row_rest-returns-in_err-right-clause-goes : goal.row_rest-returns-in_err-right-clause-goes
unfolding rule factored
row_rest-returns-in_err-right-clause-goes t c = at_exit c.from_residual-in_err-right.result c.from_residual-in_err-right.ensures.1 (c.row.invariant.goes _ (goes_more_first (sees_chosen _ (is_infix c.args.level (sym c.in-Some.is ∙ c.infix_of.ensures) c.peek.ensures.word) refl) (goes_then (c.in_ok-sign.ensures.goes _ (is_infix c.args.level (sym c.in-Some.is ∙ c.infix_of.ensures) c.peek.ensures.word)) c.in_err-right.ensures.goes)))

pub row_rest-returns-in_err-left-clause-goes : goal.row_rest-returns-in_err-left-clause-goes
unfolding rule factored
row_rest-returns-in_err-left-clause-goes t c = at_exit c.from_residual-in_err-left.result c.from_residual-in_err-left.ensures.1 (goes_nowhere (Many (signs_of c.args.level ▸ Of (operand_of c.args.level))) c.args.around (words_of c.args.tokens.now) c.args.at)

pub row_rest-row-init : goal.row_rest-row-init
unfolding rule factored
row_rest-row-init t c = record { goes = λ r h. h; tree = λ us h. ReadsTree.operand c.args.level h; begun = omega arith; in_text = c.requires.begun.1 }

pub row_rest-row-preserved : goal.row_rest-row-preserved
unfolding rule factored
row_rest-row-preserved t c = record { goes = λ r h. c.row.invariant.goes r (goes_more (sees_chosen _ (is_infix c.args.level (sym c.in-Some.is ∙ c.infix_of.ensures) c.peek.ensures.word) refl) (goes_then (c.in_ok-sign.ensures.goes _ (is_infix c.args.level (sym c.in-Some.is ∙ c.infix_of.ensures) c.peek.ensures.word)) c.in_ok-right.ensures.goes) h); tree = λ us h. as_tree c.in_ok-left.ensures (ReadsTree.row c.args.level c.requires.row (c.row.invariant.tree us h) (c.in_ok-sign.ensures.tree (infix_of c.args.level) (sym c.in-Some.is ∙ c.infix_of.ensures ∙ ap (option_and_then (infix_of c.args.level)) c.peek.ensures.word)) c.in_ok-right.ensures.tree); begun = omega (arith, c.in_ok-sign.ensures.next.0, c.in_ok-right.ensures.next.0, c.row.invariant.begun); in_text = c.in_ok-right.ensures.next.1 }

pub row_rest-returns-clause-goes : goal.row_rest-returns-clause-goes
unfolding rule factored
row_rest-returns-clause-goes t c = c.row.invariant.goes _ (goes_stop (sees_chosen _ (is_infix c.args.level c.infix_of.ensures c.peek.ensures.word) (ap is_some c.in_default.is)))

pub row_rest-returns-clause-tree : goal.row_rest-returns-clause-tree
unfolding rule factored
row_rest-returns-clause-tree t c = λ us h. c.row.invariant.tree us h

pub relation_rest-returns-in_default-clause-goes : goal.relation_rest-returns-in_default-clause-goes
unfolding rule factored
relation_rest-returns-in_default-clause-goes t c = goes_absent (sees_chosen _ (is_infix levels.Relation c.infix_of-found.ensures c.peek-word.ensures.word) (ap is_some c.in_default.is))

pub relation_rest-returns-in_default-clause-tree : goal.relation_rest-returns-in_default-clause-tree
unfolding rule factored
relation_rest-returns-in_default-clause-tree t c = λ us h. ReadsTree.operand levels.Relation h

pub relation_rest-returns-in_err-sign-clause-goes : goal.relation_rest-returns-in_err-sign-clause-goes
unfolding rule factored
relation_rest-returns-in_err-sign-clause-goes t c = at_exit c.from_residual.result c.from_residual.ensures.1 (goes_present (sees_chosen _ (is_infix levels.Relation (sym c.in-Some.is ∙ c.infix_of-found.ensures) c.peek-word.ensures.word) refl) (goes_first (c.in_err-sign.ensures.goes _ (is_infix levels.Relation (sym c.in-Some.is ∙ c.infix_of-found.ensures) c.peek-word.ensures.word))))

pub relation_rest-returns-in_err-right-clause-goes : goal.relation_rest-returns-in_err-right-clause-goes
unfolding rule factored
relation_rest-returns-in_err-right-clause-goes t c = at_exit c.from_residual-in_err-right.result c.from_residual-in_err-right.ensures.1 (goes_present (sees_chosen _ (is_infix levels.Relation (sym c.in-Some.is ∙ c.infix_of-found.ensures) c.peek-word.ensures.word) refl) (goes_then (c.in_ok-sign.ensures.goes _ (is_infix levels.Relation (sym c.in-Some.is ∙ c.infix_of-found.ensures) c.peek-word.ensures.word)) c.in_err-right.ensures.goes))

pub relation_rest-returns-in_err-compared-clause-goes : goal.relation_rest-returns-in_err-compared-clause-goes
unfolding rule factored
relation_rest-returns-in_err-compared-clause-goes t c = at_exit c.from_residual-in_err-compared.result c.from_residual-in_err-compared.ensures.1 (goes_nowhere (Maybe (signs_of levels.Relation ▸ Of (operand_of levels.Relation))) c.args.around (words_of c.args.tokens.now) c.args.at)

pub relation_rest-returns-clause-goes : goal.relation_rest-returns-clause-goes
unfolding rule factored
relation_rest-returns-clause-goes t c = goes_present (sees_chosen _ (is_infix levels.Relation (sym c.in-Some.is ∙ c.infix_of-found.ensures) c.peek-word.ensures.word) refl) (goes_then (c.in_ok-sign.ensures.goes _ (is_infix levels.Relation (sym c.in-Some.is ∙ c.infix_of-found.ensures) c.peek-word.ensures.word)) c.in_ok-right.ensures.goes)

pub relation_rest-returns-clause-tree : goal.relation_rest-returns-clause-tree
unfolding rule factored
relation_rest-returns-clause-tree t c = λ us h. as_tree c.in_ok-compared.ensures (ReadsTree.comparison h (c.in_ok-sign.ensures.tree (infix_of levels.Relation) (sym c.in-Some.is ∙ c.infix_of-found.ensures ∙ ap (option_and_then (infix_of levels.Relation)) c.peek-word.ensures.word)) c.in_ok-right.ensures.tree)

pub unary-returns-in_err-bang-clause-goes : goal.unary-returns-in_err-bang-clause-goes
unfolding rule factored
unary-returns-in_err-bang-clause-goes t c = at_exit c.from_residual.result c.from_residual.ensures.1 (goes_part Unary (goes_left (sees_then c.next_is.ensures c.if-next_is.true) (goes_first c.in_err-bang.ensures.goes)))

pub unary-returns-in_err-negated-clause-goes : goal.unary-returns-in_err-negated-clause-goes
unfolding rule factored
unary-returns-in_err-negated-clause-goes t c = at_exit c.from_residual-in_err-negated.result c.from_residual-in_err-negated.ensures.1 (goes_part Unary (goes_left (sees_then c.next_is.ensures c.if-next_is.true) (goes_then c.in_ok-bang.ensures.goes (c.in_err-negated.ensures.goes))))

pub unary-returns-in_err-negation-clause-goes : goal.unary-returns-in_err-negation-clause-goes
unfolding rule factored
unary-returns-in_err-negation-clause-goes t c = at_exit c.from_residual-in_err-negation.result c.from_residual-in_err-negation.ensures.1 (goes_nowhere (Of Unary) c.args.around (words_of c.args.tokens.now) c.args.at)

pub unary-returns-in_ok-negation-clause-goes : goal.unary-returns-in_ok-negation-clause-goes
unfolding rule factored
unary-returns-in_ok-negation-clause-goes t c = goes_part Unary (goes_left (sees_then c.next_is.ensures c.if-next_is.true) (goes_then c.in_ok-bang.ensures.goes (c.in_ok-negated.ensures.goes)))

pub unary-returns-in_ok-negation-clause-tree : goal.unary-returns-in_ok-negation-clause-tree
unfolding rule factored
unary-returns-in_ok-negation-clause-tree t c = as_tree c.in_ok-negation.ensures (ReadsTree.negation c.in_ok-bang.ensures.tree c.in_ok-negated.ensures.tree)

pub unary-returns-in_err-minus-clause-goes : goal.unary-returns-in_err-minus-clause-goes
unfolding rule factored
unary-returns-in_err-minus-clause-goes t c = at_exit c.from_residual-in_err-minus.result c.from_residual-in_err-minus.ensures.1 (goes_part Unary (goes_right (sees_then c.next_is.ensures c.if-next_is.false) (goes_left (sees_then c.next_is-else-next_is.ensures c.if-next_is-2.true) (goes_first c.in_err-minus.ensures.goes))))

pub unary-returns-in_err-least-clause-goes : goal.unary-returns-in_err-least-clause-goes
unfolding rule factored
unary-returns-in_err-least-clause-goes t c = at_exit c.from_residual-in_err-least.result c.from_residual-in_err-least.ensures.1 (goes_part Unary (goes_right (sees_then c.next_is.ensures c.if-next_is.false) (goes_left (sees_then c.next_is-else-next_is.ensures c.if-next_is-2.true) (goes_then c.in_ok-minus.ensures.goes (goes_inf c.next_is_inf.ensures c.if-next_is_inf.true c.in_err-least.ensures.goes)))))

pub unary-returns-then-next_is_inf-clause-goes : goal.unary-returns-then-next_is_inf-clause-goes
unfolding rule factored
unary-returns-then-next_is_inf-clause-goes t c = goes_part Unary (goes_right (sees_then c.next_is.ensures c.if-next_is.false) (goes_left (sees_then c.next_is-else-next_is.ensures c.if-next_is-2.true) (goes_then c.in_ok-minus.ensures.goes (goes_inf c.next_is_inf.ensures c.if-next_is_inf.true c.in_ok-least.ensures.goes))))

pub unary-returns-then-next_is_inf-clause-tree : goal.unary-returns-then-next_is_inf-clause-tree
unfolding rule factored
unary-returns-then-next_is_inf-clause-tree t c = as_tree (expr_of-Least _) (ReadsTree.least c.in_ok-minus.ensures.tree c.in_ok-least.ensures.tree)

pub unary-returns-in_err-opposed-clause-goes : goal.unary-returns-in_err-opposed-clause-goes
unfolding rule factored
unary-returns-in_err-opposed-clause-goes t c = at_exit c.from_residual-in_err-opposed.result c.from_residual-in_err-opposed.ensures.1 (goes_part Unary (goes_right (sees_then c.next_is.ensures c.if-next_is.false) (goes_left (sees_then c.next_is-else-next_is.ensures c.if-next_is-2.true) (goes_then c.in_ok-minus.ensures.goes (c.in_err-opposed.ensures.goes)))))

pub unary-returns-in_err-opposite-clause-goes : goal.unary-returns-in_err-opposite-clause-goes
unfolding rule factored
unary-returns-in_err-opposite-clause-goes t c = at_exit c.from_residual-in_err-opposite.result c.from_residual-in_err-opposite.ensures.1 (goes_nowhere (Of Unary) c.args.around (words_of c.args.tokens.now) c.args.at)

pub unary-returns-in_ok-opposite-clause-goes : goal.unary-returns-in_ok-opposite-clause-goes
unfolding rule factored
unary-returns-in_ok-opposite-clause-goes t c = goes_part Unary (goes_right (sees_then c.next_is.ensures c.if-next_is.false) (goes_left (sees_then c.next_is-else-next_is.ensures c.if-next_is-2.true) (goes_then c.in_ok-minus.ensures.goes (c.in_ok-opposed.ensures.goes))))

pub unary-returns-in_ok-opposite-clause-tree : goal.unary-returns-in_ok-opposite-clause-tree
unfolding rule factored
unary-returns-in_ok-opposite-clause-tree t c = as_tree c.in_ok-opposite.ensures (ReadsTree.minus c.in_ok-minus.ensures.tree (otherwise c.args.tokens.now c.next_is_inf.ensures c.if-next_is_inf.false) c.in_ok-opposed.ensures.tree)

pub unary-returns-in_err-plus-clause-goes : goal.unary-returns-in_err-plus-clause-goes
unfolding rule factored
unary-returns-in_err-plus-clause-goes t c = at_exit c.from_residual-in_err-plus.result c.from_residual-in_err-plus.ensures.1 (goes_part Unary (goes_right (sees_then c.next_is.ensures c.if-next_is.false) (goes_right (sees_then c.next_is-else-next_is.ensures c.if-next_is-2.false) (goes_left (sees_then c.next_is-else-next_is-2.ensures c.if-next_is-3.true) (goes_first c.in_err-plus.ensures.goes)))))

pub unary-returns-in_err-greatest-clause-goes : goal.unary-returns-in_err-greatest-clause-goes
unfolding rule factored
unary-returns-in_err-greatest-clause-goes t c = at_exit c.from_residual-in_err-greatest.result c.from_residual-in_err-greatest.ensures.1 (goes_part Unary (goes_right (sees_then c.next_is.ensures c.if-next_is.false) (goes_right (sees_then c.next_is-else-next_is.ensures c.if-next_is-2.false) (goes_left (sees_then c.next_is-else-next_is-2.ensures c.if-next_is-3.true) (goes_then c.in_ok-plus.ensures.goes (c.in_err-greatest.ensures.goes))))))

pub unary-returns-in_ok-greatest-clause-goes : goal.unary-returns-in_ok-greatest-clause-goes
unfolding rule factored
unary-returns-in_ok-greatest-clause-goes t c = goes_part Unary (goes_right (sees_then c.next_is.ensures c.if-next_is.false) (goes_right (sees_then c.next_is-else-next_is.ensures c.if-next_is-2.false) (goes_left (sees_then c.next_is-else-next_is-2.ensures c.if-next_is-3.true) (goes_then c.in_ok-plus.ensures.goes (c.in_ok-greatest.ensures.goes)))))

pub unary-returns-in_ok-greatest-clause-tree : goal.unary-returns-in_ok-greatest-clause-tree
unfolding rule factored
unary-returns-in_ok-greatest-clause-tree t c = as_tree (expr_of-Greatest _) (ReadsTree.plus c.in_ok-plus.ensures.tree c.in_ok-greatest.ensures.tree)

pub unary-returns-in_err-enclosed-clause-goes : goal.unary-returns-in_err-enclosed-clause-goes
unfolding rule factored
unary-returns-in_err-enclosed-clause-goes t c = at_exit c.from_residual-in_err-enclosed.result c.from_residual-in_err-enclosed.ensures.1 (goes_part Unary (goes_right (sees_then c.next_is.ensures c.if-next_is.false) (goes_right (sees_then c.next_is-else-next_is.ensures c.if-next_is-2.false) (goes_right (sees_then c.next_is-else-next_is-2.ensures c.if-next_is-3.false) (goes_left (sees_then c.next_is-else-next_is-3.ensures c.if-next_is-4.true) (c.in_err-enclosed.ensures.goes))))))

pub unary-returns-in_ok-enclosed-clause-goes : goal.unary-returns-in_ok-enclosed-clause-goes
unfolding rule factored
unary-returns-in_ok-enclosed-clause-goes t c = goes_part Unary (goes_right (sees_then c.next_is.ensures c.if-next_is.false) (goes_right (sees_then c.next_is-else-next_is.ensures c.if-next_is-2.false) (goes_right (sees_then c.next_is-else-next_is-2.ensures c.if-next_is-3.false) (goes_left (sees_then c.next_is-else-next_is-3.ensures c.if-next_is-4.true) (c.in_ok-enclosed.ensures.goes)))))

pub unary-returns-in_err-reduced-clause-goes : goal.unary-returns-in_err-reduced-clause-goes
unfolding rule factored
unary-returns-in_err-reduced-clause-goes t c = at_exit c.from_residual-in_err-reduced.result c.from_residual-in_err-reduced.ensures.1 (goes_part Unary (goes_right (sees_then c.next_is.ensures c.if-next_is.false) (goes_right (sees_then c.next_is-else-next_is.ensures c.if-next_is-2.false) (goes_right (sees_then c.next_is-else-next_is-2.ensures c.if-next_is-3.false) (goes_right (sees_then c.next_is-else-next_is-3.ensures c.if-next_is-4.false) (goes_left (sees c.next_is_reduction.ensures c.if-next_is_reduction.true) (c.in_err-reduced.ensures.goes)))))))

pub unary-returns-in_ok-reduced-clause-goes : goal.unary-returns-in_ok-reduced-clause-goes
unfolding rule factored
unary-returns-in_ok-reduced-clause-goes t c = goes_part Unary (goes_right (sees_then c.next_is.ensures c.if-next_is.false) (goes_right (sees_then c.next_is-else-next_is.ensures c.if-next_is-2.false) (goes_right (sees_then c.next_is-else-next_is-2.ensures c.if-next_is-3.false) (goes_right (sees_then c.next_is-else-next_is-3.ensures c.if-next_is-4.false) (goes_left (sees c.next_is_reduction.ensures c.if-next_is_reduction.true) (c.in_ok-reduced.ensures.goes))))))

pub unary-returns-in_ok-reduced-clause-tree : goal.unary-returns-in_ok-reduced-clause-tree
unfolding rule factored
unary-returns-in_ok-reduced-clause-tree t c = ReadsTree.primary c.in_ok-reduced.ensures.tree

pub unary-returns-in_err-simple-clause-goes : goal.unary-returns-in_err-simple-clause-goes
unfolding rule factored
unary-returns-in_err-simple-clause-goes t c = at_exit c.from_residual-in_err-simple.result c.from_residual-in_err-simple.ensures.1 (goes_part Unary (goes_right (sees_then c.next_is.ensures c.if-next_is.false) (goes_right (sees_then c.next_is-else-next_is.ensures c.if-next_is-2.false) (goes_right (sees_then c.next_is-else-next_is-2.ensures c.if-next_is-3.false) (goes_right (sees_then c.next_is-else-next_is-3.ensures c.if-next_is-4.false) (goes_right (sees c.next_is_reduction.ensures c.if-next_is_reduction.false) (c.in_err-simple.ensures.goes)))))))

pub unary-returns-in_ok-simple-clause-goes : goal.unary-returns-in_ok-simple-clause-goes
unfolding rule factored
unary-returns-in_ok-simple-clause-goes t c = goes_part Unary (goes_right (sees_then c.next_is.ensures c.if-next_is.false) (goes_right (sees_then c.next_is-else-next_is.ensures c.if-next_is-2.false) (goes_right (sees_then c.next_is-else-next_is-2.ensures c.if-next_is-3.false) (goes_right (sees_then c.next_is-else-next_is-3.ensures c.if-next_is-4.false) (goes_right (sees c.next_is_reduction.ensures c.if-next_is_reduction.false) (c.in_ok-simple.ensures.goes))))))

pub unary-returns-in_ok-simple-clause-tree : goal.unary-returns-in_ok-simple-clause-tree
unfolding rule factored
unary-returns-in_ok-simple-clause-tree t c = ReadsTree.primary c.in_ok-simple.ensures.tree

pub parenthesized-returns-in_err-open-clause-goes : goal.parenthesized-returns-in_err-open-clause-goes
unfolding rule factored
parenthesized-returns-in_err-open-clause-goes t c = at_exit c.from_residual.result c.from_residual.ensures.1 (goes_first c.in_err-open.ensures.goes)

pub parenthesized-returns-in_err-enclosed-clause-goes : goal.parenthesized-returns-in_err-enclosed-clause-goes
unfolding rule factored
parenthesized-returns-in_err-enclosed-clause-goes t c = at_exit c.from_residual-in_err-enclosed.result c.from_residual-in_err-enclosed.ensures.1 (goes_then c.in_ok-open.ensures.goes (goes_right (sees_chosen _ (is_cast c.cast_type-found.ensures c.peek-word.ensures.word) (ap is_some c.in_default.is)) (goes_first c.in_err-enclosed.ensures.goes)))

pub parenthesized-returns-in_err-last-clause-goes : goal.parenthesized-returns-in_err-last-clause-goes
unfolding rule factored
parenthesized-returns-in_err-last-clause-goes t c = at_exit c.from_residual-in_err-last.result c.from_residual-in_err-last.ensures.1 (goes_then c.in_ok-open.ensures.goes (goes_right (sees_chosen _ (is_cast c.cast_type-found.ensures c.peek-word.ensures.word) (ap is_some c.in_default.is)) (goes_then c.in_ok-enclosed.ensures.goes (c.in_err-last.ensures.goes))))

pub parenthesized-returns-in_err-parens-clause-goes : goal.parenthesized-returns-in_err-parens-clause-goes
unfolding rule factored
parenthesized-returns-in_err-parens-clause-goes t c = at_exit c.from_residual-in_err-parens.result c.from_residual-in_err-parens.ensures.1 (goes_nowhere (in_parentheses) c.args.around (words_of c.args.tokens.now) c.args.at)

pub parenthesized-returns-in_default-clause-goes : goal.parenthesized-returns-in_default-clause-goes
unfolding rule factored
parenthesized-returns-in_default-clause-goes t c = goes_then c.in_ok-open.ensures.goes (goes_right (sees_chosen _ (is_cast c.cast_type-found.ensures c.peek-word.ensures.word) (ap is_some c.in_default.is)) (goes_then c.in_ok-enclosed.ensures.goes (c.in_ok-last.ensures.goes)))

pub parenthesized-returns-in_default-clause-tree : goal.parenthesized-returns-in_default-clause-tree
unfolding rule factored
parenthesized-returns-in_default-clause-tree t c = as_tree c.in_ok-parens.ensures (ReadsTree.primary (ReadsTree.parentheses c.in_ok-open.ensures.tree c.in_ok-enclosed.ensures.tree c.in_ok-last.ensures.tree))

pub parenthesized-returns-in_err-to-clause-goes : goal.parenthesized-returns-in_err-to-clause-goes
unfolding rule factored
parenthesized-returns-in_err-to-clause-goes t c = at_exit c.from_residual-in_err-to.result c.from_residual-in_err-to.ensures.1 (goes_then c.in_ok-open.ensures.goes (goes_left (sees_chosen _ (is_cast (sym c.in-Some.is ∙ c.cast_type-found.ensures) c.peek-word.ensures.word) refl) (goes_first (c.in_err-to.ensures.goes _ (is_cast (sym c.in-Some.is ∙ c.cast_type-found.ensures) c.peek-word.ensures.word)))))

pub parenthesized-returns-in_err-close-clause-goes : goal.parenthesized-returns-in_err-close-clause-goes
unfolding rule factored
parenthesized-returns-in_err-close-clause-goes t c = at_exit c.from_residual-in_err-close.result c.from_residual-in_err-close.ensures.1 (goes_then c.in_ok-open.ensures.goes (goes_left (sees_chosen _ (is_cast (sym c.in-Some.is ∙ c.cast_type-found.ensures) c.peek-word.ensures.word) refl) (goes_then (c.in_ok-to.ensures.goes _ (is_cast (sym c.in-Some.is ∙ c.cast_type-found.ensures) c.peek-word.ensures.word)) (goes_first c.in_err-close.ensures.goes))))

pub parenthesized-returns-in_err-inner-clause-goes : goal.parenthesized-returns-in_err-inner-clause-goes
unfolding rule factored
parenthesized-returns-in_err-inner-clause-goes t c = at_exit c.from_residual-in_err-inner.result c.from_residual-in_err-inner.ensures.1 (goes_then c.in_ok-open.ensures.goes (goes_left (sees_chosen _ (is_cast (sym c.in-Some.is ∙ c.cast_type-found.ensures) c.peek-word.ensures.word) refl) (goes_then (c.in_ok-to.ensures.goes _ (is_cast (sym c.in-Some.is ∙ c.cast_type-found.ensures) c.peek-word.ensures.word)) (goes_then c.in_ok-close.ensures.goes (c.in_err-inner.ensures.goes)))))

pub parenthesized-returns-in_err-cast-clause-goes : goal.parenthesized-returns-in_err-cast-clause-goes
unfolding rule factored
parenthesized-returns-in_err-cast-clause-goes t c = at_exit c.from_residual-in_err-cast.result c.from_residual-in_err-cast.ensures.1 (goes_nowhere (in_parentheses) c.args.around (words_of c.args.tokens.now) c.args.at)

pub parenthesized-returns-clause-goes : goal.parenthesized-returns-clause-goes
unfolding rule factored
parenthesized-returns-clause-goes t c = goes_then c.in_ok-open.ensures.goes (goes_left (sees_chosen _ (is_cast (sym c.in-Some.is ∙ c.cast_type-found.ensures) c.peek-word.ensures.word) refl) (goes_then (c.in_ok-to.ensures.goes _ (is_cast (sym c.in-Some.is ∙ c.cast_type-found.ensures) c.peek-word.ensures.word)) (goes_then c.in_ok-close.ensures.goes (c.in_ok-inner.ensures.goes))))

pub parenthesized-returns-clause-tree : goal.parenthesized-returns-clause-tree
unfolding rule factored
parenthesized-returns-clause-tree t c = as_tree c.in_ok-cast.ensures (ReadsTree.cast c.in_ok-open.ensures.tree (c.in_ok-to.ensures.tree cast_type (sym c.in-Some.is ∙ c.cast_type-found.ensures ∙ ap (option_and_then cast_type) c.peek-word.ensures.word)) c.in_ok-close.ensures.tree c.in_ok-inner.ensures.tree)

pub reducing-returns-in_err-tested-clause-goes : goal.reducing-returns-in_err-tested-clause-goes
unfolding rule factored
reducing-returns-in_err-tested-clause-goes t c = at_exit c.from_residual.result c.from_residual.ensures.1 (goes_part Reduction (goes_right (sees_chosen _ (is_value c.value_reduction-valued.ensures c.peek-word.ensures.word) (ap is_some c.in_default.is)) (c.in_err-tested.ensures.goes)))

pub reducing-returns-in_default-clause-goes : goal.reducing-returns-in_default-clause-goes
unfolding rule factored
reducing-returns-in_default-clause-goes t c = goes_part Reduction (goes_right (sees_chosen _ (is_value c.value_reduction-valued.ensures c.peek-word.ensures.word) (ap is_some c.in_default.is)) (c.in_ok-tested.ensures.goes))

pub reducing-returns-in_err-sign-clause-goes : goal.reducing-returns-in_err-sign-clause-goes
unfolding rule factored
reducing-returns-in_err-sign-clause-goes t c = at_exit c.from_residual-in_err-sign.result c.from_residual-in_err-sign.ensures.1 (goes_part Reduction (goes_left (sees_chosen _ (is_value (sym c.in-Some.is ∙ c.value_reduction-valued.ensures) c.peek-word.ensures.word) refl) (goes_first (c.in_err-sign.ensures.goes _ (is_value (sym c.in-Some.is ∙ c.value_reduction-valued.ensures) c.peek-word.ensures.word)))))

pub reducing-returns-in_err-over-clause-goes : goal.reducing-returns-in_err-over-clause-goes
unfolding rule factored
reducing-returns-in_err-over-clause-goes t c = at_exit c.from_residual-in_err-over.result c.from_residual-in_err-over.ensures.1 (goes_part Reduction (goes_left (sees_chosen _ (is_value (sym c.in-Some.is ∙ c.value_reduction-valued.ensures) c.peek-word.ensures.word) refl) (goes_then (c.in_ok-sign.ensures.goes _ (is_value (sym c.in-Some.is ∙ c.value_reduction-valued.ensures) c.peek-word.ensures.word)) (goes_first c.in_err-over.ensures.goes))))

pub reducing-returns-in_err-body-clause-goes : goal.reducing-returns-in_err-body-clause-goes
unfolding rule factored
reducing-returns-in_err-body-clause-goes t c = at_exit c.from_residual-in_err-body.result c.from_residual-in_err-body.ensures.1 (goes_part Reduction (goes_left (sees_chosen _ (is_value (sym c.in-Some.is ∙ c.value_reduction-valued.ensures) c.peek-word.ensures.word) refl) (goes_then (c.in_ok-sign.ensures.goes _ (is_value (sym c.in-Some.is ∙ c.value_reduction-valued.ensures) c.peek-word.ensures.word)) (goes_then c.in_ok-over.ensures.goes (c.in_err-body.ensures.goes)))))

pub reducing-returns-in_err-reduced-clause-goes : goal.reducing-returns-in_err-reduced-clause-goes
unfolding rule factored
reducing-returns-in_err-reduced-clause-goes t c = at_exit c.from_residual-in_err-reduced.result c.from_residual-in_err-reduced.ensures.1 (goes_nowhere (Of Reduction) c.args.around (words_of c.args.tokens.now) c.args.at)

pub reducing-returns-clause-goes : goal.reducing-returns-clause-goes
unfolding rule factored
reducing-returns-clause-goes t c = goes_part Reduction (goes_left (sees_chosen _ (is_value (sym c.in-Some.is ∙ c.value_reduction-valued.ensures) c.peek-word.ensures.word) refl) (goes_then (c.in_ok-sign.ensures.goes _ (is_value (sym c.in-Some.is ∙ c.value_reduction-valued.ensures) c.peek-word.ensures.word)) (goes_then c.in_ok-over.ensures.goes (c.in_ok-body.ensures.goes))))

pub reducing-returns-clause-tree : goal.reducing-returns-clause-tree
unfolding rule factored
reducing-returns-clause-tree t c = as_tree c.in_ok-reduced.ensures (ReadsTree.reduction (c.in_ok-sign.ensures.tree value_reduction (sym c.in-Some.is ∙ c.value_reduction-valued.ensures ∙ ap (option_and_then value_reduction) c.peek-word.ensures.word)) c.in_ok-over.ensures.tree c.in_ok-body.ensures.tree)

pub testing-returns-in_err-sign-clause-goes : goal.testing-returns-in_err-sign-clause-goes
unfolding rule factored
testing-returns-in_err-sign-clause-goes t c = at_exit c.from_residual.result c.from_residual.ensures.1 (goes_first (c.in_err-sign.ensures.goes _ (is_test c.test_reduction-found.ensures c.peek-word.ensures.word)))

pub testing-returns-in_err-over-clause-goes : goal.testing-returns-in_err-over-clause-goes
unfolding rule factored
testing-returns-in_err-over-clause-goes t c = at_exit c.from_residual-in_err-over.result c.from_residual-in_err-over.ensures.1 (goes_then (c.in_ok-sign.ensures.goes _ (is_test c.test_reduction-found.ensures c.peek-word.ensures.word)) (goes_first c.in_err-over.ensures.goes))

pub testing-returns-in_err-bare-clause-goes : goal.testing-returns-in_err-bare-clause-goes
unfolding rule factored
testing-returns-in_err-bare-clause-goes t c = at_exit c.from_residual-in_err-bare.result c.from_residual-in_err-bare.ensures.1 (goes_nowhere (test_sign ▸ Of Head ▸ Maybe (Of Braces)) c.args.around (words_of c.args.tokens.now) c.args.at)

pub testing-returns-then-not-next_is-clause-goes : goal.testing-returns-then-not-next_is-clause-goes
unfolding rule factored
testing-returns-then-not-next_is-clause-goes t c = goes_then (c.in_ok-sign.ensures.goes _ (is_test c.test_reduction-found.ensures c.peek-word.ensures.word)) (goes_then c.in_ok-over.ensures.goes (goes_absent (sees_braces c.next_is.ensures c.if-not-next_is.true)))

pub testing-returns-then-not-next_is-clause-tree : goal.testing-returns-then-not-next_is-clause-tree
unfolding rule factored
testing-returns-then-not-next_is-clause-tree t c = as_tree c.in_ok-bare.ensures (ReadsTree.bare_test (c.in_ok-sign.ensures.tree test_reduction (c.test_reduction-found.ensures ∙ ap (option_and_then test_reduction) c.peek-word.ensures.word)) c.in_ok-over.ensures.tree)

pub testing-returns-in_err-body-clause-goes : goal.testing-returns-in_err-body-clause-goes
unfolding rule factored
testing-returns-in_err-body-clause-goes t c = at_exit c.from_residual-in_err-body.result c.from_residual-in_err-body.ensures.1 (goes_then (c.in_ok-sign.ensures.goes _ (is_test c.test_reduction-found.ensures c.peek-word.ensures.word)) (goes_then c.in_ok-over.ensures.goes (goes_present (sees_braces c.next_is.ensures c.if-not-next_is.false) (c.in_err-body.ensures.goes))))

pub testing-returns-in_err-tested-clause-goes : goal.testing-returns-in_err-tested-clause-goes
unfolding rule factored
testing-returns-in_err-tested-clause-goes t c = at_exit c.from_residual-in_err-tested.result c.from_residual-in_err-tested.ensures.1 (goes_nowhere (test_sign ▸ Of Head ▸ Maybe (Of Braces)) c.args.around (words_of c.args.tokens.now) c.args.at)

pub testing-returns-clause-goes : goal.testing-returns-clause-goes
unfolding rule factored
testing-returns-clause-goes t c = goes_then (c.in_ok-sign.ensures.goes _ (is_test c.test_reduction-found.ensures c.peek-word.ensures.word)) (goes_then c.in_ok-over.ensures.goes (goes_present (sees_braces c.next_is.ensures c.if-not-next_is.false) (c.in_ok-body.ensures.goes)))

pub testing-returns-clause-tree : goal.testing-returns-clause-tree
unfolding rule factored
testing-returns-clause-tree t c = as_tree c.in_ok-tested.ensures (ReadsTree.test (c.in_ok-sign.ensures.tree test_reduction (c.test_reduction-found.ensures ∙ ap (option_and_then test_reduction) c.peek-word.ensures.word)) c.in_ok-over.ensures.tree c.in_ok-body.ensures.tree)

pub braces-returns-in_err-open-clause-goes : goal.braces-returns-in_err-open-clause-goes
unfolding rule factored
braces-returns-in_err-open-clause-goes t c = at_exit c.from_residual.result c.from_residual.ensures.1 (goes_part Braces (goes_first c.in_err-open.ensures.goes))

pub braces-returns-in_err-value-clause-goes : goal.braces-returns-in_err-value-clause-goes
unfolding rule factored
braces-returns-in_err-value-clause-goes t c = at_exit c.from_residual-in_err-value.result c.from_residual-in_err-value.ensures.1 (goes_part Braces (goes_then c.in_ok-open.ensures.goes (goes_first c.in_err-value.ensures.goes)))

pub braces-returns-in_err-close-clause-goes : goal.braces-returns-in_err-close-clause-goes
unfolding rule factored
braces-returns-in_err-close-clause-goes t c = at_exit c.from_residual-in_err-close.result c.from_residual-in_err-close.ensures.1 (goes_part Braces (goes_then c.in_ok-open.ensures.goes (goes_then c.in_ok-value.ensures.goes (c.in_err-close.ensures.goes))))

pub braces-returns-clause-goes : goal.braces-returns-clause-goes
unfolding rule factored
braces-returns-clause-goes t c = goes_part Braces (goes_then c.in_ok-open.ensures.goes (goes_then c.in_ok-value.ensures.goes (c.in_ok-close.ensures.goes)))

pub braces-returns-clause-tree : goal.braces-returns-clause-tree
unfolding rule factored
braces-returns-clause-tree t c = ReadsBraces.braces c.in_ok-open.ensures.tree c.in_ok-value.ensures.tree c.in_ok-close.ensures.tree

pub condition-returns-in_err-open-clause-goes : goal.condition-returns-in_err-open-clause-goes
unfolding rule factored
condition-returns-in_err-open-clause-goes t c = at_exit c.from_residual.result c.from_residual.ensures.1 (goes_part Condition (goes_first c.in_err-open.ensures.goes))

pub condition-returns-in_err-test-clause-goes : goal.condition-returns-in_err-test-clause-goes
unfolding rule factored
condition-returns-in_err-test-clause-goes t c = at_exit c.from_residual-in_err-test.result c.from_residual-in_err-test.ensures.1 (goes_part Condition (goes_then c.in_ok-open.ensures.goes (goes_first c.in_err-test.ensures.goes)))

pub condition-returns-in_err-close-clause-goes : goal.condition-returns-in_err-close-clause-goes
unfolding rule factored
condition-returns-in_err-close-clause-goes t c = at_exit c.from_residual-in_err-close.result c.from_residual-in_err-close.ensures.1 (goes_part Condition (goes_then c.in_ok-open.ensures.goes (goes_then c.in_ok-test.ensures.goes (c.in_err-close.ensures.goes))))

pub condition-returns-clause-goes : goal.condition-returns-clause-goes
unfolding rule factored
condition-returns-clause-goes t c = goes_part Condition (goes_then c.in_ok-open.ensures.goes (goes_then c.in_ok-test.ensures.goes (c.in_ok-close.ensures.goes)))

pub condition-returns-clause-tree : goal.condition-returns-clause-tree
unfolding rule factored
condition-returns-clause-tree t c = ReadsCondition.condition c.in_ok-open.ensures.tree c.in_ok-test.ensures.tree c.in_ok-close.ensures.tree

pub head-returns-in_err-open-clause-goes : goal.head-returns-in_err-open-clause-goes
unfolding rule factored
head-returns-in_err-open-clause-goes t c = at_exit c.from_residual.result c.from_residual.ensures.1 (goes_part Head (goes_first c.in_err-open.ensures.goes))

pub head-returns-in_err-iterator-clause-goes : goal.head-returns-in_err-iterator-clause-goes
unfolding rule factored
head-returns-in_err-iterator-clause-goes t c = at_exit c.from_residual-in_err-iterator.result c.from_residual-in_err-iterator.ensures.1 (goes_part Head (goes_then c.in_ok-open.ensures.goes (goes_first c.in_err-iterator.ensures.goes)))

pub head-returns-in_err-colon-clause-goes : goal.head-returns-in_err-colon-clause-goes
unfolding rule factored
head-returns-in_err-colon-clause-goes t c = at_exit c.from_residual-in_err-colon.result c.from_residual-in_err-colon.ensures.1 (goes_part Head (goes_then c.in_ok-open.ensures.goes (goes_then c.in_ok-iterator.ensures.goes (goes_first c.in_err-colon.ensures.goes))))

pub head-returns-in_err-over-clause-goes : goal.head-returns-in_err-over-clause-goes
unfolding rule factored
head-returns-in_err-over-clause-goes t c = at_exit c.from_residual-in_err-over.result c.from_residual-in_err-over.ensures.1 (goes_part Head (goes_then c.in_ok-open.ensures.goes (goes_then c.in_ok-iterator.ensures.goes (goes_then c.in_ok-colon.ensures.goes (goes_first c.in_err-over.ensures.goes)))))

pub head-returns-in_err-close-clause-goes : goal.head-returns-in_err-close-clause-goes
unfolding rule factored
head-returns-in_err-close-clause-goes t c = at_exit c.from_residual-in_err-close.result c.from_residual-in_err-close.ensures.1 (goes_part Head (goes_then c.in_ok-open.ensures.goes (goes_then c.in_ok-iterator.ensures.goes (goes_then c.in_ok-colon.ensures.goes (goes_then c.in_ok-over.ensures.goes (goes_first c.in_err-close.ensures.goes))))))

pub head-returns-then-not-next_is-clause-goes : goal.head-returns-then-not-next_is-clause-goes
unfolding rule factored
head-returns-then-not-next_is-clause-goes t c = goes_part Head (goes_then c.in_ok-open.ensures.goes (goes_then c.in_ok-iterator.ensures.goes (goes_then c.in_ok-colon.ensures.goes (goes_then c.in_ok-over.ensures.goes (goes_then c.in_ok-close.ensures.goes (goes_absent (sees_condition c.next_is.ensures c.if-not-next_is.true)))))))

pub head-returns-then-not-next_is-clause-tree : goal.head-returns-then-not-next_is-clause-tree
unfolding rule factored
head-returns-then-not-next_is-clause-tree t c = ReadsHead.head c.in_ok-open.ensures.tree c.in_ok-iterator.ensures.tree c.in_ok-colon.ensures.tree c.in_ok-over.ensures.tree c.in_ok-close.ensures.tree ReadsFilter.absent

pub head-returns-in_err-filter-clause-goes : goal.head-returns-in_err-filter-clause-goes
unfolding rule factored
head-returns-in_err-filter-clause-goes t c = at_exit c.from_residual-in_err-filter.result c.from_residual-in_err-filter.ensures.1 (goes_part Head (goes_then c.in_ok-open.ensures.goes (goes_then c.in_ok-iterator.ensures.goes (goes_then c.in_ok-colon.ensures.goes (goes_then c.in_ok-over.ensures.goes (goes_then c.in_ok-close.ensures.goes (goes_present (sees_condition c.next_is.ensures c.if-not-next_is.false) (c.in_err-filter.ensures.goes))))))))

pub head-returns-clause-goes : goal.head-returns-clause-goes
unfolding rule factored
head-returns-clause-goes t c = goes_part Head (goes_then c.in_ok-open.ensures.goes (goes_then c.in_ok-iterator.ensures.goes (goes_then c.in_ok-colon.ensures.goes (goes_then c.in_ok-over.ensures.goes (goes_then c.in_ok-close.ensures.goes (goes_present (sees_condition c.next_is.ensures c.if-not-next_is.false) (c.in_ok-filter.ensures.goes)))))))

pub head-returns-clause-tree : goal.head-returns-clause-tree
unfolding rule factored
head-returns-clause-tree t c = ReadsHead.head c.in_ok-open.ensures.tree c.in_ok-iterator.ensures.tree c.in_ok-colon.ensures.tree c.in_ok-over.ensures.tree c.in_ok-close.ensures.tree (ReadsFilter.present c.in_ok-filter.ensures.tree)

pub expression-returns-in_err-first-clause-goes : goal.expression-returns-in_err-first-clause-goes
unfolding rule factored
expression-returns-in_err-first-clause-goes t c = at_exit c.from_residual.result c.from_residual.ensures.1 (goes_part Expression (goes_within InExpression (as_around c.in_expression-within.ensures (goes_first c.in_err-first.ensures.goes) (λ a r h. h))))

pub expression-returns-in_err-whole-clause-goes : goal.expression-returns-in_err-whole-clause-goes
unfolding rule factored
expression-returns-in_err-whole-clause-goes t c = at_exit c.from_residual-in_err-whole.result c.from_residual-in_err-whole.ensures.1 (goes_part Expression (goes_within InExpression (as_around c.in_expression-within.ensures (goes_then c.in_ok-first.ensures.goes c.in_err-whole.ensures.goes) (λ a r h. h))))

pub expression-returns-clause-goes : goal.expression-returns-clause-goes
unfolding rule factored
expression-returns-clause-goes t c = goes_part Expression (goes_within InExpression (as_around c.in_expression-within.ensures (goes_then c.in_ok-first.ensures.goes c.in_ok-whole.ensures.goes) (λ a r h. h)))

pub expression-returns-clause-tree : goal.expression-returns-clause-tree
unfolding rule factored
expression-returns-clause-tree t c = c.in_ok-whole.ensures.tree _ c.in_ok-first.ensures.tree

pub from_operand-returns-in_err-product-clause-goes : goal.from_operand-returns-in_err-product-clause-goes
unfolding rule factored
from_operand-returns-in_err-product-clause-goes t c = at_exit c.from_residual.result c.from_residual.ensures.1 (goes_first c.in_err-product.ensures.goes)

pub from_operand-returns-in_err-sum-clause-goes : goal.from_operand-returns-in_err-sum-clause-goes
unfolding rule factored
from_operand-returns-in_err-sum-clause-goes t c = at_exit c.from_residual-in_err-sum.result c.from_residual-in_err-sum.ensures.1 (goes_then c.in_ok-product.ensures.goes (goes_first c.in_err-sum.ensures.goes))

pub from_operand-returns-in_err-relation-clause-goes : goal.from_operand-returns-in_err-relation-clause-goes
unfolding rule factored
from_operand-returns-in_err-relation-clause-goes t c = at_exit c.from_residual-in_err-relation.result c.from_residual-in_err-relation.ensures.1 (goes_then c.in_ok-product.ensures.goes (goes_then c.in_ok-sum.ensures.goes (goes_first c.in_err-relation.ensures.goes)))

pub from_operand-returns-in_err-whole-clause-goes : goal.from_operand-returns-in_err-whole-clause-goes
unfolding rule factored
from_operand-returns-in_err-whole-clause-goes t c = at_exit c.from_residual-in_err-whole.result c.from_residual-in_err-whole.ensures.1 (goes_then c.in_ok-product.ensures.goes (goes_then c.in_ok-sum.ensures.goes (goes_then c.in_ok-relation.ensures.goes (c.in_err-whole.ensures.goes))))

pub from_operand-returns-clause-goes : goal.from_operand-returns-clause-goes
unfolding rule factored
from_operand-returns-clause-goes t c = goes_then c.in_ok-product.ensures.goes (goes_then c.in_ok-sum.ensures.goes (goes_then c.in_ok-relation.ensures.goes (c.in_ok-whole.ensures.goes)))

pub from_operand-returns-clause-tree : goal.from_operand-returns-clause-tree
unfolding rule factored
from_operand-returns-clause-tree t c = λ us h. c.in_ok-whole.ensures.tree _ (c.in_ok-relation.ensures.tree _ (c.in_ok-sum.ensures.tree _ (c.in_ok-product.ensures.tree _ h)))

pub from_relation-returns-in_err-equality-clause-goes : goal.from_relation-returns-in_err-equality-clause-goes
unfolding rule factored
from_relation-returns-in_err-equality-clause-goes t c = at_exit c.from_residual.result c.from_residual.ensures.1 (goes_first c.in_err-equality.ensures.goes)

pub from_relation-returns-in_err-both-clause-goes : goal.from_relation-returns-in_err-both-clause-goes
unfolding rule factored
from_relation-returns-in_err-both-clause-goes t c = at_exit c.from_residual-in_err-both.result c.from_residual-in_err-both.ensures.1 (goes_then c.in_ok-equality.ensures.goes (goes_first c.in_err-both.ensures.goes))

pub from_relation-returns-in_err-either-clause-goes : goal.from_relation-returns-in_err-either-clause-goes
unfolding rule factored
from_relation-returns-in_err-either-clause-goes t c = at_exit c.from_residual-in_err-either.result c.from_residual-in_err-either.ensures.1 (goes_then c.in_ok-equality.ensures.goes (goes_then c.in_ok-both.ensures.goes (goes_first c.in_err-either.ensures.goes)))

pub from_relation-returns-in_err-whole-clause-goes : goal.from_relation-returns-in_err-whole-clause-goes
unfolding rule factored
from_relation-returns-in_err-whole-clause-goes t c = at_exit c.from_residual-in_err-whole.result c.from_residual-in_err-whole.ensures.1 (goes_then c.in_ok-equality.ensures.goes (goes_then c.in_ok-both.ensures.goes (goes_then c.in_ok-either.ensures.goes (c.in_err-whole.ensures.goes))))

pub from_relation-returns-clause-goes : goal.from_relation-returns-clause-goes
unfolding rule factored
from_relation-returns-clause-goes t c = goes_then c.in_ok-equality.ensures.goes (goes_then c.in_ok-both.ensures.goes (goes_then c.in_ok-either.ensures.goes (c.in_ok-whole.ensures.goes)))

pub from_relation-returns-clause-tree : goal.from_relation-returns-clause-tree
unfolding rule factored
from_relation-returns-clause-tree t c = λ us h. c.in_ok-whole.ensures.tree _ (c.in_ok-either.ensures.tree _ (c.in_ok-both.ensures.tree _ (c.in_ok-equality.ensures.tree _ h)))

pub from_test-returns-then-not-next_is-clause-goes : goal.from_test-returns-then-not-next_is-clause-goes
unfolding rule factored
from_test-returns-then-not-next_is-clause-goes t c = goes_absent (sees_then c.next_is.ensures c.if-not-next_is.true)

pub from_test-returns-then-not-next_is-clause-tree : goal.from_test-returns-then-not-next_is-clause-tree
unfolding rule factored
from_test-returns-then-not-next_is-clause-tree t c = λ us h. ReadsTree.no_choice h

pub from_test-returns-in_err-values-clause-goes : goal.from_test-returns-in_err-values-clause-goes
unfolding rule factored
from_test-returns-in_err-values-clause-goes t c = at_exit c.from_residual.result c.from_residual.ensures.1 (goes_present (sees_then c.next_is.ensures c.if-not-next_is.false) c.in_err-values.ensures.goes)

pub from_test-returns-in_err-choice-clause-goes : goal.from_test-returns-in_err-choice-clause-goes
unfolding rule factored
from_test-returns-in_err-choice-clause-goes t c = at_exit c.from_residual-in_err-choice.result c.from_residual-in_err-choice.ensures.1 (goes_nowhere (Maybe a_choice) c.args.around (words_of c.args.tokens.now) c.args.at)

pub from_test-returns-clause-goes : goal.from_test-returns-clause-goes
unfolding rule factored
from_test-returns-clause-goes t c = goes_present (sees_then c.next_is.ensures c.if-not-next_is.false) c.in_ok-values.ensures.goes

pub from_test-returns-clause-tree : goal.from_test-returns-clause-tree
unfolding rule factored
from_test-returns-clause-tree t c = λ us h. as_tree c.in_ok-choice.ensures (c.in_ok-values.ensures.tree _ _ h)

pub choice_values-returns-in_err-question-clause-goes : goal.choice_values-returns-in_err-question-clause-goes
unfolding rule factored
choice_values-returns-in_err-question-clause-goes t c = at_exit c.from_residual.result c.from_residual.ensures.1 (goes_first c.in_err-question.ensures.goes)

pub choice_values-returns-in_err-yes-clause-goes : goal.choice_values-returns-in_err-yes-clause-goes
unfolding rule factored
choice_values-returns-in_err-yes-clause-goes t c = at_exit c.from_residual-in_err-yes.result c.from_residual-in_err-yes.ensures.1 (goes_then c.in_ok-question.ensures.goes (goes_first c.in_err-yes.ensures.goes))

pub choice_values-returns-in_err-colon-clause-goes : goal.choice_values-returns-in_err-colon-clause-goes
unfolding rule factored
choice_values-returns-in_err-colon-clause-goes t c = at_exit c.from_residual-in_err-colon.result c.from_residual-in_err-colon.ensures.1 (goes_then c.in_ok-question.ensures.goes (goes_then c.in_ok-yes.ensures.goes (goes_first c.in_err-colon.ensures.goes)))

pub choice_values-returns-in_err-no-clause-goes : goal.choice_values-returns-in_err-no-clause-goes
unfolding rule factored
choice_values-returns-in_err-no-clause-goes t c = at_exit c.from_residual-in_err-no.result c.from_residual-in_err-no.ensures.1 (goes_then c.in_ok-question.ensures.goes (goes_then c.in_ok-yes.ensures.goes (goes_then c.in_ok-colon.ensures.goes (c.in_err-no.ensures.goes))))

pub choice_values-returns-clause-goes : goal.choice_values-returns-clause-goes
unfolding rule factored
choice_values-returns-clause-goes t c = goes_then c.in_ok-question.ensures.goes (goes_then c.in_ok-yes.ensures.goes (goes_then c.in_ok-colon.ensures.goes (c.in_ok-no.ensures.goes)))

pub choice_values-returns-clause-tree : goal.choice_values-returns-clause-tree
unfolding rule factored
choice_values-returns-clause-tree t c = λ us e h. ReadsTree.choice h c.in_ok-question.ensures.tree c.in_ok-yes.ensures.tree c.in_ok-colon.ensures.tree c.in_ok-no.ensures.tree
