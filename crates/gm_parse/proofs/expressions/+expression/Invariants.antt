use Rattle.std.proofs.Common.{◌+◌, ◌-◌, ◌*◌, length}
use Rattle.gm_parse.proofs.Ranks.{rank, RowSoFar}
use Rattle.gm_parse.proofs.expressions.+expression.Given as goal

abbrev pub decreases-braces : goal.decreases-braces
decreases-braces l = 32 * (length l.tokens.now.tokens - l.at) + 2

abbrev pub decreases-condition : goal.decreases-condition
decreases-condition l = 32 * (length l.tokens.now.tokens - l.at) + 2

abbrev pub decreases-expression : goal.decreases-expression
decreases-expression l = 32 * (length l.tokens.now.tokens - l.at) + 20

abbrev pub decreases-from_operand : goal.decreases-from_operand
decreases-from_operand l = 32 * (length l.tokens.now.tokens - l.at) + 4

abbrev pub decreases-from_relation : goal.decreases-from_relation
decreases-from_relation l = 32 * (length l.tokens.now.tokens - l.at) + 3

abbrev pub decreases-from_test : goal.decreases-from_test
decreases-from_test l = 32 * (length l.tokens.now.tokens - l.at) + 2

abbrev pub decreases-choice_values : goal.decreases-choice_values
decreases-choice_values l = 32 * (length l.tokens.now.tokens - l.at) + 1

abbrev pub decreases-head : goal.decreases-head
decreases-head l = 32 * (length l.tokens.now.tokens - l.at) + 3

abbrev pub decreases-operand : goal.decreases-operand
decreases-operand l = 32 * (length l.tokens.now.tokens - l.at) + rank l.level

abbrev pub decreases-parenthesized : goal.decreases-parenthesized
decreases-parenthesized l = 32 * (length l.tokens.now.tokens - l.at) + 5

abbrev pub decreases-reducing : goal.decreases-reducing
decreases-reducing l = 32 * (length l.tokens.now.tokens - l.at) + 5

abbrev pub decreases-testing : goal.decreases-testing
decreases-testing l = 32 * (length l.tokens.now.tokens - l.at) + 4

abbrev pub decreases-relation_rest : goal.decreases-relation_rest
decreases-relation_rest l = 32 * (length l.tokens.now.tokens - l.at) + 1

abbrev pub decreases-row_rest : goal.decreases-row_rest
decreases-row_rest l = 32 * (length l.tokens.now.tokens - l.at) + 1

abbrev pub decreases-unary : goal.decreases-unary
decreases-unary l = 32 * (length l.tokens.now.tokens - l.at) + 6

abbrev pub invariant-row_rest-row : goal.invariant-row_rest-row
invariant-row_rest-row l = RowSoFar l.level l.around l.tokens l.at l.after l.fn.first l.left

abbrev pub decreases-row_rest-row : goal.decreases-row_rest-row
decreases-row_rest-row l = length l.tokens.tokens - l.after
