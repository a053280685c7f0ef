use Rattle.std.proofs.Common.{◌+◌, ◌*◌}
use Rattle.gm_image_text.proofs.expressions.+expressions.Given as goal

abbrev pub decreases-read_one : goal.decreases-read_one
decreases-read_one l = 3 * l.levels + 1

abbrev pub decreases-read_placed_one : goal.decreases-read_placed_one
decreases-read_placed_one l = 3 * l.levels + 1

abbrev pub decreases-read_two : goal.decreases-read_two
decreases-read_two l = 3 * l.levels + 1

abbrev pub decreases-read_placed_two : goal.decreases-read_placed_two
decreases-read_placed_two l = 3 * l.levels + 1

abbrev pub decreases-read_choice : goal.decreases-read_choice
decreases-read_choice l = 3 * l.levels + 1

abbrev pub decreases-behind_head : goal.decreases-behind_head
decreases-behind_head l = 3 * l.levels + 2

abbrev pub decreases-expression : goal.decreases-expression
decreases-expression l = 3 * l.levels
